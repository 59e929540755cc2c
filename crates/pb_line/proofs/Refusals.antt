-- From clap's faults to those that a program may have.
use Rattle.std.proofs.Common.{List, inl, inr, ◌≡◌}
use Rattle.std.specs.Prelude.{Err, IfErr, Ok, Result}
use Rattle.std.specs.Result.{IsErr, IsErrAnd}
use Rattle.clap.proofs.KindLemmas.{fails_by_from}
use Rattle.clap.specs.Words.{App, FailsBy, HasKind, Row, Text, fault_of, kind_of}
use Rattle.clap.specs.declared.error.Error.{Error}
use Rattle.pb_line.specs.Ends.{MayFailBy}

module _ {T : Type 0} (app : App) (HasNoLine : List Row → Type 0) (words : List Text) where
  -- what clap refuses may be refused
  refused_by_clap : (r : Result T Error) → FailsBy (fault_of app words) r → IfErr r (λ e. MayFailBy app HasNoLine words (kind_of e))
  refused_by_clap (Ok _) fails = tt
  refused_by_clap (Err e) fails = elim fails [
    | inl memory ↦ inl memory
    | inr kinds ↦ inr (inl kinds)
  ]

  -- a fault of clap's that is passed on
  pub refused_as_passed_on : (r : Result T Error) (fault : Error) → HasKind (fault_of app words) fault → IsErr r → IsErrAnd r (λ e. e ≡ fault) → IfErr r (λ e. MayFailBy app HasNoLine words (kind_of e))
  refused_as_passed_on r fault kinds fails same = refused_by_clap r (fails_by_from (fault_of app words) r fault kinds fails same)

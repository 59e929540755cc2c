use Rattle.std.proofs.Common.{◌≡◌, ◌∙◌, ◌≤◌, ◌⊎◌, ℕ, Bor, List, [], arith, inl, inr, map, refl, subst, sym}
use Rattle.clap.specs.Words.{App, IsAmong, Row, Text, fault_of}
use Rattle.clap.specs.declared.error.kind.ErrorKind.{ErrorKind}
use Rattle.clap.specs.declared.error.kind.ErrorKind.TheVariants.{DisplayHelp, DisplayVersion, InvalidValue, OutOfMemory}
use Rattle.pb_line.specs.Ends.{IsShown, MayFailBy}
use Rattle.pb_line.specs.Joining.{HasNoLine, pbcube_join}
use Rattle.pb_report.specs.Statuses.{exit_status}
use Rattle.pb_report.specs.declared.statuses.Status.{Status}
use Rattle.pb_report.specs.declared.statuses.Status.TheVariants.{Optimum, Satisfiable, Unknown, Unsatisfiable, Unsupported}
use Rattle.pbcube_join.proofs.run.program.Goals as goal

-- where clap has no fault in the words, nothing is shown
not_shown : (app : App) (HasNoLine : List Row → Type 0) (words : List Text) (kind : ErrorKind) → MayFailBy app HasNoLine words kind → fault_of app words ≡ [] → IsShown kind → ⊥
not_shown app HasNoLine words kind fails accepted shown = elim fails [
  | inl memory ↦ elim shown [
    | inl help ↦ let bad : OutOfMemory ≡ DisplayHelp = sym memory ∙ help in cc
    | inr version ↦ let bad : OutOfMemory ≡ DisplayVersion = sym memory ∙ version in cc
  ]
  | inr rest ↦ elim rest [
    | inl among ↦ subst (IsAmong kind) accepted among
    | inr wrong ↦ elim shown [
      | inl help ↦ let bad : InvalidValue ≡ DisplayHelp = sym wrong.0 ∙ help in cc
      | inr version ↦ let bad : InvalidValue ≡ DisplayVersion = sym wrong.0 ∙ version in cc
    ]
  ]
]

-- no report ends with 1 or 2
of_report : (status : Status) → (exit_status status ≡ 0) ⊎ (10 ≤ exit_status status)
of_report Satisfiable = inr (omega arith)
of_report Unsatisfiable = inr (omega arith)
of_report Optimum = inr (omega arith)
of_report Unsupported = inl refl
of_report Unknown = inl refl

pub returns-in-Err-clause-unwritten : goal.returns-in-Err-clause-unwritten
returns-in-Err-clause-unwritten g c = λ accepted one. inl (c.end_without_run.ensures.kept (not_shown pbcube_join HasNoLine (map (λ (word : Bor (List ℕ)). word.now) c.args.words.now) _ c.in-Err.ensures.refused accepted))

pub returns-in-Ok-join_asked-clause-joined : goal.returns-in-Ok-join_asked-clause-joined
returns-in-Ok-join_asked-clause-joined g c = λ accepted. inr (inr (record {
  line = c.in-Ok.line;
  asked = c.in-Ok.ensures.line;
  told = c.in-Ok-join_asked.status;
  joins = c.in-Ok-join_asked.ensures.joins;
  ended = c.exit_status.ensures;
}))

pub returns-in-Ok-join_asked-clause-refused : goal.returns-in-Ok-join_asked-clause-refused
returns-in-Ok-join_asked-clause-refused g c = λ two. elim (of_report c.in-Ok-join_asked.status) [
  | inl zero ↦ absurd (omega (arith, zero, two, c.exit_status.ensures))
  | inr far ↦ absurd (omega (arith, far, two, c.exit_status.ensures))
]

pub returns-in-Ok-join_asked-clause-unwritten : goal.returns-in-Ok-join_asked-clause-unwritten
returns-in-Ok-join_asked-clause-unwritten g c = λ accepted one. elim (of_report c.in-Ok-join_asked.status) [
  | inl zero ↦ absurd (omega (arith, zero, one, c.exit_status.ensures))
  | inr far ↦ absurd (omega (arith, far, one, c.exit_status.ensures))
]

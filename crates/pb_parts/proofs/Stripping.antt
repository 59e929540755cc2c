-- What is left of a text.
use Rattle.std.proofs.Common.{◌≡◌, Option, Some, None, Result, subst, sym}
use Rattle.std.specs.Option.{MatchOption, ok_or}
use Rattle.std.specs.Result.{IfOk}

-- a value that there is, or else an error
pub ok_of : {X E : Type 0} (A : Type 0) (P : X → Type 0) (o : Option X) (e : E) (r : Result X E) → MatchOption o A P → r ≡ ok_or o e → IfOk r P
ok_of A P (Some x) e r h is = subst (λ v. IfOk v P) (sym is) h
ok_of A P None e r h is = subst (λ v. IfOk v P) (sym is) tt

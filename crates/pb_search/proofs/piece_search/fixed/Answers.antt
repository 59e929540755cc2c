use Rattle.std.proofs.Common.{◌≡◌, ◌≤◌, List, Bool, Option, sym, subst}
use Rattle.std.specs.Option.{IfSome}
use Rattle.std.proofs.lemmas.List.Elements.{All-nil}
use Rattle.pb_inst.specs.Literal.{Literal}
use Rattle.pb_inst.specs.Meaning.{literal_value}
use Rattle.pb_search.specs.Root.{IsFixedFor, Root}
use Rattle.pb_search.proofs.piece_search.fixed.Goals as goal

pub returns-in-None : goal.returns-in-None
returns-in-None c p held _ = record { variables = All-nil (λ (l : Literal). l.var ≤ p.vars); fixed = λ a h. All-nil (λ (l : Literal). literal_value a l ≡ 1); none_better = λ closed. absurd (let none : ⊥ = cc in none) }

pub returns-in-Some : goal.returns-in-Some
returns-in-Some c p held fixed =
    let there : IsFixedFor p c.in-Some.whole.literals c.in-Some.whole.closed held = subst (λ (o : Option Root). IfSome o (λ w. IsFixedFor p w.literals w.closed held)) c.in-Some.is fixed in
    subst (λ (ls : List Literal). IsFixedFor p ls c.is_closed.result held) (sym c.literals.ensures) (subst (λ (b : Bool). IsFixedFor p c.in-Some.whole.literals b held) (sym c.is_closed.ensures) there)

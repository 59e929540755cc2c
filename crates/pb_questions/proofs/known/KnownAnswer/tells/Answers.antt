use Rattle.std.proofs.Common.{rules, ◌≡◌, false, true}
use Rattle.pb_questions.specs.declared.known.Kind.TheVariants.{Infeasible}
use Rattle.pb_questions.proofs.KnownLemmas.{tells_more}
use Rattle.pb_questions.proofs.known.KnownAnswer.tells.Goals as goal
use Rattle.pb_questions.proofs.known.KnownAnswer.tells.Goals.{in-Open, in-Least, in-Infeasible}

pub returns-then-is_under : goal.returns-then-is_under
returns-then-is_under c p is =
    let known = c.args.self.now in
    tells_more p known.literals.items c.args.cube.now known.values known.kind (c.is_under.ensures (search rules))
    (λ least. elim c.match-self.branch [
      | in-Open w ↦ (let told : c.match-self.is_told ≡ true = c.if-is_told.true in let none : c.match-self.is_told ≡ false = w.is_told-is in absurd (let bad : ⊥ = cc in bad))
      | in-Least w ↦ w.meets-is_told.ensures (search rules)
      | in-Infeasible w ↦ (let other : known.kind ≡ Infeasible = w.in-Infeasible.is in absurd (let bad : ⊥ = cc in bad))
    ])
    is.tells

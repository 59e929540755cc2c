use Rattle.std.proofs.Common.{◌≡◌, ◌≢◌, ℕ, List, Vec, Global, Bool, true, false, refl, ap, sym, subst, ◌∙◌, length, get_or, arith, ◌+◌, ◌-◌, ◌<◌}
use mathlib.Core.Bool.{beq}
use Rattle.pb_inst.specs.Literal.{Literal}
use Rattle.pb_inst.specs.declared.literals.Lit.{Lit}
use Rattle.pb_normal.specs.Literals.{negation}
use Rattle.pb_normal.proofs.LiteralLemmas.{negation-is}
use Rattle.pb_rows.specs.Clauses.{IsClauseOf, clause_row}
use Rattle.pb_rows.proofs.NegatedLemmas.{IsClauseSoFar, so_far_push, so_far_stays, contradiction_found, clause_of_all}
use Rattle.pb_rows.proofs.negated.negated_by_variable.Goals as goal
use Rattle.pb_rows.proofs.negated.negated_by_variable.Goals.{in-None+in_ok-push-in-None, in-Some+else-sign-positive}

abbrev blank : Literal
blank = record { var = 1; positive = true }

same_signs : (a b : Bool) → beq a b ≡ true → a ≡ b
same_signs true true h = refl
same_signs true false h = absurd (let none : ⊥ = cc in none)
same_signs false true h = absurd (let none : ⊥ = cc in none)
same_signs false false h = refl

other_signs : (a b : Bool) → beq a b ≡ false → a ≢ b
other_signs true true h = absurd (let none : ⊥ = cc in none)
other_signs true false h = λ e. (let none : ⊥ = cc in none)
other_signs false true h = λ e. (let none : ⊥ = cc in none)
other_signs false false h = absurd (let none : ⊥ = cc in none)

-- the last literal as the code has read it
last_read : (deref clause : List Literal) (var : ℕ) (l : Literal) (sign : Bool) → deref ≡ clause → var ≡ l.var → (0 < length deref) × (get_or deref (length deref - 1) blank ≡ record { var = var; positive = sign }) → (0 < length clause) × (get_or clause (length clause - 1) blank ≡ record { var = l.var; positive = sign })
last_read deref clause var l sign same is h =
    let P : List Literal → Type 0 = λ ls. (0 < length ls) × (get_or ls (length ls - 1) blank ≡ record { var = var; positive = sign }) in
    let there : P clause = subst P same h in
    (there.0, there.1 ∙ ap (λ (v : ℕ). let x : Literal = record { var = v; positive = sign } in x) is)

other_read : (deref clause : List Literal) (var : ℕ) (l : Literal) → deref ≡ clause → var ≡ l.var → (0 < length deref → ¬ ((get_or deref (length deref - 1) blank).var ≡ var)) → 0 < length clause → (get_or clause (length clause - 1) blank).var ≢ l.var
other_read deref clause var l same is h =
    let P : List Literal → Type 0 = λ ls. 0 < length ls → ¬ ((get_or ls (length ls - 1) blank).var ≡ var) in
    let there : P clause = subst P same h in
    λ some e. there some (e ∙ sym is)

pub returns-then-sign-positive-clause-none : goal.returns-then-sign-positive-clause-none
returns-then-sign-positive-clause-none c = λ none.
    let l = c.lit-item.result in
    let clause = c.loop-lit.clause.items in
    let last = last_read c.deref.result.now clause c.var.result l c.in-Some.sign c.deref.ensures.value c.var.ensures.value (c.last_sign.ensures.some c.in-Some.sign c.in-Some.is) in
    contradiction_found c.args.cube.now clause c.loop-lit.lit-index l c.in-Some.sign c.loop-lit.invariant c.loop-lit-test.true c.lit-item.is last.0 last.1 (same_signs c.in-Some.sign c.positive.result c.if-sign-positive.true ∙ c.positive.ensures)

pub loop-lit-preserved : goal.loop-lit-preserved
loop-lit-preserved c =
    let l = c.lit-item.result in
    let clause = c.loop-lit.clause.items in
    let P : List Literal → Type 0 = λ ls. IsClauseSoFar c.args.cube.now (c.loop-lit.lit-index + 1) ls in
    elim c.match-last_sign.branch [
      | in-None+in_ok-push-in-None w ↦
          (let negated : w.negate.result ≡ negation l = negation-is l w.negate.result w.negate.ensures.same_variable w.negate.ensures.other_sign in
          let other = other_read c.deref.result.now clause c.var.result l c.deref.ensures.value c.var.ensures.value (c.last_sign.ensures.none w.in-None.is) in
          subst P (sym (ap (λ (v : Vec Lit Global). v.items) w.clause-is)) (so_far_push c.args.cube.now clause w.push.new.self.items c.loop-lit.lit-index l w.negate.result c.requires.sorted c.loop-lit.invariant c.loop-lit-test.true c.lit-item.is negated w.in_ok-push-in-None.ensures.items other))
      | in-Some+else-sign-positive w ↦
          (let last = last_read c.deref.result.now clause c.var.result l w.in-Some.sign c.deref.ensures.value c.var.ensures.value (c.last_sign.ensures.some w.in-Some.sign w.in-Some.is) in
          subst P (sym (ap (λ (v : Vec Lit Global). v.items) w.clause-is)) (so_far_stays c.args.cube.now clause c.loop-lit.lit-index l w.in-Some.sign c.loop-lit.invariant c.loop-lit-test.true c.lit-item.is last.0 last.1 (λ e. other_signs w.in-Some.sign w.positive.result w.if-sign-positive.false (e ∙ sym w.positive.ensures))))
    ]

pub returns-clause-some : goal.returns-clause-some
returns-clause-some c = λ lits is.
    let same : c.loop-lit.clause ≡ lits = cc in
    let whole = clause_of_all c.args.cube.now c.loop-lit.clause.items c.loop-lit.lit-index c.loop-lit.invariant (omega arith) in
    subst (λ (v : Vec Lit Global). IsClauseOf c.args.cube.now (clause_row v.items)) same whole

use Rattle.std.proofs.Common.{◌≡◌, ◌≤◌, ◌∙◌, ap, sym, subst, length, leb, IsTrue}
use Rattle.std.specs.Prelude.{sum_by}
use Rattle.std.proofs.lemmas.Bool.{leb-true, le-leb}
use Rattle.pb_write.specs.Pieces.{clauses_of}
use Rattle.pb_write.proofs.Counting.{unit_terms, negated_terms}
use Rattle.pb_write.proofs.counts.has_room_for_terms.Goals as goal

pub returns-in-Cube : goal.returns-in-Cube
returns-in-Cube c =
    let same : length c.lits.result.now ≡ sum_by length (clauses_of c.args.piece) = ap length c.lits.ensures ∙ sym (unit_terms c.in-Cube.cube.now) ∙ ap (λ p. sum_by length (clauses_of p)) (sym c.in-Cube.is) in
    subst (λ n. (IsTrue (leb (length c.lits.result.now) c.args.spare) → n ≤ c.args.spare) × (n ≤ c.args.spare → IsTrue (leb (length c.lits.result.now) c.args.spare))) same
    (λ t. leb-true (length c.lits.result.now) c.args.spare t, λ h. le-leb (length c.lits.result.now) c.args.spare h)

pub returns-in-Rest : goal.returns-in-Rest
returns-in-Rest c =
    let same : sum_by length c.in-Rest.cubes.now ≡ sum_by length (clauses_of c.args.piece) = sym (negated_terms c.in-Rest.cubes.now) ∙ ap (λ p. sum_by length (clauses_of p)) (sym c.in-Rest.is) in
    subst (λ n. (IsTrue c.has_literals_within.result → n ≤ c.args.spare) × (n ≤ c.args.spare → IsTrue c.has_literals_within.result)) same c.has_literals_within.ensures

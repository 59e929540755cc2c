use Rattle.std.proofs.Common.{◌≡◌, ℕ, ◌+◌, ◌-◌, ◌≤◌, List, [], take, ap, sym, subst, ◌∙◌, arith}
use Rattle.std.proofs.lemmas.Bool.{eqb-false}
use Rattle.std.proofs.lemmas.List.{take_all}
use Rattle.pb_inst.specs.Literal.{Literal}
use Rattle.pb_normal.specs.NormalForm.{MeetsRow}
use Rattle.pb_rows.specs.Constraints.{row_at}
use Rattle.pb_trail.specs.Trail.{reached}
use Rattle.pb_trail.specs.Completion.{IsCompletion}
use Rattle.pb_dual.specs.Saturation.{Saturation, counted_row, capped, saturation_of}
use Rattle.pb_dual.proofs.SaturationLemmas.{met-as-counted, reached-capped}
use Rattle.pb_dual.proofs.multipliers.Multipliers.saturate_row.Goals as goal

pub count-requires-clause-within : goal.count-requires-clause-within
count-requires-clause-within g c =
    let row = row_at c.args.self.now.form.rows c.args.row in
    let trail = c.args.self.now.trail in
    let apart = eqb-false c.left_of-most.result 0 (sym c.is_zero.ensures ∙ c.if-is_zero.false) in
    let some : 1 ≤ c.left_of-most.result = omega (arith, apart) in
    let left : c.left_of-most.result ≡ row.degree - reached trail row.terms = c.left_of-most.ensures in
    let counts = reached-capped trail c.left_of-most.result row.terms in
    record {
      some = some;
      clipped = omega (arith, c.degree_beside-degree.ensures);
      less = omega (arith, c.degree_beside-degree.ensures);
    }

pub count-requires-clause-met : goal.count-requires-clause-met
count-requires-clause-met g c = λ a completes.
    let now = c.args.self.now in
    let row = row_at now.form.rows c.args.row in
    let trail = now.trail in
    let all : take now.root trail ≡ trail = take_all now.root trail (omega (arith, c.requires.root)) in
    let whole : IsCompletion now.form.rows trail a = subst (λ (lits : List Literal). IsCompletion now.form.rows lits a) all completes in
    let met : MeetsRow a (counted_row (saturation_of trail row) row) = met-as-counted a trail row whole.makes_true (whole.meets_rows c.args.row (record { terms = []; degree = 0 }) c.requires.row) in
    let given : Saturation = record { most = c.left_of-most.result; degree = c.degree_beside-degree.result } in
    let same : given ≡ saturation_of trail row = ap (λ (n : ℕ). record { most = c.left_of-most.result; degree = n }) c.degree_beside-degree.ensures ∙ ap (λ (n : ℕ). record { most = n; degree = n + reached trail (capped n row.terms) }) c.left_of-most.ensures in
    subst (λ (k : Saturation). MeetsRow a (counted_row k row)) (sym same) met

use Rattle.std.proofs.Common.{◌∙◌, sym, ap, arith, rules, List, Some, FitsSigned, slice_get, to_z, of_z}
use Rattle.std.proofs.lemmas.Int.{to_z-of_z}
use Rattle.std.proofs.lemmas.Option.{get_or_from_slice_get}
use Rattle.pb_inst.specs.declared.constraints.Term.{Term}
use Rattle.pb_inst.proofs.NumberWidth.{number_width}
use Rattle.pb_inst.proofs.FlatLemmas.{term, count_is, read_term}
use Rattle.pb_inst.proofs.flat_terms.Terms.get.Goals as goal

pub get-requires : goal.get-requires
get-requires c =
    let count = count_is c.self.inside.coefs c.self.inside.lits.now _ c.self.view_is c.self.invariant in
    omega arith

pub bounds-self-inside-i : goal.bounds-self-inside-i
bounds-self-inside-i c =
    let count = count_is c.self.inside.coefs c.self.inside.lits.now _ c.self.view_is c.self.invariant in
    let same = c.self.invariant in
    omega arith

pub offset_bounds-self-inside-i : goal.offset_bounds-self-inside-i
offset_bounds-self-inside-i c =
    let count = count_is c.self.inside.coefs c.self.inside.lits.now _ c.self.view_is c.self.invariant in
    let same = c.self.invariant in
    let few = c.self.told in
    let at = c.requires in
    omega arith

pub returns : goal.returns
returns c =
    let coef = c.get.result in
    let lit = c.index-self-i.result in
    let count = count_is c.self.inside.coefs c.self.inside.lits.now _ c.self.view_is c.self.invariant in
    let same = c.self.invariant in
    let fits : FitsSigned number_width coef = search rules in
    let read = read_term c.self.inside.coefs c.self.inside.lits.now c.args.i coef lit (omega arith) (omega arith) (sym (get_or_from_slice_get c.self.inside.coefs c.args.i coef coef c.get.ensures)) c.index-self-i.is in
    ap (λ (ts : List Term). slice_get ts c.args.i) (sym c.self.view_is) ∙ (read ∙ (ap (λ z. Some (term z lit)) (sym (to_z-of_z number_width coef fits)) ∙ ap (λ l. Some (term (to_z number_width (of_z number_width coef)) l)) c.index-self-i.is))

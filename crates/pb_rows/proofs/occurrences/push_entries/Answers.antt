use Rattle.std.proofs.Common.{◌≡◌, ℕ, ◌++◌, ◌∷◌, [], List, take, map, sym, ap, ◌∙◌, get_or, subst, arith, ◌≤◌, All}
use Rattle.std.proofs.lemmas.List.{append-nil, append_assoc, take_more}
use Rattle.std.proofs.lemmas.List.Elements.{All-push}
use Rattle.pb_normal.specs.declared.terms.PositiveTerm.{PositiveTerm}
use Rattle.pb_rows.specs.Occurrences.{Entry}
use Rattle.pb_rows.specs.Index.{entries_of_row, literal_place}
use Rattle.pb_rows.proofs.EntryLemmas.{entries_of_row-nil, entries_of_row-next}
use Rattle.pb_rows.proofs.occurrences.push_entries.Goals as goal

pub loop-item-init : goal.loop-item-init
loop-item-init g c = (sym (ap (λ (es : List Entry). c.args.entries.now.items ++ es) (entries_of_row-nil c.args.row) ∙ append-nil c.args.entries.now.items), λ k d h. absurd (omega arith))

pub loop-item-preserved : goal.loop-item-preserved
loop-item-preserved g c =
    let f = g.T.Weighs.term in
    let item = c.item-item.result in
    let i = c.loop-item.item-index in
    let items = c.args.items.now in
    let old = c.args.entries.now.items in
    let front = entries_of_row c.args.row (map f (take i items)) in
    let at : PositiveTerm → Entry = λ t. record { place = literal_place t.lit; occurrence = record { row = c.args.row; coef = t.coef } } in
    let place_is = c.place_of-place.ensures.place ∙ ap literal_place c.lit.ensures in
    let coef_is = c.coef-coef.ensures in
    let one : ◌≡◌ {A = Entry} (record { place = c.place_of-place.result; occurrence = record { row = c.args.row; coef = c.coef-coef.result } }) (at (f item)) = ap (λ (p : ℕ). let e : Entry = record { place = p; occurrence = record { row = c.args.row; coef = c.coef-coef.result } } in e) place_is ∙ ap (λ (k : ℕ). let e : Entry = record { place = literal_place (f item).lit; occurrence = record { row = c.args.row; coef = k } } in e) coef_is in
    let read : f item ≡ f (get_or items i item) = ap f c.item-item.is in
    let last = at (f (get_or items i item)) in
    let low : 1 ≤ (f (get_or items i item)).lit.var = subst (λ (n : ℕ). 1 ≤ n) (ap (λ l. l.var) c.lit.ensures ∙ ap (λ (t : PositiveTerm). t.lit.var) read) c.place_of-place.ensures.within.0 in (
      c.in_ok-push.ensures.items
          ∙ (ap (λ (e : Entry). c.loop-item.entries.items ++ e ∷ []) (one ∙ ap at read)
          ∙ (ap (λ (es : List Entry). es ++ last ∷ []) c.loop-item.invariant.0
          ∙ (append_assoc old front (last ∷ [])
          ∙ ap (λ (es : List Entry). old ++ es) (sym (entries_of_row-next f c.args.row items i item c.loop-item-test.true))))),
      subst (All (λ item. 1 ≤ (f item).lit.var)) (sym (take_more items i item c.loop-item-test.true)) (All-push (λ item. 1 ≤ (f item).lit.var) (take i items) (get_or items i item) c.loop-item.invariant.1 low),
    )

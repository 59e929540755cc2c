use Rattle.std.proofs.Common.{ℕ, ◌+◌, Bor, List, [], ◌∷◌, ◌++◌, Option, ap, append_assoc, append-nil, get_or, map, refl, string_bytes, subst, sym, take, ◌∙◌}
use Rattle.std.proofs.lemmas.List.{map-append, map_more}
use Rattle.pb_files.specs.Texts.{Text}
use Rattle.pb_files.specs.Reading.{AreNamedBy, ListsFiles}
use Rattle.pb_files.specs.Texts.{texts}
use Rattle.pb_files.proofs.listing.named_files.Goals as goal

-- one more operand
ListsFiles-push : {F : Type 0} (lists : F → Text → Option (List Text) → F → Type 0) (operands reports indexes : List Text) (old mid new : F) (operand : Text) (found : Option (List Text)) (more more_indexes : List Text)
    → ListsFiles lists operands reports indexes old mid → lists mid operand found new → AreNamedBy operand found more more_indexes
    → ListsFiles lists (operands ++ operand ∷ []) (reports ++ more) (indexes ++ more_indexes) old new
ListsFiles-push lists [] reports indexes old mid new operand found more more_indexes listed looked named = (
  found,
  more,
  [],
  more_indexes,
  [],
  new,
  subst (λ s. lists s operand found new) listed.2 looked,
  named,
  ap (λ l. l ++ more) listed.0 ∙ sym (append-nil more),
  ap (λ l. l ++ more_indexes) listed.1 ∙ sym (append-nil more_indexes),
  (refl, refl, refl),
)
ListsFiles-push lists (first ∷ rest) reports indexes old mid new operand found more more_indexes listed looked named = (
  listed.0,
  listed.1,
  listed.2 ++ more,
  listed.3,
  listed.4 ++ more_indexes,
  listed.5,
  listed.6,
  listed.7,
  ap (λ l. l ++ more) listed.8 ∙ append_assoc listed.1 listed.2 more,
  ap (λ l. l ++ more_indexes) listed.9 ∙ append_assoc listed.3 listed.4 more_indexes,
  ListsFiles-push lists rest listed.2 listed.4 listed.5 mid new operand found more more_indexes listed.10 looked named,
)

pub loop-operand-preserved : goal.loop-operand-preserved
loop-operand-preserved g c =
    let named = c.in_ok-more.ensures in
    let place = c.loop-operand.operand-index in
    let none : Bor (List ℕ) = record { ref_ptr = (0, 0); now = [] } in
    let operand = get_or c.args.operands.now place none in
    let earlier = map (λ (o : Bor (List ℕ)). o.now) (take place c.args.operands.now) in
    let operands = map_more (λ (o : Bor (List ℕ)). o.now) c.args.operands.now place none c.loop-operand-test.true in
    let reports = ap (map string_bytes) c.in_ok-append.ensures.items ∙ map-append string_bytes c.loop-operand.reports.items c.in_ok-more.more.reports.items in
    let indexes = ap (map string_bytes) c.in_ok-append-2.ensures.items ∙ map-append string_bytes c.loop-operand.indexes.items c.in_ok-more.more.indexes.items in
    let pushed = ListsFiles-push g.F.Files.lists earlier (texts c.loop-operand.reports) (texts c.loop-operand.indexes) c.args.files.now c.loop-operand.files c.named_by.new.files operand.now named.0 (texts c.in_ok-more.more.reports) (texts c.in_ok-more.more.indexes) c.loop-operand.invariant named.1 named.2 in
    let with_operand = subst (λ (l : List Text). ListsFiles g.F.Files.lists l (texts c.loop-operand.reports ++ texts c.in_ok-more.more.reports) (texts c.loop-operand.indexes ++ texts c.in_ok-more.more.indexes) c.args.files.now c.named_by.new.files) (sym operands) pushed in
    let with_reports = subst (λ (l : List Text). ListsFiles g.F.Files.lists (map (λ (o : Bor (List ℕ)). o.now) (take (place + 1) c.args.operands.now)) l (texts c.loop-operand.indexes ++ texts c.in_ok-more.more.indexes) c.args.files.now c.named_by.new.files) (sym reports) with_operand in
    subst (λ (l : List Text). ListsFiles g.F.Files.lists (map (λ (o : Bor (List ℕ)). o.now) (take (place + 1) c.args.operands.now)) (map string_bytes c.append.new.self.items) l c.args.files.now c.named_by.new.files) (sym indexes) with_reports

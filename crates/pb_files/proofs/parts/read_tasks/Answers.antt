use Rattle.std.proofs.Common.{◌≡◌, ◌+◌, ◌<◌, ℕ, List, [], ◌∷◌, ◌++◌, Option, None, Some, ap, append-nil, arith, drop, length, map, string_bytes, subst, sym, take, ◌∙◌}
use Rattle.std.specs.Prelude.{All, IfSome, option_to_list}
use Rattle.std.proofs.lemmas.List.Elements.{All-push}
use Rattle.std.proofs.lemmas.List.{length-map, map_more}
use Rattle.pb_files.specs.Texts.{Text}
use Rattle.pb_parts.specs.Parts.{IsFit, IsPartReport}
use Rattle.pb_parts.specs.declared.parts.PartReport.{PartReport}
use Rattle.pb_files.specs.Reading.{ReadsParts, ReadsSame}
use Rattle.pb_report.specs.Written.{refusal_report}
use Rattle.pb_files.specs.Tasks.{IsReportOfTask}
use Rattle.pb_files.specs.declared.parts.TaskReport.TheVariants.{Part}
use Rattle.pb_files.proofs.Each.{ReadsEach-push}
use Rattle.pb_files.proofs.parts.read_tasks.Goals as goal

-- one more part, if there is one, is fit as the others are
fit_with : (parts : List PartReport) (part : Option PartReport) → All (λ part. IsFit part.heading) parts → IfSome part (λ part. IsFit part.heading)
    → All (λ part. IsFit part.heading) (parts ++ option_to_list part)
fit_with parts None fit more = subst (λ (l : List PartReport). All (λ part. IsFit part.heading) l) (sym (append-nil parts)) fit
fit_with parts (Some part) fit more = All-push (λ part. IsFit part.heading) parts part fit more

pub loop-place-preserved : goal.loop-place-preserved
loop-place-preserved g c =
    let place = c.loop-place.place in
    let one = c.in-Ok-Part.ensures in
    let is_part : c.in-Ok-Part.field-0 ≡ Part c.in-Ok-Part.part = cc in
    let said = subst (IsReportOfTask c.args.format c.args.vars one.0) is_part one.2 in
    let kept = c.in_ok-keep-in-Ok-Part.ensures in
    let earlier = map string_bytes (take place c.args.names.items) in
    let name = ap string_bytes (sym c.index.ensures) ∙ sym c.deref.ensures in
    let names = map_more string_bytes c.args.names.items place c.index.result.now (omega (arith, c.loop-place-test.true, c.len-place-end.ensures)) ∙ ap (λ (n : Text). earlier ++ n ∷ []) name in
    let pushed = ReadsEach-push g.F.Files.reads (λ name. IsPartReport c.args.format c.args.vars) earlier c.loop-place.parts.items c.args.files.now c.loop-place.files c.read_one.new.files c.deref.result.now one.0 c.in-Ok-Part.part c.loop-place.invariant.read one.1 said.1 in
    let with_name = subst (λ (l : List Text). ReadsParts g.F.Files.reads c.args.format c.args.vars l (c.loop-place.parts.items ++ option_to_list c.in-Ok-Part.part) c.args.files.now c.read_one.new.files) (sym names) pushed in
    record {
      fit = subst (λ (l : List PartReport). All (λ part. IsFit part.heading) l) (sym kept.reports) (fit_with c.loop-place.parts.items c.in-Ok-Part.part c.loop-place.invariant.fit said.0);
      counted = kept.counted c.loop-place.invariant.counted;
      read = subst (λ (l : List PartReport). ReadsParts g.F.Files.reads c.args.format c.args.vars (map string_bytes (take (place + 1) c.args.names.items)) l c.args.files.now c.read_one.new.files) (sym kept.reports) with_name;
    }

-- where the first file has this text, and all others too, they all have it
same_from_first : {F S : Type 0} (reads : F → Text → List ℕ → F → Type 0) (bytes : S → Text) (strings : List S) (name text same : Text) (old begun between new : F)
    → 0 < length strings → map bytes (take 1 strings) ≡ name ∷ [] → begun ≡ old → text ≡ same
    → reads begun name text between → ReadsSame reads same (map bytes (drop 1 strings)) between new → ReadsSame reads same (map bytes strings) old new
same_from_first reads bytes [] name text same old begun between new some first is_old is_same read rest = absurd (omega (arith, some))
same_from_first {F} reads bytes (s ∷ strings) name text same old begun between new some first is_old is_same read rest =
    let is_name : name ≡ bytes s = cc in
    let named = subst (λ (n : Text). reads begun n text between) is_name read in
    let told = subst (λ (t : Text). reads begun (bytes s) t between) is_same named in
    (between, subst (λ (f : F). reads f (bytes s) same between) is_old told, rest)

pub returns-then-branch-clause-read : goal.returns-then-branch-clause-read
returns-then-branch-clause-read g c =
    let one = c.in-Ok-Refused.ensures in
    let said = subst (IsReportOfTask c.args.format c.args.vars one.0) c.in-Ok-Refused.field-0-is one.2 in
    let all = c.in_ok-others_refuse-in-Ok-Refused.ensures in
    let is_true = c.if-branch.true in
    let strings = c.args.names.items in
    let items : c.deref-then-place-eq0.result.now ≡ strings = cc in
    let zero : c.loop-place.place ≡ 0 = cc in
    let some : 0 < length strings = omega (arith, c.loop-place-test.true, c.len-place-end.ensures) in
    let name = ap string_bytes (sym c.index.ensures) ∙ sym c.deref.ensures in
    let names = map_more string_bytes strings c.loop-place.place c.index.result.now (omega (arith, c.loop-place-test.true, c.len-place-end.ensures)) ∙ ap (λ (n : Text). map string_bytes (take c.loop-place.place strings) ++ n ∷ []) name in
    let first = subst (λ (n : ℕ). map string_bytes (take (n + 1) strings) ≡ map string_bytes (take n strings) ++ c.deref.result.now ∷ []) zero names in
    let begun = subst (λ (n : ℕ). ReadsParts g.F.Files.reads c.args.format c.args.vars (map string_bytes (take n strings)) c.loop-place.parts.items c.args.files.now c.loop-place.files) zero c.loop-place.invariant.read in
    let rest = subst (λ l. ReadsSame g.F.Files.reads (refusal_report c.in-Ok-Refused.refusal) (map string_bytes (drop 1 l)) c.read_one.new.files c.others_refuse.new.files) items (all.read is_true) in
    let counted = subst (λ l. length l ≡ c.args.tasks) items (all.counted is_true) in (
      all.of_division is_true,
      length-map strings string_bytes ∙ counted,
      same_from_first g.F.Files.reads string_bytes strings c.deref.result.now one.0 (refusal_report c.in-Ok-Refused.refusal) c.args.files.now c.loop-place.files c.read_one.new.files c.others_refuse.new.files some first begun.1 said one.1 rest,
    )

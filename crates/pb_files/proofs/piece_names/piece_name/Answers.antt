use Rattle.std.proofs.Common.{◌≡◌, ℕ, ◌+◌, ◌-◌, ◌≤◌, List, [], ◌∷◌, ◌++◌, length, replicate, decimal, ap, ◌∙◌, arith, inl, inr}
use Rattle.std.proofs.lemmas.List.{replicate-append-replicate}
use Rattle.pb_read.specs.declared.format.Format.{Format}
use Rattle.pb_files.specs.Names.{ending, piece_name as name_of_piece}
use Rattle.pb_files.proofs.piece_names.piece_name.Goals as goal

zeros_more : (old new : List ℕ) (i n : ℕ) → n ≤ i → old ≡ replicate (i - n) 48 → new ≡ old ++ 48 ∷ [] → new ≡ replicate (i + 1 - n) 48
zeros_more old new i n low is added =
    let more : (i - n) + 1 ≡ i + 1 - n = omega arith in
    added ∙ ap (λ l. l ++ 48 ∷ []) is ∙ replicate-append-replicate (i - n) 1 48 ∙ ap (λ (m : ℕ). replicate m 48) more

whole_name : (format : Format) (number last missing : ℕ) (name digits end after all : List ℕ) → name ≡ replicate missing 48 → missing ≡ length (decimal last) - length (decimal number) → digits ≡ decimal number → end ≡ ending format
    → after ≡ name ++ digits → all ≡ after ++ end → all ≡ name_of_piece format number last
whole_name format number last missing name digits end after all name_is missing_is digits_are end_is after_is all_is =
    let front : name ≡ replicate (length (decimal last) - length (decimal number)) 48 = name_is ∙ ap (λ (m : ℕ). replicate m 48) missing_is in
    all_is
    ∙ ap (λ l. l ++ end) (after_is ∙ ap (λ l. l ++ digits) front ∙ ap (λ l. replicate (length (decimal last) - length (decimal number)) 48 ++ l) digits_are)
    ∙ ap (λ l. (replicate (length (decimal last) - length (decimal number)) 48 ++ decimal number) ++ l) end_is

pub loop-preserved : goal.loop-preserved
loop-preserved c = record {
  zeros = zeros_more _ _ c.loop.counter (length c.format-digits.result.now) (omega arith) c.loop.invariant.zeros c.in_ok-push_str.ensures.bytes;
  place = inr (omega (arith, c.loop-test.true));
}

pub returns : goal.returns
returns c =
    let width = ap length c.format-width.ensures.text in
    let digits = ap length c.format-digits.ensures.text in
    let zeros : c.loop.counter - length c.format-digits.result.now ≡ length (decimal c.args.last) - length (decimal c.args.number) =
    elim c.loop.invariant.place [
      | inl first ↦ omega (arith, width, digits, first, c.loop-test.false)
      | inr within ↦ omega (arith, width, digits, within, c.loop-test.false)
    ] in
    whole_name c.args.format c.args.number c.args.last _ _ _ _ _ _ c.loop.invariant.zeros zeros c.format-digits.ensures.text c.ending_of.ensures c.in_ok-push_str-2.ensures.bytes c.in_ok-push_str-3.ensures.bytes

use Rattle.std.proofs.Common.{◌∙◌, ◌∷◌, List, ℕ, length, drop, sym, ap}
use Rattle.std.proofs.lemmas.Bool.{eqb-true}
use Rattle.std.proofs.lemmas.List.{nil_from_length}
use Rattle.pb_read.specs.Text.{words}
use Rattle.pb_read.proofs.WordCuts.{words_after_blanks}
use Rattle.pb_read.proofs.dimacs.word.next_word.Goals as goal

pub returns-then-is_empty : goal.returns-then-is_empty
returns-then-is_empty c =
    let none = nil_from_length c.after_blanks-rest.result.now (eqb-true (length c.after_blanks-rest.result.now) 0 (sym c.is_empty.ensures ∙ c.if-is_empty.true)) in
    sym (words_after_blanks c.args.bytes.now) ∙ ap words (sym c.after_blanks-rest.ensures.skipped ∙ none)

pub returns : goal.returns
returns c =
    sym (words_after_blanks c.args.bytes.now) ∙ ap words (sym c.after_blanks-rest.ensures.skipped) ∙ c.word_len.ensures.word
    ∙ ap (λ (w : List ℕ). w ∷ words (drop c.word_len.result c.after_blanks-rest.result.now)) (sym c.split_at.ensures.front) ∙ ap (λ (ws : List ℕ). c.split_at.result.0.now ∷ words ws) (sym c.split_at.ensures.back)

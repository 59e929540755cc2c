use Rattle.std.proofs.Common.{◌∙◌, sym, refl}
use Rattle.pb_read.proofs.TokenCuts.{no_tokens, next_word, next_sign}
use Rattle.pb_read.proofs.opb.token.next_token.Goals as goal

pub returns-in_default : goal.returns-in_default
returns-in_default c = no_tokens c.args.bytes.now c.after_blanks-whole.result.now c.after_blanks-whole.ensures.skipped c.in_default.len_below

pub returns-then-is_word_byte : goal.returns-then-is_word_byte
returns-then-is_word_byte c =
    next_word c.args.bytes.now c.after_blanks-whole.result.now c.word.result.1.now c.word.result.0 c.after_blanks-whole.ensures.skipped c.in-len1-up.len_at_least
    (sym c.is_word_byte.ensures ∙ c.if-is_word_byte.true) c.word.ensures.token c.word.ensures.rest

pub returns : goal.returns
returns c =
    next_sign c.args.bytes.now c.after_blanks-whole.result.now _ c.sign.result.1.now c.sign.result.0 c.after_blanks-whole.ensures.skipped c.after_blanks-whole.ensures.stops c.in-len1-up.len_at_least
    (sym c.is_word_byte.ensures ∙ c.if-is_word_byte.false) refl c.sign.ensures.token c.sign.ensures.rest

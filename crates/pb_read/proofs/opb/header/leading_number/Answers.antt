use Rattle.std.proofs.Common.{◌∙◌, sym}
use Rattle.pb_read.proofs.Headers.{leads_number, leads_none}
use Rattle.pb_read.proofs.opb.header.leading_number.Goals as goal

pub returns : goal.returns
returns c = c.digits_count.ensures ∙ leads_number c.args.bytes.now c.split_at.result.0.now c.split_at.result.1.now (c.split_at.ensures.front ∙ c.digits_len.ensures.front) (c.split_at.ensures.back ∙ c.digits_len.ensures.rest) (sym c.ends_word.ensures ∙ c.if-not-ends_word.false)

pub returns-then-not-ends_word : goal.returns-then-not-ends_word
returns-then-not-ends_word c = leads_none c.args.bytes.now c.split_at.result.1.now (c.split_at.ensures.back ∙ c.digits_len.ensures.rest) (sym c.ends_word.ensures ∙ c.if-not-ends_word.true)

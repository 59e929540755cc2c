use Rattle.std.proofs.Common.{◌≡◌, ◌≤◌, ◌∙◌, ℕ, List, ap, sym, length, arith}
use Rattle.pb_read.specs.Runs.{skip_while}
use Rattle.pb_read.specs.Text.{is_digit}
use Rattle.pb_read.specs.TokenCuts.{after_word}
use Rattle.pb_read.proofs.TokenCuts.{goes_on, no_digits, word_is_digits, after_digits}
use Rattle.pb_read.proofs.opb.token.word_value.Goals as goal

-- what stands after the word is what stands after the bytes of it that are left
after_is : (bytes after rest : List ℕ) → after ≡ skip_while is_digit bytes → rest ≡ after_word after → rest ≡ after_word bytes
after_is bytes after rest d w = w ∙ ap after_word d ∙ sym (after_digits bytes)

lengths : (bytes after rest : List ℕ) → after ≡ skip_while is_digit bytes → rest ≡ after_word after → length rest ≡ length (after_word (skip_while is_digit bytes))
lengths bytes after rest d w = ap length (w ∙ ap after_word d)

pub returns-then-rest-after-clause-value : goal.returns-then-rest-after-clause-value
returns-then-rest-after-clause-value c =
    goes_on c.args.bytes.now (omega (arith, c.if-rest-after.true, ap length c.leading_value-value.ensures.rest, lengths c.args.bytes.now c.leading_value-value.result.1.now c.after_word-rest.result.now c.leading_value-value.ensures.rest c.after_word-rest.ensures))

pub returns-then-rest-after-clause-rest : goal.returns-then-rest-after-clause-rest
returns-then-rest-after-clause-rest c = after_is c.args.bytes.now c.leading_value-value.result.1.now c.after_word-rest.result.now c.leading_value-value.ensures.rest c.after_word-rest.ensures

pub returns-then-after-bytes-clause-value : goal.returns-then-after-bytes-clause-value
returns-then-after-bytes-clause-value c = no_digits c.args.bytes.now (omega (arith, c.if-after-bytes.true, ap length c.leading_value-value.ensures.rest))

pub returns-then-after-bytes-clause-rest : goal.returns-then-after-bytes-clause-rest
returns-then-after-bytes-clause-rest c = after_is c.args.bytes.now c.leading_value-value.result.1.now c.after_word-rest.result.now c.leading_value-value.ensures.rest c.after_word-rest.ensures

pub returns-clause-value : goal.returns-clause-value
returns-clause-value c =
    let e : length c.after_word-rest.result.now ≡ length (after_word (skip_while is_digit c.args.bytes.now)) = lengths c.args.bytes.now c.leading_value-value.result.1.now c.after_word-rest.result.now c.leading_value-value.ensures.rest c.after_word-rest.ensures in
    let d : length c.leading_value-value.result.1.now ≡ length (skip_while is_digit c.args.bytes.now) = ap length c.leading_value-value.ensures.rest in
    let more : length c.leading_value-value.result.1.now ≤ length c.after_word-rest.result.now = c.if-rest-after.false in
    word_is_digits c.leading_value-value.result.0 c.args.bytes.now (omega arith) (λ same. c.if-after-bytes.false (d ∙ same)) c.leading_value-value.ensures.value

pub returns-clause-rest : goal.returns-clause-rest
returns-clause-rest c = after_is c.args.bytes.now c.leading_value-value.result.1.now c.after_word-rest.result.now c.leading_value-value.ensures.rest c.after_word-rest.ensures

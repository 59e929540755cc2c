use Rattle.std.proofs.Common.{◌∙◌, ◌∷◌, ◌++◌, []}
use Rattle.pb_read.specs.Text.{words}
use Rattle.pb_read.specs.Clauses as clauses
use Rattle.pb_read.proofs.Scanning.{one_more_word}
use Rattle.pb_read.proofs.dimacs.scan.Scan.take_words.Goals as goal

pub loop-word-preserved : goal.loop-word-preserved
loop-word-preserved c = record {
  same_limit = c.take.ensures.same_limit ∙ c.loop-word.invariant.same_limit;
  so_far = λ before h.
      (let at = c.loop-word.invariant.so_far before h in
      let w : clauses.Word = clauses.word_of c.in-Some.word.now in (
        at.0 ++ w ∷ [],
        one_more_word at.0 before c.in-Some.word.now (words c.loop-word.rest.now) (words c.in-Some.after.now) (words c.args.bytes.now) c.in-Some.ensures at.1,
        c.in_ok-take.ensures.scanned at.0 w at.2 c.word_of.ensures.value,
      ));
}

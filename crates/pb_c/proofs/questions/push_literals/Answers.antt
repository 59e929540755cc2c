use Rattle.std.proofs.Common.{rules, ◌≡◌, ℤ, pos, List, [], ◌∷◌, ◌++◌}
use Rattle.std.proofs.lemmas.List.Elements.{All-more}
use Rattle.pb_c.specs.Called.{IsVariable}
use Rattle.pb_c.proofs.QuestionLaws.{one_pushed}
use Rattle.pb_c.proofs.questions.push_literals.Goals as goal

pub loop-number-preserved : goal.loop-number-preserved
loop-number-preserved c =
    let so_far = c.loop-number.invariant in let l = c.in_ok-literal_of.field-0 in
    let pushed : c.push.new.self.items ≡ c.loop-number.room.items ++ l ∷ [] = search rules in (
      one_pushed _ _ _ c.loop-number.room.items c.push.new.self.items l c.loop-number-test.true (search rules) so_far.0 c.in_ok-literal_of.ensures.literal pushed,
      All-more IsVariable c.args.numbers.now c.loop-number.number-index (pos 0) c.loop-number-test.true so_far.1 (search rules),
    )

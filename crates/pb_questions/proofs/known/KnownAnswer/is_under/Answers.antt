use Rattle.std.proofs.Common.{rules, List, subst}
use Rattle.std.specs.Prelude.{All, Contains}
use Rattle.std.proofs.lemmas.List.{take_all}
use Rattle.std.proofs.lemmas.List.Elements.{All-more}
use Rattle.pb_inst.specs.Literal.{Literal}
use Rattle.pb_questions.proofs.known.KnownAnswer.is_under.Goals as goal

pub loop-place-preserved : goal.loop-place-preserved
loop-place-preserved c =
    let among : Contains c.args.cube.now c.index.result.now = c.is_among.ensures (search rules) in
    All-more (λ (m : Literal). Contains c.args.cube.now m) c.args.self.now.literals.items c.loop-place.place c.index.result.now (search rules) c.loop-place.invariant
    (subst (λ (m : Literal). Contains c.args.cube.now m) c.index.ensures among)

pub returns : goal.returns
returns c all = subst (λ (ls : List Literal). All (λ (m : Literal). Contains c.args.cube.now m) ls) (take_all c.loop-place.place c.args.self.now.literals.items (search rules)) c.loop-place.invariant

use Rattle.std.proofs.Common.{◌<◌, ◌∷◌, [], length, arith, length-append}
use Rattle.pb_engine.specs.EngineState.{is_conflict}
use Rattle.pb_subtree.proofs.Moves.{decide_few, decide_at}
use Rattle.pb_subtree.proofs.branch.decide.Goals as goal

pub push_reserved-requires : goal.push_reserved-requires
push_reserved-requires g c =
    let few : length c.args.path.now.items < c.args.engine.now.vars = decide_few c.requires.at_path.root c.args.engine.now c.assume.new.self c.args.path.now.items c.args.branch.lit (is_conflict c.assume.result) c.requires.at_path.at c.assume.ensures.assumed c.assume.ensures.sound in
    omega (arith, few, c.requires.room)

pub returns-clause-few : goal.returns-clause-few
returns-clause-few g c =
    let few : length c.args.path.now.items < c.args.engine.now.vars = decide_few c.requires.at_path.root c.args.engine.now c.assume.new.self c.args.path.now.items c.args.branch.lit (is_conflict c.assume.result) c.requires.at_path.at c.assume.ensures.assumed c.assume.ensures.sound in
    rw c.push_reserved.ensures.items (omega (arith, few, length-append c.args.path.now.items (c.args.branch ∷ [])))

pub returns-clause-at_path : goal.returns-clause-at_path
returns-clause-at_path g c root at =
    rw c.push_reserved.ensures.items (rw c.settle.ensures (decide_at root c.args.engine.now c.assume.new.self c.args.path.now.items c.args.branch (is_conflict c.assume.result) at c.assume.ensures.assumed c.assume.ensures.sound c.requires.free.variable))

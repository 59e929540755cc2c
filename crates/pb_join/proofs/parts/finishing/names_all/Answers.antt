use Rattle.std.proofs.Common.{◌≡◌, ◌∙◌, ◌+◌, ◌*◌, ◌/◌, ◌^◌, ◌<◌, Contains, ap, arith, below_more, refl, subst, sym}
use Rattle.std.proofs.lemmas.Nat.{div-add-mod'}
use Rattle.pb_join.proofs.parts.finishing.names_all.Goals as goal

pub overflow_mul-turn : goal.overflow_mul-turn
overflow_mul-turn c =
    let fits : c.loop-turn.turn * c.args.division.now.tasks + c.args.task < 2 ^ 32 = c.turns_of-turn-end.ensures.fits c.loop-turn.turn c.loop-turn-test.true in
    omega (arith, fits)

pub overflow_add-turn : goal.overflow_add-turn
overflow_add-turn c =
    let fits : c.loop-turn.turn * c.args.division.now.tasks + c.args.task < 2 ^ 32 = c.turns_of-turn-end.ensures.fits c.loop-turn.turn c.loop-turn-test.true in
    omega (arith, fits)

pub loop-turn-preserved : goal.loop-turn-preserved
loop-turn-preserved c =
    below_more (λ turn. Contains c.args.named.now (turn * c.args.division.now.tasks + c.args.task)) c.loop-turn.turn c.loop-turn.invariant
    (c.if-not-is_among.ensures.0 refl)

pub returns : goal.returns
returns c = (
  λ _ i piece.
      let tasks = c.args.division.now.tasks in
      let at : i / tasks * tasks + c.args.task ≡ i = ap (λ r. i / tasks * tasks + r) (sym piece.1) ∙ div-add-mod' i tasks in
      let dealt : i / tasks < c.turns_of-turn-end.result = (c.turns_of-turn-end.ensures.turns (i / tasks)).1 (subst (λ n. n < c.args.division.now.pieces) (sym at) piece.0) in
      subst (Contains c.args.named.now) at (c.loop-turn.invariant (i / tasks) (omega (arith, dealt, c.loop-turn-test.false))),
  λ _. refl,
)

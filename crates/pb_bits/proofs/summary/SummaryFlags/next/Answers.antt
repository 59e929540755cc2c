use Rattle.std.proofs.Common.{◌*◌, List, Bool, refl, subst, arith}
use Rattle.pb_bits.specs.RowSet.{HasNoneBetween}
use Rattle.pb_bits.proofs.RowSetLemmas.{IsNext, still_next, groups_passed, group_within}
use Rattle.pb_bits.proofs.summary.SummaryFlags.next.Goals as goal

pub returns-in-Some-clause-some : goal.returns-in-Some-clause-some
returns-in-Some-clause-some g c = λ x chosen.
    subst (λ (ms : List Bool). IsNext ms c.args.from x) c.self.view_is (still_next c.self.inside.members c.args.from c.args.from c.in-Some.index x (omega arith) (λ i low high. absurd (omega arith)) (c.in-Some.ensures.some c.in-Some.index refl) chosen)

pub overflow_mul-group : goal.overflow_mul-group
overflow_mul-group g c =
    let there = c.in_ok-group.ensures.some c.in_ok-group.group refl in
    let within = group_within c.self.inside.members c.in_ok-group.group (c.self.invariant.some c.in_ok-group.group there.2) in
    omega (arith, c.len.ensures.value, c.len.ensures.small)

pub next_in_word-requires-2 : goal.next_in_word-requires-2
next_in_word-requires-2 g c =
    let there = c.in_ok-group.ensures.some c.in_ok-group.group refl in
    group_within c.self.inside.members c.in_ok-group.group (c.self.invariant.some c.in_ok-group.group there.2)

pub returns-clause-some : goal.returns-clause-some
returns-clause-some g c = λ x chosen.
    let members = c.self.inside.members in
    let group = c.in_ok-group.group in
    let there = c.in_ok-group.ensures.some group refl in
    let before : HasNoneBetween members c.args.from (64 * group) = groups_passed members (g.G.Flags.flags c.self.inside.groups) c.args.from group c.self.invariant (c.in_default.ensures.none refl) there.3 in
    let next : IsNext members (64 * group) x = c.next_in_word-2.ensures.some x chosen in
    subst (λ (ms : List Bool). IsNext ms c.args.from x) c.self.view_is (still_next members c.args.from (64 * group) x x (omega arith) before next refl)

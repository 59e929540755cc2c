use Rattle.pb_join.proofs.PartNames.{among_tasks, told_gathered, told_states}
use Rattle.pb_join.proofs.PartWholes.{whole_least}
use Rattle.pb_join.proofs.Wholes.{headline}
use Rattle.pb_join.proofs.parts.joining.join_parts.Goals as goal

pub states_of-requires-clause-tasks : goal.states_of-requires-clause-tasks
states_of-requires-clause-tasks g c =
    let gathered = c.in_ok-gathered.gathered in
    among_tasks c.args.instance.now c.args.digest.now c.args.tasks c.args.parts.now gathered.division gathered.best.held gathered.reports.items c.in_ok-gathered.ensures.gathered

pub returns-clause-whole : goal.returns-clause-whole
returns-clause-whole g c =
    let gathered = c.in_ok-gathered.gathered in
    told_gathered c.is_whole-whole.result c.args.instance.now c.args.digest.now c.args.tasks c.args.parts.now gathered.division gathered.best.held gathered.reports.items c.in_ok-named.named.items _ c.deref.ensures.value c.in_ok-gathered.ensures.gathered c.in_ok-named.ensures c.is_whole-whole.ensures

pub returns-clause-states : goal.returns-clause-states
returns-clause-states g c =
    let gathered = c.in_ok-gathered.gathered in
    told_states c.args.instance.now c.args.digest.now c.args.tasks c.args.parts.now gathered.division gathered.best.held gathered.reports.items _ c.in_ok-named.named.items _ c.in_ok-states.states.items
    c.deref-2.ensures.value c.deref-3.ensures.value c.in_ok-gathered.ensures.gathered c.in_ok-named.ensures c.in_ok-states.ensures

pub returns-clause-headline : goal.returns-clause-headline
returns-clause-headline g c = λ cubes right whole.
    let gathered = c.in_ok-gathered.gathered in
    let told = told_gathered c.is_whole-whole.result c.args.instance.now c.args.digest.now c.args.tasks c.args.parts.now gathered.division gathered.best.held gathered.reports.items c.in_ok-named.named.items _ c.deref.ensures.value c.in_ok-gathered.ensures.gathered c.in_ok-named.ensures c.is_whole-whole.ensures in
    headline c.args.format c.args.instance.now gathered.best.held c.is_whole-whole.result _ _ c.in-Ok.status
    (whole_least c.args.instance.now c.args.digest.now c.args.tasks c.args.parts.now gathered.division gathered.best.held gathered.reports.items cubes c.in_ok-gathered.ensures.gathered (told.0 whole) right)
    whole c.in-Ok.ensures.written c.in-Ok.ensures.status

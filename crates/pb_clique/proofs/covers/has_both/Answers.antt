use Rattle.std.proofs.Common.{◌≢◌, rules}
use Rattle.pb_clique.proofs.CliqueLemmas.{both_stand}
use Rattle.pb_clique.proofs.covers.has_both.Goals as goal

pub returns-in-Some-Some : goal.returns-in-Some-Some
returns-in-Some-Some c differ a met =
    let first = c.in-Some-Some.ensures in
    let second = c.in-Some-Some.ensures' in
    let apart : c.in-Some-Some.first ≢ c.in-Some-Some.second = search rules in
    both_stand a c.args.clique.now c.in-Some-Some.first c.in-Some-Some.second c.args.one c.args.other first.0 second.0 apart (first.1 c.args.one) (second.1 c.args.one) (first.1 c.args.other) (second.1 c.args.other) met

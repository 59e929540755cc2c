use Rattle.std.proofs.Common.{arith}
use Rattle.pb_count.proofs.CounterLemmas.{is_below-false}
use Rattle.pb_normal.proofs.FormLemmas.{clipped_total-is}
use Rattle.pb_normal.proofs.RowLemmas.{total_coefficient-clipped}
use Rattle.pb_normal.proofs.forms.has_sums_below.Goals as goal

pub clipped_total-requires : goal.clipped_total-requires
clipped_total-requires g c = omega (arith, clipped_total-is c.args.degree c.args.terms.now, total_coefficient-clipped c.args.degree c.args.terms.now)

pub returns-then-fits-clause-too_wide : goal.returns-then-fits-clause-too_wide
returns-then-fits-clause-too_wide g c = λ no.
    let over = is_below-false c.fits-then-fits.result c.clipped_total.result g.C.Coefficient.limit c.fits-then-fits.ensures no in
    omega (arith, over, c.clipped_total.ensures, clipped_total-is c.args.degree c.args.terms.now, total_coefficient-clipped c.args.degree c.args.terms.now)

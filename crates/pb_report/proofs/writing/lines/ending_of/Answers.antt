use Rattle.std.proofs.Common.{refl, ◌∙◌}
use Rattle.std.specs.Prelude.{◌≡◌}
use Rattle.pb_read.specs.declared.format.Format.{Format}
use Rattle.pb_read.specs.declared.format.Format.TheVariants.{Opb, Cnf, Icnf}
use Rattle.pb_read.specs.Format.{ending as told_ending}
use Rattle.pb_report.specs.Written.{ending}
use Rattle.pb_report.proofs.writing.lines.ending_of.Goals as goal

-- a report ends its literals as the format tells
as_told : (format : Format) → told_ending format ≡ ending format
as_told Opb = refl
as_told Cnf = refl
as_told Icnf = refl

pub returns : goal.returns
returns c = c.ending.ensures ∙ as_told c.args.format

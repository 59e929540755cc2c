use Rattle.std.proofs.Common.{refl, ◌∙◌}
use Rattle.std.specs.Prelude.{◌≡◌, Bool, true, false}
use Rattle.pb_read.specs.declared.format.Format.{Format}
use Rattle.pb_read.specs.declared.format.Format.TheVariants.{Opb, Cnf, Icnf}
use Rattle.pb_read.specs.Format.{literal_prefix}
use Rattle.pb_report.specs.Written.{sign}
use Rattle.pb_report.proofs.writing.lines.sign_of.Goals as goal

-- a report signs variables as the format tells
as_told : (format : Format) (value : Bool) → literal_prefix format value ≡ sign format value
as_told Opb true = refl
as_told Opb false = refl
as_told Cnf true = refl
as_told Cnf false = refl
as_told Icnf true = refl
as_told Icnf false = refl

pub returns : goal.returns
returns c = c.literal_prefix.ensures ∙ as_told c.args.format c.args.value

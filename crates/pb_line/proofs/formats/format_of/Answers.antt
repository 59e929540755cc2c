use Rattle.std.proofs.Common.{codes}
use Rattle.std.specs.Prelude.{◌≢◌}
use Rattle.clap.specs.Words.{Text}
use Rattle.pb_read.specs.declared.format.Format.{Format}
use Rattle.pb_read.specs.declared.format.Format.TheVariants.{Opb, Cnf, Icnf}
use Rattle.pb_read.specs.Format.{format_name}
use Rattle.pb_line.proofs.formats.format_of.Goals as goal

-- a text that is none of the three names is no format's
of_no_format : (name : Text) → name ≢ codes "opb" → name ≢ codes "cnf" → name ≢ codes "icnf" → (format : Format) → name ≢ format_name format
of_no_format name opb cnf icnf Opb = opb
of_no_format name opb cnf icnf Cnf = cnf
of_no_format name opb cnf icnf Icnf = icnf

pub returns-in_default-clause-none : goal.returns-in_default-clause-none
returns-in_default-clause-none c =
    λ none. of_no_format c.args.name.now c.in_default.not-opb c.in_default.not-cnf c.in_default.not-icnf

-- The one command of `pbcube_join`, and what a line takes from its matches.
use Rattle.std.specs.Prelude.{◌≡◌, ◌≤◌, ◌⊎◌, List, [], Some, codes, map, refl, true, unwrap_or, IfSome, IsNone}
use Rattle.clap.proofs.OnLiterals.{clap_on_literals}
use Rattle.clap.specs.Lexer.{usize_max}
use Rattle.clap.specs.Words.{App, Row, Rule, all_of, first_of, is_simple_and_free, new_rule, one_of, with_rule}
use Rattle.clap.specs.declared.builder.ValueParser.TheVariants as parser
use Rattle.clap.specs.declared.builder.action.ArgAction.TheVariants.{Append}
use Rattle.pb_line.specs.Options.{file, format, with_version}
use Rattle.pb_line.specs.Values.{SpellsIfGiven}
use Rattle.pb_line.specs.declared.joining.args.Line.{Line}
use Rattle.pb_read.specs.Format.{format_name}
use Rattle.pb_inst.specs.declared.limits.TheConstants.{MAX_PIECES}
use Rattle.pb_line.specs.declared.tasks.args.TheConstants.{MAX_TASKS}

-- `--pieces`, a number from 1 to `MAX_PIECES`, without a default
abbrev pub pieces : Rule
pieces = record (new_rule (codes "pieces")) { long = Some (codes "pieces"); value_names = 1; parser = Some (parser.Unsigned 1 MAX_PIECES) }

-- `--tasks`, a number from 1 to `MAX_TASKS`, without a default
abbrev pub tasks : Rule
tasks = record (new_rule (codes "tasks")) { long = Some (codes "tasks"); value_names = 1; parser = Some (parser.Unsigned 1 MAX_TASKS) }

-- the reports, any number of them
abbrev pub reports : Rule
reports = record (new_rule (codes "reports")) { value_names = 1; action = Some Append; range = Some (record { start_inclusive = 0; end_inclusive = usize_max }) }

-- `pbcube_join [--format FORMAT] [--pieces N | --tasks T] FILE [REPORT]...`
unfoldable pub pbcube_join : App
pbcube_join = with_rule (with_rule (with_rule (with_rule (with_rule (with_version (codes "pbcube_join")) format) pieces) tasks) file) reports

pub pbcube_join_is_simple : is_simple_and_free pbcube_join ≡ true
unfolding pbcube_join clap_on_literals
pbcube_join_is_simple = refl

-- the line has the values of the matches
pub record IsLineOf (matches : List Row) (line : Line) : Type 0 where
  pub file : first_of (codes "file") matches ≡ Some line.file.now
  pub format : first_of (codes "format") matches ≡ Some (format_name line.format)
  pub pieces : SpellsIfGiven 32 (one_of (codes "pieces") matches) line.pieces
  pub tasks : SpellsIfGiven 32 (one_of (codes "tasks") matches) line.tasks
  pub reports : map (λ name. name.now) line.reports.items ≡ unwrap_or (all_of (codes "reports") matches) []

-- no line, of one piece at least where it tells their number, and that tells no number of tasks then, has the values of the matches
abbrev pub HasNoLine : List Row → Type 0
HasNoLine matches = (line : Line) → IfSome line.pieces (λ n. 1 ≤ n) → IsNone line.pieces ⊎ IsNone line.tasks → IsLineOf matches line → ⊥

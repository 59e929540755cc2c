-- The one command of `pbcube_task`, and what a line takes from its matches.
use Rattle.std.specs.Prelude.{◌≡◌, ◌<◌, ◌≤◌, List, Some, option_map, codes, refl, true, IsSomeAnd}
use Rattle.clap.proofs.OnLiterals.{clap_on_literals}
use Rattle.clap.specs.Words.{App, Row, Rule, first_of, is_simple_and_free, one_of, new_rule, with_rule}
use Rattle.clap.specs.declared.builder.ValueParser.TheVariants as parser
use Rattle.pb_inst.specs.declared.limits.TheConstants.{MAX_WORKERS}
use Rattle.pb_line.specs.Options.{cubes, file, format, nodes, split, with_version, workers}
use Rattle.pb_line.specs.Values.{Spells, SpellsIfGiven}
use Rattle.pb_line.specs.declared.tasks.args.Line.{Line}
use Rattle.pb_read.specs.Format.{format_name}
use Rattle.pb_line.specs.declared.tasks.args.TheConstants.{MAX_TASKS}

-- `--task`, a number from 0 to `MAX_TASKS`, which has to be there
abbrev pub task : Rule
task = record (new_rule (codes "task")) { long = Some (codes "task"); required = true; value_names = 1; parser = Some (parser.Unsigned 0 MAX_TASKS) }

-- `--tasks`, a number from 1 to `MAX_TASKS`, which has to be there
abbrev pub tasks : Rule
tasks = record (new_rule (codes "tasks")) { long = Some (codes "tasks"); required = true; value_names = 1; parser = Some (parser.Unsigned 1 MAX_TASKS) }

-- `--exchange`, which is not empty
abbrev pub exchange : Rule
exchange = record (new_rule (codes "exchange")) { long = Some (codes "exchange"); value_names = 1; parser = Some parser.NonEmptyString }

-- `pbcube_task [--format FORMAT] [--workers W] [--split K] [--cubes FILE] [--nodes B] --task I --tasks T [--exchange DIR] FILE`
unfoldable pub pbcube_task : App
pbcube_task = with_rule (with_rule (with_rule (with_rule (with_rule (with_rule (with_rule (with_rule (with_rule (with_version (codes "pbcube_task")) format) workers) split) cubes) nodes) task) tasks) exchange) file

pub pbcube_task_is_simple : is_simple_and_free pbcube_task ≡ true
unfolding pbcube_task clap_on_literals
pbcube_task_is_simple = refl

-- the line has the values of the matches
pub record IsLineOf (matches : List Row) (line : Line) : Type 0 where
  pub file : first_of (codes "file") matches ≡ Some line.file.now
  pub format : first_of (codes "format") matches ≡ Some (format_name line.format)
  pub cubes : first_of (codes "cubes") matches ≡ option_map (λ name. name.now) line.cubes
  pub workers : IsSomeAnd (one_of (codes "workers") matches) (λ text. Spells 32 text line.workers)
  pub split : IsSomeAnd (one_of (codes "split") matches) (λ text. Spells 32 text line.split)
  pub nodes : SpellsIfGiven 64 (one_of (codes "nodes") matches) line.nodes
  pub task : IsSomeAnd (one_of (codes "task") matches) (λ text. Spells 32 text line.task)
  pub tasks : IsSomeAnd (one_of (codes "tasks") matches) (λ text. Spells 32 text line.tasks)
  pub exchange : first_of (codes "exchange") matches ≡ option_map (λ name. name.now) line.exchange

-- no line, of 1 to `MAX_WORKERS` workers and a task that is one of the tasks, has the values of the matches
abbrev pub HasNoLine : List Row → Type 0
HasNoLine matches = (line : Line) → 1 ≤ line.workers → line.workers ≤ MAX_WORKERS → line.task < line.tasks → IsLineOf matches line → ⊥

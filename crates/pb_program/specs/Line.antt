-- The one command of `pbcube`, and what a line takes from its matches.
use Rattle.std.specs.Prelude.{◌≡◌, ◌≤◌, List, Some, option_map, codes, refl, true, IsSomeAnd}
use Rattle.clap.proofs.OnLiterals.{clap_on_literals}
use Rattle.clap.specs.Words.{App, Row, first_of, is_simple_and_free, one_of, with_rule}
use Rattle.pb_inst.specs.declared.limits.TheConstants.{MAX_WORKERS}
use Rattle.pb_line.specs.Options.{cubes, file, format, nodes, split, with_version, workers}
use Rattle.pb_line.specs.Values.{Spells, SpellsIfGiven}
use Rattle.pb_program.specs.declared.args.Line.{Line}
use Rattle.pb_read.specs.Format.{format_name}

-- `pbcube [--format FORMAT] [--workers W] [--split K] [--cubes FILE] [--nodes B] FILE`
unfoldable pub pbcube : App
pbcube = with_rule (with_rule (with_rule (with_rule (with_rule (with_rule (with_version (codes "pbcube")) format) workers) split) cubes) nodes) file

pub pbcube_is_simple : is_simple_and_free pbcube ≡ true
unfolding pbcube clap_on_literals
pbcube_is_simple = refl

-- the line has the values of the matches
pub record IsLineOf (matches : List Row) (line : Line) : Type 0 where
  pub file : first_of (codes "file") matches ≡ Some line.file.now
  pub cubes : first_of (codes "cubes") matches ≡ option_map (λ name. name.now) line.cubes
  pub format : first_of (codes "format") matches ≡ Some (format_name line.options.format)
  pub workers : IsSomeAnd (one_of (codes "workers") matches) (λ text. Spells 32 text line.options.workers)
  pub split : IsSomeAnd (one_of (codes "split") matches) (λ text. Spells 32 text line.options.split)
  pub nodes : SpellsIfGiven 64 (one_of (codes "nodes") matches) line.options.nodes

-- no line, of 1 to `MAX_WORKERS` workers, has the values of the matches
abbrev pub HasNoLine : List Row → Type 0
HasNoLine matches = (line : Line) → 1 ≤ line.options.workers → line.options.workers ≤ MAX_WORKERS → IsLineOf matches line → ⊥

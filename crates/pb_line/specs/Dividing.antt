-- The one command of `pbcube_pieces`, and what a line takes from its matches.
use Rattle.std.specs.Prelude.{◌≡◌, List, Some, option_map, codes, refl, true, IsSomeAnd}
use Rattle.clap.proofs.OnLiterals.{clap_on_literals}
use Rattle.clap.specs.Words.{App, Row, Rule, first_of, is_simple_and_free, new_rule, one_of, with_rule}
use Rattle.clap.specs.declared.builder.ValueParser.TheVariants as parser
use Rattle.pb_line.specs.Options.{cubes, file, format, split, with_version}
use Rattle.pb_line.specs.Values.{Spells}
use Rattle.pb_line.specs.declared.dividing.args.Line.{Line}
use Rattle.pb_read.specs.Format.{format_name}

-- `--out`, which has to be there and is not empty
abbrev pub out : Rule
out = record (new_rule (codes "out")) { long = Some (codes "out"); required = true; value_names = 1; parser = Some parser.NonEmptyString }

-- `pbcube_pieces [--format FORMAT] [--split K] [--cubes FILE] --out DIR FILE`
unfoldable pub pbcube_pieces : App
pbcube_pieces = with_rule (with_rule (with_rule (with_rule (with_rule (with_version (codes "pbcube_pieces")) format) split) cubes) out) file

pub pbcube_pieces_is_simple : is_simple_and_free pbcube_pieces ≡ true
unfolding pbcube_pieces clap_on_literals
pbcube_pieces_is_simple = refl

-- the line has the values of the matches
pub record IsLineOf (matches : List Row) (line : Line) : Type 0 where
  pub file : first_of (codes "file") matches ≡ Some line.file.now
  pub format : first_of (codes "format") matches ≡ Some (format_name line.format)
  pub cubes : first_of (codes "cubes") matches ≡ option_map (λ name. name.now) line.cubes
  pub split : IsSomeAnd (one_of (codes "split") matches) (λ text. Spells 32 text line.split)
  pub out : first_of (codes "out") matches ≡ Some line.out.now

-- no line has the values of the matches
abbrev pub HasNoLine : List Row → Type 0
HasNoLine matches = (line : Line) → IsLineOf matches line → ⊥

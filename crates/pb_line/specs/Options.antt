-- The options and the operand that the programs share.
use Rattle.std.specs.Prelude.{[], ◌∷◌, Some, codes, true}
use Rattle.clap.specs.Simple.{on_top}
use Rattle.clap.specs.Words.{App, Rule, Text, new_app, new_rule}
use Rattle.clap.specs.declared.builder.ValueParser.TheVariants as parser
use Rattle.pb_inst.specs.declared.limits.TheConstants.{MAX_SPLIT}
use Rattle.pb_inst.specs.declared.limits.TheConstants.{MAX_WORKERS}
use Rattle.pb_line.specs.declared.options.TheConstants.{MAX_NODES}

-- the command of this name whose one option is `--version`, or `-V`
abbrev pub with_version : Text → App
with_version name = on_top (λ shape. record shape { has_version = true }) (new_app name)

-- Help has a name for the value of each, which `value_names` counts; no word is read by it.

-- `--format`, by default `opb`
abbrev pub format : Rule
format = record (new_rule (codes "format")) { long = Some (codes "format"); value_names = 1; defaults = codes "opb" ∷ [] }

-- `--workers`, a number from 1 to `MAX_WORKERS`, by default 1
abbrev pub workers : Rule
workers = record (new_rule (codes "workers")) { long = Some (codes "workers"); value_names = 1; defaults = codes "1" ∷ []; parser = Some (parser.Unsigned 1 MAX_WORKERS) }

-- `--split`, a number from 0 to `MAX_SPLIT`, by default 0
abbrev pub split : Rule
split = record (new_rule (codes "split")) { long = Some (codes "split"); value_names = 1; defaults = codes "0" ∷ []; parser = Some (parser.Unsigned 0 MAX_SPLIT) }

-- `--cubes`
abbrev pub cubes : Rule
cubes = record (new_rule (codes "cubes")) { long = Some (codes "cubes"); value_names = 1 }

-- `--nodes`, a number from 0 to `MAX_NODES`, without a default
abbrev pub nodes : Rule
nodes = record (new_rule (codes "nodes")) { long = Some (codes "nodes"); value_names = 1; parser = Some (parser.Unsigned 0 MAX_NODES) }

-- the file, which has to be there
abbrev pub file : Rule
file = record (new_rule (codes "file")) { required = true; value_names = 1 }

use Rattle.std.proofs.Common.{rules, ◌≡◌, ◌∙◌, ap, Some}
use Rattle.clap.specs.declared.builder.ValueParser.TheVariants as parser
use Rattle.pb_line.specs.declared.options.TheConstants.{MAX_NODES}
use Rattle.pb_line.proofs.options.nodes_option.Goals as goal

pub returns-clause-rule : goal.returns-clause-rule
returns-clause-rule c =
    let given = c.value_parser.ensures.given in
    let parser_is : c.value_parser.result.value_parser ≡ Some (parser.Unsigned 0 MAX_NODES) = given.1 ∙ ap (λ q. Some q) given.2 in
    search (rules, parser_is)

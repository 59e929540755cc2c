use Rattle.std.proofs.Common.{rules, ◌≡◌, ◌∙◌, ap, Some}
use Rattle.pb_inst.specs.declared.limits.TheConstants.{MAX_SPLIT}
use Rattle.clap.specs.declared.builder.ValueParser.TheVariants as parser
use Rattle.pb_line.proofs.options.split_option.Goals as goal

pub returns-clause-rule : goal.returns-clause-rule
returns-clause-rule c =
    let given = c.value_parser.ensures.given in
    let parser_is : c.value_parser.result.value_parser ≡ Some (parser.Unsigned 0 MAX_SPLIT) = given.1 ∙ ap (λ q. Some q) given.2 ∙ ap (λ most. Some (parser.Unsigned 0 most)) c.from.ensures in
    search (rules, parser_is)

use Rattle.std.proofs.Common.{ap₂, ◌∙◌}
use Rattle.clap.specs.Words.{with_rule}
use Rattle.pb_program.specs.Line.{pbcube}
use Rattle.pb_program.proofs.command.command.Goals as goal

pub returns : goal.returns
unfolding pbcube
returns c =
    c.in_ok-command.ensures.shape c.file_operand.ensures.local
    ∙ ap₂ with_rule (c.in_ok-arg-5.ensures.shape c.nodes_option.ensures.local
    ∙ ap₂ with_rule (c.in_ok-arg-4.ensures.shape c.cubes_option.ensures.local
    ∙ ap₂ with_rule (c.in_ok-arg-3.ensures.shape c.split_option.ensures.local
    ∙ ap₂ with_rule (c.in_ok-arg-2.ensures.shape c.workers_option.ensures.local
    ∙ ap₂ with_rule (c.in_ok-arg.ensures.shape c.format_option.ensures.local
    ∙ ap₂ with_rule c.named-whole.ensures c.format_option.ensures.rule) c.workers_option.ensures.rule) c.split_option.ensures.rule) c.cubes_option.ensures.rule) c.nodes_option.ensures.rule) c.file_operand.ensures.rule

use Rattle.std.proofs.Common.{ap₂, ◌∙◌}
use Rattle.clap.specs.Words.{with_rule}
use Rattle.pb_line.specs.Joining.{pbcube_join}
use Rattle.pb_line.proofs.joining.command.command.Goals as goal

pub returns : goal.returns
unfolding pbcube_join
returns c =
    c.in_ok-command.ensures.shape c.report_operands.ensures.local
    ∙ ap₂ with_rule (c.in_ok-arg-4.ensures.shape c.file_operand.ensures.local
    ∙ ap₂ with_rule (c.in_ok-arg-3.ensures.shape c.tasks_option.ensures.local
    ∙ ap₂ with_rule (c.in_ok-arg-2.ensures.shape c.pieces_option.ensures.local
    ∙ ap₂ with_rule (c.in_ok-arg.ensures.shape c.format_option.ensures.local
    ∙ ap₂ with_rule c.named-whole.ensures c.format_option.ensures.rule) c.pieces_option.ensures.rule) c.tasks_option.ensures.rule) c.file_operand.ensures.rule) c.report_operands.ensures.rule

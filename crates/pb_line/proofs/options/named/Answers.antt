use Rattle.std.proofs.Common.{ap, true, ◌∙◌}
use Rattle.clap.specs.Simple.{app_of_fields, on_top}
use Rattle.pb_line.proofs.options.named.Goals as goal

pub returns : goal.returns
returns c =
    ap app_of_fields c.version.ensures
    ∙ ap (on_top (λ shape. record shape { has_version = true }))
    (ap app_of_fields c.after_long_help.ensures
    ∙ ap app_of_fields c.long_about.ensures
    ∙ ap app_of_fields c.about.ensures
    ∙ c.new.ensures.app)

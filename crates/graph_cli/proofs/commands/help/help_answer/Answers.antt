use Rattle.std.proofs.Common.{ap, ◌++◌, ◌∙◌}
use Rattle.answers.specs.Lines.{done}
use Rattle.graph_cli.specs.Help.{help_text, help_stage}
use Rattle.graph_cli.proofs.commands.help.help_answer.Goals as goal

pub returns : goal.returns
unfolding help_stage
returns c = c.done.ensures ∙ ap done (c.in_ok-append.ensures.appended ∙ ap (λ old. old ++ help_text) c.new-text.ensures)

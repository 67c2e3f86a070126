use Rattle.std.proofs.Common.{◌∙◌, ap, ◌++◌}
use Rattle.case_model.specs.CaseView.{content}
use Rattle.entangled.specs.CaseNetView.{case_state}
use Rattle.text_lines.specs.Spelling.{text_of}
use Rattle.graph_update.specs.UpdateText.{components_lines}
use Rattle.graph_update.proofs.TextSteps.{whole_text}
use Rattle.graph_update.proofs.text.text_of.Goals as goal

pub returns : goal.returns
returns c = whole_text (content c.args.case.now).names (case_state c.args.nets.now) c.put_components.new.text c.put_levels.new.text c.append.new.self
    (c.in_ok-put_components.ensures ∙ ap (λ t. t ++ text_of (components_lines (content c.args.case.now).names (case_state c.args.nets.now))) c.new-text.ensures)
    c.in_ok-put_levels.ensures c.in_ok-append.ensures.appended

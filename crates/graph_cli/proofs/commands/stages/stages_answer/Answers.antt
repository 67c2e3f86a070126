use Rattle.std.proofs.Common.{inl}
use Rattle.case_model.specs.CaseView.{content}
use Rattle.graph_cli.specs.Stages.{stages_stage}
use Rattle.graph_cli.specs.declared.trouble.Trouble.{Trouble}
use Rattle.graph_cli.proofs.HandedOn.{part_err_on}
use Rattle.graph_cli.proofs.Refusing.{looks_refuse}
use Rattle.graph_cli.proofs.commands.stages.stages_answer.Goals as goal

pub returns-in_err-looks : goal.returns-in_err-looks
unfolding stages_stage
returns-in_err-looks c =
    part_err_on _ _ _ _ c.from_residual.ensures.1 (λ (t : Trouble) h. inl h)
    (looks_refuse (content c.args.case.now) c.in_err-looks.field-0.0 c.in_err-looks.ensures.fault)

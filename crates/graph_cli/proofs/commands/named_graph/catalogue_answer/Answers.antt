use Rattle.std.proofs.Common.{◌≡◌, ap, ◌∙◌, subst, inl, Some}
use Rattle.answers.specs.Lines.{done}
use Rattle.case_model.specs.CaseView.{content}
use Rattle.graph_cli.specs.Catalogue.{refusal_of}
use Rattle.graph_cli.specs.Graphs.{named_case, reported_size, catalogue_stage}
use Rattle.graph_cli.proofs.MadeAnswers.{fault_reported}
use Rattle.graph_cli.proofs.commands.named_graph.catalogue_answer.Goals as goal

pub returns-in_ok-write_text-in-Ok : goal.returns-in_ok-write_text-in-Ok
unfolding catalogue_stage
returns-in_ok-write_text-in-Ok c = (content c.in-Ok.case, c.in-Ok.ensures.case, c.done.ensures ∙ ap done c.in_ok-write_text-in-Ok.ensures.canonical)

pub returns-in_ok-catalogue_refusal-in-Err : goal.returns-in_ok-catalogue_refusal-in-Err
unfolding catalogue_stage
returns-in_ok-catalogue_refusal-in-Err c =
    inl (fault_reported (reported_size c.args.graph) (named_case c.args.graph) c.in-Err.fault _ c.in-Err.ensures.fault
    (subst (λ n. refusal_of n c.in-Err.fault ≡ Some c.in_ok-catalogue_refusal-in-Err.field-0) c.reported_size.ensures c.in_ok-catalogue_refusal-in-Err.ensures))

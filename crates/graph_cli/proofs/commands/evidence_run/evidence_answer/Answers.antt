use Rattle.std.proofs.Common.{inl, inr}
use Rattle.case_model.specs.CaseView.{content}
use Rattle.evidence.proofs.MakeAnswers.{decision_order}
use Rattle.graph_cli.specs.Check.{said_of}
use Rattle.graph_cli.specs.Evidence.{evidence_stage}
use Rattle.graph_cli.specs.declared.trouble.Trouble.{Trouble}
use Rattle.graph_cli.proofs.HandedOn.{part_err_on}
use Rattle.graph_cli.proofs.commands.evidence_run.evidence_answer.Goals as goal

pub make_evidence-requires-clause-order : goal.make_evidence-requires-clause-order
make_evidence-requires-clause-order c =
    decision_order (content c.args.case.now) c.args.priority c.in_ok-decision.decision c.args.case.now.valid c.in_ok-decision.ensures.1

pub checked_text-requires-clause-order : goal.checked_text-requires-clause-order
checked_text-requires-clause-order c =
    decision_order (content c.args.case.now) c.args.priority c.in_ok-decision.decision c.args.case.now.valid c.in_ok-decision.ensures.1

pub returns-in_err-text : goal.returns-in_err-text
unfolding evidence_stage
returns-in_err-text c =
    part_err_on _ _ _ _ c.from_residual-in_err-text.ensures.1 (λ (t : Trouble) h. inr (
      c.in_ok-decision.decision,
      c.in_ok-decision.ensures,
      inr (said_of c.in_ok-proof.proof, c.in_ok-proof.ensures.meets, inl h),
    )) c.in_err-text.ensures

pub returns : goal.returns
unfolding evidence_stage
returns c = (
  c.in_ok-decision.decision,
  c.in_ok-decision.ensures,
  (said_of c.in_ok-proof.proof, c.in_ok-proof.ensures.meets, (c.in_ok-text.text, c.in_ok-text.ensures, c.done.ensures)),
)

use Rattle.std.proofs.Common.{inl, inr}
use Rattle.case_model.specs.CaseView.{content}
use Rattle.evidence_check.proofs.DocumentLaws.{evidence_found}
use Rattle.graph_cli.specs.Check.{said_of, check_stage}
use Rattle.graph_cli.specs.declared.trouble.Trouble.{Trouble}
use Rattle.graph_cli.proofs.HandedOn.{err_on, part_err_on}
use Rattle.graph_cli.proofs.Refusing.{text_refuses}
use Rattle.graph_cli.proofs.commands.check.check_answer.Goals as goal

pub returns-in_err-proof : goal.returns-in_err-proof
unfolding check_stage
returns-in_err-proof c =
    part_err_on _ _ _ _ c.from_residual.ensures.1 (λ (t : Trouble) h. inl h)
    (text_refuses (content c.args.case.now) c.args.bytes.now c.in_err-proof.field-0.0 c.in_err-proof.ensures.read)

pub returns-in_err-verdict : goal.returns-in_err-verdict
unfolding check_stage
returns-in_err-verdict c =
    let proof = c.in_ok-proof.proof in
    err_on _ _ _ c.from_residual-in_err-verdict.ensures.1 (inr (
      said_of proof,
      evidence_found (content c.args.case.now) c.args.bytes.now proof c.in_ok-proof.ensures.read,
      inl c.in_err-verdict.ensures,
    ))

pub returns : goal.returns
unfolding check_stage
returns c =
    let proof = c.in_ok-proof.proof in (
      said_of proof,
      evidence_found (content c.args.case.now) c.args.bytes.now proof c.in_ok-proof.ensures.read,
      (c.in_ok-verdict.verdict, c.in_ok-verdict.ensures, c.in_ok-answer_to.ensures),
    )

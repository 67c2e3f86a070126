use Rattle.std.proofs.Common.{ap, ◌∙◌}
use Rattle.std.specs.List.{slice_get}
use Rattle.evidence_check.specs.EvidenceView.{hypotheses_of}
use Rattle.refusals.proofs.Hypotheses.{plain_listed, eps_listed}
use Rattle.refusals.proofs.proof.step_at.Goals as goal

pub returns-in-Plain : goal.returns-in-Plain
returns-in-Plain c = c.listed_at.ensures ∙ ap (λ ss. slice_get (hypotheses_of ss) c.args.r) c.as_slice.ensures
    ∙ ap (λ js. slice_get js c.args.r) (plain_listed c.in-Plain.proof c.args.proof.now c.in-Plain.is)

pub returns-in-Eps : goal.returns-in-Eps
returns-in-Eps c = c.listed_at-in-Eps.ensures ∙ ap (λ ss. slice_get (hypotheses_of ss) c.args.r) c.as_slice-in-Eps.ensures
    ∙ ap (λ js. slice_get js c.args.r) (eps_listed c.in-Eps.proof c.args.proof.now c.in-Eps.is)

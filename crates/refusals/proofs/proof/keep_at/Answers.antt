use Rattle.std.proofs.Common.{ap, ◌∙◌, map}
use Rattle.std.specs.List.{slice_get}
use Rattle.refusals.proofs.Hypotheses.{plain_kept, eps_kept}
use Rattle.refusals.proofs.proof.keep_at.Goals as goal

pub returns-in-Plain : goal.returns-in-Plain
returns-in-Plain c = c.kept_at.ensures ∙ ap (λ xs. slice_get (map (λ x. x.hypothesis) xs) c.args.x) c.as_slice.ensures
    ∙ ap (λ ks. slice_get ks c.args.x) (plain_kept c.in-Plain.proof c.args.proof.now c.in-Plain.is)

pub returns-in-Eps : goal.returns-in-Eps
returns-in-Eps c = c.kept_at-in-Eps.ensures ∙ ap (λ xs. slice_get (map (λ x. x.hypothesis) xs) c.args.x) c.as_slice-in-Eps.ensures
    ∙ ap (λ ks. slice_get ks c.args.x) (eps_kept c.in-Eps.proof c.args.proof.now c.in-Eps.is)

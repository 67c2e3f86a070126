use Rattle.std.proofs.Common.{ℕ, List, ap, subst, ◌∙◌}
use Rattle.case_model.specs.CaseView.{content}
use Rattle.closed_test.specs.SetLists.{AreSetsInOrder}
use Rattle.discovery_bound.specs.BoundsView.{bound_of}
use Rattle.report.specs.BoundsReport.{bounds_report}
use Rattle.std.proofs.lemmas.Result.{IfOk-weaker}
use Rattle.report.proofs.bounds.bounds_text.Goals as goal

pub returns : goal.returns
returns c = IfOk-weaker c.text_of_sets.result _ _ (λ (text : List ℕ) e. (
  c.in_ok-sets.sets,
  subst (λ n. AreSetsInOrder n c.in_ok-sets.sets) c.size.ensures.count c.in_ok-sets.ensures,
  e ∙ ap (bounds_report (content c.args.case.now) (bound_of c.args.bounds.now)) c.as_slice.ensures,
)) c.text_of_sets.ensures

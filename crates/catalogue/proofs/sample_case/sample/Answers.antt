use Rattle.std.proofs.Common.{ap, ◌∙◌}
use Rattle.std.proofs.lemmas.Result.{IfOk-weaker}
use Rattle.case_model.specs.CaseView.{content}
use Rattle.catalogue.specs.Samples.{sample_p_values}
use Rattle.catalogue.proofs.SampleInputs.{sample_inputs}
use Rattle.catalogue.proofs.sample_case.sample.Goals as goal

pub returns-clause-p_values : goal.returns-clause-p_values
returns-clause-p_values c =
    IfOk-weaker c.made.result _ _
    (λ k h. sample_inputs _ _ _ _ c.args.n c.args.seed (content k) c.in_ok-size.ensures.size c.in_ok-size.ensures.range.0
    (c.as_slice.ensures ∙ c.in_ok-p.ensures.p_values ∙ ap (sample_p_values c.in_ok-size.size) c.new-generator.ensures) h) c.made.ensures.case

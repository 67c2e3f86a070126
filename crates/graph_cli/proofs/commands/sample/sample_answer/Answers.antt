use Rattle.std.proofs.Common.{inl, inr, sym, subst}
use Rattle.answers.specs.declared.refusal.Refusal.{Refusal}
use Rattle.answers.proofs.Stopping.{value_ends}
use Rattle.case_model.specs.CaseView.{content}
use Rattle.catalogue.specs.Makings.{sample_case}
use Rattle.graph_cli.specs.Accepted.{IsOfKind}
use Rattle.graph_cli.specs.Sample.{sample_stage}
use Rattle.graph_cli.specs.declared.kind.InputKind.TheVariants.{Single}
use Rattle.graph_cli.proofs.HandedOn.{reported_ends}
use Rattle.graph_cli.proofs.MadeAnswers.{fault_reported}
use Rattle.graph_cli.proofs.commands.sample.sample_answer.Goals as goal

pub decide_sample-requires : goal.decide_sample-requires
decide_sample-requires c = subst (λ i. IsOfKind Single i) (sym c.in-Ok.ensures.p_values) tt

pub returns-in-Ok : goal.returns-in-Ok
unfolding sample_stage
returns-in-Ok c =
    value_ends _ _ c.ending_of.result (λ x h. (content c.in-Ok.case, c.in-Ok.ensures.case, h))
    (λ (r : Refusal) h. inr (content c.in-Ok.case, c.in-Ok.ensures.case, h)) tt
    (reported_ends _ _ c.decide_sample.result c.ending_of.result c.decide_sample.ensures c.ending_of.ensures)

pub returns-in_ok-catalogue_refusal-in-Err : goal.returns-in_ok-catalogue_refusal-in-Err
unfolding sample_stage
returns-in_ok-catalogue_refusal-in-Err c =
    inl (fault_reported c.args.size (sample_case c.args.size c.args.seed) c.in-Err.fault _ c.in-Err.ensures.fault c.in_ok-catalogue_refusal-in-Err.ensures)

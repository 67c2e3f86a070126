-- `stages` has at most one outcome on a case.
use Rattle.std.proofs.Common.{sym, ap, ap₂, ◌∙◌, inl, inr}
use Rattle.answers.specs.Stages.{IsDecided}
use Rattle.answers.proofs.Decided.{then_decided, only_decided}
use Rattle.case_model.specs.Content.{Content}
use Rattle.staged_levels.proofs.LookLaws.{looks_unique, looks_not_broken, breaks_unique, not_opened, one_opening}
use Rattle.refusals.specs.declared.wide.When.TheVariants.{Opening, Arrival}
use Rattle.graph_cli.specs.declared.trouble.Trouble.TheVariants.{Wide}
use Rattle.graph_cli.specs.Stages.{looked, stages_stage}

looked_decided : (c : Content) → IsDecided (looked c)
looked_decided c = record {
  one = λ xs ys h k. looks_unique c xs ys h k;
  one_refusal = λ r q h k. elim h [
    | inl a ↦ elim k [
      | inl b ↦ a.2 ∙ ap (Wide Opening) (one_opening c a.0 b.0 a.1 b.1) ∙ sym b.2
      | inr b ↦ absurd (not_opened c a.0 a.1 b.2.opened)
    ]
    | inr a ↦ elim k [
      | inl b ↦ absurd (not_opened c b.0 b.1 a.2.opened)
      | inr b ↦ let e = breaks_unique c a.0 b.0 a.1 b.1 a.2 b.2 in a.3 ∙ ap₂ (λ n w. Wide (Arrival n) w) e.0 e.1 ∙ sym b.3
    ]
  ];
  not_both = λ xs r h k. elim k [
    | inl b ↦ not_opened c b.0 b.1 h.opened
    | inr b ↦ looks_not_broken c xs b.0 b.1 h b.2
  ];
}

pub stages_decided : (c : Content) → IsDecided (stages_stage c)
unfolding stages_stage
stages_decided c = then_decided _ _ (looked_decided c) (λ xs. only_decided _)

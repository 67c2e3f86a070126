-- `sample` has at most one outcome.
use Rattle.std.proofs.Common.{ℕ}
use Rattle.answers.specs.Stages.{IsDecided}
use Rattle.answers.proofs.Decided.{stage_decided, then_decided, told_as_decided, told_if_decided, only_decided}
use Rattle.catalogue.specs.Makings.{sample_case}
use Rattle.sequential.specs.declared.priority.Priority.TheVariants.{First}
use Rattle.graph_cli.specs.Catalogue.{refusal_of}
use Rattle.graph_cli.specs.Sample.{decided_sample, sample_stage}
use Rattle.graph_cli.specs.Troubles.{line_of}
use Rattle.graph_cli.proofs.TestAnswers.{decision_decided}

pub sample_decided : (size seed : ℕ) → IsDecided (sample_stage size seed)
unfolding sample_stage
sample_decided size seed = then_decided _ _ (told_if_decided (refusal_of size) _ (stage_decided (sample_case size seed)))
    (λ c. told_as_decided (line_of c.names) (decided_sample seed c) (then_decided _ _ (decision_decided First c) (λ d. only_decided _)))

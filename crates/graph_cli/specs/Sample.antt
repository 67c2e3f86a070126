-- What `sample` answers.
use Rattle.std.specs.Prelude.{ℕ}
use Rattle.answers.specs.declared.answer.Answer.{Answer}
use Rattle.answers.specs.declared.refusal.Refusal.{Refusal}
use Rattle.answers.specs.Lines.{done}
use Rattle.answers.specs.Stages.{Stage, and_then, told_as, only}
use Rattle.case_model.specs.Content.{Content}
use Rattle.catalogue.specs.Makings.{sample_case}
use Rattle.report.specs.SampleReport.{sample_report}
use Rattle.sequential.specs.declared.priority.Priority.TheVariants.{First}
use Rattle.graph_cli.specs.Catalogue.{made_of}
use Rattle.graph_cli.specs.Test.{decided}
use Rattle.graph_cli.specs.Troubles.{line_of}
use Rattle.graph_cli.specs.declared.trouble.Trouble.{Trouble}

-- the decision on a sample, and the report of both
abbrev pub decided_sample : ℕ → Content → Stage Trouble Answer
decided_sample seed c = and_then (decided First c) (λ decision. only (done (sample_report c seed decision)))

-- the sample, and the report of the decision on it
unfoldable pub sample_stage : ℕ → ℕ → Stage Refusal Answer
sample_stage size seed = and_then (made_of size (sample_case size seed)) (λ c. told_as (line_of c.names) (decided_sample seed c))

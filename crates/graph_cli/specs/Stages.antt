-- What `stages` answers.
use Rattle.std.specs.Prelude.{◌≡◌, ◌⊎◌, ℕ, List, Err}
use Rattle.field_core.specs.declared.place.WideAt.{WideAt}
use Rattle.answers.specs.declared.answer.Answer.{Answer}
use Rattle.answers.specs.Lines.{done}
use Rattle.answers.specs.Stages.{Stage, and_then, only}
use Rattle.case_model.specs.Content.{Content}
use Rattle.entangled.specs.CaseRun.{case_opening}
use Rattle.refusals.specs.declared.wide.When.TheVariants.{Opening, Arrival}
use Rattle.report.specs.StagesReport.{stages_report}
use Rattle.staged_levels.specs.declared.event.Settled.{Settled}
use Rattle.staged_levels.specs.Looks.{AreLooks, BreaksOff}
use Rattle.graph_cli.specs.declared.trouble.Trouble.{Trouble}
use Rattle.graph_cli.specs.declared.trouble.Trouble.TheVariants as troubles

-- the looks at a case, or the first operation that is undefined: of the opening, or of the settling after an arrival
abbrev pub looked : Content → Stage Trouble (List (List Settled))
looked c = record {
  Gives = AreLooks c;
  Refuses = λ r.
      ((wide : WideAt) × (case_opening c ≡ Err wide) × (r ≡ troubles.Wide Opening wide))
      ⊎ ((n : ℕ) × (wide : WideAt) × BreaksOff c n wide × (r ≡ troubles.Wide (Arrival n) wide));
}

-- the looks, and the report of them
unfoldable pub stages_stage : Content → Stage Trouble Answer
stages_stage c = and_then (looked c) (λ looks. only (done (stages_report c looks)))

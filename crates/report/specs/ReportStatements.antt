-- What is known of the decisions and of the looks that are printed.
use Rattle.std.specs.Prelude.{◌≡◌, List, length}
use Rattle.std.specs.List.{All}
use Rattle.case_model.specs.Content.{Content}
use Rattle.sequential.specs.declared.decision.Decision.{Decision}
use Rattle.sequential.specs.Decisions.{IsDecision}
use Rattle.sequential.specs.declared.priority.Priority.{Priority}
use Rattle.staged_levels.specs.declared.event.Settled.{Settled}
use Rattle.staged_levels.specs.Looks.{arrivals_of, AreLooks}
use Rattle.report.specs.StagesReport.{AreRejectionsOf}
use Rattle.report.specs.TestReport.{AreOfCase}

-- each line of the decision on a case is of a hypothesis of the case
abbrev pub DecisionsAreOfTheirCases : Type 0
DecisionsAreOfTheirCases = (c : Content) (priority : Priority) (d : Decision) → IsDecision c priority d → AreOfCase c d.steps × AreOfCase c d.kept

-- there is a look for each arrival of a case, and each rejection in a look is of a hypothesis of the case
abbrev pub LooksAreOfTheirCases : Type 0
LooksAreOfTheirCases = (c : Content) (looks : List (List Settled)) → AreLooks c looks
    → (length looks ≡ length (arrivals_of c.inputs)) × All (AreRejectionsOf c) looks

-- The answer of each command.
use Rattle.std.specs.Prelude.{◌≡◌, ℕ, ◌⊎◌, List, Option, codes}
use Rattle.graph_io.specs.Causes.{Rose}
use Rattle.answers.specs.declared.answer.Answer.{Answer}
use Rattle.answers.specs.declared.refusal.Refusal.{Refusal}
use Rattle.answers.specs.Devices.{Reading}
use Rattle.answers.specs.Stages.{Stage, and_then, told_as, on_bytes, within}
use Rattle.answers.specs.Ways.{Ways, over_source}
use Rattle.case_model.specs.Content.{Content}
use Rattle.command_words.specs.Asked.{Encoding, Asked, on_case as task_on_case, check, catalogue, sample, help}
use Rattle.command_words.specs.declared.command.CaseTask.{CaseTask}
use Rattle.command_words.specs.declared.command.CaseTask.TheVariants as tasks
use Rattle.graph_cli.specs.Accepted.{accepted}
use Rattle.graph_cli.specs.Bounds.{bounds_stage}
use Rattle.graph_cli.specs.Canon.{canon_stage}
use Rattle.graph_cli.specs.Graphs.{catalogue_stage}
use Rattle.graph_cli.specs.Check.{check_stage}
use Rattle.graph_cli.specs.Evidence.{evidence_stage}
use Rattle.graph_cli.specs.Help.{help_stage}
use Rattle.graph_cli.specs.Stages.{stages_stage}
use Rattle.graph_cli.specs.Sample.{sample_stage}
use Rattle.graph_cli.specs.Simes.{simes_stage}
use Rattle.graph_cli.specs.Test.{test_stage}
use Rattle.graph_cli.specs.Weights.{weights_stage}
use Rattle.graph_cli.specs.declared.kind.InputKind.TheVariants.{Any, Single, Staged}
use Rattle.graph_cli.specs.declared.needs.Needs.{Needs}
use Rattle.graph_cli.specs.declared.trouble.Trouble.{Trouble}
use Rattle.graph_cli.specs.Troubles.{line_of}

-- what a task needs of its case
unfoldable pub needs_of : CaseTask → Needs
needs_of (tasks.Test priority) = record { kind = Single; most = 64 }
needs_of tasks.Weights = record { kind = Any; most = 16 }
needs_of tasks.Bounds = record { kind = Single; most = 16 }
needs_of tasks.Simes = record { kind = Single; most = 16 }
needs_of (tasks.Evidence priority) = record { kind = Single; most = 64 }
needs_of tasks.Stages = record { kind = Staged; most = 64 }
needs_of (tasks.Canon format) = record { kind = Any; most = 64 }

-- the answer of a task for a case that it can take
unfoldable pub on_case : CaseTask → Content → Stage Trouble Answer
on_case (tasks.Test priority) c = test_stage priority c
on_case tasks.Weights c = weights_stage c
on_case tasks.Bounds c = bounds_stage c
on_case tasks.Simes c = simes_stage c
on_case (tasks.Evidence priority) c = evidence_stage priority c
on_case tasks.Stages c = stages_stage c
on_case (tasks.Canon format) c = canon_stage format c

-- a task on a case alone
unfoldable pub case_call : Encoding → CaseTask → Option (List ℕ) → Stage Refusal Answer
case_call format task case = and_then (accepted format (needs_of task) case) (λ c. told_as (line_of c.names) (on_case task c))

-- what `check` needs of its case
unfoldable pub check_needs : Needs
check_needs = record { kind = Single; most = 64 }

-- `check`: a case that it can take, and then the text of the evidence
unfoldable pub check_call : Encoding → Option (List ℕ) → Option (List ℕ) → Stage Refusal Answer
check_call format case proof = and_then (accepted format check_needs case) (λ c. and_then (on_bytes proof (within (codes "proof "))) (λ bytes. told_as (line_of c.names) (check_stage c bytes)))

-- the source denotes a case that `check` can take
abbrev pub IsCheckable : Encoding → Option (List ℕ) → Type 0
IsCheckable format case = (c : Content) × (accepted format check_needs case).Gives c

-- the source denotes no case that `check` can take
abbrev pub IsUncheckable : Encoding → Option (List ℕ) → Type 0
IsUncheckable format case = (r : Refusal) × (accepted format check_needs case).Refuses r

-- The ways in which `check` may end, by what its case and its proof were and are.
abbrev pub check_ways : Encoding → (case_old case_new proof_old proof_new : Reading) → Ways Answer
check_ways format case_old case_new proof_old proof_new = over_source (check_call format case_old.left proof_old.left)
    (Rose case_old.faults case_new.faults ⊎ (IsCheckable format case_old.left × Rose proof_old.faults proof_new.faults))
    ((case_new.faults ≡ case_old.faults) × (proof_new.faults ≡ proof_old.faults))

-- the answer of a command for a case and a proof
unfoldable pub call_of : Asked → Option (List ℕ) → Option (List ℕ) → Stage Refusal Answer
call_of (task_on_case format task) case proof = case_call format task case
call_of (catalogue graph) case proof = catalogue_stage graph
call_of (check format file) case proof = check_call format case proof
call_of (sample size seed) case proof = sample_stage size seed
call_of help case proof = help_stage

-- a command reads a case
unfoldable pub TakesCase : Asked → Type 0
TakesCase (task_on_case format task) = Unit {0}
TakesCase (catalogue graph) = ⊥
TakesCase (check format file) = Unit {0}
TakesCase (sample size seed) = ⊥
TakesCase help = ⊥

-- a command reads a proof, after a case that it can take
unfoldable pub TakesProof : Asked → Option (List ℕ) → Type 0
TakesProof (task_on_case format task) case = ⊥
TakesProof (catalogue graph) case = ⊥
TakesProof (check format file) case = IsCheckable format case
TakesProof (sample size seed) case = ⊥
TakesProof help case = ⊥

-- a command that reads a proof can't take the case, which it reads first
unfoldable pub StopsAtCase : Asked → Option (List ℕ) → Type 0
StopsAtCase (task_on_case format task) case = ⊥
StopsAtCase (catalogue graph) case = ⊥
StopsAtCase (check format file) case = IsUncheckable format case
StopsAtCase (sample size seed) case = ⊥
StopsAtCase help case = ⊥

-- a source that a command reads had a fault
abbrev pub CallFault : Asked → Option (List ℕ) → Type 0 → Type 0 → Type 0
CallFault command case case_rose proof_rose = (TakesCase command × case_rose) ⊎ (TakesProof command case × proof_rose)

-- The ways in which a command may end, by what its case and its proof were and are.
abbrev pub command_ways : Asked → (case_old case_new proof_old proof_new : Reading) → Ways Answer
command_ways command case_old case_new proof_old proof_new = over_source (call_of command case_old.left proof_old.left)
    (CallFault command case_old.left (Rose case_old.faults case_new.faults) (Rose proof_old.faults proof_new.faults))
    ((case_new.faults ≡ case_old.faults) × (proof_new.faults ≡ proof_old.faults))

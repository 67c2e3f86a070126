-- Why a command gives no answer for a case, and how this is reported.
use Rattle.std.specs.Prelude.{◌≡◌, ◌⊎◌, ℕ, List, Result, Ok, Err}
use Rattle.answers.specs.Stages.{Stage}
use Rattle.answers.specs.declared.answer.Answer.{Answer}
use Rattle.answers.specs.declared.refusal.Refusal.{Refusal}
use Rattle.answers.specs.declared.stop.Stop.{Stop}
use Rattle.answers.specs.declared.stop.Stop.TheVariants as stops
use Rattle.closed_test.specs.declared.fault.ClosedFault.{ClosedFault}
use Rattle.closed_test.specs.declared.fault.ClosedFault.TheVariants as sets
use Rattle.evidence_check.specs.declared.fault.ProofText.{ProofText}
use Rattle.evidence_check.specs.declared.fault.ProofText.TheVariants as texts
use Rattle.refusals.specs.NeedRefusal.{kind_refusal, closure_refusal}
use Rattle.refusals.specs.ProofRefusal.{proof_refusal}
use Rattle.refusals.specs.WideRefusal.{wide_refusal}
use Rattle.refusals.specs.declared.wide.When.TheVariants.{Step, AdjustedStep, EvidenceStep, Set, SimesSet, Opening, Arrival}
use Rattle.graph_cli.specs.declared.no_answer.NoAnswer.{NoAnswer}
use Rattle.graph_cli.specs.declared.no_answer.NoAnswer.TheVariants.{Refused, NoMemory}
use Rattle.graph_cli.specs.declared.no_answer.Run.{Run}
use Rattle.graph_cli.specs.declared.no_answer.Run.TheVariants.{Deciding, Adjusting, Flows}
use Rattle.graph_cli.specs.declared.trouble.Trouble.{Trouble}
use Rattle.graph_cli.specs.declared.trouble.Trouble.TheVariants.{Kind, Closure, Wide, Proof}
use Rattle.sequential.specs.declared.fault.RunFault.{RunFault}
use Rattle.sequential.specs.declared.fault.RunFault.TheVariants as runs
use Rattle.simes_test.specs.declared.fault.SimesFault.{SimesFault}
use Rattle.simes_test.specs.declared.fault.SimesFault.TheVariants as simes
use Rattle.staged_levels.specs.declared.case_looks.LooksFault.{LooksFault}
use Rattle.staged_levels.specs.declared.case_looks.LooksFault.TheVariants as looks

-- What holds of the trouble if a command refuses its case. Nothing is claimed of out-of-memory.
abbrev pub IfRefused : NoAnswer → (Trouble → Type 0) → Type 0
IfRefused (Refused t) P = P t
IfRefused NoMemory P = Unit {0}

-- a stage gave this value, or refuses in this way
abbrev pub Meets : {A : Type 0} → Stage Trouble A → Result A NoAnswer → Type 0
Meets s (Ok x) = s.Gives x
Meets s (Err none) = IfRefused none s.Refuses

-- the first operation of a run that is undefined, by its step
abbrev pub of_run : Run → RunFault → NoAnswer
of_run Deciding (runs.Wide n wide) = Refused (Wide (Step n) wide)
of_run Adjusting (runs.Wide n wide) = Refused (Wide (AdjustedStep n) wide)
of_run Flows (runs.Wide n wide) = Refused (Wide (EvidenceStep n) wide)
of_run run runs.NoMemory = NoMemory

-- too many hypotheses, or the first set whose run is undefined
abbrev pub of_sets : ClosedFault → NoAnswer
of_sets (sets.TooMany n) = Refused (Closure n)
of_sets (sets.Wide n wide) = Refused (Wide (Set n) wide)
of_sets sets.NoMemory = NoMemory

-- the first set with a sum that isn't defined
abbrev pub of_simes : SimesFault → NoAnswer
of_simes (simes.Wide n wide) = Refused (Wide (SimesSet n) wide)
of_simes simes.NoMemory = NoMemory

-- the opening if it is undefined, or the first arrival after which the settling is
abbrev pub of_looks : LooksFault → NoAnswer
of_looks (looks.Opening wide) = Refused (Wide Opening wide)
of_looks (looks.Arriving n wide) = Refused (Wide (Arrival n) wide)
of_looks looks.NoMemory = NoMemory

-- the first line of evidence that is not allowed
abbrev pub of_text : ProofText → NoAnswer
of_text (texts.Line n kind) = Refused (Proof n kind)
of_text texts.NoMemory = NoMemory

-- the line that reports a trouble, with the names of a case
abbrev pub line_of : List (List ℕ) → Trouble → Refusal
line_of names Kind = kind_refusal
line_of names (Closure n) = closure_refusal n
line_of names (Wide when wide) = wide_refusal names when wide
line_of names (Proof n kind) = proof_refusal n kind

-- a call stops at a trouble: with the line that reports it, or out of memory
abbrev pub StopsAt : List (List ℕ) → Trouble → Stop → Type 0
StopsAt names t stop = (stop ≡ stops.NoMemory) ⊎ (stop ≡ stops.Refused (line_of names t))

-- a call stops as its command gives no answer: at the trouble, or out of memory
abbrev pub StopsFor : List (List ℕ) → NoAnswer → Stop → Type 0
StopsFor names (Refused t) stop = StopsAt names t stop
StopsFor names NoMemory stop = stop ≡ stops.NoMemory

-- a call hands an answer on, or stops as its command gives none
abbrev pub HandsOn : List (List ℕ) → Result Answer NoAnswer → Result Answer Stop → Type 0
HandsOn names (Ok a) (Ok b) = b ≡ a
HandsOn names (Ok a) (Err stop) = ⊥
HandsOn names (Err none) (Ok b) = ⊥
HandsOn names (Err none) (Err stop) = StopsFor names none stop

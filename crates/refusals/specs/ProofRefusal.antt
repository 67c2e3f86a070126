-- Lines of evidence: why it doesn't hold, and why a text denotes none.
use Rattle.std.specs.Prelude.{ℕ, ◌+◌, ◌-◌, List, ◌++◌, length, nat_lt, Option, Some, None, if◌then◌else◌, codes}
use Rattle.std.specs.List.{slice_get}
use Rattle.std.specs.Fmt.{decimal}
use Rattle.answers.specs.declared.refusal.Refusal.{Refusal}
use Rattle.answers.specs.Lines.{line}
use Rattle.evidence_check.specs.declared.fault.ProofKind.{ProofKind}
use Rattle.evidence_check.specs.declared.fault.ProofKind.TheVariants.{Unexpected, Ended, WordCount, Version, UnknownName, FlowPlace, ExitPlace, Number}
use Rattle.evidence_check.specs.declared.verdict.Reason.{Reason}
use Rattle.evidence_check.specs.declared.verdict.Reason.TheVariants.{Repeated, Negative, Exceeds, NoLevel, AboveLevel, NegativeExit, ShortExit, AboveOne, Legal}
use Rattle.refusals.specs.declared.proof.ProofPart.{ProofPart}
use Rattle.refusals.specs.declared.proof.ProofPart.TheVariants.{Step, Keep}
use Rattle.refusals.specs.LinePieces.{counted, name_at, malformed_at}

-- a keep that is there, or else the step of this number
abbrev pub keep_or : ℕ → Option ℕ → ProofPart
keep_or n (Some k) = Keep k
keep_or n None = Step n

-- The step or the keep with this number, by the hypotheses of the steps and those of the keeps. The keeps are numbered after the steps.
unfoldable pub part_at : List ℕ → List ℕ → ℕ → ProofPart
part_at js ks n = if nat_lt (length js) n then keep_or n (slice_get ks (n - (length js + 1))) else Step n

-- a step by its number, or a keep by the name of its hypothesis
unfoldable pub part_words : List (List ℕ) → ProofPart → List ℕ
part_words names (Step n) = codes "step " ++ decimal n
part_words names (Keep k) = codes "keep " ++ name_at names k

-- the name of a hypothesis that is there, or else a place, counted from 1
abbrev pub name_or_place : List (List ℕ) → ℕ → Option ℕ → List ℕ
name_or_place names r (Some j) = name_at names j
name_or_place names r None = counted r

-- the number of a component for the step at a place, a flow or an exit, and what is wrong with it
abbrev pub number_words : List (List ℕ) → List ℕ → ℕ → List ℕ → ℕ → List ℕ → List ℕ
number_words names js c quantity r wrong = codes "component " ++ counted c ++ quantity ++ name_or_place names r (slice_get js r) ++ wrong

-- why evidence with steps of these hypotheses doesn't hold
unfoldable pub reason_words : List (List ℕ) → List ℕ → Reason → List ℕ
reason_words names js Repeated = codes "repeated"
reason_words names js (Negative c r) = number_words names js c (codes " flow of ") r (codes " negative")
reason_words names js (Exceeds c r) = number_words names js c (codes " flow of ") r (codes " exceeds")
reason_words names js NoLevel = codes "no level"
reason_words names js AboveLevel = codes "above level"
reason_words names js (NegativeExit c r) = number_words names js c (codes " exit of ") r (codes " negative")
reason_words names js (ShortExit c r) = number_words names js c (codes " exit of ") r (codes " short")
reason_words names js (AboveOne c) = codes "component " ++ counted c ++ codes " level above one"
reason_words names js Legal = codes "legal"

-- the line of evidence with these steps and keeps whose first broken condition is at the step or keep of this number
unfoldable pub no_line : List (List ℕ) → List ℕ → List ℕ → ℕ → Reason → List ℕ
no_line names js ks n reason = line (codes "no: " ++ part_words names (part_at js ks n) ++ codes ": " ++ reason_words names js reason)

-- a line of a text of evidence, by its number from 1
abbrev pub at_proof_line : ℕ → List ℕ
at_proof_line n = codes "proof line " ++ decimal n

-- a line of a text of evidence isn't allowed
unfoldable pub proof_refusal : ℕ → ProofKind → Refusal
proof_refusal n Unexpected = malformed_at (at_proof_line n) (codes "unexpected")
proof_refusal n Ended = malformed_at (at_proof_line n) (codes "ended")
proof_refusal n WordCount = malformed_at (at_proof_line n) (codes "words")
proof_refusal n Version = malformed_at (at_proof_line n) (codes "version")
proof_refusal n UnknownName = malformed_at (at_proof_line n) (codes "unknown name")
proof_refusal n FlowPlace = malformed_at (at_proof_line n) (codes "flow")
proof_refusal n ExitPlace = malformed_at (at_proof_line n) (codes "exit")
proof_refusal n Number = malformed_at (at_proof_line n) (codes "number")

-- Lines of cases that a command can't take.
use Rattle.std.specs.Prelude.{ℕ, ◌++◌, codes}
use Rattle.std.specs.Fmt.{decimal}
use Rattle.answers.specs.declared.cause.Cause.TheVariants.{Malformed}
use Rattle.answers.specs.declared.refusal.Refusal.{Refusal}
use Rattle.answers.specs.Lines.{line}
use Rattle.refusals.specs.LinePieces.{past_limit}

-- the p-values aren't of the kind that a command needs
unfoldable pub kind_refusal : Refusal
kind_refusal = record { cause = Malformed; line = line (codes "malformed: kind") }

-- a command takes no case with this number of hypotheses
unfoldable pub closure_refusal : ℕ → Refusal
closure_refusal n = past_limit (codes "closure " ++ decimal n)

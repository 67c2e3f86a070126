-- The refusal of a look of the keeper that can't be taken.
use Rattle.std.specs.Prelude.{ℕ, ◌++◌, codes}
use Rattle.std.specs.Fmt.{decimal}
use Rattle.answers.specs.declared.cause.Cause.TheVariants.{Malformed}
use Rattle.answers.specs.declared.refusal.Refusal.{Refusal}
use Rattle.answers.specs.Lines.{line}

-- the look of this number, from 1, names no hypothesis, or its arrival is refused
unfoldable pub record_refusal : ℕ → Refusal
record_refusal n = record { cause = Malformed; line = line (codes "malformed: record " ++ decimal n) }

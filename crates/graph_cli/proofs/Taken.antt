-- How much is taken of an input.
use Rattle.std.proofs.Common.{refl, ℕ, List, [], Option, Some, None, inr, arith}
use Rattle.graph_io.specs.Reading.{TookAtMost}
use Rattle.graph_cli.specs.Accepted.{IsTakenWithin}

none_taken : (left : Option (List ℕ)) (n : ℕ) → TookAtMost left left n
none_taken None n = ([], tt, omega arith)
none_taken (Some xs) n = ([], refl, omega arith)

-- of an input that isn't read nothing is taken
pub untouched : {S : Type 0} (left : S → Option (List ℕ)) (calls : S → ℕ) (source : S) → IsTakenWithin left calls source source
untouched left calls source = record { taken = inr (none_taken (left source) 4194305); turns = omega arith }

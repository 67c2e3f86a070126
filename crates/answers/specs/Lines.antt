-- Lines that several commands put.
use Rattle.std.specs.Prelude.{ℕ, List, [], ◌∷◌, ◌++◌, codes}
use Rattle.std.specs.Fmt.{decimal}
use Rattle.answers.specs.declared.answer.Answer.{Answer}
use Rattle.answers.specs.declared.cause.Cause.TheVariants.{Limit}
use Rattle.answers.specs.declared.refusal.Refusal.{Refusal}
use Rattle.answers.specs.declared.status.Status.TheVariants.{Refused, Done}
use Rattle.answers.specs.declared.stop.Stop.{Stop}
use Rattle.answers.specs.declared.stop.Stop.TheVariants as stops

-- a text and the end of its line
abbrev pub line : List ℕ → List ℕ
line text = text ++ 10 ∷ []

-- what is put if a source had a fault
unfoldable pub read_fault : List ℕ
read_fault = line (codes "read fault")

-- what is put when out of memory
unfoldable pub no_memory : List ℕ
no_memory = line (codes "no memory")

-- what is put if the keeper had a fault
unfoldable pub keeper_fault : List ℕ
keeper_fault = line (codes "keeper fault")

-- what is put if a call gives no answer
abbrev pub stop_line : Stop → List ℕ
stop_line (stops.Refused refusal) = refusal.line
stop_line stops.ReadFault = read_fault
stop_line stops.KeeperFault = keeper_fault
stop_line stops.NoMemory = no_memory

-- an input, named by these words, has more bytes than are allowed, of which `n` were read
unfoldable pub bytes_refusal : List ℕ → ℕ → Refusal
bytes_refusal name n = record { cause = Limit; line = line (codes "limit: " ++ name ++ codes "bytes " ++ decimal n) }

-- a refusal as an answer
abbrev pub refused : Refusal → Answer
refused r = record { status = Refused r.cause; text = r.line }

-- the answer with this text and the status `Done`
abbrev pub done : List ℕ → Answer
done text = record { status = Done; text = text }

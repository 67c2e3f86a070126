-- Bytes that are moved piece by piece.
use Rattle.std.proofs.Common.{◌≡◌, ℕ, List, ◌++◌, ◌≤◌, sym, length, take, drop, ◌+◌, ◌-◌, arith}
use Rattle.std.proofs.KnownBytes.{Appends-trans, Consumes-trans}
use Rattle.std.proofs.lemmas.Grind.{common_steps}
use Rattle.std.proofs.Math.Seq.{take-add}
use Rattle.std.proofs.lemmas.List.{take_at, take-append-drop, drop-drop, length-append}
use Rattle.std.specs.declared.option.Option.{Option}
use Rattle.std.specs.Io.KnownBytes.{Appends, Consumes}
use Rattle.graph_io.specs.Reading.{TookAtMost, TookInTurns}

rest_whole : (i : ℕ) (bytes : List ℕ) → take (length bytes - i) (drop i bytes) ≡ drop i bytes
rest_whole i bytes = grind (arith, common_steps)

-- one more piece is appended
pub Appends-piece : (a b c : Option (List ℕ)) (i n : ℕ) (bytes : List ℕ) → Appends a b (take i bytes)
    → Appends b c (take n (take (length bytes - i) (drop i bytes))) → Appends a c (take (i + n) bytes)
Appends-piece a b c i n bytes p q = rw (take-add i n bytes) (Appends-trans a b c _ _ p (rw (rest_whole i bytes) at q))

-- one more piece is taken
pub TookAtMost-piece : (a b c : Option (List ℕ)) (n : ℕ) (bs cs : List ℕ) → Consumes a b bs → Consumes b c cs → length bs + length cs ≤ n
    → TookAtMost a c n
TookAtMost-piece a b c n bs cs p q h = (bs ++ cs, Consumes-trans a b c bs cs p q, rw length-append h)

-- one more piece is taken, by one more call
pub TookInTurns-piece : (a b c : Option (List ℕ)) (before now : ℕ) (bs cs : List ℕ) → Consumes a b bs → Consumes b c cs
    → now ≤ before + (length bs + length cs + 1) → TookInTurns a c before now
TookInTurns-piece a b c before now bs cs p q h = (bs ++ cs, Consumes-trans a b c bs cs p q, rw length-append h)

-- the front of the bytes from `at` on is now in the front of a buffer
pub moved : (all bytes old new : List ℕ) (at count : ℕ) → all ≡ bytes → new ≡ take count (take (length all - at) (drop at all))
    → length new ≡ count → drop at bytes ≡ take count (new ++ old) ++ drop (at + count) bytes
moved all bytes old new at count same e len =
    rw (take_at new old count len, e, same, rest_whole at bytes, ← drop-drop count at bytes) (sym (take-append-drop count (drop at bytes)))

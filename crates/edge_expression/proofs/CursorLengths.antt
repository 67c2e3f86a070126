-- How much is left of what a cursor takes from.
use Rattle.std.proofs.Common.{◌≡◌, ℕ, ◌+◌, ◌*◌, ◌≤◌, ◌<◌, inl, inr, List, [], ◌∷◌, length, drop, min, Option, Some, None, ap}
use Rattle.std.proofs.Common.{subst, arith, length-drop}
use Rattle.numerals.specs.DecimalMachine.{decimal_length}
use Rattle.text_lines.specs.Words.{after_blanks}
use Rattle.edge_expression.specs.declared.polynomial.Operation.{Operation}
use Rattle.edge_expression.specs.declared.polynomial.Operation.TheVariants as operations
use Rattle.edge_expression.specs.declared.cursor.Head.{Head}
use Rattle.edge_expression.specs.declared.cursor.Head.TheVariants as heads
use Rattle.edge_expression.specs.CursorView.{SignTaken, MayBeBeside, JointTaken, BeginsWord, IsOtherThan, HeadTaken, PowerTaken, CloseTaken, head_weight}
use Rattle.edge_expression.proofs.SpeltTokens.{after_length}

byte_shorter : (b : ℕ) (old new : List ℕ) → after_blanks old ≡ b ∷ new → length new < length old
byte_shorter b old new e = omega (arith, ap length e, after_length old)

pub sign_shorter : (op : Operation) (old new : List ℕ) → SignTaken (Some op) old new → length new < length old
sign_shorter operations.Add old new h = byte_shorter 43 old new h
sign_shorter operations.Subtract old new h = byte_shorter 45 old new h
sign_shorter operations.Multiply old new h = absurd h
sign_shorter operations.Divide old new h = absurd h

pub sign_no_longer : (taken : Option Operation) (old new : List ℕ) → SignTaken taken old new → length new ≤ length old
sign_no_longer None old new h = omega (arith, ap length h.1)
sign_no_longer (Some op) old new h = omega (arith, sign_shorter op old new h)

drop_no_longer : (n : ℕ) (old : List ℕ) → length (drop n (after_blanks old)) ≤ length old
drop_no_longer n old = omega (arith, length-drop n (after_blanks old), after_length old)

pub head_smaller : (head : Head) (old new : List ℕ) → HeadTaken head (after_blanks old) new → 4 * length new + head_weight head ≤ 4 * length old
head_smaller heads.Open old new h = omega (arith, byte_shorter 40 old new h)
head_smaller heads.Epsilon old new h = omega (arith, ap length h.1, drop_no_longer (min (length (after_blanks old)) 8) old)
head_smaller (heads.Decimal text) old new h = omega (arith, ap length h.3, drop_no_longer (decimal_length (after_blanks old)) old)

some_word : (x : List ℕ) → BeginsWord x → 0 < length x
some_word [] h = absurd h
some_word (b ∷ x) h = omega arith

no_decimal : (text : List ℕ) → MayBeBeside text → IsOtherThan 40 text → IsOtherThan 92 text → ⊥
no_decimal [] h i j = h
no_decimal (b ∷ x) (inl e) i j = i e
no_decimal (b ∷ x) (inr e) i j = j e

beside_shorter : (head : Head) (old new : List ℕ) → MayBeBeside (after_blanks old) → HeadTaken head (after_blanks old) new → length new < length old
beside_shorter heads.Open old new m h = byte_shorter 40 old new h
beside_shorter heads.Epsilon old new m h =
    omega (arith, ap length h.1, length-drop (min (length (after_blanks old)) 8) (after_blanks old), some_word (after_blanks old) h.0, after_length old)
beside_shorter (heads.Decimal text) old new m h = absurd (no_decimal (after_blanks old) m h.0 h.1)

pub joint_shorter : (op : Operation) (head : Head) (old mid new : List ℕ) → JointTaken (Some op) old mid → HeadTaken head (after_blanks mid) new
    → length new < length old
joint_shorter operations.Add head old mid new j h = absurd j
joint_shorter operations.Subtract head old mid new j h = absurd j
joint_shorter operations.Multiply head old mid new (inl e) h = omega (arith, byte_shorter 42 old mid e, head_smaller head mid new h)
joint_shorter operations.Multiply head old mid new (inr e) h =
    beside_shorter head old new e.0 (subst (λ (x : List ℕ). HeadTaken head (after_blanks x) new) e.1 h)
joint_shorter operations.Divide head old mid new j h = omega (arith, byte_shorter 47 old mid j, head_smaller head mid new h)

-- with a joint more, no more calls are to come
pub joint_smaller : (op : Operation) (head : Head) (old mid new : List ℕ) → JointTaken (Some op) old mid → HeadTaken head (after_blanks mid) new
    → 4 * length new + head_weight head ≤ 4 * length old
joint_smaller operations.Add head old mid new j h = absurd j
joint_smaller operations.Subtract head old mid new j h = absurd j
joint_smaller operations.Multiply head old mid new (inl e) h = omega (arith, byte_shorter 42 old mid e, head_smaller head mid new h)
joint_smaller operations.Multiply head old mid new (inr e) h = head_smaller head old new (subst (λ (x : List ℕ). HeadTaken head (after_blanks x) new) e.1 h)
joint_smaller operations.Divide head old mid new j h = omega (arith, byte_shorter 47 old mid j, head_smaller head mid new h)

pub power_no_longer : (n : ℕ) (old new : List ℕ) → PowerTaken n old new → length new ≤ length old
power_no_longer n old new (inl h) = omega (arith, ap length h.1)
power_no_longer n old new (inr h) = elim h.2 [
  | inl d ↦ omega (arith, byte_shorter 94 old h.0 h.1, byte_shorter d.0 h.0 new d.1)
  | inr none ↦ omega (arith, byte_shorter 94 old h.0 h.1, ap length none.1)
]

pub close_no_longer : (old new : List ℕ) → CloseTaken old new → length new ≤ length old
close_no_longer old new (inl h) = omega (arith, ap length h.1)
close_no_longer old new (inr h) = omega (arith, byte_shorter h.0 old new h.1)

-- A scan of an edge expression.
use Rattle.std.proofs.Common.{◌≡◌, ◌≢◌, ℕ, zero, suc, ◌+◌, ◌<◌, ◌≤◌, Bool, true, false, cond, ltb, inl, inr, take, List, []}
use Rattle.std.proofs.Common.{◌∷◌, length, get_or, drop, Option, Some, None, Result, Ok, Err, refl, sym, ap, subst, ◌∙◌, arith}
use Rattle.std.specs.Prelude.{nat_lt, if◌then◌else◌}
use Rattle.std.proofs.lemmas.Bool.{lt-ltb, le-ltb, ltb-true, ltb-false, cases_Bool}
use Rattle.std.proofs.lemmas.Bool.Decides.{nat_tests}
use Rattle.std.proofs.lemmas.List.{drop_more, drop_all}
use Rattle.field_core.specs.Longest.{accepts, accepts_then, count, count_then}
use Rattle.numerals.specs.Prefixes.{IsBadByte}
use Rattle.edge_expression.specs.declared.fault.ExprFault.{ExprFault}
use Rattle.edge_expression.specs.declared.fault.ExprFault.TheVariants.{BadByte, Depth, DivisorNotNumber, ZeroDivisor, Degree, Part}
use Rattle.edge_expression.specs.declared.byte_class.Class.{Class}
use Rattle.edge_expression.specs.declared.byte_class.Class.TheVariants as classes
use Rattle.edge_expression.specs.declared.byte_machine.State.{State}
use Rattle.edge_expression.specs.declared.byte_machine.Reached.{Reached}
use Rattle.edge_expression.specs.ByteMachine.{class_of, next, opened, reached, step, may_end, start}
use Rattle.edge_expression.specs.Expressions.{IsExpression}
use Rattle.edge_expression.specs.EntryReading.{open_with, open_behind, IsDeep, IsShallow, IsScanned}
use Rattle.edge_expression.proofs.ByteClasses.{IsOf, class_is}
use Rattle.edge_expression.proofs.ReadExpressions.{is_expression}
use Rattle.edge_expression.proofs.AcceptedExpressions.{bad_byte}

-- a text from a state on, after n bytes
abbrev pub scan_then : ℕ → (Reached → Result (Unit {0}) ExprFault) → Option Reached → Result (Unit {0}) ExprFault
scan_then n scan None = Err (BadByte n)
scan_then n scan (Some u) = if nat_lt 32 u.depth then Err Depth else scan u

unfoldable pub scanned : ℕ → List ℕ → Reached → Result (Unit {0}) ExprFault
scanned n [] s = if may_end s then Ok tt else Err (BadByte n)
scanned n (b ∷ bs) s = scan_then n (scanned (n + 1) bs) (step s b)

pub scan_none : (text : List ℕ) (i : ℕ) (s : Reached) → i < length text → step s (get_or text i 0) ≡ None
    → scanned i (drop i text) s ≡ Err (BadByte i)
unfolding scanned
scan_none text i s lt e = ap (λ (x : List ℕ). scanned i x s) (drop_more text i 0 lt) ∙ rw e refl

pub scan_deep : (text : List ℕ) (i : ℕ) (s u : Reached) → i < length text → step s (get_or text i 0) ≡ Some u → 32 < u.depth
    → scanned i (drop i text) s ≡ Err Depth
unfolding scanned
scan_deep text i s u lt e h = ap (λ (x : List ℕ). scanned i x s) (drop_more text i 0 lt) ∙ rw (e, lt-ltb 32 u.depth h) refl

pub scan_on : (text : List ℕ) (i : ℕ) (s u : Reached) → i < length text → step s (get_or text i 0) ≡ Some u → u.depth ≤ 32
    → scanned i (drop i text) s ≡ scanned (i + 1) (drop (i + 1) text) u
unfolding scanned
scan_on text i s u lt e h = ap (λ (x : List ℕ). scanned i x s) (drop_more text i 0 lt) ∙ rw (e, le-ltb 32 u.depth h) refl

pub scan_end : (text : List ℕ) (i : ℕ) (s : Reached) (b : Bool) → length text ≤ i → may_end s ≡ b
    → scanned i (drop i text) s ≡ cond b (Ok tt) (Err (BadByte i))
unfolding scanned
scan_end text i s b h e = rw (drop_all i text h, e) refl

abbrev pub bad_at : ℕ → Result (Unit {0}) ExprFault
bad_at n = Err (BadByte n)

-- ---- what it means

Shallow : ℕ → List ℕ → ℕ → Type 0
Shallow d t n = (k : ℕ) → k < n → open_behind d (take (suc k) t) ≤ 32

Deep : ℕ → List ℕ → ℕ → Type 0
Deep d t n = (k : ℕ) × (k < n) × (32 < open_behind d (take (suc k) t))

-- from a state on: accepted, or where the machine stops; d parentheses are open
AllRight : ℕ → ℕ → List ℕ → ℕ → Bool → Result (Unit {0}) ExprFault → Type 0
AllRight d n t c a (Ok x) = (a ≡ true) × Shallow d t c
AllRight d n t c a (Err (BadByte m)) = (a ≡ false) × (m ≡ n + c) × Shallow d t c
AllRight d n t c a (Err Depth) = Deep d t c
AllRight d n t c a (Err DivisorNotNumber) = ⊥
AllRight d n t c a (Err ZeroDivisor) = ⊥
AllRight d n t c a (Err Degree) = ⊥
AllRight d n t c a (Err Part) = ⊥

right_end : (d n : ℕ) (b : Bool) → AllRight d n [] 0 b (cond b (Ok tt) (Err (BadByte n)))
unfolding AllRight Shallow
right_end d n true = (refl, λ k h. absurd (omega arith))
right_end d n false = (refl, omega arith, λ k h. absurd (omega arith))

shallow_more : (d b c : ℕ) (bs : List ℕ) → open_with b d ≤ 32 → Shallow (open_with b d) bs c → Shallow d (b ∷ bs) (1 + c)
unfolding Shallow
shallow_more d b c bs one h zero lt = one
shallow_more d b c bs one h (suc k) lt = h k (omega arith)

deep_more : (d b c : ℕ) (bs : List ℕ) → Deep (open_with b d) bs c → Deep d (b ∷ bs) (1 + c)
unfolding Deep
deep_more d b c bs h = (suc h.0, omega (arith, h.1), h.2)

right_more : (d b n c : ℕ) (bs : List ℕ) (a : Bool) (r : Result (Unit {0}) ExprFault) → open_with b d ≤ 32
    → AllRight (open_with b d) (n + 1) bs c a r → AllRight d n (b ∷ bs) (1 + c) a r
unfolding AllRight
right_more d b n c bs a (Ok x) one h = (h.0, shallow_more d b c bs one h.1)
right_more d b n c bs a (Err (BadByte m)) one h = (h.0, omega (arith, h.1), shallow_more d b c bs one h.2)
right_more d b n c bs a (Err Depth) one h = deep_more d b c bs h
right_more d b n c bs a (Err DivisorNotNumber) one h = h
right_more d b n c bs a (Err ZeroDivisor) one h = h
right_more d b n c bs a (Err Degree) one h = h
right_more d b n c bs a (Err Part) one h = h

right_by : (d b n : ℕ) (bs : List ℕ) (deep : Bool) (u : Reached) → ltb 32 u.depth ≡ deep → u.depth ≡ open_with b d
    → AllRight u.depth (n + 1) bs (count step bs u) (accepts step may_end bs u) (scanned (n + 1) bs u)
    → AllRight d n (b ∷ bs) (1 + count step bs u) (accepts step may_end bs u) (cond deep (Err Depth) (scanned (n + 1) bs u))
unfolding AllRight Deep
right_by d b n bs true u t e h = (0, omega arith, omega (arith, ltb-true 32 u.depth t, e))
right_by d b n bs false u t e h =
    right_more d b n (count step bs u) bs (accepts step may_end bs u) (scanned (n + 1) bs u) (omega (arith, ltb-false 32 u.depth t, e))
    (subst (λ x. AllRight x (n + 1) bs (count step bs u) (accepts step may_end bs u) (scanned (n + 1) bs u)) e h)

right_step : (d b n : ℕ) (bs : List ℕ) (o : Option Reached) → ((u : Reached) → o ≡ Some u → u.depth ≡ open_with b d)
    → ((u : Reached) → AllRight u.depth (n + 1) bs (count step bs u) (accepts step may_end bs u) (scanned (n + 1) bs u))
    → AllRight d n (b ∷ bs) (count_then (count step bs) o) (accepts_then (accepts step may_end bs) o) (scan_then n (scanned (n + 1) bs) o)
unfolding AllRight Shallow
right_step d b n bs None opens r = (refl, omega arith, λ k h. absurd (omega arith))
right_step d b n bs (Some u) opens r = right_by d b n bs (ltb 32 u.depth) u refl (opens u refl) (r u)

-- ---- a step opens or closes as its byte says

open_other : (b n : ℕ) → b ≢ 40 → b ≢ 41 → n ≡ open_with b n
open_other b n h k = grind (arith, nat_tests)

opens_by : (b n m : ℕ) (c : Class) → IsOf c b → opened c n ≡ Some m → m ≡ open_with b n
opens_by b n m classes.Open k e = let f : suc n ≡ m = cc in rw k (sym f)
opens_by b zero m classes.Close k e = absurd cc
opens_by b (suc n) m classes.Close k e = let f : n ≡ m = cc in rw k (omega (arith, f))
opens_by b n m classes.Digit k e = let f : n ≡ m = cc in sym f ∙ open_other b n (λ g. omega (arith, k.0)) (λ g. omega (arith, k.0))
opens_by b n m classes.Sign (inl k) e = let f : n ≡ m = cc in sym f ∙ rw k refl
opens_by b n m classes.Sign (inr k) e = let f : n ≡ m = cc in sym f ∙ rw k refl
opens_by b n m classes.Joint (inl k) e = let f : n ≡ m = cc in sym f ∙ rw k refl
opens_by b n m classes.Joint (inr k) e = let f : n ≡ m = cc in sym f ∙ rw k refl
opens_by b n m classes.Caret k e = let f : n ≡ m = cc in sym f ∙ rw k refl
opens_by b n m classes.Backslash k e = let f : n ≡ m = cc in sym f ∙ rw k refl
opens_by b n m classes.Blank (inl k) e = let f : n ≡ m = cc in sym f ∙ rw k refl
opens_by b n m classes.Blank (inr k) e = let f : n ≡ m = cc in sym f ∙ rw k refl
opens_by b n m classes.Other k e = let f : n ≡ m = cc in sym f ∙ open_other b n k.0 k.1

opens_both : (b n : ℕ) (s : Option State) (m : Option ℕ) (u : Reached) → ((k : ℕ) → m ≡ Some k → k ≡ open_with b n)
    → reached s m ≡ Some u → u.depth ≡ open_with b n
opens_both b n None m u h e = absurd cc
opens_both b n (Some s) None u h e = absurd cc
opens_both b n (Some s) (Some k) u h e = let f : k ≡ u.depth = cc in sym f ∙ h k refl

opens : (b : ℕ) (s u : Reached) → step s b ≡ Some u → u.depth ≡ open_with b s.depth
unfolding step
opens b s u e = opens_both b s.depth (next s.state b) (opened (class_of b) s.depth) u (λ m f. opens_by b s.depth m (class_of b) (class_is b) f) e

right : (n : ℕ) (t : List ℕ) (s : Reached) → AllRight s.depth n t (count step t s) (accepts step may_end t s) (scanned n t s)
unfolding scanned accepts count
right n [] s = right_end s.depth n (may_end s)
right n (b ∷ bs) s = right_step s.depth b n bs (step s b) (λ u e. opens b s u e) (λ u. right (n + 1) bs u)

-- what is accepted is read to its end
whole_by : (t : List ℕ) (o : Option Reached) → ((u : Reached) → accepts step may_end t u ≡ true → count step t u ≡ length t)
    → accepts_then (accepts step may_end t) o ≡ true → count_then (count step t) o ≡ suc (length t)
whole_by t None r e = absurd cc
whole_by t (Some u) r e = omega (arith, r u e)

whole : (t : List ℕ) (s : Reached) → accepts step may_end t s ≡ true → count step t s ≡ length t
unfolding accepts count
whole [] s e = refl
whole (b ∷ bs) s e = whole_by bs (step s b) (λ u f. whole bs u f) e

scanned_by : (t : List ℕ) (r : Result (Unit {0}) ExprFault) → AllRight 0 0 t (count step t start) (accepts step may_end t start) r → IsScanned t r
unfolding AllRight Shallow Deep IsScanned
scanned_by t (Ok x) h = (is_expression t h.0, subst (λ n. IsShallow t n) (whole t start h.0) h.1)
scanned_by t (Err (BadByte m)) h =
    let e : count step t start ≡ m = omega (arith, h.1) in
    (subst (λ n. IsBadByte IsExpression t n) e (bad_byte t h.0), subst (λ n. IsShallow t n) e h.2)
scanned_by t (Err Depth) h =
    elim (cases_Bool (accepts step may_end t start)) [
      | inl a ↦ inl (is_expression t a, subst (λ n. IsDeep t n) (whole t start a) h)
      | inr a ↦ inr (count step t start, bad_byte t a, h)
    ]
scanned_by t (Err DivisorNotNumber) h = h
scanned_by t (Err ZeroDivisor) h = h
scanned_by t (Err Degree) h = h
scanned_by t (Err Part) h = h

pub is_scanned : (t : List ℕ) (r : Result (Unit {0}) ExprFault) → r ≡ scanned 0 t start → IsScanned t r
is_scanned t r e = rw e (scanned_by t (scanned 0 t start) (right 0 t start))

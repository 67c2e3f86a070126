-- Sets as numbers: each set below `2 ^ m` has one, and members are added and taken by adding and taking a power of two.
use Rattle.std.proofs.Common.{◌≡◌, inl, inr, refl, sym, ap, ◌∙◌, ℕ, zero, suc, ◌+◌, ◌-◌, ◌*◌, ◌^◌, ◌==◌, ◌<◌, ◌≤◌}
use Rattle.std.proofs.Common.{arith, Bool, true, false, cond}
use Rattle.std.proofs.lemmas.Bool.Decides.{nat_tests}
use Rattle.std.specs.Int.{bit_at}
use Rattle.std.proofs.lemmas.Nat.{pow_pos}
use Rattle.std.proofs.Math.Nat.{two-pow-succ}
use Rattle.std.proofs.lemmas.Nat.Bits.{bit_at-zero, bit_at-lt, bit_at_cat_low, bit_at_cat_high, bit_at_above, same_from_bits_below}
use Rattle.field_core.specs.Sets.{IsIn, HaveSameMembers, dropping, adding}
use Rattle.field_core.specs.NumberedSets.{members, set_number}
use Rattle.field_core.proofs.Live.{true_or_false, dropping_same, dropping_other}
use Rattle.field_core.proofs.Positions.{at_or_below}
use Rattle.field_core.proofs.RemovalLaws.{same_or_not}
use Rattle.field_core.proofs.Sizes.{adding_same, adding_other}

pub members_is : (n k : ℕ) → members n k ≡ (bit_at n k == 1)
unfolding members
members_is n k = refl

pub number_next : (m : ℕ) (I : ℕ → Bool) → set_number (suc m) I ≡ set_number m I + cond (I m) (2 ^ m) 0
unfolding set_number
number_next m I = refl

pub number_none : (I : ℕ → Bool) → set_number zero I ≡ 0
unfolding set_number
number_none I = refl

pub number_in : (m : ℕ) (I : ℕ → Bool) → I m ≡ true → set_number (suc m) I ≡ set_number m I + 2 ^ m
number_in m I e = rw (number_next m I, e)

pub number_out : (m : ℕ) (I : ℕ → Bool) → I m ≡ false → set_number (suc m) I ≡ set_number m I
number_out m I e = rw (number_next m I, e) (omega arith)

pub double : (m : ℕ) → 2 ^ suc m ≡ 2 ^ m + 2 ^ m
double m = two-pow-succ m

pub number_below : (m : ℕ) (I : ℕ → Bool) → set_number m I < 2 ^ m
number_below zero I = rw (number_none I) (pow_pos zero)
number_below (suc m) I =
    let ih = number_below m I in
    let d = double m in
    elim (true_or_false (I m)) [
      | inl t ↦ let e = number_in m I t in omega (arith, e, d, ih)
      | inr f ↦ let e = number_out m I f in omega (arith, e, d, ih)
    ]

-- only the members below `m` count
pub number_same : (m : ℕ) (I J : ℕ → Bool) → HaveSameMembers m I J → set_number m I ≡ set_number m J
number_same zero I J h = number_none I ∙ sym (number_none J)
number_same (suc m) I J h =
    let ih = number_same m I J (λ i p. h i (omega arith)) in
    rw (number_next m I, number_next m J, ih, h m (omega arith))

low_bit : (m a b k : ℕ) → k < m → members (a + b * 2 ^ m) k ≡ members a k
low_bit m a b k p = members_is _ k ∙ ap (λ x. x == 1) (ap (λ n. bit_at n k) swap ∙ bit_at_cat_low b m a k p) ∙ sym (members_is a k)
  where
    swap : a + b * 2 ^ m ≡ b * 2 ^ m + a
    swap = omega arith

pub members_low : (m a k : ℕ) → k < m → members (a + 2 ^ m) k ≡ members a k
members_low m a k p =
    let e : a + 2 ^ m ≡ a + 1 * 2 ^ m = omega arith in
    rw e (low_bit m a 1 k p)

pub members_high : (m a : ℕ) → a < 2 ^ m → members (a + 2 ^ m) m ≡ true
members_high m a p =
    let e : a + 2 ^ m ≡ 1 * 2 ^ m + a = omega arith in
    let z : m - m ≡ 0 = omega arith in
    rw (e, members_is _ m, bit_at_cat_high 1 m a m p (omega arith), z)

pub members_above : (m a k : ℕ) → a < 2 ^ m → m ≤ k → members a k ≡ false
members_above m a k p q = rw (members_is a k, bit_at_above a m k p q)

-- the number of a set has its members
pub members_number : (m : ℕ) (I : ℕ → Bool) → HaveSameMembers m (members (set_number m I)) I
members_number zero I k p = absurd (omega arith)
members_number (suc m) I k p =
    let b = number_below m I in
    elim (true_or_false (I m)) [
      | inl t ↦ rw (number_in m I t) (elim (at_or_below k m p) [
        | inl e ↦ rw e (members_high m (set_number m I) b ∙ sym t)
        | inr q ↦ members_low m (set_number m I) k q ∙ members_number m I k q
      ])
      | inr f ↦ rw (number_out m I f) (elim (at_or_below k m p) [
        | inl e ↦ rw e (members_above m (set_number m I) m b (omega arith) ∙ sym f)
        | inr q ↦ members_number m I k q
      ])
    ]

same_bit : (a b : ℕ) → a < 2 → b < 2 → (a == 1) ≡ (b == 1) → a ≡ b
same_bit a b p q e = grind (arith, nat_tests)

-- a set has one number
pub same_number : (m n o : ℕ) → n < 2 ^ m → o < 2 ^ m → HaveSameMembers m (members n) (members o) → n ≡ o
same_number m n o p q h = same_from_bits_below m n o p q
    (λ i r. same_bit _ _ (bit_at-lt n i) (bit_at-lt o i) (sym (members_is n i) ∙ h i r ∙ members_is o i))

pub number_members : (m n : ℕ) → n < 2 ^ m → set_number m (members n) ≡ n
number_members m n p = same_number m _ n (number_below m (members n)) p (members_number m (members n))

-- ---- one member less, one more

pub number_dropping : (m k : ℕ) (I : ℕ → Bool) → k < m → I k ≡ true → set_number m (dropping k I) + 2 ^ k ≡ set_number m I
number_dropping zero k I p t = absurd (omega arith)
number_dropping (suc m) k I p t = elim (same_or_not k m) [
  | inl e ↦
      let same : HaveSameMembers m (dropping k I) I = λ i q. dropping_other k I i (omega arith) in
      let last : dropping k I m ≡ false = ap (dropping k I) (sym e) ∙ dropping_same k I in
      let a = number_out m (dropping k I) last in
      let b = number_in m I (ap I (sym e) ∙ t) in
      rw (a, b, number_same m _ _ same, e)
  | inr n ↦
      let ih = number_dropping m k I (omega arith) t in
      let last : dropping k I m ≡ I m = dropping_other k I m (λ e. n (sym e)) in
      rw (number_next m I, number_next m (dropping k I), last) (omega (arith, ih))
]

pub number_adding : (m k : ℕ) (I : ℕ → Bool) → k < m → I k ≡ false → set_number m (adding k I) ≡ set_number m I + 2 ^ k
number_adding m k I p f =
    let a = number_dropping m k (adding k I) p (adding_same k I) in
    let back : HaveSameMembers m (dropping k (adding k I)) I = λ i q. elim (same_or_not i k) [
      | inl e ↦ rw e (dropping_same k (adding k I) ∙ sym f)
      | inr n ↦ dropping_other k (adding k I) i n ∙ adding_other k I i n
    ] in
    sym a ∙ ap (λ x. x + 2 ^ k) (number_same m _ _ back)

-- the number of a set with `k` in it, and of the set without it
pub taken_number : (m n k : ℕ) → n < 2 ^ m → k < m → members n k ≡ true → set_number m (dropping k (members n)) + 2 ^ k ≡ n
taken_number m n k p q t = number_dropping m k (members n) q t ∙ number_members m n p

pub members_taken : (m n o k : ℕ) → n < 2 ^ m → k < m → members n k ≡ true → o + 2 ^ k ≡ n
    → HaveSameMembers m (members o) (dropping k (members n))
members_taken m n o k p q t e =
    let a = taken_number m n k p q t in
    let b : o ≡ set_number m (dropping k (members n)) = omega (arith, a, e) in
    λ i r. ap (λ x. members x i) b ∙ members_number m (dropping k (members n)) i r

pub members_added : (m n k : ℕ) → n < 2 ^ m → k < m → members n k ≡ false → HaveSameMembers m (members (n + 2 ^ k)) (adding k (members n))
members_added m n k p q f =
    let a = number_adding m k (members n) q f in
    let b : n + 2 ^ k ≡ set_number m (adding k (members n)) = sym (a ∙ ap (λ x. x + 2 ^ k) (number_members m n p)) in
    λ i r. ap (λ x. members x i) b ∙ members_number m (adding k (members n)) i r

pub added_below : (m n k : ℕ) → n < 2 ^ m → k < m → members n k ≡ false → n + 2 ^ k < 2 ^ m
added_below m n k p q f =
    let a = number_adding m k (members n) q f in
    let b = number_below m (adding k (members n)) in
    let c = number_members m n p in
    omega (arith, a, b, c)

pub taken_least : (m n k : ℕ) → n < 2 ^ m → k < m → members n k ≡ true → 2 ^ k ≤ n
taken_least m n k p q t = let a = taken_number m n k p q t in omega (arith, a)

-- ---- the empty set

pub number_empty : (m : ℕ) (I : ℕ → Bool) → ((k : ℕ) → IsIn m I k → ⊥) → set_number m I ≡ 0
number_empty zero I h = number_none I
number_empty (suc m) I h = elim (true_or_false (I m)) [
  | inl t ↦ absurd (h m (record { below = omega arith; member = t }))
  | inr f ↦ number_out m I f ∙ number_empty m I (λ k p. h k (record { below = omega (arith, p.below); member = p.member }))
]

pub members_zero : (k : ℕ) → members 0 k ≡ false
members_zero k = rw (members_is 0 k, bit_at-zero k)

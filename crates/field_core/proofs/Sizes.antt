-- Sizes of sets, and what a subset misses.
use Rattle.std.proofs.Common.{◌≡◌, ◌≢◌, ◌⊎◌, inl, inr, refl, sym, ap, ◌∙◌, ℕ, zero, suc, ◌+◌, ◌<◌, ◌≤◌, arith, Bool}
use Rattle.std.proofs.Common.{true, false, cond}
use Rattle.std.proofs.lemmas.Bool.Decides.{nat_tests}
use Rattle.field_core.specs.Sets.{IsIn, IsSubset, HaveSameMembers, whole, dropping, adding, size_of}
use Rattle.field_core.proofs.Live.{true_or_false, true_not_false, dropping_same, dropping_other}
use Rattle.field_core.proofs.Positions.{at_or_below}
use Rattle.field_core.proofs.RemovalLaws.{same_or_not}

-- ---- one member more

pub adding_same : (k : ℕ) (I : ℕ → Bool) → adding k I k ≡ true
unfolding adding
adding_same k I = grind (arith, nat_tests)

pub adding_other : (k : ℕ) (I : ℕ → Bool) (i : ℕ) → i ≢ k → adding k I i ≡ I i
unfolding adding
adding_other k I i h = grind (arith, nat_tests)

-- dropped again, what was added changes nothing
pub dropping_adding : (m k : ℕ) (I : ℕ → Bool) → I k ≡ false → HaveSameMembers m (dropping k (adding k I)) I
dropping_adding m k I f i q = elim (same_or_not i k) [
  | inl e ↦ rw e (dropping_same k (adding k I) ∙ sym f)
  | inr n ↦ dropping_other k (adding k I) i n ∙ adding_other k I i n
]

pub within_adding : (m k : ℕ) (I : ℕ → Bool) → IsSubset m I (adding k I)
within_adding m k I i p e = elim (same_or_not i k) [
  | inl same ↦ rw same (adding_same k I)
  | inr n ↦ adding_other k I i n ∙ e
]

-- ---- sizes

pub size_none : (I : ℕ → Bool) → size_of zero I ≡ 0
unfolding size_of
size_none I = refl

pub size_next : (m : ℕ) (I : ℕ → Bool) → size_of (suc m) I ≡ size_of m I + cond (I m) 1 0
unfolding size_of
size_next m I = refl

pub size_in : (m : ℕ) (I : ℕ → Bool) → I m ≡ true → size_of (suc m) I ≡ size_of m I + 1
size_in m I e = rw (size_next m I, e)

pub size_out : (m : ℕ) (I : ℕ → Bool) → I m ≡ false → size_of (suc m) I ≡ size_of m I
size_out m I e = rw (size_next m I, e) (omega arith)

pub size_same : (m : ℕ) (I J : ℕ → Bool) → HaveSameMembers m I J → size_of m I ≡ size_of m J
size_same zero I J h = size_none I ∙ sym (size_none J)
size_same (suc m) I J h =
    let ih = size_same m I J (λ i p. h i (omega arith)) in
    rw (size_next m I, size_next m J, ih, h m (omega arith))

pub size_within : (m : ℕ) (I : ℕ → Bool) → size_of m I ≤ m
size_within zero I = rw (size_none I) (omega arith)
size_within (suc m) I =
    let ih = size_within m I in
    elim (true_or_false (I m)) [
      | inl t ↦ let e = size_in m I t in omega (arith, e, ih)
      | inr f ↦ let e = size_out m I f in omega (arith, e, ih)
    ]

-- a subset isn't larger
pub size_subset : (m : ℕ) (J I : ℕ → Bool) → IsSubset m J I → size_of m J ≤ size_of m I
size_subset zero J I h = rw (size_none J, size_none I) (omega arith)
size_subset (suc m) J I h =
    let ih = size_subset m J I (λ i p. h i (omega arith)) in
    elim (true_or_false (J m)) [
      | inl t ↦ let a = size_in m J t in let b = size_in m I (h m (omega arith) t) in omega (arith, a, b, ih)
      | inr f ↦ let a = size_out m J f in elim (true_or_false (I m)) [
        | inl u ↦ let b = size_in m I u in omega (arith, a, b, ih)
        | inr v ↦ let b = size_out m I v in omega (arith, a, b, ih)
      ]
    ]

pub size_dropped : (m k : ℕ) (I : ℕ → Bool) → IsIn m I k → suc (size_of m (dropping k I)) ≡ size_of m I
size_dropped zero k I p = absurd (omega (arith, p.below))
size_dropped (suc m) k I p = elim (at_or_below k m p.below) [
  | inl e ↦
      let same : HaveSameMembers m (dropping k I) I = λ i q. dropping_other k I i (omega arith) in
      let last : dropping k I m ≡ false = ap (dropping k I) (sym e) ∙ dropping_same k I in
      let a = size_out m (dropping k I) last in
      let b = size_in m I (ap I (sym e) ∙ p.member) in
      rw (a, b, size_same m _ _ same) (omega arith)
  | inr q ↦
      let ih = size_dropped m k I (record { below = q; member = p.member }) in
      let last : dropping k I m ≡ I m = dropping_other k I m (omega arith) in
      rw (size_next m I, size_next m (dropping k I), last) (omega (arith, ih))
]

pub size_added : (m k : ℕ) (I : ℕ → Bool) → k < m → I k ≡ false → size_of m (adding k I) ≡ suc (size_of m I)
size_added m k I p f = sym (size_dropped m k (adding k I) (record { below = p; member = adding_same k I }))
    ∙ ap suc (size_same m (dropping k (adding k I)) I (dropping_adding m k I f))

pub size_whole : (m : ℕ) → size_of m whole ≡ m
size_whole zero = size_none whole
size_whole (suc m) = size_in m whole refl ∙ ap (λ n. n + 1) (size_whole m) ∙ (omega arith)

-- ---- what a subset lacks

-- a subset has all members, or lacks one
pub missing : (m : ℕ) (J I : ℕ → Bool) → IsSubset m J I → HaveSameMembers m J I ⊎ ((k : ℕ) × IsIn m I k × (J k ≡ false))
missing zero J I h = inl (λ i p. absurd (omega arith))
missing (suc m) J I h = elim (missing m J I (λ i p. h i (omega arith))) [
  | inr x ↦ inr (x.0, record { below = omega (arith, x.1.below); member = x.1.member }, x.2)
  | inl same ↦ elim (true_or_false (J m)) [
    | inl t ↦ inl (upto same (t ∙ sym (h m (omega arith) t)))
    | inr f ↦ elim (true_or_false (I m)) [
      | inl u ↦ inr (m, record { below = omega arith; member = u }, f)
      | inr v ↦ inl (upto same (f ∙ sym v))
    ]
  ]
]
  where
    upto : HaveSameMembers m J I → J m ≡ I m → HaveSameMembers (suc m) J I
    upto same last i p = elim (same_or_not i m) [
      | inl e ↦ rw e last
      | inr n ↦ same i (omega arith)
    ]

-- a set has no member below `m`, or some
pub some_member : (m : ℕ) (I : ℕ → Bool) → ((k : ℕ) → IsIn m I k → ⊥) ⊎ ((k : ℕ) × IsIn m I k)
some_member m I = elim (missing m (λ i. false) I (λ i p e. absurd (clash e))) [
  | inl same ↦ inl (λ k p. clash (same k p.below ∙ p.member))
  | inr x ↦ inr (x.0, x.1)
]
  where
    clash : false ≡ true → ⊥
    clash e = true_not_false (sym e)

pub dropped_subset : (m k : ℕ) (K I : ℕ → Bool) → IsSubset m K I → K k ≡ false → IsSubset m K (dropping k I)
dropped_subset m k K I h f i p e = elim (same_or_not i k) [
  | inl same ↦ absurd (true_not_false (sym e ∙ ap K same ∙ f))
  | inr n ↦ dropping_other k I i n ∙ h i p e
]

pub added_subset : (m k : ℕ) (S I : ℕ → Bool) → IsSubset m S I → I k ≡ true → IsSubset m (adding k S) I
added_subset m k S I h t i p e = elim (same_or_not i k) [
  | inl same ↦ rw same t
  | inr n ↦ h i p (sym (adding_other k S i n) ∙ e)
]

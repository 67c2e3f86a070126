-- What is known of each set can be written into a table, and a table of a local test gives one of its closed test.
use Rattle.std.proofs.Common.{◌≡◌, ◌⊎◌, inl, inr, refl, sym, ◌∙◌, ℕ, ◌^◌, ◌<◌, Bool, true, false, ◌↔◌}
use Rattle.field_core.specs.Sets.{IsSubset}
use Rattle.field_core.specs.NumberedSets.{members}
use Rattle.field_core.proofs.Live.{true_or_false, true_not_false}
use Rattle.field_core.proofs.Positions.{below_or_not}
use Rattle.case_model.specs.SetAnswers.{IsYesAbove, AreClosedFrom}
use Rattle.answers_exist.proofs.Searches.{first_or_none}

-- ---- tables of what is known

is_yes : {A B : Type 0} → A ⊎ B → Bool
is_yes (inl x) = true
is_yes (inr y) = false

says_yes : {A : Type 0} (d : A ⊎ ¬ A) → (is_yes d ≡ true) ↔ A
unfolding is_yes
says_yes (inl x) = (λ e. x, λ y. refl)
says_yes (inr n) = (λ e. absurd (true_not_false (sym e)), λ y. absurd (n y))

-- a table of the answers for the numbers below `n`
pub record HasTable (n : ℕ) (P : ℕ → Type 0) : Type 0 where
  pub table : ℕ → Bool
  pub answers : (i : ℕ) → i < n → (table i ≡ true) ↔ P i

module _ (n : ℕ) (P : ℕ → Type 0) (decide : (i : ℕ) → i < n → P i ⊎ ¬ P i) where
  answer_by : (i : ℕ) → (i < n) ⊎ ¬ (i < n) → Bool
  answer_by i (inl b) = is_yes (decide i b)
  answer_by i (inr o) = false

  answer_is : (i : ℕ) (d : (i < n) ⊎ ¬ (i < n)) → i < n → (answer_by i d ≡ true) ↔ P i
  unfolding answer_by
  answer_is i (inl b) h = says_yes (decide i b)
  answer_is i (inr o) h = absurd (o h)

  pub table_exists : HasTable n P
  table_exists = record { table = λ i. answer_by i (below_or_not i n); answers = λ i h. answer_is i (below_or_not i n) h }

-- ---- sets that hold a set

module _ (m : ℕ) (I J : ℕ → Bool) where
  -- a position in the first set alone
  abbrev IsMissed : ℕ → Type 0
  IsMissed i = (I i ≡ true) × (J i ≡ false)

  missed_or_not : (i : ℕ) → IsMissed i ⊎ ¬ IsMissed i
  missed_or_not i = elim (true_or_false (I i)) [
    | inr f ↦ inr (λ h. true_not_false (sym h.0 ∙ f))
    | inl t ↦ elim (true_or_false (J i)) [ inl u ↦ inr (λ h. true_not_false (sym u ∙ h.1)) | inr f ↦ inl (t, f) ]
  ]

  in_second : (i : ℕ) → ¬ IsMissed i → I i ≡ true → J i ≡ true
  in_second i n t = elim (true_or_false (J i)) [ inl u ↦ u | inr f ↦ absurd (n (t, f)) ]

  pub subset_or_not : IsSubset m I J ⊎ ¬ IsSubset m I J
  subset_or_not = elim (first_or_none IsMissed missed_or_not m) [
    | inl f ↦ inr (λ s. let t = s f.0 f.1.below f.1.holds.0 in true_not_false (sym t ∙ f.1.holds.1))
    | inr none ↦ inl (λ i b t. in_second i (none i b) t)
  ]

-- ---- closed tables

module _ (m : ℕ) (local : ℕ → Bool) (n : ℕ) where
  -- a set that holds the set of `n`, of which the table says no
  abbrev IsNoAbove : ℕ → Type 0
  IsNoAbove o = IsSubset m (members n) (members o) × (local o ≡ false)

  no_or_not : (o : ℕ) → IsNoAbove o ⊎ ¬ IsNoAbove o
  no_or_not o = elim (true_or_false (local o)) [
    | inl t ↦ inr (λ h. true_not_false (sym t ∙ h.1))
    | inr f ↦ elim (subset_or_not m (members n) (members o)) [ inl s ↦ inl (s, f) | inr k ↦ inr (λ h. k h.0) ]
  ]

  yes_above : (o : ℕ) → ¬ IsNoAbove o → IsSubset m (members n) (members o) → local o ≡ true
  yes_above o none s = elim (true_or_false (local o)) [ inl t ↦ t | inr f ↦ absurd (none (s, f)) ]

  pub above_or_not : IsYesAbove m local n ⊎ ¬ IsYesAbove m local n
  above_or_not = elim (first_or_none IsNoAbove no_or_not (2 ^ m)) [
    | inl f ↦ inr (λ y. let t = y f.0 f.1.below f.1.holds.0 in true_not_false (sym t ∙ f.1.holds.1))
    | inr none ↦ inl (λ o b s. yes_above o (none o b) s)
  ]

-- a table of a local test has one of its closed test
pub closed_exists : (m : ℕ) (local : ℕ → Bool) → (closed : ℕ → Bool) × AreClosedFrom m local closed 0
closed_exists m local =
    let T = table_exists (2 ^ m) (IsYesAbove m local) (λ n b. above_or_not m local n) in
    (T.table, λ n low b. T.answers n b)

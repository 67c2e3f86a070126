-- Orders of rejections by any rule.
use Rattle.std.proofs.Common.{◌≡◌, ◌≢◌, ◌⊎◌, inl, inr, refl, sym, ap₂, ◌∙◌, subst, ℕ, zero, suc, ◌<◌, ◌≤◌, ◌+◌, arith}
use Rattle.std.proofs.Common.{Bool, true, false, List, [], ◌∷◌, ◌++◌}
use Rattle.std.proofs.lemmas.Bool.Decides.{nat_tests}
use Rattle.field_core.specs.Sets.{IsIn, dropping, set_of}
use Rattle.field_core.specs.Runs.{IsOrder, left_after}
use Rattle.field_core.proofs.Live.{dropping_other, kept_before, not_dropped, live_before, true_or_false}
pub use Rattle.field_core.proofs.Positions.{compared, below_or_not, at_or_below}
use Rattle.case_model.specs.LegalOrder.{IsListed, IsOrderBy, IsRunBy, IsFirst, IsLast}

-- ---- what a list leaves

pub listed_here : (j : ℕ) (js : List ℕ) → IsListed (j ∷ js) j
listed_here j js = grind (arith, nat_tests)

pub listed_later : (i j : ℕ) (js : List ℕ) → IsListed js j → IsListed (i ∷ js) j
listed_later i j js h = grind (arith, nat_tests)

pub here_or_later : (i j : ℕ) (js : List ℕ) → IsListed (i ∷ js) j → (j ≡ i) ⊎ IsListed js j
here_or_later i j js h = grind (arith, nat_tests)

pub listed_or_not : (js : List ℕ) (j : ℕ) → IsListed js j ⊎ (set_of js j ≡ false)
listed_or_not js j = true_or_false (set_of js j)

-- what is left was there before
pub left_before : (js : List ℕ) (I : ℕ → Bool) (i : ℕ) → left_after I js i ≡ true → I i ≡ true
left_before [] I i h = h
left_before (j ∷ js) I i h = kept_before j I i (left_before js (dropping j I) i h)

pub left_not_listed : (js : List ℕ) (I : ℕ → Bool) (i : ℕ) → left_after I js i ≡ true → set_of js i ≡ false
left_not_listed [] I i h = refl
left_not_listed (j ∷ js) I i h =
    let n : i ≢ j = not_dropped j I i (left_before js (dropping j I) i h) in
    let later : set_of js i ≡ false = left_not_listed js (dropping j I) i h in
    grind (arith, nat_tests)

pub not_listed_left : (js : List ℕ) (I : ℕ → Bool) (i : ℕ) → I i ≡ true → set_of js i ≡ false → left_after I js i ≡ true
not_listed_left [] I i h f = h
not_listed_left (j ∷ js) I i h f =
    let n : i ≢ j = grind (arith, nat_tests) in
    let later : set_of js i ≡ false = grind (arith, nat_tests) in
    not_listed_left js (dropping j I) i (dropping_other j I i n ∙ h) later

pub left_append : (js ks : List ℕ) (I : ℕ → Bool) → left_after I (js ++ ks) ≡ left_after (left_after I js) ks
left_append [] ks I = refl
left_append (j ∷ js) ks I = left_append js ks (dropping j I)

module _ (Rule : (ℕ → Bool) → ℕ → Type 0) where
  -- ---- orders step by step

  pub order_append : (js ks : List ℕ) (I : ℕ → Bool) → IsOrderBy Rule I js → IsOrderBy Rule (left_after I js) ks → IsOrderBy Rule I (js ++ ks)
  order_append [] ks I o h = h
  order_append (j ∷ js) ks I o h = (o.0, order_append js ks (dropping j I) o.1 h)

  -- an order continues by a hypothesis that the rule allows in what remains
  pub order_next : (js : List ℕ) (j : ℕ) (I : ℕ → Bool) → IsOrderBy Rule I js → Rule (left_after I js) j → IsOrderBy Rule I (js ++ (j ∷ []))
  order_next js j I o h = order_append js (j ∷ []) I o (h, tt)

  pub order_rest : (js ks : List ℕ) (I : ℕ → Bool) → IsOrderBy Rule I (js ++ ks) → IsOrderBy Rule (left_after I js) ks
  order_rest [] ks I o = o
  order_rest (j ∷ js) ks I o = order_rest js ks (dropping j I) o.1

  -- where a rule allows members alone, an order by it has distinct members
  pub order_distinct : (m : ℕ) → ((I : ℕ → Bool) (j : ℕ) → Rule I j → IsIn m I j) → (js : List ℕ) (I : ℕ → Bool) → IsOrderBy Rule I js
      → IsOrder m I js
  order_distinct m inside [] I o = tt
  order_distinct m inside (j ∷ js) I o = (inside I j o.0, order_distinct m inside js (dropping j I) o.1)

  pub listed_in : (m : ℕ) → ((I : ℕ → Bool) (j : ℕ) → Rule I j → IsIn m I j) → (js : List ℕ) (I : ℕ → Bool) → IsOrderBy Rule I js
      → (i : ℕ) → IsListed js i → IsIn m I i
  listed_in m inside [] I o i h = absurd (cc)
  listed_in m inside (j ∷ js) I o i h = elim (here_or_later j i js h) [
    | inl e ↦ subst (IsIn m I) (sym e) (inside I j o.0)
    | inr l ↦ live_before j I (listed_in m inside js (dropping j I) o.1 i l)
  ]

  -- ---- rules that allow one hypothesis at most

  pub run_unique : ((I : ℕ → Bool) (j k : ℕ) → Rule I j → Rule I k → j ≡ k) → (js ks : List ℕ) (I : ℕ → Bool) → IsRunBy Rule I js
      → IsRunBy Rule I ks → js ≡ ks
  run_unique one [] [] I r s = refl
  run_unique one [] (k ∷ ks) I r s = absurd (r.complete k s.order.0)
  run_unique one (j ∷ js) [] I r s = absurd (s.complete j r.order.0)
  run_unique one (j ∷ js) (k ∷ ks) I r s =
      let e : j ≡ k = one I j k r.order.0 s.order.0 in
      let s' : IsRunBy Rule (dropping k I) ks = record { order = s.order.1; complete = s.complete } in
      ap₂ (λ a as'. a ∷ as') e (run_unique one js ks (dropping j I) (record { order = r.order.1; complete = r.complete })
      (subst (λ a. IsRunBy Rule (dropping a I) ks) (sym e) s'))

  -- ---- the first and the last that a rule allows

  pub first_unique : (I : ℕ → Bool) (j k : ℕ) → IsFirst Rule I j → IsFirst Rule I k → j ≡ k
  first_unique I j k f g = elim (compared j k) [
    | inl e ↦ e
    | inr c ↦ elim c [ inl h ↦ absurd (g.least j h f.allowed) | inr h ↦ absurd (f.least k h g.allowed) ]
  ]

  pub last_unique : (I : ℕ → Bool) (j k : ℕ) → IsLast Rule I j → IsLast Rule I k → j ≡ k
  last_unique I j k f g = elim (compared j k) [
    | inl e ↦ e
    | inr c ↦ elim c [ inl h ↦ absurd (f.greatest k h g.allowed) | inr h ↦ absurd (g.greatest j h f.allowed) ]
  ]

  -- where there is no first one, there is none
  none_below : (I : ℕ → Bool) → ((j : ℕ) → ¬ IsFirst Rule I j) → (n k : ℕ) → k < n → ¬ Rule I k
  none_below I none zero k h = absurd (omega arith)
  none_below I none (suc n) k h = λ r. none k (record { allowed = r; least = λ i q. none_below I none n i (omega arith) })

  pub first_none : (I : ℕ → Bool) → ((j : ℕ) → ¬ IsFirst Rule I j) → (k : ℕ) → ¬ Rule I k
  first_none I none k = none_below I none (suc k) k (omega arith)

  -- where there is no last one below `m`, there is none
  none_above : (m : ℕ) (I : ℕ → Bool) → ((j : ℕ) → Rule I j → j < m) → ((j : ℕ) → ¬ IsLast Rule I j) → (n k : ℕ) → m ≤ k + n
      → ¬ Rule I k
  none_above m I below none zero k h = λ r. let q : k < m = below k r in absurd (omega arith)
  none_above m I below none (suc n) k h = λ r. none k (record { allowed = r; greatest = λ i q. none_above m I below none n i (omega arith) })

  pub last_none : (m : ℕ) (I : ℕ → Bool) → ((j : ℕ) → Rule I j → j < m) → ((j : ℕ) → ¬ IsLast Rule I j) → (k : ℕ) → ¬ Rule I k
  last_none m I below none k = none_above m I below none m k (omega arith)

-- ---- from one rule to another

module _ (Rule Other : (ℕ → Bool) → ℕ → Type 0) where
  pub order_by : ((I : ℕ → Bool) (j : ℕ) → Rule I j → Other I j) → (js : List ℕ) (I : ℕ → Bool) → IsOrderBy Rule I js
      → IsOrderBy Other I js
  order_by so [] I o = tt
  order_by so (j ∷ js) I o = (so I j o.0, order_by so js (dropping j I) o.1)

use Rattle.std.proofs.Common.{◌≡◌, ◌⊎◌, inl, inr, sym, ◌∙◌, ap, ℕ, ◌+◌, ◌^◌, ◌<◌, ◌≤◌, Bool, true, false, List, get_or}
use Rattle.std.proofs.Common.{arith, subst}
use Rattle.std.proofs.lemmas.Nat.{pow_pos}
use Rattle.field_core.specs.Sets.{IsIn, dropping}
use Rattle.field_core.specs.NumberedSets.{members, set_number}
use Rattle.case_model.specs.SetAnswers.{SaysYes}
use Rattle.case_model.specs.DiscoveryBound.{IsBound}
use Rattle.case_model.specs.SetTableView.{answer_of}
use Rattle.field_core.proofs.Members.{number_members, taken_number, members_taken, number_empty, members_zero}
use Rattle.field_core.proofs.Sizes.{some_member}
use Rattle.case_model.proofs.Bounds.{yes_same, bound_none, bound_next, bound_same, bound_within}
use Rattle.discovery_bound.specs.BoundLists.{AreBounds}
use Rattle.discovery_bound.proofs.bounds.next_bound.Goals as goal
use Rattle.discovery_bound.proofs.bounds.next_bound.Goals.{then-set-eq0-via-then-set-eq0, then-set-eq0-via-else-set-eq0+then-not-get}

module _ (m : ℕ) (table : ℕ → Bool) (set : ℕ) (p : set < 2 ^ m) where
  none : (set ≡ 0) ⊎ (table set ≡ false) → IsBound m (SaysYes m table) (members set) 0
  none (inl e) = bound_none m (SaysYes m table) (yes_same m table) (members set)
      (inl (λ k q. clash (sym (ap (λ n. members n k) e ∙ members_zero k) ∙ q.member)))
    where
      clash : false ≡ true → ⊥
      clash x = cc
  none (inr f) = bound_none m (SaysYes m table) (yes_same m table) (members set) (inr (λ r. clash (sym f ∙ sym (ap table (number_members m set p)) ∙ r)))
    where
      clash : false ≡ true → ⊥
      clash x = cc

  without : ℕ → ℕ
  without j = set_number m (dropping j (members set))

  module _ (bounds : List ℕ) (before : AreBounds m table bounds set) where
    smaller : (j o : ℕ) → IsIn m (members set) j → o + 2 ^ j ≡ set → IsBound m (SaysYes m table) (dropping j (members set)) (get_or bounds o 0)
    smaller j o q e =
        let positive = pow_pos j in
        bound_same m (SaysYes m table) (yes_same m table) (members o) (dropping j (members set)) (get_or bounds o 0)
        (members_taken m set o j p q.below q.member e) (before o (omega (arith, positive, e)))

    other : (j : ℕ) → IsIn m (members set) j → (o : ℕ) × (o + 2 ^ j ≡ set)
    other j q = (set_number m (dropping j (members set)), taken_number m set j p q.below q.member)

    least_within : m ≤ 16 → (least : ℕ) → (least ≡ 16)
        ⊎ ((j : ℕ) × (o : ℕ) × (j < m) × (members set j ≡ true) × (o + 2 ^ j ≡ set) × (least ≡ get_or bounds o 0)) → least ≤ 16
    least_within few least (inl e) = omega arith
    least_within few least (inr x) =
        let b = bound_within m (SaysYes m table) (yes_same m table) _ _ (smaller x.0 x.1 (record { below = x.2; member = x.3 }) x.4) in
        omega (arith, b, few, x.5)

    next : m ≤ 16 → (least : ℕ) → (set ≡ 0 → ⊥) → table set ≡ true
        → ((j o : ℕ) → j < m → members set j ≡ true → o + 2 ^ j ≡ set → least ≤ get_or bounds o 0)
        → (least ≡ 16) ⊎ ((j : ℕ) × (o : ℕ) × (j < m) × (members set j ≡ true) × (o + 2 ^ j ≡ set) × (least ≡ get_or bounds o 0))
        → IsBound m (SaysYes m table) (members set) (least + 1)
    next few least some r low reached =
        let x = member reached in
        bound_next m (SaysYes m table) (yes_same m table) (members set) x.0 least x.1 (ap table (number_members m set p) ∙ r) x.2
        (λ j t. let o = other j t in (get_or bounds o.0 0, low j o.0 t.below t.member o.1, smaller j o.0 t o.1))
      where
        member : (least ≡ 16) ⊎ ((j : ℕ) × (o : ℕ) × (j < m) × (members set j ≡ true) × (o + 2 ^ j ≡ set) × (least ≡ get_or bounds o 0))
            → (k : ℕ) × IsIn m (members set) k × IsBound m (SaysYes m table) (dropping k (members set)) least
        member (inl e) = elim (some_member m (members set)) [
          | inl empty ↦ absurd (some (sym (number_members m set p) ∙ number_empty m (members set) empty))
          | inr x ↦
              let o = other x.0 x.1 in
              let B = smaller x.0 o.0 x.1 o.1 in
              let b = bound_within m (SaysYes m table) (yes_same m table) _ _ B in
              let a = low x.0 o.0 x.1.below x.1.member o.1 in
              let same : get_or bounds o.0 0 ≡ least = omega (arith, a, b, few, e) in
              (x.0, x.1, subst (IsBound m (SaysYes m table) (dropping x.0 (members set))) same B)
        ]
        member (inr x) =
            let q : IsIn m (members set) x.0 = record { below = x.2; member = x.3 } in
            (x.0, q, subst (IsBound m (SaysYes m table) (dropping x.0 (members set))) (sym x.5) (smaller x.0 x.1 q x.4))

pub returns-then-set-eq0 : goal.returns-then-set-eq0
returns-then-set-eq0 c = elim c.then-set-eq0.branch [
  | then-set-eq0-via-then-set-eq0 w ↦ none c.args.closed.now.size (answer_of c.args.closed.now) c.args.set c.requires.set (inl w.if-set-eq0.true)
  | then-set-eq0-via-else-set-eq0+then-not-get w ↦ none c.args.closed.now.size (answer_of c.args.closed.now) c.args.set c.requires.set
      (inr (sym w.get.ensures ∙ w.if-not-get.true))
]

pub overflow_add-result : goal.overflow_add-result
overflow_add-result c =
    let size = c.size.ensures.size in
    let b = least_within c.args.closed.now.size (answer_of c.args.closed.now) c.args.set c.requires.set c.args.bounds.now c.requires.bounds
    c.args.closed.now.few c.least_before.result (rw size at c.least_before.ensures.reached) in
    omega (arith, b)

pub returns : goal.returns
returns c =
    let size = c.size.ensures.size in
    next c.args.closed.now.size (answer_of c.args.closed.now) c.args.set c.requires.set c.args.bounds.now c.requires.bounds c.args.closed.now.few
    c.least_before.result c.if-set-eq0.false (sym c.get.ensures ∙ c.if-not-get.false)
    (rw size at c.least_before.ensures.least) (rw size at c.least_before.ensures.reached)

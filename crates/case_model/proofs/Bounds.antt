-- The bound of a set from those of the sets with one member less.
use Rattle.std.proofs.Common.{◌≡◌, ◌⊎◌, inl, inr, sym, ap, ◌∙◌, subst, ℕ, zero, suc, ◌+◌, ◌<◌, ◌≤◌, arith, Bool, false}
use Rattle.std.proofs.Common.{◌↔◌}
use Rattle.field_core.specs.Sets.{IsIn, IsSubset, HaveSameMembers, dropping, size_of}
use Rattle.field_core.specs.NumberedSets.{members, set_number}
use Rattle.field_core.proofs.Live.{true_or_false, true_not_false, kept_before}
use Rattle.field_core.proofs.Members.{number_same, number_below, members_number}
use Rattle.field_core.proofs.Positions.{at_or_below}
use Rattle.field_core.proofs.Sizes.{size_same, size_subset, size_dropped, missing, some_member, dropped_subset, size_within}
use Rattle.case_model.specs.SetAnswers.{SaysYes, AnswersFor}
use Rattle.case_model.specs.DiscoveryBound.{IsUnrejected, IsBound}

pub yes_same : (m : ℕ) (table : ℕ → Bool) (I J : ℕ → Bool) → HaveSameMembers m I J → SaysYes m table I → SaysYes m table J
yes_same m table I J h r = ap table (sym (number_same m I J h)) ∙ r

module _ (m : ℕ) (Rejected : (ℕ → Bool) → Type 0) (same : (I J : ℕ → Bool) → HaveSameMembers m I J → Rejected I → Rejected J) where
  -- a set that isn't rejected has the bound 0
  pub bound_none : (S : ℕ → Bool) → IsUnrejected m Rejected S → IsBound m Rejected S 0
  bound_none S u = record {
    greatest = S;
    inside = λ i p e. e;
    unrejected = u;
    is_greatest = λ K h v. size_subset m K S h;
    bound = omega arith;
  }

  -- the bound of a rejected set is one more than the least bound of the sets with one member less
  pub bound_next : (S : ℕ → Bool) (k least : ℕ) → IsIn m S k → Rejected S → IsBound m Rejected (dropping k S) least
      → ((j : ℕ) → IsIn m S j → (b : ℕ) × (least ≤ b) × IsBound m Rejected (dropping j S) b) → IsBound m Rejected S (least + 1)
  bound_next S k least q r B each = record {
    greatest = B.greatest;
    inside = λ i p e. kept_before k S i (B.inside i p e);
    unrejected = B.unrejected;
    is_greatest = at_most;
    bound = let e = size_dropped m k S q in omega (arith, e, B.bound);
  }
    where
      at_most : (K : ℕ → Bool) → IsSubset m K S → IsUnrejected m Rejected K → size_of m K ≤ size_of m B.greatest
      at_most K h u = elim (missing m K S h) [
        | inl all ↦ elim u [
          | inl none ↦ absurd (none k (record { below = q.below; member = all k q.below ∙ q.member }))
          | inr kept ↦ absurd (kept (same S K (λ i p. sym (all i p)) r))
        ]
        | inr x ↦
            let C = each x.0 x.1 in
            let a = C.2.is_greatest K (dropped_subset m x.0 K S h x.2) u in
            let b = size_dropped m x.0 S x.1 in
            let c = size_dropped m k S q in
            omega (arith, a, b, c, C.1, C.2.bound, B.bound)
      ]

  -- the members of a set alone decide its bound
  pub bound_same : (S T : ℕ → Bool) (b : ℕ) → HaveSameMembers m S T → IsBound m Rejected S b → IsBound m Rejected T b
  bound_same S T b h B = record {
    greatest = B.greatest;
    inside = λ i p e. sym (h i p) ∙ B.inside i p e;
    unrejected = B.unrejected;
    is_greatest = λ K g u. B.is_greatest K (λ i p e. h i p ∙ g i p e) u;
    bound = B.bound ∙ size_same m S T h;
  }

  pub bound_within : (S : ℕ → Bool) (b : ℕ) → IsBound m Rejected S b → b ≤ m
  bound_within S b B = let e = size_within m S in omega (arith, e, B.bound)

pub bound_at_most : (m : ℕ) (Rejected : (ℕ → Bool) → Type 0) (S : ℕ → Bool) (b : ℕ) → IsBound m Rejected S b → b ≤ size_of m S
bound_at_most m Rejected S b B = omega (arith, B.bound)

-- two ways of rejection that agree on all sets have the same bounds
pub bound_by : (m : ℕ) (P Q : (ℕ → Bool) → Type 0) → ((K : ℕ → Bool) → P K → Q K) → ((K : ℕ → Bool) → Q K → P K)
    → (S : ℕ → Bool) (b : ℕ) → IsBound m P S b → IsBound m Q S b
bound_by m P Q to from S b B = record {
  greatest = B.greatest;
  inside = B.inside;
  unrejected = turned P Q from B.greatest B.unrejected;
  is_greatest = λ K h u. B.is_greatest K h (turned Q P to K u);
  bound = B.bound;
}
  where
    turned : (V W : (ℕ → Bool) → Type 0) → ((K : ℕ → Bool) → W K → V K) → (K : ℕ → Bool) → IsUnrejected m V K → IsUnrejected m W K
    turned V W back K (inl none) = inl none
    turned V W back K (inr kept) = inr (λ r. kept (back K r))

-- a set has one bound
pub one_bound : (m : ℕ) (P : (ℕ → Bool) → Type 0) (S : ℕ → Bool) (a b : ℕ) → IsBound m P S a → IsBound m P S b → a ≡ b
one_bound m P S a b A B =
    let low = A.is_greatest B.greatest B.inside B.unrejected in
    let high = B.is_greatest A.greatest A.inside A.unrejected in
    omega (arith, low, high, A.bound, B.bound)

-- ---- bounds exist

module _ (m : ℕ) (Rejected : (ℕ → Bool) → Type 0) (same : (I J : ℕ → Bool) → HaveSameMembers m I J → Rejected I → Rejected J)
    (decide : (K : ℕ → Bool) → Rejected K ⊎ ¬ Rejected K) where
  -- the least bound of the sets with one member less, of those below `n`
  pub record LeastBelow (S : ℕ → Bool) (n : ℕ) : Type 0 where
    pub taken : ℕ
    pub member : IsIn m S taken
    pub least : ℕ
    pub bound : IsBound m Rejected (dropping taken S) least
    pub each : (j : ℕ) → j < n → IsIn m S j → (b : ℕ) × (least ≤ b) × IsBound m Rejected (dropping j S) b

  least_below : (S : ℕ → Bool) → ((j : ℕ) → IsIn m S j → (b : ℕ) × IsBound m Rejected (dropping j S) b) → (n : ℕ) → n ≤ m
      → ((j : ℕ) → j < n → ¬ IsIn m S j) ⊎ LeastBelow S n
  least_below S bounds zero h = inl (λ j q. absurd (omega arith))
  least_below S bounds (suc n) h = elim (true_or_false (S n)) [
    | inr f ↦ elim (least_below S bounds n (omega arith)) [
      | inl none ↦ inl (λ j q p. not_last f j p (at_or_below j n q) none)
      | inr L ↦ inr (record {
        taken = L.taken;
        member = L.member;
        least = L.least;
        bound = L.bound;
        each = λ j q p. elim (at_or_below j n q) [ inl e ↦ absurd (true_not_false (sym p.member ∙ ap S e ∙ f)) | inr b ↦ L.each j b p ];
      })
    ]
    | inl t ↦ by_last (record { below = omega arith; member = t }) (bounds n (record { below = omega arith; member = t }))
        (least_below S bounds n (omega arith))
  ]
    where
      not_last : S n ≡ false → (j : ℕ) → IsIn m S j → (j ≡ n) ⊎ (j < n) → ((i : ℕ) → i < n → ¬ IsIn m S i) → ⊥
      not_last f j p (inl e) none = true_not_false (sym p.member ∙ ap S e ∙ f)
      not_last f j p (inr b) none = none j b p

      here : (p : IsIn m S n) (last : (b : ℕ) × IsBound m Rejected (dropping n S) b)
          → ((j : ℕ) → j < n → IsIn m S j → (b : ℕ) × (last.0 ≤ b) × IsBound m Rejected (dropping j S) b) → LeastBelow S (suc n)
      here p last before = record {
        taken = n;
        member = p;
        least = last.0;
        bound = last.1;
        each = λ j q s. elim (at_or_below j n q) [
          | inl e ↦ (last.0, omega arith, subst (λ i. IsBound m Rejected (dropping i S) last.0) (sym e) last.1)
          | inr b ↦ before j b s
        ];
      }

      by_last : IsIn m S n → (last : (b : ℕ) × IsBound m Rejected (dropping n S) b) → ((j : ℕ) → j < n → ¬ IsIn m S j) ⊎ LeastBelow S n
          → ((j : ℕ) → j < suc n → ¬ IsIn m S j) ⊎ LeastBelow S (suc n)
      by_last p last (inl none) = inr (here p last (λ j b s. absurd (none j b s)))
      by_last p last (inr L) = elim (one_or_other last.0 L.least) [
        | inl less ↦ inr (here p last (λ j b s. let x = L.each j b s in (x.0, omega (arith, less, x.1), x.2)))
        | inr more ↦ inr (record {
          taken = L.taken;
          member = L.member;
          least = L.least;
          bound = L.bound;
          each = λ j q s. elim (at_or_below j n q) [
            | inl e ↦ (last.0, more, subst (λ i. IsBound m Rejected (dropping i S) last.0) (sym e) last.1)
            | inr b ↦ L.each j b s
          ];
        })
      ]
        where
          one_or_other : (a b : ℕ) → (a ≤ b) ⊎ (b ≤ a)
          one_or_other a b = grind arith

  no_size : (S : ℕ → Bool) → size_of m S ≤ 0 → (k : ℕ) → ¬ IsIn m S k
  no_size S h k q = let e = size_dropped m k S q in absurd (omega (arith, e, h))

  from_least : (S : ℕ → Bool) → Rejected S → (k : ℕ) → IsIn m S k → ((j : ℕ) → j < m → ¬ IsIn m S j) ⊎ LeastBelow S m → (b : ℕ)
      × IsBound m Rejected S b
  from_least S r k q (inl none) = absurd (none k q.below q)
  from_least S r k q (inr L) = (L.least + 1, bound_next m Rejected same S L.taken L.least L.member r L.bound (λ j p. L.each j p.below p))

  bound_within_size : (n : ℕ) (S : ℕ → Bool) → size_of m S ≤ n → (b : ℕ) × IsBound m Rejected S b
  bound_within_size zero S h = (0, bound_none m Rejected same S (inl (no_size S h)))
  bound_within_size (suc n) S h = elim (some_member m S) [
    | inl none ↦ (0, bound_none m Rejected same S (inl none))
    | inr x ↦ elim (decide S) [
      | inr kept ↦ (0, bound_none m Rejected same S (inr kept))
      | inl r ↦ from_least S r x.0 x.1
          (least_below S (λ j q. bound_within_size n (dropping j S) (let e = size_dropped m j S q in omega (arith, e, h))) m (omega arith))
    ]
  ]

  pub bound_exists : (S : ℕ → Bool) → (b : ℕ) × IsBound m Rejected S b
  bound_exists S = bound_within_size (size_of m S) S (omega arith)

-- ---- tables

module _ (m : ℕ) (table : ℕ → Bool) where
  pub yes_or_not : (K : ℕ → Bool) → SaysYes m table K ⊎ ¬ SaysYes m table K
  yes_or_not K = elim (true_or_false (table (set_number m K))) [ inl t ↦ inl t | inr f ↦ inr (λ t. true_not_false (sym t ∙ f)) ]

  pub table_bound_exists : (S : ℕ → Bool) → (b : ℕ) × IsBound m (SaysYes m table) S b
  table_bound_exists = bound_exists m (SaysYes m table) (yes_same m table) yes_or_not

  -- a subset with more members than any that isn't rejected is rejected
  pub large_rejected : (S : ℕ → Bool) (b : ℕ) → IsBound m (SaysYes m table) S b → (K : ℕ → Bool) → IsSubset m K S
      → size_of m S < b + size_of m K → SaysYes m table K
  large_rejected S b B K h large = elim (yes_or_not K) [
    | inl t ↦ t
    | inr n ↦ let e = B.is_greatest K h (inr n) in absurd (omega (arith, e, large, B.bound))
  ]

  -- a table that says which sets are rejected says yes of exactly these
  module _ (P : (ℕ → Bool) → Type 0) (same : (I J : ℕ → Bool) → HaveSameMembers m I J → P I → P J) (answers : AnswersFor m P table) where
    pub yes_rejected : (K : ℕ → Bool) → SaysYes m table K → P K
    yes_rejected K t = same (members (set_number m K)) K (members_number m K) ((answers (set_number m K) (number_below m K)).0 t)

    pub rejected_yes : (K : ℕ → Bool) → P K → SaysYes m table K
    rejected_yes K r = (answers (set_number m K) (number_below m K)).1 (same K (members (set_number m K)) (λ i q. sym (members_number m K i q)) r)

    pub answered_bound : (S : ℕ → Bool) (b : ℕ) → IsBound m (SaysYes m table) S b ↔ IsBound m P S b
    answered_bound S b = (bound_by m (SaysYes m table) P yes_rejected rejected_yes S b, bound_by m P (SaysYes m table) rejected_yes yes_rejected S b)

-- The numbers below a number, in a strict order by which of each two one comes first: a list of them, and the first for which something holds.
use Rattle.std.proofs.Common.{◌≡◌, ◌⊎◌, inl, inr, refl, sym, subst, ℕ, zero, suc, ◌<◌, arith, List, [], ◌∷◌}
use Rattle.std.specs.Prelude.{Contains}
use Rattle.std.specs.List.{All, AllPairs, AllByRecursion}
use Rattle.std.proofs.lemmas.List.Elements.{All-nil, All-cons}
use Rattle.std.proofs.lemmas.List.Kept.{AllPairs-cons}
use Rattle.field_core.proofs.Positions.{at_or_below}

-- ---- lists

pub all_of : {A : Type 0} (P : A → Type 0) (xs : List A) → AllByRecursion P xs → All P xs
all_of P [] h = All-nil P
all_of P (x ∷ xs) h = All-cons P x xs h.0 (all_of P xs h.1)

all_weaker : {A : Type 0} (P Q : A → Type 0) → ((x : A) → P x → Q x) → (xs : List A) → AllByRecursion P xs → AllByRecursion Q xs
all_weaker P Q more [] h = tt
all_weaker P Q more (x ∷ xs) h = (more x h.0, all_weaker P Q more xs h.1)

-- an item is the first of a list, or in the rest
abbrev IsAmong : List ℕ → ℕ → Type 0
IsAmong [] n = ⊥
IsAmong (x ∷ xs) n = (n ≡ x) ⊎ IsAmong xs n

pub contained : (xs : List ℕ) (n : ℕ) → IsAmong xs n → Contains xs n
contained [] n h = absurd h
contained (x ∷ xs) n (inl e) = (zero, omega arith, sym e)
contained (x ∷ xs) n (inr h) = let c = contained xs n h in (suc c.0, (let b = c.1 in omega (arith, b)), c.2)

-- ---- sorted lists

module _ (R : ℕ → ℕ → Type 0) where
  abbrev AreSorted : List ℕ → Type 0
  AreSorted [] = Unit {0}
  AreSorted (x ∷ xs) = AllByRecursion (R x) xs × AreSorted xs

  pairs_of : (xs : List ℕ) → AreSorted xs → AllPairs R xs
  pairs_of [] h = λ i j d p q. absurd (omega (arith, q))
  pairs_of (x ∷ xs) h = AllPairs-cons R x xs (all_of (R x) xs h.0) (pairs_of xs h.1)

  -- a number stands first or last, beside each of a list
  abbrev IsBeside : ℕ → ℕ → Type 0
  IsBeside x y = R x y ⊎ R y x

  module _ (both : (i j k : ℕ) → R i j → R j k → R i k) where
    -- a sorted list with one number more
    record Inserted (x : ℕ) (xs : List ℕ) : Type 1 where
      list : List ℕ
      sorted : AreSorted list
      all : (P : ℕ → Type 0) → P x → AllByRecursion P xs → AllByRecursion P list
      here : IsAmong list x
      others : (n : ℕ) → IsAmong xs n → IsAmong list n

    inserted : (x : ℕ) (xs : List ℕ) → AreSorted xs → AllByRecursion (IsBeside x) xs → Inserted x xs
    inserted x [] s b = record {
      list = x ∷ [];
      sorted = (tt, tt);
      all = λ P p h. (p, tt);
      here = inl refl;
      others = λ n h. absurd h;
    }
    inserted x (y ∷ ys) s b = elim b.0 [
      | inl first ↦ record {
        list = x ∷ y ∷ ys;
        sorted = ((first, all_weaker (R y) (R x) (λ z r. both x y z first r) ys s.0), s);
        all = λ P p h. (p, h);
        here = inl refl;
        others = λ n h. inr h;
      }
      | inr later ↦
          let rest = inserted x ys s.1 b.1 in
          record {
            list = y ∷ rest.list;
            sorted = (rest.all (R y) later s.0, rest.sorted);
            all = λ P p h. (h.0, rest.all P p h.1);
            here = inr rest.here;
            others = λ n h. elim h [ inl e ↦ inl e | inr k ↦ inr (rest.others n k) ];
          }
    ]

    -- (Of each two numbers below `n` one comes first.)
    module _ (n : ℕ) (either : (i j : ℕ) → i < n → j < n → ¬ (i ≡ j) → R i j ⊎ R j i) where
      -- the numbers below another one, sorted
      record Sorted (k : ℕ) : Type 0 where
        list : List ℕ
        sorted : AreSorted list
        below : AllByRecursion (λ j. j < k) list
        each : (j : ℕ) → j < k → IsAmong list j

      one_more : (k : ℕ) → k < n → Sorted k → Sorted (suc k)
      one_more k h S =
          let I = inserted k S.list S.sorted (all_weaker (λ j. j < k) (IsBeside k)
          (λ j b. either k j h (omega (arith, b, h)) (λ e. absurd (omega (arith, e, b)))) S.list S.below) in
          record {
            list = I.list;
            sorted = I.sorted;
            below = I.all (λ j. j < suc k) (omega arith) (all_weaker (λ j. j < k) (λ j. j < suc k) (λ j b. omega (arith, b)) S.list S.below);
            each = λ j b. elim (at_or_below j k b) [
              | inl e ↦ subst (IsAmong I.list) (sym e) I.here
              | inr l ↦ I.others j (S.each j l)
            ];
          }

      sorted_to : (k : ℕ) → (k < suc n) → Sorted k
      sorted_to zero h = record { list = []; sorted = tt; below = tt; each = λ j b. absurd (omega (arith, b)) }
      sorted_to (suc k) h = one_more k (omega (arith, h)) (sorted_to k (omega (arith, h)))

      -- all numbers below `n`, each once and in their order
      pub record Ordered : Type 0 where
        pub list : List ℕ
        pub below : All (λ j. j < n) list
        pub each : (j : ℕ) → j < n → Contains list j
        pub pairs : AllPairs R list

      pub in_order : Ordered
      in_order =
          let S = sorted_to n (omega arith) in
          record {
            list = S.list;
            below = all_of (λ j. j < n) S.list S.below;
            each = λ j b. contained S.list j (S.each j b);
            pairs = pairs_of S.list S.sorted;
          }

      -- (Nothing comes before itself, and it is known of each number whether something holds for it.)
      module _ (itself : (i : ℕ) → ¬ R i i) (P : ℕ → Type 0) (decide : (i : ℕ) → i < n → P i ⊎ ¬ P i) where
        -- the first in the order for which it holds
        pub record IsFirstOfAll (j : ℕ) : Type 0 where
          pub below : j < n
          pub holds : P j
          pub before : (i : ℕ) → i < n → R i j → ¬ P i

        first_in : (xs : List ℕ) → AreSorted xs → AllByRecursion (λ j. j < n) xs
            → ((j : ℕ) × (j < n) × P j × ((i : ℕ) → IsAmong xs i → R i j → ¬ P i)) ⊎ ((i : ℕ) → IsAmong xs i → ¬ P i)
        first_in [] s b = inr (λ i h. absurd h)
        first_in (x ∷ xs) s b = elim (decide x b.0) [
          | inl p ↦ inl (
            x,
            b.0,
            p,
            λ i h r. elim h [
              | inl e ↦ absurd (itself x (subst (λ k. R k x) e r))
              | inr l ↦ absurd (itself i (both i x i r (later xs i s.0 l)))
            ],
          )
          | inr o ↦ elim (first_in xs s.1 b.1) [
            | inl f ↦ inl (f.0, f.1, f.2, λ i h r. elim h [ inl e ↦ subst (λ k. ¬ P k) (sym e) o | inr l ↦ f.3 i l r ])
            | inr none ↦ inr (λ i h. elim h [ inl e ↦ subst (λ k. ¬ P k) (sym e) o | inr l ↦ none i l ])
          ]
        ]
          where
            later : (ys : List ℕ) (i : ℕ) → AllByRecursion (R x) ys → IsAmong ys i → R x i
            later [] i h m = absurd m
            later (y ∷ ys) i h (inl e) = subst (R x) (sym e) h.0
            later (y ∷ ys) i h (inr m) = later ys i h.1 m

        pub first_of_all : ((j : ℕ) × IsFirstOfAll j) ⊎ ((i : ℕ) → i < n → ¬ P i)
        first_of_all =
            let S = sorted_to n (omega arith) in
            elim (first_in S.list S.sorted S.below) [
              | inl f ↦ inl (f.0, record { below = f.1; holds = f.2; before = λ i b r. f.3 i (S.each i b) r })
              | inr none ↦ inr (λ i b. none i (S.each i b))
            ]

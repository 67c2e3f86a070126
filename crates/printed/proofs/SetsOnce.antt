-- A list of all sets in their order has each set exactly once.
use Rattle.std.proofs.Common.{◌≡◌, refl, sym, ap, subst, ◌∙◌, ℕ, zero, suc, ◌+◌, ◌<◌, ◌==◌, Bool, true, false, cond, List, [], ◌∷◌, length, get_or, arith}
use Rattle.std.specs.Prelude.{AllPairs, Contains, count_by}
use Rattle.std.proofs.lemmas.Bool.Decides.{nat_tests}
use Rattle.std.proofs.lemmas.List.Sums.{sum_by-cons}
use Rattle.field_core.proofs.ListOrder.{not_itself}
use Rattle.closed_test.specs.SetLists.{AreSetsInOrder}
use Rattle.closed_test.specs.SetRuns.{IsEarlierSet}
use Rattle.printed.specs.Sets.{AreAllSetsOnce}

-- how many items are a number, with one item more
counted : (n x : ℕ) (xs : List ℕ) → count_by (λ y. y == n) (x ∷ xs) ≡ cond (x == n) 1 0 + count_by (λ y. y == n) xs
counted n x xs = sum_by-cons (λ y. cond (y == n) 1 0) x xs

module _ (R : ℕ → ℕ → Type 0) (n : ℕ) (apart : ¬ R n n) where
  -- an item that comes after the number isn't the number
  none_after : (xs : List ℕ) → ((k : ℕ) (d : ℕ) → k < length xs → R n (get_or xs k d)) → count_by (λ y. y == n) xs ≡ 0
  none_after [] h = refl
  none_after (x ∷ xs) h =
      let later = none_after xs (λ k d p. h (suc k) d (omega arith)) in
      let other : (x == n) ≡ false = by (x == n) refl in
      counted n x xs ∙ ap (λ b. cond b 1 0 + count_by (λ y. y == n) xs) other ∙ omega (arith, later)
    where
      by : (b : Bool) → (x == n) ≡ b → (x == n) ≡ false
      by true e = let same : x ≡ n = grind (arith, nat_tests) in absurd (apart (subst (R n) same (h 0 0 (omega arith))))
      by false e = e

  tail_pairs : (x : ℕ) (xs : List ℕ) → AllPairs R (x ∷ xs) → AllPairs R xs
  tail_pairs x xs h i j d p q = h (suc i) (suc j) d (omega arith) (omega arith)

  head_pairs : (x : ℕ) (xs : List ℕ) → AllPairs R (x ∷ xs) → (k : ℕ) (d : ℕ) → k < length xs → R x (get_or xs k d)
  head_pairs x xs h k d p = h 0 (suc k) d (omega arith) (omega arith)

  -- where the number is in a list, and not its first item, it is in the rest
  in_rest : (x : ℕ) (xs : List ℕ) → (x == n) ≡ false → Contains (x ∷ xs) n → Contains xs n
  in_rest x xs e c = by c.0 c.1 c.2
    where
      by : (k : ℕ) → k < length (x ∷ xs) → get_or (x ∷ xs) k n ≡ n → Contains xs n
      by zero p g = let same : (x == n) ≡ true = grind (arith, nat_tests) in absurd (cc (sym same ∙ e))
      by (suc k) p g = (k, omega arith, g)

  here : (x : ℕ) (xs : List ℕ) → AllPairs R (x ∷ xs) → (x == n) ≡ true → count_by (λ y. y == n) (x ∷ xs) ≡ 1
  here x xs h e =
      let same : x ≡ n = grind (arith, nat_tests) in
      let later = none_after xs (subst (λ z. (k : ℕ) (d : ℕ) → k < length xs → R z (get_or xs k d)) same (head_pairs x xs h)) in
      counted n x xs ∙ ap (λ b. cond b 1 0 + count_by (λ y. y == n) xs) e ∙ omega (arith, later)

  by_head : (x : ℕ) (xs : List ℕ) (b : Bool) → AllPairs R (x ∷ xs) → Contains (x ∷ xs) n → (Contains xs n → count_by (λ y. y == n) xs ≡ 1)
      → (x == n) ≡ b → count_by (λ y. y == n) (x ∷ xs) ≡ 1
  by_head x xs true h c rest e = here x xs h e
  by_head x xs false h c rest e =
      let one = rest (in_rest x xs e c) in
      counted n x xs ∙ ap (λ b. cond b 1 0 + count_by (λ y. y == n) xs) e ∙ omega (arith, one)

  one_of : (xs : List ℕ) → AllPairs R xs → Contains xs n → count_by (λ y. y == n) xs ≡ 1
  one_of [] h c = let p = c.1 in absurd (omega arith)
  one_of (x ∷ xs) h c = by_head x xs (x == n) h c (one_of xs (tail_pairs x xs h)) refl

pub sets_once : (m : ℕ) (sets : List ℕ) → AreSetsInOrder m sets → AreAllSetsOnce m sets
sets_once m sets h = record {
  in_order = h;
  once = λ n p. one_of (IsEarlierSet m) n (not_itself _) sets h.ordered (h.each n p);
}

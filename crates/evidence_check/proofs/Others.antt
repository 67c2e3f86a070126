-- The hypotheses that aren't in a list, from one on.
use Rattle.std.proofs.Common.{◌≡◌, refl, ap, ◌∙◌, ℕ, suc, ◌+◌, ◌-◌, ◌<◌, Bool, true, false, not, List, ◌∷◌, arith}
use Rattle.std.specs.List.{filter, range_with_len}
use Rattle.field_core.specs.Sets.{set_of}

-- the hypotheses from `k` on, in this number, that aren't in a list
abbrev pub others_from : List ℕ → ℕ → ℕ → List ℕ
others_from js k n = filter (λ k. not (set_of js k)) (range_with_len k n)

filter_more : (p : ℕ → Bool) (x : ℕ) (xs : List ℕ) → p x ≡ true → filter p (x ∷ xs) ≡ x ∷ filter p xs
filter_more p x xs e = rw e refl

filter_less : (p : ℕ → Bool) (x : ℕ) (xs : List ℕ) → p x ≡ false → filter p (x ∷ xs) ≡ filter p xs
filter_less p x xs e = rw e refl

module _ (m : ℕ) (js : List ℕ) (k : ℕ) (p : k < m) where
  one_less : m - k ≡ suc (m - (k + 1))
  one_less = omega arith

  pub listed_out : set_of js k ≡ true → others_from js k (m - k) ≡ others_from js (k + 1) (m - (k + 1))
  listed_out e = ap (others_from js k) one_less ∙ filter_less (λ k. not (set_of js k)) k (range_with_len (k + 1) (m - (k + 1))) (ap not e)

  pub listed_in : set_of js k ≡ false → others_from js k (m - k) ≡ k ∷ others_from js (k + 1) (m - (k + 1))
  listed_in e = ap (others_from js k) one_less ∙ filter_more (λ k. not (set_of js k)) k (range_with_len (k + 1) (m - (k + 1))) (ap not e)

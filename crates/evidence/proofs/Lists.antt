-- Lists of hypotheses that aren't listed, and what holds of each item of a list.
use Rattle.std.proofs.Common.{◌≡◌, inl, inr, refl, sym, ap, ap₂, ◌∙◌, ◌==◌, ◌||◌, ◌++◌, subst, cond, append-nil, ℕ, zero, suc}
use Rattle.std.proofs.Common.{◌+◌, ◌<◌, Bool, true, false, not, List, [], ◌∷◌, length, get_or, map, arith}
use Rattle.std.specs.List.{All, filter, list_any, range_with_len}
use Rattle.std.proofs.lemmas.Bool.Decides.{nat_tests}
use Rattle.field_core.specs.Sets.{set_of}
use Rattle.field_core.proofs.Live.{true_or_false}
use Rattle.case_model.proofs.NoFaults.{not_true}
use Rattle.sequential.proofs.KeptLines.{next_listed}
use Rattle.evidence_check.specs.Evidence.{others}
use Rattle.evidence.specs.FlowRun.{has_some}

-- what is on a filtered range
filtered : (q : ℕ → Bool) (P : ℕ → Type 0) (a n : ℕ) → ((k : ℕ) → k < a + n → q k ≡ true → P k) → All P (filter q (range_with_len a n))
filtered q P a zero each = λ i d p. absurd (omega arith)
filtered q P a (suc n) each =
    let rest = filtered q P (a + 1) n (λ k h e. each k (omega arith) e) in
    elim (true_or_false (q a)) [
      | inl t ↦ subst (λ b. All P (cond b (a ∷ filter q (range_with_len (a + 1) n)) (filter q (range_with_len (a + 1) n)))) (sym t)
          (more a (filter q (range_with_len (a + 1) n)) (each a (omega arith) t) rest)
      | inr f ↦ subst (λ b. All P (cond b (a ∷ filter q (range_with_len (a + 1) n)) (filter q (range_with_len (a + 1) n)))) (sym f) rest
    ]
  where
    more : (k : ℕ) (ks : List ℕ) → P k → All P ks → All P (k ∷ ks)
    more k ks h g = at
      where
        at : (i d : ℕ) → i < length (k ∷ ks) → P (get_or (k ∷ ks) i d)
        at zero d p = h
        at (suc i) d p = g i d (omega arith)

pub others_each : (m : ℕ) (js : List ℕ) (P : ℕ → Type 0) → ((k : ℕ) → k < m → set_of js k ≡ false → P k) → All P (others m js)
unfolding others
others_each m js P each = filtered (λ k. not (set_of js k)) P 0 m (λ k h e. each k (omega arith) (not_true (set_of js k) e))

pub all_mapped : {A B : Type 0} (f : A → B) (P : B → Type 0) (xs : List A) → All (λ x. P (f x)) xs → All P (map f xs)
all_mapped f P [] h i d p = absurd (omega arith)
all_mapped f P (x ∷ xs) h zero d p = h 0 x (omega arith)
all_mapped f P (x ∷ xs) h (suc i) d p = all_mapped f P xs (λ k e q. h (suc k) e (omega arith)) i d (omega arith)

pub some_has : (ks : List ℕ) → has_some ks ≡ false → ks ≡ []
some_has [] h = refl
some_has (k ∷ ks) h = absurd (cc)

-- ---- the others, one position after another

pub any_listed : (js : List ℕ) (k : ℕ) → list_any (λ i. i == k) js ≡ set_of js k
any_listed [] k = refl
any_listed (j ∷ js) k = ap₂ (λ a b. a || b) (same_number j k) (any_listed js k)
  where
    same_number : (i j : ℕ) → (i == j) ≡ (j == i)
    same_number i j = grind (arith, nat_tests)

pub others_none : (js : List ℕ) → others 0 js ≡ []
unfolding others
others_none js = refl

others_next : (js : List ℕ) (k : ℕ) → others (k + 1) js ≡ others k js ++ filter (λ i. not (set_of js i)) (k ∷ [])
unfolding others
others_next js k = next_listed (λ i. not (set_of js i)) k

pub others_more : (js : List ℕ) (k : ℕ) → not (set_of js k) ≡ true → others (k + 1) js ≡ others k js ++ k ∷ []
others_more js k h = others_next js k ∙ ap (λ b. others k js ++ cond b (k ∷ []) []) h

pub others_same : (js : List ℕ) (k : ℕ) → not (set_of js k) ≡ false → others (k + 1) js ≡ others k js
others_same js k h = others_next js k ∙ ap (λ b. others k js ++ cond b (k ∷ []) []) h ∙ append-nil (others k js)

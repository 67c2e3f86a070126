-- Positions, each once.
use Rattle.std.proofs.Common.{◌≡◌, refl, sym, ap, ◌∙◌, subst, ℕ, ◌+◌, ◌<◌, ◌≤◌, ◌==◌, true, false, ◌||◌, List, [], ◌∷◌, ◌++◌}
use Rattle.std.proofs.Common.{length, get_or, take, arith}
use Rattle.std.specs.Prelude.{IsTrue}
use Rattle.std.specs.List.{list_any}
use Rattle.std.proofs.lemmas.List.{take_more}
use Rattle.std.proofs.lemmas.Bool.Decides.{nat_tests}
use Rattle.field_core.specs.Sets.{IsIn, whole, set_of}
use Rattle.field_core.specs.Runs.{IsOrder, left_after}
use Rattle.removal.proofs.Orders.{order_at}
use Rattle.case_model.proofs.LegalSteps.{removals_next}
use Rattle.case_model.proofs.RejectionOrders.{left_not_listed, not_listed_left}

same_test : (i j : ℕ) → (i == j) ≡ (j == i)
same_test i j = grind (arith, nat_tests)

-- whether a number is in a list
listed_is : (js : List ℕ) (j : ℕ) → list_any (λ y. y == j) js ≡ set_of js j
listed_is [] j = refl
listed_is (i ∷ js) j = ap (λ b. b || list_any (λ y. y == j) js) (same_test i j) ∙ ap (λ b. (j == i) || b) (listed_is js j)

-- one more position, which is not there before
pub one_more : (m : ℕ) (js : List ℕ) (i j : ℕ) → i < length js → j ≡ get_or js i 0 → j < m → list_any (λ y. y == j) (take i js) ≡ false
    → IsOrder m whole (take i js) → IsOrder m whole (take (i + 1) js)
one_more m js i j within at below fresh o =
    let p : IsIn m (left_after whole (take i js)) j = record {
      below = below;
      member = not_listed_left (take i js) whole j refl (sym (listed_is (take i js) j) ∙ fresh);
    } in
    subst (IsOrder m whole) (ap (λ k. take i js ++ k ∷ []) at ∙ sym (take_more js i 0 within)) (removals_next m (take i js) j whole o p)

-- a position that is not below the size
pub too_great : (m : ℕ) (js : List ℕ) (i j : ℕ) → i < length js → j ≡ get_or js i 0 → m ≤ j → IsOrder m whole js → ⊥
too_great m js i j within at above o = let p = (order_at m js whole i o within).below in absurd (omega (arith, at, above, p))

-- a position that is there before
pub twice : (m : ℕ) (js : List ℕ) (i j : ℕ) → i < length js → j ≡ get_or js i 0 → list_any (λ y. y == j) (take i js) ≡ true → IsOrder m whole js → ⊥
twice m js i j within at found o =
    let p = (order_at m js whole i o within).member in
    let free : set_of (take i js) j ≡ false = subst (λ k. set_of (take i js) k ≡ false) (sym at) (left_not_listed (take i js) whole (get_or js i 0) p) in
    let is : set_of (take i js) j ≡ true = sym (listed_is (take i js) j) ∙ found in
    absurd (cc (free, is))

-- a test that is false of what doesn't hold
pub never : {P : Type 0} → (P → ⊥) → (IsTrue false → P) × (P → IsTrue false)
never none = ((λ h. absurd (cc)), (λ p. absurd (none p)))

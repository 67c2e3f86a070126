-- Lists that are written place by place.
use Rattle.std.proofs.Common.{◌≡◌, refl, ap, ◌∙◌, sym, subst, inl, inr, ℕ, suc, ◌+◌, ◌<◌, List, [], ◌∷◌, length, get_or, set, arith}
use Rattle.std.proofs.Common.{Bool, true, ◌↔◌, ◌&&◌}
use Rattle.std.proofs.lemmas.Bool.{cases_eq}
use Rattle.std.proofs.lemmas.List.{get_or-set_same, get_or-set_other}
use Rattle.std.specs.List.{list_all}
use Rattle.trial_rows.specs.Rows.{IsMark}

-- what holds of the items before a place, and of the one that is put there
pub one_more : {A : Type 0} (d : A) (Q : ℕ → A → Type 0) (xs : List A) (j : ℕ) (x : A) → j < length xs → ((k : ℕ) → k < j → Q k (get_or xs k d))
    → Q j x → (k : ℕ) → k < j + 1 → Q k (get_or (set xs j x) k d)
one_more d Q xs j x within before here k h = elim (cases_eq k j) [
  | inl e ↦ subst (λ k. Q k (get_or (set xs j x) k d)) (sym e) (subst (Q j) (sym (get_or-set_same xs j x d within)) here)
  | inr n ↦ subst (Q k) (sym (get_or-set_other xs j k x d n)) (before k (grind arith))
]

-- what holds at each place holds of all
pub all_from_places : {A : Type 0} (test : A → Bool) (d : A) (xs : List A) → ((k : ℕ) → k < length xs → test (get_or xs k d) ≡ true)
    → list_all test xs ≡ true
all_from_places test d [] h = refl
all_from_places test d (x ∷ xs) h = ap (λ b. b && list_all test xs) (h 0 (omega arith)) ∙ all_from_places test d xs (λ k g. h (suc k) (omega arith))

-- a mark of what is the same
pub moved_mark : (P Q : Type 0) (mark : ℕ) → P ↔ Q → IsMark P mark → IsMark Q mark
moved_mark P Q mark same (inl m) = inl (same.0 m.0, m.1)
moved_mark P Q mark same (inr m) = inr ((λ q. m.0 (same.1 q)), m.1)

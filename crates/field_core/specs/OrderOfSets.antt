-- The order of sets: by the ascending lists of the hypotheses that they leave out, position by position, a list before those that it begins
-- (this project's own).
use Rattle.std.specs.Prelude.{◌≡◌, ◌<◌, ◌≤◌, ◌⊎◌, ◌+◌, ◌-◌, ◌^◌, ℕ, zero, suc, Bool, List, [], ◌∷◌, ◌++◌}
use Rattle.std.specs.Prelude.{if◌then◌else◌}

-- the positions below `m` that a set leaves out, ascending
unfoldable pub left_out : ℕ → (ℕ → Bool) → List ℕ
left_out zero I = []
left_out (suc m) I = left_out m I ++ (if I m then [] else m ∷ [])

-- ascending positions from `first` on that are below `m`
abbrev pub IsAscending : ℕ → ℕ → List ℕ → Type 0
IsAscending m first [] = Unit {0}
IsAscending m first (j ∷ js) = (first ≤ j) × (j < m) × IsAscending m (suc j) js

-- the first list comes before the second
abbrev pub ComesBefore : List ℕ → List ℕ → Type 0
ComesBefore js [] = ⊥
ComesBefore [] (k ∷ ks) = Unit {0}
ComesBefore (j ∷ js) (k ∷ ks) = (j < k) ⊎ ((j ≡ k) × ComesBefore js ks)

-- `ks` is the next list after `js`: it comes later, and what comes before it is `js`, or comes before that
pub record IsNextList (m : ℕ) (js ks : List ℕ) : Type 0 where
  pub ascending : IsAscending m 0 ks
  pub later : ComesBefore js ks
  pub least : (xs : List ℕ) → IsAscending m 0 xs → ComesBefore xs ks → ComesBefore xs js ⊎ (xs ≡ js)

-- `js` is the last list
abbrev pub IsLastList : ℕ → List ℕ → Type 0
IsLastList m js = (xs : List ℕ) → IsAscending m 0 xs → ComesBefore xs js ⊎ (xs ≡ js)

-- how many lists from `first` on come after a list
unfoldable pub lists_after : ℕ → ℕ → List ℕ → ℕ
lists_after m first [] = 2 ^ (m - first) - 1
lists_after m first (j ∷ js) = lists_after m (suc j) js + (2 ^ (m - suc j) - 1)

-- a step from a list to the next one, of which there are fewer from then on: all but the last position of the new list begin the old one
pub record IsListStep (m : ℕ) (old new : List ℕ) (last : ℕ) : Type 0 where
  pub next : IsNextList m old new
  pub fewer : lists_after m 0 new + 1 ≡ lists_after m 0 old
  pub parent : List ℕ
  pub rest : List ℕ
  pub was : old ≡ parent ++ rest
  pub is : new ≡ parent ++ last ∷ []

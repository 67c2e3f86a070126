-- Lists whose items are replaced one after the other.
use Rattle.std.proofs.Common.{◌≡◌, sym, ap, ◌∙◌, ℕ, ◌≤◌, List, map, take, get_or}
use Rattle.std.proofs.Common.{length, arith}
use Rattle.std.proofs.lemmas.List.{take_all}

module _ {A : Type 0} (f : A → A) (before : List A) where
  -- the items below `k` are replaced, and the others are as before
  pub record IsDone (k : ℕ) (now : List A) : Type 0 where
    pub past : take k now ≡ map f (take k before)
    pub rest : (i : ℕ) (d : A) → k ≤ i → get_or now i d ≡ get_or before i d
    pub count : length now ≡ length before

  pub done_all : (k : ℕ) (now : List A) → IsDone k now → length now ≤ k → now ≡ map f before
  done_all k now D h = sym (take_all k now h) ∙ D.past ∙ ap (map f) (take_all k before (omega (arith, D.count)))

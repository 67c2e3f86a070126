-- What holds where tests are true.
use Rattle.std.proofs.Common.{◌≡◌, refl, ap₂, subst, ℕ, zero, suc, ◌<◌, List, [], ◌∷◌, ◌++◌, length, map, get_or, Bool, true, false, ◌&&◌}
use Rattle.std.proofs.Common.{arith}
use Rattle.std.specs.List.{All, list_all}
use Rattle.std.proofs.lemmas.List.{get_or-map, length-map}
use Rattle.std.proofs.Math.ListN.{set, replicate}

pub record Both (a b : Bool) : Type 0 where
  pub left : a ≡ true
  pub right : b ≡ true

pub both : (a b : Bool) → (a && b) ≡ true → Both a b
both true b h = record { left = refl; right = h }
both false b h = absurd (cc)

-- what holds of each item holds of the item at a place
pub all_at : {A : Type 0} (test : A → Bool) (xs : List A) (i : ℕ) (d : A) → list_all test xs ≡ true → i < length xs → test (get_or xs i d) ≡ true
all_at test [] i d h p = absurd (omega arith)
all_at test (x ∷ xs) zero d h p = (both (test x) (list_all test xs) h).left
all_at test (x ∷ xs) (suc i) d h p = all_at test xs i d (both (test x) (list_all test xs) h).right (omega arith)

pub all_middle : {A : Type 0} (test : A → Bool) (xs : List A) (y : A) (ys : List A) → list_all test (xs ++ y ∷ ys) ≡ true → test y ≡ true
all_middle test [] y ys h = (both (test y) (list_all test ys) h).left
all_middle test (x ∷ xs) y ys h = all_middle test xs y ys (both (test x) (list_all test (xs ++ y ∷ ys)) h).right

-- what holds of each item still does where one takes the place of another, or stands after them
pub all_set : {A : Type 0} (test : A → Bool) (xs : List A) (i : ℕ) (y : A) → list_all test xs ≡ true → test y ≡ true
    → list_all test (set xs i y) ≡ true
all_set test [] i y h k = refl
all_set test (x ∷ xs) zero y h k = ap₂ (λ a b. a && b) k (both (test x) (list_all test xs) h).right
all_set test (x ∷ xs) (suc i) y h k = let b = both (test x) (list_all test xs) h in ap₂ (λ a b. a && b) b.left (all_set test xs i y b.right k)

pub all_push : {A : Type 0} (test : A → Bool) (xs : List A) (y : A) → list_all test xs ≡ true → test y ≡ true
    → list_all test (xs ++ y ∷ []) ≡ true
all_push test [] y h k = ap₂ (λ a b. a && b) k refl
all_push test (x ∷ xs) y h k = let b = both (test x) (list_all test xs) h in ap₂ (λ a b. a && b) b.left (all_push test xs y b.right k)

pub all_replicate : {A : Type 0} (test : A → Bool) (n : ℕ) (x : A) → test x ≡ true → list_all test (replicate n x) ≡ true
all_replicate test zero x h = refl
all_replicate test (suc n) x h = ap₂ (λ a b. a && b) h (all_replicate test n x h)

pub all_append : {A : Type 0} (test : A → Bool) (xs ys : List A) → list_all test xs ≡ true → list_all test ys ≡ true
    → list_all test (xs ++ ys) ≡ true
all_append test [] ys h k = k
all_append test (x ∷ xs) ys h k = let b = both (test x) (list_all test xs) h in ap₂ (λ a b. a && b) b.left (all_append test xs ys b.right k)

-- what holds of all items of a mapped list holds of what is mapped
pub all_from_map : {A B : Type 0} (P : B → Type 0) (f : A → B) (xs : List A) → All P (map f xs) → All (λ x. P (f x)) xs
all_from_map P f xs h n d b = subst P (get_or-map f xs n d (f d) b) (h n (f d) (simp length-map b))

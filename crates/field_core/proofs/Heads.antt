-- Lists that begin alike.
use Rattle.std.proofs.Common.{◌≡◌, List, ◌∷◌}

-- equal lists have equal heads and equal tails
pub heads : {A : Type 0} (x y : A) (xs ys : List A) → x ∷ xs ≡ y ∷ ys → (x ≡ y) × (xs ≡ ys)
heads x y xs ys e = (cc, cc)

-- Items of mapped lists.
use Rattle.std.proofs.Common.{◌≡◌, sym, ap, ◌∙◌, ℕ, ◌<◌, List, length, map, get_or}
use Rattle.std.proofs.lemmas.List.{get_or-map}

-- the item at a place of a mapped list
pub mapped_item : {A B : Type 0} (f : A → B) (xs : List A) (n : ℕ) (x : A) (d : B) → n < length xs → x ≡ get_or xs n x
    → get_or (map f xs) n d ≡ f x
mapped_item f xs n x d h e = get_or-map f xs n x d h ∙ ap f (sym e)

-- Lists of a number of places, one place more.
use Rattle.std.proofs.Common.{◌≡◌, sym, ap, ap₂, ◌∙◌, ℕ, ◌+◌, List, [], ◌∷◌, ◌++◌, map, append-nil, append_assoc, arith}
use Rattle.std.specs.List.{flat_map, range_with_len}
use Rattle.std.proofs.lemmas.List.Folds.{flat_map-map}
use Rattle.std.proofs.lemmas.List.FromFn.{map-range_with_len_more}
use Rattle.std.proofs.lemmas.Grind.{flat_map-append}

flat_map-more : {A : Type 0} (f : ℕ → List A) (n : ℕ) → flat_map f (range_with_len 0 (n + 1)) ≡ flat_map f (range_with_len 0 n) ++ f n
flat_map-more f n =
    sym (flat_map-map f (λ k. k) (range_with_len 0 (n + 1)))
    ∙ ap (flat_map f) (map-range_with_len_more (λ k. k) 0 n n (omega arith))
    ∙ flat_map-append f (map (λ k. k) (range_with_len 0 n)) (n ∷ [])
    ∙ ap₂ (λ xs ys. xs ++ ys) (flat_map-map f (λ k. k) (range_with_len 0 n)) (append-nil (f n))

-- what is put after a list, with one place more
pub put_more : {A : Type 0} (f : ℕ → List A) (start items new : List A) (n : ℕ) → items ≡ start ++ flat_map f (range_with_len 0 n)
    → new ≡ items ++ f n → new ≡ start ++ flat_map f (range_with_len 0 (n + 1))
put_more f start items new n e g =
    g ∙ ap (λ t. t ++ f n) e ∙ append_assoc start (flat_map f (range_with_len 0 n)) (f n) ∙ ap (λ t. start ++ t) (sym (flat_map-more f n))

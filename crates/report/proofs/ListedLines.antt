-- Lines of a list, one by one.
use Rattle.std.proofs.Common.{◌≡◌, sym, ap, ap₂, ◌∙◌, ℕ, ◌+◌, List, [], ◌∷◌, ◌++◌, map, Result}
use Rattle.std.proofs.Common.{append-nil, append_assoc, arith}
use Rattle.std.specs.Prelude.{OnOk}
use Rattle.std.specs.List.{flat_map, range_with_len}
use Rattle.std.proofs.lemmas.List.Folds.{flat_map-map}
use Rattle.std.proofs.lemmas.List.FromFn.{map-range_with_len_more}
use Rattle.std.proofs.lemmas.Grind.{flat_map-append}
use Rattle.field_core.proofs.Results.{on_ok}

-- one place more
pub flat_map-more : (f : ℕ → List ℕ) (n : ℕ) → flat_map f (range_with_len 0 (n + 1)) ≡ flat_map f (range_with_len 0 n) ++ f n
flat_map-more f n =
    sym (flat_map-map f (λ k. k) (range_with_len 0 (n + 1)))
    ∙ ap (flat_map f) (map-range_with_len_more (λ k. k) 0 n n (omega arith))
    ∙ flat_map-append f (map (λ k. k) (range_with_len 0 n)) (n ∷ [])
    ∙ ap₂ (λ xs ys. xs ++ ys) (flat_map-map f (λ k. k) (range_with_len 0 n)) (append-nil (f n))

-- the text after one place more
pub put_more : (f : ℕ → List ℕ) (start text new : List ℕ) (n : ℕ) → text ≡ start ++ flat_map f (range_with_len 0 n) → new ≡ text ++ f n
    → new ≡ start ++ flat_map f (range_with_len 0 (n + 1))
put_more f start text new n e g =
    g ∙ ap (λ t. t ++ f n) e ∙ append_assoc start (flat_map f (range_with_len 0 n)) (f n) ∙ ap (λ t. start ++ t) (sym (flat_map-more f n))

-- the line that words, names and a line feed make
pub put_line : {E : Type 0} (r : Result (Unit {0}) E) (old words mid named new names : List ℕ) → mid ≡ old ++ words → named ≡ mid ++ names
    → OnOk r (new ≡ named ++ 10 ∷ []) → OnOk r (new ≡ old ++ ((words ++ names) ++ 10 ∷ []))
put_line r old words mid named new names e g h = on_ok r _ _ h (λ k. k ∙ ap (λ t. t ++ 10 ∷ []) (g ∙ ap (λ t. t ++ names) e ∙ append_assoc old words names)
    ∙ append_assoc old (words ++ names) (10 ∷ []))

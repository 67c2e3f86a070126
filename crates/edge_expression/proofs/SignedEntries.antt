-- 0 and a polynomial is that polynomial.
use Rattle.std.proofs.Common.{◌≡◌, ℕ, zero, suc, List, [], ◌∷◌, map, length, Ok, refl, ap, ◌∙◌, arith}
use Rattle.field_core.specs.Terms.{Terms}
use Rattle.case_model.specs.Sums.{terms_at, zero_terms}
use Rattle.edge_expression.specs.declared.short_fraction.ShortFraction.{ShortFraction}
use Rattle.edge_expression.specs.Expressions.{Plus}
use Rattle.edge_expression.specs.EntryView.{short_terms}
use Rattle.edge_expression.specs.EntryValues.{zero_coefficients, sum, joined}
use Rattle.edge_expression.proofs.UnitOperations.{IsShortTerms, zero_short, sum_zero_left}
use Rattle.edge_expression.proofs.UnitEntries.{tabled, coefficients_are}

zero_at : (k : ℕ) → terms_at zero_coefficients k ≡ zero_terms
unfolding terms_at
zero_at zero = refl
zero_at (suc zero) = refl
zero_at (suc (suc zero)) = refl
zero_at (suc (suc (suc zero))) = refl
zero_at (suc (suc (suc (suc zero)))) = refl
zero_at (suc (suc (suc (suc (suc k))))) = refl

each_short : (xs : List ShortFraction) (k : ℕ) → IsShortTerms (terms_at (map short_terms xs) k)
unfolding terms_at
each_short [] k = zero_short
each_short (x ∷ xs) zero = (x.value.valid, x.short)
each_short (x ∷ xs) (suc k) = each_short xs k

-- a list of five items by its items
pub all_five : (xs : List Terms) → length xs ≡ 5 → tabled (terms_at xs) ≡ xs
unfolding terms_at
all_five [] h = absurd (omega arith)
all_five (a ∷ []) h = absurd (omega arith)
all_five (a ∷ b ∷ []) h = absurd (omega arith)
all_five (a ∷ b ∷ c ∷ []) h = absurd (omega arith)
all_five (a ∷ b ∷ c ∷ d ∷ []) h = absurd (omega arith)
all_five (a ∷ b ∷ c ∷ d ∷ e ∷ []) h = refl
all_five (a ∷ b ∷ c ∷ d ∷ e ∷ f ∷ xs) h = absurd (omega arith)

pub by_items : (x : List Terms) (a b c d e : Terms) → terms_at x 0 ≡ a → terms_at x 1 ≡ b → terms_at x 2 ≡ c → terms_at x 3 ≡ d
    → terms_at x 4 ≡ e → a ∷ b ∷ c ∷ d ∷ e ∷ [] ≡ tabled (terms_at x)
by_items x a b c d e p q r s t = rw (p, q, r, s, t) refl

pub zero_plus : (xs : List ShortFraction) → joined Plus zero_coefficients (map short_terms xs) ≡ Ok (tabled (terms_at (map short_terms xs)))
unfolding joined
zero_plus xs =
    let x = map short_terms xs in
    coefficients_are (λ k. sum (terms_at zero_coefficients k) (terms_at x k)) (terms_at x)
    (λ k l. ap (λ z. sum z (terms_at x k)) (zero_at k) ∙ sum_zero_left (terms_at x k) (each_short xs k))

-- The sums of rows of entries.
use Rattle.std.proofs.Common.{◌≡◌, sym, ap, ◌∙◌, ℕ, zero, suc, ◌<◌, List, [], ◌∷◌, map, Some, arith}
use mathlib.Core.Path.{fun_ext}
use Rattle.field_core.specs.Terms.{Terms}
use Rattle.field_core.specs.View.{terms}
use Rattle.field_core.specs.Number.{Number}
use Rattle.field_core.specs.Arithmetic.{◌*ε◌}
use Rattle.field_core.specs.NumberField.{number_field}
use Rattle.field_core.specs.Sums.{sum_below}
use Rattle.field_core.specs.Laws.NumberFieldLaws.{field_product}
use Rattle.field_core.specs.declared.ratio.Ratio.{Ratio}
use Rattle.field_core.proofs.SumLaws.{sum_congr, sum_swap, sum_scale_right}
use Rattle.fraction.specs.Laws.WrittenLaws.{bind_some}
use Rattle.case_model.specs.Sums.{terms_at, ratio_at, number_at}
use Rattle.case_model.specs.Entries.{power_of_epsilon, entry_value}
use Rattle.case_model.specs.CaseFaults.{power_sum, written_row}
use Rattle.case_model.proofs.ExactSums.{exact_sum}
use Rattle.case_model.proofs.Same.{terms_at-map}

-- the parts of a written row
record HasParts (m : ℕ) (row : ℕ → List Ratio) (s : List Terms) : Type 0 where
  part : (k : ℕ) → k < 5 → power_sum m row k ≡ Some (terms_at s k)

five_parts : (m : ℕ) (row : ℕ → List Ratio) (a b c d e : Terms) → power_sum m row 0 ≡ Some a → power_sum m row 1 ≡ Some b
    → power_sum m row 2 ≡ Some c → power_sum m row 3 ≡ Some d → power_sum m row 4 ≡ Some e
    → (k : ℕ) → k < 5 → power_sum m row k ≡ Some (terms_at (a ∷ b ∷ c ∷ d ∷ e ∷ []) k)
unfolding terms_at
five_parts m row a b c d e pa pb pc pd pe zero h = pa
five_parts m row a b c d e pa pb pc pd pe (suc zero) h = pb
five_parts m row a b c d e pa pb pc pd pe (suc (suc zero)) h = pc
five_parts m row a b c d e pa pb pc pd pe (suc (suc (suc zero))) h = pd
five_parts m row a b c d e pa pb pc pd pe (suc (suc (suc (suc zero)))) h = pe
five_parts m row a b c d e pa pb pc pd pe (suc (suc (suc (suc (suc k))))) h = absurd (omega arith)

parts_of : (m : ℕ) (row : ℕ → List Ratio) (s : List Terms) → written_row m row ≡ Some s → HasParts m row s
unfolding written_row
parts_of m row s w =
    let a = bind_some (power_sum m row 0) _ s w in
    let b = bind_some (power_sum m row 1) _ s a.1.1 in
    let c = bind_some (power_sum m row 2) _ s b.1.1 in
    let d = bind_some (power_sum m row 3) _ s c.1.1 in
    let e = bind_some (power_sum m row 4) _ s d.1.1 in
    let same : a.0 ∷ b.0 ∷ c.0 ∷ d.0 ∷ e.0 ∷ [] ≡ s = cc e.1.1 in
    record { part = λ k h. five_parts m row a.0 b.0 c.0 d.0 e.0 a.1.0 b.1.0 c.1.0 d.1.0 e.1.0 k h ∙ ap (λ s. Some (terms_at s k)) same }

-- ---- the value of a written row

products : (n : ℕ) (f g : ℕ → Number) → sum_below number_field n (λ k. f k *ε g k) ≡ sum_below number_field n
    (λ k. number_field.◌⊗◌ (f k) (g k))
products n f g = ap (sum_below number_field n) (fun_ext (λ k. sym (field_product (f k) (g k))))

-- the values of the entries of a row sum to the sums of the powers, each times its power of epsilon
sum_by_powers : (m : ℕ) (row : ℕ → List Ratio) → sum_below number_field m (λ j. entry_value (row j)) ≡ sum_below number_field 5
    (λ k. sum_below number_field m (λ j. number_at (row j) k) *ε power_of_epsilon k)
unfolding entry_value
sum_by_powers m row =
    ap (sum_below number_field m) (fun_ext (λ j. products 5 (number_at (row j)) power_of_epsilon))
    ∙ sum_swap number_field m 5 (λ j k. number_field.◌⊗◌ (number_at (row j) k) (power_of_epsilon k))
    ∙ ap (sum_below number_field 5) (fun_ext (λ k. sum_scale_right number_field m (power_of_epsilon k) (λ j. number_at (row j) k)))
    ∙ sym (products 5 (λ k. sum_below number_field m (λ j. number_at (row j) k)) power_of_epsilon)

-- a written row has the value of the sum
pub exact_row : (m : ℕ) (row : ℕ → List Ratio) (e : List Ratio) → written_row m row ≡ Some (map terms e)
    → entry_value e ≡ sum_below number_field m (λ j. entry_value (row j))
unfolding entry_value
exact_row m row e w =
    let parts = parts_of m row (map terms e) w in
    let sum : (k : ℕ) → k < 5 → number_at e k ≡ sum_below number_field m (λ j. number_at (row j) k)
    = λ k h. (exact_sum m (λ j. ratio_at (row j) k) (terms (ratio_at e k)) (parts.part k h ∙ ap Some (terms_at-map e k))).value in
    sum_congr number_field 5 (λ k. number_at e k *ε power_of_epsilon k) (λ k. sum_below number_field m (λ j. number_at (row j) k) *ε power_of_epsilon k)
    (λ k h. ap (λ x. x *ε power_of_epsilon k) (sum k h))
    ∙ sym (sum_by_powers m row)

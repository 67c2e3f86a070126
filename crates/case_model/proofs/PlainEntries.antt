-- The value of an entry without coefficients above power 0.
use Rattle.std.proofs.Common.{◌≡◌, refl, ◌∙◌, ℕ, suc, List, [], ◌∷◌, true}
use Rattle.field_core.specs.declared.ratio.Ratio.{Ratio}
use Rattle.field_core.specs.Number.{Number}
use Rattle.field_core.specs.Arithmetic.{number_zero, number_one, ◌+ε◌, ◌*ε◌}
use Rattle.field_core.specs.Laws.Order.{number_laws}
use Rattle.case_model.specs.Sums.{ratio_at, number_at, zero_ratio}
use Rattle.case_model.specs.Entries.{power_of_epsilon, entry_value, is_plain_entry}
use Rattle.case_model.proofs.EntryOrder.{sum_of_five}
use Rattle.case_model.proofs.ValidGraphs.{number-zero, zero_at}

-- a coefficient above power 0
higher_zero : (e : List Ratio) (k : ℕ) → is_plain_entry e ≡ true → number_at e (suc k) ≡ number_zero
unfolding is_plain_entry ratio_at
higher_zero [] k h = number-zero zero_ratio refl
higher_zero (t ∷ ts) k h = zero_at ts k h

constant : (a b c d e x y z w : Number) → b ≡ number_zero → c ≡ number_zero → d ≡ number_zero → e ≡ number_zero
    → number_zero +ε a *ε number_one +ε b *ε x +ε c *ε y +ε d *ε z +ε e *ε w ≡ a
constant a b c d e x y z w p q r s = rw (p, q, r, s) (simp number_laws)

pub plain_entry_value : (e : List Ratio) → is_plain_entry e ≡ true → entry_value e ≡ number_at e 0
unfolding entry_value power_of_epsilon
plain_entry_value e h =
    sum_of_five (λ k. number_at e k *ε power_of_epsilon k)
    ∙ constant (number_at e 0) (number_at e 1) (number_at e 2) (number_at e 3) (number_at e 4) (power_of_epsilon 1) (power_of_epsilon 2) (power_of_epsilon 3)
    (power_of_epsilon 4) (higher_zero e 0 h) (higher_zero e 1 h) (higher_zero e 2 h) (higher_zero e 3 h)

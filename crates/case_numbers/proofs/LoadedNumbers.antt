-- The numbers of a case are stored as their kind stores them, with the values of the weights and of the edges.
use Rattle.std.proofs.Common.{◌≡◌, sym, subst, ◌∙◌, true, List, map, Ok, arith, lit≤}
use Rattle.field_core.specs.Number.{Number}
use Rattle.field_core.specs.Arithmetic.{number_zero, number_one, ◌+ε◌, ◌*ε◌}
use Rattle.field_core.specs.Epsilon.{epsilon}
use Rattle.field_core.specs.Laws.Order.{number_laws}
use Rattle.field_core.specs.Kind.{Parts}
use Rattle.field_core.specs.Exact.{IsExact, value_of}
use Rattle.field_core.specs.View.{terms}
use Rattle.field_core.specs.declared.ratio.Ratio.{Ratio}
use Rattle.fraction.specs.View.{number_of}
use Rattle.fraction.specs.Laws.PlainLaws.{plain_is_exact}
use Rattle.eps_quotient.specs.Polynomials.{polynomial_value}
use Rattle.eps_quotient.specs.Laws.Exact.{quotients_are_exact}
use Rattle.eps_quotient.proofs.TermLaws.{term_stored, constant_value, polynomial_stored, polynomial_is, all_ratios, kept}
use Rattle.case_model.specs.Sums.{ratio_at, number_at}
use Rattle.case_model.specs.Entries.{power_of_epsilon, entry_value, is_plain_entry}
use Rattle.case_model.proofs.EntryOrder.{sum_of_five}
use Rattle.case_model.proofs.ExactSums.{stored_single, value_single}
use Rattle.case_model.proofs.PlainEntries.{plain_entry_value}
use Rattle.case_numbers.specs.Numbers.{Numbers, in_fractions, in_quotients, kind_of, IsStoredIn, five_coefficients, loaded_weight, loaded_edge}

pub exact_in : (n : Numbers) → IsExact (kind_of n) (IsStoredIn n)
exact_in in_fractions = plain_is_exact
exact_in in_quotients = quotients_are_exact

-- stored in these numbers, with this value
pub record Holds (n : Numbers) (x : Parts) (v : Number) : Type 0 where
  pub stored : IsStoredIn n x
  pub value : value_of x ≡ v

pub weight_loaded : (n : Numbers) (x : Ratio) → Holds n (loaded_weight n x) (number_of x)
weight_loaded in_fractions x = record { stored = stored_single (terms x) x.valid; value = value_single (terms x) }
weight_loaded in_quotients x = record { stored = term_stored 0 (terms x) (omega arith) x.valid; value = constant_value (terms x) x.valid }

-- ---- the value of an entry is that of the polynomial of its coefficients

by_powers : (a b c d e x : Number) → a +ε x *ε (b +ε x *ε (c +ε x *ε (d +ε x *ε (e +ε x *ε number_zero))))
    ≡ number_zero +ε a *ε number_one +ε b *ε (x *ε number_one) +ε c *ε (x *ε (x *ε number_one)) +ε d *ε
    (x *ε (x *ε (x *ε number_one))) +ε e *ε (x *ε (x *ε (x *ε (x *ε number_one))))
by_powers a b c d e x = simp number_laws

entry_polynomial : (e : List Ratio) → polynomial_value (map terms (five_coefficients e)) ≡ entry_value e
unfolding polynomial_value entry_value power_of_epsilon
entry_polynomial e = by_powers (number_at e 0) (number_at e 1) (number_at e 2) (number_at e 3) (number_at e 4) epsilon
    ∙ sym (sum_of_five (λ k. number_at e k *ε power_of_epsilon k))

-- an edge can be loaded in quotients, and in fractions only if it is plain
abbrev pub CanLoad : Numbers → List Ratio → Type 0
CanLoad in_fractions e = is_plain_entry e ≡ true
CanLoad in_quotients e = Unit {0}

pub edge_loaded : (n : Numbers) (e : List Ratio) (x : Parts) → CanLoad n e → loaded_edge n e ≡ Ok x → Holds n x (entry_value e)
edge_loaded in_fractions e x p h =
    let a = ratio_at e 0 in
    subst (λ x. Holds in_fractions x (entry_value e)) (cc)
    (record { stored = stored_single (terms a) a.valid; value = value_single (terms a) ∙ sym (plain_entry_value e p) })
edge_loaded in_quotients e x p h =
    let w = kept x _ (sym h) in
    let r = all_ratios (five_coefficients e) in
    record {
      stored = polynomial_stored (map terms (five_coefficients e)) x (lit≤ tt) r w;
      value = polynomial_is (map terms (five_coefficients e)) x (lit≤ tt) r w ∙ entry_polynomial e;
    }

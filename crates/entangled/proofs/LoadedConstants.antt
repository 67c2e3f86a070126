-- The numbers of a case that rows are gathered from are quotients over constants.
use Rattle.std.proofs.Common.{◌≡◌, sym, ℕ, ◌<◌, List, pos, map, Ok, lit≤}
use Rattle.field_core.specs.Kind.{Parts}
use Rattle.field_core.specs.View.{terms}
use Rattle.field_core.specs.declared.ratio.Ratio.{Ratio}
use Rattle.eps_poly.specs.Polynomials.{IsConstant}
use Rattle.eps_quotient.specs.Polynomials.{term}
use Rattle.eps_quotient.proofs.Constants.{monomial_constant, polynomial_constant}
use Rattle.eps_quotient.proofs.TermLaws.{all_ratios, kept}
use Rattle.case_numbers.specs.Numbers.{Numbers, in_fractions, in_quotients, kind_of, five_coefficients, loaded_weight, loaded_edge}
use Rattle.removal.specs.StoredGraph.{StoredGraph, size as graph_size, weight, edge}
use Rattle.entangled.specs.States.{CanGather}

-- a quotient is over a constant; nothing is asked of a fraction
abbrev pub IsOverConstant : Numbers → Parts → Type 0
IsOverConstant in_fractions x = Unit {0}
IsOverConstant in_quotients x = IsConstant x.denominator

pub zero_constant : (n : Numbers) → IsOverConstant n (kind_of n).zero
zero_constant in_fractions = tt
zero_constant in_quotients = monomial_constant (pos 1)

pub weight_constant : (n : Numbers) (x : Ratio) → IsOverConstant n (loaded_weight n x)
unfolding term
weight_constant in_fractions x = tt
weight_constant in_quotients x = monomial_constant (terms x).den

pub edge_constant : (n : Numbers) (e : List Ratio) (x : Parts) → loaded_edge n e ≡ Ok x → IsOverConstant n x
edge_constant in_fractions e x h = tt
edge_constant in_quotients e x h = polynomial_constant (map terms (five_coefficients e)) x (lit≤ tt) (all_ratios (five_coefficients e)) (kept x _ (sym h))

-- a graph of such numbers can be gathered
pub can_gather : (n : Numbers) (G : StoredGraph) → ((k : ℕ) → k < graph_size G → IsOverConstant n (weight (kind_of n) G k))
    → ((l k : ℕ) → l < graph_size G → k < graph_size G → IsOverConstant n (edge (kind_of n) G l k)) → CanGather n G
can_gather in_fractions G ws es = tt
can_gather in_quotients G ws es = record { weights = ws; edges = es }

use Rattle.std.proofs.Common.{◌≡◌, ℕ, ◌<◌, length, get_or, Some}
use Rattle.eps_poly.specs.ExactQuotients.{exact_quotient}
use Rattle.eps_poly.specs.Polynomials.{zero_polynomial}
use Rattle.row_removal.proofs.row.write_quotients.Given as goal

abbrev pub invariant-loop-k : goal.invariant-loop-k
invariant-loop-k l = record {
  count : length l.quotients ≡ length l.fn.numerators;
  each : (i : ℕ) → i < l.k → exact_quotient (get_or l.fn.numerators i zero_polynomial) l.fn.by ≡ Some (get_or l.quotients i zero_polynomial);
}

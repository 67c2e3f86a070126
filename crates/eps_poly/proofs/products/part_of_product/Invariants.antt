use Rattle.std.proofs.Common.{◌≡◌, Some}
use Rattle.eps_poly.specs.Written.{written_coefficient}
use Rattle.eps_poly.proofs.products.part_of_product.Given as goal

abbrev pub invariant-loop-first : goal.invariant-loop-first
invariant-loop-first l = written_coefficient l.fn.p l.fn.q l.fn.power l.first ≡ Some l.sum

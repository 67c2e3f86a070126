use Rattle.std.proofs.Common.{◌≡◌, ◌∙◌, refl, ap, List, [], ◌∷◌, ℤ, map, replicate, length, arith}
use Rattle.eps_poly.specs.Polynomials.{zero_polynomial}
use Rattle.row_removal.proofs.InPlace.{done_all}
use Rattle.row_removal.proofs.row.clear_all.Goals as goal

zeros : (ps : List (List ℤ)) → map (λ p. zero_polynomial) ps ≡ replicate (length ps) zero_polynomial
zeros [] = refl
zeros (p ∷ ps) = ap (λ qs. zero_polynomial ∷ qs) (zeros ps)

pub returns : goal.returns
returns c =
    let done = c.loop-k-test.false in
    let count = c.loop-k.invariant.count in
    done_all _ _ c.loop-k.k c.loop-k.numerators c.loop-k.invariant (omega arith) ∙ zeros c.args.numerators.now

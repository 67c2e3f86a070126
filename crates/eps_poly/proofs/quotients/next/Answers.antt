use Rattle.std.proofs.Common.{◌≡◌, ◌+◌, ◌∙◌, sym, ap, ap₂, ◌*ℤ◌, ◌+ℤ◌, neg_ℤ, Some, None}
use Rattle.field_core.specs.Polynomial.{coefficient}
use Rattle.field_core.specs.Sized.{sized}
use Rattle.eps_poly.proofs.QuotientLaws.{next_step, divisor_some}
use Rattle.eps_poly.proofs.quotients.next.Goals as goal
use Rattle.field_core.proofs.Results.{same_some}

pub returns-in_err-part : goal.returns-in_err-part
returns-in_err-part c q e same =
    let p = c.args.p.now in
    let by = c.args.by.now in
    let at = c.args.power + c.args.low in
    let s = next_step p by q c.args.known.now c.args.power c.args.low e c.requires.low c.requires.power same in
    let found : c.part_of_product.result ≡ Some s.part = c.part_of_product.ensures ∙ s.known_part in
    let none : c.part_of_product.result ≡ None = c.in_err-part.was in
    absurd (cc)

pub returns-in_err-rest : goal.returns-in_err-rest
returns-in_err-rest c q e same =
    let p = c.args.p.now in
    let by = c.args.by.now in
    let at = c.args.power + c.args.low in
    let s = next_step p by q c.args.known.now c.args.power c.args.low e c.requires.low c.requires.power same in
    let found : c.part_of_product.result ≡ Some s.part = c.part_of_product.ensures ∙ s.known_part in
    let part : c.in_ok-part.part ≡ s.part = same_some _ _ (sym c.in_ok-part.was ∙ found) in
    let sum : c.checked_add.result ≡ sized (coefficient p at +ℤ neg_ℤ s.part) = c.checked_add.ensures
    ∙ ap₂ (λ a b. sized (a +ℤ b)) c.whole.ensures (c.negated.ensures ∙ ap neg_ℤ part) in
    let rest : c.checked_add.result ≡ Some (coefficient q c.args.power *ℤ coefficient by c.args.low) = sum ∙ s.rest in
    let none : c.checked_add.result ≡ None = c.in_err-rest.was in
    absurd (cc)

pub divided-requires : goal.divided-requires
divided-requires c none =
    divisor_some c.args.by.now c.args.low c.requires.low c.requires.nonzero (sym c.whole-2.ensures ∙ none)

pub returns : goal.returns
returns c q e same =
    let p = c.args.p.now in
    let by = c.args.by.now in
    let at = c.args.power + c.args.low in
    let s = next_step p by q c.args.known.now c.args.power c.args.low e c.requires.low c.requires.power same in
    let found : c.part_of_product.result ≡ Some s.part = c.part_of_product.ensures ∙ s.known_part in
    let part : c.in_ok-part.part ≡ s.part = same_some _ _ (sym c.in_ok-part.was ∙ found) in
    let sum : c.checked_add.result ≡ sized (coefficient p at +ℤ neg_ℤ s.part) = c.checked_add.ensures
    ∙ ap₂ (λ a b. sized (a +ℤ b)) c.whole.ensures (c.negated.ensures ∙ ap neg_ℤ part) in
    let rest : c.checked_add.result ≡ Some (coefficient q c.args.power *ℤ coefficient by c.args.low) = sum ∙ s.rest in
    let product : c.in_ok-rest.rest ≡ coefficient q c.args.power *ℤ coefficient by c.args.low = same_some _ _ (sym c.in_ok-rest.was ∙ rest) in
    (c.divided.ensures (coefficient q c.args.power)).1 (ap (λ x. coefficient q c.args.power *ℤ x) c.whole-2.ensures ∙ sym product)

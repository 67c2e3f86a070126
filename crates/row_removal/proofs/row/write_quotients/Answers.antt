use Rattle.std.proofs.Common.{◌≡◌, ◌∙◌, sym, ap, ◌<◌, length, length-set, get_or, arith, inl, inr, Some}
use Rattle.std.proofs.lemmas.Bool.{cases_eq}
use Rattle.std.proofs.lemmas.List.{get_or-set_same, get_or-set_other, get_or_read}
use Rattle.eps_poly.specs.ExactQuotients.{exact_quotient}
use Rattle.eps_poly.specs.Polynomials.{zero_polynomial}
use Rattle.row_removal.specs.Laws.Together.{from_given, none_given}
use Rattle.row_removal.proofs.row.write_quotients.Goals as goal

pub loop-k-init : goal.loop-k-init
loop-k-init c = record { count = c.requires.count; each = λ i h. absurd (omega arith) }

pub loop-k-preserved : goal.loop-k-preserved
loop-k-preserved c =
    let k = c.loop-k.k in
    let more = c.loop-k-test.true in
    let kept = c.loop-k.auto.quotients in
    let here : k < length c.loop-k.quotients = omega arith in
    let count = c.loop-k.invariant.count in
    let room : k < length c.args.numerators.now = omega arith in
    let read : c.index-numerators-k.result ≡ get_or c.args.numerators.now k zero_polynomial =
    get_or_read c.args.numerators.now k _ room c.index-numerators-k.is zero_polynomial in
    let found : exact_quotient (get_or c.args.numerators.now k zero_polynomial) c.args.by.now ≡ Some c.put_quotient.new.self =
    ap (λ p. exact_quotient p c.args.by.now) (sym read) ∙ sym c.in_ok-put_quotient.ensures in
    record {
      count = length-set c.loop-k.quotients k c.put_quotient.new.self ∙ count;
      each = λ i h. elim (cases_eq i k) [
        | inl e ↦ rw (e, get_or-set_same c.loop-k.quotients k c.put_quotient.new.self zero_polynomial here) found
        | inr apart ↦ rw (get_or-set_other c.loop-k.quotients k i c.put_quotient.new.self zero_polynomial apart)
            (c.loop-k.invariant.each i (omega arith))
      ];
    }

pub returns-in_err-put_quotient : goal.returns-in_err-put_quotient
returns-in_err-put_quotient c =
    let k = c.loop-k.k in
    let more = c.loop-k-test.true in
    let kept = c.loop-k.auto.quotients in
    let here : k < length c.loop-k.quotients = omega arith in
    let count = c.loop-k.invariant.count in
    let room : k < length c.args.numerators.now = omega arith in
    let read : c.index-numerators-k.result ≡ get_or c.args.numerators.now k zero_polynomial =
    get_or_read c.args.numerators.now k _ room c.index-numerators-k.is zero_polynomial in
    rw c.from_residual.ensures (sym (none_given (λ p. exact_quotient p c.args.by.now) zero_polynomial c.args.numerators.now k room
    (ap (λ p. exact_quotient p c.args.by.now) (sym read) ∙ sym c.in_err-put_quotient.ensures)))

pub returns : goal.returns
returns c =
    let done = c.loop-k-test.false in
    let count = c.loop-k.invariant.count in
    sym (from_given (λ p. exact_quotient p c.args.by.now) zero_polynomial zero_polynomial c.args.numerators.now c.loop-k.quotients count
    (λ i h. c.loop-k.invariant.each i (omega arith)))

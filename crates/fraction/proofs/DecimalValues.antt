-- What a decimal is worth, by what is read of it.
use Rattle.std.proofs.Common.{◌≡◌, ◌≢◌, ℕ, Bool, true, false, List, [], pos, Some, None, Result, Ok, Err, refl, sym, subst}
use Rattle.std.proofs.Common.{◌∙◌}
use Rattle.std.specs.Option.{option_map}
use Rattle.std.specs.Result.{result_ok}
use Rattle.field_core.specs.Terms.{Terms}
use Rattle.field_core.specs.Laws.Effective.{positive_nonzero}
use Rattle.field_core.specs.View.{terms}
use Rattle.field_core.specs.declared.ratio.Ratio.{Ratio}
use Rattle.numerals.specs.declared.fault.NumberFault.{NumberFault}
use Rattle.numerals.specs.declared.fault.NumberFault.TheVariants.{Empty, BadByte, ZeroDenominator, TooManyDigits}
use Rattle.numerals.specs.declared.decimal_machine.DecimalPart.TheVariants as parts
use Rattle.numerals.specs.Numeral.{Same, Body, Plain, Pointed, Pair, body_text, value_of, IsNumeral, HasZeroDenominator, HasTooManyDigits, IsNumeralOf}
use Rattle.numerals.specs.Numeral.{IsParseFault}
use Rattle.numerals.specs.Decimals.{IsPair, Decimal, has_too_many_digits, decimal_value}
use Rattle.numerals.proofs.DecimalTexts.{takes, takes_nil, decimal_taken}
use Rattle.numerals.proofs.DecimalLimits.{decides_too_many}
use Rattle.numerals.proofs.LowestTerms.{lowest_any}
use Rattle.numerals.proofs.Unique.{body_unique, value_unique, value_positive}
use Rattle.fraction.specs.Numerals.{numeral_of}
use Rattle.fraction.proofs.Numerals.{numeral_is, numeral_fails}

-- a decimal is a numeral
numeral : (d : Decimal) → IsNumeral (body_text d.body)
numeral d = record { sign = None; body = d.body; is_sign = tt; is_body = d.is_body; spelt = refl }

same_body : (d : Decimal) (n : IsNumeral (body_text d.body)) → n.body ≡ d.body
unfolding numeral
same_body d n = body_unique (body_text d.body) n (numeral d)

same_value : (d : Decimal) (n : IsNumeral (body_text d.body)) → value_of n.sign n.body ≡ value_of None d.body
unfolding numeral
same_value d n = value_unique (body_text d.body) n (numeral d)

false_by : (b : Bool) → ¬ (b ≡ true) → b ≡ false
false_by true h = absurd (h refl)
false_by false h = refl

few_digits : (d : Decimal) (n : IsNumeral (body_text d.body)) → ¬ HasTooManyDigits n.body → has_too_many_digits d.body ≡ false
few_digits d n h = false_by (has_too_many_digits d.body) (λ e. h (subst HasTooManyDigits (sym (same_body d n)) ((decides_too_many d.body).0 e)))

no_zero : (body : Body) → ¬ IsPair body → ¬ HasZeroDenominator body
unfolding HasZeroDenominator
no_zero (Plain whole e) n h = h
no_zero (Pointed whole fraction e) n h = h
no_zero (Pair over under) n h = n tt

-- its denominator isn't 0
pub decimal_some : (d : Decimal) → (value_of None d.body).den ≢ pos 0
decimal_some d = positive_nonzero (value_of None d.body).den (value_positive None d.body (no_zero d.body d.no_pair))

pub decimal_found : (d : Decimal) (text : List ℕ) (t : Terms) → text ≡ body_text d.body → IsNumeralOf text t → Some t ≡ decimal_value d
unfolding decimal_value
decimal_found d text t e f =
    let g : IsNumeralOf (body_text d.body) t = subst (λ x. IsNumeralOf x t) e f in
    let v : Terms = value_of None d.body in
    rw (few_digits d g.numeral g.within, lowest_any t v.num v.den g.lowest (decimal_some d) (subst (Same t) (same_value d g.numeral) g.same)) refl

many_digits : (d : Decimal) (n : IsNumeral (body_text d.body)) → HasTooManyDigits n.body → decimal_value d ≡ None
unfolding decimal_value
many_digits d n h = rw ((decides_too_many d.body).1 (subst HasTooManyDigits (same_body d n) h)) refl

no_text : (d : Decimal) → ¬ (body_text d.body ≡ [])
no_text d e = let h : takes [] parts.Start ≡ true = subst (λ x. takes x parts.Start ≡ true) e (decimal_taken d) in let f : false ≡ true =
    sym (takes_nil parts.Start) ∙ h in cc

fault_by : (d : Decimal) (f : NumberFault) → IsParseFault (body_text d.body) f → decimal_value d ≡ None
unfolding IsParseFault
fault_by d Empty h = absurd (no_text d h)
fault_by d (BadByte n) h = absurd (h.1.refused (numeral d))
fault_by d ZeroDenominator h = absurd (no_zero d.body d.no_pair (subst HasZeroDenominator (same_body d h.0) h.1))
fault_by d TooManyDigits h = many_digits d h.0 h.1.1

decimal_fault : (d : Decimal) (text : List ℕ) (f : NumberFault) → text ≡ body_text d.body → IsParseFault text f → None ≡ decimal_value d
decimal_fault d text f e h = sym (fault_by d f (subst (λ x. IsParseFault x f) e h))

-- what is read of the text of a decimal
pub decimal_read : (d : Decimal) (text : List ℕ) (r : Result Ratio NumberFault) → text ≡ body_text d.body → r ≡ numeral_of text
    → option_map terms (result_ok r) ≡ decimal_value d
decimal_read d text (Ok x) e k = decimal_found d text (terms x) e (numeral_is text x (sym k))
decimal_read d text (Err f) e k = decimal_fault d text f e (numeral_fails text f (sym k))

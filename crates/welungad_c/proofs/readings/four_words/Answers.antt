use Rattle.std.proofs.Common.{◌≡◌, ◌∙◌, sym, ap, subst, ◌/◌, ◌%◌, ◌^◌, ℕ, [], ◌∷◌, get_or, unsigned_abs, Some}
use Rattle.std.specs.Int.{w128}
use Rattle.std.proofs.lemmas.Int.{to_z-of_z}
use Rattle.field_core.proofs.Sized.{fits_from_small}
use Rattle.fraction.specs.View.{terms_of}
use Rattle.typed_numbers.specs.Readings.{reading_of}
use Rattle.welungad_c.specs.Readings.{AreWordsOf}
use Rattle.welungad_c.proofs.Parts.{parts_of}
use Rattle.welungad_c.proofs.readings.four_words.Goals as goal

pub returns-in-Some : goal.returns-in-Some
returns-in-Some c =
    let x = c.in-Some.fraction in
    let e : reading_of c.args.bits ≡ Some x = sym c.reading.ensures.result ∙ c.in-Some.is in
    let n : c.num.result ≡ (terms_of x).num = c.num.ensures ∙ ap (λ t. t.num) c.ratio-ratio.ensures in
    let d : c.den.result ≡ (terms_of x).den = c.den.ensures ∙ ap (λ t. t.den) c.ratio-ratio.ensures in
    let num = c.unsigned_abs-num.ensures.value ∙ ap unsigned_abs (to_z-of_z w128 c.num.result (fits_from_small c.num.result (rw n x.valid.num_size)) ∙ n) in
    let den = c.unsigned_abs-den.ensures.value ∙ ap unsigned_abs (to_z-of_z w128 c.den.result (fits_from_small c.den.result (rw d x.valid.den_size)) ∙ d) in
    let words = λ (j : ℕ). get_or (c.low.result ∷ c.high.result ∷ c.low-in-Some.result ∷ c.high-in-Some.result ∷ []) j 0 in
    subst (λ r. AreWordsOf r words) (sym e) (parts_of words x c.args.bits e (record {
      num_low = c.low.ensures ∙ ap (λ n. n % 2 ^ 64) num;
      num_high = c.high.ensures ∙ ap (λ n. n / 2 ^ 64) num;
      den_low = c.low-in-Some.ensures ∙ ap (λ n. n % 2 ^ 64) den;
      den_high = c.high-in-Some.ensures ∙ ap (λ n. n / 2 ^ 64) den;
    }))

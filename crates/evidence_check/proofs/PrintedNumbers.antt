-- Stored numbers are read from their texts.
use Rattle.std.proofs.Common.{◌≡◌, ◌≢◌, refl, sym, ap, ap₂, subst, ◌∙◌, inl, inr, ℕ, Bool, true, false, List, [], ◌∷◌, Some, arith}
use Rattle.std.specs.Prelude.{◌==◌, ◌||◌, ℤ, pos}
use Rattle.std.specs.List.{list_any, AllByRecursion}
use Rattle.std.proofs.lemmas.Bool.Decides.{Decides-eqb}
use Rattle.std.proofs.lemmas.Int.{ints}
use Rattle.field_core.specs.Kind.{Parts}
use Rattle.field_core.specs.Polynomial.{coefficient}
use Rattle.field_core.specs.Terms.{Terms}
use Rattle.field_core.specs.Texts.{fraction_text}
use Rattle.numerals.specs.Lowest.{lowest_terms, HasWidePart}
use Rattle.fraction.specs.Plain.{single, pair_of, IsFraction}
use Rattle.fraction.specs.Spelling.{spelling, IsSpellingByte}
use Rattle.numerals.proofs.LowestTerms.{lowest_any}
use Rattle.fraction.proofs.ReadBack.{spelling_bytes}
use Rattle.eps_poly.specs.Polynomials.{monomial}
use Rattle.eps_poly.specs.Written.{degree}
use Rattle.eps_poly.proofs.DegreeLaws.{degree_at_most}
use Rattle.eps_quotient.specs.Polynomials.{term}
use Rattle.eps_quotient.specs.Spelling.{quotient_text}
use Rattle.eps_quotient.specs.Laws.Multiples.{monomial-at, monomial-other}
use Rattle.eps_quotient.proofs.ReadBack.{reads_back}
use Rattle.eps_quotient.proofs.TermLaws.{term_stored}
use Rattle.eps_quotient.specs.Texts.{quotient_in}
use Rattle.case_numbers.specs.Numbers.{in_fractions, in_quotients}
use Rattle.evidence_check.specs.NumberReading.{constant_fraction, fraction_of_text}
use Rattle.evidence_check.specs.DocumentStatements.{StoredNumbersArePrinted}
use Rattle.evidence_check.proofs.NumberAnswers.{fraction_some, plain_read}

-- ---- fractions

flat : (c : ℤ) → degree (monomial c 0) ≡ 0
flat c = omega (arith, degree_at_most (monomial c 0) 0 (λ k h. monomial-other c 0 k (λ e. absurd (omega arith))))

num_at : (c : ℤ) → coefficient (monomial c 0) 0 ≡ c
num_at c = monomial-at c 0 (omega arith)

term_text : (t : Terms) → quotient_text (term 0 t) ≡ spelling t
unfolding quotient_text term spelling
term_text t = rw (flat t.num, flat t.den) (ap₂ fraction_text (num_at t.num) (num_at t.den))

no_bracket : (text : List ℕ) → AllByRecursion IsSpellingByte text → list_any (λ b. b == 91) text ≡ false
no_bracket [] h = refl
no_bracket (b ∷ bs) h = ap₂ (λ x y. x || y) (other (b == 91) refl h.0) (no_bracket bs h.1)
  where
    other : (t : Bool) → (b == 91) ≡ t → IsSpellingByte b → (b == 91) ≡ false
    other true e s = absurd (apart b ((Decides-eqb b 91).0 e) s)
      where
        apart : (b : ℕ) → b ≡ 91 → IsSpellingByte b → ⊥
        apart b e (inl h) = omega arith
        apart b e (inr (inl h)) = omega arith
        apart b e (inr (inr h)) = omega arith
    other false e s = e

module _ (x : Parts) (f : IsFraction x) where
  t : Terms
  t = pair_of x

  nonzero : (pair_of x).den ≢ pos 0
  nonzero e = let p = f.reduced.positive in absurd (omega (arith, ints))

  lowest : lowest_terms (coefficient (monomial (pair_of x).num 0) 0) (coefficient (monomial (pair_of x).den 0) 0) ≡ pair_of x
  lowest = ap₂ lowest_terms (num_at (pair_of x).num) (num_at (pair_of x).den)
      ∙ lowest_any (pair_of x) (pair_of x).num (pair_of x).den f.reduced nonzero refl

  short : ¬ HasWidePart (pair_of x)
  short (inl h) = let p = f.reduced.num_size in omega arith
  short (inr h) = let p = f.reduced.den_size in omega arith

  constant : constant_fraction (term 0 (pair_of x)) ≡ Some x
  unfolding term
  constant =
      fraction_some (coefficient (monomial (pair_of x).num 0) 0) (coefficient (monomial (pair_of x).den 0) 0)
      (λ e. nonzero (sym (num_at (pair_of x).den) ∙ e)) (λ w. short (subst HasWidePart lowest w))
      ∙ ap (λ t. Some (single t)) lowest ∙ ap Some (sym f.shape)

  pub fraction_printed : fraction_of_text (spelling (pair_of x)) ≡ Some x
  fraction_printed =
      let read : quotient_in (spelling (pair_of x)) ≡ Some (term 0 (pair_of x)) =
      ap quotient_in (sym (term_text (pair_of x))) ∙ reads_back (term 0 (pair_of x)) (term_stored 0 (pair_of x) (omega arith) f.reduced) in
      plain_read (spelling (pair_of x)) (Some (term 0 (pair_of x))) (no_bracket (spelling (pair_of x)) (spelling_bytes (pair_of x) f.reduced)) (sym read)
      ∙ constant

pub stored_printed : StoredNumbersArePrinted
stored_printed in_fractions c x s = fraction_printed x s
stored_printed in_quotients c x s = reads_back x s

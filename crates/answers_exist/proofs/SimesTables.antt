-- Tables of the closed test and of the closed test of Simes' test, where the runs of all sets are defined; or the first sum that isn't.
use Rattle.std.proofs.Common.{◌≡◌, ◌⊎◌, inl, inr, refl, sym, ◌∙◌, subst, ℕ, ◌^◌, ◌<◌, Bool, true, List, length, Option, Some, None}
use Rattle.field_core.specs.Terms.{Terms}
use Rattle.field_core.specs.NumberedSets.{members}
use Rattle.field_core.specs.declared.place.Op.TheVariants.{Add}
use Rattle.field_core.specs.declared.place.Place.TheVariants.{Level}
use Rattle.field_core.specs.declared.place.WideAt.{WideAt}
use Rattle.field_core.specs.declared.ratio.Ratio.{Ratio}
use Rattle.field_core.proofs.Live.{true_or_false, true_not_false}
use Rattle.fraction.specs.View.{number_of}
use Rattle.case_model.specs.declared.inputs.Inputs.TheVariants.{Single}
use Rattle.case_model.specs.ClosedTest.{Passes, IsLegal, IsLocallyRejected}
use Rattle.case_model.specs.Content.{Content, ForSingle, entangled}
use Rattle.case_model.specs.SetAnswers.{AnswersFor}
use Rattle.case_model.specs.Sums.{number, number_at}
use Rattle.case_model.specs.Validity.{IsValidContent}
use Rattle.case_model.proofs.OrderExistence.{legal_or_not, passes_or_not}
use Rattle.case_model.proofs.ValidContents.{valid_content}
use Rattle.closed_test.specs.SetTests.{AreLocalAnswers, AreClosedAnswers}
use Rattle.closed_test.specs.SetWeights.{AreIntersectionWeights}
use Rattle.closed_test.proofs.SetAnswers.{closed_answers_are}
use Rattle.simes_test.specs.SimesAnswers.{AreSimesClosedAnswers, AreAllSumsDefined}
use Rattle.simes_test.specs.SimesFaults.{IsSimesFault}
use Rattle.simes_test.specs.SimesSums.{sum_up_to, IsSumDefined, AreSumsDefined, IsWideMember, IsFirstWideSum}
use Rattle.simes_test.specs.Tested.{PassesAtSum, HasPassing, IsTested}
use Rattle.simes_test.specs.declared.fault.SimesFault.TheVariants.{Wide}
use Rattle.simes_test.proofs.SimesSets.{answers_are, closed_answers_are as simes_answers_are}
use Rattle.answers_exist.proofs.Results.{given_or_none, not_given}
use Rattle.answers_exist.proofs.Searches.{first_or_none}
use Rattle.answers_exist.proofs.SetRuns.{first_set}
use Rattle.answers_exist.proofs.Tables.{HasTable, table_exists, closed_exists}

module _ (c : Content) (ps : List Ratio) (e : c.inputs ≡ Single ps) where
  -- ---- the closed test

  -- whether the local test rejects a set
  locally_or_not : IsValidContent c → (I : ℕ → Bool) → IsLocallyRejected (entangled c) (number_at ps) (number_of c.alpha) I
      ⊎ ¬ IsLocallyRejected (entangled c) (number_at ps) (number_of c.alpha) I
  locally_or_not V I =
      elim (first_or_none (IsLegal (entangled c) (number_at ps) (number_of c.alpha) I)
      (legal_or_not (entangled c) (valid_content c V) (number_at ps) (number_of c.alpha) I) (entangled c).hypotheses) [
        | inl f ↦ inl (record { hypothesis = f.0; legal = f.1.holds })
        | inr none ↦ inr (λ r. none r.hypothesis r.legal.member.below r.legal)
      ]

  -- there is a table of what the closed test rejects
  pub closed_table : IsValidContent c → (table : ℕ → Bool) × AreClosedAnswers c table
  closed_table V =
      let T = table_exists (2 ^ length c.names) (λ n. IsLocallyRejected (entangled c) (number_at ps) (number_of c.alpha) (members n))
      (λ n b. locally_or_not V (members n)) in
      let local : AreLocalAnswers c T.table =
      subst (λ i. ForSingle i (λ qs. AnswersFor (length c.names) (IsLocallyRejected (entangled c) (number_at qs) (number_of c.alpha)) T.table)) (sym e)
      T.answers in
      let C = closed_exists (length c.names) T.table in
      (C.0, closed_answers_are c T.table C.0 C.1 local)

  -- ---- the sums of Simes' test

  module _ (weight : ℕ → ℕ → Ratio) where
    abbrev m : ℕ
    m = length c.names

    -- a member of a set whose sum isn't defined
    abbrev IsUndefined : ℕ → ℕ → Type 0
    IsUndefined n j = (members n j ≡ true) × (sum_up_to m ps weight n j ≡ None)

    undefined_or_not : (n j : ℕ) → IsUndefined n j ⊎ ¬ IsUndefined n j
    undefined_or_not n j = elim (true_or_false (members n j)) [
      | inr f ↦ inr (λ h. true_not_false (sym h.0 ∙ f))
      | inl t ↦ elim (given_or_none (sum_up_to m ps weight n j)) [
        | inl s ↦ inr (λ h. not_given (sum_up_to m ps weight n j) s.0 s.1 h.1)
        | inr none ↦ inl (t, none)
      ]
    ]

    defined : (n j : ℕ) → members n j ≡ true → ¬ IsUndefined n j → IsSumDefined m ps weight n j
    defined n j t none = elim (given_or_none (sum_up_to m ps weight n j)) [ inl s ↦ s | inr u ↦ absurd (none (t, u)) ]

    -- a set with a sum that isn't defined, and its first one
    abbrev HasWideMember : ℕ → Type 0
    HasWideMember n = (w : WideAt) × IsWideMember m ps weight n w

    sums_not_wide : (n : ℕ) → AreSumsDefined m ps weight n → ¬ HasWideMember n
    sums_not_wide n D h =
        let s = D h.1.hypothesis h.1.member in not_given (sum_up_to m ps weight n h.1.hypothesis) s.0 s.1 h.1.wide.undefined

    wide_or_defined : (n : ℕ) → HasWideMember n ⊎ AreSumsDefined m ps weight n
    wide_or_defined n = elim (first_or_none (IsUndefined n) (undefined_or_not n) m) [
      | inr none ↦ inr (λ j q. defined n j q.member (none j q.below))
      | inl f ↦ inl (
        record { component = 0; place = Level f.0; op = Add },
        record {
          hypothesis = f.0;
          member = record { below = f.1.below; member = f.1.holds.0 };
          wide = record { undefined = f.1.holds.1; fault = refl };
          before = λ i b q. defined n i q.member (f.1.before i b);
        },
      )
    ]

    wide_or_not : (n : ℕ) → n < 2 ^ m → HasWideMember n ⊎ ¬ HasWideMember n
    wide_or_not n b = elim (wide_or_defined n) [ inl h ↦ inl h | inr D ↦ inr (sums_not_wide n D) ]

    sums_defined : (n : ℕ) → ¬ HasWideMember n → AreSumsDefined m ps weight n
    sums_defined n none = elim (wide_or_defined n) [ inl h ↦ absurd (none h) | inr D ↦ D ]

    -- the sums of all members of all sets are defined, or there is a first set with one that isn't
    sums_or_wide : ((n : ℕ) → n < 2 ^ m → AreSumsDefined m ps weight n) ⊎ ((n : ℕ) × (w : WideAt) × IsFirstWideSum m ps weight n w)
    sums_or_wide = elim (first_set m HasWideMember wide_or_not) [
      | inr none ↦ inl (λ n b. sums_defined n (none n b))
      | inl f ↦ inr (f.0, f.2.0, record { below = f.1; wide = f.2.1; before = λ o b r. sums_defined o (f.3 o b r) })
    ]

    -- ---- Simes' test

    -- whether the p-value of a member passes at its sum
    abbrev PassesIn : ℕ → ℕ → Type 0
    PassesIn n j = (members n j ≡ true) × PassesAtSum m ps weight c.alpha n j

    same_sum : (o : Option Terms) (s t : Terms) → o ≡ Some s → o ≡ Some t → s ≡ t
    same_sum o s t h k = cc

    passes_in_or_not : (n j : ℕ) → PassesIn n j ⊎ ¬ PassesIn n j
    passes_in_or_not n j = elim (true_or_false (members n j)) [
      | inr f ↦ inr (λ h. true_not_false (sym h.0 ∙ f))
      | inl t ↦ elim (given_or_none (sum_up_to m ps weight n j)) [
        | inr none ↦ inr (λ h. not_given (sum_up_to m ps weight n j) h.1.sum h.1.is_sum none)
        | inl s ↦ elim (passes_or_not (number_at ps j) (number s.0) (number_of c.alpha)) [
          | inl p ↦ inl (t, record { sum = s.0; is_sum = s.1; passes = p })
          | inr o ↦ inr (λ h. o (subst (λ u. Passes (number_at ps j) (number u) (number_of c.alpha))
              (same_sum (sum_up_to m ps weight n j) h.1.sum s.0 h.1.is_sum s.1) h.1.passes))
        ]
      ]
    ]

    passing_or_not : (n : ℕ) → HasPassing m ps weight c.alpha n ⊎ ¬ HasPassing m ps weight c.alpha n
    passing_or_not n = elim (first_or_none (PassesIn n) (passes_in_or_not n) m) [
      | inl f ↦ inl (record { hypothesis = f.0; member = record { below = f.1.below; member = f.1.holds.0 }; passes = f.1.holds.1 })
      | inr none ↦ inr (λ h. none h.hypothesis h.member.below (h.member.member, h.passes))
    ]

    -- the weights are those of the intersections, and all sums are defined
    module _ (W : AreIntersectionWeights c weight) (D : (n : ℕ) → n < 2 ^ m → AreSumsDefined m ps weight n) where
      T : HasTable (2 ^ m) (HasPassing m ps weight c.alpha)
      T = table_exists (2 ^ m) (HasPassing m ps weight c.alpha) (λ n b. passing_or_not n)

      tested : (n : ℕ) → n < 2 ^ m → IsTested m ps weight c.alpha n (T.table n)
      tested n b = record { defined = D n b; answer = T.answers n b }

      simes_closed : (table : ℕ → Bool) × AreSimesClosedAnswers c table
      simes_closed =
          let C = closed_exists m T.table in
          (C.0, simes_answers_are c T.table C.0 C.1 (answers_are c ps e weight T.table tested W))

      sums_are_defined : AreAllSumsDefined c weight
      sums_are_defined = subst (λ i. ForSingle i (λ qs. (n : ℕ) → n < 2 ^ m → AreSumsDefined m qs weight n)) (sym e) D

    -- there is a table of what the closed test of Simes' test rejects, or a first sum that isn't defined
    pub simes_table_or_wide : AreIntersectionWeights c weight
        → (AreAllSumsDefined c weight × ((table : ℕ → Bool) × AreSimesClosedAnswers c table))
        ⊎ ((n : ℕ) × (w : WideAt) × IsSimesFault c weight (Wide n w))
    simes_table_or_wide W = elim sums_or_wide [
      | inl D ↦ inl (sums_are_defined W D, simes_closed W D)
      | inr f ↦ inr (f.0, f.1, subst (λ i. ForSingle i (λ qs. IsFirstWideSum m qs weight f.0 f.1)) (sym e) f.2)
    ]

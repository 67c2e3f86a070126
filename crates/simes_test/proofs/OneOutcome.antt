-- What Simes' test says of a case, its leaders, and its first sum that isn't defined, by whatever weights of its sets, are unique.
use Rattle.std.proofs.Common.{◌≡◌, inl, inr, refl, sym, ap, ap₂, ◌∙◌, subst, ℕ, zero, suc, ◌^◌, ◌<◌, ◌↔◌, arith, Bool, true}
use Rattle.std.proofs.Common.{false, cond, List, [], ◌∷◌, length, Some, None}
use Rattle.std.specs.Prelude.{Option}
use Rattle.field_core.specs.Terms.{Terms}
use Rattle.field_core.specs.View.{terms}
use Rattle.field_core.specs.Sized.{◌>>=◌}
use Rattle.field_core.specs.Number.{Number}
use Rattle.field_core.specs.declared.place.Op.TheVariants.{Add}
use Rattle.field_core.specs.declared.place.Place.TheVariants.{Level}
use Rattle.field_core.specs.declared.place.WideAt.{WideAt}
use Rattle.field_core.specs.declared.ratio.Ratio.{Ratio}
use Rattle.field_core.specs.Sets.{IsIn}
use Rattle.field_core.specs.NumberedSets.{members}
use Rattle.field_core.specs.OrderOfSets.{left_out}
use Rattle.field_core.proofs.ListOrder.{ordered}
use Rattle.field_core.proofs.Positions.{compared}
use Rattle.fraction.specs.View.{number_of}
use Rattle.fraction.specs.Written.{written_add}
use Rattle.fraction.proofs.SameRatios.{same_number}
use Rattle.case_model.specs.Sums.{written_sum, zero_ratio, number_at}
use Rattle.case_model.specs.Content.{Content, entangled}
use Rattle.case_model.specs.LegalOrder.{IsListed}
use Rattle.case_model.specs.SetAnswers.{AnswersFor}
use Rattle.case_model.specs.TextbookRules.{Precedes, IsByPValue}
use Rattle.case_model.proofs.IntersectionLaws.{intersection_unique}
use Rattle.case_model.proofs.RejectionOrders.{listed_here, listed_later, here_or_later}
use Rattle.case_model.proofs.SingleInputs.{for_both}
use Rattle.closed_test.specs.Paths.{number_without}
use Rattle.closed_test.specs.SetRuns.{IsEarlierSet}
use Rattle.closed_test.specs.SetWeights.{AreIntersectionWeights}
use Rattle.closed_test.proofs.SetLists.{number_out}
use Rattle.simes_test.specs.Leaders.{AreLeaders}
use Rattle.simes_test.specs.SimesTest.{is_up_to, IsSimesClosed}
use Rattle.simes_test.specs.SimesSums.{weight_up_to, sum_up_to, IsSumDefined, AreSumsDefined, IsWideMember, IsFirstWideSum}
use Rattle.simes_test.specs.SimesAnswers.{AreSimesClosedAnswers, AreAllSumsDefined}
use Rattle.simes_test.specs.SimesFaults.{IsSimesFault}
use Rattle.simes_test.specs.declared.fault.SimesFault.TheVariants.{Wide}
use Rattle.simes_test.proofs.SimesWeights.{up_to_member}

-- ---- leaders

none_listed : (i : ℕ) → IsListed [] i → ⊥
none_listed i l = absurd (cc)

module _ (p : ℕ → Number) where
  not_both_first : (j k : ℕ) → Precedes p j k → Precedes p k j → ⊥
  not_both_first j k a b = let f = a.tie b.not_above in let g = b.tie a.not_above in absurd (omega (arith, f, g))

  same_first : (j k : ℕ) (js ks : List ℕ) → IsByPValue p (j ∷ js) → IsByPValue p (k ∷ ks) → IsListed (k ∷ ks) j → IsListed (j ∷ js) k
      → j ≡ k
  same_first j k js ks a b h l = elim (here_or_later k j ks h) [
    | inl e ↦ e
    | inr f ↦ elim (here_or_later j k js l) [
      | inl e ↦ sym e
      | inr g ↦ absurd (not_both_first j k (a.0 k g) (b.0 j f))
    ]
  ]

  rest_listed : (j k i : ℕ) (js ks : List ℕ) → j ≡ k → IsByPValue p (j ∷ js) → IsListed (k ∷ ks) i → IsListed js i → IsListed ks i
  rest_listed j k i js ks e a h l = elim (here_or_later k i ks h) [
    | inl f ↦ let itself = subst (Precedes p j) (f ∙ sym e) (a.0 i l) in absurd (not_both_first j j itself itself)
    | inr later ↦ later
  ]

  one_order : (js ks : List ℕ) → IsByPValue p js → IsByPValue p ks → ((i : ℕ) → IsListed js i → IsListed ks i)
      → ((i : ℕ) → IsListed ks i → IsListed js i) → js ≡ ks
  one_order [] [] a b to from = refl
  one_order [] (k ∷ ks) a b to from = absurd (none_listed k (from k (listed_here k ks)))
  one_order (j ∷ js) [] a b to from = absurd (none_listed j (to j (listed_here j js)))
  one_order (j ∷ js) (k ∷ ks) a b to from =
      let e = same_first j k js ks a b (to j (listed_here j js)) (from k (listed_here k ks)) in
      ap₂ (λ i is. i ∷ is) e (one_order js ks a.1 b.1 (λ i l. rest_listed j k i js ks e a (to i (listed_later j i js l)) l)
      (λ i l. rest_listed k j i ks js (sym e) b (from i (listed_later k i ks l)) l))

-- there is one list of all hypotheses by ascending p-value
pub one_ranking : (m : ℕ) (p : ℕ → Number) (js ks : List ℕ) → AreLeaders m p js → AreLeaders m p ks → js ≡ ks
one_ranking m p js ks J K = one_order p js ks J.order K.order (λ i l. (K.all i).1 ((J.all i).0 l)) (λ i l. (J.all i).1 ((K.all i).0 l))

-- ---- sums by the same weights

written_same : (m : ℕ) (f g : ℕ → Ratio) → ((i : ℕ) → i < m → f i ≡ g i) → written_sum m f ≡ written_sum m g
unfolding written_sum
written_same zero f g h = refl
written_same (suc m) f g h = ap₂ (λ s x. s >>= λ t. written_add t (terms x)) (written_same m f g (λ i q. h i (omega (arith, q)))) (h m (omega arith))

some_or_none : (o : Option Terms) (t : Terms) → o ≡ Some t → o ≡ None → ⊥
some_or_none o t h k = cc

module _ (m : ℕ) (ps : List Ratio) (weight other : ℕ → ℕ → Ratio)
    (agree : (n k : ℕ) → n < 2 ^ m → IsIn m (members n) k → weight n k ≡ other n k) where
  counted_same : (n j i : ℕ) → n < 2 ^ m → i < m → weight_up_to ps weight n j i ≡ weight_up_to ps other n j i
  unfolding weight_up_to
  counted_same n j i q b = each (is_up_to (number_at ps) (members n) j i) refl
    where
      each : (t : Bool) → is_up_to (number_at ps) (members n) j i ≡ t → cond t (weight n i) zero_ratio ≡ cond t (other n i) zero_ratio
      each true e = agree n i q (record { below = b; member = up_to_member (number_at ps) (members n) j i e })
      each false e = refl

  sum_same : (n j : ℕ) → n < 2 ^ m → sum_up_to m ps weight n j ≡ sum_up_to m ps other n j
  sum_same n j q = written_same m (weight_up_to ps weight n j) (weight_up_to ps other n j) (λ i b. counted_same n j i q b)

  defined_same : (n j : ℕ) → n < 2 ^ m → IsSumDefined m ps weight n j → IsSumDefined m ps other n j
  defined_same n j q d = (d.0, sym (sum_same n j q) ∙ d.1)

  all_defined_same : (n : ℕ) → n < 2 ^ m → AreSumsDefined m ps weight n → AreSumsDefined m ps other n
  all_defined_same n q d = λ j k. defined_same n j q (d j k)

  first_wide_same : (n : ℕ) (w : WideAt) → IsFirstWideSum m ps weight n w → IsFirstWideSum m ps other n w
  first_wide_same n w F = record {
    below = F.below;
    wide = record {
      hypothesis = F.wide.hypothesis;
      member = F.wide.member;
      wide = record { undefined = sym (sum_same n F.wide.hypothesis F.below) ∙ F.wide.wide.undefined; fault = F.wide.wide.fault };
      before = λ i low k. defined_same n i F.below (F.wide.before i low k);
    };
    before = λ o q e. all_defined_same o q (F.before o q e);
  }

-- ---- there is one first sum that isn't defined

-- that the sum of `j` isn't defined, as it is reported
abbrev told_of : ℕ → WideAt
told_of j = record { component = 0; place = Level j; op = Add }

module _ (m : ℕ) (ps : List Ratio) (weight : ℕ → ℕ → Ratio) where
  one_member : (n : ℕ) (v w : WideAt) → IsWideMember m ps weight n v → IsWideMember m ps weight n w → v ≡ w
  one_member n v w A B = A.wide.fault ∙ ap told_of same ∙ sym B.wide.fault
    where
      same : A.hypothesis ≡ B.hypothesis
      same = elim (compared A.hypothesis B.hypothesis) [
        | inl e ↦ e
        | inr (inl low) ↦ let d = B.before A.hypothesis low A.member in absurd (some_or_none _ d.0 d.1 A.wide.undefined)
        | inr (inr low) ↦ let d = A.before B.hypothesis low B.member in absurd (some_or_none _ d.0 d.1 B.wide.undefined)
      ]

  defined_or_wide : (n : ℕ) (w : WideAt) → AreSumsDefined m ps weight n → IsFirstWideSum m ps weight n w → ⊥
  defined_or_wide n w D F = let d = D F.wide.hypothesis F.wide.member in some_or_none _ d.0 d.1 F.wide.wide.undefined

  not_earlier : (n o : ℕ) (v w : WideAt) → IsFirstWideSum m ps weight n v → IsFirstWideSum m ps weight o w → ¬ IsEarlierSet m n o
  not_earlier n o v w F G b = defined_or_wide n v (G.before n F.below b) F

  one_set : (n o : ℕ) (v w : WideAt) → IsFirstWideSum m ps weight n v → IsFirstWideSum m ps weight o w → n ≡ o
  one_set n o v w F G = elim (ordered (left_out m (members n)) (left_out m (members o))) [
    | inl b ↦ absurd (not_earlier n o v w F G b)
    | inr (inl b) ↦ absurd (not_earlier o n w v G F b)
    | inr (inr e) ↦ sym (number_out m n F.below) ∙ ap (number_without m) e ∙ number_out m o G.below
  ]

  one_first_wide : (n o : ℕ) (v w : WideAt) → IsFirstWideSum m ps weight n v → IsFirstWideSum m ps weight o w → (n ≡ o) × (v ≡ w)
  one_first_wide n o v w F G = let e = one_set n o v w F G in (e, one_member o v w (subst (λ k. IsWideMember m ps weight k v) e F.wide) G.wide)

-- (These are weights of all sets of a case.)
module _ (c : Content) (weight other : ℕ → ℕ → Ratio) (W : AreIntersectionWeights c weight) (V : AreIntersectionWeights c other) where
  weights_same : (n k : ℕ) → n < 2 ^ length c.names → IsIn (length c.names) (members n) k → weight n k ≡ other n k
  weights_same n k p q = same_number (weight n k) (other n k) (intersection_unique (entangled c) (members n) k _ _ (W n k p q) (V n k p q))

  pub one_wide_sum : (n o : ℕ) (v w : WideAt) → IsSimesFault c weight (Wide n v) → IsSimesFault c other (Wide o w) → (n ≡ o) × (v ≡ w)
  one_wide_sum n o v w = for_both (λ ps. IsFirstWideSum (length c.names) ps weight n v) (λ ps. IsFirstWideSum (length c.names) ps other o w)
      ((n ≡ o) × (v ≡ w))
      (λ ps F G. one_first_wide (length c.names) ps other n o v w (first_wide_same (length c.names) ps weight other weights_same n v F) G) c.inputs

  pub defined_not_wide : (n : ℕ) (w : WideAt) → AreAllSumsDefined c weight → IsSimesFault c other (Wide n w) → ⊥
  defined_not_wide n w = for_both (λ ps. (o : ℕ) → o < 2 ^ length c.names → AreSumsDefined (length c.names) ps weight o)
      (λ ps. IsFirstWideSum (length c.names) ps other n w) ⊥
      (λ ps D F. defined_or_wide (length c.names) ps other n w (all_defined_same (length c.names) ps weight other weights_same n F.below (D n F.below)) F)
      c.inputs

-- ---- what the closed test says

told_same : (a b : Bool) (P : Type 0) → (a ≡ true) ↔ P → (b ≡ true) ↔ P → a ≡ b
told_same true true P f g = refl
told_same true false P f g = sym (g.1 (f.0 refl))
told_same false true P f g = f.1 (g.0 refl)
told_same false false P f g = refl

pub one_closed_table : (c : Content) (table other : ℕ → Bool) → AreSimesClosedAnswers c table → AreSimesClosedAnswers c other → (n : ℕ)
    → n < 2 ^ length c.names → table n ≡ other n
one_closed_table c table other A B n q =
    for_both (λ ps. AnswersFor (length c.names) (IsSimesClosed (entangled c) (number_at ps) (number_of c.alpha)) table)
    (λ ps. AnswersFor (length c.names) (IsSimesClosed (entangled c) (number_at ps) (number_of c.alpha)) other)
    (table n ≡ other n) (λ ps h k. told_same (table n) (other n) _ (h n q) (k n q)) c.inputs A B

-- The reports of all sets of a case, by the same weights or bounds, or the same answers and leaders, are the same.
use Rattle.std.proofs.Common.{◌≡◌, refl, sym, ap, ap₂, subst, ◌∙◌, ℕ, zero, suc, ◌+◌, ◌^◌, ◌==◌, ◌<◌, Bool, true, false, List}
use Rattle.std.proofs.Common.{[], ◌∷◌, ◌++◌, length, take, arith}
use Rattle.std.specs.Prelude.{codes, if◌then◌else◌}
use Rattle.std.specs.Fmt.{decimal}
use Rattle.std.specs.List.{All, flat_map, range_with_len}
use Rattle.std.proofs.lemmas.List.Elements.{All-head, All-tail}
use Rattle.answers.specs.Lines.{line}
use Rattle.field_core.specs.NumberedSets.{members}
use Rattle.field_core.specs.Sets.{IsIn, set_of}
use Rattle.field_core.specs.declared.ratio.Ratio.{Ratio}
use Rattle.field_core.proofs.Members.{number_below}
use Rattle.case_model.specs.ClosedTest.{only}
use Rattle.case_model.specs.Content.{Content}
use Rattle.closed_test.proofs.SetLists.{sets_unique}
use Rattle.report.specs.WeightsReport.{member_weight, weight_if_member, members_line as weights_line, set_line, weights_report, IsWeightsReport}
use Rattle.report.specs.BoundsReport.{members_line as bounds_line, bound_line, bounds_report, IsBoundsReport}
use Rattle.report.specs.SimesReport.{first_set, top_line, top_lines, set_alone, alone_line, simes_report, IsSimesReport}
use Rattle.report.specs.TestReport.{name_if, names_where}
use Rattle.report.proofs.ListedLines.{flat_map-more}

-- ---- pieces that are the same, one by one

each_place : (f g : ℕ → List ℕ) (n : ℕ) → ((k : ℕ) → k < n → f k ≡ g k)
    → flat_map f (range_with_len 0 n) ≡ flat_map g (range_with_len 0 n)
each_place f g zero h = refl
each_place f g (suc n) h =
    let next : n + 1 ≡ suc n = omega arith in
    subst (λ m. flat_map f (range_with_len 0 m) ≡ flat_map g (range_with_len 0 m)) next
    (flat_map-more f n ∙ ap₂ (λ xs ys. xs ++ ys) (each_place f g n (λ k p. h k (omega (arith, p)))) (h n (omega arith)) ∙ sym (flat_map-more g n))

each_item : (P : ℕ → Type 0) (f g : ℕ → List ℕ) (xs : List ℕ) → All P xs → ((n : ℕ) → P n → f n ≡ g n)
    → flat_map f xs ≡ flat_map g xs
each_item P f g [] a h = refl
each_item P f g (x ∷ xs) a h = ap₂ (λ ys zs. ys ++ zs) (h x (All-head P x xs a)) (each_item P f g xs (All-tail P x xs a) h)

where_true : (b : Bool) (xs ys : List ℕ) → (b ≡ true → xs ≡ ys) → (if b then xs else []) ≡ (if b then ys else [])
where_true true xs ys h = h refl
where_true false xs ys h = refl

-- ---- weights

module _ (c : Content) (weight other : ℕ → ℕ → Ratio)
    (agree : (n k : ℕ) → n < 2 ^ length c.names → IsIn (length c.names) (members n) k → weight n k ≡ other n k) where
  weight_same : (n k : ℕ) → n < 2 ^ length c.names → k < length c.names → weight_if_member c weight n k ≡ weight_if_member c other n k
  unfolding member_weight
  weight_same n k p q =
      where_true (members n k) (member_weight c weight n k) (member_weight c other n k)
      (λ t. ap (λ w. member_weight c (λ i j. w) n k) (agree n k p (record { below = q; member = t })))

  line_same : (n : ℕ) → n < 2 ^ length c.names → set_line c weight n ≡ set_line c other n
  unfolding weights_line
  line_same n p = ap (λ xs. if n == 0 then [] else line (codes "set" ++ xs))
      (each_place (weight_if_member c weight n) (weight_if_member c other n) (length c.names) (λ k q. weight_same n k p q))

  pub one_weights_report : (text again : List ℕ) → IsWeightsReport c weight text → IsWeightsReport c other again → text ≡ again
  unfolding weights_report
  one_weights_report text again T A =
      let sets : T.0 ≡ A.0 = sets_unique (length c.names) T.0 A.0 T.1 A.1 in
      let lines = each_item (λ n. n < 2 ^ length c.names) (set_line c weight) (set_line c other) T.0 T.1.sets_of line_same in
      T.2 ∙ ap (λ xs. line (codes "weights " ++ decimal (length c.names)) ++ xs ++ line (codes "end")) (lines ∙ ap (flat_map (set_line c other)) sets)
      ∙ sym A.2

-- ---- bounds

module _ (c : Content) (bound other : ℕ → ℕ) (agree : (n : ℕ) → n < 2 ^ length c.names → bound n ≡ other n) where
  bound_same : (n : ℕ) → n < 2 ^ length c.names → bound_line c bound n ≡ bound_line c other n
  unfolding bounds_line
  bound_same n p = ap (λ b. if n == 0 then [] else line
      (codes "bound " ++ decimal b ++ codes " of" ++ names_where c (members n))) (agree n p)

  pub one_bounds_report : (text again : List ℕ) → IsBoundsReport c bound text → IsBoundsReport c other again → text ≡ again
  unfolding bounds_report
  one_bounds_report text again T A =
      let sets : T.0 ≡ A.0 = sets_unique (length c.names) T.0 A.0 T.1 A.1 in
      let lines = each_item (λ n. n < 2 ^ length c.names) (bound_line c bound) (bound_line c other) T.0 T.1.sets_of bound_same in
      T.2 ∙ ap (λ xs. line (codes "bounds " ++ decimal (length c.names)) ++ xs ++ line (codes "end")) (lines ∙ ap (flat_map (bound_line c other)) sets)
      ∙ sym A.2

-- ---- Simes' test

-- the report, of its three parts
abbrev in_parts : Content → List ℕ → List ℕ → List ℕ → List ℕ
in_parts c sets tops rejected = line (codes "simes " ++ decimal (length c.names)) ++ sets ++ tops ++ rejected ++ line (codes "end")

same_parts : (c : Content) (sets more tops others rejected again : List ℕ) → sets ≡ more → tops ≡ others → rejected ≡ again
    → in_parts c sets tops rejected ≡ in_parts c more others again
same_parts c sets more tops others rejected again e f g = ap (λ x. in_parts c x tops rejected) e ∙ ap (λ x. in_parts c more x rejected) f
    ∙ ap (λ x. in_parts c more others x) g

module _ (c : Content) (bound other : ℕ → ℕ) (agree : (n : ℕ) → n < 2 ^ length c.names → bound n ≡ other n) (closed again : ℕ → Bool)
    (told : (n : ℕ) → n < 2 ^ length c.names → closed n ≡ again n) where
  top_same : (js : List ℕ) (k : ℕ) → top_line c bound js k ≡ top_line c other js k
  unfolding top_line
  top_same js k = ap (λ b. line (codes "top " ++ decimal k ++ codes " bound " ++ decimal b))
      (agree (first_set c js k) (number_below (length c.names) (set_of (take k js))))

  alone_same : (j : ℕ) → name_if c j (closed (set_alone c j)) ≡ name_if c j (again (set_alone c j))
  alone_same j = ap (name_if c j) (told (set_alone c j) (number_below (length c.names) (only j)))

  rejected_same : alone_line c closed ≡ alone_line c again
  unfolding alone_line
  rejected_same = ap (λ xs. line (codes "rejected" ++ xs))
      (each_place (λ j. name_if c j (closed (set_alone c j))) (λ j. name_if c j (again (set_alone c j))) (length c.names) (λ j q. alone_same j))

  pub one_simes_report : (js ks : List ℕ) → js ≡ ks → (text more : List ℕ) → IsSimesReport c bound closed js text
      → IsSimesReport c other again ks more → text ≡ more
  unfolding simes_report
  one_simes_report js ks e text more T A =
      let sets : T.0 ≡ A.0 = sets_unique (length c.names) T.0 A.0 T.1 A.1 in
      let lines = each_item (λ n. n < 2 ^ length c.names) (bound_line c bound) (bound_line c other) T.0 T.1.sets_of (bound_same c bound other agree) in
      let tops = each_place (λ k. top_line c bound js (k + 1)) (λ k. top_line c other js (k + 1)) (length js) (λ k q. top_same js (k + 1)) in
      T.2
      ∙ same_parts c (flat_map (bound_line c bound) T.0) (flat_map (bound_line c other) A.0) (top_lines c bound js) (top_lines c other ks)
      (alone_line c closed) (alone_line c again)
      (lines ∙ ap (flat_map (bound_line c other)) sets) (tops ∙ ap (top_lines c other) e) rejected_same
      ∙ sym A.2

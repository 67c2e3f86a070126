-- The calls that print something of all sets of a case end.
use Rattle.std.proofs.Common.{◌≡◌, inl, inr, refl, sym, subst, ℕ, Bool, List, length}
use Rattle.field_core.specs.NumberedSets.{members}
use Rattle.field_core.specs.declared.place.WideAt.{WideAt}
use Rattle.field_core.specs.declared.ratio.Ratio.{Ratio}
use Rattle.answers.specs.Lines.{done}
use Rattle.answers.specs.Stages.{Ends}
use Rattle.case_model.specs.declared.inputs.Inputs.TheVariants.{Single}
use Rattle.case_model.specs.Content.{Content, ForSingle}
use Rattle.case_model.specs.Sums.{number_at}
use Rattle.case_model.specs.TextbookRules.{by_p_value}
use Rattle.case_model.specs.Validity.{IsValidContent}
use Rattle.case_model.proofs.Bounds.{table_bound_exists}
use Rattle.case_model.proofs.ByPValue.{by_p_value_length, by_p_value_below, by_p_value_all, by_p_value_ordered}
use Rattle.closed_test.specs.SetRuns.{AreRunsDefined, IsFirstWideSet}
use Rattle.refusals.specs.declared.wide.When.TheVariants.{Set, SimesSet}
use Rattle.report.specs.BoundsReport.{bounds_report}
use Rattle.report.specs.SimesReport.{simes_report}
use Rattle.report.specs.WeightsReport.{weights_report}
use Rattle.simes_test.specs.Leaders.{AreLeaders}
use Rattle.graph_cli.specs.Bounds.{bounded, bounds_stage}
use Rattle.graph_cli.specs.Sets.{IsWideSet}
use Rattle.graph_cli.specs.Simes.{AreLeadersIn, runs_of_sets, simes_tested, simes_stage}
use Rattle.graph_cli.specs.Weights.{weighed, weights_stage}
use Rattle.graph_cli.specs.declared.trouble.Trouble.{Trouble}
use Rattle.graph_cli.specs.declared.trouble.Trouble.TheVariants.{Wide}
use Rattle.graph_cli.proofs.SetAnswers.{closed_bounds}
use Rattle.graph_cli.proofs.SimesCalls.{simes_bounds}
use Rattle.answers_exist.proofs.Ends.{then_ends, only_ends}
use Rattle.answers_exist.proofs.SetRuns.{sets_exist, runs_or_wide, weights_exist}
use Rattle.answers_exist.proofs.SimesTables.{closed_table, simes_table_or_wide}

wide_set : (c : Content) → ((n : ℕ) × (w : WideAt) × IsFirstWideSet c n w) → (r : Trouble) × IsWideSet c r
wide_set c f = (Wide (Set f.0) f.1, (f.0, f.1, f.2, refl))

-- the bounds by a table
bound_in : ℕ → (ℕ → Bool) → ℕ → ℕ
bound_in m table n = (table_bound_exists m table (members n)).0

module _ (c : Content) (V : IsValidContent c) where
  -- ---- weights

  weighed_ends : Ends (weighed c)
  weighed_ends = elim (runs_or_wide c) [
    | inr f ↦ inr (wide_set c f)
    | inl D ↦
        let W = weights_exist c V D in
        let S = sets_exist (length c.names) in
        inl (weights_report c W.0 S.0, (D, (W.0, W.1, (S.0, S.1, refl))))
  ]

  pub weights_ends : Ends (weights_stage c)
  unfolding weights_stage
  weights_ends = then_ends (weighed c) _ weighed_ends (λ text g. only_ends (done text))

  module _ (ps : List Ratio) (e : c.inputs ≡ Single ps) where
    -- ---- bounds

    bounded_ends : Ends (bounded c)
    unfolding bound_in
    bounded_ends = elim (runs_or_wide c) [
      | inr f ↦ inr (wide_set c f)
      | inl D ↦
          let T = closed_table c ps e V in
          let S = sets_exist (length c.names) in
          let bound = bound_in (length c.names) T.0 in
          let bounds = closed_bounds c (length c.names) T.0 bound refl T.1 (λ n p. (table_bound_exists (length c.names) T.0 (members n)).1) in
          inl (bounds_report c bound S.0, (D, (bound, bounds, (S.0, S.1, refl))))
    ]

    pub bounds_ends : Ends (bounds_stage c)
    unfolding bounds_stage
    bounds_ends = then_ends (bounded c) _ bounded_ends (λ text g. only_ends (done text))

    -- ---- Simes' test

    leaders : AreLeadersIn c (by_p_value (number_at ps) (length c.names))
    leaders = subst (λ i. ForSingle i (λ qs. AreLeaders (length c.names) (number_at qs) (by_p_value (number_at ps) (length c.names)))) (sym e) (record {
      all = λ i. (by_p_value_below (number_at ps) (length c.names) i, by_p_value_all (number_at ps) (length c.names) i);
      count = by_p_value_length (number_at ps) (length c.names);
      order = by_p_value_ordered (number_at ps) (length c.names);
    })

    tested_ends : AreRunsDefined c → Ends (simes_tested c)
    unfolding bound_in
    tested_ends D =
        let W = weights_exist c V D in
        let S = sets_exist (length c.names) in
        elim (simes_table_or_wide c ps e W.0 W.1) [
          | inr f ↦ inr (Wide (SimesSet f.0) f.1, (W.0, W.1, f.0, f.1, f.2, refl))
          | inl T ↦
              let closed = T.1.0 in
              let bound = bound_in (length c.names) closed in
              let js = by_p_value (number_at ps) (length c.names) in
              inl (
                simes_report c bound closed js S.0,
                (
                  (W.0, W.1, T.0),
                  record {
                    bound = bound;
                    closed = closed;
                    leaders = js;
                    bounds = simes_bounds c (length c.names) closed bound refl T.1.1 (λ n p. (table_bound_exists (length c.names) closed (members n)).1);
                    answers = T.1.1;
                    order = leaders;
                    text_is = (S.0, S.1, refl);
                  },
                ),
              )
        ]

    runs_end : Ends (runs_of_sets c)
    runs_end = elim (runs_or_wide c) [ inr f ↦ inr (wide_set c f) | inl D ↦ inl (c, (D, refl)) ]

    pub simes_ends : Ends (simes_stage c)
    unfolding simes_stage
    simes_ends =
        then_ends (runs_of_sets c) _ runs_end
        (λ x g. then_ends (simes_tested x) _ (subst (λ y. Ends (simes_tested y)) (sym g.1) (tested_ends g.0)) (λ text h. only_ends (done text)))

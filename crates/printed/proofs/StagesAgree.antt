-- What `stages` prints of two cases that differ at most in the order of their arrivals has one line `rejected`.
use mathlib.Core.Path.{fun_ext}
use Rattle.std.proofs.Common.{◌≡◌, refl, sym, ap, ap₂, subst, ◌∙◌, ◌↔◌, ℕ, Bool, true, false, cond, List, [], length}
use Rattle.std.specs.Prelude.{◌++◌, codes}
use Rattle.std.specs.List.{Contains, flat_map, range_with_len}
use Rattle.answers.specs.Lines.{line}
use Rattle.case_model.specs.Content.{Content, content_of, entangled}
use Rattle.case_model.specs.EntangledGraph.{EntangledGraph}
use Rattle.case_model.specs.StagedCase.{spend_at, spends_in, IsStagedRejectedIn}
use Rattle.case_model.specs.StagedTest.{IsStagedLocallyRejected, IsStagedRejected}
use Rattle.case_model.specs.declared.component.Component.{Component}
use Rattle.case_model.specs.declared.draft_stages.Arrival.{Arrival}
use Rattle.case_model.specs.declared.spend.Spend.{Spend}
use Rattle.case_model.proofs.StagedTests.{staged_more}
use Rattle.field_core.specs.Number.{Number}
use Rattle.fraction.specs.View.{number_of}
use Rattle.report.specs.StagesReport.{is_settled, settled_line}
use Rattle.report.specs.TestReport.{spaced_name}
use Rattle.staged_levels.specs.Looks.{arrivals_of}
use Rattle.staged_levels.specs.declared.event.Settled.{Settled}
use Rattle.graph_cli.specs.Laws.{ReportsStagedTest}
use Rattle.graph_cli.proofs.StagedReports.{reports_staged_test}
use Rattle.printed.specs.Stages.{HaveSameArrivals, StagesAgreeInEveryOrder}
use Rattle.graph_cli.proofs.AcceptedCases.{case_decided}

-- ---- the test

-- what is rejected stays rejected as values arrive
module _ (spend : ℕ → Spend) (alpha : Number) (E : EntangledGraph) (old new : List Arrival) (more : (a : Arrival) → Contains old a → Contains new a) where
  locally_more : (I : ℕ → Bool) → IsStagedLocallyRejected spend alpha old E I → IsStagedLocallyRejected spend alpha new E I
  locally_more I h = record {
    hypothesis = h.hypothesis;
    legal = record {
      member = h.legal.member;
      weight = h.legal.weight;
      is_weight = h.legal.is_weight;
      passes = staged_more spend alpha old new more h.hypothesis h.legal.weight h.legal.passes;
    };
  }

  rejected_more : (j : ℕ) → IsStagedRejected spend alpha old E j → IsStagedRejected spend alpha new E j
  rejected_more j h = record { some = h.some; member = h.member; each = λ I s. locally_more I (h.each I s) }

graph_in : List (List ℕ) → List Component → Content → EntangledGraph
graph_in names components c = entangled (record { names = names; alpha = c.alpha; components = components; inputs = c.inputs })

same_entangled : (c d : Content) → HaveSameArrivals c d → entangled c ≡ entangled d
unfolding entangled graph_in
same_entangled c d D = ap₂ (λ names components. graph_in names components c) D.names D.graphs

-- with the values of the one, the test of the other rejects the same
moved : (c d : Content) → HaveSameArrivals c d → (values : List Arrival) (j : ℕ) → IsStagedRejectedIn c values j ≡ IsStagedRejectedIn d values j
moved c d D values j =
    ap (λ s. IsStagedRejected (spend_at s) (number_of c.alpha) values (entangled c) j) D.spends
    ∙ ap₂ (λ a E. IsStagedRejected (spend_at (spends_in d.inputs)) (number_of a) values E j) D.level (same_entangled c d D)

rejected_alike : (c d : Content) → HaveSameArrivals c d → (j : ℕ)
    → IsStagedRejectedIn c (arrivals_of c.inputs) j ↔ IsStagedRejectedIn d (arrivals_of d.inputs) j
rejected_alike c d D j = (
  λ h. subst (λ T. T) (moved c d D (arrivals_of d.inputs) j) (rejected_more _ _ _ (arrivals_of c.inputs) (arrivals_of d.inputs) (λ a. (D.arrived a).0) j h),
  λ h. rejected_more _ _ _ (arrivals_of d.inputs) (arrivals_of c.inputs) (λ a. (D.arrived a).1) j
      (subst (λ T. T) (sym (moved c d D (arrivals_of d.inputs) j)) h),
)

-- ---- the line

same_truth : (a b : Bool) → (a ≡ true) ↔ (b ≡ true) → a ≡ b
same_truth true true h = refl
same_truth false false h = refl
same_truth true false h = sym (h.0 refl)
same_truth false true h = h.1 refl

-- the line of names and of what is rejected
line_in : List (List ℕ) → (ℕ → Bool) → Content → List ℕ
line_in names settled c =
    line (codes "rejected" ++ flat_map (λ j. cond (settled j) (spaced_name (record { names = names; alpha = c.alpha; components = c.components; inputs = c.inputs }) j) [])
    (range_with_len 0 (length names)))

same_line : (c d : Content) (looks others : List (List Settled)) → c.names ≡ d.names → ((j : ℕ) → is_settled looks j ≡ is_settled others j)
    → settled_line c looks ≡ settled_line d others
unfolding settled_line line_in
same_line c d looks others names settled = ap₂ (λ ns f. line_in ns f c) names (fun_ext settled)

pub stages_agree : StagesAgreeInEveryOrder
stages_agree words others format other_format case other proof other_proof a b c d asks other_asks h k z y g f D =
    let r = reports_staged_test words format case proof a asks h z in
    let s = reports_staged_test others other_format other other_proof b other_asks k y in
    let one = subst (λ x. ReportsStagedTest x a.text) ((case_decided format case).one (content_of r.draft) c (r.draft, r.says, (r.faultless, refl)) g) r.reports in
    let two = subst (λ x. ReportsStagedTest x b.text) ((case_decided other_format other).one (content_of s.draft) d (s.draft, s.says, (s.faultless, refl)) f) s.reports in
    record {
      looks = one.looks;
      other_looks = two.looks;
      one_is = one.text_is;
      other_is = two.text_is;
      same_line = same_line c d one.looks two.looks D.names (λ j.
          let alike = rejected_alike c d D j in
          same_truth (is_settled one.looks j) (is_settled two.looks j)
          (λ t. (two.named j).1 (alike.0 ((one.named j).0 t)), λ t. (one.named j).1 (alike.1 ((two.named j).0 t))));
    }

use Rattle.std.proofs.Common.{◌≡◌, sym, ap, subst, ◌∙◌, [], get_or, true}
use Rattle.std.proofs.lemmas.List.{get_or_default}
use Rattle.fraction.specs.View.{number_of}
use Rattle.case_model.specs.declared.spend.Spend.TheVariants.{Shares}
use Rattle.case_model.specs.StagedCase.{spend_at, has_short_fractions}
use Rattle.case_model.specs.StagedTest.{Meets}
use Rattle.staged_levels.specs.StudyView.{study}
use Rattle.staged_levels.proofs.AnyStudy.{any_level, any_spend}
use Rattle.staged_levels.proofs.Values.{value_is, meets_found, none_meets}
use Rattle.staged_levels.proofs.study.Study.meets_at.Goals as goal

pub meets-requires-clause-spend : goal.meets-requires-clause-spend
unfolding study
meets-requires-clause-spend c =
    let t = c.args.self.now in
    let e : c.index-as_slice-k.result ≡ spend_at t.spends c.args.k
    = c.index-as_slice-k.is ∙ ap (λ xs. get_or xs c.args.k c.index-as_slice-k.result) c.as_slice.ensures
    ∙ get_or_default t.spends c.args.k c.index-as_slice-k.result (Shares []) c.requires.below in
    subst (λ s. has_short_fractions s ≡ true) (sym e) (any_spend (study t) t.whole c.args.k)

pub meets-requires-clause-alpha : goal.meets-requires-clause-alpha
unfolding study
meets-requires-clause-alpha c = any_level (study c.args.self.now) c.args.self.now.whole

pub meets-requires-clause-p : goal.meets-requires-clause-p
unfolding study
meets-requires-clause-p c = value_is (study c.args.self.now) c.args.self.now.whole c.args.k c.args.t _ (sym c.value_at.ensures ∙ c.in-Some.is)

pub returns-in-Some : goal.returns-in-Some
unfolding study
returns-in-Some c =
    let t = c.args.self.now in
    let e : c.index-as_slice-k.result ≡ spend_at t.spends c.args.k
    = c.index-as_slice-k.is ∙ ap (λ xs. get_or xs c.args.k c.index-as_slice-k.result) c.as_slice.ensures
    ∙ get_or_default t.spends c.args.k c.index-as_slice-k.result (Shares []) c.requires.below in
    let u = number_of c.args.weight.now in
    let m = meets_found (study t) t.whole c.args.k c.args.t u c.in-Some.p (sym c.value_at.ensures ∙ c.in-Some.is) in (
      λ h. m.0 (subst (λ s. Meets s (number_of t.alpha) c.args.t u (number_of c.in-Some.p)) e (c.meets.ensures.0 h)),
      λ n. c.meets.ensures.1 (subst (λ s. Meets s (number_of t.alpha) c.args.t u (number_of c.in-Some.p)) (sym e) (m.1 n)),
    )

pub returns-in-None : goal.returns-in-None
unfolding study
returns-in-None c =
    let t = c.args.self.now in
    (λ h. absurd (cc), λ m. absurd (none_meets (study t) t.whole c.args.k c.args.t (number_of c.args.weight.now) (sym c.value_at.ensures ∙ c.in-None.is) m))

use Rattle.std.proofs.Common.{◌≡◌, ◌<◌, ◌+◌, sym, ap, ◌∙◌, subst, subst₂, [], ◌∷◌, ◌++◌, length, take, drop, arith}
use Rattle.std.proofs.lemmas.List.{take_more}
use Rattle.std.proofs.Math.Seq.{take-length}
use Rattle.case_model.specs.CaseView.{content}
use Rattle.staged_levels.specs.Studies.{start, MayArrive}
use Rattle.staged_levels.specs.StudyView.{study}
use Rattle.staged_levels.specs.Looks.{arrivals_of, IsDefined, LooksLead, IsLooksFault}
use Rattle.staged_levels.proofs.CaseArrivals.{arrival_may}
use Rattle.staged_levels.proofs.LookSteps.{study_defined, may_other, split_at, look_values, lead_next, look_fault, handed_on}
use Rattle.staged_levels.proofs.case_looks.looks.Goals as goal

pub look-requires-clause-below : goal.look-requires-clause-below
look-requires-clause-below c =
    let k = content c.args.case.now in
    let t = study c.loop-i.study in
    let xs = c.arrivals_of-arrivals.result.now in
    let a = c.index-arrivals-i.result in
    let i = c.loop-i.i in
    let whole : take i xs ++ (a ∷ drop (i + 1) xs) ≡ arrivals_of k.inputs = ap (λ y. take i xs ++ (y ∷ drop (i + 1) xs)) c.index-arrivals-i.is
    ∙ split_at xs i a c.loop-i-test.true ∙ c.arrivals_of-arrivals.ensures in
    let m : MayArrive k t.looks.values a = subst (λ vs. MayArrive k vs a) (sym c.loop-i.invariant.1)
    (arrival_may k c.args.case.now.valid (take i xs) (drop (i + 1) xs) a whole) in
    subst (λ n. a.hypothesis < n) c.loop-i.invariant.0.size m.below

pub look-requires-clause-may : goal.look-requires-clause-may
look-requires-clause-may c =
    let k = content c.args.case.now in
    let t = study c.loop-i.study in
    let xs = c.arrivals_of-arrivals.result.now in
    let a = c.index-arrivals-i.result in
    let i = c.loop-i.i in
    let whole : take i xs ++ (a ∷ drop (i + 1) xs) ≡ arrivals_of k.inputs = ap (λ y. take i xs ++ (y ∷ drop (i + 1) xs)) c.index-arrivals-i.is
    ∙ split_at xs i a c.loop-i-test.true ∙ c.arrivals_of-arrivals.ensures in
    let m : MayArrive k t.looks.values a = subst (λ vs. MayArrive k vs a) (sym c.loop-i.invariant.1)
    (arrival_may k c.args.case.now.valid (take i xs) (drop (i + 1) xs) a whole) in
    λ d U. may_other k d t a c.loop-i.invariant.0 U m

pub returns-in_err-look-clause-fault : goal.returns-in_err-look-clause-fault
returns-in_err-look-clause-fault c =
    let k = content c.args.case.now in
    let opened = subst (IsDefined k) c.in_ok-study.ensures.start (study_defined k (study c.in_ok-study.study) c.in_ok-study.ensures.study) in
    handed_on _ (IsLooksFault k) c.in_err-look.field-0.0 c.from_residual-in_err-look.ensures.1
    (look_fault k (study c.loop-i.study).looks c.arrivals_of-arrivals.result.now c.loop-i.looks c.loop-i.i c.index-arrivals-i.result c.in_err-look.field-0.0
    opened c.arrivals_of-arrivals.ensures c.loop-i-test.true (sym c.index-arrivals-i.is) c.loop-i.invariant.2
    (c.in_err-look.ensures.fault k c.loop-i.invariant.0))

pub loop-i-preserved : goal.loop-i-preserved
loop-i-preserved c =
    let k = content c.args.case.now in
    let t = study c.loop-i.study in
    let new = study c.look.new.current in
    let xs = c.arrivals_of-arrivals.result.now in
    let a = c.index-arrivals-i.result in
    let i = c.loop-i.i in
    let added = c.in_ok-look.field-0 in
    let T = c.loop-i.invariant.0 in
    let L = c.in_ok-look.ensures.look k T in
    let more : take (i + 1) xs ≡ take i xs ++ (a ∷ []) = take_more xs i a c.loop-i-test.true
    ∙ ap (λ y. take i xs ++ (y ∷ [])) (sym c.index-arrivals-i.is) in (
      c.in_ok-look.ensures.study k T,
      look_values k t.looks new.looks a added L ∙ ap (λ vs. vs ++ (a ∷ [])) c.loop-i.invariant.1 ∙ sym more,
      subst₂ (λ ys ls. LooksLead k start ys ls new.looks) (sym more) (sym c.in_ok-push.ensures.pushed)
          (lead_next k start t.looks new.looks (take i xs) c.loop-i.looks a added c.loop-i.invariant.2 L),
    )

pub returns-clause-looks : goal.returns-clause-looks
returns-clause-looks c =
    let k = content c.args.case.now in
    let xs = c.arrivals_of-arrivals.result.now in
    let end : c.loop-i.i ≡ length xs = let q = c.loop-i-test.false in omega (arith, q) in
    let all : take c.loop-i.i xs ≡ arrivals_of k.inputs = ap (λ n. take n xs) end ∙ take-length xs ∙ c.arrivals_of-arrivals.ensures in
    record {
      opened = subst (IsDefined k) c.in_ok-study.ensures.start (study_defined k (study c.in_ok-study.study) c.in_ok-study.ensures.study);
      end = (study c.loop-i.study).looks;
      lead = subst (λ ys. LooksLead k start ys c.loop-i.looks (study c.loop-i.study).looks) all c.loop-i.invariant.2;
    }

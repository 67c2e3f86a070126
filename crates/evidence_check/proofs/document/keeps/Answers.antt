use Rattle.std.proofs.Common.{◌∙◌, ◌+◌, ◌<◌, refl, sym, ap, subst, [], ◌∷◌, map, length, arith}
use Rattle.std.proofs.lemmas.List.{map-append}
use Rattle.text_lines.specs.Kinds.{each_after}
use Rattle.case_model.specs.CaseView.{content}
use Rattle.evidence_check.specs.Document.{numbers, keep}
use Rattle.evidence_check.specs.EvidenceView.{hypotheses_of, keep_parts}
use Rattle.evidence_check.specs.NumberReading.{case_frame}
use Rattle.evidence_check.proofs.ReadAnswers.{handed, reads, next_fails, next_reads, none_left}
use Rattle.std.proofs.Common.{◌-◌}
use Rattle.evidence_check.proofs.Others.{others_from, listed_in, listed_out}
use Rattle.std.proofs.Common.{ap₂}
use Rattle.evidence_check.proofs.StepAnswers.{listed_is}
use Rattle.evidence_check.proofs.ReadAnswers.{others_start, none_more}
use Rattle.evidence_check.proofs.document.keeps.Goals as goal
use Rattle.evidence_check.proofs.document.keeps.Goals.{then-not-is_listed+in_ok-keep+in_ok-push, else-not-is_listed}

pub loop-k-init : goal.loop-k-init
loop-k-init g c =
    let T = (case_frame g.F.CaseNumber.numbers (content c.args.case.now)) in
    let js = hypotheses_of c.args.steps.now in
    let m = length (content c.args.case.now).names in
    record {
      end = refl;
      so_far = ap₂ (λ xs ks. reads (each_after (keep T js) xs ks) c.args.lines.now) (sym (ap (map (keep_parts g.F.Number.parts)) c.new-keeps.ensures)) (sym (others_start m js));
    }

pub returns-in_err-keep-clause-said : goal.returns-in_err-keep-clause-said
returns-in_err-keep-clause-said g c =
    let T = (case_frame g.F.CaseNumber.numbers (content c.args.case.now)) in
    let js = hypotheses_of c.args.steps.now in
    let m = length (content c.args.case.now).names in
    let p : c.loop-k.k < length (content c.args.case.now).names = subst (λ n. c.loop-k.k < n) c.size-k-end.ensures.count c.loop-k-test.true in
    handed _ c.from_residual.result c.in_err-keep.field-0.0 _ c.from_residual.ensures.1
    (next_fails (keep T js) (map (keep_parts g.F.Number.parts) c.loop-k.keeps) c.loop-k.k (others_from js (c.loop-k.k + 1) (m - (c.loop-k.k + 1))) c.loop-k.lines _
    (c.loop-k.invariant.so_far ∙ ap (λ ks. reads (each_after (keep T js) (map (keep_parts g.F.Number.parts) c.loop-k.keeps) ks) c.loop-k.lines)
    (listed_in m js c.loop-k.k p (sym (listed_is c.args.steps.now c.loop-k.k) ∙ sym c.is_listed.ensures ∙ c.if-not-is_listed.true)))
    c.in_err-keep.field-0.0 c.in_err-keep.ensures.said)

pub loop-k-preserved : goal.loop-k-preserved
loop-k-preserved g c =
    let T = (case_frame g.F.CaseNumber.numbers (content c.args.case.now)) in
    let js = hypotheses_of c.args.steps.now in
    let m = length (content c.args.case.now).names in
    let p : c.loop-k.k < length (content c.args.case.now).names = subst (λ n. c.loop-k.k < n) c.size-k-end.ensures.count c.loop-k-test.true in
    elim c.if-not-is_listed.branch [
      | then-not-is_listed+in_ok-keep+in_ok-push w ↦ record {
        end = ap (λ l. l.end) w.lines-is ∙ w.keep.ensures.end ∙ c.loop-k.invariant.end;
        so_far = next_reads (keep T js) (map (keep_parts g.F.Number.parts) c.loop-k.keeps) c.loop-k.k (others_from js (c.loop-k.k + 1) (m - (c.loop-k.k + 1))) c.loop-k.lines _
            (c.loop-k.invariant.so_far ∙ ap (λ ks. reads (each_after (keep T js) (map (keep_parts g.F.Number.parts) c.loop-k.keeps) ks) c.loop-k.lines)
            (listed_in m js c.loop-k.k p (sym (listed_is c.args.steps.now c.loop-k.k) ∙ sym c.is_listed.ensures ∙ w.if-not-is_listed.true)))
            (keep_parts g.F.Number.parts w.in_ok-keep.field-0) w.keep.new.lines w.in_ok-keep.ensures.said w.keep.ensures.end
            ∙ ap₂ (λ xs l. reads (each_after (keep T js) xs (others_from js (c.loop-k.k + 1) (m - (c.loop-k.k + 1)))) l)
            (sym (ap (map (keep_parts g.F.Number.parts)) (w.keeps-is ∙ w.in_ok-push.ensures.pushed) ∙ map-append (keep_parts g.F.Number.parts) c.loop-k.keeps (w.in_ok-keep.field-0 ∷ [])))
            (sym w.lines-is);
      }
      | else-not-is_listed w ↦ record {
        end = ap (λ l. l.end) w.lines-is ∙ c.loop-k.invariant.end;
        so_far = c.loop-k.invariant.so_far ∙ ap (λ ks. reads (each_after (keep T js) (map (keep_parts g.F.Number.parts) c.loop-k.keeps) ks) c.loop-k.lines)
            (listed_out m js c.loop-k.k p (sym (listed_is c.args.steps.now c.loop-k.k) ∙ sym c.is_listed.ensures ∙ w.if-not-is_listed.false))
            ∙ ap₂ (λ xs l. reads (each_after (keep T js) (map (keep_parts g.F.Number.parts) xs) (others_from js (c.loop-k.k + 1) (m - (c.loop-k.k + 1)))) l) (sym w.keeps-is) (sym w.lines-is);
      }
    ]

pub returns-clause-said : goal.returns-clause-said
returns-clause-said g c =
    let T = (case_frame g.F.CaseNumber.numbers (content c.args.case.now)) in
    let js = hypotheses_of c.args.steps.now in
    let m = length (content c.args.case.now).names in
    none_left (keep T js) (map (keep_parts g.F.Number.parts) c.loop-k.keeps) (others_from js c.loop-k.k (m - c.loop-k.k)) c.loop-k.lines _ c.loop-k.invariant.so_far
    (none_more m c.loop-k.k js (omega (arith, c.loop-k.auto.k-end, c.loop-k-test.false, c.size-k-end.ensures.count)))

use Rattle.evidence_check.specs.NumberReading.{case_frame}
use Rattle.std.proofs.Common.{◌<◌, ◌≤◌, map, length, arith}
use Rattle.std.proofs.lemmas.List.{length-map}
use Rattle.case_model.specs.CaseView.{content}
use Rattle.evidence_check.specs.EvidenceView.{hypotheses_of, keep_parts}
use Rattle.evidence.proofs.WriterAnswers.{mapped_item, mapped_within, kept_below, exits_at, keeps_next, keeps_end}
use Rattle.evidence.proofs.writer.put_keeps.Goals as goal

pub put_keep-requires-clause-below : goal.put_keep-requires-clause-below
put_keep-requires-clause-below g c =
    let within : c.loop-keep.keep-index < length c.args.keeps.now = omega arith in
    kept_below g.F.Number.parts (length (content c.args.case.now).names) c.args.keeps.now c.loop-keep.keep-index c.keep-item.result c.requires.below within
    c.keep-item.is

pub put_keep-requires-clause-full : goal.put_keep-requires-clause-full
put_keep-requires-clause-full g c =
    let parts = g.F.Number.parts in
    let keeps = c.args.keeps.now in
    let within : c.loop-keep.keep-index < length keeps = omega arith in
    exits_at (length (content c.args.case.now).components) (length c.args.steps.now) (map (keep_parts parts) keeps) c.loop-keep.keep-index
    (keep_parts parts c.keep-item.result) c.requires.fit (mapped_within (keep_parts parts) keeps c.loop-keep.keep-index within)
    (mapped_item (keep_parts parts) keeps c.loop-keep.keep-index c.keep-item.result within c.keep-item.is)

pub loop-keep-preserved : goal.loop-keep-preserved
loop-keep-preserved g c =
    let parts = g.F.Number.parts in
    let keeps = c.args.keeps.now in
    let within : c.loop-keep.keep-index < length keeps = omega arith in
    keeps_next (case_frame g.F.CaseNumber.numbers (content c.args.case.now)) (hypotheses_of c.args.steps.now) (map (keep_parts parts) keeps) c.loop-keep.keep-index
    (keep_parts parts c.keep-item.result) _ c.loop-keep.text c.put_keep.new.text
    (mapped_within (keep_parts parts) keeps c.loop-keep.keep-index within)
    (mapped_item (keep_parts parts) keeps c.loop-keep.keep-index c.keep-item.result within c.keep-item.is) c.loop-keep.invariant c.in_ok-put_keep.ensures

pub returns : goal.returns
returns g c =
    let keeps = map (keep_parts g.F.Number.parts) c.args.keeps.now in
    let end : length keeps ≤ c.loop-keep.keep-index = omega (arith, length-map c.args.keeps.now (keep_parts g.F.Number.parts)) in
    keeps_end (case_frame g.F.CaseNumber.numbers (content c.args.case.now))
    (hypotheses_of c.args.steps.now) keeps c.loop-keep.keep-index _ c.loop-keep.text end c.loop-keep.invariant

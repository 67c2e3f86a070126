use Rattle.std.proofs.Common.{◌≡◌, ◌+◌, ◌<◌, ◌≤◌, ◌++◌, sym, ap, ◌∙◌, subst, false, codes, length, get_or, take, append-nil}
use Rattle.std.specs.Fmt.{decimal}
use Rattle.std.specs.List.{All}
use Rattle.answers.specs.Lines.{line}
use Rattle.field_core.specs.Sets.{set_of}
use Rattle.field_core.specs.NumberedSets.{members}
use Rattle.field_core.proofs.Members.{number_below}
use Rattle.case_model.specs.CaseView.{content}
use Rattle.discovery_bound.specs.BoundsView.{bound_of}
use Rattle.report.specs.SimesReport.{top_line}
use Rattle.report.proofs.FirstSets.{next_outside, added_first, first_within, first_none}
use Rattle.report.proofs.ListedLines.{put_more}
use Rattle.report.proofs.simes.put_tops.Goals as goal

pub loop-k-init : goal.loop-k-init
loop-k-init c = record {
  set = sym (first_none (length (content c.args.case.now).names) c.args.leaders.now);
  text = sym (append-nil c.args.text.now);
}

pub added-set-requires-clause-set : goal.added-set-requires-clause-set
added-set-requires-clause-set c =
    let few = subst (λ m. m ≤ 16) c.requires.size c.args.bounds.now.few in
    subst (λ n. n < 65536) (sym c.loop-k.invariant.set) (first_within (length (content c.args.case.now).names) c.args.leaders.now c.loop-k.k few)

pub added-set-requires-clause-outside : goal.added-set-requires-clause-outside
added-set-requires-clause-outside c =
    let js = c.args.leaders.now in
    let below = subst (λ m. All (λ j. j < m) js) c.requires.size c.requires.below in
    subst (λ n. members n (get_or js c.loop-k.k 0) ≡ false) (sym c.loop-k.invariant.set)
    (next_outside (length (content c.args.case.now).names) js below c.requires.apart c.loop-k.k 0 c.loop-k-test.true)

pub put_top-requires : goal.put_top-requires
put_top-requires c =
    let m = length (content c.args.case.now).names in
    let js = c.args.leaders.now in
    let below = subst (λ m. All (λ j. j < m) js) c.requires.size c.requires.below in
    let next = added_first m js below c.requires.apart c.loop-k.k 0 c.loop-k-test.true c.loop-k.set c.added-set.result c.loop-k.invariant.set
    c.added-set.ensures.number in
    rw (next, c.requires.size) (number_below m (set_of (take (c.loop-k.k + 1) js)))

pub loop-k-preserved : goal.loop-k-preserved
unfolding top_line
loop-k-preserved c =
    let m = length (content c.args.case.now).names in
    let js = c.args.leaders.now in
    let bound = bound_of c.args.bounds.now in
    let k = c.loop-k.k in
    let below = subst (λ m. All (λ j. j < m) js) c.requires.size c.requires.below in
    let next = added_first m js below c.requires.apart k 0 c.loop-k-test.true c.loop-k.set c.added-set.result c.loop-k.invariant.set
    c.added-set.ensures.number in
    let put = c.in_ok-put_top.ensures ∙ ap (λ n. c.loop-k.text ++ line (codes "top " ++ decimal (k + 1) ++ codes " bound " ++ decimal (bound n))) next in
    record {
      set = next;
      text = put_more (λ i. top_line (content c.args.case.now) bound js (i + 1)) c.args.text.now c.loop-k.text c.put_top.new.text k
          c.loop-k.invariant.text put;
    }

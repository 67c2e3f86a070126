use Rattle.std.proofs.Common.{◌≡◌, ◌+◌, ◌*◌, ◌<◌, ◌/◌, ◌%◌, ◌++◌, ◌∷◌, [], sym, refl, ap, ap₂, ◌∙◌, cond, length}
use Rattle.std.proofs.Common.{take, get_or, true, false, None, Some, arith}
use Rattle.std.proofs.Math.ListN.{set}
use Rattle.std.proofs.lemmas.List.{get_or-replicate, length-replicate, length-set, take_more}
use Rattle.std.specs.List.{list_any, list_all}
use Rattle.case_model.specs.declared.fault.CaseFault.TheVariants.{RepeatedEdge}
use Rattle.case_model.specs.Draft.{goes_between, has_ends}
use Rattle.case_model.specs.CaseFaults.{◌when◌, first_of, first_below, edge_again, repeated_edge}
use Rattle.case_model.proofs.Holding.{all_at}
use Rattle.case_model.proofs.FirstFaults.{found_at, found_at-item, first_of-below, below_none, below_answer, below_silence}
use Rattle.case_model.proofs.TablePlaces.{place_row, place_column, place_within, table_size, set_place, mark_more}
use Rattle.case_model.proofs.draft_component.DraftComponent.repeated_edge.Goals as goal
use Rattle.case_model.proofs.draft_component.DraftComponent.repeated_edge.Goals.{After-index-edges-n, After-place-place}

known : (c : After-index-edges-n) → goes_between c.args.count c.index-edges-n.result ≡ true
known c =
    ap (goes_between c.args.count) c.index-edges-n.is
    ∙ all_at (goes_between c.args.count) c.as_slice-edges.result.now c.loop-n.n c.index-edges-n.result
    (ap (list_all (goes_between c.args.count)) c.as_slice-edges.ensures ∙ c.requires.ends) c.loop-n-test.true

-- the edge is found again where its place is marked
again : (c : After-place-place) → goes_between c.args.count c.index-edges-n.result ≡ true
    → found_at (edge_again c.args.c c.as_slice-edges.result.now) c.as_slice-edges.result.now
    c.loop-n.n ≡ (RepeatedEdge c.args.c c.index-edges-n.result.from c.index-edges-n.result.to when get_or c.loop-n.seen c.place-place.result false)
again c ends =
    let es = c.as_slice-edges.result.now in
    let n = c.loop-n.n in
    let m = c.args.count in
    let e = c.index-edges-n.result in
    let row : c.place-place.result / m ≡ e.from = ap (λ p. p / m) c.place-place.ensures.place ∙ place_row m e ends in
    let column : c.place-place.result % m ≡ e.to = ap (λ p. p % m) c.place-place.ensures.place ∙ place_column m e ends in
    let mark : get_or c.loop-n.seen c.place-place.result false ≡ list_any (has_ends e.from e.to) (take n es) =
    c.loop-n.invariant.marks c.place-place.result c.place-place.ensures.within ∙ ap₂ (λ i j. list_any (has_ends i j) (take n es)) row column in
    found_at-item (edge_again c.args.c es) es n e c.loop-n-test.true c.index-edges-n.is ∙ ap (λ b. RepeatedEdge c.args.c e.from e.to when b) (sym mark)

pub loop-n-init : goal.loop-n-init
loop-n-init c = record {
  size = simp length-replicate;
  before = below_none _;
  marks = λ k h. get_or-replicate 4096 k false false (omega (arith, table_size c.args.count c.requires.few));
}

pub place-place-requires-clause-ends : goal.place-place-requires-clause-ends
place-place-requires-clause-ends c = known ((goal.at.place-place-requires-clause-ends c).After-index-edges-n)

pub returns-then-seen-place : goal.returns-then-seen-place
unfolding repeated_edge
returns-then-seen-place c =
    let es = c.as_slice-edges.result.now in
    let e = c.index-edges-n.result in
    let fault = RepeatedEdge c.args.c e.from e.to in
    below_answer (found_at (edge_again c.args.c es) es) c.loop-n.n (length es) (Some fault) c.loop-n-test.true c.loop-n.invariant.before
    (sym (again ((goal.at.returns-then-seen-place c).After-place-place) (known ((goal.at.returns-then-seen-place c).After-index-edges-n))
    ∙ ap (λ b. fault when b) c.if-seen-place.true)) refl
    ∙ sym (first_of-below (edge_again c.args.c es) es) ∙ ap (λ es. first_of (edge_again c.args.c es) es) c.as_slice-edges.ensures

pub loop-n-preserved : goal.loop-n-preserved
loop-n-preserved c =
    let es = c.as_slice-edges.result.now in
    let n = c.loop-n.n in
    let m = c.args.count in
    let e = c.index-edges-n.result in
    let fault = RepeatedEdge c.args.c e.from e.to in
    let seen = c.loop-n.seen in
    let ends = known ((goal.at.loop-n-preserved c).After-index-edges-n) in
    let within : e.from * m + e.to < length seen = omega
    (arith, c.place-place.ensures.place, place_within m e ends, table_size m c.requires.few, c.loop-n.invariant.size) in
    let more : take (n + 1) es ≡ take n es ++ e ∷ [] = take_more es n e c.loop-n-test.true ∙ ap (λ x. take n es ++ x ∷ []) (sym c.index-edges-n.is) in
    record {
      size = simp length-set c.loop-n.invariant.size;
      before = below_silence (found_at (edge_again c.args.c es) es) n None c.loop-n.invariant.before
          (sym (again ((goal.at.loop-n-preserved c).After-place-place) ends ∙ ap (λ b. fault when b) c.if-seen-place.false)) refl;
      marks = λ k h.
          ap (λ p. get_or (set seen p true) k false) c.place-place.ensures.place
          ∙ set_place m e ends seen true false k within
          ∙ ap (cond (has_ends (k / m) (k % m) e) true) (c.loop-n.invariant.marks k h)
          ∙ mark_more (has_ends (k / m) (k % m)) (take n es) e ∙ ap (list_any (has_ends (k / m) (k % m))) (sym more);
    }

pub returns : goal.returns
unfolding repeated_edge
returns c =
    let es = c.as_slice-edges.result.now in
    let all : c.loop-n.n ≡ length es = omega arith in
    sym c.loop-n.invariant.before ∙ ap (first_below (found_at (edge_again c.args.c es) es)) all ∙ sym (first_of-below (edge_again c.args.c es) es)
    ∙ ap (λ es. first_of (edge_again c.args.c es) es) c.as_slice-edges.ensures

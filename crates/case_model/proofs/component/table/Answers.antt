use Rattle.std.proofs.Common.{◌≡◌, ◌+◌, ◌*◌, ◌/◌, ◌%◌, ◌-◌, ◌∷◌, refl, sym, ap, ap₂, ◌∙◌, cond, length, drop, get_or}
use Rattle.std.proofs.Common.{replicate, suc, true, arith}
use Rattle.std.specs.List.{list_all}
use Rattle.std.proofs.Math.ListN.{set}
use Rattle.std.proofs.Math.Seq.{drop-cons, drop-length}
use Rattle.std.proofs.lemmas.List.{get_or-replicate, length-replicate, length-set}
use Rattle.std.proofs.lemmas.List.FromFn.{fill_by_all}
use Rattle.case_model.specs.Draft.{goes_between, has_ends}
use Rattle.case_model.specs.Entries.{no_edge, is_whole_entry}
use Rattle.case_model.specs.Content.{edge_between, table_of}
use Rattle.case_model.proofs.Holding.{all_at, all_set, all_replicate}
use Rattle.case_model.proofs.TablePlaces.{set_place, edge_between-more, edge_between-none}
use Rattle.case_model.proofs.component.table.Goals as goal
use Rattle.case_model.proofs.component.table.Goals.{After-index-edges-n}

known : (c : After-index-edges-n) → goes_between c.args.count c.index-edges-n.result ≡ true
known c = ap (goes_between c.args.count) c.index-edges-n.is
    ∙ all_at (goes_between c.args.count) c.args.edges.now (c.loop-n.n - 1) c.index-edges-n.result c.requires.ends (omega arith)

pub loop-n-init : goal.loop-n-init
loop-n-init c =
    let size = c.args.count * c.args.count in
    let made : c.of-table.result ≡ replicate size no_edge = c.of-table.ensures ∙ c.in_ok-vec.ensures.items_if_clones_equal (λ y e. e)
    ∙ ap (replicate size) c.no_edge.ensures in
    record {
      size = ap length made ∙ simp length-replicate;
      coefficients = ap (list_all is_whole_entry) made ∙ all_replicate is_whole_entry size no_edge refl;
      entries = λ k h. ap (λ t. get_or t k no_edge) made ∙ get_or-replicate size k no_edge no_edge h
          ∙ sym (edge_between-none (k / c.args.count) (k % c.args.count))
          ∙ ap (λ es. edge_between es (k / c.args.count) (k % c.args.count)) (sym (drop-length c.args.edges.now));
    }

pub set-requires : goal.set-requires
set-requires c = omega (arith, c.place.ensures.within, c.loop-n.invariant.size)

pub loop-n-preserved : goal.loop-n-preserved
loop-n-preserved c =
    let m = c.args.count in
    let es = c.args.edges.now in
    let n = c.loop-n.n in
    let e = c.index-edges-n.result in
    let table = c.loop-n.table in
    let written : c.set.new.self ≡ set table (e.from * m + e.to) e.entry = c.set.ensures ∙ ap₂ (set table) c.place.ensures.place c.copied.ensures.same in
    let next : suc (n - 1) ≡ n = omega arith in
    let rest : drop (n - 1) es ≡ e ∷ drop n es = drop-cons es (n - 1) e (omega arith) ∙ ap (λ x. x ∷ drop (suc (n - 1)) es) (sym c.index-edges-n.is)
    ∙ ap (λ k. e ∷ drop k es) next in
    record {
      size = ap length written ∙ simp length-set c.loop-n.invariant.size;
      coefficients = ap (list_all is_whole_entry) written
          ∙ all_set is_whole_entry table (e.from * m + e.to) e.entry c.loop-n.invariant.coefficients
          (ap is_whole_entry (sym c.copied.ensures.same) ∙ c.copied.ensures.whole);
      entries = λ k h.
          ap (λ t. get_or t k no_edge) written
          ∙ set_place m e (known ((goal.at.loop-n-preserved c).After-index-edges-n)) table e.entry no_edge k
          (omega (arith, c.place.ensures.place, c.place.ensures.within, c.loop-n.invariant.size))
          ∙ ap (cond (has_ends (k / m) (k % m) e) e.entry) (c.loop-n.invariant.entries k h)
          ∙ edge_between-more e (drop n es) (k / m) (k % m) ∙ ap (λ es. edge_between es (k / m) (k % m)) (sym rest);
    }

pub returns-clause-table : goal.returns-clause-table
unfolding table_of
returns-clause-table c =
    let m = c.args.count in
    let none : c.loop-n.n ≡ 0 = omega arith in
    fill_by_all (λ k. edge_between c.args.edges.now (k / m) (k % m)) c.loop-n.table (m * m) no_edge c.loop-n.invariant.size
    (λ k h. c.loop-n.invariant.entries k h ∙ ap (λ n. edge_between (drop n c.args.edges.now) (k / m) (k % m)) none)

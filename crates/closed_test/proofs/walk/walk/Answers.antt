use Rattle.std.proofs.Common.{◌≡◌, refl, sym, ap, subst, ◌∙◌, ℕ, suc, ◌-◌, ◌<◌, ◌≤◌, List, [], length, map, get_or, Ok, arith}
use Rattle.std.proofs.lemmas.List.{get_or-map}
use Rattle.field_core.specs.OrderOfSets.{IsAscending, IsListStep}
use Rattle.case_model.specs.CaseView.{content}
use Rattle.entangled.specs.declared.case_net.CaseNet.{CaseNet}
use Rattle.entangled.specs.CaseNetView.{case_state}
use Rattle.entangled.specs.CaseRun.{CaseState, case_size}
use Rattle.entangled.specs.CaseAfter.{case_after}
use Rattle.entangled.proofs.CaseLevels.{case_sizes}
use Rattle.closed_test.specs.Paths.{number_without}
use Rattle.closed_test.specs.WeightsView.{weight_at}
use Rattle.closed_test.specs.Walks.{AreStatesAlong}
use Rattle.closed_test.proofs.SetSteps.{set_fits, depth_is, one_deeper, short, row_of, tabled_start, step_both, step_live, step_states, step_run, step_size}
use Rattle.closed_test.proofs.SetSteps.{step_alike, step_tabled, step_wide}
use Rattle.closed_test.proofs.walk.walk.Goals as goal

-- the state of a net at a place
state_at : (nets : List CaseNet) (n : ℕ) (x : CaseNet) (d : CaseState) → n < length nets
    → case_state (get_or nets n x) ≡ get_or (map case_state nets) n d
state_at nets n x d p = sym (get_or-map case_state nets n x d p)

number_at_size : (set size m : ℕ) (left : List ℕ) → set ≡ number_without size left → size ≡ m → set ≡ number_without m left
number_at_size set size m left e f = e ∙ ap (λ n. number_without n left) f

pub put_row-requires-clause-set : goal.put_row-requires-clause-set
put_row-requires-clause-set c = set_fits c.set.result c.args.path.now.size (length (content c.args.case.now).names) _ c.args.path.now.left.items c.set.ensures
    c.requires.size c.requires.table

pub put_row-requires-clause-size : goal.put_row-requires-clause-size
put_row-requires-clause-size c =
    let d = case_state c.index-nets-0.result in
    let here = state_at c.args.nets.now 0 c.index-nets-0.result d (omega (arith, c.requires.count)) in
    ap case_size here ∙ case_sizes (content c.args.case.now) [] _ c.args.case.now.valid tt (c.requires.along [] [] d refl) ∙ sym c.requires.table

pub sets-init : goal.sets-init
sets-init c =
    let k = content c.args.case.now in
    let left = c.args.path.now.left.items in
    let d = case_state c.index-nets-0.result in
    let here = state_at c.args.nets.now 0 c.index-nets-0.result d (omega (arith, c.requires.count)) in
    let run = ap (case_after k) c.requires.start ∙ c.requires.along [] [] d refl ∙ ap Ok (sym here) in
    let number = number_at_size c.set.result c.args.path.now.size (length k.names) left c.set.ensures c.requires.size in
    let row = row_of k (weight_at c.put_row.new.self) left _ c.set.result c.args.case.now.valid
    (subst (λ n. IsAscending n 0 left) c.requires.size c.requires.path.ascending) run number
    (λ i p l. c.put_row.ensures.row i (subst (λ n. i < n) (sym c.requires.table) p) l) in
    record {
      size = c.requires.size;
      path = c.requires.path;
      table = c.put_row.ensures.size ∙ c.requires.table;
      count = c.requires.count;
      along = subst (λ xs. AreStatesAlong k xs (map case_state c.args.nets.now)) (sym c.requires.start) c.requires.along;
      alike = c.requires.alike;
      tabled = tabled_start k (weight_at c.put_row.new.self) left c.requires.start row;
    }

pub enter-requires-clause-depth : goal.enter-requires-clause-depth
enter-requires-clause-depth c =
    let k = content c.args.case.now in
    let st = subst (λ n. IsListStep n c.sets.path.left.items c.step.new.self.left.items c.in-Some.j) c.sets.invariant.size c.in-Some.ensures.step in
    let states = map case_state c.sets.nets in
    let d = depth_is k c.args.case.now.valid c.sets.path.left.items c.step.new.self.left.items c.in-Some.j st states c.sets.invariant.along c.depth-depth.result
    c.depth-depth.ensures in
    let s = short k c.args.case.now.valid c.sets.path.left.items c.step.new.self.left.items c.in-Some.j st states c.sets.invariant.along in
    omega (arith, d, s, c.sets.invariant.count)

pub enter-requires-clause-numbers : goal.enter-requires-clause-numbers
enter-requires-clause-numbers c =
    let k = content c.args.case.now in
    let st = subst (λ n. IsListStep n c.sets.path.left.items c.step.new.self.left.items c.in-Some.j) c.sets.invariant.size c.in-Some.ensures.step in
    let states = map case_state c.sets.nets in
    let d = depth_is k c.args.case.now.valid c.sets.path.left.items c.step.new.self.left.items c.in-Some.j st states c.sets.invariant.along c.depth-depth.result
    c.depth-depth.ensures in
    λ e. (step_both k c.args.case.now.valid c.sets.path.left.items c.step.new.self.left.items c.in-Some.j st states c.sets.invariant.along
    (c.depth-depth.result - 1) d c.sets.invariant.alike e).numbers

pub enter-requires-clause-size : goal.enter-requires-clause-size
enter-requires-clause-size c =
    let k = content c.args.case.now in
    let st = subst (λ n. IsListStep n c.sets.path.left.items c.step.new.self.left.items c.in-Some.j) c.sets.invariant.size c.in-Some.ensures.step in
    let states = map case_state c.sets.nets in
    let d = depth_is k c.args.case.now.valid c.sets.path.left.items c.step.new.self.left.items c.in-Some.j st states c.sets.invariant.along c.depth-depth.result
    c.depth-depth.ensures in
    λ e. (step_both k c.args.case.now.valid c.sets.path.left.items c.step.new.self.left.items c.in-Some.j st states c.sets.invariant.along
    (c.depth-depth.result - 1) d c.sets.invariant.alike e).size

pub enter-requires-clause-shares : goal.enter-requires-clause-shares
enter-requires-clause-shares c =
    let k = content c.args.case.now in
    let st = subst (λ n. IsListStep n c.sets.path.left.items c.step.new.self.left.items c.in-Some.j) c.sets.invariant.size c.in-Some.ensures.step in
    let states = map case_state c.sets.nets in
    let d = depth_is k c.args.case.now.valid c.sets.path.left.items c.step.new.self.left.items c.in-Some.j st states c.sets.invariant.along c.depth-depth.result
    c.depth-depth.ensures in
    λ e. (step_both k c.args.case.now.valid c.sets.path.left.items c.step.new.self.left.items c.in-Some.j st states c.sets.invariant.along
    (c.depth-depth.result - 1) d c.sets.invariant.alike e).shares

pub enter-requires-clause-live : goal.enter-requires-clause-live
enter-requires-clause-live c =
    let k = content c.args.case.now in
    let st = subst (λ n. IsListStep n c.sets.path.left.items c.step.new.self.left.items c.in-Some.j) c.sets.invariant.size c.in-Some.ensures.step in
    let states = map case_state c.sets.nets in
    let d = depth_is k c.args.case.now.valid c.sets.path.left.items c.step.new.self.left.items c.in-Some.j st states c.sets.invariant.along c.depth-depth.result
    c.depth-depth.ensures in
    step_live k c.args.case.now.valid c.sets.path.left.items c.step.new.self.left.items c.in-Some.j st states c.sets.invariant.along
    (c.depth-depth.result - 1) d

pub returns-in-Err-clause-walk : goal.returns-in-Err-clause-walk
returns-in-Err-clause-walk c =
    let k = content c.args.case.now in
    let st = subst (λ n. IsListStep n c.sets.path.left.items c.step.new.self.left.items c.in-Some.j) c.sets.invariant.size c.in-Some.ensures.step in
    let states = map case_state c.sets.nets in
    let d = depth_is k c.args.case.now.valid c.sets.path.left.items c.step.new.self.left.items c.in-Some.j st states c.sets.invariant.along c.depth-depth.result
    c.depth-depth.ensures in
    step_wide k c.args.case.now.valid c.sets.path.left.items c.step.new.self.left.items c.in-Some.j st states c.sets.invariant.along (weight_at c.sets.table)
    (c.depth-depth.result - 1) d c.in-Err.wide c.sets.invariant.tabled c.in-Err.ensures.value

pub bounds-nets-depth : goal.bounds-nets-depth
bounds-nets-depth c =
    let k = content c.args.case.now in
    let st = subst (λ n. IsListStep n c.sets.path.left.items c.step.new.self.left.items c.in-Some.j) c.sets.invariant.size c.in-Some.ensures.step in
    let states = map case_state c.sets.nets in
    let deep = one_deeper k c.args.case.now.valid c.sets.path.left.items c.step.new.self.left.items c.in-Some.j st states c.sets.invariant.along
    c.depth-depth.result c.depth-depth.ensures in
    let s = short k c.args.case.now.valid c.sets.path.left.items c.step.new.self.left.items c.in-Some.j st states c.sets.invariant.along in
    omega (arith, deep, s, c.sets.invariant.count, c.in_default.ensures.count)

pub offset_bounds-nets-depth : goal.offset_bounds-nets-depth
offset_bounds-nets-depth c =
    let k = content c.args.case.now in
    let st = subst (λ n. IsListStep n c.sets.path.left.items c.step.new.self.left.items c.in-Some.j) c.sets.invariant.size c.in-Some.ensures.step in
    let states = map case_state c.sets.nets in
    let deep = one_deeper k c.args.case.now.valid c.sets.path.left.items c.step.new.self.left.items c.in-Some.j st states c.sets.invariant.along
    c.depth-depth.result c.depth-depth.ensures in
    let s = short k c.args.case.now.valid c.sets.path.left.items c.step.new.self.left.items c.in-Some.j st states c.sets.invariant.along in
    omega (arith, deep, s, c.sets.invariant.size, c.sets.path.few)

pub put_row-requires-in-Some-clause-set : goal.put_row-requires-in-Some-clause-set
put_row-requires-in-Some-clause-set c = set_fits c.set-in-Some.result c.step.new.self.size (length (content c.args.case.now).names) _ c.step.new.self.left.items
    c.set-in-Some.ensures (c.in-Some.ensures.size ∙ c.sets.invariant.size) c.sets.invariant.table

pub put_row-requires-in-Some-clause-size : goal.put_row-requires-in-Some-clause-size
put_row-requires-in-Some-clause-size c =
    let k = content c.args.case.now in
    let st = subst (λ n. IsListStep n c.sets.path.left.items c.step.new.self.left.items c.in-Some.j) c.sets.invariant.size c.in-Some.ensures.step in
    let states = map case_state c.sets.nets in
    let nexts = map case_state c.enter.new.nets in
    let at = depth_is k c.args.case.now.valid c.sets.path.left.items c.step.new.self.left.items c.in-Some.j st states c.sets.invariant.along
    c.depth-depth.result c.depth-depth.ensures in
    let deep = one_deeper k c.args.case.now.valid c.sets.path.left.items c.step.new.self.left.items c.in-Some.j st states c.sets.invariant.along
    c.depth-depth.result c.depth-depth.ensures in
    let s = short k c.args.case.now.valid c.sets.path.left.items c.step.new.self.left.items c.in-Some.j st states c.sets.invariant.along in
    let next : c.depth-depth.result ≡ suc (c.depth-depth.result - 1) = omega (arith, deep) in
    let x = c.index-nets-depth.result in
    let e = case_state x in
    let here = state_at c.enter.new.nets c.depth-depth.result x e (omega (arith, deep, s, c.sets.invariant.count, c.in_default.ensures.count))
    ∙ ap (λ n. get_or nexts n e) next in
    ap case_size here ∙ step_size k c.args.case.now.valid c.sets.path.left.items c.step.new.self.left.items c.in-Some.j st states c.sets.invariant.along nexts
    (c.depth-depth.result - 1) at c.in_default.ensures.others c.in_default.ensures.value e ∙ sym c.sets.invariant.table

pub sets-preserved : goal.sets-preserved
sets-preserved c =
    let k = content c.args.case.now in
    let st = subst (λ n. IsListStep n c.sets.path.left.items c.step.new.self.left.items c.in-Some.j) c.sets.invariant.size c.in-Some.ensures.step in
    let states = map case_state c.sets.nets in
    let nexts = map case_state c.enter.new.nets in
    let at = depth_is k c.args.case.now.valid c.sets.path.left.items c.step.new.self.left.items c.in-Some.j st states c.sets.invariant.along
    c.depth-depth.result c.depth-depth.ensures in
    let deep = one_deeper k c.args.case.now.valid c.sets.path.left.items c.step.new.self.left.items c.in-Some.j st states c.sets.invariant.along
    c.depth-depth.result c.depth-depth.ensures in
    let s = short k c.args.case.now.valid c.sets.path.left.items c.step.new.self.left.items c.in-Some.j st states c.sets.invariant.along in
    let next : c.depth-depth.result ≡ suc (c.depth-depth.result - 1) = omega (arith, deep) in
    let x = c.index-nets-depth.result in
    let e = case_state x in
    let here = state_at c.enter.new.nets c.depth-depth.result x e (omega (arith, deep, s, c.sets.invariant.count, c.in_default.ensures.count))
    ∙ ap (λ n. get_or nexts n e) next in
    let size = c.in-Some.ensures.size ∙ c.sets.invariant.size in
    let number = number_at_size c.set-in-Some.result c.step.new.self.size (length k.names) c.step.new.self.left.items c.set-in-Some.ensures size in
    let run = step_run k c.args.case.now.valid c.sets.path.left.items c.step.new.self.left.items c.in-Some.j st states c.sets.invariant.along nexts
    (c.depth-depth.result - 1) at c.in_default.ensures.others c.in_default.ensures.value e ∙ ap Ok (sym here) in
    let row = row_of k (weight_at c.put_row-in-Some.new.self) c.step.new.self.left.items _ c.set-in-Some.result c.args.case.now.valid st.next.ascending run
    number (λ i p l. c.put_row-in-Some.ensures.row i (subst (λ n. i < n) (sym c.sets.invariant.table) p) l) in
    let few : length k.names ≤ 16 = omega (arith, c.sets.invariant.size, c.sets.path.few) in
    record {
      size = size;
      path = c.in-Some.ensures.path;
      table = c.put_row-in-Some.ensures.size ∙ c.sets.invariant.table;
      count = c.in_default.ensures.count ∙ c.sets.invariant.count;
      along = step_states k c.args.case.now.valid c.sets.path.left.items c.step.new.self.left.items c.in-Some.j st states c.sets.invariant.along nexts
          (c.depth-depth.result - 1) at c.in_default.ensures.others c.in_default.ensures.value;
      alike = step_alike k c.args.case.now.valid c.sets.path.left.items c.step.new.self.left.items c.in-Some.j st states c.sets.invariant.along nexts
          (c.depth-depth.result - 1) at c.in_default.ensures.others c.in_default.ensures.value c.sets.invariant.alike;
      tabled = step_tabled k c.args.case.now.valid c.sets.path.left.items c.step.new.self.left.items c.in-Some.j st states c.sets.invariant.along
          (weight_at c.sets.table) (weight_at c.put_row-in-Some.new.self) c.set-in-Some.result few number row
          c.put_row-in-Some.ensures.others c.sets.invariant.tabled;
    }

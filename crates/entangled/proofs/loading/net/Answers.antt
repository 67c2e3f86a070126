use Rattle.std.proofs.Common.{◌≡◌, sym, ap, subst, ◌∙◌, map, length, List, Ok, Err, arith, rules}
use Rattle.case_model.specs.Content.{component_at}
use Rattle.case_model.specs.CaseView.{content}
use Rattle.entangled.specs.Loading.{loaded_edges}
use Rattle.field_core.specs.Kind.{Parts}
use Rattle.field_core.specs.Made.{Makes}
use Rattle.field_core.specs.Steps.{in_component}
use Rattle.entangled.proofs.CaseGraphs.{net_opening}
use Rattle.entangled.proofs.LoadSteps.{state_refused}
use Rattle.entangled.proofs.loading.net.Goals as goal

pub returns-in_err-edges : goal.returns-in_err-edges
returns-in_err-edges g c =
    let k = component_at (content c.args.case.now).components c.args.c in
    let m = length c.args.case.now.names in
    let refused = subst (λ n. Makes {A = List Parts} (λ x. x) (Err c.in_err-edges.field-0.0) (in_component c.args.c (loaded_edges n m k.edges)))
    g.met.N.ComponentNet.numbers_are c.in_err-edges.ensures in
    let e : c.from_residual-in_err-edges.result ≡ Err c.in_err-edges.field-0.0 = search rules in
    rw e (grind (arith, state_refused))

pub open-requires-clause-square : goal.open-requires-clause-square
open-requires-clause-square g c =
    let o = net_opening g.N.Value.Number.parts _ c.args.case.now c.args.c _ _ g.met.N.ComponentNet.numbers_are g.met.N.Value.CaseNumber.kind_is
    c.requires.numbers c.requires.component _ _ (ap (map g.N.Value.Number.parts) c.as_slice.ensures ∙ c.in_ok-weights.ensures)
    (c.in_ok-edges.ensures ∙ ap (λ xs. Ok (map g.N.Value.Number.parts xs)) (sym c.deref.ensures.value)) in
    o.square

pub open-requires-clause-sound : goal.open-requires-clause-sound
open-requires-clause-sound g c =
    let o = net_opening g.N.Value.Number.parts _ c.args.case.now c.args.c _ _ g.met.N.ComponentNet.numbers_are g.met.N.Value.CaseNumber.kind_is
    c.requires.numbers c.requires.component _ _ (ap (map g.N.Value.Number.parts) c.as_slice.ensures ∙ c.in_ok-weights.ensures)
    (c.in_ok-edges.ensures ∙ ap (λ xs. Ok (map g.N.Value.Number.parts xs)) (sym c.deref.ensures.value)) in
    o.sound

pub open-requires-clause-constants : goal.open-requires-clause-constants
open-requires-clause-constants g c =
    let o = net_opening g.N.Value.Number.parts _ c.args.case.now c.args.c _ _ g.met.N.ComponentNet.numbers_are g.met.N.Value.CaseNumber.kind_is
    c.requires.numbers c.requires.component _ _ (ap (map g.N.Value.Number.parts) c.as_slice.ensures ∙ c.in_ok-weights.ensures)
    (c.in_ok-edges.ensures ∙ ap (λ xs. Ok (map g.N.Value.Number.parts xs)) (sym c.deref.ensures.value)) in
    o.gathers

pub returns : goal.returns
returns g c =
    let o = net_opening g.N.Value.Number.parts _ c.args.case.now c.args.c _ _ g.met.N.ComponentNet.numbers_are g.met.N.Value.CaseNumber.kind_is
    c.requires.numbers c.requires.component _ _ (ap (map g.N.Value.Number.parts) c.as_slice.ensures ∙ c.in_ok-weights.ensures)
    (c.in_ok-edges.ensures ∙ ap (λ xs. Ok (map g.N.Value.Number.parts xs)) (sym c.deref.ensures.value)) in
    subst (Makes g.N.ComponentNet.state c.open.result) o.state c.open.ensures

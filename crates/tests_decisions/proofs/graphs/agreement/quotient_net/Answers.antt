use Rattle.std.proofs.Common.{refl, sym, ap, ◌∙◌, map, Ok}
use Rattle.case_numbers.specs.Numbers.{in_quotients}
use Rattle.eps_quotient.specs.Quotients.{quotients}
use Rattle.eps_quotient.specs.View.{quotient_parts}
use Rattle.entangled.proofs.CaseGraphs.{net_opening}
use Rattle.tests_decisions.proofs.graphs.agreement.quotient_net.Goals as goal

pub try_new-requires-clause-square : goal.try_new-requires-clause-square
try_new-requires-clause-square c =
    let o = net_opening quotient_parts quotients c.args.case.now 0 in_quotients in_quotients refl refl tt c.requires _ _
    (ap (map quotient_parts) c.as_slice.ensures ∙ c.in_ok-weights.ensures)
    (c.in_ok-edges.ensures ∙ ap (λ xs. Ok (map quotient_parts xs)) (sym c.deref.ensures.value)) in
    o.square

pub try_new-requires-clause-sound : goal.try_new-requires-clause-sound
try_new-requires-clause-sound c =
    let o = net_opening quotient_parts quotients c.args.case.now 0 in_quotients in_quotients refl refl tt c.requires _ _
    (ap (map quotient_parts) c.as_slice.ensures ∙ c.in_ok-weights.ensures)
    (c.in_ok-edges.ensures ∙ ap (λ xs. Ok (map quotient_parts xs)) (sym c.deref.ensures.value)) in
    o.sound

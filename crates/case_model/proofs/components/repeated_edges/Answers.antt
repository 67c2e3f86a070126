use Rattle.std.proofs.Common.{◌≡◌, refl, sym, ap, ◌∙◌, ◌+◌, [], drop, Option, Some, None, is_some, true, false}
use Rattle.case_model.specs.declared.draft_component.DraftComponent.{DraftComponent}
use Rattle.case_model.specs.declared.fault.CaseFault.{CaseFault}
use Rattle.case_model.specs.Sums.{zero_ratio}
use Rattle.case_model.specs.CaseFaults.{◌or◌, first_from, repeated_edge}
use Rattle.case_model.proofs.FirstFaults.{walk_more}
use Rattle.case_model.proofs.components.repeated_edges.Goals as goal

none : DraftComponent
none = record { share = zero_ratio; weights = []; edges = [] }

found : (r rest : Option CaseFault) → is_some r ≡ true → r ≡ (r or rest)
found None rest h = absurd (cc)
found (Some f) rest h = refl

not_found : (r rest : Option CaseFault) → is_some r ≡ false → rest ≡ (r or rest)
not_found None rest h = refl
not_found (Some f) rest h = absurd (cc)

pub returns-then-is_some : goal.returns-then-is_some
returns-then-is_some c =
    let ks = c.args.components.now in
    let i = c.loop-c.c in
    let rest = first_from repeated_edge (i + 1) (drop (i + 1) ks) in
    found c.repeated_edge-fault.result rest (sym c.is_some.ensures ∙ c.if-is_some.true) ∙ ap (λ r. r or rest) (c.repeated_edge-fault.ensures none)
    ∙ sym (walk_more repeated_edge ks i none c.loop-c-test.true) ∙ c.loop-c.invariant

pub loop-c-preserved : goal.loop-c-preserved
loop-c-preserved c =
    let ks = c.args.components.now in
    let i = c.loop-c.c in
    let rest = first_from repeated_edge (i + 1) (drop (i + 1) ks) in
    not_found c.repeated_edge-fault.result rest (sym c.is_some.ensures ∙ c.if-is_some.false) ∙ ap (λ r. r or rest) (c.repeated_edge-fault.ensures none)
    ∙ sym (walk_more repeated_edge ks i none c.loop-c-test.true) ∙ c.loop-c.invariant

use Rattle.std.proofs.Common.{◌≡◌, refl, ap, subst, ◌-◌, ◌*◌, ◌^◌, ◌%◌, [], length, arith}
use Rattle.std.proofs.lemmas.Nat.{one_shl, pow_pos}
use Rattle.case_model.specs.CaseView.{content}
use Rattle.entangled.specs.OpenFaults.{IsOpenFaultOf}
use Rattle.closed_test.proofs.LeftLists.{first_set}
use Rattle.closed_test.proofs.Openings.{wide_opening}
use Rattle.closed_test.proofs.SetTables.{first_wide_set}
use Rattle.closed_test.proofs.weights.opening_fault.Goals as goal

pub returns-in-Wide-clause-fault : goal.returns-in-Wide-clause-fault
returns-in-Wide-clause-fault c =
    let k = content c.args.case.now in
    let m = length k.names in
    let size = c.size.ensures.count in
    let sets : (1 * 2 ^ c.size.result) % 2 ^ 32 ≡ 2 ^ c.size.result = one_shl c.size.result 32 (omega (arith, c.requires.few, size)) in
    let powers : 2 ^ c.size.result ≡ 2 ^ m = ap (λ n. 2 ^ n) size in
    let full = first_set m ((1 * 2 ^ c.size.result) % 2 ^ 32 - 1) (omega (arith, sets, powers, pow_pos m)) [] refl in
    (c.requires.few, first_wide_set k [] _ c.in-Wide.wide full.number (wide_opening k c.in-Wide.wide (subst (IsOpenFaultOf k) c.in-Wide.is c.requires.fault)))

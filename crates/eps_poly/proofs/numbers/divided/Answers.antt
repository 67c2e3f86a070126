use Rattle.std.proofs.Common.{FitsSigned, rules, ◌≡◌, ◌∙◌, sym, ap, Some, None, pos, ◌*ℤ◌, int_div, int_rem, to_z, of_z}
use Rattle.std.specs.Int.{w128}
use Rattle.std.proofs.lemmas.Int.{to_z-of_z}
use Rattle.eps_poly.proofs.IntegerQuotients.{int_div_exact, int_rem_exact, no_remainder}
use Rattle.eps_poly.proofs.numbers.divided.Goals as goal
use Rattle.field_core.proofs.Results.{same_some}

pub returns-then-over-under-eq0 : goal.returns-then-over-under-eq0
returns-then-over-under-eq0 c x =
    let a : FitsSigned w128 c.value-over.result = search rules in
    let b : FitsSigned w128 c.value-under.result = search rules in
    let f : FitsSigned w128 (int_div c.value-over.result c.value-under.result) = search rules in
    let g : FitsSigned w128 (int_rem c.value-over.result c.value-under.result) = search rules in
    let is : c.new.result ≡ int_div c.value-over.result c.value-under.result = simp to_z-of_z at c.new.ensures in
    let none : of_z w128 (int_rem c.value-over.result c.value-under.result) ≡ 0 = simp to_z-of_z at c.if-over-under-eq0.true in
    let rest : int_rem c.value-over.result c.value-under.result ≡ pos 0 = sym (to_z-of_z w128 _ g) ∙ ap (to_z w128) none in
    let found : c.new.result *ℤ c.args.by ≡ c.args.product =
    rw (is, ← c.value-under.ensures.value) (no_remainder c.value-over.result c.value-under.result rest ∙ c.value-over.ensures.value) in
    let forward : Some c.new.result ≡ Some x → x *ℤ c.args.by ≡ c.args.product = λ e. rw (← same_some c.new.result x e) found in
    let back : x *ℤ c.args.by ≡ c.args.product → Some c.new.result ≡ Some x =
    λ e. ap Some (is ∙ rw (c.value-over.ensures.value, c.value-under.ensures.value, ← e) (int_div_exact x c.args.by c.requires)) in
    (forward, back)

pub returns-else-over-under-eq0 : goal.returns-else-over-under-eq0
returns-else-over-under-eq0 c x =
    let a : FitsSigned w128 c.value-over.result = search rules in
    let b : FitsSigned w128 c.value-under.result = search rules in
    let some : of_z w128 (int_rem c.value-over.result c.value-under.result) ≡ 0 → ⊥ = simp to_z-of_z at c.if-over-under-eq0.false in
    let forward : None ≡ Some x → x *ℤ c.args.by ≡ c.args.product = λ e. cc in
    let back : x *ℤ c.args.by ≡ c.args.product → None ≡ Some x = λ e.
    let none : int_rem c.value-over.result c.value-under.result ≡ pos 0 =
    rw (c.value-over.ensures.value, c.value-under.ensures.value, ← e) (int_rem_exact x c.args.by c.requires) in
    absurd (some (ap (of_z w128) none)) in
    (forward, back)

use Rattle.std.proofs.Common.{◌<◌, ◌^◌, ◌∙◌, ap, sym, rules, FitsSigned, set, unsigned_abs}
use Rattle.std.specs.Int.{w128}
use Rattle.std.proofs.lemmas.Int.{to_z-of_z}
use Rattle.eps_poly.specs.Written.{count_to_last}
use Rattle.eps_poly.proofs.Validity.{set_valid}
use Rattle.eps_poly.proofs.poly.EpsPoly.put.Goals as goal

pub invariant_of-self : goal.invariant_of-self
invariant_of-self c =
    let fits : FitsSigned w128 c.value.result = search rules in
    let small : unsigned_abs c.args.c < 2 ^ 127 = rw (← c.value.ensures.value) c.value.ensures.size in
    rw (to_z-of_z w128 c.value.result fits, c.value.ensures.value) (
      set_valid c.self.inside.entries c.args.power c.args.c c.self.invariant.0 c.requires small,
      c.used_with-used.ensures
          ∙ ap (λ p. count_to_last (set p c.args.power c.args.c)) (sym c.self.view_is),
    )

pub returns : goal.returns
returns c =
    let fits : FitsSigned w128 c.value.result = search rules in
    rw (to_z-of_z w128 c.value.result fits, c.value.ensures.value) (ap (λ p. set p c.args.power c.args.c) c.self.view_is)

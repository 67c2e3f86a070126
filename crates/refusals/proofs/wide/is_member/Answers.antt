use Rattle.std.proofs.Common.{◌≡◌, ◌∙◌, sym, false, nat_lt, arith}
use Rattle.std.proofs.lemmas.Bool.Decides.{nat_tests}
use Rattle.field_core.proofs.Members.{members_above}
use Rattle.refusals.proofs.wide.is_member.Goals as goal

pub returns-else-k-lt32 : goal.returns-else-k-lt32
returns-else-k-lt32 c =
    let past : nat_lt c.args.k 32 ≡ false = grind (arith, nat_tests, c.if-k-lt32.false) in
    past ∙ sym (members_above 32 c.args.set c.args.k (omega (arith, c.ranges.set.fits)) (omega (arith, c.if-k-lt32.false)))

use Rattle.std.proofs.Common.{◌≡◌, ◌*◌, ◌^◌, ◌%◌, arith}
use Rattle.std.proofs.lemmas.Nat.{one_shl, pow_pos}
use Rattle.closed_test.proofs.LeftLists.{first_set}
use Rattle.closed_test.proofs.path.Path.new.Goals as goal

pub returns-clause-path : goal.returns-clause-path
returns-clause-path c =
    let sets : (1 * 2 ^ c.args.size) % 2 ^ 32 ≡ 2 ^ c.args.size = one_shl c.args.size 32 (omega (arith, c.requires.few)) in
    let positive = pow_pos c.args.size in
    first_set c.args.size _ (omega (arith, sets, positive)) c.in_ok-left.left.items c.in_ok-left.ensures.items

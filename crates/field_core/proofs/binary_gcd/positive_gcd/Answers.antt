use Rattle.std.proofs.Common.{rules}
use Rattle.field_core.proofs.Stein.{odd_part, gcd_shifted}
use Rattle.field_core.proofs.binary_gcd.positive_gcd.Goals as goal

pub odd_gcd-requires-clause-a : goal.odd_gcd-requires-clause-a
odd_gcd-requires-clause-a c = (odd_part c.args.a c.requires.a (search rules)).is_odd

pub odd_gcd-requires-clause-b : goal.odd_gcd-requires-clause-b
odd_gcd-requires-clause-b c = (odd_part c.args.b c.requires.b (search rules)).is_odd

pub returns : goal.returns
returns c =
    gcd_shifted c.args.a c.args.b _ _ _ _ c.odd_gcd.result c.min.result c.requires.a (search rules) (odd_part c.args.a c.requires.a (search rules))
    (odd_part c.args.b c.requires.b (search rules)) c.odd_gcd.ensures c.min.ensures

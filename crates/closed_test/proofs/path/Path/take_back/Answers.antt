use Rattle.std.proofs.Common.{arith}
use Rattle.closed_test.proofs.LeftLists.{within_sixteen, back_below, back_outside, back_set}
use Rattle.closed_test.proofs.path.Path.take_back.Goals as goal

pub added-self-requires-clause-set : goal.added-self-requires-clause-set
added-self-requires-clause-set c = let p = c.args.self.now in within_sixteen p.size p.set p.left.items c.requires p.few

pub added-self-requires-clause-k : goal.added-self-requires-clause-k
added-self-requires-clause-k c = let p = c.args.self.now in omega
    (arith, back_below p.size p.set p.left.items c.requires c.in-Some.last c.pop.new.self.items c.in-Some.ensures.items, p.few)

pub added-self-requires-clause-outside : goal.added-self-requires-clause-outside
added-self-requires-clause-outside c = let p = c.args.self.now in back_outside p.size p.set p.left.items c.requires c.in-Some.last c.pop.new.self.items
    c.in-Some.ensures.items

pub returns-in-Some-clause-path : goal.returns-in-Some-clause-path
returns-in-Some-clause-path c = let p = c.args.self.now in back_set p.size p.set p.left.items c.requires c.in-Some.last c.pop.new.self.items
    c.in-Some.ensures.items c.added-self.result c.added-self.ensures.number

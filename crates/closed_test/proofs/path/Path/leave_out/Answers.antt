use Rattle.std.proofs.Common.{arith}
use Rattle.closed_test.proofs.LeftLists.{within_sixteen, out_below, out_member, out_room, out_set}
use Rattle.closed_test.proofs.path.Path.leave_out.Goals as goal

pub dropped-self-requires-clause-set : goal.dropped-self-requires-clause-set
dropped-self-requires-clause-set c = let p = c.args.self.now in within_sixteen p.size p.set p.left.items c.requires.path p.few

pub dropped-self-requires-clause-k : goal.dropped-self-requires-clause-k
dropped-self-requires-clause-k c = let p = c.args.self.now in omega
    (arith, out_below p.size p.set p.left.items c.requires.path c.args.k c.requires.after, p.few)

pub dropped-self-requires-clause-member : goal.dropped-self-requires-clause-member
dropped-self-requires-clause-member c = let p = c.args.self.now in out_member p.size p.set p.left.items c.requires.path c.args.k c.requires.after

pub push_reserved-requires : goal.push_reserved-requires
push_reserved-requires c = let p = c.args.self.now in omega
    (arith, out_room p.size p.set p.left.items c.requires.path c.args.k c.requires.after, p.room, p.left.ok.0)

pub returns-clause-path : goal.returns-clause-path
returns-clause-path c = let p = c.args.self.now in out_set p.size p.set p.left.items c.requires.path c.args.k c.dropped-self.result _ c.requires.after
    c.dropped-self.ensures.number c.push_reserved.ensures.items

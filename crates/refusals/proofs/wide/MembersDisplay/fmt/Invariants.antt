use Rattle.std.proofs.Common.{take}
use Rattle.std.specs.Fmt.{HasWritten, IsPlainFormatter}
use Rattle.refusals.specs.WideRefusal.{names_of_members}
use Rattle.refusals.proofs.wide.MembersDisplay.fmt.Given as goal

-- the names of the first members are written
abbrev pub invariant-loop-k : goal.invariant-loop-k
invariant-loop-k g l =
    IsPlainFormatter l.initial.f → HasWritten g.W.Write.write_str_gives l.initial.f (names_of_members l.self.set 0 (take l.k l.self.names.0.now)) l.f

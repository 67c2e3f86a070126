use Rattle.std.proofs.Common.{◌≡◌, ◌++◌, drop}
use Rattle.report.specs.EachText.{each}
use Rattle.report.proofs.each.put_each.Given as goal

-- what is put, with the texts of the items that are left, is all
abbrev pub invariant-loop-place : goal.invariant-loop-place
invariant-loop-place g l = l.text ++ each (g.P.Printer.shown l.by) l.place (drop l.place l.items) ≡ l.fn.text ++ each (g.P.Printer.shown l.by) 0 l.items

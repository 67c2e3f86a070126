use Rattle.std.proofs.Common.{◌≡◌, ℕ, Result, Ok, map, take}
use Rattle.field_core.specs.declared.place.Wide.{Wide}
use Rattle.field_core.specs.Kind.{Parts, ok_map}
use Rattle.evidence.specs.FlowTables.{put_each}
use Rattle.evidence.proofs.rows.put_each.Given as goal

abbrev pub invariant-loop-r : goal.invariant-loop-r
invariant-loop-r g l =
    (f : ℕ → Result Parts Wide) → ((r : ℕ) (x : Result g.row.F.Denot Wide) → goal.S-post g l.step r x → ok_map g.F.Number.parts x ≡ f r)
    → put_each f (take l.r-index l.places) (map g.F.Number.parts l.fn.row) ≡ Ok (map g.F.Number.parts l.row)

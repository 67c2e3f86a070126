use Rattle.std.proofs.Common.{◌≡◌, ◌<◌, ℕ, Ok}
use Rattle.field_core.specs.Kind.{Parts}
use Rattle.evidence_check.specs.WrittenCheck.{added}
use Rattle.evidence_check.proofs.sums.added.Given as goal

abbrev pub invariant-loop-e : goal.invariant-loop-e
invariant-loop-e g l =
    (f h : ℕ → Parts) → ((e : ℕ) (v : g.row.F.Denot) → e < l.count → goal.X-post g l.x e v → g.F.Number.parts v ≡ f e)
    → ((e : ℕ) (v : g.row.F.Denot) → e < l.count → goal.Y-post g l.y e v → g.F.Number.parts v ≡ h e)
    → added g.F.Number.kind (λ _. l.component) l.place (g.F.Number.parts l.fn.start) f h l.e ≡ Ok (g.F.Number.parts l.sum)

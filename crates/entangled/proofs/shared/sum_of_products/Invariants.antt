use Rattle.std.proofs.Common.{◌≡◌, ◌<◌, ℕ, Ok, length}
use Rattle.field_core.specs.Terms.{Terms}
use Rattle.field_core.specs.View.{terms}
use Rattle.field_core.specs.declared.ratio.Ratio.{Ratio}
use Rattle.entangled.specs.Shares.{written_products}
use Rattle.entangled.proofs.shared.sum_of_products.Given as goal

abbrev pub invariant-loop-c : goal.invariant-loop-c
invariant-loop-c g l = (limits : ℕ → Terms) → ((c : ℕ) (x : Ratio) → c < length l.shares → goal.L-post g l.limit c x → terms x ≡ limits c)
    → written_products l.shares limits l.c ≡ Ok (terms l.sum)

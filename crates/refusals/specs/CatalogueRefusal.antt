-- Lines of sizes and seeds past their limits.
use Rattle.std.specs.Prelude.{ℕ, ◌++◌, codes}
use Rattle.std.specs.Fmt.{decimal}
use Rattle.answers.specs.declared.refusal.Refusal.{Refusal}
use Rattle.refusals.specs.LinePieces.{past_limit}

-- a named graph can't have this size
unfoldable pub size_refusal : ℕ → Refusal
size_refusal n = past_limit (codes "size " ++ decimal n)

-- a sample can't have this seed
unfoldable pub seed_refusal : ℕ → Refusal
seed_refusal n = past_limit (codes "seed " ++ decimal n)

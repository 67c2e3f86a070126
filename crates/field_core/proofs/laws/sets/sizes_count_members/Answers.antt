use Rattle.std.proofs.Common.{◌≡◌, ◌∙◌, ℕ, suc, ◌+◌, arith}
use Rattle.field_core.proofs.Sizes.{size_dropped, size_added, size_whole, size_subset, missing}
use Rattle.field_core.proofs.laws.sets.sizes_count_members.Goals as goal

one_more : (n : ℕ) → suc n ≡ n + 1
one_more n = omega arith

pub returns-clause-dropping : goal.returns-clause-dropping
returns-clause-dropping c = λ m k I p. let e = size_dropped m k I p in omega (arith, e)

pub returns-clause-adding : goal.returns-clause-adding
returns-clause-adding c = λ m k I p f. size_added m k I p f ∙ one_more _

pub returns-clause-whole : goal.returns-clause-whole
returns-clause-whole c = size_whole

pub returns-clause-subsets : goal.returns-clause-subsets
returns-clause-subsets c = λ m J I h. (size_subset m J I h, missing m J I h)

-- Looks that are added.
use Rattle.std.proofs.Common.{◌≡◌, refl, ap, List, [], ◌∷◌, ◌++◌}
use Rattle.std.specs.declared.option.Option.{Option}
use Rattle.std.specs.declared.option.Option.TheVariants.{Some, None}
use Rattle.std.proofs.lemmas.List.{append-nil, append_assoc}
use Rattle.graph_io.specs.declared.keeper.Look.{Look}
use Rattle.graph_io.specs.Keeping.{with_look}
use Rattle.study_cli.specs.AnswerView.{with_looks}

pub with_none : (kept : Option (List Look)) → with_looks kept [] ≡ kept
with_none None = refl
with_none (Some looks) = ap Some (append-nil looks)

pub with_one : (kept : Option (List Look)) (l : Look) → with_look kept l ≡ with_looks kept (l ∷ [])
with_one None l = refl
with_one (Some looks) l = refl

pub with_more : (kept : Option (List Look)) (xs ys : List Look) → with_looks (with_looks kept xs) ys ≡ with_looks kept (xs ++ ys)
with_more None xs ys = refl
with_more (Some looks) xs ys = ap Some (append_assoc looks xs ys)

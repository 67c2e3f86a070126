use Rattle.std.proofs.Common.{◌≡◌, ℕ, List, take}
use Rattle.case_model.specs.Names.{position_of}
use Rattle.case_model.specs.NameIndexView.{place_of}
use Rattle.case_model.proofs.name_index.NameIndex.build.Given as goal

abbrev pub invariant-loop-i : goal.invariant-loop-i
invariant-loop-i l = (name : List ℕ) → place_of l.index name ≡ position_of name (take l.i l.names)

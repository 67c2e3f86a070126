-- Indexes of names as contracts see them.
use Rattle.std.specs.Prelude.{ℕ, List}
use Rattle.std.specs.declared.option.Option.{Option}
use Rattle.std.specs.Str.{bytes_eq}
use Rattle.indexmap.specs.IndexMap.{get_by}
use Rattle.case_model.specs.declared.name_index.NameIndex.{NameIndex}

-- the position that an index has for a name
abbrev pub place_of : NameIndex → List ℕ → Option ℕ
place_of index name = get_by (λ k. bytes_eq name k.items) index.first

-- Tables of answers as contracts see them.
use Rattle.std.specs.Prelude.{ℕ, Bool, false, get_or}
use Rattle.case_model.specs.declared.set_table.SetTable.{SetTable}

-- the number of hypotheses that a table is for
abbrev pub table_size : SetTable → ℕ
table_size t = t.size

-- the answer of a table for the set of a number, and false past its end
unfoldable pub answer_of : SetTable → ℕ → Bool
answer_of t n = get_or t.answers n false

-- The statuses of rows.
use Rattle.std.specs.Prelude.{ℕ}
use Rattle.trial_rows.specs.declared.row_end.RowEnd.{RowEnd}
use Rattle.trial_rows.specs.declared.row_end.RowEnd.TheVariants.{Decided, Unread, Wide}

-- the status of a row that ends so
abbrev pub end_code : RowEnd → ℕ
end_code Decided = 0
end_code Unread = 3
end_code Wide = 5

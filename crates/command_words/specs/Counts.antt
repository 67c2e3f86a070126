-- Whole numbers of options, as words spell them.
use Rattle.std.specs.Prelude.{ℕ, ◌&&◌, ◌^◌, Bool, List, length, nat_lt, nat_le, Option, Some, None, if◌then◌else◌}
use Rattle.std.specs.Char.{is_ascii_digit}
use Rattle.std.specs.List.{list_all}
use Rattle.std.specs.Str.Parse.{digits_value}

-- 1 to 20 digits
abbrev pub is_short : List ℕ → Bool
is_short text = nat_lt 0 (length text) && (nat_le (length text) 20 && list_all is_ascii_digit text)

-- the number below 2^64 that a text of 1 to 20 digits spells
unfoldable pub count_of : List ℕ → Option ℕ
count_of text = if is_short text && nat_lt (digits_value 10 text) (2 ^ 64) then Some (digits_value 10 text) else None

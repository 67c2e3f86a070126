-- Tests of the parts of a draft.
use Rattle.std.specs.Prelude.{◌≡◌, ◌==◌, ◌||◌, ◌&&◌, not, ◌^◌, ℕ, Bool, true, List, length, nat_lt, nat_le, unsigned_abs}
use Rattle.std.specs.List.{list_all}
use Rattle.std.specs.Option.{option_map_or}
use Rattle.std.specs.Char.{is_ascii_alphanumeric}
use Rattle.field_core.specs.Number.{Number}
use Rattle.field_core.specs.Arithmetic.{number_zero, number_one}
use Rattle.field_core.specs.NumberField.{number_field}
use Rattle.field_core.specs.View.{terms}
use Rattle.field_core.specs.declared.ratio.Ratio.{Ratio}
use Rattle.fraction.specs.Tests.{is_within}
use Rattle.fraction.specs.View.{number_of}
use Rattle.case_model.specs.declared.draft.Draft.{Draft}
use Rattle.case_model.specs.declared.draft_edge.DraftEdge.{DraftEdge}
use Rattle.case_model.specs.declared.draft_stages.Arrival.{Arrival}

-- whether x is at most y
abbrev pub at_most : Number → Number → Bool
at_most = number_field.at_most

-- whether a number is from 0 to 1
abbrev pub is_unit : Number → Bool
is_unit x = at_most number_zero x && at_most x number_one

-- whether a byte is an ASCII letter or digit, '_', '.' or '-'
abbrev pub is_name_byte : ℕ → Bool
is_name_byte b = is_ascii_alphanumeric b || b == 95 || b == 46 || b == 45

-- whether a name has 1 to 32 bytes, all of them such
unfoldable pub is_name : List ℕ → Bool
is_name name = nat_lt 0 (length name) && nat_le (length name) 32 && list_all is_name_byte name

-- whether the parts of a level are at most 10,000
abbrev pub is_short_level : Ratio → Bool
is_short_level x = is_within 10000 (terms x)

-- whether the parts of a share, a weight or a coefficient are at most 10^18
abbrev pub is_short : Ratio → Bool
is_short x = is_within (10 ^ 18) (terms x)

-- whether the denominator of a p-value is at most 10^30
abbrev pub is_short_p_value : Ratio → Bool
is_short_p_value x = nat_le (unsigned_abs x.den) (10 ^ 30)

-- whether a fraction is above 0 and at most 1
abbrev pub is_level_range : Ratio → Bool
is_level_range x = not (at_most (number_of x) number_zero) && at_most (number_of x) number_one

-- whether a fraction can be a level: it has parts of at most 10,000, is above 0 and at most 1
unfoldable pub is_level : Ratio → Bool
is_level x = is_short_level x && is_level_range x

-- whether a fraction can be a p-value: it has a denominator of at most 10^30 and is from 0 to 1
unfoldable pub is_p_value : Ratio → Bool
is_p_value x = is_short_p_value x && is_unit (number_of x)

-- a p-value for each of `m` hypotheses
pub record ArePValues (m : ℕ) (ps : List Ratio) : Type 0 where
  pub count : length ps ≡ m
  pub each : list_all is_p_value ps ≡ true

-- whether the edge goes from `i` to `j`
abbrev pub has_ends : ℕ → ℕ → DraftEdge → Bool
has_ends i j e = e.from == i && e.to == j

-- whether the edge goes from one of `m` hypotheses to one of them
abbrev pub goes_between : ℕ → DraftEdge → Bool
goes_between m e = nat_lt e.from m && nat_lt e.to m

-- whether each edge goes from a hypothesis to a hypothesis
unfoldable pub have_known_ends : Draft → Bool
have_known_ends d = list_all (λ k. list_all (goes_between (length d.names)) k.edges) d.components

-- whether an arrival is of the hypothesis `i` at the stage `t`
abbrev pub is_of : ℕ → ℕ → Arrival → Bool
is_of i t a = a.hypothesis == i && a.stage == t

-- whether `t` is one of `count` stages, counted from 1
abbrev pub is_stage : ℕ → ℕ → Bool
is_stage count t = nat_le 1 t && nat_le t count

-- whether an arrival is of one of `m` hypotheses
abbrev pub arrives_among : ℕ → Arrival → Bool
arrives_among m a = nat_lt a.hypothesis m

-- whether each p-value that arrived is of a hypothesis
unfoldable pub have_known_arrivals : Draft → Bool
have_known_arrivals d = option_map_or (λ s. list_all (arrives_among (length d.names)) s.arrivals) d.stages true

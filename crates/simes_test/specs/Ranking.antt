-- Hypotheses as they are sorted. (No public contract cites this.)
use Rattle.std.specs.Prelude.{ℕ, List, map}
use Rattle.std.specs.List.{enumerate_from}
use Rattle.field_core.specs.declared.ratio.Ratio.{Ratio}
use Rattle.simes_test.specs.declared.ranking.Ranked.{Ranked}

-- the position of a hypothesis
abbrev pub position_of : Ranked → ℕ
position_of r = r.position

-- a hypothesis from its position and its p-value
abbrev pub ranked_of : ℕ × Ratio → Ranked
ranked_of x = record { p_value = x.1; position = x.0 }

-- all hypotheses by position
abbrev pub by_position : List Ratio → List Ranked
by_position ps = map ranked_of (enumerate_from 0 ps)

-- The written run of a case: its opening, and removals.
use Rattle.std.specs.Prelude.{ℕ, List, Bool, map, length, Result}
use Rattle.field_core.specs.Terms.{Terms}
use Rattle.field_core.specs.declared.ratio.Ratio.{Ratio}
use Rattle.field_core.specs.Kind.{ok_map}
use Rattle.field_core.specs.Steps.{◌>>=◌}
use Rattle.field_core.specs.declared.place.WideAt.{WideAt}
use Rattle.case_model.specs.Content.{Content}
use Rattle.case_numbers.specs.Numbers.{Numbers, numbers_of, kind_of}
use Rattle.entangled.specs.Bundled.{Bundled, size, is_live, level, written_share, opened, removed}
use Rattle.entangled.specs.States.{state_in, graph_in, removal_in}
use Rattle.entangled.specs.Loading.{loaded_states}

-- the numbers that a case is run in, and the states of the nets of its components, their shares and the levels
pub data CaseState : Type 0 where
  state_of : (n : Numbers) → Bundled (state_in n) → CaseState

-- the written opening of a case in these numbers: its components are loaded, and then the levels are computed
unfoldable pub opening_in : (n : Numbers) → Content → Result (Bundled (state_in n)) WideAt
opening_in n c = do
  states ← loaded_states n (length c.names) c.components
  opened (kind_of n) (graph_in n) states (map (λ k. k.share) c.components)

-- the written opening of a case
unfoldable pub case_opening : Content → Result CaseState WideAt
case_opening c = ok_map (state_of (numbers_of c)) (opening_in (numbers_of c) c)

-- the written removal of `j` from all components
unfoldable pub case_removal : CaseState → ℕ → Result CaseState WideAt
case_removal (state_of n b) j = ok_map (state_of n) (removed (kind_of n) (graph_in n) (removal_in n) b j)

-- the number of hypotheses, removed or not
abbrev pub case_size : CaseState → ℕ
case_size (state_of n b) = size (graph_in n) b

-- whether `k` remains
abbrev pub is_live_in_case : CaseState → ℕ → Bool
is_live_in_case (state_of n b) k = is_live (graph_in n) b k

-- the level of `k`
abbrev pub case_level : CaseState → ℕ → Terms
case_level (state_of n b) k = level b k

-- the numbers that a case is run in
abbrev pub case_numbers : CaseState → Numbers
case_numbers (state_of n b) = n

-- the shares of the components
abbrev pub case_shares : CaseState → List Ratio
case_shares (state_of n b) = b.shares

-- the shared sum of `k`
abbrev pub case_share : CaseState → ℕ → Result Terms WideAt
case_share (state_of n b) k = written_share (kind_of n) (graph_in n) b.states b.shares k

-- What is known of the components of a case.
use Rattle.std.proofs.Common.{◌≡◌, refl, ℕ, ◌+◌, ◌*◌, ◌<◌, ◌≤◌, Bool, true, false, cond, length, get_or, arith}
use Rattle.std.specs.List.{list_all}
use Rattle.std.proofs.lemmas.Nat.{mul-add-lt}
use Rattle.field_core.specs.NumberField.{number_field}
use Rattle.field_core.specs.Graph.{IsValid}
use Rattle.case_model.specs.declared.component.Component.{Component}
use Rattle.case_model.specs.Entries.{is_plain_entry, no_edge}
use Rattle.case_model.specs.Content.{Content, component_at, empty_component, entangled, graph_of, is_plain}
use Rattle.case_model.specs.Validity.{IsValidContent}
use Rattle.case_model.proofs.Holding.{all_at}
use Rattle.case_model.proofs.ValidContents.{shape, valid_content}
use Rattle.case_numbers.specs.Numbers.{Numbers, in_fractions, in_quotients, numbers_of, CanRunIn}
use Rattle.case_numbers.proofs.LoadedNumbers.{CanLoad}

-- a component of a case of `m` hypotheses
pub record IsComponent (m : ℕ) (k : Component) : Type 0 where
  pub weight_count : length k.weights ≡ m
  pub edge_count : length k.edges ≡ m * m
  pub few : m ≤ 64
  pub valid : IsValid number_field m (graph_of m k)

pub is_component : (c : Content) → IsValidContent c → (i : ℕ) → i < length c.components → IsComponent (length c.names) (component_at c.components i)
unfolding entangled
is_component c V i p =
    let H = shape c V in
    record { weight_count = H.weights i p; edge_count = H.edges i p; few = H.few; valid = (valid_content c V).graph i p }

-- the place of an edge in its table
pub place : (m : ℕ) (k : Component) → IsComponent m k → (l j : ℕ) → l < m → j < m → l * m + j < length k.edges
place m k C l j p q = let n = C.edge_count in omega (arith, mul-add-lt l m j m p q)

-- ---- the numbers of a case can hold its edges

can_run_by : (c : Content) (b : Bool) → is_plain c ≡ b → CanRunIn (cond b in_fractions in_quotients) c
can_run_by c true e = e
can_run_by c false e = tt

-- each case can be run in its numbers
pub can_run : (c : Content) → CanRunIn (numbers_of c) c
unfolding numbers_of
can_run c = can_run_by c (is_plain c) refl

plain_edges : (c : Content) → is_plain c ≡ true → (i : ℕ) → i < length c.components
    → list_all is_plain_entry (component_at c.components i).edges ≡ true
unfolding is_plain
plain_edges c h i p = all_at (λ k. list_all is_plain_entry k.edges) c.components i empty_component h p

-- each edge of a component can be loaded
abbrev pub CanLoadEach : Numbers → Component → Type 0
CanLoadEach n k = (i : ℕ) → i < length k.edges → CanLoad n (get_or k.edges i no_edge)

pub can_load : (n : Numbers) (c : Content) → CanRunIn n c → (i : ℕ) → i < length c.components → CanLoadEach n (component_at c.components i)
can_load in_fractions c h i p j q = all_at is_plain_entry (component_at c.components i).edges j no_edge (plain_edges c h i p) q
can_load in_quotients c h i p j q = tt

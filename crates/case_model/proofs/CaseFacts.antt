-- What is known of a case.
use Rattle.std.proofs.Common.{◌≡◌, ap, ◌∙◌, ℕ, ◌*◌, ◌<◌, ◌≤◌, length, get_or, true}
use Rattle.std.proofs.lemmas.List.{get_or_default}
use Rattle.case_model.specs.EntangledGraph.{IsValidEntangled}
use Rattle.case_model.specs.Draft.{is_level, ArePValues}
use Rattle.case_model.specs.Content.{AreStages, IfStaged, IfSingle, component_at, empty_component, entangled}
use Rattle.case_model.specs.CaseView.{content}
use Rattle.case_model.specs.declared.component.Component.{Component}
use Rattle.case_model.specs.declared.case.Case.{Case}
use Rattle.case_model.proofs.StageShapes.{stage_shape}
use Rattle.case_model.proofs.ValidContents.{HasShape, shape, valid_content}

-- the shape of what a case holds
pub case_shape : (c : Case) → HasShape (content c)
case_shape c = shape (content c) c.valid

-- the entangled graph of a case is valid
pub case_graph : (c : Case) → IsValidEntangled (entangled (content c))
case_graph c = valid_content (content c) c.valid

-- what is read of a case
pub names_some : (c : Case) → 1 ≤ length c.names
names_some c = (case_shape c).some

pub names_few : (c : Case) → length c.names ≤ 64
names_few c = (case_shape c).few

pub components_some : (c : Case) → 1 ≤ length c.components
components_some c = (case_shape c).some_components

pub components_few : (c : Case) → length c.components ≤ 8
components_few c = (case_shape c).few_components

pub level_is : (c : Case) → is_level c.alpha ≡ true
level_is c = (case_shape c).level

pub inputs_are : (c : Case) → IfSingle c.inputs (ArePValues (length c.names))
inputs_are c = (case_shape c).p_values

pub stages_are : (c : Case) → IfStaged c.inputs (AreStages (length c.names))
stages_are c = stage_shape (content c) c.valid

pub component_is : (c : Case) (n : ℕ) (k : Component) → n < length c.components → get_or c.components n k ≡ component_at c.components n
component_is c n k h = get_or_default c.components n k empty_component h

pub weights_are : (c : Case) (n : ℕ) (k : Component) → n < length c.components → length (get_or c.components n k).weights ≡ length c.names
weights_are c n k h = ap (λ k. length k.weights) (component_is c n k h) ∙ (case_shape c).weights n h

pub edges_are : (c : Case) (n : ℕ) (k : Component) → n < length c.components → length (get_or c.components n k).edges ≡ length c.names * length c.names
edges_are c n k h = ap (λ k. length k.edges) (component_is c n k h) ∙ (case_shape c).edges n h

pub ruleset facts = (names_some, names_few, components_some, components_few, level_is, inputs_are, stages_are, component_is, weights_are, edges_are)

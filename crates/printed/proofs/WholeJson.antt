-- What JSON says has edges with a coefficient for each power.
use Rattle.std.proofs.Common.{◌≡◌, sym, ap, ◌∙◌, ℕ, Bool, true, false, List, [], Option, Some, None, Ok, ℤ, ◌^◌}
use Rattle.std.specs.List.{list_all}
use Rattle.std.specs.Prelude.{codes, nat_le, unsigned_abs, ok_or}
use Rattle.field_core.proofs.Results.{came_from, same_value, value_told}
use Rattle.field_core.specs.declared.ratio.Ratio.{Ratio}
use Rattle.serde_json.specs.Data.{Data, string, number}
use Rattle.serde_json.specs.Find.{get, as_integer}
use Rattle.case_model.specs.declared.draft.Draft.{Draft}
use Rattle.case_model.specs.Entries.{is_whole_entry}
use Rattle.case_json.specs.Answers.{with_keys, at, at_or, list_of}
use Rattle.case_json.specs.Document.{edge_keys, component_keys, document_keys, one, number_of, place_of, text_of, hypothesis_of, weight_of, whole_entry}
use Rattle.case_json.specs.Document.{short_weight, whole_weight, edge_of, component_of, some_stages, IsDraft}
use Rattle.case_json.specs.Reading.{SaysDraft}
use Rattle.case_json.specs.WholeRatios.{whole_ratio}
use Rattle.case_json.specs.declared.fault.JsonFault.TheVariants.{NotWhole, Expr}
use Rattle.case_json.proofs.Drafts.{Tested, in_part, all_in}
use Rattle.entries.specs.Entries.{entry_of}
use Rattle.entries.proofs.Entries.{entry_is}
use Rattle.printed.proofs.WholeDrafts.{whole_edge, whole_component, IsWhole}
use Rattle.printed.proofs.WholeValues.{entry_whole}

-- ---- weights

short_whole : (b : Bool) (x : Ratio) (entry : List Ratio) → short_weight b x ≡ Ok entry → is_whole_entry entry ≡ true
short_whole true x entry e = ap is_whole_entry (sym (same_value (whole_entry x) entry e))
short_whole false x entry e = absurd (cc e)

integer_whole : (o : Option ℤ) (entry : List Ratio) → whole_weight o ≡ Ok entry → is_whole_entry entry ≡ true
integer_whole None entry e = absurd (cc e)
integer_whole (Some z) entry e =
    let x = came_from (ok_or (whole_ratio z) (NotWhole [])) _ entry e in
    short_whole (nat_le (unsigned_abs z) (10 ^ 18)) x.0 entry x.2

weight_whole : Tested weight_of is_whole_entry
weight_whole (string s) entry e = entry_whole s entry (entry_is s entry (value_told (Expr []) (entry_of s) entry e))
weight_whole (number n) entry e = integer_whole (as_integer n) entry e
weight_whole other entry e = absurd (cc e)

-- ---- edges and components

module _ (names : List (List ℕ)) where
  edge_whole : Tested (edge_of names) whole_edge
  edge_whole d edge e =
      let keys = came_from (with_keys edge_keys d) _ edge e in
      let from = came_from (at (codes "from") (hypothesis_of names) d) _ edge keys.2 in
      let to = came_from (at (codes "to") (hypothesis_of names) d) _ edge from.2 in
      let weight = came_from (at (codes "weight") weight_of d) _ edge to.2 in
      ap whole_edge (sym (same_value (record { from = from.0; to = to.0; entry = weight.0 }) edge weight.2))
      ∙ in_part weight_of is_whole_entry weight_whole (codes "weight") (get (codes "weight") d) weight.0 weight.1

  component_whole : Tested (component_of names) whole_component
  component_whole d component e =
      let keys = came_from (with_keys component_keys d) _ component e in
      let share = came_from (at_or one (codes "share") number_of d) _ component keys.2 in
      let weights = came_from (at (codes "weights") (list_of number_of) d) _ component share.2 in
      let edges = came_from (at (codes "edges") (list_of (edge_of names)) d) _ component weights.2 in
      ap whole_component (sym (same_value (record { share = share.0; weights = weights.0; edges = edges.0 }) component edges.2))
      ∙ in_part (list_of (edge_of names)) (list_all whole_edge) (all_in (edge_of names) whole_edge edge_whole)
      (codes "edges") (get (codes "edges") d) edges.0 edges.1

document_whole : (value : Data) (d : Draft) → IsDraft value d → IsWhole d
document_whole value d e =
    let keys = came_from (with_keys document_keys value) _ d e in
    let alpha = came_from (at (codes "alpha") number_of value) _ d keys.2 in
    let names = came_from (at (codes "hypotheses") (list_of text_of) value) _ d alpha.2 in
    let p = came_from (at_or [] (codes "p") (list_of place_of) value) _ d names.2 in
    let components = came_from (at (codes "components") (list_of (component_of names.0)) value) _ d p.2 in
    let stages = came_from (at_or None (codes "stages") (some_stages names.0) value) _ d components.2 in
    let is = same_value (record { names = names.0; alpha = alpha.0; p = p.0; components = components.0; stages = stages.0 }) d stages.2 in
    ap (λ (f : Draft). list_all whole_component f.components) (sym is)
    ∙ in_part (list_of (component_of names.0)) (list_all whole_component) (all_in (component_of names.0) whole_component (component_whole names.0))
    (codes "components") (get (codes "components") value) components.0 components.1

pub json_whole : (bytes : List ℕ) (d : Draft) → SaysDraft bytes d → IsWhole d
json_whole bytes d says = document_whole says.0 d says.2

-- What is known of a draft in which no row finds a fault.
use Rattle.std.proofs.Common.{◌≡◌, refl, sym, ap, ap₂, ◌∙◌, ℕ, ◌*◌, ◌==◌, ◌≤◌, List, [], ◌∷◌, length, map, true, ◌&&◌}
use Rattle.std.proofs.Common.{nat_lt, Option, Some, None, arith}
use Rattle.std.proofs.lemmas.Bool.Decides.{nat_tests}
use Rattle.std.proofs.lemmas.List.FromFn.{length-map-range_with_len}
use Rattle.std.specs.List.{list_all}
use Rattle.std.specs.Option.{option_map_or}
use Rattle.field_core.specs.declared.ratio.Ratio.{Ratio}
use Rattle.case_model.specs.declared.fault.CaseFault.{CaseFault}
use Rattle.case_model.specs.declared.draft.Draft.{Draft}
use Rattle.case_model.specs.declared.draft_component.DraftComponent.{DraftComponent}
use Rattle.case_model.specs.declared.draft_edge.DraftEdge.{DraftEdge}
use Rattle.case_model.specs.declared.component.Component.{Component}
use Rattle.case_model.specs.declared.inputs.Inputs.{Inputs}
use Rattle.case_model.specs.Draft.{arrives_among, have_known_arrivals}
use Rattle.case_model.specs.Content.{Content, content_of, table_of, tabled, inputs_of}
use Rattle.case_model.specs.CaseFaults.{◌or◌, names_fault, no_hypothesis, too_many, name_form, duplicate_name, components_fault, part_too_long, alpha_range}
use Rattle.case_model.specs.CaseFaults.{shares_fault, weights_fault, edges_fault, fault_before_edges, early_fault, late_fault, case_fault}
use Rattle.case_model.specs.Tables.{are_tables}
use Rattle.case_model.proofs.NoFaults.{neither, no_when}
use Rattle.field_core.proofs.Positions.{test_same}

pub first_of_two : (a b : Option CaseFault) (f : CaseFault) → a ≡ Some f → (a or b) ≡ Some f
first_of_two a b f e = ap (λ r. r or b) e

pub second_of_two : (a b r : Option CaseFault) → a ≡ None → b ≡ r → (a or b) ≡ r
second_of_two a b r e h = ap (λ r. r or b) e ∙ h

pub record GoodNames (names : List (List ℕ)) : Type 0 where
  pub none : no_hypothesis names ≡ None
  pub many : too_many names ≡ None
  pub form : name_form names ≡ None
  pub distinct : duplicate_name names ≡ None

pub good_names : (names : List (List ℕ)) → names_fault names ≡ None → GoodNames names
unfolding names_fault
good_names names h =
    let a = neither (no_hypothesis names) _ h in
    let b = neither (too_many names) _ a.second in
    let c = neither (name_form names) (duplicate_name names) b.second in
    record { none = a.first; many = b.first; form = c.first; distinct = c.second }

few : (names : List (List ℕ)) → too_many names ≡ None → length names ≤ 64
unfolding too_many
few names h = grind (arith, nat_tests, no_when (nat_lt 64 (length names)) _ h)

pub record GoodStart (d : Draft) : Type 0 where
  pub names : names_fault d.names ≡ None
  pub components : components_fault d.components ≡ None
  pub parts : part_too_long d ≡ None
  pub alpha : alpha_range d.alpha ≡ None
  pub shares : shares_fault d.components ≡ None
  pub weights : weights_fault (length d.names) d.components ≡ None
  pub edges : edges_fault d.components ≡ None

pub good_start : (d : Draft) → early_fault d ≡ None → GoodStart d
unfolding early_fault
good_start d h =
    let whole = neither (fault_before_edges d) (edges_fault d.components) h in
    let a = neither (names_fault d.names) _ whole.first in
    let b = neither (components_fault d.components) _ a.second in
    let c = neither (part_too_long d) _ b.second in
    let e = neither (alpha_range d.alpha) _ c.second in
    let f = neither (shares_fault d.components) (weights_fault (length d.names) d.components) e.second in
    record { names = a.first; components = b.first; parts = c.first; alpha = e.first; shares = f.first; weights = f.second; edges = whole.second }

-- there are at most 64 names
pub few_before_edges : (d : Draft) → fault_before_edges d ≡ None → length d.names ≤ 64
few_before_edges d h = few d.names (good_names d.names (neither (names_fault d.names) _ h).first).many

pub few_names : (d : Draft) → early_fault d ≡ None → length d.names ≤ 64
few_names d h = few d.names (good_names d.names (good_start d h).names).many

pub length-table_of : (m : ℕ) (es : List DraftEdge) → length (table_of m es) ≡ m * m
unfolding table_of
length-table_of m es = length-map-range_with_len _ 0 (m * m)

pub are_tables-tabled : (m : ℕ) (ks : List DraftComponent) → are_tables m (map (tabled m) ks) ≡ true
unfolding are_tables
are_tables-tabled m [] = refl
are_tables-tabled m (k ∷ ks) = ap (λ b. b && list_all (λ k. length k.edges == m * m) (map (tabled m) ks))
    (test_same (length (table_of m k.edges)) (m * m) (length-table_of m k.edges)) ∙ are_tables-tabled m ks

pub content_of-components : (d : Draft) → (content_of d).components ≡ map (tabled (length d.names)) d.components
unfolding content_of
content_of-components d = refl

-- ---- the first fault, from those of the earlier and the later rows

pub early_is : (d : Draft) (f : CaseFault) → early_fault d ≡ Some f → case_fault d ≡ Some f
unfolding case_fault
early_is d f e = first_of_two (early_fault d) _ f e

pub late_is : (d : Draft) (m : ℕ) (ps : List (Option Ratio)) (r : Option CaseFault) → early_fault d ≡ None → m ≡ length d.names → ps ≡ d.p
    → late_fault m d.alpha d.stages ps (map (tabled m) d.components) ≡ r → case_fault d ≡ r
unfolding case_fault content_of
late_is d m ps r e many same h = second_of_two (early_fault d) _ r e
    (sym (ap₂ (λ m ps. late_fault m d.alpha d.stages ps (map (tabled m) d.components)) many same) ∙ h)

-- the content of a draft by its parts
pub content_by_parts : (d : Draft) (m : ℕ) (ps : List (Option Ratio)) (ks : List Component) (inputs : Inputs) → m ≡ length d.names → ps ≡ d.p
    → ks ≡ map (tabled m) d.components → inputs ≡ inputs_of d.stages ps
    → ◌≡◌ {A = Content} (record { names = d.names; alpha = d.alpha; components = ks; inputs = inputs }) (content_of d)
unfolding content_of
content_by_parts d m ps ks inputs many same e h =
    ap₂ (λ ks inputs. record { names = d.names; alpha = d.alpha; components = ks; inputs = inputs }) (e ∙ ap (λ m. map (tabled m) d.components) many)
    (h ∙ ap (inputs_of d.stages) same)

-- where there are no stages, no p-value arrived
pub no_arrivals : (d : Draft) → d.stages ≡ None → have_known_arrivals d ≡ true
unfolding have_known_arrivals
no_arrivals d e = ap (λ stages. option_map_or (λ s. list_all (arrives_among (length d.names)) s.arrivals) stages true) e

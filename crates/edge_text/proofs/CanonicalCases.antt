-- The canonical text of a case says that case, and distinguishes it from others.
use Rattle.std.proofs.Common.{◌≡◌, sym, ap, subst, ℕ, ◌<◌, ◌≤◌, List, length, get_or, true, Some, arith}
use Rattle.std.specs.Prelude.{slice_get}
use Rattle.std.specs.List.{list_all}
use Rattle.std.proofs.lemmas.Bool.Decides.{nat_tests}
use Rattle.field_core.specs.declared.ratio.Ratio.{Ratio}
use Rattle.fraction.specs.View.{number_of}
use Rattle.case_model.specs.declared.case.Case.{Case}
use Rattle.case_model.specs.declared.component.Component.{Component}
use Rattle.case_model.specs.declared.draft_stages.Arrival.{Arrival}
use Rattle.case_model.specs.declared.inputs.Inputs.{Inputs}
use Rattle.case_model.specs.declared.inputs.Inputs.TheVariants.{Bare, Single, Staged}
use Rattle.case_model.specs.declared.spend.Spend.{Spend}
use Rattle.case_model.specs.declared.spend.Spend.TheVariants.{Shares, Table}
use Rattle.case_model.specs.CaseView.{content}
use Rattle.case_model.specs.Draft.{is_short, is_short_p_value, is_p_value, is_unit}
use Rattle.case_model.specs.Content.{Content, has_coefficients}
use Rattle.case_model.specs.Entries.{no_edge}
use Rattle.case_model.specs.Validity.{IsValidSpend, AreValidInputs, IsValidContent}
use Rattle.case_model.proofs.DraftTests.{all_each, each_all, of_unit}
use Rattle.case_model.proofs.Holding.{both, all_at}
use Rattle.case_model.proofs.TableEdges.{edge_at_place}
use Rattle.edge_text.specs.Reading.{IsCaseOf}
use Rattle.edge_text.specs.CanonicalText.{canonical_text}
use Rattle.edge_text.proofs.OneReading.{one_case}
use Rattle.edge_text.proofs.CanonicalDrafts.{draft_of, five}
use Rattle.edge_text.proofs.CanonicalValidity.{canonical_faultless, same_content, edges_each}
use Rattle.edge_text.proofs.CanonicalWords.{IsSaid, short_said, level_said, p_value_said, name_is_word}
use Rattle.edge_text.proofs.CanonicalLines.{IsEntry, distinct}
use Rattle.edge_text.proofs.CanonicalStages.{IsSpendSaid, IsArrivalSaid}
use Rattle.edge_text.proofs.CanonicalDocuments.{IsComponentSaid, AreInputsSaid, IsContentSaid, canonical_says}

p_said : (x : Ratio) → is_p_value x ≡ true → IsSaid x
unfolding is_p_value
p_said x h = let w = both (is_short_p_value x) (is_unit (number_of x)) h in p_value_said x w.left w.right

spend_said : (count : ℕ) (alpha : Ratio) (spend : Spend) → 1 ≤ count → IsValidSpend count alpha spend → IsSpendSaid spend
spend_said count alpha (Shares fs) some v = let n : length fs ≡ count = v.as_many in (omega arith, λ i x e. level_said x (v.short i x e))
spend_said count alpha (Table ss) some v = (
  v.some,
  λ i s e. let n : length s.levels ≡ count = v.as_many i s e in
      (short_said s.from (v.short_from i s e), omega arith, λ j x f. short_said x (v.short_levels i s e j x f)),
)

arrival_said : (m count : ℕ) (a : Arrival) → count ≤ 12 → a.hypothesis < m → a.stage ≤ count → IsSaid a.p → IsArrivalSaid m a
arrival_said m count a few known stage p = record { known = known; stage = omega arith; p = p }

module _ (c : Content) (v : IsValidContent c) (h : has_coefficients c.components ≡ true) where
  abbrev m : ℕ
  m = length c.names

  five_is : (i : ℕ) (k : Component) → slice_get c.components i ≡ Some k → list_all five k.edges ≡ true
  unfolding has_coefficients
  five_is i k e = all_each (λ k. list_all five k.edges) c.components h i k e

  component_said : (i : ℕ) (k : Component) → slice_get c.components i ≡ Some k → IsComponentSaid m k
  component_said i k e =
      let w = v.components i k e in
      record {
        share = short_said k.share w.short_share;
        weights = λ n x q. short_said x (w.short_weights n x q);
        size = w.size;
        entries = edges_each (λ e. IsEntry e.entry) m 0 k.edges (λ n q s l a.
            let f : five (get_or k.edges n no_edge) ≡ true = all_at five k.edges n no_edge (five_is i k e) l in
            record {
              five = grind (arith, nat_tests, f);
              short = each_all is_short (get_or k.edges n no_edge) (edge_at_place m k w v.names.some n (omega (arith, l, w.size))).short;
            });
      }

  inputs_said : (i : Inputs) → AreValidInputs m c.alpha i → AreInputsSaid c.names i
  inputs_said Bare w = tt
  inputs_said (Single ps) w = let n : length ps ≡ m = w.count in let some : 0 < m =
      v.names.some in (omega arith, λ i x e. p_said x (all_each is_p_value ps w.each i x e))
  inputs_said (Staged s) w = record {
    count = w.few;
    as_many = w.as_many;
    spends = λ i x e. spend_said s.count c.alpha x w.some (w.spends i x e);
    arrivals = λ i a e. arrival_said m s.count a w.few (w.known i a e) (w.stage i a e).1 (p_value_said a.p (w.short i a e) (of_unit (number_of a.p) (w.unit i a e)));
  }

  pub content_said : IsContentSaid c
  content_said = record {
    words = λ i n e. name_is_word n (v.names.form i n e);
    apart = distinct c.names v.names.distinct;
    alpha = level_said c.alpha v.short_level;
    some = v.some;
    components = component_said;
    inputs = inputs_said c.inputs v.inputs;
  }

pub canonical_reads_back : (case : Case) → IsCaseOf (canonical_text (content case)) case
canonical_reads_back case =
    let c = content case in
    let h = case.coefficients in
    record {
      draft = draft_of c;
      says = canonical_says c (content_said c case.valid h);
      faultless = canonical_faultless c case.valid h;
      content_is = sym (same_content c case.valid h);
    }

pub says_its_case : (case : Case) (text : List ℕ) → text ≡ canonical_text (content case) → IsCaseOf text case
says_its_case case text e = subst (λ t. IsCaseOf t case) (sym e) (canonical_reads_back case)

pub canonical_apart : (a b : Case) → canonical_text (content a) ≡ canonical_text (content b) → content a ≡ content b
canonical_apart a b e = one_case (canonical_text (content b)) a b (subst (λ t. IsCaseOf t a) e (canonical_reads_back a)) (canonical_reads_back b)

pub canonical_again : (a b : Case) → IsCaseOf (canonical_text (content a)) b → canonical_text (content b) ≡ canonical_text (content a)
canonical_again a b k = ap canonical_text (one_case (canonical_text (content a)) b a k (canonical_reads_back a))

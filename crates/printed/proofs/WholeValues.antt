-- The entry of an edge expression has a coefficient for each power from 0 to 4.
use Rattle.std.proofs.Common.{◌≡◌, sym, ap, ◌∙◌, ℕ, ◌==◌, true, List, [], ◌∷◌, map, length}
use Rattle.std.proofs.Common.{Result, Ok}
use Rattle.std.proofs.lemmas.List.{length-map}
use Rattle.field_core.specs.Terms.{Terms}
use Rattle.field_core.specs.View.{terms}
use Rattle.field_core.specs.declared.ratio.Ratio.{Ratio}
use Rattle.field_core.specs.Laws.Prefixes.{bind_ok}
use Rattle.field_core.proofs.Results.{same_value}
use Rattle.case_model.specs.Entries.{is_whole_entry}
use Rattle.case_model.specs.Sums.{terms_at}
use Rattle.edge_expression.specs.declared.value_fault.ValueFault.{ValueFault}
use Rattle.edge_expression.specs.EntryReading.{IsEntryText}
use Rattle.edge_expression.specs.EntryValues.{zero_coefficients, sum, difference, coefficients, joined}
use Rattle.edge_expression.specs.EntryValues.{sign_or_plus}
use Rattle.edge_expression.specs.EntryValues.{value, with_terms, term_value}
use Rattle.edge_expression.specs.Expressions.{Sign, Plus, Minus, Expression, Sum, MoreTerms, NoTerm, AndTerm}

-- ---- operations

five_made : (f : ℕ → Result Terms ValueFault) (z : List Terms) → coefficients f ≡ Ok z → length z ≡ 5
unfolding coefficients
five_made f z h =
    let a = bind_ok (f 0) _ z h in
    let b = bind_ok (f 1) _ z a.1.1 in
    let c = bind_ok (f 2) _ z b.1.1 in
    let d = bind_ok (f 3) _ z c.1.1 in
    let e = bind_ok (f 4) _ z d.1.1 in
    ap length (sym (same_value (a.0 ∷ b.0 ∷ c.0 ∷ d.0 ∷ e.0 ∷ []) z e.1.1))

joined_five : (sign : Sign) (x y z : List Terms) → joined sign x y ≡ Ok z → length z ≡ 5
unfolding joined
joined_five Plus x y z h = five_made (λ k. sum (terms_at x k) (terms_at y k)) z h
joined_five Minus x y z h = five_made (λ k. difference (terms_at x k) (terms_at y k)) z h

-- ---- expressions

mutual
  unfolding value

  value_five : (e : Expression) (z : List Terms) → value e ≡ Ok z → length z ≡ 5
  value_five (Sum sign first others) z h =
      let t = bind_ok (term_value first) _ z h in
      let s = bind_ok (joined (sign_or_plus sign) zero_coefficients t.0) _ z t.1.1 in
      terms_five others s.0 z (joined_five (sign_or_plus sign) zero_coefficients t.0 s.0 s.1.0) s.1.1

  terms_five : (ts : MoreTerms) (s z : List Terms) → length s ≡ 5 → with_terms s ts ≡ Ok z → length z ≡ 5
  terms_five NoTerm s z five h = ap length (sym (same_value s z h)) ∙ five
  terms_five (AndTerm sign term others) s z five h =
      let t = bind_ok (term_value term) _ z h in
      let l = bind_ok (joined sign s t.0) _ z t.1.1 in
      terms_five others l.0 z (joined_five sign s t.0 l.0 l.1.0) l.1.1

-- the entry of a text has five coefficients
pub entry_whole : (text : List ℕ) (entry : List Ratio) → IsEntryText text entry → is_whole_entry entry ≡ true
entry_whole text entry h =
    ap (λ n. n == 5) (sym (length-map entry terms) ∙ value_five h.expression (map terms entry) h.value_is)

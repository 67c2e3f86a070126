-- A bundle of one net of share 1 whose closed form is short: neither a removal nor a level is refused.
use Rattle.std.proofs.Common.{◌≡◌, ◌≢◌, inl, inr, refl, ap, ◌∙◌, ℕ, ◌≤◌, ◌<◌, ◌*◌, arith, Bool, List, [], ◌∷◌, Option}
use Rattle.std.proofs.Common.{Some, Ok, unsigned_abs, Result}
use Rattle.field_core.specs.Number.{Number}
use Rattle.field_core.specs.NumberField.{number_field}
use Rattle.field_core.specs.Divisor.{gcd}
use Rattle.field_core.specs.Graph.{Graph}
use Rattle.field_core.specs.Kind.{Parts, or_wide}
use Rattle.field_core.specs.LimitParts.{limit_terms, first}
use Rattle.field_core.specs.Removal.{without}
use Rattle.field_core.specs.Sets.{IsIn, dropping, whole}
use Rattle.field_core.specs.Terms.{Terms}
use Rattle.field_core.specs.View.{terms}
use Rattle.field_core.specs.Runs.{IsOrder}
use Rattle.field_core.specs.Steps.{in_component, placed, ◌>>=◌}
use Rattle.field_core.specs.declared.place.Op.{Op}
use Rattle.field_core.specs.declared.place.Op.TheVariants.{Add, Mul}
use Rattle.field_core.specs.declared.place.Place.{Place}
use Rattle.field_core.specs.declared.place.TooWide.{TooWide}
use Rattle.field_core.specs.declared.place.Wide.{Wide}
use Rattle.field_core.specs.declared.place.Place.TheVariants.{Share}
use Rattle.field_core.proofs.Agreement.{Agrees}
use Rattle.field_core.proofs.ClosedForms.{IsClosedForm}
use Rattle.field_core.proofs.Live.{true_or_false}
use Rattle.fraction.specs.Plain.{plain, pair_of}
use Rattle.fraction.specs.Within.{IsWithin}
use Rattle.fraction.specs.Written.{written_mul}
use Rattle.fraction.proofs.ShortTerms.{mul_within, add_within}
use Rattle.fraction.proofs.ShortNumbers.{IsNumberWithin}
use Rattle.fraction.proofs.ShortTerms.{abs_quotient}
use Rattle.case_model.specs.Sums.{zero_terms, terms_at, ratio_at, one_ratio}
use Rattle.removal.specs.StoredGraph.{StoredGraph, size, is_live, weight}
use Rattle.removal.specs.ByValue.{graph_of}
use Rattle.removal.specs.WrittenRemoval.{written_removal}
use Rattle.removal.specs.InTurn.{removed_in_turn}
use Rattle.removal.proofs.WeightsLeft.{turn_end, turn_on}
use Rattle.entangled.specs.Bundled.{opened, removed, removed_together, written_levels, written_level, written_share, limits, is_live_by, states_size}
use Rattle.entangled.specs.BundleRun.{opened_after}
use Rattle.entangled.specs.Shares.{written_products, with_product}
use Rattle.textbook.specs.TextbookRuns.{Stores}
use Rattle.textbook.proofs.ShortRemovals.{AreWithin, Fit, IsDefined, each_defined, then_made}
use Rattle.textbook.proofs.ShortRuns.{Now, now_short, next_state, start_agrees, start_now}

one_within : IsWithin 1 (terms one_ratio)
one_within = record { num = omega arith; den = omega arith }

zero_within : IsWithin 1 zero_terms
zero_within = record { num = omega arith; den = omega arith }

through : (a b c : ℕ) → a ≤ b → b ≤ c → a ≤ c
through a b c h g = omega (arith, h, g)

limit_within : (w : ℕ) (x : Parts) → IsWithin w (pair_of x) → IsWithin w (limit_terms x)
unfolding limit_terms
limit_within w x s = record {
  num = through _ _ _ (abs_quotient (first x.numerator) (gcd (unsigned_abs (first x.numerator)) (unsigned_abs (first x.denominator)))) s.num;
  den = through _ _ _ (abs_quotient (first x.denominator) (gcd (unsigned_abs (first x.numerator)) (unsigned_abs (first x.denominator)))) s.den;
}

-- ---- levels

wide_made : (op : Op) (r : Option Terms) (x : Terms) → r ≡ Some x → or_wide op r ≡ Ok x
wide_made op r x e = ap (λ q. or_wide op q) e

product_defined : (x : Terms) (w e : ℕ) → Fit w e → IsWithin w x → IsDefined (with_product zero_terms (terms one_ratio) x)
unfolding with_product
product_defined x w e fit s =
    let p = mul_within (terms one_ratio) x 1 w one_within s fit.share in
    let t = add_within zero_terms p.0 1 (1 * w) zero_within p.2 fit.level in
    (t.0, then_made (or_wide Mul (written_mul (terms one_ratio) x)) _ p.0 (wide_made Mul _ p.0 p.1) ∙ wide_made Add _ t.0 t.1)

products_one : (f : ℕ → Terms) → written_products (one_ratio ∷ []) f 1 ≡ with_product zero_terms (terms one_ratio) (f 0)
unfolding written_products ratio_at
products_one f = refl

alone_in : {A : Type 0} (r : Result A Wide) (x : A) → r ≡ Ok x → in_component 0 r ≡ Ok x
alone_in r x e = ap (λ q. in_component 0 q) e

put_at : {A : Type 0} (p : Place) (r : Result A TooWide) (x : A) → r ≡ Ok x → placed p r ≡ Ok x
put_at p r x e = ap (λ q. placed p q) e

share_defined : (S : StoredGraph) (l w e : ℕ) → Fit w e → IsWithin w (pair_of (weight plain S l))
    → IsDefined (written_share plain (λ G. G) (S ∷ []) (one_ratio ∷ []) l)
unfolding written_share terms_at
share_defined S l w e fit s =
    let p = product_defined (limit_terms (weight plain S l)) w e fit (limit_within w (weight plain S l) s) in
    (p.0, alone_in _ p.0 (put_at (Share l) _ p.0 (products_one (terms_at (limits plain (λ G. G) (S ∷ []) l)) ∙ p.1)))

level_defined : (S : StoredGraph) (w e : ℕ) → Fit w e → AreWithin w e S → (l : ℕ) → l < size S
    → IsDefined (written_level plain (λ G. G) (S ∷ []) (one_ratio ∷ []) l)
unfolding written_level is_live_by
level_defined S w e fit s l b = elim (true_or_false (is_live S l)) [
  | inl t ↦ let d = share_defined S l w e fit (s.weights l b t) in (d.0, rw t d.1)
  | inr f ↦ (zero_terms, rw f refl)
]

levels_defined : (S : StoredGraph) (w e : ℕ) → Fit w e → AreWithin w e S → IsDefined (written_levels plain (λ G. G) (S ∷ []) (one_ratio ∷ []))
unfolding written_levels states_size
levels_defined S w e fit s = each_defined (size S) (written_level plain (λ G. G) (S ∷ []) (one_ratio ∷ [])) (level_defined S w e fit s)

-- ---- runs

one_item : (S T : StoredGraph) (j : ℕ) → written_removal plain S j ≡ Ok T → removed_together (written_removal plain) (S ∷ []) j ≡ Ok (T ∷ [])
unfolding removed_together
one_item S T j e = ap (λ r. (in_component 0 r) >>= (λ y. Ok (y ∷ []))) e

removed_alone : (S T : StoredGraph) (j : ℕ) (levels next : List Terms) → written_removal plain S j ≡ Ok T
    → written_levels plain (λ G. G) (T ∷ []) (one_ratio ∷ []) ≡ Ok next
    → removed plain (λ G. G) (written_removal plain) (record { states = S ∷ []; shares = one_ratio ∷ []; levels = levels }) j ≡ Ok
    (record { states = T ∷ []; shares = one_ratio ∷ []; levels = next })
unfolding removed
removed_alone S T j levels next h g =
    then_made (removed_together (written_removal plain) (S ∷ []) j) _ (T ∷ []) (one_item S T j h)
    ∙ then_made (written_levels plain (λ G. G) (T ∷ []) (one_ratio ∷ [])) _ next g

module _ (m : ℕ) (left : (ℕ → Bool) → Graph Number) (C : IsClosedForm number_field m left) (w e : ℕ) (fit : Fit w e)
    (short_weight : (I : ℕ → Bool) (l : ℕ) → IsIn m I l → IsNumberWithin w ((left I).weight l))
    (short_edge : (I : ℕ → Bool) (l h : ℕ) → IsIn m I l → IsIn m I h → l ≢ h → IsNumberWithin e ((left I).edge l h)) where
  run_bundle : (js : List ℕ) (I : ℕ → Bool) (A : Graph Number) (S : StoredGraph) (levels : List Terms)
      → Now m left C w e fit short_weight short_edge I A S → Agrees m I A (left I) → IsOrder m I js
      → IsDefined (removed_in_turn (removed plain (λ G. G) (written_removal plain))
      (record { states = S ∷ []; shares = one_ratio ∷ []; levels = levels }) js)
  run_bundle [] I A S levels N G o = (_, turn_end (removed plain (λ G. G) (written_removal plain)) _)
  run_bundle (j ∷ js) I A S levels N G o =
      let X = next_state m left C w e fit short_weight short_edge I A S j N G o.0 in
      let ls = levels_defined X.state w e fit
      (now_short m left C w e fit short_weight short_edge (dropping j I) (without number_field A j) X.state X.now X.agrees) in
      let rest = run_bundle js (dropping j I) (without number_field A j) X.state ls.0 X.now X.agrees o.1 in
      (rest.0, turn_on (removed plain (λ G. G) (written_removal plain)) _ _ rest.0 j js (one_removed S X.state j levels ls.0 X.made ls.1) rest.1)
    where
      one_removed : (S T : StoredGraph) (j : ℕ) (levels next : List Terms) → written_removal plain S j ≡ Ok T
          → written_levels plain (λ G. G) (T ∷ []) (one_ratio ∷ []) ≡ Ok next
          → removed plain (λ G. G) (written_removal plain) (record { states = S ∷ []; shares = one_ratio ∷ []; levels = levels }) j ≡ Ok
          (record { states = T ∷ []; shares = one_ratio ∷ []; levels = next })
      one_removed S T j levels next h g = removed_alone S T j levels next h g

  pub bundle_never_refused : (G : Graph Number) (S : StoredGraph) → size S ≡ m → Stores G S → Agrees m whole G (left whole) → (js : List ℕ)
      → IsOrder m whole js
      → IsDefined (opened_after plain (λ G. G) (written_removal plain) (S ∷ []) (one_ratio ∷ []) js)
  unfolding opened_after opened
  bundle_never_refused G S q St A js o =
      let N = start_now m left C w e fit short_weight short_edge G S q St in
      let a = start_agrees m left C w e fit short_weight short_edge G S q St A in
      let ls = levels_defined S w e fit (now_short m left C w e fit short_weight short_edge whole (graph_of plain S) S N a) in
      let run = run_bundle js whole (graph_of plain S) S ls.0 N a o in (
        run.0,
        ap (λ r. (r >>= (λ ls. Ok (record { states = S ∷ []; shares = one_ratio ∷ []; levels = ls }))) >>= (λ b. removed_in_turn
            (removed plain (λ G. G) (written_removal plain)) b js)) ls.1 ∙ run.1,
      )

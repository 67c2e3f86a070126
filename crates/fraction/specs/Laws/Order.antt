-- The order of fractions by value, and that it is one.
use Rattle.std.proofs.Common.{◌≡◌, refl, sym, ap, ap₂, subst, ◌∙◌, ℤ, ◌*ℤ◌, Bool, true, false, ◌&&◌}
use Rattle.std.specs.Cmp.{IsTotalOrder, IsPartialOrder, both_ways, Equal-is, partial_order_from_agreeing_total}
use Rattle.std.specs.Ordering.{int_cmp, int_eq, is_eq, eq_by_cmp, as_partial_cmp}
use Rattle.std.specs.declared.cmp.Ordering.{Ordering}
use Rattle.std.specs.declared.cmp.Ordering.TheVariants.{Equal}
use Rattle.std.proofs.lemmas.Cmp.{on_total, int_ranked, int_cmp_total, tied_itself}
use Rattle.field_core.specs.View.{terms}
use Rattle.field_core.specs.Number.{Number}
use Rattle.field_core.specs.Arithmetic.{number_compare}
use Rattle.field_core.specs.Fractions.{fraction}
use Rattle.field_core.specs.Laws.FieldLaws.{number_is_field}
use Rattle.field_core.specs.Laws.Effective.{fraction-compare, fraction-cross, positive_nonzero}
use Rattle.field_core.specs.declared.ratio.Ratio.{Ratio}
use Rattle.numerals.specs.Laws.Unique.{reduced_unique}

-- ---- the order

-- the order of the cross products
abbrev pub by_value : Ratio → Ratio → Ordering
by_value x y = int_cmp (x.num *ℤ y.den) (y.num *ℤ x.den)

value : Ratio → Number
value x = fraction x.num x.den

seen : (x y : Ratio) → number_compare (value x) (value y) ≡ by_value x y
unfolding value
seen x y = fraction-compare x.num x.den y.num y.den x.valid.positive y.valid.positive

numbers_total : IsTotalOrder number_compare
numbers_total = record {
  antisymm = λ x y. number_is_field.compare_swap y x;
  trans = λ x y z h g. number_is_field.compare_through x y z h g;
  congr = λ x y z h. ap (λ v. number_compare v z) (number_is_field.compare_equal x y h);
}

pub by_value_total : IsTotalOrder by_value
by_value_total = subst IsTotalOrder (λ i x y. seen x y i) (on_total value numbers_total)

-- the same parts
abbrev pub same_parts : Ratio → Ratio → Bool
same_parts x y = int_eq x.num y.num && int_eq x.den y.den

equal_parts : (x y : Ratio) → by_value x y ≡ Equal → terms x ≡ terms y
unfolding value
equal_parts x y h =
    reduced_unique (terms x) (terms y) x.valid y.valid
    (fraction-cross x.num x.den y.num y.den (positive_nonzero x.den x.valid.positive) (positive_nonzero y.den y.valid.positive)
    (number_is_field.compare_equal (value x) (value y) (seen x y ∙ h)))

both_true : (a b : Bool) → (a && b) ≡ true → (a ≡ true) × (b ≡ true)
both_true true b h = (refl, h)
both_true false b h = absurd (cc)

same_from : (a b : ℤ) → int_eq a b ≡ true → a ≡ b
same_from a b h = int_ranked a b Equal (sym ((Equal-is (int_cmp a b)).0 h))

eq_from : (a b : ℤ) → a ≡ b → int_eq a b ≡ true
eq_from a b e = ap (λ c. is_eq (int_cmp c b)) e ∙ ap is_eq (tied_itself int_cmp_total b)

pub by_value_ties : (x y : Ratio) → same_parts x y ≡ eq_by_cmp by_value x y
by_value_ties x y =
    both_ways (same_parts x y) (eq_by_cmp by_value x y)
    (λ h. let p = both_true _ _ h in ap₂ (λ n d. is_eq (int_cmp (n *ℤ y.den) (y.num *ℤ d))) (same_from _ _ p.0) (same_from _ _ p.1)
    ∙ ap is_eq (tied_itself int_cmp_total (y.num *ℤ y.den)))
    (λ h. let e = equal_parts x y ((Equal-is (by_value x y)).0 h) in ap₂ ◌&&◌ (eq_from _ _ (ap (λ t. t.num) e)) (eq_from _ _ (ap (λ t. t.den) e)))

pub by_value_partial : IsPartialOrder same_parts (as_partial_cmp by_value)
by_value_partial = partial_order_from_agreeing_total by_value by_value_total (λ x y. refl) by_value_ties

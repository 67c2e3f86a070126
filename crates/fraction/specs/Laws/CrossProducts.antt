-- The exact sum and product of two fractions, by cross products.
use Rattle.std.specs.Prelude.{◌+ℤ◌, ◌*ℤ◌}
use Rattle.field_core.specs.Terms.{Terms}

-- the sum, over the product of the denominators
abbrev pub sum_of : Terms → Terms → Terms
sum_of x y = record { num = x.num *ℤ y.den +ℤ y.num *ℤ x.den; den = x.den *ℤ y.den }

-- the product, over the product of the denominators
abbrev pub product_of : Terms → Terms → Terms
product_of x y = record { num = x.num *ℤ y.num; den = x.den *ℤ y.den }

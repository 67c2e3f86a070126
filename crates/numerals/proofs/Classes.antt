-- What a byte of a class is.
use Rattle.std.proofs.Common.{◌≡◌, ℕ, ◌≤◌, ◌⊎◌, ◌||◌, true, eqb, refl, inl, inr, arith}
use Rattle.std.specs.Char.{is_ascii_digit}
use Rattle.std.proofs.lemmas.Bool.{cond_both, or_cases, eqb-true}
use Rattle.std.proofs.lemmas.Bool.Decides.{nat_tests}
use Rattle.numerals.specs.declared.byte_class.Class.{Class}
use Rattle.numerals.specs.declared.byte_class.Class.TheVariants as classes
use Rattle.numerals.specs.DecimalMachine.{class_of}

abbrev pub IsOf : Class → ℕ → Type 0
IsOf classes.Digit b = (48 ≤ b) × (b ≤ 57)
IsOf classes.Sign b = (b ≡ 43) ⊎ (b ≡ 45)
IsOf classes.Point b = b ≡ 46
IsOf classes.Mark b = (b ≡ 101) ⊎ (b ≡ 69)
IsOf classes.Slash b = b ≡ 47
IsOf classes.Other b = Unit {0}

pub either : (b m n : ℕ) → (eqb b m || eqb b n) ≡ true → (b ≡ m) ⊎ (b ≡ n)
either b m n h = elim (or_cases (eqb b m) (eqb b n) h) [ inl e ↦ inl (eqb-true b m e) | inr e ↦ inr (eqb-true b n e) ]

pub digit_in : (b : ℕ) → is_ascii_digit b ≡ true → (48 ≤ b) × (b ≤ 57)
digit_in b h = grind (arith, nat_tests)

pub class_is : (b : ℕ) → IsOf (class_of b) b
unfolding class_of
class_is b =
    let P : Class → Type 0 = λ c. IsOf c b in
    cond_both (is_ascii_digit b) classes.Digit _ P (λ e. digit_in b e) (λ _.
    cond_both (eqb b 43 || eqb b 45) classes.Sign _ P (λ e. either b 43 45 e) (λ _.
    cond_both (eqb b 46) classes.Point _ P (λ e. eqb-true b 46 e) (λ _.
    cond_both (eqb b 101 || eqb b 69) classes.Mark _ P (λ e. either b 101 69 e) (λ _.
    cond_both (eqb b 47) classes.Slash classes.Other P (λ e. eqb-true b 47 e) (λ _. tt)))))

pub digit_test : (b : ℕ) → 48 ≤ b → b ≤ 57 → is_ascii_digit b ≡ true
digit_test b h k = grind (arith, nat_tests)

pub class_digit : (b : ℕ) → 48 ≤ b → b ≤ 57 → class_of b ≡ classes.Digit
unfolding class_of
class_digit b h k = rw (digit_test b h k) refl

pub class_sign : (b : ℕ) → (b ≡ 43) ⊎ (b ≡ 45) → class_of b ≡ classes.Sign
unfolding class_of
class_sign b (inl e) = rw e refl
class_sign b (inr e) = rw e refl

pub class_mark : (b : ℕ) → (b ≡ 101) ⊎ (b ≡ 69) → class_of b ≡ classes.Mark
unfolding class_of
class_mark b (inl e) = rw e refl
class_mark b (inr e) = rw e refl

pub class_point : class_of 46 ≡ classes.Point
unfolding class_of
class_point = refl

pub class_slash : class_of 47 ≡ classes.Slash
unfolding class_of
class_slash = refl

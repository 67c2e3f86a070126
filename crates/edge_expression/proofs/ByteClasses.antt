-- What a byte of a class is.
use Rattle.std.proofs.Common.{◌≡◌, ◌≢◌, ℕ, ◌≤◌, ◌⊎◌, ◌||◌, true, eqb, refl, sym, subst, inl, inr}
use Rattle.std.specs.Char.{is_ascii_digit}
use Rattle.std.proofs.lemmas.Bool.{cond_both, eqb-true, eqb-false}
use Rattle.text_lines.specs.Words.{is_blank}
use Rattle.numerals.proofs.Classes.{either, digit_in}
use Rattle.edge_expression.specs.declared.byte_class.Class.{Class}
use Rattle.edge_expression.specs.declared.byte_class.Class.TheVariants as classes
use Rattle.edge_expression.specs.ByteMachine.{class_of}

abbrev pub IsOf : Class → ℕ → Type 0
IsOf classes.Digit b = (48 ≤ b) × (b ≤ 57)
IsOf classes.Sign b = (b ≡ 43) ⊎ (b ≡ 45)
IsOf classes.Joint b = (b ≡ 42) ⊎ (b ≡ 47)
IsOf classes.Caret b = b ≡ 94
IsOf classes.Open b = b ≡ 40
IsOf classes.Close b = b ≡ 41
IsOf classes.Backslash b = b ≡ 92
IsOf classes.Blank b = (b ≡ 32) ⊎ (b ≡ 9)
IsOf classes.Other b = (b ≢ 40) × (b ≢ 41)

pub class_is : (b : ℕ) → IsOf (class_of b) b
unfolding class_of
class_is b =
    let P : Class → Type 0 = λ c. IsOf c b in
    cond_both (is_ascii_digit b) classes.Digit _ P (λ e. digit_in b e) (λ _.
    cond_both (is_blank b) classes.Blank _ P (λ e. either b 32 9 e) (λ _.
    cond_both (eqb b 43 || eqb b 45) classes.Sign _ P (λ e. either b 43 45 e) (λ _.
    cond_both (eqb b 42 || eqb b 47) classes.Joint _ P (λ e. either b 42 47 e) (λ _.
    cond_both (eqb b 94) classes.Caret _ P (λ e. eqb-true b 94 e) (λ _.
    cond_both (eqb b 40) classes.Open _ P (λ e. eqb-true b 40 e) (λ opens.
    cond_both (eqb b 41) classes.Close _ P (λ e. eqb-true b 41 e) (λ closes.
    cond_both (eqb b 92) classes.Backslash classes.Other P (λ e. eqb-true b 92 e) (λ _. (eqb-false b 40 opens, eqb-false b 41 closes)))))))))

-- ---- bytes of classes

-- what holds of two bytes holds of each of the two
pub either_of : (P : ℕ → Type 0) (m n b : ℕ) → P m → P n → (b ≡ m) ⊎ (b ≡ n) → P b
either_of P m n b h k (inl e) = subst P (sym e) h
either_of P m n b h k (inr e) = subst P (sym e) k

pub class_digit : (b : ℕ) → is_ascii_digit b ≡ true → class_of b ≡ classes.Digit
unfolding class_of
class_digit b h = rw h refl

pub class_blank : (b : ℕ) → (b ≡ 32) ⊎ (b ≡ 9) → class_of b ≡ classes.Blank
unfolding class_of
class_blank b = either_of (λ c. class_of c ≡ classes.Blank) 32 9 b refl refl

pub class_sign : (b : ℕ) → (b ≡ 43) ⊎ (b ≡ 45) → class_of b ≡ classes.Sign
unfolding class_of
class_sign b = either_of (λ c. class_of c ≡ classes.Sign) 43 45 b refl refl

-- What single words say, and their grammar.
use Rattle.std.proofs.Common.{◌≡◌, ℕ, ◌&&◌, Bool, true, false, List, [], ◌∷◌, length, Result, Ok, Err, refl, sym, ap, subst, inl, inr, arith, if◌then◌else◌}
use Rattle.std.specs.List.{list_all}
use Rattle.std.specs.Prelude.{nat_le, nat_lt}
use Rattle.std.specs.Str.Parse.{digits_value}
use Rattle.std.proofs.lemmas.Bool.{cases_Bool}
use Rattle.std.proofs.lemmas.Bool.Decides.{nat_tests}
use Rattle.field_core.specs.Answers.{told_as}
use Rattle.field_core.specs.declared.ratio.Ratio.{Ratio}
use Rattle.field_core.proofs.Results.{same_value}
use Rattle.numerals.specs.Numeral.{AreDigits}
use Rattle.numerals.specs.WholeNumbers.{WritesNumber}
use Rattle.edge_expression.specs.EntryReading.{IsEntryText}
use Rattle.fraction.specs.Numerals.{numeral_of}
use Rattle.fraction.proofs.Numerals.{numeral_ok, numeral_is}
use Rattle.entries.specs.Entries.{entry_of}
use Rattle.entries.proofs.Entries.{entry_ok, entry_is}
use Rattle.edge_text.specs.declared.fault.LineKind.TheVariants.{Whole, Number, Expr}
use Rattle.edge_text.specs.Grammar.{Says, IsWholeNumber}
use Rattle.edge_text.specs.WordReading.{numeral, entry, is_digit, is_whole, whole}

-- what is reported of a value was one
value_told : {A E F : Type 0} (tell : E → F) (r : Result A E) (x : A) → told_as tell r ≡ Ok x → r ≡ Ok x
value_told tell (Ok y) x e = ap Ok (same_value y x e)
value_told tell (Err f) x e = absurd (cc e)

pub numeral_said : (word : List ℕ) (x : Ratio) → Says word x → numeral word ≡ Ok x
unfolding Says
numeral_said word x h = ap (told_as Number) (numeral_ok word x h)

pub numeral_says : (word : List ℕ) (x : Ratio) → numeral word ≡ Ok x → Says word x
unfolding Says
numeral_says word x e = numeral_is word x (value_told Number (numeral_of word) x e)

pub entry_said : (text : List ℕ) (x : List Ratio) → IsEntryText text x → entry text ≡ Ok x
entry_said text x h = ap (told_as Expr) (entry_ok text x h)

pub entry_says : (text : List ℕ) (x : List Ratio) → entry text ≡ Ok x → IsEntryText text x
entry_says text x e = entry_is text x (value_told Expr (entry_of text) x e)

digits_pass : (word : List ℕ) → AreDigits word → list_all is_digit word ≡ true
digits_pass [] d = refl
digits_pass (b ∷ bs) d =
    let low : nat_le 48 b ≡ true = grind (arith, nat_tests, d.0) in
    let high : nat_le b 57 ≡ true = grind (arith, nat_tests, d.1) in
    rw (low, high, digits_pass bs d.2) refl

digits_by : (word : List ℕ) → list_all is_digit word ≡ true → AreDigits word
digits_by [] e = tt
digits_by (b ∷ bs) e = by (nat_le 48 b) (nat_le b 57) refl refl (λ m. digits_by bs m) e
  where
    by : (p q : Bool) → nat_le 48 b ≡ p → nat_le b 57 ≡ q → (list_all is_digit bs ≡ true → AreDigits bs)
        → ((p && q) && list_all is_digit bs) ≡ true → AreDigits (b ∷ bs)
    by true true h k more e = ((grind (arith, nat_tests, h)), (grind (arith, nat_tests, k)), more e)
    by true false h k more e = absurd (let f : false ≡ true = e in cc)
    by false q h k more e = absurd (let f : false ≡ true = e in cc)

whole_is : (word : List ℕ) (n : ℕ) → WritesNumber 9 word n → is_whole word ≡ true
unfolding is_whole
whole_is word n w =
    let d = digits_pass word w.digits in
    let some : nat_lt 0 (length word) ≡ true = grind (arith, nat_tests, w.some) in
    let few : nat_le (length word) 9 ≡ true = grind (arith, nat_tests, w.few) in
    rw (d, some, few) refl

whole_writes : (word : List ℕ) → is_whole word ≡ true → WritesNumber 9 word (digits_value 10 word)
unfolding is_whole
whole_writes word e = by (list_all is_digit word) (nat_lt 0 (length word)) (nat_le (length word) 9) refl refl refl e
  where
    by : (p q r : Bool) → list_all is_digit word ≡ p → nat_lt 0 (length word) ≡ q → nat_le (length word) 9 ≡ r → (p && (q && r)) ≡ true
        → WritesNumber 9 word (digits_value 10 word)
    by true true true h k l e =
        record { digits = digits_by word h; some = grind (arith, nat_tests, k); few = grind (arith, nat_tests, l); writes = refl }
    by true true false h k l e = absurd (let f : false ≡ true = e in cc)
    by true false r h k l e = absurd (let f : false ≡ true = e in cc)
    by false q r h k l e = absurd (let f : false ≡ true = e in cc)

-- 1 to 9 digits write their number
pub whole_found : (word : List ℕ) (n : ℕ) → WritesNumber 9 word n → whole word ≡ Ok n
whole_found word n w = rw (whole_is word n w) (ap Ok (sym w.writes))

pub whole_refused : (word : List ℕ) → ((n : ℕ) → ¬ WritesNumber 9 word n) → whole word ≡ Err Whole
whole_refused word none = elim (cases_Bool (is_whole word)) [
  | inl e ↦ absurd (none (digits_value 10 word) (whole_writes word e))
  | inr e ↦ rw e refl
]

pub whole_says : (word : List ℕ) (n : ℕ) → whole word ≡ Ok n → IsWholeNumber word n
whole_says word n e = by (is_whole word) refl e
  where
    by : (b : Bool) → is_whole word ≡ b → (if b then Ok (digits_value 10 word) else Err Whole) ≡ Ok n → IsWholeNumber word n
    by true f k = subst (IsWholeNumber word) (same_value (digits_value 10 word) n k) (whole_writes word f)
    by false f k = absurd (let q : Err Whole ≡ Ok n = k in cc)

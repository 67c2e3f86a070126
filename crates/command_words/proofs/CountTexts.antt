-- The numbers below 2^64 that texts spell.
use Rattle.std.proofs.Common.{◌≡◌, ◌<◌, ◌≤◌, ◌^◌, ◌-◌, ◌&&◌, ℕ, List, Some, None, true, arith, sym, ap, ◌∙◌, refl, inl, inr, length, if◌then◌else◌}
use Rattle.std.specs.Prelude.{nat_lt, nat_le}
use Rattle.std.specs.Char.{is_ascii_digit}
use Rattle.std.specs.List.{list_all}
use Rattle.std.specs.Str.Parse.{digits_value}
use Rattle.std.proofs.lemmas.Bool.{and_parts, and_from, and_right, cases_Bool, ltb-true, leb-true, lt-ltb, le-ltb, le-leb}
use Rattle.numerals.specs.WholeNumbers.{WritesNumber}
use Rattle.numerals.proofs.WholeNumbers.{are_digits, digits_tested}
use Rattle.command_words.specs.Counts.{is_short, count_of}

-- a text of 1 to 20 digits writes a number
short_writes : (text : List ℕ) → is_short text ≡ true → WritesNumber 20 text (digits_value 10 text)
short_writes text h =
    let a = and_parts (nat_lt 0 (length text)) (nat_le (length text) 20 && list_all is_ascii_digit text) h in
    let b = and_parts (nat_le (length text) 20) (list_all is_ascii_digit text) a.1 in
    record { digits = are_digits text b.1; some = ltb-true 0 (length text) a.0; few = leb-true (length text) 20 b.0; writes = refl }

writes_short : (text : List ℕ) (m : ℕ) → WritesNumber 20 text m → is_short text ≡ true
writes_short text m w =
    and_from _ _ (lt-ltb 0 (length text) w.some) (and_from _ _ (le-leb (length text) 20 w.few) (digits_tested text w.digits))

pub none_spelt : (text : List ℕ) → ((n : ℕ) → ¬ WritesNumber 20 text n) → None ≡ count_of text
unfolding count_of
none_spelt text none = elim (cases_Bool (is_short text && nat_lt (digits_value 10 text) (2 ^ 64))) [
  | inl e ↦ absurd (none (digits_value 10 text) (short_writes text (and_parts _ _ e).0))
  | inr e ↦ sym (ap (λ b. if b then Some (digits_value 10 text) else None) e)
]

pub large_none : (text : List ℕ) (m : ℕ) → WritesNumber 20 text m → 2 ^ 64 - 1 < m → None ≡ count_of text
unfolding count_of
large_none text m w l =
    let value = w.writes in
    let e = and_right (is_short text) (nat_lt (digits_value 10 text) (2 ^ 64)) (le-ltb (digits_value 10 text) (2 ^ 64) (omega (arith, value, l))) in
    sym (ap (λ b. if b then Some (digits_value 10 text) else None) e)

pub count_spelt : (text : List ℕ) (m : ℕ) → WritesNumber 20 text m → m ≤ 2 ^ 64 - 1 → Some m ≡ count_of text
unfolding count_of
count_spelt text m w l =
    let value = w.writes in
    let e = and_from (is_short text) (nat_lt (digits_value 10 text) (2 ^ 64)) (writes_short text m w)
    (lt-ltb (digits_value 10 text) (2 ^ 64) (omega (arith, value, l))) in
    ap Some w.writes ∙ sym (ap (λ b. if b then Some (digits_value 10 text) else None) e)

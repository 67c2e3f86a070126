-- A scan of a text.
use Rattle.std.proofs.Common.{◌≡◌, ℕ, ◌+◌, ◌<◌, ◌≤◌, true, false, List, [], ◌∷◌, length, get_or, drop, Some, None, Ok, Err, refl}
use Rattle.std.proofs.Common.{sym, ap, ◌∙◌, arith}
use Rattle.std.proofs.lemmas.List.{drop_more, drop_all}
use Rattle.field_core.proofs.Longest.{accepts_then, count, count_then, count_nil, count_cons, stops_behind}
use Rattle.numerals.specs.declared.fault.NumberFault.TheVariants.{Empty, BadByte}
use Rattle.numerals.specs.declared.numeral_machine.State.{State}
use Rattle.numerals.specs.declared.numeral_machine.State.TheVariants.{Start, Decimal, Slash, Under}
use Rattle.numerals.specs.DecimalMachine.{class_of}
use Rattle.numerals.specs.NumeralMachine.{step, byte_step, is_final}
use Rattle.numerals.specs.Numeral.{IsNumeral}
use Rattle.numerals.specs.Prefixes.{IsBadByte}
use Rattle.numerals.specs.Checking.{IsChecked}
use Rattle.numerals.specs.declared.decimal_machine.DecimalPart.TheVariants as parts
use Rattle.numerals.proofs.DecimalLengths.{completion, completes}
use Rattle.numerals.proofs.Accepted.{reads, reads_nil, reads_cons, goes_on, accepted}
use Rattle.numerals.proofs.Read.{is_numeral}

-- how many bytes of t may follow in a state
abbrev pub reached : List ℕ → State → ℕ
reached t s = count byte_step t s

pub reads_on : (text : List ℕ) (i : ℕ) (s t : State) → i < length text → step s (class_of (get_or text i 0)) ≡ Some t
    → reads (drop i text) s ≡ reads (drop (i + 1) text) t
reads_on text i s t lt e = ap (λ (x : List ℕ). reads x s) (drop_more text i 0 lt) ∙ reads_cons (get_or text i 0) (drop (i + 1) text) s
    ∙ ap (accepts_then (reads (drop (i + 1) text))) e

pub reads_off : (text : List ℕ) (i : ℕ) (s : State) → i < length text → step s (class_of (get_or text i 0)) ≡ None → reads (drop i text) s ≡ false
reads_off text i s lt e = ap (λ (x : List ℕ). reads x s) (drop_more text i 0 lt) ∙ reads_cons (get_or text i 0) (drop (i + 1) text) s
    ∙ ap (accepts_then (reads (drop (i + 1) text))) e

pub reads_end : (text : List ℕ) (n : ℕ) (s : State) → length text ≤ n → reads (drop n text) s ≡ is_final s
reads_end text n s h = ap (λ (x : List ℕ). reads x s) (drop_all n text h) ∙ reads_nil s

pub reached_on : (text : List ℕ) (i : ℕ) (s t : State) → i < length text → step s (class_of (get_or text i 0)) ≡ Some t
    → reached (drop i text) s ≡ 1 + reached (drop (i + 1) text) t
reached_on text i s t lt e = ap (λ (x : List ℕ). reached x s) (drop_more text i 0 lt)
    ∙ count_cons byte_step is_final (get_or text i 0) (drop (i + 1) text) s ∙ ap (count_then (reached (drop (i + 1) text))) e

pub reached_off : (text : List ℕ) (i : ℕ) (s : State) → i < length text → step s (class_of (get_or text i 0)) ≡ None → reached (drop i text) s ≡ 0
reached_off text i s lt e = ap (λ (x : List ℕ). reached x s) (drop_more text i 0 lt)
    ∙ count_cons byte_step is_final (get_or text i 0) (drop (i + 1) text) s ∙ ap (count_then (reached (drop (i + 1) text))) e

pub reached_end : (text : List ℕ) (n : ℕ) (s : State) → length text ≤ n → reached (drop n text) s ≡ 0
reached_end text n s h = ap (λ (x : List ℕ). reached x s) (drop_all n text h) ∙ count_nil byte_step is_final s

-- how a numeral may end of which so much was read
completion_from : State → List ℕ
completion_from (Decimal part) = completion part
completion_from Under = []
completion_from state = 48 ∷ []

digit_completes : (s : State) → accepts_then (reads []) (step s (class_of 48)) ≡ true → reads (48 ∷ []) s ≡ true
digit_completes s h = reads_cons 48 [] s ∙ h

completes_from : (s : State) → reads (completion_from s) s ≡ true
unfolding completion_from class_of
completes_from Start = digit_completes Start (reads_nil (Decimal parts.Whole))
completes_from (Decimal part) = goes_on (completion part) part (completes part)
completes_from Slash = digit_completes Slash (reads_nil Under)
completes_from Under = reads_nil Under

bad_byte : (t : List ℕ) → reads t Start ≡ false → IsBadByte IsNumeral t (reached t Start)
bad_byte t h =
    let l = stops_behind byte_step is_final completion_from completes_from IsNumeral Start accepted is_numeral t in
    record {
      refused = λ n. let e = sym (accepted t n) ∙ h in cc;
      within = l.within;
      begins = record { rest = l.rest; whole = l.whole };
      longest = λ m le b. l.longest m b.rest le b.whole;
    }

some_not_nil : (t : List ℕ) → 0 < length t → ¬ (t ≡ [])
some_not_nil t some e = let n : length t ≡ 0 = ap length e in omega arith

pub checked_empty : (t : List ℕ) → length t ≡ 0 → IsChecked t (Err Empty)
unfolding IsChecked
checked_empty [] h = refl
checked_empty (b ∷ t) h = absurd (omega arith)

pub checked_numeral : (t : List ℕ) → reads t Start ≡ true → IsChecked t (Ok tt)
unfolding IsChecked
checked_numeral t h = is_numeral t h

pub checked_bad : (t : List ℕ) (n : ℕ) → 0 < length t → reads t Start ≡ false → reached t Start ≡ n → IsChecked t (Err (BadByte n))
unfolding IsChecked
checked_bad t n some h e = rw (← e) (some_not_nil t some, bad_byte t h)

-- `reading_of` returns what the rules give.
use Rattle.std.proofs.Common.{◌≡◌, ◌↔◌, ℕ, subst, Option}
use Rattle.fraction.specs.declared.fraction.Fraction.{Fraction}
use Rattle.typed_numbers.specs.Rules.{IsReadingOf}
use Rattle.typed_numbers.specs.Readings.{reading_of}
use Rattle.typed_numbers.specs.Laws.Total.{some_reading}
use Rattle.typed_numbers.proofs.Unique.{one_reading}

pub by_the_rules : (bits : ℕ) (x : Option Fraction) → (reading_of bits ≡ x) ↔ IsReadingOf bits x
unfolding reading_of
by_the_rules bits x = (λ e. subst (λ z. IsReadingOf bits z) e (some_reading bits).1, λ k. one_reading bits (some_reading bits).0 x (some_reading bits).1 k)

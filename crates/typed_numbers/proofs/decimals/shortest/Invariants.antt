use Rattle.std.proofs.Common.{◌≡◌, ℕ, ◌<◌, ◌^◌}
use Rattle.typed_numbers.specs.Searches.{IsDecimalIn}
use Rattle.typed_numbers.proofs.decimals.shortest.Given as goal

-- No decimal with fewer places is in the interval.
abbrev pub invariant-loop-digits : goal.invariant-loop-digits
invariant-loop-digits l = record {
  power : l.five ≡ 5 ^ l.digits;
  none : (m i : ℕ) → i < l.digits → ¬ IsDecimalIn l.x.places l.x.low l.x.high l.x.ends i m;
}

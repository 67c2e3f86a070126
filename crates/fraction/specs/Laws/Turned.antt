use Rattle.std.proofs.Common.{◌≡◌, ◌≢◌, ℕ, zero, suc, refl, arith, ℤ, pos, negsuc, ◌<ℤ◌, ◌≤ℤ◌, neg_ℤ}
use Rattle.std.proofs.lemmas.Int.{ints}
use Rattle.field_core.specs.Divisor.{gcd}
use Rattle.field_core.specs.Terms.{Terms, IsReduced}
use Rattle.fraction.specs.Written.{opposite, inverse, inverse_of}
use Rattle.field_core.proofs.Wholes.{size_negated}
use Rattle.field_core.proofs.Coprime.{apart_from_gcd, gcd_from_apart, apart_swap}

gcd_swap : (a b : ℕ) → gcd a b ≡ 1 → gcd b a ≡ 1
gcd_swap a b h = gcd_from_apart b a (apart_swap a b (apart_from_gcd a b h))

pub opposite_reduced : (x : Terms) → IsReduced x → IsReduced (opposite x)
unfolding opposite
opposite_reduced x r = record {
  positive = r.positive;
  num_size = rw (size_negated x.num) r.num_size;
  den_size = r.den_size;
  reduced = rw (size_negated x.num) r.reduced;
}

turned : (n d : ℤ) → IsReduced (record { num = n; den = d }) → n ≢ pos 0 → IsReduced (inverse_of n d)
turned (pos zero) d r h = absurd (h refl)
turned (pos (suc n)) d r h = record { positive = omega (arith, ints); num_size = r.den_size; den_size = r.num_size; reduced = gcd_swap _ _ r.reduced }
turned (negsuc n) d r h = record {
  positive = omega (arith, ints);
  num_size = rw (size_negated d) r.den_size;
  den_size = r.num_size;
  reduced = rw (size_negated d) (gcd_swap _ _ r.reduced);
}

pub inverse_reduced : (x : Terms) → IsReduced x → x.num ≢ pos 0 → IsReduced (inverse x)
unfolding inverse
inverse_reduced x r h = turned x.num x.den r h

pub turned_below : (n d r s : ℤ) → IsReduced (record { num = n; den = d }) → n <ℤ pos 0 → r ≡ neg_ℤ n → s ≡ neg_ℤ d
    → IsReduced (record { num = s; den = r })
turned_below (pos n) d r s R h e f = absurd (omega (arith, ints))
turned_below (negsuc n) d r s R h e f = rw (e, f) (turned (negsuc n) d R (λ g. cc))

pub turned_above : (n d : ℤ) → IsReduced (record { num = n; den = d }) → n ≢ pos 0 → pos 0 ≤ℤ n → IsReduced (record { num = d; den = n })
turned_above (pos n) d R h p = turned (pos n) d R h
turned_above (negsuc n) d R h p = absurd (omega (arith, ints))

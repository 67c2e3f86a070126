-- A loop that rewrites the coefficients of ascending powers in place.
use Rattle.std.proofs.Common.{◌≡◌, ℕ, ◌+◌, ◌<◌, ◌≤◌, List, length, set, refl, ◌∙◌, arith, ℤ, inl, inr}
use Rattle.std.proofs.lemmas.Bool.{cases_eq, cases_lt}
use Rattle.std.proofs.lemmas.List.{length-set}
use Rattle.field_core.specs.Polynomial.{coefficient}
use Rattle.eps_poly.proofs.Coefficients.{coefficient-set_same, coefficient-set_other}

-- the first n coefficients are as P says, and the others are as before
pub record Rewritten (P : ℕ → ℤ → Type 0) (before p : List ℤ) (n : ℕ) : Type 0 where
  pub count : length p ≡ length before
  pub front : (k : ℕ) → k < n → P k (coefficient p k)
  pub rest : (k : ℕ) → n ≤ k → coefficient p k ≡ coefficient before k

pub rewritten_none : (P : ℕ → ℤ → Type 0) (p : List ℤ) → Rewritten P p p 0
rewritten_none P p = record { count = refl; front = λ k h. absurd (omega arith); rest = λ k h. refl }

pub rewritten_more : (P : ℕ → ℤ → Type 0) (before p : List ℤ) (n : ℕ) (c : ℤ) → n < length before → Rewritten P before p n → P n c
    → Rewritten P before (set p n c) (n + 1)
rewritten_more P before p n c room r here =
    let all = r.count in
    record {
      count = length-set p n c ∙ r.count;
      front = λ k h. elim (cases_eq k n) [
        | inl e ↦ rw (e, coefficient-set_same p n c (omega arith)) here
        | inr apart ↦ rw (coefficient-set_other p n k c apart) (r.front k (omega arith))
      ];
      rest = λ k h. coefficient-set_other p n k c (λ e. absurd (omega arith)) ∙ r.rest k (omega arith);
    }

-- what is as before is as P says too
pub rewritten_all : (P : ℕ → ℤ → Type 0) (before p : List ℤ) (n : ℕ) → ((k : ℕ) → n ≤ k → P k (coefficient before k))
    → Rewritten P before p n → (k : ℕ) → P k (coefficient p k)
rewritten_all P before p n past r k = elim (cases_lt k n) [
  | inl l ↦ r.front k l
  | inr l ↦ rw (r.rest k l) (past k l)
]

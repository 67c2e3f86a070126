-- The closed test of any local test.
use Rattle.std.proofs.Common.{◌≡◌, inl, inr, sym, ap, ◌∙◌, subst, ℕ, ◌^◌, ◌<◌, Bool, true, false, arith, ◌↔◌}
use Rattle.std.proofs.lemmas.Bool.Decides.{nat_tests}
use Rattle.field_core.specs.Sets.{IsIn, IsSubset, HaveSameMembers, adding}
use Rattle.field_core.specs.NumberedSets.{members, set_number}
use Rattle.field_core.proofs.Sizes.{missing, added_subset, within_adding}
use Rattle.field_core.proofs.Members.{members_number, number_below}
use Rattle.case_model.specs.ClosedTest.{only, IsClosedRejectedBy, IsRejectedBy}
use Rattle.case_model.specs.SetAnswers.{AnswersFor, IsYesAbove}

-- ---- sets of one hypothesis

pub only_itself : (j : ℕ) → only j j ≡ true
only_itself j = grind (arith, nat_tests)

pub in_only : (j i : ℕ) → only j i ≡ true → i ≡ j
in_only j i h = grind (arith, nat_tests)

pub only_subset : (m j : ℕ) (I : ℕ → Bool) → I j ≡ true → IsSubset m (only j) I
only_subset m j I h i q e = ap I (in_only j i e) ∙ h

module _ (m : ℕ) (Local : (ℕ → Bool) → Type 0) where
  pub set_rejected_by : (S : ℕ → Bool) (j : ℕ) → IsIn m S j → IsClosedRejectedBy m Local S ↔ ((I : ℕ → Bool) → IsSubset m S I → Local I)
  set_rejected_by S j q = (λ r. r.each, λ each. record { some = j; member = q; each = each })

  pub rejected_each_by : (j : ℕ) → IsRejectedBy m Local j → (I : ℕ → Bool) → IsIn m I j → Local I
  rejected_each_by j r I q = r.each I (only_subset m j I q.member)

  pub all_rejected_by : (j : ℕ) → j < m → ((I : ℕ → Bool) → IsIn m I j → Local I) → IsRejectedBy m Local j
  all_rejected_by j q each = record {
    some = j;
    member = record { below = q; member = only_itself j };
    each = λ I sub. each I (record { below = q; member = sub j q (only_itself j) });
  }

  -- only a hypothesis can be rejected
  pub rejected_below_by : (j : ℕ) → IsRejectedBy m Local j → j < m
  rejected_below_by j r = subst (λ i. i < m) (in_only j r.some r.member.member) r.member.below

  -- what holds a rejected set is rejected
  pub closed_larger_by : (S T : ℕ → Bool) → IsSubset m S T → IsClosedRejectedBy m Local S → IsClosedRejectedBy m Local T
  closed_larger_by S T sub r = record {
    some = r.some;
    member = record { below = r.member.below; member = sub r.some r.member.below r.member.member };
    each = λ I above. r.each I (λ i q e. above i q (sub i q e));
  }

  -- only the members of a set count
  pub closed_same_by : (S T : ℕ → Bool) → HaveSameMembers m S T → IsClosedRejectedBy m Local S → IsClosedRejectedBy m Local T
  closed_same_by S T same = closed_larger_by S T (λ i q e. sym (same i q) ∙ e)

  -- (The local test doesn't distinguish sets with the same members, and a set that it rejects has a member.)
  module _ (same : (I J : ℕ → Bool) → HaveSameMembers m I J → Local I → Local J)
      (some : (I : ℕ → Bool) → Local I → (k : ℕ) × IsIn m I k) where
    -- a set is rejected by the sets with one member more
    by_larger : (S : ℕ → Bool) → Local S → ((k : ℕ) → k < m → S k ≡ false → IsClosedRejectedBy m Local (adding k S))
        → IsClosedRejectedBy m Local S
    by_larger S l more = let k = some S l in record { some = k.0; member = k.1; each = each }
      where
        each : (I : ℕ → Bool) → IsSubset m S I → Local I
        each I h = elim (missing m S I h) [
          | inl s ↦ same S I s l
          | inr x ↦ (more x.0 x.1.below x.2).each I (added_subset m x.0 S I h x.1.member)
        ]

    pub rejected_next_by : (S : ℕ → Bool) → IsClosedRejectedBy m Local S
        ↔ (Local S × ((k : ℕ) → k < m → S k ≡ false → IsClosedRejectedBy m Local (adding k S)))
    rejected_next_by S = (λ r. (r.each S (λ i q e. e), λ k q f. closed_larger_by S (adding k S) (within_adding m k S) r), λ h. by_larger S h.0 h.1)

    -- what the local test says of all sets, the closed test says of what they hold
    pub closed_of_by : (local : ℕ → Bool) → AnswersFor m Local local → (n : ℕ) → n < 2 ^ m → IsYesAbove m local n
        ↔ IsClosedRejectedBy m Local (members n)
    closed_of_by local answers n b = (to, λ r o there h. (answers o there).1 (r.each (members o) h))
      where
        to : IsYesAbove m local n → IsClosedRejectedBy m Local (members n)
        to above = let k = some (members n) ((answers n b).0 (above n b (λ i q e. e))) in record { some = k.0; member = k.1; each = each }
          where
            each : (I : ℕ → Bool) → IsSubset m (members n) I → Local I
            each I h =
                let s = members_number m I in
                same (members (set_number m I)) I s
                ((answers (set_number m I) (number_below m I)).0 (above (set_number m I) (number_below m I) (λ i q e. s i q ∙ h i q e)))

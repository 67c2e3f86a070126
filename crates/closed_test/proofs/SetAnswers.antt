-- What the tests of a case say of all sets, by its weights; and the closed test of any local test.
use Rattle.std.proofs.Common.{◌≡◌, sym, subst, ℕ, ◌^◌, ◌<◌, ◌↔◌, Bool, true, List, length, arith}
use Rattle.field_core.specs.declared.ratio.Ratio.{Ratio}
use Rattle.field_core.specs.Sets.{IsIn, HaveSameMembers}
use Rattle.field_core.specs.NumberedSets.{members}
use Rattle.fraction.specs.View.{number_of}
use Rattle.case_model.specs.declared.inputs.Inputs.{Inputs}
use Rattle.case_model.specs.declared.inputs.Inputs.TheVariants.{Bare, Single, Staged}
use Rattle.case_model.specs.Sums.{number_at}
use Rattle.case_model.specs.Content.{Content, ForSingle, entangled}
use Rattle.case_model.specs.ClosedTest.{IsClosedRejectedBy, AtLevel, IsLocallyRejected, IsClosedRejected}
use Rattle.case_model.specs.SetAnswers.{AnswersFor, AreClosedFrom}
use Rattle.case_model.proofs.ClosedTests.{closed_of_by}
use Rattle.case_model.proofs.LocalTests.{locally_same_by, some_legal_by}
use Rattle.case_model.proofs.ClosedTestLaws.{passes_legal, legal_passes}
use Rattle.closed_test.specs.SetWeights.{AreIntersectionWeights}
use Rattle.closed_test.specs.SetTests.{AreLocalAnswers, AreClosedAnswers}
use Rattle.closed_test.specs.Passing.{HasPassing}

-- a fact of the p-values, where they are known
pub of_single : (P : List Ratio → Type 0) (inputs : Inputs) (ps : List Ratio) → inputs ≡ Single ps → P ps → ForSingle inputs P
of_single P inputs ps e h = subst (λ i. ForSingle i P) (sym e) h

pub for_single : (P Q : List Ratio → Type 0) → ((ps : List Ratio) → P ps → Q ps) → (inputs : Inputs) → ForSingle inputs P → ForSingle inputs Q
for_single P Q f (Single ps) h = f ps h
for_single P Q f Bare h = h
for_single P Q f (Staged s) h = h

module _ (c : Content) (ps : List Ratio) (weight : ℕ → ℕ → Ratio) (W : AreIntersectionWeights c weight) where
  passing_rejected : (n : ℕ) → n < 2 ^ length c.names → HasPassing (length c.names) ps weight c.alpha n
      → IsLocallyRejected (entangled c) (number_at ps) (number_of c.alpha) (members n)
  unfolding entangled
  passing_rejected n b h = record {
    hypothesis = h.hypothesis;
    legal = passes_legal (entangled c) (number_at ps) (number_of c.alpha) (members n) h.hypothesis (number_of (weight n h.hypothesis)) h.member
        (W n h.hypothesis b h.member) h.passes;
  }

  rejected_passing : (n : ℕ) → n < 2 ^ length c.names → IsLocallyRejected (entangled c) (number_at ps) (number_of c.alpha) (members n)
      → HasPassing (length c.names) ps weight c.alpha n
  unfolding entangled
  rejected_passing n b r = record {
    hypothesis = r.hypothesis;
    member = r.legal.member;
    passes = legal_passes (entangled c) (number_at ps) (number_of c.alpha) (members n) r.hypothesis (number_of (weight n r.hypothesis)) r.legal
        (W n r.hypothesis b r.legal.member);
  }

  pub local_answers_are : (table : ℕ → Bool) → c.inputs ≡ Single ps
      → ((n : ℕ) → n < 2 ^ length c.names → (table n ≡ true) ↔ HasPassing (length c.names) ps weight c.alpha n) → AreLocalAnswers c table
  local_answers_are table inputs each =
      of_single (λ qs. AnswersFor (length c.names) (IsLocallyRejected (entangled c) (number_at qs) (number_of c.alpha)) table) c.inputs ps inputs
      (λ n b. (λ t. passing_rejected n b ((each n b).0 t), λ r. (each n b).1 (rejected_passing n b r)))

-- a table of any local test, and the table of its closed test. The local test doesn't distinguish sets with the same members, and a set that it
-- rejects has a member
pub closed_by : (m : ℕ) (Local : (ℕ → Bool) → Type 0) → ((I J : ℕ → Bool) → HaveSameMembers m I J → Local I → Local J)
    → ((I : ℕ → Bool) → Local I → (k : ℕ) × IsIn m I k)
    → (local closed : ℕ → Bool) → AreClosedFrom m local closed 0 → AnswersFor m Local local → AnswersFor m (IsClosedRejectedBy m Local) closed
closed_by m Local same some local closed h answers n b =
    let f = h n (omega arith) b in
    let g = closed_of_by m Local same some local answers n b in
    (λ t. g.0 (f.0 t), λ r. f.1 (g.1 r))

closed_for : (c : Content) (local closed : ℕ → Bool) → AreClosedFrom (length c.names) local closed 0 → (ps : List Ratio)
    → AnswersFor (length c.names) (IsLocallyRejected (entangled c) (number_at ps) (number_of c.alpha)) local
    → AnswersFor (length c.names) (IsClosedRejected (entangled c) (number_at ps) (number_of c.alpha)) closed
unfolding entangled
closed_for c local closed h ps =
    let E = entangled c in
    let test = AtLevel (number_at ps) (number_of c.alpha) in
    closed_by (length c.names) (IsLocallyRejected E (number_at ps) (number_of c.alpha)) (locally_same_by E test) (some_legal_by E test) local closed h

pub closed_answers_are : (c : Content) (local closed : ℕ → Bool) → AreClosedFrom (length c.names) local closed 0 → AreLocalAnswers c local
    → AreClosedAnswers c closed
closed_answers_are c local closed h = for_single _ _ (closed_for c local closed h) c.inputs

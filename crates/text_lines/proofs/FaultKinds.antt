-- What is wrong with a line isn't that a text ended.
use Rattle.std.proofs.Common.{◌≡◌, ◌≢◌, ◌⊎◌, inl, inr, ℕ, List, [], ◌∷◌, ◌++◌, Option, Some, None, Result, Ok, Err, refl, sym, ap, subst, ◌∙◌, append_assoc}
use Rattle.field_core.specs.Answers.{and_then}
use Rattle.field_core.proofs.Results.{same_fault}
use Rattle.text_lines.specs.Faults.{FaultAt}
use Rattle.text_lines.specs.Forms.{Leaf, Form, Say, Line, Then, May, Many, Kinds, Seen, Took, Takes, Passes, Wrong, one_taken, then_taken, may_take, next, took_on, read, all_read, reading, Is, IsDocument}
use Rattle.text_lines.specs.FormStatements.{BeginsDocument, IsWhereNoneGoesOn, IsUnfinished}
use Rattle.text_lines.proofs.FormReads.{is_read, read_is, reading_as}
use Rattle.text_lines.proofs.FormEnds.{can_on, Whole, CanAfter, Can}
use Rattle.text_lines.proofs.FormFaults.{faults_end}
use Rattle.text_lines.specs.FormStatements.{IsFirstWrong}

leaf_wrong : {K A : Type 0} (k e : K) → ◌≢◌ {A = Option (Result A K)} (Some (Err k)) (Some (Err e)) → k ≢ e
leaf_wrong {K} {A} k e n q = n (ap {B = Option (Result A K)} (λ x. Some (Err x)) q)

module _ {L K : Type 0} (U : Kinds K) where
  -- no line of this kind is refused as an end
  abbrev pub LeafRuns : {A : Type 0} → Leaf L K A → Type 0
  LeafRuns l = (line : L) → l line ≢ Some (Err U.ended)

  abbrev pub Runs : {A : Type 0} → Form L K A → Type 0
  Runs (Say a) = Unit {0}
  Runs (Line l) = LeafRuns l
  Runs (Then {A} f g) = Runs f × ((a : A) → Runs (g a))
  Runs (May {A} l body other) = LeafRuns l × ((a : A) → Runs (body a)) × Runs other
  Runs (Many {A} {B} l body xs) = LeafRuns l × ((ys : List B) (a : A) → Runs (body ys a))

  abbrev TookRuns : {A : Type 0} → Took L K A → Type 0
  TookRuns (Takes f) = Runs f
  TookRuns (Passes a) = Unit {0}
  TookRuns (Wrong k) = k ≢ U.ended

  module _ (apart : U.unexpected ≢ U.ended) where
    next_runs : {A : Type 0} (f : Form L K A) (line : L) → Runs f → TookRuns (next U f line)
    next_runs (Say a) line h = tt
    next_runs (Line {A} l) line h = by (l line) (h line)
      where
        by : (o : Option (Result A K)) → o ≢ Some (Err U.ended) → TookRuns (one_taken U o)
        by (Some (Ok a)) n = tt
        by (Some (Err k)) n = leaf_wrong {A = A} k U.ended n
        by None n = apart
    next_runs (Then {A} {B} f g) line h = by (next U f line) (next_runs f line h.0) (λ a. next_runs (g a) line (h.1 a))
      where
        by : (t : Took L K A) → TookRuns t → ((a : A) → TookRuns (next U (g a) line)) → TookRuns (then_taken t g (λ a. next U (g a) line))
        by (Takes f) r more = (r, h.1)
        by (Passes a) r more = more a
        by (Wrong k) r more = r
    next_runs (May {A} {B} l body other) line h = by (l line) (h.0 line) (next_runs other line h.2)
      where
        by : (o : Option (Result A K)) → o ≢ Some (Err U.ended) → TookRuns (next U other line) → TookRuns (may_take o body (next U other line))
        by (Some (Ok a)) n more = h.1 a
        by (Some (Err k)) n more = leaf_wrong {A = A} k U.ended n
        by None n more = more
    next_runs (Many {A} {B} l body xs) line h = by (l line) (h.0 line)
      where
        by : (o : Option (Result A K)) → o ≢ Some (Err U.ended) → TookRuns (may_take o (λ a. Then (body xs a) (λ x. Many l body (xs ++ x ∷ []))) (Passes xs))
        by (Some (Ok a)) n = (h.1 xs a, (λ x. (h.0, h.1)))
        by (Some (Err k)) n = leaf_wrong {A = A} k U.ended n
        by None n = tt

    before : {A : Type 0} (f g : Form L K A) (row : Seen L) (rows : List (Seen L)) → next U f row.line ≡ Takes g → BeginsDocument g rows → BeginsDocument f (row ∷ rows)
    before f g row rows e b = record {
      more = b.more;
      said = b.said;
      is = let k = is_read U g (rows ++ b.more) b.said [] 0 b.is in
          read_is U f (row ∷ rows ++ b.more) 0 b.said [] (ap (λ t. took_on t row (rows ++ b.more) (λ x. read U x (rows ++ b.more) 0)) e ∙ k);
    }

    -- a fault is of a line, or all lines were taken
    kind_or_end : {A : Type 0} (f : Form L K A) (rows : List (Seen L)) (end : ℕ) (fault : FaultAt K) → Runs f → Can U f Whole → reading U f rows end ≡ Err fault
        → (fault.kind ≢ U.ended) ⊎ BeginsDocument f rows
    kind_or_end f [] end fault runs can e =
        let c = can [] in inr (record { more = c.0; said = c.1.0; is = subst (λ rs. Is f c.0 c.1.0 rs) c.1.3 c.1.2 })
    kind_or_end {A} f (row ∷ rows) end fault runs can e =
        by (next U f row.line) refl (next_runs f row.line runs) (can (row ∷ rows)) e (λ g. kind_or_end g rows end fault)
      where
        by : (t : Took L K A) → next U f row.line ≡ t → TookRuns t → can_on t (λ g. CanAfter U g Whole rows)
            → and_then {A = A × List (Seen L)} (took_on t row rows (λ g. read U g rows end)) (λ p. all_read U p.0 p.1) ≡ Err fault
            → ((g : Form L K A) → Runs g → Can U g Whole → reading U g rows end ≡ Err fault → (fault.kind ≢ U.ended) ⊎ BeginsDocument g rows)
            → (fault.kind ≢ U.ended) ⊎ BeginsDocument f (row ∷ rows)
        by (Takes g) h r c k later =
            elim (later g r (λ more. subst (λ t. can_on t (λ x. CanAfter U x Whole more)) h (can (row ∷ more))) k) [ inl n ↦ inl n | inr b ↦ inr (before f g row rows h b) ]
        by (Passes a) h r c k later =
            let s : record { line = row.number; kind = U.unexpected } ≡ fault = same_fault (record { line = row.number; kind = U.unexpected }) fault k in
            inl (subst (λ x. x.kind ≢ U.ended) s apart)
        by (Wrong kind) h r c k later =
            let s : record { line = row.number; kind = kind } ≡ fault = same_fault (record { line = row.number; kind = kind }) fault k in
            inl (subst (λ x. x.kind ≢ U.ended) s r)

    -- lines that begin a document have no line with which none continues
    still_begins : {A : Type 0} (f : Form L K A) (rows : List (Seen L)) (number : ℕ) → BeginsDocument f rows → ¬ IsWhereNoneGoesOn f rows number
    still_begins f rows number b w = w.refused (record {
      more = w.after ++ b.more;
      said = b.said;
      is = subst (λ rs. IsDocument f rs b.said)
          (ap (λ rs. rs ++ b.more) w.rows_are ∙ append_assoc w.before (w.row ∷ w.after) b.more ∙ sym (append_assoc w.before (w.row ∷ []) (w.after ++ b.more))) b.is;
    })

    pub first_wrong : {A : Type 0} (f : Form L K A) (rows : List (Seen L)) (end : ℕ) → Runs f → Can U f Whole → IsFirstWrong U f rows end
    first_wrong f rows end runs can fault e = elim (faults_end U f rows end can fault e) [
      | inl w ↦ elim (kind_or_end f rows end fault runs can e) [ inl n ↦ inl (n, w) | inr b ↦ absurd (still_begins f rows fault.line b w) ]
      | inr u ↦ inr u
    ]

    -- and lines that only begin a document have their fault at their end
    pub unfinished_end : {A : Type 0} (f : Form L K A) (rows : List (Seen L)) (end : ℕ) → Can U f Whole → IsUnfinished f rows
        → reading U f rows end ≡ Err (record { line = end; kind = U.ended })
    unfinished_end {A} f rows end can u = by (reading U f rows end) refl
      where
        by : (r : Result A (FaultAt K)) → reading U f rows end ≡ r → r ≡ Err (record { line = end; kind = U.ended })
        by (Ok a) e = absurd (u.refused a ((reading_as U f rows end a).0 e))
        by (Err fault) e = elim (faults_end U f rows end can fault e) [
          | inl w ↦ absurd (still_begins f rows fault.line u.begins w)
          | inr w ↦ ap Err w.0
        ]

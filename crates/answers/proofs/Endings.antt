-- The clause of a top call, from the outcome that was put.
use Rattle.std.proofs.Common.{◌≡◌, ℕ, ◌≤◌, ◌+◌, length, inl, inr, refl, sym, ◌∙◌, arith, Result, Ok, Err}
use Rattle.std.specs.Prelude.{OnOk}
use Rattle.std.specs.Io.KnownBytes.{Appends}
use Rattle.graph_io.specs.Causes.{Rose}
use Rattle.graph_io.specs.Writing.{AppendsPrefix}
use Rattle.answers.specs.declared.answer.Answer.{Answer}
use Rattle.answers.specs.declared.cause.Cause.{Cause}
use Rattle.answers.specs.declared.cause.Cause.TheVariants.{Usage, Malformed, Limit, TooWide}
use Rattle.answers.specs.declared.status.Status.{Status}
use Rattle.answers.specs.declared.status.Status.TheVariants as statuses
use Rattle.answers.specs.declared.stop.Stop.{Stop}
use Rattle.answers.specs.declared.stop.Stop.TheVariants.{Refused, ReadFault, KeeperFault, NoMemory}
use Rattle.answers.specs.Codes.{cause_code, status_code}
use Rattle.answers.specs.Devices.{Writing}
use Rattle.answers.specs.Lines.{refused, read_fault, no_memory, keeper_fault}
use Rattle.answers.specs.Runs.{Runs, Finished, MayAnswer, IsPutBriefly, text_of, status_of, IsConcluded}
use Rattle.answers.specs.Ways.{Ways, EndsIn, IfConcluded}

cause_low : (c : Cause) → (cause_code c ≤ 5) × (1 ≤ cause_code c)
cause_low Usage = (omega arith, omega arith)
cause_low Malformed = (omega arith, omega arith)
cause_low Limit = (omega arith, omega arith)
cause_low TooWide = (omega arith, omega arith)

status_low : (s : Status) → status_code s ≤ 5
status_low statuses.Done = omega arith
status_low statuses.No = omega arith
status_low (statuses.Refused c) = (cause_low c).0

module _ (w : Ways Answer) (old new : Writing) (status : ℕ) (brief : IsPutBriefly w old new status) where
  -- the sink had a fault
  failed : (outcome : Result Answer Stop) → EndsIn w outcome → status ≡ 7 → Rose old.faults new.faults
      → AppendsPrefix old.held new.held (text_of outcome) → Runs w old new status
  failed outcome h e f p = record {
    done = λ k. absurd (omega arith);
    read = λ k. absurd (omega arith);
    write = λ k. f;
    partial = λ k. record { outcome = outcome; ends = h; put = p };
    memory = λ k. absurd (omega arith);
    keeper = λ k. absurd (omega arith);
    faultless = λ k. absurd (k e);
    complete = λ r k s. absurd (s f);
    known = omega arith;
    brief = brief;
  }

  -- an answer was put, or the sink had a fault
  answered : (outcome : Result Answer Stop) → EndsIn w outcome → (a : Answer) → MayAnswer w a → text_of outcome ≡ a.text
      → Finished old new a.text (status_code a.status) status → Runs w old new status
  answered outcome h a may e (inl p) = let s = p.0 in let low = status_low a.status in record {
    done = λ k. record { answer = a; may = may; status_is = p.0; put = p.1 };
    read = λ k. absurd (omega arith);
    write = λ k. absurd (omega arith);
    partial = λ k. absurd (omega arith);
    memory = λ k. absurd (omega arith);
    keeper = λ k. absurd (omega arith);
    faultless = λ k. p.2;
    complete = λ r k t. inl (omega arith);
    known = omega arith;
    brief = brief;
  }
  answered outcome h a may e (inr p) = failed outcome h p.0 p.1 (rw e p.2)

  -- a line of a fault, or that memory was exhausted, was put
  told : (code : ℕ) → status ≡ code → 6 ≤ code → (code ≡ 7 → ⊥) → code ≤ 9 → new.faults ≡ old.faults
      → (code ≡ 6 → w.read × Appends old.held new.held read_fault) → (code ≡ 8 → w.memory × Appends old.held new.held no_memory)
      → (code ≡ 9 → w.keeper × Appends old.held new.held keeper_fault) → Runs w old new status
  told code e low seven high clean read memory keeper = record {
    done = λ k. absurd (omega arith);
    read = λ k. read (omega arith);
    write = λ k. absurd (seven (omega arith));
    partial = λ k. absurd (seven (omega arith));
    memory = λ k. memory (omega arith);
    keeper = λ k. keeper (omega arith);
    faultless = λ k. clean;
    complete = λ no_read no_keeper no_write. inr (let a : code ≡ 6 → ⊥ = λ x. no_read (read x).0 in
        let b : code ≡ 9 → ⊥ = λ x. no_keeper (keeper x).0 in omega arith);
    known = omega arith;
    brief = brief;
  }

  by_outcome : (outcome : Result Answer Stop) → EndsIn w outcome → Finished old new (text_of outcome) (status_of outcome) status → Runs w old new status
  by_outcome (Ok a) h f = answered (Ok a) h a (inl h) refl f
  by_outcome (Err (Refused r)) h f = answered (Err (Refused r)) h (refused r) (inr (r, h, refl)) refl f
  by_outcome (Err ReadFault) h (inr p) = failed (Err ReadFault) h p.0 p.1 p.2
  by_outcome (Err NoMemory) h (inr p) = failed (Err NoMemory) h p.0 p.1 p.2
  by_outcome (Err KeeperFault) h (inr p) = failed (Err KeeperFault) h p.0 p.1 p.2
  by_outcome (Err ReadFault) h (inl p) =
      told 6 p.0 (omega arith) (λ e. absurd (omega arith)) (omega arith) p.2 (λ e. (h, p.1)) (λ e. absurd (omega arith)) (λ e. absurd (omega arith))
  by_outcome (Err NoMemory) h (inl p) =
      told 8 p.0 (omega arith) (λ e. absurd (omega arith)) (omega arith) p.2 (λ e. absurd (omega arith)) (λ e. (h, p.1)) (λ e. absurd (omega arith))
  by_outcome (Err KeeperFault) h (inl p) =
      told 9 p.0 (omega arith) (λ e. absurd (omega arith)) (omega arith) p.2 (λ e. absurd (omega arith)) (λ e. absurd (omega arith)) (λ e. (h, p.1))

-- The whole clause of a top call that ends in one of its ways and concludes.
pub runs_of : (w : Ways Answer) (old new : Writing) (status : ℕ) (outcome : Result Answer Stop) → EndsIn w outcome
    → Finished old new (text_of outcome) (status_of outcome) status → new.calls ≤ old.calls + length (text_of outcome) → Runs w old new status
runs_of w old new status outcome h f puts = by_outcome w old new status (record { outcome = outcome; ends = h; finished = f; puts = puts }) outcome h f

-- an outcome other than an answer has a status of its own
not_done : (stop : Stop) → status_of (Err stop) ≡ 0 → ⊥
not_done (Refused r) e = let low = cause_low r.cause in absurd (omega arith)
not_done ReadFault e = absurd (omega arith)
not_done NoMemory e = absurd (omega arith)
not_done KeeperFault e = absurd (omega arith)

-- the status 0 comes only with an answer
pub done_by : (old new : Writing) (outcome : Result Answer Stop) (status : ℕ) (P : Type 0) → OnOk outcome P
    → Finished old new (text_of outcome) (status_of outcome) status → status ≡ 0 → P
done_by old new (Ok a) status P p f z = p
done_by old new (Err stop) status P p (inl x) z = absurd (not_done stop (sym x.0 ∙ z))
done_by old new (Err stop) status P p (inr x) z = let e = x.0 in absurd (omega arith)

-- 6, 7 and 8 aren't statuses of concluded calls
unconcluded : (status n : ℕ) → 6 ≤ n → n ≤ 8 → status ≡ n → IsConcluded status → ⊥
unconcluded status n low high e (inl x) = absurd (omega arith)
unconcluded status n low high e (inr x) = absurd (omega arith)

-- a status of a concluded call comes only with its outcome
pub concluded_by : (old new : Writing) (outcome : Result Answer Stop) (status : ℕ) (P : Type 0) → IfConcluded P outcome
    → Finished old new (text_of outcome) (status_of outcome) status → IsConcluded status → P
concluded_by old new (Ok a) status P p f z = p
concluded_by old new (Err (Refused r)) status P p f z = p
concluded_by old new (Err KeeperFault) status P p f z = p
concluded_by old new (Err ReadFault) status P p (inl x) z = absurd (unconcluded status 6 (omega arith) (omega arith) x.0 z)
concluded_by old new (Err ReadFault) status P p (inr x) z = absurd (unconcluded status 7 (omega arith) (omega arith) x.0 z)
concluded_by old new (Err NoMemory) status P p (inl x) z = absurd (unconcluded status 8 (omega arith) (omega arith) x.0 z)
concluded_by old new (Err NoMemory) status P p (inr x) z = absurd (unconcluded status 7 (omega arith) (omega arith) x.0 z)

-- What is known of what was opened, and of what was done over it.
use Rattle.std.proofs.Common.{◌≡◌, ◌≤◌, ◌<◌, ◌+◌, ℕ, List, ap, subst, ◌∙◌}
use Rattle.graph_io.specs.declared.reading.Source.{Ghosts as SourceGhosts}
use Rattle.answers.specs.Devices.{Reading, Writing, Keeping, reading}
use Rattle.answers.specs.Runs.{Runs, Uses, IsConcluded}
use Rattle.answers.specs.Stages.{most_bytes}
use Rattle.graph_cli.specs.Accepted.{IsTakenWithin}
use Rattle.graph_cli.specs.Outcome as graph
use Rattle.study_cli.specs.StudyOutcome as study
use Rattle.program.specs.declared.opener.Opener.{Ghosts}
use Rattle.program.specs.Calls.{IsUsed, IsStored, IsRun, IsStudied}

-- what is done with a file that wasn't called before
pub made_used : {T : Type 0} (source : SourceGhosts T) (old new : T) (Reads Refuses : Type 0) (status : ℕ) → source.faults old ≡ 0 → source.calls old ≡ 0
    → Uses source.left Reads old new status → (Reads → ¬ Refuses → IsConcluded status → source.calls old < source.calls new)
    → IsTakenWithin source.left source.calls old new → IsUsed Reads Refuses (source.left old) (reading source new) status
made_used source old new Reads Refuses status f c uses asked within = record {
  untouched = λ n. let same = uses.untouched n in (ap source.left same, ap source.faults same ∙ f, ap source.calls same ∙ c);
  end = uses.end;
  asked = λ r n s. subst (λ k. k < source.calls new) c (asked r n s);
  taken = within.taken;
  turns = subst (λ n. source.calls new ≤ n + (most_bytes + 1)) c within.turns;
}

-- `opened` is the file before the call, and `after` the file after it
module _ {O : Type 0} {words : List (List ℕ)} {case_old case_new : Reading} {from to : O} {out_old out_new : Writing} {status : ℕ}
    (opened after : Reading) where
  -- what `run` does over a file that has had no fault
  pub made_run : opened.faults ≡ 0 → to ≡ from
      → IsUsed (graph.ReadsProof words case_old.left) (graph.RefusesCase words case_old.left) opened.left after status
      → Runs (graph.ways_of words case_old case_new opened after) out_old out_new status
      → IsRun words case_old case_new from to opened.left after out_old out_new status
  made_run e same used ran = record {
    same = same;
    used = used;
    ran = subst (λ n. Runs (graph.ways_of words case_old case_new (record { left = opened.left; faults = n; calls = 0 }) after) out_old out_new status) e ran;
  }

  -- what `run_study` does over a file and a keeper that have had no fault; `keeper` is the keeper before the call, and `store` the keeper after it
  pub made_study : {F K : Type 0} (opener : Ghosts O F K) (keeper store : Keeping) → opened.faults ≡ 0 → keeper.faults ≡ 0 → keeper.calls ≡ 0
      → IsStored opener words from to keeper.looks store
      → (¬ study.AsksKeeper words case_old.left opened.left → (store.looks ≡ keeper.looks) × (store.faults ≡ 0))
      → study.CallsWithin words case_old.left opened.left keeper.calls store.calls
      → IsUsed (study.ReadsCommands words case_old.left) (study.RefusesCase words case_old.left) opened.left after status
      → Runs (study.ways_of words case_old case_new opened after keeper store) out_old out_new status
      → IsStudied opener words case_old case_new from to opened.left after out_old out_new status
  made_study opener keeper store e k b stored untouched turns used ran = record {
    kept = keeper.looks;
    store = store;
    stored = stored;
    untouched = untouched;
    turns = subst (λ n. study.CallsWithin words case_old.left opened.left n store.calls) b turns;
    used = used;
    ran = subst (λ n. Over 0 (record { looks = keeper.looks; faults = n; calls = 0 })) k
        (subst (λ n. Over n (record { looks = keeper.looks; faults = keeper.faults; calls = 0 })) e
        (subst (λ n. Over opened.faults (record { looks = keeper.looks; faults = keeper.faults; calls = n })) b ran));
  } where
    -- what was done over a file with this count of faults, and over this keeper
    Over : ℕ → Keeping → Type 0
    Over faults before =
        Runs (study.ways_of words case_old case_new (record { left = opened.left; faults = faults; calls = 0 }) after before store) out_old out_new status

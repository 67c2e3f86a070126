-- Why a file was refused.
use Rattle.std.proofs.Common.{◌≡◌, ◌≢◌, ◌<◌, ℕ, suc, ℤ, List, [], ◌∷◌, ◌++◌, length, Contains}
use Rattle.std.proofs.Common.{Result, Ok, Err, IfErr, IsUtf8, refl, sym, ap, ◌∙◌, subst, inl, inr, arith}
use Rattle.std.specs.List.{AllZip}
use Rattle.std.specs.Result.{IsErrAnd}
use Rattle.std.proofs.lemmas.Bool.{cases_lt}
use Rattle.std.proofs.lemmas.List.{get_or_past}
use Rattle.graph_io.specs.declared.keeper.KeeperFault.{KeeperFault}
use Rattle.graph_io.specs.declared.keeper.Look.{Look}
use Rattle.sqlite.specs.declared.error.Error.{Error}
use Rattle.sqlite.specs.declared.error.Error.TheVariants.{SqliteFailure}
use Rattle.sqlite.specs.declared.error.ErrorCode.TheVariants.{OutOfMemory}
use Rattle.sqlite.specs.declared.types.Value.TheVariants.{Null, Int, Text}
use Rattle.sqlite.specs.Order.{Row, column}
use Rattle.study_sqlite.specs.declared.fault.FileFault.{FileFault}
use Rattle.study_sqlite.specs.declared.fault.FileFault.TheVariants.{Refused, NoMemory}
use Rattle.study_sqlite.specs.declared.fault.RowsFault.{RowsFault}
use Rattle.study_sqlite.specs.declared.fault.RowsFault.TheVariants as faults
use Rattle.study_sqlite.specs.declared.fault.RowsFault.TheVariants.{Bad}
use Rattle.study_sqlite.specs.declared.row.LookRow.{LookRow}
use Rattle.sqlite.specs.Recovery.{Image}
use Rattle.sqlite_disk.specs.declared.Disk as disk
use Rattle.study_sqlite.specs.declared.storage.Storage.{Storage}
use Rattle.study_sqlite.specs.Counting.{IsCounted, OnFault}
use Rattle.study_sqlite.specs.FileFaults.{fault_of_error, fault_of_rows, OnRefusal}
use Rattle.study_sqlite.specs.Rows.{IsOfNone, IsFirstBad, IsRowsFault}
use Rattle.study_sqlite.specs.Statements.{IsShownAs, ShowsNoLook}
use Rattle.study_sqlite.specs.Storing.{IsLoadRefused, IsAppendRefused}
use Rattle.study_sqlite.proofs.Faults.{told}
use Rattle.study_sqlite.proofs.PrintedRatios.{printed_text}

-- ---- errors that are reported

-- what holds of a refusal holds of what an error is reported as, where that is a refusal
pub on_refusal : (f : FileFault) (error : Error) (P : Type 0) → f ≡ fault_of_error error → (fault_of_error error ≡ Refused → P) → OnRefusal P f
on_refusal Refused error P is k = k (sym is)
on_refusal NoMemory error P is k = tt

-- the same of what a call reports
pub told_refused : {T : Type 0} (r : Result T FileFault) (error : Error) (P : Type 0) → IsErrAnd r (λ f. f ≡ fault_of_error error)
    → (fault_of_error error ≡ Refused → P) → IfErr r (OnRefusal P)
told_refused r error P h k = told r error (OnRefusal P) h (λ f is. on_refusal f error P is k)

-- a refusal isn't out of memory
pub not_memory : (error : Error) → fault_of_error error ≡ Refused → error ≢ SqliteFailure OutOfMemory
not_memory error is e =
    let same : NoMemory ≡ Refused = sym (ap fault_of_error e) ∙ is in
    absurd (cc)

-- where a refusal has a reason, it has what follows from that
pub refused_for : {T : Type 0} (r : Result T FileFault) (P Q : Type 0) → IfErr r (OnRefusal P) → (P → Q) → IfErr r (OnRefusal Q)
refused_for (Ok x) P Q h k = tt
refused_for (Err Refused) P Q h k = k h
refused_for (Err NoMemory) P Q h k = tt

-- the same of what holds under a condition
pub refused_under : {T : Type 0} (r : Result T FileFault) (H P Q : Type 0) → (H → IfErr r (OnRefusal P)) → ((H → P) → Q) → IfErr r (OnRefusal Q)
refused_under (Ok x) H P Q h k = tt
refused_under (Err Refused) H P Q h k = k h
refused_under (Err NoMemory) H P Q h k = tt

-- the same of what is known of any fault
pub refused_as : {T : Type 0} (r : Result T FileFault) (P : FileFault → Type 0) (Q : Type 0) → IfErr r P → (P Refused → Q) → IfErr r (OnRefusal Q)
refused_as (Ok x) P Q h k = tt
refused_as (Err Refused) P Q h k = k h
refused_as (Err NoMemory) P Q h k = tt

-- the same of a fault that is passed on
pub passed_on : {T : Type 0} (r : Result T FileFault) (fault : FileFault) (P Q : Type 0) → IsErrAnd r (λ f. f ≡ fault) → OnRefusal P fault
    → (P → Q) → IfErr r (OnRefusal Q)
passed_on (Ok x) fault P Q is h k = tt
passed_on (Err f) Refused P Q is h k = subst (OnRefusal Q) (sym is) (k h)
passed_on (Err f) NoMemory P Q is h k = subst (OnRefusal Q) (sym is) tt

-- the same of rows that gave no looks
pub rows_refused : {T : Type 0} (r : Result T FileFault) (bad : RowsFault) (rows : List LookRow) (Q : Type 0)
    → IsErrAnd r (λ f. f ≡ fault_of_rows bad) → IsRowsFault rows bad → ((place : ℕ) → IsFirstBad rows place → Q) → IfErr r (OnRefusal Q)
rows_refused (Ok x) bad rows Q is h k = tt
rows_refused (Err f) (Bad place) rows Q is h k = subst (OnRefusal Q) (sym is) (k place h)
rows_refused (Err f) faults.NoMemory rows Q is h k = subst (OnRefusal Q) (sym is) tt

-- what holds of a refusal holds of the fault that it is counted as
counted_as : (before now : ℕ) (f : FileFault) (said : KeeperFault) (P : Type 0) → IsCounted before now f said → OnRefusal P f → OnFault P said
counted_as before now Refused said P is h = subst (OnFault P) (sym is.0) h
counted_as before now NoMemory said P is h = subst (OnFault P) (sym is.0) tt

-- the same of a load, since counting leaves the file as it is
pub load_counted : {D S : Type 0} {g : disk.Ghosts D} (first : Image) → (before now : ℕ) (f : FileFault) (said : KeeperFault) (old middle new : Storage D S g)
    → OnRefusal (IsLoadRefused first old middle) f → IsCounted before now f said → new ≡ middle → OnFault (IsLoadRefused first old new) said
load_counted first before now f said old middle new h is same =
    counted_as before now f said (IsLoadRefused first old new) is (subst (λ s. OnRefusal (IsLoadRefused first old s) f) (sym same) h)

-- the same of an append
pub append_counted : {D S : Type 0} {g : disk.Ghosts D} (first : Image) → (before now : ℕ) (f : FileFault) (said : KeeperFault) (old middle new : Storage D S g) (look : Look)
    → OnRefusal (IsAppendRefused first old middle look) f → IsCounted before now f said → new ≡ middle → OnFault (IsAppendRefused first old new look) said
append_counted first before now f said old middle new look h is same =
    counted_as before now f said (IsAppendRefused first old new look) is (subst (λ s. OnRefusal (IsAppendRefused first old s look) f) (sym same) h)

-- ---- rows that are read

-- a text that can't be read isn't that of a look
pub no_text : (shown : Row) → (2 < length shown → ¬ ((t : List ℕ) × (column shown 2 ≡ Text t) × IsUtf8 t)) → ShowsNoLook shown
no_text shown h row look is of =
    let text : IsUtf8 row.p = printed_text look.p row.p of.p_is in
    elim (cases_lt 2 (length shown)) [
      | inl less ↦ h less (row.p, is.p, text)
      | inr past ↦ (let null : column shown 2 ≡ Null = get_or_past shown 2 Null past in absurd (cc))
    ]

same_number : (y z : ℤ) → Int y ≡ Int z → y ≡ z
same_number y z e = cc

same_text : (s t : List ℕ) → Text s ≡ Text t → s ≡ t
same_text s t e = cc

-- what shows a row of no look shows the row of no look
shows_none : (shown : Row) (row : LookRow) → IsShownAs shown row → IsOfNone row → ShowsNoLook shown
shows_none shown row is bad other look shows of =
    let hypothesis : row.hypothesis ≡ other.hypothesis = same_number row.hypothesis other.hypothesis (sym is.hypothesis ∙ shows.hypothesis) in
    let stage : row.stage ≡ other.stage = same_number row.stage other.stage (sym is.stage ∙ shows.stage) in
    let p : row.p ≡ other.p = same_text row.p other.p (sym is.p ∙ shows.p) in
    bad look (record {
      hypothesis_is = hypothesis ∙ of.hypothesis_is;
      hypothesis_size = of.hypothesis_size;
      stage_is = stage ∙ of.stage_is;
      stage_size = of.stage_size;
      p_is = p ∙ of.p_is;
    })

bad_among : (answer : List Row) (before after : List LookRow) (row : LookRow) → AllZip IsShownAs answer (before ++ row ∷ after) → IsOfNone row
    → (shown : Row) × Contains answer shown × ShowsNoLook shown
bad_among [] [] after row h bad = absurd h
bad_among [] (b ∷ bs) after row h bad = absurd h
bad_among (a ∷ all) [] after row h bad = (a, (0, omega arith, refl), shows_none a row h.0 bad)
bad_among (a ∷ all) (b ∷ bs) after row h bad =
    let rest = bad_among all bs after row h.1 bad in (rest.0, (suc rest.1.0, omega (arith, rest.1.1), rest.1.2), rest.2)

-- where the rows of an answer have a bad one, the answer shows one
pub shown_bad : (answer : List Row) (rows : List LookRow) (place : ℕ) → AllZip IsShownAs answer rows → IsFirstBad rows place
    → (shown : Row) × Contains answer shown × ShowsNoLook shown
shown_bad answer rows place h bad = bad_among answer bad.before bad.after bad.row (subst (λ rs. AllZip IsShownAs answer rs) bad.rows_are h) bad.bad

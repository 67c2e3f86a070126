-- What readers of values return, one after another, up to the first fault.
use Rattle.std.specs.Prelude.{ℕ, ◌+◌, List, [], ◌∷◌, Bool, true, false, Option, Some, None, Result, Ok, Err}
use Rattle.std.specs.Borrow.{Bor}
use Rattle.std.specs.Fmt.{decimal}
use Rattle.std.specs.Fn.{Shared}
use Rattle.field_core.specs.Answers.{IsUnless, and_then, told_as}
use Rattle.serde_json.specs.Data.{Data, array}
use Rattle.serde_json.specs.Find.{get}
use Rattle.serde_json.specs.View.{view}
use Rattle.serde_json.specs.declared.value.Value.{Value}
use Rattle.case_json.specs.declared.fault.JsonFault.{JsonFault}
use Rattle.case_json.specs.declared.fault.JsonFault.TheVariants as faults
use Rattle.case_json.specs.Values.{item_list, is_object_of, prefixed, under}

-- the result is this answer, or the error for no memory
abbrev pub IsAnswer : {A : Type 0} → Result A JsonFault → Result A JsonFault → Type 0
IsAnswer result answer = IsUnless faults.NoMemory result answer

-- ---- readers

-- what is returned for a value
abbrev pub Reader : Type 0 → Type 0
Reader A = Data → Result A JsonFault

-- a value of the wrong kind
abbrev pub wrong_kind : {A : Type 0} → Result A JsonFault
wrong_kind = Err (faults.Shape [])

-- nothing if the value is an object all of whose keys are among these
abbrev pub known_by : Bool → Result (Unit {0}) JsonFault
known_by true = Ok tt
known_by false = wrong_kind

abbrev pub with_keys : List (List ℕ) → Reader (Unit {0})
with_keys keys value = known_by (is_object_of keys value)

-- what a reader returns for the part at a key; the path of its fault begins with the key, and so does that of a missing part
abbrev pub part_at : {A : Type 0} → List ℕ → Reader A → Option Data → Result A JsonFault
part_at key read None = Err (faults.Shape (prefixed key []))
part_at key read (Some part) = told_as (under key) (read part)

abbrev pub at : {A : Type 0} → List ℕ → Reader A → Reader A
at key read value = part_at key read (get key value)

-- what a reader returns for the part at a key, and this value if the part is missing
abbrev pub part_or : {A : Type 0} → A → List ℕ → Reader A → Option Data → Result A JsonFault
part_or absent key read None = Ok absent
part_or absent key read (Some part) = told_as (under key) (read part)

abbrev pub at_or : {A : Type 0} → A → List ℕ → Reader A → Reader A
at_or absent key read value = part_or absent key read (get key value)

-- what a reader returns for each of these values, the first of which has this place
abbrev pub each : {A : Type 0} → Reader A → ℕ → List Data → Result (List A) JsonFault
each read place [] = Ok []
each read place (d ∷ ds) = and_then (told_as (under (decimal place)) (read d)) (λ x. and_then (each read (place + 1) ds) (λ xs. Ok (x ∷ xs)))

-- what a reader returns for each item of an array
abbrev pub list_of : {A : Type 0} → Reader A → Reader (List A)
list_of read (array ds) = each read 0 (item_list ds)
list_of read other = wrong_kind

-- ---- readers that are passed on

-- a function returns what this reader does
abbrev pub IsReaderOf : {F A : Type 0} → Shared F (Bor Value × Unit {0}) (Result A JsonFault) → F → Reader A → Type 0
IsReaderOf calls reader read = (part : Bor Value) (r : Result _ JsonFault) → calls.post reader (part, tt) r → IsAnswer r (read (view part.now))

-- the result is that of the list, for each reader whose results the function returns
abbrev pub IsListBy : {F A : Type 0} → Shared F (Bor Value × Unit {0}) (Result A JsonFault) → F → Data → Result (List A) JsonFault → Type 0
IsListBy calls reader value result = (read : Reader _) → IsReaderOf calls reader read → IsAnswer result (list_of read value)

abbrev pub IsEachBy : {F A : Type 0} → Shared F (Bor Value × Unit {0}) (Result A JsonFault) → F → List Data → Result (List A) JsonFault → Type 0
IsEachBy calls reader values result = (read : Reader _) → IsReaderOf calls reader read → IsAnswer result (each read 0 values)

-- The values of an array, one after the other.
use Rattle.std.proofs.Common.{◌≡◌, ◌∙◌, ◌∷◌, ◌++◌, [], ℕ, List, refl, sym, ap, map, drop, get_or, length, ◌<◌, append-nil}
use Rattle.std.proofs.Common.{◌≤◌, ◌+◌, ◌⊎◌, inl, inr, append_assoc, Result, Ok, Err}
use Rattle.std.specs.Fmt.{decimal}
use Rattle.std.proofs.lemmas.List.{drop_more, drop_all}
use Rattle.serde_json.specs.View.{view, items_view}
use Rattle.serde_json.specs.declared.value.Value.{Value}
use Rattle.case_json.specs.declared.fault.JsonFault.{JsonFault}
use Rattle.case_json.specs.declared.fault.JsonFault.TheVariants as faults
use Rattle.field_core.specs.Answers.{and_then, told_as}
use Rattle.case_json.specs.Answers.{Reader, each}
use Rattle.case_json.specs.Values.{item_list, under}

pub item_list_view : (values : List Value) → item_list (items_view values) ≡ map view values
item_list_view [] = refl
item_list_view (v ∷ values) = ap (λ more. view v ∷ more) (item_list_view values)

-- what was read, and then what is read of the rest
abbrev pub behind_said : {A : Type 0} → List A → Result (List A) JsonFault → Result (List A) JsonFault
behind_said said rest = and_then rest (λ xs. Ok (said ++ xs))

-- the rest of the values from a place on
abbrev pub from_place : {A : Type 0} → Reader A → List Value → ℕ → Result (List A) JsonFault
from_place read values i = each read i (map view (drop i values))

one_of_rest : {A : Type 0} (read : Reader A) (values : List Value) (i : ℕ) (d : Value) → i < length values
    → from_place read values i ≡ each read i (view (get_or values i d) ∷ map view (drop (i + 1) values))
one_of_rest read values i d small = ap (λ vs. each read i (map view vs)) (drop_more values i d small)

later : {A : Type 0} (said : List A) (a : A) (rest : Result (List A) JsonFault)
    → behind_said said (and_then rest (λ xs. Ok (a ∷ xs))) ≡ behind_said (said ++ a ∷ []) rest
later said a (Ok xs) = ap Ok (sym (append_assoc said (a ∷ []) xs))
later said a (Err fault) = refl

-- one more value is read
pub one_more : {A : Type 0} (read : Reader A) (values : List Value) (said : List A) (i : ℕ) (d : Value) (a : A) → i < length values
    → read (view (get_or values i d)) ≡ Ok a
    → behind_said said (from_place read values i) ≡ behind_said (said ++ a ∷ []) (from_place read values (i + 1))
one_more read values said i d a small is =
    ap (behind_said said) (one_of_rest read values i d small
    ∙ ap (λ r. and_then (told_as (under (decimal i)) r) (λ x. and_then (from_place read values (i + 1)) (λ xs. Ok (x ∷ xs)))) is)
    ∙ later said a (from_place read values (i + 1))

-- a value is refused
pub one_bad : {A : Type 0} (read : Reader A) (values : List Value) (said : List A) (i : ℕ) (d : Value) (fault : JsonFault) → i < length values
    → read (view (get_or values i d)) ≡ Err fault → behind_said said (from_place read values i) ≡ Err (under (decimal i) fault)
one_bad read values said i d fault small is =
    ap (behind_said said) (one_of_rest read values i d small
    ∙ ap (λ r. and_then (told_as (under (decimal i)) r) (λ x. and_then (from_place read values (i + 1)) (λ xs. Ok (x ∷ xs)))) is)

-- all are read
pub all_said : {A : Type 0} (read : Reader A) (values : List Value) (said : List A) (i : ℕ) → length values ≤ i
    → behind_said said (from_place read values i) ≡ Ok said
all_said read values said i end = ap (λ vs. behind_said said (each read i (map view vs))) (drop_all i values end) ∙ ap Ok (append-nil said)

pub none_said : {A : Type 0} (r : Result (List A) JsonFault) → r ≡ behind_said [] r
none_said (Ok xs) = refl
none_said (Err fault) = refl

-- the fault of a value with its place before the path, or the error for no memory
pub told : {A : Type 0} (read : Reader A) (values : List Value) (said : List A) (i : ℕ) (d : Value) (inner fault : JsonFault) → i < length values
    → each read 0 (map view values) ≡ behind_said said (from_place read values i)
    → (inner ≡ faults.NoMemory) ⊎ (read (view (get_or values i d)) ≡ Err inner) → (fault ≡ faults.NoMemory) ⊎ (fault ≡ under (decimal i) inner)
    → (fault ≡ faults.NoMemory) ⊎ (each read 0 (item_list (items_view values)) ≡ Err fault)
told read values said i d inner fault small so_far bad (inl memory) = inl memory
told read values said i d inner fault small so_far (inl memory) (inr is) = inl (is ∙ ap (under (decimal i)) memory)
told read values said i d inner fault small so_far (inr bad) (inr is) =
    inr (ap (each read 0) (item_list_view values) ∙ so_far ∙ one_bad read values said i d inner small bad ∙ ap Err (sym is))

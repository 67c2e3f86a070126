-- Each fault of a value has a path.
use Rattle.std.proofs.Common.{◌≡◌, [], ◌∷◌, ◌+◌, ℕ, ℤ, List, Bool, true, false, Option, Some, None, Result, Ok, Err, subst}
use Rattle.std.specs.Prelude.{codes, unsigned_abs, nat_le, ◌^◌, ok_or, option_and_then}
use Rattle.std.specs.Fmt.{decimal}
use Rattle.field_core.specs.Answers.{and_then, mapped, told_as}
use Rattle.field_core.specs.declared.ratio.Ratio.{Ratio}
use Rattle.fraction.specs.Numerals.{numeral_of}
use Rattle.case_model.specs.declared.spend.Spend.TheVariants.{Shares, Table}
use Rattle.case_model.specs.Names.{position_of}
use Rattle.entries.specs.Entries.{entry_of}
use Rattle.serde_json.specs.Data.{Data, null, number, string, array, object}
use Rattle.serde_json.specs.Find.{get, as_integer, as_u64, is_float}
use Rattle.case_json.specs.declared.fault.JsonFault.{JsonFault}
use Rattle.case_json.specs.declared.fault.JsonFault.TheVariants as faults
use Rattle.case_json.specs.Values.{item_list, is_object_of, under}
use Rattle.case_json.specs.WholeRatios.{whole_ratio}
use Rattle.case_json.specs.Answers.{Reader, known_by, with_keys, part_at, at, part_or, at_or, each, list_of}
use Rattle.case_json.specs.Document.{number_of, place_of, whole_count, count_of, text_of, hypothesis_of, short_weight, whole_weight, weight_of}
use Rattle.case_json.specs.Document.{edge_keys, edge_of, component_keys, component_of, step_keys, step_of, table_keys, table_of, spend_of, arrival_keys}
use Rattle.case_json.specs.Document.{arrival_of, stages_keys, stages_of, some_stages, document_keys, document_of}

-- the fault has a path
abbrev pub HasPath : JsonFault → Type 0
HasPath faults.Syntax = ⊥
HasPath (faults.Shape path) = Unit {0}
HasPath (faults.NotWhole path) = Unit {0}
HasPath (faults.Number path why) = Unit {0}
HasPath (faults.UnknownName path) = Unit {0}
HasPath (faults.Expr path why) = Unit {0}
HasPath (faults.Case refused) = ⊥
HasPath faults.NoMemory = ⊥

abbrev Placed : {A : Type 0} → Result A JsonFault → Type 0
Placed (Ok a) = Unit {0}
Placed (Err fault) = HasPath fault

-- A fault that is returned has a path.
record IsPlaced {A : Type 0} (r : Result A JsonFault) : Type 0 where
  is : Placed r

abbrev ArePlaced : {A : Type 0} → Reader A → Type 0
ArePlaced read = (d : Data) → IsPlaced (read d)

-- ---- readers of readers

done : {A : Type 0} {a : A} → IsPlaced {A = A} (Ok a)
done = record { is = tt }

failed : {A : Type 0} {fault : JsonFault} → HasPath fault → IsPlaced {A = A} (Err fault)
failed h = record { is = h }

chain : {A B : Type 0} {r : Result A JsonFault} {f : A → Result B JsonFault} → IsPlaced r → ((a : A) → IsPlaced (f a)) → IsPlaced (and_then r f)
chain {r = Ok a} h k = k a
chain {r = Err fault} h k = record { is = h.is }

made : {A B : Type 0} (f : A → B) (r : Result A JsonFault) → IsPlaced r → IsPlaced (mapped f r)
made f (Ok a) h = done
made f (Err fault) h = failed h.is

under_path : (step : List ℕ) (f : JsonFault) → HasPath f → HasPath (under step f)
under_path step faults.Syntax h = h
under_path step (faults.Shape path) h = tt
under_path step (faults.NotWhole path) h = tt
under_path step (faults.Number path why) h = tt
under_path step (faults.UnknownName path) h = tt
under_path step (faults.Expr path why) h = tt
under_path step (faults.Case refused) h = h
under_path step faults.NoMemory h = h

step_told : {A : Type 0} (step : List ℕ) (r : Result A JsonFault) → IsPlaced r → IsPlaced (told_as (under step) r)
step_told step (Ok a) h = done
step_told step (Err fault) h = failed (under_path step fault h.is)

told_text : {A E : Type 0} (tell : E → JsonFault) → ((e : E) → HasPath (tell e)) → (r : Result A E) → IsPlaced (told_as tell r)
told_text tell h (Ok a) = done
told_text tell h (Err e) = failed (h e)

some_or : {A : Type 0} (o : Option A) (e : JsonFault) → HasPath e → IsPlaced (ok_or o e)
some_or None e h = failed h
some_or (Some a) e h = done

known : (b : Bool) → IsPlaced (known_by b)
known true = done
known false = failed tt

keys : (ks : List (List ℕ)) → ArePlaced (with_keys ks)
keys ks d = known (is_object_of ks d)

in_part : {A : Type 0} (key : List ℕ) (read : Reader A) → ArePlaced read → (o : Option Data) → IsPlaced (part_at key read o)
in_part key read h None = failed tt
in_part key read h (Some part) = step_told key (read part) (h part)

at_key : {A : Type 0} (key : List ℕ) (read : Reader A) → ArePlaced read → ArePlaced (at key read)
at_key key read h d = in_part key read h (get key d)

may_part : {A : Type 0} (a : A) (key : List ℕ) (read : Reader A) → ArePlaced read → (o : Option Data) → IsPlaced (part_or a key read o)
may_part a key read h None = done
may_part a key read h (Some part) = step_told key (read part) (h part)

may_key : {A : Type 0} (a : A) (key : List ℕ) (read : Reader A) → ArePlaced read → ArePlaced (at_or a key read)
may_key a key read h d = may_part a key read h (get key d)

all : {A : Type 0} (read : Reader A) → ArePlaced read → (i : ℕ) (ds : List Data) → IsPlaced (each read i ds)
all read h i [] = done
all read h i (d ∷ ds) = chain (step_told (decimal i) (read d) (h d)) (λ x. chain (all read h (i + 1) ds) (λ xs. done))

array_all : {A : Type 0} (read : Reader A) → ArePlaced read → ArePlaced (list_of read)
array_all read h (array ds) = all read h 0 (item_list ds)
array_all read h other = failed tt

-- ---- single values

numbers : ArePlaced number_of
numbers (number n) = some_or (option_and_then whole_ratio (as_integer n)) (faults.NotWhole []) tt
numbers (string s) = told_text (faults.Number []) (λ e. tt) (numeral_of s)
numbers other = failed tt

places : ArePlaced place_of
places null = done
places other = made Some (number_of other) (numbers other)

counts_by : (b : Bool) (o : Option ℕ) → IsPlaced (whole_count b o)
counts_by true o = failed tt
counts_by false None = failed tt
counts_by false (Some n) = done

counts : ArePlaced count_of
counts (number n) = counts_by (is_float n) (as_u64 n)
counts other = failed tt

texts : ArePlaced text_of
texts (string s) = done
texts other = failed tt

short_by : (b : Bool) (x : Ratio) → IsPlaced (short_weight b x)
short_by true x = done
short_by false x = failed tt

whole_weights : (o : Option ℤ) → IsPlaced (whole_weight o)
whole_weights None = failed tt
whole_weights (Some z) = chain (some_or (whole_ratio z) (faults.NotWhole []) tt) (short_by (nat_le (unsigned_abs z) (10 ^ 18)))

weights : ArePlaced weight_of
weights (number n) = whole_weights (as_integer n)
weights (string s) = told_text (faults.Expr []) (λ e. tt) (entry_of s)
weights other = failed tt

-- ---- the document

many : ArePlaced (list_of number_of)
many d = array_all number_of numbers d

steps : ArePlaced step_of
steps d = chain (keys step_keys d) (λ k. chain (at_key (codes "from") number_of numbers d) (λ from.
    chain (at_key (codes "levels") (list_of number_of) many d) (λ levels. done)))

tables : ArePlaced table_of
tables d = chain (keys table_keys d) (λ k. at_key (codes "steps") (list_of step_of) (array_all step_of steps) d)

spends : ArePlaced spend_of
spends (array ds) = made Shares (list_of number_of (array ds)) (many (array ds))
spends (object ms) = made Table (table_of (object ms)) (tables (object ms))
spends other = failed tt

module _ (names : List (List ℕ)) where
  hypotheses : ArePlaced (hypothesis_of names)
  hypotheses (string s) = some_or (position_of s names) (faults.UnknownName []) tt
  hypotheses other = failed tt

  edges : ArePlaced (edge_of names)
  edges d = chain (keys edge_keys d) (λ k. chain (at_key (codes "from") (hypothesis_of names) hypotheses d) (λ from.
      chain (at_key (codes "to") (hypothesis_of names) hypotheses d) (λ to. chain (at_key (codes "weight") weight_of weights d) (λ w. done))))

  components : ArePlaced (component_of names)
  components d = chain (keys component_keys d) (λ k. chain (may_key _ (codes "share") number_of numbers d) (λ share.
      chain (at_key (codes "weights") (list_of number_of) many d) (λ w.
      chain (at_key (codes "edges") (list_of (edge_of names)) (array_all (edge_of names) edges) d) (λ e. done))))

  arrivals : ArePlaced (arrival_of names)
  arrivals d = chain (keys arrival_keys d) (λ k. chain (at_key (codes "hypothesis") (hypothesis_of names) hypotheses d) (λ h.
      chain (at_key (codes "stage") count_of counts d) (λ s. chain (at_key (codes "p") number_of numbers d) (λ p. done))))

  whole_stages : ArePlaced (stages_of names)
  whole_stages d = chain (keys stages_keys d) (λ k. chain (at_key (codes "count") count_of counts d) (λ c.
      chain (at_key (codes "spend") (list_of spend_of) (array_all spend_of spends) d) (λ s.
      chain (at_key (codes "arrivals") (list_of (arrival_of names)) (array_all (arrival_of names) arrivals) d) (λ a. done))))

  stages : ArePlaced (some_stages names)
  stages d = made Some (stages_of names d) (whole_stages d)

drafts : ArePlaced document_of
drafts d = chain (keys document_keys d) (λ k. chain (at_key (codes "alpha") number_of numbers d) (λ alpha.
    chain (at_key (codes "hypotheses") (list_of text_of) (array_all text_of texts) d) (λ names.
    chain (may_key [] (codes "p") (list_of place_of) (array_all place_of places) d) (λ p.
    chain (at_key (codes "components") (list_of (component_of names)) (array_all (component_of names) (components names)) d) (λ cs.
    chain (may_key None (codes "stages") (some_stages names) (stages names) d) (λ s. done))))))

-- the first fault of a value has a path
pub fault_placed : (d : Data) (f : JsonFault) → document_of d ≡ Err f → HasPath f
fault_placed d f e = subst Placed e (drafts d).is

-- Words are read by one of the readers.
use Rattle.std.proofs.Common.{◌≡◌, ap, refl, ℕ, Bool, true, false, List, [], ◌∷◌, None, Result, Ok, Err}
use Rattle.std.specs.Prelude.{codes, ok_or, if◌then◌else◌}
use Rattle.std.proofs.lemmas.Slice.Eq.{bytes_eq-Decides}
use Rattle.answers.proofs.Decided.{stage_decided}
use Rattle.field_core.proofs.Results.{handed}
use Rattle.command_words.specs.Asked.{Asked, StudyAsked}
use Rattle.command_words.specs.Table.{verb_named}
use Rattle.command_words.specs.Words.{first_verb, asks_study, asked_in, study_after, study_in}

passed : {A : Type 0} (b : Bool) (r : Result A ℕ) (x : A) → (if b then r else Err 1) ≡ Ok x → b ≡ true
passed true r x e = refl
passed false r x e = absurd (cc e)

-- words that ask a study for something begin with `study`
study_first : (words : List (List ℕ)) (study : StudyAsked) → study_in words ≡ Ok study → asks_study words ≡ true
unfolding study_in
study_first words study h = passed (asks_study words) (study_after words) study h

-- no other command has this name
no_verb : (words : List (List ℕ)) → asks_study words ≡ true → first_verb words ≡ None
unfolding verb_named
no_verb [] e = refl
no_verb (word ∷ words) e = ap verb_named ((bytes_eq-Decides word (codes "study")).0 e)

not_asked : (words : List (List ℕ)) → first_verb words ≡ None → asked_in words ≡ Err 1
unfolding asked_in
not_asked words e = handed (ok_or (first_verb words) 1) _ 1 (ap (λ verb. ok_or verb 1) e)

-- words that ask for a command that keeps no looks don't ask a study for anything
pub one_reader : (words : List (List ℕ)) (asked : Asked) (study : StudyAsked) → asked_in words ≡ Ok asked → ¬ (study_in words ≡ Ok study)
one_reader words asked study h k = (stage_decided (asked_in words)).not_both asked 1 h (not_asked words (no_verb words (study_first words study k)))

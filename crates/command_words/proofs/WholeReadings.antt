-- The reading of all words, by that of the words after the first.
use Rattle.std.proofs.Common.{◌≡◌, ◌+◌, ◌∙◌, ap, refl, sym, arith, ℕ, true, false, Bool, List, [], ◌∷◌, Option, Some, None, Result, Err, map, length, String}
use Rattle.std.proofs.Common.{Global}
use Rattle.std.specs.Prelude.{codes, string_bytes, ok_or, if◌then◌else◌}
use Rattle.std.specs.Str.{bytes_eq}
use Rattle.std.proofs.lemmas.List.{length-map}
use Rattle.field_core.specs.Answers.{and_then}
use Rattle.command_words.specs.Asked.{Asked, StudyAsked}
use Rattle.command_words.specs.Given.{GivenContent, nothing, asked_of, study_of, forbidden_word}
use Rattle.command_words.specs.Table.{verb_named}
use Rattle.command_words.specs.Words.{pieces_in, unless, asked_in, study_in, study_after}
use Rattle.command_words.specs.declared.verb.Verb.{Verb}
use Rattle.command_words.specs.declared.verb.Verb.TheVariants.{Study}
use Rattle.command_words.proofs.PieceSteps.{first_is}

-- ---- what follows from what was given

abbrev pub asked_by : Option Asked → ℕ → Option ℕ → Result Asked ℕ
asked_by asked count forbidden = and_then (ok_or asked (count + 1)) (λ a. unless forbidden a)

abbrev pub asked_with : Verb → ℕ → Result GivenContent ℕ → Result Asked ℕ
asked_with verb count given = and_then given (λ g. asked_by (asked_of verb g) count (forbidden_word g))

abbrev pub study_with : ℕ → Result GivenContent ℕ → Result StudyAsked ℕ
study_with count given = and_then given (λ g. ok_or (study_of g) (count + 1))

-- ---- words as lists

asked_list : (word : List ℕ) (more : List (List ℕ)) (verb : Option Verb) → verb ≡ verb_named word
    → and_then (ok_or verb 1) (λ v. asked_with v (length (word ∷ more)) (pieces_in v 1 nothing more)) ≡ asked_in (word ∷ more)
unfolding asked_in
asked_list word more verb e = ap (λ x. and_then (ok_or x 1) (λ v. asked_with v (length (word ∷ more)) (pieces_in v 1 nothing more))) e

study_list : (word : List ℕ) (more : List (List ℕ)) (b : Bool) → b ≡ bytes_eq word (codes "study")
    → (if b then study_after (word ∷ more) else Err 1) ≡ study_in (word ∷ more)
unfolding study_in
study_list word more b e = ap (λ x. if x then study_after (word ∷ more) else Err 1) e

-- ---- the words of the program

pub none_asked : (words : List (String Global)) → length words ≡ 0 → Err 1 ≡ asked_in (map string_bytes words)
unfolding asked_in
none_asked [] e = refl
none_asked (x ∷ xs) e = absurd (omega (arith, e))

pub none_studied : (words : List (String Global)) → length words ≡ 0 → Err 1 ≡ study_in (map string_bytes words)
unfolding study_in
none_studied [] e = refl
none_studied (x ∷ xs) e = absurd (omega (arith, e))

module _ (words : List (String Global)) (x : String Global) (more : List (String Global)) (word : List ℕ) (cut : words ≡ x ∷ more) (is : word ≡ string_bytes x) where
  count_is : length words ≡ length (word ∷ map string_bytes more)
  count_is = let a = ap length cut in let b = length-map more string_bytes in omega (arith, a, b)

  pub no_verb : None ≡ verb_named word → Err 1 ≡ asked_in (map string_bytes words)
  no_verb e = asked_list word (map string_bytes more) None e ∙ ap asked_in (sym (first_is words x more word cut is))

  pub asked_given : (verb : Verb) (given : Result GivenContent ℕ) (new : GivenContent) → Some verb ≡ verb_named word → new ≡ nothing
      → given ≡ pieces_in verb 1 new (map string_bytes more) → asked_with verb (length words) given ≡ asked_in (map string_bytes words)
  asked_given verb given new n s e =
      ap (asked_with verb (length words)) (e ∙ ap (λ g. pieces_in verb 1 g (map string_bytes more)) s)
      ∙ (ap (λ k. asked_with verb k (pieces_in verb 1 nothing (map string_bytes more))) count_is
      ∙ (asked_list word (map string_bytes more) (Some verb) n ∙ ap asked_in (sym (first_is words x more word cut is))))

  pub no_study : false ≡ bytes_eq word (codes "study") → Err 1 ≡ study_in (map string_bytes words)
  no_study e = study_list word (map string_bytes more) false e ∙ ap study_in (sym (first_is words x more word cut is))

  pub study_given : (given : Result GivenContent ℕ) (new : GivenContent) → true ≡ bytes_eq word (codes "study") → new ≡ nothing
      → given ≡ pieces_in Study 1 new (map string_bytes more) → study_with (length words) given ≡ study_in (map string_bytes words)
  study_given given new n s e =
      ap (study_with (length words)) (e ∙ ap (λ g. pieces_in Study 1 g (map string_bytes more)) s)
      ∙ (ap (λ k. study_with k (pieces_in Study 1 nothing (map string_bytes more))) count_is
      ∙ (study_list word (map string_bytes more) true n ∙ ap study_in (sym (first_is words x more word cut is))))

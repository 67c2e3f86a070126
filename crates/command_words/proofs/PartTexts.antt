-- The parts of words.
use Rattle.std.proofs.Common.{◌≡◌, ℕ, List, Some, None, true, false, arith, sym, ap, ◌∙◌, length, drop, Bor, subst, if◌then◌else◌}
use Rattle.std.specs.Prelude.{codes}
use Rattle.std.specs.List.{position_or_len, before_first, after_first}
use Rattle.std.specs.Option.{MatchOption, option_map, unwrap_or}
use Rattle.std.specs.Str.{IsCharBoundary}
use Rattle.std.specs.Str.Pattern.{FindsTextPrefix, StripsPrefix}
use Rattle.std.specs.declared.option.Option.{Option}
use Rattle.std.proofs.lemmas.Bool.{lt-ltb, le-ltb}
use Rattle.std.proofs.lemmas.List.{take_all}
use Rattle.std.proofs.lemmas.Str.Pattern.{starts_text, split_once_first, IsSplitOnceResult}
use Rattle.command_words.specs.WordParts.{is_equals, after_hyphens, after_equals}

-- what is left of a word without its hyphens
pub after_hyphens_is : (word : List ℕ) (r : Option (Bor (List ℕ)))
    → MatchOption r (FindsTextPrefix (codes "--") word None) (λ x. StripsPrefix (FindsTextPrefix (codes "--")) word x.now)
    → option_map (λ x. x.now) r ≡ after_hyphens word
unfolding after_hyphens
after_hyphens_is word None h = ap (λ b. if b then Some (drop 2 word) else None) (starts_text false (codes "--") word h)
after_hyphens_is word (Some x) h =
    ap Some (h.2 ∙ ap (λ n. drop n word) h.1.0)
    ∙ ap (λ b. if b then Some (drop 2 word) else None) (starts_text true (codes "--") word (h.0, h.1, subst (IsCharBoundary word) (sym h.1.0) h.1.2))

-- what follows the first equals sign
pub after_equals_is : (option : List ℕ) (r : Option (Bor (List ℕ) × Bor (List ℕ))) → IsSplitOnceResult 61 option r
    → option_map (λ x. x.1.now) r ≡ after_equals option
unfolding after_equals
after_equals_is option None h =
    let e = split_once_first 61 option None h (omega arith) in
    sym (ap (λ b. if b then Some (after_first is_equals option) else None) (le-ltb (position_or_len is_equals option) (length option) (omega (arith, e))))
after_equals_is option (Some x) h =
    let e = split_once_first 61 option (Some x) h (omega arith) in
    ap Some e.2 ∙ sym (ap (λ b. if b then Some (after_first is_equals option) else None) (lt-ltb (position_or_len is_equals option) (length option) e.0))

-- what is before it, or all if there is none
pub before_equals_is : (option : List ℕ) (r : Option (Bor (List ℕ) × Bor (List ℕ))) → IsSplitOnceResult 61 option r
    → unwrap_or (option_map (λ x. x.0.now) r) option ≡ before_first is_equals option
before_equals_is option None h = sym (take_all (position_or_len is_equals option) option
    (let e = split_once_first 61 option None h (omega arith) in omega (arith, e)))
before_equals_is option (Some x) h = (split_once_first 61 option (Some x) h (omega arith)).1

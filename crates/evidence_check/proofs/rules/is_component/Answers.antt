use Rattle.std.proofs.Common.{◌≡◌, ◌∷◌, [], ◌+◌, sym, ap, ◌∙◌, arith}
use Rattle.std.specs.Str.{bytes_eq}
use Rattle.std.proofs.lemmas.Fmt.{decimal_digit}
use Rattle.evidence_check.proofs.rules.is_component.Goals as goal

pub returns : goal.returns
returns c =
    let one : c.as_slice.result.now ≡ (48 + (c.args.c + 1)) ∷ [] = c.as_slice.ensures ∙ ap (λ n. n ∷ []) (omega arith) in
    c.eq.ensures ∙ ap (bytes_eq c.args.word.now) (one ∙ sym (decimal_digit (c.args.c + 1) (omega arith)))

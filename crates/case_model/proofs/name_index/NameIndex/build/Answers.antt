use Rattle.std.proofs.Common.{arith, length, take, ◌∙◌, ap, sym, ◌≡◌, ◌+◌, ◌++◌, ◌∷◌, [], cond, Some, None}
use Rattle.std.proofs.lemmas.List.{length-take-le, take_more}
use Rattle.std.specs.Option.{option_or}
use Rattle.std.specs.Str.{bytes_eq}
use Rattle.case_model.specs.Names.{position_of}
use Rattle.case_model.proofs.NamePlaces.{position_push}
use Rattle.case_model.proofs.name_index.NameIndex.build.Goals as goal

pub loop-i-preserved : goal.loop-i-preserved
loop-i-preserved c name =
    let l = c.loop-i in
    let names = c.args.names.now in
    let item = c.index-names-i.result in
    let before = position_of name (take l.i names) in
    let more : take (l.i + 1) names ≡ take l.i names ++ item ∷ [] = take_more names l.i item (omega arith)
    ∙ ap (λ n. take l.i names ++ n ∷ []) (sym c.index-names-i.is) in
    let len : length (take l.i names) ≡ l.i = length-take-le l.i names (omega arith) in
    c.in_ok-note.ensures name ∙ ap (λ r. option_or r (cond (bytes_eq name c.as_bytes.result.now) (Some l.i) None)) (l.invariant name)
    ∙ ap (λ x. option_or before (cond (bytes_eq name x) (Some l.i) None)) c.as_bytes.ensures
    ∙ ap (λ n. option_or before (cond (bytes_eq name item) (Some n) None)) (sym len)
    ∙ sym (position_push (bytes_eq name) (take l.i names) item) ∙ ap (position_of name) (sym more)

use Rattle.std.proofs.Common.{◌∷◌, ◌≡◌, ◌∙◌, ◌++◌, sym, ap, subst, true, length, map}
use Rattle.std.specs.List.{list_all}
use Rattle.std.proofs.lemmas.Result.{on_ok_weaker}
use Rattle.case_model.specs.Draft.{arrives_among}
use Rattle.text_lines.specs.Spelling.{text_of}
use Rattle.edge_text.specs.CanonicalText.{stages_words, arrive_words, spends_lines, stages_lines}
use Rattle.edge_text.specs.View.{line_of}
use Rattle.edge_text.proofs.WrittenLines.{known, three, text_cons, text_append}
use Rattle.edge_text.proofs.write_stages.put_stages.Goals as goal

pub put_arrivals-requires : goal.put_arrivals-requires
put_arrivals-requires c = subst (λ xs. list_all (arrives_among (length c.args.names.now)) xs ≡ true) (sym c.arrivals.ensures)
    (known (length c.args.names.now) c.args.stages.now.count c.args.stages.now.arrivals c.requires.arrivals)

pub returns : goal.returns
unfolding stages_lines
returns c =
    let names = c.args.names.now in
    let s = c.args.stages.now in
    let spends = spends_lines names s.spend in
    let arrivals = map (arrive_words names) s.arrivals in
    let whole : text_of (stages_words s.count ∷ spends ++ arrivals) ≡ line_of (stages_words s.count) ++ (text_of spends ++ text_of arrivals) =
    text_cons (stages_words s.count) (spends ++ arrivals) ∙ ap (λ t. line_of (stages_words s.count) ++ t) (text_append spends arrivals) in
    on_ok_weaker c.put_arrivals.result (λ e. three c.args.text.now c.put_spends.new.text c.put_arrivals.new.text (line_of (stages_words s.count))
    (text_of spends) (text_of arrivals)
    (c.in_ok-put_spends.ensures ∙ ap (λ t. t ++ text_of spends)
    (c.in_ok-put_count.ensures ∙ ap (λ n. c.args.text.now ++ line_of (stages_words n)) c.count.ensures))
    (e ∙ ap (λ xs. c.put_spends.new.text ++ text_of (map (arrive_words names) xs)) c.arrivals.ensures)
    ∙ ap (λ t. c.args.text.now ++ t) (sym whole)) c.put_arrivals.ensures

use Rattle.std.proofs.Common.{rules, ◌≡◌, None, Some, ◌∙◌, ap, cond}
use Rattle.std.specs.Str.{bytes_eq}
use Rattle.std.specs.Option.{option_or}
use Rattle.std.specs.HashMap.{get_by}
use Rattle.indexmap.proofs.CallerLemmas.{insert_entry-new}
use Rattle.case_model.specs.NameIndexView.{place_of}
use Rattle.case_model.proofs.NamePlaces.{lookup_push, none_from}
use Rattle.case_model.proofs.name_index.NameIndex.note.Goals as goal

pub returns-in_ok-insert : goal.returns-in_ok-insert
returns-in_ok-insert c q =
    let same : c.in_ok-to_vec.field-0.items ≡ c.args.name.now = search rules in
    let old = c.args.self.now.first in
    let none : get_by (λ k. bytes_eq c.args.name.now k.items) old ≡ None = none_from _ _ _ c.is_none.ensures c.if-is_none.true c.get.ensures.value in
    let here : get_by (λ k. bytes_eq c.in_ok-to_vec.field-0.items k.items) old ≡ None = rw same none in
    let e = c.in_ok-insert.ensures.entries ∙ insert_entry-new _ old c.in_ok-to_vec.field-0 c.args.at here in
    rw e (lookup_push (λ k. bytes_eq q k.items) old.entries c.in_ok-to_vec.field-0 c.args.at
    ∙ ap (λ n. option_or (place_of c.args.self.now q) (cond (bytes_eq q n) (Some c.args.at) None)) same)

use Rattle.std.proofs.Common.{◌≡◌, ◌++◌, ◌∷◌, [], sym, ap, ap₂, ◌∙◌, Bool, map, append_assoc}
use Rattle.std.specs.List.{list_all}
use Rattle.std.proofs.lemmas.List.{map_push, append-nil, nil_from_length}
use Rattle.case_model.specs.Draft.{goes_between}
use Rattle.case_model.specs.Entries.{is_whole_entry}
use Rattle.case_model.specs.Content.{tabled, has_coefficients}
use Rattle.case_model.specs.declared.component.Component.{Component}
use Rattle.case_model.proofs.Holding.{all_middle, all_push}
use Rattle.case_model.proofs.component.tabled.Goals as goal
use Rattle.case_model.proofs.component.tabled.Goals.{In-Some}

parts : (c : In-Some) → c.args.components ≡ c.loop-component.yielded ++ c.in-Some.component ∷ c.next.new.self.rest.items
parts c = c.loop-component.invariant.parts ∙ ap (λ xs. c.loop-component.yielded ++ xs) c.in-Some.ensures.steps.0

whole_table : Component → Bool
whole_table k = list_all is_whole_entry k.edges

pub loop-component-init : goal.loop-component-init
unfolding has_coefficients whole_table
loop-component-init c = record {
  made = c.new-all.ensures;
  coefficients = ap (list_all whole_table) c.new-all.ensures;
  parts = sym (c.into_iter-component-iterator.ensures.into_iter_gives.0 ∙ c.into_vec-component-items.ensures);
}

pub tabled-requires-clause-ends : goal.tabled-requires-clause-ends
tabled-requires-clause-ends c =
    all_middle (λ k. list_all (goes_between c.args.count) k.edges) c.loop-component.yielded c.in-Some.component c.next.new.self.rest.items
    (ap (list_all (λ k. list_all (goes_between c.args.count) k.edges)) (sym (parts ((goal.at.tabled-requires-clause-ends c).In-Some))) ∙ c.requires.ends)

pub loop-component-preserved : goal.loop-component-preserved
unfolding has_coefficients whole_table
loop-component-preserved c = record {
  made = c.in_ok-push.ensures.pushed ∙ ap₂ (λ xs x. xs ++ x ∷ []) c.loop-component.invariant.made c.in_ok-tabled.ensures.component
      ∙ sym (map_push (tabled c.args.count) c.loop-component.yielded c.in-Some.component);
  coefficients = ap (list_all whole_table) c.in_ok-push.ensures.pushed
      ∙ all_push whole_table c.loop-component.all _ c.loop-component.invariant.coefficients c.in_ok-tabled.ensures.coefficients;
  parts = parts ((goal.at.loop-component-preserved c).In-Some)
      ∙ sym (append_assoc c.loop-component.yielded (c.in-Some.component ∷ []) c.next.new.self.rest.items);
}

pub returns-clause-components : goal.returns-clause-components
returns-clause-components c =
    let rest = c.loop-component.component-iterator.rest in
    let none : rest.items ≡ [] = nil_from_length rest.items (sym rest.ok.0 ∙ c.in-None.ensures.steps.0) in
    let all : c.loop-component.yielded ≡ c.args.components =
    sym (c.loop-component.invariant.parts ∙ ap (λ xs. c.loop-component.yielded ++ xs) none ∙ append-nil c.loop-component.yielded) in
    c.loop-component.invariant.made ∙ ap (map (tabled c.args.count)) all

use Rattle.std.proofs.Common.{◌≡◌, ◌++◌, true, map}
use Rattle.case_model.specs.Content.{tabled, has_coefficients}
use Rattle.case_model.proofs.component.tabled.Given as goal

abbrev pub invariant-loop-component : goal.invariant-loop-component
invariant-loop-component l = record {
  made : l.all ≡ map (tabled l.count) l.yielded;
  coefficients : has_coefficients l.all ≡ true;
  parts : l.fn.components ≡ l.yielded ++ l.component-iterator.rest.items;
}

use Rattle.std.proofs.Common.{◌≡◌, map}
use Rattle.std.specs.List.{range_with_len}
use Rattle.catalogue.specs.Samples.{number_after, p_value_of}
use Rattle.catalogue.proofs.sample_case.p_values.Given as goal

abbrev pub invariant-draws : goal.invariant-draws
invariant-draws l = record {
  made : l.p_values ≡ map (p_value_of l.fn.generator.number) (range_with_len 0 l.counter);
  number : l.generator.number ≡ number_after l.fn.generator.number l.counter;
}

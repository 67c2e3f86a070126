use Rattle.std.proofs.Common.{sym, ap₂, ◌∙◌, arith}
use Rattle.std.specs.List.{list_all}
use Rattle.case_model.specs.Draft.{goes_between, have_known_ends}
use Rattle.case_model.proofs.Faultless.{few_before_edges}
use Rattle.case_model.proofs.draft.Draft.early_fault.Goals as goal

pub edges_fault-requires-clause-few : goal.edges_fault-requires-clause-few
edges_fault-requires-clause-few c = omega (arith, c.len.ensures, few_before_edges c.args.self.now (sym c.fault_before_edges.ensures ∙ c.in_default.is))

pub edges_fault-requires-clause-ends : goal.edges_fault-requires-clause-ends
unfolding have_known_ends
edges_fault-requires-clause-ends c = ap₂ (λ n ks. list_all (λ k. list_all (goes_between n) k.edges) ks) c.len.ensures c.as_slice.ensures ∙ c.requires

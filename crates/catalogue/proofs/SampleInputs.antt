-- A sample has a p-value for each hypothesis.
use Rattle.std.proofs.Common.{◌≡◌, ℕ, zero, suc, ◌≤◌, List, [], Ok, ap, sym, ◌∙◌, arith}
use Rattle.field_core.specs.declared.ratio.Ratio.{Ratio}
use Rattle.case_model.specs.Content.{Content}
use Rattle.case_model.specs.declared.inputs.Inputs.TheVariants.{Single}
use Rattle.catalogue.specs.Makings.{made}
use Rattle.catalogue.specs.Samples.{sample_p_values}
use Rattle.catalogue.specs.WeightedGraphs.{WeightedGraph, draft_of}
use Rattle.catalogue.proofs.AloneCases.{inputs_are, is_made}

some_p_values : (n seed : ℕ) → 1 ≤ n → ¬ (sample_p_values n seed ≡ [])
unfolding sample_p_values
some_p_values zero seed h e = omega arith
some_p_values (suc n) seed h e = cc

pub sample_inputs : (G : WeightedGraph) (alpha : Ratio) (ps : List Ratio) (m n seed : ℕ) (c : Content) → m ≡ n → 1 ≤ m
    → ps ≡ sample_p_values m seed → made (draft_of G alpha ps) ≡ Ok c → c.inputs ≡ Single (sample_p_values n seed)
sample_inputs G alpha ps m n seed c same some e h =
    let M = is_made (draft_of G alpha ps) c h in
    ap (λ (k : Content). k.inputs) (sym M.content) ∙ inputs_are G alpha ps (λ g. some_p_values m seed some (sym e ∙ g))
    ∙ ap Single (e ∙ ap (λ k. sample_p_values k seed) same)

use Rattle.std.proofs.Common.{◌+◌, ◌*◌, ◌<◌, ◌≤◌, sym, ap, ap₂, ◌∙◌, length, arith}
use Rattle.std.specs.Prelude.{count_by}
use Rattle.std.proofs.Math.Nat.{mul-le-mul}
use Rattle.std.proofs.lemmas.List.Sums.{sum_by_more}
use Rattle.case_model.specs.Content.{empty_component}
use Rattle.case_model.specs.CaseView.{content}
use Rattle.case_model.proofs.CaseFacts.{names_few}
use Rattle.report.specs.SampleReport.{is_edge, edges_in}
use Rattle.report.proofs.sample.edge_count.Goals as goal

pub loop-c-preserved : goal.loop-c-preserved
loop-c-preserved c =
    let case = c.args.case.now in
    let i = c.loop-c.c in
    let h : i < length (content case).components = omega arith in
    let few : length (content case).names * length (content case).names ≤ 64 * 64 = mul-le-mul (names_few case) (names_few case) in
    let small = c.loop-c.invariant.small in
    let size = c.edges.ensures.size in
    let within = c.edges_in-count.ensures.within in
    record {
      counted = ap₂ (λ a b. a + b) c.loop-c.invariant.counted (c.edges_in-count.ensures.count ∙ ap (count_by is_edge) c.edges.ensures.edges)
          ∙ sym (sum_by_more edges_in (content case).components i empty_component h);
      small = omega (arith, few, small, size, within);
    }

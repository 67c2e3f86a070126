use Rattle.std.proofs.Common.{◌≡◌, Ok, sym, ap, ◌∙◌, map, [], ◌∷◌, rules, arith}
use Rattle.case_model.specs.Sums.{terms_at}
use Rattle.edge_expression.specs.declared.polynomial.Operation.{Operation}
use Rattle.edge_expression.specs.EntryView.{short_terms, polynomial_terms, applied}
use Rattle.edge_expression.specs.EntryValues.{zero_coefficients}
use Rattle.edge_expression.proofs.Coefficients.{item_terms}
use Rattle.edge_expression.proofs.SignedEntries.{by_items, zero_plus}
use Rattle.edge_expression.proofs.UnitEntries.{tabled}
use Rattle.edge_expression.proofs.polynomial.Polynomial.signed.Goals as goal

pub returns-in-Add : goal.returns-in-Add
unfolding applied
returns-in-Add c =
    let xs = c.args.self.now.coefficients in
    let a = item_terms xs 0 c.index-self-0.result (omega arith) c.index-self-0.is in
    let b = item_terms xs 1 c.index-self-1.result (omega arith) c.index-self-1.is in
    let d = item_terms xs 2 c.index-self-2.result (omega arith) c.index-self-2.is in
    let e = item_terms xs 3 c.index-self-3.result (omega arith) c.index-self-3.is in
    let f = item_terms xs 4 c.index-self-4.result (omega arith) c.index-self-4.is in
    let told : polynomial_terms c.of.result ≡ short_terms c.index-self-0.result ∷ short_terms c.index-self-1.result ∷ short_terms
    c.index-self-2.result ∷ short_terms c.index-self-3.result ∷ short_terms c.index-self-4.result ∷ [] = search rules in
    let same : polynomial_terms c.of.result ≡ tabled (terms_at (map short_terms xs)) = told ∙ by_items (map short_terms xs) _ _ _ _ _ a b d e f in
    ap Ok same ∙ sym (zero_plus xs) ∙ ap (λ (o : Operation). applied o zero_coefficients (map short_terms xs)) (sym c.in-Add.is)

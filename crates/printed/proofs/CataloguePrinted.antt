-- What `catalogue` prints is read as the case of the named graph.
use Rattle.std.proofs.Common.{◌≡◌, sym, ap, subst, ◌∙◌, inl, inr, lit<, arith}
use Rattle.fraction.specs.View.{number_of}
use Rattle.answers.specs.declared.answer.Answer.{Answer}
use Rattle.catalogue.proofs.RatiosOf.{part_value}
use Rattle.command_words.specs.Asked.{text, catalogue}
use Rattle.command_words.specs.declared.format.Format.TheVariants.{Text}
use Rattle.command_words.specs.declared.graph_name.SizedGraph.{SizedGraph}
use Rattle.command_words.specs.Words.{asked_in}
use Rattle.answers.proofs.Decided.{stage_decided}
use Rattle.graph_cli.proofs.ClosedReports.{not_done}
use Rattle.graph_cli.specs.Accepted.{case_in}
use Rattle.graph_cli.specs.Commands.{call_of}
use Rattle.graph_cli.specs.Graphs.{catalogue_stage}
use Rattle.printed.specs.Catalogue.{PrintsNamedGraph, CatalogueIsOfTheNamedGraphs}
use Rattle.printed.proofs.CanonReadBack.{text_read, read_as}
use Rattle.printed.proofs.NamedGraphs.{named_is}
use Rattle.printed.proofs.RulesDecide.{has_rule}

prints : (graph : SizedGraph) (a : Answer) → (catalogue_stage graph).Gives a → PrintsNamedGraph graph a.text
unfolding catalogue_stage
prints graph a g =
    let c = g.0 in
    let N = named_is graph c g.1 in
    record {
      case = c;
      read = read_as Text c a.text
          (subst (λ t. (case_in text t).Gives c) (sym (ap (λ (x : Answer). x.text) g.2)) (text_read c N.valid N.whole));
      made = g.1;
      names = N.names;
      level = ap number_of N.level ∙ part_value 20 (omega arith) (lit< tt);
      bare = N.bare;
      filled = N.filled;
      rule = has_rule graph c N g.1;
    }

pub catalogue_of_graphs : CatalogueIsOfTheNamedGraphs
unfolding call_of
catalogue_of_graphs words graph case proof a asks (inr h) z = absurd (not_done a.status h.0.cause (ap (λ (x : Answer). x.status) h.2) z)
catalogue_of_graphs words graph case proof a asks (inl h) z =
    let command_is : h.0 ≡ catalogue graph = (stage_decided (asked_in words)).one h.0 (catalogue graph) h.1 asks in
    prints graph a (subst (λ command. (call_of command case proof).Gives a) command_is h.2)

use Rattle.std.proofs.Common.{inl, inr, refl}
use Rattle.answers.specs.declared.refusal.Refusal.{Refusal}
use Rattle.answers.proofs.Stopping.{source_ends, value_ends}
use Rattle.graph_cli.specs.Commands.{call_of, TakesCase, TakesProof, StopsAtCase}
use Rattle.graph_cli.proofs.commands.call.Goals as goal

pub returns-in-OnCase-clause-ends : goal.returns-in-OnCase-clause-ends
unfolding call_of TakesCase TakesProof
returns-in-OnCase-clause-ends g c =
    rw c.in-OnCase.is (source_ends _ _ _ _ c.case_call.result (λ x h k. (h, (k, refl))) (λ (r : Refusal) h k. (h, (k, refl))) (λ f. inl (tt, f)) (λ k. (k, refl))
    c.case_call.ensures.ends)

pub returns-in-Check-clause-ends : goal.returns-in-Check-clause-ends
unfolding call_of TakesCase TakesProof
returns-in-Check-clause-ends g c =
    rw c.in-Check.is (source_ends _ _ _ _ c.check_call.result (λ x h k. (h, k)) (λ (r : Refusal) h k. (h, k))
    (λ f. elim f [ inl a ↦ inl (tt, a) | inr b ↦ inr b ]) (λ k. k) c.check_call.ensures.ends)

pub returns-in-Sample-clause-ends : goal.returns-in-Sample-clause-ends
unfolding call_of TakesCase TakesProof
returns-in-Sample-clause-ends g c =
    rw c.in-Sample.is (value_ends _ _ c.sample_answer.result (λ x h. (h, (refl, refl))) (λ (r : Refusal) h. (h, (refl, refl))) (refl, refl)
    c.sample_answer.ensures)

pub returns-in-Catalogue-clause-ends : goal.returns-in-Catalogue-clause-ends
unfolding call_of TakesCase TakesProof
returns-in-Catalogue-clause-ends g c =
    rw c.in-Catalogue.is (value_ends _ _ c.catalogue_answer.result (λ x h. (h, (refl, refl))) (λ (r : Refusal) h. (h, (refl, refl))) (refl, refl)
    c.catalogue_answer.ensures)

pub returns-in-Check-clause-proof_kept : goal.returns-in-Check-clause-proof_kept
unfolding TakesProof
returns-in-Check-clause-proof_kept g c = rw c.in-Check.is c.check_call.ensures.proof_kept

pub returns-in-Check-clause-proof_asked : goal.returns-in-Check-clause-proof_asked
unfolding TakesProof StopsAtCase
returns-in-Check-clause-proof_asked g c = rw c.in-Check.is (λ _. c.check_call.ensures.proof_asked)

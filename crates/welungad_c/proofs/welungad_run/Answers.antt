use Rattle.std.proofs.Common.{map, string_bytes, inr}
use Rattle.answers.specs.Lines.{no_memory}
use Rattle.welungad_c.proofs.Replies.{answers_of, out_of_memory}
use Rattle.welungad_c.proofs.welungad_run.Goals as goal

pub returns-in-Ok-to-clause-answers : goal.returns-in-Ok-to-clause-answers
returns-in-Ok-to-clause-answers c = λ ws are.
    answers_of c.args.words.now ws (map string_bytes c.as_slice.result.now) c.args.case.now c.args.proof.now c.args.out.now c.deliver.new.out
    c.deliver.new.needed c.deliver.result c.as_slice-in-Ok-to.result.now c.in-Ok-to.reply.status (rw c.as_slice.ensures c.in-Ok.ensures.words) are
    (rw c.as_slice-in-Ok-to.ensures c.in-Ok-to.ensures) c.deliver.ensures

pub returns-in-Ok-clause-answers : goal.returns-in-Ok-clause-answers
unfolding no_memory
returns-in-Ok-clause-answers c = λ ws are. out_of_memory ws c.args.case.now c.args.proof.now c.args.out.now c.deliver-in-Err.new.out
    c.deliver-in-Err.new.needed c.deliver-in-Err.result c.deliver-in-Err.ensures

pub returns-in-Err-NoMemory-clause-answers : goal.returns-in-Err-NoMemory-clause-answers
unfolding no_memory
returns-in-Err-NoMemory-clause-answers c = λ ws are. out_of_memory ws c.args.case.now c.args.proof.now c.args.out.now c.deliver-in-Err-NoMemory.new.out
    c.deliver-in-Err-NoMemory.new.needed c.deliver-in-Err-NoMemory.result c.deliver-in-Err-NoMemory.ensures

pub returns-in-Err-NoMemory-clause-unread : goal.returns-in-Err-NoMemory-clause-unread
unfolding no_memory
returns-in-Err-NoMemory-clause-unread c = λ none. inr c.deliver-in-Err-NoMemory.ensures

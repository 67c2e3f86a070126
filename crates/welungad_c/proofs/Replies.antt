-- The clause of a call from C, from what the top call replies.
use Rattle.std.proofs.Common.{ℕ, List, inr, refl}
use Rattle.answers.specs.Lines.{no_memory}
use Rattle.welungad_c.specs.Calls.{Replies, Answers}
use Rattle.welungad_c.specs.Delivery.{Delivers}
use Rattle.welungad_c.specs.Words.{AreWords}
use Rattle.welungad_c.proofs.Ended.{one_list}

-- a reply to the words that were read is one to any words that the bytes are
pub answers_of : (bytes : List ℕ) (ws vs : List (List ℕ)) (case proof old new : List ℕ) (needed result : ℕ) (text : List ℕ) (status : ℕ) → AreWords bytes vs
    → AreWords bytes ws → Replies vs case proof text status → Delivers text status old new needed result → Answers ws case proof old new needed result
answers_of bytes ws vs case proof old new needed result text status found are replies delivered = record {
  text = text;
  status = status;
  replies = rw (one_list bytes ws vs are found) replies;
  delivered = delivered;
}

-- a call that is out of memory
pub out_of_memory : (words : List (List ℕ)) (case proof old new : List ℕ) (needed result : ℕ) → Delivers no_memory 8 old new needed result
    → Answers words case proof old new needed result
out_of_memory words case proof old new needed result delivered = record { text = no_memory; status = 8; replies = inr (refl, refl); delivered = delivered }

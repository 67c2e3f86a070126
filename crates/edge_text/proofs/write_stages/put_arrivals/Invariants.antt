use Rattle.std.proofs.Common.{◌≡◌, ◌++◌, drop, map}
use Rattle.text_lines.specs.Spelling.{text_of}
use Rattle.edge_text.specs.CanonicalText.{arrive_words}
use Rattle.edge_text.proofs.write_stages.put_arrivals.Given as goal

-- what is put, with the arrivals that are left, is all
abbrev pub invariant-loop-arrival : goal.invariant-loop-arrival
invariant-loop-arrival l = l.text ++ text_of (map (arrive_words l.names) (drop l.arrival-index l.arrivals)) ≡ l.fn.text ++ text_of
    (map (arrive_words l.names) l.arrivals)

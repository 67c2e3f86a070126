use Rattle.std.proofs.Common.{length}
use Rattle.command_words.proofs.reading.+pieces.Given as goal

abbrev pub decreases-pieces : goal.decreases-pieces
decreases-pieces l = length l.words.now

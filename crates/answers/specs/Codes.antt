-- The numbers of statuses.
use Rattle.std.specs.Prelude.{ℕ}
use Rattle.answers.specs.declared.cause.Cause.{Cause}
use Rattle.answers.specs.declared.cause.Cause.TheVariants.{Usage, Malformed, Limit, TooWide}
use Rattle.answers.specs.declared.status.Status.{Status}
use Rattle.answers.specs.declared.stop.Stop.{Stop}
use Rattle.answers.specs.declared.stop.Stop.TheVariants as stops
use Rattle.answers.specs.declared.status.Status.TheVariants.{Done, No, Refused}

abbrev pub cause_code : Cause → ℕ
cause_code Usage = 2
cause_code Malformed = 3
cause_code Limit = 4
cause_code TooWide = 5

abbrev pub status_code : Status → ℕ
status_code Done = 0
status_code No = 1
status_code (Refused cause) = cause_code cause

abbrev pub stop_code : Stop → ℕ
stop_code (stops.Refused refusal) = cause_code refusal.cause
stop_code stops.ReadFault = 6
stop_code stops.NoMemory = 8
stop_code stops.KeeperFault = 9

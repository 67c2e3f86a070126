-- The opening of a case, by whether it is plain.
use Rattle.std.proofs.Common.{◌≡◌, refl, true, false}
use Rattle.field_core.specs.Kind.{ok_map}
use Rattle.case_model.specs.Content.{Content, is_plain}
use Rattle.case_numbers.specs.Numbers.{in_fractions, in_quotients, numbers_of}
use Rattle.entangled.specs.CaseRun.{state_of, opening_in, case_opening}

pub plain_opening : (c : Content) → is_plain c ≡ true → case_opening c ≡ ok_map (state_of in_fractions) (opening_in in_fractions c)
unfolding case_opening numbers_of
plain_opening c e = rw e refl

pub other_opening : (c : Content) → is_plain c ≡ false → case_opening c ≡ ok_map (state_of in_quotients) (opening_in in_quotients c)
unfolding case_opening numbers_of
other_opening c e = rw e refl

-- the opening of a case by its numbers
pub ruleset openings = (plain_opening, other_opening)

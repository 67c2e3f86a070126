-- The numbers of a case: plain cases are run in fractions, and all others in quotients in epsilon, in which each edge is written as a
-- polynomial (this project's own). A plain case is one in which no edge has a coefficient other than 0 above power 0.
use Rattle.std.specs.Prelude.{◌≡◌, true, List, [], ◌∷◌, map, if◌then◌else◌, Result, Ok}
use Rattle.field_core.specs.declared.place.Op.TheVariants.{Add}
use Rattle.field_core.specs.declared.place.TooWide.{TooWide}
use Rattle.field_core.specs.declared.ratio.Ratio.{Ratio}
use Rattle.field_core.specs.Kind.{Parts, Kind, or_wide}
use Rattle.field_core.specs.View.{terms}
use Rattle.fraction.specs.Plain.{plain, single, IsFraction}
use Rattle.eps_quotient.specs.Polynomials.{term, written_polynomial}
use Rattle.eps_quotient.specs.Quotients.{quotients}
use Rattle.eps_quotient.specs.Stored.{IsQuotient}
use Rattle.case_model.specs.Sums.{ratio_at}
use Rattle.case_model.specs.Content.{Content, is_plain}

-- the numbers that a case is run in
pub data Numbers : Type 0 where
  in_fractions : Numbers
  in_quotients : Numbers

-- the numbers of a case
unfoldable pub numbers_of : Content → Numbers
numbers_of c = if is_plain c then in_fractions else in_quotients

-- a case can be run in quotients, and in fractions only if it is plain
abbrev pub CanRunIn : Numbers → Content → Type 0
CanRunIn in_fractions c = is_plain c ≡ true
CanRunIn in_quotients c = Unit {0}

-- the written operations of these numbers
abbrev pub kind_of : Numbers → Kind
kind_of in_fractions = plain
kind_of in_quotients = quotients

-- which parts their kind stores
abbrev pub IsStoredIn : Numbers → Parts → Type 0
IsStoredIn in_fractions = IsFraction
IsStoredIn in_quotients = IsQuotient

-- the coefficients of an entry, those of the powers 0 to 4 of epsilon
abbrev pub five_coefficients : List Ratio → List Ratio
five_coefficients e = ratio_at e 0 ∷ ratio_at e 1 ∷ ratio_at e 2 ∷ ratio_at e 3 ∷ ratio_at e 4 ∷ []

-- a weight as a number, with nothing written
abbrev pub loaded_weight : Numbers → Ratio → Parts
loaded_weight in_fractions x = single (terms x)
loaded_weight in_quotients x = term 0 (terms x)

-- an edge: in fractions its coefficient of power 0, with nothing written; in quotients the written polynomial of its coefficients
abbrev pub loaded_edge : Numbers → List Ratio → Result Parts TooWide
loaded_edge in_fractions e = Ok (single (terms (ratio_at e 0)))
loaded_edge in_quotients e = or_wide Add (written_polynomial (map terms (five_coefficients e)))

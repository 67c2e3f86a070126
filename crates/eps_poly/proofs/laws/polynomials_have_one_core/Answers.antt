use Rattle.eps_poly.proofs.FactorLaws.{core_is, core_factors, factor_only, power_only, core_only}
use Rattle.eps_poly.proofs.Validity.{core_valid}
use Rattle.eps_poly.proofs.laws.polynomials_have_one_core.Goals as goal

pub returns : goal.returns
returns c = record {
  polynomial = λ p v. core_valid p v;
  core = λ p v some. core_is p v.count some;
  product = λ p v. core_factors p v.count;
  only_factor = λ p q c k v some is same. factor_only p q c k v.count some is same;
  only_power = λ p q c k v some is same. power_only p q c k v.count some is same;
  only_core = λ p q c k v some is same. core_only p q c k v.count some is same;
}

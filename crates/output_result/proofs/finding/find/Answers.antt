use Rattle.std.proofs.Common.{◌≡◌, ℕ, subst, sym}
use Rattle.prime_field.specs.Modulus.{value_of}
use Rattle.prime_field.specs.Residue.{IsPrime}
use Rattle.prime_field.specs.declared.Modulus.{Modulus}
use Rattle.prime_field.specs.declared.Modulus.TheVariants.{First, Second}
use Rattle.poly_maps.specs.declared.pair.Pair.{Pair}
use Rattle.multivar_recon.specs.Least.{IsAgreeing, IsLeastPair}
use Rattle.multivar_recon.specs.Rays.{RegularRays}
use Rattle.multivar_recon.specs.declared.by_rays.Method.TheVariants.{Fit, Rays}
use Rattle.ray_grid.specs.Attempt.{attempt_points}
use Rattle.rational_lift.specs.Parts.{by_modulus}
use Rattle.output_result.specs.Findings.{output_of, result_of}
use Rattle.output_result.specs.Methods.{HasRegularRays}
use Rattle.output_result.specs.Outputs.{Output}
use Rattle.output_result.specs.Results.{OutputResult}
use Rattle.output_result.proofs.Shown.{both_least, method_is, report_told, result_lifted, result_shown}
use Rattle.output_result.proofs.finding.find.Goals as goal

pub returns-in_default-clause-result : goal.returns-in_default-clause-result
returns-in_default-clause-result c prime =
    let none : IsPrime (value_of First) → (f : Pair) → IsAgreeing (value_of First) c.args.bounds.now (attempt_points c.args.grid.now c.args.first.attempt) c.args.first.values.now f → ⊥ =
    rw c.in_default.is at c.in_ok-pair1.ensures.none in
    let o : Output = output_of c.args.bounds.now c.args.grid.now c.args.first.attempt c.args.first.values.now c.args.second.attempt c.args.second.values.now in
    subst (OutputResult c.args.coeff.now o) (sym c.without_pair.ensures.finding) (none (prime First))

pub returns-in_default-2-clause-result : goal.returns-in_default-2-clause-result
returns-in_default-2-clause-result c prime =
    let first : IsLeastPair (value_of First) c.args.bounds.now (attempt_points c.args.grid.now c.args.first.attempt) c.args.first.values.now c.in-Some.pair1 =
    rw c.in-Some.is at c.in_ok-pair1.ensures.least in
    let none : IsPrime (value_of Second) → (f : Pair) → IsAgreeing (value_of Second) c.args.bounds.now (attempt_points c.args.grid.now c.args.second.attempt) c.args.second.values.now f → ⊥ =
    rw c.in_default-2.is at c.in_ok-pair2.ensures.none in
    let o : Output = output_of c.args.bounds.now c.args.grid.now c.args.first.attempt c.args.first.values.now c.args.second.attempt c.args.second.values.now in
    subst (OutputResult c.args.coeff.now o) (sym c.without_pair-in_default-2.ensures.finding) ((c.in-Some.pair1, first.agreeing), none (prime Second))

pub returns-clause-result : goal.returns-clause-result
returns-clause-result c prime =
    let first : IsLeastPair (value_of First) c.args.bounds.now (attempt_points c.args.grid.now c.args.first.attempt) c.args.first.values.now c.in-Some.pair1 =
    rw c.in-Some.is at c.in_ok-pair1.ensures.least in
    let second : IsLeastPair (value_of Second) c.args.bounds.now (attempt_points c.args.grid.now c.args.second.attempt) c.args.second.values.now c.in-Some-2.pair2 =
    rw c.in-Some-2.is at c.in_ok-pair2.ensures.least in
    let o : Output = output_of c.args.bounds.now c.args.grid.now c.args.first.attempt c.args.first.values.now c.args.second.attempt c.args.second.values.now in
    result_lifted c.args.coeff.now o (result_of c.in_ok-finding.finding) (by_modulus c.in-Some.pair1 c.in-Some-2.pair2)
    (both_least o c.in-Some.pair1 c.in-Some-2.pair2 first second) c.in_ok-finding.ensures

pub returns-clause-shown : goal.returns-clause-shown
returns-clause-shown c names count =
    let first : IsLeastPair (value_of First) c.args.bounds.now (attempt_points c.args.grid.now c.args.first.attempt) c.args.first.values.now c.in-Some.pair1 =
    rw c.in-Some.is at c.in_ok-pair1.ensures.least in
    let second : IsLeastPair (value_of Second) c.args.bounds.now (attempt_points c.args.grid.now c.args.second.attempt) c.args.second.values.now c.in-Some-2.pair2 =
    rw c.in-Some-2.is at c.in_ok-pair2.ensures.least in
    let o : Output = output_of c.args.bounds.now c.args.grid.now c.args.first.attempt c.args.first.values.now c.args.second.attempt c.args.second.values.now in
    result_shown c.args.coeff.now c.args.grid.now o c.requires.grid c.requires.covers c.requires.num c.requires.den c.requires.narrow
    (result_of c.in_ok-finding.finding) names (by_modulus c.in-Some.pair1 c.in-Some-2.pair2) count (both_least o c.in-Some.pair1 c.in-Some-2.pair2 first second) c.in_ok-finding.ensures

pub returns-clause-methods : goal.returns-clause-methods
returns-clause-methods c prime =
    let first_rays : c.in-Some.by1 ≡ Rays → RegularRays (value_of First) c.args.bounds.now c.args.grid.now c.args.first.attempt c.args.first.values.now =
    rw c.in-Some.is at c.in_ok-pair1.ensures.along in
    let first_fit : IsPrime (value_of First) → c.in-Some.by1 ≡ Fit → RegularRays (value_of First) c.args.bounds.now c.args.grid.now c.args.first.attempt c.args.first.values.now → ⊥ =
    rw c.in-Some.is at c.in_ok-pair1.ensures.fitted in
    let second_rays : c.in-Some-2.by2 ≡ Rays → RegularRays (value_of Second) c.args.bounds.now c.args.grid.now c.args.second.attempt c.args.second.values.now =
    rw c.in-Some-2.is at c.in_ok-pair2.ensures.along in
    let second_fit : IsPrime (value_of Second) → c.in-Some-2.by2 ≡ Fit → RegularRays (value_of Second) c.args.bounds.now c.args.grid.now c.args.second.attempt c.args.second.values.now → ⊥ =
    rw c.in-Some-2.is at c.in_ok-pair2.ensures.fitted in
    let o : Output = output_of c.args.bounds.now c.args.grid.now c.args.first.attempt c.args.first.values.now c.args.second.attempt c.args.second.values.now in
    let attempts : Modulus → ℕ = by_modulus c.args.first.attempt c.args.second.attempt in
    report_told c.args.coeff.now c.args.grid.now attempts o (result_of c.in_ok-finding.finding) (by_modulus c.in-Some.pair1 c.in-Some-2.pair2) c.in-Some.by1 c.in-Some-2.by2 c.in_ok-finding.ensures
    (method_is (HasRegularRays c.args.grid.now c.args.first.attempt o First) c.in-Some.by1 first_rays (first_fit (prime First)))
    (method_is (HasRegularRays c.args.grid.now c.args.second.attempt o Second) c.in-Some-2.by2 second_rays (second_fit (prime Second)))

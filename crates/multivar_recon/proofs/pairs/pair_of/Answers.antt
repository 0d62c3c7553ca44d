use Rattle.std.proofs.Common.{◌%◌, ◌+◌, get_or, length, slice_index, ◌∙◌, ap}
use Rattle.std.proofs.lemmas.List.{get_or-drop, get_or-take}
use Rattle.prime_field.specs.Modulus.{value_of}
use Rattle.poly_maps.specs.Polynomial.{coefficient}
use Rattle.multivar_recon.proofs.Listed.{with_numbers-same}
use Rattle.multivar_recon.proofs.pairs.pair_of.Goals as goal

pub returns-clause-num : goal.returns-clause-num
returns-clause-num c e =
    let nums = c.args.nums.now in
    let numbers = c.args.numbers.now in
    c.in_ok-num.ensures.coefficients e ∙
    ap (λ p. coefficient e p % value_of c.args.m) (with_numbers-same nums (slice_index c.split_at.result.0.now) (slice_index numbers)
    (λ k low. ap (λ xs. get_or xs k 0) c.split_at.ensures.front ∙ get_or-take (length nums) numbers k 0 low))

pub returns-clause-den : goal.returns-clause-den
returns-clause-den c e =
    let nums = c.args.nums.now in
    let numbers = c.args.numbers.now in
    c.in_ok-den.ensures.coefficients e ∙
    ap (λ p. coefficient e p % value_of c.args.m) (with_numbers-same c.args.dens.now (slice_index c.split_at.result.1.now) (λ k. slice_index numbers (length nums + k))
    (λ k low. ap (λ xs. get_or xs k 0) c.split_at.ensures.back ∙ get_or-drop (length nums) numbers k 0))

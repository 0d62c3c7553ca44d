use Rattle.std.proofs.Common.{◌*◌, ◌%◌, slice_index, length, ap, sym, ◌∙◌, refl, All}
use Rattle.std.proofs.lemmas.Nat.{mul-mod_first}
use Rattle.prime_field.specs.Modulus.{value_of}
use Rattle.prime_field.specs.Residue.{IsUnit}
use Rattle.prime_field.specs.Product.{product_to}
use Rattle.std.proofs.lemmas.Bool.{false≢true}
use Rattle.std.proofs.Math.Nat.{mod-mod}
use Rattle.prime_field.proofs.Units.{unit-cong}
use Rattle.prime_field.proofs.Moduli.{value_of-large}
use Rattle.prime_field.proofs.BatchLemmas.{unit-product, All-inverses}
use Rattle.prime_field.proofs.Modulus.inv_all.Goals as goal

pub take_apart-requires-clause-all : goal.take_apart-requires-clause-all
take_apart-requires-clause-all c =
    let m = value_of c.args.self.now in
    let whole = product_to (length c.args.xs.now) (slice_index c.args.xs.now) in
    sym (mul-mod_first whole c.in-Some.inverse m) ∙
    ap (λ t. (t * c.in-Some.inverse) % m) (sym c.products_before-product.ensures.all) ∙
    c.in-Some.ensures.inverse

pub returns-in-Some-clause-units : goal.returns-in-Some-clause-units
returns-in-Some-clause-units c =
    (λ _. All-inverses (value_of c.args.self.now) c.args.xs.now c.take_apart.new.xs c.take_apart.ensures, λ _. refl)

pub returns-in-None-clause-units : goal.returns-in-None-clause-units
returns-in-None-clause-units c =
    let m = value_of c.args.self.now in
    let xs = c.args.xs.now in
    let whole = product_to (length xs) (slice_index xs) in
    let product_unit : All (IsUnit m) xs → IsUnit m (whole % m) = λ units.
    unit-cong m whole (whole % m) (sym (mod-mod whole m))
    (unit-product m (length xs) (slice_index xs) (value_of-large c.args.self.now) (λ k low. units k 0 low)) in (
      λ wrong. absurd (false≢true wrong),
      λ units. absurd (c.in-None.ensures.none (rw c.products_before-product.ensures.all (product_unit units))),
    )

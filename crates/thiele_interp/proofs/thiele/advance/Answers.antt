use Rattle.std.proofs.Common.{◌+◌, ◌-◌, ◌∷◌, []}
use Rattle.prime_field.specs.Modulus.{value_of}
use Rattle.univariate.specs.Coefficients.{product_of}
use Rattle.thiele_interp.proofs.Advanced.{advanced}
use Rattle.thiele_interp.proofs.thiele.advance.Goals as goal

pub returns-clause-last : goal.returns-clause-last
returns-clause-last c =
    rw c.swap_with_slice.ensures.after
    (advanced (value_of c.args.m) (c.args.degree + 2) c.args.coefficient (product_of ((value_of c.args.m - c.args.root) ∷ 1 ∷ []) c.args.before.now)
    c.args.last.now c.multiply_by_root.new.coefficients c.add_multiple.new.target c.requires.last_degree c.multiply_by_root.ensures.product c.add_multiple.ensures.sum)

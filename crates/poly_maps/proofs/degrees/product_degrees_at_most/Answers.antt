use Rattle.poly_maps.proofs.ProductDegrees.{total_degree-product_most, degree_in-product_most}
use Rattle.poly_maps.proofs.degrees.product_degrees_at_most.Goals as goal

pub returns-clause-total : goal.returns-clause-total
returns-clause-total c m p q r polynomial same = total_degree-product_most m p q r polynomial.0 same

pub returns-clause-each : goal.returns-clause-each
returns-clause-each c m i p q r polynomial same = degree_in-product_most m i p q r polynomial.0 same

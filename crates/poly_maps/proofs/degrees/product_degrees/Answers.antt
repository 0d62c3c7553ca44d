use Rattle.std.proofs.Common.{◌≡◌, ℕ, List, [], ◌∷◌, ◌%◌, Some, ◌∙◌, ap}
use Rattle.prime_field.specs.Residue.{IsPrime}
use Rattle.poly_maps.specs.Mono.{mono_product}
use Rattle.poly_maps.specs.Polynomial.{coefficient, leading, product_of, AreResidues, IsPolynomial}
use Rattle.poly_maps.proofs.Leading.{leading-product, total_degree-product}
use Rattle.poly_maps.proofs.degrees.product_degrees.Goals as goal

leads : (m : ℕ) (p q r : List (List ℕ × ℕ)) (e f : List ℕ) → IsPrime m → IsPolynomial p → AreResidues m p → IsPolynomial q → AreResidues m q → IsPolynomial r →
    ((g : List ℕ) → coefficient g r ≡ coefficient g (product_of p q) % m) → leading p ≡ Some e → leading q ≡ Some f → leading r ≡ Some (mono_product e f)
leads m [] q r e f prime p_is p_low q_is q_low r_is same first second = cc
leads m (t ∷ p) [] r e f prime p_is p_low q_is q_low r_is same first second = cc
leads m (t ∷ p) (u ∷ q) r e f prime p_is p_low q_is q_low r_is same first second =
    let e_is : t.0 ≡ e = cc in
    let f_is : u.0 ≡ f = cc in
    leading-product m 8 t p u q r prime p_is.0 p_is.1 p_low.0 q_is.0 q_is.1 q_low.0 r_is.0 same ∙
    ap (λ g. Some (mono_product g u.0)) e_is ∙ ap (λ g. Some (mono_product e g)) f_is

pub returns-clause-leading : goal.returns-clause-leading
returns-clause-leading c = leads

pub returns-clause-total : goal.returns-clause-total
returns-clause-total c m p q r prime p_is p_low q_is q_low r_is same p_some q_some =
    total_degree-product m 8 p q r prime p_is.0 p_is.1 p_low q_is.0 q_is.1 q_low r_is.0 same p_some q_some

use Rattle.std.proofs.Common.{◌*◌, ◌%◌, Some, ap, sym, ◌∙◌, mul-one}
use Rattle.std.specs.Option.{option_map}
use Rattle.std.proofs.Math.Nat.{mod-eq_of_lt}
use Rattle.prime_field.specs.Residue.{inverse}
use Rattle.ratfun_text.proofs.Quotients.{inverse_one}
use Rattle.ratfun_text.proofs.evaluation.divided.Goals as goal

pub returns-then-below-eq1-clause-value : goal.returns-then-below-eq1-clause-value
returns-then-below-eq1-clause-value g c =
    let m = g.F.Field.modulus in
    sym (ap (λ b. option_map (λ i. (c.args.above * i) % m) (inverse m b)) c.if-below-eq1.true ∙
    ap (option_map (λ i. (c.args.above * i) % m)) (inverse_one m g.met.F.Field.large) ∙
    ap (λ n. Some (n % m)) (mul-one c.args.above) ∙
    ap (λ n. Some n) (mod-eq_of_lt c.requires.above))

use Rattle.std.proofs.Common.{◌≡◌, ◌++◌, List, ℕ, [], ◌∷◌, length, drop, ap, ◌∙◌, arith}
use Rattle.std.proofs.lemmas.List.{take_at}
use Rattle.prime_field.specs.Modulus.{value_of}
use Rattle.prime_field.proofs.Moduli.{value_of-large}
use Rattle.poly_maps.specs.Expansion.{residues, times_sum}
use Rattle.poly_maps.proofs.Expanding.{power_row-low, power_row-next}
use Rattle.poly_maps.proofs.shift.raise.Goals as goal

pub multiply_by_sum-highest-requires-clause-residues : goal.multiply_by_sum-highest-requires-clause-residues
multiply_by_sum-highest-requires-clause-residues c =
    rw c.deref_mut.ensures.value (power_row-low (value_of c.args.m) c.args.a c.loop-m.row.items (omega (arith, value_of-large c.args.m)) c.loop-m.invariant.0)

pub loop-m-preserved : goal.loop-m-preserved
loop-m-preserved c =
    let multiplied : List ℕ = c.multiply_by_sum-highest.new.row in
    let long : length multiplied ≡ c.loop-m.row.len = c.multiply_by_sum-highest.auto.row ∙ c.deref_mut.ensures.len in
    let product : c.push-in-loop-m.new.self.items ≡ residues (value_of c.args.m) (times_sum c.args.a 0 c.loop-m.row.items) =
    c.in_ok-push-2.ensures.items ∙
    ap (λ x. x ++ c.multiply_by_sum-highest.result ∷ []) (take_at multiplied (drop (length multiplied) c.loop-m.row.items) c.loop-m.row.len long) ∙
    c.multiply_by_sum-highest.ensures.product ∙
    ap (λ x. residues (value_of c.args.m) (times_sum c.args.a 0 x)) c.deref_mut.ensures.value in (
      power_row-next (value_of c.args.m) c.args.a c.loop-m.row.items c.push-in-loop-m.new.self.items c.loop-m.invariant.0 product,
      omega (arith, c.in_ok-push-2.ensures.len, c.loop-m-test.true, c.len-in-loop-m.ensures),
    )

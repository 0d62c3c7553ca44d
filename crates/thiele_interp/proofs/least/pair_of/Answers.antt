use Rattle.std.proofs.Common.{◌≡◌, ℕ, suc, ◌+◌, ◌-◌, ◌*◌, ◌%◌, ◌∷◌, List, length, slice_index, ◌∙◌, ap, subst, arith, rules}
use Rattle.std.proofs.Math.ListN.{set, replicate}
use Rattle.prime_field.specs.Modulus.{value_of}
use Rattle.prime_field.proofs.Moduli.{value_of-large}
use Rattle.thiele_interp.proofs.Stopped.{Stopped, Stopped-none}
use Rattle.thiele_interp.proofs.Ends.{first-remainders, first-agree, least-scaled}
use Rattle.thiele_interp.proofs.least.pair_of.Goals as goal

-- zeros of which the first is made 1
one_first : (n long : ℕ) (p : List ℕ) → long ≡ suc n → p ≡ replicate long 0 → set p 0 1 ≡ 1 ∷ replicate n 0
one_first n long p same zeros = ap (λ q. set q 0 1) (zeros ∙ ap (λ k. replicate k 0) same)

pub descend-requires-clause-remainders : goal.descend-requires-clause-remainders
descend-requires-clause-remainders c =
    let n = length c.args.points.now in
    first-remainders (value_of c.args.m) n (length c.args.earlier.now) n (slice_index c.args.points.now) (slice_index c.args.values.now)
    c.args.above.now c.args.rest.now c.fill.new.self (set c.fill-2.new.self 0 1) (value_of-large c.args.m) c.requires.above c.requires.rest
    (c.fill.ensures.after (search rules)) (one_first n (length c.args.factor.now) c.fill-2.new.self (omega arith) (c.fill-2.ensures.after (search rules)))

pub returns-then-terms-b-clause-none : goal.returns-then-terms-b-clause-none
returns-then-terms-b-clause-none c prime num den agreeing =
    let m = value_of c.args.m in
    let n = length c.args.points.now in
    let found = c.in_ok-degree.ensures in
    let degrees = found.remainders.degrees in
    let stopped : Stopped m n (slice_index c.args.points.now) (slice_index c.args.values.now) c.args.a c.in_ok-degree.degree (n - c.in_ok-degree.degree)
    c.descend.new.above c.descend.new.rest c.descend.new.earlier c.descend.new.factor =
    record {
      high = found.high;
      remainders = found.remainders;
      rest_low = found.low;
      agree = found.agree n (slice_index c.args.points.now) (slice_index c.args.values.now)
          (first-agree m n (length c.args.earlier.now) n (slice_index c.args.points.now) (slice_index c.args.values.now)
          c.args.above.now c.args.rest.now c.fill.new.self (set c.fill-2.new.self 0 1) (λ j. omega (arith, c.requires.points j)) c.requires.above c.requires.rest
          (c.fill.ensures.after (search rules)) (one_first n (length c.args.factor.now) c.fill-2.new.self (omega arith) (c.fill-2.ensures.after (search rules))));
    } in
    let predecessor : suc (m - 1) ≡ m = omega (arith, value_of-large c.args.m) in
    Stopped-none m (m - 1) n (slice_index c.args.points.now) (slice_index c.args.values.now) c.args.a c.args.b c.in_ok-degree.degree (n - c.in_ok-degree.degree)
    c.descend.new.above c.descend.new.rest c.descend.new.earlier c.descend.new.factor num den predecessor c.requires.apart stopped (omega arith) agreeing

pub returns-clause-least : goal.returns-clause-least
returns-clause-least c =
    let m = value_of c.args.m in
    let n = length c.args.points.now in
    let found = c.in_ok-degree.ensures in
    let degrees = found.remainders.degrees in
    let d = n - c.in_ok-degree.degree in
    let stopped : Stopped m n (slice_index c.args.points.now) (slice_index c.args.values.now) c.args.a c.in_ok-degree.degree d
    c.descend.new.above c.descend.new.rest c.descend.new.earlier c.descend.new.factor =
    record {
      high = found.high;
      remainders = found.remainders;
      rest_low = found.low;
      agree = found.agree n (slice_index c.args.points.now) (slice_index c.args.values.now)
          (first-agree m n (length c.args.earlier.now) n (slice_index c.args.points.now) (slice_index c.args.values.now)
          c.args.above.now c.args.rest.now c.fill.new.self (set c.fill-2.new.self 0 1) (λ j. omega (arith, c.requires.points j)) c.requires.above c.requires.rest
          (c.fill.ensures.after (search rules)) (one_first n (length c.args.factor.now) c.fill-2.new.self (omega arith) (c.fill-2.ensures.after (search rules))));
    } in
    let predecessor : suc (m - 1) ≡ m = omega (arith, value_of-large c.args.m) in
    let last : n + 1 - c.in_ok-degree.degree - 1 ≡ d = omega arith in
    least-scaled m (m - 1) n (slice_index c.args.points.now) (slice_index c.args.values.now) c.args.a c.args.b c.in_ok-degree.degree d c.in_ok-inverse.inverse
    c.descend.new.above c.descend.new.rest c.descend.new.earlier c.descend.new.factor _ _ predecessor (value_of-large c.args.m) c.requires.apart stopped c.requires.few (omega arith)
    (subst (λ (k : ℕ). (slice_index c.descend.new.factor k * c.in_ok-inverse.inverse) % m ≡ 1) last c.in_ok-inverse.ensures.inverse)
    c.write_pair-length.ensures.num c.write_pair-length.ensures.den

use Rattle.std.proofs.Common.{◌+◌, ◌-◌, ◌*◌, ◌%◌, get_or, sym, ◌∙◌, ap, arith}
use Rattle.prime_field.specs.Modulus.{value_of}
use Rattle.prime_field.specs.Sum.{sum_to}
use Rattle.elim_core.proofs.Entries.{entry-right}
use Rattle.elim_core.proofs.Taken.{right_low}
use Rattle.elim_core.proofs.Values.{term, words-low, sum-after}
use Rattle.elim_core.proofs.substitution.solved.Goals as goal

pub dot-sum-requires-clause-words : goal.dot-sum-requires-clause-words
dot-sum-requires-clause-words c k low =
    words-low (value_of c.args.modulus) c.args.unknowns c.args.rows.now c.args.ends.now c.args.values.now c.args.place
    c.requires.laid_out c.requires.place c.requires.used _ k (omega arith) low

pub sub-requires-clause-left : goal.sub-requires-clause-left
sub-requires-clause-left c = right_low _ _ _ _ _ c.requires.laid_out c.requires.place c.requires.used

pub returns-clause-left : goal.returns-clause-left
returns-clause-left c =
    let m = value_of c.args.modulus in
    let u = c.args.unknowns in
    let rows = c.args.rows.now in
    let ends = c.args.ends.now in
    let place = c.args.place in
    let whole = sum-after m u rows ends c.args.values.now place c.requires.laid_out c.requires.place c.requires.used _ _ (omega arith) (omega arith) in
    c.sub.ensures.difference ∙
    ap (λ x. (get_or rows (place * (u + 1) + place) 0 + (m - x)) % m) (c.dot-sum.ensures.sum ∙ ap (λ x. x % m) whole) ∙
    ap (λ x. (x + (m - sum_to u (term u rows ends c.args.values.now place) % m)) % m)
    (sym (entry-right u rows ends place c.requires.used c.requires.place))

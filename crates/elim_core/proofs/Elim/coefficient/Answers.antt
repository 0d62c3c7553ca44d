use Rattle.std.proofs.Common.{◌≡◌, ℕ, ◌+◌, ◌-◌, ◌<◌, [], get_or, refl}
use Rattle.prime_field.specs.Modulus.{value_of}
use Rattle.elim_core.specs.Rows.{AreResidues, AllMet, chosen_value}
use Rattle.elim_core.specs.Layout.{entry}
use Rattle.elim_core.proofs.Lists.{moved}
use Rattle.elim_core.proofs.Solvers.{solvable_opened, coefficient_constant, coefficient_multiple}
use Rattle.elim_core.proofs.Elim.coefficient.Goals as goal

pub returns-then-k-eq0 : goal.returns-then-k-eq0
returns-then-k-eq0 c set lists =
    let e = c.args.self.now in
    coefficient_constant e c.args.words.now (solvable_opened _ _ c.requires.solvable) c.requires.belongs.laid_out set lists c.args.j c.free_value-constant.result
    c.requires.unknown.0 c.requires.unknown.1
    (moved (λ a b r. (z : ℕ → ℕ) → AreResidues (value_of e.modulus) e.unknowns z → AllMet (value_of e.modulus) e.unknowns (entry e.unknowns a b) z →
    ((k : ℕ) → k < e.unknowns → get_or b k 0 ≡ 0 → z k ≡ chosen_value 0 (k + 1)) → c.free_value-constant.result ≡ z (c.args.j - 1))
    _ _ [] _ _ [] c.rows_in-rows.ensures c.ends_in-ends.ensures refl c.free_value-constant.ensures.value)
    c.args.k c.if-k-eq0.true

pub returns : goal.returns
returns c set lists =
    let e = c.args.self.now in
    coefficient_multiple e c.args.words.now (solvable_opened _ _ c.requires.solvable) c.requires.belongs.laid_out set lists c.args.j c.args.k
    c.free_value-constant.result c.free_value-sum.result _
    c.requires.unknown.0 c.requires.unknown.1 c.if-k-eq0.false c.requires.within (c.requires.independent c.if-k-eq0.false)
    (moved (λ a b r. (z : ℕ → ℕ) → AreResidues (value_of e.modulus) e.unknowns z → AllMet (value_of e.modulus) e.unknowns (entry e.unknowns a b) z →
    ((k : ℕ) → k < e.unknowns → get_or b k 0 ≡ 0 → z k ≡ chosen_value 0 (k + 1)) → c.free_value-constant.result ≡ z (c.args.j - 1))
    _ _ [] _ _ [] c.rows_in-rows.ensures c.ends_in-ends.ensures refl c.free_value-constant.ensures.value)
    (moved (λ a b r. (z : ℕ → ℕ) → AreResidues (value_of e.modulus) e.unknowns z → AllMet (value_of e.modulus) e.unknowns (entry e.unknowns a b) z →
    ((k : ℕ) → k < e.unknowns → get_or b k 0 ≡ 0 → z k ≡ chosen_value c.args.k (k + 1)) → c.free_value-sum.result ≡ z (c.args.j - 1))
    _ _ [] _ _ [] c.rows_in-rows.ensures c.ends_in-ends.ensures refl c.free_value-sum.ensures.value)
    c.sub.ensures.difference

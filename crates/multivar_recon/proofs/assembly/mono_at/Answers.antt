use Rattle.std.proofs.Common.{◌≡◌, suc, ◌-◌, ◌%◌, ◌/◌, ◌<◌, length, ◌∙◌, subst, arith}
use Rattle.std.proofs.Math.ListN.{set}
use Rattle.std.proofs.Math.Nat.{mod-lt}
use Rattle.std.proofs.Common.{ℕ, drop}
use Rattle.newton_interp.proofs.Monomials.{AreSplit, named-at, split-next, split-last}
use Rattle.multivar_recon.proofs.assembly.mono_at.Goals as goal

pub nonzero_rem-exponents : goal.nonzero_rem-exponents
nonzero_rem-exponents c =
    let here = named-at c.args.axes.now (c.loop-k.k - 1) c.index-axes-k.result (omega arith) c.index-axes-k.is c.requires.named in
    let count : c.len-count.result ≡ length c.index-axes-k.result.values.items = omega (arith, c.len-count.ensures, c.index-axes-k.result.values.ok.0) in
    omega (arith, here.some, count)

pub nonzero_div-rest : goal.nonzero_div-rest
nonzero_div-rest c =
    let here = named-at c.args.axes.now (c.loop-k.k - 1) c.index-axes-k.result (omega arith) c.index-axes-k.is c.requires.named in
    let count : c.len-count.result ≡ length c.index-axes-k.result.values.items = omega (arith, c.len-count.ensures, c.index-axes-k.result.values.ok.0) in
    omega (arith, here.some, count)

pub overflow_cast-exponents : goal.overflow_cast-exponents
overflow_cast-exponents c =
    let here = named-at c.args.axes.now (c.loop-k.k - 1) c.index-axes-k.result (omega arith) c.index-axes-k.is c.requires.named in
    let count : c.len-count.result ≡ length c.index-axes-k.result.values.items = omega (arith, c.len-count.ensures, c.index-axes-k.result.values.ok.0) in
    let some : 0 < c.len-count.result = omega (arith, here.some, count) in
    omega (arith, here.few, count, mod-lt c.loop-k.rest some)

pub overflow_sub-exponents : goal.overflow_sub-exponents
overflow_sub-exponents c =
    (named-at c.args.axes.now (c.loop-k.k - 1) c.index-axes-k.result (omega arith) c.index-axes-k.is c.requires.named).first

pub bounds-exponents-axis : goal.bounds-exponents-axis
bounds-exponents-axis c =
    let here = named-at c.args.axes.now (c.loop-k.k - 1) c.index-axes-k.result (omega arith) c.index-axes-k.is c.requires.named in
    omega (arith, here.first, here.last)

pub loop-k-preserved : goal.loop-k-preserved
loop-k-preserved c =
    let axis = c.index-axes-k.result in
    let k = c.loop-k.k - 1 in
    let next : c.loop-k.k ≡ suc k = omega arith in
    let count : length axis.values.items ≡ c.len-count.result = omega (arith, c.len-count.ensures, c.index-axes-k.result.values.ok.0) in
    subst (λ (n : ℕ). AreSplit (drop k c.args.axes.now) c.args.place (set c.loop-k.exponents (axis.variable - 1) (c.loop-k.rest % n)) (c.loop-k.rest / n)) count
    (split-next c.args.axes.now k c.loop-k.k axis c.args.place c.loop-k.exponents c.loop-k.rest next (omega arith) c.index-axes-k.is c.requires.named c.loop-k.invariant)

pub returns : goal.returns
returns c = c.new.ensures ∙ split-last c.args.axes.now c.loop-k.k c.args.place c.loop-k.exponents c.loop-k.rest (omega arith) c.requires.place c.loop-k.invariant

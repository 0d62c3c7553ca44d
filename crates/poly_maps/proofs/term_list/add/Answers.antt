use Rattle.std.proofs.Common.{◌<◌, ◌+◌, ◌%◌, ap, sym, ◌∙◌, subst, arith}
use Rattle.prime_field.specs.Modulus.{value_of}
use Rattle.prime_field.proofs.Moduli.{value_of-large}
use Rattle.poly_maps.specs.Places.{AddsTerm}
use Rattle.poly_maps.proofs.Terms.{residue-at, IsNormal-descends}
use Rattle.poly_maps.proofs.Adding.{adds_set, adds_remove, adds_insert, adds_nothing}
use Rattle.poly_maps.proofs.term_list.add.Goals as goal

pub place-requires : goal.place-requires
place-requires c = rw c.deref.ensures.value (IsNormal-descends c.args.terms.now.items c.requires.polynomial.0)

pub add-sum-requires-clause-left : goal.add-sum-requires-clause-left
add-sum-requires-clause-left c =
    let there = rw c.deref.ensures.value at c.in-Ok.ensures in
    subst (λ n. n < value_of c.args.m) (sym (ap (λ t. t.1) c.index.ensures)) (residue-at _ c.args.terms.now.items c.in-Ok.place c.index.result.now c.requires.residues there.there.0)

pub returns-then-sum-eq0-clause-ok : goal.returns-then-sum-eq0-clause-ok
returns-then-sum-eq0-clause-ok c =
    let there = rw c.deref.ensures.value at c.in-Ok.ensures in
    let is = sym c.if-sum-eq0.true ∙ c.add-sum.ensures.sum ∙ ap (λ t. (t.1 + c.args.c) % value_of c.args.m) c.index.ensures in
    rw c.remove.ensures.items (adds_remove (value_of c.args.m) c.args.terms.now.items c.args.mono c.in-Ok.place c.index.result.now c.args.c (omega (arith, value_of-large c.args.m)) c.requires.polynomial c.requires.residues there.there is)

pub returns-else-sum-eq0-clause-ok : goal.returns-else-sum-eq0-clause-ok
returns-else-sum-eq0-clause-ok c =
    let there = rw c.deref.ensures.value at c.in-Ok.ensures in
    let is = c.add-sum.ensures.sum ∙ ap (λ t. (t.1 + c.args.c) % value_of c.args.m) c.index.ensures in
    adds_set (value_of c.args.m) c.args.terms.now.items c.args.mono c.in-Ok.place c.index.result.now c.args.c c.add-sum.result (omega (arith, value_of-large c.args.m)) c.exponents-exponents.ensures.eight c.requires.polynomial c.requires.residues there.there is c.if-sum-eq0.false

pub returns-in_ok-insert-in-Err-clause-ok : goal.returns-in_ok-insert-in-Err-clause-ok
returns-in_ok-insert-in-Err-clause-ok c =
    let belongs = rw c.deref.ensures.value at c.in-Err.ensures in
    rw c.in_ok-insert-in-Err.ensures.items (adds_insert (value_of c.args.m) c.args.terms.now.items c.args.mono c.in-Err.place c.args.c (omega (arith, value_of-large c.args.m)) c.exponents-exponents.ensures.eight c.requires.polynomial c.requires.residues belongs.belongs c.requires.residue c.if-c-ne0.true)

pub returns-else-c-ne0-clause-ok : goal.returns-else-c-ne0-clause-ok
returns-else-c-ne0-clause-ok c =
    subst (AddsTerm (value_of c.args.m) c.args.terms.now.items c.args.terms.now.items c.args.mono) (sym c.if-c-ne0.false) (adds_nothing (value_of c.args.m) c.args.terms.now.items c.args.mono (omega (arith, value_of-large c.args.m)) c.requires.polynomial c.requires.residues)

-- The rows of both tables have the same room.
use Rattle.std.proofs.Common.{◌≡◌, All, length, sym, ◌∙◌, ap, subst}
use Rattle.std.specs.Prelude.{vec_len}
use Rattle.std.proofs.lemmas.List.{with_items_is}
use Rattle.parallel_sampler.specs.Filled.{Filling, HasRoom}
use Rattle.parallel_sampler.proofs.table.Table.take_from.Goals as goal

pub invariant_of-self : goal.invariant_of-self
invariant_of-self c =
    let s = c.self.inside in
    let room : c.other.inside.room ≡ s.room = ap (λ (f : Filling). f.room) c.other.view_is ∙ c.requires.room ∙ sym (ap (λ (f : Filling). f.room) c.self.view_is) in
    let own = subst (All (HasRoom s.room)) (sym c.as_mut_slice.ensures.value) c.self.invariant in
    let other = subst (All (HasRoom s.room)) (sym c.as_mut_slice-2.ensures.value) (subst (λ n. All (HasRoom n) c.other.inside.rows.items) room c.other.invariant) in
    let written : length c.take_rows.new.rows ≡ vec_len s.rows = c.take_rows.auto.rows ∙ c.as_mut_slice.ensures.len in
    subst (All (HasRoom s.room)) (sym (with_items_is s.rows c.take_rows.new.rows written)) (c.take_rows.ensures.room s.room own other)

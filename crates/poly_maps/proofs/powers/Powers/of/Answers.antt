use Rattle.std.proofs.Common.{◌≡◌, ◌++◌, length, drop, ap, sym, ◌∙◌}
use Rattle.std.proofs.Math.ListN.{replicate}
use Rattle.poly_maps.specs.Mono.{mono_value}
use Rattle.poly_maps.proofs.PointLemmas.{padded_is}
use Rattle.poly_maps.proofs.PowerLemmas.{mono_value-padded}
use Rattle.poly_maps.proofs.powers.Powers.of.Goals as goal

pub returns-clause-values : goal.returns-clause-values
returns-clause-values c =
    let point = c.args.point.now in
    let zeros = replicate 8 0 in
    let few = c.entries-entries.ensures.point.few in
    let copied : c.copy_from_slice.new.self ≡ point = c.copy_from_slice.ensures.after ∙ c.entries-entries.ensures.value in
    let bases = ap (λ w. w ++ drop (length c.entries-entries.result.now) zeros) copied ∙ ap (λ w. point ++ drop (length w) zeros) c.entries-entries.ensures.value ∙ sym (padded_is point few) in
    λ e. ap (mono_value e) bases ∙ mono_value-padded e point few

use Rattle.std.proofs.Common.{◌≡◌, ◌+◌, ◌∷◌, ◌++◌, [], slice_index, ◌∙◌, ap, arith}
use Rattle.poly_maps.specs.Mono.{degree}
use Rattle.newton_interp.specs.GridPoints.{exponents_at}
use Rattle.multivar_recon.specs.Assembly.{filled}
use Rattle.multivar_recon.proofs.RowParts.{first_exponent, adds_zero, adds_term, low_next}
use Rattle.multivar_recon.proofs.assembly.push_part.Goals as goal
use Rattle.multivar_recon.proofs.assembly.push_part.Goals.{then-coefficient-ne0+else-total-k+in_ok-push, else-coefficient-ne0}

pub filled-requires-clause-first : goal.filled-requires-clause-first
filled-requires-clause-first c = ap (λ e. slice_index e 0) c.mono_at-mono.ensures ∙ first_exponent c.args.axes.now c.loop-place.place c.requires.named c.requires.first

pub loop-place-preserved : goal.loop-place-preserved
loop-place-preserved c =
    let axes = c.args.axes.now in
    let k = c.args.k in
    let row = slice_index c.args.row.now in
    let place = c.loop-place.place in
    elim c.if-coefficient-ne0.branch [
      | then-coefficient-ne0+else-total-k+in_ok-push w ↦
          let pushed : c.if-coefficient-ne0.terms.items ≡ c.loop-place.terms.items ++ (w.filled.result, row place) ∷ [] = rw w.terms-is w.in_ok-push.ensures.items in
          let made : c.if-coefficient-ne0.terms.items ≡ c.loop-place.terms.items ++ (filled k (exponents_at axes place), row place) ∷ [] =
          pushed ∙
          ap (λ e. c.loop-place.terms.items ++ (e, row place) ∷ []) (w.filled.ensures ∙ ap (filled k) w.mono_at-mono.ensures) in (
            adds_term axes k row place c.args.terms.now.items c.loop-place.terms.items c.if-coefficient-ne0.terms.items made c.loop-place.invariant.0,
            low_next axes k row place (λ high. omega (arith, high, w.if-total-k.false, w.total.ensures, ap degree w.mono_at-mono.ensures)) c.loop-place.invariant.1,
          )
      | else-coefficient-ne0 w ↦ (
        rw w.terms-is (adds_zero axes k row place c.args.terms.now.items c.loop-place.terms.items w.if-coefficient-ne0.false c.loop-place.invariant.0),
        low_next axes k row place (λ high. w.if-coefficient-ne0.false) c.loop-place.invariant.1,
      )
    ]

use Rattle.std.proofs.Common.{◌≡◌, ◌==◌, not, ◌&&◌, false, sym, ◌∙◌}
use Rattle.poly_maps.specs.Mono.{degree}
use Rattle.ratfun_text.specs.Printed.{chained, is_unit, magnitude, powers, term_text}
use Rattle.ratfun_text.proofs.Printing.{put_twice, term_full}
use Rattle.ratfun_text.proofs.print.push_term.Goals as goal

pub returns : goal.returns
returns c =
    let names = c.args.names.now in
    let e = c.args.mono.now in
    let f = c.args.f in
    let full : (not (degree e == 0) && is_unit f) ≡ false = sym c.is_bare.ensures ∙ c.if-is_bare.false in
    put_twice c.push_powers-2.result c.args.text.now.items (magnitude f) (chained false (powers names e)) (term_text names (e, f)) c.push_magnitude.new.text.items c.push_powers-2.new.text.items c.in_ok-push_magnitude.ensures (term_full names e f full) c.push_powers-2.ensures

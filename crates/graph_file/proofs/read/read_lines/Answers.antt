use Rattle.std.proofs.Common.{◌≡◌, ◌∙◌, ◌∷◌, ◌<◌, ◌+◌, ℕ, List, Some, sym, ap, arith, drop, take, length}
use Rattle.std.specs.List.{slice_get}
use Rattle.std.proofs.lemmas.Option.{slice_get_within}
use Rattle.std.proofs.lemmas.Result.{err_from_is_err_and}
use Rattle.graph_file.specs.Cut.{pieces_behind, size_behind}
use Rattle.graph_file.specs.File.{said}
use Rattle.graph_file.specs.Lines.{lines}
use Rattle.graph_file.proofs.FileLemmas.{at-end, cut-off, good-file, line-at, good-lines, good-more, refused-at}
use Rattle.graph_file.proofs.read.read_lines.Goals as goal

pub returns-in_err-next_line : goal.returns-in_err-next_line
returns-in_err-next_line c =
    let left : drop c.loop-rest.place (lines c.args.bytes.now) ≡ c.cut.result.0.now ∷ pieces_behind 10 c.cut.result.1 = c.loop-rest.invariant.left ∙ ap (pieces_behind 10) c.in-Some.is ∙ c.cut.ensures.pieces in
    let told = err_from_is_err_and c.from_residual.result c.from_residual.ensures.1 in
    rw (told.1, told.2) (refused-at c.args.need c.args.bytes.now c.loop-rest.place c.in_err-next_line.field-0.0.line c.in_err-next_line.field-0.0.kind c.loop-rest.invariant.good
    (c.in_err-next_line.ensures (lines c.args.bytes.now) (line-at (lines c.args.bytes.now) c.loop-rest.place c.cut.result.0.now (pieces_behind 10 c.cut.result.1) left).0 c.loop-rest.invariant.read))

pub loop-rest-preserved : goal.loop-rest-preserved
loop-rest-preserved c =
    let all : List (List ℕ) = lines c.args.bytes.now in
    let left : drop c.loop-rest.place all ≡ c.cut.result.0.now ∷ pieces_behind 10 c.cut.result.1 = c.loop-rest.invariant.left ∙ ap (pieces_behind 10) c.in-Some.is ∙ c.cut.ensures.pieces in
    let parts : (slice_get all c.loop-rest.place ≡ Some c.cut.result.0.now) × (drop (c.loop-rest.place + 1) all ≡ pieces_behind 10 c.cut.result.1) = line-at all c.loop-rest.place c.cut.result.0.now (pieces_behind 10 c.cut.result.1) left in
    let inside : c.loop-rest.place < length all = slice_get_within all c.loop-rest.place c.cut.result.0.now parts.0 in
    let next = c.in_ok-next_line.ensures all parts.0 c.loop-rest.invariant.read in
    record {
      left = parts.1;
      size = omega (arith, c.loop-rest.invariant.size, ap size_behind c.in-Some.is, c.cut.ensures.shorter);
      within = omega (arith, inside);
      good = good-more all c.loop-rest.place c.loop-rest.invariant.good next.0;
      read = next.1;
    }

pub next_line-requires-clause-read : goal.next_line-requires-clause-read
next_line-requires-clause-read c = record {
  earlier = said (take c.loop-rest.place (lines c.args.bytes.now));
  read = c.loop-rest.invariant.read;
  good = good-lines (lines c.args.bytes.now) c.loop-rest.place c.loop-rest.invariant.within c.loop-rest.invariant.good;
}

pub returns-then-not-is_complete : goal.returns-then-not-is_complete
returns-then-not-is_complete c =
    let all : List (List ℕ) = lines c.args.bytes.now in
    let whole : c.loop-rest.place ≡ length all = at-end all c.loop-rest.place c.loop-rest.invariant.within (c.loop-rest.invariant.left ∙ ap (pieces_behind 10) c.in_default.is) in
    cut-off c.args.need c.args.bytes.now c.loop-rest.place whole c.loop-rest.invariant.good (sym (c.is_complete.ensures (said (take c.loop-rest.place all)) c.loop-rest.invariant.read) ∙ c.if-not-is_complete.true)

pub returns : goal.returns
returns c =
    let all : List (List ℕ) = lines c.args.bytes.now in
    let whole : c.loop-rest.place ≡ length all = at-end all c.loop-rest.place c.loop-rest.invariant.within (c.loop-rest.invariant.left ∙ ap (pieces_behind 10) c.in_default.is) in
    good-file c.args.need c.args.bytes.now c.loop-rest.place c.loop-rest.reader whole c.loop-rest.invariant.good c.loop-rest.invariant.read (sym (c.is_complete.ensures (said (take c.loop-rest.place all)) c.loop-rest.invariant.read) ∙ c.if-not-is_complete.false)

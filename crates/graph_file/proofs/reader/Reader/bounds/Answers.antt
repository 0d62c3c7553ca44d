use Rattle.std.proofs.Common.{◌∙◌, ap, refl, sym, subst}
use Rattle.graph_file.specs.Asked.{AreLow}
use Rattle.graph_file.specs.declared.asked.Asked.{Asked}
use Rattle.graph_file.specs.declared.line.Line.TheVariants.{Bounds}
use Rattle.graph_file.proofs.BoundLemmas.{KeptBounds, given-same, kept-bounds, low-said, passed-den, passed-num}
use Rattle.graph_file.proofs.StepLemmas.{bounds-fits}
use Rattle.graph_file.proofs.TakeLemmas.{passed}
use Rattle.graph_file.specs.declared.line.Line.TheVariants as line
use Rattle.graph_file.proofs.GraphLemmas.{AreBehind-kept}
use Rattle.graph_file.proofs.reader.Reader.bounds.Goals as goal

pub add_bounds-requires : goal.add_bounds-requires
add_bounds-requires c =
    let pass = passed c.args.self.now (Bounds c.args.outputs c.args.num.now c.args.den.now) c.requires.passes in
    subst AreLow (sym c.bounds_said-bounds.ensures) (low-said c.count.result c.args.num.now c.args.den.now (passed-num c.requires.passes.earlier c.args.outputs c.args.num.now c.args.den.now pass) (passed-den c.requires.passes.earlier c.args.outputs c.args.num.now c.args.den.now pass))

pub returns : goal.returns
returns c = λ earlier read.
    let pass = passed c.args.self.now (Bounds c.args.outputs c.args.num.now c.args.den.now) c.requires.passes in
    let fresh = given-same c.requires.passes.earlier c.args.self.now c.args.outputs c.requires.passes.read ∙ pass.is_new in
    let kept : KeptBounds earlier c.args.outputs c.args.num.now c.args.den.now c.add_bounds.new.self = kept-bounds earlier c.args.self.now c.args.outputs c.args.num.now c.args.den.now c.count.result c.bounds_said-bounds.result c.add_bounds.new.self read c.in_ok-add_bounds.ensures c.bounds_said-bounds.ensures c.count.ensures fresh in
    record {
      last_is = refl;
      depths_are = record { are = read.depths_are.are; low = read.depths_are.low };
      graphs_are = AreBehind-kept (line.Bounds c.args.outputs c.args.num.now c.args.den.now) earlier _ _ refl read.graphs_are;
      name_is = read.name_is;
      variables_are = read.variables_are;
      names_are = read.names_are;
      unknowns_are = read.unknowns_are;
      entries_are = read.entries_are;
      kinds_are = read.kinds_are;
      output_is = read.output_is;
      points_are = kept.points_are;
      all_is = kept.all_is;
      special_are = kept.special_are;
      coeff_is = kept.coeff_is;
      widest_is = kept.widest_is;
      sound = bounds-fits c.args.self.now c.args.outputs c.args.num.now c.args.den.now _ c.requires.passes (ap (λ (a : Asked). a.points) c.in_ok-add_bounds.ensures);
    }

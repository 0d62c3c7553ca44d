use Rattle.std.proofs.Common.{◌≡◌, ◌∙◌, true, ℕ, length, sym, ap, subst}
use Rattle.ratfun_text.specs.Names.{names_of as variables_of}
use Rattle.ray_grid.specs.Grid.{IsGrid}
use Rattle.graph_file.specs.Asked.{AreLow, widened}
use Rattle.graph_file.specs.Bounding.{bounds_said, grid_with}
use Rattle.graph_file.specs.Faults.{are_numbers, has_few, is_small}
use Rattle.graph_file.proofs.BoundLemmas.{next-few, next-grid, next-is-grid, next-low, tested-bounds}
use Rattle.graph_file.proofs.faults.are_bounds.Goals as goal

pub widened-widest-requires : goal.widened-widest-requires
widened-widest-requires c =
    let numbers : are_numbers c.args.outputs c.args.num.now c.args.den.now ≡ true = sym c.are_numbers.ensures ∙ c.if-not-are_numbers.false in
    record { low = subst AreLow (sym (c.bounds_said-bounds.ensures)) (next-low c.count-variables.result c.args.outputs c.args.num.now c.args.den.now numbers) }

pub is_small-requires : goal.is_small-requires
is_small-requires c =
    let vs : ℕ = length (variables_of c.args.reader.now.variables) in
    let numbers : are_numbers c.args.outputs c.args.num.now c.args.den.now ≡ true = sym c.are_numbers.ensures ∙ c.if-not-are_numbers.false in
    let said : c.bounds_said-bounds.result ≡ bounds_said vs c.args.num.now c.args.den.now = c.bounds_said-bounds.ensures ∙ ap (λ n. bounds_said n c.args.num.now c.args.den.now) c.count-variables.ensures in
    let few : has_few vs (bounds_said vs c.args.num.now c.args.den.now) ≡ true = ap (has_few vs) (sym said) ∙ ap (λ n. has_few n c.bounds_said-bounds.result) (sym c.count-variables.ensures) ∙ sym c.are_few.ensures ∙ c.if-not-are_few.false in
    let wide : c.widened-widest.result ≡ widened c.args.reader.now.asked.widest (bounds_said vs c.args.num.now c.args.den.now) = c.widened-widest.ensures ∙ ap (widened c.args.reader.now.asked.widest) said in
    subst (λ (n : ℕ). IsGrid (grid_with n c.widened-widest.result)) (sym c.count-variables.ensures)
    (next-is-grid c.args.reader.now c.requires.read.earlier c.args.outputs c.args.num.now c.args.den.now c.requires.read.read c.requires.read.good c.requires.stands c.requires.fresh numbers c.widened-widest.result wide few)

pub returns : goal.returns
returns c = λ earlier read.
    let vs : ℕ = length (variables_of c.args.reader.now.variables) in
    let numbers : are_numbers c.args.outputs c.args.num.now c.args.den.now ≡ true = sym c.are_numbers.ensures ∙ c.if-not-are_numbers.false in
    let said : c.bounds_said-bounds.result ≡ bounds_said vs c.args.num.now c.args.den.now = c.bounds_said-bounds.ensures ∙ ap (λ n. bounds_said n c.args.num.now c.args.den.now) c.count-variables.ensures in
    let few : has_few vs (bounds_said vs c.args.num.now c.args.den.now) ≡ true = ap (has_few vs) (sym said) ∙ ap (λ n. has_few n c.bounds_said-bounds.result) (sym c.count-variables.ensures) ∙ sym c.are_few.ensures ∙ c.if-not-are_few.false in
    let wide : c.widened-widest.result ≡ widened c.args.reader.now.asked.widest (bounds_said vs c.args.num.now c.args.den.now) = c.widened-widest.ensures ∙ ap (widened c.args.reader.now.asked.widest) said in
    c.is_small.ensures ∙ ap (λ n. is_small (grid_with n c.widened-widest.result)) c.count-variables.ensures
    ∙ ap is_small (next-grid c.args.reader.now earlier c.args.outputs c.args.num.now c.args.den.now read c.requires.fresh c.widened-widest.result wide)
    ∙ tested-bounds earlier c.args.outputs c.args.num.now c.args.den.now numbers (next-few c.args.reader.now earlier c.args.num.now c.args.den.now read few)

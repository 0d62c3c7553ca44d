use Rattle.std.proofs.Common.{◌≤◌, ◌<◌, ◌+◌, ℕ, List, All, sym, ◌∙◌, ap, subst, arith, get_or, length}
use Rattle.std.proofs.lemmas.List.Elements.{All-append, All-drop, All-take}
use Rattle.sparse_solver.proofs.Turns.{ends_before, range_front, read_at}
use Rattle.sparse_solver.specs.Steps.{part_of}
use Rattle.sparse_solver.proofs.replay.take_row.Goals as goal

pub returns-clause-before : goal.returns-clause-before
returns-clause-before c e low =
    let steps = c.args.steps.now in
    let front = c.split_at_mut-rest.result.0.now in
    let placed = c.requires.shaped.placed e (omega (arith, c.requires.turn, low)) in
    let order : get_or steps.starts.items (e + 1) 0 ≤ get_or steps.leads.items c.args.turn 0 = ends_before c.args.unknowns steps c.requires.shaped e c.args.turn low c.requires.turn in
    let start : get_or steps.leads.items e 0 ≤ get_or steps.starts.items (e + 1) 0 = omega (arith, placed.leads) in
    let lead = read_at steps.leads.items c.args.turn c.index.result.now c.requires.turn c.index.ensures in
    let end : get_or steps.starts.items (e + 1) 0 ≤ length front = omega (arith, order, c.split_at_mut-rest.ensures.front_len, lead) in
    range_front front _ _ _ start end ∙
    sym (range_front front _ _ _ start end) ∙
    ap (λ list. part_of steps e list) (sym c.split_at_mut-rest.ensures.value)

pub returns-clause-below : goal.returns-clause-below
returns-clause-below c m some row_low kept_low =
    let P = λ (x : ℕ). x < m in
    let front : All P c.split_at_mut-rest.result.0.now = subst (λ (l : List ℕ). All P l) (sym c.split_at_mut-rest.ensures.front) (All-take P _ c.args.kept.now kept_low) in
    let rest : All P c.split_at_mut-rest.result.1.now = subst (λ (l : List ℕ). All P l) (sym c.split_at_mut-rest.ensures.back) (All-drop P _ c.args.kept.now kept_low) in
    let behind : All P c.split_at_mut-place.result.1.now = subst (λ (l : List ℕ). All P l) (sym c.split_at_mut-place.ensures.back) (All-drop P _ c.split_at_mut-rest.result.1.now rest) in
    All-append P c.split_at_mut-rest.result.0.now _ front (All-append P c.take_packed.new.values c.split_at_mut-place.result.1.now (c.take_packed.ensures.below m some row_low) behind)

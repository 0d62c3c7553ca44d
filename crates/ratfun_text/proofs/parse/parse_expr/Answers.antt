use Rattle.std.proofs.Common.{◌≡◌, ◌≢◌, ◌+◌, ◌<◌, length, take, drop, get_or, true, false, sym, ◌∙◌, arith}
use Rattle.std.proofs.lemmas.List.{take_rest}
use Rattle.ratfun_text.specs.declared.parse.ExprKind.TheVariants.{NoMemory}
use Rattle.ratfun_text.specs.Bytes.{is_blank}
use Rattle.ratfun_text.specs.Parts.{parts_of}
use Rattle.ratfun_text.specs.Faults.{IsFirst}
use Rattle.ratfun_text.specs.Grammar.{IsTreeOf}
use Rattle.ratfun_text.proofs.Arguments.{greatest_within}
use Rattle.ratfun_text.proofs.Parsed.{Run, run_at, kept_shallow, kept_end, blank_kept, word_kept, word_refused, whole_tree, whole_faultless, answer_err, first_told, memory_told, end_told}
use Rattle.ratfun_text.proofs.parse.parse_expr.Goals.{After-run, After-at, In-Ok-finish, After-at-in-Err-finish}
use Rattle.ratfun_text.proofs.parse.parse_expr.Goals as goal

pub loop-at-preserved-then-is_blank : goal.loop-at-preserved-then-is_blank
loop-at-preserved-then-is_blank c =
    let at = c.loop-at.at in
    let blank : is_blank (get_or c.args.text.now at 0) ≡ true = sym c.is_blank.ensures ∙ c.if-is_blank.true in
    blank_kept c.args.names.now c.args.text.now at (parts_of c.loop-at.builder) (omega arith) blank c.loop-at.invariant.1

pub read-requires-clause-shallow : goal.read-requires-clause-shallow
read-requires-clause-shallow c = kept_shallow c.args.names.now (take c.loop-at.at c.args.text.now) (drop c.loop-at.at c.args.text.now) (parts_of c.loop-at.builder) c.loop-at.invariant.1

run_here : (c : After-run) → Run c.args.text.now c.loop-at.at c.run.result
run_here c =
    let text = c.args.text.now in
    let at = c.loop-at.at in
    let inside : at < length text = c.loop-at-test.true in
    let dark : is_blank (get_or text at 0) ≡ false = sym c.is_blank.ensures ∙ c.if-is_blank.false in
    run_at text _ at c.run.result inside dark (take_rest text (at + 1)) c.run.ensures.within c.run.ensures.joined c.run.ensures.apart

pub loop-at-preserved : goal.loop-at-preserved
loop-at-preserved c = word_kept c.args.text.now c.loop-at.at c.run.result (run_here (goal.at.loop-at-preserved c).After-run) c.args.names.now (parts_of c.loop-at.builder) c.loop-at.invariant.1 (parts_of c.read.new.self) c.in-Ok.ensures

told : (c : After-at) → Run c.args.text.now c.loop-at.at c.run.result → c.at.result.kind ≢ NoMemory → IsFirst c.args.names.now c.args.text.now c.at.result.place c.at.result.kind
told c r =
    first_told c.args.names.now c.args.text.now c.loop-at.at c.in-Err.kind c.at.result c.at.ensures
    (λ other. word_refused c.args.text.now c.loop-at.at c.run.result r c.args.names.now (parts_of c.loop-at.builder) c.loop-at.invariant.1 c.in-Err.kind (answer_err _ (parts_of c.read.new.self) c.in-Err.kind c.in-Err.ensures other))

pub returns-in-Err-clause-first : goal.returns-in-Err-clause-first
returns-in-Err-clause-first c = let at = goal.at.returns-in-Err-clause-first c in told at.After-at (run_here at.After-run)

pub returns-in-Err-clause-read : goal.returns-in-Err-clause-read
returns-in-Err-clause-read c =
    let at = goal.at.returns-in-Err-clause-read c in
    memory_told c.args.names.now c.args.text.now c.at.result (told at.After-at (run_here at.After-run))

tree_here : (c : In-Ok-finish) → IsTreeOf c.args.names.now c.args.text.now c.in-Ok-finish.tree
tree_here c =
    whole_tree c.args.names.now c.args.text.now (parts_of c.loop-at.builder) (kept_end c.args.names.now c.args.text.now c.loop-at.at (parts_of c.loop-at.builder) c.loop-at-test.false c.loop-at.invariant.1) c.in-Ok-finish.tree c.in-Ok-finish.ensures

pub returns-in-Ok-finish-clause-tree : goal.returns-in-Ok-finish-clause-tree
returns-in-Ok-finish-clause-tree c = tree_here c

pub returns-in-Ok-finish-clause-faultless : goal.returns-in-Ok-finish-clause-faultless
returns-in-Ok-finish-clause-faultless c =
    whole_faultless c.args.names.now c.args.text.now (parts_of c.loop-at.builder) (kept_end c.args.names.now c.args.text.now c.loop-at.at (parts_of c.loop-at.builder) c.loop-at-test.false c.loop-at.invariant.1) c.in-Ok-finish.tree c.in-Ok-finish.ensures

pub returns-in-Ok-finish-clause-arguments : goal.returns-in-Ok-finish-clause-arguments
returns-in-Ok-finish-clause-arguments c = greatest_within c.args.names.now c.args.text.now c.in-Ok-finish.tree (tree_here c)

end_here : (c : After-at-in-Err-finish) → c.at-in-Err-finish.result.kind ≢ NoMemory → IsFirst c.args.names.now c.args.text.now c.at-in-Err-finish.result.place c.at-in-Err-finish.result.kind
end_here c =
    first_told c.args.names.now c.args.text.now c.loop-at.at c.in-Err-finish.kind c.at-in-Err-finish.result c.at-in-Err-finish.ensures
    (end_told c.args.names.now c.args.text.now c.loop-at.at (parts_of c.loop-at.builder) c.in-Err-finish.kind c.loop-at.invariant.0 c.loop-at-test.false c.loop-at.invariant.1 c.in-Err-finish.ensures)

pub returns-in-Err-finish-clause-first : goal.returns-in-Err-finish-clause-first
returns-in-Err-finish-clause-first c = end_here c

pub returns-in-Err-finish-clause-read : goal.returns-in-Err-finish-clause-read
returns-in-Err-finish-clause-read c = memory_told c.args.names.now c.args.text.now c.at-in-Err-finish.result (end_here c)

use Rattle.std.proofs.Common.{◌≡◌, ◌<◌, ◌≤◌, ℕ, List, take, Some, All}
use Rattle.std.specs.List.{slice_get}
use Rattle.ratfun_text.specs.Faults.{IsFaultless}
use Rattle.ratfun_text.specs.Names.{last_argument}
use Rattle.ratfun_text.specs.Value.{greatest}
use Rattle.graph_file.specs.Says.{AreTrees}
use Rattle.graph_file.proofs.exprs.expressions.Given as goal

-- the trees so far are those of the texts before the index, in which nothing is wrong
abbrev pub invariant-loop-index : goal.invariant-loop-index
invariant-loop-index l = record {
  trees : AreTrees l.names (take l.index l.texts) l.exprs;
  faultless : (k : ℕ) (text : List ℕ) → k < l.index → slice_get l.texts k ≡ Some text → IsFaultless l.names text;
  arguments : All (λ expr. greatest expr ≤ last_argument l.names) l.exprs;
}

-- Systems of sparse rows, and plans over a set.
use Rattle.std.proofs.Common.{◌≡◌, ℕ, zero, suc, ◌+◌, ◌<◌, ◌≤◌, List, [], ◌∷◌, length, drop, get_or, Option, Some, refl, sym, ◌∙◌, ap, add-one, arith}
use Rattle.std.proofs.Math.Seq.{drop-cons}
use Rattle.elim_core.specs.Sparse.{entries_of}
use Rattle.elim_core.specs.declared.SparseRow.{SparseRow}
use Rattle.graph_file.specs.declared.graph.NodeKind.{NodeKind}
use Rattle.graph_file.specs.declared.graph.NodeKind.TheVariants.{Sparse}
use Rattle.graph_file.specs.declared.graph.Source.{Source}
use Rattle.sparse_solver.specs.Plan.{Plan}
use Rattle.graph_eval.specs.Learned.{kind_plan, plan_over}

-- the values of a row and of those behind it
pub entries-drop : (rows : List SparseRow) (i : ℕ) (d : SparseRow) → i < length rows → entries_of (drop i rows) ≡ length (get_or rows i d).columns + entries_of (drop (i + 1) rows)
entries-drop rows i d below = ap entries_of (drop-cons rows i d below) ∙ ap (λ n. length (get_or rows i d).columns + entries_of (drop n rows)) (sym (add-one i))

-- there is none behind the last one
pub entries-past : (rows : List SparseRow) (i : ℕ) → length rows ≤ i → entries_of (drop i rows) ≡ 0
entries-past [] zero past = refl
entries-past [] (suc i) past = refl
entries-past (row ∷ rows) zero past = absurd (omega arith)
entries-past (row ∷ rows) (suc i) past = entries-past rows i (omega arith)

-- the plan of a sparse node
pub plan_is : (set : List ℕ) (kind : NodeKind) (from : Source) (unknowns : ℕ) (want : List ℕ) (rows : List SparseRow) (plan : Plan) (given : Option Plan) → kind ≡ Sparse from unknowns want rows → given ≡ kind_plan set kind → given ≡ Some plan → plan ≡ plan_over unknowns rows set
plan_is set kind from unknowns want rows plan given is planned some =
    let both : Some plan ≡ Some (plan_over unknowns rows set) = sym some ∙ planned ∙ ap (kind_plan set) is in
    cc

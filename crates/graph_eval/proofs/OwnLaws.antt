-- What a node learns on the lists before it.
use Rattle.std.proofs.Common.{◌≡◌, ◌≢◌, ℕ, ◌+◌, ◌<◌, ◌++◌, take, drop, arith, ◌==◌, Bool, true, false, IsTrue, MatchBool, if◌then◌else◌, List, [], length, Option, Some, None, refl, sym, ◌∙◌, ap, subst, eq-eqb}
use lib.Seq.{take_all, take_at}
use Rattle.std.proofs.lemmas.Bool.{eqb-true, false≢true}
use Rattle.prime_field.specs.Residue.{IsPrime}
use Rattle.elim_core.specs.Kept.{HasSolution}
use Rattle.elim_core.specs.Solved.{IsOwnSet}
use Rattle.elim_core.specs.Sparse.{entries_of, rows_with}
use Rattle.elim_core.specs.declared.SparseRow.{SparseRow}
use Rattle.elim_core.proofs.SameSolutions.{value_solvable}
use Rattle.graph_file.specs.declared.graph.Node.{Node}
use Rattle.graph_file.specs.declared.graph.NodeKind.{NodeKind}
use Rattle.graph_file.specs.declared.graph.NodeKind.TheVariants.{Sparse}
use Rattle.graph_file.specs.declared.graph.Source.{Source}
use Rattle.sparse_solver.specs.Plan.{Plan}
use Rattle.graph_eval.specs.Evaluated.{no_graphs}
use Rattle.graph_eval.specs.Fresh.{HasPlanOrFails, IsOwnOf, KindLearns, NodeLearns}
use Rattle.graph_eval.specs.GraphValue.{KindFails}
use Rattle.graph_eval.specs.Learned.{IsKindSet, IsSetFor, kind_plan, listed_length, plan_of, plan_over}
use Rattle.graph_eval.specs.Reading.{placed}
use Rattle.graph_eval.specs.declared.own.NodeLearned.{NodeLearned}
use Rattle.graph_eval.specs.declared.outcome.Cause.TheVariants.{System}
use Rattle.graph_eval.proofs.Room.{sparse_entries}

-- the own set of a system that has all its entries
pub own_of_whole : (m u entries : ℕ) (rows : List (List ℕ)) (list set : List ℕ) → length list ≡ entries → IsOwnSet m u rows set → IsOwnOf m u entries rows list set
own_of_whole m u entries rows list set whole own = subst (λ (b : Bool). MatchBool b (IsOwnSet m u rows set) (set ≡ [])) (sym (eq-eqb (length list) entries whole)) own

-- a list that hasn't the system's entries gives none
pub own_of_none : (m u entries : ℕ) (rows : List (List ℕ)) (list set : List ℕ) → length list ≢ entries → set ≡ [] → IsOwnOf m u entries rows list set
own_of_none m u entries rows list set other none = at (length list == entries) refl
  where
    at : (b : Bool) → (length list == entries) ≡ b → MatchBool b (IsOwnSet m u rows set) (set ≡ [])
    at true is = absurd (other (eqb-true (length list) entries is))
    at false is = none

-- a plan that has learned
pub plan_made : (before after : Plan) (unknowns : ℕ) (rows : List SparseRow) (found : Option (List ℕ)) (set : List ℕ) → before.unknowns ≡ unknowns → before.rows ≡ rows → (after.unknowns ≡ before.unknowns) × (after.rows ≡ before.rows) → after.learned ≡ found → found ≡ Some set
    → after ≡ plan_over unknowns rows set
plan_made before after unknowns rows found set unknowns_is rows_is same learned is =
    ap (λ n. record after { unknowns = n }) (same.0 ∙ unknowns_is)
    ∙ ap (λ rs. record after { unknowns = unknowns; rows = rs }) (same.1 ∙ rows_is)
    ∙ ap (λ l. record after { unknowns = unknowns; rows = rows; learned = l }) (learned ∙ is)

-- a needed node of a kind
module _ (node : Node) (kind : NodeKind) (needed : node.needed ≡ true) (is : node.kind ≡ kind) where
  pub learns_at : (m : ℕ) (list : Source → List ℕ) (set : List ℕ) → KindLearns m list kind set → NodeLearns m list node set
  learns_at m list set learns =
      subst (λ (b : Bool). MatchBool b (KindLearns m list node.kind set) (set ≡ [])) (sym needed) (subst (λ (k : NodeKind). KindLearns m list k set) (sym is) learns)

  pub set_at : (set : List ℕ) → IsKindSet kind set → IsSetFor node set
  set_at set may = subst (λ (b : Bool). MatchBool b (IsKindSet node.kind set) (set ≡ [])) (sym needed) (subst (λ (k : NodeKind). IsKindSet k set) (sym is) may)

  pub plan_at : (set : List ℕ) → plan_of set node ≡ kind_plan set kind
  plan_at set = ap (λ (b : Bool). if b then kind_plan set node.kind else None) needed ∙ ap (kind_plan set) is

-- a node that isn't needed has no plan
pub plan_unneeded : (node : Node) (set : List ℕ) → node.needed ≡ false → plan_of set node ≡ None
plan_unneeded node set needed = ap (λ (b : Bool). if b then kind_plan set node.kind else None) needed

-- what learned its plan
pub has_plan : (m : ℕ) (list : Source → List ℕ) (node : Node) (own : NodeLearned) → own.planned ≡ true → own.plan ≡ plan_of own.set node → HasPlanOrFails m list node own
has_plan m list node own planned is = record {
  planned = λ yes. is;
  needed = λ no. absurd (false≢true (sym no ∙ planned));
  fails = λ no. absurd (false≢true (sym no ∙ planned));
}

-- a sparse system that learned its plan, or has no solution
pub sparse_plan : (m : ℕ) (words places : List ℕ) (node : Node) (own : NodeLearned) (from : Source) (unknowns : ℕ) (want : List ℕ) (rows : List SparseRow) → 1 < m → node.needed ≡ true → node.kind ≡ Sparse from unknowns want rows
    → (own.planned ≡ true → own.plan ≡ Some (plan_over unknowns rows own.set))
    → (own.planned ≡ false → length (placed words places from) ≡ entries_of rows → IsPrime m → HasSolution m unknowns (rows_with unknowns rows (placed words places from)) → ⊥)
    → HasPlanOrFails m (placed words places) node own
sparse_plan m words places node own from unknowns want rows large needed is made none = record {
  planned = λ yes. made yes ∙ sym (plan_at node (Sparse from unknowns want rows) needed is own.set);
  needed = λ no. needed;
  fails = λ no sizes count has prime.
      let whole = sparse_entries sizes words places own.set from unknowns want rows count (ap (listed_length sizes (placed words places) own.set) (sym is) ∙ has) in
      subst (λ (kind : NodeKind). IsTrue node.needed × KindFails m no_graphs own.set (placed words places) kind System) (sym is)
      (needed, (λ has_value. none no whole prime (value_solvable m unknowns (rows_with unknowns rows (placed words places from)) own.set large has_value), refl));
}

-- words that were there, with zeros behind them, and what is written over these
pub front_kept : (words grown zeros : List ℕ) (len count : ℕ) → len ≡ length words → grown ≡ take (len + count) words ++ zeros → take len grown ≡ words
front_kept words grown zeros len count len_is are =
    ap (take len) are ∙ ap (λ xs. take len (xs ++ zeros)) (take_all (len + count) words (omega arith)) ∙ take_at words zeros len (sym len_is)

pub written_behind : (words before out grown : List ℕ) (len : ℕ) → before ≡ words → length (before ++ out) ≡ len → take len ((before ++ out) ++ drop (length (before ++ out)) grown) ≡ words ++ out
written_behind words before out grown len before_is long = take_at (before ++ out) (drop (length (before ++ out)) grown) len long ∙ ap (λ xs. xs ++ out) before_is

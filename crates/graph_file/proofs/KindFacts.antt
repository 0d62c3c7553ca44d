-- What holds of what a sound node computes.
use Rattle.std.proofs.Common.{◌≡◌, ◌<◌, ℕ, ℤ, zero, suc, refl, subst, List, [], ◌∷◌, map, Some}
use Rattle.std.specs.List.{slice_get}
use Rattle.elim_core.specs.declared.SparseRow.{SparseRow}
use Rattle.ratfun_text.specs.declared.expr.Expr.{Expr}
use Rattle.graph_file.specs.Needed.{Reads, sources_of}
use Rattle.graph_file.specs.Sound.{IsDense, IsEarlier, IsEval, IsKind, IsLaurent, IsMatmul, IsSlice, IsSparse, IsTake}
use Rattle.graph_file.specs.declared.graph.NodeKind.{NodeKind}
use Rattle.graph_file.specs.declared.graph.NodeKind.TheVariants.{Eval, Take, Slice, Chain, Sum, Product, Matmul, Dense, Sparse, Call, Memo, Map, Laurent}
use Rattle.graph_file.specs.declared.graph.Source.{Source}
use Rattle.graph_file.specs.declared.graph.Source.TheVariants as source

only : (number : ℕ) (from : Source) → IsEarlier number from → (i : ℕ) (other : Source) → slice_get (from ∷ []) i ≡ Some other → IsEarlier number other
only number from earlier zero other at = subst (IsEarlier number) (let same : from ≡ other = cc in same) earlier
only number from earlier (suc i) other at = cc

either : (number : ℕ) (left right : Source) → IsEarlier number left → IsEarlier number right → (i : ℕ) (other : Source) → slice_get (left ∷ right ∷ []) i ≡ Some other → IsEarlier number other
either number left right first second zero other at = subst (IsEarlier number) (let same : left ≡ other = cc in same) first
either number left right first second (suc i) other at = only number right second i other at

part : (number : ℕ) (parts : List (Source × ℕ)) → ((k : ℕ) (part : Source × ℕ) → slice_get parts k ≡ Some part → IsEarlier number part.0) → (i : ℕ) (other : Source) → slice_get (map (λ part. part.0) parts) i ≡ Some other → IsEarlier number other
part number [] each i other at = cc
part number (p ∷ parts) each zero other at = subst (IsEarlier number) (let same : p.0 ≡ other = cc in same) (each 0 p refl)
part number (p ∷ parts) each (suc i) other at = part number parts (λ k q is. each (suc k) q is) i other at

-- each list that a sound node reads is there
pub sources_earlier : (variables number : ℕ) (kind : NodeKind) → IsKind variables number kind → (i : ℕ) (from : Source) → slice_get (sources_of kind) i ≡ Some from → IsEarlier number from
sources_earlier variables number (Eval from exprs) sound = only number from sound.earlier
sources_earlier variables number (Take parts) sound = part number parts sound.earlier
sources_earlier variables number (Slice from first last) sound = only number from sound.earlier
sources_earlier variables number (Chain parts) sound = sound.earlier
sources_earlier variables number (Sum parts) sound = sound.earlier
sources_earlier variables number (Product parts) sound = sound.earlier
sources_earlier variables number (Matmul left right rows mid cols) sound = either number left right sound.first sound.second
sources_earlier variables number (Dense from rows unknowns want) sound = only number from sound.earlier
sources_earlier variables number (Sparse from unknowns want rows) sound = only number from sound.earlier
sources_earlier variables number (Call graph parts) sound = sound.earlier
sources_earlier variables number (Memo graph parts) sound = sound.earlier
sources_earlier variables number (Map graph parts) sound = sound.earlier
sources_earlier variables number (Laurent graph lo hi num den parts) sound = sound.earlier

-- a sound node reads nodes before it alone
pub reads_earlier : (variables number : ℕ) (kind : NodeKind) → IsKind variables number kind → (k : ℕ) → Reads kind (source.Node k) → k < number
reads_earlier variables number kind sound k reads = sources_earlier variables number kind sound reads.0 (source.Node k) reads.1

-- what a sound node is, by its kind
module _ (variables number : ℕ) (kind : NodeKind) (sound : IsKind variables number kind) where
  pub sound-eval : (from : Source) (exprs : List Expr) → kind ≡ Eval from exprs → IsEval variables number from exprs
  sound-eval from exprs is = subst (IsKind variables number) is sound

  pub sound-take : (parts : List (Source × ℕ)) → kind ≡ Take parts → IsTake number parts
  sound-take parts is = subst (IsKind variables number) is sound

  pub sound-slice : (from : Source) (first last : ℕ) → kind ≡ Slice from first last → IsSlice number from first last
  sound-slice from first last is = subst (IsKind variables number) is sound

  pub sound-matmul : (left right : Source) (rows mid cols : ℕ) → kind ≡ Matmul left right rows mid cols → IsMatmul number left right rows mid cols
  sound-matmul left right rows mid cols is = subst (IsKind variables number) is sound

  pub sound-dense : (from : Source) (rows unknowns : ℕ) (want : List ℕ) → kind ≡ Dense from rows unknowns want → IsDense number from rows unknowns want
  sound-dense from rows unknowns want is = subst (IsKind variables number) is sound

  pub sound-sparse : (from : Source) (unknowns : ℕ) (want : List ℕ) (rows : List SparseRow) → kind ≡ Sparse from unknowns want rows → IsSparse number from unknowns want rows
  sound-sparse from unknowns want rows is = subst (IsKind variables number) is sound

  pub sound-laurent : (graph : ℕ) (lo hi : ℤ) (num den : ℕ) (parts : List Source) → kind ≡ Laurent graph lo hi num den parts → IsLaurent number lo hi num den parts
  sound-laurent graph lo hi num den parts is = subst (IsKind variables number) is sound

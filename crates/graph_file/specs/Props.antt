-- What holds of nodes has at most one proof: the set for `by { Prim.hlevel props }` after a ghost field.
use Rattle.std.specs.Prelude.{ℕ}
use Rattle.std.proofs.Props as below
use Rattle.graph_file.specs.Sound.{IsEarlier, IsKind}
use Rattle.graph_file.specs.declared.graph.NodeKind.{NodeKind}
use Rattle.graph_file.specs.declared.graph.NodeKind.TheVariants.{Eval, Take, Slice, Chain, Sum, Product, Matmul, Dense, Sparse, Call, Memo, Map, Laurent}
use Rattle.graph_file.specs.declared.graph.Source.{Source}
use Rattle.graph_file.specs.declared.graph.Source.TheVariants as source

pub IsEarlier-prop : (number : ℕ) (from : Source) → IsProp (IsEarlier number from)
IsEarlier-prop number source.Input = Prim.hlevel below.props
IsEarlier-prop number (source.Node k) = Prim.hlevel below.props

pub IsKind-prop : (variables number : ℕ) (kind : NodeKind) → IsProp (IsKind variables number kind)
IsKind-prop variables number (Eval from exprs) = Prim.hlevel (IsEarlier-prop, below.props)
IsKind-prop variables number (Take parts) = Prim.hlevel (IsEarlier-prop, below.props)
IsKind-prop variables number (Slice from first last) = Prim.hlevel (IsEarlier-prop, below.props)
IsKind-prop variables number (Chain parts) = Prim.hlevel (IsEarlier-prop, below.props)
IsKind-prop variables number (Sum parts) = Prim.hlevel (IsEarlier-prop, below.props)
IsKind-prop variables number (Product parts) = Prim.hlevel (IsEarlier-prop, below.props)
IsKind-prop variables number (Matmul left right rows mid cols) = Prim.hlevel (IsEarlier-prop, below.props)
IsKind-prop variables number (Dense from rows unknowns want) = Prim.hlevel (IsEarlier-prop, below.props)
IsKind-prop variables number (Sparse from unknowns want rows) = Prim.hlevel (IsEarlier-prop, below.props)
IsKind-prop variables number (Call graph parts) = Prim.hlevel (IsEarlier-prop, below.props)
IsKind-prop variables number (Memo graph parts) = Prim.hlevel (IsEarlier-prop, below.props)
IsKind-prop variables number (Map graph parts) = Prim.hlevel (IsEarlier-prop, below.props)
IsKind-prop variables number (Laurent graph lo hi num den parts) = Prim.hlevel (IsEarlier-prop, below.props)

pub ruleset props = (IsKind-prop, below.props)

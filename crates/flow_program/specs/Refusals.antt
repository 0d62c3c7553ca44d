-- The texts that say why a file, or the graphs that it says, are refused.
use Rattle.std.specs.Prelude.{ℕ, ◌+◌, List, [], ◌∷◌, ◌++◌, map, codes, slice_index_or}
use Rattle.std.specs.Fmt.{decimal}
use Rattle.ratfun_text.specs.declared.parse.ExprKind.{ExprKind}
use Rattle.ratfun_text.specs.declared.parse.ExprKind.TheVariants as expression
use Rattle.graph_file.specs.declared.error.FileKind.{FileKind}
use Rattle.graph_file.specs.declared.error.FileKind.TheVariants.{Syntax, Version, Repeated, UnknownGraph, UnknownNode, Residue, Limit, Expr, Missing, NoMemory}
use Rattle.graph_file.specs.declared.graph.Graph.{Graph}
use Rattle.graph_file.specs.declared.graph.Source.{Source}
use Rattle.graph_file.specs.declared.graph.Source.TheVariants as source
use Rattle.graph_eval.specs.declared.outcome.Cause.{Cause}
use Rattle.graph_eval.specs.declared.outcome.Cause.TheVariants.{Division, System, Degree, Pole}
use Rattle.graph_eval.specs.declared.outcome.Singular.{Singular}

-- what is wrong with an expression
abbrev pub expression_words : ExprKind → List ℕ
expression_words expression.Unexpected = codes "unexpected"
expression_words expression.WideNumber = codes "wide number"
expression_words expression.UnknownName = codes "unknown name"
expression_words expression.TooDeep = codes "too deep"
expression_words expression.NoMemory = codes "no memory"

-- what is wrong with a line
abbrev pub line_words : FileKind → List ℕ
line_words Syntax = codes "syntax"
line_words Version = codes "version"
line_words Repeated = codes "repeated"
line_words UnknownGraph = codes "unknown graph"
line_words UnknownNode = codes "unknown node"
line_words Residue = codes "residue"
line_words Limit = codes "limit"
line_words (Expr number error) = codes "expression " ++ decimal number ++ codes " place " ++ decimal error.place ++ codes ": " ++ expression_words error.kind
line_words Missing = codes "missing"
line_words NoMemory = codes "no memory"

-- the first bad line of a file, and what is wrong with it
abbrev pub file_text : ℕ → FileKind → List ℕ
file_text line kind = codes "flow: line " ++ decimal line ++ codes ": " ++ line_words kind ++ codes "\n"

-- the names of a graph's nodes
abbrev pub node_names : Graph → List (List ℕ)
node_names graph = map (λ node. node.name) graph.nodes

-- the name that a graph has for a list
abbrev pub source_name : Graph → Source → List ℕ
source_name graph source.Input = codes "input"
source_name graph (source.Node number) = slice_index_or (node_names graph) number []

-- which graph a node belongs to
abbrev pub graph_words : Graph → List ℕ
graph_words graph = codes "flow: graph " ++ graph.name ++ codes " node "

-- the list of a graph whose length is refused
abbrev pub length_text : Graph → Source → List ℕ
length_text graph list = graph_words graph ++ source_name graph list ++ codes " length\n"

-- The list that is named where this node of a graph with this output is told: the input, where the output is the input, for
-- then no node is needed.
abbrev pub told_list : Source → ℕ → Source
told_list source.Input node = source.Input
told_list (source.Node output) node = source.Node node

-- why a node has no value
abbrev pub cause_word : Cause → List ℕ
cause_word Division = codes "division"
cause_word System = codes "system"
cause_word Degree = codes "degree"
cause_word Pole = codes "pole"

-- a node without a value, by its place among these names, and the cause
abbrev pub singular_node : List (List ℕ) → ℕ → Cause → List ℕ
singular_node names n cause = slice_index_or names n [] ++ codes " " ++ cause_word cause

-- the line of the learning point q, at which this node has no value
abbrev pub point_line : List (List ℕ) → ℕ → Singular → List ℕ
point_line names q singular = codes "point " ++ decimal q ++ codes " " ++ singular_node names singular.node singular.cause ++ codes "\n"

-- the lines of the learning points from q on
abbrev pub point_lines : List (List ℕ) → ℕ → List Singular → List ℕ
point_lines names q [] = []
point_lines names q (singular ∷ later) = point_line names q singular ++ point_lines names (q + 1) later

-- the graph has no learning point, since these nodes have no value there
abbrev pub no_point_text : Graph → List Singular → List ℕ
no_point_text graph first = codes "flow: graph " ++ graph.name ++ codes " has no learning point\n" ++ point_lines (node_names graph) 0 first

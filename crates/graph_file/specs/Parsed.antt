-- What the reading of a line's expressions answers.
use Rattle.std.specs.Prelude.{ℕ, ◌≡◌, List, Result, Ok, Err}
use Rattle.ratfun_text.specs.Faults.{IsFaultless, IsFirst}
use Rattle.ratfun_text.specs.Grammar.{IsTreeOf}
use Rattle.ratfun_text.specs.declared.expr.Expr.{Expr}
use Rattle.ratfun_text.specs.declared.names.Names.{Names}
use Rattle.graph_file.specs.declared.error.FileKind.{FileKind}
use Rattle.graph_file.specs.declared.error.FileKind.TheVariants as kind
use Rattle.graph_file.specs.Faults.{AreFaultless, IsRefused}
use Rattle.graph_file.specs.Says.{AreTrees}

-- the tree of one expression with this number, in which nothing is wrong, or its refusal
abbrev pub IsParsed : Names → List ℕ → ℕ → Result Expr FileKind → Type 0
IsParsed names text number (Ok expr) = IsTreeOf names text expr × IsFaultless names text
IsParsed names text number (Err (kind.Expr told error)) = (told ≡ number) × IsFirst names text error.place error.kind
IsParsed names text number (Err kind.NoMemory) = Unit {0}
IsParsed names text number (Err _) = ⊥

-- the trees of all expressions, in which nothing is wrong, or the refusal of the first that is refused
abbrev pub AreParsed : Names → List (List ℕ) → Result (List Expr) FileKind → Type 0
AreParsed names texts (Ok exprs) = AreTrees names texts exprs × AreFaultless names texts
AreParsed names texts (Err (kind.Expr number error)) = IsRefused names texts number error
AreParsed names texts (Err kind.NoMemory) = Unit {0}
AreParsed names texts (Err _) = ⊥

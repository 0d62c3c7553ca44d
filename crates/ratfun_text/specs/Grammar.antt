-- The grammar of expressions, and the tree that a text of it stands for.
--
--     expr   = term { ("+" | "-") term }
--     term   = factor { ("*" | "/") factor }
--     factor = "-" factor | power
--     power  = atom [ "^" number ]
--     atom   = number | name | "(" expr ")"
use Rattle.std.specs.Prelude.{ℕ, ◌≡◌, Bool, false, if◌then◌else◌, List, [], ◌∷◌, ◌++◌, unwrap_or}
use Rattle.std.specs.Str.Parse.{digits_value}
use Rattle.ratfun_text.specs.declared.expr.Expr.{Expr}
use Rattle.ratfun_text.specs.declared.expr.Expr.TheVariants as e
use Rattle.ratfun_text.specs.declared.names.Names.{Names}
use Rattle.ratfun_text.specs.declared.tokens.Sign.TheVariants.{Plus, Minus, Times, Over, Caret, Open, Close}
use Rattle.ratfun_text.specs.Names.{argument_of}
use Rattle.ratfun_text.specs.Tokens.{Token, placed, kinds}

-- the parse trees, a type for each line of the grammar
mutual
  -- a term, or an expression and then `+`, or with `true` `-`, and a term
  pub data ExprText : Type 0 where
    OneTerm : (only : TermText) → ExprText
    Added : (before : ExprText) (minus : Bool) (last : TermText) → ExprText

  -- a factor, or a term and then `*`, or with `true` `/`, and a factor
  pub data TermText : Type 0 where
    OneFactor : (only : FactorText) → TermText
    Multiplied : (before : TermText) (over : Bool) (last : FactorText) → TermText

  pub data FactorText : Type 0 where
    Negative : (factor : FactorText) → FactorText
    Positive : (power : PowerText) → FactorText

  pub data PowerText : Type 0 where
    Plain : (atom : AtomText) → PowerText
    Raised : (atom : AtomText) (digits : List ℕ) → PowerText

  pub data AtomText : Type 0 where
    ANumber : (digits : List ℕ) → AtomText
    AName : (bytes : List ℕ) → AtomText
    Inner : (inside : ExprText) → AtomText

abbrev pub sum_sign : Bool → Token
sum_sign minus = Token.Mark (if minus then Minus else Plus)

abbrev pub product_sign : Bool → Token
product_sign over = Token.Mark (if over then Over else Times)

-- the tokens of a parse tree in front of those before it, the last one first
abbrev mutual
  pub expr_after : ExprText → List Token → List Token
  expr_after (OneTerm only) before = term_after only before
  expr_after (Added earlier minus last) before = term_after last (sum_sign minus ∷ expr_after earlier before)

  pub term_after : TermText → List Token → List Token
  term_after (OneFactor only) before = factor_after only before
  term_after (Multiplied earlier over last) before = factor_after last (product_sign over ∷ term_after earlier before)

  pub factor_after : FactorText → List Token → List Token
  factor_after (Negative factor) before = factor_after factor (Token.Mark Minus ∷ before)
  factor_after (Positive power) before = power_after power before

  pub power_after : PowerText → List Token → List Token
  power_after (Plain atom) before = atom_after atom before
  power_after (Raised atom digits) before = Token.Number digits ∷ Token.Mark Caret ∷ atom_after atom before

  pub atom_after : AtomText → List Token → List Token
  atom_after (ANumber digits) before = Token.Number digits ∷ before
  atom_after (AName bytes) before = Token.Name bytes ∷ before
  atom_after (Inner inside) before = Token.Mark Close ∷ expr_after inside (Token.Mark Open ∷ before)

-- the text has the tokens of the parse tree, in its order and nothing else
abbrev pub Spells : ExprText → List ℕ → Type 0
Spells e text = kinds (placed text) ≡ expr_after e []

-- the text is an expression
abbrev pub IsExpression : List ℕ → Type 0
IsExpression text = (e : ExprText) × Spells e text

-- the text is the front of an expression, or all of one
abbrev pub IsFront : List ℕ → Type 0
IsFront text = (rest : List ℕ) × IsExpression (text ++ rest)

-- the sum of the parts, or the only part
abbrev pub sum_of : List (Bool × Expr) → Expr
sum_of [] = e.Sum []
sum_of (part ∷ []) = part.1
sum_of (part ∷ next ∷ rest) = e.Sum (part ∷ next ∷ rest)

-- the product of the parts, or the only part
abbrev pub product_of : List (Bool × Expr) → Expr
product_of [] = e.Prod []
product_of (part ∷ []) = part.1
product_of (part ∷ next ∷ rest) = e.Prod (part ∷ next ∷ rest)

-- the trees that parse trees stand for in some names; a name that is not among them would be argument 0
abbrev mutual
  pub terms_of : Names → ExprText → List (Bool × Expr)
  terms_of names (OneTerm only) = (false, product_of (factors_of names only)) ∷ []
  terms_of names (Added before minus last) = terms_of names before ++ (minus, product_of (factors_of names last)) ∷ []

  pub factors_of : Names → TermText → List (Bool × Expr)
  factors_of names (OneFactor only) = (false, factor_tree names only) ∷ []
  factors_of names (Multiplied before over last) = factors_of names before ++ (over, factor_tree names last) ∷ []

  pub factor_tree : Names → FactorText → Expr
  factor_tree names (Negative factor) = e.Neg (factor_tree names factor)
  factor_tree names (Positive power) = power_tree names power

  pub power_tree : Names → PowerText → Expr
  power_tree names (Plain atom) = atom_tree names atom
  power_tree names (Raised atom digits) = e.Pow (atom_tree names atom) (digits_value 10 digits)

  pub atom_tree : Names → AtomText → Expr
  atom_tree names (ANumber digits) = e.Number (digits_value 10 digits)
  atom_tree names (AName bytes) = e.Arg (unwrap_or (argument_of names bytes) 0)
  atom_tree names (Inner inside) = sum_of (terms_of names inside)

-- the tree that an expression's text stands for
abbrev pub tree_of : Names → ExprText → Expr
tree_of names e = sum_of (terms_of names e)

-- the tree is that of the text
abbrev pub IsTreeOf : Names → List ℕ → Expr → Type 0
IsTreeOf names text tree = (e : ExprText) × Spells e text × (tree ≡ tree_of names e)

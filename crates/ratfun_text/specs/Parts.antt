-- What is built of an expression while its tokens are read.
use Rattle.std.specs.Prelude.{ℕ, zero, suc, ◌≡◌, ◌+◌, ◌^◌, Bool, true, false, nat_le, if◌then◌else◌, List, [], ◌∷◌, ◌++◌, reverse, Option, Some, None, Result, Ok, Err, ⊤}
use Rattle.std.specs.Str.Parse.{digits_value}
use Rattle.ratfun_text.specs.declared.builder.Builder.{Builder}
use Rattle.ratfun_text.specs.declared.builder.Level.{Level}
use Rattle.ratfun_text.specs.declared.builder.Operand.{Operand}
use Rattle.ratfun_text.specs.declared.builder.Operand.TheVariants.{Wanted, Atom, Base, Power}
use Rattle.ratfun_text.specs.declared.expr.Expr.{Expr}
use Rattle.ratfun_text.specs.declared.expr.Expr.TheVariants as e
use Rattle.ratfun_text.specs.declared.names.Names.{Names}
use Rattle.ratfun_text.specs.declared.parse.ExprKind.{ExprKind}
use Rattle.ratfun_text.specs.declared.parse.ExprKind.TheVariants.{Unexpected, WideNumber, UnknownName, TooDeep, NoMemory}
use Rattle.ratfun_text.specs.declared.tokens.Sign.{Sign}
use Rattle.ratfun_text.specs.declared.tokens.Sign.TheVariants.{Plus, Minus, Times, Over, Caret, Open, Close}
use Rattle.ratfun_text.specs.Names.{argument_of}
use Rattle.ratfun_text.specs.Tokens.{Token}
use Rattle.ratfun_text.specs.Grammar.{sum_of, product_of}

-- a builder with the levels around the present one from the inside out
pub record Parts : Type 0 where
  pub outer : List Level
  pub level : Level
  pub operand : Operand

abbrev pub parts_of : Builder → Parts
parts_of b = record { outer = reverse b.outer; level = b.level; operand = b.operand }

-- a level on which nothing stands yet, with so many things open around it
abbrev pub new_level : ℕ → Level
new_level base = record { sum = []; minus = false; product = []; over = false; signs = 0; base = base }

-- how much is open
abbrev pub depth : Parts → ℕ
depth parts = parts.level.base + parts.level.signs

-- the tree with so many signs in front of it
abbrev pub negated : ℕ → Expr → Expr
negated zero tree = tree
negated (suc n) tree = e.Neg (negated n tree)

-- the factors of the term that ends with this power
abbrev pub factors : Level → Expr → List (Bool × Expr)
factors level power = level.product ++ (level.over, negated level.signs power) ∷ []

-- the terms of the sum that ends with this power
abbrev pub terms : Level → Expr → List (Bool × Expr)
terms level power = level.sum ++ (level.minus, product_of (factors level power)) ∷ []

-- the level after `*` or `/`
abbrev pub factor_ended : Bool → Level → Expr → Level
factor_ended over level power = record level { product = factors level power; over = over; signs = 0 }

-- the level after `+` or `-`
abbrev pub term_ended : Bool → Level → Expr → Level
term_ended minus level power = record level { sum = terms level power; minus = minus; product = []; over = false; signs = 0 }

-- the power that a place after an operand ends with
abbrev pub whole : Operand → Option Expr
whole (Atom tree) = Some tree
whole (Power tree) = Some tree
whole _ = None

-- what follows a token: the parts with it, or its fault
abbrev pub Outcome : Type 0
Outcome = Result Parts ExprKind

-- the operand that a number makes: an atom, or the exponent of one
abbrev pub operand_after_number : ℕ → Operand → Result Operand ExprKind
operand_after_number n Wanted = if nat_le (2 ^ 128) n then Err WideNumber else Ok (Atom (e.Number n))
operand_after_number n (Base tree) = if nat_le 65536 n then Err WideNumber else Ok (Power (e.Pow tree n))
operand_after_number n _ = Err Unexpected

abbrev pub with_operand : Parts → Result Operand ExprKind → Outcome
with_operand parts (Ok operand) = Ok (record parts { operand = operand })
with_operand parts (Err kind) = Err kind

abbrev pub after_number : ℕ → Parts → Operand → Outcome
after_number n parts operand = with_operand parts (operand_after_number n operand)

abbrev pub named : Parts → Option ℕ → Outcome
named parts None = Err UnknownName
named parts (Some argument) = Ok (record parts { operand = Atom (e.Arg argument) })

abbrev pub after_name : Names → List ℕ → Parts → Operand → Outcome
after_name names bytes parts Wanted = named parts (argument_of names bytes)
after_name names bytes parts _ = Err Unexpected

abbrev pub after_sum_sign : Bool → Parts → Option Expr → Outcome
after_sum_sign minus parts None = Err Unexpected
after_sum_sign minus parts (Some power) = Ok (record parts { level = term_ended minus parts.level power; operand = Wanted })

abbrev pub after_product_sign : Bool → Parts → Option Expr → Outcome
after_product_sign over parts None = Err Unexpected
after_product_sign over parts (Some power) = Ok (record parts { level = factor_ended over parts.level power; operand = Wanted })

-- `-` is a sign in front of a factor where one is wanted, and else takes off a term
abbrev pub after_minus : Parts → Operand → Outcome
after_minus parts Wanted = if nat_le 64 (depth parts) then Err TooDeep else Ok (record parts { level = record parts.level { signs = parts.level.signs + 1 } })
after_minus parts (Atom tree) = after_sum_sign true parts (Some tree)
after_minus parts (Base tree) = Err Unexpected
after_minus parts (Power tree) = after_sum_sign true parts (Some tree)

abbrev pub after_caret : Parts → Operand → Outcome
after_caret parts (Atom tree) = Ok (record parts { operand = Base tree })
after_caret parts _ = Err Unexpected

abbrev pub after_open : Parts → Operand → Outcome
after_open parts Wanted = if nat_le 64 (depth parts) then Err TooDeep else Ok (record { outer = parts.level ∷ parts.outer; level = new_level (depth parts + 1); operand = Wanted })
after_open parts _ = Err Unexpected

-- the level around takes the sum as an atom
abbrev pub closed_in : List Level → Expr → Outcome
closed_in [] tree = Err Unexpected
closed_in (around ∷ outer) tree = Ok (record { outer = outer; level = around; operand = Atom tree })

abbrev pub after_close : Parts → Option Expr → Outcome
after_close parts None = Err Unexpected
after_close parts (Some power) = closed_in parts.outer (sum_of (terms parts.level power))

abbrev pub after_sign : Sign → Parts → Outcome
after_sign Plus parts = after_sum_sign false parts (whole parts.operand)
after_sign Minus parts = after_minus parts parts.operand
after_sign Times parts = after_product_sign false parts (whole parts.operand)
after_sign Over parts = after_product_sign true parts (whole parts.operand)
after_sign Caret parts = after_caret parts parts.operand
after_sign Open parts = after_open parts parts.operand
after_sign Close parts = after_close parts (whole parts.operand)

-- what follows a token
abbrev pub taken : Names → Parts → Token → Outcome
taken names parts (Token.Number digits) = after_number (digits_value 10 digits) parts parts.operand
taken names parts (Token.Name bytes) = after_name names bytes parts parts.operand
taken names parts (Token.Mark sign) = after_sign sign parts
taken names parts (Token.Other byte) = Err Unexpected

-- the tree at the end of the text
abbrev pub finished_in : List Level → Level → Option Expr → Option Expr
finished_in [] level None = None
finished_in [] level (Some power) = Some (sum_of (terms level power))
finished_in (around ∷ outer) level power = None

abbrev pub finished : Parts → Option Expr
finished parts = finished_in parts.outer parts.level (whole parts.operand)

-- a refusal for want of memory, or the operand or its fault
abbrev pub IsOperand : Result Operand ExprKind → Result Operand ExprKind → Type 0
IsOperand wanted (Ok o) = wanted ≡ Ok o
IsOperand wanted (Err Unexpected) = wanted ≡ Err Unexpected
IsOperand wanted (Err WideNumber) = wanted ≡ Err WideNumber
IsOperand wanted (Err UnknownName) = wanted ≡ Err UnknownName
IsOperand wanted (Err TooDeep) = wanted ≡ Err TooDeep
IsOperand wanted (Err NoMemory) = Unit {0}

-- a refusal for want of memory, or the outcome, whose parts are there afterwards
abbrev pub IsAnswer : Outcome → Parts → Result ⊤ ExprKind → Type 0
IsAnswer outcome after (Ok done) = outcome ≡ Ok after
IsAnswer outcome after (Err Unexpected) = outcome ≡ Err Unexpected
IsAnswer outcome after (Err WideNumber) = outcome ≡ Err WideNumber
IsAnswer outcome after (Err UnknownName) = outcome ≡ Err UnknownName
IsAnswer outcome after (Err TooDeep) = outcome ≡ Err TooDeep
IsAnswer outcome after (Err NoMemory) = Unit {0}

-- a refusal for want of memory, or the tree, or the refusal where there is none
abbrev pub IsTree : Option Expr → Result Expr ExprKind → Type 0
IsTree tree (Ok e) = tree ≡ Some e
IsTree tree (Err Unexpected) = tree ≡ None
IsTree tree (Err NoMemory) = Unit {0}
IsTree tree (Err _) = ⊥

-- How the front of an expression is read token by token. A state holds the parse trees of what has been read.
use Rattle.std.proofs.Common.{◌≡◌, ℕ, zero, suc, Bool, true, false, List, [], ◌∷◌, Option, Some, None, IfSome, refl, sym, ap, subst, ◌∙◌}
use Rattle.std.specs.Option.{option_and_then}
use Rattle.ratfun_text.specs.declared.tokens.Sign.TheVariants.{Plus, Minus, Times, Over, Caret, Open, Close}
use Rattle.ratfun_text.specs.Tokens.{Token, placed, kinds}
use Rattle.ratfun_text.specs.Tokens.Token.{Number, Name, Mark, Other}
use Rattle.ratfun_text.specs.Grammar.{ExprText, TermText, FactorText, PowerText, AtomText, sum_sign, product_sign, expr_after, term_after, factor_after, power_after, atom_after, Spells}
use Rattle.ratfun_text.specs.Grammar.ExprText.{OneTerm, Added}
use Rattle.ratfun_text.specs.Grammar.TermText.{OneFactor, Multiplied}
use Rattle.ratfun_text.specs.Grammar.FactorText.{Negative, Positive}
use Rattle.ratfun_text.specs.Grammar.PowerText.{Plain, Raised}
use Rattle.ratfun_text.specs.Grammar.AtomText.{ANumber, AName, Inner}

-- what waits for the present factor: an expression and its sign, a term and its sign, and so many signs in front of the factor
pub record Row : Type 0 where
  pub sum : Option (ExprText × Bool)
  pub product : Option (TermText × Bool)
  pub signs : ℕ

-- a power is wanted, a power has been read, or an exponent is wanted; with the rows of the parentheses around, from the inside out
pub data State : Type 0 where
  Want : (row : Row) (outer : List Row) → State
  Have : (row : Row) (outer : List Row) (power : PowerText) → State
  Raise : (row : Row) (outer : List Row) (atom : AtomText) → State

abbrev pub fresh : Row
fresh = record { sum = None; product = None; signs = 0 }

abbrev pub negative : ℕ → PowerText → FactorText
negative zero power = Positive power
negative (suc n) power = Negative (negative n power)

abbrev pub term_with : Option (TermText × Bool) → FactorText → TermText
term_with None factor = OneFactor factor
term_with (Some earlier) factor = Multiplied earlier.0 earlier.1 factor

abbrev pub expr_with : Option (ExprText × Bool) → TermText → ExprText
expr_with None term = OneTerm term
expr_with (Some earlier) term = Added earlier.0 earlier.1 term

abbrev pub term_at : Row → PowerText → TermText
term_at row power = term_with row.product (negative row.signs power)

abbrev pub expr_at : Row → PowerText → ExprText
expr_at row power = expr_with row.sum (term_at row power)

abbrev pub after_sum : Bool → Row → List Row → PowerText → State
after_sum minus row outer power = Want (record { sum = Some (expr_at row power, minus); product = None; signs = 0 }) outer

abbrev pub after_product : Bool → Row → List Row → PowerText → State
after_product over row outer power = Want (record { sum = row.sum; product = Some (term_at row power, over); signs = 0 }) outer

abbrev pub raised : Row → List Row → PowerText → Option State
raised row outer (Plain atom) = Some (Raise row outer atom)
raised row outer (Raised atom digits) = None

abbrev pub closed : List Row → ExprText → Option State
closed [] e = None
closed (row ∷ outer) e = Some (Have row outer (Plain (Inner e)))

abbrev pub next : State → Token → Option State
next (Want row outer) (Number digits) = Some (Have row outer (Plain (ANumber digits)))
next (Want row outer) (Name bytes) = Some (Have row outer (Plain (AName bytes)))
next (Want row outer) (Mark Plus) = None
next (Want row outer) (Mark Minus) = Some (Want (record row { signs = suc row.signs }) outer)
next (Want row outer) (Mark Times) = None
next (Want row outer) (Mark Over) = None
next (Want row outer) (Mark Caret) = None
next (Want row outer) (Mark Open) = Some (Want fresh (row ∷ outer))
next (Want row outer) (Mark Close) = None
next (Want row outer) (Other byte) = None
next (Have row outer power) (Number digits) = None
next (Have row outer power) (Name bytes) = None
next (Have row outer power) (Mark Plus) = Some (after_sum false row outer power)
next (Have row outer power) (Mark Minus) = Some (after_sum true row outer power)
next (Have row outer power) (Mark Times) = Some (after_product false row outer power)
next (Have row outer power) (Mark Over) = Some (after_product true row outer power)
next (Have row outer power) (Mark Caret) = raised row outer power
next (Have row outer power) (Mark Open) = None
next (Have row outer power) (Mark Close) = closed outer (expr_at row power)
next (Have row outer power) (Other byte) = None
next (Raise row outer atom) (Number digits) = Some (Have row outer (Raised atom digits))
next (Raise row outer atom) (Name bytes) = None
next (Raise row outer atom) (Mark sign) = None
next (Raise row outer atom) (Other byte) = None

abbrev pub step : Token → Option State → Option State
step t = option_and_then (λ s. next s t)

abbrev pub state_of : List Token → Option State
state_of [] = Some (Want fresh [])
state_of (t ∷ before) = step t (state_of before)

abbrev pub finish : Option State → Option ExprText
finish None = None
finish (Some (Want row outer)) = None
finish (Some (Have row [] power)) = Some (expr_at row power)
finish (Some (Have row (around ∷ outer) power)) = None
finish (Some (Raise row outer atom)) = None

-- the tokens of what a state holds

abbrev pub sum_after : Option (ExprText × Bool) → List Token → List Token
sum_after None before = before
sum_after (Some earlier) before = sum_sign earlier.1 ∷ expr_after earlier.0 before

abbrev pub product_after : Option (TermText × Bool) → List Token → List Token
product_after None before = before
product_after (Some earlier) before = product_sign earlier.1 ∷ term_after earlier.0 before

abbrev pub signs_after : ℕ → List Token → List Token
signs_after zero before = before
signs_after (suc n) before = Mark Minus ∷ signs_after n before

abbrev pub row_after : Row → List Token → List Token
row_after row before = signs_after row.signs (product_after row.product (sum_after row.sum before))

abbrev pub rows_after : List Row → List Token
rows_after [] = []
rows_after (row ∷ outer) = Mark Open ∷ row_after row (rows_after outer)

abbrev pub after : State → List Token
after (Want row outer) = row_after row (rows_after outer)
after (Have row outer power) = power_after power (row_after row (rows_after outer))
after (Raise row outer atom) = Mark Caret ∷ atom_after atom (row_after row (rows_after outer))

one_more_sign : (n : ℕ) (before : List Token) → signs_after n (Mark Minus ∷ before) ≡ Mark Minus ∷ signs_after n before
one_more_sign zero before = refl
one_more_sign (suc n) before = ap (λ ts. Mark Minus ∷ ts) (one_more_sign n before)

spelled_factor : (n : ℕ) (power : PowerText) (before : List Token) → factor_after (negative n power) before ≡ power_after power (signs_after n before)
spelled_factor zero power before = refl
spelled_factor (suc n) power before = spelled_factor n power (Mark Minus ∷ before) ∙ ap (power_after power) (one_more_sign n before)

spelled_term : (product : Option (TermText × Bool)) (factor : FactorText) (before : List Token) → term_after (term_with product factor) before ≡ factor_after factor (product_after product before)
spelled_term None factor before = refl
spelled_term (Some earlier) factor before = refl

spelled_expr : (sum : Option (ExprText × Bool)) (term : TermText) (before : List Token) → expr_after (expr_with sum term) before ≡ term_after term (sum_after sum before)
spelled_expr None term before = refl
spelled_expr (Some earlier) term before = refl

term_spelled : (row : Row) (power : PowerText) (before : List Token) → term_after (term_at row power) before ≡ power_after power (signs_after row.signs (product_after row.product before))
term_spelled row power before = spelled_term row.product (negative row.signs power) before ∙ spelled_factor row.signs power (product_after row.product before)

expr_spelled : (row : Row) (power : PowerText) (before : List Token) → expr_after (expr_at row power) before ≡ power_after power (row_after row before)
expr_spelled row power before = spelled_expr row.sum (term_at row power) before ∙ term_spelled row power (sum_after row.sum before)

raised_spelled : (row : Row) (outer : List Row) (power : PowerText) → IfSome (raised row outer power) (λ s. after s ≡ Mark Caret ∷ after (Have row outer power))
raised_spelled row outer (Plain atom) = refl
raised_spelled row outer (Raised atom digits) = tt

closed_spelled : (row : Row) (outer : List Row) (power : PowerText) → IfSome (closed outer (expr_at row power)) (λ s. after s ≡ Mark Close ∷ after (Have row outer power))
closed_spelled row [] power = tt
closed_spelled row (around ∷ outer) power = ap (λ ts. Mark Close ∷ ts) (expr_spelled row power (Mark Open ∷ row_after around (rows_after outer)))

-- a token more
next_spelled : (s : State) (t : Token) → IfSome (next s t) (λ r. after r ≡ t ∷ after s)
next_spelled (Want row outer) (Number digits) = refl
next_spelled (Want row outer) (Name bytes) = refl
next_spelled (Want row outer) (Mark Plus) = tt
next_spelled (Want row outer) (Mark Minus) = refl
next_spelled (Want row outer) (Mark Times) = tt
next_spelled (Want row outer) (Mark Over) = tt
next_spelled (Want row outer) (Mark Caret) = tt
next_spelled (Want row outer) (Mark Open) = refl
next_spelled (Want row outer) (Mark Close) = tt
next_spelled (Want row outer) (Other byte) = tt
next_spelled (Have row outer power) (Number digits) = tt
next_spelled (Have row outer power) (Name bytes) = tt
next_spelled (Have row outer power) (Mark Plus) = ap (λ ts. Mark Plus ∷ ts) (expr_spelled row power (rows_after outer))
next_spelled (Have row outer power) (Mark Minus) = ap (λ ts. Mark Minus ∷ ts) (expr_spelled row power (rows_after outer))
next_spelled (Have row outer power) (Mark Times) = ap (λ ts. Mark Times ∷ ts) (term_spelled row power (sum_after row.sum (rows_after outer)))
next_spelled (Have row outer power) (Mark Over) = ap (λ ts. Mark Over ∷ ts) (term_spelled row power (sum_after row.sum (rows_after outer)))
next_spelled (Have row outer power) (Mark Caret) = raised_spelled row outer power
next_spelled (Have row outer power) (Mark Open) = tt
next_spelled (Have row outer power) (Mark Close) = closed_spelled row outer power
next_spelled (Have row outer power) (Other byte) = tt
next_spelled (Raise row outer atom) (Number digits) = refl
next_spelled (Raise row outer atom) (Name bytes) = tt
next_spelled (Raise row outer atom) (Mark sign) = tt
next_spelled (Raise row outer atom) (Other byte) = tt

step_spelled : (o : Option State) (t : Token) (before : List Token) → IfSome o (λ s. after s ≡ before) → IfSome (step t o) (λ r. after r ≡ t ∷ before)
step_spelled None t before h = tt
step_spelled (Some s) t before h = let P : List Token → Type 0 = λ ts. IfSome (next s t) (λ r. after r ≡ t ∷ ts) in subst P h (next_spelled s t)

-- a state spells the tokens that led to it
pub spelled : (ts : List Token) → IfSome (state_of ts) (λ s. after s ≡ ts)
spelled [] = refl
spelled (t ∷ before) = step_spelled (state_of before) t before (spelled before)

finish_spelled : (o : Option State) (ts : List Token) → IfSome o (λ s. after s ≡ ts) → IfSome (finish o) (λ e. ts ≡ expr_after e [])
finish_spelled None ts h = tt
finish_spelled (Some (Want row outer)) ts h = tt
finish_spelled (Some (Have row [] power)) ts h = sym h ∙ sym (expr_spelled row power [])
finish_spelled (Some (Have row (around ∷ outer) power)) ts h = tt
finish_spelled (Some (Raise row outer atom)) ts h = tt

-- what is finished is in the grammar
pub accepted : (ts : List Token) → IfSome (finish (state_of ts)) (λ e. ts ≡ expr_after e [])
accepted ts = finish_spelled (state_of ts) ts (spelled ts)

-- how a parse tree is read

abbrev signs_from : ℕ → FactorText → ℕ
signs_from n (Negative factor) = signs_from (suc n) factor
signs_from n (Positive power) = n

abbrev power_in : FactorText → PowerText
power_in (Negative factor) = power_in factor
power_in (Positive power) = power

abbrev term_row : Option (ExprText × Bool) → TermText → Row
term_row sum (OneFactor factor) = record { sum = sum; product = None; signs = signs_from 0 factor }
term_row sum (Multiplied term over factor) = record { sum = sum; product = Some (term, over); signs = signs_from 0 factor }

abbrev last_of_term : TermText → PowerText
last_of_term (OneFactor factor) = power_in factor
last_of_term (Multiplied term over factor) = power_in factor

abbrev expr_row : ExprText → Row
expr_row (OneTerm term) = term_row None term
expr_row (Added e minus term) = term_row (Some (e, minus)) term

abbrev last_of : ExprText → PowerText
last_of (OneTerm term) = last_of_term term
last_of (Added e minus term) = last_of_term term

abbrev wrapped : ℕ → FactorText → FactorText
wrapped zero factor = factor
wrapped (suc n) factor = Negative (wrapped n factor)

wrapped_once : (n : ℕ) (factor : FactorText) → Negative (wrapped n factor) ≡ wrapped n (Negative factor)
wrapped_once zero factor = refl
wrapped_once (suc n) factor = ap (λ f. Negative f) (wrapped_once n factor)

wrapped_power : (n : ℕ) (power : PowerText) → negative n power ≡ wrapped n (Positive power)
wrapped_power zero power = refl
wrapped_power (suc n) power = ap (λ f. Negative f) (wrapped_power n power)

factor_again : (n : ℕ) (factor : FactorText) → negative (signs_from n factor) (power_in factor) ≡ wrapped n factor
factor_again n (Negative factor) = factor_again (suc n) factor ∙ wrapped_once n factor
factor_again n (Positive power) = wrapped_power n power

term_again : (sum : Option (ExprText × Bool)) (term : TermText) → term_at (term_row sum term) (last_of_term term) ≡ term
term_again sum (OneFactor factor) = ap (λ f. OneFactor f) (factor_again 0 factor)
term_again sum (Multiplied term over factor) = ap (λ f. Multiplied term over f) (factor_again 0 factor)

sum_again : (sum : Option (ExprText × Bool)) (term : TermText) → expr_at (term_row sum term) (last_of_term term) ≡ expr_with sum (term_at (term_row sum term) (last_of_term term))
sum_again sum (OneFactor factor) = refl
sum_again sum (Multiplied term over factor) = refl

expr_again : (e : ExprText) → expr_at (expr_row e) (last_of e) ≡ e
expr_again (OneTerm term) = sum_again None term ∙ ap (λ t. OneTerm t) (term_again None term)
expr_again (Added e minus term) = sum_again (Some (e, minus)) term ∙ ap (λ t. Added e minus t) (term_again (Some (e, minus)) term)

-- the product sign after a term, and the sum sign after an expression
after_over : (over : Bool) (sum : Option (ExprText × Bool)) (outer : List Row) (term : TermText)
    → step (product_sign over) (Some (Have (term_row sum term) outer (last_of_term term))) ≡ Some (Want (record { sum = sum; product = Some (term, over); signs = 0 }) outer)
after_over true sum outer (OneFactor factor) = ap (λ (t : TermText). Some (Want (record { sum = sum; product = Some (t, true); signs = 0 }) outer)) (term_again sum (OneFactor factor))
after_over true sum outer (Multiplied term over factor) = ap (λ (t : TermText). Some (Want (record { sum = sum; product = Some (t, true); signs = 0 }) outer)) (term_again sum (Multiplied term over factor))
after_over false sum outer (OneFactor factor) = ap (λ (t : TermText). Some (Want (record { sum = sum; product = Some (t, false); signs = 0 }) outer)) (term_again sum (OneFactor factor))
after_over false sum outer (Multiplied term over factor) = ap (λ (t : TermText). Some (Want (record { sum = sum; product = Some (t, false); signs = 0 }) outer)) (term_again sum (Multiplied term over factor))

after_minus : (minus : Bool) (outer : List Row) (e : ExprText) → step (sum_sign minus) (Some (Have (expr_row e) outer (last_of e))) ≡ Some (Want (record { sum = Some (e, minus); product = None; signs = 0 }) outer)
after_minus true outer e = ap (λ (a : ExprText). Some (Want (record { sum = Some (a, true); product = None; signs = 0 }) outer)) (expr_again e)
after_minus false outer e = ap (λ (a : ExprText). Some (Want (record { sum = Some (a, false); product = None; signs = 0 }) outer)) (expr_again e)

mutual
  reads_expr : (e : ExprText) (before : List Token) (outer : List Row) → state_of before ≡ Some (Want fresh outer) → state_of (expr_after e before) ≡ Some (Have (expr_row e) outer (last_of e))
  reads_expr (OneTerm term) before outer h = reads_term term before None outer h
  reads_expr (Added e minus term) before outer h =
      reads_term term (sum_sign minus ∷ expr_after e before) (Some (e, minus)) outer (ap (step (sum_sign minus)) (reads_expr e before outer h) ∙ after_minus minus outer e)

  reads_term : (term : TermText) (before : List Token) (sum : Option (ExprText × Bool)) (outer : List Row) → state_of before ≡ Some (Want (record { sum = sum; product = None; signs = 0 }) outer)
      → state_of (term_after term before) ≡ Some (Have (term_row sum term) outer (last_of_term term))
  reads_term (OneFactor factor) before sum outer h = reads_factor factor before sum None 0 outer h
  reads_term (Multiplied term over factor) before sum outer h =
      reads_factor factor (product_sign over ∷ term_after term before) sum (Some (term, over)) 0 outer (ap (step (product_sign over)) (reads_term term before sum outer h) ∙ after_over over sum outer term)

  reads_factor : (factor : FactorText) (before : List Token) (sum : Option (ExprText × Bool)) (product : Option (TermText × Bool)) (n : ℕ) (outer : List Row)
      → state_of before ≡ Some (Want (record { sum = sum; product = product; signs = n }) outer) → state_of (factor_after factor before) ≡ Some (Have (record { sum = sum; product = product; signs = signs_from n factor }) outer (power_in factor))
  reads_factor (Negative factor) before sum product n outer h = reads_factor factor (Mark Minus ∷ before) sum product (suc n) outer (ap (step (Mark Minus)) h)
  reads_factor (Positive power) before sum product n outer h = reads_power power before (record { sum = sum; product = product; signs = n }) outer h

  reads_power : (power : PowerText) (before : List Token) (row : Row) (outer : List Row) → state_of before ≡ Some (Want row outer) → state_of (power_after power before) ≡ Some (Have row outer power)
  reads_power (Plain atom) before row outer h = reads_atom atom before row outer h
  reads_power (Raised atom digits) before row outer h = ap (λ o. step (Number digits) (step (Mark Caret) o)) (reads_atom atom before row outer h)

  reads_atom : (atom : AtomText) (before : List Token) (row : Row) (outer : List Row) → state_of before ≡ Some (Want row outer) → state_of (atom_after atom before) ≡ Some (Have row outer (Plain atom))
  reads_atom (ANumber digits) before row outer h = ap (step (Number digits)) h
  reads_atom (AName bytes) before row outer h = ap (step (Name bytes)) h
  reads_atom (Inner e) before row outer h =
      ap (step (Mark Close)) (reads_expr e (Mark Open ∷ before) (row ∷ outer) (ap (step (Mark Open)) h)) ∙ ap (λ (a : ExprText). Some (Have row outer (Plain (Inner a)))) (expr_again e)

-- an expression's text is read to the end, and gives its parse tree again
pub finished_as : (e : ExprText) (text : List ℕ) → Spells e text → finish (state_of (kinds (placed text))) ≡ Some e
finished_as e text h =
    let read : state_of (kinds (placed text)) ≡ Some (Have (expr_row e) [] (last_of e)) = ap state_of h ∙ reads_expr e [] [] refl in
    ap finish read ∙ ap (λ (a : ExprText). Some a) (expr_again e)

-- a text has at most one parse tree
pub one_tree : (text : List ℕ) (a b : ExprText) → Spells a text → Spells b text → a ≡ b
one_tree text a b h k = let same : Some a ≡ Some b = sym (finished_as a text h) ∙ finished_as b text k in cc

-- What the builder holds is what the state of the tokens stands for.
use Rattle.std.proofs.Common.{◌≡◌, ◌≤◌, ℕ, zero, suc, ◌+◌, ◌^◌, Bool, true, false, ◌&&◌, nat_le, nat_lt, cond, List, [], ◌∷◌, ◌++◌, length, Option, Some, None, IfSome, Ok, Err, refl, sym, ap, subst, ◌∙◌, inl, inr, add-one, arith}
use Rattle.std.specs.Option.{option_map, unwrap_or, is_none}
use Rattle.std.specs.Str.Parse.{digits_value}
use Rattle.std.proofs.lemmas.Bool.{cases_lt}
use Rattle.std.proofs.lemmas.Bool.Decides.{nat_tests}
use Rattle.ratfun_text.specs.declared.builder.Level.{Level}
use Rattle.ratfun_text.specs.declared.builder.Operand.{Operand}
use Rattle.ratfun_text.specs.declared.builder.Operand.TheVariants.{Wanted, Atom, Base, Power}
use Rattle.ratfun_text.specs.declared.expr.Expr.{Expr}
use Rattle.ratfun_text.specs.declared.expr.Expr.TheVariants as e
use Rattle.ratfun_text.specs.declared.names.Names.{Names}
use Rattle.ratfun_text.specs.declared.parse.ExprKind.{ExprKind}
use Rattle.ratfun_text.specs.declared.parse.ExprKind.TheVariants.{Unexpected, WideNumber, UnknownName, TooDeep}
use Rattle.ratfun_text.specs.declared.tokens.Sign.TheVariants.{Plus, Minus, Times, Over, Caret, Open, Close}
use Rattle.ratfun_text.specs.Names.{argument_of}
use Rattle.ratfun_text.specs.Tokens.{Token}
use Rattle.ratfun_text.specs.Tokens.Token.{Number, Name, Mark, Other}
use Rattle.ratfun_text.specs.Grammar.{ExprText, TermText, FactorText, PowerText, sum_of, product_of, terms_of, factors_of, factor_tree, power_tree, atom_tree, tree_of}
use Rattle.ratfun_text.specs.Grammar.PowerText.{Plain, Raised}
use Rattle.ratfun_text.specs.Faults.{wants_exponent, wants_factor, Opened, opened, signs_ended, parenthesis_ended, token_fault, is_too_deep, when}
use Rattle.ratfun_text.specs.Faults.Opened.{Parenthesis, Negation}
use Rattle.ratfun_text.specs.Parts.{Parts, Outcome, depth, negated, factors, terms, whole, taken, named, with_operand, after_number, after_name, after_minus, after_caret, after_open, after_close, after_sum_sign, after_product_sign, closed_in, finished, finished_in}
use Rattle.ratfun_text.proofs.Machine.{Row, State, fresh, negative, term_with, expr_with, term_at, expr_at, after_sum, after_product, next, step, state_of, finish}
use Rattle.ratfun_text.proofs.Machine.State.{Want, Have, Raise}

-- what the tokens say of the state after them

abbrev pub is_raise : State → Bool
is_raise (Want row outer) = false
is_raise (Have row outer power) = false
is_raise (Raise row outer atom) = true

abbrev pub is_want : State → Bool
is_want (Want row outer) = true
is_want (Have row outer power) = false
is_want (Raise row outer atom) = false

abbrev negations : ℕ → List Opened → List Opened
negations zero around = around
negations (suc n) around = Negation ∷ negations n around

abbrev opened_around : List Row → List Opened
opened_around [] = []
opened_around (row ∷ outer) = Parenthesis ∷ negations row.signs (opened_around outer)

abbrev opened_at : State → List Opened
opened_at (Want row outer) = negations row.signs (opened_around outer)
opened_at (Have row outer power) = negations row.signs (opened_around outer)
opened_at (Raise row outer atom) = negations row.signs (opened_around outer)

signs_end : (n : ℕ) (outer : List Row) → signs_ended (negations n (opened_around outer)) ≡ opened_around outer
signs_end zero [] = refl
signs_end zero (row ∷ outer) = refl
signs_end (suc n) outer = signs_end n outer

parenthesis_ends : (n : ℕ) (around : List Opened) → parenthesis_ended (negations n (Parenthesis ∷ around)) ≡ around
parenthesis_ends zero around = refl
parenthesis_ends (suc n) around = parenthesis_ends n around

record Told (ts : List Token) (s : State) : Type 0 where
  exponent : wants_exponent ts ≡ is_raise s
  factor : wants_factor ts ≡ is_want s
  open_ones : opened ts ≡ opened_at s

told_raised : (before : List Token) (row : Row) (outer : List Row) (power : PowerText) → Told before (Have row outer power) → IfSome (next (Have row outer power) (Mark Caret)) (Told (Mark Caret ∷ before))
told_raised before row outer (Plain atom) h = record { exponent = refl; factor = refl; open_ones = h.open_ones }
told_raised before row outer (Raised atom digits) h = tt

told_closed : (before : List Token) (row : Row) (outer : List Row) (power : PowerText) → Told before (Have row outer power) → IfSome (next (Have row outer power) (Mark Close)) (Told (Mark Close ∷ before))
told_closed before row [] power h = tt
told_closed before row (around ∷ outer) power h = record { exponent = refl; factor = refl; open_ones = ap parenthesis_ended h.open_ones ∙ parenthesis_ends row.signs (negations around.signs (opened_around outer)) }

module _ (before : List Token) where
  told_ended : (row : Row) (outer : List Row) → opened before ≡ negations row.signs (opened_around outer) → signs_ended (opened before) ≡ opened_around outer
  told_ended row outer h = ap signs_ended h ∙ signs_end row.signs outer

  told_next : (s : State) (t : Token) → Told before s → IfSome (next s t) (Told (t ∷ before))
  told_next (Want row outer) (Number digits) h = record { exponent = refl; factor = refl; open_ones = h.open_ones }
  told_next (Want row outer) (Name bytes) h = record { exponent = refl; factor = refl; open_ones = h.open_ones }
  told_next (Want row outer) (Mark Plus) h = tt
  told_next (Want row outer) (Mark Minus) h =
      record { exponent = refl; factor = refl; open_ones = ap (λ b. cond b (Negation ∷ opened before) (signs_ended (opened before))) h.factor ∙ ap (λ os. Negation ∷ os) h.open_ones }
  told_next (Want row outer) (Mark Times) h = tt
  told_next (Want row outer) (Mark Over) h = tt
  told_next (Want row outer) (Mark Caret) h = tt
  told_next (Want row outer) (Mark Open) h = record { exponent = refl; factor = refl; open_ones = ap (λ os. Parenthesis ∷ os) h.open_ones }
  told_next (Want row outer) (Mark Close) h = tt
  told_next (Want row outer) (Other byte) h = tt
  told_next (Have row outer power) (Number digits) h = tt
  told_next (Have row outer power) (Name bytes) h = tt
  told_next (Have row outer power) (Mark Plus) h = record { exponent = refl; factor = refl; open_ones = told_ended row outer h.open_ones }
  told_next (Have row outer power) (Mark Minus) h =
      record { exponent = refl; factor = refl; open_ones = ap (λ b. cond b (Negation ∷ opened before) (signs_ended (opened before))) h.factor ∙ told_ended row outer h.open_ones }
  told_next (Have row outer power) (Mark Times) h = record { exponent = refl; factor = refl; open_ones = told_ended row outer h.open_ones }
  told_next (Have row outer power) (Mark Over) h = record { exponent = refl; factor = refl; open_ones = told_ended row outer h.open_ones }
  told_next (Have row outer power) (Mark Caret) h = told_raised before row outer power h
  told_next (Have row outer power) (Mark Open) h = tt
  told_next (Have row outer power) (Mark Close) h = told_closed before row outer power h
  told_next (Have row outer power) (Other byte) h = tt
  told_next (Raise row outer atom) (Number digits) h = record { exponent = refl; factor = refl; open_ones = h.open_ones }
  told_next (Raise row outer atom) (Name bytes) h = tt
  told_next (Raise row outer atom) (Mark sign) h = tt
  told_next (Raise row outer atom) (Other byte) h = tt

  told_step : (o : Option State) (t : Token) → IfSome o (Told before) → IfSome (step t o) (Told (t ∷ before))
  told_step None t h = tt
  told_step (Some s) t h = told_next s t h

told : (ts : List Token) → IfSome (state_of ts) (Told ts)
told [] = record { exponent = refl; factor = refl; open_ones = refl }
told (t ∷ before) = told_step before (state_of before) t (told before)

told_at : (ts : List Token) (s : State) → state_of ts ≡ Some s → Told ts s
told_at ts s is = let P : Option State → Type 0 = λ o. IfSome o (Told ts) in subst P is (told ts)

-- how much is open around a row
abbrev base_of : List Row → ℕ
base_of [] = 0
base_of (row ∷ outer) = base_of outer + row.signs + 1

length-negations : (n : ℕ) (around : List Opened) → length (negations n around) ≡ length around + n
length-negations zero around = omega arith
length-negations (suc n) around = omega (arith, length-negations n around)

length-around : (outer : List Row) → length (opened_around outer) ≡ base_of outer
length-around [] = refl
length-around (row ∷ outer) = omega (arith, length-negations row.signs (opened_around outer), length-around outer)

length-open : (row : Row) (outer : List Row) → length (negations row.signs (opened_around outer)) ≡ base_of outer + row.signs
length-open row outer = omega (arith, length-negations row.signs (opened_around outer), length-around outer)

module _ (names : Names) where
  abbrev terms_before : Option (ExprText × Bool) → List (Bool × Expr)
  terms_before None = []
  terms_before (Some earlier) = terms_of names earlier.0

  abbrev factors_before : Option (TermText × Bool) → List (Bool × Expr)
  factors_before None = []
  factors_before (Some earlier) = factors_of names earlier.0

  abbrev flag : {A : Type 0} → Option (A × Bool) → Bool
  flag None = false
  flag (Some earlier) = earlier.1

  abbrev level_of : ℕ → Row → Level
  level_of base row = record { sum = terms_before row.sum; minus = flag row.sum; product = factors_before row.product; over = flag row.product; signs = row.signs; base = base }

  abbrev levels_of : List Row → List Level
  levels_of [] = []
  levels_of (row ∷ outer) = level_of (base_of outer) row ∷ levels_of outer

  abbrev operand_of : PowerText → Operand
  operand_of (Plain atom) = Atom (atom_tree names atom)
  operand_of (Raised atom digits) = Power (e.Pow (atom_tree names atom) (digits_value 10 digits))

  abbrev operand_at : State → Operand
  operand_at (Want row outer) = Wanted
  operand_at (Have row outer power) = operand_of power
  operand_at (Raise row outer atom) = Base (atom_tree names atom)

  abbrev pub parts_with : Row → List Row → Operand → Parts
  parts_with row outer operand = record { outer = levels_of outer; level = level_of (base_of outer) row; operand = operand }

  -- the parts that a state stands for
  abbrev pub built : State → Parts
  built (Want row outer) = parts_with row outer Wanted
  built (Have row outer power) = parts_with row outer (operand_of power)
  built (Raise row outer atom) = parts_with row outer (Base (atom_tree names atom))

  negated_factor : (n : ℕ) (power : PowerText) → negated n (power_tree names power) ≡ factor_tree names (negative n power)
  negated_factor zero power = refl
  negated_factor (suc n) power = ap (λ tree. e.Neg tree) (negated_factor n power)

  factors_with : (product : Option (TermText × Bool)) (factor : FactorText) → factors_before product ++ (flag product, factor_tree names factor) ∷ [] ≡ factors_of names (term_with product factor)
  factors_with None factor = refl
  factors_with (Some earlier) factor = refl

  terms_with : (sum : Option (ExprText × Bool)) (term : TermText) → terms_before sum ++ (flag sum, product_of (factors_of names term)) ∷ [] ≡ terms_of names (expr_with sum term)
  terms_with None term = refl
  terms_with (Some earlier) term = refl

  factors_at : (base : ℕ) (row : Row) (power : PowerText) → factors (level_of base row) (power_tree names power) ≡ factors_of names (term_at row power)
  factors_at base row power =
      ap (λ (tree : Expr). factors_before row.product ++ (flag row.product, tree) ∷ []) (negated_factor row.signs power) ∙ factors_with row.product (negative row.signs power)

  pub terms_at : (base : ℕ) (row : Row) (power : PowerText) → terms (level_of base row) (power_tree names power) ≡ terms_of names (expr_at row power)
  terms_at base row power =
      ap (λ (parts : List (Bool × Expr)). terms_before row.sum ++ (flag row.sum, product_of parts) ∷ []) (factors_at base row power) ∙ terms_with row.sum (term_at row power)

  whole_at : (power : PowerText) → whole (operand_of power) ≡ Some (power_tree names power)
  whole_at (Plain atom) = refl
  whole_at (Raised atom digits) = refl

  -- what reading a token comes to, by the state after it and the token's own fault
  abbrev pub refused : Parts → Option ExprKind → Outcome
  refused parts None = Ok parts
  refused parts (Some kind) = Err kind

  abbrev pub outcome : Option State → Option ExprKind → Outcome
  outcome None fault = Err Unexpected
  outcome (Some s) fault = refused (built s) fault

  after_sum_at : (minus : Bool) (row : Row) (outer : List Row) (power : PowerText) (operand : Operand) → after_sum_sign minus (parts_with row outer operand) (Some (power_tree names power)) ≡ Ok (built (after_sum minus row outer power))
  after_sum_at minus row outer power operand =
      let with_sum : List (Bool × Expr) → Outcome = λ parts. Ok (record { outer = levels_of outer; level = record { sum = parts; minus = minus; product = []; over = false; signs = 0; base = base_of outer }; operand = Wanted }) in
      ap with_sum (terms_at (base_of outer) row power)

  after_product_at : (over : Bool) (row : Row) (outer : List Row) (power : PowerText) (operand : Operand) → after_product_sign over (parts_with row outer operand) (Some (power_tree names power)) ≡ Ok (built (after_product over row outer power))
  after_product_at over row outer power operand =
      let with_product : List (Bool × Expr) → Outcome = λ parts. Ok (record { outer = levels_of outer; level = record { sum = terms_before row.sum; minus = flag row.sum; product = parts; over = over; signs = 0; base = base_of outer }; operand = Wanted }) in
      ap with_product (factors_at (base_of outer) row power)

  number_linked : (fails : Bool) (row : Row) (outer : List Row) (before operand : Operand) → with_operand (parts_with row outer before) (cond fails (Err WideNumber) (Ok operand)) ≡ refused (parts_with row outer operand) (when fails WideNumber)
  number_linked true row outer before operand = refl
  number_linked false row outer before operand = refl

  name_linked : (argument : Option ℕ) (row : Row) (outer : List Row) → named (parts_with row outer Wanted) argument ≡ refused (parts_with row outer (Atom (e.Arg (unwrap_or argument 0)))) (when (is_none argument) UnknownName)
  name_linked None row outer = refl
  name_linked (Some argument) row outer = refl

  deep_linked : (fails : Bool) (parts : Parts) → cond fails (Err TooDeep) (Ok parts) ≡ refused parts (when fails TooDeep)
  deep_linked true parts = refl
  deep_linked false parts = refl

  caret_linked : (row : Row) (outer : List Row) (power : PowerText) → after_caret (parts_with row outer (operand_of power)) (operand_of power) ≡ outcome (next (Have row outer power) (Mark Caret)) None
  caret_linked row outer (Plain atom) = refl
  caret_linked row outer (Raised atom digits) = refl

  closed_linked : (row : Row) (outer : List Row) (power : PowerText) (operand : Operand) → after_close (parts_with row outer operand) (Some (power_tree names power)) ≡ outcome (next (Have row outer power) (Mark Close)) None
  closed_linked row [] power operand = refl
  closed_linked row (around ∷ outer) power operand = ap (λ (parts : List (Bool × Expr)). closed_in (levels_of (around ∷ outer)) (sum_of parts)) (terms_at (base_of (around ∷ outer)) row power)

  after_number_none : (n : ℕ) (row : Row) (outer : List Row) (power : PowerText) → after_number n (parts_with row outer (operand_of power)) (operand_of power) ≡ Err Unexpected
  after_number_none n row outer (Plain atom) = refl
  after_number_none n row outer (Raised atom digits) = refl

  after_name_none : (bytes : List ℕ) (row : Row) (outer : List Row) (power : PowerText) → after_name names bytes (parts_with row outer (operand_of power)) (operand_of power) ≡ Err Unexpected
  after_name_none bytes row outer (Plain atom) = refl
  after_name_none bytes row outer (Raised atom digits) = refl

  after_open_none : (row : Row) (outer : List Row) (power : PowerText) → after_open (parts_with row outer (operand_of power)) (operand_of power) ≡ Err Unexpected
  after_open_none row outer (Plain atom) = refl
  after_open_none row outer (Raised atom digits) = refl

  minus_linked : (row : Row) (outer : List Row) (power : PowerText) → after_minus (parts_with row outer (operand_of power)) (operand_of power) ≡ Ok (built (after_sum true row outer power))
  minus_linked row outer (Plain atom) = after_sum_at true row outer (Plain atom) (operand_of (Plain atom))
  minus_linked row outer (Raised atom digits) = after_sum_at true row outer (Raised atom digits) (operand_of (Raised atom digits))

  too_deep_by : (n d : ℕ) → n ≡ d → nat_lt 64 (suc n) ≡ nat_le 64 d
  too_deep_by n d same = grind (arith, nat_tests)

  one_deeper : (ts : List Token) (row : Row) (outer : List Row) → Told ts (Want row outer) → (o : Opened) → is_too_deep (o ∷ opened ts) ≡ nat_le 64 (base_of outer + row.signs)
  one_deeper ts row outer h o = too_deep_by (length (opened ts)) (base_of outer + row.signs) (ap length h.open_ones ∙ length-open row outer)

  module _ (ts : List Token) where
    linked_next : (s : State) (t : Token) → Told ts s → taken names (built s) t ≡ outcome (next s t) (token_fault names t ts)
    linked_next (Want row outer) (Number digits) h =
        number_linked (nat_le (2 ^ 128) (digits_value 10 digits)) row outer Wanted (Atom (e.Number (digits_value 10 digits)))
        ∙ ap (λ (b : Bool). refused (parts_with row outer (Atom (e.Number (digits_value 10 digits)))) (when (nat_le (cond b 65536 (2 ^ 128)) (digits_value 10 digits)) WideNumber)) (sym h.exponent)
    linked_next (Want row outer) (Name bytes) h = name_linked (argument_of names bytes) row outer
    linked_next (Want row outer) (Mark Plus) h = refl
    linked_next (Want row outer) (Mark Minus) h =
        let d = base_of outer + row.signs in
        let with_signs : ℕ → Outcome = λ n. refused (parts_with (record row { signs = n }) outer Wanted) (when (nat_le 64 d) TooDeep) in
        let deep : nat_le 64 d ≡ (wants_factor ts && is_too_deep (opened (Mark Minus ∷ ts))) =
        sym (ap (λ (b : Bool). b && is_too_deep (cond b (Negation ∷ opened ts) (signs_ended (opened ts)))) h.factor ∙ one_deeper ts row outer h Negation) in
        deep_linked (nat_le 64 d) (parts_with (record row { signs = row.signs + 1 }) outer Wanted) ∙ ap with_signs (add-one row.signs)
        ∙ ap (λ (b : Bool). refused (parts_with (record row { signs = suc row.signs }) outer Wanted) (when b TooDeep)) deep
    linked_next (Want row outer) (Mark Times) h = refl
    linked_next (Want row outer) (Mark Over) h = refl
    linked_next (Want row outer) (Mark Caret) h = refl
    linked_next (Want row outer) (Mark Open) h =
        let d = base_of outer + row.signs in
        deep_linked (nat_le 64 d) (parts_with fresh (row ∷ outer) Wanted) ∙ ap (λ (b : Bool). refused (parts_with fresh (row ∷ outer) Wanted) (when b TooDeep)) (sym (one_deeper ts row outer h Parenthesis))
    linked_next (Want row outer) (Mark Close) h = refl
    linked_next (Want row outer) (Other byte) h = refl
    linked_next (Have row outer power) (Number digits) h = after_number_none (digits_value 10 digits) row outer power
    linked_next (Have row outer power) (Name bytes) h = after_name_none bytes row outer power
    linked_next (Have row outer power) (Mark Plus) h = ap (after_sum_sign false (parts_with row outer (operand_of power))) (whole_at power) ∙ after_sum_at false row outer power (operand_of power)
    linked_next (Have row outer power) (Mark Minus) h =
        minus_linked row outer power ∙ ap (λ (b : Bool). refused (built (after_sum true row outer power)) (when (b && is_too_deep (opened (Mark Minus ∷ ts))) TooDeep)) (sym h.factor)
    linked_next (Have row outer power) (Mark Times) h = ap (after_product_sign false (parts_with row outer (operand_of power))) (whole_at power) ∙ after_product_at false row outer power (operand_of power)
    linked_next (Have row outer power) (Mark Over) h = ap (after_product_sign true (parts_with row outer (operand_of power))) (whole_at power) ∙ after_product_at true row outer power (operand_of power)
    linked_next (Have row outer power) (Mark Caret) h = caret_linked row outer power
    linked_next (Have row outer power) (Mark Open) h = after_open_none row outer power
    linked_next (Have row outer power) (Mark Close) h = ap (after_close (parts_with row outer (operand_of power))) (whole_at power) ∙ closed_linked row outer power (operand_of power)
    linked_next (Have row outer power) (Other byte) h = refl
    linked_next (Raise row outer atom) (Number digits) h =
        number_linked (nat_le 65536 (digits_value 10 digits)) row outer (Base (atom_tree names atom)) (Power (e.Pow (atom_tree names atom) (digits_value 10 digits)))
        ∙ ap (λ (b : Bool). refused (parts_with row outer (Power (e.Pow (atom_tree names atom) (digits_value 10 digits)))) (when (nat_le (cond b 65536 (2 ^ 128)) (digits_value 10 digits)) WideNumber)) (sym h.exponent)
    linked_next (Raise row outer atom) (Name bytes) h = refl
    linked_next (Raise row outer atom) (Mark Plus) h = refl
    linked_next (Raise row outer atom) (Mark Minus) h = refl
    linked_next (Raise row outer atom) (Mark Times) h = refl
    linked_next (Raise row outer atom) (Mark Over) h = refl
    linked_next (Raise row outer atom) (Mark Caret) h = refl
    linked_next (Raise row outer atom) (Mark Open) h = refl
    linked_next (Raise row outer atom) (Mark Close) h = refl
    linked_next (Raise row outer atom) (Other byte) h = refl

  -- the builder reads a token as the state does, and tells the token's fault
  pub linked : (ts : List Token) (s : State) (t : Token) → state_of ts ≡ Some s → taken names (built s) t ≡ outcome (next s t) (token_fault names t ts)
  linked ts s t is = linked_next ts s t (told_at ts s is)

  finished_in_none : (outer : List Level) (level : Level) → finished_in outer level None ≡ None
  finished_in_none [] level = refl
  finished_in_none (around ∷ outer) level = refl

  -- the tree at the end is that of the parse tree
  pub finished_linked : (s : State) → finished (built s) ≡ option_map (tree_of names) (finish (Some s))
  finished_linked (Want row outer) = finished_in_none (levels_of outer) (level_of (base_of outer) row)
  finished_linked (Have row [] power) = ap (finished_in [] (level_of 0 row)) (whole_at power) ∙ ap (λ (parts : List (Bool × Expr)). Some (sum_of parts)) (terms_at 0 row power)
  finished_linked (Have row (around ∷ outer) power) = refl
  finished_linked (Raise row outer atom) = finished_in_none (levels_of outer) (level_of (base_of outer) row)

  depth_built : (s : State) → depth (built s) ≡ length (opened_at s)
  depth_built (Want row outer) = sym (length-open row outer)
  depth_built (Have row outer power) = sym (length-open row outer)
  depth_built (Raise row outer atom) = sym (length-open row outer)

  pub depth_at : (ts : List Token) (s : State) → state_of ts ≡ Some s → depth (built s) ≡ length (opened ts)
  depth_at ts s is = depth_built s ∙ sym (ap length (told_at ts s is).open_ones)

-- no more than 64 are open after a token without a fault

signs_ended_fewer : (os : List Opened) → length (signs_ended os) ≤ length os
signs_ended_fewer [] = omega arith
signs_ended_fewer (Parenthesis ∷ outer) = omega arith
signs_ended_fewer (Negation ∷ outer) = omega (arith, signs_ended_fewer outer)

parenthesis_ended_fewer : (os : List Opened) → length (parenthesis_ended os) ≤ length os
parenthesis_ended_fewer [] = omega arith
parenthesis_ended_fewer (Parenthesis ∷ outer) = omega arith
parenthesis_ended_fewer (Negation ∷ outer) = omega (arith, parenthesis_ended_fewer outer)

not_too_deep : (os : List Opened) → when (is_too_deep os) TooDeep ≡ None → length os ≤ 64
not_too_deep os h = elim (cases_lt 64 (length os)) [
  | inl deep ↦ let is : is_too_deep os ≡ true = grind (arith, nat_tests) in let never : Some TooDeep ≡ None = sym (ap (λ b. when b TooDeep) is) ∙ h in cc
  | inr fine ↦ omega arith
]

minus_shallow : (wants : Bool) (os : List Opened) → length os ≤ 64 → when (wants && is_too_deep (cond wants (Negation ∷ os) (signs_ended os))) TooDeep ≡ None → length (cond wants (Negation ∷ os) (signs_ended os)) ≤ 64
minus_shallow true os low h = not_too_deep (Negation ∷ os) h
minus_shallow false os low h = omega (arith, signs_ended_fewer os)

pub shallow_next : (names : Names) (t : Token) (ts : List Token) → length (opened ts) ≤ 64 → token_fault names t ts ≡ None → length (opened (t ∷ ts)) ≤ 64
shallow_next names (Number digits) ts low h = low
shallow_next names (Name bytes) ts low h = low
shallow_next names (Mark Plus) ts low h = omega (arith, signs_ended_fewer (opened ts))
shallow_next names (Mark Minus) ts low h = minus_shallow (wants_factor ts) (opened ts) low h
shallow_next names (Mark Times) ts low h = omega (arith, signs_ended_fewer (opened ts))
shallow_next names (Mark Over) ts low h = omega (arith, signs_ended_fewer (opened ts))
shallow_next names (Mark Caret) ts low h = low
shallow_next names (Mark Open) ts low h = not_too_deep (Parenthesis ∷ opened ts) h
shallow_next names (Mark Close) ts low h = omega (arith, parenthesis_ended_fewer (opened ts))
shallow_next names (Other byte) ts low h = low

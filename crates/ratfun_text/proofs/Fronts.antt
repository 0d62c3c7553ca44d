-- Where there is a state, the text is the front of an expression, and only there.
use Rattle.std.proofs.Common.{◌≡◌, ◌≤◌, ℕ, ◌+◌, Bool, true, false, cond, ◌&&◌, List, [], ◌∷◌, ◌++◌, length, take, drop, Option, Some, None, IfSome, refl, sym, ap, subst, ◌∙◌, append_assoc, add-zero, zero-add, arith}
use Rattle.std.specs.Char.{is_ascii_alphabetic, is_ascii_digit}
use Rattle.std.proofs.lemmas.List.{take-append-drop, take-take}
use Rattle.ratfun_text.specs.declared.tokens.Sign.TheVariants.{Close}
use Rattle.ratfun_text.specs.Bytes.{is_blank, is_name_byte}
use Rattle.ratfun_text.specs.Tokens.{Token, token, mark_or_other, sign_of, Seen, tokens_of, joins, longer, begun, read_byte, read_from, seen_in, placed, kinds}
use Rattle.ratfun_text.specs.Tokens.Token.{Number, Name, Mark}
use Rattle.ratfun_text.specs.Tokens.Seen.{Ended, Within}
use Rattle.ratfun_text.specs.Grammar.{ExprText, PowerText, Spells, IsExpression, IsFront, expr_after}
use Rattle.ratfun_text.specs.Grammar.PowerText.{Plain, Raised}
use Rattle.ratfun_text.specs.Grammar.AtomText.{ANumber, Inner}
use Rattle.ratfun_text.proofs.Machine.{Row, State, next, step, state_of, finish, expr_at, accepted, finished_as}
use Rattle.ratfun_text.proofs.Machine.State.{Want, Have, Raise}

-- reading two texts one after the other

pub read_append : (place : ℕ) (seen : Seen) (a b : List ℕ) → read_from place seen (a ++ b) ≡ read_from (place + length a) (read_from place seen a) b
read_append place seen [] b = ap (λ p. read_from p seen b) (sym (add-zero place))
read_append place seen (x ∷ a) b =
    let at : place + 1 + length a ≡ place + length (x ∷ a) = omega arith in
    read_append (place + 1) (read_byte place seen x) a b ∙ ap (λ p. read_from p (read_from (place + 1) (read_byte place seen x) a) b) at

pub seen_append : (a b : List ℕ) → seen_in (a ++ b) ≡ read_from (length a) (seen_in a) b
seen_append a b = read_append 0 (Ended []) a b ∙ ap (λ p. read_from p (seen_in a) b) (zero-add (length a))

-- what begins an expression does so too where it is cut short

pub front_before : (a b : List ℕ) → IsFront (a ++ b) → IsFront a
front_before a b (rest, is) = (b ++ rest, subst IsExpression (append_assoc a b rest) is)

pub front_of_take : (text : List ℕ) (p n : ℕ) → p ≤ n → IsFront (take n text) → IsFront (take p text)
front_of_take text p n le front =
    let cut : take p (take n text) ++ drop p (take n text) ≡ take n text = take-append-drop p (take n text) in
    let same : take p (take n text) ≡ take p text = take-take p n text le in
    subst IsFront same (front_before (take p (take n text)) (drop p (take n text)) (subst IsFront (sym cut) front))

-- a text that is no expression's front stays so, whatever comes after it

same_class_by : (digit letter : Bool) (other : Token) (s : State) (a b : List ℕ) → next s (cond digit (Number a) (cond letter (Name a) other)) ≡ None → next s (cond digit (Number b) (cond letter (Name b) other)) ≡ None
same_class_by true letter other (Want row outer) a b h = cc
same_class_by true letter other (Have row outer power) a b h = refl
same_class_by true letter other (Raise row outer atom) a b h = cc
same_class_by false true other (Want row outer) a b h = cc
same_class_by false true other (Have row outer power) a b h = refl
same_class_by false true other (Raise row outer atom) a b h = refl
same_class_by false false other s a b h = h

pub same_class : (first : ℕ) (a b : List ℕ) (o : Option State) → step (token first a) o ≡ None → step (token first b) o ≡ None
same_class first a b None h = refl
same_class first a b (Some s) h = same_class_by (is_ascii_digit first) (is_ascii_alphabetic first) (mark_or_other first (sign_of first)) s (first ∷ a) (first ∷ b) h

abbrev pub reached : Seen → Option State
reached seen = state_of (kinds (tokens_of seen))

dead_token : (t : Token) (o : Option State) → o ≡ None → step t o ≡ None
dead_token t o h = ap (step t) h

dead_longer : (seen : Seen) (b : ℕ) → reached seen ≡ None → reached (longer seen b) ≡ None
dead_longer (Ended tokens) b h = h
dead_longer (Within before place first rest) b h = same_class first rest (rest ++ b ∷ []) (state_of (kinds before)) h

dead_begun : (place : ℕ) (tokens : List (ℕ × Token)) (b : ℕ) (blank : Bool) → state_of (kinds tokens) ≡ None → reached (cond blank (Ended tokens) (Within tokens place b [])) ≡ None
dead_begun place tokens b true h = h
dead_begun place tokens b false h = dead_token (token b []) (state_of (kinds tokens)) h

dead_either : (joined : Bool) (a b : Seen) → reached a ≡ None → reached b ≡ None → reached (cond joined a b) ≡ None
dead_either true a b h k = h
dead_either false a b h k = k

dead_byte : (place : ℕ) (seen : Seen) (b : ℕ) → reached seen ≡ None → reached (read_byte place seen b) ≡ None
dead_byte place seen b h = dead_either (joins seen b) (longer seen b) (begun place (tokens_of seen) b) (dead_longer seen b h) (dead_begun place (tokens_of seen) b (is_blank b) h)

stays_dead : (place : ℕ) (seen : Seen) (rest : List ℕ) → reached seen ≡ None → reached (read_from place seen rest) ≡ None
stays_dead place seen [] h = h
stays_dead place seen (b ∷ rest) h = stays_dead (place + 1) (read_byte place seen b) rest (dead_byte place seen b h)

pub no_front : (text : List ℕ) → state_of (kinds (placed text)) ≡ None → IsFront text → ⊥
no_front text h (rest, (e, spells)) =
    let dead : reached (seen_in (text ++ rest)) ≡ None = ap reached (seen_append text rest) ∙ stays_dead (length text) (seen_in text) rest h in
    let some : finish (state_of (kinds (placed (text ++ rest)))) ≡ Some e = finished_as e (text ++ rest) spells in
    let none : finish (state_of (kinds (placed (text ++ rest)))) ≡ None = ap finish dead in
    cc

-- a state goes on to the end of an expression

joins_no_blank : (digit letter : Bool) → cond digit (is_ascii_digit 32) (letter && is_name_byte 32) ≡ false
joins_no_blank true letter = refl
joins_no_blank false true = refl
joins_no_blank false false = refl

blank_ends : (place : ℕ) (seen : Seen) → read_byte place seen 32 ≡ Ended (tokens_of seen)
blank_ends place (Ended tokens) = refl
blank_ends place (Within before start first rest) =
    let seen : Seen = Within before start first rest in
    ap (λ (joined : Bool). cond joined (longer seen 32) (Ended (tokens_of seen))) (joins_no_blank (is_ascii_digit first) (is_ascii_alphabetic first))

abbrev IsDone : Option State → Type 0
IsDone o = (e : ExprText) × (finish o ≡ Some e)

abbrev Closes : ℕ → List (ℕ × Token) → Type 0
Closes place tokens = (rest : List ℕ) × IsDone (reached (read_from place (Ended tokens) rest))

closes : (outer : List Row) (place : ℕ) (tokens : List (ℕ × Token)) (row : Row) (power : PowerText) → state_of (kinds tokens) ≡ Some (Have row outer power) → Closes place tokens
closes [] place tokens row power h = ([], (expr_at row power, ap finish h))
closes (around ∷ outer) place tokens row power h =
    let later = closes outer (place + 1 + 1) ((place, Mark Close) ∷ tokens) around (Plain (Inner (expr_at row power))) (ap (step (Mark Close)) h) in
    (41 ∷ 32 ∷ later.0, later.1)

goes_on_from : (s : State) (place : ℕ) (tokens : List (ℕ × Token)) → state_of (kinds tokens) ≡ Some s → Closes place tokens
goes_on_from (Have row outer power) place tokens h = closes outer place tokens row power h
goes_on_from (Want row outer) place tokens h =
    let later = closes outer (place + 1 + 1) ((place, Number (48 ∷ [])) ∷ tokens) row (Plain (ANumber (48 ∷ []))) (ap (step (Number (48 ∷ []))) h) in
    (48 ∷ 32 ∷ later.0, later.1)
goes_on_from (Raise row outer atom) place tokens h =
    let later = closes outer (place + 1 + 1) ((place, Number (48 ∷ [])) ∷ tokens) row (Raised atom (48 ∷ [])) (ap (step (Number (48 ∷ []))) h) in
    (48 ∷ 32 ∷ later.0, later.1)

done_is_expression : (text : List ℕ) → IsDone (state_of (kinds (placed text))) → IsExpression text
done_is_expression text (e, is) = let P : Option ExprText → Type 0 = λ o. IfSome o (λ a. kinds (placed text) ≡ expr_after a []) in (e, subst P is (accepted (kinds (placed text))))

pub expression_at : (text : List ℕ) (e : ExprText) → finish (state_of (kinds (placed text))) ≡ Some e → Spells e text
expression_at text e is = let P : Option ExprText → Type 0 = λ o. IfSome o (λ a. kinds (placed text) ≡ expr_after a []) in subst P is (accepted (kinds (placed text)))

pub front : (text : List ℕ) (s : State) → state_of (kinds (placed text)) ≡ Some s → IsFront text
front text s h =
    let later = goes_on_from s (length text + 1) (placed text) h in
    let read : seen_in (text ++ 32 ∷ later.0) ≡ read_from (length text + 1) (Ended (placed text)) later.0 =
    seen_append text (32 ∷ later.0) ∙ ap (λ (seen : Seen). read_from (length text + 1) seen later.0) (blank_ends (length text) (seen_in text)) in
    (32 ∷ later.0, done_is_expression (text ++ 32 ∷ later.0) (subst (λ (seen : Seen). IsDone (reached seen)) (sym read) later.1))

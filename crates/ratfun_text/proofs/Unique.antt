-- At most one tree and at most one fault is told of a text.
use Rattle.std.proofs.Common.{◌≡◌, ◌≤◌, ℕ, zero, suc, List, refl, sym, ap, subst, ◌∙◌, inl, inr, arith}
use Rattle.std.proofs.lemmas.Bool.{cases_lt}
use Rattle.ratfun_text.specs.declared.expr.Expr.{Expr}
use Rattle.ratfun_text.specs.declared.names.Names.{Names}
use Rattle.ratfun_text.specs.declared.parse.ExprKind.{ExprKind}
use Rattle.ratfun_text.specs.declared.parse.ExprKind.TheVariants.{Unexpected, WideNumber, UnknownName, TooDeep, NoMemory}
use Rattle.ratfun_text.specs.Grammar.{IsTreeOf, tree_of}
use Rattle.ratfun_text.specs.Faults.{IsFirst, rank}
use Rattle.ratfun_text.proofs.Machine.{one_tree}

-- a text has at most one tree
pub same_tree : (names : Names) (text : List ℕ) (a b : Expr) → IsTreeOf names text a → IsTreeOf names text b → a ≡ b
same_tree names text a b (d, h, is) (e, k, are) = is ∙ ap (tree_of names) (one_tree text d e h k) ∙ sym are

-- the kind of a rank
abbrev kind_of : ℕ → ExprKind
kind_of zero = Unexpected
kind_of (suc zero) = WideNumber
kind_of (suc (suc zero)) = UnknownName
kind_of (suc (suc (suc zero))) = TooDeep
kind_of (suc (suc (suc (suc n)))) = NoMemory

kind_again : (k : ExprKind) → kind_of (rank k) ≡ k
kind_again Unexpected = refl
kind_again WideNumber = refl
kind_again UnknownName = refl
kind_again TooDeep = refl
kind_again NoMemory = refl

no_earlier : (names : Names) (text : List ℕ) (p q : ℕ) (k l : ExprKind) → IsFirst names text p k → IsFirst names text q l → p ≤ q
no_earlier names text p q k l h i = elim (cases_lt q p) [ inl low ↦ absurd (h.least q l low i.applies) | inr fine ↦ fine ]

no_lower : (names : Names) (text : List ℕ) (p : ℕ) (k l : ExprKind) → IsFirst names text p k → IsFirst names text p l → rank k ≤ rank l
no_lower names text p k l h i = elim (cases_lt (rank l) (rank k)) [ inl low ↦ absurd (h.first l low i.applies) | inr fine ↦ fine ]

-- at most one fault is told
pub one_fault : (names : Names) (text : List ℕ) (p q : ℕ) (k l : ExprKind) → IsFirst names text p k → IsFirst names text q l → (p ≡ q) × (k ≡ l)
one_fault names text p q k l h i =
    let below : p ≤ q = no_earlier names text p q k l h i in
    let above : q ≤ p = no_earlier names text q p l k i h in
    let place : p ≡ q = omega arith in
    let moved : IsFirst names text p l = subst (λ (n : ℕ). IsFirst names text n l) (sym place) i in
    let low : rank k ≤ rank l = no_lower names text p k l h moved in
    let high : rank l ≤ rank k = no_lower names text p l k moved h in
    let ranks : rank k ≡ rank l = omega arith in
    (place, sym (kind_again k) ∙ ap kind_of ranks ∙ kind_again l)

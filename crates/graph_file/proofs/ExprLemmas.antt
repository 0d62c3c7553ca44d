-- Expressions read one after the other.
use Rattle.std.proofs.Common.{◌≡◌, ◌<◌, ◌≤◌, ◌+◌, ℕ, sym, ap, subst, ◌∙◌, List, [], ◌∷◌, ◌++◌, length, take, get_or, Some, arith, ◌⊎◌, inl, inr, add-one}
use Rattle.std.specs.List.{slice_get, AllZip}
use Rattle.std.proofs.lemmas.Bool.{cases_lt}
use Rattle.std.proofs.lemmas.List.{take_all}
use Rattle.std.proofs.Math.Seq.{take-suc}
use Rattle.std.proofs.lemmas.Option.{get_or_from_slice_get, slice_get_within}
use Rattle.ratfun_text.specs.Faults.{IsFaultless}
use Rattle.ratfun_text.specs.declared.expr.Expr.{Expr}
use Rattle.ratfun_text.specs.declared.names.Names.{Names}
use Rattle.graph_file.specs.Faults.{AreFaultless}
use Rattle.graph_file.specs.Says.{AreTrees}
use Rattle.ratfun_text.specs.Grammar.{IsTreeOf}

-- one more pair
zip-push : {X Y : Type 0} (R : X → Y → Type 0) (xs : List X) (ys : List Y) (x : X) (y : Y) → AllZip R xs ys → R x y → AllZip R (xs ++ x ∷ []) (ys ++ y ∷ [])
zip-push R [] [] x y all last = (last, all)
zip-push R [] (b ∷ ys) x y all last = absurd all
zip-push R (a ∷ xs) [] x y all last = absurd all
zip-push R (a ∷ xs) (b ∷ ys) x y all last = (all.0, zip-push R xs ys x y all.1 last)

-- the next tree goes to those so far
pub trees-there : (names : Names) (texts : List (List ℕ)) (i : ℕ) (exprs new : List Expr) (text : List ℕ) (expr : Expr) → i < length texts → text ≡ get_or texts i text → AreTrees names (take i texts) exprs → IsTreeOf names text expr → new ≡ exprs ++ expr ∷ [] → AreTrees names (take (i + 1) texts) new
trees-there names texts i exprs new text expr within read so_far tree grown =
    subst (λ (l : List Expr). AreTrees names (take (i + 1) texts) l) (sym grown) whole
  where
    longer : take (i + 1) texts ≡ take i texts ++ text ∷ []
    longer = rw add-one (take-suc texts i text within) ∙ ap (λ t. take i texts ++ t ∷ []) (sym read)

    whole : AllZip (IsTreeOf names) (take (i + 1) texts) (exprs ++ expr ∷ [])
    whole = subst (λ (l : List (List ℕ)). AllZip (IsTreeOf names) l (exprs ++ expr ∷ [])) (sym longer) (zip-push (IsTreeOf names) (take i texts) exprs text expr so_far tree)

-- nothing is wrong with the texts before the next index
pub faultless-there : (names : Names) (texts : List (List ℕ)) (i : ℕ) (text : List ℕ) → text ≡ get_or texts i text → ((k : ℕ) (other : List ℕ) → k < i → slice_get texts k ≡ Some other → IsFaultless names other) → IsFaultless names text → (k : ℕ) (other : List ℕ) → k < i + 1 → slice_get texts k ≡ Some other → IsFaultless names other
faultless-there names texts i text read so_far here k other within at = from (cases_lt k i)
  where
    from : (k < i) ⊎ (i ≤ k) → IsFaultless names other
    from (inl below) = so_far k other below at
    from (inr above) =
        let same : k ≡ i = omega arith in
        let is : text ≡ other = read ∙ ap (λ n. get_or texts n text) (sym same) ∙ get_or_from_slice_get texts k other text at in
        subst (IsFaultless names) is here

-- at the end the texts before the index are all
pub trees-all : (names : Names) (texts : List (List ℕ)) (i : ℕ) (exprs : List Expr) → length texts ≤ i → AreTrees names (take i texts) exprs → AreTrees names texts exprs
trees-all names texts i exprs past trees = subst (λ (l : List (List ℕ)). AreTrees names l exprs) (take_all i texts past) trees

pub faultless-all : (names : Names) (texts : List (List ℕ)) (i : ℕ) → length texts ≤ i → ((k : ℕ) (other : List ℕ) → k < i → slice_get texts k ≡ Some other → IsFaultless names other) → AreFaultless names texts
faultless-all names texts i past so_far k text at =
    let within : k < length texts = slice_get_within texts k text at in
    so_far k text (omega arith) at

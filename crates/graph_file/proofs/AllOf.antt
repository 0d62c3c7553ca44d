-- Answers that are gathered one after the other.
use Rattle.std.proofs.Common.{◌≡◌, ◌<◌, ◌+◌, ℕ, refl, sym, ap, ◌∙◌, List, [], ◌∷◌, ◌++◌, length, map, drop, Option, Some, None, append_assoc, append-nil, add-one, option_map, arith}
use Rattle.std.specs.Borrow.{Bor}
use Rattle.std.proofs.Math.ListN.{get_or-map}
use Rattle.std.proofs.lemmas.List.{length-map}
use Rattle.std.proofs.Math.Seq.{drop-cons}
use Rattle.graph_file.specs.Line.{all_of}

-- the answers so far with those behind them, where all of these are there
abbrev pub onto : {A : Type 0} → List A → Option (List A) → Option (List A)
onto front later = option_map (λ answers. front ++ answers) later

pub onto-cons : {A : Type 0} (front : List A) (a : A) (later : Option (List A)) → onto front (option_map (λ answers. a ∷ answers) later) ≡ onto (front ++ a ∷ []) later
onto-cons front a None = refl
onto-cons front a (Some answers) = ap (λ l. Some l) (sym (append_assoc front (a ∷ []) answers))

-- an answer that is there goes to those so far
pub all_of-there : {A : Type 0} (whole : Option (List A)) (front : List A) (o : Option A) (later : List (Option A)) (a : A) → whole ≡ onto front (all_of (o ∷ later)) → o ≡ Some a → whole ≡ onto (front ++ a ∷ []) (all_of later)
all_of-there whole front o later a so_far there = so_far ∙ ap (λ x. onto front (all_of (x ∷ later))) there ∙ onto-cons front a (all_of later)

-- with an answer that isn't there, nothing is
pub all_of-missing : {A : Type 0} (whole : Option (List A)) (front : List A) (o : Option A) (later : List (Option A)) → whole ≡ onto front (all_of (o ∷ later)) → o ≡ None → whole ≡ None
all_of-missing whole front o later so_far missing = so_far ∙ ap (λ x. onto front (all_of (x ∷ later))) missing

-- with no answer left, those so far are all
pub all_of-done : {A : Type 0} (whole : Option (List A)) (front : List A) → whole ≡ onto front (all_of []) → whole ≡ Some front
all_of-done whole front so_far = so_far ∙ ap (λ l. Some l) (append-nil front)

-- the same at the place i of a list of questions
module _ {X A : Type 0} (ask : X → Option A) (xs : List X) (i : ℕ) (d : X) (within : i < length xs) where
  opened : map ask (drop i xs) ≡ ask (lib.ListN.get_or xs i d) ∷ map ask (drop (i + 1) xs)
  opened = ap (map ask) (drop-cons xs i d within) ∙ ap (λ n. ask (lib.ListN.get_or xs i d) ∷ map ask (drop n xs)) (sym (add-one i))

  pub asked-there : (whole : Option (List A)) (front : List A) (a : A) → whole ≡ onto front (all_of (map ask (drop i xs))) → ask (lib.ListN.get_or xs i d) ≡ Some a → whole ≡ onto (front ++ a ∷ []) (all_of (map ask (drop (i + 1) xs)))
  asked-there whole front a so_far there = all_of-there whole front _ _ a (so_far ∙ ap (λ l. onto front (all_of l)) opened) there

  pub asked-missing : (whole : Option (List A)) (front : List A) → whole ≡ onto front (all_of (map ask (drop i xs))) → ask (lib.ListN.get_or xs i d) ≡ None → whole ≡ None
  asked-missing whole front so_far missing = all_of-missing whole front _ _ (so_far ∙ ap (λ l. onto front (all_of l)) opened) missing

-- the same where the questions are words
abbrev texts : List (Bor (List ℕ)) → List (List ℕ)
texts words = map (λ word. word.now) words

module _ {A : Type 0} (ask : List ℕ → Option A) (words : List (Bor (List ℕ))) (i : ℕ) (d : Bor (List ℕ)) (within : i < length words) (front : List A) (so_far : all_of (map ask (texts words)) ≡ onto front (all_of (map ask (drop i (texts words))))) where
  inside : i < length (texts words)
  inside = omega (arith, length-map words (λ word. word.now))

  at : ask (lib.ListN.get_or (texts words) i d.now) ≡ ask (lib.ListN.get_or words i d).now
  at = ap ask (get_or-map (λ word. word.now) words i d)

  pub word-there : (new : List A) (a : A) → ask (lib.ListN.get_or words i d).now ≡ Some a → new ≡ front ++ a ∷ [] → all_of (map ask (texts words)) ≡ onto new (all_of (map ask (drop (i + 1) (texts words))))
  word-there new a there grown =
      asked-there ask (texts words) i d.now inside _ front a so_far (at ∙ there)
      ∙ ap (λ l. onto l (all_of (map ask (drop (i + 1) (texts words))))) (sym grown)

  pub word-missing : ask (lib.ListN.get_or words i d).now ≡ None → None ≡ all_of (map ask (texts words))
  word-missing missing = sym (asked-missing ask (texts words) i d.now inside _ front so_far (at ∙ missing))

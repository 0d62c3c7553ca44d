-- What is known of the front of a text that has been read, how it grows by a token, and what is told where it ends.
use Rattle.std.proofs.Common.{◌≡◌, ◌≢◌, ◌≤◌, ◌<◌, ◌⊎◌, ℕ, suc, ◌+◌, ◌-◌, Bool, true, false, List, [], ◌∷◌, ◌++◌, length, take, drop, get_or, Option, Some, None, Ok, Err, refl, sym, ap, subst, ◌∙◌, inl, inr, append_assoc, add-one, length-append, length-drop, drop-cons, arith}
use Rattle.std.specs.Option.{option_map}
use Rattle.std.specs.List.{list_all}
use Rattle.std.proofs.lemmas.List.{take_all, take-append-le, take-append-drop, length-take, drop-drop}
use Rattle.std.proofs.Math.ListN.{drop_of_length-le}
use Rattle.std.proofs.Math.Seq.{take-suc}
use Rattle.std.proofs.lemmas.Bool.{cases_lt}
use Rattle.ratfun_text.specs.declared.expr.Expr.{Expr}
use Rattle.ratfun_text.specs.declared.names.Names.{Names}
use Rattle.ratfun_text.specs.declared.parse.ExprError.{ExprError}
use Rattle.ratfun_text.specs.declared.parse.ExprKind.{ExprKind}
use Rattle.ratfun_text.specs.declared.parse.ExprKind.TheVariants.{Unexpected, WideNumber, UnknownName, TooDeep, NoMemory}
use Rattle.ratfun_text.specs.declared.tokens.Sign.TheVariants.{Plus, Minus, Times, Over, Caret, Open, Close}
use Rattle.ratfun_text.specs.Bytes.{is_blank}
use Rattle.ratfun_text.specs.Tokens.{Token, token, token_of, goes_on, tokens_of, joins, seen_in, placed, kinds}
use Rattle.ratfun_text.specs.Tokens.Token.{Number, Name, Mark, Other}
use Rattle.ratfun_text.specs.Tokens.Seen.{Ended, Within}
use Rattle.ratfun_text.specs.Grammar.{ExprText, IsFront, IsTreeOf, tree_of}
use Rattle.ratfun_text.specs.Faults.{opened, token_fault, when, HasFault, IsUnexpected, Applies, rank, IsFaultless, IsFirst, error_at}
use Rattle.ratfun_text.specs.Parts.{Parts, Outcome, IsAnswer, IsTree, depth, taken, finished}
use Rattle.ratfun_text.proofs.Machine.{State, fresh, step, state_of, finish, finished_as}
use Rattle.ratfun_text.proofs.Machine.State.{Want}
use Rattle.ratfun_text.proofs.Fronts.{front, front_of_take, no_front, same_class, expression_at}
use Rattle.ratfun_text.proofs.Places.{IsApart, seen_word, seen_blank, fault_before, fault_stays, fault_within}
use Rattle.ratfun_text.proofs.Built.{built, outcome, linked, finished_linked, depth_at, shallow_next}

-- a token's own faults are those of three kinds
abbrev IsOwn : ExprKind → Type 0
IsOwn Unexpected = ⊥
IsOwn WideNumber = Unit {0}
IsOwn UnknownName = Unit {0}
IsOwn TooDeep = Unit {0}
IsOwn NoMemory = ⊥

when_own : (b : Bool) (w k : ExprKind) → IsOwn w → when b w ≡ Some k → IsOwn k
when_own true w k own h = let same : w ≡ k = cc in subst IsOwn same own
when_own false w k own h = cc

none_own : (k : ExprKind) → None ≡ Some k → IsOwn k
none_own k h = cc

fault_own : (names : Names) (t : Token) (ts : List Token) (k : ExprKind) → token_fault names t ts ≡ Some k → IsOwn k
fault_own names (Number digits) ts k h = when_own _ WideNumber k tt h
fault_own names (Name bytes) ts k h = when_own _ UnknownName k tt h
fault_own names (Mark Plus) ts k h = none_own k h
fault_own names (Mark Minus) ts k h = when_own _ TooDeep k tt h
fault_own names (Mark Times) ts k h = none_own k h
fault_own names (Mark Over) ts k h = none_own k h
fault_own names (Mark Caret) ts k h = none_own k h
fault_own names (Mark Open) ts k h = when_own _ TooDeep k tt h
fault_own names (Mark Close) ts k h = none_own k h
fault_own names (Other byte) ts k h = none_own k h

own_applies : (names : Names) (text : List ℕ) (place : ℕ) (k : ExprKind) → IsOwn k → HasFault names place k (placed text) → Applies names text place k
own_applies names text place Unexpected own h = absurd own
own_applies names text place WideNumber own h = h
own_applies names text place UnknownName own h = h
own_applies names text place TooDeep own h = h
own_applies names text place NoMemory own h = absurd own

-- what applies is a token's fault, or the text is unexpected there
applies_cases : (names : Names) (text : List ℕ) (place : ℕ) (k : ExprKind) → Applies names text place k → IsUnexpected text place ⊎ HasFault names place k (placed text)
applies_cases names text place Unexpected h = inl h
applies_cases names text place WideNumber h = inr h
applies_cases names text place UnknownName h = inr h
applies_cases names text place TooDeep h = inr h
applies_cases names text place NoMemory h = absurd h

-- a front of a text is no unexpected place
expected_within : (text : List ℕ) (p n : ℕ) → p < n → n ≤ length text → IsFront (take n text) → IsUnexpected text p → ⊥
expected_within text p n low within is (inl (inside, none)) = none (front_of_take text (p + 1) n (omega arith) is)
expected_within text p n low within is (inr (at, none)) = omega arith

-- the next token does not go on into the rest
abbrev pub Stops : ℕ → List ℕ → Type 0
Stops first [] = Unit {0}
Stops first (b ∷ rest) = goes_on first b ≡ false

take_front : (text rest : List ℕ) → take (length text) (text ++ rest) ≡ text
take_front text rest = take-append-le (length text) text rest (omega arith) ∙ take_all (length text) text (omega arith)

module _ (names : Names) where
  -- the builder's parts are those of the state
  abbrev Fits : Option State → Parts → Type 0
  Fits None parts = ⊥
  Fits (Some s) parts = parts ≡ built names s

  pub record Kept (text rest : List ℕ) (parts : Parts) : Type 0 where
    pub apart : IsApart text rest
    pub fits : Fits (state_of (kinds (placed text))) parts
    pub shallow : length (opened (kinds (placed text))) ≤ 64
    pub sound : (p : ℕ) (k : ExprKind) → HasFault names p k (placed text) → ⊥

  reached : (o : Option State) (parts : Parts) → Fits o parts → (s : State) × (o ≡ Some s) × (parts ≡ built names s)
  reached None parts h = absurd h
  reached (Some s) parts h = (s, refl, h)

  pub kept_shallow : (text rest : List ℕ) (parts : Parts) → Kept text rest parts → depth parts ≤ 64
  kept_shallow text rest parts h =
      let s = reached (state_of (kinds (placed text))) parts h.fits in
      let same : depth parts ≡ length (opened (kinds (placed text))) = ap depth s.2 ∙ depth_at names (kinds (placed text)) s.0 s.1 in
      omega (arith, h.shallow)

  kept_front : (text rest : List ℕ) (parts : Parts) → Kept text rest parts → IsFront text
  kept_front text rest parts h = let s = reached (state_of (kinds (placed text))) parts h.fits in front text s.0 s.1

  pub kept_nothing : (text : List ℕ) (parts : Parts) → parts ≡ built names (Want fresh []) → Kept [] text parts
  kept_nothing [] parts h = record { apart = tt; fits = h; shallow = omega arith; sound = λ p k fault. fault }
  kept_nothing (b ∷ rest) parts h = record { apart = refl; fits = h; shallow = omega arith; sound = λ p k fault. fault }

  apart_after : (text rest : List ℕ) (tokens : List (ℕ × Token)) → seen_in text ≡ Ended tokens → IsApart text rest
  apart_after text [] tokens h = tt
  apart_after text (b ∷ rest) tokens h = ap (λ seen. joins seen b) h

  -- a blank more
  pub kept_blank : (text : List ℕ) (b : ℕ) (rest : List ℕ) (parts : Parts) → is_blank b ≡ true → Kept text (b ∷ rest) parts → Kept (text ++ b ∷ []) rest parts
  kept_blank text b rest parts blank h =
      let seen : seen_in (text ++ b ∷ []) ≡ Ended (placed text) = seen_blank text b h.apart blank in
      let same : placed (text ++ b ∷ []) ≡ placed text = ap tokens_of seen in
      record {
        apart = apart_after (text ++ b ∷ []) rest (placed text) seen;
        fits = subst (λ (ts : List (ℕ × Token)). Fits (state_of (kinds ts)) parts) (sym same) h.fits;
        shallow = subst (λ (ts : List (ℕ × Token)). length (opened (kinds ts)) ≤ 64) (sym same) h.shallow;
        sound = subst (λ (ts : List (ℕ × Token)). (p : ℕ) (k : ExprKind) → HasFault names p k ts → ⊥) (sym same) h.sound;
      }

  apart_word : (text rest : List ℕ) (before : List (ℕ × Token)) (place first : ℕ) (more : List ℕ) → seen_in text ≡ Within before place first more → Stops first rest → IsApart text rest
  apart_word text [] before place first more h stops = tt
  apart_word text (b ∷ rest) before place first more h stops = ap (λ seen. joins seen b) h ∙ stops

  outcome_ok : (o : Option State) (fault : Option ExprKind) (parts : Parts) → outcome names o fault ≡ Ok parts → Fits o parts × (fault ≡ None)
  outcome_ok None fault parts h = cc
  outcome_ok (Some s) None parts h = (cc, refl)
  outcome_ok (Some s) (Some kind) parts h = cc

  outcome_err : (o : Option State) (fault : Option ExprKind) (k : ExprKind) → outcome names o fault ≡ Err k → ((o ≡ None) × (k ≡ Unexpected)) ⊎ ((s : State) × (o ≡ Some s) × (fault ≡ Some k))
  outcome_err None fault k h = inl (refl, cc)
  outcome_err (Some s) None k h = cc
  outcome_err (Some s) (Some kind) k h = inr (s, refl, cc)

  module _ (text : List ℕ) (first : ℕ) (more rest : List ℕ) (parts : Parts) (dark : is_blank first ≡ false) (run : list_all (goes_on first) more ≡ true) (stops : Stops first rest) (h : Kept text (first ∷ more ++ rest) parts) where
    seen : seen_in (text ++ first ∷ more) ≡ Within (placed text) (length text) first more
    seen = seen_word text first more h.apart dark run

    same : placed (text ++ first ∷ more) ≡ (length text, token first more) ∷ placed text
    same = ap tokens_of seen

    later : IsApart (text ++ first ∷ more) rest
    later = apart_word (text ++ first ∷ more) rest (placed text) (length text) first more seen stops

    split : (text ++ first ∷ more) ++ rest ≡ text ++ (first ∷ more ++ rest)
    split = append_assoc text (first ∷ more) rest

    reads : (s : State) × (state_of (kinds (placed text)) ≡ Some s) × (taken names parts (token first more) ≡ outcome names (step (token first more) (state_of (kinds (placed text)))) (token_fault names (token first more) (kinds (placed text))))
    reads =
        let s = reached (state_of (kinds (placed text))) parts h.fits in (
          s.0,
          s.1,
          ap (λ (p : Parts). taken names p (token first more)) s.2 ∙ linked names (kinds (placed text)) s.0 (token first more) s.1
              ∙ ap (λ (o : Option State). outcome names (step (token first more) o) (token_fault names (token first more) (kinds (placed text)))) (sym s.1),
        )

    -- a token more
    pub kept_word : (after : Parts) → taken names parts (token first more) ≡ Ok after → Kept (text ++ first ∷ more) rest after
    kept_word after is =
        let ok = outcome_ok (step (token first more) (state_of (kinds (placed text)))) (token_fault names (token first more) (kinds (placed text))) after (sym reads.2 ∙ is) in
        let sound : (p : ℕ) (k : ExprKind) → HasFault names p k ((length text, token first more) ∷ placed text) → ⊥ =
        λ p k fault. elim fault [ inl here ↦ let none : None ≡ Some k = sym ok.1 ∙ here.1 in cc | inr there ↦ h.sound p k there ] in
        record {
          apart = later;
          fits = subst (λ (ts : List (ℕ × Token)). Fits (state_of (kinds ts)) after) (sym same) ok.0;
          shallow = subst (λ (ts : List (ℕ × Token)). length (opened (kinds ts)) ≤ 64) (sym same) (shallow_next names (token first more) (kinds (placed text)) h.shallow ok.1);
          sound = subst (λ (ts : List (ℕ × Token)). (p : ℕ) (k : ExprKind) → HasFault names p k ts → ⊥) (sym same) sound;
        }

    long : length text + 1 ≤ length (text ++ (first ∷ more ++ rest))
    long = omega (arith, length-append text (first ∷ more ++ rest))

    -- nothing is wrong before the token
    no_earlier : (p : ℕ) (k : ExprKind) → p < length text → Applies names (text ++ (first ∷ more ++ rest)) p k → ⊥
    no_earlier p k low fault = elim (applies_cases names (text ++ (first ∷ more ++ rest)) p k fault) [
      | inl unexpected ↦
          let is : IsFront (take (length text) (text ++ (first ∷ more ++ rest))) = subst IsFront (sym (take_front text (first ∷ more ++ rest))) (kept_front text (first ∷ more ++ rest) parts h) in
          expected_within (text ++ (first ∷ more ++ rest)) p (length text) low (omega (arith, long)) is unexpected
      | inr own ↦ h.sound p k (fault_before names text (first ∷ more ++ rest) h.apart p k low own)
    ]

    -- the token may not stand here
    refused_here : step (token first more) (state_of (kinds (placed text))) ≡ None → IsFirst names (text ++ (first ∷ more ++ rest)) (length text) Unexpected
    refused_here dead =
        let n = length text in
        let one : seen_in (text ++ first ∷ []) ≡ Within (placed text) n first [] = seen_word text first [] h.apart dark refl in
        let dead_one : state_of (kinds (placed (text ++ first ∷ []))) ≡ None = ap (λ seen. state_of (kinds (tokens_of seen))) one ∙ same_class first more [] (state_of (kinds (placed text))) dead in
        let cut : (text ++ first ∷ []) ++ (more ++ rest) ≡ text ++ (first ∷ more ++ rest) = append_assoc text (first ∷ []) (more ++ rest) in
        let size : length (text ++ first ∷ []) ≡ n + 1 = omega (arith, length-append text (first ∷ [])) in
        let taken_one : take (n + 1) (text ++ (first ∷ more ++ rest)) ≡ text ++ first ∷ [] =
        ap (λ k. take k (text ++ (first ∷ more ++ rest))) (sym size) ∙ ap (take (length (text ++ first ∷ []))) (sym cut) ∙ take_front (text ++ first ∷ []) (more ++ rest) in
        record {
          applies = inl (omega (arith, long), λ is. no_front (text ++ first ∷ []) dead_one (subst IsFront taken_one is));
          least = no_earlier;
          first = λ k low. absurd (omega arith);
        }

    own_here : (k l : ExprKind) → token_fault names (token first more) (kinds (placed text)) ≡ Some k → HasFault names (length text) l ((length text, token first more) ∷ placed text) → k ≡ l
    own_here k l is (inl here) = let both : Some k ≡ Some l = sym is ∙ here.1 in cc
    own_here k l is (inr there) = absurd (omega (arith, fault_within names text (length text) l there))

    size : length (text ++ first ∷ more) ≡ length text + 1 + length more
    size = omega (arith, length-append text (first ∷ more))

    -- something is wrong with the token
    fault_here : (s : State) (k : ExprKind) → step (token first more) (state_of (kinds (placed text))) ≡ Some s → token_fault names (token first more) (kinds (placed text)) ≡ Some k
        → IsFirst names (text ++ (first ∷ more ++ rest)) (length text) k
    fault_here s k lives is =
        let n = length text in
        let here : HasFault names n k (placed (text ++ first ∷ more)) = subst (λ (ts : List (ℕ × Token)). HasFault names n k ts) (sym same) (inl (refl, is)) in
        let in_all : HasFault names n k (placed (text ++ (first ∷ more ++ rest))) = subst (λ (t : List ℕ). HasFault names n k (placed t)) split (fault_stays names (text ++ first ∷ more) rest later n k here) in
        let alive : IsFront (text ++ first ∷ more) = front (text ++ first ∷ more) s (ap (λ ts. state_of (kinds ts)) same ∙ lives) in
        let cut : take (length (text ++ first ∷ more)) (text ++ (first ∷ more ++ rest)) ≡ text ++ first ∷ more = ap (take (length (text ++ first ∷ more))) (sym split) ∙ take_front (text ++ first ∷ more) rest in
        let within : length (text ++ first ∷ more) ≤ length (text ++ (first ∷ more ++ rest)) = omega (arith, ap length split, length-append (text ++ first ∷ more) rest) in
        record {
          applies = own_applies names (text ++ (first ∷ more ++ rest)) n k (fault_own names (token first more) (kinds (placed text)) k is) in_all;
          least = no_earlier;
          first = λ l low other. elim (applies_cases names (text ++ (first ∷ more ++ rest)) n l other) [
            | inl unexpected ↦ expected_within (text ++ (first ∷ more ++ rest)) n (length (text ++ first ∷ more)) (omega (arith, size)) within (subst IsFront (sym cut) alive) unexpected
            | inr own ↦
                let back : HasFault names n l (placed (text ++ first ∷ more)) = fault_before names (text ++ first ∷ more) rest later n l (omega (arith, size)) (subst (λ (t : List ℕ). HasFault names n l (placed t)) (sym split) own) in
                let equal : k ≡ l = own_here k l is (subst (λ (ts : List (ℕ × Token)). HasFault names n l ts) same back) in
                let ranks : rank k ≡ rank l = ap rank equal in
                absurd (omega arith)
          ];
        }

    -- a token that is refused, for where it stands or for what it is
    pub refused_word : (k : ExprKind) → taken names parts (token first more) ≡ Err k → IsFirst names (text ++ (first ∷ more ++ rest)) (length text) k
    refused_word k is =
        elim (outcome_err (step (token first more) (state_of (kinds (placed text)))) (token_fault names (token first more) (kinds (placed text))) k (sym reads.2 ∙ is)) [
          | inl gone ↦ subst (λ (l : ExprKind). IsFirst names (text ++ (first ∷ more ++ rest)) (length text) l) (sym gone.1) (refused_here gone.0)
          | inr (s, lives, fault) ↦ fault_here s k lives fault
        ]

  -- the end of the text

  front_whole : (text : List ℕ) → IsFront text → IsFront (take (length text) text)
  front_whole text is = subst IsFront (sym (take_all (length text) text (omega arith))) is

  module _ (text : List ℕ) (parts : Parts) (h : Kept text [] parts) where
    ended : (s : State) × (state_of (kinds (placed text)) ≡ Some s) × (finished parts ≡ option_map (tree_of names) (finish (Some s)))
    ended = let s = reached (state_of (kinds (placed text))) parts h.fits in (s.0, s.1, ap finished s.2 ∙ finished_linked names s.0)

    mapped_none : (o : Option ExprText) → option_map (tree_of names) o ≡ None → o ≡ None
    mapped_none None is = refl
    mapped_none (Some e) is = cc

    mapped_some : (o : Option ExprText) (tree : Expr) → option_map (tree_of names) o ≡ Some tree → (e : ExprText) × (o ≡ Some e) × (tree ≡ tree_of names e)
    mapped_some None tree is = cc
    mapped_some (Some e) tree is = (e, refl, cc)

    -- there is no expression yet
    pub too_short : finished parts ≡ None → IsFirst names text (length text) Unexpected
    too_short is =
        let s = ended in
        let none : finish (Some s.0) ≡ None = mapped_none (finish (Some s.0)) (sym s.2 ∙ is) in
        let at_end : finish (state_of (kinds (placed text))) ≡ None = ap finish s.1 ∙ none in
        record {
          applies = inr (refl, λ (e, spells). let some : finish (state_of (kinds (placed text))) ≡ Some e = finished_as e text spells in cc);
          least = λ p k low fault. elim (applies_cases names text p k fault) [
            | inl unexpected ↦ expected_within text p (length text) low (omega arith) (front_whole text (kept_front text [] parts h)) unexpected
            | inr own ↦ h.sound p k own
          ];
          first = λ k low. absurd (omega arith);
        }

    pub whole_tree : (tree : Expr) → finished parts ≡ Some tree → IsTreeOf names text tree
    whole_tree tree is =
        let s = ended in
        let e = mapped_some (finish (Some s.0)) tree (sym s.2 ∙ is) in
        (e.0, expression_at text e.0 (ap finish s.1 ∙ e.1), e.2)

    pub whole_faultless : (tree : Expr) → finished parts ≡ Some tree → IsFaultless names text
    whole_faultless tree is place kind fault =
        let e = whole_tree tree is in
        elim (applies_cases names text place kind fault) [
          | inl (inl (inside, none)) ↦ none (front_of_take text (place + 1) (length text) (omega arith) (front_whole text (kept_front text [] parts h)))
          | inl (inr (at, none)) ↦ none (e.0, e.1)
          | inr own ↦ h.sound place kind own
        ]

-- the same at places of the text

stops_at : (first : ℕ) (xs : List ℕ) (n : ℕ) → (n < length xs → goes_on first (get_or xs n 0) ≡ false) → Stops first (drop n xs)
stops_at first xs n apart = elim (cases_lt n (length xs)) [
  | inl inside ↦ let cut : drop n xs ≡ get_or xs n 0 ∷ drop (suc n) xs = drop-cons xs n 0 inside in subst (Stops first) (sym cut) (apart inside)
  | inr past ↦ subst (Stops first) (sym (drop_of_length-le xs past)) tt
]

next_byte : (text : List ℕ) (at : ℕ) → at < length text → drop at text ≡ get_or text at 0 ∷ drop (at + 1) text
next_byte text at inside = drop-cons text at 0 inside ∙ ap (λ n. get_or text at 0 ∷ drop n text) (sym (add-one at))

-- a token begins at the place, and so many bytes go on with it
pub record Run (text : List ℕ) (at count : ℕ) : Type 0 where
  pub inside : at < length text
  pub dark : is_blank (get_or text at 0) ≡ false
  pub within : count ≤ length (drop (at + 1) text)
  pub joined : list_all (goes_on (get_or text at 0)) (take count (drop (at + 1) text)) ≡ true
  pub apart : count < length (drop (at + 1) text) → goes_on (get_or text at 0) (get_or (drop (at + 1) text) count 0) ≡ false

-- the same of the text's tail as a slice
pub run_at : (text tail : List ℕ) (at count : ℕ) → at < length text → is_blank (get_or text at 0) ≡ false → tail ≡ drop (at + 1) text → count ≤ length tail → list_all (goes_on (get_or text at 0)) (take count tail) ≡ true
    → (count < length tail → goes_on (get_or text at 0) (get_or tail count 0) ≡ false) → Run text at count
run_at text tail at count inside dark same within joined apart =
    let first = get_or text at 0 in
    let P : List ℕ → Type 0 = λ xs. (count ≤ length xs) × (list_all (goes_on first) (take count xs) ≡ true) × (count < length xs → goes_on first (get_or xs count 0) ≡ false) in
    let moved : P (drop (at + 1) text) = subst P same (within, joined, apart) in
    record { inside = inside; dark = dark; within = moved.0; joined = moved.1; apart = moved.2 }

module _ (text : List ℕ) (at count : ℕ) (r : Run text at count) where
  tail_split : drop (at + 1) text ≡ take count (drop (at + 1) text) ++ drop (at + 1 + count) text
  tail_split = sym (take-append-drop count (drop (at + 1) text)) ∙ ap (λ xs. take count (drop (at + 1) text) ++ xs) (drop-drop count (at + 1) text)

  here_split : drop at text ≡ get_or text at 0 ∷ take count (drop (at + 1) text) ++ drop (at + 1 + count) text
  here_split = next_byte text at r.inside ∙ ap (λ xs. get_or text at 0 ∷ xs) tail_split

  whole_split : take at text ++ (get_or text at 0 ∷ take count (drop (at + 1) text) ++ drop (at + 1 + count) text) ≡ text
  whole_split = ap (λ xs. take at text ++ xs) (sym here_split) ∙ take-append-drop at text

  length_before : length (take at text) ≡ at
  length_before = omega (arith, length-take at text, r.inside)

  length_word : length (get_or text at 0 ∷ take count (drop (at + 1) text)) ≡ 1 + count
  length_word = omega (arith, length-take count (drop (at + 1) text), r.within)

  end_within : at + 1 + count ≤ length text
  end_within = omega (arith, r.within, r.inside, length-drop (at + 1) text)

  longer_front : take (at + 1 + count) text ≡ take at text ++ get_or text at 0 ∷ take count (drop (at + 1) text)
  longer_front =
      let front : List ℕ = take at text ++ get_or text at 0 ∷ take count (drop (at + 1) text) in
      let size : length front ≡ at + 1 + count = omega (arith, length-append (take at text) (get_or text at 0 ∷ take count (drop (at + 1) text)), length_before, length_word) in
      let all : front ++ drop (at + 1 + count) text ≡ text = append_assoc (take at text) (get_or text at 0 ∷ take count (drop (at + 1) text)) (drop (at + 1 + count) text) ∙ whole_split in
      ap (λ n. take n text) (sym size) ∙ ap (take (length front)) (sym all) ∙ take_front front (drop (at + 1 + count) text)

  word_is : take (at + 1 + count - at) (drop at text) ≡ get_or text at 0 ∷ take count (drop (at + 1) text)
  word_is =
      let word : List ℕ = get_or text at 0 ∷ take count (drop (at + 1) text) in
      let size : length word ≡ at + 1 + count - at = omega (arith, length_word) in
      ap (λ n. take n (drop at text)) (sym size) ∙ ap (take (length word)) here_split ∙ take_front word (drop (at + 1 + count) text)

  stops_here : Stops (get_or text at 0) (drop (at + 1 + count) text)
  stops_here = subst (Stops (get_or text at 0)) (drop-drop count (at + 1) text) (stops_at (get_or text at 0) (drop (at + 1) text) count r.apart)

  module _ (names : Names) (parts : Parts) (h : Kept names (take at text) (drop at text) parts) where
    here : Kept names (take at text) (get_or text at 0 ∷ take count (drop (at + 1) text) ++ drop (at + 1 + count) text) parts
    here = subst (λ (rest : List ℕ). Kept names (take at text) rest parts) here_split h

    takes : (outcome : Outcome) → taken names parts (token_of (take (at + 1 + count - at) (drop at text))) ≡ outcome → taken names parts (token (get_or text at 0) (take count (drop (at + 1) text))) ≡ outcome
    takes outcome is = sym (ap (λ word. taken names parts (token_of word)) word_is) ∙ is

    pub word_kept : (after : Parts) → taken names parts (token_of (take (at + 1 + count - at) (drop at text))) ≡ Ok after → (at + 1 + count ≤ length text) × Kept names (take (at + 1 + count) text) (drop (at + 1 + count) text) after
    word_kept after is = (
      end_within,
      subst (λ (front : List ℕ). Kept names front (drop (at + 1 + count) text) after) (sym longer_front)
          (kept_word names (take at text) (get_or text at 0) (take count (drop (at + 1) text)) (drop (at + 1 + count) text) parts r.dark r.joined stops_here here after (takes (Ok after) is)),
    )

    pub word_refused : (k : ExprKind) → taken names parts (token_of (take (at + 1 + count - at) (drop at text))) ≡ Err k → IsFirst names text at k
    word_refused k is =
        let told : IsFirst names (take at text ++ (get_or text at 0 ∷ take count (drop (at + 1) text) ++ drop (at + 1 + count) text)) (length (take at text)) k =
        refused_word names (take at text) (get_or text at 0) (take count (drop (at + 1) text)) (drop (at + 1 + count) text) parts r.dark r.joined stops_here here k (takes (Err k) is) in
        subst (λ (place : ℕ). IsFirst names text place k) length_before (subst (λ (t : List ℕ). IsFirst names t (length (take at text)) k) whole_split told)

pub blank_kept : (names : Names) (text : List ℕ) (at : ℕ) (parts : Parts) → at < length text → is_blank (get_or text at 0) ≡ true → Kept names (take at text) (drop at text) parts → (at + 1 ≤ length text) × Kept names (take (at + 1) text) (drop (at + 1) text) parts
blank_kept names text at parts inside blank h =
    let front : take (at + 1) text ≡ take at text ++ get_or text at 0 ∷ [] = ap (λ n. take n text) (add-one at) ∙ take-suc text at 0 inside in
    let here : Kept names (take at text) (get_or text at 0 ∷ drop (at + 1) text) parts = subst (λ (rest : List ℕ). Kept names (take at text) rest parts) (next_byte text at inside) h in
    (omega arith, subst (λ (t : List ℕ). Kept names t (drop (at + 1) text) parts) (sym front) (kept_blank names (take at text) (get_or text at 0) (drop (at + 1) text) parts blank here))

pub kept_end : (names : Names) (text : List ℕ) (at : ℕ) (parts : Parts) → length text ≤ at → Kept names (take at text) (drop at text) parts → Kept names text [] parts
kept_end names text at parts past h =
    let all : Kept names text (drop at text) parts = subst (λ (t : List ℕ). Kept names t (drop at text) parts) (take_all at text past) h in
    subst (λ (rest : List ℕ). Kept names text rest parts) (drop_of_length-le text past) all

-- what an answer of the builder says

pub answer_err : (outcome : Outcome) (after : Parts) (k : ExprKind) → IsAnswer outcome after (Err k) → k ≢ NoMemory → outcome ≡ Err k
answer_err outcome after Unexpected h other = h
answer_err outcome after WideNumber h other = h
answer_err outcome after UnknownName h other = h
answer_err outcome after TooDeep h other = h
answer_err outcome after NoMemory h other = absurd (other refl)

pub tree_err : (tree : Option Expr) (k : ExprKind) → IsTree tree (Err k) → k ≢ NoMemory → (tree ≡ None) × (k ≡ Unexpected)
tree_err tree Unexpected h other = (h, refl)
tree_err tree WideNumber h other = absurd h
tree_err tree UnknownName h other = absurd h
tree_err tree TooDeep h other = absurd h
tree_err tree NoMemory h other = absurd (other refl)

first_by : (names : Names) (text : List ℕ) (at : ℕ) (k : ExprKind) → (k ≢ NoMemory → IsFirst names text at k) → (error_at at k).kind ≢ NoMemory → IsFirst names text (error_at at k).place (error_at at k).kind
first_by names text at Unexpected h other = h other
first_by names text at WideNumber h other = h other
first_by names text at UnknownName h other = h other
first_by names text at TooDeep h other = h other
first_by names text at NoMemory h other = absurd (other refl)

pub first_told : (names : Names) (text : List ℕ) (at : ℕ) (k : ExprKind) (error : ExprError) → error ≡ error_at at k → (k ≢ NoMemory → IsFirst names text at k) → error.kind ≢ NoMemory → IsFirst names text error.place error.kind
first_told names text at k error is h = subst (λ (e : ExprError). e.kind ≢ NoMemory → IsFirst names text e.place e.kind) (sym is) (first_by names text at k h)

only_memory : (k : ExprKind) → (k ≢ NoMemory → ⊥) → k ≡ NoMemory
only_memory Unexpected h = absurd (h (λ e. cc))
only_memory WideNumber h = absurd (h (λ e. cc))
only_memory UnknownName h = absurd (h (λ e. cc))
only_memory TooDeep h = absurd (h (λ e. cc))
only_memory NoMemory h = refl

pub memory_told : (names : Names) (text : List ℕ) (error : ExprError) → (error.kind ≢ NoMemory → IsFirst names text error.place error.kind) → IsFaultless names text → error.kind ≡ NoMemory
memory_told names text error h faultless = only_memory error.kind (λ other. faultless error.place error.kind (h other).applies)

pub end_told : (names : Names) (text : List ℕ) (at : ℕ) (parts : Parts) (k : ExprKind) → at ≤ length text → length text ≤ at → Kept names (take at text) (drop at text) parts → IsTree (finished parts) (Err k) → k ≢ NoMemory → IsFirst names text at k
end_told names text at parts k within past h answer other =
    let none = tree_err (finished parts) k answer other in
    let same : length text ≡ at = omega arith in
    subst (λ (l : ExprKind). IsFirst names text at l) (sym none.1) (subst (λ (place : ℕ). IsFirst names text place Unexpected) same (too_short names text parts (kept_end names text at parts past h) none.0))

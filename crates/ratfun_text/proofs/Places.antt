-- Where the tokens of a text stand, and what its front says of the whole.
use Rattle.std.proofs.Common.{◌≡◌, ◌≤◌, ◌<◌, ℕ, ◌+◌, Bool, true, false, cond, ◌&&◌, List, [], ◌∷◌, ◌++◌, length, sym, ap, subst, ◌∙◌, inl, inr, append_assoc, append-nil, add-zero, arith}
use Rattle.std.specs.List.{list_all}
use Rattle.std.proofs.lemmas.Bool.{cases_Bool}
use Rattle.ratfun_text.specs.declared.names.Names.{Names}
use Rattle.ratfun_text.specs.declared.parse.ExprKind.{ExprKind}
use Rattle.ratfun_text.specs.Bytes.{is_blank}
use Rattle.ratfun_text.specs.Tokens.{Token, token, goes_on, Seen, tokens_of, joins, longer, begun, read_byte, read_from, seen_in, placed}
use Rattle.ratfun_text.specs.Tokens.Seen.{Ended, Within}
use Rattle.ratfun_text.specs.Faults.{HasFault}
use Rattle.ratfun_text.proofs.Fronts.{seen_append}

-- the bytes of a token, one after the other

same_run : (place at first : ℕ) (before : List (ℕ × Token)) (rest more : List ℕ) → list_all (goes_on first) more ≡ true → read_from place (Within before at first rest) more ≡ Within before at first (rest ++ more)
same_run place at first before rest [] h = ap (λ bytes. Within before at first bytes) (sym (append-nil rest))
same_run place at first before rest (b ∷ more) h = elim (cases_Bool (goes_on first b)) [
  | inl goes ↦
      let others : list_all (goes_on first) more ≡ true = sym (ap (λ j. j && list_all (goes_on first) more) goes) ∙ h in
      ap (λ j. read_from (place + 1) (cond j (Within before at first (rest ++ b ∷ [])) (begun place ((at, token first rest) ∷ before) b)) more) goes
      ∙ same_run (place + 1) at first before (rest ++ b ∷ []) more others ∙ ap (λ bytes. Within before at first bytes) (append_assoc rest (b ∷ []) more)
  | inr stops ↦ let never : false ≡ true = sym (ap (λ j. j && list_all (goes_on first) more) stops) ∙ h in cc
]

-- a byte that does not go on with what stands before it
begins : (place : ℕ) (seen : Seen) (b : ℕ) → joins seen b ≡ false → read_byte place seen b ≡ begun place (tokens_of seen) b
begins place seen b apart = ap (λ j. cond j (longer seen b) (begun place (tokens_of seen) b)) apart

pub seen_word : (text : List ℕ) (first : ℕ) (rest : List ℕ) → joins (seen_in text) first ≡ false → is_blank first ≡ false → list_all (goes_on first) rest ≡ true
    → seen_in (text ++ first ∷ rest) ≡ Within (placed text) (length text) first rest
seen_word text first rest apart dark run =
    let begun_here : read_byte (length text) (seen_in text) first ≡ Within (placed text) (length text) first [] =
    begins (length text) (seen_in text) first apart ∙ ap (λ b. cond b (Ended (placed text)) (Within (placed text) (length text) first [])) dark in
    seen_append text (first ∷ rest) ∙ ap (λ seen. read_from (length text + 1) seen rest) begun_here ∙ same_run (length text + 1) (length text) first (placed text) [] rest run

pub seen_blank : (text : List ℕ) (b : ℕ) → joins (seen_in text) b ≡ false → is_blank b ≡ true → seen_in (text ++ b ∷ []) ≡ Ended (placed text)
seen_blank text b apart blank =
    seen_append text (b ∷ []) ∙ begins (length text) (seen_in text) b apart ∙ ap (λ k. cond k (Ended (placed text)) (Within (placed text) (length text) b [])) blank

-- the rest does not go on with the last token of the text
abbrev pub IsApart : List ℕ → List ℕ → Type 0
IsApart text [] = Unit {0}
IsApart text (b ∷ rest) = joins (seen_in text) b ≡ false

module _ (names : Names) where
  -- the faults at places below m are those before, and those before are still there
  record Grew (m : ℕ) (base tokens : List (ℕ × Token)) : Type 0 where
    down : (p : ℕ) (k : ExprKind) → p < m → HasFault names p k tokens → HasFault names p k base
    up : (p : ℕ) (k : ExprKind) → HasFault names p k base → HasFault names p k tokens

  abbrev Late : ℕ → List (ℕ × Token) → Seen → Type 0
  Late m base (Ended tokens) = Grew m base tokens
  Late m base (Within before place first rest) = Grew m base before × (m ≤ place)

  late_tokens : (m : ℕ) (base : List (ℕ × Token)) (seen : Seen) → Late m base seen → Grew m base (tokens_of seen)
  late_tokens m base (Ended tokens) h = h
  late_tokens m base (Within before place first rest) h = record {
    down = λ p k low fault. elim fault [ inl here ↦ let at : place ≡ p = here.0 in absurd (omega (arith, h.1)) | inr there ↦ h.0.down p k low there ];
    up = λ p k fault. inr (h.0.up p k fault);
  }

  late_longer : (m : ℕ) (base : List (ℕ × Token)) (seen : Seen) (b : ℕ) → Late m base seen → Late m base (longer seen b)
  late_longer m base (Ended tokens) b h = h
  late_longer m base (Within before place first rest) b h = h

  late_begun : (m place : ℕ) (base tokens : List (ℕ × Token)) (b : ℕ) (blank : Bool) → m ≤ place → Grew m base tokens → Late m base (cond blank (Ended tokens) (Within tokens place b []))
  late_begun m place base tokens b true late h = h
  late_begun m place base tokens b false late h = (h, late)

  late_either : (m : ℕ) (base : List (ℕ × Token)) (joined : Bool) (a b : Seen) → Late m base a → Late m base b → Late m base (cond joined a b)
  late_either m base true a b h k = h
  late_either m base false a b h k = k

  late_from : (m place : ℕ) (base : List (ℕ × Token)) (seen : Seen) (rest : List ℕ) → m ≤ place → Late m base seen → Late m base (read_from place seen rest)
  late_from m place base seen [] late h = h
  late_from m place base seen (b ∷ rest) late h =
      late_from m (place + 1) base (read_byte place seen b) rest (omega arith)
      (late_either m base (joins seen b) (longer seen b) (begun place (tokens_of seen) b) (late_longer m base seen b h) (late_begun m place base (tokens_of seen) b (is_blank b) late (late_tokens m base seen h)))

  grew_at : (text rest : List ℕ) → IsApart text rest → Grew (length text) (placed text) (placed (text ++ rest))
  grew_at text [] apart =
      let same : placed (text ++ []) ≡ placed text = ap placed (append-nil text) in
      record { down = λ p k low h. subst (λ (ts : List (ℕ × Token)). HasFault names p k ts) same h; up = λ p k h. subst (λ (ts : List (ℕ × Token)). HasFault names p k ts) (sym same) h }
  grew_at text (b ∷ rest) apart =
      let n = length text in
      let nothing : Grew n (placed text) (placed text) = record { down = λ p k low h. h; up = λ p k h. h } in
      let begun_here : Late n (placed text) (begun n (placed text) b) = late_begun n n (placed text) (placed text) b (is_blank b) (omega arith) nothing in
      let read : seen_in (text ++ b ∷ rest) ≡ read_from (n + 1) (begun n (placed text) b) rest = seen_append text (b ∷ rest) ∙ ap (λ seen. read_from (n + 1) seen rest) (begins n (seen_in text) b apart) in
      let late : Late n (placed text) (read_from (n + 1) (begun n (placed text) b) rest) = late_from n (n + 1) (placed text) (begun n (placed text) b) rest (omega arith) begun_here in
      late_tokens n (placed text) (seen_in (text ++ b ∷ rest)) (subst (λ (seen : Seen). Late n (placed text) seen) (sym read) late)

  -- a fault at an earlier place of the whole text is one of its front
  pub fault_before : (text rest : List ℕ) → IsApart text rest → (p : ℕ) (k : ExprKind) → p < length text → HasFault names p k (placed (text ++ rest)) → HasFault names p k (placed text)
  fault_before text rest apart p k low h = (grew_at text rest apart).down p k low h

  -- a fault of a front is one of the whole text
  pub fault_stays : (text rest : List ℕ) → IsApart text rest → (p : ℕ) (k : ExprKind) → HasFault names p k (placed text) → HasFault names p k (placed (text ++ rest))
  fault_stays text rest apart p k h = (grew_at text rest apart).up p k h

  -- faults stand inside of the text

  abbrev Below : ℕ → List (ℕ × Token) → Type 0
  Below n tokens = (p : ℕ) (k : ExprKind) → HasFault names p k tokens → p < n

  abbrev Low : ℕ → Seen → Type 0
  Low n (Ended tokens) = Below n tokens
  Low n (Within before place first rest) = Below n before × (place < n)

  low_tokens : (n : ℕ) (seen : Seen) → Low n seen → Below n (tokens_of seen)
  low_tokens n (Ended tokens) h = h
  low_tokens n (Within before place first rest) h = λ p k fault. elim fault [ inl here ↦ let at : place ≡ p = here.0 in omega (arith, h.1) | inr there ↦ h.0 p k there ]

  raised : (n : ℕ) (tokens : List (ℕ × Token)) → Below n tokens → Below (n + 1) tokens
  raised n tokens h = λ p k fault. omega (arith, h p k fault)

  low_longer : (n : ℕ) (seen : Seen) (b : ℕ) → Low n seen → Low (n + 1) (longer seen b)
  low_longer n (Ended tokens) b h = raised n tokens h
  low_longer n (Within before place first rest) b h = (raised n before h.0, omega (arith, h.1))

  low_begun : (n : ℕ) (tokens : List (ℕ × Token)) (b : ℕ) (blank : Bool) → Below n tokens → Low (n + 1) (cond blank (Ended tokens) (Within tokens n b []))
  low_begun n tokens b true h = raised n tokens h
  low_begun n tokens b false h = (raised n tokens h, omega arith)

  low_either : (n : ℕ) (joined : Bool) (a b : Seen) → Low n a → Low n b → Low n (cond joined a b)
  low_either n true a b h k = h
  low_either n false a b h k = k

  low_from : (place : ℕ) (seen : Seen) (rest : List ℕ) → Low place seen → Low (place + length rest) (read_from place seen rest)
  low_from place seen [] h = subst (λ (n : ℕ). Low n seen) (sym (add-zero place)) h
  low_from place seen (b ∷ rest) h =
      let at : place + 1 + length rest ≡ place + length (b ∷ rest) = omega arith in
      let read : Low (place + 1) (read_byte place seen b) = low_either (place + 1) (joins seen b) (longer seen b) (begun place (tokens_of seen) b) (low_longer place seen b h) (low_begun place (tokens_of seen) b (is_blank b) (low_tokens place seen h)) in
      subst (λ (n : ℕ). Low n (read_from (place + 1) (read_byte place seen b) rest)) at (low_from (place + 1) (read_byte place seen b) rest read)

  pub fault_within : (text : List ℕ) (p : ℕ) (k : ExprKind) → HasFault names p k (placed text) → p < length text
  fault_within text p k h = let low : Low (0 + length text) (seen_in text) = low_from 0 (Ended []) text (λ q l fault. absurd fault) in omega (arith, low_tokens (0 + length text) (seen_in text) low p k h)

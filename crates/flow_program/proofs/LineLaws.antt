-- `clap` takes the words that the grammar admits, and what it finds in them is what they ask for.
use Rattle.std.proofs.Common.{◌≡◌, ℕ, zero, suc, ◌+◌, ◌<◌, ◌≤◌, Bool, true, false, List, [], ◌∷◌, ◌++◌, drop, length, Option, Some, None, Result, Ok, Err, refl, sym, ◌∙◌, ap, ap₂, subst, arith, inl, inr, cond, append-nil, min}
use Rattle.std.specs.Prelude.{codes, pos, bytes_eq, find, fold, not, nat_eq, nat_lt, ◌&&◌, ◌||◌, option_map, slice_get, is_none, is_some, IsSome, ◌^◌}
use Rattle.std.specs.Option.{option_and_then, option_map_or, option_or}
use Rattle.std.specs.List.{list_all}
use Rattle.std.specs.Char.{digit_value, is_ascii_digit}
use Rattle.std.specs.Str.Parse.{AllDigits, IsNumeral, ParsesUnsigned, digits_value, without_leading_plus}
use Rattle.std.proofs.lemmas.Bool.{cases_Bool, le-leb, lt-ltb, ltb-true}
use Rattle.std.proofs.lemmas.Bool.Decides.{nat_tests}
use Rattle.std.proofs.lemmas.List.Folds.{find-append}
use Rattle.std.proofs.lemmas.Slice.Eq.{bytes_eq-Decides}
use Rattle.ratfun_text.specs.Bytes.{number_below, number_of as number_in}
use Rattle.clap.specs.Words.{App, ReadsOne, Row, Rule, Shape, Text, first_of, is_simple, matches_of, one_of, takes, without_minus}
use Rattle.std.specs.Borrow.{Bor}
use Rattle.clap.specs.Lexer.{long_of, short_of}
use Rattle.clap.specs.Facts.{explicit_source}
use Rattle.clap.specs.Simple.{built, entered, filled, with_index}
use Rattle.clap.specs.Walk.{Held, Waiting, Walk, at_row, default_rows, finished, has_row, idle, more_values, nothing_held, option, pushed, reading_by, row_text, settled, settled_rows, used, walk, walk_from, walked, with_default, with_values, without}
use Rattle.clap.specs.Takes.{default_passes, entered_passes, is_given, level_passes, settle_passes, turn_passes, use_passes, walk_passes, is_valid}
use Rattle.clap.specs.ValueTests.{accepts}
use Rattle.clap.specs.declared.builder.value_parser.Reading.{Reading}
use Rattle.clap.specs.declared.builder.value_parser.Reading.TheVariants as reading
use Rattle.clap.specs.declared.builder.value_parser.ValueParser.TheVariants as parser
use Rattle.clap.specs.declared.parser.matches.ValueSource.{ValueSource}
use Rattle.clap.specs.declared.parser.matches.ValueSource.TheVariants.{CommandLine, DefaultValue}
use Rattle.clap.proofs.OnLiterals.{clap_on_literals}
use Rattle.flow_program.specs.declared.verb.Verb.{Verb}
use Rattle.flow_program.specs.declared.verb.Verb.TheVariants as verb
use Rattle.flow_program.specs.Words.{Request, Learn, Sample, Reconstruct, Demo, count_of, is_file, is_flag, is_workers, of_file, wish_of}
use Rattle.flow_program.specs.Parsed.{Awaited, IsAdmitted, Parsed, Said, Unsaid, Workers, Asks, BadAt, Given, alone, asks_at, ended, ended_with, fits, nothing_given, parsed_from, parsed_learn, with_number, with_other, with_word, workers_given}
use Rattle.flow_program.specs.Lines.{count_at, file_wish_in, flag_at, flag_rule, learn_app, learn_in, line_app, truth_of, wish_in, workers_rule}
use Rattle.flow_program.proofs.WordsLaws.{both_true, chosen, count_is, counted_digits, either, given, number_given}

-- a command's line as it is built
abbrev shape : Verb → Shape
shape verb = (built (line_app verb)).top

abbrev rules : Verb → List Rule
rules verb = (shape verb).rules

-- ---- rows

-- the row of an id
abbrev look : Text → List Row → Option Row
look id rows = find (λ row. bytes_eq row.id id) rows

-- the row of an argument
abbrev row_of : Text → Reading → ValueSource → Text → Row
row_of id how source value = record { id = id; values = value ∷ []; count = None; source = Some source; reading = how }

missed : {A : Type 0} (b : Bool) (x : A) (o : Option A) → cond b (Some x) o ≡ None → (b ≡ false) × (o ≡ None)
missed true x o e = cc
missed false x o e = (refl, e)

or_none : {A : Type 0} (o : Option A) → option_or o None ≡ o
or_none None = refl
or_none (Some x) = refl

-- an id that has no row gets one at the end
absent_row : (id : Text) (change : Row → List Row) (missing rows : List Row) → look id rows ≡ None → at_row id change missing rows ≡ rows ++ missing
absent_row id change missing [] e = refl
absent_row id change missing (row ∷ rows) e =
    let parts = missed (bytes_eq row.id id) row (look id rows) e in
    ap (λ b. cond b (change row ++ rows) (row ∷ at_row id change missing rows)) parts.0 ∙ ap (λ more. row ∷ more) (absent_row id change missing rows parts.1)

used_once : (id : Text) (how : Reading) (value : Text) (rows : List Row) → look id rows ≡ None → with_values id how CommandLine (value ∷ []) (without id rows) ≡ rows ++ row_of id how CommandLine value ∷ []
used_once id how value rows e =
    ap (with_values id how CommandLine (value ∷ [])) (absent_row id (λ _. []) [] rows e ∙ append-nil rows)
    ∙ absent_row id (more_values CommandLine (value ∷ [])) (row_of id how CommandLine value ∷ []) rows e

looked_at : (id : Text) (rows : List Row) (row : Row) → look id rows ≡ None → bytes_eq row.id id ≡ true → look id (rows ++ row ∷ []) ≡ Some row
looked_at id rows row none same = find-append (λ r. bytes_eq r.id id) rows (row ∷ []) ∙ ap (λ o. option_or o (look id (row ∷ []))) none ∙ ap (λ b. cond b (Some row) None) same

looked_past : (id : Text) (rows : List Row) (row : Row) → bytes_eq row.id id ≡ false → look id (rows ++ row ∷ []) ≡ look id rows
looked_past id rows row other = find-append (λ r. bytes_eq r.id id) rows (row ∷ []) ∙ ap (λ b. option_or (look id rows) (cond b (Some row) None)) other ∙ or_none (look id rows)

no_row : (id : Text) (rows : List Row) → look id rows ≡ None → has_row id rows ≡ false
no_row id [] e = refl
no_row id (row ∷ rows) e = let parts = missed (bytes_eq row.id id) row (look id rows) e in ap (λ b. b || has_row id rows) parts.0 ∙ no_row id rows parts.1

some_row : (id : Text) (rows : List Row) (row : Row) → look id rows ≡ Some row → has_row id rows ≡ true
some_row id [] row e = cc
some_row id (first ∷ rows) row e =
    elim (either (bytes_eq first.id id) (Some first) (look id rows) (Some row) e) [
      | inl here ↦ ap (λ b. b || has_row id rows) here.0
      | inr later ↦ ap (λ b. b || has_row id rows) later.0 ∙ some_row id rows row later.1
    ]

-- defaults change no row that is there, and none of another id
default_kept : (argument : Rule) (rows : List Row) (row : Row) → look argument.id rows ≡ Some row → with_default rows argument ≡ rows
default_kept argument rows row e = ap (λ b. cond b rows (default_rows argument.id (reading_by argument) argument.defaults rows)) (some_row argument.id rows row e)

abbrev default_row : Rule → List Text → Row
default_row argument values = record { id = argument.id; values = values; count = None; source = Some DefaultValue; reading = reading_by argument }

default_added : (argument : Rule) (value : Text) (values : List Text) (rows : List Row) → argument.defaults ≡ value ∷ values → look argument.id rows ≡ None → with_default rows argument ≡ rows ++ default_row argument (value ∷ values) ∷ []
default_added argument value values rows given e =
    ap (λ b. cond b rows (default_rows argument.id (reading_by argument) argument.defaults rows)) (no_row argument.id rows e)
    ∙ ap (λ all. default_rows argument.id (reading_by argument) all rows) given
    ∙ absent_row argument.id (more_values DefaultValue (value ∷ values)) (default_row argument (value ∷ values) ∷ []) rows e

-- ---- words that are no options

record IsPlain (word : Text) : Type 0 where
  no_end : bytes_eq word (45 ∷ 45 ∷ []) ≡ false
  no_long : long_of word ≡ None
  no_short : short_of word ≡ None

no_dash : (first : ℕ) (rest : List ℕ) → nat_eq first 45 ≡ false → IsPlain (first ∷ rest)
no_dash first rest e = record { no_end = rw e refl; no_long = rw e refl; no_short = rw e refl }

not_not : (b : Bool) → not b ≡ true → b ≡ false
not_not true e = cc
not_not false e = refl

file_plain : (word : Text) → is_file word ≡ true → IsPlain word
file_plain [] e = cc
file_plain (first ∷ rest) e =
    elim (cases_Bool (nat_eq first 45)) [
      | inl dash ↦
          let same : bytes_eq (first ∷ rest) (codes "-") ≡ true = or_right (bytes_eq (first ∷ rest) (codes "-")) (nat_eq first 45) dash e in
          subst IsPlain (sym ((bytes_eq-Decides (first ∷ rest) (codes "-")).0 same)) (record { no_end = refl; no_long = refl; no_short = refl })
      | inr other ↦ no_dash first rest other
    ]
  where
    or_right : (a b : Bool) → b ≡ true → (a || not b) ≡ true → a ≡ true
    or_right true b e h = refl
    or_right false b e h = let clash : not b ≡ false = ap not e in cc

-- a count is written in digits
pub record IsCounted (word : Text) (n : ℕ) : Type 0 where
  pub first : ℕ
  pub rest : List ℕ
  pub is : word ≡ first ∷ rest
  pub digits : list_all is_ascii_digit (first ∷ rest) ≡ true
  pub value : digits_value 10 (first ∷ rest) ≡ n
  pub least : 1 ≤ n
  pub most : n ≤ 16
  pub counts : count_of word ≡ Some n

count_digits : (word : Text) (n : ℕ) → count_of word ≡ Some n → IsCounted word n
count_digits [] n e = cc
count_digits (first ∷ rest) n e =
    let plain = elim (either (nat_eq first 48) None (number_below 17 (first ∷ rest)) (Some n) e) as (λ _. number_below 17 (first ∷ rest) ≡ Some n) [
      | inl none ↦ let clash : None ≡ Some n = none.1 in cc
      | inr other ↦ other.1
    ] in
    let digits = counted_digits first rest n plain in
    let bounds = count_is (first ∷ rest) n e in
    record { first = first; rest = rest; is = refl; digits = digits.0; value = digits.1; least = bounds.0; most = bounds.1; counts = e }

digit_first : (byte : ℕ) → is_ascii_digit byte ≡ true → (nat_eq byte 45 ≡ false) × (nat_eq byte 43 ≡ false)
digit_first byte e = (grind (arith, nat_tests), grind (arith, nat_tests))

digit_low : (byte : ℕ) → is_ascii_digit byte ≡ true → nat_lt (digit_value byte) 10 ≡ true
digit_low byte e = grind (arith, nat_tests)

digits_low : (bytes : List ℕ) → list_all is_ascii_digit bytes ≡ true → list_all (λ byte. nat_lt (digit_value byte) 10) bytes ≡ true
digits_low [] e = refl
digits_low (byte ∷ rest) e =
    let parts = both_true (is_ascii_digit byte) (list_all is_ascii_digit rest) e in
    rw (digit_low byte parts.0) (digits_low rest parts.1)

counted_plain : (word : Text) (n : ℕ) → IsCounted word n → IsPlain word
counted_plain word n counted =
    let parts = both_true (is_ascii_digit counted.first) (list_all is_ascii_digit counted.rest) counted.digits in
    subst IsPlain (sym counted.is) (no_dash counted.first counted.rest (digit_first counted.first parts.0).0)

digits_accepted : (first : ℕ) (rest : List ℕ) (n : ℕ) → list_all is_ascii_digit (first ∷ rest) ≡ true → digits_value 10 (first ∷ rest) ≡ n → 1 ≤ n → n ≤ 16 → accepts false (parser.Signed (pos 1) (pos 16)) (first ∷ rest) ≡ true
digits_accepted first rest n digits value least most =
    let parts = both_true (is_ascii_digit first) (list_all is_ascii_digit rest) digits in
    let no_sign = digit_first first parts.0 in
    let low = digits_low (first ∷ rest) digits in
    let some : nat_lt 0 (length (first ∷ rest)) ≡ true = lt-ltb 0 (length (first ∷ rest)) (omega arith) in
    rw (no_sign.0, no_sign.1) (rw (some, value, low, lt-ltb n (2 ^ 63) (omega arith), le-leb 1 n least, le-leb n 16 most) refl)

counted_accepted : (word : Text) (n : ℕ) → IsCounted word n → accepts false (parser.Signed (pos 1) (pos 16)) word ≡ true
counted_accepted word n counted = subst (λ w. accepts false (parser.Signed (pos 1) (pos 16)) w ≡ true) (sym counted.is) (digits_accepted counted.first counted.rest n counted.digits counted.value counted.least counted.most)

counted_same : (word : Text) (n : ℕ) → IsCounted word n → without_minus word ≡ word
counted_same word n counted =
    let parts = both_true (is_ascii_digit counted.first) (list_all is_ascii_digit counted.rest) counted.digits in
    subst (λ w. without_minus w ≡ w) (sym counted.is) (rw (digit_first counted.first parts.0).0 refl)

-- ---- the walk

abbrev held : List Row → Option (Text × List Text) → Held
held rows pending = record { rows = rows; pending = pending; skip = 0 }

-- between two words
abbrev at : List Row → Option (Text × List Text) → Waiting → ℕ → Walk
at rows pending waiting position = record { held = held rows pending; waiting = waiting; position = position; is_trailing = false; stopped = None }

abbrev settles : Verb → List Row → Option (Text × List Text) → Bool
settles verb rows pending = settle_passes (rules verb) false (held rows pending)

abbrev awaited : Option (Text × List Text)
awaited = Some (codes "workers", [])

-- one more word passes, and the walk then stands here
record Goes (verb : Verb) (walk : Walk) (word : Text) (passes : Bool) (next : Walk) : Type 0 where
  passed : turn_passes (shape verb) [] walk word ≡ passes
  moved : walked (rules verb) [] walk word ≡ next

-- the names of a command's option of one word, and of its word that is no option
abbrev flag_id : Verb → Text
flag_id verb.Sample = codes "second"
flag_id verb.Reconstruct = codes "report"
flag_id verb.Demo = codes "none"

abbrev word_id : Verb → Text
word_id verb.Sample = codes "file"
word_id verb.Reconstruct = codes "file"
word_id verb.Demo = codes "size"

abbrev word_reading : Verb → Reading
word_reading verb.Demo = reading.WithoutMinus
word_reading _ = reading.AsWritten

abbrev workers_row : Text → Row
workers_row value = row_of (codes "workers") reading.WithoutMinus CommandLine value

abbrev flag_row : Verb → Row
flag_row verb = row_of (flag_id verb) reading.AsWritten CommandLine (codes "true")

abbrev word_row : Verb → Text → Row
word_row verb word = row_of (word_id verb) (word_reading verb) CommandLine word

and_true : (b : Bool) → (b && true) ≡ b
and_true true = refl
and_true false = refl

and_false : (b : Bool) → (b && false) ≡ false
and_false true = refl
and_false false = refl

-- `--workers`, and the number behind it
option_goes : (verb : Verb) (rows : List Row) (pending : Option (Text × List Text)) (position : ℕ) → Goes verb (at rows pending idle position) (codes "--workers") (settles verb rows pending && true) (at (settled_rows (rules verb) pending rows) awaited (option (codes "workers")) position)
unfolding clap_on_literals
option_goes verb.Sample rows pending position = record { passed = refl; moved = refl }
option_goes verb.Reconstruct rows pending position = record { passed = refl; moved = refl }
option_goes verb.Demo rows pending position = record { passed = refl; moved = refl }

number_goes : (verb : Verb) (rows : List Row) (position : ℕ) (word : Text) → IsPlain word → Goes verb (at rows awaited (option (codes "workers")) position) word true (at rows (Some (codes "workers", word ∷ [])) idle position)
unfolding clap_on_literals
number_goes verb.Sample rows position word plain = record { passed = rw (plain.no_end, plain.no_long, plain.no_short) refl; moved = rw (plain.no_end, plain.no_long, plain.no_short) refl }
number_goes verb.Reconstruct rows position word plain = record { passed = rw (plain.no_end, plain.no_long, plain.no_short) refl; moved = rw (plain.no_end, plain.no_long, plain.no_short) refl }
number_goes verb.Demo rows position word plain = record { passed = rw (plain.no_end, plain.no_long, plain.no_short) refl; moved = rw (plain.no_end, plain.no_long, plain.no_short) refl }

-- the command's option of one word
flag_goes : (verb : Verb) (word : Text) (rows : List Row) (pending : Option (Text × List Text)) (position : ℕ) (known : List Row) → is_flag verb word ≡ true → settles verb rows pending ≡ true → settled_rows (rules verb) pending rows ≡ known → look (flag_id verb) known ≡ None
    → Goes verb (at rows pending idle position) word true (at (known ++ flag_row verb ∷ []) None idle position)
unfolding clap_on_literals
flag_goes verb.Sample word rows pending position known is settled same none =
    subst (λ w. Goes verb.Sample (at rows pending idle position) w true (at (known ++ flag_row verb.Sample ∷ []) None idle position)) (sym ((bytes_eq-Decides word (codes "--second")).0 is)) (record {
      passed = ap₂ (λ s r. (s && ((not (has_row (codes "second") r) || false) && true)) && true) settled same ∙ ap (λ b. ((not b || false) && true) && true) (no_row (codes "second") known none);
      moved = ap (λ r. at (with_values (codes "second") reading.AsWritten CommandLine (codes "true" ∷ []) (without (codes "second") r)) None idle position) same ∙ ap (λ r. at r None idle position) (used_once (codes "second") reading.AsWritten (codes "true") known none);
    })
flag_goes verb.Reconstruct word rows pending position known is settled same none =
    subst (λ w. Goes verb.Reconstruct (at rows pending idle position) w true (at (known ++ flag_row verb.Reconstruct ∷ []) None idle position)) (sym ((bytes_eq-Decides word (codes "--report")).0 is)) (record {
      passed = ap₂ (λ s r. (s && ((not (has_row (codes "report") r) || false) && true)) && true) settled same ∙ ap (λ b. ((not b || false) && true) && true) (no_row (codes "report") known none);
      moved = ap (λ r. at (with_values (codes "report") reading.AsWritten CommandLine (codes "true" ∷ []) (without (codes "report") r)) None idle position) same ∙ ap (λ r. at r None idle position) (used_once (codes "report") reading.AsWritten (codes "true") known none);
    })
flag_goes verb.Demo word rows pending position known is settled same none = cc

or_true : (b : Bool) → (b || true) ≡ true
or_true true = refl
or_true false = refl

-- the word that is no option
abbrev waits_for : Text → Option (Text × List Text) → Bool
waits_for id pending = option_map_or (λ p. bytes_eq p.0 id) pending false

abbrev with_word_held : Verb → Text → List Row → Option (Text × List Text) → Bool → Walk
with_word_held verb word rows pending b = record {
  held = pushed (word_id verb) word (cond b (held rows pending) (settled (rules verb) (held rows pending)));
  waiting = idle;
  position = 2;
  is_trailing = false;
  stopped = None;
}

word_goes : (verb : Verb) (word : Text) (rows : List Row) (pending : Option (Text × List Text)) (known : List Row) → IsPlain word → settles verb rows pending ≡ true → settled_rows (rules verb) pending rows ≡ known
    → Goes verb (at rows pending idle 1) word true (at known (Some (word_id verb, word ∷ [])) idle 2)
unfolding clap_on_literals
word_goes verb.Sample word rows pending known plain settled same = record {
  passed = rw (plain.no_end, plain.no_long, plain.no_short) (ap (λ b. (waits_for (codes "file") pending && false) || b) settled ∙ or_true (waits_for (codes "file") pending && false));
  moved = rw (plain.no_end, plain.no_long, plain.no_short) (ap (with_word_held verb.Sample word rows pending) (and_false (waits_for (codes "file") pending)) ∙ ap (λ r. at r (Some (codes "file", word ∷ [])) idle 2) same);
}
word_goes verb.Reconstruct word rows pending known plain settled same = record {
  passed = rw (plain.no_end, plain.no_long, plain.no_short) (ap (λ b. (waits_for (codes "file") pending && false) || b) settled ∙ or_true (waits_for (codes "file") pending && false));
  moved = rw (plain.no_end, plain.no_long, plain.no_short) (ap (with_word_held verb.Reconstruct word rows pending) (and_false (waits_for (codes "file") pending)) ∙ ap (λ r. at r (Some (codes "file", word ∷ [])) idle 2) same);
}
word_goes verb.Demo word rows pending known plain settled same = record {
  passed = rw (plain.no_end, plain.no_long, plain.no_short) (ap (λ b. (waits_for (codes "size") pending && false) || b) settled ∙ or_true (waits_for (codes "size") pending && false));
  moved = rw (plain.no_end, plain.no_long, plain.no_short) (ap (with_word_held verb.Demo word rows pending) (and_false (waits_for (codes "size") pending)) ∙ ap (λ r. at r (Some (codes "size", word ∷ [])) idle 2) same);
}

-- a value that was read passes, and makes a row
record Settles (verb : Verb) (rows : List Row) (pending : Option (Text × List Text)) (known : List Row) : Type 0 where
  passed : settles verb rows pending ≡ true
  same : settled_rows (rules verb) pending rows ≡ known

once_passes : (id : Text) (rows : List Row) (b : Bool) → look id rows ≡ None → b ≡ true → ((not (has_row id rows) || false) && (b && true)) ≡ true
once_passes id rows b none is = ap₂ (λ has c. (not has || false) && (c && true)) (no_row id rows none) is

workers_settle : (verb : Verb) (rows : List Row) (value : Text) (n : ℕ) → look (codes "workers") rows ≡ None → IsCounted value n → Settles verb rows (Some (codes "workers", value ∷ [])) (rows ++ workers_row value ∷ [])
workers_settle verb.Sample rows value n none counted = record { passed = once_passes (codes "workers") rows (accepts false (parser.Signed (pos 1) (pos 16)) value) none (counted_accepted value n counted); same = used_once (codes "workers") reading.WithoutMinus value rows none }
workers_settle verb.Reconstruct rows value n none counted = record { passed = once_passes (codes "workers") rows (accepts false (parser.Signed (pos 1) (pos 16)) value) none (counted_accepted value n counted); same = used_once (codes "workers") reading.WithoutMinus value rows none }
workers_settle verb.Demo rows value n none counted = record { passed = once_passes (codes "workers") rows (accepts false (parser.Signed (pos 1) (pos 16)) value) none (counted_accepted value n counted); same = used_once (codes "workers") reading.WithoutMinus value rows none }

some_counted : (word : Text) (o : Option ℕ) → count_of word ≡ o → is_some o ≡ true → (n : ℕ) × IsCounted word n
some_counted word None e some = cc
some_counted word (Some n) e some = (n, count_digits word n e)

fit_plain : (verb : Verb) (word : Text) → fits verb word ≡ true → IsPlain word
fit_plain verb.Sample word fit = file_plain word fit
fit_plain verb.Reconstruct word fit = file_plain word fit
fit_plain verb.Demo word fit = let counted = some_counted word (count_of word) refl fit in counted_plain word counted.0 counted.1

word_settles : (verb : Verb) (rows : List Row) (word : Text) → look (word_id verb) rows ≡ None → fits verb word ≡ true → Settles verb rows (Some (word_id verb, word ∷ [])) (rows ++ word_row verb word ∷ [])
word_settles verb.Sample rows word none fit = record { passed = once_passes (codes "file") rows true none refl; same = used_once (codes "file") reading.AsWritten word rows none }
word_settles verb.Reconstruct rows word none fit = record { passed = once_passes (codes "file") rows true none refl; same = used_once (codes "file") reading.AsWritten word rows none }
word_settles verb.Demo rows word none fit =
    let counted = some_counted word (count_of word) refl fit in
    record { passed = once_passes (codes "size") rows (accepts false (parser.Signed (pos 1) (pos 16)) word) none (counted_accepted word counted.0 counted.1); same = used_once (codes "size") reading.WithoutMinus word rows none }

-- the ids of a command differ
record AreApart (verb : Verb) : Type 0 where
  workers_flag : bytes_eq (codes "workers") (flag_id verb) ≡ false
  workers_word : bytes_eq (codes "workers") (word_id verb) ≡ false
  flag_workers : bytes_eq (flag_id verb) (codes "workers") ≡ false
  flag_flag : bytes_eq (flag_id verb) (flag_id verb) ≡ true
  flag_word : bytes_eq (flag_id verb) (word_id verb) ≡ false
  word_workers : bytes_eq (word_id verb) (codes "workers") ≡ false
  word_flag : bytes_eq (word_id verb) (flag_id verb) ≡ false
  word_word : bytes_eq (word_id verb) (word_id verb) ≡ true

apart : (verb : Verb) → AreApart verb
apart verb.Sample = record { workers_flag = refl; workers_word = refl; flag_workers = refl; flag_flag = refl; flag_word = refl; word_workers = refl; word_flag = refl; word_word = refl }
apart verb.Reconstruct = record { workers_flag = refl; workers_word = refl; flag_workers = refl; flag_flag = refl; flag_word = refl; word_workers = refl; word_flag = refl; word_word = refl }
apart verb.Demo = record { workers_flag = refl; workers_word = refl; flag_workers = refl; flag_flag = refl; flag_word = refl; word_workers = refl; word_flag = refl; word_word = refl }

-- ---- what the rows say of what is given

abbrev FoundCount : Workers → Option Row → Type 0
FoundCount Unsaid row = row ≡ None
FoundCount Awaited row = row ≡ None
FoundCount (Said n) row = (value : Text) × (IsCounted value n × (row ≡ Some (workers_row value)))

abbrev FoundFlag : Verb → Bool → Option Row → Type 0
FoundFlag verb false row = row ≡ None
FoundFlag verb true row = row ≡ Some (flag_row verb)

abbrev FoundWord : Verb → Option Text → Option Row → Type 0
FoundWord verb None row = row ≡ None
FoundWord verb (Some word) row = row ≡ Some (word_row verb word)

record Knows (verb : Verb) (word : Option Text) (w : Workers) (flag : Bool) (rows : List Row) : Type 0 where
  counted : FoundCount w (look (codes "workers") rows)
  flagged : FoundFlag verb flag (look (flag_id verb) rows)
  worded : FoundWord verb word (look (word_id verb) rows)

abbrev waiting_at : Workers → Waiting
waiting_at Unsaid = idle
waiting_at Awaited = option (codes "workers")
waiting_at (Said n) = idle

abbrev position_at : Option Text → ℕ
position_at None = 1
position_at (Some word) = 2

abbrev Rests : Verb → Workers → List Row → Option (Text × List Text) → List Row → Type 0
Rests verb Unsaid rows pending known = Settles verb rows pending known
Rests verb Awaited rows pending known = (rows ≡ known) × (pending ≡ awaited)
Rests verb (Said n) rows pending known = Settles verb rows pending known

-- the walk stands where this has been given
record Stands (verb : Verb) (word : Option Text) (w : Workers) (flag : Bool) (walk : Walk) : Type 0 where
  rows : List Row
  pending : Option (Text × List Text)
  known : List Row
  is : walk ≡ at rows pending (waiting_at w) (position_at word)
  rests : Rests verb w rows pending known
  knows : Knows verb word w flag known

begins : (verb : Verb) → Stands verb None Unsaid false (walk_from nothing_held)
begins verb = record { rows = []; pending = None; known = []; is = refl; rests = record { passed = refl; same = refl }; knows = record { counted = refl; flagged = refl; worded = refl } }

-- a word passes, and the walk then stands where this is given
record Leads (verb : Verb) (walk : Walk) (word : Text) (later : Given) : Type 0 where
  passed : turn_passes (shape verb) [] walk word ≡ true
  stands : Stands verb later.word later.workers later.flag (walked (rules verb) [] walk word)

rests_idle : (verb : Verb) (w : Workers) (rows : List Row) (pending : Option (Text × List Text)) (known : List Row) → (w ≡ Awaited → ⊥) → Settles verb rows pending known → Rests verb w rows pending known
rests_idle verb Unsaid rows pending known some s = s
rests_idle verb Awaited rows pending known some s = absurd (some refl)
rests_idle verb (Said n) rows pending known some s = s

idle_at : (w : Workers) → (w ≡ Awaited → ⊥) → waiting_at w ≡ idle
idle_at Unsaid some = refl
idle_at Awaited some = absurd (some refl)
idle_at (Said n) some = refl

none_flagged : (verb : Verb) (flag : Bool) (row : Option Row) → flag ≡ false → FoundFlag verb flag row → row ≡ None
none_flagged verb true row e found = cc
none_flagged verb false row e found = found

-- the option of one word
flag_leads : (verb : Verb) (word : Option Text) (w : Workers) (next : Text) (rows : List Row) (pending : Option (Text × List Text)) (known : List Row) → (w ≡ Awaited → ⊥) → is_flag verb next ≡ true → Settles verb rows pending known → Knows verb word w false known
    → Leads verb (at rows pending idle (position_at word)) next (given word w true)
flag_leads verb word w next rows pending known some is s knows =
    let goes = flag_goes verb next rows pending (position_at word) known is s.passed s.same knows.flagged in
    let ids = apart verb in
    record {
      passed = goes.passed;
      stands = record {
        rows = known ++ flag_row verb ∷ [];
        pending = None;
        known = known ++ flag_row verb ∷ [];
        is = goes.moved ∙ ap (λ waiting. at (known ++ flag_row verb ∷ []) None waiting (position_at word)) (sym (idle_at w some));
        rests = rests_idle verb w (known ++ flag_row verb ∷ []) None (known ++ flag_row verb ∷ []) some (record { passed = refl; same = refl });
        knows = record {
          counted = subst (FoundCount w) (sym (looked_past (codes "workers") known (flag_row verb) ids.flag_workers)) knows.counted;
          flagged = looked_at (flag_id verb) known (flag_row verb) knows.flagged ids.flag_flag;
          worded = subst (FoundWord verb word) (sym (looked_past (word_id verb) known (flag_row verb) ids.flag_word)) knows.worded;
        };
      };
    }

-- the word that is no option
word_leads : (verb : Verb) (w : Workers) (flag : Bool) (next : Text) (rows : List Row) (pending : Option (Text × List Text)) (known : List Row) → (w ≡ Awaited → ⊥) → fits verb next ≡ true → Settles verb rows pending known → Knows verb None w flag known
    → Leads verb (at rows pending idle 1) next (given (Some next) w flag)
word_leads verb w flag next rows pending known some fit s knows =
    let goes = word_goes verb next rows pending known (fit_plain verb next fit) s.passed s.same in
    let ids = apart verb in
    record {
      passed = goes.passed;
      stands = record {
        rows = known;
        pending = Some (word_id verb, next ∷ []);
        known = known ++ word_row verb next ∷ [];
        is = goes.moved ∙ ap (λ waiting. at known (Some (word_id verb, next ∷ [])) waiting 2) (sym (idle_at w some));
        rests = rests_idle verb w known (Some (word_id verb, next ∷ [])) (known ++ word_row verb next ∷ []) some (word_settles verb known next knows.worded fit);
        knows = record {
          counted = subst (FoundCount w) (sym (looked_past (codes "workers") known (word_row verb next) ids.word_workers)) knows.counted;
          flagged = subst (FoundFlag verb flag) (sym (looked_past (flag_id verb) known (word_row verb next) ids.word_flag)) knows.flagged;
          worded = looked_at (word_id verb) known (word_row verb next) knows.worded ids.word_word;
        };
      };
    }

-- a word that is neither `--workers` nor the number behind it
other_leads : (verb : Verb) (word : Option Text) (w : Workers) (flag : Bool) (next : Text) (later : Given) (rows : List Row) (pending : Option (Text × List Text)) (known : List Row) → (w ≡ Awaited → ⊥) → with_other verb (given word w flag) next ≡ Some later
    → Settles verb rows pending known → Knows verb word w flag known → Leads verb (at rows pending idle (position_at word)) next later
other_leads verb word w flag next later rows pending known some e s knows =
    elim (either (is_flag verb next) (cond flag None (Some (given word w true))) (cond (fits verb next && is_none word) (Some (given (Some next) w flag)) None) (Some later) e) [
      | inl is ↦ flag_case flag knows is.0 is.1
      | inr plain ↦
          let fine = chosen (fits verb next && is_none word) (Some (given (Some next) w flag)) later plain.1 in
          let parts = both_true (fits verb next) (is_none word) fine.0 in
          word_case word knows parts.0 parts.1 fine.1
    ]
  where
    flag_case : (f : Bool) → Knows verb word w f known → is_flag verb next ≡ true → cond f None (Some (given word w true)) ≡ Some later → Leads verb (at rows pending idle (position_at word)) next later
    flag_case true has is took = cc
    flag_case false has is took =
        let same : given word w true ≡ later = cc in
        subst (λ (g : Given). Leads verb (at rows pending idle (position_at word)) next g) same (flag_leads verb word w next rows pending known some is s has)

    word_case : (o : Option Text) → Knows verb o w flag known → fits verb next ≡ true → is_none o ≡ true → Some (given (Some next) w flag) ≡ Some later → Leads verb (at rows pending idle (position_at o)) next later
    word_case None has fit none took =
        let same : given (Some next) w flag ≡ later = cc in
        subst (λ (g : Given). Leads verb (at rows pending idle 1) next g) same (word_leads verb w flag next rows pending known some fit s has)
    word_case (Some first) has fit none took = cc

-- `--workers`
option_leads : (verb : Verb) (word : Option Text) (flag : Bool) (next : Text) (rows : List Row) (pending : Option (Text × List Text)) (known : List Row) → is_workers next ≡ true → Settles verb rows pending known → Knows verb word Unsaid flag known
    → Leads verb (at rows pending idle (position_at word)) next (given word Awaited flag)
option_leads verb word flag next rows pending known is s knows =
    subst (λ w. Leads verb (at rows pending idle (position_at word)) w (given word Awaited flag)) (sym ((bytes_eq-Decides next (codes "--workers")).0 is))
    (let goes = option_goes verb rows pending (position_at word) in
    record {
      passed = goes.passed ∙ and_true (settles verb rows pending) ∙ s.passed;
      stands = record {
        rows = settled_rows (rules verb) pending rows;
        pending = awaited;
        known = known;
        is = goes.moved;
        rests = (s.same, refl);
        knows = record { counted = knows.counted; flagged = knows.flagged; worded = knows.worded };
      };
    })

-- the number behind it
number_leads : (verb : Verb) (word : Option Text) (flag : Bool) (next : Text) (n : ℕ) (rows : List Row) → IsCounted next n → Knows verb word Awaited flag rows
    → Leads verb (at rows awaited (option (codes "workers")) (position_at word)) next (given word (Said n) flag)
number_leads verb word flag next n rows counted knows =
    let goes = number_goes verb rows (position_at word) next (counted_plain next n counted) in
    let ids = apart verb in
    record {
      passed = goes.passed;
      stands = record {
        rows = rows;
        pending = Some (codes "workers", next ∷ []);
        known = rows ++ workers_row next ∷ [];
        is = goes.moved;
        rests = workers_settle verb rows next n knows.counted counted;
        knows = record {
          counted = (next, (counted, looked_at (codes "workers") rows (workers_row next) knows.counted refl));
          flagged = subst (FoundFlag verb flag) (sym (looked_past (flag_id verb) rows (workers_row next) ids.workers_flag)) knows.flagged;
          worded = subst (FoundWord verb word) (sym (looked_past (word_id verb) rows (workers_row next) ids.workers_word)) knows.worded;
        };
      };
    }

unsaid_some : Unsaid ≡ Awaited → ⊥
unsaid_some e = cc

said_some : (n : ℕ) → Said n ≡ Awaited → ⊥
said_some n e = cc

-- one more word with which admitted words go on
leads : (verb : Verb) (word : Option Text) (w : Workers) (flag : Bool) (next : Text) (later : Given) (walk : Walk) → with_word verb w (given word w flag) next ≡ Some later → Stands verb word w flag walk → Leads verb walk next later
leads verb word Unsaid flag next later walk e stands =
    subst (λ (from : Walk). Leads verb from next later) (sym stands.is)
    (elim (either (is_workers next) (Some (given word Awaited flag)) (with_other verb (given word Unsaid flag) next) (Some later) e) [
      | inl is ↦
          let same : given word Awaited flag ≡ later = let both = is.1 in cc in
          subst (λ (g : Given). Leads verb (at stands.rows stands.pending idle (position_at word)) next g) same (option_leads verb word flag next stands.rows stands.pending stands.known is.0 stands.rests stands.knows)
      | inr plain ↦ other_leads verb word Unsaid flag next later stands.rows stands.pending stands.known unsaid_some plain.1 stands.rests stands.knows
    ])
leads verb word Awaited flag next later walk e stands =
    let number = number_given word flag (count_of next) later e in
    subst (λ (from : Walk). Leads verb from next later) (sym (stands.is ∙ ap₂ (λ r p. at r p (option (codes "workers")) (position_at word)) stands.rests.0 stands.rests.1))
    (subst (λ (g : Given). Leads verb (at stands.known awaited (option (codes "workers")) (position_at word)) next g) number.1.1
    (number_leads verb word flag next number.0 stands.known (count_digits next number.0 number.1.0) stands.knows))
leads verb word (Said n) flag next later walk e stands =
    subst (λ (from : Walk). Leads verb from next later) (sym stands.is)
    (elim (either (is_workers next) None (with_other verb (given word (Said n) flag) next) (Some later) e) [
      | inl is ↦ let clash : None ≡ Some later = is.1 in cc
      | inr plain ↦ other_leads verb word (Said n) flag next later stands.rows stands.pending stands.known (said_some n) plain.1 stands.rests stands.knows
    ])

-- admitted words pass, and at their end the walk stands where what is given is asked for
record Scans (verb : Verb) (walk : Walk) (words : List Text) (wish : Request) : Type 0 where
  passed : walk_passes (shape verb) [] walk words ≡ true
  last : Given
  place : ℕ
  stands : Stands verb last.word last.workers last.flag (fold (walked (rules verb) []) walk words)
  asks : ended verb place last ≡ Asks wish

on_with : (verb : Verb) (walk : Walk) (next : Text) (rest : List Text) (k : ℕ) (wish : Request) (o : Option Given) → ((later : Given) → o ≡ Some later → parsed_from verb (k + 1) later rest ≡ Asks wish → Scans verb walk (next ∷ rest) wish)
    → elim o [ None ↦ BadAt k | Some later ↦ parsed_from verb (k + 1) later rest ] ≡ Asks wish → Scans verb walk (next ∷ rest) wish
on_with verb walk next rest k wish None on e = cc
on_with verb walk next rest k wish (Some later) on e = on later refl e

scan : (verb : Verb) (words : List Text) (k : ℕ) (word : Option Text) (w : Workers) (flag : Bool) (walk : Walk) (wish : Request) → Stands verb word w flag walk → parsed_from verb k (given word w flag) words ≡ Asks wish → Scans verb walk words wish
unfolding clap_on_literals
scan verb [] k word w flag walk wish stands e = record { passed = refl; last = given word w flag; place = k; stands = stands; asks = e }
scan verb (next ∷ rest) k word w flag walk wish stands e =
    on_with verb walk next rest k wish (with_word verb w (given word w flag) next) (λ later took on.
    let led = leads verb word w flag next later walk took stands in
    let more = scan verb rest (k + 1) later.word later.workers later.flag (walked (rules verb) [] walk next) wish led.stands on in
    record { passed = ap₂ (λ a b. a && b) led.passed more.passed; last = more.last; place = more.place; stands = more.stands; asks = more.asks }) e

-- ---- after the walk

-- a row that is there stays through the defaults, and those of other ids leave it out
default_past : (argument : Rule) (id : Text) (rows : List Row) → bytes_eq argument.id id ≡ false → look id (with_default rows argument) ≡ look id rows
default_past argument id rows other = go (look argument.id rows) argument.defaults refl refl
  where
    go : (o : Option Row) (values : List Text) → look argument.id rows ≡ o → argument.defaults ≡ values → look id (with_default rows argument) ≡ look id rows
    go (Some row) values e d = ap (look id) (default_kept argument rows row e)
    go None [] e d = ap (look id) (ap (λ b. cond b rows (default_rows argument.id (reading_by argument) argument.defaults rows)) (no_row argument.id rows e) ∙ ap (λ values. default_rows argument.id (reading_by argument) values rows) d)
    go None (value ∷ values) e d = ap (look id) (default_added argument value values rows d e) ∙ looked_past id rows (default_row argument (value ∷ values)) other

default_stays : (arguments : List Rule) (id : Text) (rows : List Row) (row : Row) → look id rows ≡ Some row → look id (fold with_default rows arguments) ≡ Some row
default_stays [] id rows row e = e
default_stays (argument ∷ rest) id rows row e = default_stays rest id (with_default rows argument) row (go (bytes_eq argument.id id) refl)
  where
    go : (b : Bool) → bytes_eq argument.id id ≡ b → look id (with_default rows argument) ≡ Some row
    go false other = default_past argument id rows other ∙ e
    go true same = ap (look id) (default_kept argument rows row (ap (λ name. look name rows) ((bytes_eq-Decides argument.id id).0 same) ∙ e)) ∙ e

default_new : (argument : Rule) (value : Text) (rest : List Rule) (rows : List Row) → argument.defaults ≡ value ∷ [] → bytes_eq argument.id argument.id ≡ true → look argument.id rows ≡ None
    → look argument.id (fold with_default rows (argument ∷ rest)) ≡ Some (row_of argument.id (reading_by argument) DefaultValue value)
default_new argument value rest rows one same e =
    default_stays rest argument.id (with_default rows argument) (row_of argument.id (reading_by argument) DefaultValue value)
    (ap (look argument.id) (default_added argument value [] rows one e) ∙ looked_at argument.id rows (row_of argument.id (reading_by argument) DefaultValue value) e same)

-- the arguments of a command
abbrev workers_argument : Rule
workers_argument = with_index 1 (filled workers_rule)

abbrev flag_argument : Text → Rule
flag_argument name = with_index 1 (filled (flag_rule name))

-- a row has this text, from the words or by default
record HasText (id : Text) (how : Reading) (value : Text) (rows : List Row) : Type 0 where
  source : ValueSource
  is : look id rows ≡ Some (row_of id how source value)

-- the number of workers is found
record FindsCount (n : ℕ) (rows : List Row) : Type 0 where
  value : Text
  has : HasText (codes "workers") reading.WithoutMinus value rows
  counts : count_of (without_minus value) ≡ Some n

counted_count : (word : Text) (n : ℕ) → IsCounted word n → count_of (without_minus word) ≡ count_of word
counted_count word n counted = ap count_of (counted_same word n counted)

workers_found : (verb : Verb) (w : Workers) (n : ℕ) (rows : List Row) → workers_given w ≡ Some n → FoundCount w (look (codes "workers") rows) → FindsCount n (fold with_default rows (rules verb))
workers_found verb Awaited n rows given found = cc
workers_found verb.Sample Unsaid n rows given found = record { value = codes "1"; has = record { source = DefaultValue; is = default_new workers_argument (codes "1") (drop 1 (rules verb.Sample)) rows refl refl found }; counts = given }
workers_found verb.Reconstruct Unsaid n rows given found = record { value = codes "1"; has = record { source = DefaultValue; is = default_new workers_argument (codes "1") (drop 1 (rules verb.Reconstruct)) rows refl refl found }; counts = given }
workers_found verb.Demo Unsaid n rows given found = record { value = codes "1"; has = record { source = DefaultValue; is = default_new workers_argument (codes "1") (drop 1 (rules verb.Demo)) rows refl refl found }; counts = given }
workers_found verb (Said m) n rows given found =
    record {
      value = found.0;
      has = record { source = CommandLine; is = default_stays (rules verb) (codes "workers") rows (workers_row found.0) found.1.1 };
      counts = counted_count found.0 m found.1.0 ∙ found.1.0.counts ∙ given;
    }

-- whether the option of one word was given is found
abbrev has_flag : Verb → Bool
has_flag verb.Demo = false
has_flag _ = true

abbrev truth : Bool → Text
truth true = codes "true"
truth false = codes "false"

flag_found : (verb : Verb) (flag : Bool) (rows : List Row) → has_flag verb ≡ true → FoundFlag verb flag (look (flag_id verb) rows) → HasText (flag_id verb) reading.AsWritten (truth flag) (fold with_default rows (rules verb))
flag_found verb true rows has found = record { source = CommandLine; is = default_stays (rules verb) (flag_id verb) rows (flag_row verb) found }
flag_found verb.Sample false rows has found = record { source = DefaultValue; is = default_new (flag_argument (codes "second")) (codes "false") (drop 2 (rules verb.Sample)) (with_default rows workers_argument) refl refl (default_past workers_argument (codes "second") rows refl ∙ found) }
flag_found verb.Reconstruct false rows has found = record { source = DefaultValue; is = default_new (flag_argument (codes "report")) (codes "false") (drop 2 (rules verb.Reconstruct)) (with_default rows workers_argument) refl refl (default_past workers_argument (codes "report") rows refl ∙ found) }
flag_found verb.Demo false rows has found = cc

-- what is read of the rows
count_read : (n : ℕ) (rows : List Row) → FindsCount n rows → count_at (codes "workers") rows ≡ Some n
count_read n rows finds = ap (λ o. option_and_then count_of (option_and_then row_text o)) finds.has.is ∙ finds.counts

truth_read : (flag : Bool) → truth_of (truth flag) ≡ Some flag
truth_read true = refl
truth_read false = refl

flag_read : (id : Text) (flag : Bool) (rows : List Row) → HasText id reading.AsWritten (truth flag) rows → flag_at id rows ≡ Some flag
flag_read id flag rows has = ap (λ o. option_and_then truth_of (option_and_then row_text o)) has.is ∙ truth_read flag

file_read : (rows : List Row) (word : Text) → look (codes "file") rows ≡ Some (row_of (codes "file") reading.AsWritten CommandLine word) → first_of (codes "file") rows ≡ Some word
file_read rows word e = ap (option_and_then (λ (r : Row). slice_get r.values 0)) e

file_wish : (wish : List ℕ → ℕ → Bool → Request) (id : Text) (rows : List Row) (word : Text) (n : ℕ) (flag : Bool) → first_of (codes "file") rows ≡ Some word → count_at (codes "workers") rows ≡ Some n → flag_at id rows ≡ Some flag → file_wish_in wish id rows ≡ Some (wish word n flag)
file_wish wish id rows word n flag a b c = rw (a, b, c) refl

-- the last checks pass, and what is found is asked for
record Finishes (verb : Verb) (rows : List Row) (wish : Request) : Type 0 where
  valid : is_valid (shape verb) (fold with_default rows (rules verb)) false ≡ true
  wished : wish_in verb (fold with_default rows (rules verb)) ≡ Some wish

given_there : (id : Text) (how : Reading) (word : Text) (rows : List Row) → look id rows ≡ Some (row_of id how CommandLine word) → (is_given id rows && true) ≡ true
given_there id how word rows e = ap (λ o. option_map_or (λ (r : Row). explicit_source r.source) o false && true) e

size_read : (word : Text) (n : ℕ) (o : Option ℕ) (wish : Request) (rows : List Row) → count_of word ≡ o → option_map (λ size. Demo size n) o ≡ Some wish → look (codes "size") rows ≡ Some (row_of (codes "size") reading.WithoutMinus CommandLine word) → count_at (codes "workers") rows ≡ Some n → wish_in verb.Demo rows ≡ Some wish
size_read word n None wish rows is asks found workers = cc
size_read word n (Some size) wish rows is asks found workers =
    let counted = count_digits word size is in
    let read : count_at (codes "size") rows ≡ Some size = ap (λ o. option_and_then count_of (option_and_then row_text o)) found ∙ counted_count word size counted ∙ is in
    rw (read, workers) asks

finish : (verb : Verb) (word : Text) (w : Workers) (n : ℕ) (flag : Bool) (wish : Request) (rows : List Row) → workers_given w ≡ Some n → wish_of verb n flag word ≡ Some wish → Knows verb (Some word) w flag rows → Finishes verb rows wish
finish verb.Sample word w n flag wish rows given asks knows =
    let found = default_stays (rules verb.Sample) (codes "file") rows (word_row verb.Sample word) knows.worded in
    let all = fold with_default rows (rules verb.Sample) in
    record {
      valid = given_there (codes "file") reading.AsWritten word all found;
      wished = file_wish Sample (codes "second") all word n flag (file_read all word found) (count_read n all (workers_found verb.Sample w n rows given knows.counted)) (flag_read (codes "second") flag all (flag_found verb.Sample flag rows refl knows.flagged))
          ∙ (chosen (is_file word) (Some (Sample word n flag)) wish asks).1;
    }
finish verb.Reconstruct word w n flag wish rows given asks knows =
    let found = default_stays (rules verb.Reconstruct) (codes "file") rows (word_row verb.Reconstruct word) knows.worded in
    let all = fold with_default rows (rules verb.Reconstruct) in
    record {
      valid = given_there (codes "file") reading.AsWritten word all found;
      wished = file_wish Reconstruct (codes "report") all word n flag (file_read all word found) (count_read n all (workers_found verb.Reconstruct w n rows given knows.counted)) (flag_read (codes "report") flag all (flag_found verb.Reconstruct flag rows refl knows.flagged))
          ∙ (chosen (is_file word) (Some (Reconstruct word n flag)) wish asks).1;
    }
finish verb.Demo word w n flag wish rows given asks knows =
    let found = default_stays (rules verb.Demo) (codes "size") rows (word_row verb.Demo word) knows.worded in
    let all = fold with_default rows (rules verb.Demo) in
    record {
      valid = given_there (codes "size") reading.WithoutMinus word all found;
      wished = size_read word n (count_of word) wish all refl asks found (count_read n all (workers_found verb.Demo w n rows given knows.counted));
    }

defaults_pass : (verb : Verb) → list_all default_passes (rules verb) ≡ true
defaults_pass verb.Sample = refl
defaults_pass verb.Reconstruct = refl
defaults_pass verb.Demo = refl

-- at the end of admitted words the command ends well
record Ends (verb : Verb) (walk : Walk) (wish : Request) : Type 0 where
  goes_on : walk.stopped ≡ None
  settled_last : settle_passes (rules verb) false walk.held ≡ true
  valid : is_valid (shape verb) (finished (rules verb) walk.held) false ≡ true
  wished : wish_in verb (finished (rules verb) walk.held) ≡ Some wish

ended_well : (verb : Verb) (word : Text) (w : Workers) (n : ℕ) (flag : Bool) (wish : Request) (walk : Walk) → workers_given w ≡ Some n → wish_of verb n flag word ≡ Some wish → Stands verb (Some word) w flag walk → Ends verb walk wish
ended_well verb word w n flag wish walk given asks stands = subst (λ (from : Walk). Ends verb from wish) (sym stands.is) (go w given stands.rests)
  where
    last : (v : Workers) → Settles verb stands.rows stands.pending stands.known → Ends verb (at stands.rows stands.pending (waiting_at v) 2) wish
    last v s =
        let done = finish verb word w n flag wish stands.known given asks stands.knows in
        record {
          goes_on = refl;
          settled_last = s.passed;
          valid = ap (λ rows. is_valid (shape verb) (fold with_default rows (rules verb)) false) s.same ∙ done.valid;
          wished = ap (λ rows. wish_in verb (fold with_default rows (rules verb))) s.same ∙ done.wished;
        }

    go : (v : Workers) → workers_given v ≡ Some n → Rests verb v stands.rows stands.pending stands.known → Ends verb (at stands.rows stands.pending (waiting_at v) 2) wish
    go Unsaid e s = last Unsaid s
    go Awaited e s = cc
    go (Said m) e s = last (Said m) s

asked_at : (k : ℕ) (o : Option Request) (wish : Request) → asks_at k o ≡ Asks wish → o ≡ Some wish
asked_at k None wish e = cc
asked_at k (Some found) wish e = let same : found ≡ wish = cc in ap Some same

ends : (verb : Verb) (k : ℕ) (word : Option Text) (w : Workers) (flag : Bool) (wish : Request) (walk : Walk) → ended verb k (given word w flag) ≡ Asks wish → Stands verb word w flag walk → Ends verb walk wish
ends verb k None w flag wish walk e stands = cc
ends verb k (Some word) w flag wish walk e stands = go (workers_given w) refl e
  where
    go : (o : Option ℕ) → workers_given w ≡ o → ended_with verb k flag (Some word) o ≡ Asks wish → Ends verb walk wish
    go None is e = cc
    go (Some n) is e = ended_well verb word w n flag wish walk is (asked_at k (wish_of verb n flag word) wish e) stands

-- one level of the parse
record Levels (verb : Verb) (words : List Text) (wish : Request) : Type 0 where
  passed : level_passes (shape verb) [] nothing_held words false ≡ true
  goes_on : (walk (rules verb) [] nothing_held words).stopped ≡ None
  wished : wish_in verb (finished (rules verb) (walk (rules verb) [] nothing_held words).held) ≡ Some wish

level_of : (s : Shape) (words : List Text) → s.args_override_self ≡ false → walk_passes s [] (walk_from nothing_held) words ≡ true → settle_passes s.rules false (walk s.rules [] nothing_held words).held ≡ true → list_all default_passes s.rules ≡ true
    → is_valid s (finished s.rules (walk s.rules [] nothing_held words).held) false ≡ true → level_passes s [] nothing_held words false ≡ true
level_of s words once passed settled defaults valid =
    ap₂ (λ a b. a && b) passed (ap₂ (λ a b. a && b) (ap (λ again. settle_passes s.rules again (walk s.rules [] nothing_held words).held) once ∙ settled) (ap₂ (λ a b. a && b) defaults valid))

uses_once : (verb : Verb) → (shape verb).args_override_self ≡ false
uses_once verb.Sample = refl
uses_once verb.Reconstruct = refl
uses_once verb.Demo = refl

level : (verb : Verb) (words : List Text) (wish : Request) → Scans verb (walk_from nothing_held) words wish → Levels verb words wish
level verb words wish scans =
    let end = ends verb scans.place scans.last.word scans.last.workers scans.last.flag wish (walk (rules verb) [] nothing_held words) scans.asks scans.stands in
    record {
      passed = level_of (shape verb) words (uses_once verb) scans.passed end.settled_last (defaults_pass verb) end.valid;
      goes_on = end.goes_on;
      wished = end.wished;
    }

-- the words are taken, and what is found in them is asked for
pub record IsRead (verb : Verb) (words : List Text) (wish : Request) : Type 0 where
  pub taken : takes (line_app verb) words ≡ true
  pub wished : wish_in verb (matches_of (line_app verb) words) ≡ Some wish

abbrev built_passes : App → List Text → Option (Text × List Text) → Bool
built_passes app words stop = entered_passes app stop && level_passes app.top [] nothing_held words (is_some (entered app stop))

whole : (verb : Verb) (words : List Text) (wish : Request) → Levels verb words wish → IsRead verb words wish
whole verb.Sample words wish level = record { taken = ap (built_passes (built (line_app verb.Sample)) words) level.goes_on ∙ level.passed; wished = level.wished }
whole verb.Reconstruct words wish level = record { taken = ap (built_passes (built (line_app verb.Reconstruct)) words) level.goes_on ∙ level.passed; wished = level.wished }
whole verb.Demo words wish level = record { taken = ap (built_passes (built (line_app verb.Demo)) words) level.goes_on ∙ level.passed; wished = level.wished }

-- what the words behind a command's name ask for is what is found in them
pub line_read : (verb : Verb) (words : List Text) (wish : Request) → parsed_from verb 2 nothing_given words ≡ Asks wish → IsRead verb words wish
line_read verb words wish asks = whole verb words wish (level verb words wish (scan verb words 2 None Unsaid false (walk_from nothing_held) wish (begins verb) asks))

pub is_simple_line : (verb : Verb) → is_simple (line_app verb) ≡ true
is_simple_line verb.Sample = refl
is_simple_line verb.Reconstruct = refl
is_simple_line verb.Demo = refl

-- words that are asked for ask for something
pub asked_wish : (found : Parsed) → IsAdmitted found → (wish : Request) × (found ≡ Asks wish)
asked_wish (Asks wish) is = (wish, refl)
asked_wish (BadAt place) is = absurd is

-- `learn` takes a file, and finds it
pub record IsLearnt (words : List Text) (wish : Request) : Type 0 where
  pub taken : takes learn_app words ≡ true
  pub wished : learn_in (matches_of learn_app words) ≡ Some wish

pub is_simple_learn : is_simple learn_app ≡ true
is_simple_learn = refl

file_learnt : (file : Text) → IsPlain file → IsLearnt (file ∷ []) (Learn file)
unfolding clap_on_literals
file_learnt file plain = record {
  taken = rw (plain.no_end, plain.no_long, plain.no_short) refl;
  wished = rw (plain.no_end, plain.no_long, plain.no_short) refl;
}

pub learn_read : (words : List Text) (wish : Request) → parsed_learn words ≡ Asks wish → IsLearnt words wish
learn_read [] wish e = cc
learn_read (file ∷ rest) wish e = go (is_file file) rest refl e
  where
    go : (b : Bool) (others : List Text) → is_file file ≡ b → cond b (alone 3 (Learn file) others) (BadAt 2) ≡ Asks wish → IsLearnt (file ∷ others) wish
    go true [] is same = let wishes : Learn file ≡ wish = cc in subst (λ (w : Request). IsLearnt (file ∷ []) w) wishes (file_learnt file (file_plain file is))
    go true (more ∷ others) is same = cc
    go false others is same = cc

-- ---- what is read of the matches

all_digits : (bytes : List ℕ) → list_all is_ascii_digit bytes ≡ true → AllDigits 10 bytes
all_digits [] e = tt
all_digits (byte ∷ rest) e =
    let parts = both_true (is_ascii_digit byte) (list_all is_ascii_digit rest) e in
    (ltb-true (digit_value byte) 10 (digit_low byte parts.0), all_digits rest parts.1)

no_plus : (first : ℕ) (rest : List ℕ) → nat_eq first 43 ≡ false → without_leading_plus (first ∷ rest) ≡ first ∷ rest
no_plus first rest e = ap (λ b. drop (cond b 1 0) (first ∷ rest)) e

-- a count reads as the number that it is
digits_given : {E : Type 0} (first : ℕ) (rest : List ℕ) (n : ℕ) (r : Result ℕ E) → list_all is_ascii_digit (first ∷ rest) ≡ true → digits_value 10 (first ∷ rest) ≡ n → n ≤ 16 → ParsesUnsigned 32 10 (first ∷ rest) r → r ≡ Ok n
digits_given first rest n (Ok v) digits value most parsed =
    let same = no_plus first rest (digit_first first (both_true (is_ascii_digit first) (list_all is_ascii_digit rest) digits).0).1 in
    ap Ok (parsed.1 ∙ ap (digits_value 10) same ∙ value)
digits_given first rest n (Err e) digits value most parsed =
    let same = no_plus first rest (digit_first first (both_true (is_ascii_digit first) (list_all is_ascii_digit rest) digits).0).1 in
    absurd (parsed (subst (λ ds. IsNumeral 10 ds × (digits_value 10 ds < 2 ^ 32)) (sym same) ((omega arith, all_digits (first ∷ rest) digits), omega (arith, value, most))))

-- the text under an id is a count
pub record HasCount (id : Text) (rows : List Row) : Type 0 where
  pub text : Text
  pub number : ℕ
  pub read : one_of id rows ≡ Some text
  pub counted : IsCounted text number

pub has_count : (id : Text) (rows : List Row) → is_some (count_at id rows) ≡ true → HasCount id rows
has_count id rows some = go (one_of id rows) refl some
  where
    go : (o : Option Text) → one_of id rows ≡ o → is_some (option_and_then count_of o) ≡ true → HasCount id rows
    go None e none = cc
    go (Some text) e some = let counted = some_counted text (count_of text) refl some in record { text = text; number = counted.0; read = e; counted = counted.1 }

pub count_is_at : (id : Text) (rows : List Row) (has : HasCount id rows) → count_at id rows ≡ Some has.number
count_is_at id rows has = ap (option_and_then count_of) has.read ∙ has.counted.counts

pub count_given : {E : Type 0} (gives : List ℕ → Result ℕ E → Type 0) (text : Text) (n : ℕ) (r : Option ℕ) → ((bytes : List ℕ) (x : Result ℕ E) → gives bytes x → ParsesUnsigned 32 10 bytes x) → IsCounted text n → ReadsOne gives text r → r ≡ Some n
count_given {E} gives text n (Some v) only counted read =
    let parsed = subst (λ bytes. ParsesUnsigned {E = E} 32 10 bytes (Ok v)) counted.is (only text (Ok v) read) in
    let same : ◌≡◌ {A = Result ℕ E} (Ok v) (Ok n) = digits_given counted.first counted.rest n (Ok v) counted.digits counted.value counted.most parsed in
    let number : v ≡ n = cc in
    ap Some number
count_given {E} gives text n None only counted read =
    let parsed = subst (λ bytes. ParsesUnsigned {E = E} 32 10 bytes (Err read.0)) counted.is (only text (Err read.0) read.1) in
    let same : ◌≡◌ {A = Result ℕ E} (Err read.0) (Ok n) = digits_given counted.first counted.rest n (Err read.0) counted.digits counted.value counted.most parsed in
    cc

-- a truth reads as what it is
pub flag_given : (o : Option Text) (r : Bool) → is_some (option_and_then truth_of o) ≡ true → (o ≡ Some (codes "true") → r ≡ true) → (o ≡ Some (codes "false") → r ≡ false) → option_and_then truth_of o ≡ Some r
flag_given None r some if_true if_false = cc
flag_given (Some text) r some if_true if_false = go (bytes_eq text (codes "true")) (bytes_eq text (codes "false")) refl refl some
  where
    go : (a b : Bool) → bytes_eq text (codes "true") ≡ a → bytes_eq text (codes "false") ≡ b → is_some (cond a (Some true) (cond b (Some false) None)) ≡ true → option_and_then truth_of (Some text) ≡ Some r
    go true b is other s = ap (option_and_then truth_of) (ap Some ((bytes_eq-Decides text (codes "true")).0 is)) ∙ ap Some (sym (if_true (ap Some ((bytes_eq-Decides text (codes "true")).0 is))))
    go false true is other s = ap (option_and_then truth_of) (ap Some ((bytes_eq-Decides text (codes "false")).0 other)) ∙ ap Some (sym (if_false (ap Some ((bytes_eq-Decides text (codes "false")).0 other))))
    go false false is other s = cc

-- where all that is asked for was found, the number of workers was
inner_some : {A B C : Type 0} (o : Option A) (p : Option B) (f : A → B → Option C) → is_some (option_and_then (λ a. option_and_then (f a) p) o) ≡ true → is_some p ≡ true
inner_some None p f e = cc
inner_some (Some a) None f e = cc
inner_some (Some a) (Some b) f e = refl

mapped_some : {A B C : Type 0} (o : Option A) (p : Option B) (f : A → B → C) → is_some (option_and_then (λ a. option_map (f a) p) o) ≡ true → is_some p ≡ true
mapped_some None p f e = cc
mapped_some (Some a) None f e = cc
mapped_some (Some a) (Some b) f e = refl

pub wished_count : (verb : Verb) (rows : List Row) → is_some (wish_in verb rows) ≡ true → is_some (count_at (codes "workers") rows) ≡ true
wished_count verb.Sample rows e = inner_some (first_of (codes "file") rows) (count_at (codes "workers") rows) (λ file workers. option_map (Sample file workers) (flag_at (codes "second") rows)) e
wished_count verb.Reconstruct rows e = inner_some (first_of (codes "file") rows) (count_at (codes "workers") rows) (λ file workers. option_map (Reconstruct file workers) (flag_at (codes "report") rows)) e
wished_count verb.Demo rows e = mapped_some (count_at (codes "size") rows) (count_at (codes "workers") rows) Demo e

pub text_given : (o : Option (Bor Text)) (p : Option Text) → option_map (λ s. s.now) o ≡ p → is_some p ≡ true → IsSome o
text_given (Some text) p e some = refl
text_given None p e some = let bad : false ≡ true = ap is_some e ∙ some in cc

pub some_is : {A : Type 0} (o : Option A) (x : A) → o ≡ Some x → IsSome o
some_is o x e = ap is_some e

-- The place that reading the words stops at is the one that their grammar gives, and there is only one.
use Rattle.std.proofs.Common.{◌≡◌, ℕ, zero, suc, ◌+◌, ◌*◌, ◌<◌, ◌≤◌, Bool, true, false, List, [], ◌∷◌, ◌++◌, length, take, drop, Option, Some, None, refl, sym, ◌∙◌, ap, ap₂, subst, arith, inl, inr, cond, append_assoc, append-nil, length-append, zero-add, add-zero, drop-cons}
use Rattle.std.specs.Prelude.{◌⊎◌, codes, bytes_eq, nat_lt, nat_eq, ◌&&◌, ◌||◌, not, nat_le, count_by, is_none, is_some, filter, option_map, option_to_list, IfSome, string_bytes}
use Rattle.std.specs.List.{list_any, slice_index_or}
use Rattle.std.specs.Option.{option_and_then}
use Rattle.std.specs.declared.string.String.{String}
use Rattle.std.specs.declared.alloc.Global.{Global}
use Rattle.std.specs.Cmp.Lexicographic.{bytes_decides}
use Rattle.std.specs.Char.{digit_value, is_ascii_digit}
use Rattle.std.specs.Str.Parse.{digits_value, digits_value_after}
use Rattle.std.specs.List.{list_all}
use Rattle.std.proofs.lemmas.Bool.{cases_Bool, false≢true, leb-true, le-leb, ltb-true}
use Rattle.std.proofs.lemmas.Bool.Decides.{nat_tests}
use Rattle.ratfun_text.specs.Bytes.{is_digits, narrow, number_below, number_of as number_in}
use Rattle.ratfun_text.specs.Names.{begins_with_zero}
use Rattle.std.proofs.lemmas.List.{drop_all, take-append-le, take-append-drop}
use Rattle.std.proofs.Math.Seq.{take-append-add}
use Rattle.std.proofs.lemmas.List.Elements.{filter-append}
use Rattle.std.proofs.lemmas.List.Folds.{list_any-append}
use Rattle.std.proofs.lemmas.List.Sums.{sum_by-append}
use Rattle.flow_program.specs.declared.verb.Verb.{Verb}
use Rattle.flow_program.specs.declared.verb.Verb.TheVariants as verb
use Rattle.flow_program.specs.declared.verb.Met.{Met}
use Rattle.flow_program.specs.declared.verb.Stage.TheVariants as stage
use Rattle.flow_program.specs.Words.{Request, Sample, Learn, Reconstruct, Demo, Grammar, HasCounts, IsCount, Staffed, asked, asked_learn, asked_of, asked_verb, behind, texts, count_of, counted, is_file, is_flag, is_workers, of_file, of_one, staffed, wish_of, IsFront, StopsAt, IsBadAt}
use Rattle.flow_program.specs.Parsed.{Awaited, IsAdmitted, Parsed, Said, Unsaid, Workers, Asks, BadAt, Given, alone, asks_at, ended, fits, is_whole, met_of, met_with, met_with_other, nothing_given, parsed, parsed_from, parsed_learn, stage_of, with_number, with_other, with_word, workers_given}

-- the words that are not the command's option, and how often that stands there
abbrev others : Verb → List (List ℕ) → List (List ℕ)
others verb words = filter (λ word. not (is_flag verb word)) words

abbrev flags : Verb → List (List ℕ) → ℕ
flags verb words = count_by (is_flag verb) words

flags-append : (verb : Verb) (xs ys : List (List ℕ)) → flags verb (xs ++ ys) ≡ flags verb xs + flags verb ys
flags-append verb xs ys = sum_by-append (λ x. cond (is_flag verb x) 1 0) xs ys

others-append : (verb : Verb) (xs ys : List (List ℕ)) → others verb (xs ++ ys) ≡ others verb xs ++ others verb ys
others-append verb xs ys = filter-append (λ word. not (is_flag verb word)) xs ys

one_flag : (verb : Verb) (word : List ℕ) → flags verb (word ∷ []) ≡ cond (is_flag verb word) 1 0
one_flag verb word = zero-add (cond (is_flag verb word) 1 0)

-- the words that are not the command's option, with one more
more_others : (verb : Verb) (before : List (List ℕ)) (next : List ℕ) (more : List (List ℕ)) → is_flag verb next ≡ false → others verb (before ++ next ∷ more) ≡ others verb before ++ next ∷ others verb more
more_others verb before next more e = others-append verb before (next ∷ more) ∙ ap (λ b. others verb before ++ cond (not b) (next ∷ others verb more) (others verb more)) e

-- a choice that gave something was made by a test that is true
pub chosen : {A : Type 0} (b : Bool) (x : Option A) (y : A) → cond b x None ≡ Some y → (b ≡ true) × (x ≡ Some y)
chosen true x y e = (refl, e)
chosen false x y e = cc

-- a choice is one of the two
pub either : {A : Type 0} (b : Bool) (x y : Option A) (z : Option A) → cond b x y ≡ z → ((b ≡ true) × (x ≡ z)) ⊎ ((b ≡ false) × (y ≡ z))
either true x y z e = inl (refl, e)
either false x y z e = inr (refl, e)

pub both_true : (a b : Bool) → (a && b) ≡ true → (a ≡ true) × (b ≡ true)
both_true true true e = (refl, refl)
both_true true false e = cc
both_true false b e = cc

none_asked : (o : Option Request) → ((wish : Request) → o ≡ Some wish → ⊥) → o ≡ None
none_asked None h = refl
none_asked (Some wish) h = absurd (h wish refl)

not_both : {A : Type 0} (o : Option A) (x : A) → o ≡ None → o ≡ Some x → ⊥
not_both o x none some = let clash : None ≡ Some x = sym none ∙ some in cc

-- a word that fits is asked for, with any number of workers
file_fits : (wish : List ℕ → Request) (word : List ℕ) → is_file word ≡ true → of_file wish word ≡ Some (wish word)
file_fits wish word e = ap (λ b. cond b (Some (wish word)) None) e

counted_fits : (workers : ℕ) (o : Option ℕ) → is_some o ≡ true → (wish : Request) × (option_map (λ n. Demo n workers) o ≡ Some wish)
counted_fits workers None e = cc
counted_fits workers (Some n) e = (Demo n workers, refl)

wish_fits : (verb : Verb) (workers : ℕ) (flag : Bool) (word : List ℕ) → fits verb word ≡ true → (wish : Request) × (wish_of verb workers flag word ≡ Some wish)
wish_fits verb.Sample workers flag word e = (Sample word workers flag, file_fits (λ file. Sample file workers flag) word e)
wish_fits verb.Reconstruct workers flag word e = (Reconstruct word workers flag, file_fits (λ file. Reconstruct file workers flag) word e)
wish_fits verb.Demo workers flag word e = counted_fits workers (count_of word) e

-- and what is asked for fits
counted_some : (workers : ℕ) (o : Option ℕ) (wish : Request) → option_map (λ n. Demo n workers) o ≡ Some wish → is_some o ≡ true
counted_some workers None wish e = cc
counted_some workers (Some n) wish e = refl

fits_wish : (verb : Verb) (workers : ℕ) (flag : Bool) (word : List ℕ) (wish : Request) → wish_of verb workers flag word ≡ Some wish → fits verb word ≡ true
fits_wish verb.Sample workers flag word wish e = (chosen (is_file word) (Some (Sample word workers flag)) wish e).0
fits_wish verb.Reconstruct workers flag word wish e = (chosen (is_file word) (Some (Reconstruct word workers flag)) wish e).0
fits_wish verb.Demo workers flag word wish e = counted_some workers (count_of word) wish e

-- what is asked for has the command's option at most once, and one word beside it
record IsAsked (verb : Verb) (words : List (List ℕ)) : Type 0 where
  few : flags verb words ≤ 1
  word : List ℕ
  alone : others verb words ≡ word ∷ []
  fit : fits verb word ≡ true

one_alone : (wish : List ℕ → Option Request) (words : List (List ℕ)) (asks : Request) → of_one wish words ≡ Some asks → (word : List ℕ) × ((words ≡ word ∷ []) × (wish word ≡ Some asks))
one_alone wish [] asks e = cc
one_alone wish (word ∷ []) asks e = (word, (refl, e))
one_alone wish (word ∷ more ∷ rest) asks e = cc

asked_is : (verb : Verb) (workers : ℕ) (words : List (List ℕ)) (wish : Request) → asked_of verb workers words ≡ Some wish → IsAsked verb words
asked_is verb workers words wish e =
    let flag = list_any (is_flag verb) words in
    let parts = chosen (nat_le (flags verb words) 1) (of_one (wish_of verb workers flag) (others verb words)) wish e in
    let one = one_alone (wish_of verb workers flag) (others verb words) wish parts.1 in
    record { few = leb-true (flags verb words) 1 parts.0; word = one.0; alone = one.1.0; fit = fits_wish verb workers flag one.0 wish one.1.1 }

-- words, and those behind them
prepend : List (List ℕ) → Staffed → Staffed
prepend words staff = record { workers = staff.workers; words = words ++ staff.words }

-- what is made of the words to come, where these words have been read beside the option for workers
ahead : Workers → List (List ℕ) → List (List ℕ) → Option Staffed
ahead Unsaid words more = option_map (prepend words) (staffed more)
ahead Awaited words more = option_map (prepend words) (counted more)
ahead (Said n) words more = Some (record { workers = n; words = words ++ more })

-- these words give this word and this option
record AreGiven (verb : Verb) (words : List (List ℕ)) (word : Option (List ℕ)) (flag : Bool) : Type 0 where
  count : flags verb words ≡ cond flag 1 0
  alone : others verb words ≡ option_to_list word
  fit : IfSome word (λ w. fits verb w ≡ true)
  flagged : list_any (is_flag verb) words ≡ flag

-- what has been read behind a command's name
record HasRead (verb : Verb) (before : List (List ℕ)) (given : Given) : Type 0 where
  words : List (List ℕ)
  splits : (more : List (List ℕ)) → staffed (before ++ more) ≡ ahead given.workers words more
  are : AreGiven verb words given.word given.flag

staffed_alone : (o : Option Staffed) → o ≡ option_map (prepend []) o
unfolding prepend
staffed_alone None = refl
staffed_alone (Some staff) = refl

read_none : (verb : Verb) → HasRead verb [] nothing_given
unfolding ahead
read_none verb = record { words = []; splits = λ more. staffed_alone (staffed more); are = record { count = refl; alone = refl; fit = tt; flagged = refl } }

-- one more word in front of those to come
staffed_behind : (words : List (List ℕ)) (next : List ℕ) (o : Option Staffed) → option_map (prepend words) (option_map (behind next) o) ≡ option_map (prepend (words ++ next ∷ [])) o
unfolding prepend
staffed_behind words next None = refl
staffed_behind words next (Some staff) = ap (λ ws. Some (record { workers = staff.workers; words = ws })) (sym (append_assoc words (next ∷ []) staff.words))

-- a word that is not `--workers`, where no number is awaited
plain_ahead : (w : Workers) (words : List (List ℕ)) (next : List ℕ) (more : List (List ℕ)) → (w ≡ Awaited → ⊥) → is_workers next ≡ false → ahead w words (next ∷ more) ≡ ahead w (words ++ next ∷ []) more
unfolding ahead
plain_ahead Unsaid words next more some e = ap (λ b. option_map (prepend words) (cond b (counted more) (option_map (behind next) (staffed more)))) e ∙ staffed_behind words next (staffed more)
plain_ahead Awaited words next more some e = absurd (some refl)
plain_ahead (Said n) words next more some e = ap (λ ws. Some (record { workers = n; words = ws })) (sym (append_assoc words (next ∷ []) more))

or_false : (b : Bool) → (b || false) ≡ b
or_false true = refl
or_false false = refl

-- the command's option, and another word
given_flag : (verb : Verb) (words : List (List ℕ)) (word : Option (List ℕ)) (next : List ℕ) → is_flag verb next ≡ true → AreGiven verb words word false → AreGiven verb (words ++ next ∷ []) word true
given_flag verb words word next e are = record {
  count = flags-append verb words (next ∷ []) ∙ ap (λ n. n + flags verb (next ∷ [])) are.count ∙ ap (λ n. 0 + n) (one_flag verb next ∙ ap (λ b. cond b 1 0) e);
  alone = others-append verb words (next ∷ []) ∙ ap (λ b. others verb words ++ cond (not b) (next ∷ []) []) e ∙ append-nil (others verb words) ∙ are.alone;
  fit = are.fit;
  flagged = list_any-append (is_flag verb) words (next ∷ []) ∙ ap (λ b. list_any (is_flag verb) words || (b || false)) e ∙ ap (λ b. b || true) are.flagged;
}

given_word : (verb : Verb) (words : List (List ℕ)) (next : List ℕ) (flag : Bool) → is_flag verb next ≡ false → fits verb next ≡ true → AreGiven verb words None flag → AreGiven verb (words ++ next ∷ []) (Some next) flag
given_word verb words next flag e fit are = record {
  count = flags-append verb words (next ∷ []) ∙ ap (λ n. flags verb words + n) (one_flag verb next ∙ ap (λ b. cond b 1 0) e) ∙ add-zero (flags verb words) ∙ are.count;
  alone = others-append verb words (next ∷ []) ∙ ap (λ b. others verb words ++ cond (not b) (next ∷ []) []) e ∙ ap (λ ws. ws ++ next ∷ []) are.alone;
  fit = fit;
  flagged = list_any-append (is_flag verb) words (next ∷ []) ∙ ap (λ b. list_any (is_flag verb) words || (b || false)) e ∙ ap (λ b. b || false) are.flagged ∙ or_false flag;
}

-- what is given, by its parts
abbrev pub given : Option (List ℕ) → Workers → Bool → Given
given word w flag = record { word = word; workers = w; flag = flag }

-- one more word that is neither `--workers` nor the number behind it
other_given : (verb : Verb) (words : List (List ℕ)) (word : Option (List ℕ)) (w : Workers) (flag : Bool) (next : List ℕ) (later : Given) → with_other verb (given word w flag) next ≡ Some later → AreGiven verb words word flag
    → AreGiven verb (words ++ next ∷ []) later.word later.flag × (later.workers ≡ w)
other_given verb words word w flag next later e are =
    elim (either (is_flag verb next) (cond flag None (Some (given word w true))) (cond (fits verb next && is_none word) (Some (given (Some next) w flag)) None) (Some later) e) [
      | inl option ↦ flag_case flag are option.0 option.1
      | inr plain ↦
          let fine = chosen (fits verb next && is_none word) (Some (given (Some next) w flag)) later plain.1 in
          let parts = both_true (fits verb next) (is_none word) fine.0 in
          word_case word are plain.0 parts.0 parts.1 fine.1
    ]
  where
    flag_case : (f : Bool) → AreGiven verb words word f → is_flag verb next ≡ true → cond f None (Some (given word w true)) ≡ Some later → AreGiven verb (words ++ next ∷ []) later.word later.flag × (later.workers ≡ w)
    flag_case true has is took = cc
    flag_case false has is took =
        let same : given word w true ≡ later = cc in
        subst (λ (g : Given). AreGiven verb (words ++ next ∷ []) g.word g.flag × (g.workers ≡ w)) same (given_flag verb words word next is has, refl)

    word_case : (o : Option (List ℕ)) → AreGiven verb words o flag → is_flag verb next ≡ false → fits verb next ≡ true → is_none o ≡ true → Some (given (Some next) w flag) ≡ Some later
        → AreGiven verb (words ++ next ∷ []) later.word later.flag × (later.workers ≡ w)
    word_case None has is fit none took =
        let same : given (Some next) w flag ≡ later = cc in
        subst (λ (g : Given). AreGiven verb (words ++ next ∷ []) g.word g.flag × (g.workers ≡ w)) same (given_word verb words next flag is fit has, refl)
    word_case (Some first) has is fit none took = cc

unsaid_some : Unsaid ≡ Awaited → ⊥
unsaid_some e = cc

said_some : (n : ℕ) → Said n ≡ Awaited → ⊥
said_some n e = cc

-- what has been read, with one more word behind it
longer : (before : List (List ℕ)) (next : List ℕ) (more : List (List ℕ)) → staffed ((before ++ next ∷ []) ++ more) ≡ staffed (before ++ next ∷ more)
longer before next more = ap staffed (append_assoc before (next ∷ []) more)

read_other : (verb : Verb) (before : List (List ℕ)) (word : Option (List ℕ)) (w : Workers) (flag : Bool) (next : List ℕ) (later : Given) → (w ≡ Awaited → ⊥) → is_workers next ≡ false → with_other verb (given word w flag) next ≡ Some later
    → HasRead verb before (given word w flag) → HasRead verb (before ++ next ∷ []) later
read_other verb before word w flag next later some plain e read =
    let more_given = other_given verb read.words word w flag next later e read.are in
    record {
      words = read.words ++ next ∷ [];
      splits = λ more. longer before next more ∙ read.splits (next ∷ more) ∙ plain_ahead w read.words next more some plain ∙ ap (λ (v : Workers). ahead v (read.words ++ next ∷ []) more) (sym more_given.1);
      are = more_given.0;
    }

-- the option for workers
read_option : (verb : Verb) (before : List (List ℕ)) (word : Option (List ℕ)) (flag : Bool) (next : List ℕ) (later : Given) → is_workers next ≡ true → Some (given word Awaited flag) ≡ Some later
    → HasRead verb before (given word Unsaid flag) → HasRead verb (before ++ next ∷ []) later
unfolding ahead
read_option verb before word flag next later is took read =
    let same : given word Awaited flag ≡ later = cc in
    subst (λ (g : Given). HasRead verb (before ++ next ∷ []) g) same (record {
      words = read.words;
      splits = λ more. longer before next more ∙ read.splits (next ∷ more) ∙ ap (λ b. option_map (prepend read.words) (cond b (counted more) (option_map (behind next) (staffed more)))) is;
      are = read.are;
    })

-- the number behind it
pub number_given : (word : Option (List ℕ)) (flag : Bool) (o : Option ℕ) (later : Given) → option_map (λ n. given word (Said n) flag) o ≡ Some later → (n : ℕ) × ((o ≡ Some n) × (given word (Said n) flag ≡ later))
number_given word flag None later e = cc
number_given word flag (Some n) later e = (n, (refl, cc))

read_number : (verb : Verb) (before : List (List ℕ)) (word : Option (List ℕ)) (flag : Bool) (next : List ℕ) (later : Given) → with_number (given word Awaited flag) next ≡ Some later
    → HasRead verb before (given word Awaited flag) → HasRead verb (before ++ next ∷ []) later
unfolding ahead prepend
read_number verb before word flag next later e read =
    let number = number_given word flag (count_of next) later e in
    subst (λ (g : Given). HasRead verb (before ++ next ∷ []) g) number.1.1 (record {
      words = read.words;
      splits = λ more. longer before next more ∙ read.splits (next ∷ more) ∙ ap (λ (o : Option ℕ). option_map (prepend read.words) (option_map (λ n. record { workers = n; words = more }) o)) number.1.0;
      are = read.are;
    })

-- one more word with which admitted words go on
read_on : (verb : Verb) (before : List (List ℕ)) (word : Option (List ℕ)) (w : Workers) (flag : Bool) (next : List ℕ) (later : Given) → with_word verb w (given word w flag) next ≡ Some later
    → HasRead verb before (given word w flag) → HasRead verb (before ++ next ∷ []) later
read_on verb before word Unsaid flag next later e read =
    elim (either (is_workers next) (Some (given word Awaited flag)) (with_other verb (given word Unsaid flag) next) (Some later) e) [
      | inl option ↦ read_option verb before word flag next later option.0 option.1 read
      | inr plain ↦ read_other verb before word Unsaid flag next later unsaid_some plain.0 plain.1 read
    ]
read_on verb before word Awaited flag next later e read = read_number verb before word flag next later e read
read_on verb before word (Said n) flag next later e read =
    elim (either (is_workers next) None (with_other verb (given word (Said n) flag) next) (Some later) e) [
      | inl option ↦ let clash : None ≡ Some later = option.1 in cc
      | inr plain ↦ read_other verb before word (Said n) flag next later (said_some n) plain.0 plain.1 read
    ]

at_most_one : (b : Bool) → cond b 1 0 ≤ 1
at_most_one true = omega arith
at_most_one false = omega arith

-- words that give a word that fits are asked for
given_asked : (verb : Verb) (n : ℕ) (words : List (List ℕ)) (word : List ℕ) (flag : Bool) → AreGiven verb words (Some word) flag → asked_of verb n words ≡ wish_of verb n flag word
given_asked verb n words word flag are =
    let few : nat_le (flags verb words) 1 ≡ true = le-leb (flags verb words) 1 (omega (arith, are.count, at_most_one flag)) in
    ap (λ b. cond b (of_one (wish_of verb n (list_any (is_flag verb) words)) (others verb words)) None) few
    ∙ ap (of_one (wish_of verb n (list_any (is_flag verb) words))) are.alone
    ∙ ap (λ b. wish_of verb n b word) are.flagged

-- the number of workers that is given, where none is awaited
number_of : (w : Workers) → (w ≡ Awaited → ⊥) → (n : ℕ) × (workers_given w ≡ Some n)
number_of Unsaid some = (1, refl)
number_of Awaited some = absurd (some refl)
number_of (Said n) some = (n, refl)

none_ahead : (w : Workers) (words : List (List ℕ)) (n : ℕ) → workers_given w ≡ Some n → ahead w words [] ≡ Some (record { workers = n; words = words })
unfolding ahead prepend
none_ahead Unsaid words n e = let one : 1 ≡ n = cc in ap (λ ws. Some (record { workers = 1; words = ws })) (append-nil words) ∙ ap (λ k. Some (record { workers = k; words = words })) one
none_ahead Awaited words n e = cc
none_ahead (Said k) words n e = let same : k ≡ n = cc in ap (λ ws. Some (record { workers = k; words = ws })) (append-nil words) ∙ ap (λ j. Some (record { workers = j; words = words })) same

-- what has been read is asked for, where it has a word and no number is awaited
read_asked : (verb : Verb) (before : List (List ℕ)) (word : List ℕ) (w : Workers) (flag : Bool) (n : ℕ) → workers_given w ≡ Some n → HasRead verb before (given (Some word) w flag) → asked_verb verb before ≡ wish_of verb n flag word
read_asked verb before word w flag n e read =
    ap (λ ws. asked_verb verb ws) (sym (append-nil before))
    ∙ ap (λ (o : Option Staffed). option_and_then (λ staff. asked_of verb staff.workers staff.words) o) (read.splits [] ∙ none_ahead w read.words n e)
    ∙ given_asked verb n read.words word flag read.are

-- a word of which each command may be asked
example : Verb → List ℕ
example verb.Sample = codes "f"
example verb.Reconstruct = codes "f"
example verb.Demo = codes "1"

example_fits : (verb : Verb) → fits verb (example verb) ≡ true
unfolding example
example_fits verb.Sample = refl
example_fits verb.Reconstruct = refl
example_fits verb.Demo = refl

example_plain : (verb : Verb) → is_flag verb (example verb) ≡ false
unfolding example
example_plain verb.Sample = refl
example_plain verb.Reconstruct = refl
example_plain verb.Demo = refl

example_other : (verb : Verb) → is_workers (example verb) ≡ false
unfolding example
example_other verb.Sample = refl
example_other verb.Reconstruct = refl
example_other verb.Demo = refl

-- what is given with that word
with_example : (verb : Verb) (w : Workers) (flag : Bool) → with_other verb (given None w flag) (example verb) ≡ Some (given (Some (example verb)) w flag)
with_example verb w flag =
    ap (λ b. cond b (cond flag None (Some (given None w true))) (cond (fits verb (example verb) && true) (Some (given (Some (example verb)) w flag)) None)) (example_plain verb)
    ∙ ap (λ b. cond (b && true) (Some (given (Some (example verb)) w flag)) None) (example_fits verb)

-- What has been read goes on to words that ask for something.
front_word : (verb : Verb) (before : List (List ℕ)) (word : List ℕ) (w : Workers) (flag : Bool) (n : ℕ) → workers_given w ≡ Some n → HasRead verb before (given (Some word) w flag) → IsFront (asked_verb verb) before
front_word verb before word w flag n e read =
    let wish = wish_fits verb n flag word read.are.fit in
    ([], wish.0, ap (λ ws. asked_verb verb ws) (append-nil before) ∙ read_asked verb before word w flag n e read ∙ wish.1)

-- a front with one more word is a front without it
shorter : (grammar : Grammar) (before : List (List ℕ)) (next : List ℕ) → IsFront grammar (before ++ next ∷ []) → IsFront grammar before
shorter grammar before next front = (next ∷ front.0, front.1, ap grammar (sym (append_assoc before (next ∷ []) front.0)) ∙ front.2)

front_number : (verb : Verb) (before : List (List ℕ)) (word : Option (List ℕ)) (w : Workers) (flag : Bool) (n : ℕ) → (w ≡ Awaited → ⊥) → workers_given w ≡ Some n → HasRead verb before (given word w flag) → IsFront (asked_verb verb) before
front_number verb before (Some word) w flag n some e read = front_word verb before word w flag n e read
front_number verb before None w flag n some e read =
    shorter (asked_verb verb) before (example verb) (front_word verb (before ++ example verb ∷ []) (example verb) w flag n e
    (read_other verb before None w flag (example verb) (given (Some (example verb)) w flag) some (example_other verb) (with_example verb w flag) read))

front_of : (verb : Verb) (before : List (List ℕ)) (word : Option (List ℕ)) (w : Workers) (flag : Bool) → HasRead verb before (given word w flag) → IsFront (asked_verb verb) before
front_of verb before word Unsaid flag read = front_number verb before word Unsaid flag 1 unsaid_some refl read
front_of verb before word Awaited flag read =
    shorter (asked_verb verb) before (codes "1") (front_number verb (before ++ codes "1" ∷ []) word (Said 1) flag 1 (said_some 1) refl
    (read_number verb before word flag (codes "1") (given word (Said 1) flag) refl read))
front_of verb before word (Said n) flag read = front_number verb before word (Said n) flag n (said_some n) refl read

-- a front of a front is one
front_take : (grammar : Grammar) (words : List (List ℕ)) (j : ℕ) → IsFront grammar words → IsFront grammar (take j words)
front_take grammar words j front = (drop j words ++ front.0, front.1, ap grammar (sym (append_assoc (take j words) (drop j words) front.0) ∙ ap (λ ws. ws ++ front.0) (take-append-drop j words)) ∙ front.2)

-- words that stop at a word with which nothing that is asked for goes on
stops_here : (grammar : Grammar) (before : List (List ℕ)) (next : List ℕ) (rest : List (List ℕ)) → IsFront grammar before → ((more : List (List ℕ)) (wish : Request) → grammar (before ++ next ∷ more) ≡ Some wish → ⊥)
    → StopsAt grammar (before ++ next ∷ rest) (length before + 1)
stops_here grammar before next rest front clash = record {
  refused = none_asked (grammar (before ++ next ∷ rest)) (λ wish is. clash rest wish is);
  fronts = λ j below. subst (IsFront grammar) (sym (take-append-le j before (next ∷ rest) (omega arith))) (front_take grammar before j front);
  breaks = λ within further.
      let whole = subst (IsFront grammar) (take-append-add before (next ∷ rest) 1) further in
      clash whole.0 whole.1 (ap grammar (sym (append_assoc before (next ∷ []) whole.0)) ∙ whole.2);
  within = omega (arith, length-append before (next ∷ rest));
}

-- words that end before anything is asked for
stops_end : (grammar : Grammar) (words : List (List ℕ)) → IsFront grammar words → ((wish : Request) → grammar words ≡ Some wish → ⊥) → StopsAt grammar words (length words + 1)
stops_end grammar words front clash = record {
  refused = none_asked (grammar words) clash;
  fronts = λ j below. front_take grammar words j front;
  breaks = λ within further. absurd (omega arith);
  within = omega arith;
}

-- what is asked for is what these words ask for with so many workers
and_then_some : (verb : Verb) (o : Option Staffed) (wish : Request) → option_and_then (λ staff. asked_of verb staff.workers staff.words) o ≡ Some wish → (staff : Staffed) × ((o ≡ Some staff) × (asked_of verb staff.workers staff.words ≡ Some wish))
and_then_some verb None wish e = cc
and_then_some verb (Some staff) wish e = (staff, (refl, e))

-- the words to come stand behind those that have been read
comes_behind : (words : List (List ℕ)) (next : List ℕ) (o : Option Staffed) (staff : Staffed) → option_map (prepend words) (option_map (behind next) o) ≡ Some staff → (rest : List (List ℕ)) × (staff.words ≡ words ++ next ∷ rest)
unfolding prepend
comes_behind words next None staff e = cc
comes_behind words next (Some later) staff e =
    let same : record { workers = later.workers; words = words ++ next ∷ later.words } ≡ staff = cc in
    (later.words, sym (ap (λ (s : Staffed). s.words) same))

-- a second option of the command is asked for by nothing
twice : (verb : Verb) (words : List (List ℕ)) (word : Option (List ℕ)) (next : List ℕ) → is_flag verb next ≡ true → AreGiven verb words word true → (rest : List (List ℕ)) → IsAsked verb (words ++ next ∷ rest) → ⊥
twice verb words word next e are rest asks =
    let one : flags verb (next ∷ []) ≡ 1 = one_flag verb next ∙ ap (λ b. cond b 1 0) e in
    omega (arith, flags-append verb words (next ∷ rest), flags-append verb (next ∷ []) rest, one, are.count, asks.few)

-- a word beside another is asked for by nothing, and one that doesn't fit neither
beside : (verb : Verb) (words : List (List ℕ)) (word next : List ℕ) (flag : Bool) → is_flag verb next ≡ false → AreGiven verb words (Some word) flag → (rest : List (List ℕ)) → IsAsked verb (words ++ next ∷ rest) → ⊥
beside verb words word next flag e are rest asks =
    let two : word ∷ next ∷ others verb rest ≡ asks.word ∷ [] = ap (λ ws. ws ++ next ∷ others verb rest) (sym are.alone) ∙ sym (more_others verb words next rest e) ∙ asks.alone in cc

unfit : (verb : Verb) (words : List (List ℕ)) (word : Option (List ℕ)) (next : List ℕ) (flag : Bool) → is_flag verb next ≡ false → fits verb next ≡ false → AreGiven verb words word flag → (rest : List (List ℕ)) → IsAsked verb (words ++ next ∷ rest) → ⊥
unfit verb words None next flag e f are rest asks =
    let one : next ∷ others verb rest ≡ asks.word ∷ [] = ap (λ ws. ws ++ next ∷ others verb rest) (sym are.alone) ∙ sym (more_others verb words next rest e) ∙ asks.alone in
    let same : next ≡ asks.word = cc in
    false≢true (sym f ∙ ap (fits verb) same ∙ asks.fit)
unfit verb words (Some word) next flag e f are rest asks = beside verb words word next flag e are rest asks

-- a word that is neither `--workers` nor the number behind it, with which nothing goes on
other_clash : (verb : Verb) (words : List (List ℕ)) (word : Option (List ℕ)) (w : Workers) (flag : Bool) (next : List ℕ) → with_other verb (given word w flag) next ≡ None → AreGiven verb words word flag → (rest : List (List ℕ)) → IsAsked verb (words ++ next ∷ rest) → ⊥
other_clash verb words word w flag next e are rest asks =
    elim (either (is_flag verb next) (cond flag None (Some (given word w true))) (cond (fits verb next && is_none word) (Some (given (Some next) w flag)) None) None e) [
      | inl option ↦ flag_case flag option.0 option.1 are
      | inr plain ↦ elim (cases_Bool (fits verb next)) [
        | inl fit ↦ word_case word plain.0 (ap (λ b. cond (b && is_none word) (Some (given (Some next) w flag)) None) (sym fit) ∙ plain.1) are
        | inr unlike ↦ unfit verb words word next flag plain.0 unlike are rest asks
      ]
    ]
  where
    flag_case : (f : Bool) → is_flag verb next ≡ true → cond f None (Some (given word w true)) ≡ None → AreGiven verb words word f → ⊥
    flag_case true is none has = twice verb words word next is has rest asks
    flag_case false is none has = cc

    word_case : (o : Option (List ℕ)) → is_flag verb next ≡ false → cond (true && is_none o) (Some (given (Some next) w flag)) None ≡ None → AreGiven verb words o flag → ⊥
    word_case None is none has = cc
    word_case (Some first) is none has = beside verb words first next flag is has rest asks

-- `--workers` is no option of one word, and no word of which a command may be asked
workers_word : (next : List ℕ) → is_workers next ≡ true → next ≡ codes "--workers"
workers_word next e = (bytes_decides next (codes "--workers")).0 e

workers_plain : (verb : Verb) → is_flag verb (codes "--workers") ≡ false
workers_plain verb.Sample = refl
workers_plain verb.Reconstruct = refl
workers_plain verb.Demo = refl

workers_unfit : (verb : Verb) → fits verb (codes "--workers") ≡ false
workers_unfit verb.Sample = refl
workers_unfit verb.Reconstruct = refl
workers_unfit verb.Demo = refl

-- a second number of workers is asked for by nothing
workers_twice : (verb : Verb) (words : List (List ℕ)) (word : Option (List ℕ)) (flag : Bool) (next : List ℕ) → is_workers next ≡ true → AreGiven verb words word flag → (rest : List (List ℕ)) → IsAsked verb (words ++ next ∷ rest) → ⊥
workers_twice verb words word flag next e are rest asks =
    let same = workers_word next e in
    unfit verb words word next flag (ap (is_flag verb) same ∙ workers_plain verb) (ap (fits verb) same ∙ workers_unfit verb) are rest asks

none_counted : (word : Option (List ℕ)) (flag : Bool) (o : Option ℕ) → option_map (λ n. given word (Said n) flag) o ≡ None → o ≡ None
none_counted word flag None e = refl
none_counted word flag (Some n) e = cc

word_clash : (verb : Verb) (before : List (List ℕ)) (word : Option (List ℕ)) (w : Workers) (flag : Bool) (next : List ℕ) → with_word verb w (given word w flag) next ≡ None → HasRead verb before (given word w flag)
    → (more : List (List ℕ)) (wish : Request) → asked_verb verb (before ++ next ∷ more) ≡ Some wish → ⊥
unfolding ahead
word_clash verb before word Unsaid flag next e read more wish asks =
    let staff = and_then_some verb (staffed (before ++ next ∷ more)) wish asks in
    elim (either (is_workers next) (Some (given word Awaited flag)) (with_other verb (given word Unsaid flag) next) None e) [
      | inl option ↦ let clash : Some (given word Awaited flag) ≡ None = option.1 in cc
      | inr plain ↦
          let come : option_map (prepend read.words) (option_map (behind next) (staffed more)) ≡ Some staff.0 =
          ap (λ b. option_map (prepend read.words) (cond b (counted more) (option_map (behind next) (staffed more)))) (sym plain.0) ∙ sym (read.splits (next ∷ more)) ∙ staff.1.0 in
          let rest = comes_behind read.words next (staffed more) staff.0 come in
          other_clash verb read.words word Unsaid flag next plain.1 read.are rest.0 (subst (IsAsked verb) rest.1 (asked_is verb staff.0.workers staff.0.words wish staff.1.1))
    ]
word_clash verb before word Awaited flag next e read more wish asks =
    let staff = and_then_some verb (staffed (before ++ next ∷ more)) wish asks in
    let none = none_counted word flag (count_of next) e in
    not_both (staffed (before ++ next ∷ more)) staff.0 (read.splits (next ∷ more) ∙ ap (λ (p : Option ℕ). option_map (prepend read.words) (option_map (λ n. record { workers = n; words = more }) p)) none) staff.1.0
word_clash verb before word (Said n) flag next e read more wish asks =
    let staff = and_then_some verb (staffed (before ++ next ∷ more)) wish asks in
    let both : Some (record { workers = n; words = read.words ++ next ∷ more }) ≡ Some staff.0 = sym (read.splits (next ∷ more)) ∙ staff.1.0 in
    let same : record { workers = n; words = read.words ++ next ∷ more } ≡ staff.0 = cc in
    let behind_them : IsAsked verb (read.words ++ next ∷ more) = subst (IsAsked verb) (sym (ap (λ (s : Staffed). s.words) same)) (asked_is verb staff.0.workers staff.0.words wish staff.1.1) in
    elim (either (is_workers next) None (with_other verb (given word (Said n) flag) next) None e) [
      | inl option ↦ workers_twice verb read.words word flag next option.0 read.are more behind_them
      | inr plain ↦ other_clash verb read.words word (Said n) flag next plain.1 read.are more behind_them
    ]

next_place : (k : ℕ) (before : List (List ℕ)) (next : List ℕ) → k ≡ length before + 2 → k + 1 ≡ length (before ++ next ∷ []) + 2
next_place k before next e = omega (arith, length-append before (next ∷ []), e)

-- what a place or a wish says of the words behind a command's name
Means : Grammar → Parsed → List (List ℕ) → Type 0
Means grammar (Asks wish) words = grammar words ≡ Some wish
Means grammar (BadAt place) words = (k : ℕ) × (place ≡ k + 1) × StopsAt grammar words k

bad_means : (grammar : Grammar) (words : List (List ℕ)) (place k : ℕ) → place ≡ k + 1 → StopsAt grammar words k → Means grammar (BadAt place) words
unfolding Means
bad_means grammar words place k e stops = (k, e, stops)

asks_mean : (grammar : Grammar) (words : List (List ℕ)) (wish : Request) → grammar words ≡ Some wish → Means grammar (Asks wish) words
unfolding Means
asks_mean grammar words wish e = e

-- words that end where something is still to come
unfinished : (verb : Verb) (before : List (List ℕ)) (word : Option (List ℕ)) (w : Workers) (flag : Bool) (place : ℕ) → HasRead verb before (given word w flag) → place ≡ length before + 2 → ((wish : Request) → asked_verb verb before ≡ Some wish → ⊥)
    → Means (asked_verb verb) (BadAt place) before
unfinished verb before word w flag place read at clash = bad_means (asked_verb verb) before place (length before + 1) (omega (arith, at)) (stops_end (asked_verb verb) before (front_of verb before word w flag read) clash)

-- no word is asked for
no_word : (verb : Verb) (before : List (List ℕ)) (w : Workers) (flag : Bool) (n : ℕ) → workers_given w ≡ Some n → HasRead verb before (given None w flag) → (wish : Request) → asked_verb verb before ≡ Some wish → ⊥
no_word verb before w flag n e read wish asks =
    let staff = and_then_some verb (staffed before) wish asks in
    let both : Some (record { workers = n; words = read.words }) ≡ Some staff.0 = sym (ap staffed (sym (append-nil before)) ∙ read.splits [] ∙ none_ahead w read.words n e) ∙ staff.1.0 in
    let same : record { workers = n; words = read.words } ≡ staff.0 = cc in
    let asked_for : IsAsked verb read.words = subst (IsAsked verb) (sym (ap (λ (s : Staffed). s.words) same)) (asked_is verb staff.0.workers staff.0.words wish staff.1.1) in
    let clash : [] ≡ asked_for.word ∷ [] = sym read.are.alone ∙ asked_for.alone in cc

-- a number is awaited
no_number : (verb : Verb) (before : List (List ℕ)) (word : Option (List ℕ)) (flag : Bool) → HasRead verb before (given word Awaited flag) → (wish : Request) → asked_verb verb before ≡ Some wish → ⊥
unfolding ahead
no_number verb before word flag read wish asks =
    let staff = and_then_some verb (staffed before) wish asks in
    not_both (staffed before) staff.0 (ap staffed (sym (append-nil before)) ∙ read.splits []) staff.1.0

-- the end of the words
word_ends : (verb : Verb) (before : List (List ℕ)) (word : List ℕ) (w : Workers) (flag : Bool) (k n : ℕ) → workers_given w ≡ Some n → HasRead verb before (given (Some word) w flag) → Means (asked_verb verb) (asks_at k (wish_of verb n flag word)) before
word_ends verb before word w flag k n e read =
    let wish = wish_fits verb n flag word read.are.fit in
    subst (λ (o : Option Request). Means (asked_verb verb) (asks_at k o) before) (sym wish.1) (asks_mean (asked_verb verb) before wish.0 (read_asked verb before word w flag n e read ∙ wish.1))

end_means : (verb : Verb) (before : List (List ℕ)) (word : Option (List ℕ)) (w : Workers) (flag : Bool) (k : ℕ) → HasRead verb before (given word w flag) → k ≡ length before + 2 → Means (asked_verb verb) (ended verb k (given word w flag)) before
end_means verb before (Some word) Unsaid flag k read at = word_ends verb before word Unsaid flag k 1 refl read
end_means verb before (Some word) Awaited flag k read at = unfinished verb before (Some word) Awaited flag k read at (no_number verb before (Some word) flag read)
end_means verb before (Some word) (Said n) flag k read at = word_ends verb before word (Said n) flag k n refl read
end_means verb before None Unsaid flag k read at = unfinished verb before None Unsaid flag k read at (no_word verb before Unsaid flag 1 refl read)
end_means verb before None Awaited flag k read at = unfinished verb before None Awaited flag k read at (no_number verb before None flag read)
end_means verb before None (Said n) flag k read at = unfinished verb before None (Said n) flag k read at (no_word verb before (Said n) flag n refl read)

-- one more word is read, or the words stop there
after_word : (verb : Verb) (k : ℕ) (rest words : List (List ℕ)) (o : Option Given) → ((later : Given) → o ≡ Some later → Means (asked_verb verb) (parsed_from verb (k + 1) later rest) words) → (o ≡ None → Means (asked_verb verb) (BadAt k) words)
    → Means (asked_verb verb) (elim o [ None ↦ BadAt k | Some next ↦ parsed_from verb (k + 1) next rest ]) words
after_word verb k rest words None goes stops = stops refl
after_word verb k rest words (Some later) goes stops = goes later refl

-- the words behind a command's name, the first of which have been read
scan : (verb : Verb) (rest before : List (List ℕ)) (word : Option (List ℕ)) (w : Workers) (flag : Bool) (k : ℕ) → HasRead verb before (given word w flag) → k ≡ length before + 2
    → Means (asked_verb verb) (parsed_from verb k (given word w flag) rest) (before ++ rest)
scan verb [] before word w flag k read at = subst (λ (ws : List (List ℕ)). Means (asked_verb verb) (ended verb k (given word w flag)) ws) (sym (append-nil before)) (end_means verb before word w flag k read at)
scan verb (next ∷ rest) before word w flag k read at =
    after_word verb k rest (before ++ next ∷ rest) (with_word verb w (given word w flag) next)
    (λ later e. subst (λ (ws : List (List ℕ)). Means (asked_verb verb) (parsed_from verb (k + 1) later rest) ws) (append_assoc before (next ∷ []) rest)
    (scan verb rest (before ++ next ∷ []) later.word later.workers later.flag (k + 1) (read_on verb before word w flag next later e read) (next_place k before next at)))
    (λ e. bad_means (asked_verb verb) (before ++ next ∷ rest) k (length before + 1) (omega (arith, at)) (stops_here (asked_verb verb) before next rest (front_of verb before word w flag read) (word_clash verb before word w flag next e read)))

-- the words behind the name of a command that takes workers
verb_means : (verb : Verb) (rest : List (List ℕ)) → Means (asked_verb verb) (parsed_from verb 2 nothing_given rest) rest
verb_means verb rest = scan verb rest [] None Unsaid false 2 (read_none verb) refl

-- a word that names no file is asked for by nothing
unasked : (file : List ℕ) → is_file file ≡ false → (rest : List (List ℕ)) → asked_learn (file ∷ rest) ≡ None
unasked file e [] = ap (λ b. cond b (Some (Learn file)) None) e
unasked file e (more ∷ rest) = refl

-- words behind a file are asked for by nothing
file_means : (file : List ℕ) (rest : List (List ℕ)) → is_file file ≡ true → Means asked_learn (alone 3 (Learn file) rest) (file ∷ rest)
unfolding Means
file_means file [] e = file_fits Learn file e
file_means file (more ∷ rest) e = (2, refl, stops_here asked_learn (file ∷ []) more rest ([], Learn file, file_fits Learn file e) (λ further other is. cc))

-- the words behind `learn`
learn_means : (rest : List (List ℕ)) → Means asked_learn (parsed_learn rest) rest
unfolding Means
learn_means [] = (1, refl, stops_end asked_learn [] (codes "f" ∷ [], Learn (codes "f"), refl) (λ other is. cc))
learn_means (file ∷ rest) =
    elim (cases_Bool (is_file file)) [
      | inl e ↦ subst (λ b. Means asked_learn (cond b (alone 3 (Learn file) rest) (BadAt 2)) (file ∷ rest)) (sym e) (file_means file rest e)
      | inr e ↦ subst (λ b. Means asked_learn (cond b (alone 3 (Learn file) rest) (BadAt 2)) (file ∷ rest)) (sym e)
          (1, refl, stops_here asked_learn [] file rest (codes "f" ∷ [], Learn (codes "f"), refl) (λ more other is. not_both (asked_learn (file ∷ more)) other (unasked file e more) is))
    ]

-- no words ask for nothing yet, and may go on
pub no_words : IsFront asked []
no_words = (codes "learn" ∷ codes "f" ∷ [], Learn (codes "f"), refl)

-- words whose first is a command's name stop where those behind it do
behind_name : (grammar : Grammar) (name : List ℕ) (rest : List (List ℕ)) (k : ℕ) → ((words : List (List ℕ)) → asked (name ∷ words) ≡ grammar words) → StopsAt grammar rest k → IsBadAt (name ∷ rest) (suc k)
behind_name grammar name rest k same stops = record {
  refused = same rest ∙ stops.refused;
  fronts = λ j below. fronts j below;
  breaks = λ within front. stops.breaks (omega arith) (front.0, front.1, sym (same (take k rest ++ front.0)) ∙ front.2);
  within = omega (arith, stops.within);
}
  where
    fronts : (j : ℕ) → j < suc k → IsFront asked (take j (name ∷ rest))
    fronts zero below = no_words
    fronts (suc j) below =
        let front = stops.fronts j (omega arith) in
        (front.0, front.1, same (take j rest ++ front.0) ∙ front.2)

-- what reading the words behind a command's name says of all words
RightlyRead : Parsed → List (List ℕ) → Type 0
RightlyRead (Asks wish) words = asked words ≡ Some wish
RightlyRead (BadAt place) words = IsBadAt words place

named_means : (grammar : Grammar) (name : List ℕ) (rest : List (List ℕ)) (found : Parsed) → ((words : List (List ℕ)) → asked (name ∷ words) ≡ grammar words) → Means grammar found rest → RightlyRead found (name ∷ rest)
unfolding Means RightlyRead
named_means grammar name rest (Asks wish) same means = same rest ∙ means
named_means grammar name rest (BadAt place) same means = subst (λ (p : ℕ). IsBadAt (name ∷ rest) p) (omega (arith, means.1)) (behind_name grammar name rest means.0 same means.2)

-- a first word that is no command's name
unnamed_means : (name : List ℕ) (rest : List (List ℕ)) → ((words : List (List ℕ)) → asked (name ∷ words) ≡ None) → IsBadAt (name ∷ rest) 1
unnamed_means name rest none = stops_here asked [] name rest no_words (λ more wish is. let nothing : asked (name ∷ more) ≡ None = none more in cc)

-- the words behind this name are those of one command, or else are asked for by others
one_command : (name : List ℕ) (rest : List (List ℕ)) (b : Bool) (grammar others : Grammar) (found other : Parsed) → ((words : List (List ℕ)) → asked (name ∷ words) ≡ cond b (grammar words) (others words)) → Means grammar found rest
    → (((words : List (List ℕ)) → asked (name ∷ words) ≡ others words) → RightlyRead other (name ∷ rest)) → RightlyRead (cond b found other) (name ∷ rest)
one_command name rest true grammar others found other same means next = named_means grammar name rest found same means
one_command name rest false grammar others found other same means next = next same

-- what reading all words says of them
read_means : (words : List (List ℕ)) → RightlyRead (parsed words) words
unfolding RightlyRead
read_means [] = stops_end asked [] no_words (λ wish is. cc)
read_means (name ∷ rest) =
    let fourth : Grammar = λ words. cond (bytes_eq name (codes "demo")) (asked_verb verb.Demo words) None in
    let third : Grammar = λ words. cond (bytes_eq name (codes "reconstruct")) (asked_verb verb.Reconstruct words) (fourth words) in
    let second : Grammar = λ words. cond (bytes_eq name (codes "learn")) (asked_learn words) (third words) in
    let fourth_found = cond (bytes_eq name (codes "demo")) (parsed_from verb.Demo 2 nothing_given rest) (BadAt 1) in
    let third_found = cond (bytes_eq name (codes "reconstruct")) (parsed_from verb.Reconstruct 2 nothing_given rest) fourth_found in
    let second_found = cond (bytes_eq name (codes "learn")) (parsed_learn rest) third_found in
    one_command name rest (bytes_eq name (codes "sample")) (asked_verb verb.Sample) second (parsed_from verb.Sample 2 nothing_given rest) second_found (λ words. refl) (verb_means verb.Sample rest)
    (λ same. one_command name rest (bytes_eq name (codes "learn")) asked_learn third (parsed_learn rest) third_found same (learn_means rest)
    (λ same. one_command name rest (bytes_eq name (codes "reconstruct")) (asked_verb verb.Reconstruct) fourth (parsed_from verb.Reconstruct 2 nothing_given rest) fourth_found same (verb_means verb.Reconstruct rest)
    (λ same. one_command name rest (bytes_eq name (codes "demo")) (asked_verb verb.Demo) (λ words. None) (parsed_from verb.Demo 2 nothing_given rest) (BadAt 1) same (verb_means verb.Demo rest)
    (λ none. unnamed_means name rest none))))

pub parsed_bad : (words : List (List ℕ)) (k : ℕ) → parsed words ≡ BadAt k → IsBadAt words k
unfolding RightlyRead
parsed_bad words k is = subst (λ (p : Parsed). RightlyRead p words) is (read_means words)

pub parsed_asks : (words : List (List ℕ)) (wish : Request) → parsed words ≡ Asks wish → asked words ≡ Some wish
unfolding RightlyRead
parsed_asks words wish is = subst (λ (p : Parsed). RightlyRead p words) is (read_means words)

-- Of two places the lesser breaks where the greater still goes on, so there is one.
not_before : (words : List (List ℕ)) (j k : ℕ) → IsBadAt words j → IsBadAt words k → j < k → ⊥
not_before words j k at_j at_k below =
    let within : j ≤ length words = omega (arith, at_k.within) in at_j.breaks within (at_k.fronts j below)

pub one_bad_place : (words : List (List ℕ)) (j k : ℕ) → IsBadAt words j → IsBadAt words k → j ≡ k
one_bad_place words j k at_j at_k =
    let upper : j < k → ⊥ = not_before words j k at_j at_k in
    let lower : k < j → ⊥ = not_before words k j at_k at_j in
    omega (arith, upper, lower)

-- digits write at least what those before them write
after-le : (n : ℕ) (ds : List ℕ) → n ≤ digits_value_after 10 n ds
after-le n [] = omega arith
after-le n (d ∷ ds) = omega (arith, after-le (n * 10 + digit_value d) ds)

positive_digit : (byte : ℕ) → is_ascii_digit byte ≡ true → nat_eq byte 48 ≡ false → 1 ≤ digit_value byte
positive_digit byte digit other = grind (arith, nat_tests)

-- a number below 17 that doesn't begin with a zero is from 1 to 16
narrowed : (v n : ℕ) → narrow 17 v ≡ Some n → (v ≡ n) × (v ≤ 16)
narrowed v n e =
    let parts = chosen (nat_lt v 17) (Some v) n e in
    let low : v < 17 = ltb-true v 17 parts.0 in
    (let both = parts.1 in cc, omega arith)

number_narrowed : (o : Option ℕ) (n : ℕ) → option_and_then (narrow 17) o ≡ Some n → (v : ℕ) × ((o ≡ Some v) × (narrow 17 v ≡ Some n))
number_narrowed None n e = cc
number_narrowed (Some v) n e = (v, (refl, e))

-- a count that doesn't begin with a zero is written in digits
pub counted_digits : (first : ℕ) (rest : List ℕ) (n : ℕ) → number_below 17 (first ∷ rest) ≡ Some n → (list_all is_ascii_digit (first ∷ rest) ≡ true) × (digits_value 10 (first ∷ rest) ≡ n)
counted_digits first rest n e =
    let found = number_narrowed (number_in (first ∷ rest)) n e in
    let digits = chosen (list_all is_ascii_digit (first ∷ rest)) (Some (digits_value 10 (first ∷ rest))) found.0 found.1.0 in
    let whole : digits_value 10 (first ∷ rest) ≡ found.0 = let both = digits.1 in cc in
    (digits.0, whole ∙ (narrowed found.0 n found.1.1).0)

counted_from : (first : ℕ) (rest : List ℕ) (n : ℕ) → nat_eq first 48 ≡ false → number_below 17 (first ∷ rest) ≡ Some n → IsCount n
counted_from first rest n other e =
    let found = number_narrowed (number_in (first ∷ rest)) n e in
    let digits = chosen (list_all is_ascii_digit (first ∷ rest)) (Some (digits_value 10 (first ∷ rest))) found.0 found.1.0 in
    let whole : digits_value 10 (first ∷ rest) ≡ found.0 = let both = digits.1 in cc in
    let ends = narrowed found.0 n found.1.1 in
    let one = positive_digit first (both_true (is_ascii_digit first) (list_all is_ascii_digit rest) digits.0).0 other in
    let least = after-le (0 * 10 + digit_value first) rest in
    (omega (arith, whole, ends.0, one, least), omega (arith, ends.0, ends.1))

pub count_is : (word : List ℕ) (n : ℕ) → count_of word ≡ Some n → IsCount n
count_is [] n e = cc
count_is (first ∷ rest) n e =
    elim (either (nat_eq first 48) None (number_below 17 (first ∷ rest)) (Some n) e) [
      | inl none ↦ let clash : None ≡ Some n = none.1 in cc
      | inr other ↦ counted_from first rest n other.0 other.1
    ]

-- the number of workers that is given is such
counted_workers : (o : Option ℕ) (rest : List (List ℕ)) (staff : Staffed) → ((n : ℕ) → o ≡ Some n → IsCount n) → option_map (λ workers. record { workers = workers; words = rest }) o ≡ Some staff → IsCount staff.workers
counted_workers None rest staff counts e = cc
counted_workers (Some n) rest staff counts e = let same : record { workers = n; words = rest } ≡ staff = cc in subst (λ (s : Staffed). IsCount s.workers) same (counts n refl)

counted_is : (words : List (List ℕ)) (staff : Staffed) → counted words ≡ Some staff → IsCount staff.workers
counted_is [] staff e = cc
counted_is (number ∷ rest) staff e = counted_workers (count_of number) rest staff (count_is number) e

behind_is : (word : List ℕ) (o : Option Staffed) (staff : Staffed) → ((s : Staffed) → o ≡ Some s → IsCount s.workers) → option_map (behind word) o ≡ Some staff → IsCount staff.workers
behind_is word None staff counts e = cc
behind_is word (Some s) staff counts e = let same : behind word s ≡ staff = cc in subst (λ (t : Staffed). IsCount t.workers) same (counts s refl)

staffed_is : (words : List (List ℕ)) (staff : Staffed) → staffed words ≡ Some staff → IsCount staff.workers
staffed_is [] staff e = let same : record { workers = 1; words = [] } ≡ staff = cc in subst (λ (s : Staffed). IsCount s.workers) same (omega arith, omega arith)
staffed_is (word ∷ rest) staff e =
    elim (either (is_workers word) (counted rest) (option_map (behind word) (staffed rest)) (Some staff) e) [
      | inl option ↦ counted_is rest staff option.1
      | inr other ↦ behind_is word (staffed rest) staff (λ s is. staffed_is rest s is) other.1
    ]

-- what is wished has the number of workers, and the size of a demo is such
file_wish : (wish : List ℕ → Request) (word : List ℕ) (asks : Request) → HasCounts (wish word) → of_file wish word ≡ Some asks → HasCounts asks
file_wish wish word asks counts e = let both = (chosen (is_file word) (Some (wish word)) asks e).1 in let same : wish word ≡ asks = cc in subst HasCounts same counts

demo_wish : (workers : ℕ) (o : Option ℕ) (asks : Request) → IsCount workers → ((n : ℕ) → o ≡ Some n → IsCount n) → option_map (λ n. Demo n workers) o ≡ Some asks → HasCounts asks
demo_wish workers None asks counts size e = cc
demo_wish workers (Some n) asks counts size e = let same : Demo n workers ≡ asks = cc in subst HasCounts same (size n refl, counts)

wish_counts : (verb : Verb) (workers : ℕ) (flag : Bool) (word : List ℕ) (asks : Request) → IsCount workers → wish_of verb workers flag word ≡ Some asks → HasCounts asks
wish_counts verb.Sample workers flag word asks counts e = file_wish (λ file. Sample file workers flag) word asks counts e
wish_counts verb.Reconstruct workers flag word asks counts e = file_wish (λ file. Reconstruct file workers flag) word asks counts e
wish_counts verb.Demo workers flag word asks counts e = demo_wish workers (count_of word) asks counts (count_is word) e

verb_counts : (verb : Verb) (rest : List (List ℕ)) (asks : Request) → asked_verb verb rest ≡ Some asks → HasCounts asks
verb_counts verb rest asks e =
    let staff = and_then_some verb (staffed rest) asks e in
    let words = staff.0.words in
    let flag = list_any (is_flag verb) words in
    let parts = chosen (nat_le (flags verb words) 1) (of_one (wish_of verb staff.0.workers flag) (others verb words)) asks staff.1.1 in
    let one = one_alone (wish_of verb staff.0.workers flag) (others verb words) asks parts.1 in
    wish_counts verb staff.0.workers flag one.0 asks (staffed_is rest staff.0 staff.1.0) one.1.1

learn_counts : (rest : List (List ℕ)) (asks : Request) → asked_learn rest ≡ Some asks → HasCounts asks
learn_counts rest asks e = let one = one_alone (of_file Learn) rest asks e in file_wish Learn one.0 asks tt one.1.1

-- the numbers of what is asked for are from 1 to 16
pub asked_counts : (words : List (List ℕ)) (asks : Request) → asked words ≡ Some asks → HasCounts asks
asked_counts [] asks e = cc
asked_counts (name ∷ rest) asks e =
    let fourth = cond (bytes_eq name (codes "demo")) (asked_verb verb.Demo rest) None in
    let third = cond (bytes_eq name (codes "reconstruct")) (asked_verb verb.Reconstruct rest) fourth in
    let second = cond (bytes_eq name (codes "learn")) (asked_learn rest) third in
    elim (either (bytes_eq name (codes "sample")) (asked_verb verb.Sample rest) second (Some asks) e) [
      | inl is ↦ verb_counts verb.Sample rest asks is.1
      | inr no_sample ↦ elim (either (bytes_eq name (codes "learn")) (asked_learn rest) third (Some asks) no_sample.1) [
        | inl is ↦ learn_counts rest asks is.1
        | inr no_learn ↦ elim (either (bytes_eq name (codes "reconstruct")) (asked_verb verb.Reconstruct rest) fourth (Some asks) no_learn.1) [
          | inl is ↦ verb_counts verb.Reconstruct rest asks is.1
          | inr no_other ↦ verb_counts verb.Demo rest asks (chosen (bytes_eq name (codes "demo")) (asked_verb verb.Demo rest) asks no_other.1).1
        ]
      ]
    ]

-- ---- what is met of what is given

abbrev met : Option (List ℕ) → Workers → Bool → Met
met word w flag = met_of (given word w flag)

map_chosen : (b : Bool) (x y : Option Given) → option_map met_of (cond b x y) ≡ cond b (option_map met_of x) (option_map met_of y)
map_chosen true x y = refl
map_chosen false x y = refl

not_some : (word : Option (List ℕ)) → is_none word ≡ not (is_some word)
not_some None = refl
not_some (Some word) = refl

met_other : (verb : Verb) (word : Option (List ℕ)) (w : Workers) (flag : Bool) (next : List ℕ) → option_map met_of (with_other verb (given word w flag) next) ≡ met_with_other verb (met word w flag) next
met_other verb word w flag next =
    map_chosen (is_flag verb next) (cond flag None (Some (given word w true))) (cond (fits verb next && is_none word) (Some (given (Some next) w flag)) None)
    ∙ ap₂ (cond (is_flag verb next)) (map_chosen flag None (Some (given word w true)))
    (map_chosen (fits verb next && is_none word) (Some (given (Some next) w flag)) None ∙ ap (λ b. cond (fits verb next && b) (Some (met (Some next) w flag)) None) (not_some word))

met_number : (word : Option (List ℕ)) (flag : Bool) (o : Option ℕ) → option_map met_of (option_map (λ n. given word (Said n) flag) o) ≡ cond (is_some o) (Some (record { word = is_some word; workers = stage.Said; flag = flag })) None
met_number word flag None = refl
met_number word flag (Some n) = refl

-- which words have been met with one more word
pub met_next : (verb : Verb) (g : Given) (next : List ℕ) → option_map met_of (with_word verb g.workers g next) ≡ met_with verb (met_of g).workers (met_of g) next
met_next verb g next = go g.workers refl
  where
    go : (w : Workers) → g.workers ≡ w → option_map met_of (with_word verb w (given g.word w g.flag) next) ≡ met_with verb (stage_of w) (met g.word w g.flag) next
    go Unsaid e = map_chosen (is_workers next) (Some (given g.word Awaited g.flag)) (with_other verb (given g.word Unsaid g.flag) next) ∙ ap (cond (is_workers next) (Some (met g.word Awaited g.flag))) (met_other verb g.word Unsaid g.flag next)
    go Awaited e = met_number g.word g.flag (count_of next)
    go (Said n) e = map_chosen (is_workers next) None (with_other verb (given g.word (Said n) g.flag) next) ∙ ap (cond (is_workers next) None) (met_other verb g.word (Said n) g.flag next)

step_fits : (verb : Verb) (word : Option (List ℕ)) (w : Workers) (flag : Bool) (next : List ℕ) (later : Given) → with_other verb (given word w flag) next ≡ Some later → IfSome word (λ f. fits verb f ≡ true) → IfSome later.word (λ f. fits verb f ≡ true)
step_fits verb word w flag next later e fit =
    elim (either (is_flag verb next) (cond flag None (Some (given word w true))) (cond (fits verb next && is_none word) (Some (given (Some next) w flag)) None) (Some later) e) [
      | inl option ↦ flag_case flag option.1
      | inr plain ↦
          let fine = chosen (fits verb next && is_none word) (Some (given (Some next) w flag)) later plain.1 in
          let same : given (Some next) w flag ≡ later = let took = fine.1 in cc in
          subst (λ (g : Given). IfSome g.word (λ f. fits verb f ≡ true)) same (both_true (fits verb next) (is_none word) fine.0).0
    ]
  where
    flag_case : (f : Bool) → cond f None (Some (given word w true)) ≡ Some later → IfSome later.word (λ f. fits verb f ≡ true)
    flag_case true took = cc
    flag_case false took = let same : given word w true ≡ later = cc in subst (λ (g : Given). IfSome g.word (λ f. fits verb f ≡ true)) same fit

next_fits : (verb : Verb) (word : Option (List ℕ)) (w : Workers) (flag : Bool) (next : List ℕ) (later : Given) → with_word verb w (given word w flag) next ≡ Some later → IfSome word (λ f. fits verb f ≡ true) → IfSome later.word (λ f. fits verb f ≡ true)
next_fits verb word Unsaid flag next later e fit =
    elim (either (is_workers next) (Some (given word Awaited flag)) (with_other verb (given word Unsaid flag) next) (Some later) e) [
      | inl option ↦ let same : given word Awaited flag ≡ later = let took = option.1 in cc in subst (λ (g : Given). IfSome g.word (λ f. fits verb f ≡ true)) same fit
      | inr plain ↦ step_fits verb word Unsaid flag next later plain.1 fit
    ]
next_fits verb word Awaited flag next later e fit = let number = number_given word flag (count_of next) later e in subst (λ (g : Given). IfSome g.word (λ f. fits verb f ≡ true)) number.1.1 fit
next_fits verb word (Said n) flag next later e fit =
    elim (either (is_workers next) None (with_other verb (given word (Said n) flag) next) (Some later) e) [
      | inl option ↦ let clash : None ≡ Some later = option.1 in cc
      | inr plain ↦ step_fits verb word (Said n) flag next later plain.1 fit
    ]

-- these words have been met, and what is found is what those to come ask for
pub record HasMet (verb : Verb) (met : Met) (found : Parsed) (k : ℕ) (rest : List (List ℕ)) : Type 0 where
  pub given : Given
  pub is : met_of given ≡ met
  pub fit : IfSome given.word (λ w. fits verb w ≡ true)
  pub ahead : found ≡ parsed_from verb k given rest

pub met_nothing : (verb : Verb) (words : List (List ℕ)) → HasMet verb (met_of nothing_given) (parsed_from verb 2 nothing_given words) 2 words
met_nothing verb words = record { given = nothing_given; is = refl; fit = tt; ahead = refl }

on_given : (verb : Verb) (k : ℕ) (rest : List (List ℕ)) (o : Option Given) (later : Met) → option_map met_of o ≡ Some later → (g : Given) × ((o ≡ Some g) × (met_of g ≡ later))
on_given verb k rest None later e = cc
on_given verb k rest (Some g) later e = (g, (refl, cc))

off_given : (o : Option Given) → option_map met_of o ≡ None → o ≡ None
off_given None e = refl
off_given (Some g) e = cc

abbrev going : Verb → ℕ → List (List ℕ) → Option Given → Parsed
going verb k rest o = elim o [ None ↦ BadAt k | Some next ↦ parsed_from verb (k + 1) next rest ]

pub met_more : (verb : Verb) (met : Met) (found : Parsed) (k : ℕ) (next : List ℕ) (rest : List (List ℕ)) (later : Met) → HasMet verb met found k (next ∷ rest) → met_with verb met.workers met next ≡ Some later → HasMet verb later found (k + 1) rest
met_more verb met found k next rest later has e =
    let goes = on_given verb k rest (with_word verb has.given.workers has.given next) later (met_next verb has.given next ∙ ap (λ (m : Met). met_with verb m.workers m next) has.is ∙ e) in
    record {
      given = goes.0;
      is = goes.1.1;
      fit = next_fits verb has.given.word has.given.workers has.given.flag next goes.0 goes.1.0 has.fit;
      ahead = has.ahead ∙ ap (going verb k rest) goes.1.0;
    }

pub met_no_more : (verb : Verb) (met : Met) (found : Parsed) (k : ℕ) (next : List ℕ) (rest : List (List ℕ)) → HasMet verb met found k (next ∷ rest) → met_with verb met.workers met next ≡ None → found ≡ BadAt k
met_no_more verb met found k next rest has e =
    has.ahead ∙ ap (going verb k rest) (off_given (with_word verb has.given.workers has.given next) (met_next verb has.given next ∙ ap (λ (m : Met). met_with verb m.workers m next) has.is ∙ e))

-- at the end of the words something is asked for where they are whole
ended_asks : (k : ℕ) (o : Option Request) (wish : Request) → o ≡ Some wish → IsAdmitted (asks_at k o)
ended_asks k None wish e = cc
ended_asks k (Some found) wish e = tt

ended_whole : (verb : Verb) (k : ℕ) (word : Option (List ℕ)) (w : Workers) (flag : Bool) → IfSome word (λ f. fits verb f ≡ true) → is_whole (met word w flag) ≡ true → IsAdmitted (ended verb k (given word w flag))
ended_whole verb k None w flag fit whole = cc
ended_whole verb k (Some word) Unsaid flag fit whole = let wish = wish_fits verb 1 flag word fit in ended_asks k (wish_of verb 1 flag word) wish.0 wish.1
ended_whole verb k (Some word) Awaited flag fit whole = cc
ended_whole verb k (Some word) (Said n) flag fit whole = let wish = wish_fits verb n flag word fit in ended_asks k (wish_of verb n flag word) wish.0 wish.1

ended_broken : (verb : Verb) (k : ℕ) (word : Option (List ℕ)) (w : Workers) (flag : Bool) → is_whole (met word w flag) ≡ false → ended verb k (given word w flag) ≡ BadAt k
ended_broken verb k None w flag broken = refl
ended_broken verb k (Some word) Unsaid flag broken = cc
ended_broken verb k (Some word) Awaited flag broken = refl
ended_broken verb k (Some word) (Said n) flag broken = cc

pub met_whole : (verb : Verb) (met : Met) (found : Parsed) (k : ℕ) → HasMet verb met found k [] → is_whole met ≡ true → IsAdmitted found
met_whole verb met found k has whole = subst IsAdmitted (sym has.ahead) (ended_whole verb k has.given.word has.given.workers has.given.flag has.fit (ap is_whole has.is ∙ whole))

pub met_broken : (verb : Verb) (met : Met) (found : Parsed) (k : ℕ) → HasMet verb met found k [] → is_whole met ≡ false → found ≡ BadAt k
met_broken verb met found k has broken = has.ahead ∙ ended_broken verb k has.given.word has.given.workers has.given.flag (ap is_whole has.is ∙ broken)

-- the words from a place on begin with the word there
pub words_at : (words : List (String Global)) (i : ℕ) (word : String Global) → i < length words → word ≡ slice_index_or words i word → texts (drop i words) ≡ string_bytes word ∷ texts (drop (i + 1) words)
words_at words i word within is =
    let next : suc i ≡ i + 1 = omega arith in
    ap texts (drop-cons words i word within) ∙ ap (λ (w : String Global). string_bytes w ∷ texts (drop (suc i) words)) (sym is) ∙ ap (λ n. string_bytes word ∷ texts (drop n words)) next

-- What a node computes is sound.
use Rattle.std.proofs.Common.{ℤ, pos, negsuc, ◌≤ℤ◌, int_le, ◌≡◌, ◌≢◌, ◌<◌, ◌≤◌, ◌+◌, ◌*◌, ℕ, zero, suc, Bool, true, false, not, ◌&&◌, cond, refl, sym, ap, subst, ◌∙◌, List, [], ◌∷◌, ◌++◌, length, map, Option, Some, None, arith, option_map, bytes_eq, codes, nat_le, All, get_or, position}
use Rattle.std.specs.Option.{option_and_then}
use Rattle.std.specs.List.{slice_get, slice_index, list_all, list_any, AllZip, range_with_len}
use Rattle.std.proofs.lemmas.Bool.Decides.{nat_tests}
use Rattle.std.proofs.lemmas.Int.{ints}
use Rattle.std.proofs.lemmas.List.FromFn.{length-range_with_len, get_or-range_with_len}
use Rattle.std.proofs.lemmas.List.Quantifiers.{position-Some}
use Rattle.std.proofs.lemmas.Option.{get_or_from_slice_get, slice_get-get_or, slice_get_within}
use Rattle.ratfun_text.specs.Grammar.{IsTreeOf}
use Rattle.ratfun_text.specs.Names.{last_argument}
use Rattle.ratfun_text.specs.Value.{greatest}
use Rattle.ratfun_text.specs.declared.expr.Expr.{Expr}
use Rattle.ratfun_text.specs.declared.names.Names.TheVariants.{Listed, Numbered}
use Rattle.graph_file.specs.Facts.{called_by, graph_named, unknowns_of}
use Rattle.graph_file.specs.Faults.{are_sides, is_counted, is_expansion, is_in_range, is_known, is_not_among, is_position, is_product, is_range, is_system, is_want, lists_in, names_in, names_over}
use Rattle.graph_file.specs.Reader.{node_stood}
use Rattle.graph_file.specs.Formed.{IsWant, IsWhole}
use Rattle.graph_file.specs.Line.{all_of, texts_in}
use Rattle.graph_file.specs.Says.{AreTrees, call_parts, kind_of, part_named, source_named, wanted}
use Rattle.graph_file.specs.Reader.{HasNoRows, IsBegun, kind_stood, kind_unknowns}
use Rattle.graph_file.specs.Sound.{AreLists, AreSides, IsDense, IsEarlier, IsLaurent, IsPosition, IsSlice}
use Rattle.graph_file.specs.declared.graph.NodeKind.{NodeKind}
use Rattle.graph_file.specs.declared.graph.NodeKind.TheVariants as node
use Rattle.graph_file.specs.declared.graph.Source.{Source}
use Rattle.graph_file.specs.declared.graph.Source.TheVariants as source
use Rattle.graph_file.specs.declared.line.Expansion.{Expansion}
use Rattle.graph_file.specs.declared.line.Line.TheVariants as line
use Rattle.graph_file.specs.declared.line.Statement.{Statement}
use Rattle.graph_file.specs.declared.line.Statement.TheVariants.{Eval, Take, Slice, Chain, Sum, Product, Matmul, Dense, Sparse, Call, Memo, Map, Laurent}
use Rattle.graph_file.specs.declared.line.Want.{Want}
use Rattle.graph_file.specs.declared.line.Want.TheVariants.{Every, Numbers}
use Rattle.graph_file.proofs.Passes.{both, list_all-at, not_false}
use Rattle.graph_file.proofs.TableLemmas.{is_some-position}

-- an answer that is there was made of one
pub record IsMade {A B : Type 0} (make : A → B) (o : Option A) (made : B) : Type 0 where
  pub from : A
  pub there : o ≡ Some from
  pub is : make from ≡ made

pub made_of : {A B : Type 0} (make : A → B) (o : Option A) (made : B) → option_map make o ≡ Some made → IsMade make o made
made_of make None made e = cc
made_of make (Some a) made e = record { from = a; there = refl; is = let told : Some (make a) ≡ Some made = e in cc }

-- the first answer and the others
pub record IsCons {A : Type 0} (o : Option A) (later : List (Option A)) (answers : List A) : Type 0 where
  pub head : A
  pub tail : List A
  pub first : o ≡ Some head
  pub others : all_of later ≡ Some tail
  pub whole : answers ≡ head ∷ tail

pub cons_of : {A : Type 0} (o : Option A) (later : List (Option A)) (answers : List A) → all_of (o ∷ later) ≡ Some answers → IsCons o later answers
cons_of None later answers e = cc
cons_of (Some a) later answers e =
    let made : IsMade (λ others. a ∷ others) (all_of later) answers = made_of (λ others. a ∷ others) (all_of later) answers e in
    record { head = a; tail = made.from; first = refl; others = made.there; whole = sym made.is }

-- an answer at a place is the answer to a question
answered : {X A : Type 0} (P : A → Type 0) (ask : X → Option A) (xs : List X) (answers : List A) → all_of (map ask xs) ≡ Some answers → ((x : X) (a : A) → ask x ≡ Some a → P a) → (k : ℕ) (a : A) → slice_get answers k ≡ Some a → P a
answered P ask [] answers e each k a at =
    let same : [] ≡ answers = cc in
    let none : slice_get [] k ≡ Some a = subst (λ l. slice_get l k ≡ Some a) (sym same) at in
    cc
answered {A = A} P ask (x ∷ xs) answers e each zero a at =
    let parts : IsCons (ask x) (map ask xs) answers = cons_of (ask x) (map ask xs) answers e in
    let head : Some parts.head ≡ Some a = subst (λ (l : List A). slice_get l 0 ≡ Some a) parts.whole at in
    each x a (parts.first ∙ head)
answered {A = A} P ask (x ∷ xs) answers e each (suc k) a at =
    let parts : IsCons (ask x) (map ask xs) answers = cons_of (ask x) (map ask xs) answers e in
    answered P ask xs parts.tail parts.others each k a (subst (λ (l : List A). slice_get l (suc k) ≡ Some a) parts.whole at)

length-answers : {X A : Type 0} (ask : X → Option A) (xs : List X) (answers : List A) → all_of (map ask xs) ≡ Some answers → length answers ≡ length xs
length-answers ask [] answers e = let same : [] ≡ answers = cc in ap length (sym same)
length-answers ask (x ∷ xs) answers e =
    let parts : IsCons (ask x) (map ask xs) answers = cons_of (ask x) (map ask xs) answers e in
    ap length parts.whole ∙ ap suc (length-answers ask xs parts.tail parts.others)

some_left : {X : Type 0} (xs : List X) → 1 ≤ length xs → xs ≡ [] → ⊥
some_left xs some none = absurd (omega (arith, ap length none))

only : {X : Type 0} (x : X) (i : ℕ) (y : X) → slice_get (x ∷ []) i ≡ Some y → x ≡ y
only x zero y at = cc
only x (suc i) y at = cc

module _ (names : List (List ℕ)) where
  -- a list that is a node's is an earlier node's
  place_of : (o : Option ℕ) (k : ℕ) → option_map source.Node o ≡ Some (source.Node k) → o ≡ Some k
  place_of None k e = cc
  place_of (Some n) k e = cc

  no_input : (o : Option ℕ) → option_map source.Node o ≡ Some source.Input → ⊥
  no_input None e = cc
  no_input (Some n) e = cc

  pub source-earlier : (list : List ℕ) (k : ℕ) → source_named names list ≡ Some (source.Node k) → k < length names
  source-earlier list k e = from (bytes_eq list (codes "input")) e
    where
      from : (b : Bool) → cond b (Some source.Input) (option_map source.Node (position (λ other. bytes_eq other list) names)) ≡ Some (source.Node k) → k < length names
      from true f = cc
      from false f = (position-Some (λ other. bytes_eq other list) names k [] (place_of _ k f)).0

  pub source-input : (list : List ℕ) → source_named names list ≡ Some source.Input → bytes_eq list (codes "input") ≡ true
  source-input list e = from (bytes_eq list (codes "input")) e
    where
      from : (b : Bool) → cond b (Some source.Input) (option_map source.Node (position (λ other. bytes_eq other list) names)) ≡ Some source.Input → b ≡ true
      from true f = refl
      from false f = absurd (no_input _ f)

  -- what a node reads by one list, by many, or by a part
  named_earlier : (list : List ℕ) (from : Source) → source_named names list ≡ Some from → IsEarlier (length names) from
  named_earlier list source.Input e = tt
  named_earlier list (source.Node k) e = source-earlier list k e

  lists_earlier : (lists : List (List ℕ)) (sources : List Source) → all_of (map (source_named names) lists) ≡ Some sources → (k : ℕ) (from : Source) → slice_get sources k ≡ Some from → IsEarlier (length names) from
  lists_earlier lists sources e = answered (IsEarlier (length names)) (source_named names) lists sources e named_earlier

  part_earlier : (part : List ℕ × ℕ) (wanted : Source × ℕ) → part_named names part ≡ Some wanted → IsEarlier (length names) wanted.0
  part_earlier part wanted e =
      let made : IsMade (λ list. (list, part.1)) (source_named names part.0) wanted = made_of (λ list. (list, part.1)) (source_named names part.0) wanted e in
      subst (λ (w : Source × ℕ). IsEarlier (length names) w.0) made.is (named_earlier part.0 made.from made.there)

position_is : (n : ℕ) → is_position n ≡ true → IsPosition n
position_is n e = let parts : (nat_le 1 n ≡ true) × (nat_le n 262144 ≡ true) = both _ _ e in record { first = grind (arith, nat_tests, parts.0); last = grind (arith, nat_tests, parts.1) }

-- the question that an answer at a place answers
record IsAsked {X A : Type 0} (ask : X → Option A) (xs : List X) (k : ℕ) (a : A) : Type 0 where
  question : X
  there : slice_get xs k ≡ Some question
  answer : ask question ≡ Some a

asked : {X A : Type 0} (ask : X → Option A) (xs : List X) (answers : List A) → all_of (map ask xs) ≡ Some answers → (k : ℕ) (a : A) → slice_get answers k ≡ Some a → IsAsked ask xs k a
asked ask [] answers e k a at =
    let same : [] ≡ answers = cc in
    let none : slice_get [] k ≡ Some a = subst (λ l. slice_get l k ≡ Some a) (sym same) at in
    cc
asked {A = A} ask (x ∷ xs) answers e zero a at =
    let parts : IsCons (ask x) (map ask xs) answers = cons_of (ask x) (map ask xs) answers e in
    let head : Some parts.head ≡ Some a = subst (λ (l : List A). slice_get l 0 ≡ Some a) parts.whole at in
    record { question = x; there = refl; answer = parts.first ∙ head }
asked {A = A} ask (x ∷ xs) answers e (suc k) a at =
    let parts : IsCons (ask x) (map ask xs) answers = cons_of (ask x) (map ask xs) answers e in
    let later : IsAsked ask xs k a = asked ask xs parts.tail parts.others k a (subst (λ (l : List A). slice_get l (suc k) ≡ Some a) parts.whole at) in
    record { question = later.question; there = later.there; answer = later.answer }

zip_length : {X Y : Type 0} (R : X → Y → Type 0) (xs : List X) (ys : List Y) → AllZip R xs ys → length ys ≡ length xs
zip_length R [] [] all = refl
zip_length R [] (y ∷ ys) all = absurd all
zip_length R (x ∷ xs) [] all = absurd all
zip_length R (x ∷ xs) (y ∷ ys) all = ap suc (zip_length R xs ys all.1)

range_is : (number : ℕ) (from : Source) (first last : ℕ) → IsEarlier number from → is_range first last ≡ true → IsSlice number from first last
range_is number from first last earlier e =
    let two : ((is_position first && is_position last) ≡ true) × (nat_le first last ≡ true) = both _ _ e in
    let one : (is_position first ≡ true) × (is_position last ≡ true) = both _ _ two.0 in
    let start : IsPosition first = position_is first one.0 in
    let end : IsPosition last = position_is last one.1 in
    record { earlier = earlier; low = start.first; order = (let le : first ≤ last = grind (arith, nat_tests, two.1) in le); high = end.last }

sides_are : (rows cols : ℕ) → are_sides rows cols ≡ true → rows * cols ≤ 262144
sides_are rows cols e = grind (arith, nat_tests)

product_is : (rows mid cols : ℕ) → is_product rows mid cols ≡ true → AreSides rows mid cols
product_is rows mid cols e =
    let five : ((is_position rows && is_position mid && is_position cols && are_sides rows cols && are_sides rows mid) ≡ true) × (are_sides mid cols ≡ true) = both _ _ e in
    let four : ((is_position rows && is_position mid && is_position cols && are_sides rows cols) ≡ true) × (are_sides rows mid ≡ true) = both _ _ five.0 in
    let three : ((is_position rows && is_position mid && is_position cols) ≡ true) × (are_sides rows cols ≡ true) = both _ _ four.0 in
    let two : ((is_position rows && is_position mid) ≡ true) × (is_position cols ≡ true) = both _ _ three.0 in
    let one : (is_position rows ≡ true) × (is_position mid ≡ true) = both _ _ two.0 in
    record {
      height = position_is rows one.0;
      depth = position_is mid one.1;
      width = position_is cols two.1;
      whole = sides_are rows cols three.1;
      left = sides_are rows mid four.1;
      right = sides_are mid cols five.1;
    }

counted_is : (number most : ℕ) → is_counted number most ≡ true → (1 ≤ number) × (number ≤ most)
counted_is number most e = let parts : (nat_le 1 number ≡ true) × (nat_le number most ≡ true) = both _ _ e in (grind (arith, nat_tests, parts.0), grind (arith, nat_tests, parts.1))

-- something is wanted, and each wanted number is that of an unknown
some_wanted : (unknowns : ℕ) (want : Want) → 1 ≤ unknowns → IsWant want → 0 < length (wanted unknowns want)
some_wanted unknowns Every some is = omega (arith, length-range_with_len 1 unknowns)
some_wanted unknowns (Numbers numbers) some is = omega arith

wanted_is : (unknowns : ℕ) (want : Want) → is_want unknowns want ≡ true → (i : ℕ) → i < length (wanted unknowns want) → (0 < slice_index (wanted unknowns want) i) × (slice_index (wanted unknowns want) i < unknowns + 1)
wanted_is unknowns Every e i within =
    let below : i < unknowns = omega (arith, length-range_with_len 1 unknowns) in
    let is : slice_index (range_with_len 1 unknowns) i ≡ 1 + i = get_or-range_with_len 1 unknowns i 0 below in
    (omega (arith, is), omega (arith, is))
wanted_is unknowns (Numbers numbers) e i within =
    let counted : (1 ≤ slice_index numbers i) × (slice_index numbers i ≤ unknowns) = counted_is (slice_index numbers i) unknowns (list_all-at (λ number. is_counted number unknowns) numbers e i (slice_index numbers i) (slice_get-get_or numbers i 0 within)) in
    (omega (arith, counted.0), omega (arith, counted.1))

system_is : (number : ℕ) (from : Source) (rows unknowns : ℕ) (want : Want) → IsEarlier number from → is_system rows unknowns want ≡ true → IsWant want → IsDense number from rows unknowns (wanted unknowns want)
system_is number from rows unknowns want earlier e is =
    let two : ((is_counted rows 512 && is_counted unknowns 511) ≡ true) × (is_want unknowns want ≡ true) = both _ _ e in
    let one : (is_counted rows 512 ≡ true) × (is_counted unknowns 511 ≡ true) = both _ _ two.0 in
    let height : (1 ≤ rows) × (rows ≤ 512) = counted_is rows 512 one.0 in
    let width : (1 ≤ unknowns) × (unknowns ≤ 511) = counted_is unknowns 511 one.1 in
    record {
      earlier = earlier;
      rows_low = height.0;
      rows_high = height.1;
      unknowns_low = width.0;
      unknowns_high = width.1;
      some = some_wanted unknowns want width.0 is;
      wanted = wanted_is unknowns want two.1;
    }

ordered_is : (a b : ℤ) → int_le a b ≡ true → a ≤ℤ b
ordered_is a b e = grind (arith, ints, e)

lists_are : (names lists : List (List ℕ)) (sources : List Source) → all_of (map (source_named names) lists) ≡ Some sources → 1 ≤ length lists → AreLists (length names) sources
lists_are names lists sources e some = record { earlier = lists_earlier names lists sources e; some = omega (arith, some, length-answers (source_named names) lists sources e) }

-- the numbers of an expansion are in their ranges
expansion_is : (number : ℕ) (parts : List Source) (expansion : Expansion) → ((k : ℕ) (from : Source) → slice_get parts k ≡ Some from → IsEarlier number from) → is_expansion expansion ≡ true →
    IsLaurent number expansion.lo expansion.hi expansion.num expansion.den parts
expansion_is number parts expansion earlier e =
    let four : ((int_le (negsuc 63) expansion.lo && int_le expansion.lo expansion.hi && int_le expansion.hi (pos 64) && nat_le expansion.num 64) ≡ true) × (nat_le expansion.den 64 ≡ true) = both _ _ e in
    let three : ((int_le (negsuc 63) expansion.lo && int_le expansion.lo expansion.hi && int_le expansion.hi (pos 64)) ≡ true) × (nat_le expansion.num 64 ≡ true) = both _ _ four.0 in
    let two : ((int_le (negsuc 63) expansion.lo && int_le expansion.lo expansion.hi) ≡ true) × (int_le expansion.hi (pos 64) ≡ true) = both _ _ three.0 in
    let one : (int_le (negsuc 63) expansion.lo ≡ true) × (int_le expansion.lo expansion.hi ≡ true) = both _ _ two.0 in
    record {
      earlier = earlier;
      lowest = ordered_is (negsuc 63) expansion.lo one.0;
      ordered = ordered_is expansion.lo expansion.hi one.1;
      highest = ordered_is expansion.hi (pos 64) two.1;
      num_low = grind (arith, nat_tests, three.1);
      den_low = grind (arith, nat_tests, four.1);
    }

-- both lists of a product
pub record AreMade (names : List (List ℕ)) (left right : Option Source) (rows mid cols : ℕ) (kind : NodeKind) : Type 0 where
  pub first : Source
  pub second : Source
  pub left_is : left ≡ Some first
  pub right_is : right ≡ Some second
  pub is : node.Matmul first second rows mid cols ≡ kind

pub matmul_made : (names : List (List ℕ)) (left right : Option Source) (rows mid cols : ℕ) (kind : NodeKind) → option_and_then (λ l. option_map (λ r. node.Matmul l r rows mid cols) right) left ≡ Some kind → AreMade names left right rows mid cols kind
matmul_made names None right rows mid cols kind e = cc
matmul_made names (Some l) right rows mid cols kind e =
    let made : IsMade (λ r. node.Matmul l r rows mid cols) right kind = made_of (λ r. node.Matmul l r rows mid cols) right kind e in
    record { first = l; second = made.from; left_is = refl; right_is = made.there; is = made.is }

-- the parts of a call
pub call_made : (number : Option ℕ) (lists : Option (List Source)) (call : ℕ × List Source) → option_and_then (λ n. option_map (λ parts. (n, parts)) lists) number ≡ Some call → (number ≡ Some call.0) × (lists ≡ Some call.1)
call_made None lists call e = cc
call_made (Some n) None call e = cc
call_made (Some n) (Some parts) call e = let same : (n, parts) ≡ call = cc in (ap (λ (c : ℕ × List Source). Some c.0) same, ap (λ (c : ℕ × List Source). Some c.1) same)

-- what a node computes is sound
pub kind_sound : (graphs names vs : List (List ℕ)) (exprs : List Expr) (name : List ℕ) (statement : Statement) (kind : NodeKind) (most : ℕ) → kind_of graphs names exprs statement ≡ Some kind → IsWhole most statement → is_in_range statement ≡ true → AreTrees (names_in (Listed vs) (line.Node name statement)) (texts_in (line.Node name statement)) exprs → All (λ expr. greatest expr ≤ last_argument (names_in (Listed vs) (line.Node name statement))) exprs → IsBegun (length vs) (length names) kind
kind_sound graphs names vs exprs name (Eval from texts) kind most e whole ranges trees arguments =
    let made : IsMade (λ f. node.Eval f exprs) (source_named names from) kind = made_of (λ f. node.Eval f exprs) (source_named names from) kind e in
    subst (IsBegun (length vs) (length names)) made.is
    (record {
      earlier = named_earlier names from made.from made.there;
      some = let count : length exprs ≡ length texts = zip_length (IsTreeOf (names_over (Listed vs) from)) texts exprs trees in omega (arith, whole.0);
      arguments = λ input k expr at.
          let is : bytes_eq from (codes "input") ≡ true = source-input names from (made.there ∙ ap (λ s. Some s) input) in
          let over : names_over (Listed vs) from ≡ Listed vs = ap (λ b. cond b (Listed vs) Numbered) is in
          let inside : k < length exprs = slice_get_within exprs k expr at in
          let bound : greatest (get_or exprs k expr) ≤ last_argument (names_over (Listed vs) from) = arguments k expr inside in
          let named : last_argument (names_over (Listed vs) from) ≡ length vs = ap last_argument over in
          let read : greatest (get_or exprs k expr) ≡ greatest expr = ap greatest (get_or_from_slice_get exprs k expr expr at) in
          omega (arith, bound, named, read);
    })
kind_sound graphs names vs exprs name (Take parts) kind most e whole ranges trees arguments =
    let made : IsMade node.Take (all_of (map (part_named names) parts)) kind = made_of node.Take (all_of (map (part_named names) parts)) kind e in
    subst (IsBegun (length vs) (length names)) made.is
    (record {
      earlier = λ k part at.
          let question : IsAsked (part_named names) parts k part = asked (part_named names) parts made.from made.there k part at in
          part_earlier names question.question part question.answer;
      some = omega (arith, whole, length-answers (part_named names) parts made.from made.there);
      positions = λ k part at.
          let question : IsAsked (part_named names) parts k part = asked (part_named names) parts made.from made.there k part at in
          let in_range : is_position question.question.1 ≡ true = list_all-at (λ (p : List ℕ × ℕ). is_position p.1) parts ranges k question.question question.there in
          let same : IsMade (λ list. (list, question.question.1)) (source_named names question.question.0) part = made_of (λ list. (list, question.question.1)) (source_named names question.question.0) part question.answer in
          subst IsPosition (ap (λ (w : Source × ℕ). w.1) same.is) (position_is question.question.1 in_range);
    })
kind_sound graphs names vs exprs name (Slice from first last) kind most e whole ranges trees arguments =
    let made : IsMade (λ f. node.Slice f first last) (source_named names from) kind = made_of (λ f. node.Slice f first last) (source_named names from) kind e in
    subst (IsBegun (length vs) (length names)) made.is (range_is (length names) made.from first last (named_earlier names from made.from made.there) ranges)
kind_sound graphs names vs exprs name (Chain parts) kind most e whole ranges trees arguments =
    let made : IsMade node.Chain (all_of (map (source_named names) parts)) kind = made_of node.Chain (all_of (map (source_named names) parts)) kind e in
    subst (IsBegun (length vs) (length names)) made.is (lists_are names parts made.from made.there whole)
kind_sound graphs names vs exprs name (Sum parts) kind most e whole ranges trees arguments =
    let made : IsMade node.Sum (all_of (map (source_named names) parts)) kind = made_of node.Sum (all_of (map (source_named names) parts)) kind e in
    subst (IsBegun (length vs) (length names)) made.is (lists_are names parts made.from made.there whole)
kind_sound graphs names vs exprs name (Product parts) kind most e whole ranges trees arguments =
    let made : IsMade node.Product (all_of (map (source_named names) parts)) kind = made_of node.Product (all_of (map (source_named names) parts)) kind e in
    subst (IsBegun (length vs) (length names)) made.is (lists_are names parts made.from made.there whole)
kind_sound graphs names vs exprs name (Matmul left right rows mid cols) kind most e whole ranges trees arguments =
    let made : AreMade names (source_named names left) (source_named names right) rows mid cols kind = matmul_made names (source_named names left) (source_named names right) rows mid cols kind e in
    subst (IsBegun (length vs) (length names)) made.is
    (record { first = named_earlier names left made.first made.left_is; second = named_earlier names right made.second made.right_is; sides = product_is rows mid cols ranges })
kind_sound graphs names vs exprs name (Dense from rows unknowns want) kind most e whole ranges trees arguments =
    let made : IsMade (λ f. node.Dense f rows unknowns (wanted unknowns want)) (source_named names from) kind = made_of (λ f. node.Dense f rows unknowns (wanted unknowns want)) (source_named names from) kind e in
    subst (IsBegun (length vs) (length names)) made.is
    (system_is (length names) made.from rows unknowns want (named_earlier names from made.from made.there) ranges whole)
kind_sound graphs names vs exprs name (Sparse from unknowns want) kind most e whole ranges trees arguments =
    let made : IsMade (λ f. node.Sparse f unknowns (wanted unknowns want) []) (source_named names from) kind = made_of (λ f. node.Sparse f unknowns (wanted unknowns want) []) (source_named names from) kind e in
    let parts : (is_counted unknowns 4096 ≡ true) × (is_want unknowns want ≡ true) = both _ _ ranges in
    let width : (1 ≤ unknowns) × (unknowns ≤ 4096) = counted_is unknowns 4096 parts.0 in
    subst (IsBegun (length vs) (length names)) made.is (
      width.1,
      λ given few. record {
        earlier = named_earlier names from made.from made.there;
        unknowns_low = width.0;
        unknowns_high = width.1;
        some = some_wanted unknowns want width.0 whole;
        wanted = wanted_is unknowns want parts.1;
        filled = few;
      },
    )
kind_sound graphs names vs exprs name (Call graph parts) kind most e whole ranges trees arguments =
    let made : IsMade (λ (call : ℕ × List Source). node.Call call.0 call.1) (call_parts graphs names graph parts) kind = made_of (λ (call : ℕ × List Source). node.Call call.0 call.1) (call_parts graphs names graph parts) kind e in
    subst (IsBegun (length vs) (length names)) made.is (lists_are names parts made.from.1 (call_made (graph_named graphs graph) (all_of (map (source_named names) parts)) made.from made.there).1 whole)
kind_sound graphs names vs exprs name (Memo graph parts) kind most e whole ranges trees arguments =
    let made : IsMade (λ (call : ℕ × List Source). node.Memo call.0 call.1) (call_parts graphs names graph parts) kind = made_of (λ (call : ℕ × List Source). node.Memo call.0 call.1) (call_parts graphs names graph parts) kind e in
    subst (IsBegun (length vs) (length names)) made.is (lists_are names parts made.from.1 (call_made (graph_named graphs graph) (all_of (map (source_named names) parts)) made.from made.there).1 whole)
kind_sound graphs names vs exprs name (Map graph parts) kind most e whole ranges trees arguments =
    let made : IsMade (λ (call : ℕ × List Source). node.Map call.0 call.1) (call_parts graphs names graph parts) kind = made_of (λ (call : ℕ × List Source). node.Map call.0 call.1) (call_parts graphs names graph parts) kind e in
    subst (IsBegun (length vs) (length names)) made.is (lists_are names parts made.from.1 (call_made (graph_named graphs graph) (all_of (map (source_named names) parts)) made.from made.there).1 whole)
kind_sound graphs names vs exprs name (Laurent graph expansion parts) kind most e whole ranges trees arguments =
    let made : IsMade (λ (call : ℕ × List Source). node.Laurent call.0 expansion.lo expansion.hi expansion.num expansion.den call.1) (call_parts graphs names graph parts) kind = made_of (λ (call : ℕ × List Source). node.Laurent call.0 expansion.lo expansion.hi expansion.num expansion.den call.1) (call_parts graphs names graph parts) kind e in
    let there : all_of (map (source_named names) parts) ≡ Some made.from.1 = (call_made (graph_named graphs graph) (all_of (map (source_named names) parts)) made.from made.there).1 in
    subst (IsBegun (length vs) (length names)) made.is (expansion_is (length names) made.from.1 expansion (lists_earlier names parts made.from.1 there) ranges)

-- what a node's line says of what it computes
pub record IsOf (statement : Statement) (kind : NodeKind) : Type 0 where
  pub no_rows : HasNoRows kind
  pub stood : kind_stood kind ≡ node_stood statement
  pub unknowns : kind_unknowns kind ≡ unknowns_of statement

pub kind_is_of : (graphs names : List (List ℕ)) (exprs : List Expr) (statement : Statement) (kind : NodeKind) → kind_of graphs names exprs statement ≡ Some kind → IsOf statement kind
kind_is_of graphs names exprs (Eval from texts) kind e =
    subst (IsOf (Eval from texts)) (made_of (λ f. node.Eval f exprs) (source_named names from) kind e).is (record { no_rows = tt; stood = refl; unknowns = refl })
kind_is_of graphs names exprs (Take parts) kind e =
    subst (IsOf (Take parts)) (made_of node.Take (all_of (map (part_named names) parts)) kind e).is (record { no_rows = tt; stood = refl; unknowns = refl })
kind_is_of graphs names exprs (Slice from first last) kind e =
    subst (IsOf (Slice from first last)) (made_of (λ f. node.Slice f first last) (source_named names from) kind e).is (record { no_rows = tt; stood = refl; unknowns = refl })
kind_is_of graphs names exprs (Chain parts) kind e =
    subst (IsOf (Chain parts)) (made_of node.Chain (all_of (map (source_named names) parts)) kind e).is (record { no_rows = tt; stood = refl; unknowns = refl })
kind_is_of graphs names exprs (Sum parts) kind e =
    subst (IsOf (Sum parts)) (made_of node.Sum (all_of (map (source_named names) parts)) kind e).is (record { no_rows = tt; stood = refl; unknowns = refl })
kind_is_of graphs names exprs (Product parts) kind e =
    subst (IsOf (Product parts)) (made_of node.Product (all_of (map (source_named names) parts)) kind e).is (record { no_rows = tt; stood = refl; unknowns = refl })
kind_is_of graphs names exprs (Matmul left right rows mid cols) kind e =
    subst (IsOf (Matmul left right rows mid cols)) (matmul_made names (source_named names left) (source_named names right) rows mid cols kind e).is (record { no_rows = tt; stood = refl; unknowns = refl })
kind_is_of graphs names exprs (Dense from rows unknowns want) kind e =
    subst (IsOf (Dense from rows unknowns want)) (made_of (λ f. node.Dense f rows unknowns (wanted unknowns want)) (source_named names from) kind e).is (record { no_rows = tt; stood = refl; unknowns = refl })
kind_is_of graphs names exprs (Sparse from unknowns want) kind e =
    subst (IsOf (Sparse from unknowns want)) (made_of (λ f. node.Sparse f unknowns (wanted unknowns want) []) (source_named names from) kind e).is (record { no_rows = refl; stood = refl; unknowns = refl })
kind_is_of graphs names exprs (Call graph parts) kind e =
    subst (IsOf (Call graph parts)) (made_of (λ (call : ℕ × List Source). node.Call call.0 call.1) (call_parts graphs names graph parts) kind e).is (record { no_rows = tt; stood = refl; unknowns = refl })
kind_is_of graphs names exprs (Memo graph parts) kind e =
    subst (IsOf (Memo graph parts)) (made_of (λ (call : ℕ × List Source). node.Memo call.0 call.1) (call_parts graphs names graph parts) kind e).is (record { no_rows = tt; stood = refl; unknowns = refl })
kind_is_of graphs names exprs (Map graph parts) kind e =
    subst (IsOf (Map graph parts)) (made_of (λ (call : ℕ × List Source). node.Map call.0 call.1) (call_parts graphs names graph parts) kind e).is (record { no_rows = tt; stood = refl; unknowns = refl })
kind_is_of graphs names exprs (Laurent graph expansion parts) kind e =
    subst (IsOf (Laurent graph expansion parts)) (made_of (λ (call : ℕ × List Source). node.Laurent call.0 expansion.lo expansion.hi expansion.num expansion.den call.1) (call_parts graphs names graph parts) kind e).is (record { no_rows = tt; stood = refl; unknowns = refl })

-- known lists have their nodes
option_none : {A B : Type 0} (make : A → B) (o : Option A) → option_map make o ≡ None → o ≡ None
option_none make None e = refl
option_none make (Some a) e = cc

contradiction : (o : Option ℕ) → Rattle.std.proofs.Common.is_some o ≡ true → o ≡ None → ⊥
contradiction None some none = cc
contradiction (Some n) some none = cc

pub source-known : (names : List (List ℕ)) (list : List ℕ) → is_known names list ≡ true → source_named names list ≡ None → ⊥
source-known names list known none = from (bytes_eq list (codes "input")) known none
  where
    from : (b : Bool) → (Rattle.std.proofs.Common.◌||◌ b (list_any (λ other. bytes_eq other list) names)) ≡ true → cond b (Some source.Input) (option_map source.Node (position (λ other. bytes_eq other list) names)) ≡ None → ⊥
    from true e f = cc
    from false e f =
        let missing : position (λ other. bytes_eq other list) names ≡ None = option_none source.Node _ f in
        let told : Rattle.std.proofs.Common.is_some (position (λ other. bytes_eq other list) names) ≡ true = is_some-position (λ other. bytes_eq other list) names ∙ e in
        contradiction (position (λ other. bytes_eq other list) names) told missing

first_there : {A : Type 0} (o : Option A) (later : List (Option A)) → all_of (o ∷ later) ≡ None → (o ≡ None → ⊥) → (all_of later ≡ None → ⊥) → ⊥
first_there None later e first others = first refl
first_there (Some a) later e first others = others (option_none (λ answers. a ∷ answers) (all_of later) e)

answers-there : {X A : Type 0} (ask : X → Option A) (test : X → Bool) (xs : List X) → ((x : X) → test x ≡ true → ask x ≡ None → ⊥) → list_all test xs ≡ true → all_of (map ask xs) ≡ None → ⊥
answers-there ask test [] each all none = cc
answers-there ask test (x ∷ xs) each all none =
    let parts : (test x ≡ true) × (list_all test xs ≡ true) = both (test x) _ all in
    first_there (ask x) (map ask xs) none (each x parts.0) (answers-there ask test xs each parts.1)

list_all-parts : (test : List ℕ → Bool) (parts : List (List ℕ × ℕ)) → list_all test (map (λ part. part.0) parts) ≡ true → list_all (λ (part : List ℕ × ℕ). test part.0) parts ≡ true
list_all-parts test [] e = refl
list_all-parts test (p ∷ ps) e = let two : (test p.0 ≡ true) × (list_all test (map (λ part. part.0) ps) ≡ true) = both (test p.0) _ e in
    ap (λ b. b && list_all (λ (part : List ℕ × ℕ). test part.0) ps) two.0 ∙ list_all-parts test ps two.1

part-known : (names : List (List ℕ)) (part : List ℕ × ℕ) → is_known names part.0 ≡ true → part_named names part ≡ None → ⊥
part-known names part known none = source-known names part.0 known (option_none (λ (list : Source). (list, part.1)) (source_named names part.0) none)

matmul_none : (left right : Option Source) (rows mid cols : ℕ) → option_and_then (λ l. option_map (λ r. node.Matmul l r rows mid cols) right) left ≡ None → (left ≡ None → ⊥) → (right ≡ None → ⊥) → ⊥
matmul_none None right rows mid cols e first second = first refl
matmul_none (Some l) None rows mid cols e first second = second refl
matmul_none (Some l) (Some r) rows mid cols e first second = cc

call_none : (number : Option ℕ) (lists : Option (List Source)) → option_and_then {U = ℕ × List Source} (λ n. option_map (λ parts. (n, parts)) lists) number ≡ None → (number ≡ None → ⊥) → (lists ≡ None → ⊥) → ⊥
call_none None lists e first second = first refl
call_none (Some n) None e first second = second refl
call_none (Some n) (Some parts) e first second = cc

graph-known : (graphs : List (List ℕ)) (graph : List ℕ) → not (list_any (λ other. bytes_eq other graph) graphs) ≡ false → graph_named graphs graph ≡ None → ⊥
graph-known graphs graph known none = contradiction (graph_named graphs graph) (is_some-position (λ other. bytes_eq other graph) graphs ∙ not_false _ known) none

call-there : (graphs names : List (List ℕ)) (graph : List ℕ) (parts : List (List ℕ)) → not (list_any (λ other. bytes_eq other graph) graphs) ≡ false → list_all (is_known names) parts ≡ true → call_parts graphs names graph parts ≡ None → ⊥
call-there graphs names graph parts among known none =
    call_none (graph_named graphs graph) (all_of (map (source_named names) parts)) none (graph-known graphs graph among) (answers-there (source_named names) (is_known names) parts (source-known names) known)

pub kind-there : (graphs names : List (List ℕ)) (exprs : List Expr) (statement : Statement) → is_not_among graphs (called_by statement) ≡ false → list_all (is_known names) (lists_in statement) ≡ true → kind_of graphs names exprs statement ≡ None → ⊥
kind-there graphs names exprs (Eval from texts) among known none = source-known names from (both _ true known).0 (option_none _ (source_named names from) none)
kind-there graphs names exprs (Take parts) among known none = answers-there (part_named names) (λ (part : List ℕ × ℕ). is_known names part.0) parts (part-known names) (list_all-parts (is_known names) parts known) (option_none node.Take _ none)
kind-there graphs names exprs (Slice from first last) among known none = source-known names from (both _ true known).0 (option_none _ (source_named names from) none)
kind-there graphs names exprs (Chain parts) among known none = answers-there (source_named names) (is_known names) parts (source-known names) known (option_none node.Chain _ none)
kind-there graphs names exprs (Sum parts) among known none = answers-there (source_named names) (is_known names) parts (source-known names) known (option_none node.Sum _ none)
kind-there graphs names exprs (Product parts) among known none = answers-there (source_named names) (is_known names) parts (source-known names) known (option_none node.Product _ none)
kind-there graphs names exprs (Matmul left right rows mid cols) among known none =
    let two : (is_known names left ≡ true) × ((is_known names right && true) ≡ true) = both (is_known names left) _ known in
    matmul_none (source_named names left) (source_named names right) rows mid cols none (source-known names left two.0) (source-known names right (both (is_known names right) true two.1).0)
kind-there graphs names exprs (Dense from rows unknowns want) among known none = source-known names from (both _ true known).0 (option_none _ (source_named names from) none)
kind-there graphs names exprs (Sparse from unknowns want) among known none = source-known names from (both _ true known).0 (option_none _ (source_named names from) none)
kind-there graphs names exprs (Call graph parts) among known none = call-there graphs names graph parts among known (option_none _ (call_parts graphs names graph parts) none)
kind-there graphs names exprs (Memo graph parts) among known none = call-there graphs names graph parts among known (option_none _ (call_parts graphs names graph parts) none)
kind-there graphs names exprs (Map graph parts) among known none = call-there graphs names graph parts among known (option_none _ (call_parts graphs names graph parts) none)
kind-there graphs names exprs (Laurent graph expansion parts) among known none = call-there graphs names graph parts among known (option_none _ (call_parts graphs names graph parts) none)

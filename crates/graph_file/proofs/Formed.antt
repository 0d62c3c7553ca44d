-- What a line says fits its pattern, and it has at most one more expression than bytes.
use Rattle.std.proofs.Common.{◌≡◌, ◌≤◌, ◌<◌, ◌+◌, ◌-◌, ◌^◌, min, subst, ℕ, zero, suc, Bool, true, false, cond, refl, sym, ap, ◌∙◌, List, [], ◌∷◌, length, map, drop, Option, Some, None, option_map, arith, not, ◌==◌, bytes_eq, codes, IfSome}
use Rattle.std.specs.List.{slice_split, list_all, position_or_len}
use Rattle.std.specs.Option.{option_and_then}
use Rattle.std.proofs.lemmas.List.{length-drop}
use Rattle.std.proofs.lemmas.List.Splits.{length-slice_split}
use Rattle.std.proofs.lemmas.List.Sums.{count_by-le-length}
use Rattle.ratfun_text.specs.Bytes.{is_blank, is_name, number_of, trim_start}
use Rattle.graph_file.specs.Formed.{Ascend, IsFormed, IsWant, IsWhole}
use Rattle.graph_file.proofs.KindLemmas.{IsCons, cons_of}
use Rattle.graph_file.proofs.Passes.{both}
use Rattle.std.proofs.lemmas.Bool.Decides.{nat_tests}
use Rattle.graph_file.specs.Lines.{after_word, after_words, is_plain, words}
use Rattle.graph_file.specs.declared.line.Degrees.{Degrees}
use Rattle.graph_file.specs.declared.line.Which.{Which}
use Rattle.graph_file.specs.declared.line.Line.{Line}
use Rattle.graph_file.specs.declared.line.Line.TheVariants.{Flow, Graph, Input, Node, Row, Point}
use Rattle.graph_file.specs.declared.line.Statement.{Statement}
use Rattle.graph_file.specs.declared.line.Statement.TheVariants.{Eval, Take, Matmul, Laurent}
use Rattle.graph_file.specs.declared.line.Want.{Want}
use Rattle.graph_file.specs.declared.line.Want.TheVariants.{Numbers}
use Rattle.graph_file.specs.Line.{both_degrees, bounds_from, bounds_line, coeff_from, coeff_line, which_of, wide_of, all_of, entry_of, size_of, flow_line, graph_line, input_line, output_line, point_line, eval_node, take_node, part_before, parts_of, slice_node, slice_from, chain_node, sum_node, product_node, matmul_node, sides_of, numbers_wanted, want_of, dense_from, dense_node, sparse_from, sparse_node, call_node, memo_node, map_node, expansion_from, laurent_node, order_of, are_less, are_ascending, row_line, statement_of, node_line, line_of_words, line_of}

chosen : {A : Type 0} (P : A → Type 0) (b : Bool) (x y : Option A) → IfSome x P → IfSome y P → IfSome (cond b x y) P
chosen P true x y first second = first
chosen P false x y first second = second

tested : {A : Type 0} (P : A → Type 0) (b : Bool) (x : Option A) → (b ≡ true → IfSome x P) → IfSome (cond b x None) P
tested P true x first = first refl
tested P false x first = tt

made : {A B : Type 0} (P : B → Type 0) (make : A → B) (o : Option A) → ((a : A) → P (make a)) → IfSome (option_map make o) P
made P make None each = tt
made P make (Some a) each = each a

made_with : {A B : Type 0} (P : B → Type 0) (make : A → B) (o : Option A) → ((a : A) → o ≡ Some a → P (make a)) → IfSome (option_map make o) P
made_with P make None each = tt
made_with P make (Some a) each = each a refl

-- numbers of words that ascend
sizes_less : (first second : Option ℕ) (a b : ℕ) → are_less first second ≡ true → option_map (λ n. min n (2 ^ 32 - 1)) first ≡ Some a → option_map (λ n. min n (2 ^ 32 - 1)) second ≡ Some b → b < 2 ^ 32 - 1 → a < b
sizes_less None second a b less is also small = cc
sizes_less (Some m) None a b less is also small = cc
sizes_less (Some m) (Some n) a b less is also small =
    let under : m < n = grind (arith, nat_tests, less) in
    let one : min m (2 ^ 32 - 1) ≡ a = let told : Some (min m (2 ^ 32 - 1)) ≡ Some a = is in cc in
    let two : min n (2 ^ 32 - 1) ≡ b = let told : Some (min n (2 ^ 32 - 1)) ≡ Some b = also in cc in
    omega (arith, under, one, two, small)

ascend_of : (word : List ℕ) (words : List (List ℕ)) (kept : List ℕ) → are_ascending (word ∷ words) ≡ true → all_of (map size_of (word ∷ words)) ≡ Some kept → (1 ≤ length kept) × Ascend kept
ascend_of word [] kept ascend is =
    let parts : IsCons (size_of word) [] kept = cons_of (size_of word) [] kept is in
    let none : [] ≡ parts.tail = let told : Some [] ≡ Some parts.tail = parts.others in cc in
    let whole : kept ≡ parts.head ∷ [] = parts.whole ∙ ap (λ l. parts.head ∷ l) (sym none) in
    subst (λ (l : List ℕ). (1 ≤ length l) × Ascend l) (sym whole) (omega arith, tt)
ascend_of word (next ∷ words) kept ascend is =
    let parts : IsCons (size_of word) (map size_of (next ∷ words)) kept = cons_of (size_of word) (map size_of (next ∷ words)) kept is in
    let later : IsCons (size_of next) (map size_of words) parts.tail = cons_of (size_of next) (map size_of words) parts.tail parts.others in
    let tests : (are_less (number_of word) (number_of next) ≡ true) × (are_ascending (next ∷ words) ≡ true) = both _ _ ascend in
    let rest : (1 ≤ length parts.tail) × Ascend parts.tail = ascend_of next words parts.tail tests.1 parts.others in
    let rest_is : Ascend (later.head ∷ later.tail) = subst Ascend later.whole rest.1 in
    let whole : kept ≡ parts.head ∷ later.head ∷ later.tail = parts.whole ∙ ap (λ l. parts.head ∷ l) later.whole in
    subst (λ (l : List ℕ). (1 ≤ length l) × Ascend l) (sym whole)
    (omega arith, (λ small. sizes_less (number_of word) (number_of next) parts.head later.head tests.0 parts.first later.first small, rest_is))

after_word-shorter : (line : List ℕ) → length (after_word line) ≤ length line
after_word-shorter line = omega (arith, length-drop (position_or_len is_blank (trim_start line)) (trim_start line), length-drop (position_or_len (λ byte. not (is_blank byte)) line) line)

after_words-shorter : (k : ℕ) (line : List ℕ) → length (after_words k line) ≤ length line
after_words-shorter zero line = omega arith
after_words-shorter (suc k) line = omega (arith, after_word-shorter (after_words k line), after_words-shorter k line)

module _ (n : ℕ) where
  slices : (from : List ℕ) (first last : Option ℕ) → IfSome (slice_from from first last) (IsWhole n)
  slices from None last = tt
  slices from (Some first) None = tt
  slices from (Some first) (Some last) = tt

  parts : (list : List ℕ) (later : Option (List (List ℕ × ℕ))) (position : Option ℕ) → IfSome (option_map Take (option_and_then (part_before list later) position)) (IsWhole n)
  parts list later None = tt
  parts list None (Some position) = tt
  parts list (Some later) (Some position) = omega arith

  takes : (words : List (List ℕ)) → IfSome (take_node words) (IsWhole n)
  takes [] = tt
  takes (list ∷ []) = tt
  takes (list ∷ position ∷ later) = parts list (parts_of later) (size_of position)

  slice_nodes : (words : List (List ℕ)) → IfSome (slice_node words) (IsWhole n)
  slice_nodes [] = tt
  slice_nodes (a ∷ []) = tt
  slice_nodes (a ∷ b ∷ []) = tt
  slice_nodes (a ∷ b ∷ c ∷ []) = slices a (size_of b) (size_of c)
  slice_nodes (a ∷ b ∷ c ∷ d ∷ later) = tt

  chains : (words : List (List ℕ)) → IfSome (chain_node words) (IsWhole n)
  chains [] = tt
  chains (a ∷ later) = omega arith

  sums : (words : List (List ℕ)) → IfSome (sum_node words) (IsWhole n)
  sums [] = tt
  sums (a ∷ later) = omega arith

  products : (words : List (List ℕ)) → IfSome (product_node words) (IsWhole n)
  products [] = tt
  products (a ∷ later) = omega arith

  matmuls : (words : List (List ℕ)) → IfSome (matmul_node words) (IsWhole n)
  matmuls [] = tt
  matmuls (a ∷ []) = tt
  matmuls (a ∷ b ∷ sides) = made (IsWhole n) (λ (s : ℕ × ℕ × ℕ). Matmul a b s.0 s.1 s.2) (sides_of sides) (λ s. tt)

  counted : (answers : Option (List ℕ)) (a : ℕ) (later : Option (List ℕ)) → answers ≡ option_map (λ l. a ∷ l) later → IfSome (option_map Numbers answers) IsWant
  counted None a later is = tt
  counted (Some l) a None is = cc
  counted (Some l) a (Some m) is = let same : l ≡ a ∷ m = cc in omega (arith, ap length same)

  numbered : (first : Option ℕ) (later : List (Option ℕ)) → IfSome (option_map Numbers (all_of (first ∷ later))) IsWant
  numbered None later = tt
  numbered (Some a) later = counted _ a (all_of later) refl

  behind_want : (words : List (List ℕ)) → IfSome (numbers_wanted words) IsWant
  behind_want [] = tt
  behind_want (number ∷ numbers) = numbered (size_of number) (map size_of numbers)

  wants : (words : List (List ℕ)) → IfSome (want_of words) IsWant
  wants [] = tt
  wants (first ∷ later) = tested IsWant (bytes_eq first (codes "want")) (numbers_wanted later) (λ is. behind_want later)

  systems : (from : List ℕ) (rows unknowns : Option ℕ) (want : Option Want) → IfSome want IsWant → IfSome (dense_from from rows unknowns want) (IsWhole n)
  systems from None unknowns want is = tt
  systems from (Some rows) None want is = tt
  systems from (Some rows) (Some unknowns) None is = tt
  systems from (Some rows) (Some unknowns) (Some want) is = is

  dense_nodes : (words : List (List ℕ)) → IfSome (dense_node words) (IsWhole n)
  dense_nodes [] = tt
  dense_nodes (a ∷ []) = tt
  dense_nodes (a ∷ b ∷ []) = tt
  dense_nodes (a ∷ b ∷ c ∷ later) = systems a (size_of b) (size_of c) (want_of later) (wants later)

  sparse_systems : (from : List ℕ) (unknowns : Option ℕ) (want : Option Want) → IfSome want IsWant → IfSome (sparse_from from unknowns want) (IsWhole n)
  sparse_systems from None want is = tt
  sparse_systems from (Some unknowns) None is = tt
  sparse_systems from (Some unknowns) (Some want) is = is

  sparse_nodes : (words : List (List ℕ)) → IfSome (sparse_node words) (IsWhole n)
  sparse_nodes [] = tt
  sparse_nodes (a ∷ []) = tt
  sparse_nodes (a ∷ b ∷ later) = sparse_systems a (size_of b) (want_of later) (wants later)

  calls : (words : List (List ℕ)) → IfSome (call_node words) (IsWhole n)
  calls [] = tt
  calls (a ∷ []) = tt
  calls (a ∷ b ∷ later) = omega arith

  memos : (words : List (List ℕ)) → IfSome (memo_node words) (IsWhole n)
  memos [] = tt
  memos (a ∷ []) = tt
  memos (a ∷ b ∷ later) = omega arith

  maps : (words : List (List ℕ)) → IfSome (map_node words) (IsWhole n)
  maps [] = tt
  maps (a ∷ []) = tt
  maps (a ∷ b ∷ later) = omega arith

  laurents : (words : List (List ℕ)) → IfSome (laurent_node words) (IsWhole n)
  laurents [] = tt
  laurents (a ∷ []) = tt
  laurents (a ∷ b ∷ []) = tt
  laurents (a ∷ b ∷ c ∷ []) = tt
  laurents (a ∷ b ∷ c ∷ d ∷ []) = tt
  laurents (a ∷ b ∷ c ∷ d ∷ e ∷ later) = made (IsWhole n) (λ expansion. Laurent a expansion later) (expansion_from (order_of b) (order_of c) (size_of d) (size_of e)) (λ expansion. tt)

  named : (name : List ℕ) (statement : Option Statement) → is_name name ≡ true → IfSome statement (IsWhole n) → IfSome (option_map (Node name) statement) (IsFormed n)
  named name None is whole = tt
  named name (Some statement) is whole = (is, whole)

  flows : (words : List (List ℕ)) → IfSome (flow_line words) (IsFormed n)
  flows [] = tt
  flows (version ∷ []) = made (IsFormed n) Flow (entry_of version) (λ a. tt)
  flows (a ∷ b ∷ later) = tt

  graphs : (words : List (List ℕ)) → IfSome (graph_line words) (IsFormed n)
  graphs [] = tt
  graphs (name ∷ []) = tested (IsFormed n) (is_name name) (Some (Graph name)) (λ is. is)
  graphs (a ∷ b ∷ later) = tt

  inputs : (words : List (List ℕ)) → IfSome (input_line words) (IsFormed n)
  inputs [] = tt
  inputs (name ∷ names) = tested (IsFormed n) (list_all is_name (name ∷ names)) (Some (Input (name ∷ names))) (λ are. (are, omega arith))

  outputs : (words : List (List ℕ)) → IfSome (output_line words) (IsFormed n)
  outputs [] = tt
  outputs (list ∷ []) = tt
  outputs (a ∷ b ∷ later) = tt

  rows : (words : List (List ℕ)) → IfSome (row_line words) (IsFormed n)
  rows [] = tt
  rows (column ∷ columns) =
      tested (IsFormed n) (are_ascending (column ∷ columns)) (option_map Row (all_of (map size_of (column ∷ columns))))
      (λ ascend. made_with (IsFormed n) Row (all_of (map size_of (column ∷ columns))) (λ kept is. ascend_of column columns kept ascend is))

  points : (words : List (List ℕ)) → IfSome (point_line words) (IsFormed n)
  points [] = tt
  points (entry ∷ entries) = made (IsFormed n) Point (all_of (map entry_of (entry ∷ entries))) (λ a. tt)

  bounds_made : (outputs : Option Which) (degrees : Option (Degrees × Degrees)) → IfSome (bounds_from outputs degrees) (IsFormed n)
  bounds_made None degrees = tt
  bounds_made (Some outputs) None = tt
  bounds_made (Some outputs) (Some degrees) = tt

  bounds : (words : List (List ℕ)) → IfSome (bounds_line words) (IsFormed n)
  bounds [] = tt
  bounds (a ∷ []) = tt
  bounds (outputs ∷ num ∷ later) = tested (IsFormed n) (bytes_eq num (codes "num")) _ (λ is. bounds_made (which_of outputs) (both_degrees later))

  coeff_made : (num den : Option ℕ) → IfSome (coeff_from num den) (IsFormed n)
  coeff_made None den = tt
  coeff_made (Some num) None = tt
  coeff_made (Some num) (Some den) = tt

  coeffs : (words : List (List ℕ)) → IfSome (coeff_line words) (IsFormed n)
  coeffs [] = tt
  coeffs (num ∷ []) = tt
  coeffs (num ∷ den ∷ []) = coeff_made (wide_of num) (wide_of den)
  coeffs (a ∷ b ∷ c ∷ later) = tt

evals : (line : List ℕ) (words : List (List ℕ)) → IfSome (eval_node line words) (IsWhole (length line + 1))
evals line [] = tt
evals line (from ∷ []) = tt
evals line (from ∷ equals ∷ later) =
    tested (IsWhole (length line + 1)) (bytes_eq equals (codes "=")) (Some (Eval from (slice_split (λ byte. byte == 59) (after_words 5 line))))
    (λ is. (
      omega (arith, length-slice_split (λ byte. byte == 59) (after_words 5 line)),
      omega (arith, length-slice_split (λ byte. byte == 59) (after_words 5 line), count_by-le-length (λ byte. byte == 59) (after_words 5 line), after_words-shorter 5 line),
    ))

statements : (line kind : List ℕ) (words : List (List ℕ)) → IfSome (statement_of line kind words) (IsWhole (length line + 1))
statements line kind words =
    let n : ℕ = length line + 1 in
    chosen (IsWhole n) (bytes_eq kind (codes "eval")) _ _ (evals line words)
    (chosen (IsWhole n) (bytes_eq kind (codes "take")) _ _ (takes n words)
    (chosen (IsWhole n) (bytes_eq kind (codes "slice")) _ _ (slice_nodes n words)
    (chosen (IsWhole n) (bytes_eq kind (codes "chain")) _ _ (chains n words)
    (chosen (IsWhole n) (bytes_eq kind (codes "sum")) _ _ (sums n words)
    (chosen (IsWhole n) (bytes_eq kind (codes "product")) _ _ (products n words)
    (chosen (IsWhole n) (bytes_eq kind (codes "matmul")) _ _ (matmuls n words)
    (chosen (IsWhole n) (bytes_eq kind (codes "dense")) _ _ (dense_nodes n words)
    (chosen (IsWhole n) (bytes_eq kind (codes "sparse")) _ _ (sparse_nodes n words)
    (chosen (IsWhole n) (bytes_eq kind (codes "call")) _ _ (calls n words)
    (chosen (IsWhole n) (bytes_eq kind (codes "memo")) _ _ (memos n words)
    (chosen (IsWhole n) (bytes_eq kind (codes "map")) _ _ (maps n words)
    (chosen (IsWhole n) (bytes_eq kind (codes "laurent")) _ None (laurents n words) tt))))))))))))

nodes : (line : List ℕ) (words : List (List ℕ)) → IfSome (node_line line words) (IsFormed (length line + 1))
nodes line [] = tt
nodes line (name ∷ []) = tt
nodes line (name ∷ kind ∷ arguments) = tested (IsFormed (length line + 1)) (is_name name) _ (λ is. named (length line + 1) name (statement_of line kind arguments) is (statements line kind arguments))

by_words : (line : List ℕ) (words : List (List ℕ)) → IfSome (line_of_words line words) (IsFormed (length line + 1))
by_words line [] = tt
by_words line (first ∷ later) =
    let n : ℕ = length line + 1 in
    chosen (IsFormed n) (bytes_eq first (codes "flow")) _ _ (flows n later)
    (chosen (IsFormed n) (bytes_eq first (codes "graph")) _ _ (graphs n later)
    (chosen (IsFormed n) (bytes_eq first (codes "input")) _ _ (inputs n later)
    (chosen (IsFormed n) (bytes_eq first (codes "node")) _ _ (nodes line later)
    (chosen (IsFormed n) (bytes_eq first (codes "row")) _ _ (rows n later)
    (chosen (IsFormed n) (bytes_eq first (codes "output")) _ _ (outputs n later)
    (chosen (IsFormed n) (bytes_eq first (codes "point")) _ _ (points n later)
    (chosen (IsFormed n) (bytes_eq first (codes "bounds")) _ _ (bounds n later)
    (chosen (IsFormed n) (bytes_eq first (codes "coeff")) _ None (coeffs n later) tt))))))))

-- what a line says fits its pattern
pub line-formed : (line : List ℕ) → IfSome (line_of line) (IsFormed (length line + 1))
line-formed line = tested (IsFormed (length line + 1)) (is_plain line) (line_of_words line (words line)) (λ plain. by_words line (words line))

pub said-formed : (line : List ℕ) (said : Option Line) → said ≡ line_of line → IfSome said (IsFormed (length line + 1))
said-formed line said same = Rattle.std.proofs.Common.subst (λ (o : Option Line). IfSome o (IsFormed (length line + 1))) (sym same) (line-formed line)

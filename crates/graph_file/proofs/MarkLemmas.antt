-- Flags of nodes, set one after the other.
use Rattle.std.proofs.Common.{◌≡◌, ◌<◌, ◌≤◌, ◌+◌, ℕ, zero, suc, Bool, true, false, refl, sym, ap, subst, ◌∙◌, List, [], ◌∷◌, length, get_or, Some, arith, ◌⊎◌, inl, inr, option_map}
use mathlib.Core.Logic.{⊎_elim}
use Rattle.std.proofs.Math.ListN.{replicate, set}
use Rattle.std.specs.List.{slice_get}
use Rattle.std.proofs.lemmas.Bool.{cases_lt}
use Rattle.std.proofs.lemmas.List.{length-set, length-map}
use Rattle.std.proofs.lemmas.Option.{slice_get-map, slice_get_within, slice_get-get_or}
use Rattle.graph_file.specs.Marks.{AreMarkedFrom, IsSet, MarksFirst, ReadEarlier, marked}
use Rattle.graph_file.specs.Needed.{IsNeededFor, Reads, kinds_of, sources_of}
use Rattle.graph_file.specs.Needed.IsNeededFor.{Output, ReadBy}
use Rattle.graph_file.specs.declared.graph.Node.{Node}
use Rattle.graph_file.specs.declared.graph.NodeKind.{NodeKind}
use Rattle.graph_file.specs.declared.graph.Source.{Source}
use Rattle.graph_file.specs.declared.graph.Source.TheVariants as source

-- a flag that is set, and the others
pub set_same : {X : Type 0} (xs : List X) (i : ℕ) (x : X) → i < length xs → slice_get (set xs i x) i ≡ Some x
set_same [] i x within = absurd (omega arith)
set_same (y ∷ ys) zero x within = refl
set_same (y ∷ ys) (suc i) x within = set_same ys i x (omega arith)

pub set_other : {X : Type 0} (xs : List X) (i k : ℕ) (x : X) → (k ≡ i → ⊥) → slice_get (set xs i x) k ≡ slice_get xs k
set_other [] i k x differs = refl
set_other (y ∷ ys) zero zero x differs = absurd (differs refl)
set_other (y ∷ ys) zero (suc k) x differs = refl
set_other (y ∷ ys) (suc i) zero x differs = refl
set_other (y ∷ ys) (suc i) (suc k) x differs = set_other ys i k x (λ same. differs (ap suc same))

equal_or : (k i : ℕ) → (k ≡ i) ⊎ (k ≡ i → ⊥)
equal_or k i = from (cases_lt k i)
  where
    from : (k < i) ⊎ (i ≤ k) → (k ≡ i) ⊎ (k ≡ i → ⊥)
    from (inl below) = inr (λ same. absurd (omega arith))
    from (inr above) = again (cases_lt i k)
      where
        again : (i < k) ⊎ (k ≤ i) → (k ≡ i) ⊎ (k ≡ i → ⊥)
        again (inl over) = inr (λ same. absurd (omega arith))
        again (inr under) = inl (omega arith)

stays_set : (flags : List Bool) (i k : ℕ) → i < length flags → IsSet flags k → IsSet (set flags i true) k
stays_set flags i k within was = ⊎_elim
    (λ (same : k ≡ i). subst (λ (n : ℕ). IsSet (set flags i true) n) (sym same) (set_same flags i true within))
    (λ (differs : k ≡ i → ⊥). set_other flags i k true differs ∙ was)
    (equal_or k i)

-- no flags but old ones before the first list
pub MarksFirst-none : (sources : List Source) (flags : List Bool) → MarksFirst sources 0 flags flags
MarksFirst-none sources flags = record {
  counted = refl;
  stays = λ k was. was;
  wanted = λ i k within. absurd (omega arith);
  only = λ k was. inl was;
}

-- one more list
pub MarksFirst-more : (sources : List Source) (i : ℕ) (old new : List Bool) (from : Source) → slice_get sources i ≡ Some from → ((k : ℕ) → from ≡ source.Node k → k < length new) → MarksFirst sources i old new → MarksFirst sources (i + 1) old (marked from new)
MarksFirst-more sources i old new source.Input at within so_far = record {
  counted = so_far.counted;
  stays = so_far.stays;
  wanted = λ j k below read. ⊎_elim
      (λ (less : j < i). so_far.wanted j k less read)
      (λ (more : i ≤ j).
      let same : j ≡ i = omega arith in
      let told : Some source.Input ≡ Some (source.Node k) = sym at ∙ ap (slice_get sources) (sym same) ∙ read in cc)
      (cases_lt j i);
  only = so_far.only;
}
MarksFirst-more sources i old new (source.Node number) at within so_far =
    let here : number < length new = within number refl in
    record {
      counted = length-set new number true ∙ so_far.counted;
      stays = λ k was. stays_set new number k here (so_far.stays k was);
      wanted = λ j k below read. ⊎_elim
          (λ (less : j < i). stays_set new number k here (so_far.wanted j k less read))
          (λ (more : i ≤ j).
          let same : j ≡ i = omega arith in
          let told : Some (source.Node number) ≡ Some (source.Node k) = sym at ∙ ap (slice_get sources) (sym same) ∙ read in
          let equal : number ≡ k = cc in
          subst (λ (n : ℕ). IsSet (set new number true) n) equal (set_same new number true here))
          (cases_lt j i);
      only = λ k is. ⊎_elim
          (λ (same : k ≡ number). inr (i, at ∙ ap (λ n. Some (source.Node n)) (sym same)))
          (λ (differs : k ≡ number → ⊥). so_far.only k (sym (set_other new number k true differs) ∙ is))
          (equal_or k number);
    }

-- no flag is set at first
none_set : (n k : ℕ) → slice_get (replicate n false) k ≡ Some true → ⊥
none_set zero k is = cc
none_set (suc n) zero is = cc
none_set (suc n) (suc k) is = none_set n k is

length-none : (n : ℕ) → length (replicate n false) ≡ n
length-none zero = refl
length-none (suc n) = ap suc (length-none n)

-- with the output's flag alone the flags are as the output shows them
pub AreMarkedFrom-output : (kinds : List NodeKind) (output : Source) (count : ℕ) → count ≡ length kinds → ((k : ℕ) → output ≡ source.Node k → k < count) → AreMarkedFrom kinds output count (marked output (replicate count false))
AreMarkedFrom-output kinds source.Input count whole within = record {
  counted = length-none count ∙ whole;
  output_set = λ k is. let told : source.Input ≡ source.Node k = is in cc;
  needed = λ k is. absurd (none_set count k is);
  read = λ k j kind past is. absurd (none_set count j is);
}
AreMarkedFrom-output kinds (source.Node number) count whole within =
    let here : number < length (replicate count false) = subst (λ (n : ℕ). number < n) (sym (length-none count)) (within number refl) in
    record {
      counted = length-set (replicate count false) number true ∙ length-none count ∙ whole;
      output_set = λ k is.
          let told : source.Node number ≡ source.Node k = is in
          let same : number ≡ k = cc in
          subst (λ (n : ℕ). IsSet (set (replicate count false) number true) n) same (set_same (replicate count false) number true here);
      needed = λ k is. ⊎_elim
          (λ (same : k ≡ number). Output k (ap source.Node (sym same)))
          (λ (differs : k ≡ number → ⊥). absurd (none_set count k (sym (set_other (replicate count false) number k true differs) ∙ is)))
          (equal_or k number);
      read = λ k j kind past is at reads.
          let inside : j < length kinds = slice_get_within kinds j kind at in
          absurd (omega arith);
    }

-- one more node, whose flag isn't set
pub AreMarkedFrom-unset : (kinds : List NodeKind) (output : Source) (place : ℕ) (flags : List Bool) → slice_get flags place ≡ Some false → AreMarkedFrom kinds output (place + 1) flags → AreMarkedFrom kinds output place flags
AreMarkedFrom-unset kinds output place flags unset so_far = record {
  counted = so_far.counted;
  output_set = so_far.output_set;
  needed = so_far.needed;
  read = λ k j kind past is at reads. ⊎_elim
      (λ (more : place < j). so_far.read k j kind (let next : place + 1 ≤ j = omega arith in next) is at reads)
      (λ (less : j ≤ place).
      let same : j ≡ place = omega arith in
      let told : Some true ≡ Some false = sym is ∙ ap (slice_get flags) same ∙ unset in cc)
      (cases_lt place j);
}

-- one more node, whose flag is set
pub AreMarkedFrom-set : (kinds : List NodeKind) (output : Source) (place : ℕ) (flags new : List Bool) (kind : NodeKind) (count : ℕ) → ReadEarlier kinds → slice_get kinds place ≡ Some kind → slice_get flags place ≡ Some true → AreMarkedFrom kinds output (place + 1) flags → count ≡ length (sources_of kind) → MarksFirst (sources_of kind) count flags new → AreMarkedFrom kinds output place new
AreMarkedFrom-set kinds output place flags new kind count earlier here is_set so_far whole marks = record {
  counted = marks.counted ∙ so_far.counted;
  output_set = λ k is. marks.stays k (so_far.output_set k is);
  needed = λ k is. ⊎_elim
      (λ (was : IsSet flags k). so_far.needed k was)
      (λ (read : Reads kind (source.Node k)). ReadBy k place kind (so_far.needed place is_set) here read)
      (marks.only k is);
  read = λ k j other past is at reads. ⊎_elim
      (λ (more : place < j). ⊎_elim
      (λ (was : IsSet flags j). marks.stays k (so_far.read k j other (let next : place + 1 ≤ j = omega arith in next) was at reads))
      (λ (read : Reads kind (source.Node j)). let below : j < place = earlier place j kind here read in absurd (omega arith))
      (marks.only j is))
      (λ (less : j ≤ place).
      let same : j ≡ place = omega arith in
      let told : Some other ≡ Some kind = sym at ∙ ap (slice_get kinds) same ∙ here in
      let equal : other ≡ kind = cc in
      let given : Reads kind (source.Node k) = subst (λ (o : NodeKind). Reads o (source.Node k)) equal reads in
      marks.wanted given.0 k (let within : given.0 < count = omega (arith, slice_get_within (sources_of kind) given.0 (source.Node k) given.1) in within) given.1)
      (cases_lt place j);
}

-- at the first node, a needed node's flag is set
pub set-needed : (kinds : List NodeKind) (output : Source) (flags : List Bool) → AreMarkedFrom kinds output 0 flags → (k : ℕ) → IsNeededFor kinds output k → IsSet flags k
set-needed kinds output flags marks k (Output n is) = marks.output_set n is
set-needed kinds output flags marks k (ReadBy n j kind needed at reads) = marks.read n j kind (omega arith) (set-needed kinds output flags marks j needed) at reads

-- one more list of a slice, read by its index
pub MarksFirst-next : (sources : List Source) (i : ℕ) (old new next : List Bool) (d : Source) → i < length sources → next ≡ marked (get_or sources i d) new → ((j k : ℕ) → slice_get sources j ≡ Some (source.Node k) → k < length old) → MarksFirst sources i old new → MarksFirst sources (i + 1) old next
MarksFirst-next sources i old new next d within made inside so_far =
    let at : slice_get sources i ≡ Some (get_or sources i d) = slice_get-get_or sources i d within in
    subst (λ (l : List Bool). MarksFirst sources (i + 1) old l) (sym made)
    (MarksFirst-more sources i old new (get_or sources i d) at
    (λ k is. let below : k < length old = inside i k (at ∙ ap (λ s. Some s) is) in omega (arith, so_far.counted)) so_far)

-- what a node of a slice computes
pub kind-at : (nodes : List Node) (place : ℕ) (d : Node) → place < length nodes → slice_get (kinds_of nodes) place ≡ Some (get_or nodes place d).kind
kind-at nodes place d within = slice_get-map (λ node. node.kind) nodes place ∙ ap (option_map (λ node. node.kind)) (slice_get-get_or nodes place d within)

-- the lists that a node reads have flags
pub reads-within : (nodes : List Node) (place : ℕ) (d : Node) (sources : List Source) (flags : List Bool) → place < length nodes → ReadEarlier (kinds_of nodes) → sources ≡ sources_of (get_or nodes place d).kind → length flags ≡ length (kinds_of nodes) → (i k : ℕ) → slice_get sources i ≡ Some (source.Node k) → k < length flags
reads-within nodes place d sources flags within earlier are counted i k at =
    let below : k < place = earlier place k (get_or nodes place d).kind (kind-at nodes place d within) (i, ap (λ l. slice_get l i) (sym are) ∙ at) in
    omega (arith, counted, length-map nodes (λ (node : Node). node.kind))

-- the flags with those of what a node reads
pub AreMarkedFrom-next : (nodes : List Node) (output : Source) (place : ℕ) (d : Node) (sources : List Source) (flags new : List Bool) → place < length nodes → ReadEarlier (kinds_of nodes) → sources ≡ sources_of (get_or nodes place d).kind → slice_get flags place ≡ Some true → AreMarkedFrom (kinds_of nodes) output (place + 1) flags → MarksFirst sources (length sources) flags new → AreMarkedFrom (kinds_of nodes) output place new
AreMarkedFrom-next nodes output place d sources flags new within earlier are is_set so_far marks =
    AreMarkedFrom-set (kinds_of nodes) output place flags new (get_or nodes place d).kind (length sources) earlier (kind-at nodes place d within) is_set so_far (ap length are)
    (subst (λ (l : List Source). MarksFirst l (length sources) flags new) are marks)

-- at the last node the flags are the output's alone
pub AreMarkedFrom-start : (nodes : List Node) (output : Source) (none flags : List Bool) → none ≡ replicate (length nodes) false → flags ≡ marked output none → ((k : ℕ) → output ≡ source.Node k → k < length nodes) → AreMarkedFrom (kinds_of nodes) output (length nodes) flags
AreMarkedFrom-start nodes output none flags empty made within =
    subst (λ (l : List Bool). AreMarkedFrom (kinds_of nodes) output (length nodes) l) (sym (made ∙ ap (marked output) empty))
    (AreMarkedFrom-output (kinds_of nodes) output (length nodes) (sym (length-map nodes (λ (node : Node). node.kind))) within)

-- one more node with its flag
pub marked-next : (nodes old : List Node) (flags : List Bool) (place : ℕ) (node d : Node) (flag : Bool) → place < length nodes → node ≡ get_or nodes place d → slice_get flags place ≡ Some flag → ((k : ℕ) (other : Node) → k < place → slice_get nodes k ≡ Some other → slice_get flags k ≡ Some other.needed) → (k : ℕ) (other : Node) → k < place + 1 → slice_get (set nodes place (record { name = node.name; kind = node.kind; needed = flag })) k ≡ Some other → slice_get flags k ≡ Some other.needed
marked-next nodes old flags place node d flag within read at so_far k other below is =
    let mark : Node = record { name = node.name; kind = node.kind; needed = flag } in
    ⊎_elim
    (λ (same : k ≡ place).
    let told : Some mark ≡ Some other = sym (set_same nodes place mark within) ∙ ap (slice_get (set nodes place mark)) (sym same) ∙ is in
    let equal : mark ≡ other = cc in
    ap (slice_get flags) same ∙ at ∙ ap (λ (n : Node). Some n.needed) equal)
    (λ (differs : k ≡ place → ⊥). so_far k other (let less : k < place = omega arith in less) (sym (set_other nodes place k mark differs) ∙ is))
    (equal_or k place)

-- a flag that was read
pub flag_set : (nodes : List Node) (flags : List Bool) (place : ℕ) (d flag : Bool) → place < length nodes → length flags ≡ length (kinds_of nodes) → flag ≡ get_or flags place d → flag ≡ true → slice_get flags place ≡ Some true
flag_set nodes flags place d flag within counted read is =
    let inside : place < length flags = omega (arith, counted, length-map nodes (λ (node : Node). node.kind)) in
    slice_get-get_or flags place d inside ∙ ap (λ b. Some b) (sym read ∙ is)

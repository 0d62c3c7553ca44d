-- At most one thing is told of a file, and a file says at most one thing.
use Rattle.std.proofs.Common.{◌≡◌, ◌<◌, ◌≤◌, ◌+◌, ℕ, suc, Bool, true, false, refl, sym, ap, subst, ◌∙◌, List, [], ◌∷◌, ◌++◌, length, take, Option, Some, None, arith, ◌⊎◌, inl, inr, IsTrue, ◌↔◌}
use mathlib.Core.Logic.{⊎_elim}
use Rattle.std.specs.List.{slice_get}
use Rattle.std.proofs.lemmas.Bool.{cases_lt}
use Rattle.std.proofs.lemmas.Option.{slice_get_within}
use Rattle.ratfun_text.specs.Faults.{IsFirst}
use Rattle.ratfun_text.specs.declared.expr.Expr.{Expr}
use Rattle.ratfun_text.specs.declared.names.Names.{Names}
use Rattle.ratfun_text.specs.declared.names.Names.TheVariants.{Listed}
use Rattle.ratfun_text.specs.declared.parse.ExprError.{ExprError}
use Rattle.ratfun_text.specs.declared.parse.ExprKind.{ExprKind}
use Rattle.ratfun_text.proofs.Unique.{one_fault, same_tree}
use Rattle.graph_file.specs.declared.error.FileKind.{FileKind}
use Rattle.graph_file.specs.declared.error.FileKind.TheVariants as kind
use Rattle.graph_file.specs.declared.graph.Graph.{Graph}
use Rattle.graph_file.specs.declared.graph.Node.{Node}
use Rattle.graph_file.specs.declared.graph.NodeKind.{NodeKind}
use Rattle.graph_file.specs.declared.graph.Source.{Source}
use Rattle.graph_file.specs.declared.job.Need.{Need}
use Rattle.graph_file.specs.declared.job.Special.{Special}
use Rattle.poly_maps.specs.declared.bound.Bounds.{Bounds}
use Rattle.rational_lift.specs.declared.coeff.Coeff.{Coeff}
use Rattle.graph_file.specs.declared.line.Line.{Line}
use Rattle.graph_file.specs.declared.line.Line.TheVariants as line
use Rattle.graph_file.specs.declared.line.Statement.{Statement}
use Rattle.graph_file.specs.Faults.{HasNoRefusal, HasRefusal, IsBadLine, IsGoodLine, IsRefused, fault, names_in}
use Rattle.graph_file.specs.Facts.{earlier_names_in, node_names_in, variables_in}
use Rattle.graph_file.specs.File.{IsBadAt, IsCutOff, IsFirstBad, IsFirstBadLine, IsGoodAt, IsGoodFile, IsTold, said}
use Rattle.graph_file.specs.Line.{line_of, texts_in}
use Rattle.graph_file.specs.Lines.{lines}
use Rattle.graph_file.specs.Needed.{IsNeededFor, kinds_of}
use Rattle.graph_file.specs.Says.{AreKinds, AreTrees, FileForm, IsKindOf, Says, SaysGraph, kind_of, last_with_row, lines_through, names_of}

-- two places are one, or one stands before the other
compare_places : (i j : ℕ) → (i ≡ j) ⊎ ((i < j) ⊎ (j < i))
compare_places i j = ⊎_elim
    (λ (below : i < j). inr (inl below))
    (λ (above : j ≤ i). ⊎_elim (λ (over : j < i). inr (inr over)) (λ (under : i ≤ j). inl (omega arith)) (cases_lt j i))
    (cases_lt i j)

-- of one line at most one expression is told
refused_later : (names : Names) (texts : List (List ℕ)) (m n : ℕ) (e f : ExprError) → (a : IsRefused names texts m e) → (b : IsRefused names texts n f) → a.place < b.place → ⊥
refused_later names texts m n e f a b before = b.before a.place a.text before a.there e.place e.kind a.first.applies

pub same-refusal : (names : Names) (texts : List (List ℕ)) (m n : ℕ) (e f : ExprError) → IsRefused names texts m e → IsRefused names texts n f → (m ≡ n) × (e ≡ f)
same-refusal names texts m n e f a b = ⊎_elim
    (λ (same : a.place ≡ b.place).
    let told : Some a.text ≡ Some b.text = sym a.there ∙ ap (slice_get texts) same ∙ b.there in
    let text : a.text ≡ b.text = cc in
    let first : IsFirst names b.text e.place e.kind = subst (λ (t : List ℕ). IsFirst names t e.place e.kind) text a.first in
    let one : (e.place ≡ f.place) × (e.kind ≡ f.kind) = one_fault names b.text e.place f.place e.kind f.kind first b.first in
    let make : ℕ → ExprKind → ExprError = λ p k. record { place = p; kind = k } in
    (a.counted ∙ ap (λ p. p + 1) same ∙ sym b.counted, ap (λ p. make p e.kind) one.0 ∙ ap (make f.place) one.1))
    (λ (apart : (a.place < b.place) ⊎ (b.place < a.place)). absurd (⊎_elim (refused_later names texts m n e f a b) (refused_later names texts n m f e b a) apart))
    (compare_places a.place b.place)

-- what is told of a line is a fault of what it says, or the refusal of an expression
record IsExpression (earlier : List Line) (o : Option Line) (told : FileKind) : Type 0 where
  number : ℕ
  error : ExprError
  is : told ≡ kind.Expr number error
  none : fault earlier o ≡ None
  refused : HasRefusal earlier o number error

View : List Line → Option Line → FileKind → Type 0
View earlier o told = (fault earlier o ≡ Some told) ⊎ IsExpression earlier o told

view : (earlier : List Line) (o : Option Line) (told : FileKind) → IsBadLine earlier o told → View earlier o told
unfolding View
view earlier o kind.Syntax bad = inl bad
view earlier o kind.Version bad = inl bad
view earlier o kind.Repeated bad = inl bad
view earlier o kind.UnknownGraph bad = inl bad
view earlier o kind.UnknownNode bad = inl bad
view earlier o kind.Residue bad = inl bad
view earlier o kind.Limit bad = inl bad
view earlier o (kind.Expr number error) bad = inr (record { number = number; error = error; is = refl; none = bad.0; refused = bad.1 })
view earlier o kind.Missing bad = inl bad
view earlier o kind.NoMemory bad = inl bad

same_expression : (earlier : List Line) (o : Option Line) (m n : ℕ) (e f : ExprError) → HasRefusal earlier o m e → HasRefusal earlier o n f → (m ≡ n) × (e ≡ f)
same_expression earlier None m n e f a b = absurd a
same_expression earlier (Some says) m n e f a b = same-refusal (names_in (Listed (variables_in earlier)) says) (texts_in says) m n e f a b

same_line : (earlier : List Line) (o : Option Line) (k l : FileKind) → IsBadLine earlier o k → IsBadLine earlier o l → k ≡ l
unfolding View
same_line earlier o k l a b = ⊎_elim
    (λ (first : fault earlier o ≡ Some k). ⊎_elim
    (λ (second : fault earlier o ≡ Some l). let told : Some k ≡ Some l = sym first ∙ second in cc)
    (λ (second : IsExpression earlier o l). let told : Some k ≡ None = sym first ∙ second.none in cc)
    (view earlier o l b))
    (λ (first : IsExpression earlier o k). ⊎_elim
    (λ (second : fault earlier o ≡ Some l). let told : Some l ≡ None = sym second ∙ first.none in cc)
    (λ (second : IsExpression earlier o l).
    let one : (first.number ≡ second.number) × (first.error ≡ second.error) = same_expression earlier o first.number second.number first.error second.error first.refused second.refused in
    first.is ∙ ap (λ n. kind.Expr n first.error) one.0 ∙ ap (kind.Expr second.number) one.1 ∙ sym second.is)
    (view earlier o l b))
    (view earlier o k a)

not_refused : (earlier : List Line) (o : Option Line) (number : ℕ) (error : ExprError) → HasNoRefusal earlier o → HasRefusal earlier o number error → ⊥
not_refused earlier None number error good bad = bad
not_refused earlier (Some says) number error good bad = good bad.place bad.text bad.there error.place error.kind bad.first.applies

good_or_bad : (earlier : List Line) (o : Option Line) (k : FileKind) → IsGoodLine earlier o → IsBadLine earlier o k → ⊥
unfolding View
good_or_bad earlier o k good bad = ⊎_elim
    (λ (first : fault earlier o ≡ Some k). let told : Some k ≡ None = sym first ∙ good.0 in cc)
    (λ (first : IsExpression earlier o k). not_refused earlier o first.number first.error good.1 first.refused)
    (view earlier o k bad)

good_or_bad_at : (all : List (List ℕ)) (place : ℕ) (k : FileKind) → IsGoodAt all place → IsBadAt all place k → ⊥
good_or_bad_at all place k good bad = good_or_bad (said (take place all)) (line_of bad.line) k (good bad.line bad.there bad.counts) bad.bad

same_at : (all : List (List ℕ)) (place : ℕ) (k l : FileKind) → IsBadAt all place k → IsBadAt all place l → k ≡ l
same_at all place k l a b =
    let told : Some a.line ≡ Some b.line = sym a.there ∙ b.there in
    let same : a.line ≡ b.line = cc in
    same_line (said (take place all)) (line_of b.line) k l (subst (λ (t : List ℕ). IsBadLine (said (take place all)) (line_of t) k) same a.bad) b.bad

-- what is told of a file is the first bad line, or that it is cut off
record IsEnd (need : Need) (all : List (List ℕ)) (number : ℕ) (told : FileKind) : Type 0 where
  is : told ≡ kind.Missing
  cut : IsCutOff need all number

told_view : (need : Need) (all : List (List ℕ)) (number : ℕ) (told : FileKind) → IsTold need all number told → IsFirstBadLine all number told ⊎ IsEnd need all number told
told_view need all number kind.Syntax told = inl told
told_view need all number kind.Version told = inl told
told_view need all number kind.Repeated told = inl told
told_view need all number kind.UnknownGraph told = inl told
told_view need all number kind.UnknownNode told = inl told
told_view need all number kind.Residue told = inl told
told_view need all number kind.Limit told = inl told
told_view need all number (kind.Expr expression error) told = inl told
told_view need all number kind.Missing told = inr (record { is = refl; cut = told })
told_view need all number kind.NoMemory told = inl told

first_later : (all : List (List ℕ)) (m n : ℕ) (k l : FileKind) → (a : IsFirstBadLine all m k) → (b : IsFirstBadLine all n l) → a.place < b.place → ⊥
first_later all m n k l a b before = good_or_bad_at all a.place k (b.before a.place before) a.bad

same_first : (all : List (List ℕ)) (m n : ℕ) (k l : FileKind) → IsFirstBadLine all m k → IsFirstBadLine all n l → (m ≡ n) × (k ≡ l)
same_first all m n k l a b = ⊎_elim
    (λ (same : a.place ≡ b.place). (a.counted ∙ ap (λ p. p + 1) same ∙ sym b.counted, same_at all b.place k l (subst (λ (p : ℕ). IsBadAt all p k) same a.bad) b.bad))
    (λ (apart : (a.place < b.place) ⊎ (b.place < a.place)). absurd (⊎_elim (first_later all m n k l a b) (first_later all n m l k b a) apart))
    (compare_places a.place b.place)

bad_in_good : (all : List (List ℕ)) (n : ℕ) (k : FileKind) → IsFirstBadLine all n k → ((place : ℕ) → place < length all → IsGoodAt all place) → ⊥
bad_in_good all n k bad good = good_or_bad_at all bad.place k (good bad.place (slice_get_within all bad.place bad.bad.line bad.bad.there)) bad.bad

pub one-told : (need : Need) (bytes : List ℕ) (m n : ℕ) (k l : FileKind) → IsFirstBad need bytes m k → IsFirstBad need bytes n l → (m ≡ n) × (k ≡ l)
one-told need bytes m n k l a b =
    let all : List (List ℕ) = lines bytes in
    ⊎_elim
    (λ (first : IsFirstBadLine all m k). ⊎_elim
    (λ (second : IsFirstBadLine all n l). same_first all m n k l first second)
    (λ (second : IsEnd need all n l). absurd (bad_in_good all m k first second.cut.good))
    (told_view need all n l b))
    (λ (first : IsEnd need all m k). ⊎_elim
    (λ (second : IsFirstBadLine all n l). absurd (bad_in_good all n l second first.cut.good))
    (λ (second : IsEnd need all n l). (first.cut.counted ∙ sym second.cut.counted, first.is ∙ sym second.is))
    (told_view need all n l b))
    (told_view need all m k a)

pub none-told : (need : Need) (bytes : List ℕ) (n : ℕ) (k : FileKind) → IsGoodFile need bytes → IsFirstBad need bytes n k → ⊥
none-told need bytes n k good bad = ⊎_elim
    (λ (first : IsFirstBadLine (lines bytes) n k). bad_in_good (lines bytes) n k first good.good)
    (λ (first : IsEnd need (lines bytes) n k). let never : true ≡ false = sym good.complete ∙ first.cut.lacks in cc)
    (told_view need (lines bytes) n k bad)

-- one list of trees for a list of texts
same_trees : (names : Names) (texts : List (List ℕ)) (a b : List Expr) → AreTrees names texts a → AreTrees names texts b → a ≡ b
same_trees names [] [] [] x y = refl
same_trees names [] [] (d ∷ b) x y = absurd y
same_trees names [] (c ∷ a) b x y = absurd x
same_trees names (text ∷ texts) [] b x y = absurd x
same_trees names (text ∷ texts) (c ∷ a) [] x y = absurd y
same_trees names (text ∷ texts) (c ∷ a) (d ∷ b) x y =
    ap (λ t. t ∷ a) (same_tree names text c d x.0 y.0) ∙ ap (λ l. d ∷ l) (same_trees names texts a b x.1 y.1)

same_kind : (earlier : List Line) (name : List ℕ) (statement : Statement) (a b : NodeKind) → IsKindOf earlier name statement a → IsKindOf earlier name statement b → a ≡ b
same_kind earlier name statement a b x y =
    let trees : x.exprs ≡ y.exprs = same_trees (names_in (Listed (variables_in earlier)) (line.Node name statement)) (texts_in (line.Node name statement)) x.exprs y.exprs x.trees y.trees in
    let told : Some a ≡ Some b = sym x.kind_is ∙ ap (λ e. kind_of (earlier_names_in earlier) (node_names_in earlier) e statement) trees ∙ y.kind_is in
    cc

same_kinds : (earlier : List Line) (a b : List NodeKind) → AreKinds earlier a → AreKinds earlier b → a ≡ b
same_kinds [] a b x y = x ∙ sym y
same_kinds (line.Flow version ∷ before) a b x y = same_kinds before a b x y
same_kinds (line.Graph name ∷ before) a b x y = x ∙ sym y
same_kinds (line.Input names ∷ before) a b x y = same_kinds before a b x y
same_kinds (line.Node name statement ∷ before) a b x y =
    x.1.1.0
    ∙ ap (λ (l : List NodeKind). l ++ x.1.0 ∷ []) (same_kinds before x.0 y.0 x.1.1.1 y.1.1.1)
    ∙ ap (λ (k : NodeKind). y.0 ++ k ∷ []) (same_kind before name statement x.1.0 y.1.0 x.1.1.2 y.1.1.2)
    ∙ sym y.1.1.0
same_kinds (line.Row columns ∷ before) a b x y = x.1.0 ∙ ap (last_with_row (record { columns = columns })) (same_kinds before x.0 y.0 x.1.1 y.1.1) ∙ sym y.1.0
same_kinds (line.Output list ∷ before) a b x y = same_kinds before a b x y
same_kinds (line.Point entries ∷ before) a b x y = same_kinds before a b x y
same_kinds (line.Bounds outputs num den ∷ before) a b x y = same_kinds before a b x y
same_kinds (line.Coeff num den ∷ before) a b x y = same_kinds before a b x y

-- nodes are the same where their names, kinds and marks are
same_nodes : (a b : List Node) → names_of a ≡ names_of b → kinds_of a ≡ kinds_of b → ((k : ℕ) (x y : Node) → slice_get a k ≡ Some x → slice_get b k ≡ Some y → x.needed ≡ y.needed) → a ≡ b
same_nodes [] [] names kinds marks = refl
same_nodes [] (y ∷ b) names kinds marks = cc
same_nodes (x ∷ a) [] names kinds marks = cc
same_nodes (x ∷ a) (y ∷ b) names kinds marks =
    let name : x.name ≡ y.name = cc in
    let kind : x.kind ≡ y.kind = cc in
    let later_names : names_of a ≡ names_of b = cc in
    let later_kinds : kinds_of a ≡ kinds_of b = cc in
    let make : List ℕ → NodeKind → Bool → Node = λ n k m. record { name = n; kind = k; needed = m } in
    let head : x ≡ y = ap (λ n. make n x.kind x.needed) name ∙ ap (λ k. make y.name k x.needed) kind ∙ ap (make y.name y.kind) (marks 0 x y refl refl) in
    ap (λ (n : Node). n ∷ a) head ∙ ap (λ (l : List Node). y ∷ l) (same_nodes a b later_names later_kinds (λ k p q at_p at_q. marks (suc k) p q at_p at_q))

same_mark : (p q : Bool) (P : Type 0) → IsTrue p ↔ P → IsTrue q ↔ P → p ≡ q
same_mark true true P a b = refl
same_mark true false P a b = let never : false ≡ true = b.1 (a.0 refl) in cc
same_mark false true P a b = let never : false ≡ true = a.1 (b.0 refl) in cc
same_mark false false P a b = refl

same_graph : (all : List Line) (a b : Graph) → SaysGraph all a → SaysGraph all b → a ≡ b
same_graph all a b x y =
    let named : Some a.name ≡ Some b.name = sym x.named ∙ y.named in
    let name : a.name ≡ b.name = cc in
    let ended : Some a.output ≡ Some b.output = sym x.output_is ∙ y.output_is in
    let output : a.output ≡ b.output = cc in
    let kinds : kinds_of a.nodes ≡ kinds_of b.nodes = same_kinds all (kinds_of a.nodes) (kinds_of b.nodes) x.kinds y.kinds in
    let marks : (k : ℕ) (p q : Node) → slice_get a.nodes k ≡ Some p → slice_get b.nodes k ≡ Some q → p.needed ≡ q.needed = λ k p q at_p at_q.
    same_mark p.needed q.needed (IsNeededFor (kinds_of b.nodes) b.output k)
    (subst (λ (o : Source). IsTrue p.needed ↔ IsNeededFor (kinds_of b.nodes) o k) output (subst (λ (l : List NodeKind). IsTrue p.needed ↔ IsNeededFor l a.output k) kinds (x.marks k p at_p)))
    (y.marks k q at_q)
    in
    let nodes : a.nodes ≡ b.nodes = same_nodes a.nodes b.nodes (x.names ∙ sym y.names) kinds marks in
    let make : List ℕ → List (List ℕ) → List Node → Source → Graph = λ n i m o. record { name = n; inputs = i; nodes = m; output = o } in
    ap (λ n. make n a.inputs a.nodes a.output) name ∙ ap (λ i. make b.name i a.nodes a.output) (x.inputs ∙ sym y.inputs) ∙ ap (λ m. make b.name b.inputs m a.output) nodes ∙ ap (make b.name b.inputs b.nodes) output

same_graphs : (a b : List Graph) → length a ≡ length b → ((k : ℕ) (x y : Graph) → slice_get a k ≡ Some x → slice_get b k ≡ Some y → x ≡ y) → a ≡ b
same_graphs [] [] count each = refl
same_graphs [] (y ∷ b) count each = absurd (omega (arith, count))
same_graphs (x ∷ a) [] count each = absurd (omega (arith, count))
same_graphs (x ∷ a) (y ∷ b) count each = ap (λ (g : Graph). g ∷ a) (each 0 x y refl refl) ∙ ap (λ (l : List Graph). y ∷ l) (same_graphs a b (omega (arith, count)) (λ k p q at_p at_q. each (suc k) p q at_p at_q))

pub one-form : (need : Need) (bytes : List ℕ) (f g : FileForm) → Says need bytes f → Says need bytes g → f ≡ g
one-form need bytes f g x y =
    let graphs : f.graphs ≡ g.graphs = same_graphs f.graphs g.graphs (x.counted ∙ sym y.counted) (λ k a b at_a at_b. same_graph (lines_through k (said (lines bytes))) a b (x.says_graph k a at_a) (y.says_graph k b at_b)) in
    let make : List Graph → List (List ℕ) → Option Bounds → List Special → Coeff → FileForm = λ gs ps a s c. record { graphs = gs; points = ps; all = a; special = s; coeff = c } in
    ap (λ gs. make gs f.points f.all f.special f.coeff) graphs
    ∙ ap (λ ps. make g.graphs ps f.all f.special f.coeff) (x.points_are ∙ sym y.points_are)
    ∙ ap (λ a. make g.graphs g.points a f.special f.coeff) (x.all_is ∙ sym y.all_is)
    ∙ ap (λ s. make g.graphs g.points g.all s f.coeff) (x.special_are ∙ sym y.special_are)
    ∙ ap (make g.graphs g.points g.all g.special) (x.coeff_is ∙ sym y.coeff_is)

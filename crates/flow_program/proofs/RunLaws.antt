-- What a file that is read whole, or to a length over the limit, says of the run's answer.
use Rattle.std.proofs.Common.{◌≡◌, ℕ, ◌<◌, ◌≤◌, List, [], length, Option, Some, None, Result, Ok, Err, refl, sym, ◌∙◌, ap, subst, MatchBool, inl, inr, arith}
use Rattle.std.specs.Prelude.{◌⊎◌, ◌↔◌, IfOk}
use Rattle.std.specs.Option.{ForSome}
use Rattle.std.proofs.lemmas.Bool.{le-ltb, lt-ltb}
use Rattle.flow_base.specs.Shelf.{ShelfView, Opens, TakesMore}
use Rattle.graph_file.specs.declared.error.FileKind.{FileKind}
use Rattle.graph_file.specs.declared.error.FileKind.TheVariants as kinds
use Rattle.graph_file.specs.declared.job.Need.{Need}
use Rattle.graph_file.specs.File.{IsFirstBad, IsGoodFile}
use Rattle.graph_file.specs.Read.{IsRefusal}
use Rattle.graph_file.specs.Says.{FileForm, Says}
use Rattle.flow_program.specs.declared.task.Task.{Task}
use Rattle.graph_eval.specs.declared.learned.GraphLearned.{GraphLearned}
use Rattle.flow_program.specs.Words.{Request, Sample, Learn, Reconstruct, Demo, IsBadAt, asked, names_read}
use Rattle.flow_program.specs.Answer.{Answer, refusal}
use Rattle.flow_program.specs.Jobs.{FileAnswer, HasBadLine, IsLearned, IsNoJob, JobAnswer, LearnedAnswer, ShortAnswer, long_answer, most_bytes}
use Rattle.flow_program.specs.Run.{Files, IsBadFile, ModuliArePrime, Premise, RequestAnswer, RunAnswer, bytes_of, words_answer}
use Rattle.flow_program.specs.Tasks.{need_of, task_of}
use Rattle.flow_program.specs.declared.status.Status.{Status}
use Rattle.flow_program.specs.declared.status.Status.TheVariants.{Done, Unfound, BadWords, BadFile, NotLearned, Exhausted, ReadFault, WriteFault, NoMemory}
use Rattle.flow_program.specs.Refusals.{file_text}
use Rattle.flow_program.specs.Status.{IsJobStatus, code_of}
use Rattle.flow_program.specs.Reply.{answer_of}
use Rattle.flow_program.specs.declared.reply.Reply.{Reply}
use Rattle.flow_program.specs.Outside.{AllMayStand, IsLearnable, IsRightAnswer, MayStand, MayStandAsked, StandsAnswered, told_of}

-- the answer of bytes that are not too many is that of what they say
of_few : (what : Task) (bytes : List ℕ) (answer : Answer) → length bytes ≤ most_bytes → ShortAnswer what bytes answer → FileAnswer what bytes answer
of_few what bytes answer few right = subst (λ b. MatchBool b (answer ≡ long_answer) (ShortAnswer what bytes answer)) (sym (le-ltb most_bytes (length bytes) few)) right

of_many : (what : Task) (bytes : List ℕ) (answer : Answer) → most_bytes < length bytes → answer ≡ long_answer → FileAnswer what bytes answer
of_many what bytes answer many right = subst (λ b. MatchBool b (answer ≡ long_answer) (ShortAnswer what bytes answer)) (sym (lt-ltb most_bytes (length bytes) many)) right

-- some bytes over the limit may stand under the name
stands_long : (told : Option (Option (List ℕ))) (rest : Option (List ℕ)) (taken : List ℕ) (limit : ℕ) → Opens told rest → limit < length taken → ForSome rest (λ bytes. limit < length bytes)
    → (bytes : List ℕ) × MayStand told bytes × (limit < length bytes)
stands_long None rest taken limit opened long more = (taken, tt, long)
stands_long (Some None) rest taken limit opened long more = absurd opened
stands_long (Some (Some bytes)) rest taken limit opened long more = (bytes, refl, more bytes opened)

-- a file that is read to a length over the limit has the answer of a long file
pub long_file : (what : Task) (told : Option (Option (List ℕ))) (opened later : ShelfView) (answer : Answer) → Opens told opened.rest → TakesMore opened later most_bytes → ForSome opened.rest (λ bytes. most_bytes < length bytes) → answer ≡ long_answer
    → StandsAnswered what told answer
long_file what told opened later answer opens takes long same =
    let stands = stands_long told opened.rest takes.0 most_bytes opens takes.2 long in
    record {
      bytes = stands.0;
      stood = stands.1;
      right = λ premise. of_many what stands.0 answer stands.2 same;
      bad_file = (λ is. inl stands.2, λ bad. ap (λ (a : Answer). a.status) same);
    }

-- bytes that are not too many, and are no job, have a bad line
short_bad : (what : Task) (bytes : List ℕ) → length bytes ≤ most_bytes → IsNoJob what bytes → HasBadLine what bytes
short_bad what bytes few (inl many) = absurd (omega (arith, few, many))
short_bad what bytes few (inr bad) = bad

short_premise : (what : Task) (bytes : List ℕ) → length bytes ≤ most_bytes → ModuliArePrime ⊎ IsNoJob what bytes → ModuliArePrime ⊎ HasBadLine what bytes
short_premise what bytes few (inl prime) = inl prime
short_premise what bytes few (inr none) = inr (short_bad what bytes few none)

-- what is told of bytes that are not too many is told of the name under which they stand
short_file : (what : Task) (told : Option (Option (List ℕ))) (bytes : List ℕ) (answer : Answer) → MayStand told bytes → length bytes ≤ most_bytes → (ModuliArePrime ⊎ HasBadLine what bytes → ShortAnswer what bytes answer) → (answer.status ≡ 3) ↔ HasBadLine what bytes
    → StandsAnswered what told answer
short_file what told bytes answer stood few right bad = record {
  bytes = bytes;
  stood = stood;
  right = λ premise. of_few what bytes answer few (right (short_premise what bytes few premise));
  bad_file = (λ is. inr (bad.0 is), λ none. bad.1 (short_bad what bytes few none));
}

-- a file that is read whole has the answer of its bytes
pub read_file : (what : Task) (told : Option (Option (List ℕ))) (opened : Option (List ℕ)) (bytes : List ℕ) (answer : Answer) → Opens told opened → ForSome opened (λ rest. bytes ≡ rest) → length bytes ≤ most_bytes
    → (ModuliArePrime ⊎ HasBadLine what bytes → ShortAnswer what bytes answer) → (answer.status ≡ 3) ↔ HasBadLine what bytes → StandsAnswered what told answer
read_file what None opened bytes answer opens whole few right bad = short_file what None bytes answer tt few right bad
read_file what (Some None) opened bytes answer opens whole few right bad = absurd opens
read_file what (Some (Some stood)) opened bytes answer opens whole few right bad = short_file what (Some (Some stood)) bytes answer (sym (whole stood opens)) few right bad

named_premise : (words : List (List ℕ)) (wish : Request) (files : Files) → asked words ≡ Some wish → Premise words files → ModuliArePrime ⊎ IsNoJob (task_of wish) (bytes_of wish files)
named_premise words wish files is (inl prime) = inl prime
named_premise words wish files is (inr (inl none)) = let clash : Some wish ≡ None = sym is ∙ none in cc
named_premise words wish files is (inr (inr bad)) = inr (subst (λ (r : Option Request). IsBadFile r files) is bad)

-- bytes that may stand where a request reads are those that it works on, if they stand under each name
works_on : (wish : Request) (shelf : ShelfView) (bytes : List ℕ) → MayStand (told_of wish shelf) bytes → bytes_of wish (λ name. bytes) ≡ bytes
works_on (Sample file workers second) shelf bytes stood = refl
works_on (Learn file) shelf bytes stood = refl
works_on (Reconstruct file workers report) shelf bytes stood = refl
works_on (Demo n workers) shelf bytes stood = stood

-- and they may stand under the names that it reads
stand_read : (wish : Request) (shelf : ShelfView) (bytes : List ℕ) → MayStand (told_of wish shelf) bytes → AllMayStand shelf (λ name. bytes) (names_read wish)
stand_read (Sample file workers second) shelf bytes stood = (stood, tt)
stand_read (Learn file) shelf bytes stood = (stood, tt)
stand_read (Reconstruct file workers report) shelf bytes stood = (stood, tt)
stand_read (Demo n workers) shelf bytes stood = tt

-- what a request works on may stand where it reads, if each of its names may
pub works_on_read : (wish : Request) (shelf : ShelfView) (files : Files) → AllMayStand shelf files (names_read wish) → MayStand (told_of wish shelf) (bytes_of wish files)
works_on_read (Sample file workers second) shelf files stood = stood.0
works_on_read (Learn file) shelf files stood = stood.0
works_on_read (Reconstruct file workers report) shelf files stood = stood.0
works_on_read (Demo n workers) shelf files stood = refl

-- what is told of the bytes that the words ask about is told of the words
pub named_right : (words : List (List ℕ)) (shelf : ShelfView) (wish : Request) (answer : Answer) → asked words ≡ Some wish → StandsAnswered (task_of wish) (told_of wish shelf) answer → IsRightAnswer words shelf answer
named_right words shelf wish answer is stands =
    let files : Files = λ name. stands.bytes in
    let same : bytes_of wish files ≡ stands.bytes = works_on wish shelf stands.bytes stands.stood in
    record {
      files = files;
      stood = subst (λ (r : Option Request). MayStandAsked r shelf files) (sym is) (stand_read wish shelf stands.bytes stands.stood);
      right = λ premise.
          let prime_or_none = subst (λ (b : List ℕ). ModuliArePrime ⊎ IsNoJob (task_of wish) b) same (named_premise words wish files is premise) in
          subst (λ (r : Option Request). RequestAnswer r words files answer) (sym is) (subst (λ (b : List ℕ). FileAnswer (task_of wish) b answer) (sym same) (stands.right prime_or_none));
      bad_file = subst (λ (r : Option Request). (answer.status ≡ 3) ↔ IsBadFile r files) (sym is) (subst (λ (b : List ℕ). (answer.status ≡ 3) ↔ IsNoJob (task_of wish) b) (sym same) stands.bad_file);
    }

-- words that ask for nothing have the answer that tells their place, whatever the shelf has
pub unnamed_right : (words : List (List ℕ)) (shelf : ShelfView) (k : ℕ) (answer : Answer) → IsBadAt words k → answer ≡ words_answer k → IsRightAnswer words shelf answer
unnamed_right words shelf k answer bad same =
    let none = bad.refused in
    let two : answer.status ≡ 2 = ap (λ (a : Answer). a.status) same in
    let files : Files = λ name. [] in
    record {
      files = files;
      stood = subst (λ (r : Option Request). MayStandAsked r shelf files) (sym none) tt;
      right = λ premise. subst (λ (r : Option Request). RequestAnswer r words files answer) (sym none) (k, bad, same);
      bad_file = (λ three. absurd (omega (arith, two, three)), λ is. absurd (subst (λ (r : Option Request). IsBadFile r files) none is));
    }

-- a status after learning is not that of a bad file
not_bad : (status : Status) → IsJobStatus status → code_of status ≡ 3 → ⊥
not_bad Done ends bad = cc
not_bad Unfound ends bad = cc
not_bad BadWords ends bad = absurd ends
not_bad BadFile ends bad = absurd ends
not_bad NotLearned ends bad = cc
not_bad Exhausted ends bad = cc
not_bad ReadFault ends bad = absurd ends
not_bad WriteFault ends bad = absurd ends
not_bad NoMemory ends bad = absurd ends

-- a file with which nothing is wrong, and the law that it has no bad line
pub record GoodFile (what : Task) (bytes : List ℕ) (form : FileForm) : Type 0 where
  pub good : IsGoodFile (need_of what) bytes
  pub says : Says (need_of what) bytes form
  pub no_fault : (n : ℕ) (kind : FileKind) → IsFirstBad (need_of what) bytes n kind → ⊥

pub good_file : (what : Task) (need : Need) (bytes : List ℕ) (form : FileForm) → need ≡ need_of what → IsGoodFile need bytes × Says need bytes form
    → ((need : Need) (bytes : List ℕ) (n : ℕ) (kind : FileKind) → IsGoodFile need bytes → IsFirstBad need bytes n kind → ⊥) → GoodFile what bytes form
good_file what need bytes form read said no_fault =
    let good = subst (λ (n : Need). IsGoodFile n bytes) read said.0 in
    record {
      good = good;
      says = subst (λ (n : Need). Says n bytes form) read said.1;
      no_fault = λ n kind bad. no_fault (need_of what) bytes n kind good bad;
    }

-- the answer of the job that a file says is that of its bytes
pub read_well : (what : Task) (bytes : List ℕ) (form : FileForm) (answer : Answer) → GoodFile what bytes form → (ModuliArePrime → JobAnswer what form answer) → ModuliArePrime ⊎ HasBadLine what bytes → ShortAnswer what bytes answer
read_well what bytes form answer file right (inl prime) = inr (record { good = file.good; form = form; says = file.says; right = right prime })
read_well what bytes form answer file right (inr bad) = absurd (file.no_fault bad.line bad.kind bad.bad)

-- and its status is not that of a bad file
pub good_status : (what : Task) (bytes : List ℕ) (form : FileForm) (status : Status) → GoodFile what bytes form → IsJobStatus status → (code_of status ≡ 3) ↔ HasBadLine what bytes
good_status what bytes form status file ends = (λ three. absurd (not_bad status ends three), λ bad. absurd (file.no_fault bad.line bad.kind bad.bad))

-- a file is refused for its first bad line, or for want of memory
first_bad : (need : Need) (bytes : List ℕ) (line : ℕ) (kind : FileKind) → (kind ≡ kinds.NoMemory → ⊥) → IsRefusal need bytes line kind → IsFirstBad need bytes line kind
first_bad need bytes line kinds.NoMemory other refused = absurd (other refl)
first_bad need bytes line kinds.Syntax other refused = refused
first_bad need bytes line kinds.Version other refused = refused
first_bad need bytes line kinds.Repeated other refused = refused
first_bad need bytes line kinds.UnknownGraph other refused = refused
first_bad need bytes line kinds.UnknownNode other refused = refused
first_bad need bytes line kinds.Residue other refused = refused
first_bad need bytes line kinds.Limit other refused = refused
first_bad need bytes line kinds.Missing other refused = refused
first_bad need bytes line (kinds.Expr number error) other refused = refused

-- a refused file, want of memory apart, has a bad line
bad_file : (what : Task) (need : Need) (bytes : List ℕ) (line : ℕ) (kind : FileKind) → need ≡ need_of what → (kind ≡ kinds.NoMemory → ⊥) → IsRefusal need bytes line kind → IsFirstBad (need_of what) bytes line kind
bad_file what need bytes line kind read other refused = subst (λ (n : Need). IsFirstBad n bytes line kind) read (first_bad need bytes line kind other refused)

-- its answer tells that line
pub bad_answer : (what : Task) (need : Need) (bytes : List ℕ) (line : ℕ) (kind : FileKind) (answer : Answer) → need ≡ need_of what → (kind ≡ kinds.NoMemory → ⊥) → IsRefusal need bytes line kind → answer ≡ refusal 3 (file_text line kind)
    → ModuliArePrime ⊎ HasBadLine what bytes → ShortAnswer what bytes answer
bad_answer what need bytes line kind answer read other refused told premise = inl (record { line = line; kind = kind; bad = bad_file what need bytes line kind read other refused; told = told })

-- and its status is that of a bad file
pub bad_status : (what : Task) (need : Need) (bytes : List ℕ) (line : ℕ) (kind : FileKind) (status : Status) → need ≡ need_of what → (kind ≡ kinds.NoMemory → ⊥) → IsRefusal need bytes line kind → status ≡ BadFile
    → (code_of status ≡ 3) ↔ HasBadLine what bytes
bad_status what need bytes line kind status read other refused is = (λ three. record { line = line; kind = kind; bad = bad_file what need bytes line kind read other refused }, λ bad. ap code_of is)

-- the law of files that are learned, which is another's to prove
pub record Law : Type 0 where
  pub answered : (words : List (List ℕ)) (wish : Request) (files : Files) (form : FileForm) (learned : List GraphLearned) (answer : Answer) → asked words ≡ Some wish → IsLearned (task_of wish) (bytes_of wish files) form learned
      → RunAnswer words files answer → LearnedAnswer (task_of wish) form learned answer

-- the right answer of a file that is learned is that of what was learned
pub learned_answer : (law : Law) (words : List (List ℕ)) (shelf : ShelfView) (answer : Answer) → IsRightAnswer words shelf answer → ModuliArePrime → (file : IsLearnable words shelf)
    → LearnedAnswer (task_of file.wish) file.form file.learned answer
learned_answer law words shelf answer right prime file =
    let wish = file.wish in
    let bytes = bytes_of wish right.files in
    let stood : AllMayStand shelf right.files (names_read wish) = subst (λ (r : Option Request). MayStandAsked r shelf right.files) file.asks right.stood in
    let same : file.bytes ≡ bytes = subst (λ (told : Option (Option (List ℕ))). MayStand told bytes) file.stands (works_on_read wish shelf right.files stood) in
    law.answered words wish right.files file.form file.learned answer file.asks (subst (λ bs. IsLearned (task_of wish) bs file.form file.learned) same file.is) (right.right (inl prime))

-- the demo has the answer of its bytes, however many they are
pub demo_long : (what : Task) (bytes : List ℕ) (answer : Answer) → most_bytes < length bytes → answer ≡ long_answer → StandsAnswered what (Some (Some bytes)) answer
demo_long what bytes answer many same = record {
  bytes = bytes;
  stood = refl;
  right = λ premise. of_many what bytes answer many same;
  bad_file = (λ is. inl many, λ bad. ap (λ (a : Answer). a.status) same);
}

demo_short : (what : Task) (bytes : List ℕ) (answer : Answer) → length bytes ≤ most_bytes → (ModuliArePrime ⊎ HasBadLine what bytes → ShortAnswer what bytes answer) → (answer.status ≡ 3) ↔ HasBadLine what bytes → StandsAnswered what (Some (Some bytes)) answer
demo_short what bytes answer few right bad = short_file what (Some (Some bytes)) bytes answer refl few right bad

pub demo_replied : {E : Type 0} (result : Result Reply E) (what : Task) (bytes demo : List ℕ) → bytes ≡ demo → length bytes ≤ most_bytes → IfOk result (λ reply. ModuliArePrime ⊎ HasBadLine what bytes → ShortAnswer what bytes (answer_of reply))
    → IfOk result (λ reply. (code_of reply.status ≡ 3) ↔ HasBadLine what bytes) → IfOk result (λ reply. StandsAnswered what (Some (Some demo)) (answer_of reply))
demo_replied (Ok reply) what bytes demo same few right bad = subst (λ (b : List ℕ). StandsAnswered what (Some (Some b)) (answer_of reply)) same (demo_short what bytes (answer_of reply) few right bad)
demo_replied (Err error) what bytes demo same few right bad = tt

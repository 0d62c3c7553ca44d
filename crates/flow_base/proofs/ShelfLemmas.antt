-- What follows of several calls on a shelf, one after the other.
use Rattle.std.proofs.Common.{◌≡◌, ℕ, ◌+◌, ◌<◌, ◌≤◌, List, [], ◌++◌, length, None, Some, Option, refl, sym, ◌∙◌, ap, subst, arith, length-append}
use Rattle.std.proofs.KnownBytes.{Consumes-nil, Consumes-trans}
use Rattle.std.specs.Io.KnownBytes.{Consumes}
use Rattle.flow_base.specs.Counts.{counted, Rose}
use Rattle.flow_base.specs.Shelf.{ShelfView, TouchesOnly, Takes, TakesMore}

-- counting a and then b is counting both
pub counted-counted : (before a b : ℕ) → counted (counted before a) b ≡ counted before (a + b)
counted-counted before a b = omega arith

-- a count that rose has risen, however much it rises later
pub Rose-after : (before now later : ℕ) → Rose before now → now ≤ later → Rose before later
Rose-after before now later rose kept = omega arith

-- a count that rises later has risen
pub Rose-before : (before now later : ℕ) → before ≤ now → Rose now later → Rose before later
Rose-before before now later kept rose = omega arith

pub TouchesOnly-none : (old : ShelfView) (name : Option (List ℕ)) → TouchesOnly old old name
TouchesOnly-none old name = record { files = λ asked. refl; later = λ asked. omega arith; others = λ asked other. refl }

pub TouchesOnly-more : (old mid new : ShelfView) (name : Option (List ℕ)) → TouchesOnly old mid name → TouchesOnly mid new name → TouchesOnly old new name
TouchesOnly-more old mid new name first second = record {
  files = λ asked. second.files asked ∙ first.files asked;
  later = λ asked. omega (arith, first.later asked, second.later asked);
  others = λ asked other. second.others asked other ∙ first.others asked other;
}

-- a shelf that stays as it is took nothing
pub Takes-none : (old : ShelfView) → Takes old old []
Takes-none old = record { touched = TouchesOnly-none old old.name; name = refl; front = Consumes-nil old.rest; count = omega arith }

-- bytes that are taken one after the other are taken
pub Takes-more : (old mid new : ShelfView) (bytes more : List ℕ) → Takes old mid bytes → Takes mid new more → Takes old new (bytes ++ more)
Takes-more old mid new bytes more first second = record {
  touched = TouchesOnly-more old mid new old.name first.touched (subst (TouchesOnly mid new) first.name second.touched);
  name = second.name ∙ first.name;
  front = Consumes-trans old.rest mid.rest new.rest bytes more first.front second.front;
  count = second.count ∙ ap (λ n. counted n (length more)) first.count ∙ counted-counted old.taken (length bytes) (length more) ∙ ap (counted old.taken) (sym (length-append bytes more));
}

-- the taken bytes are the front of the rest that was told
pub Consumes-some : (old new : Option (List ℕ)) (rest bytes : List ℕ) → old ≡ Some rest → Consumes old new bytes → (left : List ℕ) × (rest ≡ bytes ++ left)
Consumes-some None new rest bytes told taken = cc
Consumes-some (Some xs) None rest bytes told taken = absurd taken
Consumes-some (Some xs) (Some ys) rest bytes told taken = let same : xs ≡ rest = cc in (ys, sym same ∙ taken)

-- a rest that is told and of which more than the limit was taken is longer than the limit
pub TakesMore-long : (old new : ShelfView) (limit : ℕ) (rest : List ℕ) → old.rest ≡ Some rest → TakesMore old new limit → limit < length rest
TakesMore-long old new limit rest told more =
    let front = Consumes-some old.rest new.rest rest more.0 told more.1.front in
    rw front.1 (omega (arith, length-append more.0 front.0, more.2))

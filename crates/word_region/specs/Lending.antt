-- What a stack ends as, once its top was lent.
use Rattle.std.specs.Prelude.{ℕ, List, ◌++◌, length, replicate}
use Rattle.std.specs.Borrow.{Lends, MutBor, Array, Fml, u64}
use Rattle.word_region.specs.Board.{Board}
use Rattle.word_region.specs.Words.{written_at}
use Rattle.word_region.specs.contracts.stack.Stack.{the_row}

-- the stack ends with n words more, which are what was last written through r
abbrev pub LendsTop : MutBor Board → ℕ → MutBor (List ℕ) → Fml
LendsTop stack n r =
    Lends the_row (Array u64 0) stack r (λ ws. record stack.now { words = written_at (length stack.now.words) ws (stack.now.words ++ replicate n 0) })

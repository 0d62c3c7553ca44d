-- Lists of the monomials of one total degree.
use Rattle.std.specs.Prelude.{ℕ, zero, suc, ◌+◌, ◌-◌, min, List, [], ◌∷◌, ◌++◌, map}

-- the lists, each behind the same prefix
abbrev pub prefixed : List ℕ → List (List ℕ) → List (List ℕ)
prefixed prefix = map (λ e. prefix ++ e)

-- 0 before each of rest 0, 1 before each of rest 1, and so on up to n - 1
abbrev pub starting : ℕ → (ℕ → List (List ℕ)) → List (List ℕ)
starting zero rest = []
starting (suc n) rest = starting n rest ++ prefixed (n ∷ []) (rest n)

-- the exponents at most `each` whose sum is d, by the first exponent, then by the second, and so on
abbrev pub of_degree : List ℕ → ℕ → List (List ℕ)
of_degree [] zero = [] ∷ []
of_degree [] (suc d) = []
of_degree (bound ∷ each) d = starting (min d bound + 1) (λ k. of_degree each (d - k))

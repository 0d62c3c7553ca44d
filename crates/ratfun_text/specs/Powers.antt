-- Powers of arguments that are kept.
use Rattle.std.specs.Prelude.{ℕ, ◌≡◌, ◌%◌, ◌^◌, List, IfSome}
use Rattle.ratfun_text.specs.declared.powers.KnownPower.{KnownPower}
use Rattle.ratfun_text.specs.Value.{argument}

-- what is known is the power of the argument at its place, where there is one
abbrev pub IsPower : ℕ → List ℕ → KnownPower → Type 0
IsPower m args known = IfSome (argument args known.place) (λ base. known.value ≡ (base ^ known.exponent) % m)

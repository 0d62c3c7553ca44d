-- What the samples of one output say.
use Rattle.prime_field.specs.declared.Modulus.{Modulus}
use Rattle.prime_field.specs.declared.Modulus.TheVariants.{First, Second}
use Rattle.poly_maps.specs.declared.pair.Pair.{Pair}
use Rattle.rational_lift.specs.Lifting.{Lift, LiftsTo}
use Rattle.rational_lift.specs.declared.coeff.Coeff.{Coeff}
use Rattle.output_result.specs.Outputs.{Output, AgreesAt, IsLeastAt}

-- no pair agrees at a modulus; or both least pairs are lifted to something
pub data Result : Type 0 where
  NoPair : Modulus → Result
  Lifts : Lift → Result

-- no pair within the bounds agrees at the modulus
abbrev pub HasNone : Output → Modulus → Type 0
HasNone o m = (f : Pair) → AgreesAt o m f → ⊥

-- the first modulus at which none agrees
abbrev pub IsFirstNone : Output → Modulus → Type 0
IsFirstNone o First = HasNone o First
IsFirstNone o Second = ((f : Pair) × AgreesAt o First f) × HasNone o Second

-- what the least pairs at the two moduli are lifted to
pub record IsLift (c : Coeff) (o : Output) (lift : Lift) : Type 0 where
  pub pairs : Modulus → Pair
  pub least : (m : Modulus) → IsLeastAt o m (pairs m)
  pub lifts : LiftsTo c pairs lift

-- the result of an output, given the bounds on coefficients
abbrev pub OutputResult : Coeff → Output → Result → Type 0
OutputResult c o (NoPair m) = IsFirstNone o m
OutputResult c o (Lifts lift) = IsLift c o lift

-- the result is what the two pairs are lifted to
abbrev pub AreLifted : Coeff → (Modulus → Pair) → Result → Type 0
AreLifted c pairs (NoPair m) = ⊥
AreLifted c pairs (Lifts lift) = LiftsTo c pairs lift

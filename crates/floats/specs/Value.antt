-- What a float is worth, in whole numbers (the logic's account of IEEE 754). A finite float ±m·2^e is the fraction `over x` / `under x`: ±m·2^e over 1, or ±m over 2^-e. Definitions only.
use Rattle.std.specs.Prelude.{◌≡◌, Bool, true, false, cond, ℕ, ◌*◌, ◌/◌, ◌%◌, T, eqb, ℤ, pos, neg_ℤ, ◌*ℤ◌, Float}
use Rattle.std.proofs.Math.Option.{Option, none, some}
use Rattle.std.specs.Float.{nan, inf, fin}
use Rattle.std.specs.Float.Ieee.{up, down}
use Rattle.std.specs.Float.Ieee.Scale.{finite}

-- n with a sign: minus where s is true
abbrev pub with_sign : Bool → ℕ → ℤ
with_sign false n = pos n
with_sign true n = neg_ℤ (pos n)

abbrev pub over : Float → ℤ
over nan = pos 0
over (inf s) = pos 0
over (fin s m e) = with_sign s (m * up e)

abbrev pub under : Float → ℕ
under nan = 1
under (inf s) = 1
under (fin s m e) = down e

-- x is finite and is the whole number z: over = z·under
pub record Worth (x : Float) (z : ℤ) : Type 0 where
  pub finite : T (finite x)
  pub equal : over x ≡ z *ℤ pos (under x)

-- the whole number that a float is, if it is one; minus zero is zero. `Exactly` proves that it is
abbrev pub whole_of : Float → Option ℤ
whole_of nan = none
whole_of (inf s) = none
whole_of (fin s m e) = cond (eqb (m * up e % down e) 0) (some (with_sign s (m * up e / down e))) none

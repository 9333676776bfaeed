-- The bits of the float of a whole number. Definitions only.
use Rattle.std.specs.Prelude.{ℕ, ℤ}
use Rattle.std.specs.Float.{binary32}
use Rattle.std.specs.Float.Ieee.{of_int, to_bits}

abbrev pub float_bits : ℤ → ℕ
float_bits z = to_bits binary32 (of_int binary32 z)

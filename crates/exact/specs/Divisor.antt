-- The greatest common divisor. Definition only; `Euclid` has its laws.
use Rattle.std.specs.Prelude.{ℕ}
use Rattle.std.specs.Int.{◌∣◌}

-- g divides both, and every common divisor divides it
pub record Gcd (a b g : ℕ) : Type 0 where
  pub left : g ∣ a
  pub right : g ∣ b
  pub all : (d : ℕ) → d ∣ a → d ∣ b → d ∣ g

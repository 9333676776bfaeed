-- Where an index lies from another.
use Rattle.std.specs.Prelude.{◌≡◌, ℕ, ◌<◌}
use Rattle.std.proofs.Common.{arith}
use Rattle.std.proofs.Math.Decide.{dec_lt}

pub data Place (p j : ℕ) : Type 0 where
  before : p < j → Place p j
  same : j ≡ p → Place p j
  after : j < p → Place p j

pub place : (p j : ℕ) → Place p j
place p j = go (dec_lt p j) (dec_lt j p)
  where
    go : Dec (p < j) → Dec (j < p) → Place p j
    go (yes h) i = before h
    go (no h) (yes i) = after i
    go (no h) (no i) = same (omega arith)

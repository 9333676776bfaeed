-- A line's largest deviation: what shows it, and that it is one number.
use Rattle.std.specs.Prelude.{◌≡◌, ◌⊎◌, ℕ, ◌*◌, ◌<◌, ◌≤◌, nat_abs}
use Rattle.std.proofs.Common.{ap, inl, inr, mul-le-mul_right, mul-pos, arith}
use Rattle.std.proofs.Math.Nat.{le_of_mul-le-mul_left}
use Rattle.band.specs.Line.{Line, Points, Proper, off, Within, Largest}

-- the value at some input lies as far as w/z
pub record Reached (P : Points) (L : Line) (w z : ℕ) : Type 0 where
  pub at : ℕ
  pub fits : at < P.m
  pub far : (nat_abs (off P L (P.x at) (P.low at)) * z ≡ w * (L.q * P.d)) ⊎ (nat_abs (off P L (P.x at) (P.high at)) * z ≡ w * (L.q * P.d))

-- the value lies f from the line, times r
as_far : (f r w z w' z' : ℕ) → 0 < r → f * z ≡ w * r → f * z' ≤ w' * r → w * z' ≤ w' * z
as_far f r w z w' z' h e k = le_of_mul-le-mul_left (omega (arith, ap (λ (t : ℕ). t * z') e, mul-le-mul_right z k)) h

pub largest_by : {P : Points} {L : Line} {w z : ℕ} → Proper P → 0 < z → Within P L w z → Reached P L w z → Largest P L w z
largest_by {P} {L} {w} {z} proper some W r = record { some = some; within = W; least = λ w' z' h W'. go w' z' W' r.far }
  where
    unit : 0 < L.q * P.d
    unit = mul-pos L.some proper.unit

    go : (w' z' : ℕ) → Within P L w' z' → (nat_abs (off P L (P.x r.at) (P.low r.at)) * z ≡ w * (L.q * P.d)) ⊎ (nat_abs (off P L (P.x r.at) (P.high r.at)) * z ≡ w * (L.q * P.d)) → w * z' ≤ w' * z
    go w' z' W' (inl e) = as_far (nat_abs (off P L (P.x r.at) (P.low r.at))) (L.q * P.d) w z w' z' unit e (W'.low r.at r.fits)
    go w' z' W' (inr e) = as_far (nat_abs (off P L (P.x r.at) (P.high r.at))) (L.q * P.d) w z w' z' unit e (W'.high r.at r.fits)

pub largest_same : {P : Points} {L : Line} {w z w' z' : ℕ} → Largest P L w z → Largest P L w' z' → w * z' ≡ w' * z
largest_same {w = w} {z} {w'} {z'} M N = omega (arith, M.least w' z' N.some N.within, N.least w z M.some M.within)

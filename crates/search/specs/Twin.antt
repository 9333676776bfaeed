-- Two inputs of the same gap. Method.
use Rattle.std.specs.Prelude.{Bool, not, ◌||◌, ℕ, eqb, ℤ, pos, negsuc, false}
use Rattle.band.specs.Line.{Points}
use Rattle.band.specs.Candidate.{one, num}

abbrev pub same_number : ℤ → ℤ → Bool
same_number (pos a) (pos b) = eqb a b
same_number (pos a) (negsuc b) = false
same_number (negsuc a) (pos b) = false
same_number (negsuc a) (negsuc b) = eqb a b

-- j is i itself, or has another gap
abbrev pub apart : Points → ℕ → ℕ → Bool
apart P i j = eqb i j || not (same_number (num P (one i)) (num P (one j)))

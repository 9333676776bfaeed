-- The search for the greatest candidate: the code's candidates, and which of two takes the other's place. Method: nothing that the bench offers cites this file.
use Rattle.std.specs.Prelude.{◌≡◌, Bool, true, false, T, ℤ, ◌*ℤ◌, ◌<ℤ◌}
use Rattle.std.specs.Int.Signed.{lt_z, le_z}
use Rattle.band.specs.Line.{Points}
use Rattle.band.specs.Candidate.{one, up, down, num, den, Fits, AtMost}
use Rattle.band.specs.Candidate as C
use Rattle.search.specs.declared.Candidate.{Candidate}
use Rattle.search.specs.declared.Candidate.TheVariants.{One, Up, Down}

-- the code's candidate as the theory has it
abbrev pub shown : Candidate → C.Candidate
shown (One i) = one i
shown (Up i j k) = up i j k
shown (Down i j k) = down i j k

-- a chord, and no single input
abbrev pub chord : Candidate → Bool
chord (One i) = false
chord (Up i j k) = true
chord (Down i j k) = true

-- the new candidate takes the old one's place: a chord also where the two are equal
abbrev pub taken_over : (on od nn nd : ℤ) → Candidate → Bool
taken_over on od nn nd (One i) = lt_z (on *ℤ nd) (nn *ℤ od)
taken_over on od nn nd (Up i j k) = le_z (on *ℤ nd) (nn *ℤ od)
taken_over on od nn nd (Down i j k) = le_z (on *ℤ nd) (nn *ℤ od)

-- c is a candidate of the points, and n/d its fraction
pub record Levelled (P : Points) (c : Candidate) (n d : ℤ) : Type 0 where
  pub fits : Fits P (shown c)
  pub num : n ≡ num P (shown c)
  pub den : d ≡ den P (shown c)

-- c is below t: at most, and less where c is a chord and t is not
pub record Below (P : Points) (c t : Candidate) : Type 0 where
  pub at_most : AtMost P (shown c) (shown t)
  pub less : T (chord c) → chord t ≡ false → (num P (shown c) *ℤ den P (shown t)) <ℤ (num P (shown t) *ℤ den P (shown c))

-- What the loops of the search know: the candidate that is held, and what is below it. Method.
use Rattle.std.specs.Prelude.{◌≡◌, ℕ, ◌<◌, ◌≤ℤ◌}
use Rattle.band.specs.Line.{Points}
use Rattle.band.specs.Candidate.{num, Fits}
use Rattle.search.specs.Search.{shown, Levelled, Below}
use Rattle.search.specs.declared.Candidate.{Candidate}
use Rattle.search.specs.declared.Candidate.TheVariants.{One, Up, Down}
use Rattle.search.specs.declared.Middle.{Middle}
use Rattle.search.specs.declared.Top.{Top}

-- what is found: a candidate, with its fraction, that every candidate is below
pub record Greatest (P : Points) (t : Top) : Type 0 where
  pub levelled : Levelled P t.which t.num t.den
  pub all : (c : Candidate) → Fits P (shown c) → Below P c t.which

-- a loop holds a candidate with its fraction
pub record Holds (P : Points) (t : Top) : Type 0 where
  pub levelled : Levelled P t.which t.num t.den

-- the candidate c is held
pub record Told (P : Points) (c : Candidate) (t : Top) : Type 0 where
  pub is : t.which ≡ c
  pub holds : Holds P t

-- nothing that was below the old one is lost
abbrev pub Keeps : Points → Top → Top → Type 0
Keeps P o t = (c : Candidate) → Fits P (shown c) → Below P c o.which → Below P c t.which

-- both chords of three inputs are below t
pub record Chords (P : Points) (i j k : ℕ) (t : Top) : Type 0 where
  pub up : Below P (Up i j k) t.which
  pub down : Below P (Down i j k) t.which

-- the inputs below n
pub record Singles (P : Points) (n : ℕ) (t : Top) : Type 0 where
  pub holds : Holds P t
  pub all : (i : ℕ) → i < n → Below P (One i) t.which

-- of the chords from i to k, of one kind, over the inputs below n none has a larger numerator than the one over t
pub record Peak (P : Points) (c : ℕ → Candidate) (i k n : ℕ) (t : Middle) : Type 0 where
  pub from : i < t.j
  pub to : t.j < k
  pub is : t.num ≡ num P (shown (c t.j))
  pub all : (j : ℕ) → j < n → i < j → num P (shown (c j)) ≤ℤ t.num

-- the same of all chords from i to k, where the one is held
pub record HighestChord (P : Points) (c : ℕ → Candidate) (i k : ℕ) (t : Top) : Type 0 where
  pub j : ℕ
  pub told : Told P (c j) t
  pub peak : Peak P c i k k (record { j = j; num = t.num })

-- the chords from i to k over the inputs below n
pub record Middles (P : Points) (o : Top) (i k n : ℕ) (t : Top) : Type 0 where
  pub holds : Holds P t
  pub keeps : Keeps P o t
  pub all : (j : ℕ) → j < n → i < j → Chords P i j k t

-- the chords from i to the inputs below n
pub record Ends (P : Points) (o : Top) (i n : ℕ) (t : Top) : Type 0 where
  pub holds : Holds P t
  pub keeps : Keeps P o t
  pub all : (k : ℕ) → k < n → (j : ℕ) → i < j → j < k → Chords P i j k t

-- the chords from the inputs below n
pub record Starts (P : Points) (o : Top) (n : ℕ) (t : Top) : Type 0 where
  pub holds : Holds P t
  pub keeps : Keeps P o t
  pub all : (i : ℕ) → i < n → (j k : ℕ) → i < j → j < k → k < P.m → Chords P i j k t

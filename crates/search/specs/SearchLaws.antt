-- What the search finds: the greatest candidate of all, and where it is a single input, that every chord is less. Method.
use Rattle.std.specs.Prelude.{◌≡◌, false, ◌*ℤ◌, ◌<ℤ◌}
use Rattle.band.specs.Line.{Points}
use Rattle.band.specs.Candidate.{one, up, down, num, den, Fits}
use Rattle.band.specs.Candidate as C
use Rattle.search.specs.Search.{shown, chord}
use Rattle.search.specs.Over.{Greatest}
use Rattle.search.specs.declared.Candidate.TheVariants.{One, Up, Down}
use Rattle.search.specs.declared.Top.{Top}

-- a chord, and no single input
abbrev pub Chord : C.Candidate → Type 0
Chord (one i) = ⊥
Chord (up i j k) = Unit {0}
Chord (down i j k) = Unit {0}

module _ {P : Points} {t : Top} (b : Greatest P t) where
  pub found : C.Greatest P (shown t.which)
  found = record { fits = b.levelled.fits; all = at_most }
    where
      at_most : (e : C.Candidate) → Fits P e → C.AtMost P e (shown t.which)
      at_most (one i) h = (b.all (One i) h).at_most
      at_most (up i j k) h = (b.all (Up i j k) h).at_most
      at_most (down i j k) h = (b.all (Down i j k) h).at_most

  -- a single input is the greatest only where no chord reaches it
  pub found_alone : chord t.which ≡ false → (e : C.Candidate) → Fits P e → Chord e → (num P e *ℤ den P (shown t.which)) <ℤ (num P (shown t.which) *ℤ den P e)
  found_alone q (one i) h c = absurd c
  found_alone q (up i j k) h c = (b.all (Up i j k) h).less tt q
  found_alone q (down i j k) h c = (b.all (Down i j k) h).less tt q

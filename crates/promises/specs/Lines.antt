-- The best line of a run's points is there: one line, or several that reach the least deviation.
use Rattle.std.specs.Prelude.{◌≡◌, refl, ℕ, ◌<◌, ℤ, pos, ◌*ℤ◌, ◌≤ℤ◌}
use Rattle.std.proofs.Common.{sym, ap, subst, arith}
use Rattle.std.proofs.Math.Decide.{dec_lt}
use Rattle.std.specs.Int.Signed.{≤ℤ_refl}
use Rattle.whole.specs.Every.{first_not, FirstNot, first_not_is}
use Rattle.run.specs.Checked.{Checked}
use Rattle.run.specs.declared.Run.{Run}
use Rattle.band.specs.Line.{Line, Points, All, OneValue, Single}
use Rattle.band.specs.Candidate.{Candidate, one, up, down, num, Greatest, wide, part, part_some}
use Rattle.band.specs.Band.{Admitted}
use Rattle.band.specs.Triple.{up_single, down_single}
use Rattle.band.specs.Middle.{several}
use Rattle.band.specs.Least.{least, tied, all_single}
use Rattle.search.specs.Search.{shown}
use Rattle.search.specs.Over as O
use Rattle.search.specs.SearchLaws.{found}
use Rattle.search.specs.Exists.{some_best, some_greatest}
use Rattle.search.specs.Twin.{apart}
use Rattle.search.specs.TwinLaws.{twin_other, twin_same, alone}
use Rattle.search.specs.declared.Candidate as S
use Rattle.search.specs.declared.Candidate.TheVariants.{One, Up, Down}
use Rattle.search.specs.declared.Top.{Top}
use Rattle.bands.specs.Through.{means}
use Rattle.bands.specs.Parts.{Through, through}
use Rattle.bands.specs.Parts as lines
use Rattle.due.specs.Due.{Best, Many}
use Rattle.bands.specs.Admitted.{admitted_through}

-- of the lines of the family F
pub record TheBest (F : Line → Type 0) (P : Points) : Type 0 where
  pub line : Line
  pub w : ℕ
  pub z : ℕ
  pub some : 0 < z
  pub best : Best F P line w z

pub data Fitted (F : Line → Type 0) (P : Points) : Type 0 where
  one_line : TheBest F P → Fitted F P
  many : (w z : ℕ) → 0 < z → Many F P w z → Fitted F P

-- ---- the points of a band
-- the input of a candidate `one`
abbrev at : Candidate → ℕ
at (one i) = i
at (up i j k) = i
at (down i j k) = i

module _ {P : Points} (a : Admitted P) where
  single_best : (c : Candidate) → Greatest P c → Single All P (wide P c) (part P c) → TheBest All P
  single_best c top s =
      let l = least a.proper c top in
      record { line = l.line; w = wide P c; z = part P c; some = l.some; best = record { member = tt; reached = l.reached; least = l; single = s } }

  -- an input of the greatest gap: another of the same gap leaves one line, and where there is none, several reach it
  one_fitted : (t : Top) → O.Greatest P t → (i : ℕ) → t.which ≡ One i → Greatest P (one i) → Fitted All P
  one_fitted t b i e top = go (dec_lt j P.m)
    where
      j : ℕ
      j = first_not P.m (apart P i)

      f : FirstNot P.m (apart P i) j
      f = first_not_is P.m (apart P i)

      go : Dec (j < P.m) → Fitted All P
      go (yes h) =
          one_line (single_best (one i) top (tied a.proper i top (one j) h (λ d. twin_other P i f h (sym (ap at d)))
          (subst (λ (n : ℤ). (num P (one i) *ℤ pos 1) ≤ℤ (n *ℤ pos 1)) (twin_same P i f h) (≤ℤ_refl _))))
      go (no h) =
          let d : j ≡ P.m = omega (arith, f.reach) in
          let n : FirstNot P.m (apart P i) P.m = subst (FirstNot P.m (apart P i)) d f in
          many (wide P (one i)) (part P (one i)) (part_some a.proper (one i) top.fits) (record { least = least a.proper (one i) top; several = several a.proper i top (alone b i e n) })

  fitted : Fitted All P
  fitted = go (some_best a).0 (some_best a).1
    where
      go : (t : Top) → O.Greatest P t → Fitted All P
      go t b = by t.which refl
        where
          greatest : (c : S.Candidate) → t.which ≡ c → Greatest P (shown c)
          greatest c e = subst (λ (c : S.Candidate). Greatest P (shown c)) e (found b)

          by : (c : S.Candidate) → t.which ≡ c → Fitted All P
          by (One i) e = one_fitted t b i e (greatest (One i) e)
          by (Up i j k) e = one_line (single_best (up i j k) (greatest (Up i j k) e) (up_single a.proper i j k (greatest (Up i j k) e)))
          by (Down i j k) e = one_line (single_best (down i j k) (greatest (Down i j k) e) (down_single a.proper i j k (greatest (Down i j k) e)))

  -- one value at each input
  level_best : OneValue P → TheBest All P
  level_best l = let c = some_greatest a in single_best c.0 c.1 (all_single a.proper l c.0 c.1)

-- ---- the points of a run
module _ {r : Run} (c : Checked r) where
  pub some_fit : (t : Through) → Fitted All (through t r)
  some_fit t = fitted (admitted_through c t)

  pub independent : TheBest All (means r)
  independent = level_best (admitted_through c lines.Means) (λ i h. refl)

-- When one line alone reaches the least deviation: where a triple, or two inputs, equal the greatest candidate. Every line within the deviation touches the level at two inputs, and is fixed by them.
use Rattle.std.specs.Prelude.{◌≡◌, ◌∷◌, [], ℕ, ◌*◌, ◌<◌, ℤ, pos, neg_ℤ, ◌+ℤ◌, ◌-ℤ◌, ◌*ℤ◌}
use Rattle.std.proofs.Common.{arith}
use Rattle.whole.specs.Poly.{var, lit, neg, ◌⊕◌, ◌⊖◌, ◌⊗◌}
use Rattle.whole.specs.Order.{eq_by, le_of}
use Rattle.whole.specs.Sign.{NonNeg, sign_le, le_antisym}
use Rattle.band.specs.Line.{Line, Points, Proper, off, Within, Single, All}
use Rattle.band.specs.Candidate.{Candidate, one, up, down, Fits, AtMost, Greatest, wide, part, part_some}
use Rattle.band.specs.Seen.{seen, level, seen_rising, within_inside}
use Rattle.band.specs.Bound.{Top, Bottom, Touches, touches}
use Rattle.band.specs.Same.{Agree, agree_by, agree_twice}
use Rattle.band.specs.Width.{greatest_reaches}

-- ---- lines that touch at an input agree there
at_top : (T v : ℤ) → NonNeg (T -ℤ v) → NonNeg (v -ℤ T) → v ≡ T
at_top T v h i = le_antisym (sign_le h) (sign_le i)

at_bottom : (w r v : ℤ) → NonNeg (w *ℤ r +ℤ v) → NonNeg (neg_ℤ v -ℤ w *ℤ r) → v ≡ neg_ℤ w *ℤ r
at_bottom w r v h i = let ρ = w ∷ r ∷ v ∷ [] in eq_by ρ (var 2) (neg (var 0) ⊗ var 1) (omega (arith, le_of ρ (lit 0) (var 0 ⊗ var 1 ⊕ var 2) h, le_of ρ (lit 0) (neg (var 2) ⊖ var 0 ⊗ var 1) i))

module _ {P : Points} (proper : Proper P) {w z : ℕ} (some : 0 < z) {L M : Line} (WL : Within P L w z) (WM : Within P M w z) (p : ℕ) (h : p < P.m) where
  agree_top : Top (seen P L z) (level P L w) p → Top (seen P M z) (level P M w) p → Agree L M (P.x p)
  agree_top s t =
      agree_by P L M z (pos w) (P.x p) (P.high p) proper.unit some
      (at_top (level P L w) (pos z *ℤ off P L (P.x p) (P.high p)) ((within_inside WL).above p h) s)
      (at_top (level P M w) (pos z *ℤ off P M (P.x p) (P.high p)) ((within_inside WM).above p h) t)

  agree_bottom : Bottom (seen P L z) (level P L w) p → Bottom (seen P M z) (level P M w) p → Agree L M (P.x p)
  agree_bottom s t =
      agree_by P L M z (neg_ℤ (pos w)) (P.x p) (P.low p) proper.unit some
      (at_bottom (pos w) (pos (L.q * P.d)) (pos z *ℤ off P L (P.x p) (P.low p)) ((within_inside WL).below p h) s)
      (at_bottom (pos w) (pos (M.q * P.d)) (pos z *ℤ off P M (P.x p) (P.low p)) ((within_inside WM).below p h) t)

-- ---- a candidate e that is not less than the greatest, c
module _ {P : Points} (proper : Proper P) {c : Candidate} (g : Greatest P c) where
  some : 0 < part P c
  some = part_some proper c g.fits

  -- each line within the deviation touches where e says
  touching : (e : Candidate) → Fits P e → AtMost P c e → (L : Line) → Within P L (wide P c) (part P c) → Touches (seen P L (part P c)) (level P L (wide P c)) e
  touching e f h L W = touches (seen_rising proper L (part P c)) (within_inside W) e f (greatest_reaches proper g L e h)

  pub single_up : (i j k : ℕ) → Fits P (up i j k) → AtMost P c (up i j k) → Single All P (wide P c) (part P c)
  single_up i j k f h L M _ _ WL WM =
      let ij = f.0 in let jk = f.1 in let km = f.2 in let ik : i < k = omega arith in
      let s = touching (up i j k) f h L WL in let t = touching (up i j k) f h M WM in
      agree_twice L M (P.x i) (P.x k) (proper.rise i k ik km) (agree_top proper some WL WM i (omega arith) s.0 t.0) (agree_top proper some WL WM k km s.2 t.2)

  pub single_down : (i j k : ℕ) → Fits P (down i j k) → AtMost P c (down i j k) → Single All P (wide P c) (part P c)
  single_down i j k f h L M _ _ WL WM =
      let ij = f.0 in let jk = f.1 in let km = f.2 in let ik : i < k = omega arith in
      let s = touching (down i j k) f h L WL in let t = touching (down i j k) f h M WM in
      agree_twice L M (P.x i) (P.x k) (proper.rise i k ik km) (agree_bottom proper some WL WM i (omega arith) s.0 t.0) (agree_bottom proper some WL WM k km s.2 t.2)

  pub single_pair : (i j : ℕ) → i < j → j < P.m → AtMost P c (one i) → AtMost P c (one j) → Single All P (wide P c) (part P c)
  single_pair i j ij jm h k L M _ _ WL WM =
      let im : i < P.m = omega arith in
      agree_twice L M (P.x i) (P.x j) (proper.rise i j ij jm)
      (agree_top proper some WL WM i im (touching (one i) im h L WL).0 (touching (one i) im h M WM).0)
      (agree_top proper some WL WM j jm (touching (one j) jm k L WL).0 (touching (one j) jm k M WM).0)

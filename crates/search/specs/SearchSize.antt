-- Sizes in the search: how large what is read of admitted points is, and how large the fractions of candidates are. Method.
use Rattle.std.specs.Prelude.{◌≡◌, List, ◌∷◌, [], ℕ, ◌<◌, ◌≤◌, ℤ, nat_abs, ◌-ℤ◌}
use Rattle.std.proofs.Common.{sym, subst, arith}
use Rattle.whole.specs.Poly.{var, ◌⊖◌}
use Rattle.whole.specs.Machine.{sized}
use Rattle.units.specs.declared.Input.{Input}
use Rattle.units.specs.declared.Part.{Part}
use Rattle.band.specs.Line.{Points}
use Rattle.band.specs.Candidate.{one, up, down, num, den, Fits, upE, downE}
use Rattle.band.specs.Candidate as C
use Rattle.band.specs.Band.{most_x, most_v, Admitted}
use Rattle.search.specs.Search.{shown, Levelled}
use Rattle.search.specs.declared.Candidate.{Candidate}

-- three inputs of m
pub record Three (m i j k : ℕ) : Type 0 where
  pub i< : i < m
  pub j< : j < m
  pub k< : k < m

pub three : {m i j k : ℕ} → (i < j) × (j < k) × (k < m) → Three m i j k
three h = record { i< = omega (arith, h.0, h.1, h.2); j< = omega (arith, h.1, h.2); k< = h.2 }

-- three inputs and three values
abbrev sizes : List ℕ
sizes = most_x ∷ most_x ∷ most_x ∷ most_v ∷ most_v ∷ most_v ∷ []

module _ {P : Points} (a : Admitted P) where
  pub input_size : {i : ℕ} {v : Input} → i < P.m → v ≡ record { count = P.x i } → nat_abs v.count ≤ most_x
  input_size {i} h e = subst (λ (v : Input). nat_abs v.count ≤ most_x) (sym e) (a.inputs i h)

  pub low_size : {i : ℕ} {v : Part} → i < P.m → v ≡ record { count = P.low i } → nat_abs v.count ≤ most_v
  low_size {i} h e = subst (λ (v : Part). nat_abs v.count ≤ most_v) (sym e) (a.lows i h)

  pub high_size : {i : ℕ} {v : Part} → i < P.m → v ≡ record { count = P.high i } → nat_abs v.count ≤ most_v
  high_size {i} h e = subst (λ (v : Part). nat_abs v.count ≤ most_v) (sym e) (a.highs i h)

  pub num_size : (c : C.Candidate) → Fits P c → nat_abs (num P c) ≤ 18540000000000
  num_size (one i) h = sized (P.high i ∷ P.low i ∷ []) (most_v ∷ most_v ∷ []) (a.highs i h, (a.lows i h, tt)) (var 0 ⊖ var 1) 18540000000000 tt
  num_size (up i j k) h =
      let t = three h in
      sized (P.x i ∷ P.x j ∷ P.x k ∷ P.high i ∷ P.low j ∷ P.high k ∷ []) sizes
      (a.inputs i t.i<, (a.inputs j t.j<, (a.inputs k t.k<, (a.highs i t.i<, (a.lows j t.j<, (a.highs k t.k<, tt))))))
      (upE (var 0) (var 1) (var 2) (var 3) (var 4) (var 5)) 18540000000000 tt
  num_size (down i j k) h =
      let t = three h in
      sized (P.x i ∷ P.x j ∷ P.x k ∷ P.low i ∷ P.high j ∷ P.low k ∷ []) sizes
      (a.inputs i t.i<, (a.inputs j t.j<, (a.inputs k t.k<, (a.lows i t.i<, (a.highs j t.j<, (a.lows k t.k<, tt))))))
      (downE (var 0) (var 1) (var 2) (var 3) (var 4) (var 5)) 18540000000000 tt

  pub told_size : (c : C.Candidate) {z : ℤ} → Fits P c → z ≡ num P c → nat_abs z ≤ 18540000000000
  told_size c h e = subst (λ (z : ℤ). nat_abs z ≤ 18540000000000) (sym e) (num_size c h)

  span_size : (i k : ℕ) → i < P.m → k < P.m → nat_abs (P.x k -ℤ P.x i) ≤ 60000
  span_size i k h l = sized (P.x i ∷ P.x k ∷ []) (most_x ∷ most_x ∷ []) (a.inputs i h, (a.inputs k l, tt)) (var 1 ⊖ var 0) 60000 tt

  den_size : (c : C.Candidate) → Fits P c → nat_abs (den P c) ≤ 60000
  den_size (one i) h = omega arith
  den_size (up i j k) h = span_size i k (three h).i< (three h).k<
  den_size (down i j k) h = span_size i k (three h).i< (three h).k<

  pub top_size : {c : Candidate} {n d : ℤ} → Levelled P c n d → (nat_abs n ≤ 18540000000000) × (nat_abs d ≤ 60000)
  top_size {c} l = (told_size (shown c) l.fits l.num, subst (λ (z : ℤ). nat_abs z ≤ 60000) (sym l.den) (den_size (shown c) l.fits))

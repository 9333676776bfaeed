-- The points upside down. What is proved of `up` holds so of `down`.
use Rattle.std.specs.Prelude.{◌≡◌, refl, ◌∷◌, [], ℤ, neg_ℤ, ◌+ℤ◌, ◌-ℤ◌}
use Rattle.std.proofs.Common.{sym, subst}
use Rattle.whole.specs.Poly.{var, neg, ◌⊕◌, ◌⊖◌}
use Rattle.whole.specs.Ring.{ring}
use Rattle.whole.specs.Sign.{NonNeg}
use Rattle.band.specs.Line.{Points}
use Rattle.band.specs.Candidate.{Candidate, one, up, down, num, den, Fits, upE, downE, Rising}
use Rattle.band.specs.Seen.{Inside}

abbrev pub mirror : Points → Points
mirror Q = record { m = Q.m; d = Q.d; x = Q.x; low = λ i. neg_ℤ (Q.high i); high = λ i. neg_ℤ (Q.low i) }

abbrev pub flip : Candidate → Candidate
flip (one i) = one i
flip (up i j k) = down i j k
flip (down i j k) = up i j k

pub mirror_rising : {Q : Points} → Rising Q → Rising (mirror Q)
mirror_rising rising = record { rise = rising.rise }

pub mirror_num : (Q : Points) (c : Candidate) → num (mirror Q) c ≡ num Q (flip c)
mirror_num Q (one i) = ring (Q.low i ∷ Q.high i ∷ []) (neg (var 0) ⊖ neg (var 1)) (var 1 ⊖ var 0) tt
mirror_num Q (up i j k) =
    ring (Q.x i ∷ Q.x j ∷ Q.x k ∷ Q.low i ∷ Q.high j ∷ Q.low k ∷ []) (upE (var 0) (var 1) (var 2) (neg (var 3)) (neg (var 4)) (neg (var 5))) (downE (var 0) (var 1) (var 2) (var 3) (var 4) (var 5)) tt
mirror_num Q (down i j k) =
    ring (Q.x i ∷ Q.x j ∷ Q.x k ∷ Q.high i ∷ Q.low j ∷ Q.high k ∷ []) (downE (var 0) (var 1) (var 2) (neg (var 3)) (neg (var 4)) (neg (var 5))) (upE (var 0) (var 1) (var 2) (var 3) (var 4) (var 5)) tt

pub mirror_den : (Q : Points) (c : Candidate) → den (mirror Q) c ≡ den Q (flip c)
mirror_den Q (one i) = refl
mirror_den Q (up i j k) = refl
mirror_den Q (down i j k) = refl

pub mirror_fits : (Q : Points) (c : Candidate) → Fits (mirror Q) c → Fits Q (flip c)
mirror_fits Q (one i) h = h
mirror_fits Q (up i j k) h = h
mirror_fits Q (down i j k) h = h

below_above : (T v : ℤ) → T +ℤ v ≡ T -ℤ neg_ℤ v
below_above T v = ring (T ∷ v ∷ []) (var 0 ⊕ var 1) (var 0 ⊖ neg (var 1)) tt

pub inside_mirror : {Q : Points} {T : ℤ} → Inside Q T → Inside (mirror Q) T
inside_mirror {Q} {T} I = record { above = λ p h. subst NonNeg (below_above T (Q.low p)) (I.below p h); below = I.above }

pub mirror_inside : {Q : Points} {T : ℤ} → Inside (mirror Q) T → Inside Q T
mirror_inside {Q} {T} I = record { above = I.below; below = λ p h. subst NonNeg (sym (below_above T (Q.low p))) (I.above p h) }

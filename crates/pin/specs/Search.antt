-- The search for the greatest pair, and what is known of the best one so far. Method: no public statement cites this file.
use Rattle.std.specs.Prelude.{◌≡◌, cond, ℕ, ◌<◌, ◌≤◌, ℤ, pos, nat_abs, ◌+ℤ◌, ◌-ℤ◌, ◌*ℤ◌, ◌≤ℤ◌, ◌<ℤ◌}
use Rattle.std.specs.Int.Signed.{lt_z}
use Rattle.band.specs.Line.{Points, Passing}
use Rattle.band.specs.Band.{most_x, most_v, Admitted}
use Rattle.fit.specs.Answer.{TheLine, OnlyWidth}
use Rattle.fit.specs.declared.Drawn.{Drawn}
use Rattle.fit.specs.declared.Drawn.TheVariants as drawn
use Rattle.pin.specs.Pair.{rise, num, den, Fits, AtMost, Greatest}
use Rattle.pin.specs.declared.Pair.{Pair}
use Rattle.pin.specs.declared.Pin.{Pin}

-- ---- largest sizes: of a pair's numerator and denominator
abbrev pub most_num : ℕ
most_num = 24720000000000

abbrev pub most_den : ℕ
most_den = 120000

-- what a fixed point may be: of bounded size
pub record Ready (P : Points) (p : Pin) : Type 0 where
  pub admitted : Admitted P
  pub x_most : nat_abs p.x.count ≤ most_x
  pub v_most : nat_abs p.v.count ≤ most_v

-- the inputs beyond x are those from n on
pub record Start (P : Points) (x : ℤ) (n : ℕ) : Type 0 where
  pub most : n ≤ 1
  pub before : (k : ℕ) → k < n → P.x k ≤ℤ x
  pub after : (k : ℕ) → n ≤ k → k < P.m → x <ℤ P.x k

-- ---- pairs
-- the pair i, j, where the values rise by a and b at the distances s and t
abbrev pub written : (i j : ℕ) (a b s t : ℤ) → Pair
written i j a b s t = record { i = i; j = j; num = a *ℤ t -ℤ b *ℤ s; den = s +ℤ t }

-- the pair i, j or j, i: the one whose fraction is not negative
abbrev pub ordered : (i j : ℕ) (a b s t : ℤ) → Pair
ordered i j a b s t = cond (lt_z (a *ℤ t) (b *ℤ s)) (written j i b a t s) (written i j a b s t)

-- t is a pair with its fraction, which is not negative
pub record Paired (P : Points) (p : Pin) (t : Pair) : Type 0 where
  pub fits : Fits P p.x.count t.i t.j
  pub num_is : t.num ≡ num P p.x.count p.v.count t.i t.j
  pub den_is : t.den ≡ den P p.x.count t.i t.j
  pub sign : pos 0 ≤ℤ t.num
  pub num_most : nat_abs t.num ≤ most_num
  pub den_most : nat_abs t.den ≤ most_den

-- the pair k, l is at most t in both orders
pub record Covers (P : Points) (p : Pin) (t : Pair) (k l : ℕ) : Type 0 where
  pub one : AtMost P p.x.count p.v.count t.num t.den k l
  pub other : AtMost P p.x.count p.v.count t.num t.den l k

-- t is the pair of i and j
pub record Told (P : Points) (p : Pin) (i j : ℕ) (t : Pair) : Type 0 where
  pub paired : Paired P p t
  pub covers : Covers P p t i j

-- ---- the loops
-- no pair that is at most o is above t
abbrev pub Keeps : Points → Pin → (o t : Pair) → Type 0
Keeps P p o t = (k l : ℕ) → Fits P p.x.count k l → AtMost P p.x.count p.v.count o.num o.den k l → AtMost P p.x.count p.v.count t.num t.den k l

-- after the pairs of i with the later inputs below n, from o on
pub record Partners (P : Points) (p : Pin) (o : Pair) (i n : ℕ) (t : Pair) : Type 0 where
  pub paired : Paired P p t
  pub keeps : Keeps P p o t
  pub all : (l : ℕ) → l < n → i < l → Covers P p t i l

-- after the pairs of the inputs below n with later ones
pub record Firsts (P : Points) (p : Pin) (n : ℕ) (t : Pair) : Type 0 where
  pub paired : Paired P p t
  pub all : (k : ℕ) → k < n → (l : ℕ) → k < l → Fits P p.x.count k l → Covers P p t k l

-- t is the greatest pair, with its fraction
pub record Found (P : Points) (p : Pin) (t : Pair) : Type 0 where
  pub paired : Paired P p t
  pub top : Greatest P p.x.count p.v.count t.i t.j

-- ---- what is made of it
-- T of the numbers of the pair's line
abbrev pub LineParts : Points → Pin → Pair → (ℤ → ℤ → ℤ → ℤ → Type 0) → Type 0
LineParts P p t T =
    let a = rise P p.v.count t.i +ℤ rise P p.v.count t.j in
    T a (p.v.count *ℤ t.den -ℤ a *ℤ p.x.count) (t.den *ℤ pos P.d) t.num

-- w is how far the first value lies off, where the first input is x itself; else 0
pub record OwnDistance (P : Points) (p : Pin) (w : ℤ) : Type 0 where
  pub own : P.x 0 ≡ p.x.count → w ≡ pos (nat_abs (rise P p.v.count 0))
  pub none : (P.x 0 ≡ p.x.count → ⊥) → w ≡ pos 0
  pub most : nat_abs w ≤ 206000000

-- the line through the fixed point that is due
abbrev pub PinDue : Points → Pin → Drawn → Type 0
PinDue P p (drawn.Line f) = TheLine (Passing P p.x.count p.v.count) P f
PinDue P p (drawn.Several h) = OnlyWidth (Passing P p.x.count p.v.count) P h
PinDue P p drawn.Improper = ⊥

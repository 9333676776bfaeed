-- What the tests of numbers and of answers show.
use Rattle.std.specs.Prelude.{◌≡◌, Bool, cond, List, [], ◌∷◌, ℕ, zero, suc, ◌*◌, ◌%◌, ◌<◌, T, leb, ltb, eqb, ℤ, pos, negsuc, nat_abs}
use Rattle.std.proofs.Common.{ap, ap₂, subst, ⊎_elim, arith, leb→le, ltb→lt, eqb→eq}
use Rattle.std.specs.Int.Signed.{le_z}
use Rattle.std.proofs.Math.Facts.{and_yes, or_yes, eqb_no}
use Rattle.whole.specs.Every.{every_holds}
use Rattle.whole.specs.Flags.{cond_ind}
use Rattle.whole.specs.Sign.{le_antisym}
use Rattle.exact.specs.Divisor.{Gcd}
use Rattle.exact.specs.Euclid.{gcd_zero, gcd_step}
use Rattle.exact.specs.Value.{Made, nought}
use Rattle.exact.specs.Rounding.{Nearest}
use Rattle.exact.proofs.RoundingLaws.{some_nearest}
use Rattle.exact.specs.declared.Fraction.{Fraction}
use Rattle.run.specs.declared.Run.{Run}
use Rattle.band.specs.Line.{Line}
use Rattle.fit.specs.Scaled.{Alike}
use Rattle.bands.specs.Through.{LargestOf}
use Rattle.due.specs.Due.{only_width, Stands}
use Rattle.due.specs.Cases.{Counted}
use Rattle.due.specs.declared.Answer.{Answer}
use Rattle.promises.specs.Tests.{all, same, divisor, zero_one, made, nearest, alike, largest_of, stands, width_only}

-- each test of a list
abbrev pub Hold : List Bool → Type 0
Hold [] = Unit {0}
Hold (b ∷ bs) = T b × Hold bs

pub all_hold : (bs : List Bool) → T (all bs) → Hold bs
all_hold [] t = tt
all_hold (b ∷ bs) t = let s = and_yes b (all bs) t in (s.0, all_hold bs s.1)

-- ---- numbers
pub same_is : (a b : ℤ) → T (same a b) → a ≡ b
same_is a b t = let s = and_yes (le_z a b) (le_z b a) t in le_antisym (record { le = s.0 }) (record { le = s.1 })

-- Euclid's divisor is the greatest where the steps suffice
divisor_is : (n a b : ℕ) → divisor n a b ≡ 1 → Gcd a b 1
unfolding divisor
divisor_is zero a b e = absurd (omega arith)
divisor_is (suc n) a zero e = subst (Gcd a 0) e (gcd_zero a)
divisor_is (suc n) a (suc b) e = gcd_step a (suc b) (divisor_is n (suc b) (a % suc b) e)

zero_one_is : (f : Fraction) → T (zero_one f) → f ≡ nought
zero_one_is f t =
    let s = and_yes (same f.num (pos 0)) (eqb f.den 1) t in
    ap₂ (λ (n : ℤ) (d : ℕ). record { num = n; den = d }) (same_is f.num (pos 0) s.0) (eqb→eq f.den 1 s.1)

pub made_by : (n : ℤ) (d : ℕ) (f : Fraction) → T (all (made n d f)) → Made n d f
made_by n d f t =
    let (positive, (coprime, (worth, (none, _)))) = all_hold (made n d f) t in
    record {
      lowest = record { positive = ltb→lt 0 f.den positive; coprime = divisor_is 64 (nat_abs f.num) f.den (eqb→eq _ _ coprime) };
      worth = λ h. same_is _ _ worth;
      none = λ e. ⊎_elim (λ h. let z : 0 < d = ltb→lt 0 d h in absurd (omega arith)) (zero_one_is f) (or_yes (ltb 0 d) (zero_one f) none);
    }

nearest_by : (v d t : ℕ) → T (nearest v d t) → Nearest v d t
nearest_by v zero t h = absurd h
nearest_by v (suc d) t h = let r = some_nearest v (suc d) (omega arith) in subst (Nearest v (suc d)) (eqb→eq r.0 t h) r.1

pub alike_by : (w z w' z' : ℕ) → T (all (alike w z w' z')) → Alike w z w' z'
alike_by w z w' z' t =
    let (some, (some', (is, _))) = all_hold (alike w z w' z') t in
    record { some = ltb→lt 0 z some; some' = ltb→lt 0 z' some'; is = eqb→eq (w * z') (w' * z) is }

pub largest_of_by : (m : ℕ) (g : ℕ → ℕ) (w at : ℕ) → T (all (largest_of m g w at)) → LargestOf m g w
largest_of_by m g w at t =
    let (most, (within, (reached, _))) = all_hold (largest_of m g w at) t in
    record { most = λ i h. leb→le (g i) w (every_holds m (λ i. leb (g i) w) most i h); place = at; within = ltb→lt at m within; reached = eqb→eq (g at) w reached }

-- ---- answers
size_zero : (z : ℤ) → nat_abs z ≡ 0 → z ≡ pos 0
size_zero (pos n) e = ap pos e
size_zero (negsuc n) e = absurd (omega arith)

-- the slope tells the number
abbrev pub Told : ℤ → ℕ → Type 0
Told a n = (a ≡ pos 0 → n ≡ 11) × ((a ≡ pos 0 → ⊥) → n ≡ 0)

pub told : (a : ℤ) (n : ℕ) → n ≡ cond (eqb (nat_abs a) 0) 11 0 → Told a n
told a n = cond_ind (eqb (nat_abs a) 0) 11 0 (λ t. n ≡ t → Told a n)
    (λ t e. (λ _. e, λ h. absurd (h (size_zero a (eqb→eq (nat_abs a) 0 t)))))
    (λ t e. (λ h. absurd (eqb_no t (ap nat_abs h)), λ _. e))

pub stands_by : (r : Run) (L : Line) (w z : ℕ) (a : Answer) → T (all (stands r L w z a)) → Counted L a × Stands r L w z a
stands_by r L w z a t =
    let (number, (place, (width, (slope, (offset, (index, (thousandths, _))))))) = all_hold (stands r L w z a) t in
    let n = told L.a a.number (eqb→eq _ _ number) in (
      record { flat = n.0; sloping = n.1; place = eqb→eq _ _ place },
      record { width = made_by _ _ a.width width; slope = made_by _ _ a.slope slope; offset = made_by _ _ a.offset offset; index = made_by _ _ a.index index; thousandths = nearest_by _ _ _ thousandths },
    )

pub width_only_by : (w z : ℕ) (a : Answer) → T (all (width_only w z a)) → Made (pos w) z a.width × (a ≡ only_width a.width)
width_only_by w z a t =
    let (number, (place, (width, (slope, (offset, (index, (thousandths, _))))))) = all_hold (width_only w z a) t in (
      made_by (pos w) z a.width width,
      λ i. record {
        number = eqb→eq a.number 12 number i;
        place = eqb→eq a.place 0 place i;
        width = a.width;
        slope = zero_one_is a.slope slope i;
        offset = zero_one_is a.offset offset i;
        index = zero_one_is a.index index i;
        thousandths = eqb→eq a.thousandths 0 thousandths i;
      },
    )

-- Laws of numbers in decimal.
use Rattle.std.specs.Prelude.{◌≡◌, refl, cond, List, [], ◌∷◌, ◌++◌, ℕ, zero, suc, ◌*◌, ◌/◌, ◌^◌, ◌<◌, ◌≤◌, ltb, ℤ, pos, negsuc, nat_abs, ◌≤ℤ◌, ◌<ℤ◌}
use Rattle.std.proofs.Common.{sym, ap, ◌∙◌, pow-suc, arith, lt-ltb, le-ltb, ltb→lt}
use Rattle.plain.specs.Digits.{digit, digits, decimal, signed}

-- one step of the definition, below 10 and from 10 on
digits_one : (k v : ℕ) → v < 10 → digits (suc k) v ≡ digit v ∷ []
unfolding digits
digits_one k v h = simp (lt-ltb v 10 h)

digits_more : (k v : ℕ) → 10 ≤ v → digits (suc k) v ≡ digits k (v / 10) ++ (digit v ∷ [])
unfolding digits
digits_more k v h = simp (le-ltb v 10 h)

-- more digits than are enough change nothing
digits_enough : (k v : ℕ) → v < 10 ^ suc k → digits (suc k) v ≡ digits (suc (suc k)) v
unfolding digits
digits_enough zero v h = let l : v < 10 = omega arith in digits_one 0 v l ∙ sym (digits_one 1 v l)
digits_enough (suc k) v h =
    let e : v < 10 ^ suc k * 10 = omega (arith, pow-suc 10 (suc k)) in
    ap (λ (d : List ℕ). cond (ltb v 10) (digit v ∷ []) (d ++ (digit v ∷ []))) (digits_enough k (v / 10) (omega arith))

-- below 10 there is one digit
pub decimal_one : (v : ℕ) → v < 10 → decimal v ≡ digit v ∷ []
decimal_one = digits_one 19

-- the last digit stands behind those of the tenth part
pub decimal_more : (v : ℕ) → 10 ≤ v → v < 2 ^ 64 → decimal v ≡ decimal (v / 10) ++ (digit v ∷ [])
decimal_more v h l = digits_more 19 v h ∙ ap (λ (d : List ℕ). d ++ (digit v ∷ [])) (digits_enough 18 (v / 10) (omega arith))

-- below zero and from zero on, by the size of the number
pub signed_below : (z : ℤ) → z <ℤ pos 0 → signed z ≡ 45 ∷ decimal (nat_abs z)
signed_below (pos n) h = let l : n < 0 = ltb→lt n 0 h.lt in absurd (omega arith)
signed_below (negsuc n) h = refl

pub signed_from : (z : ℤ) → pos 0 ≤ℤ z → signed z ≡ decimal (nat_abs z)
signed_from (pos n) h = refl
signed_from (negsuc n) h = absurd h.le

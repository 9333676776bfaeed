-- Laws of the greatest common divisor: Euclid's step, and what follows where two numbers have none but 1.
use Rattle.std.specs.Prelude.{◌≡◌, ℕ, zero, suc, ◌*◌, ◌/◌, ◌%◌, ◌<◌}
use Rattle.std.proofs.Common.{sym, ap, ◌∙◌, subst, arith}
use Rattle.std.specs.Int.{◌∣◌}
use Rattle.std.proofs.Math.Nat as N
use Rattle.exact.specs.Divisor.{Gcd}

pub gcd_zero : (a : ℕ) → Gcd a 0 a
gcd_zero a = record { left = N.dvd_refl a; right = N.dvd-zero a; all = λ d h i. h }

-- the remainder takes the larger number's place
pub gcd_step : (a b : ℕ) {g : ℕ} → Gcd b (a % b) g → Gcd a b g
gcd_step a b {g} h = record { left = (N.dvd-mod_iff g h.left).0 h.right; right = h.left; all = λ d i j. h.all d j ((N.dvd-mod_iff d j).1 i) }

pub gcd_positive : {a b g : ℕ} → 0 < b → Gcd a b g → 0 < g
gcd_positive p h = N.pos_of_dvd_of_pos h.right p

pub gcd_same : {a b g h : ℕ} → Gcd a b g → Gcd a b h → g ≡ h
gcd_same {a} {b} {g} {h} p q = N.dvd_antisymm (q.all g p.left p.right) (p.all h q.left q.right)

-- there is one, as `more` steps find
pub gcd_within : (more a b : ℕ) → b < more → (g : ℕ) × Gcd a b g
gcd_within zero a b h = let e : ⊥ = omega arith in absurd e
gcd_within (suc more) a zero h = (a, gcd_zero a)
gcd_within (suc more) a (suc b) h =
    let k : a % suc b < suc b = N.mod-lt a (omega arith) in
    let r = gcd_within more (suc b) (a % suc b) (omega arith) in
    (r.0, gcd_step a (suc b) r.1)

-- a divisor of m·a that has nothing in common with a divides m
pub coprime_divides : {a b m : ℕ} → 0 < m → Gcd a b 1 → b ∣ m * a → b ∣ m
coprime_divides {a} {b} {m} p h i =
    let r = gcd_within (suc (m * b)) (m * a) (m * b) (omega arith) in
    let g = r.0 in
    let mg : m * (g / m) ≡ g = N.mul-div_cancel' m (r.1.all m (N.dvd-mul_right m a) (N.dvd-mul_right m b)) in
    let in_a : g / m ∣ a = N.dvd_of_mul-dvd-mul_left {k = m} (g / m) p (subst (λ (t : ℕ). t ∣ m * a) (sym mg) r.1.left) in
    let in_b : g / m ∣ b = N.dvd_of_mul-dvd-mul_left {k = m} (g / m) p (subst (λ (t : ℕ). t ∣ m * b) (sym mg) r.1.right) in
    let one : g / m ≡ 1 = N.dvd_antisymm (h.all (g / m) in_a in_b) (N.one-dvd (g / m)) in
    subst (λ (t : ℕ). b ∣ t) (sym mg ∙ ap (λ (t : ℕ). m * t) one ∙ N.mul-one m) (r.1.all b i (N.dvd-mul_left b m))

-- two numbers divided by their greatest common divisor have none but 1
pub coprime_parts : {n d g : ℕ} → 0 < d → Gcd n d g → Gcd (n / g) (d / g) 1
coprime_parts {n} {d} {g} p h = record { left = N.one-dvd (n / g); right = N.one-dvd (d / g); all = λ e i j. N.dvd_of_mul-dvd-mul_right {k = g} e (gcd_positive p h) (subst (λ (t : ℕ). e * g ∣ t) (sym (N.one-mul g)) (h.all (e * g) (times_g e h.left i) (times_g e h.right j))) }
  where
    times_g : (e : ℕ) {m : ℕ} → g ∣ m → e ∣ m / g → e * g ∣ m
    times_g e {m} k i = subst (λ (t : ℕ). e * g ∣ t) (N.div-mul_cancel g k) (N.mul-dvd-mul_right e i g)

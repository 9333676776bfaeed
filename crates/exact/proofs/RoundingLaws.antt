-- Laws of the rule of rounding: some whole number always fits, and the rest of v divided by d tells which one. That only one fits is in `Once`.
use Rattle.std.specs.Prelude.{◌≡◌, cond, ◌⊎◌, ℕ, zero, suc, ◌+◌, ◌*◌, ◌-◌, ◌/◌, ◌%◌, ◌<◌, ◌≤◌, ltb, ℤ, pos, negsuc, nat_abs, ◌-ℤ◌}
use Rattle.std.proofs.Common.{ap, ◌∙◌, subst, inl, inr, ⊎_elim, arith, ltb→lt, nltb→le}
use Rattle.std.specs.Int.{◌∣◌}
use Rattle.std.proofs.Math.Nat as N
use Rattle.std.proofs.Math.Decide.{dec_lt, ℕ_discrete}
use Rattle.whole.specs.Balance.{nat, ◌⊟◌, weighs}
use Rattle.whole.specs.Flags.{cond_ind}
use Rattle.whole.specs.Split.{up, down}
use Rattle.exact.specs.Rounding.{distance, Nearest}

-- of v and t·d the larger less the smaller
pub distance_is : (v d t : ℕ) → distance v d t ≡ (v - t * d) + (t * d - v)
distance_is v d t = size (pos v -ℤ pos (t * d)) v (t * d) (weighs (nat v ⊟ nat (t * d))).is
  where
    size : (z : ℤ) (p q : ℕ) → up z + (0 + q) ≡ down z + (p + 0) → nat_abs z ≡ (p - q) + (q - p)
    size (pos n) p q h = omega arith
    size (negsuc n) p q h = omega arith

-- where a whole number u lies whose distance from v/d is far/d: it is one of the two neighbours of v/d, or at least 1 away
data Lies (v d u far : ℕ) : Type 0 where
  below : u ≡ v / d → far ≡ v % d → Lies v d u far
  above : u ≡ v / d + 1 → far ≡ d - v % d → Lies v d u far
  beyond : d ≤ far → Lies v d u far

module _ (v d : ℕ) (p : 0 < d) where
  at_whole : distance v d (v / d) ≡ v % d
  at_whole = omega (arith, distance_is v d (v / d), N.div-add-mod' v d)

  at_next : distance v d (v / d + 1) ≡ d - v % d
  at_next = omega (arith, distance_is v d (v / d + 1), N.div-add-mod' v d, N.mod-lt v p)

  lies : (u : ℕ) → Lies v d u (distance v d u)
  lies u = lower (dec_lt u (v / d))
    where
      far : distance v d u ≡ (v - u * d) + (u * d - v)
      far = distance_is v d u

      is : v / d * d + v % d ≡ v
      is = N.div-add-mod' v d

      small : v % d < d
      small = N.mod-lt v p

      at : Dec (u ≡ v / d) → Dec (u ≡ v / d + 1) → v / d ≤ u → Lies v d u (distance v d u)
      at (yes e) _ h = below e (ap (distance v d) e ∙ at_whole)
      at (no n) (yes e) h = above e (ap (distance v d) e ∙ at_next)
      at (no n) (no m) h = let k : v / d + 2 ≤ u = omega arith in beyond (omega (arith, far, is, small, N.mul-le-mul_right d k))

      lower : Dec (u < v / d) → Lies v d u (distance v d u)
      lower (yes h) = beyond (omega (arith, far, is, N.mul-le-mul_right d h))
      lower (no h) = at (ℕ_discrete u (v / d)) (ℕ_discrete u (v / d + 1)) (omega arith)

  -- a whole number than which neither neighbour is nearer, and which is even if another one is equally near
  nearest_of : (t : ℕ) → distance v d t ≤ v % d → distance v d t ≤ d - v % d → ((u : ℕ) → Lies v d u (distance v d t) → (u ≡ t) ⊎ (2 ∣ t)) → Nearest v d t
  nearest_of t l h alone =
      record { some = p; near = λ u. near (lies u); even = λ u n e. ⊎_elim (λ (q : u ≡ t). absurd (n q)) (λ (g : 2 ∣ t). g) (alone u (subst (Lies v d u) e (lies u))) }
    where
      near : {u : ℕ} → Lies v d u (distance v d u) → distance v d t ≤ distance v d u
      near (below _ f) = omega arith
      near (above _ f) = omega arith
      near (beyond f) = omega (arith, N.mod-lt v p)

  -- the rest is less than half of d, ...
  pub nearest_below : v % d < d - v % d → Nearest v d (v / d)
  nearest_below h = nearest_of (v / d) (omega (arith, at_whole)) (omega (arith, at_whole)) alone
    where
      alone : (u : ℕ) → Lies v d u (distance v d (v / d)) → (u ≡ v / d) ⊎ (2 ∣ v / d)
      alone u (below e _) = inl e
      alone u (above _ f) = absurd (omega (arith, at_whole))
      alone u (beyond f) = absurd (omega (arith, at_whole, N.mod-lt v p))

  -- ... more, ...
  pub nearest_above : d - v % d < v % d → Nearest v d (v / d + 1)
  nearest_above h = nearest_of (v / d + 1) (omega (arith, at_next)) (omega (arith, at_next)) alone
    where
      alone : (u : ℕ) → Lies v d u (distance v d (v / d + 1)) → (u ≡ v / d + 1) ⊎ (2 ∣ v / d + 1)
      alone u (below _ f) = absurd (omega (arith, at_next))
      alone u (above e _) = inl e
      alone u (beyond f) = absurd (omega (arith, at_next, N.mod-lt v p))

  -- ... or half of d
  pub nearest_even : v % d ≡ d - v % d → Nearest v d (v / d + v / d % 2)
  nearest_even h = nearest_of (v / d + v / d % 2) (omega (arith, far)) (omega (arith, far)) (λ u _. inr (N.dvd_of_mod-eq-zero 2 even))
    where
      even : (v / d + v / d % 2) % 2 ≡ 0
      even = omega arith

      -- both neighbours are as far
      both : (k : ℕ) → k < 2 → distance v d (v / d + k) ≡ v % d
      both zero l = ap (distance v d) (N.add-zero (v / d)) ∙ at_whole
      both (suc zero) l = omega (arith, at_next)
      both (suc (suc k)) l = absurd (omega arith)

      far : distance v d (v / d + v / d % 2) ≡ v % d
      far = both (v / d % 2) (omega arith)

-- what fits where the rest is not below half of d
abbrev otherwise : (v d : ℕ) → ℕ
otherwise v d = cond (ltb (d - v % d) (v % d)) (v / d + 1) (v / d + v / d % 2)

-- one always fits. What it is can be computed: so a figure is tested by this definition, and not by another
abbrev pub some_nearest : (v d : ℕ) → 0 < d → (t : ℕ) × Nearest v d t
some_nearest v d p =
    let rest = v % d in
    let lacks = d - rest in (
      cond (ltb rest lacks) (v / d) (otherwise v d),
      cond_ind (ltb rest lacks) (v / d) (otherwise v d) (Nearest v d)
          (λ less. nearest_below v d p (ltb→lt rest lacks less))
          (λ not_less. cond_ind (ltb lacks rest) (v / d + 1) (v / d + v / d % 2) (Nearest v d)
          (λ more. nearest_above v d p (ltb→lt lacks rest more))
          (λ not_more. nearest_even v d p (N.le_antisymm (nltb→le lacks rest not_more) (nltb→le rest lacks not_less)))),
    )

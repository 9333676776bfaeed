-- The smaller and the greater of two numbers.
use Rattle.std.specs.Prelude.{◌≡◌, refl, cond, ◌⊎◌, ℕ, ◌≤◌, T, ℤ, nat_abs, ◌≤ℤ◌, ◌<ℤ◌}
use Rattle.std.proofs.Common.{inl, inr}
use Rattle.std.specs.Int.Signed.{lt_z, lt_z_no, ≤ℤ_refl}
use Rattle.whole.specs.Flags.{cond_ind}
use Rattle.whole.specs.Sign.{weaken}

abbrev pub smaller : ℤ → ℤ → ℤ
smaller a b = cond (lt_z a b) a b

abbrev pub greater : ℤ → ℤ → ℤ
greater a b = cond (lt_z a b) b a

module _ (a b : ℤ) where
  less : T (lt_z a b) → a <ℤ b
  less t = record { lt = t }

  pub smaller_left : smaller a b ≤ℤ a
  smaller_left = cond_ind (lt_z a b) a b (λ z. z ≤ℤ a) (λ t. ≤ℤ_refl a) (λ t. lt_z_no t)

  pub smaller_right : smaller a b ≤ℤ b
  smaller_right = cond_ind (lt_z a b) a b (λ z. z ≤ℤ b) (λ t. weaken (less t)) (λ t. ≤ℤ_refl b)

  pub smaller_is : (smaller a b ≡ a) ⊎ (smaller a b ≡ b)
  smaller_is = cond_ind (lt_z a b) a b (λ z. (z ≡ a) ⊎ (z ≡ b)) (λ t. inl refl) (λ t. inr refl)

  pub greater_left : a ≤ℤ greater a b
  greater_left = cond_ind (lt_z a b) b a (λ z. a ≤ℤ z) (λ t. weaken (less t)) (λ t. ≤ℤ_refl a)

  pub greater_right : b ≤ℤ greater a b
  greater_right = cond_ind (lt_z a b) b a (λ z. b ≤ℤ z) (λ t. ≤ℤ_refl b) (λ t. lt_z_no t)

  pub greater_is : (greater a b ≡ a) ⊎ (greater a b ≡ b)
  greater_is = cond_ind (lt_z a b) b a (λ z. (z ≡ a) ⊎ (z ≡ b)) (λ t. inr refl) (λ t. inl refl)

  pub greater_size : (n : ℕ) → nat_abs a ≤ n → nat_abs b ≤ n → nat_abs (greater a b) ≤ n
  greater_size n h i = cond_ind (lt_z a b) b a (λ z. nat_abs z ≤ n) (λ t. i) (λ t. h)

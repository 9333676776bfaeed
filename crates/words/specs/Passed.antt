-- Bytes that have nothing of what is looked for, and a search from the left, which has passed such bytes.
use Rattle.std.specs.Prelude.{◌≡◌, Bool, true, false, not, ◌&&◌, List, [], ◌∷◌, ◌++◌, ℕ, zero, suc, ◌+◌, ◌-◌, ◌<◌, ◌≤◌, T, length, get_or, take, drop}
use Rattle.std.proofs.Common.{sym, ap, ◌∙◌, subst, arith, length-drop, take-append-drop, length-take-le, take-suc, get_or-drop, drop-drop}
use Rattle.std.proofs.Math.Facts.{and_yes, yes_and}
use Rattle.whole.specs.Flags.{no-T}

-- p holds of no byte of w
unfoldable pub free : (ℕ → Bool) → List ℕ → Bool
free p [] = true
free p (b ∷ w) = not (p b) && free p w

pub free_none : (p : ℕ → Bool) → T (free p [])
unfolding free
free_none p = tt

pub free_one : (p : ℕ → Bool) (b : ℕ) → p b ≡ false → T (free p (b ∷ []))
unfolding free
free_one p b e = yes_and (not (p b)) true (no-T e) tt

pub free_append : (p : ℕ → Bool) (v w : List ℕ) → T (free p v) → T (free p w) → T (free p (v ++ w))
unfolding free
free_append p [] w s t = t
free_append p (b ∷ v) w s t = let h = and_yes (not (p b)) (free p v) s in yes_and (not (p b)) (free p (v ++ w)) h.0 (free_append p v w h.1 t)

-- ---- the bytes of l from place a up to place i, i itself not among them
abbrev pub part : List ℕ → ℕ → ℕ → List ℕ
part l a i = take (i - a) (drop a l)

module _ (l : List ℕ) (a : ℕ) where
  pub part_length : (i : ℕ) → a ≤ i → i ≤ length l → length (part l a i) ≡ i - a
  part_length i h k = length-take-le (i - a) (drop a l) (omega (arith, length-drop a l))

  pub part_none : part l a a ≡ []
  part_none = let e : a - a ≡ 0 = omega arith in ap (λ (n : ℕ). take n (drop a l)) e

  pub part_more : (i : ℕ) → a ≤ i → i < length l → part l a (i + 1) ≡ part l a i ++ (get_or l i 0 ∷ [])
  part_more i h k =
      let e : (i + 1) - a ≡ suc (i - a) = omega arith in
      let f : a + (i - a) ≡ i = omega arith in
      ap (λ (n : ℕ). take n (drop a l)) e
      ∙ take-suc (drop a l) (i - a) 0 (omega (arith, length-drop a l))
      ∙ ap (λ (b : ℕ). part l a i ++ (b ∷ [])) (get_or-drop a l (i - a) 0 ∙ ap (λ (n : ℕ). get_or l n 0) f)

  -- with what follows it, it is all from a on
  pub part_rest : (i : ℕ) → a ≤ i → part l a i ++ drop i l ≡ drop a l
  part_rest i h =
      let f : i ≡ a + (i - a) = omega arith in
      ap (λ (r : List ℕ). part l a i ++ r) (ap (λ (n : ℕ). drop n l) f ∙ sym (drop-drop (i - a) a l)) ∙ take-append-drop (i - a) (drop a l)

-- ---- a loop that looks for a byte with p, from place a on, and has come to place i
pub record Passed (p : ℕ → Bool) (l : List ℕ) (a i : ℕ) : Type 0 where
  pub from : a ≤ i
  pub within : i ≤ length l
  pub clear : T (free p (part l a i))

pub passed_none : (p : ℕ → Bool) (l : List ℕ) (a : ℕ) → a ≤ length l → Passed p l a a
passed_none p l a h = record { from = omega arith; within = h; clear = rw (part_none l a) (free_none p) }

pub passed_more : {p : ℕ → Bool} {l : List ℕ} {a i : ℕ} → Passed p l a i → i < length l → p (get_or l i 0) ≡ false → Passed p l a (i + 1)
passed_more {p} {l} {a} {i} s h e =
    record {
      from = omega arith;
      within = omega arith;
      clear = rw (part_more l a i s.from h) (free_append p (part l a i) (get_or l i 0 ∷ []) s.clear (free_one p (get_or l i 0) e));
    }

-- k bytes from place a on, of which none has p
pub passed_over : (p : ℕ → Bool) (l : List ℕ) (a k : ℕ) → a + k ≤ length l → ((j : ℕ) → j < k → p (get_or (drop a l) j 0) ≡ false) → Passed p l a (a + k)
passed_over p l a zero h f = let e : a ≡ a + 0 = omega arith in subst (Passed p l a) e (passed_none p l a (omega arith))
passed_over p l a (suc k) h f =
    let e : (a + k) + 1 ≡ a + suc k = omega arith in
    subst (Passed p l a) e (passed_more (passed_over p l a k (omega arith) (λ j z. f j (omega arith))) (omega arith) (ap p (sym (get_or-drop a l k 0)) ∙ f k (omega arith)))

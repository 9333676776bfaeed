-- The file of a run that no check refuses is a byte string: what is said of byte strings is said of it.
use Rattle.std.specs.Prelude.{◌≡◌, true, ℕ, zero, suc, ◌<◌, ◌≤◌, T, ltb, eqb, ℤ, pos, negsuc, nat_abs}
use Rattle.std.proofs.Common.{sym, ◌∙◌, arith, ltb→lt}
use mathlib.Core.List.{List, [], ◌∷◌, ◌++◌, map}
use Rattle.std.proofs.Math.Facts.{and_yes}
use Rattle.whole.specs.Flags.{yes-T, cond_ind}
use Rattle.run.specs.Run.{input, reading, sizes}
use Rattle.run.specs.Places.{Place, input_at, reading_at, within, places}
use Rattle.run.specs.PlaceLaws.{among, among_first, among_later, among_places}
use Rattle.run.specs.Checks.{verdict}
use Rattle.run.specs.Checked.{Checked, checked}
use Rattle.run.specs.declared.Run.{Run}
use Rattle.four_bytes.specs.Word.{bits, word_bytes}
use Rattle.record.specs.Kinds.{opening_code, bytes}
use Rattle.writer.specs.File.{record_of, all_bytes, travel, file}
use Rattle.runfile.specs.RecordLaws.{Bytes}

-- each is a byte
abbrev Each : List ℕ → Type 0
Each [] = Unit {0}
Each (b ∷ s) = (b < 256) × Each s

each_append : (a b : List ℕ) → Each a → Each b → Each (a ++ b)
each_append [] b h k = k
each_append (x ∷ a) b h k = (h.0, each_append a b h.1 k)

each_bytes : (s : List ℕ) → Each s → Bytes s
each_bytes [] h i l = absurd (omega arith)
each_bytes (b ∷ s) h zero l = h.0
each_bytes (b ∷ s) h (suc i) l = each_bytes s h.1 i (omega arith)

-- ---- four bytes
word_each : (w : ℕ) → w < 4294967296 → Each (word_bytes w)
word_each w h = (omega arith, (omega arith, (omega arith, (omega arith, tt))))

bits_most : (z : ℤ) → nat_abs z ≤ 1000000 → bits z < 4294967296
bits_most (pos n) h = omega arith
bits_most (negsuc n) h = omega arith

-- the kind of an opening is a byte
opening_small : (strokes : ℕ) → opening_code strokes < 256
opening_small strokes = cond_ind (eqb strokes 1) 5 1 (λ b. b < 256) (λ _. omega arith) (λ _. omega arith)

-- ---- the records of a run
module _ (r : Run) (e : (verdict r).number ≡ 0) where
  c : Checked r
  c = checked r e

  record_each : (p : Place) → T (within (sizes r) p) → Each (bytes (record_of r p))
  record_each (input_at i) t =
      let h = ltb→lt i r.m t in
      let m = c.m_most in
      let v = c.inputs i h in
      (omega arith, (omega arith, word_each (bits (input r i)) (bits_most (input r i) (omega arith))))
  record_each (reading_at s k i) t =
      let a = and_yes (ltb s r.strokes) _ t in
      let b = and_yes (ltb k r.n) (ltb i r.m) a.1 in
      let hs = ltb→lt s r.strokes a.0 in
      let two = c.strokes_most in
      let hk = ltb→lt k r.n b.0 in
      let hi = ltb→lt i r.m b.1 in
      let m = c.m_most in
      let n = c.n_most in
      (omega arith, (omega arith, (omega arith, (omega arith, word_each (bits (reading r s k i)) (bits_most (reading r s k i) (c.readings s k i hs hk hi))))))

  places_each : (ps : List Place) → ((p : Place) → among p ps ≡ true → Each (bytes (record_of r p))) → Each (all_bytes (map (record_of r) ps))
  unfolding all_bytes
  places_each [] f = tt
  places_each (p ∷ ps) f = each_append (bytes (record_of r p)) (all_bytes (map (record_of r) ps)) (f p (among_first p ps)) (places_each ps (λ q h. f q (among_later q p ps h)))

  pub file_bytes : Bytes (file r)
  file_bytes =
      let m = c.m_most in
      let n = c.n_most in
      let between : Each (all_bytes (travel r)) = places_each (places (sizes r)) (λ p h. record_each p (yes-T (sym (among_places (sizes r) p) ∙ h))) in
      each_bytes (file r) (opening_small r.strokes, (omega arith, (omega arith, each_append (all_bytes (travel r)) (4 ∷ []) between (omega arith, tt))))

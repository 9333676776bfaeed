-- The numbers of the answers, and the fields under a refusal.
use Rattle.std.specs.Prelude.{◌≡◌, refl, List, ◌++◌, ℕ, ◌*◌, ◌≤◌, eqb, ℤ, pos, nat_abs, length, drop}
use Rattle.std.proofs.Common.{sym, ap, ◌∙◌, subst, arith, eqb→eq}
use Rattle.std.proofs.Math.IntN.{ℤ_discrete}
use Rattle.whole.specs.Flags.{cond_ind}
use Rattle.exact.specs.Value.{nought}
use Rattle.exact.specs.Rounding.{Nearest}
use Rattle.exact.proofs.RoundingLaws.{some_nearest}
use Rattle.exact.proofs.RoundingOnce.{one_nearest}
use Rattle.exact.specs.declared.Fraction.{Fraction}
use Rattle.run.specs.Run.{zeros}
use Rattle.run.specs.Checked.{verdict_ind}
use Rattle.run.specs.declared.Run.{Run}
use Rattle.records.specs.Record.{its}
use Rattle.records.specs.Meaning.{run_of}
use Rattle.records.specs.Numbers.{number_most}
use Rattle.format.specs.Format.{file}
use Rattle.record.specs.Kinds.{run_file}
use Rattle.reader.specs.Meaning.{meaning}
use Rattle.writer.specs.File as W
use Rattle.writer.specs.File.{written, buffer_after}
use Rattle.writer.specs.WrittenLaws.{written_ind}
use Rattle.band.specs.Line.{Line}
use Rattle.due.specs.Due.{span, Stands}
use Rattle.due.specs.Cases.{Counted}
use Rattle.due.specs.declared.Answer as told

-- ---- a file: at most 10, and under a refusal the run of zeros
pub file_most : (s : List ℕ) → (meaning s).number ≤ 10
file_most s = number_most (file run_file s)

pub file_zeros : (s : List ℕ) → ((meaning s).number ≡ 0 → ⊥) → (meaning s).run ≡ zeros
file_zeros s n = cond_ind (eqb (meaning s).number 0) (run_of (its (file run_file s))) zeros (λ (r : Run). r ≡ zeros) (λ t. absurd (n (eqb→eq (meaning s).number 0 t))) (λ _. refl)

-- ---- an index with its line: 0 or 11, and under 11 the index is 0/1
module _ {L : Line} {a : told.Answer} (c : Counted L a) where
  pub counted_ind : (P : ℕ → Type 0) → P 0 → P 11 → P a.number
  counted_ind P sloped flat = go (ℤ_discrete L.a (pos 0))
    where
      go : Dec (L.a ≡ pos 0) → P a.number
      go (yes e) = subst P (sym (c.flat e)) flat
      go (no d) = subst P (sym (c.sloping d)) sloped

  pub flat_index : {r : Run} {w z : ℕ} → Stands r L w z a → a.number ≡ 11 → (a.index ≡ nought) × (a.thousandths ≡ 0)
  flat_index {r} {w} {z} s e = go (ℤ_discrete L.a (pos 0))
    where
      nothing : L.a ≡ pos 0 → z * (nat_abs L.a * span r) ≡ 0
      nothing d = ap (λ (t : ℤ). z * (nat_abs t * span r)) d ∙ times z (span r)
        where
          times : (z n : ℕ) → z * (0 * n) ≡ 0
          times z n = omega arith

      zero_percent : {f : Fraction} {t : ℕ} → f ≡ nought → Nearest (100000 * nat_abs f.num) f.den t → t ≡ 0
      zero_percent {f} {t} d n = let m = subst (λ (f : Fraction). Nearest (100000 * nat_abs f.num) f.den t) d n in one_nearest m (some_nearest 0 1 (omega arith)).1

      go : Dec (L.a ≡ pos 0) → (a.index ≡ nought) × (a.thousandths ≡ 0)
      go (yes d) = let i = s.index.none (nothing d) in (i, zero_percent i s.thousandths)
      go (no d) = let n = c.sloping d in absurd (omega arith)

-- ---- a buffer lent to the writer: what the check says, or 14
module _ (r : Run) (buffer : List ℕ) where
  pub write_ind : (P : ℕ → Type 0) → P 0 → P 3 → P 5 → P 9 → P 10 → P 14 → P (written r buffer).number
  write_ind P p0 p3 p5 p9 p10 p14 = written_ind r buffer (λ w. P w.number) p0 p14 (verdict_ind r P p0 p3 p5 p9 p10)

  pub write_none : ((written r buffer).number ≡ 0 → ⊥) → ((written r buffer).len ≡ 0) × (buffer_after r buffer ≡ buffer)
  write_none n = (
    written_ind r buffer (λ w. (w.number ≡ 0 → ⊥) → w.len ≡ 0) (λ n. absurd (n refl)) (λ _. refl) (λ _. refl) n,
    cond_ind (eqb (written r buffer).number 0) (W.file r ++ drop (length (W.file r)) buffer) buffer (λ b. b ≡ buffer) (λ t. absurd (n (eqb→eq (written r buffer).number 0 t))) (λ _. refl),
  )

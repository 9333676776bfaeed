-- Which rows of a text's table told a number: those of its lines, that of the opening, or those of its records. Any but 48 tells that the text is not too long.
use Rattle.std.specs.Prelude.{◌≡◌, Bool, true, false, cond, List, ℕ, suc, ◌+◌, ◌<◌, ◌≤◌, T, ltb, length, take}
use Rattle.std.proofs.Math.Path.{refl}
use Rattle.std.proofs.Common.{sym, ◌∙◌, ap, subst, arith, ltb-false}
use Rattle.std.proofs.Math.Decide.{ℕ_discrete}
use Rattle.whole.specs.Flags.{yes-T}
use Rattle.words.specs.Words.{lines}
use Rattle.table.specs.Table.{Given, given_at, told_or, given, First}
use Rattle.table.specs.Rows.{found_if}
use Rattle.table.specs.Laws.{exists}
use Rattle.records.specs.Meaning.{refusals}
use Rattle.spoken.specs.declared.Said.{Said}
use Rattle.text.specs.Text.{heard, some_opens, text, line_rows, point_line, of_point, line_refusals, most, text_refusals}
use Rattle.text.specs.Numbered.{LineFault, not_understood, opens_again, line_fault}
use Rattle.typed_text.specs.TableLaws.{told_lines, told_unopened, told_records, retold_from}

-- ---- any number but 48
module _ (s : List ℕ) (number l : ℕ) (n : ¬ (number ≡ 48)) (e : given (text_refusals s) ≡ given_at number l) where
  short_enough : (b : Bool) → ltb most (length s) ≡ b → told_or 48 (found_if (length (lines (take (suc most) s))) b) (given (line_refusals (heard s))) ≡ given_at number l
      → (length s ≤ most) × (given (line_refusals (heard s)) ≡ given_at number l)
  short_enough true h q = absurd (n (sym (ap (λ (g : Given). g.number) q)))
  short_enough false h q = (ltb-false most (length s) h, q)

  both : (length s ≤ most) × (given (line_refusals (heard s)) ≡ given_at number l)
  unfolding given
  both = short_enough (ltb most (length s)) refl e

  pub not_long : length s ≤ most
  not_long = both.0

-- ---- the rows that told it
-- the records are refused with a number, told of a point, and then the line is that of the point, or told of the line
abbrev pub RefusedWith : List Said → (own l : ℕ) → Type 0
RefusedWith hs own l = (p : ℕ) × First (refusals (text hs)) (given_at own p) × (cond (of_point own) (point_line 1 hs p) p ≡ l)

-- line by line nothing is refused, one line opens, and the records are refused with 40 less
pub record OfRecords (hs : List Said) (number l : ℕ) : Type 0 where
  pub clear : (given (line_rows false 1 hs)).number ≡ 0
  pub opened : T (some_opens hs)
  pub own : ℕ
  pub number_is : number ≡ 40 + own
  pub refused : RefusedWith hs own l

-- where the number told is known, so is theirs
pub own_known : {hs : List Said} {number l : ℕ} → OfRecords hs number l → (k : ℕ) → number ≡ 40 + k → RefusedWith hs k l
own_known {hs} {number} {l} r k e = let own : r.own ≡ k = omega (arith, r.number_is) in subst (λ (j : ℕ). RefusedWith hs j l) own r.refused

-- 42 and 46 are told line by line; 41 where no line opens; the others, and 46 too, of the records
pub data Told (hs : List Said) (number l : ℕ) : Type 0 where
  by_lines : LineFault false 1 hs number l → Told hs number l
  by_none_open : number ≡ 41 → Told hs number l
  by_records : OfRecords hs number l → Told hs number l

pub told_by : (s : List ℕ) (number l : ℕ) → ¬ (number ≡ 0) → ¬ (number ≡ 48) → given (text_refusals s) ≡ given_at number l → Told (heard s) number l
told_by s number l some n q = go (ℕ_discrete (given (line_rows false 1 hs)).number 0)
  where
    hs : List Said
    hs = heard s

    e : given (line_refusals hs) ≡ given_at number l
    e = (both s number l n q).1

    opened : (given (line_rows false 1 hs)).number ≡ 0 → (b : Bool) → some_opens hs ≡ b → Told hs number l
    opened c true o =
        let rows = refusals (text hs) in
        let r = retold_from hs (given rows) number l some (sym (told_records hs c (yes-T o)) ∙ e) in
        by_records (record { clear = c; opened = yes-T o; own = (given rows).number; number_is = r.0; refused = ((given rows).place, exists rows, r.1) })
    opened c false o = by_none_open (ap (λ (g : Given). g.number) (sym e ∙ told_unopened hs c o))

    go : Dec ((given (line_rows false 1 hs)).number ≡ 0) → Told hs number l
    go (yes c) = opened c (some_opens hs) refl
    go (no w) = by_lines (line_fault false 1 hs number l some (sym (told_lines hs w) ∙ e))

-- ---- 47, 49 and 50 are told of the records only
pub told_records_of : (s : List ℕ) (k l : ℕ) → 6 < k → ¬ (k ≡ 8) → given (text_refusals s) ≡ given_at (40 + k) l → RefusedWith (heard s) k l
told_records_of s k l high n e = go (told_by s (40 + k) l (λ q. omega arith) (λ q. n (omega arith)) e)
  where
    go : Told (heard s) (40 + k) l → RefusedWith (heard s) k l
    go (by_lines (not_understood q f)) = absurd (omega arith)
    go (by_lines (opens_again q f b)) = absurd (omega arith)
    go (by_none_open q) = absurd (omega arith)
    go (by_records r) = own_known r k refl

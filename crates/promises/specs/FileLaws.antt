-- What is written is read back, and what is read is written back in travel order; an accepted file has at most 1,830 bytes.
use Rattle.std.specs.Prelude.{◌≡◌, refl, List, [], ◌∷◌, ◌++◌, ℕ, ◌≤◌, length, take, drop}
use Rattle.std.proofs.Common.{ap, ◌∙◌, arith}
use Rattle.whole.specs.Flags.{T-yes}
use Rattle.table.specs.Table.{given_at, accepted}
use Rattle.run.specs.Checks.{Verdict, verdict}
use Rattle.run.specs.Checked.{verdict_exactly, verdict_fine}
use Rattle.run.specs.declared.Run.{Run}
use Rattle.records.specs.Meaning as records
use Rattle.format.specs.Format as format
use Rattle.format.specs.Trip.{travelled}
use Rattle.record.specs.Kinds.{run_file}
use Rattle.reader.specs.Meaning.{as_answer, meaning}
use Rattle.reader.specs.ReadFine as read
use Rattle.reader.specs.declared.Answer as R
use Rattle.writer.specs.File.{file, written, buffer_after}
use Rattle.writer.specs.WrittenLaws.{written_full, after_full}
use Rattle.writer.specs.declared.Written.{Written}
use Rattle.runfile.specs.Back.{trip}
use Rattle.runfile.specs.Longest.{longest}
use Rattle.runfile.specs.RecordLaws.{Bytes}
use Rattle.runfile.specs.Accepted.{Rewritten, rewritten}
use Rattle.promises.specs.Demand2.{WrittenBack, SameRecords}

-- the front of a list that begins with a
take_front : (a b : List ℕ) → take (length a) (a ++ b) ≡ a
take_front [] b = refl
take_front (x ∷ a) b = ap (λ (l : List ℕ). x ∷ l) (take_front a b)

module _ (r : Run) (e : (verdict r).number ≡ 0) (buffer : List ℕ) (room : length (file r) ≤ length buffer) where
  number_zero : (written r buffer).number ≡ 0
  number_zero = ap (λ (w : Written). w.number) (written_full r buffer e room)

  all_len : (written r buffer).len ≡ length (file r)
  all_len = ap (λ (w : Written). w.len) (written_full r buffer e room)

  -- the first `len` bytes of the buffer are the file
  put : take (written r buffer).len (buffer_after r buffer) ≡ file r
  put =
      ap (λ (k : ℕ). take k (buffer_after r buffer)) all_len
      ∙ ap (take (length (file r))) (after_full r buffer e room)
      ∙ take_front (file r) (drop (length (file r)) buffer)

  pub written_back : WrittenBack r buffer
  written_back = record { number = number_zero; back = ap meaning put ∙ ap as_answer (trip r (verdict_fine r e)) }

-- ---- a byte string that is accepted as the run r
module _ (s : List ℕ) (r : Run) (ok : Bytes s) (e : meaning s ≡ read.given r) where
  as_records : records.meaning (format.file run_file s) ≡ record { told = accepted; run = r }
  as_records i = record { told = given_at (ap (λ (a : R.Answer). a.number) e i) (ap (λ (a : R.Answer). a.place) e i); run = ap (λ (a : R.Answer). a.run) e i }

  again : Rewritten s r
  again = rewritten s r ok as_records

  passed : (verdict r).number ≡ 0
  passed = ap (λ (v : Verdict). v.number) (travelled run_file s r as_records).checked

  pub same_records : (buffer : List ℕ) → length s ≤ length buffer → SameRecords s r buffer
  same_records buffer h =
      let room : length (file r) ≤ length buffer = omega (arith, again.same_length) in
      record { number = number_zero r passed buffer room; len = all_len r passed buffer room ∙ again.same_length; bytes = put r passed buffer room; records = again }

pub longest_accepted : (s : List ℕ) → Bytes s → (meaning s).number ≡ 0 → length s ≤ 1830
longest_accepted s ok z =
    let r = (meaning s).run in
    let e = read.zero_given s z in
    let l = longest r (T-yes ((verdict_exactly r).0 (passed s r ok e)).0) in
    omega (arith, (again s r ok e).same_length)

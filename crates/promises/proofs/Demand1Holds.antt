-- Demand 1 holds.
use Rattle.std.specs.Prelude.{◌≡◌, refl, List, [], ◌∷◌, ◌++◌, ◌↔◌, ℕ, ◌<◌, ◌≤◌, length, drop}
use Rattle.std.proofs.Common.{sym, ap, ◌∙◌, subst, inl, inr, arith}
use Rattle.std.proofs.Math.Decide.{dec_lt}
use Rattle.plain.specs.Plain.{Printed}
use Rattle.run.specs.Checks as C
use Rattle.run.specs.Checks.{verdict}
use Rattle.run.specs.Checked.{verdict_ind, verdict_most}
use Rattle.run.specs.declared.Run.{Run}
use Rattle.table.specs.Table as table
use Rattle.table.specs.Table.{given_at}
use Rattle.table.specs.Laws.{exists, first_given, first_exactly}
use Rattle.records.specs.Meaning.{refusals}
use Rattle.records.specs.FirstFault.{in_words}
use Rattle.format.specs.Format as F
use Rattle.format.specs.UpTo as U
use Rattle.record.specs.Kinds.{run_file}
use Rattle.reader.specs.Meaning as M
use Rattle.reader.specs.Meaning.{meaning}
use Rattle.reader.specs.Once.{meaning_due, one_meaning, close_due, one_close}
use Rattle.averages.specs.Once.{one_averages}
use Rattle.due.specs.Due.{refused, only_width}
use Rattle.due.specs.Cases.{several, one_line, Case, no_run, below_zero, one_stroke, one_cycle, given, due_case}
use Rattle.due.specs.Once.{one_answer}
use Rattle.due.specs.declared.Answer.{Answer}
use Rattle.due.specs.declared.Index.{Index}
use Rattle.sheet_text.specs.Sheet.{SheetDue, PrintDue, fits, short}
use Rattle.sheet_text.specs.Once.{one_sheet, one_print}
use Rattle.promises.specs.Exists.{some_answer}
use Rattle.promises.specs.Sheets.{some_averages, some_sheet}
use Rattle.promises.specs.Numbers.{file_most, file_zeros, counted_ind, flat_index, write_ind, write_none}
use Rattle.promises.specs.Exactly.{index_exactly, write_exactly}
use Rattle.promises.specs.Demand1.{Among, Fixed, Print, Demand1}

-- the number of an index
abbrev IndexNumber : ℕ → Type 0
IndexNumber n = Among n (0 ∷ 3 ∷ 5 ∷ 9 ∷ 10 ∷ 11 ∷ 12 ∷ 13 ∷ 15 ∷ 16 ∷ [])

number_among : {which : Index} {r : Run} {a : Answer} → Case which r a → IndexNumber a.number
number_among {r = r} (no_run n e) =
    subst IndexNumber (sym (ap (λ (a : Answer). a.number) e)) (verdict_ind r IndexNumber (inl refl) (inr (inl refl)) (inr (inr (inl refl))) (inr (inr (inr (inl refl)))) (inr (inr (inr (inr (inl refl))))))
number_among (below_zero v b e) = inr (inr (inr (inr (inr (inr (inr (inr (inl (ap (λ (a : Answer). a.number) e)))))))))
number_among (one_stroke v n u e) = inr (inr (inr (inr (inr (inr (inr (inr (inr (inl (ap (λ (a : Answer). a.number) e))))))))))
number_among (one_cycle v n u o e) = inr (inr (inr (inr (inr (inr (inr (inl (ap (λ (a : Answer). a.number) e))))))))
number_among (given v n u o (several w z h m f e)) = inr (inr (inr (inr (inr (inr (inl (ap (λ (a : Answer). a.number) e)))))))
number_among (given v n u o (one_line L w z h f c s)) = counted_ind c IndexNumber (inl refl) (inr (inr (inr (inr (inr (inl refl))))))

-- the fields of an index: under 12 and more
more : {a : Answer} → 12 ≤ a.number → (a.number ≡ 12 → a ≡ only_width a.width) → (a.number ≡ 13 → a ≡ refused 13 0) → (a.number ≡ 15 → a ≡ refused 15 0) → (a.number ≡ 16 → a ≡ refused 16 0) → Fixed a
more h twelve thirteen fifteen sixteen = record { accepted = λ i. absurd (omega arith); flat = λ i. absurd (omega arith); several = twelve; one_cycle = thirteen; below_zero = fifteen; one_stroke = sixteen; no_run = λ l _. absurd (omega arith) }

fixed : {which : Index} {r : Run} {a : Answer} → Case which r a → Fixed a
fixed {r = r} {a} (no_run n e) =
    let k : a.number ≡ (verdict r).number = ap (λ (a : Answer). a.number) e in
    let most = verdict_most r in
    record {
      accepted = λ i. absurd (n (sym k ∙ i));
      flat = λ i. absurd (omega arith);
      several = λ i. absurd (omega arith);
      one_cycle = λ i. absurd (omega arith);
      below_zero = λ i. absurd (omega arith);
      one_stroke = λ i. absurd (omega arith);
      no_run = λ _ _. e ∙ sym (ap (λ (a : Answer). refused a.number a.place) e);
    }
fixed {a = a} (below_zero v b e) =
    let k : a.number ≡ 15 = ap (λ (a : Answer). a.number) e in
    more (omega arith) (λ i. absurd (omega arith)) (λ i. absurd (omega arith)) (λ _. e) (λ i. absurd (omega arith))
fixed {a = a} (one_stroke v n u e) =
    let k : a.number ≡ 16 = ap (λ (a : Answer). a.number) e in
    more (omega arith) (λ i. absurd (omega arith)) (λ i. absurd (omega arith)) (λ i. absurd (omega arith)) (λ _. e)
fixed {a = a} (one_cycle v n u o e) =
    let k : a.number ≡ 13 = ap (λ (a : Answer). a.number) e in
    more (omega arith) (λ i. absurd (omega arith)) (λ _. e) (λ i. absurd (omega arith)) (λ i. absurd (omega arith))
fixed {a = a} (given v n u o (several w z h m f e)) =
    let k : a.number ≡ 12 = ap (λ (a : Answer). a.number) e in
    more (omega arith) (λ _. e) (λ i. absurd (omega arith)) (λ i. absurd (omega arith)) (λ i. absurd (omega arith))
fixed (given v n u o (one_line L w z h f c s)) =
    record {
      accepted = λ _. c.place;
      flat = λ i. (c.place, (flat_index c s i).0, (flat_index c s i).1);
      several = λ i. absurd (counted_ind c (λ n. n ≡ 12 → ⊥) (λ e. omega arith) (λ e. omega arith) i);
      one_cycle = λ i. absurd (counted_ind c (λ n. n ≡ 13 → ⊥) (λ e. omega arith) (λ e. omega arith) i);
      below_zero = λ i. absurd (counted_ind c (λ n. n ≡ 15 → ⊥) (λ e. omega arith) (λ e. omega arith) i);
      one_stroke = λ i. absurd (counted_ind c (λ n. n ≡ 16 → ⊥) (λ e. omega arith) (λ e. omega arith) i);
      no_run = λ i n. absurd (counted_ind c (λ n. n ≤ 10 → (n ≡ 0 → ⊥) → ⊥) (λ _ n. n refl) (λ i _. omega arith) i n);
    }

-- a lent buffer
some_print : (s before : List ℕ) → (p : Print) × PrintDue s before p.buffer p.answer
some_print s before = go (dec_lt (length before) (length t))
  where
    t : List ℕ
    t = (some_sheet s).0

    go : Dec (length before < length t) → (p : Print) × PrintDue s before p.buffer p.answer
    go (yes h) = (record { answer = record { number = 14; len = 0 }; buffer = before }, short t (some_sheet s).1 h refl refl)
    go (no h) = (record { answer = record { number = 0; len = length t }; buffer = t ++ drop (length t) before }, fits t (some_sheet s).1 (omega arith) refl refl)

refused_print : {s before after : List ℕ} {q : Printed} → PrintDue s before after q → (q.number ≡ 0 → ⊥) → (q ≡ record { number = 14; len = 0 }) × (after ≡ before)
refused_print (fits t a l e f) n = absurd (n (ap (λ (q : Printed). q.number) e))
refused_print (short t a l e f) n = (e, f)

exactly_print : {s before after : List ℕ} {q : Printed} (t : List ℕ) → SheetDue s t → PrintDue s before after q → (q.number ≡ 14) ↔ (length before < length t)
exactly_print t a (fits u b l e f) =
    let same = ap length (one_sheet a b) in
    let k = ap (λ (q : Printed). q.number) e in
    (λ z. absurd (omega arith), λ h. absurd (omega arith))
exactly_print t a (short u b l e f) =
    let same = ap length (one_sheet a b) in
    (λ _. omega arith, λ _. ap (λ (q : Printed). q.number) e)

pub demand_1 : Demand1
demand_1 = record {
  file = λ s. record { one = meaning s; is = meaning_due s; only = λ a h. one_meaning s h (meaning_due s) };
  words = λ s. in_words (F.file run_file s);
  file_number = file_most;
  file_refused = file_zeros;
  to_close = λ s. record { one = M.to_close s; is = close_due s; only = λ a h. one_close s h (close_due s) };
  no_eight = λ s e. U.no_eight run_file s _ ((first_exactly (refusals (F.up_to_close run_file s)) _).1 (λ i. given_at (sym e i) (M.to_close s).place));
  checks = λ r. record { one = table.given (C.checks r); is = exists (C.checks r); only = λ a h. first_given (C.checks r) h };
  index = λ which r. let d = some_answer which r in record { one = d.0; is = d.1; only = λ a e. one_answer which r e d.1 };
  index_exactly = index_exactly;
  index_number = λ which r a d. number_among (due_case d);
  index_fixed = λ which r a d. fixed (due_case d);
  averages = λ r. let d = some_averages r in record { one = d.0; is = d.1; only = λ a e. one_averages e d.1 };
  write_exactly = write_exactly;
  write_number = λ r buffer.
      write_ind r buffer (λ n. Among n (0 ∷ 3 ∷ 5 ∷ 9 ∷ 10 ∷ 14 ∷ [])) (inl refl) (inr (inl refl)) (inr (inr (inl refl))) (inr (inr (inr (inl refl)))) (inr (inr (inr (inr (inl refl))))) (inr (inr (inr (inr (inr (inl refl))))));
  write_refused = write_none;
  sheet = λ s. let d = some_sheet s in record { one = d.0; is = d.1; only = λ t e. one_sheet e d.1 };
  print = λ s before. let d = some_print s before in record { one = d.0; is = d.1; only = λ p e. let same = one_print e d.1 in λ i. record { answer = same.answer i; buffer = same.buffer i } };
  print_exactly = λ s t before after q. exactly_print t;
  print_refused = λ s before after q. refused_print;
}

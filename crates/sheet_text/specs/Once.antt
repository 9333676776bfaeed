-- Only one answer fits the statement of `sheet`, and only the first 1,837 bytes of a file count.
use Rattle.std.specs.Prelude.{◌≡◌, List, ◌++◌, ℕ, ◌<◌, ◌≤◌, length, take, drop}
use Rattle.std.proofs.Common.{sym, ap, ◌∙◌, subst, arith}
use Rattle.plain.specs.Plain.{refused_line, Printed}
use Rattle.reader.specs.Meaning.{as_answer, meaning}
use Rattle.reader.specs.declared.Answer.{Answer}
use Rattle.runfile.specs.FirstPart.{first_part}
use Rattle.due.specs.Due.{Due}
use Rattle.due.specs.Once.{one_answer}
use Rattle.due.specs.declared.Index.{Index}
use Rattle.sheet_text.specs.Sheet.{lines, SheetDue, refused, accepted, PrintDue, fits, short}

pub one_sheet : {s t u : List ℕ} → SheetDue s t → SheetDue s u → t ≡ u
one_sheet (refused _ e) (refused _ f) = e ∙ sym f
one_sheet (refused n _) (accepted h _ _ _) = absurd (n h)
one_sheet (accepted h _ _ _) (refused n _) = absurd (n h)
one_sheet {s} (accepted _ A a e) (accepted _ B b f) = let r = (meaning s).run in e ∙ (λ j. lines r.m r.n (λ i. one_answer i r (a i) (b i) j)) ∙ sym f

-- two answers and two buffers are one
pub record OnePrint (q p : Printed) (after behind : List ℕ) : Type 0 where
  pub answer : q ≡ p
  pub buffer : after ≡ behind

-- a buffer that is long enough for the sheet is not too short for it
apart : {s : List ℕ} (before : List ℕ) {t u : List ℕ} → SheetDue s t → SheetDue s u → length t ≤ length before → length before < length u → ⊥
apart before {t} {u} a b l m = let same : length t ≡ length u = ap length (one_sheet a b) in omega arith

pub one_print : {s before after behind : List ℕ} {q p : Printed} → PrintDue s before after q → PrintDue s before behind p → OnePrint q p after behind
one_print {before = before} (fits t a _ e f) (fits u b _ g h) =
    let same = one_sheet a b in
    record { answer = e ∙ ap (λ (t : List ℕ). record { number = 0; len = length t }) same ∙ sym g; buffer = f ∙ ap (λ (t : List ℕ). t ++ drop (length t) before) same ∙ sym h }
one_print {before = before} (fits t a l _ _) (short u b m _ _) = absurd (apart before a b l m)
one_print {before = before} (short t a m _ _) (fits u b l _ _) = absurd (apart before b a l m)
one_print (short _ _ _ e f) (short _ _ _ g h) = record { answer = e ∙ sym g; buffer = f ∙ sym h }

-- a sheet rests on what the byte string means, and on nothing else
same_meaning : {s u t : List ℕ} → meaning s ≡ meaning u → SheetDue u t → SheetDue s t
same_meaning {s} {u} {t} e (refused n f) = refused (λ z. n (ap (λ (a : Answer). a.number) (sym e) ∙ z)) (f ∙ ap (λ (a : Answer). refused_line a.number a.place) (sym e))
same_meaning {s} {u} {t} e (accepted h A d f) =
    accepted (ap (λ (a : Answer). a.number) e ∙ h) A (subst (λ (a : Answer). (i : Index) → Due i a.run (A i)) (sym e) d)
    (f ∙ ap (λ (a : Answer). lines a.run.m a.run.n A) (sym e))

-- the sheet of a file is that of its first 1,837 bytes
pub sheet_first_part : (s : List ℕ) {t : List ℕ} → 1837 ≤ length s → SheetDue (take 1837 s) t → SheetDue s t
sheet_first_part s h = same_meaning (ap as_answer (first_part s h))

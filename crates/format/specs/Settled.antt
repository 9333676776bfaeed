-- When the answer of a file is settled by its records: it is a refusal, and it stays whatever follows. So it is where a record has a fault, and where a byte follows the close.
use Rattle.std.specs.Prelude.{◌≡◌, Bool, true, not, cond, ◌⊎◌, ℕ, suc, ◌+◌, ◌<◌, ◌≤◌, T, ltb}
use Rattle.std.proofs.Math.Path.{refl, ap, subst}
use Rattle.std.proofs.Common.{sym, ◌∙◌, arith, lt-ltb, ne_eqb, length-append, take-append-drop}
use Rattle.std.proofs.Math.Bool.{false}
use Rattle.std.proofs.Math.Logic.{inl, inr}
use mathlib.Core.List.{List, [], ◌∷◌, ◌++◌, append_assoc}
use Rattle.std.proofs.Math.Option.{Option, none, some}
use Rattle.std.proofs.Math.ListN.{length, take, drop}
use Rattle.std.proofs.Math.Seq.{length-take-le}
use Rattle.std.proofs.Math.Facts.{and_yes}
use Rattle.table.specs.Table.{Row, Given, given_at, given}
use Rattle.run.specs.Run.{zeros}
use Rattle.records.specs.Record.{Entry, Record, entry, close, unknown, surplus, Labelled, at_label, Recorded, its, sizes_of, entries_of, closes, closed, has}
use Rattle.records.specs.Meaning.{inside, own_faults, faults, rows_of, last_rows, refusals, read_as, meaning}
use Rattle.records.specs.Sound.{clear, clear_entry}
use Rattle.records.specs.FirstFault.{first_here, fault, fault_or, given_record, none_clear}
use Rattle.records.specs.ByNumber.{fault_number}
use Rattle.format.specs.Format.{Kind, Format, kind_of, alone, in_front, item, recorded_from, up_to_close, behind_close, file}
use Rattle.format.specs.Pieces.{one_record}
use Rattle.format.specs.Taken.{Taken}

-- ---- the faults of one record
-- a record without fault has none of its own
pub own_clear : (before : List Record) (r : Record) → fault before r ≡ none → T (clear (own_faults before r))
unfolding clear
own_clear before r e = (and_yes (not (closed before)) (clear (own_faults before r)) ((none_clear (faults before r)).0 e)).1

-- an entry without fault is inside the run and at a place of its own
pub entry_clear : (before : List Record) (e : Entry) → fault before (entry e) ≡ none → T (inside (sizes_of before) e) × T (not (has e.place (entries_of before)))
entry_clear before e q = let c = clear_entry before e ((none_clear (faults before (entry e))).0 q) in (c.0, c.2)

-- ---- records of which the answer is settled
-- the records of a whole file of n bytes
abbrev pub filed : Recorded → (n : ℕ) → List Labelled
filed u n = u.records ++ behind_close u n

-- xs are the records of a file of n bytes, K at least, that ends with the bytes `rest`: whatever these are, it is refused, and always for the same
pub record Settled (K : ℕ) (before : List Record) (xs : (rest : List ℕ) (n : ℕ) → List Labelled) : Type 1 where
  pub told : Given
  pub refused : ¬ (told.number ≡ 0)
  pub always : (rest : List ℕ) (n : ℕ) (more : List Row) → K ≤ n → given (rows_of before (xs rest n) ++ more) ≡ told

-- settled by the first record, if that has a fault; else by the others
in_order : (K : ℕ) (before : List Record) (at : ℕ) (r : Record) (xs ys : List ℕ → ℕ → List Labelled) → ((rest : List ℕ) (n : ℕ) → ys rest n ≡ at_label at r ∷ xs rest n)
    → (fault before r ≡ none → Settled K (r ∷ before) xs) → Settled K before ys
in_order K before at r xs ys same later = go (fault before r) refl
  where
    one : (o : Option ℕ) → fault before r ≡ o → (rest : List ℕ) (n : ℕ) (more : List Row)
        → given (rows_of before (ys rest n) ++ more) ≡ fault_or o at (given (rows_of (r ∷ before) (xs rest n) ++ more))
    one o e rest n more =
        ap (λ (l : List Labelled). given (rows_of before l ++ more)) (same rest n)
        ∙ given_record before (at_label at r) (xs rest n) more
        ∙ ap (λ (o : Option ℕ). fault_or o at (given (rows_of (r ∷ before) (xs rest n) ++ more))) e

    go : (o : Option ℕ) → fault before r ≡ o → Settled K before ys
    go (some k) e = record { told = given_at k at; refused = λ z. let h = fault_number before r k e in omega arith; always = λ rest n more l. one (some k) e rest n more }
    go none e = let s = later e in record { told = s.told; refused = s.refused; always = λ rest n more l. one none e rest n more ∙ s.always rest n more l }

-- what a whole file of n bytes tells behind a close
abbrev told_behind : (end n : ℕ) → List Labelled
told_behind end n = cond (ltb end n) (at_label end surplus ∷ []) []

-- settled by a close that ends before K bytes: something follows it
shut : (K : ℕ) (before : List Record) (end : ℕ) → end < K → Settled K (close ∷ before) (λ rest n. told_behind end n)
unfolding first_here closed
shut K before end h =
    record {
      told = given_at 8 end;
      refused = λ e. omega (arith, e);
      always = λ rest n more l.
          ap (λ (b : Bool). given (rows_of (close ∷ before) (cond b (at_label end surplus ∷ []) []) ++ more)) (lt-ltb end n (omega arith))
          ∙ given_record (close ∷ before) (at_label end surplus) [] more;
    }

-- a record that does not close stands in front of what is filed of the others
filed_open : (at n : ℕ) (r : Record) (u : Recorded) → closes r ≡ false → filed (in_front (at_label at r) u) n ≡ at_label at r ∷ filed u n
unfolding closed
filed_open at n r u e = rw e

-- ---- the record at the head of the bytes, whatever follows them
module _ (F : Format) where
  -- the records of a file from a place on, where the bytes q stand and any others behind them
  abbrev pub from_here : (b : Bool) (at : ℕ) (q rest : List ℕ) (n : ℕ) → List Labelled
  from_here b at q rest n = filed (recorded_from F b at 0 (q ++ rest)) n

  -- a kind that may not stand there
  abbrev pub Strange : Bool → List ℕ → Type 0
  Strange b q = (at : ℕ) (rest : List ℕ) → recorded_from F b at 0 (q ++ rest) ≡ alone (at_label at unknown) at

  -- that, or a whole record
  abbrev pub Head : Bool → List ℕ → Type 0
  Head b q = Strange b q ⊎ ((r : Record) × Taken F b q r)

  -- nothing is cut where the bytes are more than any body
  pub head : (b : Bool) (q : List ℕ) → 0 < length q → ((code : ℕ) (k : Kind) → kind_of b F code ≡ some k → k.body < length q) → Head b q
  unfolding recorded_from
  head b [] some_left enough = absurd (omega arith)
  head b (x ∷ bs) some_left enough = go (kind_of b F x) refl
    where
      go : (o : Option Kind) → kind_of b F x ≡ o → Head b (x ∷ bs)
      go none e = inl (λ at rest. ap (λ (o : Option Kind). item at o (bs ++ rest) (λ n. recorded_from F false (suc at) n (bs ++ rest))) e)
      go (some k) e =
          let filled : length (take k.body bs) ≡ k.body = length-take-le k.body bs (omega (arith, enough x k e)) in
          inr (
            k.decoded (take k.body bs),
            record {
              piece = x ∷ take k.body bs;
              rest = drop k.body bs;
              whole = record { kind = k; code = x; body = take k.body bs; bytes_are = refl; named = e; filled = filled; decodes = refl };
              bytes_are = ap (λ (l : List ℕ). x ∷ l) (sym (take-append-drop k.body bs));
            },
          )

module _ (F : Format) (K : ℕ) where
  -- settled by the unknown kind
  pub strange : (b : Bool) (at : ℕ) (before : List Record) (q : List ℕ) → Strange F b q → Settled K before (from_here F b at q)
  unfolding closed clear
  strange b at before q h = in_order K before at unknown (λ rest n. []) (from_here F b at q) (λ rest n. ap (λ (u : Recorded). filed u n) (h at rest)) (λ e. absurd (own_clear before unknown e))

  module _ (b : Bool) (at : ℕ) (before : List Record) (q : List ℕ) (r : Record) (t : Taken F b q r) where
    abbrev end : ℕ
    end = at + length t.piece

    one : (rest : List ℕ) → recorded_from F b at 0 (q ++ rest) ≡ cond (closes r) (alone (at_label at r) end) (in_front (at_label at r) (recorded_from F false end 0 (t.rest ++ rest)))
    one rest =
        ap (λ (l : List ℕ). recorded_from F b at 0 (l ++ rest)) t.bytes_are
        ∙ ap (recorded_from F b at 0) (append_assoc t.piece t.rest rest)
        ∙ one_record F b at (t.rest ++ rest) t.whole

    -- settled by what is behind a record without fault
    pub goes : closes r ≡ false → (fault before r ≡ none → Settled K (r ∷ before) (from_here F false end t.rest)) → Settled K before (from_here F b at q)
    goes c =
        in_order K before at r (from_here F false end t.rest) (from_here F b at q)
        (λ rest n.
        let u = recorded_from F false end 0 (t.rest ++ rest) in
        ap (λ (u : Recorded). filed u n) (one rest ∙ ap (λ (c : Bool). cond c (alone (at_label at r) end) (in_front (at_label at r) u)) c) ∙ filed_open at n r u c)

    -- settled by the byte behind the close
    pub shuts : r ≡ close → (fault before r ≡ none → end < K) → Settled K before (from_here F b at q)
    unfolding closed
    shuts c h =
        in_order K before at r (λ rest n. told_behind end n) (from_here F b at q)
        (λ rest n. ap (λ (u : Recorded). filed u n) (one rest) ∙ rw c)
        (λ e. subst (λ (r : Record). Settled K (r ∷ before) (λ rest n. told_behind end n)) (sym c) (shut K before end (h e)))

  -- a refused read returns a run of zeros, whatever was read
  pub answer : (q rest s : List ℕ) → q ++ rest ≡ s → K ≤ length s → (w : Settled K [] (from_here F true 0 q)) → meaning (file F s) ≡ record { told = w.told; run = zeros }
  answer q rest s e l w =
      let more = last_rows (file F s) in
      let told : given (refusals (file F s)) ≡ w.told
      = ap (λ (u : List ℕ). given (rows_of [] (filed (up_to_close F u) (length s)) ++ more)) (sym e) ∙ w.always rest (length s) more l in
      ap (λ (g : Given). read_as g (its (file F s))) told ∙ rw (ne_eqb w.told.number 0 w.refused)

-- the bytes of a record, at least one, and those behind it
pub split : {F : Format} {b : Bool} {q : List ℕ} {r : Record} (t : Taken F b q r) → (0 < length t.piece) × (length q ≡ length t.piece + length t.rest)
split t = (
  omega (arith, ap (λ (l : List ℕ). length l) t.whole.bytes_are),
  ap (λ (l : List ℕ). length l) t.bytes_are ∙ length-append t.piece t.rest,
)

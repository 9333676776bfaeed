-- An accepted byte string is the file of its run, with the records between opening and close in some order.
use Rattle.std.specs.Prelude.{◌≡◌, refl, true, false, ◌↔◌, ℕ, ◌+◌, ◌<◌, length}
use Rattle.std.proofs.Common.{sym, ap, ap₂, ◌∙◌, subst, arith, length-append, get_or-append-add}
use mathlib.Core.List.{List, [], ◌∷◌, ◌++◌, map, Permᴰ}
use Rattle.std.proofs.Math.ListN.{get_or-append}
use Rattle.run.specs.Run.{sizes}
use Rattle.run.specs.Places.{input_at, reading_at}
use Rattle.run.specs.Checks.{fine, verdict}
use Rattle.run.specs.declared.Run.{Run}
use Rattle.records.specs.Record as R
use Rattle.records.specs.Travel.{trimmed}
use Rattle.format.specs.Pieces.{joined, Pieces}
use Rattle.format.specs.Split.{Composed}
use Rattle.format.specs.Trip.{travelled}
use Rattle.record.specs.Kinds.{run_file, as_record, bytes, file_meaning}
use Rattle.record.specs.declared.Record.{Record}
use Rattle.record.specs.declared.Record.TheVariants.{Opening, Point, Value, Close}
use Rattle.writer.specs.File as W
use Rattle.runfile.specs.RecordLaws.{Bytes, bytes_back}
use Rattle.runfile.specs.Back.{given, written_as, travel_is, framed_is, back, trip}

-- ---- bytes of a part
bytes_front : (a b : List ℕ) → Bytes (a ++ b) → Bytes a
bytes_front a b ok i h = subst (λ (k : ℕ). k < 256) (get_or-append a b 0 i h) (ok i (omega (arith, length-append a b)))

bytes_behind : (a b : List ℕ) → Bytes (a ++ b) → Bytes b
bytes_behind a b ok i h = subst (λ (k : ℕ). k < 256) (get_or-append-add a b i 0) (ok (length a + i) (omega (arith, length-append a b)))

-- ---- whole records of bytes are the bytes of records
-- a record is told by what it means
means_entry : (q : Record) (e : R.Entry) → as_record q ≡ R.entry e → q ≡ written_as e
means_entry (Opening z) e h = let a : ◌≡◌ {A = ℕ} 0 1 = cc in absurd (omega arith)
means_entry (Point i x) e h = let d : record { place = input_at i; number = x.count } ≡ e = cc in ap written_as d
means_entry (Value s c i y) e h = let d : record { place = reading_at s c i; number = y.count } ≡ e = cc in ap written_as d
means_entry Close e h = let a : ◌≡◌ {A = ℕ} 0 1 = cc in absurd (omega arith)

means_opening : (q : Record) (z : R.Sizes) → as_record q ≡ R.opening z → q ≡ Opening z
means_opening (Opening y) z h = let d : y ≡ z = cc in ap Opening d
means_opening (Point i x) z h = let a : ◌≡◌ {A = ℕ} 0 1 = cc in absurd (omega arith)
means_opening (Value s c i y) z h = let a : ◌≡◌ {A = ℕ} 0 1 = cc in absurd (omega arith)
means_opening Close z h = let a : ◌≡◌ {A = ℕ} 0 1 = cc in absurd (omega arith)

means_close : (q : Record) → as_record q ≡ R.close → q ≡ Close
means_close (Opening z) h = let a : ◌≡◌ {A = ℕ} 0 1 = cc in absurd (omega arith)
means_close (Point i x) h = let a : ◌≡◌ {A = ℕ} 0 1 = cc in absurd (omega arith)
means_close (Value s c i y) h = let a : ◌≡◌ {A = ℕ} 0 1 = cc in absurd (omega arith)
means_close Close h = refl

pieces_back : (ps : List (List ℕ)) (es : List R.Entry) → Bytes (joined ps) → Pieces run_file ps es → ps ≡ map bytes (map written_as es)
unfolding joined
pieces_back [] [] ok h = refl
pieces_back [] (e ∷ es) ok h = absurd h
pieces_back (p ∷ ps) [] ok h = absurd h
pieces_back (p ∷ ps) (e ∷ es) ok h =
    let b = bytes_back false p (R.entry e) (bytes_front p (joined ps) ok) h.0 in
    let here : p ≡ bytes (written_as e) = b.2 ∙ ap bytes (means_entry b.0 e b.1) in
    ap₂ (λ (l : List ℕ) (ls : List (List ℕ)). l ∷ ls) here (pieces_back ps es (bytes_behind p (joined ps) ok) h.1)

-- opening, whole records and close, each element a byte: the bytes of an opening, of the records of what they hold, and of a close
pub composed_file : (s : List ℕ) → Bytes s → (c : Composed run_file s) → s ≡ W.framed c.sizes (map written_as c.entries)
composed_file s ok c =
    let rest = joined c.pieces ++ c.last in
    let all : Bytes (c.first ++ rest) = subst Bytes c.bytes_are ok in
    let later = bytes_behind c.first rest all in
    let o = bytes_back true c.first (R.opening c.sizes) (bytes_front c.first rest all) c.opens in
    let l = bytes_back false c.last R.close (bytes_behind (joined c.pieces) c.last later) c.shuts in
    let first = o.2 ∙ ap bytes (means_opening o.0 c.sizes o.1) in
    let last = l.2 ∙ ap bytes (means_close l.0 l.1) in
    let between = pieces_back c.pieces c.entries (bytes_front (joined c.pieces) c.last later) c.holds in
    c.bytes_are ∙ rw (first, between, last) (sym (framed_is c.sizes (map written_as c.entries)))

-- ---- exactly
-- s is the file of the run r, rearranged
abbrev pub FileOf : List ℕ → Run → Type 0
FileOf s r = (verdict r ≡ fine) × (trimmed r ≡ r) × ((rs : List Record) × Permᴰ rs (W.travel r) × (s ≡ W.framed (sizes r) rs))

-- the theory tells which entries there are, the format that their bytes are all that stands there
accepted_file : (s : List ℕ) (r : Run) → Bytes s → file_meaning s ≡ given r → FileOf s r
accepted_file s r ok e =
    let t = travelled run_file s r e in
    let c = t.whole in
    let rs = map written_as c.entries in
    let order : Permᴰ rs (W.travel r) = subst (Permᴰ rs) (sym (travel_is r)) (mathlib.Core.List.Permᴰ.map written_as t.order) in
    (t.checked, t.trim, (rs, order, composed_file s ok c ∙ ap (λ (z : R.Sizes). W.framed z rs) t.sizes_are))

-- accepted exactly when it is such a file, and the answer is that run
pub accepted_exactly : (s : List ℕ) (r : Run) → Bytes s → (file_meaning s ≡ given r) ↔ FileOf s r
accepted_exactly s r ok = (accepted_file s r ok, λ f. ap file_meaning f.2.2 ∙ back r f.0 f.2.0 f.2.1 ∙ ap given f.1)

-- reading a file and writing the run: the same records, in travel order, as many bytes, and the same answer
pub record Rewritten (s : List ℕ) (r : Run) : Type 0 where
  pub records : List Record
  pub read_from : s ≡ W.framed (sizes r) records
  pub written_to : W.file r ≡ W.framed (sizes r) (W.travel r)
  pub same_records : Permᴰ (W.travel r) records
  pub same_length : length (W.file r) ≡ length s
  pub same_answer : file_meaning (W.file r) ≡ file_meaning s

-- as many bytes in any order
size_perm : {xs ys : List Record} → Permᴰ xs ys → length (W.all_bytes xs) ≡ length (W.all_bytes ys)
unfolding W.all_bytes
size_perm mathlib.Core.List.Permᴰ.nil = refl
size_perm (mathlib.Core.List.Permᴰ.cons {a} {b} {l₁} {l₂} e d) = rw e (omega (arith, length-append (bytes b) (W.all_bytes l₁), length-append (bytes b) (W.all_bytes l₂), size_perm d))
size_perm (mathlib.Core.List.Permᴰ.swap {a} {b} {l = l} e1 e2) =
    rw (← e1, ← e2)
    (omega (arith, length-append (bytes a) (bytes b ++ W.all_bytes l), length-append (bytes b) (W.all_bytes l), length-append (bytes b) (bytes a ++ W.all_bytes l), length-append (bytes a) (W.all_bytes l)))
size_perm (mathlib.Core.List.Permᴰ.trans d1 d2) = size_perm d1 ∙ size_perm d2

length_framed : (z : R.Sizes) (rs : List Record) → length (W.framed z rs) ≡ 4 + length (W.all_bytes rs)
length_framed z rs = omega (arith, length-append (W.all_bytes rs) (bytes Close))

pub rewritten : (s : List ℕ) (r : Run) → Bytes s → file_meaning s ≡ given r → Rewritten s r
rewritten s r ok e =
    let f = accepted_file s r ok e in
    record {
      records = f.2.0;
      read_from = f.2.2;
      written_to = refl;
      same_records = mathlib.Core.List.Permᴰ.symm f.2.1;
      same_length = length_framed (sizes r) (W.travel r) ∙ ap (λ (k : ℕ). 4 + k) (sym (size_perm f.2.1)) ∙ sym (length_framed (sizes r) f.2.0) ∙ ap (λ (l : List ℕ). length l) (sym f.2.2);
      same_answer = trip r f.0 ∙ ap given f.1 ∙ sym e;
    }

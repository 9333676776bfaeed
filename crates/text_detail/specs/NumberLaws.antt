-- What the number of a refusal tells of a text: 47 that its sizes are fair, 50 that the line named gives the input of a point at which readings lie apart.
use Rattle.std.specs.Prelude.{◌≡◌, List, ℕ}
use Rattle.std.proofs.Common.{sym, ◌∙◌, subst, arith, lt→ltb}
use Rattle.table.specs.Table.{given_at, given}
use Rattle.run.specs.Places.{input_at}
use Rattle.records.specs.Record.{its, sizes_of}
use Rattle.record.specs.declared.Record.TheVariants.{Point}
use Rattle.spoken.specs.declared.Said.{Said}
use Rattle.spoken.specs.declared.Said.TheVariants.{Item}
use Rattle.records.specs.ByNumber.{ten_scattered}
use Rattle.records.specs.Closed.{closed_there}
use Rattle.detail.specs.Unfilled.{seven_lacks}
use Rattle.text.specs.Text.{heard, text, point_line, text_refusals}
use Rattle.text_detail.specs.TextDetail.{nth_said}
use Rattle.text_detail.specs.Lines.{FairlyOpened, Scattered, ScatteredBy}
use Rattle.text_detail.specs.PlaceLines.{point_said}
use Rattle.text_detail.specs.Told.{told_records_of}

-- ---- 47
pub seven_fair : (s : List ℕ) (line : ℕ) → given (text_refusals s) ≡ given_at 47 line → FairlyOpened (heard s)
seven_fair s line e =
    let t = told_records_of s 7 line (omega arith) (λ q. omega arith) e in
    record { sized = (seven_lacks (text (heard s)) t.0 t.1).fair_sizes }

-- ---- 50
scattered_by : (hs : List Said) (p : ℕ) → Scattered hs p → ScatteredBy hs (nth_said hs (point_line 1 hs p))
scattered_by hs p sc =
    let rs = its (text hs) in
    let there = (closed_there rs sc.no_fault sc.closes).1 (input_at p) (lt→ltb p (sizes_of rs).m sc.of_run) in
    let named = point_said hs p there in
    record {
      is = λ i x q. let both : Item (Point p named.0) ≡ Item (Point i x) = sym named.1 ∙ q in let same : p ≡ i = cc in subst (Scattered hs) same sc;
    }

pub ten_apart : (s : List ℕ) (line : ℕ) → given (text_refusals s) ≡ given_at 50 line → ScatteredBy (heard s) (nth_said (heard s) line)
ten_apart s line e =
    let hs = heard s in
    let t = told_records_of s 10 line (omega arith) (λ q. omega arith) e in
    let c = ten_scattered (text hs) t.0 t.1 in
    subst (λ (l : ℕ). ScatteredBy hs (nth_said hs l)) t.2 (scattered_by hs t.0 (record { no_fault = c.0; closes = c.1; of_run = c.2; lie_apart = c.3 }))

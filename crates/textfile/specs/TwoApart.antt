-- 50: the two lines told give readings of one stroke at the point of the line named, the first more than 10,000 above the second.
use Rattle.std.specs.Prelude.{◌≡◌, not, ◌&&◌, List, [], ℕ, ◌<◌, T, ltb, ℤ, pos, ◌-ℤ◌}
use Rattle.std.proofs.Common.{sym, ◌∙◌, ap, subst, arith, lt→ltb}
use Rattle.std.specs.Int.Signed.{le_z}
use Rattle.std.proofs.Math.Facts.{yes_and}
use Rattle.run.specs.Run.{reading, sizes}
use Rattle.run.specs.Places.{input_at, reading_at, within}
use Rattle.records.specs.Record.{its, sizes_of, entries_of, closed, number_at}
use Rattle.records.specs.Meaning.{run_of}
use Rattle.records.specs.Sound.{clean}
use Rattle.records.specs.Framed.{run_at}
use Rattle.spoken.specs.declared.Said.{Said}
use Rattle.detail.specs.Detail.{label_at, above, below, stroke_apart}
use Rattle.detail.specs.Apart.{LieApart, far_apart}
use Rattle.records.specs.ByNumber.{ten_scattered}
use Rattle.records.specs.Closed.{closed_there}
use Rattle.text.specs.Text.{heard, text, point_line}
use Rattle.text.specs.Numbered.{Line, line_counted, line_said}
use Rattle.text.specs.RecordLines.{Gives}
use Rattle.text_detail.specs.TextDetail.{nth_said, lies_apart, detail_at, body_detail}
use Rattle.text_detail.specs.PlaceLines.{place_line, point_said}
use Rattle.text_detail.specs.Told.{told_records_of}
use Rattle.textfile.specs.More.{Refused, TwoApart}

-- records without fault, of which one closes: at the place of a reading of the run a line gives the count that the run has there
reading_line : (hs : List Said) → T (clean [] (its (text hs))) → T (closed (its (text hs))) → let r = run_of (its (text hs)) in (t d i : ℕ) → t < r.strokes → d < r.n → i < r.m
    → Line 1 hs (label_at (reading_at t d i) (text hs).records) (λ h. Gives h (reading_at t d i) (reading r t d i))
reading_line hs c k t d i a b h =
    let rs = its (text hs) in
    let r = run_of rs in
    let p = reading_at t d i in
    let f = closed_there rs c k in
    let w : T (within (sizes r) p) = yes_and (ltb t r.strokes) (ltb d r.n && ltb i r.m) (lt→ltb t r.strokes a) (yes_and (ltb d r.n) (ltb i r.m) (lt→ltb d r.n b) (lt→ltb i r.m h)) in
    subst (λ (v : ℤ). Line 1 hs (label_at p (text hs).records) (λ g. Gives g p v)) (sym (run_at (sizes_of rs) (λ q. number_at q (entries_of rs)) f.0 p w)) (place_line hs p (f.1 p w))

two_apart : (s : List ℕ) (i : ℕ) → let hs = heard s in let r = run_of (its (text hs)) in T (clean [] (its (text hs))) → T (closed (its (text hs)))
    → body_detail s ≡ lies_apart (text hs) (nth_said hs (point_line 1 hs i)) → i < r.m → LieApart r (stroke_apart r i) i → TwoApart s (point_line 1 hs i)
two_apart s i c k e h a =
    let hs = heard s in
    let xs = (text hs).records in
    let r = run_of (its (text hs)) in
    let t = stroke_apart r i in
    let hi = above r t i in
    let lo = below r t i in
    let named = point_said hs i ((closed_there (its (text hs)) c k).1 (input_at i) (lt→ltb i r.m h)) in
    let f = reading_line hs c k t hi i a.0 a.1 h in
    let g = reading_line hs c k t lo i a.0 a.2 h in
    let u = line_said f in
    let v = line_said g in
    record {
      high = label_at (reading_at t hi i) xs;
      low = label_at (reading_at t lo i) xs;
      stroke = t;
      higher = hi;
      lower = lo;
      point = i;
      x = named.0;
      u = u.0;
      v = v.0;
      told = e ∙ ap (lies_apart (text hs)) named.1;
      counted = (line_counted f, line_counted g);
      named = named.1;
      high_is = u.1;
      low_is = v.1;
      apart = subst (λ (z : ℤ). T (not (le_z (z -ℤ v.0.count) (pos 10000)))) (sym u.2)
          (subst (λ (z : ℤ). T (not (le_z (reading r t hi i -ℤ z) (pos 10000)))) (sym v.2) a.3);
    }

pub of_50_holds : (s : List ℕ) (l : ℕ) → Refused s 50 l → TwoApart s l
of_50_holds s l e =
    let hs = heard s in
    let t = told_records_of s 10 l (omega arith) (λ q. omega arith) e in
    let i = t.0 in
    let c = ten_scattered (text hs) i t.1 in
    let line : nth_said hs l ≡ nth_said hs (point_line 1 hs i) = ap (nth_said hs) (sym t.2) in
    subst (TwoApart s) t.2 (two_apart s i c.0 c.1 (ap (detail_at s) e ∙ ap (lies_apart (text hs)) line) c.2 (far_apart (run_of (its (text hs))) i c.3))

-- `pin::line_of` meets its contract: the pair's numbers are of bounded size and its width is not negative, so that they may be told.
use mathlib.Core.Path.{◌≡◌, refl, sym, ap, ap₂, ◌∙◌, subst}
use mathlib.Core.List.{List, ◌∷◌, []}
use Prim.Native.Nat.{ℕ}
use lib.IntN.{ℤ, pos, ◌+ℤ◌, ◌-ℤ◌, ◌*ℤ◌}
use lib.Signed.{◌<ℤ◌}
use Rattle.whole.specs.Poly.{var, ◌⊕◌, ◌⊖◌, ◌⊗◌}
use Rattle.whole.specs.Ring.{ring}
use Rattle.whole.specs.Sign.{positive_mul, positive_nat}
use Rattle.whole.specs.Machine.{Bounds, safe}
use Rattle.band.specs.Line.{Points}
use Rattle.band.specs.Band.{lent, most_d}
use Rattle.fit.specs.PartsLaws.{Written, whole_by, parts_by, parts_is}
use Rattle.pin.specs.Pair.{rise, den}
use Rattle.pin.specs.PairLaws.{den_positive}
use Rattle.pin.specs.Search.{most_num, most_den}
use Rattle.pin.proofs.line_of.Goals.{After-offset_of-v, Start}
use Rattle.pin.proofs.line_of.Goals as goal

abbrev start : After-offset_of-v → Start
start c = c.before.before.before.before

-- what the two points add to the slope and to the offset, the pair's fraction, and the unit
abbrev ρ : After-offset_of-v → List ℤ
ρ c = c.rise_of-a.result ∷ c.rise_of-b.result ∷ c.offset_of-u.result ∷ c.offset_of-v.result ∷ (start c).args.t.den ∷ (start c).args.t.num ∷ pos (start c).args.d ∷ []

abbrev β : List ℕ
β = 206000000 ∷ 206000000 ∷ 6180000000000 ∷ 6180000000000 ∷ most_den ∷ most_num ∷ most_d ∷ []

bounds : (c : After-offset_of-v) → Bounds (ρ c) β
bounds c =
    let t = (start c).requires.1 in
    (c.rise_of-a.ensures.small, (c.rise_of-b.ensures.small, (c.offset_of-u.ensures.small, (c.offset_of-v.ensures.small, (t.den_most, (t.num_most, ((start c).requires.0.admitted.unit, tt)))))))

abbrev four : Written
four = record { a = var 0 ⊕ var 1; b = var 2 ⊕ var 3; q = var 4 ⊗ var 6; w = var 5 }

abbrev P : Start → Points
P s = let a = s.args in lent a.m a.d a.x.now a.low.now a.high.now

-- the offset, as the pair's line writes it
offset : (P : Points) (x v : ℤ) (i j : ℕ) → (P.x i *ℤ v -ℤ x *ℤ P.low i) +ℤ (P.x j *ℤ v -ℤ x *ℤ P.low j) ≡ v *ℤ den P x i j -ℤ (rise P v i +ℤ rise P v j) *ℤ x
offset P x v i j =
    let y = var 0 in let z = var 1 in let k = var 2 in let l = var 3 in let u = var 4 in let w = var 5 in
    ring (P.x i ∷ P.x j ∷ P.low i ∷ P.low j ∷ x ∷ v ∷ []) ((y ⊗ w ⊖ u ⊗ k) ⊕ (z ⊗ w ⊖ u ⊗ l)) (w ⊗ ((y ⊖ u) ⊕ (z ⊖ u)) ⊖ ((k ⊖ w) ⊕ (l ⊖ w)) ⊗ u) tt

pub overflow_mul-t : goal.overflow_mul-t
overflow_mul-t c = safe (ρ (goal.at.overflow_mul-t c).After-offset_of-v) β (bounds (goal.at.overflow_mul-t c).After-offset_of-v) four.q tt

pub lay-requires : goal.lay-requires
lay-requires c =
    let t = (start (goal.at.lay-requires c).After-offset_of-v).requires.1 in
    let e = t.den_is in
    whole_by (ρ (goal.at.lay-requires c).After-offset_of-v) β (bounds (goal.at.lay-requires c).After-offset_of-v) four tt (positive_mul (subst (λ (z : ℤ). pos 0 <ℤ z) (sym e) (den_positive t.fits)) (positive_nat (start (goal.at.lay-requires c).After-offset_of-v).requires.0.admitted.proper.unit)) t.sign

pub returns : goal.returns
returns c =
    let a = (start (goal.at.returns c).After-offset_of-v).args in
    let p = a.p in
    let t = (start (goal.at.returns c).After-offset_of-v).requires.1 in
    parts_is
    (ap₂ ◌+ℤ◌ c.rise_of-a.ensures.value c.rise_of-b.ensures.value)
    (ap₂ ◌+ℤ◌ c.offset_of-u.ensures.value c.offset_of-v.ensures.value ∙ offset (P (start (goal.at.returns c).After-offset_of-v)) p.x.count p.v.count a.t.i a.t.j ∙ ap (λ (z : ℤ). p.v.count *ℤ z -ℤ (rise (P (start (goal.at.returns c).After-offset_of-v)) p.v.count a.t.i +ℤ rise (P (start (goal.at.returns c).After-offset_of-v)) p.v.count a.t.j) *ℤ p.x.count) (sym t.den_is))
    refl refl
    (parts_by (ρ (goal.at.returns c).After-offset_of-v) β (bounds (goal.at.returns c).After-offset_of-v) four tt c.lay.ensures)

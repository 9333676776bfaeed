-- The limits of the definitions, computed: the last number within each passes, and the next one does not.
use Rattle.std.specs.Prelude.{◌≡◌, refl, true, false, List, [], ◌∷◌, map, ℕ, suc, ◌*◌, ◌<◌, ◌≤◌, ℤ, pos, negsuc, neg_ℤ}
use Rattle.std.proofs.Common.{arith}
use Rattle.whole.specs.Every.{every, first_not}
use Rattle.exact.specs.Rounding as rounding
use Rattle.table.specs.Table.{given}
use Rattle.run.specs.Places.{rising}
use Rattle.run.specs.Sample.{filled, cycles, written_out}
use Rattle.run.specs.Checks.{Verdict, fine, verdict}
use Rattle.run.specs.declared.Run.{Run}
use Rattle.runfile.specs.Witness.{made, small, of_strokes}
use Rattle.band.specs.Band.{lent}
use Rattle.band.specs.Admit.{admits}

-- ---- runs
abbrev refused : (number place : ℕ) → Verdict
refused k p = record { number = k; place = p }

-- inputs 0, 1, .. m - 1, and every reading 0
abbrev level : (m n : ℕ) → Run
level m n = written_out n (rising m) [] []

-- 3 to 11 points
pub points_edges : map (λ (m : ℕ). verdict (level m 1)) (2 ∷ 3 ∷ 11 ∷ 12 ∷ []) ≡ refused 3 0 ∷ fine ∷ fine ∷ refused 3 0 ∷ []
unfolding filled cycles written_out rising every first_not given
points_edges = refl

-- 1 to 10 cycles
pub cycles_edges : map (λ (n : ℕ). verdict (level 11 n)) (0 ∷ 1 ∷ 10 ∷ 11 ∷ []) ≡ refused 3 0 ∷ fine ∷ fine ∷ refused 3 0 ∷ []
unfolding filled cycles written_out rising every first_not given
cycles_edges = refl

-- one stroke or two
pub strokes_edges : map (λ (k : ℕ). verdict (of_strokes k (level 3 1))) (0 ∷ 1 ∷ 2 ∷ 3 ∷ []) ≡ refused 3 0 ∷ fine ∷ fine ∷ refused 3 0 ∷ []
unfolding filled cycles written_out rising every first_not given
strokes_edges = refl

-- inputs from -30,000 to 30,000
pub lowest_input : map (λ (x : ℤ). verdict (small x (pos 0) (pos 1) (pos 0) (pos 0))) (negsuc 30000 ∷ negsuc 29999 ∷ []) ≡ refused 5 0 ∷ fine ∷ []
unfolding every first_not given
lowest_input = refl

pub highest_input : map (λ (x : ℤ). verdict (small (pos 0) (pos 1) x (pos 0) (pos 0))) (pos 30000 ∷ pos 30001 ∷ []) ≡ fine ∷ refused 5 2 ∷ []
unfolding every first_not given
highest_input = refl

-- readings from -1,000,000 to 1,000,000, of the up and of the down stroke
abbrev reading_ends : List ℤ
reading_ends = negsuc 1000000 ∷ negsuc 999999 ∷ pos 1000000 ∷ pos 1000001 ∷ []

abbrev outer_refused : (number : ℕ) → List Verdict
outer_refused k = refused k 0 ∷ fine ∷ fine ∷ refused k 0 ∷ []

pub up_readings : map (λ (y : ℤ). verdict (small (pos 0) (pos 1) (pos 2) y (pos 0))) reading_ends ≡ outer_refused 5
unfolding every first_not given
up_readings = refl

pub down_readings : map (λ (y : ℤ). verdict (small (pos 0) (pos 1) (pos 2) (pos 0) y)) reading_ends ≡ outer_refused 5
unfolding every first_not given
down_readings = refl

-- a reading of the second cycle that lies 10,000 from that of the first, above or below it, in the up stroke (slot 11) and in the down stroke (slot 121)
abbrev scatter_ends : List ℤ
scatter_ends = negsuc 10000 ∷ negsuc 9999 ∷ pos 10000 ∷ pos 10001 ∷ []

pub up_scatter : map (λ (y : ℤ). verdict (made 2 11 (pos 0) (pos 1) (pos 2) (pos 0) y)) scatter_ends ≡ outer_refused 10
unfolding every first_not given
up_scatter = refl

pub down_scatter : map (λ (y : ℤ). verdict (made 2 121 (pos 0) (pos 1) (pos 2) (pos 0) y)) scatter_ends ≡ outer_refused 10
unfolding every first_not given
down_scatter = refl

-- of a run with an up stroke only no reading of the down stroke is looked at
pub unused_readings : map (λ (y : ℤ). verdict (of_strokes 1 (small (pos 0) (pos 1) (pos 2) (pos 0) y))) reading_ends ≡ fine ∷ fine ∷ fine ∷ fine ∷ []
unfolding every first_not given
unused_readings = refl

pub unused_scatter : map (λ (y : ℤ). verdict (of_strokes 1 (made 2 121 (pos 0) (pos 1) (pos 2) (pos 0) y))) scatter_ends ≡ fine ∷ fine ∷ fine ∷ fine ∷ []
unfolding every first_not given
unused_scatter = refl

-- ---- bands, which lines are drawn past
-- 3 to 11 inputs
pub band_inputs : map (λ (m : ℕ). admits (lent m 1 (map pos (rising m)) [] [])) (2 ∷ 3 ∷ 11 ∷ 12 ∷ []) ≡ false ∷ true ∷ true ∷ false ∷ []
unfolding rising every
band_inputs = refl

-- in units of 1 to 1/200
pub band_unit : map (λ (d : ℕ). admits (lent 3 d (map pos (rising 3)) [] [])) (0 ∷ 1 ∷ 200 ∷ 201 ∷ []) ≡ false ∷ true ∷ true ∷ false ∷ []
unfolding rising every
band_unit = refl

-- inputs from -30,000 to 30,000, and values from -103,000,000 to 103,000,000
pub band_input : map (λ (x : ℕ). admits (lent 3 1 (neg_ℤ (pos x) ∷ pos 0 ∷ pos x ∷ []) [] [])) (30000 ∷ 30001 ∷ []) ≡ true ∷ false ∷ []
unfolding every
band_input = refl

pub band_value : map (λ (v : ℕ). admits (lent 3 1 (map pos (rising 3)) (neg_ℤ (pos v) ∷ []) (pos v ∷ []))) (103000000 ∷ 103000001 ∷ []) ≡ true ∷ false ∷ []
unfolding rising every
band_value = refl

-- ---- the largest numerator n for which 100,000·n fits a u64
pub largest_told : (100000 * rounding.largest ≤ 18446744073709551615) × (18446744073709551615 < 100000 * suc rounding.largest)
largest_told = (omega arith, omega arith)

-- What the kinds of lines and of widths stand for. Method.
use Rattle.std.specs.Prelude.{◌≡◌, ℕ, ◌<◌}
use Rattle.run.specs.declared.Run.{Run}
use Rattle.groups.specs.Search.{limit}
use Rattle.band.specs.Line.{Points}
use Rattle.bands.specs.Through.{means, stroke_points, limit_points, swing, scatter}
use Rattle.bands.specs.declared.Width.{Width}
use Rattle.bands.specs.declared.Width.TheVariants as widths

-- T; U and D; U less its limit and D more its limit
pub data Through : Type 0 where
  Means : Through
  Strokes : Through
  Limits : Through

-- the points of a run that lines go through
abbrev pub through : Through → Run → Points
through Means r = means r
through Strokes r = stroke_points r
through Limits r = limit_points r (limit r)

-- two sets of points have the same inputs and values
pub record SamePoints (P R : Points) : Type 0 where
  pub m : P.m ≡ R.m
  pub d : P.d ≡ R.d
  pub x : (i : ℕ) → i < R.m → P.x i ≡ R.x i
  pub low : (i : ℕ) → i < R.m → P.low i ≡ R.low i
  pub high : (i : ℕ) → i < R.m → P.high i ≡ R.high i

-- a width at a point that is no line's
abbrev pub width_at : Width → Run → ℕ → ℕ
width_at widths.Swing r = swing r
width_at widths.Scatter r = scatter r (limit r)

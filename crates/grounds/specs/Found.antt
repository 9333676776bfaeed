-- What is made of a line that was found. Method.
use Rattle.std.specs.Prelude.{◌≡◌, ℕ, ◌≤◌, ℤ, pos, ◌*ℤ◌}
use Rattle.fit.specs.declared.Course.{Course}
use Rattle.fit.specs.declared.Plotted.{Plotted}
use Rattle.fit.specs.declared.Plotted.TheVariants as plotted
use Rattle.bands.specs.declared.Width.{Width}
use Rattle.bands.specs.declared.Width.TheVariants as widths
use Rattle.due.specs.declared.Based.{Based}
use Rattle.due.specs.declared.Ground.{Ground}
use Rattle.due.specs.declared.Ground.TheVariants as ground
use Rattle.due.specs.declared.Index.{Index}
use Rattle.due.specs.declared.Index.TheVariants as index

-- the line with its own width w/q
abbrev pub owned : Course → Based
owned c = record { a = c.a; b = c.b; q = c.q; num = c.w; unit = 1 }

abbrev pub stood : Plotted → Ground
stood (plotted.Line c) = ground.Line (owned c)
stood (plotted.Several h) = ground.Several h

-- the index that has this width
abbrev pub wide_index : Width → Index
wide_index widths.Swing = index.Hysteresis
wide_index widths.Scatter = index.Repeatability

-- the line's denominator is so small that a width's count times it fits
abbrev pub Narrow : Plotted → Type 0
Narrow (plotted.Line c) = c.q ≤ 2400000
Narrow (plotted.Several h) = Unit {0}

-- the line with the width w/n, over its denominator
abbrev pub widened : Course → (w : ℤ) (n : ℕ) → Based
widened c w n = record { a = c.a; b = c.b; q = c.q; num = w *ℤ pos c.q; unit = n }

abbrev pub Widened : Plotted → (w : ℤ) (n : ℕ) → Ground → Type 0
Widened (plotted.Line c) w n g = g ≡ ground.Line (widened c w n)
Widened (plotted.Several h) w n g = g ≡ ground.Several h

-- `words::count_lines` meets its contract: the lines counted and those from the place reached on are all of them.
use mathlib.Core.Path.{ap}
use native.Mathlib.Omega.{arith}
use lib.ListN.{length}
use Rattle.words.specs.LineLaws.{lines_end}
use Rattle.words.proofs.count_lines.Goals as goal

pub returns : goal.returns
returns c = omega (arith, ap length (lines_end c.args.s.now c.loop-at.at (omega arith)))

-- `words::count` meets its contract: the words counted and those from the place reached on are all of them.
use mathlib.Core.Path.{ap}
use native.Mathlib.Omega.{arith}
use lib.ListN.{length}
use Rattle.words.specs.WordLaws.{words_end}
use Rattle.words.proofs.count.Goals as goal

pub returns : goal.returns
returns c = omega (arith, ap length (words_end c.args.line.now c.loop-from.from (omega arith)))

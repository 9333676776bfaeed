-- The line that an answer reports. Definitions only.
use Rattle.exact.specs.Value.{Worth}
use Rattle.band.specs.Line.{Line}
use Rattle.due.specs.declared.Answer.{Answer}

-- L is the line of the answer's slope and offset, written in whole numbers over any denominator
pub record Reports (a : Answer) (L : Line) : Type 0 where
  pub slope : Worth a.slope L.a L.q
  pub offset : Worth a.offset L.b L.q

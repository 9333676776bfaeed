-- `place_text::more_of_point` meets its contract: 10 is told of a run without fault, so its readings may be subtracted, and two at the point lie apart.
use Rattle.place_text.specs.Told.{ten_strokes, point_ten}
use Rattle.place_text.proofs.more_of_point.Goals as goal

pub apart-requires : goal.apart-requires
apart-requires c =
    ten_strokes c.requires c.if-number-ne10.false c.opening.ensures.is

pub returns : goal.returns
returns c =
    point_ten c.requires c.if-number-ne10.false c.opening.ensures.is c.apart.ensures

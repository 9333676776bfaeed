-- `place_text::put_of_point` meets its contract: the head with the number of the record that gives the point's input, the point, and what more is told, one behind the other. The point is one of the run, so the array has its label.
use Rattle.std.proofs.Common.{append_assoc}
use native.Mathlib.Omega.{arith}
use Rattle.plain.specs.KeptLaws.{kept_twice, kept_is}
use Rattle.detail.specs.Arrays.{blank_marked}
use Rattle.place_text.specs.Told.{point_within}
use Rattle.place_text.specs.Lines.{of_point, point_parts}
use Rattle.place_text.proofs.put_of_point.Goals as goal

pub number_records-requires : goal.number_records-requires
number_records-requires c = blank_marked

pub offset_bounds-labels-place : goal.offset_bounds-labels-place
offset_bounds-labels-place c = omega (arith, point_within c.requires.0 c.requires.1)

pub bounds-labels-place : goal.bounds-labels-place
bounds-labels-place c = omega (arith, point_within c.requires.0 c.requires.1)

pub more_of_point-requires : goal.more_of_point-requires
more_of_point-requires c = of_point c.requires.0 c.requires.1 c.number_records.ensures

pub returns : goal.returns
returns c =
    kept_is _ (point_parts c.requires.0 c.requires.1 c.number_records.ensures c.more_of_point.ensures)
    (simp (c.put_detail.ensures, c.put_byte.ensures, c.put_point.ensures, c.put_head.ensures, kept_twice, append_assoc))

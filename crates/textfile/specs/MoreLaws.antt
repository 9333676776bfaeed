-- What more is told of a refused text is so: the statements of `More` hold.
use Rattle.textfile.specs.More.{MoreTold}
use Rattle.textfile.specs.OddLine.{of_42_holds}
use Rattle.textfile.specs.Again.{of_46_holds}
use Rattle.textfile.specs.Missing.{of_47_holds}
use Rattle.textfile.specs.TwoApart.{of_50_holds}

pub more_told : MoreTold
more_told = record { of_42 = of_42_holds; of_46 = of_46_holds; of_47 = of_47_holds; of_50 = of_50_holds }

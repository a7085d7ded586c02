-- Runs come to rest.
use Rattle.std.specs.Prelude.{◌≡◌, true, List}
use Rattle.model.specs.declared.answer.Passed.{Passed}
use Rattle.model.specs.Sums.{largest}
use Rattle.simulation.specs.Net.{Program, Net}
use Rattle.simulation.specs.View.{View}
use Rattle.simulation.specs.Calls.{Call, Runs}
use Rattle.simulation.specs.Prepare.{After}

module _ {C P : Type 0} (g : Program C P) where
  -- Whatever was called before: passes until one is quiet, or until the largest number of them is made, end quiet.
  abbrev pub Rests : Type 0
  Rests = (net : Net C P) (cs : List Call) (v w : View C P) (a : Passed) → After g net cs v → Runs g v largest a w → a.quiet ≡ true

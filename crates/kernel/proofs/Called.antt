-- A call whose outcome is right also stands.
use Rattle.std.proofs.Common.{◌≡◌, ℕ, min, [], Ok}
use Rattle.model.specs.Pile.{Pile}
use Rattle.simulation.specs.Net.{Program, Net}
use Rattle.simulation.specs.View.{View}
use Rattle.simulation.specs.Calls.{Call, Answer, Does}
use Rattle.simulation.specs.Prepare.{Prepared, Prepares, After}
use Rattle.kernel.specs.OfRun.{Called}

pub called : {C P : Type 0} (g : Program C P) (c : Call) (v : View C P) (a : Answer C c) (w : View C P) → Does g c v a w → Called g c v a w
called g c v a w does = record { outcome = does; stands = λ net cs after. After.called c a after does }

-- A run that was just prepared stands after no call.
pub just_prepared : {C P : Type 0} (g : Program C P) (net : Net C P) (v : View C P) (m : Pile C) (size : ℕ) (p : Prepared net v) → p.fresh ≡ m
    → v.room ≡ min size 65536 → Prepares net m size (Ok v) v.links × After g net [] v
just_prepared g net v m size p fresh room = (Prepares.ready p fresh room, After.prepared p)

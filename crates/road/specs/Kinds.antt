-- The kinds of process on a road plan.
use Rattle.exit.specs.declared.kind.Kind.{Kind}
use Rattle.road.specs.declared.signal.Signal.{Signal}

-- A process of a road plan: a signal, or an exit.
abbrev pub RoadProcess : Type 0
RoadProcess = Kind Signal

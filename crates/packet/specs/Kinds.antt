-- The kinds of process on a switch plan.
use Rattle.exit.specs.declared.kind.Kind.{Kind}
use Rattle.packet.specs.declared.switch.Switch.{Switch}

-- A process of a switch plan: a switch, or an exit.
abbrev pub PacketProcess : Type 0
PacketProcess = Kind Switch

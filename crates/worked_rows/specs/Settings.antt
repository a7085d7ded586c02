-- When signals and switches let go, and what a route becomes.
use Rattle.std.specs.Prelude.{◌≡◌}
use Rattle.road.specs.declared.signal.settings.Settings.{Settings}
use Rattle.road.specs.Routes.{onward_route}
use Rattle.road.specs.Starting.{start_of}
use Rattle.packet.specs.Serving.{end_of}
use Rattle.worked_rows.specs.Plan.{lights}

-- The same lights, ten seconds ahead.
abbrev pub ahead : Settings
ahead = record { lookahead = 5; cycle = 60; green = 30; offset = 10; headway = 2; crossing = 5 }

-- A signal that is free from time 0, with a cycle of 60 and a green of 30.
pub record Starts : Type 0 where
  pub last_of_green : start_of lights 0 29 ≡ 29
  pub first_of_red : start_of lights 0 30 ≡ 60
  pub ten_ahead : start_of ahead 0 20 ≡ 50

-- The turn goes, and a turn of 3 comes in.
pub record Routes : Type 0 where
  pub last_turn_goes : onward_route 65532 ≡ 65535
  pub zero_route : onward_route 0 ≡ 49152

-- A switch with a service of 10, free from time 0, and a frame that comes at time 0.
pub record Served : Type 0 where
  pub below_a_cell : end_of 10 0 0 63 ≡ 10
  pub one_cell : end_of 10 0 0 64 ≡ 11

-- What the limits of a plan say, one by one.
use Rattle.std.proofs.Common.{arith, ◌≡◌, ◌≤◌, true, length}
use Rattle.model.specs.Shape.{Shape, joined, few_ports, within}

pub record Limits (plan : Shape) : Type 0 where
  pub some_time : 1 ≤ plan.horizon
  pub near : plan.horizon ≤ 1000000
  pub some_process : 1 ≤ plan.processes
  pub few_processes : plan.processes ≤ 64
  pub few_links : length plan.links ≤ 128
  pub joined : joined plan ≡ true
  pub few_ports : few_ports plan ≡ true

pub limits : (plan : Shape) → within plan ≡ true → Limits plan
limits plan all = grind arith

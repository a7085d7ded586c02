-- What a plan says of its horizon, processes and links.
use Rattle.std.specs.Prelude.{ℕ, Bool, true, ◌&&◌, leb, List, length, Some, None, Option, nat_le, nat_lt}
use Rattle.model.specs.declared.link.Link.{Link}
use Rattle.model.specs.Lists.{at, then, is, is_none, numbers_below, each}

pub record Shape : Type 0 where
  pub horizon : ℕ
  pub processes : ℕ  -- they are the numbers below it
  pub links : List Link

-- The delay of a link that is there.
abbrev pub delay_of : Option Link → ℕ
delay_of None = 0
delay_of (Some l) = l.delay

-- The links that lead from a process, rising.
abbrev pub leaving : List Link → ℕ → List ℕ
leaving links p = numbers_below (length links) (λ k. is p (then (at links k) (λ l. l.from)))

-- The links that lead to a process, rising.
abbrev pub reaching : List Link → ℕ → List ℕ
reaching links p = numbers_below (length links) (λ k. is p (then (at links k) (λ l. Some l.to)))

module _ (plan : Shape) where
  -- The process from which a link leads; none if it comes from outside.
  abbrev pub source : ℕ → Option ℕ
  source k = then (at plan.links k) (λ l. l.from)

  -- The process to which a link leads.
  abbrev pub target : ℕ → Option ℕ
  target k = then (at plan.links k) (λ l. Some l.to)

  -- The delay of a link.
  abbrev pub delay : ℕ → ℕ
  delay k = delay_of (at plan.links k)

  -- The links from a process, rising: an out-port is a place in this list.
  abbrev pub out_links : ℕ → List ℕ
  out_links p = leaving plan.links p

  -- The links to a process, rising: an in-port is a place in this list.
  abbrev pub in_links : ℕ → List ℕ
  in_links p = reaching plan.links p

  -- The links from outside, rising.
  abbrev pub outside_links : List ℕ
  outside_links = numbers_below (length plan.links) (λ k. is_none (source k))

-- From outside, or from one of n processes.
abbrev pub from_below : ℕ → Option ℕ → Bool
from_below n None = true
from_below n (Some p) = nat_lt p n

-- A link, if there is one, leads between n processes with a delay of 10,000 at most.
abbrev pub joins : ℕ → Option Link → Bool
joins n None = true
joins n (Some l) = from_below n l.from && nat_lt l.to n && nat_le l.delay 10000

module _ (plan : Shape) where
  -- The horizon is from 1 to 1,000,000.
  abbrev pub near : Bool
  near = nat_le 1 plan.horizon && nat_le plan.horizon 1000000

  -- There are 1 to 64 processes.
  abbrev pub peopled : Bool
  peopled = nat_le 1 plan.processes && nat_le plan.processes 64

  -- There are at most 128 links.
  abbrev pub few_links : Bool
  few_links = nat_le (length plan.links) 128

  -- Every link leads between the processes.
  abbrev pub joined : Bool
  joined = each (length plan.links) (λ k. joins plan.processes (at plan.links k))

  -- Each process has at most 8 out-links.
  abbrev pub few_ports : Bool
  few_ports = each plan.processes (λ p. leb (length (out_links plan p)) 8)

  -- All limits of a plan.
  abbrev pub within : Bool
  within = near && peopled && few_links && joined && few_ports

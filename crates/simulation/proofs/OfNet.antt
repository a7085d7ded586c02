-- A net as a system, whose histories determine everything.
use Rattle.std.proofs.Common.{◌≡◌, ℕ, ◌+◌, ◌<◌, ◌≤◌, List, [], ◌∷◌, reverse, length, Some, None, Option, sym, refl, ap, ◌∙◌, arith}
use Rattle.model.specs.declared.record.Record.{Record}
use Rattle.model.specs.declared.sending.Sending.{Sending}
use Rattle.model.specs.Lists.{at, then, is}
use Rattle.model.specs.Shape.{source, target, delay, out_links}
use Rattle.simulation.specs.Net.{Program, Net, Outgoing, outgoing, handle, record_of}
use Rattle.simulation.specs.Simulation.{opening_on, lookahead_of, reach}
use Rattle.simulation.specs.Prepare.{Limits}
use Rattle.simulation.proofs.Tests.{none_is_some, is_some}
use Rattle.simulation.proofs.Places.{at_there, numbers_at}
use Rattle.simulation.proofs.PlanLimits.{leads}
use Rattle.simulation.proofs.System.{System, Entry, Rising, state, answer, Proper}

module _ {C P : Type 0} (g : Program C P) where
  -- No event changes a lookahead.
  abbrev pub Constant : Type 0
  Constant = (s : P) (port time : ℕ) (c : C) → g.lookahead (g.rule s port time c).0 ≡ g.lookahead s

  -- Every link from a process has a reach of 1 or more.
  abbrev pub Reaching : Net C P → Type 0
  Reaching net = (k p : ℕ) → source net.plan k ≡ Some p → p < net.plan.processes → 1 ≤ reach g net p k

module _ {C P : Type 0} (g : Program C P) (net : Net C P) where
  -- A number that is no process stands for the outside.
  abbrev pub or_outside : Option ℕ → ℕ
  or_outside None = net.plan.processes
  or_outside (Some p) = p

  -- The rule of p, where there is a state.
  abbrev pub rule_of : ℕ → Option P → Entry C → Option P × Option (Outgoing C)
  rule_of p None e = (None, None)
  rule_of p (Some s) e = (Some (handle g net.plan p s e.link e.event).0, (handle g net.plan p s e.link e.event).1)

  -- The net as a system.
  abbrev pub system : System C (Option P)
  system = record {
    horizon = net.plan.horizon;
    processes = net.plan.processes;
    links = length net.plan.links;
    source = λ k. or_outside (source net.plan k);
    target = λ k. or_outside (target net.plan k);
    delay = delay net.plan;
    lookahead = λ p. lookahead_of g (at net.processes p);
    opening = λ k. reverse (opening_on net k net.opening);
    first = at net.processes;
    rule = rule_of;
  }

  -- The record of an entry of p's history.
  abbrev pub to_record : ℕ → Entry C → Record
  to_record p e = record_of g p e.link e.event

  -- What goes out by a port goes on a link of p.
  out_own : (p : ℕ) (o : Option ℕ) (y : Sending C) (x : Outgoing C) → at (out_links net.plan p) y.port ≡ o
      → then o (λ k. Some (record { link = k; time = y.time; cargo = y.cargo })) ≡ Some x
      → (x.link < length net.plan.links) × (source net.plan x.link ≡ Some p)
  out_own p None y x q e = none_is_some e
  out_own p (Some k) y x q e =
      let r = numbers_at (length net.plan.links) (λ j. is p (source net.plan j)) y.port k q in
      let s : k ≡ x.link = cc in
      rw (← s) (r.0, is_some p (source net.plan k) r.1)

  -- What goes out goes on a link of p.
  pub outgoing_own : (p : ℕ) (o : Option (Sending C)) (x : Outgoing C) → outgoing net.plan p o ≡ Some x
      → (x.link < length net.plan.links) × (source net.plan x.link ≡ Some p)
  outgoing_own p None x e = none_is_some e
  outgoing_own p (Some y) x e = out_own p (at (out_links net.plan p) y.port) y x refl e

  -- So does what the rule gives.
  rule_own : (p : ℕ) (s : Option P) (e : Entry C) (x : Outgoing C) → (rule_of p s e).1 ≡ Some x
      → (x.link < length net.plan.links) × (or_outside (source net.plan x.link) ≡ p)
  rule_own p None e x w = none_is_some w
  rule_own p (Some s) e x w = let r = outgoing_own p _ x w in (r.0, ap or_outside r.1)

  -- The reach of a link from a process.
  reach_there : Reaching g net → (k : ℕ) (o : Option ℕ) → source net.plan k ≡ o → or_outside o < net.plan.processes
      → 1 ≤ lookahead_of g (at net.processes (or_outside o)) + delay net.plan k
  reach_there far k None e l = absurd (omega arith)
  reach_there far k (Some p) e l = far k p e l

  -- It is proper if every reach is 1 or more and the opening events of each link rise.
  pub proper : Reaching g net → ((k : ℕ) → k < length net.plan.links → Rising (reverse (opening_on net k net.opening))) → Proper system
  proper far rising = record {
    own = λ p l hs e x w. rule_own p (state system p hs) e x (unfold answer in w);
    reach = λ k l i. reach_there far k (source net.plan k) refl i;
    rising = rising;
  }

  -- A link leads to p in the plan and in the system alike.
  pub from_target : (k p : ℕ) → k < length net.plan.links → system.target k ≡ p → target net.plan k ≡ Some p
  from_target k p l e = let x = leads net.plan k l in x.1 ∙ ap (λ (n : ℕ). Some n) (sym (ap or_outside x.1) ∙ e)

  -- A process has a state after each history, with its first lookahead.
  pub record HasState (p : ℕ) (hs : List (Entry C)) : Type 0 where
    pub x : P
    pub is : state system p hs ≡ Some x
    pub look : g.lookahead x ≡ system.lookahead p

  -- So it is after every history.
  pub has_state : Constant g → Limits net → (p : ℕ) → p < net.plan.processes → (hs : List (Entry C)) → HasState p hs
  unfolding state
  has_state same limits p l [] =
      let m = limits.as_many in
      let y = at_there net.processes p (omega arith) in
      record { x = y.0; is = y.1; look = sym (ap (lookahead_of g) y.1) }
  has_state same limits p l (e ∷ hs) =
      let y = has_state same limits p l hs in
      record {
        x = (handle g net.plan p y.x e.link e.event).0;
        is = ap (λ (z : Option P). (rule_of p z e).0) y.is;
        look = same y.x _ _ _ ∙ y.look;
      }

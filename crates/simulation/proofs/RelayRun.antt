-- The run of the relay and the sink, over links with room enough.
use Rattle.std.proofs.Common.{◌≡◌, ℕ, zero, suc, ◌+◌, ◌-◌, ◌<◌, ◌≤◌, Bool, false, cond, List, [], ◌∷◌, ◌++◌, Some, None, Ok, sym, refl, ap, ◌∙◌, arith, lit<, lit≤}
use mathlib.Core.List.{tail}
use Rattle.model.specs.declared.event.Event.{Event}
use Rattle.model.specs.declared.record.Record.{Record}
use Rattle.model.specs.Linking.{Timely, PutDone, NullDone, TakeDone}
use Rattle.model.specs.Lists.{update}
use Rattle.model.specs.Pile.{Pile}
use Rattle.model.specs.Shape.{target, delay}
use Rattle.model.specs.Sums.{plus}
use Rattle.simulation.specs.View.{View}
use Rattle.simulation.specs.Step.{Step, Nulls, marks_with, round_over}
use Rattle.simulation.specs.Calls.{Call}
use Rattle.simulation.specs.Prepare.{Opens, Prepared, After}
use Rattle.simulation.specs.Relay.{Kind, relay, sink, relays, relay_plan, relay_net, relay_record, sink_record, RelayRun}
use Rattle.simulation.proofs.Tests.{none_is_some, update_same, update_other}

module _ {C : Type 0} where
  -- The links once the first event of k is taken.
  abbrev taking : Pile C → ℕ → Pile C
  taking m k = record {
    count = m.count;
    waiting = update m.waiting k (tail (m.waiting k));
    floor = m.floor;
    delay = m.delay;
    free = update m.free k (m.free k + 1);
    capacity = m.capacity;
    quotas = m.quotas;
  }

  -- The links once an event is put on k.
  abbrev putting : Pile C → ℕ → ℕ → C → Pile C
  putting m k t c = record {
    count = m.count;
    waiting = update m.waiting k (m.waiting k ++ (record { time = t + m.delay k; cargo = c } ∷ []));
    floor = update m.floor k (t + m.delay k);
    delay = m.delay;
    free = update m.free k (m.free k - 1);
    capacity = m.capacity;
    quotas = m.quotas;
  }

  -- The links once a null is put on k.
  abbrev nulling : Pile C → ℕ → ℕ → Pile C
  nulling m k t = record {
    count = m.count;
    waiting = m.waiting;
    floor = update m.floor k (t + m.delay k);
    delay = m.delay;
    free = m.free;
    capacity = m.capacity;
    quotas = m.quotas;
  }

  -- Such a take is one.
  take_done : (m : Pile C) (k : ℕ) (e : Event C) → k < m.count → m.waiting k ≡ e ∷ tail (m.waiting k) → TakeDone m k e (taking m k)
  take_done m k e l w = record {
    there = l;
    steady = record { count = refl; settled = λ j i. record { delay = refl; capacity = refl; quotas = refl } };
    apart = record { waiting = λ j i n. update_other m.waiting k j _ n; floor = λ j i n. refl };
    waiting = w ∙ ap (λ q. e ∷ q) (sym (update_same m.waiting k (tail (m.waiting k))));
    floor = refl;
    free = update_same m.free k (m.free k + 1);
    rises = λ j i n. let e = update_other m.free k j (m.free k + 1) n in omega arith;
  }

  -- Such a put is one.
  put_done : (m : Pile C) (k t : ℕ) (c : C) → Timely m k t → 1 ≤ m.free k → PutDone m k t c (putting m k t c)
  put_done m k t c y f = record {
    timely = y;
    steady = record { count = refl; settled = λ j i. record { delay = refl; capacity = refl; quotas = refl } };
    apart = record { waiting = λ j i n. update_other m.waiting k j _ n; floor = λ j i n. update_other m.floor k j _ n };
    waiting = update_same m.waiting k _;
    floor = update_same m.floor k (t + m.delay k);
    free = let e = update_same m.free k (m.free k - 1) in omega arith;
    falls = λ j i n. let e = update_other m.free k j (m.free k - 1) n in (omega arith, omega arith);
  }

  -- Such a null is one.
  null_done : (m : Pile C) (k t : ℕ) → Timely m k t → NullDone m k t (nulling m k t)
  null_done m k t y = record {
    timely = y;
    steady = record { count = refl; settled = λ j i. record { delay = refl; capacity = refl; quotas = refl } };
    apart = record { waiting = λ j i n. refl; floor = λ j i n. update_other m.floor k j _ n };
    waiting = refl;
    floor = update_same m.floor k (t + m.delay k);
    free = λ j i. refl;
  }

-- The run v once p has stepped, with these states, links and log.
abbrev stepped : View ℕ Kind → ℕ → List Kind → Pile ℕ → List Record → View ℕ Kind
stepped v p processes links log = record {
  plan = v.plan;
  processes = processes;
  links = links;
  log = log;
  room = v.room;
  marked = λ q. cond (round_over v p) false (marks_with v p q);
  rounds = cond (round_over v p) (plus v.rounds 1) v.rounds;
}

-- The relay has one in-link.
only_first : (j : ℕ) → target relay_plan j ≡ Some 0 → j ≡ 0
only_first zero e = refl
only_first (suc zero) e = let z : ◌≡◌ {A = ℕ} 1 0 = cc in absurd (omega arith)
only_first (suc (suc j)) e = none_is_some e

-- And so has the sink.
only_second : (j : ℕ) → target relay_plan j ≡ Some 1 → j ≡ 1
only_second zero e = let z : ◌≡◌ {A = ℕ} 0 1 = cc in absurd (omega arith)
only_second (suc zero) e = refl
only_second (suc (suc j)) e = none_is_some e

-- Two fresh links of 16 places each.
abbrev fresh : Pile ℕ
fresh = record {
  count = 2;
  waiting = λ (k : ℕ). [];
  floor = λ (k : ℕ). delay relay_plan k;
  delay = λ (k : ℕ). delay relay_plan k;
  free = λ (k : ℕ). 16;
  capacity = λ (k : ℕ). 16;
  quotas = λ (k : ℕ). [];
}

-- And with the opening event.
abbrev opened : Pile ℕ
opened = putting fresh 0 10 7

-- The run as it is prepared.
abbrev v0 : View ℕ Kind
v0 = record { plan = relay_plan; processes = relay 0 ∷ sink ∷ []; links = nulling opened 0 36; log = []; room = 4096; marked = λ (q : ℕ). false; rounds = 0 }

-- It is prepared.
prepared : Prepared relay_net v0
prepared = record {
  limits = record { within = refl; as_many = refl };
  fresh = fresh;
  opened = opened;
  nulls = 1;
  count = refl;
  fits = λ k l. record { fresh = record { empty = refl; floor = refl }; delay = refl };
  opens = Opens.puts (lit< tt, refl) (put_done fresh 0 10 7 (record { there = lit< tt; soon = lit≤ tt; behind = lit≤ tt }) (lit≤ tt)) Opens.no_more;
  tell = Nulls.raises (lit< tt) (null_done opened 0 36 (record { there = lit< tt; soon = lit≤ tt; behind = lit≤ tt })) Nulls.no_more;
  plan = refl;
  processes = refl;
  log = refl;
  room = lit≤ tt;
  marked = λ p. refl;
  rounds = refl;
}

-- The relay takes its event, sends it on, and puts a null.
abbrev without : Pile ℕ
without = taking v0.links 0

-- And with what it sends.
abbrev with_sent : Pile ℕ
with_sent = putting without 1 15 7

-- The run after that.
abbrev v1 : View ℕ Kind
v1 = stepped v0 0 (relay 1 ∷ sink ∷ []) (nulling with_sent 1 41) (relay_record ∷ [])

-- That is a step.
relay_takes : Step relays v0 0 (Ok (record { taken = Some (record { time = 10; cargo = 7 }); nulls = 1 })) v1
relay_takes = Step.takes (record { there = refl; state = refl })
    (record { leads = refl; first = refl; soon = lit< tt; sure = λ j to n. absurd (n (only_first j to)) })
    refl (lit< tt) refl
    (record {
      without = without;
      with_sent = with_sent;
      take = take_done v0.links 0 (record { time = 10; cargo = 7 }) (lit< tt) refl;
      put = put_done without 1 15 7 (record { there = lit< tt; soon = lit≤ tt; behind = lit≤ tt }) (lit≤ tt);
      closes = record {
        tell = Nulls.raises (lit< tt) (null_done with_sent 1 41 (record { there = lit< tt; soon = lit≤ tt; behind = lit≤ tt })) Nulls.no_more;
        marks = record { marked = λ q. refl; rounds = refl };
        plan = refl;
        room = refl;
      };
      processes = refl;
      log = refl;
    })

-- The sink takes what was sent.
abbrev empty : Pile ℕ
empty = taking v1.links 1

-- The run after that.
abbrev v2 : View ℕ Kind
v2 = stepped v1 1 (relay 1 ∷ sink ∷ []) empty (relay_record ∷ sink_record ∷ [])

-- That is a step.
sink_takes : Step relays v1 1 (Ok (record { taken = Some (record { time = 35; cargo = 7 }); nulls = 0 })) v2
sink_takes = Step.takes (record { there = refl; state = refl })
    (record { leads = refl; first = refl; soon = lit< tt; sure = λ j to n. absurd (n (only_second j to)) })
    refl (lit< tt) refl
    (record {
      without = empty;
      with_sent = empty;
      take = take_done v1.links 1 (record { time = 35; cargo = 7 }) (lit< tt) refl;
      put = refl;
      closes = record { tell = Nulls.no_more; marks = record { marked = λ q. refl; rounds = refl }; plan = refl; room = refl };
      processes = refl;
      log = refl;
    })

-- From then on nothing waits, and the floors are as high as they get.
abbrev resting : (ℕ → Bool) → ℕ → View ℕ Kind
resting marked rounds = record {
  plan = relay_plan;
  processes = relay 1 ∷ sink ∷ [];
  links = empty;
  log = relay_record ∷ sink_record ∷ [];
  room = 4096;
  marked = marked;
  rounds = rounds;
}

-- The run once p has stepped and nothing but its mark has changed.
abbrev rested : View ℕ Kind → ℕ → View ℕ Kind
rested v p = stepped v p v.processes v.links v.log

-- A step of the relay is such.
relay_idles : (marked : ℕ → Bool) (rounds : ℕ)
    → Step relays (resting marked rounds) 0 (Ok (record { taken = None; nulls = 0 })) (rested (resting marked rounds) 0)
relay_idles marked rounds = Step.idles (record { there = refl; state = refl })
    (λ i e s. none_is_some (rw (only_first i s.leads) at s.first))
    (record {
      closes = record { tell = Nulls.skips (lit≤ tt) Nulls.no_more; marks = record { marked = λ q. refl; rounds = refl }; plan = refl; room = refl };
      processes = refl;
      log = refl;
    })

-- And a step of the sink.
sink_idles : (marked : ℕ → Bool) (rounds : ℕ)
    → Step relays (resting marked rounds) 1 (Ok (record { taken = None; nulls = 0 })) (rested (resting marked rounds) 1)
sink_idles marked rounds = Step.idles (record { there = refl; state = refl })
    (λ i e s. none_is_some (rw (only_second i s.leads) at s.first))
    (record {
      closes = record { tell = Nulls.no_more; marks = record { marked = λ q. refl; rounds = refl }; plan = refl; room = refl };
      processes = refl;
      log = refl;
    })

-- One round more.
abbrev next : View ℕ Kind → View ℕ Kind
next v = rested (rested v 0) 1

-- All together.
pub relay_runs : RelayRun
relay_runs = record {
  v = next (next (next v2));
  after =
      let a1 = After.called (Call.step 0) _ (After.prepared prepared) relay_takes in
      let a2 = After.called (Call.step 1) _ a1 sink_takes in
      let a3 = After.called (Call.step 0) _ a2 (relay_idles v2.marked v2.rounds) in
      let a4 = After.called (Call.step 1) _ a3 (sink_idles (rested v2 0).marked (rested v2 0).rounds) in
      let a5 = After.called (Call.step 0) _ a4 (relay_idles (next v2).marked (next v2).rounds) in
      let a6 = After.called (Call.step 1) _ a5 (sink_idles (rested (next v2) 0).marked (rested (next v2) 0).rounds) in
      let a7 = After.called (Call.step 0) _ a6 (relay_idles (next (next v2)).marked (next (next v2)).rounds) in
      After.called (Call.step 1) _ a7 (sink_idles (rested (next (next v2)) 0).marked (rested (next (next v2)) 0).rounds);
  log = refl;
  finished = refl;
  rounds = refl;
}

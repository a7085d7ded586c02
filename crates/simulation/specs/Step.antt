-- One step of a process: each outcome, and what it makes of the run.
use Rattle.std.specs.Prelude.{◌≡◌, ℕ, suc, ◌+◌, ◌<◌, ◌≤◌, Bool, true, false, cond, List, [], ◌∷◌, ◌++◌, length, Some, None, Ok, Err, Option, Result, ◌==◌, slice_set}
use Rattle.model.specs.declared.answer.Stepped.{Stepped}
use Rattle.model.specs.declared.event.Event.{Event}
use Rattle.model.specs.declared.refusal.Breach.{Breach}
use Rattle.model.specs.declared.refusal.Refusal.{Refusal}
use Rattle.model.specs.declared.refusal.Refusal.TheVariants.{NoSuch, Held, LogFull, Breached}
use Rattle.model.specs.Linking.{PutDone, NullDone, TakeDone}
use Rattle.model.specs.Lists.{at, update, each}
use Rattle.model.specs.Pile.{Pile}
use Rattle.model.specs.Shape.{out_links}
use Rattle.model.specs.Sums.{plus}
use Rattle.simulation.specs.Net.{Program, Outgoing, breach_of, handle, record_of}
use Rattle.simulation.specs.View.{View, clock, Safe, has}

module _ {C : Type 0} where
  -- The first of these links that has no place free.
  abbrev pub first_full : Pile C → List ℕ → Option ℕ
  first_full m [] = None
  first_full m (k ∷ ks) = cond (m.free k == 0) (Some k) (first_full m ks)

  -- What goes out, if anything does, is put on its link.
  abbrev pub Sent : Pile C → Option (Outgoing C) → Pile C → Type 0
  Sent m None n = n ≡ m
  Sent m (Some x) n = PutDone m x.link x.time x.cargo n

  -- Each of these links whose floor is below t and its delay gets a null at t; so many do.
  pub data Nulls (t : ℕ) : List ℕ → Pile C → ℕ → Pile C → Type 0 where
    no_more : {m : Pile C} → Nulls t [] m 0 m
    skips : {k : ℕ} {ks : List ℕ} {m n : Pile C} {count : ℕ} → t + m.delay k ≤ m.floor k → Nulls t ks m count n → Nulls t (k ∷ ks) m count n
    raises : {k : ℕ} {ks : List ℕ} {m l n : Pile C} {count : ℕ} → m.floor k < t + m.delay k → NullDone m k t l → Nulls t ks l count n
        → Nulls t (k ∷ ks) m (suc count) n

module _ {C P : Type 0} where
  -- The marks, and that of p.
  abbrev pub marks_with : View C P → ℕ → ℕ → Bool
  marks_with v p = update v.marked p true

  -- Whether every process is marked then.
  abbrev pub round_over : View C P → ℕ → Bool
  round_over v p = each v.plan.processes (marks_with v p)

  -- p is marked. When that leaves every process marked, the round count rises by one, if it can, and all marks are cleared.
  pub record Marks (v : View C P) (p : ℕ) (w : View C P) : Type 0 where
    pub marked : (q : ℕ) → w.marked q ≡ cond (round_over v p) false (marks_with v p q)
    pub rounds : w.rounds ≡ cond (round_over v p) (plus v.rounds 1) v.rounds

  -- The process p is there, in the state s.
  pub record Ready (v : View C P) (p : ℕ) (s : P) : Type 0 where
    pub there : has v p ≡ true
    pub state : at v.processes p ≡ Some s

  -- The step of p ends, over the links m and with this lookahead: nulls by its clock as it is now, and its mark.
  pub record Closes (v : View C P) (p lookahead : ℕ) (m : Pile C) (nulls : ℕ) (w : View C P) : Type 0 where
    pub tell : Nulls (clock v.plan m p + lookahead) (out_links v.plan p) m nulls w.links
    pub marks : Marks v p w
    pub plan : w.plan ≡ v.plan
    pub room : w.room ≡ v.room

module _ {C P : Type 0} (g : Program C P) where
  -- What goes out as p, in the state s, handles the event e of its in-link i.
  abbrev pub sent : View C P → ℕ → P → ℕ → Event C → Option (Outgoing C)
  sent v p s i e = (handle g v.plan p s i e).1

  -- Its breach, if it is one: early, too far, or to arrive below the floor.
  abbrev pub breach : View C P → ℕ → P → ℕ → Event C → Option Breach
  breach v p s i e = breach_of p (e.time + g.lookahead s) v.links.delay v.links.floor (sent v p s i e)

  -- p, in the state s, takes the event e of its in-link i.
  pub record Takes (v : View C P) (p : ℕ) (s : P) (i : ℕ) (e : Event C) (nulls : ℕ) (w : View C P) : Type 0 where
    pub without : Pile C  -- the links once e is taken
    pub with_sent : Pile C  -- and once what goes out is put
    pub take : TakeDone v.links i e without
    pub put : Sent without (sent v p s i e) with_sent
    pub closes : Closes v p (g.lookahead s) with_sent nulls w
    pub processes : w.processes ≡ slice_set v.processes p (handle g v.plan p s i e).0
    pub log : w.log ≡ v.log ++ (record_of g p i e ∷ [])

  -- p, in the state s, takes nothing.
  pub record Idles (v : View C P) (p : ℕ) (s : P) (nulls : ℕ) (w : View C P) : Type 0 where
    pub closes : Closes v p (g.lookahead s) v.links nulls w
    pub processes : w.processes ≡ v.processes
    pub log : w.log ≡ v.log

  -- The step of p in the run v: its answer, and the run after it. A refusal changes nothing.
  pub data Step (v : View C P) (p : ℕ) : Result (Stepped C) Refusal → View C P → Type 0 where
    absent : has v p ≡ false → Step v p (Err NoSuch) v
    idles : {s : P} {nulls : ℕ} {w : View C P} → Ready v p s → ((i : ℕ) (e : Event C) → ¬ (Safe v.plan v.links p i e))
        → Idles v p s nulls w → Step v p (Ok (record { taken = None; nulls = nulls })) w
    held : {s : P} {i : ℕ} {e : Event C} {k : ℕ} → Ready v p s → Safe v.plan v.links p i e
        → first_full v.links (out_links v.plan p) ≡ Some k → Step v p (Err (Held k)) v
    log_full : {s : P} {i : ℕ} {e : Event C} → Ready v p s → Safe v.plan v.links p i e
        → first_full v.links (out_links v.plan p) ≡ None → v.room ≤ length v.log → Step v p (Err LogFull) v
    breached : {s : P} {i : ℕ} {e : Event C} {b : Breach} → Ready v p s → Safe v.plan v.links p i e
        → first_full v.links (out_links v.plan p) ≡ None → length v.log < v.room
        → breach v p s i e ≡ Some b → Step v p (Err (Breached b)) v
    takes : {s : P} {i : ℕ} {e : Event C} {nulls : ℕ} {w : View C P} → Ready v p s → Safe v.plan v.links p i e
        → first_full v.links (out_links v.plan p) ≡ None → length v.log < v.room
        → breach v p s i e ≡ None → Takes v p s i e nulls w → Step v p (Ok (record { taken = Some e; nulls = nulls })) w

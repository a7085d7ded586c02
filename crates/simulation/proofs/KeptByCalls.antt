-- What every step keeps, every call keeps, and so every run has it that has it when prepared.
use Rattle.std.proofs.Common.{ℕ, Bool, List, Result, sym, subst}
use Rattle.model.specs.declared.answer.Stepped.{Stepped}
use Rattle.model.specs.declared.refusal.Refusal.{Refusal}
use Rattle.simulation.specs.Net.{Program, Net}
use Rattle.simulation.specs.View.{View}
use Rattle.simulation.specs.Step.{Step}
use Rattle.simulation.specs.Calls.{Call, Answer, Pass, Passes, Does}
use Rattle.simulation.specs.Prepare.{Prepared, After}

module _ {C P : Type 0} (g : Program C P) (Kept : View C P → Type 0)
    (step : (v w : View C P) (p : ℕ) (r : Result (Stepped C) Refusal) → Kept v → Step g v p r w → Kept w) where
  -- A pass keeps it.
  kept_by_pass : {v w : View C P} {n : ℕ} {q : Bool} → Kept v → Pass g v n q w → Kept w
  kept_by_pass k Pass.begins = k
  kept_by_pass k (Pass.steps {p = p} {w = w} {u = u} {r = r} x s) = step w u p r (kept_by_pass k x) s

  -- So do passes.
  kept_by_passes : {v w : View C P} {n : ℕ} {q : Bool} → Kept v → Passes g v n q w → Kept w
  kept_by_passes k Passes.none = k
  kept_by_passes k (Passes.another x p) = kept_by_pass (kept_by_passes k x) p

  -- So does each call.
  kept_by_call : (c : Call) (v w : View C P) (a : Answer C c) → Kept v → Does g c v a w → Kept w
  kept_by_call (Call.step p) v w a k d = step v w p a k d
  kept_by_call (Call.run n) v w a k d = kept_by_passes k d.passes
  kept_by_call (Call.ask_clock p) v w a k d = subst Kept (sym d.1) k
  kept_by_call (Call.ask_count p) v w a k d = subst Kept (sym d.1) k
  kept_by_call (Call.ask_record p n) v w a k d = subst Kept (sym d.1) k
  kept_by_call Call.ask_rounds v w a k d = subst Kept (sym d.1) k
  kept_by_call Call.ask_done v w a k d = subst Kept (sym d.1) k

  -- So do all calls after prepare.
  pub kept_after : (net : Net C P) → ((v : View C P) → Prepared net v → Kept v) → {cs : List Call} {v : View C P} → After g net cs v → Kept v
  kept_after net first (After.prepared {v = v} pd) = first v pd
  kept_after net first (After.called {v = v} {w = w} c a x d) = kept_by_call c v w a (kept_after net first x) d

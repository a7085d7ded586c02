-- One process more steps, and is refused or not.
use Rattle.std.proofs.Common.{◌≡◌, ℕ, suc, ◌+◌, List, [], ◌∷◌, ◌++◌, Ok, Err, refl, sym, subst, add-one}
use Rattle.model.specs.declared.answer.Stepped.{Stepped}
use Rattle.model.specs.declared.refusal.Refusal.{Refusal}
use Rattle.simulation.specs.Net.{Program}
use Rattle.simulation.specs.View.{View}
use Rattle.simulation.specs.Step.{Step}
use Rattle.simulation.specs.Calls.{clock_answer}
use Rattle.plan_to_log.specs.declared.output.Standing.{Standing}
use Rattle.plan_to_log.specs.Running.{Refusals}

module _ {C P : Type 0} (g : Program C P) (v : View C P) where
  -- The list by another name.
  renamed : {p : ℕ} {ss ts : List Standing} {u : View C P} → ts ≡ ss → Refusals g v (suc p) ss u → Refusals g v (p + 1) ts u
  renamed {p} {ss} {ts} {u} e r = subst (λ n. Refusals g v n ts u) (sym (add-one p)) (subst (λ l. Refusals g v (suc p) l u) (sym e) r)

  -- None has stepped yet.
  pub none_yet : {ss : List Standing} → ss ≡ [] → Refusals g v 0 ss v
  none_yet e = subst (λ l. Refusals g v 0 l v) (sym e) Refusals.begins

  -- It is not there.
  pub passes_on : {p : ℕ} {ss : List Standing} {w : View C P} {f : Refusal} → Refusals g v p ss w → Err f ≡ clock_answer w p → Refusals g v (p + 1) ss w
  passes_on r c = renamed refl (Refusals.passes r (sym c))

  -- It is not refused.
  pub goes_on : {p : ℕ} {ss ts : List Standing} {w u : View C P} {a : Stepped C} → ts ≡ ss → Refusals g v p ss w
      → Step g w p (Ok a) u → Refusals g v (p + 1) ts u
  goes_on e r s = renamed e (Refusals.goes r s)

  -- It is refused.
  pub stands_there : {p t : ℕ} {ss ts : List Standing} {w u : View C P} {why : Refusal}
      → ts ≡ ss ++ record { process = p; clock = t; why = why } ∷ [] → Refusals g v p ss w
      → Ok t ≡ clock_answer w p → Step g w p (Err why) u → Refusals g v (p + 1) ts u
  stands_there e r c s = renamed e (Refusals.stands r (sym c) s)

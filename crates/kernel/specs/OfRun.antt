-- A run as its reader sees it.
use Rattle.std.specs.Prelude.{◌≡◌, ℕ, List, [], ◌∷◌, Ok, Err, vec_items, Result, Vec}
use Rattle.std.specs.declared.alloc.Global.{Global}
use Rattle.model.specs.declared.cargo.Cargo as Cargo
use Rattle.model.specs.declared.links.Links as Links
use Rattle.model.specs.declared.opening.Opening.{Opening}
use Rattle.model.specs.declared.plan.Plan.{Plan}
use Rattle.model.specs.declared.process.Process as Process
use Rattle.model.specs.Made.{shape_of}
use Rattle.simulation.specs.Net.{Program, Net}
use Rattle.simulation.specs.View.{View}
use Rattle.simulation.specs.Calls.{Call, Answer, Does}
use Rattle.simulation.specs.Prepare.{Prepares, After}
use Rattle.kernel.specs.declared.run.Run.{Run}
use Rattle.kernel.specs.declared.run.NotPrepared.{NotPrepared}
use Rattle.kernel.specs.Bits.{bit}

-- What a run shows, its links by their meaning.
abbrev pub view_of : {C P L : Type 0} {c : Cargo.Ghosts C} {p : Process.Ghosts P C} {l : Links.Ghosts L C}
    → Run C P L c p l → View C P
view_of {l = l} r = record {
  plan = shape_of r.routes.plan;
  processes = vec_items r.processes;
  links = l.meaning r.links;
  log = vec_items r.log;
  room = r.room;
  marked = bit r.marks.word;
  rounds = r.marks.rounds;
}

-- A call answers as the rules have it, and a run that stood after some calls stands after them and this one.
pub record Called {C P : Type 0} (g : Program C P) (c : Call) (v : View C P) (a : Answer C c) (w : View C P) : Type 0 where
  pub outcome : Does g c v a w
  pub stands : (net : Net C P) (cs : List Call) → After g net cs v → After g net (c ∷ cs) w

-- Prepare, from a net and with a log of this size: a run that stands after no call, or why not, with the parts as the rules leave them.
abbrev pub Answered : {C P L : Type 0} {c : Cargo.Ghosts C} {p : Process.Ghosts P C} {l : Links.Ghosts L C}
    → Program C P → Plan → Vec P Global → List (Opening C) → L → ℕ → Result (Run C P L c p l) (NotPrepared P L) → Type 0
Answered {C} {P} {l = l} g plan processes opening links size (Ok run) =
    let net : Net C P = record { plan = shape_of plan; processes = vec_items processes; opening = opening } in
    Prepares net (l.meaning links) size (Ok (view_of run)) (l.meaning run.links) × After g net [] (view_of run)
Answered {C} {P} {l = l} g plan processes opening links size (Err back) =
    let net : Net C P = record { plan = shape_of plan; processes = vec_items processes; opening = opening } in
    Prepares net (l.meaning links) size (Err back.why) (l.meaning back.links) × (back.plan ≡ plan) × (back.processes ≡ processes)

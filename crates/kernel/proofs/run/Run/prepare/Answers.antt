use Rattle.std.proofs.Common.{[], length, Ok, vec_items, sym, refl, ap, ◌∙◌, subst, arith}
use Rattle.model.specs.Made.{shape_of}
use Rattle.model.specs.Shape.{outside_links}
use Rattle.simulation.specs.Net.{Net}
use Rattle.simulation.specs.Programs.{program_of}
use Rattle.simulation.specs.Step.{Nulls}
use Rattle.simulation.specs.Prepare.{Prepares, Opens, OpeningFails, After}
use Rattle.kernel.proofs.Called.{just_prepared}
use Rattle.kernel.proofs.FromOutside.{opens_count}
use Rattle.kernel.proofs.run.Run.prepare.Goals as goal

pub returns-in-Err-reserve : goal.returns-in-Err-reserve
returns-in-Err-reserve g c =
    let suits = c.in_default.ensures in (
      Prepares.no_memory (record { processes = ap length (sym c.as_slice.ensures.value) ∙ suits.0; links = suits.1 }) suits.2,
      c.in-Err-reserve.ensures,
      refl,
    )

pub returns-in-Err-open : goal.returns-in-Err-open
returns-in-Err-open g c =
    let suits = c.in_default.ensures in
    let same = c.plan.ensures ∙ c.in-Ok.ensures.0 in
    let m = g.L.Links.meaning in (
      Prepares.not_opened (record { processes = ap length (sym c.as_slice.ensures.value) ∙ suits.0; links = suits.1 }) suits.2
          (subst (λ plan. OpeningFails (shape_of plan) c.args.opening.now (m c.args.links) c.in-Err-open.why (m c.open.new.links)) same
          c.in-Err-open.ensures),
      c.into_plan.ensures ∙ c.in-Ok.ensures.0,
      refl,
    )

pub invariant_of-run-clause-joined : goal.invariant_of-run-clause-joined
invariant_of-run-clause-joined g c =
    let m = g.L.Links.meaning in
    opens_count _ _ (m c.args.links) (m c.open.new.links) c.in_default-open.ensures ∙ c.in_default.ensures.1
    ∙ ap (λ plan. length (vec_items plan.links)) (sym c.in-Ok.ensures.0)

pub returns : goal.returns
returns g c =
    let m = g.L.Links.meaning in
    let G = program_of g.C.Cargo g.P.Process in
    let net : Net g.row.C.Denot g.row.P.Denot =
    record { plan = shape_of c.args.plan; processes = vec_items c.args.processes; opening = c.args.opening.now } in
    let parts = c.in-Ok.ensures in
    let suits = c.in_default.ensures in
    let opened = m c.open.new.links in
    let told = c.tell_outside.ensures.told in
    subst (λ v. Prepares net (m c.args.links) c.args.size (Ok v) v.links × After G net [] v) (sym c.tell_outside.ensures.else_same)
    (just_prepared G net _ (m c.args.links) c.args.size (record {
      limits = record { within = c.args.plan.limits; as_many = ap length (sym c.as_slice.ensures.value) ∙ suits.0 };
      fresh = m c.args.links;
      opened = opened;
      nulls = told.0;
      count = suits.1;
      fits = suits.2;
      opens = subst (λ plan. Opens (shape_of plan) c.args.opening.now (m c.args.links) opened) (c.plan.ensures ∙ parts.0)
          c.in_default-open.ensures;
      tell = subst (λ plan. Nulls plan.horizon (outside_links (shape_of plan)) opened told.0 (m c.tell_outside.new.self.links)) parts.0 told.1;
      plan = ap shape_of parts.0;
      processes = refl;
      log = parts.1;
      room = omega (arith, c.min-room.ensures);
      marked = c.new-marks.ensures.marked;
      rounds = c.new-marks.ensures.rounds;
    }) refl c.min-room.ensures)

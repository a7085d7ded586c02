use Rattle.std.proofs.Common.{◌+◌, ◌<◌, length, drop, sym, ap, ◌∙◌, subst}
use Rattle.plan_to_log.specs.Stack.{delays_from, Unset}
use Rattle.plan_to_log.proofs.Settings.{granted, table_set, delay_suits, delays_next}
use Rattle.plan_to_log.proofs.stack.Planned.with_delays.Goals as goal

pub loop-link-preserved : goal.loop-link-preserved
loop-link-preserved g c =
    let settings = c.args.self.settings.now in
    let i = c.loop-link.link in
    let inv = c.loop-link.invariant in (
      c.set.ensures.below ∙ inv.0,
      ap (λ t. delays_from (i + 1) (drop (i + 1) settings) t) (table_set _ i _ _ _ _ _ c.unwrap.ensures c.set.ensures.table)
          ∙ sym (delays_next settings i _ c.loop-link.delays.extra c.loop-link-test.true)
          ∙ inv.1,
    )

pub unwrap-requires : goal.unwrap-requires
unwrap-requires g c =
    let n = length c.args.self.settings.now in
    let k = c.loop-link.link in
    let lt = c.loop-link-test.true in
    let unset = subst (λ b. Unset n (g.L.Links.meaning b)) (sym (c.loop-link.invariant.0 ∙ c.new-delays.ensures.held.0)) c.args.self.unset in
    granted _ k _ _ _ _ _ (subst (λ m. k < m) (sym unset.count) lt)
    (delay_suits n _ unset k lt c.loop-link.delays.extra _ (c.args.self.delays k _ lt))
    c.set.ensures.table

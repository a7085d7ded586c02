use Rattle.std.proofs.Common.{ℕ, ◌+◌, ◌<◌, List, length, drop, Option, sym, ap, ◌∙◌, subst}
use Rattle.plan_to_log.specs.Stack.{quotas_from, quota_at, Unset}
use Rattle.plan_to_log.proofs.Settings.{granted, table_set, quota_suits, quotas_next}
use Rattle.plan_to_log.proofs.stack.Planned.with_quotas.Goals as goal
use Rattle.plan_to_log.proofs.stack.Planned.with_quotas.Goals.{in-Some, in_default}

pub loop-link-preserved : goal.loop-link-preserved
loop-link-preserved g c =
    let settings = c.args.self.settings.now in
    let i = c.loop-link.link in
    let inv = c.loop-link.invariant in
    let next = quotas_next settings i _ c.loop-link.quotas.left c.loop-link-test.true in
    let rest = λ (t : List ℕ). quotas_from (i + 1) (drop (i + 1) settings) t in
    let given = λ (o : Option ℕ). quota_at i o c.loop-link.quotas.left in
    elim c.match-planned.branch [
      | in-Some w ↦ (
        ap (λ l. l.below) w.quotas-is ∙ w.set.ensures.below ∙ inv.0,
        ap rest (ap (λ l. l.left) w.quotas-is ∙ table_set _ i _ _ _ _ _ w.unwrap.ensures w.set.ensures.table ∙ sym (ap given w.in-Some.is)) ∙ sym next ∙ inv.1,
      )
      | in_default w ↦ (
        ap (λ l. l.below) w.quotas-is ∙ inv.0,
        ap rest (ap (λ l. l.left) w.quotas-is ∙ sym (ap given w.in_default.is)) ∙ sym next ∙ inv.1,
      )
    ]

pub unwrap-requires : goal.unwrap-requires
unwrap-requires g c =
    let n = length c.args.self.settings.now in
    let k = c.loop-link.link in
    let lt = c.loop-link-test.true in
    let unset = subst (λ b. Unset n (g.L.Links.meaning b)) (sym (c.loop-link.invariant.0 ∙ c.new-quotas.ensures.held.0)) c.args.self.unset in
    let within = c.args.self.quotas k _ lt c.in-Some.quota c.in-Some.is in
    granted _ k _ _ _ _ _ (subst (λ m. k < m) (sym unset.count) lt)
    (quota_suits n _ unset k lt c.loop-link.quotas.left _ within.0 within.1)
    c.set.ensures.table

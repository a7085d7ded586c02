-- Planned links that lead from a process, counted as the model counts the links of a plan.
use Rattle.std.proofs.Common.{◌≡◌, ℕ, ◌+◌, cond, List, map, Some, None, Option, sym, ◌∙◌}
use Rattle.std.specs.List.{count_by}
use Rattle.std.proofs.lemmas.List.Folds.{fold-map}
use Rattle.std.proofs.lemmas.List.Sums.{length-filter}
use Rattle.model.specs.Lists.{is, then}
use Rattle.model.specs.declared.link.Link.{Link}
use Rattle.model.proofs.Chains.{count_of_list}
use Rattle.records.specs.Adding.{from_same}
use Rattle.records.specs.declared.reading.kinds.PlannedLink.{PlannedLink}

-- How many of these links lead from the same process, counted in the list.
abbrev pub in_list : List PlannedLink → Option ℕ → ℕ
in_list links None = 0
in_list links (Some p) = count_by (λ planned. is p planned.link.from) links

pub as_leaving : (links : List PlannedLink) (from : Option ℕ) (n : ℕ) → n ≡ in_list links from → n ≡ from_same links from
as_leaving links None n e = e
as_leaving links (Some p) n e =
    e
    ∙ sym (fold-map (λ n link. n + cond (is p link.from) 1 0) (λ (planned : PlannedLink). planned.link) 0 links)
    ∙ sym (length-filter (λ (link : Link). is p link.from) (map (λ (planned : PlannedLink). planned.link) links))
    ∙ sym (count_of_list (λ (o : Option Link). is p (then o (λ l. l.from))) (map (λ (planned : PlannedLink). planned.link) links))

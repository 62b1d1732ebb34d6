-- `is_well_formed`: its rooms are wide enough for every table that stands. Assumes nothing.
use mathlib.Core.Path.{◌≡◌, sym, ap, ◌∙◌}
use mathlib.Core.Bool.{Bool, ◌&&◌}
use mathlib.Core.List.{[], ◌∷◌}
use Rattle.pool_table.specs.Words.{pool_of}
use Rattle.pool_table.specs.WellFormed.{clusters_within, well_formed}
use Rattle.pool_check.proofs.Parts.{stands_linked, linked_both, groups_are, always_wide}
use Rattle.pool_check.proofs.is_well_formed.Goals as goal
use Rattle.pool_check.proofs.is_well_formed.Goals.{After-is_some}

whole : (c : After-is_some) → well_formed c.args.table.now ≡ (c.is_some.result && clusters_within (pool_of c.args.table.now))
whole c =
    let t = c.args.table.now in
    sym (always_wide t)
    ∙ stands_linked t (1025 ∷ 1025 ∷ [])
    ∙ ap (λ (b : Bool). b && clusters_within (pool_of t)) (sym (c.is_some.ensures ∙ c.sort_linked.ensures.stands_value))

pub returns-then-is_some : goal.returns-then-is_some
returns-then-is_some c =
    let t = c.args.table.now in
    c.clusters_stand.ensures
    ∙ groups_are t (linked_both t (1025 ∷ 1025 ∷ []) (sym (c.is_some.ensures ∙ c.sort_linked.ensures.stands_value) ∙ c.if-is_some.true)).1
    ∙ sym (whole (goal.at.returns-then-is_some c).After-is_some ∙ ap (λ (b : Bool). b && clusters_within (pool_of t)) c.if-is_some.true)

pub returns-else-is_some : goal.returns-else-is_some
returns-else-is_some c =
    let p = pool_of c.args.table.now in
    c.if-is_some.false
    ∙ sym (whole (goal.at.returns-else-is_some c).After-is_some ∙ ap (λ (b : Bool). b && clusters_within p) c.if-is_some.false)

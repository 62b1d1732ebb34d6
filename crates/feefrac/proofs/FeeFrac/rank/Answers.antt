use mathlib.Core.Path.{◌≡◌, refl, sym, ap, ◌∙◌}
use Rattle.std.specs.declared.cmp.Ordering.{Ordering}
use Rattle.std.specs.declared.cmp.Ordering.TheVariants.{Less, Equal, Greater}
use Rattle.feefrac.specs.Rate.{rank_order, then_by, size_order}
use Rattle.feefrac.proofs.Order.{size_cmp}
use Rattle.feefrac.proofs.FeeFrac.rank.Goals as goal

pub returns-in-Equal : goal.returns-in-Equal
unfolding rank_order
returns-in-Equal c =
    c.cmp.ensures ∙ size_cmp _ _
    ∙ ap (λ (o : Ordering). then_by o (size_order c.args.other.size c.args.self.size)) (sym c.in-Equal.is ∙ c.compare_rates.ensures)

decided : (o s : Ordering) → (o ≡ Equal → ⊥) → o ≡ then_by o s
decided Less s n = refl
decided Equal s n = absurd (n refl)
decided Greater s n = refl

pub returns-in_default : goal.returns-in_default
unfolding rank_order
returns-in_default c = rw (← c.compare_rates.ensures) (decided _ _ c.in_default.not-Equal)

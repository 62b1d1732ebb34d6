use mathlib.Core.Path.{◌≡◌, sym, ap, ◌∙◌, subst}
use mathlib.Core.Bool.{Bool, true, ◌&&◌}
use mathlib.Core.List.{List}
use Prim.Native.Nat.{ℕ}
use native.Mathlib.Omega.{arith}
use lib.ListN.{length, take}
use borrow.Author.Rules.{rules}
use Rattle.pool_table.specs.Words.{is_legal, pool_of}
use Rattle.pool_table.specs.WellFormed.{links_mutual, acyclic}
use Rattle.pool_links.specs.Steps.{of_done, Walk}
use Rattle.pool_links.proofs.Walks.{walk_ext}
use Rattle.pool_links.proofs.Walking.{none_done}
use Rattle.pool_links.proofs.Ends.{walk_end}
use Rattle.pool_links.proofs.links_stand.Goals as goal

pub loop-at-init : goal.loop-at-init
loop-at-init c = (search rules, walk_ext (none_done _ c.survey-linked.new.self.slots) c.survey-linked.ensures.0)

-- so the answer is that of the links
answer : (t : List ℕ) → is_legal (length t) ≡ true → (x : Bool) → x ≡ (links_mutual (pool_of t) && acyclic (pool_of t))
    → x ≡ (is_legal (length t) && (links_mutual (pool_of t) && acyclic (pool_of t)))
answer t legal x e = e ∙ sym (ap (λ (b : Bool). b && (links_mutual (pool_of t) && acyclic (pool_of t))) legal)

pub returns : goal.returns
returns c = let t = c.args.table.now in
    let l = c.loop-at in
    let e : l.at ≡ l.queue.end = omega (arith, l.invariant.0, c.loop-at-test.false) in
    answer t (sym c.is_legal.ensures ∙ c.if-not-is_legal.false) _
    (walk_end t
    (subst (λ (n : ℕ). Walk (pool_of t) (of_done (pool_of t) (take n l.queue.slots)) l.queue.needs l.queue.slots l.queue.end) e
    l.invariant.1)
    c.survey-linked.ensures.1)

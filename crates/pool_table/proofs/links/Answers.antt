use mathlib.Core.Path.{◌≡◌, sym, ap, ap₂, ◌∙◌}
use mathlib.Core.Bool.{Bool, cond}
use mathlib.Core.List.{List, []}
use Prim.Native.Nat.{ℕ, ◌+◌, ◌-◌}
use native.Mathlib.Omega.{arith}
use lib.ListN.{take, drop}
use borrow.Author.Tests.{lt-ltb, le-ltb}
use Rattle.pool_table.specs.Pool.{slot_at, slot_count}
use Rattle.pool_table.specs.Words.{pool_of}
use Rattle.pool_table.specs.Links.{side_of, links_at}
use Rattle.pool_table.proofs.Rows.{whole_slot, side_part}
use Rattle.pool_table.proofs.links.Goals as goal

pub returns-in_default : goal.returns-in_default
unfolding links_at
returns-in_default c =
    let a = c.args in
    let p = pool_of a.table.now in
    ap (λ (b : Bool). cond b (side_of a.side (slot_at p a.s)) []) (sym (le-ltb a.s (slot_count p) c.in_default.ensures))

pub returns : goal.returns
unfolding links_at
returns c =
    let a = c.args in
    let p = pool_of a.table.now in
    let o = c.offset-from.result in
    let e : o + 16 - o ≡ 16 = omega arith in
    ap (λ (n : ℕ). take n (drop o c.in-Some.row.now)) e
    ∙ ap₂ (λ (n : ℕ) (ws : List ℕ). take 16 (drop n ws)) c.offset-from.ensures c.in-Some.ensures.words
    ∙ side_part a.side (slot_at p a.s) (whole_slot a.table.now a.s)
    ∙ ap (λ (b : Bool). cond b (side_of a.side (slot_at p a.s)) []) (sym (lt-ltb a.s (slot_count p) c.in-Some.ensures.there))

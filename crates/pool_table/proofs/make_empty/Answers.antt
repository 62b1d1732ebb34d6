use mathlib.Core.Path.{◌≡◌, sym, ap, ◌∙◌}
use mathlib.Core.Bool.{true}
use mathlib.Core.List.{[], ◌∷◌}
use native.Mathlib.Omega.{arith}
use lib.ListN.{length, length-replicate}
use lib.Seq.{lt-length-sets}
use Rattle.pool_table.specs.Words.{is_legal}
use Rattle.pool_table.proofs.Changes.{legal_header, made_becomes}
use Rattle.pool_table.proofs.make_empty.Goals as goal

pub bounds-table-0 : goal.bounds-table-0
bounds-table-0 c = let t = c.args.table.now in
    let l = c.is_legal in
    let e : is_legal (length t) ≡ true = sym l.ensures ∙ c.if-not-is_legal.false in
    omega (arith, legal_header t e, ap length (c.fill.ensures.after (λ y e. e)) ∙ length-replicate (length t) 0)

pub bounds-table-1 : goal.bounds-table-1
bounds-table-1 c = let a = c.args in
    let t = a.table.now in
    let l = c.is_legal in
    let e : is_legal (length t) ≡ true = sym l.ensures ∙ c.if-not-is_legal.false in
    lt-length-sets c.fill.new.self 0 (a.limits.count ∷ [])
    (omega (arith, legal_header t e, ap length (c.fill.ensures.after (λ y e. e)) ∙ length-replicate (length t) 0))

pub bounds-table-2 : goal.bounds-table-2
bounds-table-2 c = let a = c.args in
    let t = a.table.now in
    let l = c.is_legal in
    let e : is_legal (length t) ≡ true = sym l.ensures ∙ c.if-not-is_legal.false in
    lt-length-sets c.fill.new.self 0 (a.limits.count ∷ a.limits.size ∷ [])
    (omega (arith, legal_header t e, ap length (c.fill.ensures.after (λ y e. e)) ∙ length-replicate (length t) 0))

pub returns : goal.returns
returns c = let a = c.args in
    let t = a.table.now in
    let l = c.is_legal in
    let e : is_legal (length t) ≡ true = sym l.ensures ∙ c.if-not-is_legal.false in
    made_becomes t c.fill.new.self a.limits e (c.fill.ensures.after (λ y e. e))

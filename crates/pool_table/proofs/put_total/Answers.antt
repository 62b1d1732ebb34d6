use mathlib.Core.Path.{◌≡◌, sym, ◌∙◌}
use mathlib.Core.Bool.{true}
use native.Mathlib.Omega.{arith}
use lib.ListN.{length}
use Rattle.pool_table.specs.Words.{is_legal, total_at}
use Rattle.pool_table.proofs.Puts.{put_word}
use Rattle.pool_table.proofs.Changes.{legal_header, total_becomes}
use Rattle.pool_table.proofs.put_total.Goals as goal

pub bounds-table-3 : goal.bounds-table-3
bounds-table-3 c = let t = c.args.table.now in
    let e : is_legal (length t) ≡ true = sym c.is_legal.ensures ∙ c.if-not-is_legal.false in
    omega (arith, legal_header t e)

pub returns : goal.returns
returns c = let a = c.args in
    let t = a.table.now in
    let e : is_legal (length t) ≡ true = sym c.is_legal.ensures ∙ c.if-not-is_legal.false in
    total_becomes t _ a.weight e (put_word total_at a.weight t (omega (arith, legal_header t e)))

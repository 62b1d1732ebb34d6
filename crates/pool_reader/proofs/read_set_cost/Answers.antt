use mathlib.Core.Path.{◌≡◌, sym, ap, ◌∙◌}
use mathlib.Core.List.{List}
use Prim.Native.Nat.{ℕ}
use lib.ListN.{length, get_or}
use borrow.Author.Rules.{rules}
use Rattle.txids.specs.Txids.{txid_at}
use Rattle.pool_reader.specs.Requests.{set_cost, as_set_cost}
use Rattle.pool_reader.proofs.Reading.{only_none, only_some, txid_is}
use Rattle.pool_reader.proofs.Asking.{no_txid_cost, no_cost, is_cost}
use Rattle.pool_reader.proofs.read_set_cost.Goals as goal

pub returns-in_err-numbers : goal.returns-in_err-numbers
returns-in_err-numbers c = λ ps. rw c.from_residual.ensures (sym (no_txid_cost _ c.in_err-numbers.ensures))

pub only_numbers-requires : goal.only_numbers-requires
only_numbers-requires c = let t = c.in_ok-numbers.ensures in (search rules, t.place)

pub returns-in_err-cost : goal.returns-in_err-cost
returns-in_err-cost c =
    let t = c.in_ok-numbers.ensures in
    λ ps. rw c.from_residual-in_err-cost.ensures (sym (ap as_set_cost t.words ∙ no_cost t.word _ (only_none _ _ c.in_err-cost.ensures)))

pub returns : goal.returns
returns c =
    let t = c.in_ok-numbers.ensures in
    let size : length c.args.txid.now ≡ 32 = search rules in
    let read = only_some _ _ c.in_ok-cost.ensures in
    λ ps.
    ap (λ (x : List ℕ). set_cost (txid_at x 0) (get_or c.in_ok-cost.field-0 0 0)) (txid_is size t)
    ∙ sym (ap as_set_cost t.words ∙ is_cost t.word _ c.in_ok-cost.field-0 t.hex read.0 read.1)

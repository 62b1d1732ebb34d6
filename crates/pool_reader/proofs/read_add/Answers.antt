use mathlib.Core.Path.{◌≡◌, sym, ap, ◌∙◌}
use mathlib.Core.List.{List, ◌∷◌}
use Prim.Native.Nat.{ℕ}
use lib.ListN.{length}
use borrow.Author.Rules.{rules}
use Rattle.pool_reader.specs.Requests.{as_add}
use Rattle.pool_reader.proofs.Reading.{txid_is, count_read}
use Rattle.pool_reader.proofs.Asking.{no_txid_add, no_numbers_add, no_parents_add, is_add}
use Rattle.pool_reader.proofs.read_add.Goals as goal

pub returns-in_err-numbers : goal.returns-in_err-numbers
returns-in_err-numbers c = rw c.from_residual.ensures (sym (no_txid_add _ c.in_err-numbers.ensures))

pub read_numbers-requires : goal.read_numbers-requires
read_numbers-requires c = let t = c.in_ok-numbers.ensures in (search rules, t.place)

pub returns-in_err-fee : goal.returns-in_err-fee
returns-in_err-fee c =
    let t = c.in_ok-numbers.ensures in
    rw c.from_residual-in_err-fee.ensures (sym (ap as_add t.words ∙ no_numbers_add t.word _ c.in_err-fee.ensures))

pub read_txids-requires : goal.read_txids-requires
read_txids-requires c = let n = c.in_ok-fee.ensures in record { place = n.1.place; out_len = search rules }

pub returns-in_err-listed : goal.returns-in_err-listed
returns-in_err-listed c =
    let t = c.in_ok-numbers.ensures in
    let n = c.in_ok-fee.ensures in
    rw c.from_residual-in_err-listed.ensures
    (sym (ap as_add (t.words ∙ ap (λ (ws : List (List ℕ)). t.word ∷ ws) n.1.words) ∙ no_parents_add t.word n.1.read _ (count_read 3 n.0 n.1) c.in_err-listed.ensures))

pub returns : goal.returns
returns c =
    let t = c.in_ok-numbers.ensures in
    let n = c.in_ok-fee.ensures in
    let ps = c.in_ok-listed.ensures in
    let size : length c.args.txid.now ≡ 32 = search rules in
    rw (txid_is size t, n.1.are, ps.bytes)
    (sym (ap as_add (t.words ∙ ap (λ (ws : List (List ℕ)). t.word ∷ ws) n.1.words) ∙ is_add t.word n.1.read _ (count_read 3 n.0 n.1) t.hex n.1.numbers ps.are))

use mathlib.Core.Path.{◌≡◌, sym, ap, ◌∙◌}
use mathlib.Core.List.{List, ◌∷◌}
use Prim.Native.Nat.{ℕ}
use lib.ListN.{length}
use borrow.Author.Rules.{rules}
use Rattle.txids.specs.Txids.{txid_at}
use Rattle.pool_reader.specs.Requests.{remove, as_remove}
use Rattle.pool_reader.proofs.Reading.{txid_is, words_none, words_next}
use Rattle.pool_reader.proofs.Asking.{no_txid_remove, more_remove, is_remove}
use Rattle.pool_reader.proofs.read_remove.Goals as goal

pub returns-in_err-end : goal.returns-in_err-end
returns-in_err-end c = λ ps. rw c.from_residual.ensures (sym (no_txid_remove _ c.in_err-end.ensures))

pub returns-then-end-line : goal.returns-then-end-line
returns-then-end-line c =
    let t = c.in_ok-end.ensures in
    λ ps. sym (ap as_remove (t.words ∙ ap (λ (ws : List (List ℕ)). t.word ∷ ws) (words_next _ _ c.if-end-line.true)) ∙ more_remove _ _ _)

pub returns : goal.returns
returns c =
    let t = c.in_ok-end.ensures in
    let long : length c.args.txid.now ≡ 32 = search rules in
    λ ps.
    ap (λ (x : List ℕ). remove (txid_at x 0)) (txid_is long t)
    ∙ sym (ap as_remove (t.words ∙ ap (λ (ws : List (List ℕ)). t.word ∷ ws) (words_none _ _ c.if-end-line.false)) ∙ is_remove t.word t.hex)

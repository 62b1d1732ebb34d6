-- `Txid::at`: word by word. Assumes nothing.
use native.Mathlib.Nat.{add-zero}
use mathlib.Core.Path.{ap, ◌∙◌}
use Rattle.txids.specs.Txids.{word_at, txid_at}
use Rattle.txids.proofs.Txid.at.Goals as goal

pub returns : goal.returns
unfolding txid_at
returns c = let a = c.args in
    let e = c.word.ensures ∙ ap (word_at a.bytes.now) (add-zero a.at) in
    λ i. record { w0 = e i; w1 = c.word-2.ensures i; w2 = c.word-3.ensures i; w3 = c.word-4.ensures i }

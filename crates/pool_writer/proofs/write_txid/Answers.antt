use Rattle.texts.proofs.Append.{two, three}
use Rattle.pool_writer.specs.Texts.{word_text, txid_text}
use Rattle.pool_writer.proofs.write_txid.Goals as goal

pub returns : goal.returns
unfolding txid_text
returns c =
    let txid = c.args.txid in
    two (word_text txid.w0) _ c.write_word-at.ensures
    (three (word_text txid.w1) (word_text txid.w2) (word_text txid.w3) c.write_word-at-2.ensures c.write_word-at-3.ensures c.write_word.ensures)

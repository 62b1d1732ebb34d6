-- What the pool program prints of a txid: 64 hex digits, those of its 32 bytes. A txid is held as four words of eight bytes each, the first
-- byte the highest; that these are the bytes which it was given is a theorem (proofs/Theorems.antt). Assumes nothing.
use Rattle.std.specs.Prelude.{ℕ, zero, suc, ◌/◌, ◌%◌, List, [], ◌∷◌, ◌++◌}
use Rattle.texts.specs.Hex.{hex_text}
use Rattle.txids.specs.declared.Txid.{Txid}
use Rattle.pool_table.specs.Pool.{slot_at}
use Rattle.pool_table.specs.Words.{pool_of}

-- the last so many bytes of a number, the last of them the lowest
unfoldable pub word_bytes : ℕ → ℕ → List ℕ
word_bytes zero n = []
word_bytes (suc k) n = word_bytes k (n / 256) ++ (n % 256 ∷ [])

abbrev pub word_text : ℕ → List ℕ
word_text w = hex_text (word_bytes 8 w)

unfoldable pub txid_text : Txid → List ℕ
txid_text x = word_text x.w0 ++ (word_text x.w1 ++ (word_text x.w2 ++ word_text x.w3))

-- what it prints of the entry that stands in a slot of a table
abbrev pub slot_text : List ℕ → ℕ → List ℕ
slot_text t s = txid_text (slot_at (pool_of t) s).entry.txid

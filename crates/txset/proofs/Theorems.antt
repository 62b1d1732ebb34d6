-- A set is its members, for readers of specs/Sets.antt: a contract that says of each position whether it is a member allows one value only.
-- That a word is below 2^64 holds of every word of a machine. Assumes nothing.
use mathlib.Core.Path.{◌≡◌, sym, ap, ◌∙◌}
use mathlib.Core.List.{List, []}
use Prim.Native.Nat.{ℕ, ◌^◌, ◌<◌}
use lib.ListN.{length}
use lib.Seq.{ext_get_or}
use Rattle.txset.specs.declared.TxSet.{TxSet}
use Rattle.txset.specs.Sets.{mem, set_at}
use Rattle.txset.proofs.Bits.{has_ext}
use Rattle.txset.proofs.Words.{Fits, has_in_low}

-- two sets with the same members are one value
pub set_ext : (s t : TxSet) → s.word < 2 ^ 64 → t.word < 2 ^ 64 → ((i : ℕ) → mem s i ≡ mem t i) → s ≡ t
unfolding mem
set_ext s t hs ht h =
    ap {B = TxSet} (λ (w : ℕ). record { word = w })
    (has_ext 64 s.word t.word hs ht (λ i l. sym (has_in_low s.word [] i l) ∙ h i ∙ has_in_low t.word [] i l))

-- two lists of as many sets, each with the same members as the other's at its place, are one list
pub sets_ext : (us vs : List ℕ) → length us ≡ length vs → Fits us → Fits vs → ((i a : ℕ) → mem (set_at us i) a ≡ mem (set_at vs i) a) → us ≡ vs
unfolding set_at
sets_ext us vs e hu hv h = ext_get_or 0 us vs e (λ i _. ap (λ (s : TxSet). s.word) (set_ext (set_at us i) (set_at vs i) (hu i) (hv i) (h i)))

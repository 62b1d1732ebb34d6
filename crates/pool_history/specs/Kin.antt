-- The clusters that stand, by the calls alone: "parents' clusters together" of refusals 8 and 9. That they are the clusters of the pool is
-- proofs/Kin.antt. Assumes nothing.
use Rattle.std.specs.Prelude.{ℕ, ◌≡◌, true, false, ◌||◌, List}
use Rattle.txids.specs.declared.Txid.{Txid}
use Rattle.txids.specs.Txids.{same_txid}
use Rattle.pool_history.specs.History.{Event}
use Rattle.pool_history.specs.Standing.{stands, lists, linked}

-- y is in the cluster of x: it is x, or links go there, each either way
pub data Kin (es : List Event) : Txid → Txid → Type 0 where
  itself : {x : Txid} → Kin es x x
  link : {x y z : Txid} → (linked es x y || linked es y x) ≡ true → Kin es y z → Kin es x z

-- y is in the cluster of a parent that a newcomer lists. "A listed parent not in the pool, the own txid .. is ignored."
pub record Joining (es : List Event) (own : Txid) (listed : List ℕ) (y : Txid) : Type 0 where
  pub parent : Txid
  pub named : lists listed parent ≡ true
  pub stood : stands es parent ≡ true
  pub other : same_txid own parent ≡ false
  pub kin : Kin es parent y

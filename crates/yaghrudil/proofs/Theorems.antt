-- "prove that any two outcomes allowed by one contract coincide": of each of the three calls, whatever it is lent, what it answers and
-- what its slice holds at the end. No proof of a function cites these. Assumes nothing.
use Prim.Native.Nat.{ℕ}
use mathlib.Core.Path.{◌≡◌, sym, ◌∙◌}
use mathlib.Core.List.{List}
use lib.IntN.{ℤ}
use Rattle.refusals.specs.declared.Reply.{Reply}
use Rattle.linearize.specs.Linearize as linearize
use Rattle.post_linearize.specs.PostLinearize as post
use Rattle.chunking.specs.Chunks as chunks

-- an outcome that a contract allows which says: this reply, and this at the end
pub record Allowed (reply : Reply) (after : List ℕ) (answer : Reply) (memory : List ℕ) : Type 0 where
  pub answers : answer ≡ reply
  pub leaves : memory ≡ after

coincide : {reply a b : Reply} {after l m : List ℕ} → Allowed reply after a l → Allowed reply after b m → (a ≡ b) × (l ≡ m)
coincide p q = (p.answers ∙ sym q.answers, p.leaves ∙ sym q.leaves)

module _ (fs : List ℤ) (ss ps lent : List ℕ) {a b : Reply} {l m : List ℕ} where
  pub linearize_one : Allowed (linearize.reply fs ss ps lent) (linearize.room_after fs ss ps lent) a l
      → Allowed (linearize.reply fs ss ps lent) (linearize.room_after fs ss ps lent) b m → (a ≡ b) × (l ≡ m)
  linearize_one = coincide

  pub post_linearize_one : Allowed (post.reply fs ss ps lent) (post.order_after fs ss ps lent) a l
      → Allowed (post.reply fs ss ps lent) (post.order_after fs ss ps lent) b m → (a ≡ b) × (l ≡ m)
  post_linearize_one = coincide

pub chunk_lengths_one : (fs : List ℤ) (ss room : List ℕ) {a b : Reply} {l m : List ℕ} → Allowed (chunks.reply fs ss room) (chunks.room_after fs ss room) a l
    → Allowed (chunks.reply fs ss room) (chunks.room_after fs ss room) b m → (a ≡ b) × (l ≡ m)
chunk_lengths_one fs ss room = coincide

-- What the functions of this crate answer and leave. Assumes nothing.
use Rattle.std.specs.Prelude.{ℕ, Bool, cond, ◌&&◌, List, length, leb, ℤ}
use Rattle.lists.specs.Lists.{overwrite}
use Rattle.txset.specs.Sets.{positions}
use Rattle.cluster_writer.specs.Writing.{success_text}

-- at most 64 members and as many chunks
unfoldable pub few : List ℕ → List ℕ → Bool
few order lens = leb (length order) positions && leb (length lens) positions

unfoldable pub success_printed : List ℤ → List ℕ → List ℕ → List ℕ → ℕ
success_printed fs ss order lens = cond (few order lens) (length (success_text fs ss order lens)) 0

unfoldable pub success_room : List ℤ → List ℕ → List ℕ → List ℕ → List ℕ → List ℕ
success_room fs ss order lens room = cond (few order lens) (overwrite (success_text fs ss order lens) room) room

-- For readers: what is printed for a text that is too long, or that is decided, shows at its start. No proof of a function cites this.
-- Assumes nothing.
use mathlib.Core.Path.{◌≡◌, ap}
use mathlib.Core.Bool.{true}
use mathlib.Core.List.{List, ◌++◌}
use Prim.Native.Nat.{ℕ, ◌<◌}
use lib.ListN.{length}
use Rattle.cluster_reader.specs.Lines.{longest_text}
use Rattle.cluster_reader.specs.Calls.{is_decided}
use Rattle.cluster_reader.proofs.Theorems.{full_decides, decided_decides}
use Rattle.cluster_respond.specs.Program.{text_of, response}

-- a start that is longer than all lines of the largest cluster gives the response, whatever stands behind it
pub full_responds : (start rest : List ℕ) → longest_text < length start → response (start ++ rest) ≡ response start
unfolding response
full_responds start rest l = ap text_of (full_decides start rest l)

-- and so does a start that is decided
pub decided_responds : (start rest : List ℕ) → is_decided start ≡ true → response (start ++ rest) ≡ response start
unfolding response
decided_responds start rest e = ap text_of (decided_decides start rest e)

-- A list of lists as one list and the places at which each part of it starts: part k is from `starts` k to `starts` (k + 1).
-- Assumes nothing.
use Rattle.std.specs.Prelude.{ℕ, suc, ◌+◌, ◌<◌, ◌≤◌, ◌≡◌, List, [], length, get_or, take, drop}

pub record Rows (flat starts : List ℕ) (parts : List (List ℕ)) : Type 0 where
  pub first : get_or starts 0 0 ≡ 0
  pub next : (k : ℕ) → k < length parts → get_or starts (suc k) 0 ≡ get_or starts k 0 + length (get_or parts k [])
  pub part : (k : ℕ) → k < length parts → take (length (get_or parts k [])) (drop (get_or starts k 0) flat) ≡ get_or parts k []
  pub within : get_or starts (length parts) 0 ≤ length flat

-- Where a session stands: at the start of arrays of a fixed length; and what a step leaves of these and writes to its room. Assumes nothing.
use Rattle.std.specs.Prelude.{ℕ, ◌≤◌, ◌≡◌, cond, List, eqb, length, take, ℤ}
use Rattle.lists.specs.Lists.{overwrite}
use Rattle.slotsets.specs.SlotSets.{capacity}
use Rattle.pool_table.specs.Words.{row_at}
use Rattle.pool_reader.specs.Requests.{Request}
use Rattle.pool_session.specs.declared.Memory.{Memory}
use Rattle.pool_session.specs.Session.{Session, slots_of, after}
use Rattle.pool_session.specs.Answers.{text_of}

-- what a step is lent
pub record Lent : Type 0 where
  pub words : List ℕ
  pub deltas : List ℤ
  pub marks : List ℕ
  pub out : List ℕ

abbrev pub lent : List ℕ → List ℤ → List ℕ → List ℕ → Lent
lent words deltas marks out = record { words = words; deltas = deltas; marks = marks; out = out }

-- the arrays of a memory, and a room
abbrev pub lends : Memory → List ℕ → Lent
lends m out = lent m.words m.deltas m.marks out

-- the words of a table of n slots; without a pool there is none
unfoldable pub words_for : ℕ → ℕ
words_for n = cond (eqb n 0) 0 (row_at n)

-- the session of n slots
abbrev pub session_in : ℕ → Lent → Session
session_in n m = record { table = take (words_for n) m.words; deltas = take n m.deltas; marks = take n m.marks }

-- a text stands at the room's start, the rest of the room as it was
abbrev pub Says : List ℕ → List ℕ → List ℕ → ℕ → Type 0
Says text old new len = (len ≡ length text) × (new ≡ overwrite text old)

-- line number k, which asks for q, was answered in a session of n slots: what it leaves stands where the session stood, and all else is as
-- it was
pub record Answered (n k : ℕ) (q : Request) (old new : Lent) (len : ℕ) : Type 0 where
  pub words : new.words ≡ overwrite (after (session_in n old) q).table old.words
  pub deltas : new.deltas ≡ overwrite (after (session_in n old) q).deltas old.deltas
  pub marks : new.marks ≡ overwrite (after (session_in n old) q).marks old.marks
  pub says : Says (text_of (session_in n old) k q) old.out new.out len

-- and it has so many slots then
pub record Stepped (n k : ℕ) (q : Request) (old new : Lent) (left len : ℕ) : Type 0 where
  pub slots : left ≡ slots_of (after (session_in n old) q)
  pub answers : Answered n k q old new len

-- ---- for the crate's own functions

-- a line that asks for q is answered, whatever its number
abbrev pub Does : Request → Memory → List ℕ → Memory → List ℕ → ℕ → Type 0
Does q old room new written len = (k : ℕ) → Stepped old.slots k q (lends old room) (lends new written) new.slots len

-- the arrays have room for any pool
abbrev pub memory_length : ℕ
memory_length = row_at capacity

pub record Sized (m : Memory) : Type 0 where
  pub few : m.slots ≤ capacity
  pub memory : length m.words ≡ memory_length
  pub deltas : length m.deltas ≡ capacity
  pub marks : length m.marks ≡ capacity

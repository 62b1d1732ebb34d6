-- Where the pool program stands behind the bytes that it has read so far, however they came. Assumes nothing.
use Rattle.std.specs.Prelude.{ℕ, suc, ◌≤◌, min, ◌≡◌, true, List, [], ◌∷◌, ◌++◌, length, take}
use Rattle.texts.specs.Places.{split, split_from}
use Rattle.pool_reader.specs.Requests.{longest_line, request_of}
use Rattle.pool_session.specs.declared.Memory.{Memory}
use Rattle.pool_session.specs.Session.{Session, no_pool, slots_of}
use Rattle.pool_session.specs.Answers.{text_of}
use Rattle.pool_session.specs.Program.{last_text, number_behind, answers_from, behind_lines}
use Rattle.pool_session.specs.Memory.{lends, session_in}
use Rattle.pool_run.specs.declared.Desk.{Desk}
use Rattle.pool_run.specs.declared.writes.Printed.{Printed}
use Rattle.pool_run.specs.Reads.{held}

-- the bytes that are kept of a line: one more than it may have, so that a longer one is still known as such
abbrev pub kept_length : ℕ
kept_length = suc longest_line

-- the line that is being read has these bytes so far, and the first of them are kept
pub record Gathered (pending line : List ℕ) (len : ℕ) : Type 0 where
  pub many : len ≡ min kept_length (length pending)
  pub held : take len line ≡ take kept_length pending

-- ---- what is printed

-- the answers of whole lines, as where the input ends behind them
abbrev pub printed_of : List (List ℕ) → List ℕ
printed_of lines = answers_from no_pool 1 (lines ++ ([] ∷ []))

-- these lines were answered, with so many bytes together, and the next one is this number; the output takes more
pub record Shown (p : Printed) (lines : List (List ℕ)) : Type 0 where
  pub takes : p.is_open ≡ true
  pub number : p.number ≡ number_behind (length lines)
  pub bytes : p.bytes ≡ held (length (printed_of lines))

-- behind the answers of some lines, this text is that of the next one, which asks for what this line asks for, and leaves this session
pub record Due (p : Printed) (text line : List ℕ) (left : Session) : Type 0 where
  pub lines : List (List ℕ)
  pub pending : List ℕ
  pub shown : Shown p lines
  pub asks : request_of line ≡ request_of pending
  pub leaves : left ≡ behind_lines no_pool (lines ++ (pending ∷ []))
  pub says : text ≡ text_of (behind_lines no_pool lines) p.number (request_of pending)

-- and this one that of the input's end
pub record DueLast (p : Printed) (text : List ℕ) : Type 0 where
  pub lines : List (List ℕ)
  pub pending : List ℕ
  pub shown : Shown p lines
  pub says : text ≡ last_text p.number pending

-- ---- where the program stands

-- whatever the rest of the input is, it was cut into these lines, and the rest goes on with the pending one
abbrev pub Cut : List ℕ → List (List ℕ) → List ℕ → Type 0
Cut input lines pending = (rest : List ℕ) → split 10 (input ++ rest) ≡ lines ++ split_from 10 pending rest

-- the lines of this input are answered, its last one is gathered; the session in the memory is what these lines leave
pub record Stands (input : List ℕ) (d : Desk) : Type 0 where
  pub lines : List (List ℕ)
  pub pending : List ℕ
  pub cut : Cut input lines pending
  pub gathered : Gathered pending d.line d.len
  pub shown : Shown d.printed lines
  pub slots : d.memory.slots ≡ slots_of (behind_lines no_pool lines)
  pub session : session_in d.memory.slots (lends d.memory []) ≡ behind_lines no_pool lines

-- behind some input
pub record Stood (d : Desk) : Type 0 where
  pub input : List ℕ
  pub stands : Stands input d

-- "answers each before it reads on" (README): of so many bytes that were read, each whole line is answered. (This says nothing of the arrays)
pub record Told (read : ℕ) (d : Desk) : Type 0 where
  pub input : List ℕ
  pub lines : List (List ℕ)
  pub pending : List ℕ
  pub many : read ≡ held (length input)
  pub cut : Cut input lines pending
  pub kept : d.len ≡ min kept_length (length pending)
  pub shown : Shown d.printed lines

-- a text stands at the room's start
pub record Holds (text room : List ℕ) (len : ℕ) : Type 0 where
  pub within : len ≤ length room
  pub says : take len room ≡ text

-- the pending line is done, behind these lines: its answer stands in the room, and what it leaves in the memory
pub record Responded (lines : List (List ℕ)) (pending : List ℕ) (number : ℕ) (new : Memory) (out : List ℕ) (len : ℕ) : Type 0 where
  pub holds : Holds (text_of (behind_lines no_pool lines) number (request_of pending)) out len
  pub slots : new.slots ≡ slots_of (behind_lines no_pool (lines ++ (pending ∷ [])))
  pub session : session_in new.slots (lends new out) ≡ behind_lines no_pool (lines ++ (pending ∷ []))

-- What the program's reads promise: why it stops reading, and that what was read lies within its room. That a read gave nothing, or
-- failed, shows in no contract; `End` and `Failure` stand for it, which only `read_more` can make. Assumes nothing.
use Rattle.std.specs.Prelude.{ℕ, ◌+◌, ◌≤◌, ◌<◌, ◌≡◌, true, List, length, take, Option, Some, None}
use Rattle.cluster_reader.specs.Calls.{is_decided}
use Rattle.cluster_run.specs.declared.reads.Got.{Got}
use Rattle.cluster_run.specs.declared.reads.Got.TheVariants as got
use Rattle.cluster_run.specs.declared.Stop.{Stop}
use Rattle.cluster_run.specs.declared.Stop.TheVariants as stop

-- a read behind `from` bytes gave some, for which there is a place among `most`; or it gave none there, or failed there
abbrev pub Gave : ℕ → ℕ → Got → Type 0
Gave from most (got.Bytes n) = (0 < n) × (from + n ≤ most)
Gave from most (got.Ended e) = e.at ≡ from
Gave from most (got.Failed f) = f.at ≡ from

-- why reading stopped: a read gave none behind so many bytes; so many fill the room; they decide; or a read failed
abbrev pub Stopped : List ℕ → Stop → Type 0
Stopped text (stop.Ended e) = e.at ≤ length text
Stopped text (stop.Full n) = n ≡ length text
Stopped text (stop.Decided n) = (n ≤ length text) × (is_decided (take n text) ≡ true)
Stopped text (stop.Failed f) = f.at < length text

-- how many bytes the answer goes by: those that were read, unless a read failed
abbrev pub text_read : Stop → Option ℕ
text_read (stop.Ended e) = Some e.at
text_read (stop.Full n) = Some n
text_read (stop.Decided n) = Some n
text_read (stop.Failed f) = None

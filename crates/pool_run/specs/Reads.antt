-- What a read of the program's input and a write of its output give. No contract can say which bytes these moved, or that there were none;
-- `Input`, `End` and `Failure` stand for it, which only the module `reads` can make, and `Printed`, which only `writes` can. Assumes nothing.
use Rattle.std.specs.Prelude.{ℕ, suc, ◌+◌, ◌≤◌, ◌<◌, min, ◌≡◌, true}
use Rattle.pool_session.specs.Program.{last_number, number_behind}
use Rattle.pool_run.specs.declared.reads.Input.{Input}
use Rattle.pool_run.specs.declared.reads.Got.{Got}
use Rattle.pool_run.specs.declared.reads.Got.TheVariants as got
use Rattle.pool_run.specs.declared.writes.Printed.{Printed}

-- a count in a u64 stops at its end (README: "held")
abbrev pub held : ℕ → ℕ
held n = min n last_number

abbrev pub unread : Input
unread = record { reads = 0; bytes = 0; last = 0 }

-- one read more, of some bytes for which there is a place among `most`; or the end behind as many bytes as before, or a failure there
abbrev pub Gave : Input → ℕ → Got → Type 0
Gave before most (got.Bytes i) =
    (0 < i.last) × (i.last ≤ most) × (i.reads ≡ held (suc before.reads)) × (i.bytes ≡ held (before.bytes + i.last))
Gave before most (got.Ended e) = e.bytes ≡ before.bytes
Gave before most (got.Failed f) = f.bytes ≡ before.bytes

abbrev pub unprinted : Printed
unprinted = record { number = 1; bytes = 0; is_open = true }

-- a text of so many bytes more, if the output took it
abbrev pub Wrote : Printed → ℕ → Printed → Type 0
Wrote before n p = p.is_open ≡ true → (p.number ≡ number_behind before.number) × (p.bytes ≡ held (before.bytes + n))

-- From the cases of a stop to what is said of it. Assumes nothing.
use mathlib.Core.Path.{◌≡◌, ◌∙◌}
use mathlib.Core.Bool.{true}
use mathlib.Core.List.{List, ◌++◌}
use Prim.Native.Nat.{ℕ, suc, ◌+◌, ◌≤◌, ◌<◌}
use native.Mathlib.Omega.{arith}
use lib.ListN.{length, take, length-append}
use lib.Seq.{length-take-le}
use Rattle.pool_session.specs.Program.{last_number}
use Rattle.pool_run.specs.declared.Desk.{Desk}
use Rattle.pool_run.specs.Reads.{held}
use Rattle.pool_run.specs.Standing.{Stands}
use Rattle.pool_run.specs.Stops.{Behind}

-- ---- a turn: what a read gave was taken in

pub one_turn : (turns reads : ℕ) {next : ℕ} → reads ≡ turns → turns < last_number → next ≡ held (suc reads) → next ≡ turns + 1
one_turn turns reads e h n = omega (arith, e, n)

module _ {before : ℕ} {d : Desk} (b : Behind before d) where
  -- as many bytes by another name
  pub as_many : {read : ℕ} → read ≡ before → Behind read d
  as_many e = record { input = b.input; many = e ∙ b.many; stands = b.stands }

  pub further : (chunk : List ℕ) {n last : ℕ} {e : Desk} {next : ℕ}
      → ((input : List ℕ) → Stands input d → e.printed.is_open ≡ true → Stands (input ++ take n chunk) e)
      → e.printed.is_open ≡ true → n ≡ last → n ≤ length chunk → next ≡ held (before + last) → Behind next e
  further chunk {n} took still same within h = record {
    input = b.input ++ take n chunk;
    many = omega (arith, b.many, h, same, length-append b.input (take n chunk), length-take-le n chunk within);
    stands = took b.input b.stands still;
  }

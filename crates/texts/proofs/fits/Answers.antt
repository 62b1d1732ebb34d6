use mathlib.Core.Path.{sym}
use Prim.Native.Nat.{◌+◌, ◌-◌}
use native.Mathlib.Omega.{arith}
use borrow.Author.Tests.{lt-leb}
use Rattle.lists.proofs.Numbers.{leb_same}
use Rattle.texts.proofs.fits.Goals as goal

pub returns-then-room-at : goal.returns-then-room-at
returns-then-room-at c = sym (lt-leb (c.args.at + c.args.len) c.args.room (omega arith))

pub returns : goal.returns
returns c = let a = c.args in leb_same a.len (a.room - a.at) (a.at + a.len) a.room (λ h. omega arith) (λ h. omega arith)

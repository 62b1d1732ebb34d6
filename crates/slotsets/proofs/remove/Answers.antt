use mathlib.Core.Path.{refl}
use Prim.Native.Nat.{◌/◌}
use borrow.Author.Rules.{rules}
use Rattle.slotsets.proofs.Words.{removed, removed_past}
use Rattle.slotsets.proofs.remove.Goals as goal

pub returns-then-j-set : goal.returns-then-j-set
returns-then-j-set c = let s = c.before.before in record {
  set_len_unchanged = search rules;
  by_index = removed s.args.set.now s.args.a c.if-j-set.true (c.slice_known-1.given (s.args.a / 64)).fits;
}

pub returns-else-j-set : goal.returns-else-j-set
returns-else-j-set c = let s = c.before in record {
  set_len_unchanged = refl;
  by_index = removed_past s.args.set.now s.args.a c.if-j-set.false;
}

use borrow.Author.Rules.{rules}
use Rattle.slotsets.proofs.Words.{inserted}
use Rattle.slotsets.proofs.insert.Goals as goal

pub returns-then-j-set : goal.returns-then-j-set
returns-then-j-set c = let s = c.before.before in record {
  set_len_unchanged = search rules;
  by_index = inserted s.args.set.now s.args.a c.if-j-set.true;
}

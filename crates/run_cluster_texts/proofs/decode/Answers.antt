use lib.ListN.{length-set}
use borrow.Author.Rules.{rules}
use Rattle.run_cluster_texts.proofs.decode.Goals as goal

pub loop-i-preserved : goal.loop-i-preserved
loop-i-preserved c = simp length-set (search rules)

use Rattle.std.proofs.Common.{length, ◌-◌}
use Rattle.run_cluster_replay.proofs.replay.Given as goal

-- each case has a byte, so less is left behind it
abbrev pub decreases-loop-from : goal.decreases-loop-from
decreases-loop-from g l = length l.input - l.from

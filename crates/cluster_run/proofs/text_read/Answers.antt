use Rattle.cluster_run.proofs.text_read.Goals as goal

pub returns-in-Ended : goal.returns-in-Ended
returns-in-Ended c = cc

pub returns-in-Full : goal.returns-in-Full
returns-in-Full c = cc

pub returns-in-Decided : goal.returns-in-Decided
returns-in-Decided c = cc

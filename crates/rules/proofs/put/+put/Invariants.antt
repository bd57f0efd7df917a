use Rattle.rules.proofs.put.+put.Given as goal

-- the inputs of a node are below it
abbrev pub decreases-put : goal.decreases-put
decreases-put l = l.n

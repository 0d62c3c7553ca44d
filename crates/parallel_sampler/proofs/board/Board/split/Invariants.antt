use Rattle.parallel_sampler.proofs.board.Board.split.Given as goal

abbrev pub ghosts-given : goal.ghosts-given
ghosts-given a = record { amount = a.give }

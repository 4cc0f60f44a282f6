use Rattle.ep_threads.proofs.talk_on.Given as goal

abbrev pub ghosts-talk : goal.ghosts-talk
ghosts-talk g a = record { name = a.blank.name; parts = a.blank.parts }

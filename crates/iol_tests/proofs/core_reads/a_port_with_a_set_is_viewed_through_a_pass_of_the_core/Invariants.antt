use Rattle.iol_tests.proofs.core_reads.a_port_with_a_set_is_viewed_through_a_pass_of_the_core.Given as goal

-- the front that was just made
abbrev pub ghosts-view : goal.ghosts-view
ghosts-view g a = record { front = a.front }

use Rattle.durable_changes.proofs.Again.{alters_nothing, first_of_three, is_coherent, is_planned, leader, no_jobs, own_vote, tick_now, votes_again}
use Rattle.durable_changes.proofs.laws.a_vote_may_be_cast_again.Goals as goal

pub returns : goal.returns
returns c = (first_of_three, no_jobs, tick_now, leader, own_vote, is_coherent, is_planned, votes_again, alters_nothing)

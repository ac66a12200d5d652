use Rattle.history.proofs.Refused.{no_stranger, no_letter, no_answer, no_minute, no_call, not_kept, no_change, no_start, no_arrival, no_votes_of_a_campaign, one_letter_of_a_campaign, no_turn_of_a_stopped, no_entries_of_a_campaign, no_plan, no_other_addressee, no_second_arrival, no_call_left_out}
use Rattle.history.proofs.books.some_turns_are_not_legal.Goals as goal

pub returns-clause-stranger : goal.returns-clause-stranger
returns-clause-stranger c = no_stranger

pub returns-clause-letter : goal.returns-clause-letter
returns-clause-letter c = no_letter

pub returns-clause-answer : goal.returns-clause-answer
returns-clause-answer c = no_answer

pub returns-clause-minute : goal.returns-clause-minute
returns-clause-minute c = no_minute

pub returns-clause-call : goal.returns-clause-call
returns-clause-call c = no_call

pub returns-clause-kept : goal.returns-clause-kept
returns-clause-kept c = not_kept

pub returns-clause-change : goal.returns-clause-change
returns-clause-change c = no_change

pub returns-clause-start : goal.returns-clause-start
returns-clause-start c = no_start

pub returns-clause-arrival : goal.returns-clause-arrival
returns-clause-arrival c = no_arrival

pub returns-clause-votes : goal.returns-clause-votes
returns-clause-votes c = no_votes_of_a_campaign

pub returns-clause-letters : goal.returns-clause-letters
returns-clause-letters c = one_letter_of_a_campaign

pub returns-clause-stopped : goal.returns-clause-stopped
returns-clause-stopped c = no_turn_of_a_stopped

pub returns-clause-entries : goal.returns-clause-entries
returns-clause-entries c = no_entries_of_a_campaign

pub returns-clause-plan : goal.returns-clause-plan
returns-clause-plan c = no_plan

pub returns-clause-addressee : goal.returns-clause-addressee
returns-clause-addressee c = no_other_addressee

pub returns-clause-second : goal.returns-clause-second
returns-clause-second c = no_second_arrival

pub returns-clause-unmade : goal.returns-clause-unmade
returns-clause-unmade c = no_call_left_out

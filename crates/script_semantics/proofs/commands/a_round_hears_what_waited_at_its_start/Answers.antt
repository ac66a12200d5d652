use Rattle.script_semantics.proofs.RoundLemmas.{answers, asked, heard, reading, running, ticks, waited}
use Rattle.script_semantics.proofs.commands.a_round_hears_what_waited_at_its_start.Goals as goal

pub returns-clause-waited : goal.returns-clause-waited
returns-clause-waited c = waited

pub returns-clause-heard : goal.returns-clause-heard
returns-clause-heard c = heard

pub returns-clause-ticks : goal.returns-clause-ticks
returns-clause-ticks c = ticks

pub returns-clause-reading : goal.returns-clause-reading
returns-clause-reading c = reading

pub returns-clause-answers : goal.returns-clause-answers
returns-clause-answers c = answers

pub returns-clause-asked : goal.returns-clause-asked
returns-clause-asked c = asked

pub returns-clause-stopped : goal.returns-clause-stopped
returns-clause-stopped c = running

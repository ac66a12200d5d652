use Rattle.script_play.proofs.SettledLemmas.{settled, walked_on, within}
use Rattle.script_play.proofs.laws.a_world_that_settles_ends_quietly.Goals as goal

pub returns-clause-limits : goal.returns-clause-limits
returns-clause-limits c = within

pub returns-clause-settles : goal.returns-clause-settles
returns-clause-settles c = λ table rows more situation after old new at log was is some same bounded.
    settled table rows more situation after old new was is some same bounded at log

pub returns-clause-walks : goal.returns-clause-walks
returns-clause-walks c = λ table rows more situation after old new to log was is some same bounded.
    walked_on table rows more situation after old new was is some same bounded to log

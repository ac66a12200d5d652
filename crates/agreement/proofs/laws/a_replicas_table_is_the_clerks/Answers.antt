use Rattle.agreement.specs.World.{first_world}
use Rattle.agreement.specs.Transition.{after_transitions}
use Rattle.agreement.proofs.Transitions.{first_followed, transitions_followed}
use Rattle.launch_machine.specs.Clerk.{first_rows}
use Rattle.agreement.proofs.Tables.{follows, short_of}
use Rattle.agreement.proofs.laws.a_replicas_table_is_the_clerks.Goals as goal

pub returns : goal.returns
returns c = λ members table transitions few may log is_log by member.
    let w = after_transitions members transitions (first_world (first_rows table)) in
    let followed = transitions_followed members table (first_rows table) (first_world (first_rows table)) transitions few (first_followed members table (first_rows table)) may in
    record {
      short = short_of members table (first_rows table) w log by followed.whole followed.tables is_log;
      table_is = λ rows is_table. (follows members table (first_rows table) w log by rows followed.whole followed.tables is_log is_table).1;
    }

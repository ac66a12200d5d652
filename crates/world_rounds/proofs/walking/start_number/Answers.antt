use Rattle.std.proofs.Common.{sym, subst}
use Rattle.launch_machine.specs.Machine.{Launches, StandsFor}
use Rattle.launch_machine.specs.Next.{IsNextStart, StartsNoMore}
use Rattle.world_rounds.proofs.WalkLemmas.{no_start_before}
use Rattle.world_rounds.proofs.walking.start_number.Goals as goal

pub returns-in-Some-clause-none : goal.returns-in-Some-clause-none
returns-in-Some-clause-none c = λ table stands.
    let next : IsNextStart table c.args.replica.now.machine.rows c.in-Some.first.0 =
    subst (λ (machine : Launches). IsNextStart table machine.rows c.in-Some.first.0) c.machine.ensures
    (c.in-Some.ensures.found table (subst (StandsFor table) (sym c.machine.ensures) stands)) in
    no_start_before table c.args.replica.now.machine.rows c.in-Some.first.0 c.args.number c.later_number.result next.least c.later_number.ensures.most

pub returns-in-None-clause-none : goal.returns-in-None-clause-none
returns-in-None-clause-none c = λ table stands minute from below job at takes.
    let no_more : StartsNoMore table c.args.replica.now.machine.rows =
    subst (λ (machine : Launches). StartsNoMore table machine.rows) c.machine.ensures
    (c.in-None.ensures.none table (subst (StandsFor table) (sym c.machine.ensures) stands)) in
    no_more job at _ takes

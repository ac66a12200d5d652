use Rattle.std.proofs.Common.{◌≡◌, None, Some, sym, ap, ◌∙◌, subst}
use Rattle.launch_machine.specs.Machine.{Launches, StandsFor}
use Rattle.launch_machine.specs.Next.{next_version_from}
use Rattle.world_rounds.proofs.WalkLemmas.{no_table_before, no_table_more}
use Rattle.world_rounds.proofs.walking.version_number.Goals as goal

pub next_version_from-requires : goal.next_version_from-requires
next_version_from-requires c = subst (StandsFor c.args.table.now) (sym c.machine.ensures) c.requires.of_table.stands

pub returns-in-Some-clause-none : goal.returns-in-Some-clause-none
returns-in-Some-clause-none c =
    let next : Some c.in-Some.from ≡ next_version_from c.args.table.now c.args.replica.now.machine.rows =
    c.in-Some.ensures ∙ ap (λ (machine : Launches). next_version_from c.args.table.now machine.rows) c.machine.ensures in
    no_table_before c.args.table.now c.args.replica.now.machine.rows c.in-Some.from c.args.number c.later_number.result (sym next) c.later_number.ensures.most

pub returns-in-None-clause-none : goal.returns-in-None-clause-none
returns-in-None-clause-none c =
    let none : None ≡ next_version_from c.args.table.now c.args.replica.now.machine.rows =
    c.in-None.ensures ∙ ap (λ (machine : Launches). next_version_from c.args.table.now machine.rows) c.machine.ensures in
    no_table_more c.args.table.now c.args.replica.now.machine.rows c.args.number 4294967295 (sym none)

use Rattle.std.proofs.Common.{◌≡◌, false, true, refl, subst}
use Rattle.launch_machine.specs.Answers.{IsIntent}
use Rattle.launch_machine.specs.Machine.{Launches}
use Rattle.run_replay.proofs.QuietLemmas.{asks_none, asks_some}
use Rattle.run_replay.proofs.quiet.asks_nothing.Goals as goal

pub returns-in-Rest : goal.returns-in-Rest
returns-in-Rest c =
    let intent : IsIntent c.args.table.now c.args.replica.now.machine.rows c.args.at.0 c.choose.result =
    subst (λ (machine : Launches). IsIntent c.args.table.now machine.rows c.args.at.0 c.choose.result) c.machine.ensures c.choose.ensures in
    (λ yes. asks_none c.args.table.now c.args.at.0 c.args.replica.now c.requires.of_table (subst (λ intent. IsIntent c.args.table.now c.args.replica.now.machine.rows c.args.at.0 intent) c.in-Rest.is intent), λ asks. refl)

pub returns-in_default : goal.returns-in_default
returns-in_default c =
    let intent : IsIntent c.args.table.now c.args.replica.now.machine.rows c.args.at.0 c.choose.result =
    subst (λ (machine : Launches). IsIntent c.args.table.now machine.rows c.args.at.0 c.choose.result) c.machine.ensures c.choose.ensures in
    (λ no. absurd (let e : false ≡ true = no in cc), λ asks. absurd (c.in_default.not-Rest (asks_some c.args.table.now c.args.at.0 c.args.replica.now c.choose.result c.requires.of_table intent asks)))

use Rattle.std.proofs.Common.{ap, sym, subst}
use Rattle.script_text.specs.Command.{IsInRange}
use Rattle.script_text.specs.declared.command.Command.TheVariants.{Settle}
use Rattle.script_semantics.specs.Arms.{PlaysByArms, armed_by}
use Rattle.script_semantics.specs.Commands.{tasks_for}
use Rattle.script_semantics.specs.Script.{IsPartOf}
use Rattle.world_law.specs.Book.{BookState}
use Rattle.run_audit.proofs.PartLemmas.{played_set}
use Rattle.run_audit.proofs.PlayLemmas.{comes_err}
use Rattle.run_audit.specs.Begins.{BeginsPart, BeginsToPlayByArms}
use Rattle.run_audit.specs.Played.{ComesOf, HasPlayedOn}
use Rattle.run_audit.proofs.parts.play_long.Goals as goal

pub play_rounds-requires-clause-inside : goal.play_rounds-requires-clause-inside
play_rounds-requires-clause-inside c = (subst (IsInRange c.args.replay.now.book.members c.args.table.now.window) c.in-Round.is c.requires.range).0.inside

pub play_settling-requires-clause-inside : goal.play_settling-requires-clause-inside
play_settling-requires-clause-inside c = (subst (IsInRange c.args.replay.now.book.members c.args.table.now.window) c.in-Settle.is c.requires.range).inside

pub play_walk-requires-clause-inside : goal.play_walk-requires-clause-inside
play_walk-requires-clause-inside c = (subst (IsInRange c.args.replay.now.book.members c.args.table.now.window) c.in-Walk.is c.requires.range).inside

pub arm-requires-clause-ready : goal.arm-requires-clause-ready
arm-requires-clause-ready c = (c.args.table.now, c.requires.ready)

pub arm-requires-clause-member : goal.arm-requires-clause-member
arm-requires-clause-member c = (subst (IsInRange c.args.replay.now.book.members c.args.table.now.window) c.in-Break.is c.requires.range).0

pub play_free-requires-clause-inside : goal.play_free-requires-clause-inside
play_free-requires-clause-inside c = (subst (IsInRange c.args.replay.now.book.members c.args.table.now.window) c.in-Free.is c.requires.range).0.inside

pub returns-in-Campaign : goal.returns-in-Campaign
returns-in-Campaign c =
    let n = c.args.replay.now.book.members in
    let table = c.args.table.now in
    subst (λ given. ComesOf table (BeginsPart n table given) (IsPartOf n table given) c.args.replay.now c.args.rest.now c.play_task_for.new.replay c.play_task_for.new.rest c.play_task_for.result) (sym c.in-Campaign.is)
    (subst (λ given. ComesOf table (BeginsToPlayByArms n (tasks_for given)) (PlaysByArms n (tasks_for given)) c.args.replay.now c.args.rest.now c.play_task_for.new.replay c.play_task_for.new.rest c.play_task_for.result)
    c.in-Campaign.is c.play_task_for.ensures)

pub returns-in-Round : goal.returns-in-Round
returns-in-Round c =
    let n = c.args.replay.now.book.members in
    let table = c.args.table.now in
    subst (λ given. ComesOf table (BeginsPart n table given) (IsPartOf n table given) c.args.replay.now c.args.rest.now c.play_rounds.new.replay c.play_rounds.new.rest c.play_rounds.result) (sym c.in-Round.is) c.play_rounds.ensures

pub returns-in-Walk : goal.returns-in-Walk
returns-in-Walk c =
    let n = c.args.replay.now.book.members in
    let table = c.args.table.now in
    subst (λ given. ComesOf table (BeginsPart n table given) (IsPartOf n table given) c.args.replay.now c.args.rest.now c.play_walk.new.replay c.play_walk.new.rest c.play_walk.result) (sym c.in-Walk.is) c.play_walk.ensures

pub returns-in-Free : goal.returns-in-Free
returns-in-Free c =
    let n = c.args.replay.now.book.members in
    let table = c.args.table.now in
    subst (λ given. ComesOf table (BeginsPart n table given) (IsPartOf n table given) c.args.replay.now c.args.rest.now c.play_free.new.replay c.play_free.new.rest c.play_free.result) (sym c.in-Free.is) c.play_free.ensures

pub returns-in_ok-play_settling-in-Settle : goal.returns-in_ok-play_settling-in-Settle
returns-in_ok-play_settling-in-Settle c =
    let n = c.args.replay.now.book.members in
    let table = c.args.table.now in
    subst (λ given. HasPlayedOn table (IsPartOf n table given) c.args.replay.now c.args.rest.now c.play_settling.new.replay c.play_settling.new.rest) (sym c.in-Settle.is) c.in_ok-play_settling-in-Settle.ensures.comes

pub returns-in_err-play_settling-in-Settle : goal.returns-in_err-play_settling-in-Settle
returns-in_err-play_settling-in-Settle c =
    let n = c.args.replay.now.book.members in
    let table = c.args.table.now in
    let stop = c.in_err-play_settling-in-Settle.field-0.0 in
    subst (λ given. ComesOf table (BeginsPart n table given) (IsPartOf n table given) c.args.replay.now c.args.rest.now c.play_settling.new.replay c.play_settling.new.rest c.from_residual.result) (sym c.in-Settle.is)
    (comes_err table (BeginsPart n table (Settle c.in-Settle.at)) (IsPartOf n table (Settle c.in-Settle.at)) c.args.replay.now c.args.rest.now c.play_settling.new.replay c.play_settling.new.rest c.from_residual.result
    stop c.from_residual.ensures.1 c.in_err-play_settling-in-Settle.ensures.comes)

pub returns-in-Break : goal.returns-in-Break
returns-in-Break c =
    let n = c.args.replay.now.book.members in
    let table = c.args.table.now in
    subst (λ given. HasPlayedOn table (IsPartOf n table given) c.args.replay.now c.args.rest.now c.arm.new.self c.args.rest.now) (sym c.in-Break.is)
    (played_set table (armed_by c.in-Break.member c.in-Break.pass c.in-Break.image) c.args.replay.now c.arm.new.self c.args.rest.now c.requires.few c.arm.ensures.sets
    (ap (λ (book : BookState). book.members) c.arm.ensures.book))

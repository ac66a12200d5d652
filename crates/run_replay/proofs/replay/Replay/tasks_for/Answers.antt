use Rattle.std.proofs.Common.{◌≡◌, ◌<◌, IfOk, Some, length, refl, sym, subst, arith}
use Rattle.std.specs.List.{slice_get}
use Rattle.std.proofs.lemmas.Option.{slice_get_read}
use Rattle.history.specs.declared.turn.Cause.TheVariants.{Campaign}
use Rattle.script_text.specs.Command.{IsInRange}
use Rattle.script_semantics.specs.Commands.{tasks_for}
use Rattle.run_replay.proofs.TaskLemmas.{arrival_asks, ok_so, runs_asks, stopped_asks}
use Rattle.run_replay.specs.Tasks.{AreAsked}
use Rattle.run_replay.specs.declared.tasks.Task.TheVariants as listed
use Rattle.run_replay.proofs.replay.Replay.tasks_for.Goals as goal

pub index-requires : goal.index-requires
index-requires c =
    let count = c.requires.ready.is.seated.count in
    let member : c.in-Campaign.member < c.args.self.now.book.members = subst (IsInRange c.args.self.now.book.members c.args.table.now.window) c.in-Campaign.is c.requires.range in
    omega (arith, c.args.self.now.seats.ok.0, count, member)

pub index-requires-in-Stop : goal.index-requires-in-Stop
index-requires-in-Stop c =
    let count = c.requires.ready.is.seated.count in
    let member : c.in-Stop.member < c.args.self.now.book.members = subst (IsInRange c.args.self.now.book.members c.args.table.now.window) c.in-Stop.is c.requires.range in
    omega (arith, c.args.self.now.seats.ok.0, count, member)

pub index-requires-in-Restart : goal.index-requires-in-Restart
index-requires-in-Restart c =
    let count = c.requires.ready.is.seated.count in
    let member : c.in-Restart.member < c.args.self.now.book.members = subst (IsInRange c.args.self.now.book.members c.args.table.now.window) c.in-Restart.is c.requires.range in
    omega (arith, c.args.self.now.seats.ok.0, count, member)

pub returns-in-Campaign : goal.returns-in-Campaign
returns-in-Campaign c =
    let count = c.requires.ready.is.seated.count in
    let member : c.in-Campaign.member < c.args.self.now.book.members = subst (IsInRange c.args.self.now.book.members c.args.table.now.window) c.in-Campaign.is c.requires.range in
    let there : slice_get c.args.self.now.seats.items c.in-Campaign.member ≡ Some c.index.result.now =
    slice_get_read c.args.self.now.seats.items (length c.args.self.now.seats.items) c.in-Campaign.member c.index.result.now refl (omega (arith, count, member)) c.index.ensures in
    subst (λ command. IfOk c.one_if.result (λ tasks. AreAsked (tasks_for command) c.args.self.now tasks.items)) (sym c.in-Campaign.is)
    (ok_so c.one_if.result _ _ c.one_if.ensures
    (λ tasks is. runs_asks c.args.self.now c.in-Campaign.member c.index.result.now c.runs-runs.result (listed.Do c.in-Campaign.member Campaign) tasks.items there c.runs-runs.ensures is))

pub returns-in-Stop : goal.returns-in-Stop
returns-in-Stop c =
    let count = c.requires.ready.is.seated.count in
    let member : c.in-Stop.member < c.args.self.now.book.members = subst (IsInRange c.args.self.now.book.members c.args.table.now.window) c.in-Stop.is c.requires.range in
    let there : slice_get c.args.self.now.seats.items c.in-Stop.member ≡ Some c.index-in-Stop.result.now =
    slice_get_read c.args.self.now.seats.items (length c.args.self.now.seats.items) c.in-Stop.member c.index-in-Stop.result.now refl (omega (arith, count, member)) c.index-in-Stop.ensures in
    subst (λ command. IfOk c.one_if-in-Stop.result (λ tasks. AreAsked (tasks_for command) c.args.self.now tasks.items)) (sym c.in-Stop.is)
    (ok_so c.one_if-in-Stop.result _ _ c.one_if-in-Stop.ensures
    (λ tasks is. runs_asks c.args.self.now c.in-Stop.member c.index-in-Stop.result.now c.runs-runs-in-Stop.result (listed.Stop c.in-Stop.member) tasks.items there c.runs-runs-in-Stop.ensures is))

pub returns-in-Restart : goal.returns-in-Restart
returns-in-Restart c =
    let count = c.requires.ready.is.seated.count in
    let member : c.in-Restart.member < c.args.self.now.book.members = subst (IsInRange c.args.self.now.book.members c.args.table.now.window) c.in-Restart.is c.requires.range in
    let there : slice_get c.args.self.now.seats.items c.in-Restart.member ≡ Some c.index-in-Restart.result.now =
    slice_get_read c.args.self.now.seats.items (length c.args.self.now.seats.items) c.in-Restart.member c.index-in-Restart.result.now refl (omega (arith, count, member)) c.index-in-Restart.ensures in
    subst (λ command. IfOk c.one_if-in-Restart.result (λ tasks. AreAsked (tasks_for command) c.args.self.now tasks.items)) (sym c.in-Restart.is)
    (ok_so c.one_if-in-Restart.result _ _ c.one_if-in-Restart.ensures
    (λ tasks is. stopped_asks c.args.self.now c.in-Restart.member c.index-in-Restart.result.now c.runs-runs-in-Restart.result (listed.Restart c.in-Restart.member) tasks.items there c.runs-runs-in-Restart.ensures is))

pub returns-in-Arrive : goal.returns-in-Arrive
returns-in-Arrive c =
    subst (λ command. IfOk c.one_if-in-Arrive.result (λ tasks. AreAsked (tasks_for command) c.args.self.now tasks.items)) (sym c.in-Arrive.is)
    (ok_so c.one_if-in-Arrive.result _ _ c.one_if-in-Arrive.ensures
    (λ tasks is. arrival_asks c.args.self.now c.in-Arrive.late c.may_arrive-may.result tasks.items c.may_arrive-may.ensures is))

use Rattle.std.proofs.Common.{◌≡◌, Some, true, false, length, refl, sym, ap, ◌∙◌, subst}
use Rattle.std.specs.List.{insert, slice_get}
use Rattle.std.proofs.Math.ListN.{set}
use Rattle.std.proofs.lemmas.Option.{slice_get_read}
use Rattle.script_semantics.specs.Commands.{set_by, tasks_for}
use Rattle.script_text.specs.declared.command.Command.TheVariants as command
use Rattle.world_rounds.proofs.Restarts.{may_restart, node_stopped, put_back, restart_goes}
use Rattle.world_rounds.proofs.Setting.{sets_go}
use Rattle.world_rounds.proofs.Worlds.{some_same}
use Rattle.world_rounds.specs.Alone.{HasStartedAgain}
use Rattle.world_rounds.proofs.world.World.restart.Goals as goal
use Rattle.replica_core.proofs.SteadyLemmas.{on_ok_so as on_ok}

pub returns-then-index-clause-goes : goal.returns-then-index-clause-goes
returns-then-index-clause-goes g c =
    let one : slice_get c.args.self.now.members.items c.args.who ≡ Some c.index.result.now =
    slice_get_read c.args.self.now.members.items (length c.args.self.now.members.items) c.args.who c.index.result.now refl c.requires.member c.index.ensures in
    sets_go g.D.Disk.view c.args.table.now c.args.self.now.book.members c.args.self.now c.args.self.now (tasks_for (command.Restart c.args.who)) (set_by (command.Restart c.args.who))
    (λ rows situation is.
    let stands : situation.standing.runs c.args.who ≡ true = sym (is.ahead.each c.args.who c.index.result.now one).mail.runs ∙ c.if-index.true in rw stands refl)
    (λ table rows situation is. is)

pub start_again-requires-clause-at_rest : goal.start_again-requires-clause-at_rest
start_again-requires-clause-at_rest g c =
    let one : slice_get c.args.self.now.members.items c.args.who ≡ Some c.index.result.now =
    slice_get_read c.args.self.now.members.items (length c.args.self.now.members.items) c.args.who c.index.result.now refl c.requires.member c.index.ensures in
    let there : slice_get c.args.self.now.members.items c.args.who ≡ Some c.remove-stopped.result =
    slice_get_read c.args.self.now.members.items (length c.args.self.now.members.items) c.args.who c.remove-stopped.result refl c.requires.member c.remove-stopped.ensures.value in
    let same : c.index.result.now ≡ c.remove-stopped.result = some_same (slice_get c.args.self.now.members.items c.args.who) c.index.result.now c.remove-stopped.result one there in
    (node_stopped g.D.Disk.view c.args.table.now c.requires.world.rows c.args.self.now c.requires.world.situation c.args.who c.remove-stopped.result c.requires.world.is there
    (ap (λ member. member.mail.runs) (sym same) ∙ c.if-index.false)).1.at_rest

pub start_again-requires-clause-trusted : goal.start_again-requires-clause-trusted
start_again-requires-clause-trusted g c =
    let one : slice_get c.args.self.now.members.items c.args.who ≡ Some c.index.result.now =
    slice_get_read c.args.self.now.members.items (length c.args.self.now.members.items) c.args.who c.index.result.now refl c.requires.member c.index.ensures in
    let there : slice_get c.args.self.now.members.items c.args.who ≡ Some c.remove-stopped.result =
    slice_get_read c.args.self.now.members.items (length c.args.self.now.members.items) c.args.who c.remove-stopped.result refl c.requires.member c.remove-stopped.ensures.value in
    let same : c.index.result.now ≡ c.remove-stopped.result = some_same (slice_get c.args.self.now.members.items c.args.who) c.index.result.now c.remove-stopped.result one there in
    (node_stopped g.D.Disk.view c.args.table.now c.requires.world.rows c.args.self.now c.requires.world.situation c.args.who c.remove-stopped.result c.requires.world.is there
    (ap (λ member. member.mail.runs) (sym same) ∙ c.if-index.false)).1.trusted

pub start_again-requires-clause-reliable : goal.start_again-requires-clause-reliable
start_again-requires-clause-reliable g c =
    let one : slice_get c.args.self.now.members.items c.args.who ≡ Some c.index.result.now =
    slice_get_read c.args.self.now.members.items (length c.args.self.now.members.items) c.args.who c.index.result.now refl c.requires.member c.index.ensures in
    let there : slice_get c.args.self.now.members.items c.args.who ≡ Some c.remove-stopped.result =
    slice_get_read c.args.self.now.members.items (length c.args.self.now.members.items) c.args.who c.remove-stopped.result refl c.requires.member c.remove-stopped.ensures.value in
    let same : c.index.result.now ≡ c.remove-stopped.result = some_same (slice_get c.args.self.now.members.items c.args.who) c.index.result.now c.remove-stopped.result one there in
    (node_stopped g.D.Disk.view c.args.table.now c.requires.world.rows c.args.self.now c.requires.world.situation c.args.who c.remove-stopped.result c.requires.world.is there
    (ap (λ member. member.mail.runs) (sym same) ∙ c.if-index.false)).1.disk.reliable

pub commit_alone-requires : goal.commit_alone-requires
commit_alone-requires g c =
    let one : slice_get c.args.self.now.members.items c.args.who ≡ Some c.index.result.now =
    slice_get_read c.args.self.now.members.items (length c.args.self.now.members.items) c.args.who c.index.result.now refl c.requires.member c.index.ensures in
    let there : slice_get c.args.self.now.members.items c.args.who ≡ Some c.remove-stopped.result =
    slice_get_read c.args.self.now.members.items (length c.args.self.now.members.items) c.args.who c.remove-stopped.result refl c.requires.member c.remove-stopped.ensures.value in
    let same : c.index.result.now ≡ c.remove-stopped.result = some_same (slice_get c.args.self.now.members.items c.args.who) c.index.result.now c.remove-stopped.result one there in
    let runs : c.remove-stopped.result.mail.runs ≡ false = ap (λ member. member.mail.runs) (sym same) ∙ c.if-index.false in
    let count : c.len-members.result ≡ c.args.self.now.book.members = c.len-members.ensures ∙ c.args.self.now.members.ok.0 ∙ c.requires.world.is.ahead.count in
    let again : HasStartedAgain g.D.Disk.view c.args.table.now c.args.self.now.book.members c.args.who c.remove-stopped.result c.in_ok-started.started =
    subst (λ n. HasStartedAgain g.D.Disk.view c.args.table.now n c.args.who c.remove-stopped.result c.in_ok-started.started) count c.in_ok-started.ensures in
    record { alone = may_restart g.D.Disk.view c.args.table.now c.args.self.now c.args.who c.remove-stopped.result c.in_ok-started.started c.requires.world there runs again }

pub returns-clause-goes : goal.returns-clause-goes
returns-clause-goes g c =
    let one : slice_get c.args.self.now.members.items c.args.who ≡ Some c.index.result.now =
    slice_get_read c.args.self.now.members.items (length c.args.self.now.members.items) c.args.who c.index.result.now refl c.requires.member c.index.ensures in
    let there : slice_get c.args.self.now.members.items c.args.who ≡ Some c.remove-stopped.result =
    slice_get_read c.args.self.now.members.items (length c.args.self.now.members.items) c.args.who c.remove-stopped.result refl c.requires.member c.remove-stopped.ensures.value in
    let same : c.index.result.now ≡ c.remove-stopped.result = some_same (slice_get c.args.self.now.members.items c.args.who) c.index.result.now c.remove-stopped.result one there in
    let runs : c.remove-stopped.result.mail.runs ≡ false = ap (λ member. member.mail.runs) (sym same) ∙ c.if-index.false in
    let count : c.len-members.result ≡ c.args.self.now.book.members = c.len-members.ensures ∙ c.args.self.now.members.ok.0 ∙ c.requires.world.is.ahead.count in
    let again : HasStartedAgain g.D.Disk.view c.args.table.now c.args.self.now.book.members c.args.who c.remove-stopped.result c.in_ok-started.started =
    subst (λ n. HasStartedAgain g.D.Disk.view c.args.table.now n c.args.who c.remove-stopped.result c.in_ok-started.started) count c.in_ok-started.ensures in
    let members : c.insert.new.self.items ≡ set c.args.self.now.members.items c.args.who c.in_ok-started.started =
    c.in_ok-insert.ensures.items ∙ ap (λ others. insert others c.args.who c.in_ok-started.started) c.remove-stopped.ensures.items
    ∙ put_back c.args.self.now.members.items c.args.who c.in_ok-started.started c.requires.member in
    on_ok c.commit_alone.result _ _
    (restart_goes g.D.Disk.view c.args.table.now c.args.self.now _ c.args.who c.remove-stopped.result c.in_ok-started.started there runs again members refl refl)
    c.commit_alone.ensures.joins

pub returns-clause-members : goal.returns-clause-members
returns-clause-members g c =
    let one : slice_get c.args.self.now.members.items c.args.who ≡ Some c.index.result.now =
    slice_get_read c.args.self.now.members.items (length c.args.self.now.members.items) c.args.who c.index.result.now refl c.requires.member c.index.ensures in
    let there : slice_get c.args.self.now.members.items c.args.who ≡ Some c.remove-stopped.result =
    slice_get_read c.args.self.now.members.items (length c.args.self.now.members.items) c.args.who c.remove-stopped.result refl c.requires.member c.remove-stopped.ensures.value in
    let same : c.index.result.now ≡ c.remove-stopped.result = some_same (slice_get c.args.self.now.members.items c.args.who) c.index.result.now c.remove-stopped.result one there in
    let runs : c.remove-stopped.result.mail.runs ≡ false = ap (λ member. member.mail.runs) (sym same) ∙ c.if-index.false in
    let count : c.len-members.result ≡ c.args.self.now.book.members = c.len-members.ensures ∙ c.args.self.now.members.ok.0 ∙ c.requires.world.is.ahead.count in
    let again : HasStartedAgain g.D.Disk.view c.args.table.now c.args.self.now.book.members c.args.who c.remove-stopped.result c.in_ok-started.started =
    subst (λ n. HasStartedAgain g.D.Disk.view c.args.table.now n c.args.who c.remove-stopped.result c.in_ok-started.started) count c.in_ok-started.ensures in
    let may = may_restart g.D.Disk.view c.args.table.now c.args.self.now c.args.who c.remove-stopped.result c.in_ok-started.started c.requires.world there runs again in
    on_ok c.commit_alone.result _ _ (λ joins. (joins may.0 may.1 may.2).members) c.commit_alone.ensures.joins

use Rattle.std.proofs.Common.{◌≡◌, true, false, IfNone, IfSome, None, Some, length, refl, sym, ap, ◌∙◌, subst, arith}
use Rattle.std.specs.List.{slice_get}
use Rattle.std.proofs.lemmas.Option.{slice_get_read}
use Rattle.history.specs.Book.{Standing}
use Rattle.step_spec.specs.State.{Identity}
use Rattle.replica_core.specs.Step.{Steps, fault_in}
use Rattle.world_law.specs.Book.{standing_behind}
use Rattle.run_replay.proofs.QuietLemmas.{running_at, setting_waits, stopped_at}
use Rattle.run_replay.proofs.StepLemmas.{told_sound}
use Rattle.run_replay.specs.Judged.{IsFaulty}
use Rattle.run_replay.proofs.replay.Replay.take_step.Goals as goal

pub returns-in-None : goal.returns-in-None
returns-in-None c = λ rows situation is event takes.
    let set = is.seated.set in
    let mine : slice_get c.args.self.now.settings.items c.args.who ≡ Some c.index.result.now =
    slice_get_read c.args.self.now.settings.items (length c.args.self.now.settings.items) c.args.who c.index.result.now refl (omega (arith, c.requires.member, set)) c.index.ensures in
    let waits : c.index.result.now.waits ≡ (standing_behind c.args.table.now rows c.args.self.now.book).waits c.args.who =
    setting_waits c.args.table.now rows c.args.self.now situation is c.args.who c.index.result.now mine ∙ ap (λ (s : Standing). s.waits c.args.who) is.standing in
    c.in-None.ensures.none rows is.behind waits event takes.event_of

pub returns-in-None-replica : goal.returns-in-None-replica
returns-in-None-replica c = λ rows situation is event takes.
    let count = is.seated.count in
    let there : slice_get c.args.self.now.seats.items c.args.who ≡ Some c.index_mut-seat.result.now =
    slice_get_read c.args.self.now.seats.items (length c.args.self.now.seats.items) c.args.who c.index_mut-seat.result.now refl (omega (arith, c.requires.member, count)) c.index_mut-seat.ensures.value in
    let stopped : (standing_behind c.args.table.now rows c.args.self.now.book).runs c.args.who ≡ false =
    (stopped_at c.args.table.now rows c.args.self.now situation is c.args.who c.index_mut-seat.result.now there c.in-None-replica.is).stopped in
    let runs : (standing_behind c.args.table.now rows c.args.self.now.book).runs c.args.who ≡ true = takes.runs in
    let both : true ≡ false = sym runs ∙ stopped in
    cc

pub step_replica-requires-clause-of_table : goal.step_replica-requires-clause-of_table
step_replica-requires-clause-of_table c =
    let rows = c.requires.ready.rows in
    let situation = c.requires.ready.situation in
    let is = c.requires.ready.is in
    let count = is.seated.count in
    let there : slice_get c.args.self.now.seats.items c.args.who ≡ Some c.index_mut-seat.result.now =
    slice_get_read c.args.self.now.seats.items (length c.args.self.now.seats.items) c.args.who c.index_mut-seat.result.now refl (omega (arith, c.requires.member, count)) c.index_mut-seat.ensures.value in
    let at = running_at c.args.table.now rows c.args.self.now situation is c.args.who c.index_mut-seat.result.now c.in-Some-replica.replica there c.in-Some-replica.is in
    at.stands.of_table

pub step_replica-requires-clause-keeps : goal.step_replica-requires-clause-keeps
step_replica-requires-clause-keeps c =
    let rows = c.requires.ready.rows in
    let situation = c.requires.ready.situation in
    let is = c.requires.ready.is in
    let count = is.seated.count in
    let there : slice_get c.args.self.now.seats.items c.args.who ≡ Some c.index_mut-seat.result.now =
    slice_get_read c.args.self.now.seats.items (length c.args.self.now.seats.items) c.args.who c.index_mut-seat.result.now refl (omega (arith, c.requires.member, count)) c.index_mut-seat.ensures.value in
    let at = running_at c.args.table.now rows c.args.self.now situation is c.args.who c.index_mut-seat.result.now c.in-Some-replica.replica there c.in-Some-replica.is in
    at.keeps

pub returns-in-None-2 : goal.returns-in-None-2
returns-in-None-2 c = λ rows situation is event takes.
    let set = is.seated.set in
    let mine : slice_get c.args.self.now.settings.items c.args.who ≡ Some c.index.result.now =
    slice_get_read c.args.self.now.settings.items (length c.args.self.now.settings.items) c.args.who c.index.result.now refl (omega (arith, c.requires.member, set)) c.index.ensures in
    let waits : c.index.result.now.waits ≡ (standing_behind c.args.table.now rows c.args.self.now.book).waits c.args.who =
    setting_waits c.args.table.now rows c.args.self.now situation is c.args.who c.index.result.now mine ∙ ap (λ (s : Standing). s.waits c.args.who) is.standing in
    let count = is.seated.count in
    let there : slice_get c.args.self.now.seats.items c.args.who ≡ Some c.index_mut-seat.result.now =
    slice_get_read c.args.self.now.seats.items (length c.args.self.now.seats.items) c.args.who c.index_mut-seat.result.now refl (omega (arith, c.requires.member, count)) c.index_mut-seat.ensures.value in
    let at = running_at c.args.table.now rows c.args.self.now situation is c.args.who c.index_mut-seat.result.now c.in-Some-replica.replica there c.in-Some-replica.is in
    let faulty : IsFaulty c.in-Some-replica.replica.identity.members c.in-Some.input =
    subst (λ found. IfNone found (IsFaulty c.in-Some-replica.replica.identity.members c.in-Some.input)) c.in-None-2.is c.in_ok-out.ensures.none in
    let members : c.in-Some-replica.replica.identity.members ≡ c.args.self.now.book.members = ap (λ (self : Identity). self.members) at.stands.identity in
    let none : fault_in c.in-Some-replica.replica.identity.members c.in-Some.input ≡ None =
    ap (λ members. fault_in members c.in-Some.input) members
    ∙ told_sound c.args.table.now rows c.args.self.now.book c.args.who c.args.cause c.in-Some.input is.behind (c.in-Some.ensures.is rows is.behind waits) in
    let both : None ≡ Some faulty.0 = sym none ∙ faulty.1 in
    cc

pub returns : goal.returns
returns c = λ rows situation is.
    let set = is.seated.set in
    let mine : slice_get c.args.self.now.settings.items c.args.who ≡ Some c.index.result.now =
    slice_get_read c.args.self.now.settings.items (length c.args.self.now.settings.items) c.args.who c.index.result.now refl (omega (arith, c.requires.member, set)) c.index.ensures in
    let waits : c.index.result.now.waits ≡ (standing_behind c.args.table.now rows c.args.self.now.book).waits c.args.who =
    setting_waits c.args.table.now rows c.args.self.now situation is c.args.who c.index.result.now mine ∙ ap (λ (s : Standing). s.waits c.args.who) is.standing in
    let count = is.seated.count in
    let there : slice_get c.args.self.now.seats.items c.args.who ≡ Some c.index_mut-seat.result.now =
    slice_get_read c.args.self.now.seats.items (length c.args.self.now.seats.items) c.args.who c.index_mut-seat.result.now refl (omega (arith, c.requires.member, count)) c.index_mut-seat.ensures.value in
    let at = running_at c.args.table.now rows c.args.self.now situation is c.args.who c.index_mut-seat.result.now c.in-Some-replica.replica there c.in-Some-replica.is in
    record {
      before = c.in-Some-replica.replica;
      stands = at.stands;
      me = at.me;
      input = c.in-Some.input;
      told = c.in-Some.ensures.is rows is.behind waits;
      inside = c.in-Some.ensures.inside;
      after = c.step_replica.new.replica;
      steps = subst (λ found. IfSome found (λ out. Steps c.args.table.now c.in-Some.input c.in-Some-replica.replica c.step_replica.new.replica out)) c.in-Some-2.is c.in_ok-out.ensures.steps;
      seat = record { kept = c.step_replica.new.kept; replica = Some c.step_replica.new.replica };
      runs = refl;
      keeps = subst (λ found. IfSome found (λ out. c.step_replica.new.kept ≡ c.step_replica.new.replica.state.kept)) c.in-Some-2.is c.in_ok-out.ensures.keeps;
      seats = refl;
      book = c.in_ok-reserve.ensures.same;
      room = c.in_ok-reserve.ensures.room;
      settings = refl;
      cuts = refl;
      latest = refl;
    }

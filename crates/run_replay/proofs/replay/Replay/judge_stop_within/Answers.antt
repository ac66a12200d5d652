use Rattle.std.proofs.Common.{◌≡◌, ◌⊎◌, true, false, IfNone, IfSome, None, Some, length, refl, sym, ap, ◌∙◌, subst, arith, inl, inr}
use Rattle.std.specs.List.{slice_get}
use Rattle.std.proofs.lemmas.Option.{slice_get_read}
use Rattle.history.specs.Book.{Standing}
use Rattle.step_spec.specs.State.{Identity}
use Rattle.replica_core.specs.Step.{fault_in}
use Rattle.world_law.specs.Book.{standing_behind}
use Rattle.run_replay.proofs.QuietLemmas.{running_at, setting_waits, stopped_at}
use Rattle.run_replay.proofs.StepLemmas.{told_sound}
use Rattle.run_replay.proofs.WithinLemmas.{changes_none, judged_within, within_may}
use Rattle.run_replay.specs.Judged.{ChangesNothing, IsFaulty, WouldChange}
use Rattle.run_replay.proofs.replay.Replay.judge_stop_within.Goals as goal

pub returns-in-None : goal.returns-in-None
returns-in-None c = λ rows situation is row told.
    let set = is.seated.set in
    let mine : slice_get c.args.self.now.settings.items c.args.who ≡ Some c.index.result.now =
    slice_get_read c.args.self.now.settings.items (length c.args.self.now.settings.items) c.args.who c.index.result.now refl (omega (arith, c.requires.member, set)) c.index.ensures in
    let waits : c.index.result.now.waits ≡ (standing_behind c.args.table.now rows c.args.self.now.book).waits c.args.who =
    setting_waits c.args.table.now rows c.args.self.now situation is c.args.who c.index.result.now mine ∙ ap (λ (s : Standing). s.waits c.args.who) is.standing in
    let may = within_may c.args.table.now rows c.args.self.now situation c.args.who c.args.cause c.args.kept is row told in
    c.in-None.ensures.none rows is.behind waits row.event may.0.event_of

pub returns-in-None-replica : goal.returns-in-None-replica
returns-in-None-replica c = λ rows situation is row told.
    let count = is.seated.count in
    let there : slice_get c.args.self.now.seats.items c.args.who ≡ Some c.index_mut-seat.result.now =
    slice_get_read c.args.self.now.seats.items (length c.args.self.now.seats.items) c.args.who c.index_mut-seat.result.now refl (omega (arith, c.requires.member, count)) c.index_mut-seat.ensures.value in
    let stopped : (standing_behind c.args.table.now rows c.args.self.now.book).runs c.args.who ≡ false =
    (stopped_at c.args.table.now rows c.args.self.now situation is c.args.who c.index_mut-seat.result.now there c.in-None-replica.is).stopped in
    let may = within_may c.args.table.now rows c.args.self.now situation c.args.who c.args.cause c.args.kept is row told in
    let runs : (standing_behind c.args.table.now rows c.args.self.now.book).runs c.args.who ≡ true = may.0.runs in
    let both : true ≡ false = sym runs ∙ stopped in
    cc

pub change_of-requires-clause-of_table : goal.change_of-requires-clause-of_table
change_of-requires-clause-of_table c =
    let rows = c.requires.ready.rows in
    let situation = c.requires.ready.situation in
    let is = c.requires.ready.is in
    let count = is.seated.count in
    let there : slice_get c.args.self.now.seats.items c.args.who ≡ Some c.index_mut-seat.result.now =
    slice_get_read c.args.self.now.seats.items (length c.args.self.now.seats.items) c.args.who c.index_mut-seat.result.now refl (omega (arith, c.requires.member, count)) c.index_mut-seat.ensures.value in
    let at = running_at c.args.table.now rows c.args.self.now situation is c.args.who c.index_mut-seat.result.now c.in-Some-replica.replica there c.in-Some-replica.is in
    at.stands.of_table

pub returns-in-None-2 : goal.returns-in-None-2
returns-in-None-2 c = λ rows situation is row told.
    let set = is.seated.set in
    let mine : slice_get c.args.self.now.settings.items c.args.who ≡ Some c.index.result.now =
    slice_get_read c.args.self.now.settings.items (length c.args.self.now.settings.items) c.args.who c.index.result.now refl (omega (arith, c.requires.member, set)) c.index.ensures in
    let waits : c.index.result.now.waits ≡ (standing_behind c.args.table.now rows c.args.self.now.book).waits c.args.who =
    setting_waits c.args.table.now rows c.args.self.now situation is c.args.who c.index.result.now mine ∙ ap (λ (s : Standing). s.waits c.args.who) is.standing in
    let count = is.seated.count in
    let there : slice_get c.args.self.now.seats.items c.args.who ≡ Some c.index_mut-seat.result.now =
    slice_get_read c.args.self.now.seats.items (length c.args.self.now.seats.items) c.args.who c.index_mut-seat.result.now refl (omega (arith, c.requires.member, count)) c.index_mut-seat.ensures.value in
    let at = running_at c.args.table.now rows c.args.self.now situation is c.args.who c.index_mut-seat.result.now c.in-Some-replica.replica there c.in-Some-replica.is in
    let input_is = c.in-Some.ensures.is rows is.behind waits in
    let which : ChangesNothing c.args.table.now c.in-Some.input c.in-Some-replica.replica ⊎ IsFaulty c.in-Some-replica.replica.identity.members c.in-Some.input =
    subst (λ found. IfNone found (ChangesNothing c.args.table.now c.in-Some.input c.in-Some-replica.replica ⊎ IsFaulty c.in-Some-replica.replica.identity.members c.in-Some.input)) c.in-None-2.is c.in_ok-change.ensures.none in
    elim which [
      | inl nothing ↦
          changes_none c.args.table.now rows c.args.self.now situation c.args.who c.args.cause c.args.kept is c.index_mut-seat.result.now c.in-Some-replica.replica c.in-Some.input there c.in-Some-replica.is input_is
          c.in-Some.ensures.inside row nothing told
      | inr faulty ↦
          let members : c.in-Some-replica.replica.identity.members ≡ c.args.self.now.book.members = ap (λ (self : Identity). self.members) at.stands.identity in
          let none : fault_in c.in-Some-replica.replica.identity.members c.in-Some.input ≡ None =
          ap (λ members. fault_in members c.in-Some.input) members
          ∙ told_sound c.args.table.now rows c.args.self.now.book c.args.who c.args.cause c.in-Some.input is.behind input_is in
          let both : None ≡ Some faulty.0 = sym none ∙ faulty.1 in
          cc
    ]

pub returns : goal.returns
returns c = λ rows situation is.
    let set = is.seated.set in
    let mine : slice_get c.args.self.now.settings.items c.args.who ≡ Some c.index.result.now =
    slice_get_read c.args.self.now.settings.items (length c.args.self.now.settings.items) c.args.who c.index.result.now refl (omega (arith, c.requires.member, set)) c.index.ensures in
    let waits : c.index.result.now.waits ≡ (standing_behind c.args.table.now rows c.args.self.now.book).waits c.args.who =
    setting_waits c.args.table.now rows c.args.self.now situation is c.args.who c.index.result.now mine ∙ ap (λ (s : Standing). s.waits c.args.who) is.standing in
    let count = is.seated.count in
    let there : slice_get c.args.self.now.seats.items c.args.who ≡ Some c.index_mut-seat.result.now =
    slice_get_read c.args.self.now.seats.items (length c.args.self.now.seats.items) c.args.who c.index_mut-seat.result.now refl (omega (arith, c.requires.member, count)) c.index_mut-seat.ensures.value in
    let would : WouldChange c.args.table.now c.in-Some.input c.in-Some-replica.replica c.in-Some-2.change =
    subst (λ found. IfSome found (WouldChange c.args.table.now c.in-Some.input c.in-Some-replica.replica)) c.in-Some-2.is c.in_ok-change.ensures.some in
    judged_within c.args.table.now rows c.args.self.now situation c.args.who c.args.cause c.args.kept is c.index_mut-seat.result.now c.in-Some-replica.replica c.in-Some.input there c.in-Some-replica.is
    (c.in-Some.ensures.is rows is.behind waits) c.in-Some.ensures.inside c.in-Some-2.change would _ (record { kept = c.stopped_with.new.kept; replica = None }) c.in_ok-left.left.0 c.in_ok-left.left.1
    c.in_ok-left.ensures.is c.in_ok-left.ensures.lost c.in_ok-reserve.ensures.same c.in_ok-reserve.ensures.room refl refl c.in_ok-left.ensures.kept refl refl refl

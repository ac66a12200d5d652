use Rattle.std.proofs.Common.{◌≡◌, is_some, None, Some, length, refl, sym, ap, ◌∙◌, arith}
use Rattle.std.specs.List.{slice_get}
use Rattle.std.proofs.lemmas.Option.{slice_get_read}
use Rattle.agreement.specs.Transition.{identity_of}
use Rattle.step_spec.specs.State.{started}
use Rattle.run_replay.proofs.JudgeLemmas.{judged_restart}
use Rattle.run_replay.proofs.QuietLemmas.{no_some}
use Rattle.run_replay.proofs.SettingLemmas.{some_same}
use Rattle.run_replay.specs.declared.replay.Seat.{Seat}
use Rattle.run_replay.proofs.replay.Replay.judge_restart.Goals as goal

pub returns : goal.returns
returns c = λ rows situation is.
    let count = is.seated.count in
    let one : slice_get c.args.self.now.seats.items c.args.who ≡ Some c.index.result.now =
    slice_get_read c.args.self.now.seats.items (length c.args.self.now.seats.items) c.args.who c.index.result.now refl (omega (arith, c.requires.member, count)) c.index.ensures in
    let two : slice_get c.args.self.now.seats.items c.args.who ≡ Some c.index-2.result.now =
    slice_get_read c.args.self.now.seats.items (length c.args.self.now.seats.items) c.args.who c.index-2.result.now refl (omega (arith, c.requires.member, count)) c.index-2.ensures in
    let there : slice_get c.args.self.now.seats.items c.args.who ≡ Some c.index_mut.result.now =
    slice_get_read c.args.self.now.seats.items (length c.args.self.now.seats.items) c.args.who c.index_mut.result.now refl (omega (arith, c.requires.member, count)) c.index_mut.ensures.value in
    let same : c.index.result.now ≡ c.index_mut.result.now = some_same (slice_get c.args.self.now.seats.items c.args.who) c.index.result.now c.index_mut.result.now one there in
    let kept : c.index-2.result.now ≡ c.index_mut.result.now = some_same (slice_get c.args.self.now.seats.items c.args.who) c.index-2.result.now c.index_mut.result.now two there in
    let stopped : c.index_mut.result.now.replica ≡ None = no_some c.index_mut.result.now.replica (ap (λ (seat : Seat). is_some seat.replica) (sym same) ∙ sym c.runs.ensures ∙ c.if-runs.false) in
    judged_restart c.args.table.now rows c.args.self.now _ situation c.args.who c.index_mut.result.now _ c.in_ok-replica.replica c.change_alone-out.result is there stopped
    (c.in_ok-replica.ensures.identity ∙ ap (λ members. identity_of members c.args.who) (c.len-members.ensures ∙ c.args.self.now.seats.ok.0 ∙ count))
    (c.in_ok-replica.ensures.state ∙ ap (λ (seat : Seat). started c.args.who seat.kept) kept) c.in_ok-replica.ensures.of_table
    c.change_alone-out.ensures c.in_ok-reserve.ensures.same c.in_ok-reserve.ensures.room refl refl refl refl refl refl

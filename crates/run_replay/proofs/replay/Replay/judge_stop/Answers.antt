use Rattle.std.proofs.Common.{◌≡◌, is_some, true, Some, length, refl, sym, ap, ◌∙◌, arith}
use Rattle.std.specs.List.{slice_get}
use Rattle.std.proofs.lemmas.Option.{slice_get_read}
use Rattle.run_replay.proofs.JudgeLemmas.{judged_stop}
use Rattle.run_replay.proofs.SettingLemmas.{some_same}
use Rattle.run_replay.specs.declared.replay.Seat.{Seat}
use Rattle.run_replay.proofs.replay.Replay.judge_stop.Goals as goal

pub returns : goal.returns
returns c = λ rows situation is.
    let count = is.seated.count in
    let one : slice_get c.args.self.now.seats.items c.args.who ≡ Some c.index.result.now =
    slice_get_read c.args.self.now.seats.items (length c.args.self.now.seats.items) c.args.who c.index.result.now refl (omega (arith, c.requires.member, count)) c.index.ensures in
    let there : slice_get c.args.self.now.seats.items c.args.who ≡ Some c.index_mut.result.now =
    slice_get_read c.args.self.now.seats.items (length c.args.self.now.seats.items) c.args.who c.index_mut.result.now refl (omega (arith, c.requires.member, count)) c.index_mut.ensures.value in
    let same : c.index.result.now ≡ c.index_mut.result.now = some_same (slice_get c.args.self.now.seats.items c.args.who) c.index.result.now c.index_mut.result.now one there in
    let runs : is_some c.index_mut.result.now.replica ≡ true = ap (λ (seat : Seat). is_some seat.replica) (sym same) ∙ sym c.runs.ensures ∙ c.if-not-runs.false in
    judged_stop c.args.table.now rows c.args.self.now _ situation c.args.who c.index_mut.result.now _ c.change_alone-out.result is there runs c.change_alone-out.ensures c.in_ok-reserve.ensures.same c.in_ok-reserve.ensures.room
    refl refl refl refl refl refl

use Rattle.std.proofs.Common.{◌≡◌, Some, length, refl}
use Rattle.std.specs.List.{slice_get}
use Rattle.std.proofs.lemmas.Option.{slice_get_read}
use Rattle.run_replay.proofs.TaskLemmas.{ok_so, standing_listed}
use Rattle.run_replay.proofs.replay.Replay.standing_tasks.Goals as goal

pub returns : goal.returns
returns c =
    let there : slice_get c.args.self.now.seats.items c.args.who ≡ Some c.index.result.now =
    slice_get_read c.args.self.now.seats.items (length c.args.self.now.seats.items) c.args.who c.index.result.now refl c.requires.member c.index.ensures in
    ok_so c.one_if.result _ _ c.one_if.ensures (λ tasks is. standing_listed c.args.self.now c.args.who c.index.result.now c.follows-follows.result tasks.items there c.follows-follows.ensures is)

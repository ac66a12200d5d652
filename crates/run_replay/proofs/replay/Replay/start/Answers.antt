use Rattle.std.proofs.Common.{ap}
use Rattle.run_replay.proofs.StartLemmas.{replay_starts}
use Rattle.run_replay.proofs.replay.Replay.start.Goals as goal

pub returns-clause-starts : goal.returns-clause-starts
returns-clause-starts c =
    replay_starts c.args.table.now c.args.members _ c.window-window.ensures.sound c.requires.some c.requires.few (c.new-book.ensures.stands c.args.table.now) c.new-book.ensures.pending c.new-book.ensures.members
    c.in_ok-seats.ensures c.in_ok-settings.ensures c.new-cuts.ensures.items (ap (λ window. window.from) c.window-window.ensures.window)

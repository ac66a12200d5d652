use Rattle.world_rounds.specs.World.{book_of}
use Rattle.script_play.proofs.WatchedParts.{seen_back}
use Rattle.script_play.proofs.script.play_run_watched.Goals as goal

pub returns-clause-seen : goal.returns-clause-seen
returns-clause-seen g c =
    seen_back c.args.table.now c.args.script.now (book_of c.in_ok-world.world) c.in_ok-world.starts.items c.play_on-run.new.watch c.end_on-seen.result.items c.in_ok-world.ensures.stays
    (c.in_ok-world.ensures.seen (c.in_ok-start.ensures.watches c.args.members)) c.end_on-seen.ensures

use Rattle.std.proofs.Common.{List, ℕ, ◌≡◌, ◌<◌, length, pos, ◌-ℤ◌, sym, ap, ◌∙◌, subst}
use Rattle.script_semantics.specs.Settling.{Walks}
use Rattle.zone_minutes.specs.Window.{IsInWindow}
use Rattle.world_law.specs.Book.{BookState}
use Rattle.world_rounds.specs.World.{book_of}
use Rattle.script_play.specs.Play.{HasStarts}
use Rattle.script_play.proofs.Runs.{last_inside, last_minute, shown, walked, walked_rows}
use Rattle.script_play.specs.Watch.{IsWatchedOn}
use Rattle.script_play.proofs.Starts.{has_starts}
use Rattle.script_play.proofs.WatchedParts.{has_seen_on}
use Rattle.script_play.proofs.script.play_on.Goals as goal

pub walk-requires-clause-world : goal.walk-requires-clause-world
walk-requires-clause-world g c = let played = c.in_ok-world.ensures.played.played in record { rows = played.rows; situation = played.situation; is = played.is }

pub walk-requires-clause-some : goal.walk-requires-clause-some
walk-requires-clause-some g c = subst (λ n. 0 < n) (sym c.in_ok-world.ensures.played.played.count) c.requires.some

pub walk-requires-clause-inside : goal.walk-requires-clause-inside
walk-requires-clause-inside g c =
    subst (λ window. IsInWindow window (shown c.window-window.result)) c.window-window.ensures.window (last_inside c.window-window.result c.window-window.ensures.limits)

pub returns-clause-run : goal.returns-clause-run
returns-clause-run g c =
    let table = c.args.table.now in
    let played = c.in_ok-world.ensures.played.played in
    let (more, after, walks, here) = c.in_ok-walk.ensures.goes played.rows played.situation played.is in
    let last : shown c.window-window.result ≡ table.window.until.0 -ℤ pos 1 =
    last_minute c.window-window.result c.window-window.ensures.limits ∙ ap (λ window. window.until.0 -ℤ pos 1) c.window-window.ensures.window in
    walked table c.args.members c.args.script.now c.in_ok-world.starts.items c.in_ok-world.world c.walk.new.self more after played
    (subst (λ minute. Walks c.args.members table minute played.situation more after) last
    (subst (λ n. Walks n table (shown c.window-window.result) played.situation more after) played.count walks))
    here c.in_ok-walk.ensures.members c.in_ok-walk.ensures.bounded

pub returns-clause-starts : goal.returns-clause-starts
returns-clause-starts g c =
    let table = c.args.table.now in
    let script = c.args.script.now in
    let played = c.in_ok-world.ensures.played.played in
    let (more, after, walks, here) = c.in_ok-walk.ensures.goes played.rows played.situation played.is in
    let last : shown c.window-window.result ≡ table.window.until.0 -ℤ pos 1 =
    last_minute c.window-window.result c.window-window.ensures.limits ∙ ap (λ window. window.until.0 -ℤ pos 1) c.window-window.ensures.window in
    let walk = subst (λ minute. Walks c.args.members table minute played.situation more after) last
    (subst (λ n. Walks n table (shown c.window-window.result) played.situation more after) played.count walks) in
    let same = c.in_ok-walk.ensures.members in
    let bounded = c.in_ok-walk.ensures.bounded in
    subst (HasStarts table script (book_of c.walk.new.self)) (sym c.in_ok-push.ensures.items)
    (has_starts table c.args.members script c.in_ok-world.starts.items (length c.turns.result.now) c.in_ok-world.world c.walk.new.self played
    (walked table c.args.members script c.in_ok-world.starts.items c.in_ok-world.world c.walk.new.self more after played walk here same bounded) more
    (walked_rows table c.args.members script c.in_ok-world.starts.items c.in_ok-world.world c.walk.new.self more after played walk here same bounded)
    (ap length c.turns.ensures ∙ ap (λ (b : BookState). length b.turns) c.book.ensures))

pub returns-clause-seen : goal.returns-clause-seen
returns-clause-seen g c = λ before.
    let table = c.args.table.now in
    let script = c.args.script.now in
    let all = c.in_ok-world.ensures.played in
    let played = all.played in
    let (more, after, walks, here) = c.in_ok-walk.ensures.goes played.rows played.situation played.is in
    let last : shown c.window-window.result ≡ table.window.until.0 -ℤ pos 1 =
    last_minute c.window-window.result c.window-window.ensures.limits ∙ ap (λ window. window.until.0 -ℤ pos 1) c.window-window.ensures.window in
    let walk = subst (λ minute. Walks c.args.members table minute played.situation more after) last
    (subst (λ n. Walks n table (shown c.window-window.result) played.situation more after) played.count walks) in
    let same = c.in_ok-walk.ensures.members in
    let bounded = c.in_ok-walk.ensures.bounded in
    subst (λ (l : List ℕ). IsWatchedOn table script (book_of c.walk.new.self) l c.play_script.new.watch) (sym c.in_ok-push.ensures.items)
    (has_seen_on table c.args.members script c.in_ok-world.starts.items (length c.turns.result.now) c.in_ok-world.world c.walk.new.self played
    (walked table c.args.members script c.in_ok-world.starts.items c.in_ok-world.world c.walk.new.self more after played walk here same bounded) more
    (walked_rows table c.args.members script c.in_ok-world.starts.items c.in_ok-world.world c.walk.new.self more after played walk here same bounded)
    (ap length c.turns.ensures ∙ ap (λ (b : BookState). length b.turns) c.book.ensures) c.play_script.new.watch c.requires.few (all.watched before))

use Rattle.std.proofs.Common.{◌≡◌, ℕ, [], length, sym, subst, ◌∙◌, All}
use Rattle.script_semantics.specs.Situation.{first_situation}
use Rattle.world_rounds.specs.World.{book_of}
use Rattle.script_play.specs.Play.{ArePartsFrom, IsPlayable}
use Rattle.script_play.specs.Watch.{WatchesOn}
use Rattle.script_play.proofs.Starts.{as_many_turns}
use Rattle.script_play.proofs.script.play_script.Goals as goal

pub play-requires-clause-world : goal.play-requires-clause-world
play-requires-clause-world g c = λ lives borrowed. record { rows = []; situation = first_situation c.args.members c.args.table.now; is = c.in_ok-world.ensures.starts }

pub play-requires-clause-taken : goal.play-requires-clause-taken
play-requires-clause-taken g c = λ lives borrowed.
    subst (λ n. All (IsPlayable c.args.table.now.window n) c.args.script.now) (sym c.in_ok-world.ensures.members) c.requires.taken

pub returns-clause-played : goal.returns-clause-played
returns-clause-played g c =
    let table = c.args.table.now in
    let script = c.args.script.now in
    let first = first_situation c.args.members table in
    let starts = c.in_ok-played.played.1.items in
    let none : length (book_of c.in_ok-world.world).turns ≡ 0 = as_many_turns table [] (book_of c.in_ok-world.world) c.in_ok-world.ensures.starts.ahead.at.behind in
    let (rows, situation, parts, here, watched) = c.in_ok-played.ensures.goes [] first c.in_ok-world.ensures.starts in
    record {
      played = record {
        rows = rows;
        situation = situation;
        parts = subst (λ (n : ℕ). ArePartsFrom n table script 0 starts first rows situation) c.in_ok-world.ensures.members
            (subst (λ (n : ℕ). ArePartsFrom (book_of c.in_ok-world.world).members table script n starts first rows situation) none parts);
        is = here;
        count = c.in_ok-played.ensures.members ∙ c.in_ok-world.ensures.members;
      };
      watched = λ before. subst (λ n. WatchesOn n table script rows starts c.play.new.watch) c.in_ok-world.ensures.members
          (watched (subst (λ n. WatchesOn n table [] [] [] c.args.watch.now) (sym c.in_ok-world.ensures.members) before));
    }

-- A watch goes on with the world.
use Rattle.std.proofs.Common.{◌≡◌, ℕ, suc, ◌+◌, ◌≤◌, arith, true, false, List, [], ◌∷◌, ◌++◌, length, Option, None, Some, is_some, IfSome, refl, sym, ◌∙◌, subst}
use Rattle.disk_model.specs.View.{DiskView}
use Rattle.zone_minutes.specs.declared.minute.Minute.{Minute}
use Rattle.due_set.specs.Table.{Table}
use Rattle.history.specs.Book.{Row}
use Rattle.history.specs.Legal.{IsLegal}
use Rattle.script_text.specs.declared.command.Command.{Command}
use Rattle.script_text.specs.declared.command.Command.TheVariants.{Free, Round, Campaign, Stop, Break, Restart, Cut, Heal, Drop, Repeat, Reverse, Again, Skew, Fate, Arrive, Settle, Walk}
use Rattle.script_semantics.specs.Situation.{Situation}
use Rattle.status_board.specs.Writing.{Writing}
use Rattle.world_free.specs.Board.{ShowsPart}
use Rattle.world_rounds.specs.World.{IsWorldAt, book_of}
use Rattle.world_rounds.specs.declared.world.World.{World}
use Rattle.disk_model.specs.declared.mem_disk.MemDisk.{MemDisk}
use Rattle.script_semantics.specs.Script.{Obeys}
use Rattle.script_semantics.specs.Starts.{BeginAt}
use Rattle.world_law.specs.Book.{BookState, StandsBehind}
use Rattle.script_play.specs.Play.{HasPlayed, HasRun}
use Rattle.script_play.specs.Watch.{AreSeen, IsWatched, IsWatchedOn, Watches, WatchesOn, is_free, open_jobs}
use Rattle.script_play.proofs.Starts.{as_many_turns, begin_at}
use Rattle.script_play.specs.declared.seen.Seen.{Seen}
use Rattle.script_play.specs.declared.watch.Watch.{Watch}
use Rattle.script_play.proofs.Watching.{free_watches, other_watches, walk_seen}

-- a command of another kind isn't `free`
not_free : (command : Command) → ((at : Minute) (turns : ℕ) → command ≡ Free at turns → ⊥) → is_free command ≡ false
not_free (Round at rounds) other = refl
not_free (Campaign who) other = refl
not_free (Stop who) other = refl
not_free (Break who pass image) other = refl
not_free (Restart who) other = refl
not_free (Cut from to) other = refl
not_free Heal other = refl
not_free (Drop from to) other = refl
not_free (Repeat from to) other = refl
not_free (Reverse who) other = refl
not_free (Again letter) other = refl
not_free (Skew who minutes) other = refl
not_free (Fate who word) other = refl
not_free (Arrive late) other = refl
not_free (Settle at) other = refl
not_free (Walk to) other = refl
not_free (Free at turns) other = absurd (other at turns refl)

module _ {D : Type 0} (view : DiskView D) (table : Table) (old new : World D) (rows more : List Row) (situation after : Situation) (was : IsWorldAt view table rows old situation)
    (is : IsWorldAt view table (rows ++ more) new after) (members : new.book.members ≡ old.book.members) where
  legal : IsLegal old.book.members table (rows ++ more)
  legal = subst (λ n. IsLegal n table (rows ++ more)) members is.ahead.at.behind.legal

  -- after free turns that were shown, and looked at
  pub shown_goes : (at : Minute) (turns place : ℕ) (one other : Watch) (writer : Writing) → ShowsPart old.book.members 0 table situation rows more one.writer writer → other.writer ≡ writer
      → other.seen.items ≡ one.seen.items ++ record { number = place + 1; prefix = writer.prefix; jobs_open = open_jobs writer.machine.rows } ∷ []
      → (script : List Command) (starts : List ℕ) → length script ≡ place → length starts ≡ place → Watches old.book.members table script rows starts one
      → Watches old.book.members table (script ++ Free at turns ∷ []) (rows ++ more) (starts ++ length rows ∷ []) other
  shown_goes at turns place one other writer shows writer_is seen script starts script_is starts_is before =
      free_watches old.book.members table script (Free at turns) rows more starts situation one other writer refl was.ahead.at.few legal (starts_is ∙ sym script_is) was.ahead.at.standing before shows writer_is
      (let next : place + 1 ≡ suc (length script) = omega (arith, script_is) in
      subst (λ n. other.seen.items ≡ one.seen.items ++ record { number = n; prefix = writer.prefix; jobs_open = open_jobs writer.machine.rows } ∷ []) next seen)

  -- after another command
  pub other_goes : (command : Command) (place : ℕ) (watch : Option Watch) → ((at : Minute) (turns : ℕ) → command ≡ Free at turns → ⊥)
      → (script : List Command) (starts : List ℕ) → length script ≡ place → length starts ≡ place → WatchesOn old.book.members table script rows starts watch
      → WatchesOn old.book.members table (script ++ command ∷ []) (rows ++ more) (starts ++ length rows ∷ []) watch
  other_goes command place None other script starts script_is starts_is before = tt
  other_goes command place (Some watch) other script starts script_is starts_is before =
      other_watches old.book.members table script command rows more starts watch (not_free command other) was.ahead.at.few legal (starts_is ∙ sym script_is) before

-- ---- a run

module _ (table : Table) (members : ℕ) (script : List Command) (starts : List ℕ) (start : ℕ) (old new : World MemDisk) (played : HasPlayed table members script starts old)
    (run : HasRun table members script new) (more : List Row) (rows_are : run.rows ≡ played.rows ++ more) (start_is : start ≡ length (book_of old).turns) where
  -- what a watch has seen of a script stays when the world has walked
  pub has_seen : (watch : Watch) → members ≤ 7 → Watches members table script played.rows starts watch → IsWatched table script (book_of new) (starts ++ start ∷ []) watch.seen.items
  has_seen watch few before =
      let size : start ≡ length played.rows = start_is ∙ as_many_turns table played.rows (book_of old) played.is.ahead.at.behind in
      let obeys : Obeys members table script (played.rows ++ more) = subst (Obeys members table script) rows_are run.obeys in
      let behind : StandsBehind table (played.rows ++ more) (book_of new) = subst (λ (l : List Row). StandsBehind table l (book_of new)) rows_are run.is.ahead.at.behind in
      let legal : IsLegal members table (played.rows ++ more) = subst (λ n. IsLegal n table (played.rows ++ more)) run.count behind.legal in
      record {
        rows = played.rows ++ more;
        behind = behind;
        begin = subst (λ n. BeginAt n table script (played.rows ++ more) (starts ++ start ∷ [])) (sym run.count) (begin_at members table script starts start played.rows more played.situation played.parts size obeys);
        are = subst (λ n. AreSeen n table script (played.rows ++ more) (starts ++ start ∷ []) watch.seen.items) (sym run.count)
            (subst (λ n. AreSeen members table script (played.rows ++ more) (starts ++ n ∷ []) watch.seen.items) (sym size)
            (walk_seen members table script played.rows more starts watch few legal played.parts.count before));
      }

  pub has_seen_on : (watch : Option Watch) → members ≤ 7 → WatchesOn members table script played.rows starts watch → IsWatchedOn table script (book_of new) (starts ++ start ∷ []) watch
  has_seen_on None few before = tt
  has_seen_on (Some watch) few before = has_seen watch few before

-- what is given back of a watch is what it has seen
pub seen_back : (table : Table) (script : List Command) (book : BookState) (starts : List ℕ) (watch : Option Watch) (seen : List Seen) → is_some watch ≡ true
    → IsWatchedOn table script book starts watch → IfSome watch (λ (w : Watch). seen ≡ w.seen.items) → IsWatched table script book starts seen
seen_back table script book starts None seen some has back = absurd cc
seen_back table script book starts (Some watch) seen some has back = subst (IsWatched table script book starts) (sym back) has

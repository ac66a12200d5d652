-- Commands, one after another, from whichever situation.
use Rattle.std.proofs.Common.{◌≡◌, ℕ, ◌+◌, Option, is_some, List, [], ◌∷◌, ◌++◌, length, refl, sym, ap, ◌∙◌, subst, arith, append_assoc}
use Rattle.std.proofs.lemmas.List.{append-nil, length-append}
use Rattle.disk_model.specs.View.{DiskView}
use Rattle.due_set.specs.Table.{Table}
use Rattle.script_text.specs.declared.command.Command.{Command}
use Rattle.history.specs.Book.{Row}
use Rattle.script_semantics.specs.Script.{ArePartsOf, IsPartOf}
use Rattle.script_semantics.specs.Situation.{Situation}
use Rattle.world_rounds.specs.World.{IsWorld, IsWorldAt}
use Rattle.world_rounds.specs.declared.world.World.{World}
use Rattle.script_play.specs.Watch.{GoesOnWatched, MayWatchOn, PlaysWatched, WatchesOn}
use Rattle.script_play.specs.declared.watch.Watch.{Watch}
use Rattle.script_play.proofs.Starts.{as_many_turns, parts_at_none, parts_at_push}

-- one part more
parts_push : (n : ℕ) (table : Table) (script : List Command) (command : Command) (situation middle after : Situation) (rows more : List Row)
    → ArePartsOf n table script situation rows middle → IsPartOf n table command middle more after
    → ArePartsOf n table (script ++ command ∷ []) situation (rows ++ more) after
parts_push n table [] command situation middle after rows more parts part = record {
  front = more;
  middle = after;
  back = [];
  parts = ap (λ rows. rows ++ more) parts.none ∙ sym (append-nil more);
  one = subst (λ s. IsPartOf n table command s more after) parts.is part;
  two = record { none = refl; is = refl };
}
parts_push n table (first ∷ script) command situation middle after rows more parts part = record {
  front = parts.front;
  middle = parts.middle;
  back = parts.back ++ more;
  parts = ap (λ rows. rows ++ more) parts.parts ∙ append_assoc parts.front parts.back more;
  one = parts.one;
  two = parts_push n table script command parts.middle middle after parts.back more parts.two part;
}

module _ {D : Type 0} (view : DiskView D) (table : Table) where
  -- the world has played some commands, whose parts begin at these numbers of turns, and a watch with it
  pub record HasDone (script : List Command) (starts : List ℕ) (old new : World D) (watch watch' : Option Watch) : Type 0 where
    pub goes : PlaysWatched view table script starts old new watch watch'
    pub members : new.book.members ≡ old.book.members
    pub world : IsWorld view table new
    pub ready : MayWatchOn table watch'
    pub stays : is_some watch' ≡ is_some watch

  pub done_none : (world : World D) (watch : Option Watch) → IsWorld view table world → MayWatchOn table watch → HasDone [] [] world world watch watch
  done_none world watch is ready = record {
    goes = λ rows situation here. (
      [],
      situation,
      parts_at_none world.book.members table (length world.book.turns) situation,
      subst (λ rows. IsWorldAt view table rows world situation) (sym (append-nil rows)) here,
      λ before. subst (λ rows. WatchesOn world.book.members table [] rows [] watch) (sym (append-nil rows)) before,
    );
    members = refl;
    world = is;
    ready = ready;
    stays = refl;
  }

  -- the turns that were added are as many more
  more_turns : (rows more : List Row) (old new : World D) (situation after : Situation) → IsWorldAt view table rows old situation
      → IsWorldAt view table (rows ++ more) new after → length new.book.turns ≡ length old.book.turns + length more
  more_turns rows more old new situation after before behind =
      let first = as_many_turns table rows old.book before.ahead.at.behind in
      let last = as_many_turns table (rows ++ more) new.book behind.ahead.at.behind in
      let size = length-append rows more in
      omega (arith, first, last, size)

  pub done_next : (script : List Command) (command : Command) (starts : List ℕ) (start place : ℕ) (old now new : World D) (watch watch' after_watch : Option Watch) → HasDone script starts old now watch watch'
      → start ≡ length now.book.turns → place ≡ length starts
      → GoesOnWatched view table command place now new watch' after_watch → new.book.members ≡ now.book.members → MayWatchOn table after_watch → is_some after_watch ≡ is_some watch'
      → HasDone (script ++ command ∷ []) (starts ++ start ∷ []) old new watch after_watch
  done_next script command starts start place old now new watch watch' after_watch so_far start_is place_is goes members ready stays = record {
    goes = λ rows situation is.
        let front = so_far.goes rows situation is in
        let back = goes (rows ++ front.0) front.1 front.3 in
        let parts = parts_push old.book.members table script command situation front.1 back.1 front.0 back.0 front.2.parts
        (subst (λ n. IsPartOf n table command front.1 back.0 back.1) so_far.members back.2) in
        let here : start ≡ length old.book.turns + length front.0 = start_is ∙ more_turns rows front.0 old now situation front.1 is front.3 in
        let turns : length (rows ++ front.0) ≡ start = sym (as_many_turns table (rows ++ front.0) now.book front.3.ahead.at.behind) ∙ sym start_is in (
          front.0 ++ back.0,
          back.1,
          parts_at_push old.book.members table (length old.book.turns) situation script command starts start front.0 back.0 front.1 back.1 front.2 here parts,
          subst (λ rows. IsWorldAt view table rows new back.1) (append_assoc rows front.0 back.0) back.3,
          λ before.
              subst (λ (l : List Row). WatchesOn old.book.members table (script ++ command ∷ []) l (starts ++ start ∷ []) after_watch) (append_assoc rows front.0 back.0)
              (subst (λ n. WatchesOn old.book.members table (script ++ command ∷ []) ((rows ++ front.0) ++ back.0) (starts ++ n ∷ []) after_watch) turns
              (subst (λ n. WatchesOn n table (script ++ command ∷ []) ((rows ++ front.0) ++ back.0) (starts ++ length (rows ++ front.0) ∷ []) after_watch) so_far.members
              (back.4 script starts (sym front.2.count ∙ sym place_is) (sym place_is) (subst (λ n. WatchesOn n table script (rows ++ front.0) starts watch') (sym so_far.members) (front.4 before))))),
        );
    members = members ∙ so_far.members;
    world = let here = so_far.world in let back = goes here.rows here.situation here.is in record { rows = here.rows ++ back.0; situation = back.1; is = back.3 };
    ready = ready;
    stays = stays ∙ so_far.stays;
  }

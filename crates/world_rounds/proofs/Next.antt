-- What is known as a replica takes what a round has for it, one step after another.
use Rattle.std.proofs.Common.{◌≡◌, ◌<◌, ◌+◌, ℕ, Bool, true, false, List, get_or, [], ◌∷◌, ◌++◌, length, Option, None, Some, if◌then◌else◌, refl, sym, ◌∙◌, subst, arith, ℤ}
use Rattle.std.proofs.Common.{append-nil as append_nil}
use Rattle.std.specs.Prelude.{is_some}
use Rattle.std.specs.List.{slice_get}
use Rattle.disk_model.specs.View.{DiskView}
use Rattle.due_set.specs.Table.{Table}
use Rattle.history.specs.Book.{Row}
use Rattle.history.specs.declared.turn.Cause.TheVariants.{Campaign, Tick, Hear}
use Rattle.script_semantics.specs.Arms.{PlaysByArms}
use Rattle.script_semantics.specs.Round.{answer_tasks, clock_reading, hear_tasks, tasks_of}
use Rattle.script_semantics.specs.Situation.{Do, Situation, after_turn, after_turns}
use Rattle.world_rounds.proofs.Delivery.{delivered_all, delivered_none}
use Rattle.world_rounds.proofs.InOrder.{HasHeard, heard_next, heard_stop, left_is, left_over, mail_is, may_hear_next, passed_answer, passed_hear, passed_on, passed_tick, runs_here}
use Rattle.world_rounds.specs.OneByOne.{HasPassed, HasStepped, IsLed, IsLedOn, MayStepFor}
use Rattle.world_rounds.specs.World.{GoesOnBy, IsWorld, IsWorldAt}
use Rattle.world_rounds.specs.declared.member.Member.{Member}
use Rattle.world_rounds.specs.declared.world.World.{World}

pub none_waits : {X : Type 0} (o : Option X) → is_some o ≡ false → o ≡ None
none_waits None is = refl
none_waits (Some x) is = absurd (let e : true ≡ false = is in cc)

pub one_waits : {X : Type 0} (o : Option X) → is_some o ≡ true → (x : X) × (o ≡ Some x)
one_waits None is = absurd (let e : false ≡ true = is in cc)
one_waits (Some x) is = (x, refl)

module _ {D : Type 0} (view : DiskView D) (table : Table) where
  -- worlds of as many replicas have as many of them
  pub same_lengths : (one two : World D) → IsWorld view table one → IsWorld view table two → two.book.members ≡ one.book.members
      → length two.members.items ≡ length one.members.items
  same_lengths one two here there members = there.is.ahead.count ∙ members ∙ sym here.is.ahead.count

  -- ---- the letters of a mail

  module _ (who count : ℕ) (old now : World D) (first here : Member D) (heard : HasHeard view table old.book.members who count old now) (there : slice_get old.members.items who ≡ Some first)
      (found : slice_get now.members.items who ≡ Some here) (below : count < length first.mail.letters.items) (world : IsWorld view table old) (runs : first.mail.runs ≡ true) where
    -- there is a next letter
    pub next_there : 0 < length here.mail.letters.items
    next_there =
        let running = runs_here view table world.rows old world.situation who first world.is there runs in
        subst (λ (mail : List ℕ). 0 < length mail) (left_is view table old.book.members who count old now first here 0 heard there found below world.rows world.situation world.is running)
        (left_over view table (world.situation.mails who) count (subst (λ (mail : List ℕ). count < length mail) (sym (mail_is view table world.rows old world.situation who first world.is there)) below))

  module _ (who count letter : ℕ) (old now : World D) (first here : Member D) (heard : HasHeard view table old.book.members who count old now) (there : slice_get old.members.items who ≡ Some first)
      (found : slice_get now.members.items who ≡ Some here) (below : count < length first.mail.letters.items) (letter_is : letter ≡ get_or here.mail.letters.items 0 letter)
      (world : IsWorld view table old) (runs : first.mail.runs ≡ true) where
    -- the next letter may be heard
    pub next_may : (rows : List Row) × (situation : Situation) × IsWorldAt view table rows now situation × MayStepFor table.window situation who (Hear letter)
    next_may =
        let running = runs_here view table world.rows old world.situation who first world.is there runs in
        let so_far = heard.hears world.rows world.situation world.is running in (
          world.rows ++ so_far.0.more,
          after_turns old.book.members world.situation so_far.0.more,
          so_far.0.at,
          subst (λ (k : ℕ). MayStepFor table.window (after_turns old.book.members world.situation so_far.0.more) who (Hear k)) (sym letter_is)
              (may_hear_next view table old.book.members who count old now first here letter heard there found below world.rows world.situation world.is running),
        )

    module _ (new : World D) (goes : Bool) (steps : (rows : List Row) (situation : Situation) → IsWorldAt view table rows now situation → MayStepFor table.window situation who (Hear letter)
        → HasStepped view table now.book.members rows situation who (Hear letter) goes new) where
      next_world : IsWorld view table new
      next_world =
          let stepped = steps next_may.0 next_may.1 next_may.2 next_may.3 in
          record { rows = next_may.0 ++ stepped.row ∷ []; situation = after_turn now.book.members next_may.1 stepped.row; is = stepped.at }

      steps_so : (rows : List Row) (situation : Situation) → IsWorldAt view table rows now situation → MayStepFor table.window situation who (Hear (get_or here.mail.letters.items 0 letter))
          → HasStepped view table now.book.members rows situation who (Hear (get_or here.mail.letters.items 0 letter)) goes new
      steps_so rows situation is may =
          subst (λ (k : ℕ). HasStepped view table now.book.members rows situation who (Hear k) goes new) letter_is
          (steps rows situation is (subst (λ (k : ℕ). MayStepFor table.window situation who (Hear k)) (sym letter_is) may))

      -- it is heard
      pub next_heard : goes ≡ true → new.book.members ≡ now.book.members → HasHeard view table old.book.members who (count + 1) old new
      next_heard on members =
          heard_next view table old.book.members who count old now first here letter heard there found below new
          (λ rows situation is may. subst (λ (g : Bool). HasStepped view table now.book.members rows situation who (Hear (get_or here.mail.letters.items 0 letter)) g new) on (steps_so rows situation is may))
          heard.members members next_world (same_lengths now new heard.world next_world members)

      -- or the replica has stopped as it heard it
      pub next_stopped : goes ≡ false → (rows : List Row) (situation : Situation) → IsWorldAt view table rows old situation → IsLed view table old.book.members rows situation who (hear_tasks who (situation.mails who)) false new
      next_stopped off rows situation is =
          heard_stop view table old.book.members who count old now first here letter heard there found below new
          (λ rows situation is may. subst (λ (g : Bool). HasStepped view table now.book.members rows situation who (Hear (get_or here.mail.letters.items 0 letter)) g new) off (steps_so rows situation is may))
          heard.members rows situation is (runs_here view table rows old situation who first is there runs)

  -- ---- the parts of a round, one after another

  module _ (who : ℕ) (at : ℤ) (old now : World D) (member : Member D) (there : slice_get old.members.items who ≡ Some member) (runs : member.mail.runs ≡ true) (world : IsWorld view table old) (goes : Bool)
      (answers : (rows : List Row) (situation : Situation) → IsWorldAt view table rows old situation → IsLedOn view table old.book.members rows situation who (answer_tasks who (situation.standing.waits who)) goes now) where
    running : (rows : List Row) (situation : Situation) → IsWorldAt view table rows old situation → situation.standing.runs who ≡ true
    running rows situation is = runs_here view table rows old situation who member is there runs

    pub answer_stopped : goes ≡ false → (rows : List Row) (situation : Situation) → IsWorldAt view table rows old situation → HasPassed view table old.book.members rows situation (tasks_of table.window at situation who) now
    answer_stopped off rows situation is =
        passed_answer view table old.book.members rows situation who at (running rows situation is) now
        (subst (λ (g : Bool). IsLedOn view table old.book.members rows situation who (answer_tasks who (situation.standing.waits who)) g now) off (answers rows situation is))

    pub answer_world : IsWorld view table now
    answer_world =
        let answered = answers world.rows world.situation world.is in
        record { rows = world.rows ++ answered.led.more; situation = after_turns old.book.members world.situation answered.led.more; is = answered.led.at }

    pub answer_runs : goes ≡ true → (x : Member D) → slice_get now.members.items who ≡ Some x → x.mail.runs ≡ true
    answer_runs on x found = let answered = answers world.rows world.situation world.is in (answered.led.at.ahead.each who x found).mail.runs ∙ answered.led.runs on

    module _ (on : goes ≡ true) (same : now.book.members ≡ old.book.members) (after : World D) (more : Bool)
        (hears : (rows : List Row) (situation : Situation) → IsWorldAt view table rows now situation → IsLed view table now.book.members rows situation who (hear_tasks who (situation.mails who)) more after) where
      abbrev answered : (rows : List Row) (situation : Situation) → IsWorldAt view table rows old situation → IsLedOn view table old.book.members rows situation who (answer_tasks who (situation.standing.waits who)) true now
      answered rows situation is = subst (λ (g : Bool). IsLedOn view table old.book.members rows situation who (answer_tasks who (situation.standing.waits who)) g now) on (answers rows situation is)

      -- from these rows and this situation on
      module _ (rows : List Row) (situation : Situation) (is : IsWorldAt view table rows old situation) where
        abbrev all : List Row
        all = rows ++ (answered rows situation is).led.more

        abbrev here : Situation
        here = after_turns old.book.members situation (answered rows situation is).led.more

        heard : IsLed view table old.book.members all here who (hear_tasks who (here.mails who)) more after
        heard = subst (λ (n : ℕ). IsLed view table n all here who (hear_tasks who (here.mails who)) more after) same (hears all here (answered rows situation is).led.at)

        pub hear_stopped : more ≡ false → HasPassed view table old.book.members rows situation (tasks_of table.window at situation who) after
        hear_stopped off =
            passed_hear view table old.book.members rows situation who at (running rows situation is) now (answered rows situation is) after
            (subst (λ (g : Bool). IsLed view table old.book.members all here who (hear_tasks who (here.mails who)) g after) off heard)

        pub ticked : more ≡ true → after.book.members ≡ now.book.members → (last : Bool) → (new : World D)
            → ((rows : List Row) (situation : Situation) → IsWorldAt view table rows after situation
            → IsLed view table after.book.members rows situation who (Do who (Tick (clock_reading table.window at (situation.skews who))) ∷ []) last new)
            → HasPassed view table old.book.members rows situation (tasks_of table.window at situation who) new
        ticked goes_on kept last new ticks =
            let led = subst (λ (g : Bool). IsLed view table old.book.members all here who (hear_tasks who (here.mails who)) g after) goes_on heard in
            let there = after_turns old.book.members here led.more in
            passed_tick view table old.book.members rows situation who at (running rows situation is) now (answered rows situation is) after new last led
            (subst (λ (n : ℕ). IsLed view table n (all ++ led.more) there who (Do who (Tick (clock_reading table.window at (there.skews who))) ∷ []) last new) (kept ∙ same) (ticks (all ++ led.more) there led.at))

      pub hear_world : IsWorld view table after
      hear_world =
          let led = heard world.rows world.situation world.is in
          record { rows = all world.rows world.situation world.is ++ led.more; situation = after_turns old.book.members (here world.rows world.situation world.is) led.more; is = led.at }

      pub hear_runs : more ≡ true → (x : Member D) → slice_get after.members.items who ≡ Some x → x.mail.runs ≡ true
      hear_runs goes_on x found = let led = heard world.rows world.situation world.is in (led.at.ahead.each who x found).mail.runs ∙ led.runs goes_on

  -- a replica that is stopped doesn't stand for leader
  pub campaign_stopped : (who : ℕ) (world : World D) (member : Member D) → slice_get world.members.items who ≡ Some member → member.mail.runs ≡ false
      → GoesOnBy view table (PlaysByArms world.book.members (λ situation. if situation.standing.runs who then Do who Campaign ∷ [] else [])) world world
  campaign_stopped who world member there stops = λ rows situation is.
      let stopped : situation.standing.runs who ≡ false = sym (is.ahead.each who member there).mail.runs ∙ stops in
      passed_on view table rows world world world situation (if situation.standing.runs who then Do who Campaign ∷ [] else []) is
      (record {
        more = [];
        turns = rw stopped refl;
        at = subst (λ (all : List Row). IsWorldAt view table all world situation) (sym (append_nil rows)) is;
      }) (delivered_all view (length world.book.letters) (length world.book.letters) world world (omega arith) (delivered_none view (length world.book.letters) world) (omega arith))

  pub campaign_world : (who : ℕ) (old new : World D) (member : Member D) → slice_get old.members.items who ≡ Some member → member.mail.runs ≡ true → IsWorld view table old → (goes : Bool)
      → ((rows : List Row) (situation : Situation) → IsWorldAt view table rows old situation → MayStepFor table.window situation who Campaign
      → HasStepped view table old.book.members rows situation who Campaign goes new) → IsWorld view table new
  campaign_world who old new member there runs world goes steps =
      let stepped = steps world.rows world.situation world.is (record { runs = runs_here view table world.rows old world.situation who member world.is there runs; next = tt }) in
      record { rows = world.rows ++ stepped.row ∷ []; situation = after_turn old.book.members world.situation stepped.row; is = stepped.at }

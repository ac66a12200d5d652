-- Replicas that take their tasks of a round one after another, each step a turn before the next one is taken.
use Rattle.std.proofs.Common.{◌≡◌, add-one, ℕ, zero, suc, take, ◌+◌, ◌<◌, Bool, true, false, List, [], ◌∷◌, ◌++◌, get_or, length, drop, Option, None, Some, if◌then◌else◌, refl, sym, ap, ◌∙◌, subst, inl, inr, append_assoc, arith, ℤ}
use Rattle.std.proofs.Common.{append-nil as append_nil}
use Rattle.std.specs.List.{flat_map, range_with_len, slice_get}
use Rattle.std.proofs.lemmas.List.Concat.{flat_map-append}
use Rattle.disk_model.specs.View.{DiskView}
use Rattle.cluster_sched.specs.declared.row.SchedRow.{SchedRow}
use Rattle.due_set.specs.Table.{Table}
use Rattle.history.specs.Book.{Row}
use Rattle.history.specs.declared.turn.CallRow.{CallRow}
use Rattle.history.specs.declared.turn.Cause.{Cause}
use Rattle.history.specs.declared.turn.Cause.TheVariants.{Campaign, Tick, Hear, Answer}
use Rattle.history.specs.declared.turn.Turn.{Turn}
use Rattle.history.specs.declared.turn.Turn.TheVariants.{Did}
use Rattle.script_semantics.specs.Arms.{AreTurnsByArms, IsTurnByArm, PerformsByArms, PlaysByArms}
use Rattle.script_semantics.specs.Round.{answer_tasks, clock_reading, hear_tasks, round_tasks, tasks_of}
use Rattle.script_semantics.specs.Situation.{Do, Situation, Task, after_turn, after_turns, delivered, mails_after}
use Rattle.world_steps.proofs.AfterTurn.{row_runs}
use Rattle.world_rounds.proofs.Led.{AreLeft, after_both, back_of, leads_end, others_leave, round_below, round_tasks_of, turns_then, leads_none, leads_step, hears_of, leads_stop, leads_then, tick_of}
use Rattle.world_rounds.proofs.RoundsOfAll.{posted_so_far}
use Rattle.world_rounds.specs.Mails.{Changes}
use Rattle.world_rounds.specs.OneByOne.{AreTasksOf, HasPassed, HasStepped, IsLed, IsLedOn, LeadsOn, MayStepFor, goes_on}
use Rattle.world_rounds.specs.World.{GoesOnBy, IsWorld, IsWorldAt}
use Rattle.world_rounds.specs.declared.member.Member.{Member}
use Rattle.world_rounds.specs.declared.world.World.{World}
use Rattle.history.proofs.Standings.{fact_here}
use Rattle.cron_io.proofs.ListLemmas.{range_more}

-- ---- how turns lead on in a world

-- a cause that calls for an answer leaves the mail
answer_keeps : (who : ℕ) (made : Option CallRow) (mails : ℕ → List ℕ) → mails_after (Did who Answer made) mails who ≡ mails who
answer_keeps who made mails = refl

skews_stay : (n : ℕ) (situation : Situation) (rows : List Row) (who : ℕ) → (after_turns n situation rows).skews who ≡ situation.skews who
skews_stay n situation [] who = refl
skews_stay n situation (row ∷ rows) who = skews_stay n (after_turn n situation row) rows who

module _ {D : Type 0} (view : DiskView D) (table : Table) where
  pub led_none : (n : ℕ) (rows : List Row) (world : World D) (situation : Situation) (who : ℕ) → IsWorldAt view table rows world situation → situation.standing.runs who ≡ true
      → IsLed view table n rows situation who [] true world
  led_none n rows world situation who is runs = record {
    more = [];
    leads = leads_none n who situation;
    at = subst (λ (all : List Row). IsWorldAt view table all world situation) (sym (append_nil rows)) is;
    runs = λ goes. runs;
  }

  -- a replica that goes on after a turn runs
  still_runs : (n : ℕ) (situation : Situation) (who : ℕ) (cause : Cause) (row : Row) → situation.standing.runs who ≡ true → IsTurnByArm n situation (Do who cause) row → goes_on row.turn ≡ true
      → (after_turn n situation row).standing.runs who ≡ true
  still_runs n situation who cause row runs (inl takes) goes = ap (λ (all : ℕ → Bool). all who) (row_runs n situation.standing row who cause takes.does.made takes.does.is) ∙ runs
  still_runs n situation who cause row runs (inr stops) goes = absurd (let e : false ≡ true = sym (ap goes_on stops.is) ∙ goes in cc)

  pub led_step : (n : ℕ) (rows : List Row) (situation : Situation) (who : ℕ) (cause : Cause) (goes : Bool) (new : World D) → situation.standing.runs who ≡ true
      → HasStepped view table n rows situation who cause goes new → IsLed view table n rows situation who (Do who cause ∷ []) goes new
  led_step n rows situation who cause goes new runs stepped = record {
    more = stepped.row ∷ [];
    leads = subst (λ (g : Bool). LeadsOn n who situation (Do who cause ∷ []) (stepped.row ∷ []) g) stepped.goes_is (leads_step n who cause situation stepped.row stepped.turn);
    at = stepped.at;
    runs = λ on. still_runs n situation who cause stepped.row runs stepped.turn (stepped.goes_is ∙ on);
  }

  led_then : (n : ℕ) (rows : List Row) (situation : Situation) (who : ℕ) (one two : List Task) (goes : Bool) (now new : World D) → (led : IsLed view table n rows situation who one true now)
      → IsLed view table n (rows ++ led.more) (after_turns n situation led.more) who two goes new → AreTasksOf who two
      → IsLed view table n rows situation who (one ++ two) goes new
  led_then n rows situation who one two goes now new led next of = record {
    more = led.more ++ next.more;
    leads = leads_then n who situation one two led.more next.more goes led.leads next.leads of;
    at =
        subst (λ (all : List Row). IsWorldAt view table all new (after_turns n situation (led.more ++ next.more))) (append_assoc rows led.more next.more)
        (subst (λ (here : Situation). IsWorldAt view table ((rows ++ led.more) ++ next.more) new here) (sym (after_both n situation led.more next.more)) next.at);
    runs = λ on. ap (λ (here : Situation). here.standing.runs who) (after_both n situation led.more next.more) ∙ next.runs on;
  }

  pub led_stop : (n : ℕ) (rows : List Row) (situation : Situation) (who : ℕ) (one two : List Task) (new : World D) → IsLed view table n rows situation who one false new → AreTasksOf who two
      → IsLed view table n rows situation who (one ++ two) false new
  led_stop n rows situation who one two new led of =
      record { more = led.more; leads = leads_stop n who situation one two led.more led.leads of; at = led.at; runs = λ on. absurd (let e : false ≡ true = on in cc) }

  pub passed_of : (n : ℕ) (rows : List Row) (situation : Situation) (who : ℕ) (tasks : List Task) (goes : Bool) (new : World D) → IsLed view table n rows situation who tasks goes new
      → HasPassed view table n rows situation tasks new
  passed_of n rows situation who tasks goes new led = record { more = led.more; turns = leads_end n who situation tasks led.more goes led.leads; at = led.at }

  -- ---- an answer

  mail_answered : (n : ℕ) (situation : Situation) (who : ℕ) (row : Row) → IsTurnByArm n situation (Do who Answer) row → goes_on row.turn ≡ true → (after_turn n situation row).mails who ≡ situation.mails who
  mail_answered n situation who row (inl takes) goes = ap (λ (turn : Turn). mails_after turn situation.mails who) takes.does.is
  mail_answered n situation who row (inr stops) goes = absurd (let e : false ≡ true = sym (ap goes_on stops.is) ∙ goes in cc)

  pub led_answer : (n : ℕ) (rows : List Row) (situation : Situation) (who : ℕ) (answer : SchedRow) (goes : Bool) (new : World D) → situation.standing.runs who ≡ true → situation.standing.waits who ≡ Some answer
      → HasStepped view table n rows situation who Answer goes new
      → IsLedOn view table n rows situation who (answer_tasks who (situation.standing.waits who)) goes new
  unfolding led_step
  led_answer n rows situation who answer goes new runs waits stepped =
      subst (λ (w : Option SchedRow). IsLedOn view table n rows situation who (answer_tasks who w) goes new) (sym waits) (record {
        led = led_step n rows situation who Answer goes new runs stepped;
        mail = λ on. mail_answered n situation who stepped.row stepped.turn (stepped.goes_is ∙ on);
      })

  pub led_unanswered : (n : ℕ) (rows : List Row) (world : World D) (situation : Situation) (who : ℕ) → IsWorldAt view table rows world situation → situation.standing.runs who ≡ true
      → situation.standing.waits who ≡ None → IsLedOn view table n rows situation who (answer_tasks who (situation.standing.waits who)) true world
  unfolding led_none
  led_unanswered n rows world situation who is runs waits =
      subst (λ (w : Option SchedRow). IsLedOn view table n rows situation who (answer_tasks who w) true world) (sym waits) (record { led = led_none n rows world situation who is runs; mail = λ on. refl })

  -- ---- letters, one after another

  -- so many letters of the mail have been heard
  pub record HasHeard (n : ℕ) (who count : ℕ) (old new : World D) : Type 0 where
    pub hears : (rows : List Row) (situation : Situation) → IsWorldAt view table rows old situation → situation.standing.runs who ≡ true
        → (led : IsLed view table n rows situation who (hear_tasks who (take count (situation.mails who))) true new)
        × ((after_turns n situation led.more).mails who ≡ drop count (situation.mails who))
    pub world : IsWorld view table new
    pub members : new.book.members ≡ old.book.members
    pub count_is : length new.members.items ≡ length old.members.items

  pub heard_none : (n who : ℕ) (world : World D) → IsWorld view table world → HasHeard n who 0 world world
  unfolding led_none
  heard_none n who world is = record { hears = λ rows situation here runs. (led_none n rows world situation who here runs, refl); world = is; members = refl; count_is = refl }

  mail_heard : (n : ℕ) (situation : Situation) (who number : ℕ) (row : Row) → IsTurnByArm n situation (Do who (Hear number)) row → goes_on row.turn ≡ true
      → (after_turn n situation row).mails who ≡ drop 1 (situation.mails who)
  mail_heard n situation who number row (inl takes) goes = ap (λ (turn : Turn). mails_after turn situation.mails who) takes.does.is ∙ fact_here who (drop 1 (situation.mails who)) situation.mails
  mail_heard n situation who number row (inr stops) goes = absurd (let e : false ≡ true = sym (ap goes_on stops.is) ∙ goes in cc)

  hear_more : (who : ℕ) (mail : List ℕ) (count number : ℕ) (rest : List ℕ) → drop count mail ≡ number ∷ rest
      → hear_tasks who (take count mail) ++ Do who (Hear number) ∷ [] ≡ hear_tasks who (take (suc count) mail)
  hear_more who [] zero number rest is = absurd cc
  hear_more who [] (suc count) number rest is = absurd cc
  hear_more who (first ∷ mail) zero number rest is = let same : first ≡ number = cc in rw same refl
  hear_more who (first ∷ mail) (suc count) number rest is = ap (λ more. Do who (Hear first) ∷ more) (hear_more who mail count number rest is)

  drop_more : (mail : List ℕ) (count : ℕ) → drop 1 (drop count mail) ≡ drop (suc count) mail
  drop_more [] zero = refl
  drop_more (first ∷ mail) zero = refl
  drop_more [] (suc count) = refl
  drop_more (first ∷ mail) (suc count) = drop_more mail count

  hear_whole : (who : ℕ) (mail : List ℕ) (count number : ℕ) (rest : List ℕ) → drop count mail ≡ number ∷ rest
      → (hear_tasks who (take count mail) ++ Do who (Hear number) ∷ []) ++ hear_tasks who rest ≡ hear_tasks who mail
  hear_whole who [] zero number rest is = absurd cc
  hear_whole who [] (suc count) number rest is = absurd cc
  hear_whole who (first ∷ mail) zero number rest is = let one : first ≡ number = cc in let two : mail ≡ rest = cc in rw (one, two) refl
  hear_whole who (first ∷ mail) (suc count) number rest is = ap (λ more. Do who (Hear first) ∷ more) (hear_whole who mail count number rest is)

  pub mail_is : (rows : List Row) (world : World D) (situation : Situation) (who : ℕ) (member : Member D) → IsWorldAt view table rows world situation → slice_get world.members.items who ≡ Some member
      → situation.mails who ≡ member.mail.letters.items
  mail_is rows world situation who member is there = (is.ahead.each who member there).mail.letters_are

  first_of : (mail : List ℕ) (none : ℕ) → 0 < length mail → mail ≡ get_or mail 0 none ∷ drop 1 mail
  first_of [] none some = absurd (omega (arith, some))
  first_of (first ∷ mail) none some = refl

  pub left_over : (mail : List ℕ) (count : ℕ) → count < length mail → 0 < length (drop count mail)
  left_over [] count below = absurd (omega (arith, below))
  left_over (first ∷ mail) zero below = omega arith
  left_over (first ∷ mail) (suc count) below = left_over mail count (omega (arith, below))

  -- what is known of the next letter: it is the first that is left of the mail, as it was at first
  module _ (n who count : ℕ) (old now : World D) (first here : Member D) (none : ℕ) (heard : HasHeard n who count old now) (there : slice_get old.members.items who ≡ Some first)
      (found : slice_get now.members.items who ≡ Some here) (below : count < length first.mail.letters.items) where
    abbrev pub number : ℕ
    number = get_or here.mail.letters.items 0 none

    pub left_is : (rows : List Row) (situation : Situation) → (is : IsWorldAt view table rows old situation) → situation.standing.runs who ≡ true
        → drop count (situation.mails who) ≡ here.mail.letters.items
    left_is rows situation is runs =
        let so_far = heard.hears rows situation is runs in
        sym so_far.1 ∙ mail_is (rows ++ so_far.0.more) now (after_turns n situation so_far.0.more) who here so_far.0.at found

    left_first : (rows : List Row) (situation : Situation) → (is : IsWorldAt view table rows old situation) → situation.standing.runs who ≡ true
        → drop count (situation.mails who) ≡ number ∷ drop 1 here.mail.letters.items
    left_first rows situation is runs =
        let left = left_is rows situation is runs in
        let some : 0 < length here.mail.letters.items =
        subst (λ (mail : List ℕ). 0 < length mail) left
        (left_over (situation.mails who) count (subst (λ (mail : List ℕ). count < length mail) (sym (mail_is rows old situation who first is there)) below)) in
        left ∙ first_of here.mail.letters.items none some

    pub may_hear_next : (rows : List Row) (situation : Situation) → (is : IsWorldAt view table rows old situation) → (runs : situation.standing.runs who ≡ true)
        → MayStepFor table.window (after_turns n situation (heard.hears rows situation is runs).0.more) who (Hear number)
    may_hear_next rows situation is runs =
        let so_far = heard.hears rows situation is runs in
        record { runs = so_far.0.runs refl; next = (drop 1 here.mail.letters.items, so_far.1 ∙ left_first rows situation is runs) }

    module _ (new : World D) (goes : Bool)
        (steps : (rows : List Row) (situation : Situation) → IsWorldAt view table rows now situation → MayStepFor table.window situation who (Hear number)
        → HasStepped view table now.book.members rows situation who (Hear number) goes new) (same : now.book.members ≡ n) where
      one : (rows : List Row) (situation : Situation) → (is : IsWorldAt view table rows old situation) → (runs : situation.standing.runs who ≡ true)
          → HasStepped view table n (rows ++ (heard.hears rows situation is runs).0.more) (after_turns n situation (heard.hears rows situation is runs).0.more) who (Hear number) goes new
      one rows situation is runs =
          let so_far = heard.hears rows situation is runs in
          subst (λ (m : ℕ). HasStepped view table m (rows ++ so_far.0.more) (after_turns n situation so_far.0.more) who (Hear number) goes new) same
          (steps (rows ++ so_far.0.more) (after_turns n situation so_far.0.more) so_far.0.at (may_hear_next rows situation is runs))

      both : (rows : List Row) (situation : Situation) → (is : IsWorldAt view table rows old situation) → (runs : situation.standing.runs who ≡ true)
          → IsLed view table n rows situation who (hear_tasks who (take count (situation.mails who)) ++ Do who (Hear number) ∷ []) goes new
      both rows situation is runs =
          let so_far = heard.hears rows situation is runs in
          led_then n rows situation who (hear_tasks who (take count (situation.mails who))) (Do who (Hear number) ∷ []) goes now new so_far.0
          (led_step n (rows ++ so_far.0.more) (after_turns n situation so_far.0.more) who (Hear number) goes new (so_far.0.runs refl) (one rows situation is runs)) (tick_of who (Hear number))

    -- it goes on
    pub heard_next : (new : World D)
        → ((rows : List Row) (situation : Situation) → IsWorldAt view table rows now situation → MayStepFor table.window situation who (Hear number)
        → HasStepped view table now.book.members rows situation who (Hear number) true new)
        → now.book.members ≡ n → new.book.members ≡ now.book.members → IsWorld view table new → length new.members.items ≡ length now.members.items
        → HasHeard n who (count + 1) old new
    unfolding both one led_then led_step
    heard_next new steps same members world lengths = subst (λ (k : ℕ). HasHeard n who k old new) (sym (add-one count)) (record {
      hears = λ rows situation is runs.
          let so_far = heard.hears rows situation is runs in
          let first_left = left_first rows situation is runs in
          let next = one new true steps same rows situation is runs in
          let led = both new true steps same rows situation is runs in (
            record {
              more = led.more;
              leads = subst (λ (tasks : List Task). LeadsOn n who situation tasks led.more true) (hear_more who (situation.mails who) count number (drop 1 here.mail.letters.items) first_left) led.leads;
              at = led.at;
              runs = led.runs;
            },
            ap (λ (after : Situation). after.mails who) (after_both n situation so_far.0.more (next.row ∷ []))
                ∙ mail_heard n (after_turns n situation so_far.0.more) who number next.row next.turn next.goes_is ∙ ap (drop 1) so_far.1 ∙ drop_more (situation.mails who) count,
          );
      world = world;
      members = members ∙ heard.members;
      count_is = lengths ∙ heard.count_is;
    })

    -- or it has stopped within
    pub heard_stop : (new : World D)
        → ((rows : List Row) (situation : Situation) → IsWorldAt view table rows now situation → MayStepFor table.window situation who (Hear number)
        → HasStepped view table now.book.members rows situation who (Hear number) false new)
        → now.book.members ≡ n → (rows : List Row) (situation : Situation) → IsWorldAt view table rows old situation → situation.standing.runs who ≡ true
        → IsLed view table n rows situation who (hear_tasks who (situation.mails who)) false new
    heard_stop new steps same rows situation is runs =
        let first_left = left_first rows situation is runs in
        subst (λ (tasks : List Task). IsLed view table n rows situation who tasks false new)
        (hear_whole who (situation.mails who) count number (drop 1 here.mail.letters.items) first_left)
        (led_stop n rows situation who (hear_tasks who (take count (situation.mails who)) ++ Do who (Hear number) ∷ []) (hear_tasks who (drop 1 here.mail.letters.items)) new
        (both new false steps same rows situation is runs) (hears_of who (drop 1 here.mail.letters.items)))

  take_all : (mail : List ℕ) (count : ℕ) → count ≡ length mail → take count mail ≡ mail
  take_all [] zero is = refl
  take_all [] (suc count) is = absurd (omega (arith, is))
  take_all (first ∷ mail) zero is = absurd (omega (arith, is))
  take_all (first ∷ mail) (suc count) is = ap (λ more. first ∷ more) (take_all mail count (omega (arith, is)))

  pub heard_all : (n who count : ℕ) (old now : World D) (first : Member D) → HasHeard n who count old now → slice_get old.members.items who ≡ Some first → count ≡ length first.mail.letters.items
      → (rows : List Row) (situation : Situation) → IsWorldAt view table rows old situation → situation.standing.runs who ≡ true
      → IsLed view table n rows situation who (hear_tasks who (situation.mails who)) true now
  heard_all n who count old now first heard there whole rows situation is runs =
      subst (λ (mail : List ℕ). IsLed view table n rows situation who (hear_tasks who mail) true now)
      (take_all (situation.mails who) count (whole ∙ ap length (sym (mail_is rows old situation who first is there)))) (heard.hears rows situation is runs).0

  -- a replica that runs in the world runs in its situation
  pub runs_here : (rows : List Row) (world : World D) (situation : Situation) (who : ℕ) (member : Member D) → IsWorldAt view table rows world situation → slice_get world.members.items who ≡ Some member
      → member.mail.runs ≡ true → situation.standing.runs who ≡ true
  runs_here rows world situation who member is there runs = sym (is.ahead.each who member there).mail.runs ∙ runs

  -- ---- the tasks of a round

  -- a replica that is stopped has none
  pub passed_stopped : (n : ℕ) (rows : List Row) (world : World D) (situation : Situation) (who : ℕ) (at : ℤ) → IsWorldAt view table rows world situation → situation.standing.runs who ≡ false
      → HasPassed view table n rows situation (tasks_of table.window at situation who) world
  passed_stopped n rows world situation who at is stopped = record {
    more = [];
    turns = rw stopped refl;
    at = subst (λ (all : List Row). IsWorldAt view table all world situation) (sym (append_nil rows)) is;
  }

  abbrev back_tasks : ℤ → Situation → ℕ → List Task
  back_tasks at situation who = hear_tasks who (situation.mails who) ++ Do who (Tick (clock_reading table.window at (situation.skews who))) ∷ []

  tasks_are : (at : ℤ) (situation : Situation) (who : ℕ) → situation.standing.runs who ≡ true
      → answer_tasks who (situation.standing.waits who) ++ back_tasks at situation who ≡ tasks_of table.window at situation who
  tasks_are at situation who runs = rw runs refl

  module _ (n : ℕ) (rows : List Row) (situation : Situation) (who : ℕ) (at : ℤ) (runs : situation.standing.runs who ≡ true) where
    whole : (goes : Bool) (new : World D) → IsLed view table n rows situation who (answer_tasks who (situation.standing.waits who) ++ back_tasks at situation who) goes new
        → HasPassed view table n rows situation (tasks_of table.window at situation who) new
    whole goes new led =
        subst (λ (tasks : List Task). HasPassed view table n rows situation tasks new) (tasks_are at situation who runs)
        (passed_of n rows situation who (answer_tasks who (situation.standing.waits who) ++ back_tasks at situation who) goes new led)

    -- it has stopped as it took the answer
    pub passed_answer : (new : World D) → IsLedOn view table n rows situation who (answer_tasks who (situation.standing.waits who)) false new
        → HasPassed view table n rows situation (tasks_of table.window at situation who) new
    passed_answer new answered =
        whole false new (led_stop n rows situation who (answer_tasks who (situation.standing.waits who)) (back_tasks at situation who) new answered.led
        (back_of who (situation.mails who) (Tick (clock_reading table.window at (situation.skews who)))))

    module _ (now : World D) (answered : IsLedOn view table n rows situation who (answer_tasks who (situation.standing.waits who)) true now) where
      abbrev here : Situation
      here = after_turns n situation answered.led.more

      same_back : hear_tasks who (here.mails who) ++ Do who (Tick (clock_reading table.window at (here.skews who))) ∷ [] ≡ back_tasks at situation who
      same_back =
          ap (λ (mail : List ℕ). hear_tasks who mail ++ Do who (Tick (clock_reading table.window at (here.skews who))) ∷ []) (answered.mail refl)
          ∙ ap (λ (skew : ℤ). hear_tasks who (situation.mails who) ++ Do who (Tick (clock_reading table.window at skew)) ∷ []) (skews_stay n situation answered.led.more who)

      then_back : (goes : Bool) (new : World D)
          → IsLed view table n (rows ++ answered.led.more) here who (hear_tasks who (here.mails who) ++ Do who (Tick (clock_reading table.window at (here.skews who))) ∷ []) goes new
          → HasPassed view table n rows situation (tasks_of table.window at situation who) new
      then_back goes new led =
          whole goes new (led_then n rows situation who (answer_tasks who (situation.standing.waits who)) (back_tasks at situation who) goes now new answered.led
          (subst (λ (tasks : List Task). IsLed view table n (rows ++ answered.led.more) here who tasks goes new) same_back led)
          (back_of who (situation.mails who) (Tick (clock_reading table.window at (situation.skews who)))))

      -- as it heard a letter
      pub passed_hear : (new : World D) → IsLed view table n (rows ++ answered.led.more) here who (hear_tasks who (here.mails who)) false new
          → HasPassed view table n rows situation (tasks_of table.window at situation who) new
      passed_hear new heard =
          then_back false new (led_stop n (rows ++ answered.led.more) here who (hear_tasks who (here.mails who)) (Do who (Tick (clock_reading table.window at (here.skews who))) ∷ []) new heard
          (tick_of who (Tick (clock_reading table.window at (here.skews who)))))

      -- or it has had them all
      pub passed_tick : (after new : World D) (goes : Bool) → (heard : IsLed view table n (rows ++ answered.led.more) here who (hear_tasks who (here.mails who)) true after)
          → IsLed view table n ((rows ++ answered.led.more) ++ heard.more) (after_turns n here heard.more) who
          (Do who (Tick (clock_reading table.window at ((after_turns n here heard.more).skews who))) ∷ []) goes new
          → HasPassed view table n rows situation (tasks_of table.window at situation who) new
      passed_tick after new goes heard ticked =
          then_back goes new (led_then n (rows ++ answered.led.more) here who (hear_tasks who (here.mails who)) (Do who (Tick (clock_reading table.window at (here.skews who))) ∷ []) goes after new heard
          (subst (λ (skew : ℤ). IsLed view table n ((rows ++ answered.led.more) ++ heard.more) (after_turns n here heard.more) who (Do who (Tick (clock_reading table.window at skew)) ∷ []) goes new)
          (skews_stay n here heard.more who) ticked) (tick_of who (Tick (clock_reading table.window at (here.skews who)))))

  -- ---- all replicas

  pub record HasPassedTo (at : ℤ) (count : ℕ) (old new : World D) : Type 0 where
    pub passes : (rows : List Row) (situation : Situation) → IsWorldAt view table rows old situation
        → HasPassed view table old.book.members rows situation (flat_map (tasks_of table.window at situation) (range_with_len 0 count)) new
    pub world : IsWorld view table new
    pub members : new.book.members ≡ old.book.members

  pub passed_none : (at : ℤ) (world : World D) → IsWorld view table world → HasPassedTo at 0 world world
  passed_none at world is = record {
    passes = λ rows situation here. record { more = []; turns = refl; at = subst (λ (all : List Row). IsWorldAt view table all world situation) (sym (append_nil rows)) here };
    world = is;
    members = refl;
  }

  -- the tasks of a replica are those that it had at first
  same_tasks : (at : ℤ) (here there : Situation) (who : ℕ) → AreLeft here there who → tasks_of table.window at there who ≡ tasks_of table.window at here who
  same_tasks at here there who left =
      ap (λ (runs : Bool). if runs then answer_tasks who (there.standing.waits who) ++ (hear_tasks who (there.mails who) ++ Do who (Tick (clock_reading table.window at (there.skews who))) ∷ []) else []) left.runs
      ∙ ap (λ (waits : Option SchedRow). if here.standing.runs who then answer_tasks who waits ++ (hear_tasks who (there.mails who) ++ Do who (Tick (clock_reading table.window at (there.skews who))) ∷ []) else []) left.waits
      ∙ ap (λ (mail : List ℕ). if here.standing.runs who then answer_tasks who (here.standing.waits who) ++ (hear_tasks who mail ++ Do who (Tick (clock_reading table.window at (there.skews who))) ∷ []) else []) left.mail
      ∙ ap (λ (skew : ℤ). if here.standing.runs who then answer_tasks who (here.standing.waits who) ++ (hear_tasks who (here.mails who) ++ Do who (Tick (clock_reading table.window at skew)) ∷ []) else []) left.skew

  tasks_next : (at : ℤ) (situation : Situation) (count : ℕ)
      → flat_map (tasks_of table.window at situation) (range_with_len 0 (count + 1)) ≡ flat_map (tasks_of table.window at situation) (range_with_len 0 count) ++ tasks_of table.window at situation count
  tasks_next at situation count =
      ap (flat_map (tasks_of table.window at situation)) (range_more 0 count (0 + count) refl ∙ ap (λ n. range_with_len 0 count ++ n ∷ []) (omega arith))
      ∙ flat_map-append (tasks_of table.window at situation) (range_with_len 0 count) (count ∷ [])
      ∙ ap (λ last. flat_map (tasks_of table.window at situation) (range_with_len 0 count) ++ last) (append_nil (tasks_of table.window at situation count))

  pub passed_next : (at : ℤ) (count : ℕ) (old now new : World D) → HasPassedTo at count old now
      → ((rows : List Row) (situation : Situation) → IsWorldAt view table rows now situation
      → HasPassed view table now.book.members rows situation (tasks_of table.window at situation count) new)
      → new.book.members ≡ now.book.members → HasPassedTo at (count + 1) old new
  passed_next at count old now new so_far passes members = record {
    passes = λ rows situation is.
        let front = so_far.passes rows situation is in
        let here = after_turns old.book.members situation front.more in
        let next = subst (λ (n : ℕ). HasPassed view table n (rows ++ front.more) here (tasks_of table.window at here count) new) so_far.members (passes (rows ++ front.more) here front.at) in
        let left = others_leave old.book.members count count situation (flat_map (tasks_of table.window at situation) (range_with_len 0 count)) front.more (omega arith) (round_below table.window at situation count) front.turns in
        record {
          more = front.more ++ next.more;
          turns =
              subst (λ (tasks : List Task). AreTurnsByArms old.book.members situation tasks (front.more ++ next.more)) (sym (tasks_next at situation count))
              (turns_then old.book.members count situation (flat_map (tasks_of table.window at situation) (range_with_len 0 count)) (tasks_of table.window at situation count) front.more next.more
              (round_below table.window at situation count) (round_tasks_of table.window at situation count) front.turns
              (subst (λ (tasks : List Task). AreTurnsByArms old.book.members here tasks next.more) (same_tasks at situation here count left) next.turns));
          at =
              subst (λ (all : List Row). IsWorldAt view table all new (after_turns old.book.members situation (front.more ++ next.more))) (append_assoc rows front.more next.more)
              (subst (λ (there : Situation). IsWorldAt view table ((rows ++ front.more) ++ next.more) new there) (sym (after_both old.book.members situation front.more next.more)) next.at);
        };
    world = let here = so_far.world in let next = passes here.rows here.situation here.is in record { rows = here.rows ++ next.more; situation = after_turns now.book.members here.situation next.more; is = next.at };
    members = members ∙ so_far.members;
  }

  -- then the letters join the mails
  pub passed_on : (rows : List Row) (world now new : World D) (situation : Situation) (tasks : List Task) → IsWorldAt view table rows world situation
      → HasPassed view table world.book.members rows situation tasks now → Changes view (delivered (length world.book.letters)) now new
      → (more : List Row) × (after : Situation) × PerformsByArms world.book.members tasks situation more after × IsWorldAt view table (rows ++ more) new after
  passed_on rows world now new situation tasks is passed changes = (
    passed.more,
    delivered (length world.book.letters) (after_turns world.book.members situation passed.more),
    record {
      turns = passed.turns;
      is = ap (λ n. delivered n (after_turns world.book.members situation passed.more)) (posted_so_far view table rows world situation is);
    },
    changes table (rows ++ passed.more) (after_turns world.book.members situation passed.more) passed.at,
  )

  pub round_passed : (at : ℤ) (count : ℕ) (world now new : World D) → HasPassedTo at count world now → count ≡ world.book.members → Changes view (delivered (length world.book.letters)) now new
      → GoesOnBy view table (PlaysByArms world.book.members (round_tasks world.book.members table.window at)) world new
  round_passed at count world now new passed whole changes = λ rows situation is.
      passed_on rows world now new situation (round_tasks world.book.members table.window at situation) is
      (subst (λ (n : ℕ). HasPassed view table world.book.members rows situation (flat_map (tasks_of table.window at situation) (range_with_len 0 n)) now) whole (passed.passes rows situation is)) changes

  pub campaign_passed : (who : ℕ) (goes : Bool) (world now new : World D) (member : Member D) → slice_get world.members.items who ≡ Some member → member.mail.runs ≡ true
      → ((rows : List Row) (situation : Situation) → IsWorldAt view table rows world situation → MayStepFor table.window situation who Campaign
      → HasStepped view table world.book.members rows situation who Campaign goes now)
      → Changes view (delivered (length world.book.letters)) now new
      → GoesOnBy view table (PlaysByArms world.book.members (λ situation. if situation.standing.runs who then Do who Campaign ∷ [] else [])) world new
  campaign_passed who goes world now new member there runs steps changes = λ rows situation is.
      let running = runs_here rows world situation who member is there runs in
      let led = led_step world.book.members rows situation who Campaign goes now running (steps rows situation is (record { runs = running; next = tt })) in
      passed_on rows world now new situation (if situation.standing.runs who then Do who Campaign ∷ [] else []) is
      (subst (λ (tasks : List Task). HasPassed view table world.book.members rows situation tasks now) (rw running refl)
      (passed_of world.book.members rows situation who (Do who Campaign ∷ []) goes now led)) changes

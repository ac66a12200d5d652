-- Rounds of a drain, in a world.
use Rattle.std.proofs.Common.{Bool, List, None, Option, Some, [], ap, append-nil as append_nil, append_assoc, arith, false, inl, inr, length, refl, subst, suc, sym, true, zero, ℕ, ℤ, ◌++◌, ◌-◌, ◌<◌, ◌∙◌, ◌∷◌, ◌≡◌}
use Rattle.std.specs.List.{Contains}
use Rattle.std.proofs.lemmas.Option.{slice_get_within}
use Rattle.disk_model.specs.View.{DiskView}
use Rattle.due_set.specs.Table.{Table}
use Rattle.term_core.specs.declared.term.Term.{Term}
use Rattle.term_core.specs.declared.term.Term.TheVariants.{Candidate, Follower, Leader}
use Rattle.cluster_sched.specs.declared.fate.Fate.{Fate}
use Rattle.cluster_sched.specs.declared.fate.Fate.TheVariants as fate
use Rattle.history.specs.Book.{Row, after_row, with_fact}
use Rattle.history.specs.declared.turn.CallRow.{CallRow}
use Rattle.history.specs.declared.turn.Cause.{Cause}
use Rattle.history.specs.declared.turn.Cause.TheVariants.{Campaign}
use Rattle.history.specs.declared.turn.Turn.TheVariants.{Did}
use Rattle.script_semantics.proofs.RoundLemmas.{is_step}
use Rattle.script_semantics.proofs.StartLemmas.{same_coordinator}
use Rattle.script_semantics.specs.Commands.{Plain, set_by, tasks_for}
use Rattle.script_semantics.specs.Parts.{Plays, Then}
use Rattle.script_semantics.specs.Round.{IsRound, round_tasks}
use Rattle.script_semantics.specs.Settling.{Drains, IsDrainRound, IsQuiet, Settles, cleared, campaign_tasks, coordinator, restart_tasks}
use Rattle.script_semantics.specs.Situation.{AreTurnsFor, Do, Does, IsTurnFor, Performs, Situation, Task, after_turn, after_turns, delivered, fates_after, letters_for}
use Rattle.script_text.specs.declared.command.Command.TheVariants as command
use Rattle.world_rounds.proofs.Delivery.{same_mails}
use Rattle.world_rounds.specs.Drains.{DrainsOn}
use Rattle.world_rounds.specs.Quiet.{AllRun, IsIn, AnswersFor}
use Rattle.step_spec.specs.May.{IsFollower}
use Rattle.world_rounds.specs.World.{GoesOnBy, IsWorld, IsWorldAt}
use Rattle.world_rounds.specs.declared.world.World.{World}
use Rattle.due_set.proofs.Rising.{Contains-head as in_first, Contains-tail as in_rest}
use Rattle.history.proofs.Standings.{fact_here, fact_there}
use Rattle.due_set.proofs.SoundLemmas.{at_place as found_at}
use Rattle.script_semantics.proofs.RunningLemmas.{one_step, campaign_steps}
use Rattle.std.proofs.lemmas.Bool.{cases_eq}

-- ---- how drains are put together

pub drains_on_none : (members : ℕ) (table : Table) (who : ℕ) (at : ℤ) (situation : Situation) → DrainsOn members table who at situation [] situation
drains_on_none members table who at situation = λ more after drains. drains

pub drains_on_then : (members : ℕ) (table : Table) (who : ℕ) (at : ℤ) (start middle here : Situation) (rows more : List Row) → DrainsOn members table who at start rows middle
    → DrainsOn members table who at middle more here → DrainsOn members table who at start (rows ++ more) here
drains_on_then members table who at start middle here rows more one two = λ last after drains.
    subst (λ rows. Drains members table who at start rows after) (sym (append_assoc rows more last)) (one (more ++ last) after (two last after drains))

pub drains_on_next : (members : ℕ) (table : Table) (who : ℕ) (at : ℤ) (start here : Situation) (rows : List Row) → (IsQuiet members table who at start → ⊥)
    → IsDrainRound members table who at start rows here → DrainsOn members table who at start rows here
drains_on_next members table who at start here rows not_yet round = λ more after drains. (
  suc drains.0,
  record { not_yet = not_yet; goes_on = record { front = rows; middle = here; back = more; parts = refl; one = round; two = drains.1 } },
)

-- it drains where it ends quiet
pub drains_whole : (members : ℕ) (table : Table) (who : ℕ) (at : ℤ) (start here : Situation) (rows : List Row) → DrainsOn members table who at start rows here
    → IsQuiet members table who at here → Drains members table who at start rows here
drains_whole members table who at start here rows on quiet =
    subst (λ rows. Drains members table who at start rows here) (append_nil rows)
    (on [] here (zero, record { is_quiet = quiet; stays = record { none = refl; is = refl } }))

-- ---- what turns of replicas leave

-- The same replicas run, no more is cut, clocks are as they were, and where a call was to be answered it still is.
pub record StaysAsSet (one other : Situation) : Type 0 where
  pub runs : other.standing.runs ≡ one.standing.runs
  pub cuts : other.cuts ≡ one.cuts
  pub skews : other.skews ≡ one.skews
  pub fates : (who : ℕ) → one.fates who ≡ fate.Done → other.fates who ≡ fate.Done

as_set_then : (one middle other : Situation) → StaysAsSet one middle → StaysAsSet middle other → StaysAsSet one other
as_set_then one middle other first second = record {
  runs = second.runs ∙ first.runs;
  cuts = second.cuts ∙ first.cuts;
  skews = second.skews ∙ first.skews;
  fates = λ who done. second.fates who (first.fates who done);
}

spent : (who : ℕ) (cause : Cause) (made : Option CallRow) (fates : ℕ → Fate) (other : ℕ) → fates other ≡ fate.Done → fates_after (Did who cause made) fates other ≡ fate.Done
spent who cause None fates other done = done
spent who cause (Some made) fates other done = elim (cases_eq other who) [
  | inl here ↦ subst (λ k. with_fact who fate.Done fates k ≡ fate.Done) (sym here) (fact_here who fate.Done fates)
  | inr differs ↦ fact_there who fate.Done fates other differs ∙ done
]

step_runs : (n : ℕ) (situation : Situation) (row : Row) (who : ℕ) (cause : Cause) (made : Option CallRow) → row.turn ≡ Did who cause made
    → (after_turn n situation row).standing.runs ≡ situation.standing.runs
unfolding after_row
step_runs n situation row who cause made is = rw is refl

step_as_set : (n : ℕ) (situation : Situation) (row : Row) (who : ℕ) (cause : Cause) → Does situation.fates who cause row.turn → StaysAsSet situation (after_turn n situation row)
step_as_set n situation row who cause does = record {
  runs = step_runs n situation row who cause does.made does.is;
  cuts = refl;
  skews = refl;
  fates = λ other done. subst (λ turn. fates_after turn situation.fates other ≡ fate.Done) (sym does.is) (spent who cause does.made situation.fates other done);
}

-- each task is a step of some replica
abbrev AreSteps : List Task → Type 0
AreSteps tasks = (task : Task) → Contains tasks task → (who : ℕ) × (cause : Cause) × (task ≡ Do who cause)

steps_as_set : (n : ℕ) (tasks : List Task) (situation : Situation) (rows : List Row) → AreSteps tasks → AreTurnsFor n situation tasks rows → StaysAsSet situation (after_turns n situation rows)
steps_as_set n [] situation rows steps turns = rw turns (record { runs = refl; cuts = refl; skews = refl; fates = λ who done. done })
steps_as_set n (task ∷ tasks) situation [] steps turns = absurd cc
steps_as_set n (task ∷ tasks) situation (row ∷ rows) steps turns =
    let one = steps task (in_first task tasks) in
    as_set_then situation (after_turn n situation row) (after_turns n (after_turn n situation row) rows)
    (step_as_set n situation row one.0 one.1 (subst (λ task. IsTurnFor situation.fates task row.turn) one.2 turns.0))
    (steps_as_set n tasks (after_turn n situation row) rows (λ other has. steps other (in_rest task tasks other has)) turns.1)

performed_as_set : (n : ℕ) (tasks : List Task) (situation after : Situation) (rows : List Row) → AreSteps tasks → Performs n tasks situation rows after → StaysAsSet situation after
performed_as_set n tasks situation after rows steps performs =
    let as_set = steps_as_set n tasks situation rows steps performs.turns in
    subst (λ after. StaysAsSet situation after) (sym performs.is) (record { runs = as_set.runs; cuts = as_set.cuts; skews = as_set.skews; fates = as_set.fates })

pub campaigned_as_set : (n who : ℕ) (situation after : Situation) (rows : List Row) → Plays n (λ here. Do who Campaign ∷ []) situation rows after → StaysAsSet situation after
campaigned_as_set n who situation after rows performs = performed_as_set n (Do who Campaign ∷ []) situation after rows (one_step who Campaign) performs

pub drained_as_set : (n : ℕ) (table : Table) (who : ℕ) (at : ℤ) (situation after : Situation) (rows : List Row) → IsDrainRound n table who at situation rows after → StaysAsSet situation after
drained_as_set n table who at situation after rows parts =
    as_set_then situation parts.middle after
    (performed_as_set n (campaign_tasks who (situation.standing.replicas who).term) situation parts.middle parts.front (campaign_steps who (situation.standing.replicas who).term) parts.one)
    (performed_as_set n (round_tasks n table.window at parts.middle) parts.middle after parts.back (λ task has. is_step n table.window at parts.middle task has) parts.two)

-- ---- a round of a drain

module _ {D : Type 0} (view : DiskView D) (table : Table) where
  -- the campaign of one that runs
  pub campaign_plays : (n who : ℕ) (situation after : Situation) (rows : List Row) → situation.standing.runs who ≡ true → Plain n (tasks_for (command.Campaign who)) (set_by (command.Campaign who)) situation rows after
      → Plays n (λ here. Do who Campaign ∷ []) situation rows after
  campaign_plays n who situation after rows runs part =
      let whole : rows ≡ part.front = part.parts ∙ ap (λ back. part.front ++ back) part.two.none ∙ append_nil part.front in
      let tasks : tasks_for (command.Campaign who) situation ≡ Do who Campaign ∷ [] = rw runs refl in
      subst (λ tasks. Performs n tasks situation rows after) tasks
      (subst (λ after. Performs n (tasks_for (command.Campaign who) situation) situation rows after) (sym part.two.is)
      (subst (λ rows. Performs n (tasks_for (command.Campaign who) situation) situation rows part.middle) (sym whole) part.one))

  pub runs_in : (rows : List Row) (world : World D) (situation : Situation) (who : ℕ) → IsWorldAt view table rows world situation → AllRun world → who < length world.members.items
      → situation.standing.runs who ≡ true
  runs_in rows world situation who is run below =
      let found = found_at world.members.items who below in
      sym (is.ahead.each who found.0 found.1).mail.runs ∙ run who found.0 found.1

  follows_tasks : (who : ℕ) (term : Term) → IsFollower term → campaign_tasks who term ≡ Do who Campaign ∷ []
  follows_tasks who (Follower ended) follows = refl
  follows_tasks who (Candidate ballot first heard best) follows = absurd follows
  follows_tasks who (Leader ballot best flight) follows = absurd follows

  other_tasks : (who : ℕ) (term : Term) → (IsFollower term → ⊥) → campaign_tasks who term ≡ []
  other_tasks who (Follower ended) not = absurd (not tt)
  other_tasks who (Candidate ballot first heard best) not = refl
  other_tasks who (Leader ballot best flight) not = refl

  pub lead_goes : (who : ℕ) (old new : World D) → AllRun old → who < length old.members.items → GoesOnBy view table (Plain old.book.members (tasks_for (command.Campaign who)) (set_by (command.Campaign who))) old new
      → GoesOnBy view table (Plays old.book.members (λ here. Do who Campaign ∷ [])) old new
  lead_goes who old new run below goes = λ rows situation is.
      let part = goes rows situation is in
      (part.0, part.1, campaign_plays old.book.members who situation part.1 part.0 (runs_in rows old situation who is run below) part.2, part.3)

  -- it follows and stands for leader, and a round comes
  pub led_round : (who : ℕ) (at : ℤ) (old now new : World D) → AnswersFor view table (λ situation. IsFollower (situation.standing.replicas who).term) old true
      → GoesOnBy view table (Plays old.book.members (λ here. Do who Campaign ∷ [])) old now → now.book.members ≡ old.book.members
      → GoesOnBy view table (IsRound now.book.members table.window at) now new → GoesOnBy view table (IsDrainRound old.book.members table who at) old new
  led_round who at old now new follows campaign members round = λ rows situation is.
      let one = campaign rows situation is in
      let two = round (rows ++ one.0) one.1 one.3 in (
        one.0 ++ two.0,
        two.1,
        record {
          front = one.0;
          middle = one.1;
          back = two.0;
          parts = refl;
          one = subst (λ tasks. Performs old.book.members tasks situation one.0 one.1)
              (sym (follows_tasks who (situation.standing.replicas who).term ((follows rows situation is).0 refl))) one.2;
          two = subst (λ n. IsRound n table.window at one.1 two.0 two.1) members two.2;
        },
        subst (λ rows. IsWorldAt view table rows new two.1) (append_assoc rows one.0 two.0) two.3,
      )

  -- it doesn't follow, and a round comes
  pub plain_round : (who : ℕ) (at : ℤ) (old new : World D) → AnswersFor view table (λ situation. IsFollower (situation.standing.replicas who).term) old false
      → GoesOnBy view table (IsRound old.book.members table.window at) old new → GoesOnBy view table (IsDrainRound old.book.members table who at) old new
  plain_round who at old new follows round = λ rows situation is.
      let middle : Situation = delivered (length situation.standing.posted) situation in
      let same : IsWorldAt view table rows old middle =
      same_mails view table rows old situation (λ who. situation.mails who ++ letters_for situation (length situation.standing.posted) who)
      (λ who. let e : length situation.standing.posted - length situation.standing.posted ≡ 0 = omega arith in rw e (sym (append_nil (situation.mails who)))) is in
      let two = round rows middle same in (
        two.0,
        two.1,
        record {
          front = [];
          middle = middle;
          back = two.0;
          parts = refl;
          one = subst (λ tasks. Performs old.book.members tasks situation [] middle)
              (sym (other_tasks who (situation.standing.replicas who).term (λ is_follower. let no : false ≡ true = (follows rows situation is).1 is_follower in cc))) (record { turns = refl; is = refl });
          two = two.2;
        },
        two.3,
      )

  -- ---- what holds after it

  -- all run where the part leaves who runs
  pub run_on : (part : Situation → List Row → Situation → Type 0) (old new : World D) → ((situation : Situation) (rows : List Row) (after : Situation) → part situation rows after → StaysAsSet situation after)
      → IsWorld view table old → AllRun old → new.book.members ≡ old.book.members → GoesOnBy view table part old new → AllRun new
  run_on part old new leaves world run members goes = λ k member found.
      let gone = goes world.rows world.situation world.is in
      let as_set = leaves world.situation gone.0 gone.1 gone.2 in
      let below : k < length new.members.items = slice_get_within new.members.items k member found in
      let count : length new.members.items ≡ length old.members.items = gone.3.ahead.count ∙ members ∙ sym world.is.ahead.count in
      (gone.3.ahead.each k member found).mail.runs ∙ ap (λ (runs : ℕ → Bool). runs k) as_set.runs
      ∙ runs_in world.rows old world.situation k world.is run (omega (arith, below, count))

  pub world_gone : (part : Situation → List Row → Situation → Type 0) (old new : World D) → IsWorld view table old → GoesOnBy view table part old new
      → IsWorld view table new
  world_gone part old new world goes = let gone = goes world.rows world.situation world.is in record { rows = world.rows ++ gone.0; situation = gone.1; is = gone.3 }

  -- ---- drains

  -- so far it has drained
  pub record HasDrained (who : ℕ) (at : ℤ) (old now : World D) : Type 0 where
    pub goes : GoesOnBy view table (DrainsOn old.book.members table who at) old now
    pub world : IsWorld view table now
    pub run : AllRun now
    pub members : now.book.members ≡ old.book.members

  pub drained_none : (who : ℕ) (at : ℤ) (world : World D) → IsWorld view table world → AllRun world → HasDrained who at world world
  drained_none who at world is run = record {
    goes = λ rows situation here. ([], situation, drains_on_none world.book.members table who at situation, subst (λ rows. IsWorldAt view table rows world situation) (sym (append_nil rows)) here);
    world = is;
    run = run;
    members = refl;
  }

  pub drained_next : (who : ℕ) (at : ℤ) (old now new : World D) → HasDrained who at old now → AnswersFor view table (IsQuiet now.book.members table who at) now false
      → GoesOnBy view table (IsDrainRound now.book.members table who at) now new → new.book.members ≡ now.book.members → HasDrained who at old new
  drained_next who at old now new so_far tells goes members = record {
    goes = λ rows situation is.
        let front = so_far.goes rows situation is in
        let back = goes (rows ++ front.0) front.1 front.3 in
        let not_yet = λ (quiet : IsQuiet now.book.members table who at front.1). absurd (let no : false ≡ true = (tells (rows ++ front.0) front.1 front.3).1 quiet in cc) in (
          front.0 ++ back.0,
          back.1,
          drains_on_then old.book.members table who at situation front.1 back.1 front.0 back.0 front.2
              (subst (λ n. DrainsOn n table who at front.1 back.0 back.1) so_far.members (drains_on_next now.book.members table who at front.1 back.1 back.0 not_yet back.2)),
          subst (λ rows. IsWorldAt view table rows new back.1) (append_assoc rows front.0 back.0) back.3,
        );
    world = world_gone (IsDrainRound now.book.members table who at) now new so_far.world goes;
    run = run_on (IsDrainRound now.book.members table who at) now new (λ situation rows after part. drained_as_set now.book.members table who at situation after rows part) so_far.world so_far.run members goes;
    members = members ∙ so_far.members;
  }

  pub drained_whole : (who : ℕ) (at : ℤ) (old now : World D) → HasDrained who at old now → AnswersFor view table (IsQuiet now.book.members table who at) now true
      → GoesOnBy view table (Drains old.book.members table who at) old now
  drained_whole who at old now so_far tells = λ rows situation is.
      let gone = so_far.goes rows situation is in
      let quiet : IsQuiet old.book.members table who at gone.1 =
      subst (λ n. IsQuiet n table who at gone.1) so_far.members ((tells (rows ++ gone.0) gone.1 gone.3).0 refl) in
      (gone.0, gone.1, drains_whole old.book.members table who at situation gone.1 gone.0 gone.2 quiet, gone.3)

  -- ---- settling

  pub settled : (at : ℤ) (who : ℕ) (old over led new : World D) → GoesOnBy view table (Plain old.book.members (restart_tasks old.book.members) cleared) old over
      → over.book.members ≡ old.book.members → ((situation : Situation) → IsIn view table over situation → who ≡ coordinator over.book.members situation)
      → GoesOnBy view table (Plays over.book.members (λ here. Do who Campaign ∷ [])) over led → led.book.members ≡ over.book.members
      → GoesOnBy view table (Drains led.book.members table who at) led new → GoesOnBy view table (Settles old.book.members table at) old new
  settled at who old over led new start same leads campaign led_same drains = λ rows situation is.
      let one = start rows situation is in
      let two = campaign (rows ++ one.0) one.1 one.3 in
      let three = drains ((rows ++ one.0) ++ two.0) two.1 two.3 in
      let n = old.book.members in
      let is_lead : who ≡ coordinator n one.1 = leads one.1 (rows ++ one.0, one.3) ∙ ap (λ n. coordinator n one.1) same in (
        one.0 ++ (two.0 ++ three.0),
        three.1,
        record {
          front = one.0;
          middle = one.1;
          back = two.0 ++ three.0;
          parts = refl;
          one = one.2;
          two = subst (λ lead. Then (Plays n (λ here. Do lead Campaign ∷ [])) (Drains n table lead at) one.1 (two.0 ++ three.0) three.1) is_lead
              (record {
                front = two.0;
                middle = two.1;
                back = three.0;
                parts = refl;
                one = subst (λ n. Plays n (λ here. Do who Campaign ∷ []) one.1 two.0 two.1) same two.2;
                two = subst (λ n. Drains n table who at two.1 three.0 three.1) (led_same ∙ same) three.2;
              });
        },
        subst (λ rows. IsWorldAt view table rows new three.1)
            (append_assoc (rows ++ one.0) two.0 three.0 ∙ append_assoc rows one.0 (two.0 ++ three.0)) three.3,
      )

  -- who leads was the one to lead before
  pub leads_before : (who : ℕ) (old over : World D) → GoesOnBy view table (Plain old.book.members (restart_tasks old.book.members) cleared) old over
      → over.book.members ≡ old.book.members → ((situation : Situation) → IsIn view table over situation → who ≡ coordinator over.book.members situation)
      → (situation : Situation) → IsIn view table old situation → who ≡ coordinator old.book.members situation
  leads_before who old over start same leads = λ situation (rows, is).
      let one = start rows situation is in
      leads one.1 (rows ++ one.0, one.3) ∙ ap (λ n. coordinator n one.1) same ∙ same_coordinator old.book.members situation one.0 one.1 one.2

  -- the world has as many replicas
  pub same_count : (old new : World D) → IsWorld view table old → IsWorld view table new → new.book.members ≡ old.book.members
      → length new.members.items ≡ length old.members.items
  same_count old new was is members = is.is.ahead.count ∙ members ∙ sym was.is.ahead.count

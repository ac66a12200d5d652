-- A step that is a turn before the next one is taken.
use Rattle.std.proofs.Common.{◌≡◌, ℕ, ◌+◌, ◌<◌, Bool, true, false, List, [], ◌∷◌, ◌++◌, length, drop, Option, None, Some, IsSome, refl, sym, ap, ◌∙◌, subst, inl, inr}
use Rattle.std.specs.Prelude.{is_some}
use Rattle.std.specs.List.{Contains, slice_get}
use Rattle.std.specs.Option.{option_to_list}
use Rattle.std.proofs.Math.ListN.{set}
use Rattle.std.proofs.lemmas.List.{length-set}
use Rattle.zone_minutes.specs.declared.minute.Window.{Window}
use Rattle.cluster_sched.specs.declared.row.SchedRow.{SchedRow}
use Rattle.disk_model.specs.declared.armed.Arm.{Arm}
use Rattle.due_set.specs.Table.{Table}
use Rattle.paxos_base.specs.declared.durable.Delta.{Delta}
use Rattle.paxos_base.specs.declared.durable.Durable.{Durable}
use Rattle.save_calls.specs.Save.{is_kept}
use Rattle.step_spec.specs.State.{started}
use Rattle.step_spec.specs.Step.{Event}
use Rattle.step_spec.specs.declared.out.OutLetter.{OutLetter}
use Rattle.std.proofs.lemmas.Option.{slice_get_within}
use Rattle.disk_model.specs.View.{DiskView}
use Rattle.script_text.specs.Command.{IsSkew}
use Rattle.step_spec.proofs.Lists.{nothing_in}
use Rattle.history.specs.Book.{Row, Standing, after_row, turn_of, with_fact}
use Rattle.history.specs.declared.turn.Cause.{Cause}
use Rattle.history.specs.declared.turn.Cause.TheVariants.{Campaign, Tick, Hear, Answer}
use Rattle.history.specs.declared.turn.Turn.{Turn}
use Rattle.history.specs.declared.turn.Turn.TheVariants.{Did, Stopped}
use Rattle.replica_core.specs.Commit.{kept_after}
use Rattle.replica_core.specs.Step.{IsInputInside}
use Rattle.replica_core.specs.declared.input.Input.{Input}
use Rattle.replica_core.specs.declared.input.Input.TheVariants as given
use Rattle.script_semantics.specs.Arms.{IsEnough, IsTurnByArm}
use Rattle.script_semantics.specs.Situation.{Armed, AreTurnsFor, Do, Does, IsTurnFor, is_cut, Situation, after_turn, after_turns, arms_after, bases_with, changes_in, fates_after, latest_after, latest_with, mails_after}
use Rattle.world_law.specs.Book.{BookState, StandsBehind, standing_behind}
use Rattle.agreement.specs.Transition.{identity_of}
use Rattle.replica_node.specs.Node.{replica_of}
use Rattle.replica_node.specs.declared.node.Node.{Node}
use Rattle.world_law.specs.Replicas.{IsLetterInput, IsStopOf, StandsStopped}
use Rattle.world_law.specs.declared.letter.LetterRow.{LetterRow}
use Rattle.world_steps.specs.Nodes.{IsDiskAt, bases_behind}
use Rattle.world_steps.specs.Parts.{IsBookAt, armed_in}
use Rattle.world_steps.specs.declared.mail.MemberMail.{MemberMail}
use Rattle.world_steps.proofs.AfterTurn.{leaves_other, next_step}
use Rattle.world_steps.proofs.Bases.{changes_by, changes_stopped, last_may}
use Rattle.world_steps.proofs.Stopping.{bases_stopped, kept_is, stop_turn}
use Rattle.world_steps.specs.Steps.{IsBeside, IsNodeAhead, IsNodeStopped, IsToldOf, WasToldOf, causes_of, letters_heard_in}
use Rattle.world_steps.specs.Stops.{HasStopped}
use Rattle.world_steps.specs.Turns.{IsHalted}
use Rattle.world_steps.specs.declared.armed.Outcome.TheVariants as outcome
use Rattle.world_steps.specs.declared.steps.Taken.{Taken}
use Rattle.world_rounds.proofs.AfterTurn.{member_stays}
use Rattle.world_rounds.proofs.Halts.{has_same}
use Rattle.world_rounds.proofs.RoundLemmas.{idle_beside}
use Rattle.world_rounds.proofs.Campaigns.{idle_steps}
use Rattle.world_rounds.proofs.StepsAt.{ahead_same, get_set_here, get_set_there}
use Rattle.world_rounds.proofs.Worlds.{set_cases, world_on}
use Rattle.world_rounds.specs.Alone.{HasJoinedAlone, IsAlone}
use Rattle.world_rounds.specs.OneByOne.{CanTell, EndsStep, HasStepped, MayBeNext, MayCommitStopped, MayStepFor, MayTakeBeside, goes_on, letters_behind}
use Rattle.world_rounds.specs.Rounds.{IsMemberIdle}
use Rattle.world_rounds.specs.Taking.{TakesTurns, HasTakenTurns, KeepsSteps, MayCommit, steps_at, steps_left_to, tasks_by}
use Rattle.world_rounds.specs.World.{IsMemberAhead, IsWorldAhead, IsWorldAt, none_taken}
use Rattle.world_rounds.specs.declared.member.Member.{Member}
use Rattle.world_rounds.specs.declared.world.World.{World}
use Rattle.due_set.proofs.Rising.{Contains-head as in_first, Contains-tail as in_rest}
use Rattle.history.proofs.Standings.{fact_here, fact_there, is_no_turn_of}
use Rattle.std.proofs.lemmas.Bool.{cases_eq}

-- ---- what is known when a replica takes a step

inside_of : (table : Table) (letters : List LetterRow) (waits : Option SchedRow) (who : ℕ) (cause : Cause) (input : Input) (situation : Situation) → IsToldOf letters waits who cause input
    → MayBeNext table.window situation who cause → IsInputInside table input
inside_of table letters waits who Campaign input situation told may = rw told tt
inside_of table letters waits who (Tick now) input situation told may = rw told may
inside_of table letters waits who (Hear number) input situation told may = by_letter input told.is
  where
    by_letter : (input : Input) → IsLetterInput input told.sent.letter.bytes → IsInputInside table input
    by_letter given.Campaign is = absurd is
    by_letter (given.Tick now) is = absurd is
    by_letter (given.Hear bytes) is = tt
    by_letter (given.Answer job at kind) is = absurd is
inside_of table letters waits who Answer input situation told may = rw told.is tt

-- a letter that is heard leaves the mail
heard_first : (cause : Cause) (mail : List ℕ) (situation : Situation) (window : Window) (who : ℕ) → situation.mails who ≡ mail → MayBeNext window situation who cause
    → mail ≡ letters_heard_in (cause ∷ []) ++ letters_behind cause mail
heard_first Campaign mail situation window who same may = refl
heard_first (Tick now) mail situation window who same may = refl
heard_first (Hear number) mail situation window who same may = let is : mail ≡ number ∷ may.0 = sym same ∙ may.1 in is ∙ ap (λ rest. number ∷ drop 1 rest) (sym is)
heard_first Answer mail situation window who same may = refl

sent_behind : (cause : Cause) (mail : List ℕ) (number : ℕ) → Contains (letters_behind cause mail) number → Contains mail number
sent_behind Campaign mail number has = has
sent_behind (Tick now) mail number has = has
sent_behind (Hear letter) [] number has = has
sent_behind (Hear letter) (first ∷ mail) number has = in_rest first mail number has
sent_behind Answer mail number has = has

within_runs : (n : ℕ) (s : Standing) (who : ℕ) (cause : Cause) (kept : Bool) (event : Event) (letters : List OutLetter) → (after_row n s (Stopped who (Some cause) kept) event letters).runs who ≡ false
unfolding after_row
within_runs n s who cause kept event letters = fact_here who false s.runs

within_waits : (n : ℕ) (s : Standing) (who : ℕ) (cause : Cause) (kept : Bool) (event : Event) (letters : List OutLetter) → (after_row n s (Stopped who (Some cause) kept) event letters).waits who ≡ None
unfolding after_row
within_waits n s who cause kept event letters = fact_here who None s.waits

module _ {D : Type 0} (view : DiskView D) (table : Table) where
  pub can_tell : (rows : List Row) (book : BookState) (situation : Situation) (who : ℕ) (cause : Cause) (member : Member D) → IsMemberIdle view table rows book situation who member
      → MayStepFor table.window situation who cause → CanTell book.letters member.mail.waits who cause
  can_tell rows book situation who Campaign member idle may = tt
  can_tell rows book situation who (Tick now) member idle may = tt
  can_tell rows book situation who (Hear number) member idle may =
      idle.ahead.mail.sent number (subst (λ (mail : List ℕ). Contains mail number) (sym may.next.1 ∙ idle.ahead.mail.letters_are) (in_first number may.next.0))
  can_tell rows book situation who Answer member idle may = subst (λ (waits : Option SchedRow). IsSome waits) (sym idle.ahead.mail.waits) may.next

  pub beside_now : (rows : List Row) (book : BookState) (situation : Situation) (who : ℕ) (cause : Cause) (member : Member D) → IsMemberIdle view table rows book situation who member
      → MayStepFor table.window situation who cause → IsBeside view table rows book who [] member.node
  beside_now rows book situation who cause member idle may = idle_beside view table book rows situation who member idle (idle.ahead.mail.runs ∙ may.runs)

  pub was_told : (rows : List Row) (book : BookState) (situation : Situation) (who : ℕ) (cause : Cause) (input : Input) (member : Member D) → IsMemberIdle view table rows book situation who member
      → MayStepFor table.window situation who cause → IsToldOf book.letters member.mail.waits who cause input → WasToldOf table rows book who [] cause input
  was_told rows book situation who cause input member idle may told = record {
    is_told = subst (λ (waits : Option SchedRow). IsToldOf book.letters waits who cause input) (idle.ahead.mail.waits ∙ ap (λ (s : Standing). s.waits who) idle.at.standing) told;
    inside = inside_of table book.letters member.mail.waits who cause input situation told may.next;
  }

  -- the step is taken
  pub ends_taken : (rows : List Row) (book : BookState) (situation : Situation) (who : ℕ) (cause : Cause) (taken : Taken) (old new : Member D) → IsMemberIdle view table rows book situation who old
      → MayStepFor table.window situation who cause → taken.cause ≡ cause → IsEnough (armed_in old.mail.arm) (option_to_list taken.out.delta)
      → IsBeside view table rows book who (taken ∷ []) new.node
      → new.mail ≡ record old.mail { letters = new.mail.letters } → new.mail.letters.items ≡ letters_behind cause old.mail.letters.items
      → EndsStep view table rows book situation who cause (outcome.Taken taken) new
  ends_taken rows book situation who cause taken old new idle may same enough beside mail letters = (
    same,
    subst (λ (armed : Option Armed). IsEnough armed (option_to_list taken.out.delta)) idle.ahead.mail.arm enough,
    record {
      mail = record {
        runs = ap (λ (m : MemberMail). m.runs) mail ∙ idle.ahead.mail.runs;
        letters_are =
            idle.ahead.mail.letters_are ∙ heard_first cause old.mail.letters.items situation table.window who idle.ahead.mail.letters_are may.next
            ∙ ap (λ (c : Cause). letters_heard_in (c ∷ []) ++ letters_behind cause old.mail.letters.items) (sym same) ∙ ap (λ (rest : List ℕ). letters_heard_in (taken.cause ∷ []) ++ rest) (sym letters);
        skew = ap (λ (m : MemberMail). m.skew) mail ∙ idle.ahead.mail.skew;
        small = subst IsSkew (sym (ap (λ (m : MemberMail). m.skew) mail)) idle.ahead.mail.small;
        fate = ap (λ (m : MemberMail). m.fate) mail ∙ idle.ahead.mail.fate;
        waits = ap (λ (m : MemberMail). m.waits) mail ∙ idle.ahead.mail.waits;
        arm = ap (λ (m : MemberMail). armed_in m.arm) mail ∙ idle.ahead.mail.arm;
        sent = λ number has. idle.ahead.mail.sent number (sent_behind cause old.mail.letters.items number (subst (λ (items : List ℕ). Contains items number) letters has));
      };
      running = λ here. beside.ahead;
      stopped = λ stopped. absurd (let e : true ≡ false = sym (sym (ap (λ (s : Standing). s.runs who) idle.at.standing) ∙ may.runs) ∙ stopped in cc);
    },
  )

  -- ---- a turn that is a step

  pub idle_here : (rows : List Row) (world : World D) (situation : Situation) (who : ℕ) (member : Member D) → IsWorldAt view table rows world situation → slice_get world.members.items who ≡ Some member
      → IsMemberIdle view table rows world.book situation who member
  idle_here rows world situation who member is there = record { at = is.ahead.at; ahead = is.ahead.each who member there; none = is.idle who member there }

  pub may_take_beside : (rows : List Row) (world : World D) (situation : Situation) (who : ℕ) (cause : Cause) (member : Member D) → IsWorldAt view table rows world situation
      → MayStepFor table.window situation who cause → slice_get world.members.items who ≡ Some member → MayTakeBeside view table world.book who cause member
  may_take_beside rows world situation who cause member is may there =
      record { rows = rows; situation = situation; idle = idle_here rows world situation who member is there; may = may }

  -- the replica is a step ahead, and the others are as they were
  pub step_ahead : (rows : List Row) (world middle : World D) (situation : Situation) (who : ℕ) (taken : Taken) (new : Member D) → IsWorldAt view table rows world situation
      → IsMemberAhead view table rows world.book situation who (taken ∷ []) new → middle.members.items ≡ set world.members.items who new
      → middle.book ≡ world.book → middle.cuts ≡ world.cuts → middle.latest ≡ world.latest
      → IsWorldAhead view table rows middle situation (with_fact who (taken ∷ []) none_taken)
  step_ahead rows world middle situation who taken new is ahead members book cuts latest = record {
    at = subst (λ (b : BookState). IsBookAt table rows b situation) (sym book) is.ahead.at;
    count = ap length members ∙ length-set world.members.items who new ∙ is.ahead.count ∙ sym (ap (λ (b : BookState). b.members) book);
    each = λ k x found.
        subst (λ (b : BookState). IsMemberAhead view table rows b situation k (with_fact who (taken ∷ []) none_taken k) x) (sym book)
        (elim (set_cases world.members.items who new k x (subst (λ members. slice_get members k ≡ Some x) members found)) [
          | inl here ↦
              subst (λ k. IsMemberAhead view table rows world.book situation k (with_fact who (taken ∷ []) none_taken k) x) (sym here.0)
              (subst (λ steps. IsMemberAhead view table rows world.book situation who steps x) (sym (fact_here who (taken ∷ []) none_taken))
              (subst (λ x. IsMemberAhead view table rows world.book situation who (taken ∷ []) x) (sym here.1) ahead))
          | inr other ↦
              subst (λ steps. IsMemberAhead view table rows world.book situation k steps x) (sym (fact_there who (taken ∷ []) none_taken k other.0)) (is.ahead.each k x other.1)
        ]);
    cuts = λ from to. ap (λ cuts. is_cut from to cuts.items) cuts ∙ is.ahead.cuts from to;
    latest = ap (λ minute. minute.0) latest ∙ is.ahead.latest;
  }

  pub may_commit_step : (rows : List Row) (world middle : World D) (situation : Situation) (who : ℕ) (taken : Taken) (new : Member D) → IsWorldAt view table rows world situation
      → IsMemberAhead view table rows world.book situation who (taken ∷ []) new → middle.members.items ≡ set world.members.items who new
      → middle.book ≡ world.book → middle.cuts ≡ world.cuts → middle.latest ≡ world.latest → who < length middle.members.items
      → MayCommit view table middle who (taken ∷ [])
  may_commit_step rows world middle situation who taken new is ahead members book cuts latest below = record {
    rows = rows;
    situation = situation;
    ahead_by = with_fact who (taken ∷ []) none_taken;
    ahead = step_ahead rows world middle situation who taken new is ahead members book cuts latest;
    mine = fact_here who (taken ∷ []) none_taken;
    member = below;
  }

  -- the one turn of a list
  one_turn : (n : ℕ) (situation : Situation) (who : ℕ) (cause : Cause) (rows : List Row) → AreTurnsFor n situation (Do who cause ∷ []) rows → (row : Row) × (rows ≡ row ∷ []) × IsTurnFor situation.fates (Do who cause) row.turn
  one_turn n situation who cause [] turns = absurd cc
  one_turn n situation who cause (row ∷ rows) turns = (row, ap (λ rest. row ∷ rest) turns.1, turns.0)

  pub stepped : (rows : List Row) (world middle new_world : World D) (situation : Situation) (who : ℕ) (cause : Cause) (taken : Taken) (old new : Member D) → IsWorldAt view table rows world situation
      → MayStepFor table.window situation who cause → slice_get world.members.items who ≡ Some old → EndsStep view table rows world.book situation who cause (outcome.Taken taken) new → new.steps ≡ old.steps
      → middle.members.items ≡ set world.members.items who new → middle.book ≡ world.book → middle.cuts ≡ world.cuts → middle.latest ≡ world.latest
      → TakesTurns view table who (taken ∷ []) [] middle new_world → KeepsSteps middle new_world
      → HasStepped view table world.book.members rows situation who cause true new_world
  stepped rows world middle new_world situation who cause taken old new is may there ends kept_steps members book cuts latest commits keeps = record {
    row = row;
    turn = inl (record { does = does; saved = saved });
    goes_is = ap goes_on does.is;
    at = record { ahead = ahead_same view table (rows ++ row ∷ []) new_world after (with_fact who [] (with_fact who (taken ∷ []) none_taken)) none_taken none ahead; idle = idle };
  }
    where
      had : HasTakenTurns view table middle.book.members rows situation (tasks_by who (causes_of (taken ∷ []))) (with_fact who [] (with_fact who (taken ∷ []) none_taken)) new_world
      had = commits rows situation (with_fact who (taken ∷ []) none_taken) (step_ahead rows world middle situation who taken new is ends.2 members book cuts latest) (fact_here who (taken ∷ []) none_taken)

      n_is : middle.book.members ≡ world.book.members
      n_is = ap (λ (b : BookState). b.members) book

      turns : AreTurnsFor world.book.members situation (Do who taken.cause ∷ []) had.more
      turns = subst (λ (n : ℕ). AreTurnsFor n situation (Do who taken.cause ∷ []) had.more) n_is had.turns

      one : (row : Row) × (had.more ≡ row ∷ []) × IsTurnFor situation.fates (Do who taken.cause) row.turn
      one = one_turn world.book.members situation who taken.cause had.more turns

      row : Row
      row = one.0

      after : Situation
      after = after_turn world.book.members situation row

      does : Does situation.fates who cause row.turn
      does = subst (λ (c : Cause). Does situation.fates who c row.turn) ends.0 one.2

      ahead : IsWorldAhead view table (rows ++ row ∷ []) new_world after (with_fact who [] (with_fact who (taken ∷ []) none_taken))
      ahead =
          subst (λ (n : ℕ). IsWorldAhead view table (rows ++ row ∷ []) new_world (after_turn n situation row) (with_fact who [] (with_fact who (taken ∷ []) none_taken))) n_is
          (subst (λ (more : List Row). IsWorldAhead view table (rows ++ more) new_world (after_turns middle.book.members situation more) (with_fact who [] (with_fact who (taken ∷ []) none_taken)))
          one.1 had.ahead)

      none : (k : ℕ) → with_fact who [] (with_fact who (taken ∷ []) none_taken) k ≡ none_taken k
      none k = elim (cases_eq k who) [
        | inl here ↦ rw here (fact_here who [] (with_fact who (taken ∷ []) none_taken))
        | inr other ↦ fact_there who [] (with_fact who (taken ∷ []) none_taken) k other ∙ fact_there who (taken ∷ []) none_taken k other
      ]

      runs : (standing_behind table rows world.book).runs who ≡ true
      runs = sym (ap (λ (s : Standing). s.runs who) is.ahead.at.standing) ∙ may.runs

      node : IsNodeAhead view table rows world.book who (taken ∷ []) new.node
      node = ends.2.running runs

      changes : changes_in world.book.members situation.standing row.turn row.event ≡ option_to_list taken.out.delta
      changes =
          ap (λ (s : Standing). changes_in world.book.members s row.turn row.event) is.ahead.at.standing
          ∙ changes_by table rows world.book who taken node.first node.took.0 does.made row (next_step view table rows world.book situation who taken [] new.node is.ahead.at node)
          (does.is ∙ ap (λ (c : Cause). Did who c does.made) (sym ends.0))
          (last_may table rows row world.book new_world.book (had.members_are ∙ n_is) ahead.at.behind)

      saved : IsEnough (situation.arms who) (changes_in world.book.members situation.standing row.turn row.event)
      saved = subst (λ (all : List Delta). IsEnough (situation.arms who) all) (sym changes) ends.1

      middle_steps : (k : ℕ) → steps_at middle k ≡ []
      middle_steps k = ap (λ members. steps_left_to (slice_get members k)) members ∙ elim (cases_eq k who) [
        | inl here ↦ rw here (ap steps_left_to (get_set_here world.members.items who new (slice_get_within world.members.items who old there)) ∙ ap (λ steps. steps.items) kept_steps ∙ is.idle who old there)
        | inr other ↦ ap steps_left_to (get_set_there world.members.items who new k other) ∙ idle_steps view table rows world situation k is
      ]

      idle : (k : ℕ) (x : Member D) → slice_get new_world.members.items k ≡ Some x → x.steps.items ≡ []
      idle k x found = sym (ap steps_left_to found) ∙ keeps.each k ∙ middle_steps k

  -- ---- a turn within which the disk has stopped

  -- the turn of the stop
  pub turn_stopped : (rows : List Row) (book : BookState) (who : ℕ) (cause : Cause) (arm : Arm) (answer : Option Delta) (kept : Durable)
      → (stopped : HasStopped table rows book who cause arm answer kept)
      → IsStopOf table rows book who (Some cause) answer (kept_after answer stopped.old.state.kept)
  turn_stopped rows book who cause arm answer kept stopped =
      let saved : Bool = is_kept (bases_behind table rows book who) stopped.change arm.left arm.image in
      subst (λ (a : Option Delta). IsStopOf table rows book who (Some cause) a (kept_after a stopped.old.state.kept)) (sym stopped.is_kept)
      (stop_turn table rows book who cause stopped.old stopped.change saved stopped.next)

  pub alone_stopped : (rows : List Row) (world : World D) (situation : Situation) (who : ℕ) (cause : Cause) (arm : Arm) (answer : Option Delta)
      → (may : MayCommitStopped view table rows world situation who cause arm answer)
      → IsAlone table rows world.book (Stopped who (Some cause) (is_some answer)) answer (turn_stopped rows may.before.book who cause arm answer (replica_of may.new.node).state.kept may.stopped).row
  alone_stopped rows world situation who cause arm answer may =
      let stop = turn_stopped rows may.before.book who cause arm answer (replica_of may.new.node).state.kept may.stopped in
      record { behind = rw may.book may.is.ahead.at.behind; rest = rw may.book may.is.ahead.at.rest; call = refl; is = stop.is; may = rw may.book stop.may }

  module _ (rows : List Row) (world new : World D) (situation : Situation) (who : ℕ) (cause : Cause) (arm : Arm) (answer : Option Delta) (next : Member D)
      (may : MayCommitStopped view table rows world situation who cause arm answer)
      (joined : HasJoinedAlone table rows world.book new.book (turn_stopped rows may.before.book who cause arm answer (replica_of may.new.node).state.kept may.stopped).row)
      (members : new.members.items ≡ set world.members.items who next) (node : next.node ≡ may.new.node) (steps : next.steps ≡ may.new.steps) (halted : IsHalted may.new.mail next.mail)
      (cuts : new.cuts ≡ world.cuts) (latest : new.latest.0 ≡ latest_with cause world.latest.0) where
    abbrev before : World D
    before = may.before

    abbrev stop : IsStopOf table rows before.book who (Some cause) answer (kept_after answer may.stopped.old.state.kept)
    stop = turn_stopped rows before.book who cause arm answer (replica_of may.new.node).state.kept may.stopped

    abbrev row : Row
    row = stop.row

    abbrev after : Situation
    after = after_turn before.book.members situation row

    abbrev kept : Bool
    kept = is_kept (bases_behind table rows before.book who) may.stopped.change arm.left arm.image

    -- the turn, by the numbers
    turn : row.turn ≡ Stopped who (Some cause) kept
    turn = stop.is.turn_is ∙ ap (λ (a : Option Delta). Stopped who (Some cause) (is_some a)) may.stopped.is_kept ∙ ap (Stopped who (Some cause)) (kept_is kept may.stopped.change)

    n_is : new.book.members ≡ before.book.members
    n_is = joined.members ∙ ap (λ (b : BookState). b.members) may.book

    was : IsMemberAhead view table rows before.book situation who [] may.old
    was = may.is.ahead.each who may.old may.there

    changes : changes_in before.book.members situation.standing row.turn row.event ≡ may.stopped.change ∷ []
    changes =
        ap (λ (s : Standing). changes_in before.book.members s row.turn row.event) may.is.ahead.at.standing
        ∙ changes_stopped table rows before.book who cause may.stopped.old may.stopped.change kept row may.stopped.next turn stop.may

    counts : situation.bases who ≡ bases_behind table rows before.book who
    counts = ap (λ (bases : ℕ → ℕ). bases who) may.is.ahead.at.bases

    by_arm : IsTurnByArm before.book.members situation (Do who cause) row
    by_arm = inr (record {
      armed = record { left = arm.left; image = arm.image };
      is_armed = sym may.armed;
      change = may.stopped.change;
      is = turn ∙ ap (λ (count : ℕ). Stopped who (Some cause) (is_kept count may.stopped.change arm.left arm.image)) (sym counts);
      changes = changes;
      few = may.stopped.few;
    })

    stands_stopped : StandsStopped table (rows ++ row ∷ []) new.book who (kept_after answer may.stopped.old.state.kept)
    stands_stopped = stop.stands new.book n_is

    disk_is : IsDiskAt view (bases_behind table (rows ++ row ∷ []) new.book who) may.new.node
    disk_is =
        subst (λ (count : ℕ). IsDiskAt view count may.new.node)
        (sym (bases_stopped table rows before.book new.book who cause may.stopped.old may.stopped.change kept row n_is may.stopped.next turn stop.may
        ∙ ap (λ (a : Option Delta). bases_with (option_to_list a) (bases_behind table rows before.book who)) (sym may.stopped.is_kept))) may.attached.disk

    behind : StandsBehind table (rows ++ row ∷ []) new.book
    behind = joined.behind

    mine : IsMemberAhead view table (rows ++ row ∷ []) new.book after who [] next
    unfolding after_row
    mine = record {
      mail = record {
        runs = halted.runs ∙ sym (ap (λ (t : Turn). (after_row before.book.members situation.standing t row.event row.letters).runs who) turn ∙ within_runs before.book.members situation.standing who cause kept row.event row.letters);
        letters_are = ap (λ (t : Turn). mails_after t situation.mails who) turn ∙ fact_here who [] situation.mails ∙ sym halted.letters;
        skew = halted.skew ∙ ap (λ (m : MemberMail). m.skew) may.mail ∙ was.mail.skew;
        small = subst IsSkew (sym (halted.skew ∙ ap (λ (m : MemberMail). m.skew) may.mail)) was.mail.small;
        fate = halted.fate ∙ ap (λ (m : MemberMail). m.fate) may.mail ∙ was.mail.fate ∙ sym (ap (λ (t : Turn). fates_after t situation.fates who) turn);
        waits = halted.waits ∙ sym (ap (λ (t : Turn). (after_row before.book.members situation.standing t row.event row.letters).waits who) turn ∙ within_waits before.book.members situation.standing who cause kept row.event row.letters);
        arm = ap armed_in halted.arm ∙ sym (ap (λ (t : Turn). arms_after t (changes_in before.book.members situation.standing row.turn row.event) situation.arms who) turn ∙ fact_here who None situation.arms);
        sent = λ number has. nothing_in (subst (λ items. Contains items number) halted.letters has);
      };
      running = λ running. absurd (let e : true ≡ false = sym running ∙ stands_stopped.stopped in cc);
      stopped = λ stopped. subst (λ (n : Node D). IsNodeStopped view table new.book.members (standing_behind table (rows ++ row ∷ []) new.book) (bases_behind table (rows ++ row ∷ []) new.book who) who [] n)
          (sym node) (record {
            at_rest = may.attached.at_rest;
            trusted = may.attached.trusted;
            disk = disk_is;
            identity = may.attached.identity ∙ ap (λ (n : ℕ). identity_of n who) (sym n_is);
            none = refl;
            kept = stands_stopped.state ∙ ap (started who) (sym may.stopped.keeps);
          });
    }

    each : (k : ℕ) (x : Member D) → slice_get new.members.items k ≡ Some x → IsMemberAhead view table (rows ++ row ∷ []) new.book after k [] x
    each k x found = elim (set_cases world.members.items who next k x (subst (λ members. slice_get members k ≡ Some x) members found)) [
      | inl here ↦
          subst (λ k. IsMemberAhead view table (rows ++ row ∷ []) new.book after k [] x) (sym here.0)
          (subst (λ x. IsMemberAhead view table (rows ++ row ∷ []) new.book after who [] x) (sym here.1) mine)
      | inr other ↦
          member_stays view table rows row before.book new.book situation k [] x may.is.ahead.at n_is
          (has_same before.book new.book (joined.letters ∙ ap (λ (b : BookState). b.letters) may.book))
          (leaves_other before.book.members situation row k (is_no_turn_of row.turn who k (ap turn_of turn) other.0))
          (elim (set_cases before.members.items who may.new k x (subst (λ members. slice_get members k ≡ Some x) may.members other.1)) [
            | inl here ↦ absurd (other.0 here.0)
            | inr there ↦ may.is.ahead.each k x there.1
          ])
    ]

    idle : (k : ℕ) (x : Member D) → slice_get new.members.items k ≡ Some x → x.steps.items ≡ []
    idle k x found = elim (set_cases world.members.items who next k x (subst (λ members. slice_get members k ≡ Some x) members found)) [
      | inl here ↦ ap (λ (m : Member D). m.steps.items) here.1 ∙ ap (λ s. s.items) steps ∙ may.steps
      | inr other ↦ elim (set_cases before.members.items who may.new k x (subst (λ members. slice_get members k ≡ Some x) may.members other.1)) [
        | inl here ↦ absurd (other.0 here.0)
        | inr there ↦ may.is.idle k x there.1
      ]
    ]

    pub stops_goes : HasStepped view table world.book.members rows situation who cause false new
    stops_goes = subst (λ (n : ℕ). HasStepped view table n rows situation who cause false new) (sym (ap (λ (b : BookState). b.members) may.book)) (record {
      row = row;
      turn = by_arm;
      goes_is = ap goes_on turn;
      at = record {
        ahead =
            world_on view table rows before new situation none_taken none_taken row may.is.ahead behind joined.rest n_is
            (ap length members ∙ length-set world.members.items who next ∙ ap length may.members ∙ length-set before.members.items who may.new) (cuts ∙ may.cuts)
            (latest ∙ ap (λ minute. latest_with cause minute.0) may.latest ∙ ap (latest_with cause) may.is.ahead.latest ∙ sym (ap (λ (t : Turn). latest_after t situation.latest) turn)) each;
        idle = idle;
      };
    })

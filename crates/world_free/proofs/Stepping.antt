-- A replica takes the step of its next turn beside the shared book.
use Rattle.std.proofs.Common.{◌≡◌, ℕ, ◌<◌, ◌≤◌, ◌&&◌, not, Bool, true, false, if◌then◌else◌, List, [], ◌∷◌, ◌++◌, Some, None, Option, map, refl, sym, ap, ◌∙◌, subst, ℤ, zero, suc, arith}
use Rattle.std.specs.List.{Contains, slice_get}
use Rattle.std.specs.Option.{option_to_list}
use Rattle.std.proofs.lemmas.List.{append-nil}
use Rattle.zone_minutes.specs.declared.minute.Minute.{Minute}
use Rattle.disk_model.specs.declared.armed.Arm.{Arm}
use Rattle.disk_model.specs.View.{DiskView}
use Rattle.paxos_base.specs.declared.durable.Delta.{Delta}
use Rattle.cluster_sched.specs.declared.row.SchedRow.{SchedRow}
use Rattle.term_core.specs.Term.{is_leader}
use Rattle.step_spec.specs.State.{State}
use Rattle.history.specs.Book.{PostedLetter, Row, Standing}
use Rattle.history.specs.declared.turn.Cause.{Cause}
use Rattle.history.specs.declared.turn.Cause.TheVariants.{Campaign, Tick, Hear, Answer}
use Rattle.replica_core.specs.Replica.{ReplicaState}
use Rattle.replica_core.specs.Step.{IsInputInside}
use Rattle.replica_core.specs.declared.input.Input.{Input}
use Rattle.replica_core.specs.declared.input.Input.TheVariants as given
use Rattle.replica_node.specs.Node.{replica_of}
use Rattle.script_semantics.specs.Free.{is_time_to_stand, next_cause, next_cause_by}
use Rattle.script_semantics.specs.Round.{clock_reading}
use Rattle.script_semantics.specs.Arms.{IsEnough}
use Rattle.script_semantics.specs.Situation.{Armed, bases_with}
use Rattle.world_law.specs.Book.{posted_as, standing_behind}
use Rattle.world_law.specs.Replicas.{IsLetterInput, StandsAt}
use Rattle.world_law.specs.declared.letter.LetterRow.{LetterRow}
use Rattle.world_steps.specs.Nodes.{IsDiskAt, bases_behind}
use Rattle.world_steps.specs.Parts.{armed_in}
use Rattle.world_steps.specs.Steps.{IsBeside, IsToldOf, MayStep, WasToldOf, waits_in}
use Rattle.world_steps.specs.Stops.{HasOutcome, HasStopped, IsAttached, IsNodeAfter}
use Rattle.world_steps.specs.declared.armed.Outcome.{Outcome}
use Rattle.world_steps.specs.declared.armed.Outcome.TheVariants as ended
use Rattle.world_steps.specs.declared.steps.Taken.{Taken}
use Rattle.world_free.specs.Jobs.{HasTried, IsRunner, IsStepper, IsStopper, situation_in}
use Rattle.world_free.specs.Mails.{IsMailIn, IsToldHere}
use Rattle.world_free.specs.Next.{idle_cause_by}
use Rattle.world_free.specs.Plan.{ArePlayed, FreePlan, SharedBook}
use Rattle.world_free.specs.declared.job.FreeJob.{FreeJob}
use Rattle.world_free.proofs.BaseLemmas.{bases_still, situation_bases}
use Rattle.world_free.proofs.Played.{situation_stands}
use Rattle.due_set.proofs.Rising.{Contains-head as in_first}
use Rattle.script_semantics.proofs.RoundLemmas.{clock_inside}

-- ---- what the next cause says

-- what is heard is the first of the mail
pub heard_is : (waits : Option SchedRow) (mail : List ℕ) (stands : Bool) (now : Minute) (number : ℕ) → Hear number ≡ next_cause_by waits mail (if stands then Campaign else Tick now)
    → (rest : List ℕ) × (mail ≡ number ∷ rest)
heard_is (Some row) mail stands now number is = absurd cc
heard_is None [] true now number is = absurd cc
heard_is None [] false now number is = absurd cc
heard_is None (first ∷ rest) stands now number is = (rest, (let same : number ≡ first = cc in ap (λ n. n ∷ rest) (sym same)))

pub answer_waits : (waits : Option SchedRow) (mail : List ℕ) (stands : Bool) (now : Minute) → Answer ≡ next_cause_by waits mail (if stands then Campaign else Tick now) → (row : SchedRow) × (waits ≡ Some row)
answer_waits (Some row) mail stands now is = (row, refl)
answer_waits None [] true now is = absurd cc
answer_waits None [] false now is = absurd cc
answer_waits None (first ∷ rest) stands now is = absurd cc

pub ticks_at : (waits : Option SchedRow) (mail : List ℕ) (stands : Bool) (now at : Minute) → Tick at ≡ next_cause_by waits mail (if stands then Campaign else Tick now) → at ≡ now
ticks_at (Some row) mail stands now at is = absurd cc
ticks_at None [] true now at is = absurd cc
ticks_at None [] false now at is = cc
ticks_at None (first ∷ rest) stands now at is = absurd cc

-- ---- letters of a book by those that were posted

pub posted_row : (letters : List LetterRow) (number : ℕ) (letter : PostedLetter) → slice_get (map posted_as letters) number ≡ Some letter
    → (row : LetterRow) × (slice_get letters number ≡ Some row) × (posted_as row ≡ letter)
posted_row [] number letter is = absurd cc
posted_row (row ∷ letters) zero letter is = (row, refl, (let same : posted_as row ≡ letter = cc in same))
posted_row (row ∷ letters) (suc number) letter is = posted_row letters number letter is

module _ {D : Type 0} (view : DiskView D) (plan : FreePlan) (book : SharedBook) (who taken : ℕ) (job : FreeJob D) (runner : IsRunner view plan book who taken job) where
  -- the cause by what the thread keeps
  abbrev cause_kept : Cause
  cause_kept = next_cause_by job.mail.mail.waits job.mail.mail.letters.items (idle_cause_by plan.table.window plan.at job.mail.mail.skew who taken (replica_of job.node).state.term)

  abbrev stands_now : Bool
  stands_now = is_time_to_stand who taken && not (is_leader (replica_of job.node).state.term)

  abbrev reads : Minute
  reads = clock_reading plan.table.window plan.at job.mail.mail.skew

  -- it is the next one by the situation
  pub cause_is : (begun more : List Row) → ArePlayed plan runner.after begun more → cause_kept ≡ next_cause plan.table.window plan.at who taken (situation_in plan more)
  cause_is begun more are =
      let mail = runner.mail begun more are in
      let here = situation_in plan more in
      let idle : (skew : ℤ) → State → Cause = λ skew state. idle_cause_by plan.table.window plan.at skew who taken state.term in
      ap (λ waits. next_cause_by waits job.mail.mail.letters.items (idle job.mail.mail.skew (replica_of job.node).state)) mail.waits
      ∙ ap (λ letters. next_cause_by (here.standing.waits who) letters (idle job.mail.mail.skew (replica_of job.node).state)) mail.letters_are
      ∙ ap (λ skew. next_cause_by (here.standing.waits who) (here.mails who) (idle skew (replica_of job.node).state)) mail.skew
      ∙ ap (λ state. next_cause_by (here.standing.waits who) (here.mails who) (idle (here.skews who) state)) (runner.state begun more are)

  abbrev behind_it : List Row
  behind_it = runner.some.begun ++ runner.some.more

  few : plan.book.members ≤ 7
  few = runner.of_plan.at.few

  -- as its thread has it
  pub is_member : who < plan.members
  is_member = subst (λ (n : ℕ). who < n) (sym runner.of_plan.members) runner.node.member

  pub few_members : plan.members ≤ 7
  few_members = subst (λ (n : ℕ). n ≤ 7) (sym runner.of_plan.members) few

  pub members_then : runner.some.book.members ≡ plan.members
  members_then = runner.some.members ∙ sym runner.of_plan.members

  mail_here : IsMailIn (situation_in plan runner.some.more) who job.mail
  mail_here = runner.mail runner.some.begun runner.some.more runner.some.are

  -- what stands behind the book in which the rows are
  stands_here : (situation_in plan runner.some.more).standing ≡ standing_behind plan.table behind_it runner.some.book
  stands_here = situation_stands plan book runner.after runner.some.begun runner.some.more runner.of_plan runner.some.are ∙ rw runner.some.members refl

  -- ---- the node is beside it

  stands_at : StandsAt plan.table behind_it runner.some.book (replica_of job.node)
  stands_at = record {
    identity = rw (runner.some.members, runner.node.identity) refl;
    member = rw (runner.some.members, runner.node.identity) runner.node.member;
    runs = rw runner.node.identity (ap (λ (s : Standing). s.runs who) (sym stands_here) ∙ (runner.gone runner.some.begun runner.some.more runner.some.are).runs);
    state = rw runner.node.identity (runner.state runner.some.begun runner.some.more runner.some.are ∙ ap (λ (s : Standing). s.replicas who) stands_here);
    of_table = runner.node.at_rest.of_table;
  }

  -- it has kept as many bases
  bases_now : (begun more : List Row) → ArePlayed plan runner.after begun more → (situation_in plan more).bases who ≡ bases_behind plan.table behind_it runner.some.book who
  bases_now begun more are =
      bases_still plan book who runner.after begun more runner.some.begun runner.some.more runner.of_plan are runner.some.are
      ∙ ap (λ (bases : ℕ → ℕ). bases who) (situation_bases plan book runner.after runner.some.begun runner.some.more runner.of_plan runner.some.are) ∙ rw runner.some.members refl

  pub beside : IsBeside view plan.table behind_it runner.some.book who [] job.node
  beside = record {
    sound = runner.of_plan.at.sound;
    behind = runner.some.behind;
    rest = runner.some.rest;
    few = rw runner.some.members few;
    ahead = record {
      at_rest = runner.node.at_rest;
      trusted = runner.node.trusted;
      disk = subst (λ (count : ℕ). IsDiskAt view count job.node) (bases_now runner.some.begun runner.some.more runner.some.are) (runner.disk runner.some.begun runner.some.more runner.some.are);
      first = replica_of job.node;
      stands = stands_at;
      me = rw runner.node.identity refl;
      took = refl;
    };
  }

  -- ---- it is told of the cause

  heard : (number : ℕ) (rest : List ℕ) (input : Input) → job.mail.mail.letters.items ≡ number ∷ rest → IsLetterInput input job.mail.bytes.items
      → IsToldOf runner.some.book.letters (waits_in plan.table behind_it runner.some.book who) who (Hear number) input
  heard number rest input first is =
      let sent = mail_here.sent number (subst (λ letters. Contains letters number) (sym first) (in_first number rest)) in
      let posted : slice_get (map posted_as runner.some.book.letters) number ≡ Some sent.letter =
      ap (λ letters. slice_get letters number) (runner.some.behind.letters ∙ ap (λ (s : Standing). s.posted) (sym stands_here)) ∙ sent.there in
      let row = posted_row runner.some.book.letters number sent.letter posted in
      let bytes : job.mail.bytes.items ≡ row.0.bytes = mail_here.bytes number rest sent.letter first sent.there ∙ ap (λ (l : PostedLetter). l.bytes) (sym row.2) in
      record {
        sent = record { letter = row.0; there = row.1; to = ap (λ (l : PostedLetter). l.to) row.2 ∙ sent.to };
        is = subst (λ bytes. IsLetterInput input bytes) bytes is;
      }

  told_of_it : (cause : Cause) (input : Input) → cause ≡ cause_kept → IsToldHere job.mail cause input → IsToldOf runner.some.book.letters (waits_in plan.table behind_it runner.some.book who) who cause input
  told_of_it Campaign input is told = told
  told_of_it (Tick now) input is told = told
  told_of_it (Hear number) input is told =
      let first = heard_is job.mail.mail.waits job.mail.mail.letters.items stands_now reads number is in
      heard number first.0 input first.1 told
  told_of_it Answer input is told =
      let waits = answer_waits job.mail.mail.waits job.mail.mail.letters.items stands_now reads is in
      record { row = waits.0; waiting = ap (λ (s : Standing). s.waits who) (sym stands_here) ∙ sym mail_here.waits ∙ waits.1; is = told waits.0 waits.1 }

  inside_it : (cause : Cause) (input : Input) → cause ≡ cause_kept → IsToldHere job.mail cause input → IsInputInside plan.table input
  inside_it Campaign input is told = subst (λ i. IsInputInside plan.table i) (sym told) tt
  inside_it (Tick now) input is told =
      let at = ticks_at job.mail.mail.waits job.mail.mail.letters.items stands_now reads now is in
      subst (λ i. IsInputInside plan.table i) (sym told) (rw at (clock_inside plan.table.window plan.at job.mail.mail.skew runner.of_plan.at.sound.limits.ordered))
  inside_it (Hear number) input is told = letter_inside input told
    where
      letter_inside : (input : Input) → IsLetterInput input job.mail.bytes.items → IsInputInside plan.table input
      letter_inside given.Campaign is = absurd is
      letter_inside (given.Tick now) is = absurd is
      letter_inside (given.Hear bytes) is = tt
      letter_inside (given.Answer job at kind) is = absurd is
  inside_it Answer input is told =
      let waits = answer_waits job.mail.mail.waits job.mail.mail.letters.items stands_now reads is in
      subst (λ i. IsInputInside plan.table i) (sym (told waits.0 waits.1)) tt

  pub was_told : (cause : Cause) (input : Input) → cause ≡ cause_kept → IsToldHere job.mail cause input
      → WasToldOf plan.table behind_it runner.some.book who [] cause input
  was_told cause input is told = record { is_told = told_of_it cause input is told; inside = inside_it cause input is told }

  pub may_step : (cause : Cause) (input : Input) → cause ≡ cause_kept → IsToldHere job.mail cause input → MayStep view plan.table 2147483647 job.node cause input
  may_step cause input is told = record {
    rows = behind_it;
    book = runner.some.book;
    who = who;
    steps = [];
    beside = beside;
    told = was_told cause input is told;
    counted = omega (arith, runner.some.few);
    few = omega arith;
  }

  -- ---- and has stepped

  stepped : (cause : Cause) (step : Taken) (new : FreeJob D) → cause ≡ cause_kept → step.cause ≡ cause → taken < plan.turns
      → IsEnough (armed_in job.mail.mail.arm) (option_to_list step.out.delta) → IsBeside view plan.table behind_it runner.some.book who (step ∷ []) new.node → new.seat ≡ job.seat → new.mail ≡ job.mail
      → IsStepper view plan book who taken step new
  stepped cause step new is of left enough after seat mail = record {
    of_plan = runner.of_plan;
    node = record {
      at_rest = after.ahead.at_rest;
      trusted = after.ahead.trusted;
      identity = ap (λ (r : ReplicaState). r.identity) after.ahead.took.2 ∙ after.ahead.took.1.steps.took.identity ∙ after.ahead.stands.identity ∙ rw (runner.some.members, after.ahead.me) refl;
      member = runner.node.member;
    };
    after = runner.after;
    seat = rw seat runner.seat;
    some = runner.some;
    left = left;
    old = after.ahead.first;
    next = record {
      behind = after.behind;
      rest = after.rest;
      few = after.few;
      stands = after.ahead.stands;
      me = after.ahead.me;
      step = rw after.ahead.took.2 after.ahead.took.1;
    };
    gone = runner.gone;
    cause = λ begun more are. of ∙ is ∙ cause_is begun more are;
    saved = λ begun more are. subst (λ (armed : Option Armed). IsEnough armed (option_to_list step.out.delta)) (runner.mail begun more are).arm enough;
    disk = λ begun more are.
        subst (λ (count : ℕ). IsDiskAt view count new.node)
        (ap (λ (changes : List Delta). bases_with changes (bases_behind plan.table behind_it runner.some.book who)) (append-nil (option_to_list step.out.delta))
        ∙ ap (bases_with (option_to_list step.out.delta)) (sym (bases_now begun more are)))
        after.ahead.disk;
    mail = λ begun more are. rw mail (runner.mail begun more are);
  }

  -- ---- or the disk has stopped

  stopped : (cause : Cause) (change : Option Delta) (arm : Arm) (new : FreeJob D) → cause ≡ cause_kept → taken < plan.turns → job.mail.mail.arm ≡ Some arm
      → HasStopped plan.table behind_it runner.some.book who cause arm change (replica_of new.node).state.kept → IsAttached view plan.table behind_it runner.some.book who change new.node
      → new.seat ≡ job.seat → new.mail ≡ job.mail
      → IsStopper view plan book who taken cause change new
  stopped cause change arm new is left armed stop attached seat mail = record {
    of_plan = runner.of_plan;
    after = runner.after;
    seat = rw seat runner.seat;
    some = runner.some;
    left = left;
    arm = arm;
    armed = rw mail armed;
    stop = stop;
    attached = attached;
    gone = runner.gone;
    cause_is = λ begun more are. is ∙ cause_is begun more are;
    mail = λ begun more are. rw mail (runner.mail begun more are);
  }

  -- ---- either way

  pub tried : (cause : Cause) (outcome : Outcome) (new : FreeJob D) → cause ≡ cause_kept → taken < plan.turns
      → HasOutcome plan.table behind_it runner.some.book who cause job.mail.mail.arm outcome (replica_of new.node).state.kept
      → IsNodeAfter view plan.table behind_it runner.some.book who outcome new.node → new.seat ≡ job.seat → new.mail ≡ job.mail
      → HasTried view plan book who taken cause outcome new
  tried cause (ended.Taken step) new is left came after seat mail = stepped cause step new is came.0 left came.1 after seat mail
  tried cause (ended.Stopped change) new is left came after seat mail = stopped cause change came.0 new is left came.1 came.2 after seat mail

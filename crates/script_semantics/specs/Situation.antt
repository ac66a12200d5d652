-- What a script acts on: the standing of a book, and what is on its way to each replica and set for it; and how turns change it.
use Rattle.std.specs.Prelude.{◌≡◌, ℕ, ◌+◌, ◌-◌, ◌==◌, ◌&&◌, not, Bool, true, false, List, [], ◌∷◌, ◌++◌, length, drop, Option, None, Some, IfSome, ℤ, pos, if◌then◌else◌, slice_get}
use Rattle.std.specs.List.{filter, fold, range_with_len}
use Rattle.std.specs.Int.{int_max}
use Rattle.cluster_sched.specs.declared.fate.Fate.{Fate}
use Rattle.cluster_sched.specs.declared.fate.Fate.TheVariants as fate
use Rattle.due_set.specs.Table.{Table}
use Rattle.launch_machine.specs.Clerk.{first_rows}
use Rattle.paxos_base.specs.declared.durable.Delta.{Delta}
use Rattle.save_calls.specs.Save.{bases_after, calls_of_delta}
use Rattle.step_spec.specs.Folds.{deltas_of}
use Rattle.step_spec.specs.Step.{Event}
use Rattle.history.specs.Book.{PostedLetter, Row, Standing, acts_at, after_row, first_standing, with_fact}
use Rattle.history.specs.declared.turn.CallRow.{CallRow}
use Rattle.history.specs.declared.turn.Cause.{Cause}
use Rattle.history.specs.declared.turn.Cause.TheVariants.{Tick, Hear}
use Rattle.history.specs.declared.turn.Turn.{Turn}
use Rattle.history.specs.declared.turn.Turn.TheVariants.{Did, Stopped, Restarted, Arrived}

-- How a disk is armed to stop: so many more of the calls that save a change are done, and the next one stops within and leaves the
-- image of that number.
pub record Armed : Type 0 where
  pub left : ℕ
  pub image : ℕ

-- What stands after the turns so far; for each replica its mail, which are the numbers of the letters that wait for it; from whom
-- to whom letters are lost; for each replica how many minutes its clock is ahead, and what becomes of its next call; the latest
-- clock reading of any turn; and for each replica how its disk is armed, where it is, and how many bases it has kept.
pub record Situation : Type 0 where
  pub standing : Standing
  pub mails : ℕ → List ℕ
  pub cuts : List (ℕ × ℕ)
  pub skews : ℕ → ℤ
  pub fates : ℕ → Fate
  pub latest : ℤ
  pub arms : ℕ → Option Armed
  pub bases : ℕ → ℕ

-- before any turn: no letter waits or is lost, each clock is right, each call is answered, and no disk is armed
abbrev pub first_situation : ℕ → Table → Situation
first_situation members table =
    record {
      standing = first_standing members (first_rows table);
      mails = λ who. [];
      cuts = [];
      skews = λ who. pos 0;
      fates = λ who. fate.Done;
      latest = table.window.from.0;
      arms = λ who. None;
      bases = λ who. 0;
    }

-- ---- turns

-- a turn that is to be taken, but for what comes of it
pub data Task : Type 0 where
  Do : (who : ℕ) → Cause → Task
  Stop : (who : ℕ) → Task
  Restart : (who : ℕ) → Task
  Arrive : (late : ℕ) → Task

-- the replica takes its step for the cause, and a call of the step has the fate that is set for the replica
pub record Does (fates : ℕ → Fate) (who : ℕ) (cause : Cause) (turn : Turn) : Type 0 where
  pub made : Option CallRow
  pub is : turn ≡ Did who cause made
  pub fate : IfSome made (λ call. call.fate ≡ fates who)

-- the turn is that of the task
abbrev pub IsTurnFor : (ℕ → Fate) → Task → Turn → Type 0
IsTurnFor fates (Do who cause) turn = Does fates who cause turn
IsTurnFor fates (Stop who) turn = turn ≡ Stopped who None false
IsTurnFor fates (Restart who) turn = turn ≡ Restarted who
IsTurnFor fates (Arrive late) turn = turn ≡ Arrived late

-- a letter that is heard leaves the mail, and a replica that stops loses its mail
abbrev pub mails_after : Turn → (ℕ → List ℕ) → ℕ → List ℕ
mails_after (Did who (Hear number) made) mails = with_fact who (drop 1 (mails who)) mails
mails_after (Stopped who cause kept) mails = with_fact who [] mails
mails_after turn mails = mails

-- a call spends its fate
abbrev pub fates_after : Turn → (ℕ → Fate) → ℕ → Fate
fates_after (Did who cause (Some made)) fates = with_fact who fate.Done fates
fates_after turn fates = fates

-- the latest clock reading, with that of a cause
abbrev pub latest_with : Cause → ℤ → ℤ
latest_with (Tick now) latest = int_max latest now.0
latest_with cause latest = latest

-- also where the replica stopped within the step
abbrev pub latest_after : Turn → ℤ → ℤ
latest_after (Did who cause made) latest = latest_with cause latest
latest_after (Stopped who (Some cause) kept) latest = latest_with cause latest
latest_after turn latest = latest

-- ---- disks

-- the changes of what is kept that the step of a turn makes, of which there is one at most
abbrev pub changes_in : ℕ → Standing → Turn → Event → List Delta
changes_in members standing (Did who cause made) event = deltas_of (acts_at members standing who event)
changes_in members standing (Stopped who (Some cause) kept) event = deltas_of (acts_at members standing who event)
changes_in members standing turn event = []

-- how many calls of a disk save them
abbrev pub calls_for : List Delta → ℕ
calls_for [] = 0
calls_for (change ∷ changes) = calls_of_delta change + calls_for changes

-- a disk that is armed has so many calls less left
abbrev pub armed_after : List Delta → Option Armed → Option Armed
armed_after changes None = None
armed_after changes (Some armed) = Some (record armed { left = armed.left - calls_for changes })

-- a step uses up calls of its replica's disk, and a replica that stops has a disk that isn't armed
abbrev pub arms_after : Turn → List Delta → (ℕ → Option Armed) → ℕ → Option Armed
arms_after (Did who cause made) changes arms = with_fact who (armed_after changes (arms who)) arms
arms_after (Stopped who cause kept) changes arms = with_fact who None arms
arms_after turn changes arms = arms

-- how many bases were kept, with those among these changes
abbrev pub bases_with : List Delta → ℕ → ℕ
bases_with changes bases = fold (λ count change. bases_after change count) bases changes

-- a step keeps its change, and so does a stop that kept it
abbrev pub bases_kept : Turn → List Delta → (ℕ → ℕ) → ℕ → ℕ
bases_kept (Did who cause made) changes bases = with_fact who (bases_with changes (bases who)) bases
bases_kept (Stopped who cause true) changes bases = with_fact who (bases_with changes (bases who)) bases
bases_kept turn changes bases = bases

-- the situation after a turn, before the letters of it have joined the mails
abbrev pub after_turn : ℕ → Situation → Row → Situation
after_turn members situation row =
    record {
      standing = after_row members situation.standing row.turn row.event row.letters;
      mails = mails_after row.turn situation.mails;
      cuts = situation.cuts;
      skews = situation.skews;
      fates = fates_after row.turn situation.fates;
      latest = latest_after row.turn situation.latest;
      arms = arms_after row.turn (changes_in members situation.standing row.turn row.event) situation.arms;
      bases = bases_kept row.turn (changes_in members situation.standing row.turn row.event) situation.bases;
    }

-- the situation after some turns
abbrev pub after_turns : ℕ → Situation → List Row → Situation
after_turns members situation rows = fold (after_turn members) situation rows

-- the rows are the turns of the tasks, one after another
abbrev pub AreTurnsFor : ℕ → Situation → List Task → List Row → Type 0
AreTurnsFor members situation [] rows = rows ≡ []
AreTurnsFor members situation (task ∷ tasks) [] = [] ≡ task ∷ tasks
AreTurnsFor members situation (task ∷ tasks) (row ∷ rows) =
    IsTurnFor situation.fates task row.turn × AreTurnsFor members (after_turn members situation row) tasks rows

-- ---- letters

-- letters from the one to the other are lost
abbrev pub is_cut : (from to : ℕ) → List (ℕ × ℕ) → Bool
is_cut from to [] = false
is_cut from to (pair ∷ pairs) = if (pair.0 == from) && (pair.1 == to) then true else is_cut from to pairs

-- the letter goes to the replica, which runs, and isn't lost
abbrev pub reaches : Situation → ℕ → Option PostedLetter → Bool
reaches situation who None = false
reaches situation who (Some letter) =
    (letter.to == who) && (situation.standing.runs who && not (is_cut letter.from letter.to situation.cuts))

-- the letters for a replica among those from a number on
abbrev pub letters_for : Situation → ℕ → ℕ → List ℕ
letters_for situation first who =
    filter (λ number. reaches situation who (slice_get situation.standing.posted number)) (range_with_len first (length situation.standing.posted - first))

-- the letters from a number on join the mails
abbrev pub delivered : ℕ → Situation → Situation
delivered first situation = record situation { mails = λ who. situation.mails who ++ letters_for situation first who }

-- the turns of the tasks are taken, and then their letters join the mails
pub record Performs (members : ℕ) (tasks : List Task) (situation : Situation) (rows : List Row) (after : Situation) : Type 0 where
  pub turns : AreTurnsFor members situation tasks rows
  pub is : after ≡ delivered (length situation.standing.posted) (after_turns members situation rows)

-- What a book is, and what it leaves, that has obeyed a script to its end.
use Rattle.std.specs.Prelude.{◌≡◌, ◌≢◌, ℕ, ◌<◌, List, [], ◌∷◌, ◌++◌, length, take, ℤ, pos, ◌-ℤ◌}
use Rattle.paxos_base.specs.declared.entry.Entry.{Entry}
use Rattle.paxos_base.specs.declared.entry.Entry.TheVariants.{Noop}
use Rattle.paxos_base.specs.declared.entry.Kind.{Kind}
use Rattle.paxos_base.specs.declared.entry.Kind.TheVariants.{Launch}
use Rattle.due_set.specs.Table.{Table}
use Rattle.cluster_sched.specs.declared.row.SchedRow.{SchedRow}
use Rattle.launch_machine.specs.Clerk.{first_rows}
use Rattle.launch_machine.specs.Starts.{AdoptionsOf}
use Rattle.launch_machine.specs.Versions.{IsDueUnder}
use Rattle.launch_safety.specs.Fits.{HasEnd, HasStart, IsHeld, TakesEffectAfter}
use Rattle.launch_safety.specs.Launched.{IsCalledAt}
use Rattle.launch_safety.specs.Settled.{IsSettled}
use Rattle.script_text.specs.declared.command.Command.{Command}
use Rattle.step_spec.specs.State.{prefix_of}
use Rattle.agreement.specs.Log.{IsLog}
use Rattle.history.specs.Agrees.{Agrees}
use Rattle.history.specs.Book.{Row, standing_after, votes_in}
use Rattle.history.specs.Legal.{IsLegal}
use Rattle.launch_safety.specs.Fitting.{FitsItsLog, held_in}
use Rattle.script_semantics.specs.Script.{Obeys}
use Rattle.run_outcome.specs.Readings.{IsGraceLong, script_turns}
use Rattle.launch_safety.specs.Readings.{AreTurnsBy}

-- the book has a log
abbrev pub HasLog : ℕ → List Row → Type 0
HasLog members book = (log : List Entry) × IsLog members (votes_in book) log

-- no version is adopted in the log of the book
abbrev pub AdoptsNone : ℕ → Table → List Row → Type 0
AdoptsNone members table book = (log : List Entry) → IsLog members (votes_in book) log → AdoptionsOf table log []

-- each replica has learned as many entries as the log has
abbrev pub HaveLearnedAll : ℕ → Table → List Row → List Entry → Type 0
HaveLearnedAll members table book log =
    (who : ℕ) → who < members → prefix_of ((standing_after members (first_rows table) book).replicas who) ≡ length log

-- each entry of the log but the no-ops takes effect on what those before it left
abbrev pub IgnoresNone : Table → List Entry → Type 0
IgnoresNone table log =
    (before after : List Entry) (entry : Entry) → log ≡ before ++ entry ∷ after → entry ≢ Noop → TakesEffectAfter table before entry

-- in the log a start of each due instant takes effect, and an end, where versions are adopted at these instants
abbrev pub EndsEachDue : Table → List ℤ → List Entry → Type 0
EndsEachDue table adoptions log =
    (job : ℕ) (at : ℤ) → IsDueUnder table adoptions job at → HasStart table log job at × (kind : Kind) × HasEnd table log job at kind

-- each due instant is held as launched
abbrev pub HoldsEachDue : Table → List ℤ → List SchedRow → Type 0
HoldsEachDue table adoptions held = (job : ℕ) (at : ℤ) → IsDueUnder table adoptions job at → IsHeld held job at Launch

-- each due instant that no clock reading of the turns is later than is held as launched, and was called at that very instant
abbrev pub CallsEachAfter : List Row → Table → List ℤ → List SchedRow → Type 0
CallsEachAfter turns table adoptions held =
    (job : ℕ) (at : ℤ) → IsDueUnder table adoptions job at → AreTurnsBy at turns → IsCalledAt held job at Launch at

-- **The rows are a whole run of the script**: a legal book that obeys it, on which the replicas agree and which fits after each turn,
-- and which has nothing left to do at the window's last minute.
pub record IsWholeRun (members : ℕ) (table : Table) (script : List Command) (rows : List Row) : Type 0 where
  -- each turn may come after those before it
  pub legal : IsLegal members table rows
  -- they are the turns of the script's commands, and of a walk to the window's last minute
  pub obeyed : Obeys members table script rows
  -- after each turn there is a log
  pub logged : (turns : ℕ) → HasLog members (take turns rows)
  -- after each turn what was learned was chosen, one entry for a slot, and each launch table is that of a front of the log
  pub agree : (turns : ℕ) → Agrees members table (take turns rows)
  -- after each turn no launch is held twice, each that is held was started in the log, and the log's ends say what is held
  pub fits : (turns : ℕ) → FitsItsLog members table (take turns rows)
  -- this is the log at the end
  pub log : List Entry
  pub is_log : IsLog members (votes_in rows) log
  -- all have learned it
  pub learned : HaveLearnedAll members table rows log
  -- at these instants it adopts versions of the table
  pub adoptions : List ℤ
  pub adopted : AdoptionsOf table log adoptions
  -- nothing in it is ignored
  pub effective : IgnoresNone table log
  -- nothing is left to do at the window's last minute
  pub settled : IsSettled table log (table.window.until.0 -ℤ pos 1)
  -- each due instant, by the versions in force then, was started and has ended
  pub ended : EndsEachDue table adoptions log
  -- one that no clock of the script's turns has passed is launched, at that very instant
  pub later : CallsEachAfter (script_turns obeyed) table adoptions (held_in members table rows)
  -- where grace lasts as long as the window, each is launched
  pub all : IsGraceLong table → HoldsEachDue table adoptions (held_in members table rows)

-- What a whole run says, part by part.
use Rattle.std.proofs.Common.{◌≡◌, ◌≢◌, ℕ, ◌<◌, ◌≤◌, List, ◌∷◌, ◌++◌, true, take, length, ℤ, pos, ◌-ℤ◌, subst}
use Rattle.std.specs.List.{Contains}
use Rattle.std.proofs.lemmas.List.Elements.{All-contains}
use Rattle.paxos_base.specs.declared.entry.Entry.{Entry}
use Rattle.paxos_base.specs.declared.entry.Entry.TheVariants.{Noop}
use Rattle.paxos_base.specs.declared.entry.Kind.{Kind}
use Rattle.paxos_base.specs.declared.entry.Kind.TheVariants.{Launch}
use Rattle.paxos_base.specs.declared.rows.JobRow.{JobRow}
use Rattle.due_set.specs.Table.{Table}
use Rattle.cluster_sched.specs.declared.row.SchedRow.{SchedRow}
use Rattle.launch_machine.specs.Clerk.{IsClerkOf, first_rows, NoStart, NoTable}
use Rattle.launch_machine.specs.Intent.{NoCall}
use Rattle.launch_machine.specs.Starts.{AdoptionsOf}
use Rattle.launch_machine.specs.Versions.{IsDueUnder}
use Rattle.launch_machine.proofs.ClerkLemmas.{AppliesAll-same}
use Rattle.launch_safety.specs.Fits.{AreAdoptions, HasEnd, HasStart, IsBacked, IsHeld, StartsInOrder, TakesEffectAfter}
use Rattle.launch_safety.specs.Launched.{IsCalledAt}
use Rattle.launch_safety.proofs.FitLemmas.{held_once}
use Rattle.launch_safety.proofs.VersionLemmas.{are_adoptions}
use Rattle.script_text.specs.declared.command.Command.{Command}
use Rattle.step_spec.specs.State.{prefix_of}
use Rattle.agreement.specs.Agree.{IsChosen}
use Rattle.agreement.specs.Log.{FollowsLog, IsLog}
use Rattle.agreement.specs.World.{Learning}
use Rattle.history.specs.Book.{Row, learned_in, standing_after, votes_in}
use Rattle.history.proofs.Agreement.{book_one_log}
use Rattle.launch_safety.specs.Fitting.{held_in}
use Rattle.run_outcome.specs.Readings.{IsGraceLong, script_turns}
use Rattle.launch_safety.specs.Readings.{AreTurnsBy}
use Rattle.run_outcome.specs.Whole.{IsWholeRun}

-- ---- after each turn

pub said_chosen : (members : ℕ) (table : Table) (script : List Command) (rows : List Row) (turns : ℕ) (learned : Learning) → IsWholeRun members table script rows
    → Contains (learned_in (take turns rows)) learned → IsChosen members (votes_in (take turns rows)) learned.slot learned.entry
said_chosen members table script rows turns learned whole = (whole.agree turns).chosen learned

pub said_one : (members : ℕ) (table : Table) (script : List Command) (rows : List Row) (turns : ℕ) (a b : Learning) → IsWholeRun members table script rows
    → Contains (learned_in (take turns rows)) a → Contains (learned_in (take turns rows)) b → a.slot ≡ b.slot → a.entry ≡ b.entry
said_one members table script rows turns a b whole = (whole.agree turns).one a b

pub said_follow : (members : ℕ) (table : Table) (script : List Command) (rows : List Row) (turns : ℕ) → IsWholeRun members table script rows
    → (log : List Entry) × IsLog members (votes_in (take turns rows)) log
    × ((who : ℕ) → (standing_after members (first_rows table) (take turns rows)).runs who ≡ true
    → FollowsLog table log ((standing_after members (first_rows table) (take turns rows)).replicas who))
said_follow members table script rows turns whole =
    let (log, is_log) = whole.logged turns in
    (log, is_log, (whole.agree turns).follow log is_log)

pub said_once : (members : ℕ) (table : Table) (script : List Command) (rows : List Row) (turns : ℕ) (a b : SchedRow) → IsWholeRun members table script rows
    → Contains (held_in members table (take turns rows)) a → Contains (held_in members table (take turns rows)) b → a.name.job ≡ b.name.job → a.name.at ≡ b.name.at → a ≡ b
said_once members table script rows turns a b whole =
    let (log, is_log) = whole.logged turns in
    held_once table log (held_in members table (take turns rows)) a b (whole.fits turns log is_log)

pub said_backed : (members : ℕ) (table : Table) (script : List Command) (rows : List Row) (turns : ℕ) (row : SchedRow) → IsWholeRun members table script rows
    → Contains (held_in members table (take turns rows)) row → (log : List Entry) × IsLog members (votes_in (take turns rows)) log × IsBacked table log row
said_backed members table script rows turns row whole has =
    let (log, is_log) = whole.logged turns in
    (log, is_log, All-contains (IsBacked table log) (held_in members table (take turns rows)) row (whole.fits turns log is_log).backed has)

pub said_says : (members : ℕ) (table : Table) (script : List Command) (rows : List Row) (turns : ℕ) (log : List Entry) (job : ℕ) (at : ℤ) (kind : Kind) → IsWholeRun members table script rows
    → IsLog members (votes_in (take turns rows)) log → HasEnd table log job at kind → IsHeld (held_in members table (take turns rows)) job at kind
said_says members table script rows turns log job at kind whole is_log = (whole.fits turns log is_log).ended job at kind

pub said_order : (members : ℕ) (table : Table) (script : List Command) (rows : List Row) (turns : ℕ) (log : List Entry) (job : ℕ) → IsWholeRun members table script rows
    → IsLog members (votes_in (take turns rows)) log → StartsInOrder table log job
said_order members table script rows turns log job whole is_log = (whole.fits turns log is_log).in_order job

-- ---- at the end

-- there is one log
the_log : (members : ℕ) (table : Table) (script : List Command) (rows : List Row) (log : List Entry) → members ≤ 7 → (whole : IsWholeRun members table script rows) → IsLog members (votes_in rows) log → whole.log ≡ log
the_log members table script rows log few whole is_log = book_one_log members table rows whole.log log few whole.legal whole.is_log is_log

pub said_adopted : (members : ℕ) (table : Table) (script : List Command) (rows : List Row) (log : List Entry) → members ≤ 7 → (whole : IsWholeRun members table script rows) → IsLog members (votes_in rows) log
    → AdoptionsOf table log whole.adoptions × AreAdoptions table whole.adoptions
said_adopted members table script rows log few whole is_log =
    (subst (λ (other : List Entry). AdoptionsOf table other whole.adoptions) (the_log members table script rows log few whole is_log) whole.adopted, are_adoptions table whole.log whole.adoptions whole.adopted)

pub said_learned : (members : ℕ) (table : Table) (script : List Command) (rows : List Row) (log : List Entry) (who : ℕ) → members ≤ 7 → IsWholeRun members table script rows → IsLog members (votes_in rows) log
    → who < members → prefix_of ((standing_after members (first_rows table) rows).replicas who) ≡ length log
said_learned members table script rows log who few whole is_log member =
    subst (λ (other : List Entry). prefix_of ((standing_after members (first_rows table) rows).replicas who) ≡ length other) (the_log members table script rows log few whole is_log) (whole.learned who member)

pub said_effective : (members : ℕ) (table : Table) (script : List Command) (rows : List Row) (log before after : List Entry) (entry : Entry) → members ≤ 7 → IsWholeRun members table script rows
    → IsLog members (votes_in rows) log → log ≡ before ++ entry ∷ after → entry ≢ Noop → TakesEffectAfter table before entry
said_effective members table script rows log before after entry few whole is_log =
    subst (λ (other : List Entry). other ≡ before ++ entry ∷ after → entry ≢ Noop → TakesEffectAfter table before entry) (the_log members table script rows log few whole is_log)
    (whole.effective before after entry)

pub said_settled : (members : ℕ) (table : Table) (script : List Command) (rows : List Row) (log : List Entry) (launch : List JobRow) → members ≤ 7 → IsWholeRun members table script rows
    → IsLog members (votes_in rows) log → IsClerkOf table log launch
    → NoCall table launch (table.window.until.0 -ℤ pos 1) × NoStart table launch (table.window.until.0 -ℤ pos 1) × NoTable table launch (table.window.until.0 -ℤ pos 1)
said_settled members table script rows log launch few whole is_log clerk =
    let rests = whole.settled in
    let same = AppliesAll-same table (first_rows table) log rests.rows launch
    (subst (λ (other : List Entry). IsClerkOf table other rests.rows) (the_log members table script rows log few whole is_log) rests.clerk) clerk in (
      subst (λ (rows : List JobRow). NoCall table rows (table.window.until.0 -ℤ pos 1)) same rests.no_call,
      subst (λ (rows : List JobRow). NoStart table rows (table.window.until.0 -ℤ pos 1)) same rests.no_start,
      subst (λ (rows : List JobRow). NoTable table rows (table.window.until.0 -ℤ pos 1)) same rests.no_table,
    )

pub said_ended : (members : ℕ) (table : Table) (script : List Command) (rows : List Row) (log : List Entry) (job : ℕ) (at : ℤ) → members ≤ 7 → (whole : IsWholeRun members table script rows)
    → IsLog members (votes_in rows) log → IsDueUnder table whole.adoptions job at → HasStart table log job at × (kind : Kind) × HasEnd table log job at kind
said_ended members table script rows log job at few whole is_log due =
    subst (λ (other : List Entry). HasStart table other job at × (kind : Kind) × HasEnd table other job at kind) (the_log members table script rows log few whole is_log) (whole.ended job at due)

pub said_later : (members : ℕ) (table : Table) (script : List Command) (rows : List Row) (whole : IsWholeRun members table script rows) (job : ℕ) (at : ℤ) → IsDueUnder table whole.adoptions job at
    → AreTurnsBy at (script_turns whole.obeyed) → IsHeld (held_in members table rows) job at Launch
said_later members table script rows whole job at due by =
    let called = whole.later job at due by in
    record { row = called.row; among = called.among; of_job = called.of_job; due_at = called.due_at; of_kind = called.of_kind }

pub said_at_once : (members : ℕ) (table : Table) (script : List Command) (rows : List Row) (whole : IsWholeRun members table script rows) (job : ℕ) (at : ℤ) → IsDueUnder table whole.adoptions job at
    → AreTurnsBy at (script_turns whole.obeyed) → IsCalledAt (held_in members table rows) job at Launch at
said_at_once members table script rows whole job at = whole.later job at

pub said_all : (members : ℕ) (table : Table) (script : List Command) (rows : List Row) (job : ℕ) (at : ℤ) → (whole : IsWholeRun members table script rows) → IsGraceLong table
    → IsDueUnder table whole.adoptions job at → IsHeld (held_in members table rows) job at Launch
said_all members table script rows job at whole long = whole.all long job at

-- A legal book of two replicas in which a launch is started, called in time and ended, and both have learned its end.
use Rattle.std.proofs.Common.{◌≡◌, ℕ, ℤ, ◌+◌, ◌*◌, ◌<◌, ◌^◌, Some, None, List, [], ◌∷◌, ◌++◌, length, refl, ap, arith, lit<}
use Rattle.std.proofs.lemmas.List.{length_push}
use Rattle.due_set.specs.Table.{IsSound, Table}
use Rattle.paxos_base.specs.EntryFields.{FitEntryFields, numbers_of}
use Rattle.paxos_base.specs.Vote.{put_vote}
use Rattle.paxos_base.specs.declared.entry.Entry.{Entry}
use Rattle.paxos_base.specs.declared.entry.Kind.TheVariants.{Launch}
use Rattle.paxos_base.specs.declared.entry.Vote.{Vote}
use Rattle.cluster_sched.specs.declared.fate.Fate.TheVariants.{Done}
use Rattle.cluster_sched.specs.declared.row.SchedRow.{SchedRow}
use Rattle.launch_machine.specs.Clerk.{AppliesAll, first_rows}
use Rattle.launch_machine.specs.declared.machine.Intent.TheVariants as intent
use Rattle.launch_machine.proofs.ClerkLemmas.{AppliesAll-push}
use Rattle.step_spec.specs.Act.{Call, after_act}
use Rattle.step_spec.specs.Folds.{calls_by, sent_by}
use Rattle.step_spec.specs.Step.{Answer, Plan, Tick}
use Rattle.history.specs.Book.{PostedLetter, Row, Standing, held_after}
use Rattle.history.specs.Legal.{IsLegal}
use Rattle.history.specs.declared.turn.CallRow.{CallRow}
use Rattle.history.specs.declared.turn.Cause.TheVariants as causes
use Rattle.history.proofs.Asks.{busy, call_asked, end_entry, idle, in_window, is_open_then, minute, minute_fits, opened, sound, start_applies, start_asked, start_entry, with_table}
use Rattle.history.proofs.Launches.{Settled, settled}
use Rattle.history.proofs.Rounds.{IsKnown, IsProposed, call_acts, end_acts, following, leading, propose_turn, put_below, round, start_acts, told, vote}
use Rattle.history.proofs.Turns.{Book, Next, Stands, first_turn, go_on}
use Rattle.launch_safety.specs.Parts.{EndsAs}
use Rattle.launch_safety.proofs.Ended.{ends_where_learned}

module _ (k : ℕ) (within : k < 32) (there : Settled k) where
  inside : k < 33
  inside = omega (arith, within)

  start_slot : 2 * k < 2 ^ 62
  start_slot = omega (arith, within)

  end_slot : 2 * k + 1 < 2 ^ 62
  end_slot = omega (arith, within)

  start_fits : FitEntryFields (numbers_of (start_entry k))
  start_fits = record { job = lit< tt; at = minute_fits k inside; now = minute_fits k inside }

  end_fits : FitEntryFields (numbers_of (end_entry k))
  end_fits = record { job = lit< tt; at = minute_fits k inside; now = grind arith }

  abbrev row : SchedRow
  row = record { name = record { job = 0; at = minute k }; kind = Launch; now = record { 0 = minute k }; by = 0 }

  abbrev made : CallRow
  made = record { row = row; fate = Done; answer = Some row }

  -- what both have once they have learned the start
  abbrev votes_then : List Vote
  votes_then = put_vote (vote (2 * k) (start_entry k)) there.votes

  abbrev entries_then : List Entry
  entries_then = there.entries ++ start_entry k ∷ []

  abbrev posted_then : List PostedLetter
  posted_then = told (2 * k) (start_entry k) there.posted ++ []

  abbrev held_then : List SchedRow
  held_then = held_after (Some made) there.held

  long_then : 0 + length entries_then ≡ 2 * k + 1
  long_then = omega (arith, length_push there.entries (start_entry k), there.long)

  table_then : AppliesAll busy (first_rows busy) entries_then (with_table (opened k))
  table_then = AppliesAll-push busy (first_rows busy) there.entries (start_entry k) (with_table (idle k)) (with_table (opened k)) there.table (start_applies k inside)

  start_turn : (standing : Standing) → Stands (leading 0 (first_rows busy) there.votes there.entries None) (following there.votes there.entries) there.posted there.held None standing
      → Next 2 busy standing (IsProposed (2 * k) (start_entry k) there.votes there.entries there.posted there.held)
  start_turn standing stands =
      propose_turn (causes.Tick (record { 0 = minute k })) (Tick (minute k) plan) 0 (2 * k) (start_entry k) (first_rows busy) there.votes there.entries _ there.posted there.held None standing
      (start_acts 0 (2 * k) (first_rows busy) (with_table (idle k)) there.votes there.entries (minute k) (minute k) there.long (omega (arith, within)))
      (there.table, start_asked k inside) start_slot start_fits (in_window k inside, plan, refl) stands
    where
      plan : Plan
      plan = record { rows = with_table (idle k); intent = intent.Start 0 (minute k) }

  started_book : Book 2 busy (IsKnown (2 * k) (start_entry k) there.votes there.entries there.posted there.held)
  started_book =
      round (2 * k) (start_entry k) there.votes there.entries there.posted there.held start_slot start_fits there.long there.below
      (go_on 2 busy (Stands (leading 0 (first_rows busy) there.votes there.entries None) (following there.votes there.entries) there.posted there.held None) _ start_turn there.book)

  call_turn : (standing : Standing) → IsKnown (2 * k) (start_entry k) there.votes there.entries there.posted there.held standing
      → Next 2 busy standing (Stands (leading 0 (first_rows busy) votes_then entries_then None) (following votes_then entries_then) (posted_then ++ []) held_then (Some row))
  unfolding after_act sent_by calls_by
  call_turn standing stands =
      first_turn busy (leading 0 (first_rows busy) votes_then entries_then None) (following votes_then entries_then) (leading 0 (first_rows busy) votes_then entries_then None) posted_then there.held None standing
      (causes.Tick (record { 0 = minute k })) (Some made) (Tick (minute k) plan) (Call row ∷ []) []
      (call_acts 0 (2 * k + 1) (first_rows busy) (with_table (opened k)) votes_then entries_then (minute k) (minute k) long_then (omega (arith, within))) refl (table_then, call_asked k) tt
      (refl, refl, rw (there.before k (omega arith)) refl) (in_window k inside, plan, refl) stands
    where
      plan : Plan
      plan = record { rows = with_table (opened k); intent = intent.Call 0 (minute k) Launch }

  end_turn : (standing : Standing) → Stands (leading 0 (first_rows busy) votes_then entries_then None) (following votes_then entries_then) (posted_then ++ []) held_then (Some row) standing
      → Next 2 busy standing (IsProposed (2 * k + 1) (end_entry k) votes_then entries_then (posted_then ++ []) held_then)
  end_turn standing stands =
      propose_turn causes.Answer (Answer 0 (minute k) Launch (with_table (opened k))) 0 (2 * k + 1) (end_entry k) (first_rows busy) votes_then entries_then _ (posted_then ++ []) held_then (Some row) standing
      (end_acts 0 (2 * k + 1) (first_rows busy) (with_table (opened k)) votes_then entries_then (minute k) long_then (is_open_then k))
      table_then end_slot end_fits (record { row = row; waits = stands.waits_is; plan = record { rows = with_table (opened k); intent = intent.Rest }; is = refl }) stands

  ended_book : Book 2 busy (IsKnown (2 * k + 1) (end_entry k) votes_then entries_then (posted_then ++ []) held_then)
  ended_book =
      round (2 * k + 1) (end_entry k) votes_then entries_then (posted_then ++ []) held_then end_slot end_fits long_then (put_below (2 * k) (start_entry k) there.votes there.below)
      (go_on 2 busy (Stands (leading 0 (first_rows busy) votes_then entries_then None) (following votes_then entries_then) (posted_then ++ []) held_then (Some row)) _ end_turn
      (go_on 2 busy (IsKnown (2 * k) (start_entry k) there.votes there.entries there.posted there.held) _ call_turn started_book))

  ends_in_time : EndsAs 2 busy ended_book.rows 0 (minute k) Launch
  ends_in_time =
      ends_where_learned 2 busy ended_book.rows 1 entries_then [] 0 (minute k) Launch (omega arith) ended_book.legal (ap (λ s. s.learned) ended_book.holds.second)

pub in_time : (table : Table) × (book : List Row) × (job : ℕ) × (at : ℤ) × IsSound table × IsLegal 2 table book × EndsAs 2 table book job at Launch
in_time =
    let there = settled 0 (omega arith) in
    let book = ended_book 0 (lit< tt) there in
    (busy, book.rows, 0, minute 0, sound, book.legal, ends_in_time 0 (lit< tt) there)

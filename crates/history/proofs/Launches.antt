-- A legal book in which two replicas learn the starts and ends of 32 launches.
use Rattle.std.proofs.Common.{◌≡◌, ℕ, zero, suc, ◌+◌, ◌*◌, ◌<◌, ◌≤◌, ◌^◌, false, Some, None, List, [], ◌∷◌, ◌++◌, length, refl, sym, inl, inr, subst, arith, lit<}
use Rattle.std.specs.Ordering.{int_eq}
use Rattle.std.proofs.lemmas.Bool.{cases_Bool, false_from_ne_true}
use Rattle.std.proofs.lemmas.Bool.Decides.{Decides-int_eq}
use Rattle.std.proofs.lemmas.Int.{ints}
use Rattle.std.proofs.lemmas.List.{length_push}
use Rattle.std.proofs.lemmas.List.Elements.{All-nil}
use Rattle.paxos_base.specs.Durable.{after_delta}
use Rattle.paxos_base.specs.EntryFields.{FitEntryFields, numbers_of}
use Rattle.paxos_base.specs.Members.{with_member}
use Rattle.paxos_base.specs.Vote.{put_vote, votes_from}
use Rattle.paxos_base.specs.declared.entry.Entry.{Entry}
use Rattle.paxos_base.specs.declared.entry.Kind.TheVariants.{Launch}
use Rattle.paxos_base.specs.declared.entry.Vote.{Vote}
use Rattle.paxos_letter.specs.declared.packet.Packet.TheVariants as packet
use Rattle.cluster_sched.specs.declared.fate.Fate.TheVariants.{Done}
use Rattle.cluster_sched.specs.declared.row.Name.{Name}
use Rattle.cluster_sched.specs.declared.row.SchedRow.{SchedRow}
use Rattle.launch_machine.specs.Clerk.{AppliesAll, first_rows}
use Rattle.launch_machine.specs.declared.machine.Intent.TheVariants as intent
use Rattle.launch_machine.proofs.ClerkLemmas.{AppliesAll-push}
use Rattle.step_spec.specs.Act.{Act, Observe, Stand, Gather, TakeLead, Pledge, Call, Send, after_act}
use Rattle.step_spec.specs.Folds.{after_acts, calls_by, sent_by}
use Rattle.step_spec.specs.Hear.{hear, hear_all, line, on_prepare, on_promise}
use Rattle.step_spec.specs.Heard.{messages_of, packets_of}
use Rattle.step_spec.specs.Message.{Prepare, Promise, Only, Others}
use Rattle.step_spec.specs.Propose.{campaign}
use Rattle.step_spec.specs.State.{State, started}
use Rattle.step_spec.specs.Step.{Campaign, Tick, Hear, Answer, Plan, step}
use Rattle.agreement.specs.World.{fresh}
use Rattle.history.specs.Book.{PostedLetter, Standing, held_after, is_name, under}
use Rattle.history.specs.declared.turn.CallRow.{CallRow}
use Rattle.history.specs.declared.turn.Cause.TheVariants as cause
use Rattle.history.proofs.Asks.{busy, call_asked, end_applies, end_entry, idle, in_window, is_open_then, minute, minute_fits, opened, start_applies, start_asked, start_entry, with_table}
use Rattle.history.proofs.Rounds.{AreBelow, IsKnown, IsProposed, call_acts, end_acts, following, is_heard, leading, mail, propose_turn, put_below, round, sent, start_acts, told, vote}
use Rattle.history.proofs.SomeBook.{prepare_spells, promise_spells}
use Rattle.history.proofs.Turns.{Book, Next, Stands, first_turn, go_on, second_turn}

-- ---- calls

abbrev name : ℕ → Name
name k = record { job = 0; at = minute k }

abbrev call_row : ℕ → SchedRow
call_row k = record { name = name k; kind = Launch; now = record { 0 = minute k }; by = 0 }

abbrev answered_call : ℕ → CallRow
answered_call k = record { row = call_row k; fate = Done; answer = Some (call_row k) }

-- no row is held of this launch or one behind it
abbrev AreBefore : ℕ → List SchedRow → Type 0
AreBefore k held = (m : ℕ) → k ≤ m → under (name m) held ≡ None

other_name : (k m : ℕ) → k < m → is_name (name k) (name m) ≡ false
other_name k m less =
    false_from_ne_true (int_eq (minute k) (minute m)) (λ same. let at : minute k ≡ minute m = (Decides-int_eq (minute k) (minute m)).0 same in omega (arith, ints, at, less))

none_under : (name : Name) (held : List SchedRow) (row : SchedRow) → under name held ≡ None → is_name row.name name ≡ false → under name (held ++ row ∷ []) ≡ None
none_under name [] row none other = rw other refl
none_under name (first ∷ held) row none other = elim (cases_Bool (is_name first.name name)) [
  | inl here ↦ let so : Some first ≡ None = rw here at none in absurd cc
  | inr apart ↦ rw apart (none_under name held row (rw apart at none) other)
]

held_with : (k : ℕ) (held : List SchedRow) → under (name k) held ≡ None → held_after (Some (answered_call k)) held ≡ held ++ call_row k ∷ []
held_with k held none = rw none refl

before_next : (k : ℕ) (held : List SchedRow) → AreBefore k held → AreBefore (suc k) (held_after (Some (answered_call k)) held)
before_next k held before =
    subst (λ some. AreBefore (suc k) some) (sym (held_with k held (before k (omega arith))))
    (λ m from. none_under (name m) held (call_row k) (before m (omega (arith, from))) (other_name k m from))

-- ---- the leader

abbrev standing_up : List Act
standing_up = Stand 0 8 ∷ Send Others (Prepare 8 0) ∷ []

abbrev promising : List Act
promising = Observe 8 ∷ Pledge 8 ∷ Send (Only 0) (Promise 8 0 []) ∷ []

abbrev taking_lead : List Act
taking_lead = Observe 8 ∷ Gather 1 [] ∷ TakeLead ∷ []

abbrev new : ℕ → State
new who = started who (fresh (first_rows busy))

abbrev candidate : State
candidate = after_acts standing_up (new 0)

abbrev asked : List PostedLetter
asked = mail 0 1 (packet.Prepare 8 0 ∷ []) ∷ []

abbrev promised : List PostedLetter
promised = asked ++ mail 1 0 (packet.Promise 8 0 0 ∷ []) ∷ []

abbrev Begun : Standing → Type 0
Begun = Stands (new 0) (new 1) [] [] None

abbrev Asked : Standing → Type 0
Asked = Stands candidate (new 1) asked [] None

abbrev Promised : Standing → Type 0
Promised = Stands candidate (following [] []) promised [] None

abbrev Led : Standing → Type 0
Led = Stands (leading 0 (first_rows busy) [] [] None) (following [] []) (promised ++ []) [] None

begun : Book 2 busy Begun
begun = record {
  rows = [];
  legal = λ number row is. absurd cc;
  holds = record { first = refl; second = refl; runs = refl; runs_too = refl; posted_are = refl; held_are = refl; waits_is = refl };
}

campaign_turn : (standing : Standing) → Begun standing → Next 2 busy standing Asked
unfolding step campaign with_member sent_by packets_of calls_by
campaign_turn standing there =
    first_turn busy (new 0) (new 1) candidate [] [] None standing cause.Campaign None Campaign standing_up (sent 0 1 (packet.Prepare 8 0 ∷ []) ∷ [])
    refl refl tt (record { to = refl; spells = prepare_spells }, tt) refl refl there

promise_turn : (standing : Standing) → Asked standing → Next 2 busy standing Promised
unfolding step hear_all hear line on_prepare after_act after_delta votes_from messages_of sent_by packets_of calls_by
promise_turn standing there =
    second_turn busy candidate (new 1) (following [] []) asked [] None standing (cause.Hear 0) (Hear 0 (Prepare 8 0 ∷ [])) promising (sent 1 0 (packet.Promise 8 0 0 ∷ []) ∷ [])
    refl refl tt (record { to = refl; spells = promise_spells }, tt) refl
    (is_heard standing 1 0 [] _ _ there.posted_are refl refl (record { packets = packet.Prepare 8 0 ∷ []; spells = prepare_spells; heard = refl })) there

lead_turn : (standing : Standing) → Promised standing → Next 2 busy standing Led
unfolding step hear_all hear line on_promise after_act after_delta votes_from with_member messages_of sent_by packets_of calls_by
lead_turn standing there =
    first_turn busy candidate (following [] []) (leading 0 (first_rows busy) [] [] None) promised [] None standing (cause.Hear 1) None (Hear 1 (Promise 8 0 [] ∷ [])) taking_lead []
    refl refl tt tt refl
    (is_heard standing 0 1 asked _ _ there.posted_are refl refl (record { packets = packet.Promise 8 0 0 ∷ []; spells = promise_spells; heard = refl })) there

-- ---- launches

-- a book in which both have learned the entries of so many launches
pub record Settled (k : ℕ) : Type 0 where
  pub votes : List Vote
  pub entries : List Entry
  pub posted : List PostedLetter
  pub held : List SchedRow
  pub book : Book 2 busy (Stands (leading 0 (first_rows busy) votes entries None) (following votes entries) posted held None)
  pub long : 0 + length entries ≡ 2 * k
  pub below : AreBelow (2 * k) votes
  pub table : AppliesAll busy (first_rows busy) entries (with_table (idle k))
  pub before : AreBefore k held

settled_first : Settled 0
settled_first = record {
  votes = [];
  entries = [];
  posted = promised ++ [];
  held = [];
  book = go_on 2 busy Promised Led lead_turn (go_on 2 busy Asked Promised promise_turn (go_on 2 busy Begun Asked campaign_turn begun));
  long = refl;
  below = All-nil (λ (v : Vote). v.slot < 0);
  table = refl;
  before = λ m from. refl;
}

start_fits : (k : ℕ) → k < 33 → FitEntryFields (numbers_of (start_entry k))
start_fits k within = record { job = lit< tt; at = minute_fits k within; now = minute_fits k within }

end_fits : (k : ℕ) → k < 33 → FitEntryFields (numbers_of (end_entry k))
end_fits k within = record { job = lit< tt; at = minute_fits k within; now = grind arith }

call_turn : (k : ℕ) (votes : List Vote) (entries : List Entry) (other : State) (posted : List PostedLetter) (held : List SchedRow) (standing : Standing)
    → k < 33 → 0 + length entries ≡ 2 * k + 1 → AppliesAll busy (first_rows busy) entries (with_table (opened k)) → under (name k) held ≡ None
    → 2 * k + 1 < 0 + 64 → Stands (leading 0 (first_rows busy) votes entries None) other posted held None standing
    → Next 2 busy standing (Stands (leading 0 (first_rows busy) votes entries None) other (posted ++ []) (held_after (Some (answered_call k)) held) (Some (call_row k)))
unfolding after_act sent_by calls_by
call_turn k votes entries other posted held standing within long table none short there =
    first_turn busy (leading 0 (first_rows busy) votes entries None) other (leading 0 (first_rows busy) votes entries None) posted held None standing
    (cause.Tick (record { 0 = minute k })) (Some (answered_call k)) (Tick (minute k) plan) (Call (call_row k) ∷ []) []
    (call_acts 0 (2 * k + 1) (first_rows busy) (with_table (opened k)) votes entries (minute k) (minute k) long short) refl (table, call_asked k) tt
    (refl, refl, rw none refl) (in_window k within, plan, refl) there
  where
    plan : Plan
    plan = record { rows = with_table (opened k); intent = intent.Call 0 (minute k) Launch }

module _ (k : ℕ) (within : k < 32) (there : Settled k) where
  inside : k < 33
  inside = omega (arith, within)

  start_slot : 2 * k < 2 ^ 62
  start_slot = omega (arith, within)

  end_slot : 2 * k + 1 < 2 ^ 62
  end_slot = omega (arith, within)

  -- what both have once they have learned the start
  abbrev votes_then : List Vote
  votes_then = put_vote (vote (2 * k) (start_entry k)) there.votes

  abbrev entries_then : List Entry
  entries_then = there.entries ++ start_entry k ∷ []

  abbrev posted_then : List PostedLetter
  posted_then = told (2 * k) (start_entry k) there.posted ++ []

  long_then : 0 + length entries_then ≡ 2 * k + 1
  long_then = omega (arith, length_push there.entries (start_entry k), there.long)

  below_then : AreBelow (2 * k + 1) votes_then
  below_then = put_below (2 * k) (start_entry k) there.votes there.below

  table_then : AppliesAll busy (first_rows busy) entries_then (with_table (opened k))
  table_then = AppliesAll-push busy (first_rows busy) there.entries (start_entry k) (with_table (idle k)) (with_table (opened k)) there.table (start_applies k inside)

  abbrev held_then : List SchedRow
  held_then = held_after (Some (answered_call k)) there.held

  -- the start is proposed, at a tick
  start_turn : (standing : Standing) → Stands (leading 0 (first_rows busy) there.votes there.entries None) (following there.votes there.entries) there.posted there.held None standing
      → Next 2 busy standing (IsProposed (2 * k) (start_entry k) there.votes there.entries there.posted there.held)
  start_turn standing stands =
      propose_turn (cause.Tick (record { 0 = minute k })) (Tick (minute k) plan) 0 (2 * k) (start_entry k) (first_rows busy) there.votes there.entries _ there.posted there.held None standing
      (start_acts 0 (2 * k) (first_rows busy) (with_table (idle k)) there.votes there.entries (minute k) (minute k) there.long (omega (arith, within)))
      (there.table, start_asked k inside) start_slot (start_fits k inside) (in_window k inside, plan, refl) stands
    where
      plan : Plan
      plan = record { rows = with_table (idle k); intent = intent.Start 0 (minute k) }

  started_book : Book 2 busy (IsKnown (2 * k) (start_entry k) there.votes there.entries there.posted there.held)
  started_book =
      round (2 * k) (start_entry k) there.votes there.entries there.posted there.held start_slot (start_fits k inside) there.long there.below
      (go_on 2 busy (Stands (leading 0 (first_rows busy) there.votes there.entries None) (following there.votes there.entries) there.posted there.held None) _ start_turn there.book)

  called_book : Book 2 busy (Stands (leading 0 (first_rows busy) votes_then entries_then None) (following votes_then entries_then) (posted_then ++ []) held_then (Some (call_row k)))
  called_book =
      go_on 2 busy (IsKnown (2 * k) (start_entry k) there.votes there.entries there.posted there.held) _
      (λ standing. call_turn k votes_then entries_then (following votes_then entries_then) posted_then there.held standing inside long_then table_then (there.before k (omega arith)) (omega (arith, within)))
      started_book

  -- the end is proposed, at the answer
  end_turn : (standing : Standing) → Stands (leading 0 (first_rows busy) votes_then entries_then None) (following votes_then entries_then) (posted_then ++ []) held_then (Some (call_row k)) standing
      → Next 2 busy standing (IsProposed (2 * k + 1) (end_entry k) votes_then entries_then (posted_then ++ []) held_then)
  end_turn standing stands =
      propose_turn cause.Answer (Answer 0 (minute k) Launch (with_table (opened k))) 0 (2 * k + 1) (end_entry k) (first_rows busy) votes_then entries_then _ (posted_then ++ []) held_then (Some (call_row k)) standing
      (end_acts 0 (2 * k + 1) (first_rows busy) (with_table (opened k)) votes_then entries_then (minute k) long_then (is_open_then k))
      table_then end_slot (end_fits k inside) (record { row = call_row k; waits = stands.waits_is; plan = record { rows = with_table (opened k); intent = intent.Rest }; is = refl }) stands

  ended_book : Book 2 busy (IsKnown (2 * k + 1) (end_entry k) votes_then entries_then (posted_then ++ []) held_then)
  ended_book =
      round (2 * k + 1) (end_entry k) votes_then entries_then (posted_then ++ []) held_then end_slot (end_fits k inside) long_then below_then
      (go_on 2 busy (Stands (leading 0 (first_rows busy) votes_then entries_then None) (following votes_then entries_then) (posted_then ++ []) held_then (Some (call_row k))) _ end_turn called_book)

  settled_next : Settled (suc k)
  settled_next = record {
    votes = put_vote (vote (2 * k + 1) (end_entry k)) votes_then;
    entries = entries_then ++ end_entry k ∷ [];
    posted = told (2 * k + 1) (end_entry k) (posted_then ++ []) ++ [];
    held = held_then;
    book = ended_book;
    long = omega (arith, length_push entries_then (end_entry k), long_then);
    below = let more : 2 * k + 1 + 1 ≡ 2 * suc k = omega arith in subst (λ slot. AreBelow slot (put_vote (vote (2 * k + 1) (end_entry k)) votes_then)) more (put_below (2 * k + 1) (end_entry k) votes_then below_then);
    table = AppliesAll-push busy (first_rows busy) entries_then (end_entry k) (with_table (opened k)) (with_table (idle (suc k))) table_then (end_applies k);
    before = before_next k there.held there.before;
  }

pub settled : (k : ℕ) → k ≤ 32 → Settled k
settled zero within = settled_first
settled (suc k) within = settled_next k (omega (arith, within)) (settled k (omega (arith, within)))

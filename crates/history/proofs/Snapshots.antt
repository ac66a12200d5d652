-- A legal book in which one of two replicas puts its launch table in the place of 64 entries, and the other takes that table.
use Rattle.std.proofs.Common.{◌≡◌, ℕ, zero, suc, ◌+◌, ◌<◌, false, Option, Some, None, List, [], ◌∷◌, ◌++◌, length, take, refl, sym, ap, ◌∙◌, subst, arith, append-nil, lit<}
use Rattle.std.proofs.lemmas.List.{drop_all, length_push}
use Rattle.std.proofs.lemmas.List.Sums.{fold-append}
use Rattle.due_set.specs.Table.{IsSound, Table}
use Rattle.paxos_base.specs.Durable.{after_delta}
use Rattle.paxos_base.specs.EntryFields.{FitEntryFields, numbers_of}
use Rattle.paxos_base.specs.Members.{only_member, with_member}
use Rattle.paxos_base.specs.Rows.{fresh_row}
use Rattle.paxos_base.specs.Vote.{put_vote, votes_below, votes_from}
use Rattle.paxos_base.specs.declared.entry.Entry.{Entry}
use Rattle.paxos_base.specs.declared.entry.Vote.{Vote}
use Rattle.paxos_base.specs.declared.rows.JobRow.{JobRow}
use Rattle.paxos_letter.specs.Letters.{Spells}
use Rattle.paxos_letter.specs.Spelling.{spelling}
use Rattle.paxos_letter.specs.declared.packet.Packet.{Packet}
use Rattle.paxos_letter.specs.declared.packet.Packet.TheVariants as packet
use Rattle.term_core.specs.declared.term.Term.TheVariants.{Follower, Candidate}
use Rattle.cluster_sched.specs.declared.row.SchedRow.{SchedRow}
use Rattle.launch_machine.specs.Clerk.{first_rows, table_size}
use Rattle.launch_machine.specs.declared.machine.Intent.TheVariants as intent
use Rattle.step_spec.specs.Act.{Act, Observe, Stand, Pledge, Rebase, Send, after_act}
use Rattle.step_spec.specs.Folds.{after_acts, calls_by, sent_by}
use Rattle.step_spec.specs.Hear.{hear, hear_all, line, on_prepare, on_snap}
use Rattle.step_spec.specs.Heard.{messages_of, packets_of}
use Rattle.step_spec.specs.Letters.{IsHeardAs}
use Rattle.step_spec.specs.Message.{Mention, Prepare, Promise, Snap, Only, Others}
use Rattle.step_spec.specs.Propose.{campaign, tick}
use Rattle.step_spec.specs.State.{State, started}
use Rattle.step_spec.specs.Step.{Campaign, Tick, Hear, Plan, step}
use Rattle.agreement.specs.Transition.{identity_of}
use Rattle.history.specs.Book.{PostedLetter, Row, Standing, after_row, first_standing, standing_after}
use Rattle.history.specs.Legal.{MayFollow}
use Rattle.history.specs.Snapshots.{HasLearned, HasSnapshots, HasTable, posted_in, replica_after}
use Rattle.history.specs.declared.turn.Cause.TheVariants as cause
use Rattle.history.specs.declared.turn.Turn.{Turn}
use Rattle.history.specs.declared.turn.Turn.TheVariants.{Stopped, Restarted}
use Rattle.history.proofs.Asks.{busy, idle, in_window, minute, minute_fits, sound, start_asked, start_entry, with_table}
use Rattle.history.proofs.Launches.{Settled, settled}
use Rattle.history.proofs.Rounds.{AreBelow, accept_spells, flight, following, is_heard, leading, mail, none_from, proposing, sent, start_acts, vote}
use Rattle.history.proofs.Turns.{AllFollow, Stands, after_rows, did, first_did, legal_append, may_do, second_did}

-- the launch table after 32 launches, and the entry that it asks for then
abbrev table_rows : List JobRow
table_rows = with_table (idle 32)

abbrev next_entry : Entry
next_entry = start_entry 32

-- what the table asks for then
abbrev plan : Plan
plan = record { rows = table_rows; intent = intent.Start 0 (minute 32) }

-- ---- letters

abbrev snap_packets : List Packet
snap_packets = packet.Snap 64 2 ∷ packet.SnapRow 64 (idle 32) ∷ packet.SnapRow 64 (fresh_row 1) ∷ []

abbrev promise_packets : List Packet
promise_packets = packet.Promise 25 64 1 ∷ packet.OldVote 25 64 8 next_entry ∷ []

next_fits : FitEntryFields (numbers_of next_entry)
next_fits = record { job = lit< tt; at = minute_fits 32 (lit< tt); now = minute_fits 32 (lit< tt) }

first_spells : Spells 2 1 (packet.Prepare 17 0 ∷ []) (spelling 1 (packet.Prepare 17 0 ∷ []))
first_spells = record {
  letter = record { some = λ is. cc; kinds = (refl, tt); members_keep = (refl, tt); groups = refl };
  fits = (record { kind = lit< tt; from = lit< tt; tag = lit< tt; zero = lit< tt; job = lit< tt; ballot = lit< tt; slot = lit< tt; old = lit< tt; at = grind arith; moment = grind arith; last = grind arith }, tt);
  spelled = refl;
}

later_spells : Spells 2 1 (packet.Prepare 25 64 ∷ []) (spelling 1 (packet.Prepare 25 64 ∷ []))
later_spells = record {
  letter = record { some = λ is. cc; kinds = (refl, tt); members_keep = (refl, tt); groups = refl };
  fits = (record { kind = lit< tt; from = lit< tt; tag = lit< tt; zero = lit< tt; job = lit< tt; ballot = lit< tt; slot = lit< tt; old = lit< tt; at = grind arith; moment = grind arith; last = grind arith }, tt);
  spelled = refl;
}

snap_spells : Spells 2 0 snap_packets (spelling 0 snap_packets)
snap_spells = record {
  letter = record { some = λ is. cc; kinds = (refl, (refl, (refl, tt))); members_keep = (refl, (refl, (refl, tt))); groups = refl };
  fits = (
    record { kind = lit< tt; from = lit< tt; tag = lit< tt; zero = lit< tt; job = lit< tt; ballot = lit< tt; slot = lit< tt; old = lit< tt; at = grind arith; moment = grind arith; last = grind arith },
    (
      record { kind = lit< tt; from = lit< tt; tag = lit< tt; zero = lit< tt; job = lit< tt; ballot = lit< tt; slot = lit< tt; old = lit< tt; at = minute_fits 31 (lit< tt); moment = grind arith; last = minute_fits 31 (lit< tt) },
      (record { kind = lit< tt; from = lit< tt; tag = lit< tt; zero = lit< tt; job = lit< tt; ballot = lit< tt; slot = lit< tt; old = lit< tt; at = grind arith; moment = grind arith; last = grind arith }, tt),
    ),
  );
  spelled = refl;
}

promise_spells : Spells 2 0 promise_packets (spelling 0 promise_packets)
promise_spells = record {
  letter = record { some = λ is. cc; kinds = (refl, (refl, tt)); members_keep = (refl, (refl, tt)); groups = refl };
  fits = (
    record { kind = lit< tt; from = lit< tt; tag = lit< tt; zero = lit< tt; job = lit< tt; ballot = lit< tt; slot = lit< tt; old = lit< tt; at = grind arith; moment = grind arith; last = grind arith },
    (record { kind = lit< tt; from = lit< tt; tag = lit< tt; zero = lit< tt; job = lit< tt; ballot = lit< tt; slot = lit< tt; old = lit< tt; at = minute_fits 32 (lit< tt); moment = minute_fits 32 (lit< tt); last = grind arith }, tt),
  );
  spelled = refl;
}

snap_heard : IsHeardAs 2 (table_size busy) (spelling 0 snap_packets) 0 (Snap 64 table_rows ∷ [])
unfolding messages_of
snap_heard = record { packets = snap_packets; spells = snap_spells; heard = refl }

promise_heard : IsHeardAs 2 (table_size busy) (spelling 0 promise_packets) 0 (Promise 25 64 (vote 64 next_entry ∷ []) ∷ Mention 25 ∷ [])
unfolding messages_of
promise_heard = record { packets = promise_packets; spells = promise_spells; heard = refl }

-- ---- what the two have

-- the first with its table, once a ballot above its own has ended its term
abbrev ended : ℕ → State
ended seen =
    record {
      kept = record { tried = 1; promised = Some 8; votes = vote 64 next_entry ∷ []; base = 64; rows = table_rows };
      learned = [];
      term = Follower (Some 17);
      seen = seen;
    }

-- the second, which has lost what it had learned and stands for leader; and with the table
abbrev asking : List Vote → State
asking votes =
    record {
      kept = record { tried = 2; promised = Some 17; votes = votes; base = 0; rows = first_rows busy };
      learned = [];
      term = Candidate 17 0 (only_member 1) (votes_from 0 votes);
      seen = 8;
    }

abbrev copied : List Vote → State
copied votes =
    record {
      kept = record { tried = 2; promised = Some 17; votes = []; base = 64; rows = table_rows };
      learned = [];
      term = Candidate 17 0 (only_member 1) (votes_from 0 votes);
      seen = 8;
    }

abbrev putting : List Act
putting = Rebase 64 table_rows ∷ []

abbrev asking_acts : ℕ → ℕ → List Act
asking_acts ballot slot = Stand 1 ballot ∷ Send Others (Prepare ballot slot) ∷ []

abbrev copying : List Act
copying = Observe 17 ∷ Send (Only 1) (Snap 64 table_rows) ∷ []

abbrev taking : List Act
taking = Observe 0 ∷ Rebase 64 table_rows ∷ []

abbrev promising : List Act
promising = Observe 25 ∷ Pledge 25 ∷ Send (Only 1) (Promise 25 64 (vote 64 next_entry ∷ [])) ∷ []

put_acts : (votes : List Vote) (entries : List Entry) → 0 + length entries ≡ 64
    → step (identity_of 2 0) (Tick (minute 32) plan) (leading 0 (first_rows busy) votes entries None) ≡ putting
unfolding step tick
put_acts votes entries long = rw long refl

after_putting : (votes : List Vote) (entries : List Entry) → 0 + length entries ≡ 64 → AreBelow 64 votes
    → after_acts putting (leading 0 (first_rows busy) votes entries None) ≡ leading 64 table_rows [] [] None
unfolding after_act after_delta
after_putting votes entries long below = rw (none_from 64 votes below, drop_all 64 entries (omega (arith, long))) refl

after_next : after_acts (proposing 64 next_entry) (leading 64 table_rows [] [] None) ≡ leading 64 table_rows (vote 64 next_entry ∷ []) [] (Some (flight 64 next_entry))
unfolding after_act after_delta put_vote votes_below votes_from
after_next = refl

next_acts : step (identity_of 2 0) (Tick (minute 32) plan) (leading 64 table_rows [] [] None) ≡ proposing 64 next_entry
next_acts = start_acts 64 64 table_rows table_rows [] [] (minute 32) (minute 32) refl (lit< tt)

ask_acts : (votes : List Vote) → step (identity_of 2 1) Campaign (following votes []) ≡ asking_acts 17 0
unfolding step campaign with_member
ask_acts votes = refl

after_asking : (votes : List Vote) → after_acts (asking_acts 17 0) (following votes []) ≡ asking votes
unfolding after_act after_delta
after_asking votes = refl

copy_acts : step (identity_of 2 0) (Hear 1 (Prepare 17 0 ∷ [])) (leading 64 table_rows (vote 64 next_entry ∷ []) [] (Some (flight 64 next_entry))) ≡ copying
unfolding step hear_all hear line on_prepare after_act
copy_acts = refl

after_copying : after_acts copying (leading 64 table_rows (vote 64 next_entry ∷ []) [] (Some (flight 64 next_entry))) ≡ ended 17
unfolding after_act
after_copying = refl

take_acts : (votes : List Vote) → step (identity_of 2 1) (Hear 0 (Snap 64 table_rows ∷ [])) (asking votes) ≡ taking
unfolding step hear_all hear line on_snap after_act
take_acts votes = refl

after_taking : (votes : List Vote) → AreBelow 64 votes → after_acts taking (asking votes) ≡ copied votes
unfolding after_act after_delta
after_taking votes below = rw (none_from 64 votes below) refl

ask_again_acts : (votes : List Vote) → step (identity_of 2 1) Campaign (copied votes) ≡ asking_acts 25 64
unfolding step campaign with_member
ask_again_acts votes = refl

promise_acts : step (identity_of 2 0) (Hear 1 (Prepare 25 64 ∷ [])) (ended 17) ≡ promising
unfolding step hear_all hear line on_prepare votes_from after_act
promise_acts = refl

-- ---- the last turns

-- a stop between two steps, and a start
abbrev quiet : Turn → Row
quiet turn = record { turn = turn; event = Campaign; letters = []; votes = []; learnt = [] }

restarted : (one other : State) (posted : List PostedLetter) (held : List SchedRow) (waits : Option SchedRow) (standing : Standing) → Stands one other posted held waits standing
    → Stands one (started 1 other.kept) posted held waits (after_row 2 (after_row 2 standing (Stopped 1 None false) Campaign []) (Restarted 1) Campaign [])
unfolding after_row
restarted one other posted held waits standing there = record {
  first = there.first;
  second = ap (λ (s : State). started 1 s.kept) there.second;
  runs = there.runs;
  runs_too = refl;
  posted_are = there.posted_are;
  held_are = there.held_are;
  waits_is = there.waits_is;
}

may_stop : (one other : State) (posted : List PostedLetter) (held : List SchedRow) (waits : Option SchedRow) (standing : Standing) → Stands one other posted held waits standing
    → MayFollow 2 busy standing (Stopped 1 None false) (quiet (Stopped 1 None false))
may_stop one other posted held waits standing there = (lit< tt, there.runs_too, refl, record { letters = refl; votes = refl; learnt = refl })

may_start : (standing : Standing) → MayFollow 2 busy (after_row 2 standing (Stopped 1 None false) Campaign []) (Restarted 1) (quiet (Restarted 1))
unfolding after_row
may_start standing = (lit< tt, refl, record { letters = refl; votes = refl; learnt = refl })

module _ (there : Settled 32) where
  abbrev front : List Row
  front = there.book.rows

  abbrev posted : ℕ
  posted = posted_in busy front

  abbrev r0 : Row
  r0 = did 0 (cause.Tick (record { 0 = minute 32 })) None (Tick (minute 32) plan) putting []

  abbrev r1 : Row
  r1 = did 0 (cause.Tick (record { 0 = minute 32 })) None (Tick (minute 32) plan) (proposing 64 next_entry) (sent 0 1 (packet.Accept 8 64 next_entry ∷ []) ∷ [])

  abbrev r2 : Row
  r2 = quiet (Stopped 1 None false)

  abbrev r3 : Row
  r3 = quiet (Restarted 1)

  abbrev r4 : Row
  r4 = did 1 cause.Campaign None Campaign (asking_acts 17 0) (sent 1 0 (packet.Prepare 17 0 ∷ []) ∷ [])

  abbrev r5 : Row
  r5 = did 0 (cause.Hear (posted + 1)) None (Hear 1 (Prepare 17 0 ∷ [])) copying (sent 0 1 snap_packets ∷ [])

  abbrev r6 : Row
  r6 = did 1 (cause.Hear (posted + 2)) None (Hear 0 (Snap 64 table_rows ∷ [])) taking []

  abbrev r7 : Row
  r7 = did 1 cause.Campaign None Campaign (asking_acts 25 64) (sent 1 0 (packet.Prepare 25 64 ∷ []) ∷ [])

  abbrev r8 : Row
  r8 = did 0 (cause.Hear (posted + 3)) None (Hear 1 (Prepare 25 64 ∷ [])) promising (sent 0 1 promise_packets ∷ [])

  abbrev back : List Row
  back = r0 ∷ r1 ∷ r2 ∷ r3 ∷ r4 ∷ r5 ∷ r6 ∷ r7 ∷ r8 ∷ []

  -- what stands after the front and so many turns more
  abbrev standing : ℕ → Standing
  standing count = after_rows 2 (standing_after 2 (first_rows busy) front) (take count back)

  -- the letters, after each turn that posts one
  abbrev mail1 : List PostedLetter
  mail1 = (there.posted ++ []) ++ mail 0 1 (packet.Accept 8 64 next_entry ∷ []) ∷ []

  abbrev mail2 : List PostedLetter
  mail2 = mail1 ++ mail 1 0 (packet.Prepare 17 0 ∷ []) ∷ []

  abbrev mail3 : List PostedLetter
  mail3 = mail2 ++ mail 0 1 snap_packets ∷ []

  abbrev mail4 : List PostedLetter
  mail4 = (mail3 ++ []) ++ mail 1 0 (packet.Prepare 25 64 ∷ []) ∷ []

  -- what stands before each turn
  t0 : Stands (leading 0 (first_rows busy) there.votes there.entries None) (following there.votes there.entries) there.posted there.held None (standing 0)
  t0 = there.book.holds

  t1 : Stands (leading 64 table_rows [] [] None) (following there.votes there.entries) (there.posted ++ []) there.held None (standing 1)
  t1 =
      first_did _ _ _ _ _ _ (standing 0) (cause.Tick (record { 0 = minute 32 })) None (Tick (minute 32) plan) putting [] t0
      (put_acts there.votes there.entries there.long) (after_putting there.votes there.entries there.long there.below)

  t2 : Stands (leading 64 table_rows (vote 64 next_entry ∷ []) [] (Some (flight 64 next_entry))) (following there.votes there.entries) mail1 there.held None (standing 2)
  t2 =
      first_did _ _ _ _ _ _ (standing 1) (cause.Tick (record { 0 = minute 32 })) None (Tick (minute 32) plan) (proposing 64 next_entry) (sent 0 1 (packet.Accept 8 64 next_entry ∷ []) ∷ []) t1
      next_acts after_next

  t4 : Stands (leading 64 table_rows (vote 64 next_entry ∷ []) [] (Some (flight 64 next_entry))) (following there.votes []) mail1 there.held None (standing 4)
  t4 = restarted _ _ _ _ _ (standing 2) t2

  t5 : Stands (leading 64 table_rows (vote 64 next_entry ∷ []) [] (Some (flight 64 next_entry))) (asking there.votes) mail2 there.held None (standing 5)
  t5 = second_did _ _ _ _ _ _ (standing 4) cause.Campaign Campaign (asking_acts 17 0) (sent 1 0 (packet.Prepare 17 0 ∷ []) ∷ []) t4 (ask_acts there.votes) (after_asking there.votes)

  t6 : Stands (ended 17) (asking there.votes) mail3 there.held None (standing 6)
  t6 = first_did _ _ _ _ _ _ (standing 5) (cause.Hear (posted + 1)) None (Hear 1 (Prepare 17 0 ∷ [])) copying (sent 0 1 snap_packets ∷ []) t5 copy_acts after_copying

  t7 : Stands (ended 17) (copied there.votes) (mail3 ++ []) there.held None (standing 7)
  t7 = second_did _ _ _ _ _ _ (standing 6) (cause.Hear (posted + 2)) (Hear 0 (Snap 64 table_rows ∷ [])) taking [] t6 (take_acts there.votes) (after_taking there.votes there.below)

  t8 : Stands (ended 17) (after_acts (asking_acts 25 64) (copied there.votes)) mail4 there.held None (standing 8)
  t8 = second_did _ _ _ _ _ _ (standing 7) cause.Campaign Campaign (asking_acts 25 64) (sent 1 0 (packet.Prepare 25 64 ∷ []) ∷ []) t7 (ask_again_acts there.votes) refl

  -- the numbers of the letters that are heard
  count0 : length (there.posted ++ []) ≡ posted
  count0 = ap length (append-nil there.posted) ∙ sym (ap length t0.posted_are)

  count1 : posted + 1 ≡ length mail1
  count1 = omega (arith, count0, length_push (there.posted ++ []) (mail 0 1 (packet.Accept 8 64 next_entry ∷ [])))

  count2 : posted + 2 ≡ length mail2
  count2 = omega (arith, count1, length_push mail1 (mail 1 0 (packet.Prepare 17 0 ∷ [])))

  count3 : posted + 3 ≡ length (mail3 ++ [])
  count3 = omega (arith, count2, length_push mail2 (mail 0 1 snap_packets), ap length (append-nil mail3))

  -- each turn may follow
  may0 : MayFollow 2 busy (standing 0) r0.turn r0
  unfolding sent_by calls_by
  may0 =
      may_do busy (standing 0) 0 (cause.Tick (record { 0 = minute 32 })) None (Tick (minute 32) plan) putting [] _ (lit< tt) t0.runs t0.first
      (put_acts there.votes there.entries there.long) (in_window 32 (lit< tt), plan, refl) (there.table, start_asked 32 (lit< tt)) tt refl

  may1 : MayFollow 2 busy (standing 1) r1.turn r1
  unfolding sent_by calls_by packets_of
  may1 =
      may_do busy (standing 1) 0 (cause.Tick (record { 0 = minute 32 })) None (Tick (minute 32) plan) (proposing 64 next_entry) (sent 0 1 (packet.Accept 8 64 next_entry ∷ []) ∷ []) _ (lit< tt) t1.runs t1.first
      next_acts (in_window 32 (lit< tt), plan, refl) (refl, start_asked 32 (lit< tt)) (record { to = refl; spells = accept_spells 64 next_entry (lit< tt) next_fits }, tt) refl

  may4 : MayFollow 2 busy (standing 4) r4.turn r4
  unfolding sent_by calls_by packets_of
  may4 =
      may_do busy (standing 4) 1 cause.Campaign None Campaign (asking_acts 17 0) (sent 1 0 (packet.Prepare 17 0 ∷ []) ∷ []) _ (lit< tt) t4.runs_too t4.second
      (ask_acts there.votes) refl tt (record { to = refl; spells = first_spells }, tt) refl

  may5 : MayFollow 2 busy (standing 5) r5.turn r5
  unfolding sent_by calls_by packets_of messages_of
  may5 =
      may_do busy (standing 5) 0 (cause.Hear (posted + 1)) None (Hear 1 (Prepare 17 0 ∷ [])) copying (sent 0 1 snap_packets ∷ []) _ (lit< tt) t5.runs t5.first copy_acts
      (is_heard (standing 5) 0 (posted + 1) mail1 _ _ t5.posted_are count1 refl (record { packets = packet.Prepare 17 0 ∷ []; spells = first_spells; heard = refl }))
      tt (record { to = refl; spells = snap_spells }, tt) refl

  may6 : MayFollow 2 busy (standing 6) r6.turn r6
  unfolding sent_by calls_by
  may6 =
      may_do busy (standing 6) 1 (cause.Hear (posted + 2)) None (Hear 0 (Snap 64 table_rows ∷ [])) taking [] _ (lit< tt) t6.runs_too t6.second (take_acts there.votes)
      (is_heard (standing 6) 1 (posted + 2) mail2 _ _ t6.posted_are count2 refl snap_heard) tt tt refl

  may7 : MayFollow 2 busy (standing 7) r7.turn r7
  unfolding sent_by calls_by packets_of
  may7 =
      may_do busy (standing 7) 1 cause.Campaign None Campaign (asking_acts 25 64) (sent 1 0 (packet.Prepare 25 64 ∷ []) ∷ []) _ (lit< tt) t7.runs_too t7.second
      (ask_again_acts there.votes) refl tt (record { to = refl; spells = later_spells }, tt) refl

  may8 : MayFollow 2 busy (standing 8) r8.turn r8
  unfolding sent_by calls_by packets_of messages_of
  may8 =
      may_do busy (standing 8) 0 (cause.Hear (posted + 3)) None (Hear 1 (Prepare 25 64 ∷ [])) promising (sent 0 1 promise_packets ∷ []) _ (lit< tt) t8.runs t8.first promise_acts
      (is_heard (standing 8) 0 (posted + 3) (mail3 ++ []) _ _ t8.posted_are count3 refl (record { packets = packet.Prepare 25 64 ∷ []; spells = later_spells; heard = refl }))
      tt (record { to = refl; spells = promise_spells }, tt) refl

  all_follow : AllFollow 2 busy (standing 0) back
  all_follow = (may0, (may1, (may_stop _ _ _ _ _ (standing 2) t2, (may_start (standing 2), (may4, (may5, (may6, (may7, (may8, tt)))))))))

  -- what a replica has after so many of these turns
  after_turns : (count : ℕ) → standing_after 2 (first_rows busy) (front ++ take count back) ≡ standing count
  after_turns count = fold-append (λ st row. after_row 2 st row.turn row.event row.letters) (first_standing 2 (first_rows busy)) front (take count back)

  has_table : (count who base : ℕ) (rows : List JobRow) (known : State) → (standing count).replicas who ≡ known → HasTable known base rows → HasTable (replica_after busy (front ++ take count back) who) base rows
  has_table count who base rows known is has = subst (λ state. HasTable state base rows) (sym (ap (λ st. st.replicas who) (after_turns count) ∙ is)) has

  votes_are : (vote 64 next_entry ∷ []) ≡ votes_from 64 (replica_after busy (front ++ take 8 back) 0).kept.votes
  unfolding votes_from
  votes_are = sym (ap (λ st. votes_from 64 (st.replicas 0).kept.votes) (after_turns 8) ∙ ap (λ state. votes_from 64 state.kept.votes) t8.first)

  both_learned : (who : ℕ) → who < 2 → HasLearned busy (replica_after busy front who) 64 table_rows
  both_learned zero within = subst (λ state. HasLearned busy state 64 table_rows) (sym t0.first) (record { base_is = refl; prefix_is = there.long; rows_are = there.table })
  both_learned (suc zero) within = subst (λ state. HasLearned busy state 64 table_rows) (sym t0.second) (record { base_is = refl; prefix_is = there.long; rows_are = there.table })
  both_learned (suc (suc who)) within = absurd (omega (arith, within))

  pub has_snapshots : HasSnapshots busy front back
  has_snapshots = record {
    legal = legal_append 2 busy front back there.book.legal all_follow;
    now = minute 32;
    turns = refl;
    base = 64;
    far = omega arith;
    rows = table_rows;
    learned = both_learned;
    put = has_table 1 0 64 table_rows _ t1.first (record { base_is = refl; rows_are = refl; learned = refl });
    lost = has_table 5 1 0 (first_rows busy) _ t5.second (record { base_is = refl; rows_are = refl; learned = refl });
    ballot = 17;
    copied = record { hears = record { row = r5; there = refl; is = refl }; letter = sent 0 1 snap_packets; sent = refl; to = refl; says = snap_heard };
    heard = record { row = r6; there = refl; is = refl };
    taken = has_table 7 1 64 table_rows _ t7.second (record { base_is = refl; rows_are = refl; learned = refl });
    kept = has_table 8 0 64 table_rows _ t8.first (record { base_is = refl; rows_are = refl; learned = refl });
    later = 25;
    votes = vote 64 next_entry ∷ [];
    votes_are = votes_are;
    some = lit< tt;
    promised = record { hears = record { row = r8; there = refl; is = refl }; letter = sent 0 1 promise_packets; sent = refl; to = refl; says = promise_heard };
  }

pub a_book : (table : Table) × (front : List Row) × (back : List Row) × IsSound table × HasSnapshots table front back
a_book = let there = settled 32 (omega arith) in (busy, there.book.rows, back there, sound, has_snapshots there)

-- How two replicas learn an entry: the first, which leads, proposes it; the second votes; the first learns it, and then the second.
use Rattle.std.proofs.Common.{◌≡◌, ℕ, ◌+◌, ◌<◌, ◌≤◌, ◌^◌, ℤ, true, Option, Some, None, List, [], ◌∷◌, ◌++◌, length, All, refl, arith, lit<}
use Rattle.std.specs.List.{slice_get}
use Rattle.std.proofs.lemmas.Bool.{eq-eqb, le-leb, le-ltb, lt-leb, lt-ltb, ne_eqb}
use Rattle.std.proofs.lemmas.List.Elements.{All-append, All-cons, All-filter, All-head, All-tail, All-weaker}
use Rattle.paxos_base.specs.Durable.{after_delta}
use Rattle.paxos_base.specs.EntryFields.{FitEntryFields, numbers_of}
use Rattle.paxos_base.specs.Members.{with_member}
use Rattle.paxos_base.specs.Vote.{put_vote, vote_at, votes_below, votes_from}
use Rattle.paxos_base.specs.declared.entry.Entry.{Entry}
use Rattle.paxos_base.specs.declared.entry.Entry.TheVariants as entry
use Rattle.paxos_base.specs.declared.entry.Kind.TheVariants.{Launch, Void}
use Rattle.paxos_base.specs.declared.entry.Vote.{Vote}
use Rattle.paxos_base.specs.declared.rows.JobRow.{JobRow}
use Rattle.paxos_letter.specs.Letters.{Spells}
use Rattle.paxos_letter.specs.Spelling.{spelling}
use Rattle.paxos_letter.specs.declared.packet.Packet.{Packet}
use Rattle.paxos_letter.specs.declared.packet.Packet.TheVariants as packet
use Rattle.term_core.specs.Term.{new_flight}
use Rattle.term_core.specs.declared.flight.Flight.{Flight}
use Rattle.term_core.specs.declared.term.Term.TheVariants.{Follower, Leader}
use Rattle.cluster_sched.specs.declared.row.SchedRow.{SchedRow}
use Rattle.launch_machine.specs.Clerk.{first_rows, table_size}
use Rattle.launch_machine.specs.declared.machine.Intent.TheVariants as intent
use Rattle.step_spec.specs.Act.{Act, Observe, Cast, Count, Learn, Call, Propose, Send, after_act}
use Rattle.step_spec.specs.Folds.{after_acts, calls_by, sent_by}
use Rattle.step_spec.specs.Hear.{hear, hear_all, line, on_accept, on_accepted, on_known}
use Rattle.step_spec.specs.Heard.{messages_of, packets_of}
use Rattle.step_spec.specs.Letters.{IsHeardAs}
use Rattle.step_spec.specs.Message.{Message, Accept, Accepted, Known, Only, Others}
use Rattle.step_spec.specs.Propose.{answer, is_open, propose, tick}
use Rattle.step_spec.specs.State.{State}
use Rattle.step_spec.specs.Step.{Event, Tick, Hear, Answer, IsPlanned, step}
use Rattle.step_spec.specs.declared.out.OutLetter.{OutLetter}
use Rattle.agreement.specs.Transition.{identity_of}
use Rattle.history.specs.Book.{PostedLetter, Standing}
use Rattle.history.specs.Legal.{IsEventOfCause, IsHeard}
use Rattle.history.specs.declared.turn.Cause.{Cause}
use Rattle.history.specs.declared.turn.Cause.TheVariants as cause
use Rattle.history.proofs.Asks.{busy}
use Rattle.history.proofs.Turns.{Book, Next, Stands, first_turn, go_on, second_turn}

-- ---- what the two have

-- the leader of ballot 8, which no vote binds
abbrev pub leading : ℕ → List JobRow → List Vote → List Entry → Option Flight → State
leading base rows votes entries flight =
    record { kept = record { tried = 1; promised = Some 8; votes = votes; base = base; rows = rows }; learned = entries; term = Leader 8 [] flight; seen = 8 }

-- the other one, which has promised that ballot
abbrev pub following : List Vote → List Entry → State
following votes entries =
    record { kept = record { tried = 0; promised = Some 8; votes = votes; base = 0; rows = first_rows busy }; learned = entries; term = Follower None; seen = 8 }

abbrev pub vote : ℕ → Entry → Vote
vote slot e = record { slot = slot; ballot = 8; entry = e }

abbrev pub flight : ℕ → Entry → Flight
flight slot e = new_flight slot e 0

-- ---- votes below a slot

abbrev pub AreBelow : ℕ → List Vote → Type 0
AreBelow slot votes = All (λ (v : Vote). v.slot < slot) votes

pub none_at : (slot : ℕ) (votes : List Vote) → AreBelow slot votes → vote_at slot votes ≡ None
unfolding vote_at
none_at slot [] below = refl
none_at slot (v ∷ votes) below =
    let first : v.slot < slot = All-head (λ (w : Vote). w.slot < slot) v votes below in
    rw (ne_eqb v.slot slot (λ same. omega (arith, first, same))) (none_at slot votes (All-tail (λ (w : Vote). w.slot < slot) v votes below))

pub none_from : (slot : ℕ) (votes : List Vote) → AreBelow slot votes → votes_from slot votes ≡ []
unfolding votes_from
none_from slot [] below = refl
none_from slot (v ∷ votes) below =
    rw (lt-leb slot v.slot (All-head (λ (w : Vote). w.slot < slot) v votes below)) (none_from slot votes (All-tail (λ (w : Vote). w.slot < slot) v votes below))

pub put_below : (slot : ℕ) (e : Entry) (votes : List Vote) → AreBelow slot votes → AreBelow (slot + 1) (put_vote (vote slot e) votes)
unfolding put_vote votes_below votes_from
put_below slot e votes below =
    let still : AreBelow (slot + 1) votes = All-weaker (λ (v : Vote). v.slot < slot) (λ (v : Vote). v.slot < slot + 1) (λ v less. omega (arith, less)) votes below in
    All-append (λ (v : Vote). v.slot < slot + 1) _ _ (All-filter _ (λ (v : Vote). v.slot < slot + 1) votes still)
    (All-cons (λ (v : Vote). v.slot < slot + 1) (vote slot e) _ (omega arith) (All-filter _ (λ (v : Vote). v.slot < slot + 1) votes still))

-- ---- what they do

abbrev pub proposing : ℕ → Entry → List Act
proposing slot e = Propose 0 (vote slot e) ∷ Send Others (Accept (vote slot e)) ∷ []

abbrev voting : ℕ → Entry → List Act
voting slot e = Observe 8 ∷ Cast (vote slot e) ∷ Send (Only 0) (Accepted 8 slot) ∷ []

abbrev counting : ℕ → Entry → List Act
counting slot e = Observe 8 ∷ Count 1 ∷ Learn slot e ∷ Send Others (Known slot e) ∷ []

abbrev learning : ℕ → Entry → List Act
learning slot e = Observe 0 ∷ Learn slot e ∷ []

pub start_acts : (base slot : ℕ) (rows asked : List JobRow) (votes : List Vote) (entries : List Entry) (at now : ℤ) → base + length entries ≡ slot → slot < base + 64
    → step (identity_of 2 0) (Tick now (record { rows = asked; intent = intent.Start 0 at })) (leading base rows votes entries None) ≡ proposing slot (entry.Start 0 at now)
unfolding step tick propose votes_from vote_at with_member
start_acts base slot rows asked votes entries at now long short = rw (long, lt-leb (base + 64) slot short) refl

pub call_acts : (base slot : ℕ) (rows asked : List JobRow) (votes : List Vote) (entries : List Entry) (at now : ℤ) → base + length entries ≡ slot → slot < base + 64
    → step (identity_of 2 0) (Tick now (record { rows = asked; intent = intent.Call 0 at Launch })) (leading base rows votes entries None)
    ≡ Call (record { name = record { job = 0; at = at }; kind = Launch; now = record { 0 = now }; by = 0 }) ∷ []
unfolding step tick votes_from
call_acts base slot rows asked votes entries at now long short = rw (long, lt-leb (base + 64) slot short) refl

pub end_acts : (base slot : ℕ) (rows asked : List JobRow) (votes : List Vote) (entries : List Entry) (at : ℤ) → base + length entries ≡ slot → is_open 0 at asked ≡ true
    → step (identity_of 2 0) (Answer 0 at Launch asked) (leading base rows votes entries None) ≡ proposing slot (entry.End 0 at Launch)
unfolding step answer propose votes_from vote_at with_member
end_acts base slot rows asked votes entries at long open_there = rw (long, open_there) refl

vote_acts : (slot : ℕ) (e : Entry) (votes : List Vote) (entries : List Entry) → 0 + length entries ≡ slot → vote_at slot votes ≡ None
    → step (identity_of 2 1) (Hear 0 (Accept (vote slot e) ∷ [])) (following votes entries) ≡ voting slot e
unfolding step hear_all hear line on_accept after_act
vote_acts slot e votes entries long none = rw (long, none, le-ltb slot 0 (omega arith), le-ltb slot slot (omega arith)) refl

count_acts : (base slot : ℕ) (e : Entry) (rows : List JobRow) (votes : List Vote) (entries : List Entry)
    → step (identity_of 2 0) (Hear 1 (Accepted 8 slot ∷ [])) (leading base rows votes entries (Some (flight slot e))) ≡ counting slot e
unfolding step hear_all hear line on_accepted after_act with_member
count_acts base slot e rows votes entries = rw (eq-eqb slot slot refl) refl

learn_acts : (slot : ℕ) (e : Entry) (votes : List Vote) (entries : List Entry) → 0 + length entries ≡ slot
    → step (identity_of 2 1) (Hear 0 (Known slot e ∷ [])) (following votes entries) ≡ learning slot e
unfolding step hear_all hear line on_known after_act
learn_acts slot e votes entries long = rw (long, eq-eqb slot slot refl) refl

-- ---- what they have then

pub after_proposing : (base slot : ℕ) (e : Entry) (rows : List JobRow) (votes : List Vote) (entries : List Entry)
    → after_acts (proposing slot e) (leading base rows votes entries None) ≡ leading base rows (put_vote (vote slot e) votes) entries (Some (flight slot e))
unfolding after_act after_delta
after_proposing base slot e rows votes entries = refl

after_voting : (slot : ℕ) (e : Entry) (votes : List Vote) (entries : List Entry) → after_acts (voting slot e) (following votes entries) ≡ following (put_vote (vote slot e) votes) entries
unfolding after_act after_delta
after_voting slot e votes entries = refl

after_counting : (base slot : ℕ) (e : Entry) (rows : List JobRow) (votes : List Vote) (entries : List Entry) → base + length entries ≡ slot
    → after_acts (counting slot e) (leading base rows votes entries (Some (flight slot e))) ≡ leading base rows votes (entries ++ e ∷ []) None
unfolding after_act
after_counting base slot e rows votes entries long = rw (long, lt-ltb slot (slot + 1) (omega arith)) refl

after_learning : (slot : ℕ) (e : Entry) (votes : List Vote) (entries : List Entry) → after_acts (learning slot e) (following votes entries) ≡ following votes (entries ++ e ∷ [])
unfolding after_act
after_learning slot e votes entries = refl

-- ---- letters

abbrev pub sent : ℕ → ℕ → List Packet → OutLetter
sent from to packets = record { to = to; bytes = spelling from packets }

abbrev pub mail : ℕ → ℕ → List Packet → PostedLetter
mail from to packets = record { from = from; to = to; bytes = spelling from packets }

small_tag : (e : Entry) → (numbers_of e).tag ≤ 4
small_tag entry.Noop = omega arith
small_tag (entry.Table version now) = omega arith
small_tag (entry.Start job at now) = omega arith
small_tag (entry.End job at Launch) = omega arith
small_tag (entry.End job at Void) = omega arith

pub accept_spells : (slot : ℕ) (e : Entry) → slot < 2 ^ 62 → FitEntryFields (numbers_of e) → Spells 2 0 (packet.Accept 8 slot e ∷ []) (spelling 0 (packet.Accept 8 slot e ∷ []))
accept_spells slot e small fits = record {
  letter = record { some = λ is. cc; kinds = (rw (le-leb (numbers_of e).tag 4 (small_tag e)) refl, tt); members_keep = (refl, tt); groups = refl };
  fits = (record { kind = lit< tt; from = lit< tt; tag = omega (arith, small_tag e); zero = lit< tt; job = fits.job; ballot = lit< tt; slot = omega (arith, small); old = lit< tt; at = fits.at; moment = fits.now; last = grind arith }, tt);
  spelled = refl;
}

accepted_spells : (slot : ℕ) → slot < 2 ^ 62 → Spells 2 1 (packet.Accepted 8 slot ∷ []) (spelling 1 (packet.Accepted 8 slot ∷ []))
accepted_spells slot small = record {
  letter = record { some = λ is. cc; kinds = (refl, tt); members_keep = (refl, tt); groups = refl };
  fits = (record { kind = lit< tt; from = lit< tt; tag = lit< tt; zero = lit< tt; job = lit< tt; ballot = lit< tt; slot = omega (arith, small); old = lit< tt; at = grind arith; moment = grind arith; last = grind arith }, tt);
  spelled = refl;
}

known_spells : (slot : ℕ) (e : Entry) → slot < 2 ^ 62 → FitEntryFields (numbers_of e) → Spells 2 0 (packet.Known slot e ∷ []) (spelling 0 (packet.Known slot e ∷ []))
known_spells slot e small fits = record {
  letter = record { some = λ is. cc; kinds = (rw (le-leb (numbers_of e).tag 4 (small_tag e)) refl, tt); members_keep = (refl, tt); groups = refl };
  fits = (record { kind = lit< tt; from = lit< tt; tag = omega (arith, small_tag e); zero = lit< tt; job = fits.job; ballot = lit< tt; slot = omega (arith, small); old = lit< tt; at = fits.at; moment = fits.now; last = grind arith }, tt);
  spelled = refl;
}

accept_heard : (slot : ℕ) (e : Entry) → slot < 2 ^ 62 → FitEntryFields (numbers_of e) → IsHeardAs 2 (table_size busy) (spelling 0 (packet.Accept 8 slot e ∷ [])) 0 (Accept (vote slot e) ∷ [])
unfolding messages_of
accept_heard slot e small fits = record { packets = packet.Accept 8 slot e ∷ []; spells = accept_spells slot e small fits; heard = rw (lt-ltb slot (2 ^ 62) small) refl }

accepted_heard : (slot : ℕ) → slot < 2 ^ 62 → IsHeardAs 2 (table_size busy) (spelling 1 (packet.Accepted 8 slot ∷ [])) 1 (Accepted 8 slot ∷ [])
unfolding messages_of
accepted_heard slot small = record { packets = packet.Accepted 8 slot ∷ []; spells = accepted_spells slot small; heard = rw (lt-ltb slot (2 ^ 62) small) refl }

known_heard : (slot : ℕ) (e : Entry) → slot < 2 ^ 62 → FitEntryFields (numbers_of e) → IsHeardAs 2 (table_size busy) (spelling 0 (packet.Known slot e ∷ [])) 0 (Known slot e ∷ [])
unfolding messages_of
known_heard slot e small fits = record { packets = packet.Known slot e ∷ []; spells = known_spells slot e small fits; heard = rw (lt-ltb slot (2 ^ 62) small) refl }

pub last_there : {X : Type 0} (xs : List X) (x : X) → slice_get (xs ++ x ∷ []) (length xs) ≡ Some x
last_there [] x = refl
last_there (y ∷ xs) x = last_there xs x

-- the last letter is heard by its addressee
pub is_heard : (standing : Standing) (who number : ℕ) (front : List PostedLetter) (letter : PostedLetter) (messages : List Message) → standing.posted ≡ front ++ letter ∷ []
    → number ≡ length front → letter.to ≡ who → IsHeardAs 2 (table_size busy) letter.bytes letter.from messages → IsHeard 2 (table_size busy) standing who number (Hear letter.from messages)
is_heard standing who number front letter messages posted at to heard = record {
  letter = letter;
  there = rw (posted, at) (last_there front letter);
  to = to;
  messages = messages;
  heard = heard;
  is = refl;
}

-- ---- turns

pub propose_turn : (of : Cause) (event : Event) (base slot : ℕ) (e : Entry) (rows : List JobRow) (votes : List Vote) (entries : List Entry) (other : State) (posted : List PostedLetter) (held : List SchedRow) (waits : Option SchedRow) (standing : Standing)
    → step (identity_of 2 0) event (leading base rows votes entries None) ≡ proposing slot e → IsPlanned busy (leading base rows votes entries None) event
    → slot < 2 ^ 62 → FitEntryFields (numbers_of e) → IsEventOfCause 2 busy standing 0 of event → Stands (leading base rows votes entries None) other posted held waits standing
    → Next 2 busy standing (Stands (leading base rows (put_vote (vote slot e) votes) entries (Some (flight slot e))) other (posted ++ mail 0 1 (packet.Accept 8 slot e ∷ []) ∷ []) held None)
unfolding sent_by packets_of calls_by
propose_turn of event base slot e rows votes entries other posted held waits standing acts planned small fits of_cause there =
    first_turn busy (leading base rows votes entries None) other _ posted held waits standing of None event (proposing slot e) (sent 0 1 (packet.Accept 8 slot e ∷ []) ∷ [])
    acts (after_proposing base slot e rows votes entries) planned (record { to = refl; spells = accept_spells slot e small fits }, tt) refl of_cause there

-- the letters with that of a proposal, with the vote's, and with that of what was learned
abbrev asked : ℕ → Entry → List PostedLetter → List PostedLetter
asked slot e front = front ++ mail 0 1 (packet.Accept 8 slot e ∷ []) ∷ []

abbrev voted : ℕ → Entry → List PostedLetter → List PostedLetter
voted slot e front = asked slot e front ++ mail 1 0 (packet.Accepted 8 slot ∷ []) ∷ []

abbrev pub told : ℕ → Entry → List PostedLetter → List PostedLetter
told slot e front = voted slot e front ++ mail 0 1 (packet.Known slot e ∷ []) ∷ []

-- the entry is proposed at the slot
abbrev pub IsProposed : ℕ → Entry → List Vote → List Entry → List PostedLetter → List SchedRow → Standing → Type 0
IsProposed slot e votes entries front held =
    Stands (leading 0 (first_rows busy) (put_vote (vote slot e) votes) entries (Some (flight slot e))) (following votes entries) (asked slot e front) held None

-- both have voted for it
abbrev IsVoted : ℕ → Entry → List Vote → List Entry → List PostedLetter → List SchedRow → Standing → Type 0
IsVoted slot e votes entries front held =
    Stands (leading 0 (first_rows busy) (put_vote (vote slot e) votes) entries (Some (flight slot e))) (following (put_vote (vote slot e) votes) entries) (voted slot e front) held None

-- the leader has learned it
abbrev IsLearned : ℕ → Entry → List Vote → List Entry → List PostedLetter → List SchedRow → Standing → Type 0
IsLearned slot e votes entries front held =
    Stands (leading 0 (first_rows busy) (put_vote (vote slot e) votes) (entries ++ e ∷ []) None) (following (put_vote (vote slot e) votes) entries) (told slot e front) held None

-- both have
abbrev pub IsKnown : ℕ → Entry → List Vote → List Entry → List PostedLetter → List SchedRow → Standing → Type 0
IsKnown slot e votes entries front held =
    Stands (leading 0 (first_rows busy) (put_vote (vote slot e) votes) (entries ++ e ∷ []) None) (following (put_vote (vote slot e) votes) (entries ++ e ∷ [])) (told slot e front ++ []) held None

vote_turn : (slot : ℕ) (e : Entry) (votes : List Vote) (entries : List Entry) (front : List PostedLetter) (held : List SchedRow) (standing : Standing)
    → slot < 2 ^ 62 → FitEntryFields (numbers_of e) → 0 + length entries ≡ slot → vote_at slot votes ≡ None
    → IsProposed slot e votes entries front held standing → Next 2 busy standing (IsVoted slot e votes entries front held)
unfolding sent_by packets_of calls_by
vote_turn slot e votes entries front held standing small fits long none there =
    second_turn busy _ (following votes entries) (following (put_vote (vote slot e) votes) entries) (asked slot e front) held None standing
    (cause.Hear (length front)) (Hear 0 (Accept (vote slot e) ∷ [])) (voting slot e) (sent 1 0 (packet.Accepted 8 slot ∷ []) ∷ [])
    (vote_acts slot e votes entries long none) (after_voting slot e votes entries) tt (record { to = refl; spells = accepted_spells slot small }, tt) refl
    (is_heard standing 1 (length front) front _ _ there.posted_are refl refl (accept_heard slot e small fits)) there

count_turn : (slot : ℕ) (e : Entry) (votes : List Vote) (entries : List Entry) (front : List PostedLetter) (held : List SchedRow) (standing : Standing)
    → slot < 2 ^ 62 → FitEntryFields (numbers_of e) → 0 + length entries ≡ slot
    → IsVoted slot e votes entries front held standing → Next 2 busy standing (IsLearned slot e votes entries front held)
unfolding sent_by packets_of calls_by
count_turn slot e votes entries front held standing small fits long there =
    first_turn busy (leading 0 (first_rows busy) (put_vote (vote slot e) votes) entries (Some (flight slot e))) _
    (leading 0 (first_rows busy) (put_vote (vote slot e) votes) (entries ++ e ∷ []) None) (voted slot e front) held None standing
    (cause.Hear (length (asked slot e front))) None (Hear 1 (Accepted 8 slot ∷ [])) (counting slot e) (sent 0 1 (packet.Known slot e ∷ []) ∷ [])
    (count_acts 0 slot e (first_rows busy) (put_vote (vote slot e) votes) entries) (after_counting 0 slot e (first_rows busy) (put_vote (vote slot e) votes) entries long)
    tt (record { to = refl; spells = known_spells slot e small fits }, tt) refl
    (is_heard standing 0 (length (asked slot e front)) (asked slot e front) _ _ there.posted_are refl refl (accepted_heard slot small)) there

learn_turn : (slot : ℕ) (e : Entry) (votes : List Vote) (entries : List Entry) (front : List PostedLetter) (held : List SchedRow) (standing : Standing)
    → slot < 2 ^ 62 → FitEntryFields (numbers_of e) → 0 + length entries ≡ slot
    → IsLearned slot e votes entries front held standing → Next 2 busy standing (IsKnown slot e votes entries front held)
unfolding sent_by packets_of calls_by
learn_turn slot e votes entries front held standing small fits long there =
    second_turn busy _ (following (put_vote (vote slot e) votes) entries) (following (put_vote (vote slot e) votes) (entries ++ e ∷ [])) (told slot e front) held None standing
    (cause.Hear (length (voted slot e front))) (Hear 0 (Known slot e ∷ [])) (learning slot e) []
    (learn_acts slot e (put_vote (vote slot e) votes) entries long) (after_learning slot e (put_vote (vote slot e) votes) entries) tt tt refl
    (is_heard standing 1 (length (voted slot e front)) (voted slot e front) _ _ there.posted_are refl refl (known_heard slot e small fits)) there

-- a proposal is chosen, and both learn it
pub round : (slot : ℕ) (e : Entry) (votes : List Vote) (entries : List Entry) (front : List PostedLetter) (held : List SchedRow)
    → slot < 2 ^ 62 → FitEntryFields (numbers_of e) → 0 + length entries ≡ slot → AreBelow slot votes
    → Book 2 busy (IsProposed slot e votes entries front held) → Book 2 busy (IsKnown slot e votes entries front held)
round slot e votes entries front held small fits long below book =
    go_on 2 busy (IsLearned slot e votes entries front held) (IsKnown slot e votes entries front held) (λ standing. learn_turn slot e votes entries front held standing small fits long)
    (go_on 2 busy (IsVoted slot e votes entries front held) (IsLearned slot e votes entries front held) (λ standing. count_turn slot e votes entries front held standing small fits long)
    (go_on 2 busy (IsProposed slot e votes entries front held) (IsVoted slot e votes entries front held) (λ standing. vote_turn slot e votes entries front held standing small fits long (none_at slot votes below)) book))

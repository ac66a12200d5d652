-- Each legal book is a list of turns that replicas may take, and comes to the same.
use Rattle.std.proofs.Common.{◌≡◌, ℕ, zero, suc, ◌+◌, ◌<◌, ◌≤◌, true, false, eqb, Option, Some, None, List, [], ◌∷◌, ◌++◌, length, take, refl, sym, ap, ◌∙◌, inl, inr, arith, subst, append-nil, replicate, length-append}
use Rattle.std.specs.List.{AllByRecursion, Contains, filter, flat_map, range_with_len}
use Rattle.std.specs.Ordering.{int_eq}
use Rattle.std.proofs.lemmas.Bool.Decides.{Decides-int_eq}
use Rattle.std.proofs.lemmas.Bool.{and_parts, cases_Bool, eqb-true}
use Rattle.std.proofs.lemmas.List.{take_all}
use Rattle.std.proofs.lemmas.List.Concat.{flat_map-append}
use Rattle.std.proofs.lemmas.List.Sums.{fold_push}
use Rattle.std.proofs.lemmas.List.Elements.{Contains-append_left, Contains-append_right, Contains-append_cases}
use Rattle.paxos_base.specs.declared.rows.TableSize.{TableSize}
use Rattle.paxos_base.specs.declared.durable.Durable.{Durable}
use Rattle.paxos_base.specs.declared.entry.Kind.{Kind}
use Rattle.paxos_base.specs.declared.entry.Vote.{Vote}
use Rattle.cluster_sched.specs.Fates.{call}
use Rattle.cluster_sched.specs.declared.fate.Fate.{Fate}
use Rattle.cluster_sched.specs.declared.fate.Fate.TheVariants.{Done, LostBefore, LostAfter, Late}
use Rattle.cluster_sched.specs.declared.row.Name.{Name}
use Rattle.cluster_sched.specs.declared.row.SchedRow.{SchedRow}
use Rattle.paxos_letter.specs.Letters.{Spells}
use Rattle.paxos_letter.proofs.LetterLemmas.{letter_again}
use Rattle.paxos_letter.proofs.PacketBack.{same_packets}
use Rattle.due_set.specs.Table.{Table}
use Rattle.launch_machine.specs.Clerk.{first_rows, table_size}
use Rattle.step_spec.specs.Act.{Act, Call, Send, Restart, after_act}
use Rattle.step_spec.specs.Folds.{Addressed, after_acts, calls_of, learnt_of, letter_of, letters_of, sent_by, sent_to}
use Rattle.step_spec.specs.Heard.{heard_as, packets_of}
use Rattle.step_spec.specs.May.{Ending, HasSaid, TellsWhatWasSaid, Saying, WasSaid}
use Rattle.step_spec.specs.Message.{Message, Prepare, Promise, Accept, Accepted, Nack, Known, AskFrom, Snap, Lead, Mention, goes_to}
use Rattle.step_spec.specs.State.{Identity, State, started}
use Rattle.step_spec.specs.declared.out.LearntRow.{LearntRow}
use Rattle.step_spec.specs.Step.{Event, IsPlanned, step}
use Rattle.step_spec.proofs.HeardLemmas.{messages_heard}
use Rattle.step_spec.proofs.OutLemmas.{calls_in, letters_are}
use Rattle.agreement.specs.Transition as taken
use Rattle.agreement.specs.Transition.{AreTransitions, MayTake, after_transition, after_transitions, is_silent}
use Rattle.agreement.specs.World.{CastVote, Learning, World, after_all, doings_of, first_world, with_replica}
use Rattle.history.specs.Book.{PostedLetter, Row, Standing, acts_at, after_row, answer_to, cast_votes, is_name, under, with_fact, after_stop, durable_after, first_standing, kept_at, learned_entries, learned_in, post, standing_after, turn_of, votes_in, votes_of}
use Rattle.agreement.specs.Transition.{identity_of}
use Rattle.history.specs.Legal.{IsEventOfCause, IsLegal, IsMade, MayFollow, StopsWithin, TakesTurn, answered}
use Rattle.history.specs.declared.turn.CallRow.{CallRow}
use Rattle.step_spec.specs.Letters.{AreLettersOf, IsHeardAs, IsSpelled, is_small_letter}
use Rattle.history.specs.declared.turn.Cause.{Cause}
use Rattle.history.specs.declared.turn.Cause.TheVariants as cause
use Rattle.history.specs.declared.turn.Turn.{Turn}
use Rattle.history.specs.declared.turn.Turn.TheVariants.{Did, Stopped, Restarted, Arrived}
use Rattle.history.proofs.Acts.{Sends, Stops, all_answered, all_answered_more, all_cast, all_learned, all_replicas, all_said, all_said_more, back_of, front_of, parts_of, stops_at, with_here, with_twice}
use Rattle.step_spec.proofs.Lists.{flat_came, found_in, map_came, nothing_in, take_next, zip_beside}
use Rattle.step_spec.specs.declared.out.OutLetter.{OutLetter}
use Rattle.due_set.proofs.Rising.{Contains-head as in_first, Contains-tail as in_rest, Contains-cases as cons_cases}
use Rattle.due_set.proofs.SoundLemmas.{at_place as row_at}

-- a row that answered a replica, as what the scheduler has told it
abbrev pub ending_of : ℕ → SchedRow → Ending
ending_of who row = record { to = who; job = row.name.job; at = row.name.at; kind = row.kind }

-- a letter goes to a replica, and spells messages that its sender has said
pub record SpellsSaid (n : ℕ) (said : List Saying) (letter : PostedLetter) : Type 0 where
  pub to : letter.to < n
  pub messages : List Message
  pub spells : Spells n letter.from (flat_map packets_of messages) letter.bytes
  pub each : (message : Message) → Contains messages message → HasSaid said letter.from message

-- What a book comes to is what the turns come to in a world: what its letters spell was said there, and so was what they are
-- heard as, and an answer that waits was given.
pub record Matches (n : ℕ) (size : TableSize) (st : Standing) (votes : List CastVote) (learned : List Learning) (w : World) : Type 0 where
  pub replicas : (q : ℕ) → w.replicas q ≡ st.replicas q
  pub cast : w.cast ≡ votes
  pub learned_of : (x : Learning) → Contains learned x → Contains w.learned x
  pub said : (letter : PostedLetter) (messages : List Message) → Contains st.posted letter → IsHeardAs n size letter.bytes letter.from messages → AllByRecursion (WasSaid w.said letter.from) messages
  pub spelled : (letter : PostedLetter) → Contains st.posted letter → SpellsSaid n w.said letter
  pub answers : (q : ℕ) (row : SchedRow) → st.waits q ≡ Some row → Contains w.answered (ending_of q row)

-- ---- letters

-- what was said is still said where more was
was_said_more : (said more : List Saying) (from : ℕ) (message : Message) → ((saying : Saying) → Contains said saying → Contains more saying) → WasSaid said from message → WasSaid more from message
was_said_more said more from (Mention ballot) stays (slot, votes, has) = (slot, votes, stays _ has)
was_said_more said more from (Prepare ballot slot) stays has = stays _ has
was_said_more said more from (Promise ballot slot votes) stays has = stays _ has
was_said_more said more from (Accept vote) stays has = stays _ has
was_said_more said more from (Accepted ballot slot) stays has = stays _ has
was_said_more said more from (Nack ballot promised) stays has = stays _ has
was_said_more said more from (Known slot entry) stays has = stays _ has
was_said_more said more from (AskFrom slot) stays has = stays _ has
was_said_more said more from (Snap slot rows) stays has = stays _ has
was_said_more said more from (Lead ballot slot) stays has = stays _ has

pub all_said_still : (said more : List Saying) (from : ℕ) (messages : List Message) → ((saying : Saying) → Contains said saying → Contains more saying) → AllByRecursion (WasSaid said from) messages → AllByRecursion (WasSaid more from) messages
all_said_still said more from [] stays all = tt
all_said_still said more from (message ∷ messages) stays all =
    (was_said_more said more from message stays all.0, all_said_still said more from messages stays all.1)

-- as what a message is heard that was said, was said
heard_said : (said : List Saying) (from : ℕ) (message : Message) (rest : List Message) → HasSaid said from message → AllByRecursion (WasSaid said from) rest → AllByRecursion (WasSaid said from) (heard_as message ++ rest)
heard_said said from (Prepare ballot slot) rest has all = (has, all)
heard_said said from (Promise ballot slot votes) rest has all = (has, mentions votes)
  where
    mentions : (some : List Vote) → AllByRecursion (WasSaid said from) (replicate (length some) (Mention ballot) ++ rest)
    mentions [] = all
    mentions (vote ∷ some) = ((slot, votes, has), mentions some)
heard_said said from (Accept vote) rest has all = (has, all)
heard_said said from (Accepted ballot slot) rest has all = (has, all)
heard_said said from (Nack ballot promised) rest has all = (has, all)
heard_said said from (Known slot entry) rest has all = (has, all)
heard_said said from (AskFrom slot) rest has all = (has, all)
heard_said said from (Snap slot rows) rest has all = (has, all)
heard_said said from (Lead ballot slot) rest has all = (has, all)
heard_said said from (Mention ballot) rest has all = all

all_heard_said : (said : List Saying) (from : ℕ) (messages : List Message) → ((message : Message) → Contains messages message → HasSaid said from message) → AllByRecursion (WasSaid said from) (flat_map heard_as messages)
all_heard_said said from [] has = tt
all_heard_said said from (message ∷ messages) has =
    heard_said said from message (flat_map heard_as messages) (has message (in_first message messages))
    (all_heard_said said from messages (λ other later. has other (in_rest message messages other later)))

-- the messages of a letter of some acts are sent by them
sent_of_act : (me member : ℕ) (acts : List Act) (message : Message) (act : Act) → Contains acts act → Contains (sent_by me member act) message → Sends acts message
unfolding sent_by
sent_of_act me member acts message (Send whom mine) here there =
    elim (cases_Bool (goes_to me whom member)) [
      | inl goes ↦ elim (cons_cases mine [] message (rw goes at there)) [ inl same ↦ (whom, rw (← same) here) | inr none ↦ nothing_in none ]
      | inr other ↦ nothing_in (rw other at there)
    ]
sent_of_act me member acts message act here there = nothing_in there

sent_sends : (me member : ℕ) (acts : List Act) (message : Message) → Contains (sent_to me member acts) message → Sends acts message
sent_sends me member acts message there =
    let came = flat_came (sent_by me member) acts message there in
    sent_of_act me member acts message came.of came.has came.inside

letter_has : (member : ℕ) (messages : List Message) (addressed : Addressed) → Contains (letter_of member messages) addressed → addressed.messages ≡ messages
letter_has member [] addressed there = nothing_in there
letter_has member (first ∷ others) addressed there = elim (cons_cases _ [] addressed there) [
  | inl same ↦ ap (λ a. a.messages) (sym same)
  | inr none ↦ nothing_in none
]

addressed_sends : (self : Identity) (acts : List Act) (addressed : Addressed) (message : Message) → Contains (letters_of self acts) addressed → Contains addressed.messages message → Sends acts message
addressed_sends self acts addressed message has inside =
    let of = flat_came (λ member. letter_of member (sent_to self.me member acts)) (range_with_len 0 self.members) addressed has in
    let messages = letter_has of.of (sent_to self.me of.of acts) addressed of.inside in
    sent_sends self.me of.of acts message (subst (λ ms. Contains ms message) messages inside)

-- bytes that spell messages that were said are heard as such
spelled_said : (n : ℕ) (size : TableSize) (said : List Saying) (from : ℕ) (sent heard : List Message) (bytes : List ℕ) → Spells n from (flat_map packets_of sent) bytes → ((message : Message) → Contains sent message → HasSaid said from message) → IsHeardAs n size bytes from heard → AllByRecursion (WasSaid said from) heard
spelled_said n size said from sent heard bytes spells has is =
    let one = letter_again n from (flat_map packets_of sent) bytes spells in
    let two = letter_again n from is.packets bytes is.spells in
    let same : is.packets ≡ flat_map packets_of sent = same_packets from from is.packets (flat_map packets_of sent) (sym two.fields ∙ one.fields) in
    rw is.heard (elim (cases_Bool (is_small_letter size is.packets)) [
      | inl small ↦ rw small (rw (same, messages_heard sent) (all_heard_said said from sent has))
      | inr large ↦ rw large tt
    ])

-- a letter still spells what its sender has said where more was said
spells_still : (n : ℕ) (said more : List Saying) (letter : PostedLetter) → ((saying : Saying) → Contains said saying → Contains more saying) → SpellsSaid n said letter → SpellsSaid n more letter
spells_still n said more letter stays spelled = record {
  to = spelled.to;
  messages = spelled.messages;
  spells = spelled.spells;
  each = λ message has. stays (record { by = letter.from; message = message }) (spelled.each message has);
}

-- ---- turns

with_eq : (by : ℕ) (one two : State) (first second : ℕ → State) (q : ℕ) → one ≡ two → ((p : ℕ) → first p ≡ second p) → with_replica by one first q ≡ with_replica by two second q
with_eq by one two first second q same all =
    elim (cases_Bool (eqb q by)) [ inl here ↦ rw here same | inr other ↦ rw other (all q) ]

-- the same standing, by its replicas, its letters and the answers that wait
matches_as : (n : ℕ) (size : TableSize) (st st' : Standing) (votes votes' : List CastVote) (learned learned' : List Learning) (w : World) → ((q : ℕ) → st.replicas q ≡ st'.replicas q) → st.posted ≡ st'.posted → ((q : ℕ) (row : SchedRow) → st'.waits q ≡ Some row → Contains w.answered (ending_of q row)) → votes ≡ votes' → ((x : Learning) → Contains learned' x → Contains learned x) → Matches n size st votes learned w → Matches n size st' votes' learned' w
matches_as n size st st' votes votes' learned learned' w replicas posted answers same less m = record {
  replicas = λ q. m.replicas q ∙ replicas q;
  cast = m.cast ∙ same;
  learned_of = λ x has. m.learned_of x (less x has);
  said = λ letter messages has heard. m.said letter messages (subst (λ letters. Contains letters letter) (sym posted) has) heard;
  spelled = λ letter has. m.spelled letter (subst (λ letters. Contains letters letter) (sym posted) has);
  answers = answers;
}

-- acts of which no letter leaves
quiet_acts : (n : ℕ) (size : TableSize) (st : Standing) (votes : List CastVote) (learned : List Learning) (w : World) (who : ℕ) (event : Option Event) (answer : Option Kind) (acts : List Act) → Matches n size st votes learned w → Matches n size (record st { replicas = with_replica who (after_acts acts (st.replicas who)) st.replicas }) (votes ++ cast_votes (Some who) (votes_of acts)) learned (after_all (doings_of who event answer acts) w)
quiet_acts n size st votes learned w who event answer acts m = record {
  replicas = λ q. all_replicas who event answer acts w q ∙ with_eq who _ _ w.replicas st.replicas q (ap (after_acts acts) (m.replicas who)) m.replicas;
  cast = all_cast who event answer acts w ∙ ap (λ cast. cast ++ cast_votes (Some who) (votes_of acts)) m.cast;
  learned_of = λ x has. rw (all_learned who event answer acts w) (Contains-append_left w.learned (learned_entries (Some who) (learnt_of acts)) x (m.learned_of x has));
  said = λ letter messages has heard. all_said_still w.said (after_all (doings_of who event answer acts) w).said letter.from messages (all_said_more who event answer acts w) (m.said letter messages has heard);
  spelled = λ letter has. spells_still n w.said (after_all (doings_of who event answer acts) w).said letter (all_said_more who event answer acts w) (m.spelled letter has);
  answers = λ q row is. all_answered_more who event answer acts w (ending_of q row) (m.answers q row is);
}

-- acts of a step, with its letters
step_acts : (n : ℕ) (size : TableSize) (st : Standing) (votes : List CastVote) (learned : List Learning) (w : World) (who : ℕ) (event : Option Event) (answer : Option Kind) (acts : List Act) (letters : List OutLetter) → AreLettersOf (identity_of n who) acts letters → Matches n size st votes learned w → Matches n size (record st { replicas = with_replica who (after_acts acts (st.replicas who)) st.replicas; posted = st.posted ++ post who letters }) (votes ++ cast_votes (Some who) (votes_of acts)) (learned ++ learned_entries (Some who) (learnt_of acts)) (after_all (doings_of who event answer acts) w)
step_acts n size st votes learned w who event answer acts letters spelled m =
    let quiet = quiet_acts n size st votes learned w who event answer acts m in
    record {
      replicas = quiet.replicas;
      cast = quiet.cast;
      learned_of = λ x has. rw (all_learned who event answer acts w) (elim (Contains-append_cases learned (learned_entries (Some who) (learnt_of acts)) x has) [
        | inl old ↦ Contains-append_left w.learned (learned_entries (Some who) (learnt_of acts)) x (m.learned_of x old)
        | inr now ↦ Contains-append_right w.learned (learned_entries (Some who) (learnt_of acts)) x now
      ]);
      said = λ letter messages has heard. elim (Contains-append_cases st.posted (post who letters) letter has) [
        | inl old ↦ quiet.said letter messages old heard
        | inr now ↦
            let came = map_came _ letters letter now in
            let beside = zip_beside (IsSpelled n who) (letters_of (identity_of n who) acts) letters came.of spelled came.has in
            new_letter letter messages came.of beside.of came.is beside.has beside.is heard
      ];
      spelled = λ letter has. elim (Contains-append_cases st.posted (post who letters) letter has) [
        | inl old ↦ quiet.spelled letter old
        | inr now ↦
            let came = map_came _ letters letter now in
            let beside = zip_beside (IsSpelled n who) (letters_of (identity_of n who) acts) letters came.of spelled came.has in
            subst (λ (l : PostedLetter). SpellsSaid n w'.said l) came.is (spelled_now came.of beside.of beside.has beside.is)
      ];
      answers = quiet.answers;
    }
  where
    w' : World
    w' = after_all (doings_of who event answer acts) w

    spelled_now : (sent : OutLetter) (addressed : Addressed) → Contains (letters_of (identity_of n who) acts) addressed → IsSpelled n who addressed sent → SpellsSaid n w'.said (record { from = who; to = sent.to; bytes = sent.bytes })
    spelled_now sent addressed there spells = record {
      to = rw spells.to (letters_are (identity_of n who) acts addressed there).0;
      messages = addressed.messages;
      spells = spells.spells;
      each = λ message has. all_said who event answer acts w message (addressed_sends (identity_of n who) acts addressed message there has);
    }

    new_letter : (letter : PostedLetter) (messages : List Message) (sent : OutLetter) (addressed : Addressed) → record { from = who; to = sent.to; bytes = sent.bytes } ≡ letter → Contains (letters_of (identity_of n who) acts) addressed → IsSpelled n who addressed sent → IsHeardAs n size letter.bytes letter.from messages → AllByRecursion (WasSaid (after_all (doings_of who event answer acts) w).said letter.from) messages
    new_letter letter messages sent addressed is there spells heard =
        let posted : PostedLetter = record { from = who; to = sent.to; bytes = sent.bytes } in
        subst (λ (l : PostedLetter). AllByRecursion (WasSaid (after_all (doings_of who event answer acts) w).said l.from) messages) is
        (spelled_said n size (after_all (doings_of who event answer acts) w).said who addressed.messages messages sent.bytes spells.spells
        (λ message has. all_said who event answer acts w message (addressed_sends (identity_of n who) acts addressed message there has))
        (subst (λ (l : PostedLetter). IsHeardAs n size l.bytes l.from messages) (sym is) heard))

pub heard_event : (n : ℕ) (table : Table) (st : Standing) (votes : List CastVote) (learned : List Learning) (w : World) (who : ℕ) (cause : Cause) (event : Event) → Matches n (table_size table) st votes learned w → IsEventOfCause n table st who cause event → TellsWhatWasSaid (record { self = identity_of n who; table = table; event = Some event; said = w.said; answered = w.answered }) event
heard_event n table st votes learned w who cause.Campaign event m is = rw is tt
heard_event n table st votes learned w who (cause.Tick now) event m (inside, plan, is) = rw is tt
heard_event n table st votes learned w who (cause.Hear number) event m is =
    rw is.is (m.said is.letter is.messages (found_in st.posted number is.letter is.there) is.heard)
heard_event n table st votes learned w who cause.Answer event m is = rw is.is (m.answers who is.row is.waits)

-- what a replica takes in a book it may take in the world
pub may_take : (n : ℕ) (table : Table) (st : Standing) (votes : List CastVote) (learned : List Learning) (w : World) (who : ℕ) (cause : Cause) (event : Event) → Matches n (table_size table) st votes learned w → TakesTurn n table st who cause event → MayTake n table w who event
may_take n table st votes learned w who cause event m takes = record {
  member = takes.member;
  planned = subst (λ s. IsPlanned table s event) (sym (m.replicas who)) takes.planned;
  heard = heard_event n table st votes learned w who cause event m takes.event_of;
}

-- whether a transition has acts of a step: a start has none
abbrev pub steps_by : taken.Transition → ℕ
steps_by (taken.Did by event answer) = 1
steps_by (taken.Stopped by event front back) = 1
steps_by (taken.Restarted by) = 0

-- how many of some transitions have
abbrev pub steps_in : List taken.Transition → ℕ
steps_in [] = 0
steps_in (transition ∷ transitions) = steps_by transition + steps_in transitions

-- turns that may come next, with as many steps at most, and what the world comes to by them
pub record Goes (n : ℕ) (table : Table) (most : ℕ) (w : World) (st : Standing) (votes : List CastVote) (learned : List Learning) : Type 0 where
  pub turns : List taken.Transition
  pub few : steps_in turns ≤ most
  pub are : AreTransitions n table w turns
  pub matches : Matches n (table_size table) st votes learned (after_transitions n turns w)

-- what the scheduler says that the launch came to, where it answered the call of a turn
abbrev kind_of_row : Option SchedRow → Option Kind
kind_of_row None = None
kind_of_row (Some row) = Some row.kind

abbrev kind_of_answer : Option CallRow → Option Kind
kind_of_answer made = kind_of_row (answer_to made)

-- a row that is held under a name is of that name
under_named : (name : Name) (held : List SchedRow) (row : SchedRow) → under name held ≡ Some row → (row.name.job ≡ name.job) × (row.name.at ≡ name.at)
under_named name [] row is = absurd cc
under_named name (first ∷ held) row is = elim (cases_Bool (is_name first.name name)) [
  | inl here ↦
      let so : Some first ≡ Some row = rw here at is in
      let same : first ≡ row = cc in
      let parts = and_parts (eqb first.name.job name.job) (int_eq first.name.at name.at) here in
      rw (← same) (eqb-true first.name.job name.job parts.0, (Decides-int_eq first.name.at name.at).0 parts.1)
  | inr other ↦ under_named name held row (rw other at is)
]

-- a call is answered by a row of its name
call_named : (fate : Fate) (row : SchedRow) (found : Option SchedRow) (answer : SchedRow) → ((first : SchedRow) → found ≡ Some first → (first.name.job ≡ row.name.job) × (first.name.at ≡ row.name.at))
    → answered (call fate row found).answer ≡ Some answer → (answer.name.job ≡ row.name.job) × (answer.name.at ≡ row.name.at)
call_named Done row None answer named is = let same : row ≡ answer = cc in rw (← same) (refl, refl)
call_named LostBefore row None answer named is = absurd cc
call_named LostAfter row None answer named is = absurd cc
call_named Late row None answer named is = absurd cc
call_named Done row (Some first) answer named is = let same : first ≡ answer = cc in rw (← same) (named first refl)
call_named LostBefore row (Some first) answer named is = absurd cc
call_named LostAfter row (Some first) answer named is = absurd cc
call_named Late row (Some first) answer named is = let same : first ≡ answer = cc in rw (← same) (named first refl)

-- an answer was given to a call that a step asks for, of the same name
answer_called : (held calls : List SchedRow) (made : Option CallRow) (answer : SchedRow) → IsMade held calls made → answer_to made ≡ Some answer
    → (row : SchedRow) × Contains calls row × (answer.name.job ≡ row.name.job) × (answer.name.at ≡ row.name.at)
answer_called held [] made answer is_made is = absurd (let none : None ≡ Some answer = subst (λ m. answer_to m ≡ Some answer) is_made is in cc)
answer_called held (row ∷ calls) None answer is_made is = absurd is_made
answer_called held (row ∷ calls) (Some made) answer (one, called, came) is =
    let named = call_named made.fate row (under row.name held) answer (under_named row.name held) (sym came ∙ is) in
    (row, in_first row calls, named.0, named.1)

-- an answer to a call that the acts make is what the scheduler has told
told_so : (who : ℕ) (event : Option Event) (acts : List Act) (w : World) (row answer : SchedRow) → Contains acts (Call row) → answer.name.job ≡ row.name.job → answer.name.at ≡ row.name.at
    → Contains (after_all (doings_of who event (Some answer.kind) acts) w).answered (ending_of who answer)
told_so who event acts w row answer calls jobs ats =
    let same : record { to = who; job = row.name.job; at = row.name.at; kind = answer.kind } ≡ ending_of who answer = rw (jobs, ats) refl in
    subst (λ (ending : Ending). Contains (after_all (doings_of who event (Some answer.kind) acts) w).answered ending) same (all_answered who event answer.kind acts w row calls)

-- the answer that waits for a replica after its step was given, now or before
answers_after : (n : ℕ) (size : TableSize) (st : Standing) (votes : List CastVote) (learned : List Learning) (w : World) (who : ℕ) (event : Option Event) (acts : List Act) (made : Option CallRow) → Matches n size st votes learned w → IsMade st.held (calls_of acts) made
    → (q : ℕ) (row : SchedRow) → with_fact who (answer_to made) st.waits q ≡ Some row → Contains (after_all (doings_of who event (kind_of_answer made) acts) w).answered (ending_of q row)
answers_after n size st votes learned w who event acts made m is_made q row is = elim (cases_Bool (eqb q who)) [
  | inl here ↦
      let now : answer_to made ≡ Some row = rw here at is in
      let same : q ≡ who = eqb-true q who here in
      let called = answer_called st.held (calls_of acts) made row is_made now in
      let kind : kind_of_answer made ≡ Some row.kind = ap kind_of_row now in
      subst (λ (k : Option Kind). Contains (after_all (doings_of who event k acts) w).answered (ending_of q row)) (sym kind)
      (subst (λ (p : ℕ). Contains (after_all (doings_of who event (Some row.kind) acts) w).answered (ending_of p row)) (sym same)
      (told_so who event acts w called.0 row ((calls_in acts called.0).0 called.1) called.2 called.3))
  | inr other ↦ all_answered_more who event (kind_of_answer made) acts w (ending_of q row) (m.answers q row (rw other at is))
]

did : (n : ℕ) (table : Table) (st : Standing) (votes : List CastVote) (learned : List Learning) (w : World) (who : ℕ) (cause : Cause) (row : Row) (made : Option CallRow) → Matches n (table_size table) st votes learned w → MayFollow n table st (Did who cause made) row → Goes n table 1 w (after_row n st (Did who cause made) row.event row.letters) (votes ++ cast_votes (Some who) row.votes) (learned ++ learned_entries (Some who) row.learnt)
unfolding after_row
did n table st votes learned w who cause row made m (takes, brings) =
    let acts : step (identity_of n who) row.event (w.replicas who) ≡ acts_at n st who row.event = ap (step (identity_of n who) row.event) (m.replicas who) in
    let after = step_acts n (table_size table) st votes learned w who (Some row.event) (kind_of_answer made) (acts_at n st who row.event) row.letters brings.letters m in
    let same = matches_as n (table_size table) _ (after_row n st (Did who cause made) row.event row.letters) _ (votes ++ cast_votes (Some who) row.votes) _ (learned ++ learned_entries (Some who) row.learnt) _
    (λ q. refl) refl (answers_after n (table_size table) st votes learned w who (Some row.event) (acts_at n st who row.event) made m brings.call)
    (rw brings.votes refl) (λ x has. rw (← brings.learnt) has) after in
    record {
      turns = taken.Did who row.event (kind_of_answer made) ∷ [];
      few = omega arith;
      are = (may_take n table st votes learned w who cause row.event m takes, tt);
      matches = subst (λ some. Matches n (table_size table) (after_row n st (Did who cause made) row.event row.letters) (votes ++ cast_votes (Some who) row.votes) (learned ++ learned_entries (Some who) row.learnt) (after_all (doings_of who (Some row.event) (kind_of_answer made) some) w)) (sym acts) same;
    }

-- a turn that brings nothing adds no vote and no learned entry
no_votes : (who : ℕ) (votes : List CastVote) (some : List Vote) → some ≡ [] → votes ++ [] ≡ votes ++ cast_votes (Some who) some
no_votes who votes some none = rw none refl

no_learned : (who : ℕ) (learned : List Learning) (some : List LearntRow) → some ≡ [] → (x : Learning) → Contains (learned ++ learned_entries (Some who) some) x → Contains learned x
no_learned who learned some none x has = subst (λ rows. Contains rows x) (ap (λ rows. learned ++ learned_entries (Some who) rows) none ∙ append-nil learned) has

-- no answer waits for a replica that has stopped
pub none_waits : (who : ℕ) (waits : ℕ → Option SchedRow) (q : ℕ) (row : SchedRow) → with_fact who None waits q ≡ Some row → waits q ≡ Some row
none_waits who waits q row is = elim (cases_Bool (eqb q who)) [
  | inl here ↦ let none : None ≡ Some row = rw here at is in absurd cc
  | inr other ↦ rw other at is
]

-- a replica that stops and has kept what it kept
stopped : (n : ℕ) (table : Table) (st : Standing) (votes : List CastVote) (learned : List Learning) (w : World) (who : ℕ) (row : Row) (kept : Durable) → Matches n (table_size table) st votes learned w → who < n → (st.replicas who).kept ≡ kept → row.votes ≡ [] → row.learnt ≡ [] → Goes n table 1 w (after_stop who kept st) (votes ++ cast_votes (Some who) row.votes) (learned ++ learned_entries (Some who) row.learnt)
unfolding after_act
stopped n table st votes learned w who row kept m member is no_vote none = record {
  turns = taken.Restarted who ∷ [];
  few = omega arith;
  are = (member, tt);
  matches = matches_as n (table_size table) _ (after_stop who kept st) _ (votes ++ cast_votes (Some who) row.votes) learned (learned ++ learned_entries (Some who) row.learnt) _
      (λ q. with_eq who _ _ st.replicas st.replicas q (ap (started who) is) (λ p. refl)) refl
      (λ q answer waits. still.answers q answer (none_waits who st.waits q answer waits)) (no_votes who votes row.votes no_vote) (no_learned who learned row.learnt none)
      still;
}
  where
    still : Matches n (table_size table) (record st { replicas = with_replica who (after_acts (Restart who ∷ []) (st.replicas who)) st.replicas }) (votes ++ cast_votes (Some who) (votes_of (Restart who ∷ []))) learned (after_all (doings_of who None None (Restart who ∷ [])) w)
    still = quiet_acts n (table_size table) st votes learned w who None None (Restart who ∷ []) m

-- a replica that stops within a step, and has kept its change
stopped_kept : (n : ℕ) (table : Table) (st : Standing) (votes : List CastVote) (learned : List Learning) (w : World) (who : ℕ) (cause : Cause) (row : Row) → Matches n (table_size table) st votes learned w → TakesTurn n table st who cause row.event → StopsWithin n st who row true → Goes n table 1 w (after_stop who (kept_at n st who row.event true) st) (votes ++ cast_votes (Some who) row.votes) (learned ++ learned_entries (Some who) row.learnt)
unfolding after_act
stopped_kept n table st votes learned w who cause row m takes within = record {
  turns = taken.Stopped who row.event (front_of acts) (back_of acts) ∷ taken.Restarted who ∷ [];
  few = omega arith;
  are = ((may_take n table st votes learned w who cause row.event m takes, ap (step (identity_of n who) row.event) (m.replicas who) ∙ parts_of acts), (takes.member, tt));
  matches = matches_as n (table_size table) _ (after_stop who (kept_at n st who row.event true) st) _ (votes ++ cast_votes (Some who) row.votes) learned (learned ++ learned_entries (Some who) row.learnt) _
      (λ q. with_eq who _ _ st1.replicas st1.replicas q (ap (started who) is_kept) (λ p. refl) ∙ with_twice who (after_acts silent (st.replicas who)) (started who (kept_at n st who row.event true)) st.replicas q)
      refl (λ q answer waits. still.answers q answer (none_waits who st.waits q answer waits)) cast_is (no_learned who learned row.learnt within.learnt)
      still;
}
  where
    acts : List Act
    acts = acts_at n st who row.event

    silent : List Act
    silent = filter is_silent (front_of acts)

    stops : Stops silent (st.replicas who) within.delta
    stops = stops_at acts (st.replicas who) within.delta [] within.changes

    st1 : Standing
    st1 = record st { replicas = with_replica who (after_acts silent (st.replicas who)) st.replicas }

    first : Matches n (table_size table) st1 (votes ++ cast_votes (Some who) (votes_of silent)) learned (after_all (doings_of who (Some row.event) None silent) w)
    first = quiet_acts n (table_size table) st votes learned w who (Some row.event) None silent m

    still : Matches n (table_size table) (record st1 { replicas = with_replica who (after_acts (Restart who ∷ []) (st1.replicas who)) st1.replicas }) ((votes ++ cast_votes (Some who) (votes_of silent)) ++ cast_votes (Some who) (votes_of (Restart who ∷ []))) learned (after_all (doings_of who None None (Restart who ∷ [])) (after_all (doings_of who (Some row.event) None silent) w))
    still = quiet_acts n (table_size table) st1 (votes ++ cast_votes (Some who) (votes_of silent)) learned _ who None None (Restart who ∷ []) first

    is_kept : (st1.replicas who).kept ≡ kept_at n st who row.event true
    is_kept = ap (λ s. s.kept) (with_here who (after_acts silent (st.replicas who)) st.replicas) ∙ stops.kept ∙ sym (ap (λ deltas. durable_after deltas (st.replicas who).kept) within.changes)

    cast_is : (votes ++ cast_votes (Some who) (votes_of silent)) ++ [] ≡ votes ++ cast_votes (Some who) row.votes
    cast_is = append-nil _ ∙ ap (λ some. votes ++ cast_votes (Some who) some) (stops.votes ∙ sym within.votes)

-- a turn of a book is none or more turns of the world
goes : (n : ℕ) (table : Table) (st : Standing) (votes : List CastVote) (learned : List Learning) (w : World) (turn : Turn) (row : Row) → Matches n (table_size table) st votes learned w → MayFollow n table st turn row → Goes n table 1 w (after_row n st turn row.event row.letters) (votes ++ cast_votes (turn_of turn) row.votes) (learned ++ learned_entries (turn_of turn) row.learnt)
unfolding after_row
goes n table st votes learned w (Did who cause made) row m may = did n table st votes learned w who cause row made m may
goes n table st votes learned w (Stopped who None true) row m (member, runs, kept, nothing) = absurd cc
goes n table st votes learned w (Stopped who None false) row m (member, runs, kept, nothing) =
    stopped n table st votes learned w who row (st.replicas who).kept m member refl nothing.votes nothing.learnt
goes n table st votes learned w (Stopped who (Some cause) true) row m (takes, within) = stopped_kept n table st votes learned w who cause row m takes within
goes n table st votes learned w (Stopped who (Some cause) false) row m (takes, within) =
    stopped n table st votes learned w who row (st.replicas who).kept m takes.member refl within.votes within.learnt
goes n table st votes learned w (Restarted who) row m (member, stopped_before, nothing) = record {
  turns = [];
  few = omega arith;
  are = tt;
  matches = matches_as n (table_size table) st _ votes (votes ++ cast_votes (Some who) row.votes) learned (learned ++ learned_entries (Some who) row.learnt) w
      (λ q. refl) refl (λ q answer waits. m.answers q answer waits) (sym (append-nil votes) ∙ no_votes who votes row.votes nothing.votes) (no_learned who learned row.learnt nothing.learnt) m;
}
goes n table st votes learned w (Arrived number) row m may = record {
  turns = [];
  few = omega arith;
  are = tt;
  matches = matches_as n (table_size table) st _ votes (votes ++ []) learned (learned ++ []) w
      (λ q. refl) refl (λ q answer waits. m.answers q answer waits) (sym (append-nil votes)) (λ x has. subst (λ rows. Contains rows x) (append-nil learned) has) m;
}

-- ---- books

after_append : (n : ℕ) (xs ys : List taken.Transition) (w : World) → after_transitions n (xs ++ ys) w ≡ after_transitions n ys (after_transitions n xs w)
after_append n [] ys w = refl
after_append n (x ∷ xs) ys w = after_append n xs ys (after_transition n x w)

are_append : (n : ℕ) (table : Table) (w : World) (xs ys : List taken.Transition) → AreTransitions n table w xs → AreTransitions n table (after_transitions n xs w) ys → AreTransitions n table w (xs ++ ys)
are_append n table w [] ys first second = second
are_append n table w (x ∷ xs) ys first second = (first.0, are_append n table (after_transition n x w) xs ys first.1 second)

steps_append : (xs ys : List taken.Transition) → steps_in (xs ++ ys) ≡ steps_in xs + steps_in ys
steps_append [] ys = omega arith
steps_append (x ∷ xs) ys = omega (arith, steps_append xs ys)

-- turns of the world that come to what a book comes to, with as many steps at most as the book has turns
abbrev pub Reaches : ℕ → Table → List Row → Type 0
Reaches n table book = Goes n table (length book) (first_world (first_rows table)) (standing_after n (first_rows table) book) (votes_in book) (learned_in book)

reaches_first : (n : ℕ) (table : Table) → Reaches n table []
reaches_first n table = record {
  turns = [];
  few = omega arith;
  are = tt;
  matches = record { replicas = λ q. refl; cast = refl; learned_of = λ x has. has; said = λ letter messages has heard. nothing_in has; spelled = λ letter has. nothing_in has; answers = λ q row is. absurd (let none : None ≡ Some row = is in cc) };
}

reaches_next : (n : ℕ) (table : Table) (book : List Row) (row : Row) → Reaches n table book → MayFollow n table (standing_after n (first_rows table) book) row.turn row → Reaches n table (book ++ row ∷ [])
reaches_next n table book row before may =
    let w = after_transitions n before.turns (first_world (first_rows table)) in
    let next = goes n table (standing_after n (first_rows table) book) (votes_in book) (learned_in book) w row.turn row before.matches may in
    record {
      turns = before.turns ++ next.turns;
      few = omega (arith, steps_append before.turns next.turns, before.few, next.few, length-append book (row ∷ []));
      are = are_append n table (first_world (first_rows table)) before.turns next.turns before.are next.are;
      matches =
          rw (after_append n before.turns next.turns (first_world (first_rows table)))
          (matches_as n (table_size table) _ (standing_after n (first_rows table) (book ++ row ∷ [])) _ (votes_in (book ++ row ∷ [])) _ (learned_in (book ++ row ∷ [])) _
          (λ q. ap (λ st. st.replicas q) (sym (fold_push _ (first_standing n (first_rows table)) book row)))
          (ap (λ st. st.posted) (sym (fold_push _ (first_standing n (first_rows table)) book row)))
          (λ q answer waits. next.matches.answers q answer (ap (λ st. st.waits q) (sym (fold_push _ (first_standing n (first_rows table)) book row)) ∙ waits))
          (sym (flat_map-append _ book (row ∷ []) ∙ ap (λ rows. votes_in book ++ rows) (append-nil _)))
          (λ x has. subst (λ rows. Contains rows x) (flat_map-append _ book (row ∷ []) ∙ ap (λ rows. learned_in book ++ rows) (append-nil _)) has)
          next.matches);
    }

reaches_front : (n : ℕ) (table : Table) (book : List Row) (k : ℕ) → IsLegal n table book → k ≤ length book → Reaches n table (take k book)
reaches_front n table book zero legal within = reaches_first n table
reaches_front n table book (suc k) legal within =
    let row = row_at book k (omega (arith, within)) in
    rw (take_next book k row.0 row.1) (reaches_next n table (take k book) row.0 (reaches_front n table book k legal (omega (arith, within))) (legal k row.0 row.1))

pub reaches : (n : ℕ) (table : Table) (book : List Row) → IsLegal n table book → Reaches n table book
reaches n table book legal = rw⁻¹ (take_all (length book) book (omega arith)) (reaches_front n table book (length book) legal (omega arith))

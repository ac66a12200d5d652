-- What a replica does when it hears a message. Source: "Paxos Made Simple", sections 2.2 and 2.3.
use Rattle.std.specs.Prelude.{ℕ, ◌+◌, ◌-◌, ◌==◌, nat_le, nat_lt, Bool, false, ◌&&◌, ◌||◌, List, [], ◌∷◌, ◌++◌, length, map, drop, Option, None, Some, if◌then◌else◌}
use Rattle.paxos_base.specs.Members.{with_member}
use Rattle.paxos_base.specs.Vote.{vote_at, votes_from}
use Rattle.paxos_base.specs.declared.entry.Entry.{Entry}
use Rattle.paxos_base.specs.declared.entry.Vote.{Vote}
use Rattle.paxos_base.specs.declared.rows.JobRow.{JobRow}
use Rattle.term_core.specs.declared.term.Term.{Term}
use Rattle.term_core.specs.declared.term.Term.TheVariants.{Follower, Candidate, Leader}
use Rattle.step_spec.specs.Act.{Act, Observe, Gather, Pledge, Cast, Count, Learn, Rebase, Send, after_act}
use Rattle.step_spec.specs.Folds.{after_acts, copies_of}
use Rattle.step_spec.specs.Message.{Message, Prepare, Promise, Accept, Accepted, Nack, Known, AskFrom, Snap, Lead, Mention, Only, ballot_in}
use Rattle.step_spec.specs.Propose.{choose_if, lead_if}
use Rattle.step_spec.specs.State.{State, Identity, prefix_of, promised_in}

-- a request for the entries from its prefix on
abbrev pub ask : ℕ → State → Act
ask from state = Send (Only from) (AskFrom (prefix_of state))

-- entries of the slots from one on
abbrev pub known_from : ℕ → List Entry → List Message
known_from slot [] = []
known_from slot (entry ∷ entries) = Known slot entry ∷ known_from (slot + 1) entries

-- the messages, to one replica
abbrev pub send_all : ℕ → List Message → List Act
send_all from messages = map (Send (Only from)) messages

-- A snapshot, for one that lacks entries below the base: the launch table there, and what was learned from there on. A step sends
-- it once at most.
abbrev pub snapshot : ℕ → Bool → State → List Act
snapshot from copied state =
    if copied then []
    else Send (Only from) (Snap state.kept.base state.kept.rows) ∷ send_all from (known_from state.kept.base state.learned)

-- **Prepare**: a ballot that isn't above the promised one is refused. Else it is promised, with the votes that are asked for; of
-- those below the base none are left, and a snapshot is sent in the place of a promise.
unfoldable pub on_prepare : ℕ → ℕ → ℕ → Bool → State → List Act
on_prepare from ballot slot copied state =
    if nat_le ballot (promised_in state.kept) then Send (Only from) (Nack ballot (promised_in state.kept)) ∷ []
    else (if nat_lt slot state.kept.base then snapshot from copied state
    else Pledge ballot ∷ Send (Only from) (Promise ballot slot (votes_from slot state.kept.votes)) ∷ [])

-- **Promise**, to a replica of this term: it counts for the candidate that asked for it, and for nobody else.
unfoldable pub on_promise : ℕ → ℕ → ℕ → ℕ → List Vote → Term → List Act
on_promise members from ballot slot votes (Follower ended) = []
on_promise members from ballot slot votes (Candidate own first heard best) =
    if (own == ballot) && (first == slot) then Gather from votes ∷ lead_if members (with_member from heard) else []
on_promise members from ballot slot votes (Leader own best flight) = []

-- the vote is of that ballot
abbrev pub is_vote_of : ℕ → Option Vote → Bool
is_vote_of ballot None = false
is_vote_of ballot (Some vote) = vote.ballot == ballot

-- a vote is cast, unless it was cast before
abbrev pub cast_new : Vote → State → List Act
cast_new vote state = if is_vote_of vote.ballot (vote_at vote.slot state.kept.votes) then [] else Cast vote ∷ []

-- entries are missing below the slot, and are asked for
abbrev pub ask_below : ℕ → ℕ → State → List Act
ask_below from slot state = if nat_lt (prefix_of state) slot then ask from state ∷ [] else []

-- **Accept**: a ballot below the promised one is refused. Else the vote is cast and told; the entry below the base is long chosen,
-- and a snapshot is sent in the place of a vote.
unfoldable pub on_accept : ℕ → Vote → Bool → State → List Act
on_accept from vote copied state =
    if nat_lt vote.ballot (promised_in state.kept) then Send (Only from) (Nack vote.ballot (promised_in state.kept)) ∷ []
    else (if nat_lt vote.slot state.kept.base then snapshot from copied state
    else cast_new vote state ++ (Send (Only from) (Accepted vote.ballot vote.slot) ∷ ask_below from vote.slot state))

-- **Accepted**, to a replica of this term: it counts for the leader's flight of that ballot and slot, and for no other.
unfoldable pub on_accepted : ℕ → ℕ → ℕ → ℕ → Term → List Act
on_accepted members from ballot slot (Follower ended) = []
on_accepted members from ballot slot (Candidate own first heard best) = []
on_accepted members from ballot slot (Leader own best None) = []
on_accepted members from ballot slot (Leader own best (Some flight)) =
    if (own == ballot) && (flight.slot == slot)
    then Count from ∷ choose_if members (with_member from flight.accepted) flight.slot flight.entry
    else []

-- **Known**: the next entry is learned. One behind it shows that entries are missing, which are asked for once a letter.
unfoldable pub on_known : ℕ → ℕ → Entry → Bool → State → List Act
on_known from slot entry asked state =
    if slot == prefix_of state then Learn slot entry ∷ [] else (if asked then [] else ask_below from slot state)

-- **AskFrom**: what was learned from a slot on is told; a snapshot, where that slot lies below the base.
unfoldable pub on_ask : ℕ → ℕ → Bool → State → List Act
on_ask from first copied state =
    if nat_lt first state.kept.base then snapshot from copied state
    else send_all from (known_from first (drop (first - state.kept.base) state.learned))

-- **Snap**: the rows of a slot behind the prefix come in the place of all entries below it. Others tell nothing new.
unfoldable pub on_snap : ℕ → List JobRow → State → List Act
on_snap slot rows state = if nat_lt (prefix_of state) slot then Rebase slot rows ∷ [] else []

-- **Lead**: entries that the leader has learned and this replica has not are asked for.
unfoldable pub on_lead : ℕ → ℕ → State → List Act
on_lead from slot state = ask_below from slot state

-- What is done once in a letter, where it was done: an entry behind the next one had this replica ask for those between, and a
-- snapshot was sent.
pub record Once : Type 0 where
  pub asked : Bool
  pub copied : Bool

-- what a message asks for, once its ballot was observed
unfoldable pub line : Identity → ℕ → Message → Once → State → List Act
line self from (Prepare ballot slot) once state = on_prepare from ballot slot once.copied state
line self from (Promise ballot slot votes) once state = on_promise self.members from ballot slot votes state.term
line self from (Accept vote) once state = on_accept from vote once.copied state
line self from (Accepted ballot slot) once state = on_accepted self.members from ballot slot state.term
line self from (Nack ballot promised) once state = []
line self from (Known slot entry) once state = on_known from slot entry once.asked state
line self from (AskFrom slot) once state = on_ask from slot once.copied state
line self from (Snap slot rows) once state = on_snap slot rows state
line self from (Lead ballot slot) once state = on_lead from slot state
line self from (Mention ballot) once state = []

-- **Hear** a message: its ballot is observed first.
unfoldable pub hear : Identity → ℕ → Message → Once → State → List Act
hear self from message once state =
    Observe (ballot_in message) ∷ line self from message once (after_act (Observe (ballot_in message)) state)

-- a message tells an entry behind the next one, so that the entries between are asked for
abbrev pub shows_gap : Message → State → Bool
shows_gap (Known slot entry) state = nat_lt (prefix_of state) slot
shows_gap message state = false

-- one of the acts sends a launch table
abbrev pub sends_copy : List Act → Bool
sends_copy acts = nat_lt 0 (length (copies_of acts))

-- what was done once, with a message that was heard so
abbrev pub once_after : Message → State → List Act → Once → Once
once_after message state acts once =
    record { asked = once.asked || shows_gap message state; copied = once.copied || sends_copy acts }

-- before the first message
abbrev pub not_yet : Once
not_yet = record { asked = false; copied = false }

-- the messages of a letter, one after another
unfoldable pub hear_all : Identity → ℕ → List Message → Once → State → List Act
hear_all self from [] once state = []
hear_all self from (message ∷ messages) once state =
    hear self from message once state
    ++ hear_all self from messages (once_after message state (hear self from message once state) once) (after_acts (hear self from message once state) state)

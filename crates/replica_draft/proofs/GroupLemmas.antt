-- The packets of messages keep the rules of groups: each promise has its old votes behind it, and a snapshot its rows.
use Rattle.std.proofs.Common.{◌≡◌, ℕ, suc, ◌+◌, ◌-◌, Bool, true, false, Some, List, [], ◌∷◌, ◌++◌, length, map, refl, inl, inr, arith}
use Rattle.std.specs.List.{flat_map, slice_get}
use Rattle.std.proofs.lemmas.Bool.{and_from, lt-ltb, eq-eqb, cases_Bool, false≢true}
use Rattle.paxos_base.specs.declared.entry.Vote.{Vote}
use Rattle.paxos_base.specs.declared.rows.JobRow.{JobRow}
use Rattle.paxos_letter.specs.Groups.{keep_groups, no_group}
use Rattle.paxos_letter.specs.Spelling.{fields_of}
use Rattle.paxos_letter.specs.declared.packet.Packet.{Packet}
use Rattle.paxos_letter.specs.declared.packet.Packet.TheVariants as packet
use Rattle.step_spec.specs.Act.{Act, Send}
use Rattle.step_spec.specs.Folds.{sent_by, sent_to}
use Rattle.step_spec.specs.Heard.{packets_of, old_vote}
use Rattle.step_spec.specs.Message.{Message, Prepare, Promise, Accept, Accepted, Nack, Known, AskFrom, Snap, Lead, Mention, goes_to}
use Rattle.replica_draft.proofs.AskLemmas.{IsFree, IsAsk, AreFree, AskOnce}

-- The packets may follow where so many old votes are owed, and where a packet has asked for a change or none has.
abbrev pub Follow : ℕ → ℕ → Bool → List Packet → Type 0
Follow me owed asked packets = keep_groups (record no_group { votes = owed; asked = asked }) (map (fields_of me) packets) ≡ true

votes_follow : (me ballot : ℕ) (votes : List Vote) (rest : List Packet) (owed : ℕ) (asked : Bool) → owed ≡ length votes → Follow me 0 asked rest → Follow me owed asked (map (old_vote ballot) votes ++ rest)
votes_follow me ballot [] rest owed asked is keeps = rw is keeps
votes_follow me ballot (vote ∷ votes) rest owed asked is keeps =
    and_from _ _ (lt-ltb 0 owed (omega (arith, is))) (votes_follow me ballot votes rest (owed - 1) asked (omega (arith, is)) keeps)

free_follow : (me : ℕ) (message : Message) (rest : List Packet) (asked : Bool) → IsFree message → Follow me 0 asked rest → Follow me 0 asked (packets_of message ++ rest)
unfolding packets_of
free_follow me (Prepare ballot slot) rest asked free keeps = absurd free
free_follow me (Promise ballot slot votes) rest true free keeps = votes_follow me ballot votes rest (length votes) true refl keeps
free_follow me (Promise ballot slot votes) rest false free keeps = votes_follow me ballot votes rest (length votes) false refl keeps
free_follow me (Accept vote) rest asked free keeps = absurd free
free_follow me (Accepted ballot slot) rest true free keeps = keeps
free_follow me (Accepted ballot slot) rest false free keeps = keeps
free_follow me (Nack ballot promised) rest true free keeps = keeps
free_follow me (Nack ballot promised) rest false free keeps = keeps
free_follow me (Known slot entry) rest true free keeps = keeps
free_follow me (Known slot entry) rest false free keeps = keeps
free_follow me (AskFrom slot) rest true free keeps = keeps
free_follow me (AskFrom slot) rest false free keeps = keeps
free_follow me (Snap slot rows) rest asked free keeps = absurd free
free_follow me (Lead ballot slot) rest true free keeps = keeps
free_follow me (Lead ballot slot) rest false free keeps = keeps
free_follow me (Mention ballot) rest asked free keeps = absurd free

-- where nothing is owed, the job of the next row says nothing
job_free : (me job : ℕ) (asked : Bool) (packets : List Packet) → Follow me 0 asked packets → keep_groups (record no_group { job = job; asked = asked }) (map (fields_of me) packets) ≡ true
job_free me job asked [] keeps = refl
job_free me job asked (packet.Prepare ballot slot ∷ rest) keeps = keeps
job_free me job asked (packet.Promise ballot slot count ∷ rest) keeps = keeps
job_free me job asked (packet.OldVote ballot slot cast entry ∷ rest) keeps = absurd (false≢true keeps)
job_free me job asked (packet.Accept ballot slot entry ∷ rest) keeps = keeps
job_free me job asked (packet.Accepted ballot slot ∷ rest) keeps = keeps
job_free me job asked (packet.Nack ballot promised ∷ rest) keeps = keeps
job_free me job asked (packet.Known slot entry ∷ rest) keeps = keeps
job_free me job asked (packet.AskFrom slot ∷ rest) keeps = keeps
job_free me job asked (packet.Snap slot count ∷ rest) keeps = keeps
job_free me job asked (packet.SnapRow slot row ∷ rest) keeps = absurd (false≢true keeps)
job_free me job asked (packet.Lead ballot slot ∷ rest) keeps = keeps

-- as many rows as are owed, from a job on
rows_follow : (me slot job owed : ℕ) (rows : List JobRow) (rest : List Packet) → owed ≡ length rows → ((k : ℕ) (row : JobRow) → slice_get rows k ≡ Some row → row.job ≡ job + k) → Follow me 0 true rest
    → keep_groups (record no_group { rows = owed; job = job; asked = true }) (map (fields_of me) (map (packet.SnapRow slot) rows ++ rest)) ≡ true
rows_follow me slot job owed [] rest is in_order keeps = rw is (job_free me job true rest keeps)
rows_follow me slot job owed (row ∷ rows) rest is in_order keeps =
    let first : row.job ≡ job = let at = in_order 0 row refl in omega (arith, at) in
    and_from _ _ (and_from _ _ (lt-ltb 0 owed (omega (arith, is))) (eq-eqb row.job job first))
    (rows_follow me slot (job + 1) (owed - 1) rows rest (omega (arith, is)) (λ k other there. let at = in_order (suc k) other there in omega (arith, at)) keeps)

ask_follows : (me : ℕ) (message : Message) (rest : List Packet) → IsAsk message → Follow me 0 true rest → Follow me 0 false (packets_of message ++ rest)
unfolding packets_of
ask_follows me (Prepare ballot slot) rest asks keeps = keeps
ask_follows me (Promise ballot slot votes) rest asks keeps = absurd asks
ask_follows me (Accept vote) rest asks keeps = keeps
ask_follows me (Accepted ballot slot) rest asks keeps = absurd asks
ask_follows me (Nack ballot promised) rest asks keeps = absurd asks
ask_follows me (Known slot entry) rest asks keeps = absurd asks
ask_follows me (AskFrom slot) rest asks keeps = absurd asks
ask_follows me (Snap slot rows) rest asks keeps =
    rows_follow me slot 0 (length rows) rows rest refl (λ k row is. let at = asks.in_order k row is in omega (arith, at)) keeps
ask_follows me (Lead ballot slot) rest asks keeps = absurd asks
ask_follows me (Mention ballot) rest asks keeps = absurd asks

-- the packets of what some acts send to a replica
abbrev pub told_to : (me member : ℕ) → List Act → List Packet
told_to me member acts = flat_map packets_of (sent_to me member acts)

acts_free : (me member : ℕ) (acts : List Act) (asked : Bool) → AreFree acts → Follow me 0 asked (told_to me member acts)
unfolding sent_by
acts_free me member [] asked free = refl
acts_free me member (Send whom message ∷ acts) asked free =
    let rest = acts_free me member acts asked free.1 in
    elim (cases_Bool (goes_to me whom member)) [
      | inl goes ↦ rw goes (free_follow me message (told_to me member acts) asked free.0 rest)
      | inr not_there ↦ rw not_there rest
    ]
acts_free me member (act ∷ acts) asked free = acts_free me member acts asked free.1

pub acts_once : (me member : ℕ) (acts : List Act) → AskOnce acts → Follow me 0 false (told_to me member acts)
unfolding sent_by
acts_once me member [] once = refl
acts_once me member (Send whom message ∷ acts) (inl free) =
    let rest = acts_once me member acts free.1 in
    elim (cases_Bool (goes_to me whom member)) [
      | inl goes ↦ rw goes (free_follow me message (told_to me member acts) false free.0 rest)
      | inr not_there ↦ rw not_there rest
    ]
acts_once me member (Send whom message ∷ acts) (inr asks) =
    elim (cases_Bool (goes_to me whom member)) [
      | inl goes ↦ rw goes (ask_follows me message (told_to me member acts) asks.0 (acts_free me member acts true asks.1))
      | inr not_there ↦ rw not_there (acts_free me member acts false asks.1)
    ]
acts_once me member (act ∷ acts) (inl free) = acts_once me member acts free.1
acts_once me member (act ∷ acts) (inr asks) = absurd asks.0

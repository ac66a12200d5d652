-- What each line of the table comes to, by what the acceptor and the learner say.
use Rattle.std.proofs.Common.{◌≡◌, ℕ, ◌+◌, ◌<◌, ◌≤◌, Bool, true, false, Option, None, Some, List, [], ◌∷◌, ◌++◌, refl, sym, ap, ◌∙◌, inl, inr, arith, length, length-append, unwrap_or, leb, ltb, eqb, ◌&&◌, IsSomeAnd}
use Rattle.std.proofs.lemmas.Bool.{le-leb, lt-leb, lt-ltb, le-ltb, eq-eqb, ne_eqb, cases_Bool}
use Rattle.std.proofs.lemmas.List.{length-map, append-nil}
use Rattle.paxos_base.specs.Durable.{after_delta}
use Rattle.paxos_base.specs.Vote.{vote_at, votes_from}
use Rattle.paxos_base.specs.declared.durable.Durable.{Durable}
use Rattle.paxos_base.specs.declared.entry.Entry.{Entry}
use Rattle.paxos_base.specs.declared.entry.Vote.{Vote}
use Rattle.acceptor_core.specs.Acceptor.{HasVoted}
use Rattle.paxos_base.specs.Ballot.{IsAbove, IsAtLeast}
use Rattle.paxos_base.specs.Members.{has_majority, with_member}
use Rattle.term_core.specs.Best.{best_of}
use Rattle.term_core.specs.Term.{accepted_by, after_accepted, after_advance, after_promise, best_votes, chosen_by, has_asked}
use Rattle.term_core.specs.declared.flight.Flight.{Flight}
use Rattle.term_core.specs.declared.term.Term.{Term}
use Rattle.term_core.specs.declared.term.Term.TheVariants.{Follower, Candidate, Leader}
use Rattle.step_spec.specs.Folds.{calls_by, deltas_by, learnt_by}
use Rattle.step_spec.specs.Act.{Act, Cast, Count, Learn, Pledge, Send, after_act}
use Rattle.step_spec.specs.Hear.{ask_below, is_vote_of, on_accept, on_accepted, on_known, on_prepare, on_promise, snapshot}
use Rattle.step_spec.specs.Message.{AskFrom, Known, Nack, Only, Others, Promise}
use Rattle.step_spec.specs.State.{State, prefix_of, promised_in}
use Rattle.step_spec.specs.declared.out.LearntRow.{LearntRow}
use Rattle.replica_draft.specs.Draft.{Chooses, Desk, Goes, FixedParts, LearnsNext, done, drafted, durable_of, entries_in, has_copied, learned_with, said_by, with_best}
use Rattle.replica_core.specs.Lines.{GoesOnByActs, IsFixed, cast_vote, tell_vote}
use Rattle.replica_core.specs.Replica.{DoesAsTerm, FliesAt, base_of, best_in, next_of, next_slot, rows_of}
use Rattle.replica_core.specs.declared.parts.Core.{Core}
use Rattle.replica_draft.specs.declared.change.Change.{Change}
use Rattle.replica_draft.specs.declared.change.Change.TheVariants as change
use Rattle.replica_draft.specs.declared.draft.Draft.{Draft}
use Rattle.replica_draft.proofs.DraftLemmas.{done-append, done-nil, drafted-learn, goes-on}

-- the same acts, called otherwise
pub done_as : (desk : Desk) (acts these : List Act) → acts ≡ these → done these desk ≡ done acts desk
done_as desk acts these same = ap (λ list. done list desk) (sym same)

-- a draft that goes on by acts does what comes to these acts
pub does_as : (core : Core) (old new : Draft) (acts : State → List Act) (these : List Act) → Goes old new these
    → ((kept : FixedParts) → IsFixed core kept → acts (drafted kept old).state ≡ these) → GoesOnByActs core old new acts
does_as core old new acts these goes same kept is = goes kept ∙ done_as (drafted kept old) (acts (drafted kept old).state) these (same kept is)

-- nothing is done
pub does_nothing : (core : Core) (old : Draft) (acts : State → List Act)
    → ((kept : FixedParts) → IsFixed core kept → acts (drafted kept old).state ≡ []) → GoesOnByActs core old old acts
does_nothing core old acts same = does_as core old old acts [] (λ kept. sym (done-nil (drafted kept old))) same

-- the base and the rows there, with what a draft has taken
pub base-drafted : (made : Option Change) (durable : Durable) → (durable_of made durable).base ≡ base_of made durable.base
unfolding after_delta
base-drafted None durable = refl
base-drafted (Some (change.Tried ballot)) durable = refl
base-drafted (Some (change.Promised ballot)) durable = refl
base-drafted (Some (change.Voted vote)) durable = refl
base-drafted (Some (change.Rebased rebased)) durable = refl

pub rows-drafted : (made : Option Change) (durable : Durable) → (durable_of made durable).rows ≡ rows_of made durable.rows
unfolding after_delta
rows-drafted None durable = refl
rows-drafted (Some (change.Tried ballot)) durable = refl
rows-drafted (Some (change.Promised ballot)) durable = refl
rows-drafted (Some (change.Voted vote)) durable = refl
rows-drafted (Some (change.Rebased rebased)) durable = refl

-- where nothing is changed yet, the base is what it was
base-none : (draft : Draft) (durable : Durable) → draft.change ≡ None → (durable_of draft.change durable).base ≡ durable.base
base-none draft durable none = rw none refl

-- the entries of a learner, with those of some rows
entries-count : (entries : List Entry) (rows : List LearntRow) → length (entries ++ entries_in rows) ≡ length entries + length rows
entries-count entries rows = length-append entries (entries_in rows) ∙ rw (length-map rows (λ (row : LearntRow). row.entry)) refl

-- the first slot that isn't learned is by the base, and by what the replica has and the draft has learned
pub next-learned : (made : Option Change) (base : ℕ) (entries : List Entry) (rows : List LearntRow)
    → base_of made base + length (learned_with made entries rows) ≡ next_of made (base + length entries + length rows)
next-learned None base entries rows = rw (entries-count entries rows) (omega arith)
next-learned (Some (change.Tried ballot)) base entries rows = rw (entries-count entries rows) (omega arith)
next-learned (Some (change.Promised ballot)) base entries rows = rw (entries-count entries rows) (omega arith)
next-learned (Some (change.Voted vote)) base entries rows = rw (entries-count entries rows) (omega arith)
next-learned (Some (change.Rebased rebased)) base entries rows = refl

-- the first slot that isn't learned is the learner's, and what the draft has learned
pub drafted-prefix : (core : Core) (draft : Draft) (kept : FixedParts) → IsFixed core kept → prefix_of (drafted kept draft).state ≡ next_slot core.learner draft
drafted-prefix core draft kept is =
    rw (base-drafted draft.change kept.durable, sym is.base, sym is.learned) (next-learned draft.change core.learner.base core.learner.entries draft.learnt.items)

-- what is promised, where nothing is changed yet
pub drafted-promised : (core : Core) (draft : Draft) (kept : FixedParts) → draft.change ≡ None → IsFixed core kept
    → promised_in (drafted kept draft).state.kept ≡ unwrap_or core.acceptor.promised 0
drafted-promised core draft kept none is = rw (none, is.acceptor.promised) refl

-- ---- Prepare

pub prepare-refused : (core : Core) (old new : Draft) (from ballot slot promised : ℕ) → old.change ≡ None
    → (core.acceptor.promised ≡ Some promised) × (ballot ≤ promised) → Goes old new (Send (Only from) (Nack ballot promised) ∷ [])
    → GoesOnByActs core old new (on_prepare from ballot slot (has_copied old))
unfolding on_prepare
prepare-refused core old new from ballot slot promised none refused goes =
    does_as core old new (on_prepare from ballot slot (has_copied old)) (Send (Only from) (Nack ballot promised) ∷ []) goes
    (λ kept is.
    let same : promised_in (drafted kept old).state.kept ≡ promised = drafted-promised core old kept none is ∙ ap (λ option. unwrap_or option 0) refused.0 in
    rw (same, le-leb ballot promised refused.1) refl)

-- a ballot above the promised one is above the number that stands for it
above : (ballot : ℕ) (promised : Option ℕ) → 0 < ballot → IsAbove ballot promised → leb ballot (unwrap_or promised 0) ≡ false
above ballot None positive is = lt-leb ballot 0 positive
above ballot (Some promised) positive is = lt-leb ballot promised is

pub prepare-behind : (core : Core) (old new : Draft) (from ballot slot : ℕ) → old.change ≡ None → 0 < ballot → IsAbove ballot core.acceptor.promised → slot < core.acceptor.base
    → GoesOnByActs core old new (snapshot from (has_copied old)) → GoesOnByActs core old new (on_prepare from ballot slot (has_copied old))
unfolding on_prepare
prepare-behind core old new from ballot slot none positive is_above behind sends kept is =
    sends kept is ∙ done_as (drafted kept old) (on_prepare from ballot slot (has_copied old) (drafted kept old).state) (snapshot from (has_copied old) (drafted kept old).state)
    (rw (drafted-promised core old kept none is, above ballot core.acceptor.promised positive is_above, base-none old kept.durable none, sym is.acceptor.base, lt-ltb slot core.acceptor.base behind) refl)

pub prepare-promised : (core : Core) (old middle new : Draft) (from ballot slot : ℕ) → old.change ≡ None → 0 < ballot
    → IsAbove ballot core.acceptor.promised → core.acceptor.base ≤ slot → Goes old middle (Pledge ballot ∷ []) → Goes middle new (Send (Only from) (Promise ballot slot (votes_from slot core.acceptor.votes)) ∷ [])
    → GoesOnByActs core old new (on_prepare from ballot slot (has_copied old))
unfolding on_prepare
prepare-promised core old middle new from ballot slot none positive is_above reaches pledged sent =
    does_as core old new (on_prepare from ballot slot (has_copied old)) (Pledge ballot ∷ Send (Only from) (Promise ballot slot (votes_from slot core.acceptor.votes)) ∷ [])
    (goes-on old middle new (Pledge ballot ∷ []) (Send (Only from) (Promise ballot slot (votes_from slot core.acceptor.votes)) ∷ []) pledged sent)
    (λ kept is. rw (drafted-promised core old kept none is, above ballot core.acceptor.promised positive is_above, base-none old kept.durable none, sym is.acceptor.base, le-ltb slot core.acceptor.base reaches)
    (rw (none, is.acceptor.votes) refl))

-- ---- Accept

pub asks : (core : Core) (old new : Draft) (from slot : ℕ) → next_slot core.learner old < slot
    → Goes old new (Send (Only from) (AskFrom (next_slot core.learner old)) ∷ []) → GoesOnByActs core old new (ask_below from slot)
asks core old new from slot below goes =
    does_as core old new (ask_below from slot) (Send (Only from) (AskFrom (next_slot core.learner old)) ∷ []) goes
    (λ kept is. rw (drafted-prefix core old kept is, lt-ltb (next_slot core.learner old) slot below) refl)

pub asks_not : (core : Core) (old : Draft) (from slot : ℕ) → slot ≤ next_slot core.learner old → GoesOnByActs core old old (ask_below from slot)
asks_not core old from slot reached =
    does_nothing core old (ask_below from slot)
    (λ kept is. rw (drafted-prefix core old kept is, le-ltb (next_slot core.learner old) slot reached) refl)

-- the prefix of a draft that has cast a vote
cast-prefix : (kept : FixedParts) (old middle : Draft) (vote : Vote) → Goes old middle (Cast vote ∷ []) → prefix_of (drafted kept middle).state ≡ prefix_of (drafted kept old).state
unfolding after_act after_delta
cast-prefix kept old middle vote goes = ap (λ desk. prefix_of desk.state) (goes kept)

pub casts : (core : Core) (old middle new : Draft) (from : ℕ) (vote : Vote) → Goes old middle (Cast vote ∷ [])
    → GoesOnByActs core middle new (tell_vote from vote) → GoesOnByActs core old new (cast_vote from vote)
casts core old middle new from vote cast told kept is =
    told kept is
    ∙ rw (cast-prefix kept old middle vote cast) (ap (done (tell_vote from vote (drafted kept old).state)) (cast kept))
    ∙ sym (done-append (Cast vote ∷ []) (tell_vote from vote (drafted kept old).state) (drafted kept old))

pub accept-refused : (core : Core) (old new : Draft) (from promised : ℕ) (vote : Vote) → old.change ≡ None
    → (core.acceptor.promised ≡ Some promised) × (vote.ballot < promised) → Goes old new (Send (Only from) (Nack vote.ballot promised) ∷ [])
    → GoesOnByActs core old new (on_accept from vote (has_copied old))
unfolding on_accept
accept-refused core old new from promised vote none refused goes =
    does_as core old new (on_accept from vote (has_copied old)) (Send (Only from) (Nack vote.ballot promised) ∷ []) goes
    (λ kept is.
    let same : promised_in (drafted kept old).state.kept ≡ promised = drafted-promised core old kept none is ∙ ap (λ option. unwrap_or option 0) refused.0 in
    rw (same, lt-ltb vote.ballot promised refused.1) refl)

-- a ballot that is the promised one or above it is not below the number that stands for it
at_least : (ballot : ℕ) (promised : Option ℕ) → IsAtLeast ballot promised → ltb ballot (unwrap_or promised 0) ≡ false
at_least ballot None is = le-ltb ballot 0 (omega arith)
at_least ballot (Some promised) is = le-ltb ballot promised is

pub accept-behind : (core : Core) (old new : Draft) (from : ℕ) (vote : Vote) → old.change ≡ None
    → IsAtLeast vote.ballot core.acceptor.promised → vote.slot < core.acceptor.base → GoesOnByActs core old new (snapshot from (has_copied old)) → GoesOnByActs core old new (on_accept from vote (has_copied old))
unfolding on_accept
accept-behind core old new from vote none reaches behind sends kept is =
    sends kept is ∙ done_as (drafted kept old) (on_accept from vote (has_copied old) (drafted kept old).state) (snapshot from (has_copied old) (drafted kept old).state)
    (rw (drafted-promised core old kept none is, at_least vote.ballot core.acceptor.promised reaches, base-none old kept.durable none, sym is.acceptor.base, lt-ltb vote.slot core.acceptor.base behind) refl)

-- it has voted there in this ballot, or not
voted : (ballot : ℕ) (vote : Option Vote) → IsSomeAnd vote (λ vote. vote.ballot ≡ ballot) → is_vote_of ballot vote ≡ true
voted ballot None is = absurd is
voted ballot (Some vote) is = eq-eqb vote.ballot ballot is

not_voted : (ballot : ℕ) (vote : Option Vote) → (IsSomeAnd vote (λ vote. vote.ballot ≡ ballot) → ⊥) → is_vote_of ballot vote ≡ false
not_voted ballot None none = refl
not_voted ballot (Some vote) none = ne_eqb vote.ballot ballot none

pub accept-again : (core : Core) (old new : Draft) (from : ℕ) (vote : Vote) → old.change ≡ None
    → IsAtLeast vote.ballot core.acceptor.promised → core.acceptor.base ≤ vote.slot → HasVoted core.acceptor vote.slot vote.ballot → GoesOnByActs core old new (tell_vote from vote)
    → GoesOnByActs core old new (on_accept from vote (has_copied old))
unfolding on_accept
accept-again core old new from vote none reaches above_base has told kept is =
    told kept is ∙ done_as (drafted kept old) (on_accept from vote (has_copied old) (drafted kept old).state) (tell_vote from vote (drafted kept old).state)
    (rw (drafted-promised core old kept none is, at_least vote.ballot core.acceptor.promised reaches, base-none old kept.durable none, sym is.acceptor.base, le-ltb vote.slot core.acceptor.base above_base)
    (rw (none, sym is.acceptor.votes, voted vote.ballot (vote_at vote.slot core.acceptor.votes) has) refl))

pub accept-cast : (core : Core) (old new : Draft) (from : ℕ) (vote : Vote) → old.change ≡ None
    → IsAtLeast vote.ballot core.acceptor.promised → core.acceptor.base ≤ vote.slot → (HasVoted core.acceptor vote.slot vote.ballot → ⊥) → GoesOnByActs core old new (cast_vote from vote)
    → GoesOnByActs core old new (on_accept from vote (has_copied old))
unfolding on_accept
accept-cast core old new from vote none reaches above_base has_not cast kept is =
    cast kept is ∙ done_as (drafted kept old) (on_accept from vote (has_copied old) (drafted kept old).state) (cast_vote from vote (drafted kept old).state)
    (rw (drafted-promised core old kept none is, at_least vote.ballot core.acceptor.promised reaches, base-none old kept.durable none, sym is.acceptor.base, le-ltb vote.slot core.acceptor.base above_base)
    (rw (none, sym is.acceptor.votes, not_voted vote.ballot (vote_at vote.slot core.acceptor.votes) has_not) refl))

-- ---- Known

pub known-next : (core : Core) (old new : Draft) (from slot : ℕ) (entry : Entry) (asked : Bool) → slot ≡ next_slot core.learner old
    → LearnsNext old new slot entry → GoesOnByActs core old new (on_known from slot entry asked)
unfolding on_known
known-next core old new from slot entry asked at learns kept is =
    let next : slot ≡ prefix_of (drafted kept old).state = at ∙ sym (drafted-prefix core old kept is) in
    drafted-learn kept old new slot entry learns next ∙ done_as (drafted kept old) (on_known from slot entry asked (drafted kept old).state) (Learn slot entry ∷ [])
    (rw (eq-eqb slot (prefix_of (drafted kept old).state) next) refl)

pub known-later : (core : Core) (old new : Draft) (from slot : ℕ) (entry : Entry) → (slot ≡ next_slot core.learner old → ⊥)
    → GoesOnByActs core old new (ask_below from slot) → GoesOnByActs core old new (on_known from slot entry false)
unfolding on_known
known-later core old new from slot entry other asks kept is =
    let differs : eqb slot (prefix_of (drafted kept old).state) ≡ false = ne_eqb slot (prefix_of (drafted kept old).state) (λ same. other (same ∙ drafted-prefix core old kept is)) in
    asks kept is ∙ done_as (drafted kept old) (on_known from slot entry false (drafted kept old).state) (ask_below from slot (drafted kept old).state) (rw differs refl)

pub known-asked : (core : Core) (old : Draft) (from slot : ℕ) (entry : Entry) → (slot ≡ next_slot core.learner old → ⊥)
    → GoesOnByActs core old old (on_known from slot entry true)
unfolding on_known
known-asked core old from slot entry other =
    does_nothing core old (on_known from slot entry true)
    (λ kept is. rw (ne_eqb slot (prefix_of (drafted kept old).state) (λ same. other (same ∙ drafted-prefix core old kept is))) refl)

-- ---- Accepted

-- a draft counts a vote for its flight
counts : (kept : FixedParts) (old : Draft) (from own : ℕ) (votes : List Vote) (flight : Flight) → old.term ≡ Leader own votes (Some flight)
    → drafted kept (record old { term = Leader own votes (Some (accepted_by from flight)) }) ≡ done (Count from ∷ []) (drafted kept old)
unfolding after_act deltas_by learnt_by said_by calls_by
counts kept old from own votes flight is =
    rw (is, append-nil (drafted kept old).deltas, append-nil (drafted kept old).learnt, append-nil (drafted kept old).said, append-nil (drafted kept old).calls) refl

-- nothing is done, by a term that asks for nothing
idle : (core : Core) (old new : Draft) (acts : Term → List Act) → new ≡ old → ((best : List Vote) → acts (with_best best old.term) ≡ []) → DoesAsTerm core old new acts
idle core old new acts same none kept is best =
    ap (drafted kept) same ∙ sym (done-nil (drafted kept old)) ∙ done_as (drafted kept old) (acts (drafted kept old).state.term) [] (none (unwrap_or old.best kept.best))

-- a draft with the term that it has
as_it_was : (old : Draft) (term : Term) → old.term ≡ term → record old { term = term } ≡ old
as_it_was old term is = ap (λ term. record old { term = term }) (sym is)

pub accepted-none : (core : Core) (old : Draft) (term : Term) (from ballot slot : ℕ) → old.term ≡ term → chosen_by core.members from ballot slot term ≡ None
    → DoesAsTerm core old (record old { term = after_accepted core.members from ballot slot term }) (on_accepted core.members from ballot slot)
unfolding on_accepted
accepted-none core old (Follower ended) from ballot slot is none =
    idle core old (record old { term = Follower ended }) (on_accepted core.members from ballot slot) (as_it_was old (Follower ended) is) (λ best. rw is refl)
accepted-none core old (Candidate own first heard votes) from ballot slot is none =
    idle core old (record old { term = Candidate own first heard votes }) (on_accepted core.members from ballot slot) (as_it_was old (Candidate own first heard votes) is) (λ best. rw is refl)
accepted-none core old (Leader own votes None) from ballot slot is none =
    idle core old (record old { term = Leader own votes None }) (on_accepted core.members from ballot slot) (as_it_was old (Leader own votes None) is) (λ best. rw is refl)
accepted-none core old (Leader own votes (Some flight)) from ballot slot is none =
    elim (cases_Bool (eqb own ballot && eqb flight.slot slot)) [
      | inl counted ↦ elim (cases_Bool (has_majority core.members (with_member from flight.accepted))) [
        | inl chosen ↦ let some : Some (record { slot = flight.slot; ballot = own; entry = flight.entry }) ≡ None = rw (counted, chosen) at none in absurd cc
        | inr waits ↦ λ kept kept_is best. rw (counted, waits) (counts kept old from own votes flight is ∙ done_as (drafted kept old) (on_accepted core.members from ballot slot (drafted kept old).state.term) (Count from ∷ []) (rw (is, counted, waits) refl))
      ]
      | inr other ↦ rw other (idle core old (record old { term = Leader own votes (Some flight) }) (on_accepted core.members from ballot slot) (as_it_was old (Leader own votes (Some flight)) is) (λ best. rw (is, other) refl))
    ]

not_both : (option : Option Vote) (vote : Vote) → option ≡ None → option ≡ Some vote → ⊥
not_both option vote none some = absurd cc

-- what is done once a majority has voted for a flight
abbrev chosen_acts : ℕ → Flight → List Act
chosen_acts from flight = Count from ∷ Learn flight.slot flight.entry ∷ Send Others (Known flight.slot flight.entry) ∷ []

counted-chosen : (kept : FixedParts) (old new : Draft) (from own : ℕ) (votes : List Vote) (flight : Flight) → old.term ≡ Leader own votes (Some flight)
    → flight.slot ≡ prefix_of (drafted kept old).state → Chooses (record old { term = Leader own votes None }) new flight.slot flight.entry
    → drafted kept new ≡ done (chosen_acts from flight) (drafted kept old)
counted-chosen kept old new from own votes flight is at chooses =
    let counted : Draft = record old { term = Leader own votes (Some (accepted_by from flight)) } in
    let landed : Leader own votes None ≡ after_advance (flight.slot + 1) (Leader own votes (Some (accepted_by from flight))) = rw (lt-ltb flight.slot (flight.slot + 1) (omega arith)) refl in
    let learns : LearnsNext counted chooses.middle flight.slot flight.entry = record {
      seen = chooses.learns.seen;
      term = chooses.learns.term ∙ landed;
      best = chooses.learns.best;
      change = chooses.learns.change;
      learnt = chooses.learns.learnt;
      sends = chooses.learns.sends;
      call = chooses.learns.call;
    } in
    chooses.told kept
    ∙ ap (done (Send Others (Known flight.slot flight.entry) ∷ [])) (drafted-learn kept counted chooses.middle flight.slot flight.entry learns at)
    ∙ sym (done-append (Learn flight.slot flight.entry ∷ []) (Send Others (Known flight.slot flight.entry) ∷ []) (drafted kept counted))
    ∙ ap (done (Learn flight.slot flight.entry ∷ Send Others (Known flight.slot flight.entry) ∷ [])) (counts kept old from own votes flight is)
    ∙ sym (done-append (Count from ∷ []) (Learn flight.slot flight.entry ∷ Send Others (Known flight.slot flight.entry) ∷ []) (drafted kept old))

pub accepted-chosen : (core : Core) (old middle new : Draft) (term : Term) (vote : Vote) (from ballot slot : ℕ) → old.term ≡ term
    → chosen_by core.members from ballot slot term ≡ Some vote → middle ≡ record old { term = after_accepted core.members from ballot slot term }
    → FliesAt (next_slot core.learner old) old.term → Chooses middle new vote.slot vote.entry
    → DoesAsTerm core old new (on_accepted core.members from ballot slot)
unfolding on_accepted
accepted-chosen core old middle new (Follower ended) vote from ballot slot is none counted flies chooses = absurd cc
accepted-chosen core old middle new (Candidate own first heard votes) vote from ballot slot is none counted flies chooses = absurd cc
accepted-chosen core old middle new (Leader own votes None) vote from ballot slot is none counted flies chooses = absurd cc
accepted-chosen core old middle new (Leader own votes (Some flight)) vote from ballot slot is some counted flies chooses =
    elim (cases_Bool (eqb own ballot && eqb flight.slot slot)) [
      | inl hit ↦ elim (cases_Bool (has_majority core.members (with_member from flight.accepted))) [
        | inl chosen ↦
            let known : Some (record { slot = flight.slot; ballot = own; entry = flight.entry }) ≡ Some vote = rw (hit, chosen) at some in
            let same : record { slot = flight.slot; ballot = own; entry = flight.entry } ≡ vote = cc in
            let landed : middle ≡ record old { term = Leader own votes None } = rw (hit, chosen) at counted in
            let slot_is : vote.slot ≡ flight.slot = rw (← same) refl in
            let entry_is : vote.entry ≡ flight.entry = rw (← same) refl in
            let chosen_now : Chooses (record old { term = Leader own votes None }) new flight.slot flight.entry = rw (landed, slot_is, entry_is) at chooses in
            let stands : flight.slot ≡ next_slot core.learner old = rw is at flies in
            λ kept kept_is best.
            counted-chosen kept old new from own votes flight is (stands ∙ sym (drafted-prefix core old kept kept_is)) chosen_now
            ∙ done_as (drafted kept old) (on_accepted core.members from ballot slot (drafted kept old).state.term) (chosen_acts from flight) (rw (is, hit, chosen) refl)
        | inr waits ↦ absurd (not_both (chosen_by core.members from ballot slot (Leader own votes (Some flight))) vote (rw (hit, waits) refl) some)
      ]
      | inr other ↦ absurd (not_both (chosen_by core.members from ballot slot (Leader own votes (Some flight))) vote (rw other refl) some)
    ]

-- ---- Promise

pub promise-other : (core : Core) (old : Draft) (term : Term) (from ballot slot : ℕ) (votes : List Vote) → old.term ≡ term → has_asked ballot slot term ≡ false
    → DoesAsTerm core old old (on_promise core.members from ballot slot votes)
unfolding on_promise
promise-other core old (Follower ended) from ballot slot votes is other = idle core old old (on_promise core.members from ballot slot votes) refl (λ best. rw is refl)
promise-other core old (Candidate own first heard none) from ballot slot votes is other = idle core old old (on_promise core.members from ballot slot votes) refl (λ best. rw (is, other) refl)
promise-other core old (Leader own none flight) from ballot slot votes is other = idle core old old (on_promise core.members from ballot slot votes) refl (λ best. rw is refl)

pub promise-counts : (core : Core) (old : Draft) (term : Term) (best : Option (List Vote)) (from ballot slot : ℕ) (votes : List Vote) → old.term ≡ term → has_asked ballot slot term ≡ true
    → unwrap_or best (best_votes core.term) ≡ best_of (best_in core old) votes
    → DoesAsTerm core old (record old { best = best; term = after_promise core.members from ballot slot [] term }) (on_promise core.members from ballot slot votes)
unfolding on_promise after_act deltas_by learnt_by said_by calls_by
promise-counts core old (Follower ended) best from ballot slot votes is asked gathered = absurd cc
promise-counts core old (Candidate own first heard none) best from ballot slot votes is asked gathered =
    λ kept kept_is best_is. elim (cases_Bool (has_majority core.members (with_member from heard))) [
      | inl leads ↦ rw (is, asked, leads, best_is, gathered, append-nil (drafted kept old).deltas, append-nil (drafted kept old).learnt, append-nil (drafted kept old).said, append-nil (drafted kept old).calls) refl
      | inr waits ↦ rw (is, asked, waits, best_is, gathered, append-nil (drafted kept old).deltas, append-nil (drafted kept old).learnt, append-nil (drafted kept old).said, append-nil (drafted kept old).calls) refl
    ]
promise-counts core old (Leader own none flight) best from ballot slot votes is asked gathered = absurd cc

-- a draft whose best votes were gathered before the promise is counted
pub promise-gathered : (core : Core) (old middle : Draft) (after : Term) (from ballot slot : ℕ) (votes : List Vote) → has_asked ballot slot old.term ≡ true
    → best_in core middle ≡ best_of (best_in core old) votes → middle ≡ record old { best = middle.best } → after ≡ after_promise core.members from ballot slot [] middle.term
    → DoesAsTerm core old (record middle { term = after }) (on_promise core.members from ballot slot votes)
promise-gathered core old middle after from ballot slot votes asked gathered kept term_is kept_as is best =
    let same : record middle { term = after } ≡ record old { best = middle.best; term = after } = ap (λ (draft : Draft). record draft { term = after }) kept in
    let term_was : middle.term ≡ old.term = ap (λ (draft : Draft). draft.term) kept in
    let now : after ≡ after_promise core.members from ballot slot [] old.term = term_is ∙ ap (after_promise core.members from ballot slot []) term_was in
    ap (drafted kept_as) (same ∙ ap (λ (term : Term). record old { best = middle.best; term = term }) now)
    ∙ promise-counts core old old.term middle.best from ballot slot votes refl asked gathered kept_as is best

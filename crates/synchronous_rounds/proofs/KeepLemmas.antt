-- The prefix of one that follows doesn't fall, whatever it hears that changes nothing of who leads.
use Rattle.std.proofs.Common.{◌≡◌, ℕ, ◌-◌, ◌≤◌, List, [], ◌∷◌, ◌++◌, drop, eqb, ltb, leb, Option, None, Some, ℤ, refl, inl, inr, arith, length-append}
use Rattle.std.specs.List.{AllByRecursion}
use Rattle.std.proofs.lemmas.Bool.{cases_Bool, ltb-true}
use Rattle.paxos_base.specs.Durable.{after_delta}
use Rattle.paxos_base.specs.Vote.{vote_at}
use Rattle.paxos_base.specs.declared.entry.Entry.TheVariants.{End}
use Rattle.paxos_base.specs.declared.rows.JobRow.{JobRow}
use Rattle.cluster_sched.specs.declared.row.SchedRow.{SchedRow}
use Rattle.step_spec.specs.Act.{after_act}
use Rattle.step_spec.specs.Folds.{after_acts}
use Rattle.step_spec.specs.Hear.{Once, hear, hear_all, is_vote_of, known_from, line, not_yet, on_prepare, on_accept, on_known, on_ask, on_lead, on_snap, once_after}
use Rattle.step_spec.specs.May.{IsFollower}
use Rattle.step_spec.specs.Message.{Message, Prepare, Promise, Accept, Accepted, Nack, Known, AskFrom, Snap, Lead, Mention, ballot_in}
use Rattle.step_spec.specs.Propose.{answer, is_long, is_open, tick}
use Rattle.step_spec.specs.State.{Identity, State, prefix_of, promised_in}
use Rattle.step_spec.specs.Step.{Event, Tick, Plan, step}
use Rattle.synchronous_rounds.specs.Cluster.{HeardLetter, after_events, answer_events, hear_events, letters_to}
use Rattle.synchronous_rounds.specs.LedAlone.{AreWithin, IsBehind, StaysWithin}
use Rattle.synchronous_rounds.proofs.ActLemmas.{observed, rebased_prefix, silent_ask, silent_sends, silent_snapshot}
use Rattle.synchronous_rounds.proofs.FollowerLemmas.{behind_all, behind_hear, behind_mail, behind_observed, no_accepted, no_answer, no_promise, no_tick}
use Rattle.step_spec.proofs.Lists.{after_acts-append}

-- ---- a message

keeps_line : (self : Identity) (from : ℕ) (message : Message) (once : Once) (state : State) → IsFollower state.term → prefix_of state ≤ prefix_of (after_acts (line self from message once state) state)
unfolding line on_lead on_prepare on_accept on_known on_ask on_snap after_act after_delta
keeps_line self from (Prepare ballot slot) once state follows =
    elim (cases_Bool (leb ballot (promised_in state.kept))) [
      | inl refused ↦ rw refused (omega arith)
      | inr above ↦ rw above (elim (cases_Bool (ltb slot state.kept.base)) [
        | inl below ↦ rw below (rw (silent_snapshot from once.copied state state) (omega arith))
        | inr kept ↦ rw kept (omega arith)
      ])
    ]
keeps_line self from (Promise ballot slot votes) once state follows = rw (no_promise self.members from ballot slot votes state.term follows) (omega arith)
keeps_line self from (Accept vote) once state follows =
    elim (cases_Bool (ltb vote.ballot (promised_in state.kept))) [
      | inl refused ↦ rw refused (omega arith)
      | inr least ↦ rw least (elim (cases_Bool (ltb vote.slot state.kept.base)) [
        | inl below ↦ rw below (rw (silent_snapshot from once.copied state state) (omega arith))
        | inr kept ↦ rw kept (elim (cases_Bool (is_vote_of vote.ballot (vote_at vote.slot state.kept.votes))) [
          | inl again ↦ rw again (rw (silent_ask from vote.slot state _) (omega arith))
          | inr new ↦ rw new (rw (silent_ask from vote.slot state _) (omega arith))
        ])
      ])
    ]
keeps_line self from (Accepted ballot slot) once state follows = rw (no_accepted self.members from ballot slot state.term follows) (omega arith)
keeps_line self from (Nack ballot promised) once state follows = omega arith
keeps_line self from (Known slot entry) once state follows =
    elim (cases_Bool (eqb slot (prefix_of state))) [
      | inl next ↦ let longer = length-append state.learned (entry ∷ []) in rw next (omega (arith, longer))
      | inr other ↦ rw other (elim (cases_Bool once.asked) [ inl before ↦ rw before (omega arith) | inr first ↦ rw first (rw (silent_ask from slot state state) (omega arith)) ])
    ]
keeps_line self from (AskFrom slot) once state follows =
    elim (cases_Bool (ltb slot state.kept.base)) [
      | inl below ↦ rw below (rw (silent_snapshot from once.copied state state) (omega arith))
      | inr kept ↦ rw kept (rw (silent_sends from (known_from slot (drop (slot - state.kept.base) state.learned)) state) (omega arith))
    ]
keeps_line self from (Snap slot rows) once state follows =
    elim (cases_Bool (ltb (prefix_of state) slot)) [
      | inl lacks ↦
          let high = ltb-true (prefix_of state) slot lacks in
          let at = rebased_prefix slot rows state (omega (arith, high)) in
          rw lacks (omega (arith, at, high))
      | inr has ↦ rw has (omega arith)
    ]
keeps_line self from (Lead ballot slot) once state follows = rw (silent_ask from slot state state) (omega arith)
keeps_line self from (Mention ballot) once state follows = omega arith

pub keeps_hear : (self : Identity) (b p from : ℕ) (message : Message) (once : Once) (state : State) → IsBehind b p state → prefix_of state ≤ prefix_of (after_acts (hear self from message once state) state)
unfolding hear after_act
keeps_hear self b p from message once state behind =
    keeps_line self from message once (observed (ballot_in message) state) (behind_observed b p (ballot_in message) state behind).follows

-- ---- a letter

pub keeps_all : (self : Identity) (b p from : ℕ) (messages : List Message) (once : Once) (state : State) → AllByRecursion (StaysWithin b p) messages → IsBehind b p state → prefix_of state ≤ prefix_of (after_acts (hear_all self from messages once state) state)
unfolding hear_all
keeps_all self b p from [] once state within behind = omega arith
keeps_all self b p from (message ∷ messages) once state within behind =
    let acts = hear self from message once state in
    let now = after_acts acts state in
    let later = once_after message state acts once in
    let first = keeps_hear self b p from message once state behind in
    let rest = keeps_all self b p from messages later now within.1 (behind_hear self b p from message once state within.0 behind) in
    rw (after_acts-append acts (hear_all self from messages later now) state) (omega (arith, first, rest))

-- one that has learned as much as the leader stays so
pub stays_caught_up : (self : Identity) (b p from : ℕ) (messages : List Message) (once : Once) (state : State) → AllByRecursion (StaysWithin b p) messages → IsBehind b p state → p ≤ prefix_of state → prefix_of (after_acts (hear_all self from messages once state) state) ≡ p
stays_caught_up self b p from messages once state within behind least =
    let up = keeps_all self b p from messages once state within behind in
    let low = behind_all self b p from messages once state within behind in
    omega (arith, up, low.short, least)

-- ---- a round

keeps_tick : (self : Identity) (now : ℤ) (plan : Plan) (state : State) → IsFollower state.term → prefix_of state ≤ prefix_of (after_acts (step self (Tick now plan) state) state)
unfolding step tick after_act after_delta
keeps_tick self now plan state follows =
    elim (cases_Bool (is_long state)) [
      | inl long ↦ let at = rebased_prefix (prefix_of state) plan.rows state (omega arith) in rw long (omega (arith, at))
      | inr short ↦ rw short (rw (no_tick self now plan.intent state state.term follows) (omega arith))
    ]

pub keeps_mail : (self : Identity) (b p : ℕ) (now : ℤ) (plan : Plan) (mail : List HeardLetter) (state : State) → AreWithin b p mail → IsBehind b p state → prefix_of state ≤ prefix_of (after_events self (hear_events mail ++ Tick now plan ∷ []) state)
unfolding step
keeps_mail self b p now plan [] state within behind = keeps_tick self now plan state behind.follows
keeps_mail self b p now plan (letter ∷ mail) state within behind =
    let first = keeps_all self b p letter.from letter.messages not_yet state within.0 behind in
    let rest = keeps_mail self b p now plan mail _ within.1 (behind_all self b p letter.from letter.messages not_yet state within.0 behind) in
    omega (arith, first, rest)

pub caught_up_mail : (self : Identity) (b p : ℕ) (now : ℤ) (plan : Plan) (mail : List HeardLetter) (state : State) → AreWithin b p mail → IsBehind b p state → p ≤ prefix_of state → prefix_of (after_events self (hear_events mail ++ Tick now plan ∷ []) state) ≡ p
caught_up_mail self b p now plan mail state within behind least =
    let up = keeps_mail self b p now plan mail state within behind in
    let low = behind_mail self b p now plan mail state within behind in
    omega (arith, up, low.short, least)

-- an answer is nothing to one that follows
pub answer_after : (self : Identity) (waits : Option SchedRow) (rows : List JobRow) (rest : List Event) (state : State) → IsFollower state.term → after_events self (answer_events waits rows ++ rest) state ≡ after_events self rest state
unfolding step answer
answer_after self None rows rest state follows = refl
answer_after self (Some row) rows rest state follows =
    rw (no_answer self state (End row.name.job row.name.at row.kind) (is_open row.name.job row.name.at rows) state.term follows) refl

pub answer_letters : (self : Identity) (to : ℕ) (waits : Option SchedRow) (rows : List JobRow) (rest : List Event) (state : State) → IsFollower state.term → letters_to self to (answer_events waits rows ++ rest) state ≡ letters_to self to rest state
unfolding step answer
answer_letters self to None rows rest state follows = refl
answer_letters self to (Some row) rows rest state follows =
    rw (no_answer self state (End row.name.job row.name.at row.kind) (is_open row.name.job row.name.at rows) state.term follows) refl

-- What a replica does that follows, and has learned no more than the one that leads.
use Rattle.std.proofs.Common.{◌≡◌, ℕ, ◌+◌, ◌-◌, ◌<◌, ◌≤◌, Bool, List, [], ◌∷◌, ◌++◌, drop, eqb, ltb, leb, Option, None, Some, ℤ, refl, sym, inl, inr, arith, subst, length-append}
use Rattle.std.specs.List.{AllByRecursion, Contains}
use Rattle.std.proofs.lemmas.Bool.{cases_Bool, eqb-true, ltb-true}
use Rattle.std.proofs.lemmas.List.Elements.{Contains-append_left, Contains-append_right}
use Rattle.paxos_base.specs.Durable.{after_delta}
use Rattle.paxos_base.specs.Vote.{vote_at}
use Rattle.paxos_base.specs.declared.entry.Entry.{Entry}
use Rattle.paxos_base.specs.declared.entry.Entry.TheVariants.{End}
use Rattle.paxos_base.specs.declared.entry.Vote.{Vote}
use Rattle.paxos_base.specs.declared.rows.JobRow.{JobRow}
use Rattle.cluster_sched.specs.declared.row.SchedRow.{SchedRow}
use Rattle.launch_machine.specs.declared.machine.Intent.{Intent}
use Rattle.term_core.specs.declared.term.Term.{Term}
use Rattle.term_core.specs.declared.term.Term.TheVariants.{Follower, Candidate, Leader}
use Rattle.step_spec.specs.Act.{Observe, Send, after_act}
use Rattle.step_spec.specs.Folds.{after_acts}
use Rattle.step_spec.specs.Hear.{Once, ask_below, cast_new, hear, hear_all, is_vote_of, known_from, line, not_yet, on_prepare, on_promise, on_accept, on_accepted, on_known, on_ask, on_lead, on_snap, once_after}
use Rattle.step_spec.specs.May.{IsFollower}
use Rattle.step_spec.specs.Message.{Message, Prepare, Promise, Accept, Accepted, Nack, Known, AskFrom, Snap, Lead, Mention, Only, ballot_in}
use Rattle.step_spec.specs.Propose.{answer, answer_of, is_long, is_open, tick, tick_of}
use Rattle.step_spec.specs.State.{Identity, State, prefix_of, promised_in}
use Rattle.step_spec.specs.Step.{Tick, Answer, Plan, step}
use Rattle.step_spec.proofs.Lists.{nothing_in, after_acts-append}
use Rattle.synchronous_rounds.specs.Cluster.{HeardLetter, after_events, answer_events, hear_events}
use Rattle.synchronous_rounds.specs.LedAlone.{AreWithin, IsBehind, StaysWithin}
use Rattle.synchronous_rounds.proofs.ActLemmas.{follows_later, follows_on, observed, rebased_prefix, silent_ask, silent_sends, silent_snapshot}
use Rattle.due_set.proofs.Rising.{Contains-head as in_first, Contains-tail as in_rest, Contains-cases as cons_cases}

-- ---- what a follower doesn't do

pub no_promise : (members from ballot slot : ℕ) (votes : List Vote) (term : Term) → IsFollower term → on_promise members from ballot slot votes term ≡ []
unfolding on_promise
no_promise members from ballot slot votes (Follower ended) follows = refl
no_promise members from ballot slot votes (Candidate own first heard best) follows = absurd follows
no_promise members from ballot slot votes (Leader own best flight) follows = absurd follows

pub no_accepted : (members from ballot slot : ℕ) (term : Term) → IsFollower term → on_accepted members from ballot slot term ≡ []
unfolding on_accepted
no_accepted members from ballot slot (Follower ended) follows = refl
no_accepted members from ballot slot (Candidate own first heard best) follows = absurd follows
no_accepted members from ballot slot (Leader own best flight) follows = absurd follows

pub no_tick : (self : Identity) (now : ℤ) (intent : Intent) (state : State) (term : Term) → IsFollower term → tick_of self now intent state term ≡ []
no_tick self now intent state (Follower ended) follows = refl
no_tick self now intent state (Candidate own first heard best) follows = absurd follows
no_tick self now intent state (Leader own best flight) follows = absurd follows

pub no_answer : (self : Identity) (state : State) (entry : Entry) (open_now : Bool) (term : Term) → IsFollower term → answer_of self state entry open_now term ≡ []
no_answer self state entry open_now (Follower ended) follows = refl
no_answer self state entry open_now (Candidate own first heard best) follows = absurd follows
no_answer self state entry open_now (Leader own best flight) follows = absurd follows

-- ---- what it hears

behind_prepare : (b p from ballot slot : ℕ) (copied : Bool) (state : State) → ballot ≤ b → IsBehind b p state → IsBehind b p (after_acts (on_prepare from ballot slot copied state) state)
unfolding on_prepare after_act after_delta
behind_prepare b p from ballot slot copied state low behind =
    elim (cases_Bool (leb ballot (promised_in state.kept))) [
      | inl refused ↦ rw refused behind
      | inr above ↦ rw above (elim (cases_Bool (ltb slot state.kept.base)) [
        | inl below ↦ rw below (rw (silent_snapshot from copied state state) behind)
        | inr kept ↦ rw kept (record { promised = low; follows = behind.follows; short = behind.short })
      ])
    ]

behind_accept : (b p from : ℕ) (vote : Vote) (copied : Bool) (state : State) → vote.ballot ≤ b → IsBehind b p state → IsBehind b p (after_acts (on_accept from vote copied state) state)
unfolding on_accept after_act after_delta
behind_accept b p from vote copied state low behind =
    elim (cases_Bool (ltb vote.ballot (promised_in state.kept))) [
      | inl refused ↦ rw refused behind
      | inr least ↦ rw least (elim (cases_Bool (ltb vote.slot state.kept.base)) [
        | inl below ↦ rw below (rw (silent_snapshot from copied state state) behind)
        | inr kept ↦ rw kept (elim (cases_Bool (is_vote_of vote.ballot (vote_at vote.slot state.kept.votes))) [
          | inl again ↦ rw again (rw (silent_ask from vote.slot state _) behind)
          | inr new ↦ rw new (rw (silent_ask from vote.slot state _) (record { promised = low; follows = behind.follows; short = behind.short }))
        ])
      ])
    ]

behind_known : (b p from slot : ℕ) (entry : Entry) (asked : Bool) (state : State) → slot < p → IsBehind b p state → IsBehind b p (after_acts (on_known from slot entry asked state) state)
unfolding on_known after_act
behind_known b p from slot entry asked state below behind =
    elim (cases_Bool (eqb slot (prefix_of state))) [
      | inl next ↦
          let at : slot ≡ prefix_of state = eqb-true slot (prefix_of state) next in
          let longer = length-append state.learned (entry ∷ []) in
          rw next (record {
            promised = behind.promised;
            follows = follows_later (prefix_of state + 1) state.term behind.follows;
            short = omega (arith, at, below, longer);
          })
      | inr other ↦ rw other (elim (cases_Bool asked) [
        | inl once ↦ rw once behind
        | inr first ↦ rw first (rw (silent_ask from slot state state) behind)
      ])
    ]

behind_ask : (b p from slot : ℕ) (copied : Bool) (state : State) → IsBehind b p state → IsBehind b p (after_acts (on_ask from slot copied state) state)
unfolding on_ask
behind_ask b p from slot copied state behind =
    elim (cases_Bool (ltb slot state.kept.base)) [
      | inl below ↦ rw below (rw (silent_snapshot from copied state state) behind)
      | inr kept ↦ rw kept (rw (silent_sends from (known_from slot (drop (slot - state.kept.base) state.learned)) state) behind)
    ]

behind_snap : (b p slot : ℕ) (rows : List JobRow) (state : State) → slot ≤ p → IsBehind b p state → IsBehind b p (after_acts (on_snap slot rows state) state)
unfolding on_snap after_act after_delta
behind_snap b p slot rows state below behind =
    elim (cases_Bool (ltb (prefix_of state) slot)) [
      | inl lacks ↦
          let high = ltb-true (prefix_of state) slot lacks in
          let at = rebased_prefix slot rows state (omega (arith, high)) in
          rw lacks (record {
            promised = behind.promised;
            follows = follows_later slot state.term behind.follows;
            short = omega (arith, at, below);
          })
      | inr has ↦ rw has behind
    ]

behind_line : (self : Identity) (b p from : ℕ) (message : Message) (once : Once) (state : State) → StaysWithin b p message → IsBehind b p state → IsBehind b p (after_acts (line self from message once state) state)
unfolding line on_lead
behind_line self b p from (Prepare ballot slot) once state within behind = behind_prepare b p from ballot slot once.copied state within.low behind
behind_line self b p from (Promise ballot slot votes) once state within behind = rw (no_promise self.members from ballot slot votes state.term behind.follows) behind
behind_line self b p from (Accept vote) once state within behind = behind_accept b p from vote once.copied state within.low behind
behind_line self b p from (Accepted ballot slot) once state within behind = rw (no_accepted self.members from ballot slot state.term behind.follows) behind
behind_line self b p from (Nack ballot promised) once state within behind = behind
behind_line self b p from (Known slot entry) once state within behind = behind_known b p from slot entry once.asked state within.below behind
behind_line self b p from (AskFrom slot) once state within behind = behind_ask b p from slot once.copied state behind
behind_line self b p from (Snap slot rows) once state within behind = behind_snap b p slot rows state within.below behind
behind_line self b p from (Lead ballot slot) once state within behind = rw (silent_ask from slot state state) behind
behind_line self b p from (Mention ballot) once state within behind = behind

pub behind_observed : (b p ballot : ℕ) (state : State) → IsBehind b p state → IsBehind b p (observed ballot state)
unfolding after_act
behind_observed b p ballot state behind =
    record { promised = behind.promised; follows = follows_on ballot state.term behind.follows; short = behind.short }

pub behind_hear : (self : Identity) (b p from : ℕ) (message : Message) (once : Once) (state : State) → StaysWithin b p message → IsBehind b p state → IsBehind b p (after_acts (hear self from message once state) state)
unfolding hear
behind_hear self b p from message once state within behind =
    behind_line self b p from message once (observed (ballot_in message) state) within (behind_observed b p (ballot_in message) state behind)

pub behind_all : (self : Identity) (b p from : ℕ) (messages : List Message) (once : Once) (state : State) → AllByRecursion (StaysWithin b p) messages → IsBehind b p state → IsBehind b p (after_acts (hear_all self from messages once state) state)
unfolding hear_all
behind_all self b p from [] once state within behind = behind
behind_all self b p from (message ∷ messages) once state within behind =
    let acts = hear self from message once state in
    let now = after_acts acts state in
    let later = once_after message state acts once in
    rw (after_acts-append acts (hear_all self from messages later now) state)
    (behind_all self b p from messages later now within.1 (behind_hear self b p from message once state within.0 behind))

-- ---- its part of a round

pub behind_tick : (self : Identity) (b p : ℕ) (now : ℤ) (plan : Plan) (state : State) → IsBehind b p state → IsBehind b p (after_acts (step self (Tick now plan) state) state)
unfolding step tick after_act after_delta
behind_tick self b p now plan state behind =
    elim (cases_Bool (is_long state)) [
      | inl long ↦
          let at = rebased_prefix (prefix_of state) plan.rows state (omega arith) in
          rw long (record {
            promised = behind.promised;
            follows = follows_later (prefix_of state) state.term behind.follows;
            short = omega (arith, at, behind.short);
          })
      | inr short ↦ rw short (rw (no_tick self now plan.intent state state.term behind.follows) behind)
    ]

pub behind_answer : (self : Identity) (b p job : ℕ) (at : ℤ) (row : SchedRow) (rows : List JobRow) (state : State) → IsBehind b p state → IsBehind b p (after_acts (step self (Answer job at row.kind rows) state) state)
unfolding step answer
behind_answer self b p job at row rows state behind = rw (no_answer self state (End job at row.kind) (is_open job at rows) state.term behind.follows) behind

pub behind_mail : (self : Identity) (b p : ℕ) (now : ℤ) (plan : Plan) (mail : List HeardLetter) (state : State) → AreWithin b p mail → IsBehind b p state → IsBehind b p (after_events self (hear_events mail ++ Tick now plan ∷ []) state)
unfolding step
behind_mail self b p now plan [] state within behind = behind_tick self b p now plan state behind
behind_mail self b p now plan (letter ∷ mail) state within behind =
    behind_mail self b p now plan mail _ within.1 (behind_all self b p letter.from letter.messages not_yet state within.0 behind)

pub behind_round : (self : Identity) (b p : ℕ) (now : ℤ) (plan : Plan) (waits : Option SchedRow) (rows : List JobRow) (mail : List HeardLetter) (state : State) → AreWithin b p mail → IsBehind b p state → IsBehind b p (after_events self (answer_events waits rows ++ (hear_events mail ++ Tick now plan ∷ [])) state)
behind_round self b p now plan None rows mail state within behind = behind_mail self b p now plan mail state within behind
behind_round self b p now plan (Some row) rows mail state within behind =
    behind_mail self b p now plan mail _ within (behind_answer self b p row.name.job row.name.at row rows state behind)

-- ---- it votes for what the leader proposes

votes_line : (self : Identity) (from : ℕ) (vote : Vote) (once : Once) (state : State) → IsBehind vote.ballot vote.slot state → Contains (line self from (Accept vote) once state) (Send (Only from) (Accepted vote.ballot vote.slot))
unfolding line on_accept
votes_line self from vote once state behind =
    elim (cases_Bool (ltb vote.ballot (promised_in state.kept))) [
      | inl refused ↦
          let high = ltb-true vote.ballot (promised_in state.kept) refused in
          absurd (omega (arith, high, behind.promised))
      | inr least ↦ rw least (elim (cases_Bool (ltb vote.slot state.kept.base)) [
        | inl below ↦
            let low = ltb-true vote.slot state.kept.base below in
            absurd (omega (arith, low, behind.short))
        | inr kept ↦ rw kept (
            Contains-append_right (cast_new vote state) (Send (Only from) (Accepted vote.ballot vote.slot) ∷ ask_below from vote.slot state) _
            (in_first (Send (Only from) (Accepted vote.ballot vote.slot)) (ask_below from vote.slot state)))
      ])
    ]

votes_hear : (self : Identity) (from : ℕ) (vote : Vote) (once : Once) (state : State) → IsBehind vote.ballot vote.slot state → Contains (hear self from (Accept vote) once state) (Send (Only from) (Accepted vote.ballot vote.slot))
unfolding hear
votes_hear self from vote once state behind =
    in_rest (Observe vote.ballot) (line self from (Accept vote) once (observed vote.ballot state)) _
    (votes_line self from vote once (observed vote.ballot state) (behind_observed vote.ballot vote.slot vote.ballot state behind))

pub votes_all : (self : Identity) (from : ℕ) (vote : Vote) (messages : List Message) (once : Once) (state : State) → AllByRecursion (StaysWithin vote.ballot vote.slot) messages → Contains messages (Accept vote) → IsBehind vote.ballot vote.slot state → Contains (hear_all self from messages once state) (Send (Only from) (Accepted vote.ballot vote.slot))
unfolding hear_all
votes_all self from vote [] once state within has behind = nothing_in has
votes_all self from vote (message ∷ messages) once state within has behind =
    let acts = hear self from message once state in
    let now = after_acts acts state in
    let later = once_after message state acts once in
    let rest = hear_all self from messages later now in
    elim (cons_cases message messages (Accept vote) has) [
      | inl same ↦ Contains-append_left acts rest _
          (subst (λ m. Contains (hear self from m once state) (Send (Only from) (Accepted vote.ballot vote.slot))) (sym same) (votes_hear self from vote once state behind))
      | inr behind_it ↦ Contains-append_right acts rest _
          (votes_all self from vote messages later now within.1 behind_it (behind_hear self vote.ballot vote.slot from message once state within.0 behind))
    ]

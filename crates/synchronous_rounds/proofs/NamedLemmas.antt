-- Without a campaign the greatest promise stands still: a replica promises a ballot alone that a letter names, or keeps its own.
use Rattle.std.proofs.Common.{ℕ, ◌+◌, ◌<◌, ◌≤◌, List, [], ◌∷◌, ◌++◌, eqb, ◌&&◌, Option, None, Some, ℤ, sym, inl, inr, arith, subst}
use Rattle.std.specs.List.{AllByRecursion, range_with_len}
use Rattle.std.proofs.lemmas.Bool.{cases_Bool}
use Rattle.paxos_base.specs.Members.{has_majority, with_member}
use Rattle.paxos_base.specs.declared.rows.JobRow.{JobRow}
use Rattle.cluster_sched.specs.declared.row.SchedRow.{SchedRow}
use Rattle.due_set.specs.Table.{Table}
use Rattle.term_core.specs.declared.term.Term.{Term}
use Rattle.term_core.specs.declared.term.Term.TheVariants.{Follower, Candidate, Leader}
use Rattle.step_spec.specs.Act.{after_act}
use Rattle.step_spec.specs.Coherent.{IsCoherent}
use Rattle.step_spec.specs.Folds.{after_acts}
use Rattle.step_spec.specs.Hear.{Once, hear, hear_all, line, not_yet, on_accepted, once_after}
use Rattle.step_spec.specs.Message.{Message, Prepare, Promise, Accept, Accepted, Nack, Known, AskFrom, Snap, Lead, Mention, ballot_in, slot_in}
use Rattle.step_spec.specs.State.{Identity, State, prefix_of, promised_in}
use Rattle.step_spec.specs.Step.{Event, Tick, step}
use Rattle.agreement.specs.Transition.{identity_of}
use Rattle.synchronous_rounds.specs.Cluster.{Advice, Cluster, HeardLetter, IsAdvised, after_events, answer_events, before_tick, cluster_round, events_at, hear_events, letters_to}
use Rattle.synchronous_rounds.specs.LedAlone.{AreWithin, StaysWithin, TellsBelow}
use Rattle.synchronous_rounds.proofs.ActLemmas.{observed}
use Rattle.synchronous_rounds.proofs.Lists.{all_flat, planned_behind}
use Rattle.synchronous_rounds.proofs.RoundLemmas.{round_after, ticked}
use Rattle.synchronous_rounds.proofs.LedAloneLemmas.{plain_round}
use Rattle.synchronous_rounds.proofs.SendLemmas.{letters_within}
use Rattle.synchronous_rounds.specs.Named.{AreNamed, IsNamedUpTo, NamesUpTo}
use Rattle.synchronous_rounds.proofs.BoundLemmas.{IsNoAcceptance, short_line}
use Rattle.synchronous_rounds.proofs.DecidedLemmas.{planned_front}
use Rattle.synchronous_rounds.proofs.ReplyLemmas.{answers_steady, tick_steady}
use Rattle.synchronous_rounds.proofs.TermLemmas.{sound_events}
use Rattle.step_spec.proofs.OutLemmas.{range_below}
use Rattle.step_spec.proofs.Lists.{after_acts-append}

-- ---- a message

low_accepted : (top members from ballot slot : ℕ) (state : State) (term : Term) → promised_in state.kept ≤ top → promised_in (after_acts (on_accepted members from ballot slot term) state).kept ≤ top
unfolding on_accepted after_act
low_accepted top members from ballot slot state (Follower ended) low = low
low_accepted top members from ballot slot state (Candidate own first heard best) low = low
low_accepted top members from ballot slot state (Leader own best None) low = low
low_accepted top members from ballot slot state (Leader own best (Some flight)) low = elim (cases_Bool (eqb own ballot && eqb flight.slot slot)) [
  | inl counts ↦ rw counts (elim (cases_Bool (has_majority members (with_member from flight.accepted))) [ inl enough ↦ rw enough low | inr few ↦ rw few low ])
  | inr other ↦ rw other low
]

-- each message tells slots below some slot alone
far_enough : (n : ℕ) (message : Message) → TellsBelow (slot_in message + 1 + n) message
far_enough n (Known slot entry) = omega arith
far_enough n (Snap slot rows) = omega arith
far_enough n (Prepare ballot slot) = tt
far_enough n (Promise ballot slot votes) = tt
far_enough n (Accept vote) = tt
far_enough n (Accepted ballot slot) = tt
far_enough n (Nack ballot other) = tt
far_enough n (AskFrom slot) = tt
far_enough n (Lead ballot slot) = tt
far_enough n (Mention ballot) = tt

low_other : (self : Identity) (top from : ℕ) (message : Message) (once : Once) (state : State) → NamesUpTo top message → IsNoAcceptance message → promised_in state.kept ≤ top → promised_in (after_acts (line self from message once state) state).kept ≤ top
low_other self top from message once state named none low =
    (short_line self top (slot_in message + 1 + prefix_of state) from message once state (record { low = named; below = far_enough (prefix_of state) message }) none (record { low = low; short = omega arith })).low

heard_accepted : (self : Identity) (top from ballot slot : ℕ) (once : Once) (state : State) → promised_in state.kept ≤ top → promised_in (after_acts (line self from (Accepted ballot slot) once state) state).kept ≤ top
unfolding line
heard_accepted self top from ballot slot once state low = low_accepted top self.members from ballot slot state state.term low

low_line : (self : Identity) (top from : ℕ) (message : Message) (once : Once) (state : State) → NamesUpTo top message → promised_in state.kept ≤ top → promised_in (after_acts (line self from message once state) state).kept ≤ top
low_line self top from (Accepted ballot slot) once state named low = heard_accepted self top from ballot slot once state low
low_line self top from (Prepare ballot slot) once state named low = low_other self top from (Prepare ballot slot) once state named tt low
low_line self top from (Promise ballot slot votes) once state named low = low_other self top from (Promise ballot slot votes) once state named tt low
low_line self top from (Accept vote) once state named low = low_other self top from (Accept vote) once state named tt low
low_line self top from (Nack ballot other) once state named low = low_other self top from (Nack ballot other) once state named tt low
low_line self top from (Known slot entry) once state named low = low_other self top from (Known slot entry) once state named tt low
low_line self top from (AskFrom slot) once state named low = low_other self top from (AskFrom slot) once state named tt low
low_line self top from (Snap slot rows) once state named low = low_other self top from (Snap slot rows) once state named tt low
low_line self top from (Lead ballot slot) once state named low = low_other self top from (Lead ballot slot) once state named tt low
low_line self top from (Mention ballot) once state named low = low_other self top from (Mention ballot) once state named tt low

low_observed : (top ballot : ℕ) (state : State) → promised_in state.kept ≤ top → promised_in (observed ballot state).kept ≤ top
unfolding after_act
low_observed top ballot state low = low

-- ---- letters

low_all : (self : Identity) (top from : ℕ) (messages : List Message) (once : Once) (state : State) → AllByRecursion (NamesUpTo top) messages → promised_in state.kept ≤ top → promised_in (after_acts (hear_all self from messages once state) state).kept ≤ top
unfolding hear_all hear
low_all self top from [] once state named low = low
low_all self top from (message ∷ messages) once state named low =
    let acts = hear self from message once state in
    let now = after_acts acts state in
    let later = once_after message state acts once in
    rw (after_acts-append acts (hear_all self from messages later now) state)
    (low_all self top from messages later now named.1 (low_line self top from message once (observed (ballot_in message) state) named.0 (low_observed top (ballot_in message) state low)))

low_mail : (self : Identity) (top : ℕ) (mail : List HeardLetter) (state : State) → AreNamed top mail → promised_in state.kept ≤ top → promised_in (after_events self (hear_events mail) state).kept ≤ top
unfolding step
low_mail self top [] state named low = low
low_mail self top (letter ∷ mail) state named low = low_mail self top mail _ named.1 (low_all self top letter.from letter.messages not_yet state named.0 low)

-- ---- the round

low_answer : (self : Identity) (top : ℕ) (waits : Option SchedRow) (rows : List JobRow) (state : State) → 2 ≤ self.members → self.me < 8 → IsCoherent self state → promised_in state.kept ≤ top → promised_in (after_events self (answer_events waits rows) state).kept ≤ top
low_answer self top None rows state more small sound low = low
low_answer self top (Some row) rows state more small sound low = let steady = answers_steady self row rows state more small sound in omega (arith, steady.promised, low)

low_round : (members top : ℕ) (table : Table) (now : ℤ) (advice : ℕ → Advice) (answers : ℕ → Option SchedRow) (cluster : Cluster) (who : ℕ) → who < members → members ≤ 7 → 2 ≤ members → IsAdvised members table now advice cluster → IsNamedUpTo members top cluster → promised_in ((cluster_round members now advice answers cluster).replicas who).kept ≤ top
low_round members top table now advice answers cluster who below few more advised named =
    let self = identity_of members who in
    let small : who < 8 = omega (arith, below, few) in
    let front = answer_events (cluster.waits who) (advice who).rows in
    let mail = hear_events (cluster.mails who) in
    let tick : Event = Tick now (advice who).plan in
    let state = cluster.replicas who in
    let middle = after_events self front state in
    let before = before_tick members advice cluster who in
    let planned = advised.planned who below in
    let rest = planned_behind self table front (mail ++ tick ∷ []) state planned in
    let fine = sound_events self table front state small (advised.coherent who below) (planned_front self table front (mail ++ tick ∷ []) state planned) in
    let sound : IsCoherent self before = subst (λ s. IsCoherent self s) (sym (ticked members advice cluster who)) (sound_events self table mail middle small fine (planned_front self table mail (tick ∷ []) middle rest)) in
    let heard : promised_in before.kept ≤ top = subst (λ s. promised_in s.kept ≤ top) (sym (ticked members advice cluster who)) (low_mail self top (cluster.mails who) middle (named.named who below) (low_answer self top (cluster.waits who) (advice who).rows state more small (advised.coherent who below) (named.low who below))) in
    let steady = tick_steady self now (advice who).plan before more small sound in
    subst (λ s. promised_in s.kept ≤ top) (sym (round_after members now advice answers cluster who)) (omega (arith, steady.promised, heard))

names_of : (top p : ℕ) (messages : List Message) → AllByRecursion (StaysWithin top p) messages → AllByRecursion (NamesUpTo top) messages
names_of top p [] within = tt
names_of top p (message ∷ messages) within = (within.0.low, names_of top p messages within.1)

named_of : (top p : ℕ) (mail : List HeardLetter) → AreWithin top p mail → AreNamed top mail
named_of top p [] within = tt
named_of top p (letter ∷ mail) within = (names_of top p letter.messages within.0, named_of top p mail within.1)

pub stands_still : (members top : ℕ) (table : Table) (now : ℤ) (advice : ℕ → Advice) (answers : ℕ → Option SchedRow) (cluster : Cluster) → members ≤ 7 → 2 ≤ members → IsAdvised members table now advice cluster → IsNamedUpTo members top cluster → IsNamedUpTo members top (cluster_round members now advice answers cluster)
stands_still members top table now advice answers cluster few more advised named = record {
  low = low;
  named = λ to below. all_flat (λ letter. AllByRecursion (NamesUpTo top) letter.messages) (letters to) (range_with_len 0 members) (λ other has. each to other (range_below 0 members other has));
}
  where
    next : Cluster
    next = cluster_round members now advice answers cluster

    low : (who : ℕ) → who < members → promised_in (next.replicas who).kept ≤ top
    low who below = low_round members top table now advice answers cluster who below few more advised named

    letters : ℕ → ℕ → List HeardLetter
    letters to other = letters_to (identity_of members other) to (events_at now advice cluster other) (cluster.replicas other)

    each : (to other : ℕ) → other < 0 + members → AreNamed top (letters to other)
    each to other below =
        let mine : other < members = omega (arith, below) in
        let p = prefix_of (next.replicas other) in
        let are = letters_within top p (identity_of members other) table to (events_at now advice cluster other) (cluster.replicas other) (omega (arith, mine, few)) (plain_round now (advice other) (cluster.waits other) (cluster.mails other)) (advised.coherent other mine) (advised.planned other mine) in
        named_of top p (letters to other) (are.within (low other mine) (omega arith))

-- What a leader hears while no letter names a ballot above its own: its term, its launch table, its prefix and its base stay.
use Rattle.std.proofs.Common.{◌≡◌, ℕ, ◌-◌, ◌<◌, ◌≤◌, Bool, List, [], ◌∷◌, drop, eqb, ltb, leb, Option, None, refl, ap, ◌∙◌, inl, inr, arith}
use Rattle.std.specs.List.{AllByRecursion}
use Rattle.std.proofs.lemmas.Bool.{cases_Bool, eqb-true, ltb-true, ltb-false, leb-false, le-ltb}
use Rattle.paxos_base.specs.Durable.{after_delta}
use Rattle.paxos_base.specs.Vote.{vote_at}
use Rattle.paxos_base.specs.declared.entry.Entry.{Entry}
use Rattle.paxos_base.specs.declared.entry.Vote.{Vote}
use Rattle.paxos_base.specs.declared.rows.JobRow.{JobRow}
use Rattle.term_core.specs.declared.flight.Flight.{Flight}
use Rattle.term_core.specs.declared.term.Term.{Term}
use Rattle.term_core.specs.declared.term.Term.TheVariants.{Leader}
use Rattle.step_spec.specs.Act.{after_act}
use Rattle.step_spec.specs.Folds.{after_acts}
use Rattle.step_spec.specs.Hear.{Once, hear, hear_all, is_vote_of, known_from, line, not_yet, on_prepare, on_promise, on_accept, on_accepted, on_known, on_ask, on_lead, on_snap, once_after}
use Rattle.step_spec.specs.Message.{Message, Prepare, Promise, Accept, Accepted, Nack, Known, AskFrom, Snap, Lead, Mention, ballot_in}
use Rattle.step_spec.specs.State.{Identity, State, prefix_of, promised_in}
use Rattle.step_spec.specs.Step.{step}
use Rattle.synchronous_rounds.specs.Cluster.{HeardLetter, after_events, hear_events}
use Rattle.synchronous_rounds.specs.LedAlone.{AreWithin, IsHolding, IsLeading, StaysWithin, Progress}
use Rattle.synchronous_rounds.proofs.ActLemmas.{observed, silent_ask, silent_sends, silent_snapshot}
use Rattle.step_spec.proofs.Lists.{after_acts-append}

-- ---- a message, but for a promise or an acceptance that counts

hold_prepare : (held : Term) (at : Progress) (from ballot slot : ℕ) (copied : Bool) (state : State) → ballot ≤ at.ballot → IsHolding held at state → IsHolding held at (after_acts (on_prepare from ballot slot copied state) state)
unfolding on_prepare after_act
hold_prepare held at from ballot slot copied state low holding =
    elim (cases_Bool (leb ballot (promised_in state.kept))) [
      | inl refused ↦ rw refused holding
      | inr above ↦
          let high = leb-false ballot (promised_in state.kept) above in
          absurd (omega (arith, high, low, holding.promised))
    ]

hold_accept : (held : Term) (at : Progress) (from : ℕ) (vote : Vote) (copied : Bool) (state : State) → vote.ballot ≤ at.ballot → IsHolding held at state → IsHolding held at (after_acts (on_accept from vote copied state) state)
unfolding on_accept after_act after_delta
hold_accept held at from vote copied state low holding =
    elim (cases_Bool (ltb vote.ballot (promised_in state.kept))) [
      | inl refused ↦ rw refused holding
      | inr least ↦
          let high = ltb-false vote.ballot (promised_in state.kept) least in
          rw least (elim (cases_Bool (ltb vote.slot state.kept.base)) [
            | inl below ↦ rw below (rw (silent_snapshot from copied state state) holding)
            | inr kept ↦ rw kept (elim (cases_Bool (is_vote_of vote.ballot (vote_at vote.slot state.kept.votes))) [
              | inl again ↦ rw again (rw (silent_ask from vote.slot state _) holding)
              | inr new ↦ rw new (rw (silent_ask from vote.slot state _) (record {
                is = holding.is;
                promised = omega (arith, high, low, holding.promised);
                launch = holding.launch;
                learned = holding.learned;
                from_base = holding.from_base;
              }))
            ])
          ])
    ]

hold_known : (held : Term) (at : Progress) (from slot : ℕ) (entry : Entry) (asked : Bool) (state : State) → slot < at.prefix → IsHolding held at state → IsHolding held at (after_acts (on_known from slot entry asked state) state)
unfolding on_known
hold_known held at from slot entry asked state below holding =
    elim (cases_Bool (eqb slot (prefix_of state))) [
      | inl next ↦
          let here = eqb-true slot (prefix_of state) next in
          absurd (omega (arith, here, below, holding.learned))
      | inr other ↦ rw other (elim (cases_Bool asked) [
        | inl once ↦ rw once holding
        | inr first ↦ rw first (rw (silent_ask from slot state state) holding)
      ])
    ]

hold_ask : (held : Term) (at : Progress) (from slot : ℕ) (copied : Bool) (state : State) → IsHolding held at state → IsHolding held at (after_acts (on_ask from slot copied state) state)
unfolding on_ask
hold_ask held at from slot copied state holding =
    elim (cases_Bool (ltb slot state.kept.base)) [
      | inl below ↦ rw below (rw (silent_snapshot from copied state state) holding)
      | inr kept ↦ rw kept (rw (silent_sends from (known_from slot (drop (slot - state.kept.base) state.learned)) state) holding)
    ]

hold_snap : (held : Term) (at : Progress) (slot : ℕ) (rows : List JobRow) (state : State) → slot ≤ at.prefix → IsHolding held at state → IsHolding held at (after_acts (on_snap slot rows state) state)
unfolding on_snap
hold_snap held at slot rows state below holding =
    elim (cases_Bool (ltb (prefix_of state) slot)) [
      | inl lacks ↦
          let high = ltb-true (prefix_of state) slot lacks in
          absurd (omega (arith, high, below, holding.learned))
      | inr has ↦ rw has holding
    ]

leader_hears_no_promise : (members from ballot slot own : ℕ) (votes best : List Vote) (flight : Option Flight) → on_promise members from ballot slot votes (Leader own best flight) ≡ []
unfolding on_promise
leader_hears_no_promise members from ballot slot own votes best flight = refl

-- no message changes what it is told of here, but promises and acceptances, which come to nothing in this term
pub hold_line : (self : Identity) (held : Term) (at : Progress) (p from : ℕ) (message : Message) (once : Once) (state : State) → p ≤ at.prefix → StaysWithin at.ballot p message → ((ballot slot : ℕ) (votes : List Vote) → message ≡ Promise ballot slot votes → on_promise self.members from ballot slot votes held ≡ []) → ((ballot slot : ℕ) → message ≡ Accepted ballot slot → on_accepted self.members from ballot slot held ≡ []) → IsHolding held at state → IsHolding held at (after_acts (line self from message once state) state)
unfolding line on_lead
hold_line self held at p from (Prepare ballot slot) once state up within promise other holding = hold_prepare held at from ballot slot once.copied state within.low holding
hold_line self held at p from (Promise ballot slot votes) once state up within promise other holding =
    let none : on_promise self.members from ballot slot votes state.term ≡ [] = ap (λ t. on_promise self.members from ballot slot votes t) holding.is ∙ promise ballot slot votes refl in
    rw none holding
hold_line self held at p from (Accept vote) once state up within promise other holding = hold_accept held at from vote once.copied state within.low holding
hold_line self held at p from (Accepted ballot slot) once state up within promise other holding =
    let none : on_accepted self.members from ballot slot state.term ≡ [] = ap (λ t. on_accepted self.members from ballot slot t) holding.is ∙ other ballot slot refl in
    rw none holding
hold_line self held at p from (Nack ballot promised) once state up within promise other holding = holding
hold_line self held at p from (Known slot entry) once state up within promise other holding =
    hold_known held at from slot entry once.asked state (omega (arith, within.below, up)) holding
hold_line self held at p from (AskFrom slot) once state up within promise other holding = hold_ask held at from slot once.copied state holding
hold_line self held at p from (Snap slot rows) once state up within promise other holding =
    hold_snap held at slot rows state (omega (arith, within.below, up)) holding
hold_line self held at p from (Lead ballot slot) once state up within promise other holding = rw (silent_ask from slot state state) holding
hold_line self held at p from (Mention ballot) once state up within promise other holding = holding

-- nor does a leader's change by promises
pub lead_line : (self : Identity) (best : List Vote) (flight : Option Flight) (at : Progress) (p from : ℕ) (message : Message) (once : Once) (state : State) → p ≤ at.prefix → StaysWithin at.ballot p message → ((ballot slot : ℕ) → message ≡ Accepted ballot slot → on_accepted self.members from ballot slot (Leader at.ballot best flight) ≡ []) → IsLeading best flight at state → IsLeading best flight at (after_acts (line self from message once state) state)
lead_line self best flight at p from message once state up within other leading =
    hold_line self (Leader at.ballot best flight) at p from message once state up within
    (λ ballot slot votes same. leader_hears_no_promise self.members from ballot slot at.ballot votes best flight) other leading

pub leading_observed : (best : List Vote) (flight : Option Flight) (at : Progress) (ballot : ℕ) (state : State) → ballot ≤ at.ballot → IsLeading best flight at state → IsLeading best flight at (observed ballot state)
unfolding after_act
leading_observed best flight at ballot state low leading = record {
  is = rw leading.is (rw (le-ltb at.ballot ballot low) refl);
  promised = leading.promised;
  launch = leading.launch;
  learned = leading.learned;
  from_base = leading.from_base;
}

-- ---- a leader without a flight

no_flight : (members from ballot slot own : ℕ) (best : List Vote) → on_accepted members from ballot slot (Leader own best None) ≡ []
unfolding on_accepted
no_flight members from ballot slot own best = refl

pub free_hear : (self : Identity) (best : List Vote) (at : Progress) (p from : ℕ) (message : Message) (once : Once) (state : State) → p ≤ at.prefix → StaysWithin at.ballot p message → IsLeading best None at state → IsLeading best None at (after_acts (hear self from message once state) state)
unfolding hear
free_hear self best at p from message once state up within leading =
    lead_line self best None at p from message once (observed (ballot_in message) state) up within
    (λ ballot slot same. no_flight self.members from ballot slot at.ballot best)
    (leading_observed best None at (ballot_in message) state within.low leading)

pub free_all : (self : Identity) (best : List Vote) (at : Progress) (p from : ℕ) (messages : List Message) (once : Once) (state : State) → p ≤ at.prefix → AllByRecursion (StaysWithin at.ballot p) messages → IsLeading best None at state → IsLeading best None at (after_acts (hear_all self from messages once state) state)
unfolding hear_all
free_all self best at p from [] once state up within leading = leading
free_all self best at p from (message ∷ messages) once state up within leading =
    let acts = hear self from message once state in
    let now = after_acts acts state in
    let later = once_after message state acts once in
    rw (after_acts-append acts (hear_all self from messages later now) state)
    (free_all self best at p from messages later now up within.1 (free_hear self best at p from message once state up within.0 leading))

pub free_mail : (self : Identity) (best : List Vote) (at : Progress) (p : ℕ) (mail : List HeardLetter) (state : State) → p ≤ at.prefix → AreWithin at.ballot p mail → IsLeading best None at state → IsLeading best None at (after_events self (hear_events mail) state)
unfolding step
free_mail self best at p [] state up within leading = leading
free_mail self best at p (letter ∷ mail) state up within leading =
    free_mail self best at p mail _ up within.1 (free_all self best at p letter.from letter.messages not_yet state up within.0 leading)

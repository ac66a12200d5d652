-- Each act of each line of the table may be done where it is.
use Rattle.std.proofs.Common.{◌≡◌, ℕ, ◌+◌, ◌-◌, ◌*◌, ◌<◌, ◌≤◌, max, Bool, Option, Some, None, List, [], ◌∷◌, ◌++◌, length, drop, true, false, eqb, ltb, leb, ◌&&◌, ℤ, refl, ◌∙◌, inl, inr, arith, subst, if◌then◌else◌, IsTrue}
use Rattle.std.specs.List.{All, Contains, AllByRecursion}
use Rattle.std.proofs.Math.Nat.{le-max_left, le-max_right, max-le}
use Rattle.std.proofs.lemmas.Bool.{both_ways, cases_Bool, and_parts, ltb-true, ltb-false, leb-true, leb-false, eqb-true, eq-eqb}
use Rattle.std.proofs.lemmas.List.Elements.{All-filter, All-weaker, Contains-push, Contains-append_left, Contains-append_right}
use Rattle.paxos_base.specs.Ballot.{ballot_number, member_of, round_of}
use Rattle.paxos_base.specs.Durable.{after_delta}
use Rattle.paxos_base.specs.Members.{has_majority, with_member}
use Rattle.paxos_base.specs.declared.entry.Entry.{Entry}
use Rattle.paxos_base.specs.declared.entry.Entry.TheVariants.{Noop, Start, End, Table as TableEntry}
use Rattle.paxos_base.specs.declared.entry.Vote.{Vote}
use Rattle.paxos_base.specs.declared.rows.JobRow.{JobRow}
use Rattle.paxos_base.specs.Vote.{vote_at, votes_from}
use Rattle.paxos_base.proofs.PutLemmas.{at_put}
use Rattle.term_core.specs.Best.{best_of}
use Rattle.term_core.specs.Term.{after_ballot, is_fourth, new_flight, accepted_by}
use Rattle.term_core.specs.declared.flight.Flight.{Flight}
use Rattle.term_core.specs.declared.term.Term.{Term}
use Rattle.term_core.specs.declared.term.Term.TheVariants.{Follower, Candidate, Leader}
use Rattle.step_spec.specs.Act.{Act, Observe, Gather, Cast, Propose, Count, Rebase, Send, after_act}
use Rattle.step_spec.specs.Folds.{after_acts}
use Rattle.step_spec.specs.Hear.{Once, ask_below, cast_new, hear, hear_all, is_vote_of, known_from, line, not_yet, on_prepare, on_promise, on_accept, on_accepted, on_known, on_ask, on_lead, on_snap, once_after, send_all, snapshot}
use Rattle.step_spec.specs.May.{May, AllMay, Saying, Setting, HasSaid, IsFollower, HasNoOther, IsNamed, none_named, by_saying, TellsWhatWasSaid, MayEnter, WasSaid}
use Rattle.step_spec.specs.Step.{Event, Campaign, Tick, Hear, Answer, IsLaunchTable, IsPlanned, Plan, step}
use Rattle.launch_machine.specs.Answers.{IsIntent}
use Rattle.launch_machine.specs.declared.machine.Intent.{Intent}
use Rattle.launch_machine.specs.declared.machine.Intent.TheVariants as intent
use Rattle.step_spec.specs.Message.{Message, Prepare, Promise, Accept, Accepted, Nack, Known, AskFrom, Snap, Lead, Mention, Only, ballot_in}
use Rattle.step_spec.specs.Propose.{answer, answer_of, campaign, choose_if, end_if, follow_intent, is_long, is_open, lead_if, lead_on, propose, proposal, tick, tick_of, wait}
use Rattle.step_spec.specs.Coherent.{IsCoherent, FitsTerm, AreUpTo}
use Rattle.step_spec.specs.State.{State, Identity, prefix_of, promised_in}
use Rattle.step_spec.proofs.SoundLemmas.{act_sound}
use Rattle.step_spec.proofs.VoteLemmas.{found_vote, known-push, known-drop}

-- acts that may be done one after another
pub all_append : (setting : Setting) (state : State) (xs ys : List Act) → AllMay setting state xs → AllMay setting (after_acts xs state) ys → AllMay setting state (xs ++ ys)
all_append setting state [] ys first second = second
all_append setting state (x ∷ xs) ys first second = (first.0, all_append setting (after_act x state) xs ys first.1 second)

-- they leave a coherent replica
pub acts_sound : (setting : Setting) (state : State) (acts : List Act) → IsCoherent setting.self state → AllMay setting state acts → IsCoherent setting.self (after_acts acts state)
acts_sound setting state [] sound may = sound
acts_sound setting state (act ∷ acts) sound may =
    acts_sound setting (after_act act state) acts (act_sound setting state act sound may.0) may.1

-- the term is not one of a lower ballot
abbrev pub IsNotBelow : ℕ → Term → Type 0
IsNotBelow ballot (Follower ended) = Unit {0}
IsNotBelow ballot (Candidate own first heard best) = ballot ≤ own
IsNotBelow ballot (Leader own best flight) = ballot ≤ own

-- no term of a lower ballot goes on once a ballot was heard of
pub not_below : (ballot : ℕ) (term : Term) → IsNotBelow ballot (after_ballot ballot term)
not_below ballot (Follower ended) = tt
not_below ballot (Candidate own first heard best) =
    elim (cases_Bool (ltb own ballot)) [ inl ended ↦ rw ended tt | inr goes_on ↦ rw goes_on (ltb-false own ballot goes_on) ]
not_below ballot (Leader own best flight) =
    elim (cases_Bool (ltb own ballot)) [ inl ended ↦ rw ended tt | inr goes_on ↦ rw goes_on (ltb-false own ballot goes_on) ]

-- a replica competes in no ballot below one that it may promise
no_lower : (self : Identity) (state : State) (ballot : ℕ) (term : Term) → FitsTerm self state.kept (prefix_of state) term → IsNotBelow ballot term → promised_in state.kept < ballot → IsFollower term
no_lower self state ballot (Follower ended) fits not_low above = tt
no_lower self state ballot (Candidate own first heard best) fits not_low above = absurd (omega (arith, fits.promised, not_low, above))
no_lower self state ballot (Leader own best flight) fits not_low above = absurd (omega (arith, fits.0.promised, not_low, above))

-- nor in another than one that it may vote in
no_other : (self : Identity) (state : State) (ballot : ℕ) (term : Term) → FitsTerm self state.kept (prefix_of state) term → IsNotBelow ballot term → promised_in state.kept ≤ ballot → HasNoOther ballot term
no_other self state ballot (Follower ended) fits not_low least = tt
no_other self state ballot (Candidate own first heard best) fits not_low least = omega (arith, fits.promised, not_low, least)
no_other self state ballot (Leader own best flight) fits not_low least = omega (arith, fits.0.promised, not_low, least)

abbrev IsBelow : ℕ → Vote → Type 0
IsBelow ballot vote = vote.ballot < ballot

abbrev IsUpTo : ℕ → Vote → Type 0
IsUpTo ballot vote = vote.ballot ≤ ballot

-- votes below a ballot, from a slot on
lower_votes : (promised ballot slot : ℕ) (votes : List Vote) → promised < ballot → AreUpTo promised votes → All (IsBelow ballot) (votes_from slot votes)
unfolding votes_from
lower_votes promised ballot slot votes above all =
    All-filter _ (IsBelow ballot) votes (All-weaker (IsUpTo promised) (IsBelow ballot) (λ vote up. omega (arith, up, above)) votes all)

-- entries that a replica has learned may be told
send_may : (setting : Setting) (state : State) (from slot : ℕ) (entries : List Entry) → ((message : Message) → Contains (known_from slot entries) message → Contains (known_from state.kept.base state.learned) message) → AllMay setting state (send_all from (known_from slot entries))
unfolding May after_act
send_may setting state from slot [] known = tt
send_may setting state from slot (entry ∷ entries) known = (
  known (Known slot entry) (Contains-append_left (Known slot entry ∷ []) (known_from (slot + 1) entries) (Known slot entry) (Contains-push [] (Known slot entry))),
  send_may setting state from (slot + 1) entries (λ message has. known message (Contains-append_right (Known slot entry ∷ []) (known_from (slot + 1) entries) message has)),
)

-- so may a snapshot be sent
snapshot_may : (setting : Setting) (state : State) (from : ℕ) (copied : Bool) → AllMay setting state (snapshot from copied state)
unfolding May after_act
snapshot_may setting state from true = tt
snapshot_may setting state from false = ((refl, refl), send_may setting state from state.kept.base state.learned (λ message has. has))

pub on_prepare_may : (setting : Setting) (state : State) (from ballot slot : ℕ) (copied : Bool) → IsCoherent setting.self state → ballot ≤ state.seen → IsNotBelow ballot state.term → AllMay setting state (on_prepare from ballot slot copied state)
unfolding on_prepare after_act after_delta May
on_prepare_may setting state from ballot slot copied sound seen not_low =
    elim (cases_Bool (leb ballot (promised_in state.kept))) [
      | inl refused ↦ rw refused ((refl, leb-true ballot (promised_in state.kept) refused), tt)
      | inr above ↦
          let high : promised_in state.kept < ballot = leb-false ballot (promised_in state.kept) above in
          rw above (elim (cases_Bool (ltb slot state.kept.base)) [
            | inl behind ↦ rw behind (snapshot_may setting state from copied)
            | inr kept ↦ rw kept (
              record { above = high; seen = seen; follower = no_lower setting.self state ballot state.term sound.term not_low high },
              (record { promised = refl; kept_all = ltb-false slot state.kept.base kept; votes_are = refl; lower = lower_votes (promised_in state.kept) ballot slot state.kept.votes high sound.votes }, tt),
            )
          ])
    ]

-- a candidate whose ballot a majority has promised leads
lead_may : (setting : Setting) (state : State) (ballot first heard : ℕ) (best : List Vote) → state.term ≡ Candidate ballot first heard best → AllMay setting state (lead_if setting.self.members heard)
unfolding May
lead_may setting state ballot first heard best is =
    elim (cases_Bool (has_majority setting.self.members heard)) [
      | inl enough ↦ rw enough (record { ballot = ballot; first = first; heard = heard; best = best; candidate = is; majority = enough }, tt)
      | inr few ↦ rw few tt
    ]

pub on_promise_may : (setting : Setting) (state : State) (from ballot slot : ℕ) (votes : List Vote) (term : Term) → state.term ≡ term → HasSaid setting.said from (Promise ballot slot votes) → AllMay setting state (on_promise setting.self.members from ballot slot votes term)
unfolding on_promise May after_act
on_promise_may setting state from ballot slot votes (Follower ended) is said = tt
on_promise_may setting state from ballot slot votes (Leader own best flight) is said = tt
on_promise_may setting state from ballot slot votes (Candidate own first heard best) is said =
    elim (cases_Bool (eqb own ballot && eqb first slot)) [
      | inl asked ↦
          let parts = and_parts (eqb own ballot) (eqb first slot) asked in
          let same : own ≡ ballot = eqb-true own ballot parts.0 in
          let at : first ≡ slot = eqb-true first slot parts.1 in
          rw asked (
            record { ballot = own; first = first; heard = heard; best = best; candidate = is; promise = rw (same, at) said },
            lead_may setting (after_act (Gather from votes) state) own first (with_member from heard) (best_of best votes) (rw is refl),
          )
      | inr other ↦ rw other tt
    ]

-- entries are asked for from the prefix on
ask_may : (setting : Setting) (state : State) (from slot : ℕ) → AllMay setting state (ask_below from slot state)
unfolding May
ask_may setting state from slot =
    elim (cases_Bool (ltb (prefix_of state) slot)) [ inl missing ↦ rw missing (refl, tt) | inr all ↦ rw all tt ]

-- a vote is told once it stands at its slot in the promised ballot
told_may : (setting : Setting) (state : State) (from ballot slot : ℕ) (vote : Vote) → promised_in state.kept ≡ ballot → vote.ballot ≡ ballot → vote.slot ≡ slot → vote_at slot state.kept.votes ≡ Some vote → AllMay setting state (Send (Only from) (Accepted ballot slot) ∷ ask_below from slot state)
unfolding May after_act
told_may setting state from ballot slot vote promised own at voted =
    let same : Some vote ≡ Some (record { slot = slot; ballot = ballot; entry = vote.entry }) = rw (← own, ← at) refl in
    (record { promised = promised; entry = vote.entry; voted = voted ∙ same }, ask_may setting state from slot)

-- the answer to a proposal that may be voted for
voted_may : (setting : Setting) (state : State) (from : ℕ) (vote : Vote) → IsCoherent setting.self state → vote.ballot ≤ state.seen → IsNotBelow vote.ballot state.term → HasSaid setting.said from (Accept vote) → promised_in state.kept ≤ vote.ballot → state.kept.base ≤ vote.slot → AllMay setting state (cast_new vote state ++ (Send (Only from) (Accepted vote.ballot vote.slot) ∷ ask_below from vote.slot state))
unfolding May after_act after_delta
voted_may setting state from vote sound seen not_low said least from_base = go (vote_at vote.slot state.kept.votes) refl
  where
    go : (found : Option Vote) → vote_at vote.slot state.kept.votes ≡ found → AllMay setting state ((if is_vote_of vote.ballot found then [] else Cast vote ∷ []) ++ (Send (Only from) (Accepted vote.ballot vote.slot) ∷ ask_below from vote.slot state))
    go None is = (
      record { from = from; asked = said; from_base = from_base; promised = least; seen = seen; alone = no_other setting.self state vote.ballot state.term sound.term not_low least; first = λ again. let no : false ≡ true = rw is at again in cc },
      told_may setting (after_act (Cast vote) state) from vote.ballot vote.slot vote refl refl refl (at_put vote.slot vote state.kept.votes ∙ rw (eq-eqb vote.slot vote.slot refl) refl),
    )
    go (Some found) is = elim (cases_Bool (eqb found.ballot vote.ballot)) [
      | inl again ↦
          let same : found.ballot ≡ vote.ballot = eqb-true found.ballot vote.ballot again in
          let there = found_vote (IsUpTo (promised_in state.kept)) vote.slot state.kept.votes found sound.votes is in
          rw again (told_may setting state from vote.ballot vote.slot found (omega (arith, there.1, least, same)) same there.0 is)
      | inr new ↦ rw new (
        record { from = from; asked = said; from_base = from_base; promised = least; seen = seen; alone = no_other setting.self state vote.ballot state.term sound.term not_low least; first = λ again. both_ways (eqb found.ballot vote.ballot) new (rw is at again) },
        told_may setting (after_act (Cast vote) state) from vote.ballot vote.slot vote refl refl refl (at_put vote.slot vote state.kept.votes ∙ rw (eq-eqb vote.slot vote.slot refl) refl),
      )
    ]

pub on_accept_may : (setting : Setting) (state : State) (from : ℕ) (vote : Vote) (copied : Bool) → IsCoherent setting.self state → vote.ballot ≤ state.seen → IsNotBelow vote.ballot state.term → HasSaid setting.said from (Accept vote) → AllMay setting state (on_accept from vote copied state)
unfolding on_accept after_act after_delta May
on_accept_may setting state from vote copied sound seen not_low said =
    elim (cases_Bool (ltb vote.ballot (promised_in state.kept))) [
      | inl refused ↦
          let low : vote.ballot < promised_in state.kept = ltb-true vote.ballot (promised_in state.kept) refused in
          rw refused ((refl, omega (arith, low)), tt)
      | inr least ↦
          rw least (elim (cases_Bool (ltb vote.slot state.kept.base)) [
            | inl behind ↦ rw behind (snapshot_may setting state from copied)
            | inr kept ↦ rw kept (voted_may setting state from vote sound seen not_low said (ltb-false vote.ballot (promised_in state.kept) least) (ltb-false vote.slot state.kept.base kept))
          ])
    ]

-- what was learned last is known
learned_is_known : (base : ℕ) (entries : List Entry) (slot : ℕ) (entry : Entry) → slot ≡ base + length entries → Contains (known_from base (entries ++ entry ∷ [])) (Known slot entry)
learned_is_known base entries slot entry at =
    rw (known-push base entries entry, at) (Contains-push (known_from base entries) (Known (base + length entries) entry))

-- an entry for which a majority has voted is learned and told
choose_may : (setting : Setting) (state : State) (ballot : ℕ) (best : List Vote) (flight : Flight) → state.term ≡ Leader ballot best (Some flight) → flight.slot ≡ prefix_of state → AllMay setting state (choose_if setting.self.members flight.accepted flight.slot flight.entry)
unfolding May after_act
choose_may setting state ballot best flight is at =
    elim (cases_Bool (has_majority setting.self.members flight.accepted)) [
      | inl enough ↦ rw enough (
        record { next = at; known = inr (record { ballot = ballot; best = best; flight = flight; leader = is; slot_is = refl; entry_is = refl; majority = enough }) },
        (learned_is_known state.kept.base state.learned flight.slot flight.entry at, tt),
      )
      | inr few ↦ rw few tt
    ]

pub on_accepted_may : (setting : Setting) (state : State) (from ballot slot : ℕ) (term : Term) → state.term ≡ term → IsCoherent setting.self state → HasSaid setting.said from (Accepted ballot slot) → AllMay setting state (on_accepted setting.self.members from ballot slot term)
unfolding on_accepted May after_act
on_accepted_may setting state from ballot slot (Follower ended) is sound said = tt
on_accepted_may setting state from ballot slot (Candidate own first heard best) is sound said = tt
on_accepted_may setting state from ballot slot (Leader own best None) is sound said = tt
on_accepted_may setting state from ballot slot (Leader own best (Some flight)) is sound said =
    elim (cases_Bool (eqb own ballot && eqb flight.slot slot)) [
      | inl counts ↦
          let parts = and_parts (eqb own ballot) (eqb flight.slot slot) counts in
          let same : own ≡ ballot = eqb-true own ballot parts.0 in
          let at : flight.slot ≡ slot = eqb-true flight.slot slot parts.1 in
          let fits : FitsTerm setting.self state.kept (prefix_of state) (Leader own best (Some flight)) =
          subst (λ term. FitsTerm setting.self state.kept (prefix_of state) term) is sound.term in
          rw counts (
            record { ballot = own; best = best; flight = flight; leader = is; accepted = rw (same, at) said },
            choose_may setting (after_act (Count from) state) own best (accepted_by from flight) (rw is refl) fits.1.slot,
          )
      | inr other ↦ rw other tt
    ]

pub on_known_may : (setting : Setting) (state : State) (from slot : ℕ) (entry : Entry) (asked : Bool) → HasSaid setting.said from (Known slot entry) → AllMay setting state (on_known from slot entry asked state)
unfolding on_known May after_act
on_known_may setting state from slot entry asked said =
    elim (cases_Bool (eqb slot (prefix_of state))) [
      | inl next ↦ rw next (record { next = eqb-true slot (prefix_of state) next; known = inl (from, said) }, tt)
      | inr other ↦ rw other (elim (cases_Bool asked) [ inl once ↦ rw once tt | inr first ↦ rw first (ask_may setting state from slot) ])
    ]

pub on_ask_may : (setting : Setting) (state : State) (from slot : ℕ) (copied : Bool) → AllMay setting state (on_ask from slot copied state)
unfolding on_ask
on_ask_may setting state from slot copied =
    elim (cases_Bool (ltb slot state.kept.base)) [
      | inl behind ↦ rw behind (snapshot_may setting state from copied)
      | inr kept ↦
          let least : state.kept.base ≤ slot = ltb-false slot state.kept.base kept in
          let at : state.kept.base + (slot - state.kept.base) ≡ slot = omega (arith, least) in
          rw kept (send_may setting state from slot (drop (slot - state.kept.base) state.learned) (λ message has.
          known-drop state.kept.base (slot - state.kept.base) state.learned message (rw at has)))
    ]

-- rows behind the prefix that were told may be taken
pub on_snap_may : (setting : Setting) (state : State) (from slot : ℕ) (rows : List JobRow) → HasSaid setting.said from (Snap slot rows) → AllMay setting state (on_snap slot rows state)
unfolding on_snap May
on_snap_may setting state from slot rows said =
    elim (cases_Bool (ltb (prefix_of state) slot)) [
      | inl behind ↦
          let up : prefix_of state < slot = ltb-true (prefix_of state) slot behind in
          rw behind (record { up = omega (arith, up); rows_of = inr (from, said) }, tt)
      | inr old ↦ rw old tt
    ]

pub on_lead_may : (setting : Setting) (state : State) (from slot : ℕ) → AllMay setting state (on_lead from slot state)
unfolding on_lead
on_lead_may setting state from slot = ask_may setting state from slot

-- hearing of a ballot that was named
pub hear_line : (setting : Setting) (state : State) (from : ℕ) (message : Message) (once : Once) → IsCoherent setting.self state → ballot_in message ≤ state.seen → IsNotBelow (ballot_in message) state.term → WasSaid setting.said from message → AllMay setting state (line setting.self from message once state)
unfolding line
hear_line setting state from (Prepare ballot slot) once sound seen not_low said = on_prepare_may setting state from ballot slot once.copied sound seen not_low
hear_line setting state from (Promise ballot slot votes) once sound seen not_low said = on_promise_may setting state from ballot slot votes state.term refl said
hear_line setting state from (Accept vote) once sound seen not_low said = on_accept_may setting state from vote once.copied sound seen not_low said
hear_line setting state from (Accepted ballot slot) once sound seen not_low said = on_accepted_may setting state from ballot slot state.term refl sound said
hear_line setting state from (Nack ballot promised) once sound seen not_low said = tt
hear_line setting state from (Known slot entry) once sound seen not_low said = on_known_may setting state from slot entry once.asked said
hear_line setting state from (AskFrom slot) once sound seen not_low said = on_ask_may setting state from slot once.copied
hear_line setting state from (Snap slot rows) once sound seen not_low said = on_snap_may setting state from slot rows said
hear_line setting state from (Lead ballot slot) once sound seen not_low said = on_lead_may setting state from slot
hear_line setting state from (Mention ballot) once sound seen not_low said = tt

-- what is heard names a ballot that was said
named : (said : List Saying) (from : ℕ) (message : Message) → WasSaid said from message → IsNamed said (ballot_in message)
named said from (Mention ballot) (slot, votes, has) = by_saying (record { by = from; message = Promise ballot slot votes }) has refl
named said from (Prepare ballot slot) has = by_saying (record { by = from; message = Prepare ballot slot }) has refl
named said from (Promise ballot slot votes) has = by_saying (record { by = from; message = Promise ballot slot votes }) has refl
named said from (Accept vote) has = by_saying (record { by = from; message = Accept vote }) has refl
named said from (Accepted ballot slot) has = by_saying (record { by = from; message = Accepted ballot slot }) has refl
named said from (Nack ballot promised) has = by_saying (record { by = from; message = Nack ballot promised }) has refl
named said from (Known slot entry) has = none_named refl
named said from (AskFrom slot) has = none_named refl
named said from (Snap slot rows) has = none_named refl
named said from (Lead ballot slot) has = by_saying (record { by = from; message = Lead ballot slot }) has refl

hear_may : (setting : Setting) (state : State) (from : ℕ) (message : Message) (once : Once) → IsCoherent setting.self state → WasSaid setting.said from message → AllMay setting state (hear setting.self from message once state)
unfolding hear May after_act
hear_may setting state from message once sound said = (
  named setting.said from message said,
  hear_line setting (after_act (Observe (ballot_in message)) state) from message once
      (act_sound setting state (Observe (ballot_in message)) sound (named setting.said from message said))
      (le-max_right state.seen (ballot_in message)) (not_below (ballot_in message) state.term) said,
)

hear_all_may : (setting : Setting) (state : State) (from : ℕ) (messages : List Message) (once : Once) → IsCoherent setting.self state → AllByRecursion (WasSaid setting.said from) messages → AllMay setting state (hear_all setting.self from messages once state)
unfolding hear_all
hear_all_may setting state from [] once sound said = tt
hear_all_may setting state from (message ∷ messages) once sound said =
    let acts = hear setting.self from message once state in
    let first = hear_may setting state from message once sound said.0 in
    all_append setting state _ _ first
    (hear_all_may setting (after_acts acts state) from messages (once_after message state acts once)
    (acts_sound setting state _ sound first) said.1)

-- a ballot of its own above all that it has seen is above what it has promised
next_is_higher : (me seen tried promised : ℕ) → me < 8 → promised ≤ max seen (ballot_number tried 7) → (tried < round_of (ballot_number (max tried (round_of seen) + 1) me)) × (promised < ballot_number (max tried (round_of seen) + 1) me) × (member_of (ballot_number (max tried (round_of seen) + 1) me) ≡ me)
next_is_higher me seen tried promised small up =
    let a = le-max_left tried (round_of seen) in
    let b = le-max_right tried (round_of seen) in
    let low : ballot_number tried 7 < 8 * (max tried (round_of seen) + 1) = omega (arith, a) in
    let high : seen < 8 * (max tried (round_of seen) + 1) = omega (arith, b) in
    let both : max seen (ballot_number tried 7) + 1 ≤ 8 * (max tried (round_of seen) + 1) = max_below _ _ _ high low in
    (omega (arith, a, small), omega (arith, both, up), omega (arith, small))
  where
    max_below : (x y z : ℕ) → x < z → y < z → max x y + 1 ≤ z
    max_below x y z p q = let r : max x y ≤ z - 1 = max-le (omega (arith, p)) (omega (arith, q)) in omega (arith, r, p)

campaign_may : (setting : Setting) (state : State) → setting.event ≡ Some Campaign → setting.self.me < 8 → IsCoherent setting.self state → AllMay setting state (campaign setting.self state)
unfolding campaign May after_act after_delta
campaign_may setting state told small sound =
    let next = next_is_higher setting.self.me state.seen state.kept.tried (promised_in state.kept) small sound.promised in (
      record { told = told; is_me = refl; own = next.2; higher = next.0; above = next.1 },
      ((refl, (refl, refl)), lead_may setting _ _ _ _ _ refl),
    )

propose_may : (setting : Setting) (state : State) (ballot : ℕ) (best : List Vote) (entry : Entry) → state.term ≡ Leader ballot best None → MayEnter setting state entry → AllMay setting state (propose setting.self (proposal ballot best (prefix_of state) entry))
unfolding propose May after_act after_delta
propose_may setting state ballot best entry is may =
    let vote : Vote = proposal ballot best (prefix_of state) entry in (
      record { is_me = refl; best = best; leader = is; slot = refl; entry = entry; may = may; bound = refl },
      (
        (at_put vote.slot vote state.kept.votes ∙ rw (eq-eqb vote.slot vote.slot refl) refl, rw is refl),
        choose_may setting (after_act (Propose setting.self.me vote) state) ballot best (new_flight vote.slot vote.entry setting.self.me) (rw is refl) refl,
      ),
    )

wait_may : (setting : Setting) (state : State) (ballot : ℕ) (best : List Vote) (flight : Flight) → state.term ≡ Leader ballot best (Some flight) → IsCoherent setting.self state → AllMay setting state (wait ballot flight)
unfolding May after_act
wait_may setting state ballot best flight is sound =
    let fits : FitsTerm setting.self state.kept (prefix_of state) (Leader ballot best (Some flight)) =
    subst (λ term. FitsTerm setting.self state.kept (prefix_of state) term) is sound.term in (
      tt,
      elim (cases_Bool (is_fourth flight)) [
        | inl again ↦ rw again ((fits.1.voted, rw is refl), tt)
        | inr not_yet ↦ rw not_yet tt
      ],
    )

follow_may : (setting : Setting) (state : State) (now : ℤ) (plan : Plan) (ballot : ℕ) (best : List Vote) → state.term ≡ Leader ballot best None → IsLaunchTable setting.table state plan.rows → IsIntent setting.table plan.rows now plan.intent → AllMay setting state (follow_intent setting.self now plan.intent ballot best state)
unfolding May after_act
follow_may setting state now plan ballot best is table asked = go plan.intent asked
  where
    go : (intent : Intent) → IsIntent setting.table plan.rows now intent → AllMay setting state (follow_intent setting.self now intent ballot best state)
    go (intent.Call job at kind) asked = (record { by = refl; rows = plan.rows; rows_are = table; asked = asked }, tt)
    go (intent.Start job at) asked =
        propose_may setting state ballot best (Start job at now) is (record { rows = plan.rows; rows_are = table; asked = asked })
    go (intent.Adopt version) asked =
        propose_may setting state ballot best (TableEntry version now) is (record { rows = plan.rows; rows_are = table; asked = asked })
    go intent.Rest asked = ((refl, rw is refl), tt)

pub tick_may : (setting : Setting) (state : State) (now : ℤ) (plan : Plan) (term : Term) → state.term ≡ term → IsCoherent setting.self state → IsLaunchTable setting.table state plan.rows → IsIntent setting.table plan.rows now plan.intent → AllMay setting state (tick_of setting.self now plan.intent state term)
tick_may setting state now plan (Follower ended) is sound table asked = tt
tick_may setting state now plan (Candidate ballot first heard best) is sound table asked = tt
tick_may setting state now plan (Leader ballot best (Some flight)) is sound table asked = wait_may setting state ballot best flight is sound
tick_may setting state now plan (Leader ballot best None) is sound table asked = go (votes_from (prefix_of state) best)
  where
    go : (bound : List Vote) → AllMay setting state (lead_on setting.self now plan.intent ballot best state bound)
    go [] = follow_may setting state now plan ballot best is table asked
    go (bound ∷ others) = propose_may setting state ballot best Noop is tt

pub answer_may : (setting : Setting) (state : State) (entry : Entry) (open_now : Bool) (term : Term) → state.term ≡ term → (IsTrue open_now → MayEnter setting state entry) → AllMay setting state (answer_of setting.self state entry open_now term)
answer_may setting state entry open_now (Follower ended) is may = tt
answer_may setting state entry open_now (Candidate ballot first heard best) is may = tt
answer_may setting state entry open_now (Leader ballot best (Some flight)) is may = tt
answer_may setting state entry open_now (Leader ballot best None) is may = go (votes_from (prefix_of state) best) open_now may
  where
    go : (bound : List Vote) (now : Bool) → (IsTrue now → MayEnter setting state entry) → AllMay setting state (end_if setting.self ballot best state entry now bound)
    go [] true so = propose_may setting state ballot best entry is (so refl)
    go [] false so = tt
    go (bound ∷ others) now so = tt

-- each act of a step may be done where it is
-- a replica may take its own launch table in the place of the entries that it has learned
compact_may : (setting : Setting) (state : State) (rows : List JobRow) → IsLaunchTable setting.table state rows → AllMay setting state (Rebase (prefix_of state) rows ∷ [])
unfolding May
compact_may setting state rows table = (record { up = omega arith; rows_of = inl (refl, table) }, tt)

pub step_may : (setting : Setting) (state : State) (event : Event) → setting.event ≡ Some event → setting.self.me < 8 → IsCoherent setting.self state → IsPlanned setting.table state event → TellsWhatWasSaid setting event → AllMay setting state (step setting.self event state)
unfolding step tick answer
step_may setting state Campaign told small sound planned heard = campaign_may setting state told small sound
step_may setting state (Tick now plan) told small sound planned heard = elim (cases_Bool (is_long state)) [
  | inl long ↦ rw long (compact_may setting state plan.rows planned.0)
  | inr short ↦ rw short (tick_may setting state now plan state.term refl sound planned.0 planned.1)
]
step_may setting state (Hear from messages) told small sound planned heard = hear_all_may setting state from messages not_yet sound heard
step_may setting state (Answer job at kind rows) told small sound planned heard =
    answer_may setting state (End job at kind) (is_open job at rows) state.term refl
    (λ open_there. record { rows = rows; rows_are = planned; open_there = open_there; answered = heard })

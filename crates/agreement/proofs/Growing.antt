-- What an act adds to the world, and what it leaves.
use Rattle.std.proofs.Common.{◌≡◌, ◌≢◌, ℕ, ◌+◌, ◌≤◌, Option, Some, None, List, [], ◌∷◌, eqb, refl, sym, ap, ◌∙◌, inl, inr, arith, subst, ◌⊎◌}
use Rattle.std.specs.List.{Contains}
use Rattle.std.proofs.lemmas.Bool.{both_ways, cases_Bool, eqb-true, eq-eqb, le-leb}
use Rattle.std.proofs.lemmas.List.Elements.{All-contains_itself, Contains-push, Contains-push_cases, Contains-append_left, Contains-append_cases}
use Rattle.paxos_base.specs.Durable.{after_delta}
use Rattle.paxos_base.specs.Vote.{vote_at, votes_below, votes_from, put_vote}
use Rattle.paxos_base.specs.declared.durable.Delta.TheVariants.{Voted}
use Rattle.paxos_base.specs.declared.durable.Durable.{Durable}
use Rattle.paxos_base.specs.declared.entry.Vote.{Vote}
use Rattle.paxos_base.proofs.PutLemmas.{at_put, at_from}
use Rattle.term_core.specs.declared.term.Term.TheVariants.{Leader}
use Rattle.step_spec.specs.Act.{Act, Observe, Stand, Gather, TakeLead, Pledge, Cast, Propose, Count, Wait, Learn, Rebase, Call, Send, Restart, after_act}
use Rattle.step_spec.specs.May.{HasSaid, May, Saying, Setting}
use Rattle.step_spec.specs.Message.{Message}
use Rattle.step_spec.specs.Coherent.{IsCoherent, FitsTerm}
use Rattle.step_spec.specs.State.{State, Identity, prefix_of, promised_in}
use Rattle.step_spec.proofs.VoteLemmas.{found_vote}
use Rattle.agreement.specs.Agree.{HasCast}
use Rattle.agreement.specs.World.{CastVote, cast_after, said_after, with_replica}
use Rattle.step_spec.proofs.ListLemmas.{from_filter as kept_by_filter}

-- the act casts the vote
abbrev pub Casts : Act → Vote → Type 0
Casts (Cast mine) vote = mine ≡ vote
Casts (Propose me mine) vote = mine ≡ vote
Casts act vote = ⊥

-- the act says the message
abbrev pub Says : Act → Message → Type 0
Says (Send whom mine) message = mine ≡ message
Says act message = ⊥

-- a vote is an old one, or is cast now
pub cast_cases : (by : ℕ) (act : Act) (cast : List CastVote) (q : ℕ) (vote : Vote) → HasCast (cast_after by act cast) q vote → HasCast cast q vote ⊎ ((q ≡ by) × Casts act vote)
cast_cases by (Cast mine) cast q vote has =
    elim (Contains-push_cases cast (record { by = by; vote = mine }) (record { by = q; vote = vote }) has) [
      | inl old ↦ inl old
      | inr same ↦ inr (sym (ap (λ row. row.by) same), ap (λ row. row.vote) same)
    ]
cast_cases by (Propose me mine) cast q vote has =
    elim (Contains-push_cases cast (record { by = by; vote = mine }) (record { by = q; vote = vote }) has) [
      | inl old ↦ inl old
      | inr same ↦ inr (sym (ap (λ row. row.by) same), ap (λ row. row.vote) same)
    ]
cast_cases by act cast q vote has = inl has

-- a vote that was cast stays cast
pub cast_stays : (by : ℕ) (act : Act) (cast : List CastVote) (q : ℕ) (vote : Vote) → HasCast cast q vote → HasCast (cast_after by act cast) q vote
cast_stays by (Cast mine) cast q vote has = Contains-append_left cast (record { by = by; vote = mine } ∷ []) (record { by = q; vote = vote }) has
cast_stays by (Propose me mine) cast q vote has = Contains-append_left cast (record { by = by; vote = mine } ∷ []) (record { by = q; vote = vote }) has
cast_stays by act cast q vote has = has

-- what an act casts is cast
pub cast_now : (by : ℕ) (act : Act) (cast : List CastVote) (vote : Vote) → Casts act vote → HasCast (cast_after by act cast) by vote
cast_now by (Cast mine) cast vote casts = rw casts (Contains-push cast (record { by = by; vote = vote }))
cast_now by (Propose me mine) cast vote casts = rw casts (Contains-push cast (record { by = by; vote = vote }))
cast_now by act cast vote casts = absurd casts

-- what was said was said before, or is said now
pub said_cases : (by : ℕ) (act : Act) (said : List Saying) (q : ℕ) (message : Message) → HasSaid (said_after by act said) q message → HasSaid said q message ⊎ ((q ≡ by) × Says act message)
said_cases by (Send whom mine) said q message has =
    elim (Contains-push_cases said (record { by = by; message = mine }) (record { by = q; message = message }) has) [
      | inl old ↦ inl old
      | inr same ↦ inr (sym (ap (λ row. row.by) same), ap (λ row. row.message) same)
    ]
said_cases by act said q message has = inl has

-- a fact of each replica, where one of them is changed
pub each_replica : (P : ℕ → State → Type 0) (by : ℕ) (state : State) (replicas : ℕ → State) (q : ℕ) → P by state → (q ≢ by → P q (replicas q)) → P q (with_replica by state replicas q)
each_replica P by state replicas q here others =
    elim (cases_Bool (eqb q by)) [
      | inl same ↦ rw (same, eqb-true q by same) here
      | inr other ↦ rw other (others (λ is. both_ways (eqb q by) other (eq-eqb q by is)))
    ]

-- the vote at a slot, where it is of this ballot or a later one
pub record IsLater (found : Option Vote) (ballot : ℕ) : Type 0 where
  pub vote : Vote
  pub is : found ≡ Some vote
  pub later : ballot ≤ vote.ballot

-- What is kept goes on: no promise and no round falls, and a vote gives way to a later one alone.
pub record GoesOn (old new : Durable) (act : Act) : Type 0 where
  pub promised : promised_in old ≤ promised_in new
  pub tried : old.tried ≤ new.tried
  pub base : old.base ≤ new.base
  pub votes : (slot : ℕ) (vote : Vote) → new.base ≤ slot → vote_at slot old.votes ≡ Some vote → IsLater (vote_at slot new.votes) vote.ballot
  pub stored : (vote : Vote) → Contains new.votes vote → Contains old.votes vote ⊎ Casts act vote

-- nothing is changed
unchanged : (kept : Durable) (act : Act) → GoesOn kept kept act
unchanged kept act = record {
  promised = omega arith;
  tried = omega arith;
  base = omega arith;
  votes = λ slot vote within is. record { vote = vote; is = is; later = omega arith };
  stored = λ vote has. inl has;
}

-- the votes from a slot on were there
pub from_there : (first : ℕ) (votes : List Vote) (vote : Vote) → Contains (votes_from first votes) vote → Contains votes vote
unfolding votes_from
from_there first votes vote has = kept_by_filter _ votes vote has

-- a vote of a list into which one was put is that one, or was there
pub put_cases : (vote : Vote) (votes : List Vote) (act : Act) → Casts act vote → (found : Vote) → Contains (put_vote vote votes) found → Contains votes found ⊎ Casts act found
unfolding put_vote votes_below votes_from
put_cases vote votes act casts found has =
    elim (Contains-append_cases (votes_below vote.slot votes) (vote ∷ votes_from (vote.slot + 1) votes) found has) [
      | inl below ↦ inl (kept_by_filter _ votes found below)
      | inr rest ↦ elim (Contains-append_cases (vote ∷ []) (votes_from (vote.slot + 1) votes) found rest) [
        | inl here ↦ elim (Contains-push_cases [] vote found here) [
          | inl none ↦ absurd (omega (arith, none.1))
          | inr same ↦ inr (rw (← same) casts)
        ]
        | inr above ↦ inl (kept_by_filter _ votes found above)
      ]
    ]

-- the vote that is found at a slot is there
pub found_there : (slot : ℕ) (votes : List Vote) (vote : Vote) → vote_at slot votes ≡ Some vote → Contains votes vote
found_there slot votes vote is = (found_vote (Contains votes) slot votes vote (All-contains_itself votes) is).1

-- a vote of a ballot that is not below the promised one takes its slot
goes_on_by_vote : (self : Identity) (state : State) (vote : Vote) (act : Act) → Casts act vote → promised_in state.kept ≤ vote.ballot → IsCoherent self state → GoesOn state.kept (after_delta (Voted vote) state.kept) act
unfolding after_delta
goes_on_by_vote self state vote act casts least sound = record {
  promised = least;
  tried = omega arith;
  base = omega arith;
  votes = λ slot old within is. rise slot old is;
  stored = λ found has. put_cases vote state.kept.votes act casts found has;
}
  where
    rise : (slot : ℕ) (old : Vote) → vote_at slot state.kept.votes ≡ Some old → IsLater (vote_at slot (put_vote vote state.kept.votes)) old.ballot
    rise slot old is =
        let there = found_vote (λ v. v.ballot ≤ promised_in state.kept) slot state.kept.votes old sound.votes is in
        elim (cases_Bool (eqb vote.slot slot)) [
          | inl here ↦ record { vote = vote; is = at_put slot vote state.kept.votes ∙ rw here refl; later = omega (arith, there.1, least) }
          | inr other ↦ record { vote = old; is = at_put slot vote state.kept.votes ∙ rw other is; later = omega arith }
        ]

-- an act that may be done goes on from what was kept
pub goes_on : (setting : Setting) (state : State) (act : Act) → IsCoherent setting.self state → May setting state act → GoesOn state.kept (after_act act state).kept act
unfolding after_act after_delta May
goes_on setting state (Stand me ballot) sound may =
    let rest = unchanged state.kept (Stand me ballot) in
    record { promised = omega (arith, may.above); tried = omega (arith, may.higher); base = omega arith; votes = rest.votes; stored = rest.stored }
goes_on setting state (Pledge ballot) sound may =
    let rest = unchanged state.kept (Pledge ballot) in
    record { promised = omega (arith, may.above); tried = omega arith; base = omega arith; votes = rest.votes; stored = rest.stored }
goes_on setting state (Cast vote) sound may = goes_on_by_vote setting.self state vote (Cast vote) refl may.promised sound
goes_on setting state (Propose me vote) sound may =
    let fits : FitsTerm setting.self state.kept (prefix_of state) (Leader vote.ballot may.best None) =
    subst (λ term. FitsTerm setting.self state.kept (prefix_of state) term) may.leader sound.term in
    goes_on_by_vote setting.self state vote (Propose me vote) refl (omega (arith, fits.0.promised)) sound
goes_on setting state (Rebase slot rows) sound may = record {
  promised = omega arith;
  tried = omega arith;
  base = omega (arith, may.up);
  votes = λ at vote within is. record { vote = vote; is = at_from slot at state.kept.votes ∙ rw (le-leb slot at within) is; later = omega arith };
  stored = λ vote has. inl (from_there slot state.kept.votes vote has);
}
goes_on setting state (Restart me) sound may = unchanged state.kept (Restart me)
goes_on setting state (Observe ballot) sound may = unchanged state.kept (Observe ballot)
goes_on setting state (Gather from votes) sound may = unchanged state.kept (Gather from votes)
goes_on setting state TakeLead sound may = unchanged state.kept TakeLead
goes_on setting state (Count from) sound may = unchanged state.kept (Count from)
goes_on setting state Wait sound may = unchanged state.kept Wait
goes_on setting state (Learn slot entry) sound may = unchanged state.kept (Learn slot entry)
goes_on setting state (Call row) sound may = unchanged state.kept (Call row)
goes_on setting state (Send whom message) sound may = unchanged state.kept (Send whom message)

-- a vote that is cast now is stored, in the ballot that is promised then
pub casts_stored : (state : State) (act : Act) (vote : Vote) → Casts act vote → (vote_at vote.slot (after_act act state).kept.votes ≡ Some vote) × (promised_in (after_act act state).kept ≡ vote.ballot)
unfolding after_act after_delta
casts_stored state (Cast mine) vote casts = rw casts (at_put vote.slot vote state.kept.votes ∙ rw (eq-eqb vote.slot vote.slot refl) refl, refl)
casts_stored state (Propose me mine) vote casts = rw casts (at_put vote.slot vote state.kept.votes ∙ rw (eq-eqb vote.slot vote.slot refl) refl, refl)
casts_stored state act vote casts = absurd casts

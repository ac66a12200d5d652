-- Each act that may be done leaves a coherent replica.
use Rattle.std.proofs.Common.{◌≡◌, ℕ, ◌+◌, ◌-◌, ◌≤◌, max, Some, None, List, [], ◌∷◌, ◌++◌, length, drop, true, false, eqb, ltb, refl, sym, ◌∙◌, inl, inr, arith, subst, length-append, length-drop, IsTrue}
use Rattle.std.proofs.Math.Nat.{le-max_left, le-max_right, max-le}
use Rattle.std.proofs.lemmas.Bool.{cases_Bool, eq-eqb, ne_eqb, lt-ltb, le-ltb, le-leb, cases_lt}
use Rattle.std.proofs.lemmas.List.Elements.{All-cons, All-append, All-filter, All-weaker}
use Rattle.paxos_base.specs.Ballot.{ballot_number, round_of}
use Rattle.paxos_base.specs.Durable.{after_delta}
use Rattle.paxos_base.specs.declared.durable.Durable.{Durable}
use Rattle.paxos_base.specs.declared.durable.Delta.TheVariants.{Promised, Voted, Base}
use Rattle.paxos_base.specs.declared.entry.Entry.{Entry}
use Rattle.paxos_base.specs.declared.entry.Vote.{Vote}
use Rattle.paxos_base.specs.declared.rows.JobRow.{JobRow}
use Rattle.paxos_base.specs.Vote.{vote_at, votes_from, votes_below, put_vote}
use Rattle.paxos_base.proofs.PutLemmas.{at_put, at_from}
use Rattle.term_core.specs.Term.{after_advance, after_ballot, after_tick, is_ended_by}
use Rattle.term_core.specs.declared.flight.Flight.{Flight}
use Rattle.term_core.specs.declared.term.Term.{Term}
use Rattle.term_core.specs.declared.term.Term.TheVariants.{Follower, Candidate, Leader}
use Rattle.step_spec.specs.Act.{Act, Observe, Stand, Gather, TakeLead, Pledge, Cast, Propose, Count, Wait, Learn, Rebase, Call, Send, Restart, after_act, after_counting, after_gathering, as_leader}
use Rattle.step_spec.specs.Hear.{is_vote_of}
use Rattle.step_spec.specs.May.{May, Setting, HasNoOther, IsFollower}
use Rattle.step_spec.specs.Propose.{vote_of}
use Rattle.step_spec.specs.Coherent.{IsCoherent, FitsTerm, IsOwn, AreUpTo}
use Rattle.step_spec.specs.State.{State, Identity, prefix_of, promised_in, started}

abbrev UpTo : ℕ → Vote → Type 0
UpTo ballot vote = vote.ballot ≤ ballot

-- votes of ballots up to one are of ballots up to a higher one
AreUpTo-more : (low high : ℕ) (votes : List Vote) → low ≤ high → AreUpTo low votes → AreUpTo high votes
AreUpTo-more low high votes more all = All-weaker (UpTo low) (UpTo high) (λ vote up. omega (arith, more, up)) votes all

-- one more vote of the highest ballot
AreUpTo-put : (vote : Vote) (votes : List Vote) → AreUpTo vote.ballot votes → AreUpTo vote.ballot (put_vote vote votes)
unfolding put_vote votes_below votes_from
AreUpTo-put vote votes all =
    let itself : UpTo vote.ballot vote = omega arith in
    All-append (UpTo vote.ballot) _ _ (All-filter _ (UpTo vote.ballot) votes all)
    (All-cons (UpTo vote.ballot) vote _ itself (All-filter _ (UpTo vote.ballot) votes all))

-- the votes from a slot on
AreUpTo-votes_from : (slot ballot : ℕ) (votes : List Vote) → AreUpTo ballot votes → AreUpTo ballot (votes_from slot votes)
unfolding votes_from
AreUpTo-votes_from slot ballot votes all = All-filter _ (UpTo ballot) votes all

-- hearing of a ballot leaves a term or ends it
fits_after_ballot : (self : Identity) (kept : Durable) (prefix ballot : ℕ) (term : Term) → FitsTerm self kept prefix term → FitsTerm self kept prefix (after_ballot ballot term)
fits_after_ballot self kept prefix ballot term fits =
    elim (cases_Bool (is_ended_by ballot term)) [ inl ended ↦ rw ended tt | inr goes_on ↦ rw goes_on fits ]

fits_after_gathering : (self : Identity) (kept : Durable) (prefix from : ℕ) (votes : List Vote) (term : Term) → FitsTerm self kept prefix term → FitsTerm self kept prefix (after_gathering from votes term)
fits_after_gathering self kept prefix from votes (Follower ended) fits = fits
fits_after_gathering self kept prefix from votes (Candidate ballot first heard best) fits = fits
fits_after_gathering self kept prefix from votes (Leader ballot best flight) fits = fits

fits_as_leader : (self : Identity) (kept : Durable) (prefix : ℕ) (term : Term) → FitsTerm self kept prefix term → FitsTerm self kept prefix (as_leader term)
fits_as_leader self kept prefix (Follower ended) fits = fits
fits_as_leader self kept prefix (Candidate ballot first heard best) fits = (fits, tt)
fits_as_leader self kept prefix (Leader ballot best flight) fits = fits

fits_after_counting : (self : Identity) (kept : Durable) (prefix from : ℕ) (term : Term) → FitsTerm self kept prefix term → FitsTerm self kept prefix (after_counting from term)
fits_after_counting self kept prefix from (Follower ended) fits = fits
fits_after_counting self kept prefix from (Candidate ballot first heard best) fits = fits
fits_after_counting self kept prefix from (Leader ballot best None) fits = fits
fits_after_counting self kept prefix from (Leader ballot best (Some flight)) fits =
    (fits.0, record { slot = fits.1.slot; voted = fits.1.voted })

fits_after_tick : (self : Identity) (kept : Durable) (prefix : ℕ) (term : Term) → FitsTerm self kept prefix term → FitsTerm self kept prefix (after_tick term)
fits_after_tick self kept prefix (Follower ended) fits = fits
fits_after_tick self kept prefix (Candidate ballot first heard best) fits = fits
fits_after_tick self kept prefix (Leader ballot best None) fits = fits
fits_after_tick self kept prefix (Leader ballot best (Some flight)) fits =
    (fits.0, record { slot = fits.1.slot; voted = fits.1.voted })

-- once the prefix has risen, no flight is left
fits_after_learning : (self : Identity) (kept : Durable) (prefix : ℕ) (term : Term) → FitsTerm self kept prefix term → FitsTerm self kept (prefix + 1) (after_advance (prefix + 1) term)
fits_after_learning self kept prefix (Follower ended) fits = fits
fits_after_learning self kept prefix (Candidate ballot first heard best) fits = fits
fits_after_learning self kept prefix (Leader ballot best None) fits = fits
fits_after_learning self kept prefix (Leader ballot best (Some flight)) fits =
    let over : ltb flight.slot (prefix + 1) ≡ true = lt-ltb flight.slot (prefix + 1) (omega (arith, fits.1.slot)) in
    rw over (fits.0, tt)

-- the follower's term fits all that its replica may keep
fits_follower : (self : Identity) (kept : Durable) (prefix : ℕ) (term : Term) → IsFollower term → FitsTerm self kept prefix term
fits_follower self kept prefix (Follower ended) follower = tt
fits_follower self kept prefix (Candidate ballot first heard best) follower = absurd follower
fits_follower self kept prefix (Leader ballot best flight) follower = absurd follower

-- a vote that was asked for leaves the flight's vote where it is
fits_after_vote : (self : Identity) (kept : Durable) (prefix : ℕ) (vote : Vote) (term : Term) → HasNoOther vote.ballot term → (IsTrue (is_vote_of vote.ballot (vote_at vote.slot kept.votes)) → ⊥) → FitsTerm self kept prefix term → FitsTerm self (after_delta (Voted vote) kept) prefix term
unfolding after_delta
fits_after_vote self kept prefix vote (Follower ended) alone first fits = tt
fits_after_vote self kept prefix vote (Candidate ballot at heard best) alone first fits =
    record { promised = sym alone; member = fits.member; round = fits.round }
fits_after_vote self kept prefix vote (Leader ballot best None) alone first fits =
    (record { promised = sym alone; member = fits.0.member; round = fits.0.round }, tt)
fits_after_vote self kept prefix vote (Leader ballot best (Some flight)) alone first fits =
    let own : IsOwn self (after_delta (Voted vote) kept) ballot = record { promised = sym alone; member = fits.0.member; round = fits.0.round } in
    let apart : eqb vote.slot flight.slot ≡ false =
    ne_eqb vote.slot flight.slot (λ same.
    let there : vote_at vote.slot kept.votes ≡ Some (vote_of ballot flight) = rw same fits.1.voted in
    first (rw (there, alone) (eq-eqb vote.ballot vote.ballot refl))) in
    (own, record { slot = fits.1.slot; voted = at_put flight.slot vote kept.votes ∙ rw apart fits.1.voted })

-- a leader's own vote is the one of its flight
fits_after_proposal : (self : Identity) (kept : Durable) (prefix : ℕ) (vote : Vote) (best : List Vote) (flight : Flight) → IsOwn self kept vote.ballot → vote.slot ≡ prefix → flight.slot ≡ vote.slot → flight.entry ≡ vote.entry → FitsTerm self (after_delta (Voted vote) kept) prefix (Leader vote.ballot best (Some flight))
unfolding after_delta
fits_after_proposal self kept prefix vote best flight own at slot entry =
    let is : eqb vote.slot flight.slot ≡ true = eq-eqb vote.slot flight.slot (sym slot) in
    let same : Some vote ≡ Some (vote_of vote.ballot flight) = rw (slot, entry) refl in (
      record { promised = refl; member = own.member; round = own.round },
      record { slot = slot ∙ at; voted = at_put flight.slot vote kept.votes ∙ rw is same },
    )

-- the ballot that is promised is one more than was seen, or the next own one's at most
above_seen : (seen ballot tried : ℕ) → ballot ≤ seen → ballot ≤ max seen (ballot_number tried 7)
above_seen seen ballot tried up = let left = le-max_left seen (ballot_number tried 7) in omega (arith, left, up)

more_seen : (seen more promised tried : ℕ) → promised ≤ max seen (ballot_number tried 7) → promised ≤ max (max seen more) (ballot_number tried 7)
more_seen seen more promised tried up =
    let a = le-max_left seen more in
    let b = le-max_left (max seen more) (ballot_number tried 7) in
    let c = le-max_right (max seen more) (ballot_number tried 7) in
    let d : seen ≤ max (max seen more) (ballot_number tried 7) = omega (arith, a, b) in
    let e : max seen (ballot_number tried 7) ≤ max (max seen more) (ballot_number tried 7) = max-le d c in
    omega (arith, up, e)

own_seen : (seen ballot : ℕ) → ballot ≤ max seen (ballot_number (round_of ballot) 7)
own_seen seen ballot = let right = le-max_right seen (ballot_number (round_of ballot) 7) in omega (arith, right)

length-push : (entries : List Entry) (entry : Entry) → length (entries ++ entry ∷ []) ≡ length entries + 1
length-push entries entry = length-append entries (entry ∷ [])

-- Behind its prefix a replica has learned nothing.
length-drop_all : (entries : List Entry) (n : ℕ) → length entries ≤ n → length (drop n entries) ≡ 0
length-drop_all entries n more = omega (arith, more, length-drop n entries)

-- a new base at the prefix or behind it
fits_after_rebase : (self : Identity) (kept : Durable) (prefix slot : ℕ) (rows : List JobRow) (term : Term) → prefix ≤ slot → FitsTerm self kept prefix term → FitsTerm self (after_delta (Base slot rows) kept) slot (after_advance slot term)
unfolding after_delta
fits_after_rebase self kept prefix slot rows (Follower ended) later fits = tt
fits_after_rebase self kept prefix slot rows (Candidate ballot first heard best) later fits =
    record { promised = fits.promised; member = fits.member; round = fits.round }
fits_after_rebase self kept prefix slot rows (Leader ballot best None) later fits =
    (record { promised = fits.0.promised; member = fits.0.member; round = fits.0.round }, tt)
fits_after_rebase self kept prefix slot rows (Leader ballot best (Some flight)) later fits =
    let own : IsOwn self (after_delta (Base slot rows) kept) ballot =
    record { promised = fits.0.promised; member = fits.0.member; round = fits.0.round } in
    elim (cases_lt flight.slot slot) [
      | inl below ↦ rw (lt-ltb flight.slot slot below) (own, tt)
      | inr here ↦
          let at : flight.slot ≡ slot = omega (arith, here, fits.1.slot, later) in
          let voted : vote_at flight.slot (votes_from slot kept.votes) ≡ Some (vote_of ballot flight) =
          at_from slot flight.slot kept.votes ∙ rw (le-leb slot flight.slot here) fits.1.voted in
          rw (le-ltb flight.slot slot here) (own, record { slot = at; voted = voted })
    ]

-- each act that may be done leaves a coherent replica
pub act_sound : (setting : Setting) (state : State) (act : Act) → IsCoherent setting.self state → May setting state act → IsCoherent setting.self (after_act act state)
unfolding after_act after_delta May
act_sound setting state (Observe ballot) sound may = record {
  promised = more_seen state.seen ballot (promised_in state.kept) state.kept.tried sound.promised;
  term = fits_after_ballot setting.self state.kept (prefix_of state) ballot state.term sound.term;
  votes = sound.votes;
}
act_sound setting state (Stand me ballot) sound may = record {
  promised = own_seen state.seen ballot;
  term = record { promised = refl; member = may.own; round = refl };
  votes = AreUpTo-more (promised_in state.kept) ballot state.kept.votes (omega (arith, may.above)) sound.votes;
}
act_sound setting state (Gather from votes) sound may = record {
  promised = sound.promised;
  term = fits_after_gathering setting.self state.kept (prefix_of state) from votes state.term sound.term;
  votes = sound.votes;
}
act_sound setting state TakeLead sound may = record {
  promised = sound.promised;
  term = fits_as_leader setting.self state.kept (prefix_of state) state.term sound.term;
  votes = sound.votes;
}
act_sound setting state (Pledge ballot) sound may = record {
  promised = above_seen state.seen ballot state.kept.tried may.seen;
  term = fits_follower setting.self (after_delta (Promised ballot) state.kept) (prefix_of state) state.term may.follower;
  votes = AreUpTo-more (promised_in state.kept) ballot state.kept.votes (omega (arith, may.above)) sound.votes;
}
act_sound setting state (Cast vote) sound may = record {
  promised = above_seen state.seen vote.ballot state.kept.tried may.seen;
  term = fits_after_vote setting.self state.kept (prefix_of state) vote state.term may.alone may.first sound.term;
  votes = AreUpTo-put vote state.kept.votes (AreUpTo-more (promised_in state.kept) vote.ballot state.kept.votes may.promised sound.votes);
}
act_sound setting state (Propose me vote) sound may =
    let fits : FitsTerm setting.self state.kept (prefix_of state) (Leader vote.ballot may.best None) =
    subst (λ term. FitsTerm setting.self state.kept (prefix_of state) term) may.leader sound.term in
    let same : promised_in state.kept ≡ vote.ballot = fits.0.promised in
    record {
      promised = rw (← same) sound.promised;
      term = rw may.leader (fits_after_proposal setting.self state.kept (prefix_of state) vote may.best _ fits.0 may.slot refl refl);
      votes = AreUpTo-put vote state.kept.votes (rw (← same) sound.votes);
    }
act_sound setting state (Count from) sound may = record {
  promised = sound.promised;
  term = fits_after_counting setting.self state.kept (prefix_of state) from state.term sound.term;
  votes = sound.votes;
}
act_sound setting state Wait sound may = record {
  promised = sound.promised;
  term = fits_after_tick setting.self state.kept (prefix_of state) state.term sound.term;
  votes = sound.votes;
}
act_sound setting state (Learn slot entry) sound may =
    let longer : state.kept.base + length (state.learned ++ entry ∷ []) ≡ prefix_of state + 1 =
    omega (arith, length-push state.learned entry) in
    record {
      promised = sound.promised;
      term = rw longer (fits_after_learning setting.self state.kept (prefix_of state) state.term sound.term);
      votes = sound.votes;
    }
act_sound setting state (Rebase slot rows) sound may =
    let short : length (drop (slot - state.kept.base) state.learned) ≡ 0 =
    length-drop_all state.learned (slot - state.kept.base) (omega (arith, may.up)) in
    let at : slot + length (drop (slot - state.kept.base) state.learned) ≡ slot = omega (arith, short) in
    record {
      promised = sound.promised;
      term = rw at (fits_after_rebase setting.self state.kept (prefix_of state) slot rows state.term may.up sound.term);
      votes = AreUpTo-votes_from slot (promised_in state.kept) state.kept.votes sound.votes;
    }
act_sound setting state (Call row) sound may = sound
act_sound setting state (Send whom message) sound may = sound
act_sound setting state (Restart me) sound may = record {
  promised = more_seen _ _ _ _ (le-max_left _ _);
  term = tt;
  votes = sound.votes;
}

-- a replica is coherent when it starts
pub start_sound : (self : Identity) (kept : Durable) → AreUpTo (promised_in kept) kept.votes → IsCoherent self (started self.me kept)
start_sound self kept votes = record { promised = more_seen _ _ _ _ (le-max_left _ _); term = tt; votes = votes }

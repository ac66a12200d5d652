-- Each act that may be done keeps what is known to be chosen.
use Rattle.std.proofs.Common.{◌≡◌, ℕ, ◌+◌, ◌-◌, ◌<◌, ◌≤◌, Some, None, Option, List, [], length, drop, ltb, refl, ◌∙◌, inl, inr, arith, subst}
use Rattle.std.specs.List.{Contains}
use Rattle.std.proofs.Math.ListN.{drop_of_length-le}
use Rattle.std.proofs.lemmas.Bool.{cases_Bool}
use Rattle.paxos_base.specs.Durable.{after_delta}
use Rattle.paxos_base.specs.declared.entry.Entry.{Entry}
use Rattle.paxos_base.specs.declared.entry.Kind.{Kind}
use Rattle.paxos_base.specs.declared.entry.Vote.{Vote}
use Rattle.due_set.specs.Table.{Table}
use Rattle.term_core.specs.Term.{after_advance, after_ballot, after_tick, is_ended_by}
use Rattle.term_core.specs.declared.flight.Flight.{Flight}
use Rattle.term_core.specs.declared.term.Term.{Term}
use Rattle.term_core.specs.declared.term.Term.TheVariants.{Follower, Candidate, Leader}
use Rattle.step_spec.specs.Act.{Act, Observe, Stand, Gather, TakeLead, Pledge, Cast, Propose, Count, Wait, Learn, Rebase, Call, Send, Restart, after_act, after_gathering, as_leader}
use Rattle.step_spec.specs.May.{May, HasSaid}
use Rattle.step_spec.specs.Coherent.{FitsTerm}
use Rattle.step_spec.specs.State.{prefix_of}
use Rattle.agreement.specs.Agree.{HasCast}
use Rattle.step_spec.specs.Step.{Event}
use Rattle.agreement.specs.World.{CastVote, Doing, MayDo, World, after_doing, cast_after}
use Rattle.agreement.proofs.Growing.{cast_now, cast_stays, each_replica, found_there, said_cases}
use Rattle.agreement.proofs.Kept.{Kept, says_may}
use Rattle.agreement.proofs.KeptLemmas.{setting_of}
use Rattle.std.proofs.lemmas.List.Elements.{Contains-push_cases}
use Rattle.term_core.specs.Term.{accepted_by, new_flight}
use Rattle.step_spec.specs.Hear.{known_from}
use Rattle.step_spec.specs.May.{MayLearn}
use Rattle.step_spec.specs.Message.{Accepted, Known}
use Rattle.step_spec.specs.Propose.{vote_of}
use Rattle.step_spec.proofs.VoteLemmas.{known-push}
use Rattle.agreement.specs.Agree.{IsChosen, LearnsChosen, vote_for}
use Rattle.agreement.specs.World.{Learning, learned_after}
use Rattle.agreement.proofs.Chosen.{AreCounted, AreKnown, Counts, HasVote}
use Rattle.agreement.proofs.ToldLemmas.{below_with, only_cases, with_cases}

-- what is chosen stays chosen
pub chosen_on : (n by : ℕ) (act : Act) (cast : List CastVote) (slot : ℕ) (entry : Entry) → IsChosen n cast slot entry → IsChosen n (cast_after by act cast) slot entry
chosen_on n by act cast slot entry chosen = record {
  ballot = chosen.ballot;
  voters = chosen.voters;
  below = chosen.below;
  majority = chosen.majority;
  each = λ q has. cast_stays by act cast q (vote_for slot chosen.ballot entry) (chosen.each q has);
}

counts_on : (n by : ℕ) (act : Act) (cast : List CastVote) (term : Term) → Counts n cast term → Counts n (cast_after by act cast) term
counts_on n by act cast (Follower ended) counts = tt
counts_on n by act cast (Candidate ballot first heard best) counts = tt
counts_on n by act cast (Leader ballot best None) counts = tt
counts_on n by act cast (Leader ballot best (Some flight)) counts =
    record { below = counts.below; each = λ q has. cast_stays by act cast q (vote_of ballot flight) (counts.each q has) }

counts_after_ballot : (n : ℕ) (cast : List CastVote) (ballot : ℕ) (term : Term) → Counts n cast term → Counts n cast (after_ballot ballot term)
counts_after_ballot n cast ballot term counts =
    elim (cases_Bool (is_ended_by ballot term)) [ inl ended ↦ rw ended tt | inr goes ↦ rw goes counts ]

counts_after_gathering : (n : ℕ) (cast : List CastVote) (from : ℕ) (votes : List Vote) (term : Term) → Counts n cast term → Counts n cast (after_gathering from votes term)
counts_after_gathering n cast from votes (Follower ended) counts = tt
counts_after_gathering n cast from votes (Candidate ballot first heard best) counts = tt
counts_after_gathering n cast from votes (Leader ballot best flight) counts = counts

counts_as_leader : (n : ℕ) (cast : List CastVote) (term : Term) → Counts n cast term → Counts n cast (as_leader term)
counts_as_leader n cast (Follower ended) counts = tt
counts_as_leader n cast (Candidate ballot first heard best) counts = tt
counts_as_leader n cast (Leader ballot best flight) counts = counts

counts_after_tick : (n : ℕ) (cast : List CastVote) (term : Term) → Counts n cast term → Counts n cast (after_tick term)
counts_after_tick n cast (Follower ended) counts = tt
counts_after_tick n cast (Candidate ballot first heard best) counts = tt
counts_after_tick n cast (Leader ballot best None) counts = tt
counts_after_tick n cast (Leader ballot best (Some flight)) counts = record { below = counts.below; each = counts.each }

counts_after_advance : (n : ℕ) (cast : List CastVote) (later : ℕ) (term : Term) → Counts n cast term → Counts n cast (after_advance later term)
counts_after_advance n cast later (Follower ended) counts = tt
counts_after_advance n cast later (Candidate ballot first heard best) counts = tt
counts_after_advance n cast later (Leader ballot best None) counts = tt
counts_after_advance n cast later (Leader ballot best (Some flight)) counts =
    elim (cases_Bool (ltb flight.slot later)) [ inl over ↦ rw over tt | inr goes ↦ rw goes counts ]

-- one more that has accepted has voted for the flight, since its ballot has one vote a slot
counts_one_more : (n : ℕ) (w : World) (by from : ℕ) (ballot : ℕ) (best : List Vote) (flight : Flight) → Kept n w → AreKnown n w → n ≤ 7 → by < n → (w.replicas by).term ≡ Leader ballot best (Some flight) → HasSaid w.said from (Accepted ballot flight.slot) → AreCounted n w.cast ballot (accepted_by from flight)
counts_one_more n w by from ballot best flight kept known few member leader said =
    let counts : AreCounted n w.cast ballot flight = subst (λ term. Counts n w.cast term) leader (known.flights by member) in
    let fits : FitsTerm (record { me = by; members = n }) (w.replicas by).kept (prefix_of (w.replicas by)) (Leader ballot best (Some flight)) =
    subst (λ term. FitsTerm (record { me = by; members = n }) (w.replicas by).kept (prefix_of (w.replicas by)) term) leader (kept.sound by member).term in
    let mine : HasCast w.cast by (vote_of ballot flight) =
    kept.stored by (vote_of ballot flight) (found_there flight.slot (w.replicas by).kept.votes (vote_of ballot flight) fits.1.voted) in
    let told = known.accepted from ballot flight.slot said in
    let same : vote_for flight.slot ballot told.entry ≡ vote_of ballot flight =
    kept.once from by (vote_for flight.slot ballot told.entry) (vote_of ballot flight) told.has mine refl refl in
    let speaker = kept.speakers from (Accepted ballot flight.slot) said in
    record {
      below = below_with n from flight.accepted speaker few counts.below;
      each = λ q has. elim (with_cases from flight.accepted q (omega (arith, speaker, few)) has) [
        | inl it ↦ rw it (subst (λ v. HasCast w.cast from v) same told.has)
        | inr old ↦ counts.each q old
      ];
    }

-- a new flight has the vote of its proposer
counts_first : (n by me : ℕ) (cast : List CastVote) (vote : Vote) → by < n → n ≤ 7 → me ≡ by → AreCounted n (cast_after by (Propose me vote) cast) vote.ballot (new_flight vote.slot vote.entry me)
counts_first n by me cast vote member few mine = record {
  below = λ q has. omega (arith, only_cases me q (omega (arith, mine, member, few)) has, mine, member);
  each = λ q has.
      let it : q ≡ by = only_cases me q (omega (arith, mine, member, few)) has ∙ mine in
      rw it (cast_now by (Propose me vote) cast vote refl);
}

counts_here : (n : ℕ) (table : Table) (w : World) (by : ℕ) (event : Option Event) (answer : Option Kind) (act : Act) → Kept n w → AreKnown n w → n ≤ 7 → MayDo n table w (record { by = by; event = event; answer = answer; act = act }) → Counts n (cast_after by act w.cast) (after_act act (w.replicas by)).term
unfolding after_act after_delta May
counts_here n table w by event answer (Observe ballot) kept known few may = counts_after_ballot n w.cast ballot (w.replicas by).term (known.flights by may.member)
counts_here n table w by event answer (Stand me ballot) kept known few may = tt
counts_here n table w by event answer (Gather from votes) kept known few may = counts_after_gathering n w.cast from votes (w.replicas by).term (known.flights by may.member)
counts_here n table w by event answer TakeLead kept known few may = counts_as_leader n w.cast (w.replicas by).term (known.flights by may.member)
counts_here n table w by event answer (Pledge ballot) kept known few may = known.flights by may.member
counts_here n table w by event answer (Cast vote) kept known few may = counts_on n by (Cast vote) w.cast (w.replicas by).term (known.flights by may.member)
counts_here n table w by event answer (Propose me vote) kept known few may =
    rw may.may.leader (counts_first n by me w.cast vote may.member few may.may.is_me)
counts_here n table w by event answer (Count from) kept known few may =
    rw may.may.leader (counts_one_more n w by from may.may.ballot may.may.best may.may.flight kept known few may.member may.may.leader may.may.accepted)
counts_here n table w by event answer Wait kept known few may = counts_after_tick n w.cast (w.replicas by).term (known.flights by may.member)
counts_here n table w by event answer (Learn slot entry) kept known few may = counts_after_advance n w.cast (prefix_of (w.replicas by) + 1) (w.replicas by).term (known.flights by may.member)
counts_here n table w by event answer (Rebase slot rows) kept known few may = counts_after_advance n w.cast slot (w.replicas by).term (known.flights by may.member)
counts_here n table w by event answer (Call row) kept known few may = known.flights by may.member
counts_here n table w by event answer (Send whom message) kept known few may = known.flights by may.member
counts_here n table w by event answer (Restart me) kept known few may = tt

flights_after : (n : ℕ) (table : Table) (w : World) (doing : Doing) → Kept n w → AreKnown n w → n ≤ 7 → MayDo n table w doing → (q : ℕ) → q < n → Counts n (after_doing doing.by doing.act w).cast ((after_doing doing.by doing.act w).replicas q).term
unfolding after_doing
flights_after n table w doing kept known few may q =
    each_replica (λ q s. q < n → Counts n (cast_after doing.by doing.act w.cast) s.term)
    doing.by (after_act doing.act (w.replicas doing.by)) w.replicas q
    (λ member. counts_here n table w doing.by doing.event doing.answer doing.act kept known few may)
    (λ other member. counts_on n doing.by doing.act w.cast (w.replicas q).term (known.flights q member))

accepted_after : (n : ℕ) (table : Table) (w : World) (doing : Doing) → Kept n w → AreKnown n w → MayDo n table w doing → (q ballot slot : ℕ) → HasSaid (after_doing doing.by doing.act w).said q (Accepted ballot slot) → HasVote (after_doing doing.by doing.act w).cast q ballot slot
unfolding after_doing
accepted_after n table w doing kept known may q ballot slot has =
    elim (said_cases doing.by doing.act w.said q (Accepted ballot slot) has) [
      | inl old ↦
          let was = known.accepted q ballot slot old in
          record { entry = was.entry; has = cast_stays doing.by doing.act w.cast q (vote_for slot ballot was.entry) was.has }
      | inr now ↦
          let says = says_may (setting_of n table w doing.by doing.event) (w.replicas doing.by) doing.act (Accepted ballot slot) now.1 may.may in
          let mine = kept.stored doing.by (vote_for slot ballot says.entry) (found_there slot (w.replicas doing.by).kept.votes (vote_for slot ballot says.entry) says.voted) in
          record { entry = says.entry; has = rw now.0 (cast_stays doing.by doing.act w.cast doing.by (vote_for slot ballot says.entry) mine) }
    ]

known_after : (n : ℕ) (table : Table) (w : World) (doing : Doing) → AreKnown n w → MayDo n table w doing → (q slot : ℕ) (entry : Entry) → HasSaid (after_doing doing.by doing.act w).said q (Known slot entry) → IsChosen n (after_doing doing.by doing.act w).cast slot entry
unfolding after_doing
known_after n table w doing known may q slot entry has =
    elim (said_cases doing.by doing.act w.said q (Known slot entry) has) [
      | inl old ↦ chosen_on n doing.by doing.act w.cast slot entry (known.known q slot entry old)
      | inr now ↦ chosen_on n doing.by doing.act w.cast slot entry (known.learned doing.by slot entry
          (says_may (setting_of n table w doing.by doing.event) (w.replicas doing.by) doing.act (Known slot entry) now.1 may.may))
    ]

-- what may be learned is chosen
learn_chosen : (n : ℕ) (table : Table) (w : World) (by : ℕ) (slot : ℕ) (entry : Entry) → AreKnown n w → by < n → MayLearn (record { me = by; members = n }) w.said (w.replicas by) slot entry → IsChosen n w.cast slot entry
learn_chosen n table w by slot entry known member may = elim may.known [
  | inl told ↦ known.known told.0 slot entry told.1
  | inr counted ↦
      let counts : AreCounted n w.cast counted.ballot counted.flight = subst (λ term. Counts n w.cast term) counted.leader (known.flights by member) in
      record {
        ballot = counted.ballot;
        voters = counted.flight.accepted;
        below = counts.below;
        majority = counted.majority;
        each = λ q has. rw (← counted.slot_is, ← counted.entry_is) (counts.each q has);
      }
]

-- the entries that a replica has learned are chosen, also after an act of its own
learned_here : (n : ℕ) (table : Table) (w : World) (by : ℕ) (event : Option Event) (answer : Option Kind) (act : Act) → AreKnown n w → MayDo n table w (record { by = by; event = event; answer = answer; act = act }) → (slot : ℕ) (entry : Entry) → Contains (known_from (after_act act (w.replicas by)).kept.base (after_act act (w.replicas by)).learned) (Known slot entry) → IsChosen n w.cast slot entry
unfolding after_act after_delta May
learned_here n table w by event answer (Learn at new) known may slot entry has =
    elim (Contains-push_cases (known_from (w.replicas by).kept.base (w.replicas by).learned) (Known ((w.replicas by).kept.base + length (w.replicas by).learned) new) (Known slot entry) (rw (known-push (w.replicas by).kept.base (w.replicas by).learned new) at has)) [
      | inl old ↦ known.learned by slot entry old
      | inr same ↦
          let slots : at ≡ slot = may.may.next ∙ known_slot same in
          let entries : new ≡ entry = known_entry same in
          rw (← slots, ← entries) (learn_chosen n table w by at new known may.member may.may)
    ]
  where
    known_slot : {s t : ℕ} {d e : Entry} → Known s d ≡ Known t e → s ≡ t
    known_slot same = cc

    known_entry : {s t : ℕ} {d e : Entry} → Known s d ≡ Known t e → d ≡ e
    known_entry same = cc
learned_here n table w by event answer (Rebase at rows) known may slot entry has =
    let none : drop (at - (w.replicas by).kept.base) (w.replicas by).learned ≡ [] =
    drop_of_length-le (w.replicas by).learned (omega (arith, may.may.up)) in
    absurd (nothing (rw none at has))
  where
    nothing : Contains [] (Known slot entry) → ⊥
    nothing (k, within, is) = omega (arith, within)
learned_here n table w by event answer (Restart me) known may slot entry (k, within, is) = absurd (omega (arith, within))
learned_here n table w by event answer act known may slot entry has = known.learned by slot entry has

learned_state_after : (n : ℕ) (table : Table) (w : World) (doing : Doing) → AreKnown n w → MayDo n table w doing → (q slot : ℕ) (entry : Entry) → Contains (known_from ((after_doing doing.by doing.act w).replicas q).kept.base ((after_doing doing.by doing.act w).replicas q).learned) (Known slot entry) → IsChosen n (after_doing doing.by doing.act w).cast slot entry
unfolding after_doing
learned_state_after n table w doing known may q slot entry =
    each_replica (λ q s. Contains (known_from s.kept.base s.learned) (Known slot entry) → IsChosen n (cast_after doing.by doing.act w.cast) slot entry)
    doing.by (after_act doing.act (w.replicas doing.by)) w.replicas q
    (λ has. chosen_on n doing.by doing.act w.cast slot entry (learned_here n table w doing.by doing.event doing.answer doing.act known may slot entry has))
    (λ other has. chosen_on n doing.by doing.act w.cast slot entry (known.learned q slot entry has))

rows_after : (n : ℕ) (table : Table) (w : World) (by : ℕ) (event : Option Event) (answer : Option Kind) (act : Act) → AreKnown n w → MayDo n table w (record { by = by; event = event; answer = answer; act = act }) → (row : Learning) → Contains (learned_after by act w.learned) row → IsChosen n (cast_after by act w.cast) row.slot row.entry
unfolding May
rows_after n table w by event answer (Learn slot entry) known may row has =
    elim (Contains-push_cases w.learned (record { by = by; slot = slot; entry = entry }) row has) [
      | inl old ↦ known.rows row old
      | inr same ↦ rw (← same) (learn_chosen n table w by slot entry known may.member may.may)
    ]
rows_after n table w by event answer act known may row has = chosen_on n by act w.cast row.slot row.entry (known.rows row has)

learns_after : (n : ℕ) (table : Table) (w : World) (doing : Doing) → AreKnown n w → MayDo n table w doing → LearnsChosen n (after_doing doing.by doing.act w)
unfolding after_doing
learns_after n table w doing known may = rows_after n table w doing.by doing.event doing.answer doing.act known may

pub known_on : (n : ℕ) (table : Table) (w : World) (doing : Doing) → Kept n w → AreKnown n w → n ≤ 7 → MayDo n table w doing → AreKnown n (after_doing doing.by doing.act w)
known_on n table w doing kept known few may = record {
  accepted = accepted_after n table w doing kept known may;
  flights = flights_after n table w doing kept known few may;
  known = known_after n table w doing known may;
  learned = learned_state_after n table w doing known may;
  rows = learns_after n table w doing known may;
}

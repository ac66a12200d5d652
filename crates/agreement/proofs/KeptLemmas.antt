-- Each act that may be done keeps what replicas keep of their votes.
use Rattle.std.proofs.Common.{◌≡◌, ℕ, ◌+◌, ◌-◌, ◌<◌, ◌≤◌, Some, None, Option, List, [], ◌∷◌, ◌++◌, length, drop, sym, ap, ◌∙◌, inl, inr, arith, subst, length-append}
use Rattle.std.specs.List.{Contains}
use Rattle.std.proofs.lemmas.List.{length-drop}
use Rattle.paxos_base.specs.Ballot.{member_of, round_of}
use Rattle.paxos_base.specs.Vote.{vote_at}
use Rattle.paxos_base.specs.Durable.{after_delta}
use Rattle.paxos_base.specs.declared.entry.Vote.{Vote}
use Rattle.due_set.specs.Table.{Table}
use Rattle.term_core.specs.declared.term.Term.{Term}
use Rattle.term_core.specs.declared.term.Term.TheVariants.{Follower, Candidate, Leader}
use Rattle.step_spec.specs.Act.{Act, Observe, Stand, Gather, TakeLead, Pledge, Cast, Propose, Count, Wait, Learn, Rebase, Call, Send, Restart, after_act}
use Rattle.step_spec.specs.May.{May, Setting, HasSaid}
use Rattle.step_spec.specs.Message.{Message, Accept}
use Rattle.step_spec.specs.Coherent.{IsCoherent, FitsTerm}
use Rattle.step_spec.specs.State.{prefix_of, promised_in}
use Rattle.step_spec.proofs.SoundLemmas.{act_sound}
use Rattle.agreement.specs.Agree.{HasCast}
use Rattle.step_spec.specs.Step.{Event}
use Rattle.agreement.specs.World.{Doing, MayDo, World, after_doing, cast_after}
use Rattle.agreement.proofs.Growing.{Casts, IsLater, cast_cases, cast_now, cast_stays, casts_stored, each_replica, found_there, goes_on, said_cases}
use Rattle.agreement.proofs.Kept.{Kept, asked_by, proposed_by, Owns, casts_one, casts_origin, leads_own, own_ballot, owns_after_advance, owns_after_ballot, owns_after_counting, owns_after_gathering, owns_after_tick, owns_as_leader, owns_fewer, says_may}

-- the setting in which a replica acts
abbrev pub setting_of : ℕ → Table → World → ℕ → Option Event → Setting
setting_of n table w by event = record { self = record { me = by; members = n }; table = table; event = event; said = w.said; answered = w.answered }

below_after : (n : ℕ) (table : Table) (w : World) (doing : Doing) → Kept n w → MayDo n table w doing → (q : ℕ) (vote : Vote) → HasCast (after_doing doing.by doing.act w).cast q vote → vote.ballot ≤ promised_in ((after_doing doing.by doing.act w).replicas q).kept
unfolding after_doing
below_after n table w doing kept may q vote =
    let go = goes_on (setting_of n table w doing.by doing.event) (w.replicas doing.by) doing.act (kept.sound doing.by may.member) may.may in
    each_replica (λ q s. HasCast (cast_after doing.by doing.act w.cast) q vote → vote.ballot ≤ promised_in s.kept)
    doing.by (after_act doing.act (w.replicas doing.by)) w.replicas q
    (λ has. elim (cast_cases doing.by doing.act w.cast doing.by vote has) [
      | inl old ↦ omega (arith, kept.below doing.by vote old, go.promised)
      | inr now ↦ omega (arith, (casts_stored (w.replicas doing.by) doing.act vote now.1).1)
    ])
    (λ other has. elim (cast_cases doing.by doing.act w.cast q vote has) [
      | inl old ↦ kept.below q vote old
      | inr now ↦ absurd (other now.0)
    ])

latest_after : (n : ℕ) (table : Table) (w : World) (doing : Doing) → Kept n w → MayDo n table w doing → (q : ℕ) (vote : Vote) → HasCast (after_doing doing.by doing.act w).cast q vote → ((after_doing doing.by doing.act w).replicas q).kept.base ≤ vote.slot → IsLater (vote_at vote.slot ((after_doing doing.by doing.act w).replicas q).kept.votes) vote.ballot
unfolding after_doing
latest_after n table w doing kept may q vote =
    let go = goes_on (setting_of n table w doing.by doing.event) (w.replicas doing.by) doing.act (kept.sound doing.by may.member) may.may in
    each_replica (λ q s. HasCast (cast_after doing.by doing.act w.cast) q vote → s.kept.base ≤ vote.slot → IsLater (vote_at vote.slot s.kept.votes) vote.ballot)
    doing.by (after_act doing.act (w.replicas doing.by)) w.replicas q
    (λ has within. elim (cast_cases doing.by doing.act w.cast doing.by vote has) [
      | inl old ↦
          let before = kept.latest doing.by vote old (omega (arith, go.base, within)) in
          let now = go.votes vote.slot before.vote within before.is in
          record { vote = now.vote; is = now.is; later = omega (arith, before.later, now.later) }
      | inr now ↦ record { vote = vote; is = (casts_stored (w.replicas doing.by) doing.act vote now.1).0; later = omega arith }
    ])
    (λ other has within. elim (cast_cases doing.by doing.act w.cast q vote has) [
      | inl old ↦ kept.latest q vote old within
      | inr now ↦ absurd (other now.0)
    ])

stored_after : (n : ℕ) (table : Table) (w : World) (doing : Doing) → Kept n w → MayDo n table w doing → (q : ℕ) (vote : Vote) → Contains ((after_doing doing.by doing.act w).replicas q).kept.votes vote → HasCast (after_doing doing.by doing.act w).cast q vote
unfolding after_doing
stored_after n table w doing kept may q vote =
    let go = goes_on (setting_of n table w doing.by doing.event) (w.replicas doing.by) doing.act (kept.sound doing.by may.member) may.may in
    each_replica (λ q s. Contains s.kept.votes vote → HasCast (cast_after doing.by doing.act w.cast) q vote)
    doing.by (after_act doing.act (w.replicas doing.by)) w.replicas q
    (λ has. elim (go.stored vote has) [
      | inl old ↦ cast_stays doing.by doing.act w.cast doing.by vote (kept.stored doing.by vote old)
      | inr now ↦ cast_now doing.by doing.act w.cast vote now
    ])
    (λ other has. cast_stays doing.by doing.act w.cast q vote (kept.stored q vote has))

accepts_after : (n : ℕ) (table : Table) (w : World) (doing : Doing) → Kept n w → MayDo n table w doing → (q : ℕ) (vote : Vote) → HasSaid (after_doing doing.by doing.act w).said q (Accept vote) → HasCast (after_doing doing.by doing.act w).cast q vote × (member_of vote.ballot ≡ q)
unfolding after_doing
accepts_after n table w doing kept may q vote has =
    elim (said_cases doing.by doing.act w.said q (Accept vote) has) [
      | inl old ↦ let before = kept.accepts q vote old in (cast_stays doing.by doing.act w.cast q vote before.0, before.1)
      | inr now ↦
          let says = says_may (setting_of n table w doing.by doing.event) (w.replicas doing.by) doing.act (Accept vote) now.1 may.may in
          let sound = kept.sound doing.by may.member in
          let mine = leads_own (record { me = doing.by; members = n }) (w.replicas doing.by) vote.ballot (w.replicas doing.by).term sound.term says.1 in
          let cast = cast_stays doing.by doing.act w.cast doing.by vote (kept.stored doing.by vote (found_there vote.slot (w.replicas doing.by).kept.votes vote says.0)) in
          rw now.0 (cast, mine.member)
    ]

proposed_after : (n : ℕ) (table : Table) (w : World) (doing : Doing) → Kept n w → MayDo n table w doing → (q : ℕ) (vote : Vote) → HasCast (after_doing doing.by doing.act w).cast q vote → HasCast (after_doing doing.by doing.act w).cast (member_of vote.ballot) vote
unfolding after_doing
proposed_after n table w doing kept may q vote has =
    elim (cast_cases doing.by doing.act w.cast q vote has) [
      | inl old ↦ cast_stays doing.by doing.act w.cast (member_of vote.ballot) vote (kept.proposed q vote old)
      | inr now ↦ elim (casts_origin (setting_of n table w doing.by doing.event) (w.replicas doing.by) doing.act vote now.1 may.may) [
        | asked_by from said ↦
            let asked = kept.accepts from vote said in
            cast_stays doing.by doing.act w.cast (member_of vote.ballot) vote (rw asked.1 asked.0)
        | proposed_by me proposal ↦
            let mine = own_ballot (record { me = doing.by; members = n }) (w.replicas doing.by) vote.ballot proposal.best None (kept.sound doing.by may.member) proposal.leader in
            rw mine.member (cast_now doing.by doing.act w.cast vote now.1)
      ]
    ]

rounds_after : (n : ℕ) (table : Table) (w : World) (doing : Doing) → Kept n w → MayDo n table w doing → (q : ℕ) (vote : Vote) → HasCast (after_doing doing.by doing.act w).cast q vote → member_of vote.ballot ≡ q → round_of vote.ballot ≤ ((after_doing doing.by doing.act w).replicas q).kept.tried
unfolding after_doing
rounds_after n table w doing kept may q vote =
    let go = goes_on (setting_of n table w doing.by doing.event) (w.replicas doing.by) doing.act (kept.sound doing.by may.member) may.may in
    each_replica (λ q s. HasCast (cast_after doing.by doing.act w.cast) q vote → member_of vote.ballot ≡ q → round_of vote.ballot ≤ s.kept.tried)
    doing.by (after_act doing.act (w.replicas doing.by)) w.replicas q
    (λ has mine. elim (cast_cases doing.by doing.act w.cast doing.by vote has) [
      | inl old ↦ omega (arith, kept.rounds doing.by vote old mine, go.tried)
      | inr now ↦ elim (casts_origin (setting_of n table w doing.by doing.event) (w.replicas doing.by) doing.act vote now.1 may.may) [
        | asked_by from said ↦
            let asked = kept.accepts from vote said in
            let old : HasCast w.cast doing.by vote = rw (sym mine ∙ asked.1) asked.0 in
            omega (arith, kept.rounds doing.by vote old mine, go.tried)
        | proposed_by me proposal ↦
            let own = own_ballot (record { me = doing.by; members = n }) (w.replicas doing.by) vote.ballot proposal.best None (kept.sound doing.by may.member) proposal.leader in
            omega (arith, own.round, go.tried)
      ]
    ])
    (λ other has mine. elim (cast_cases doing.by doing.act w.cast q vote has) [
      | inl old ↦ kept.rounds q vote old mine
      | inr now ↦ absurd (other now.0)
    ])

-- a proposal is the first vote of its ballot at its slot
proposal_is_first : (n : ℕ) (w : World) (by : ℕ) (vote : Vote) (best : List Vote) → Kept n w → by < n → (w.replicas by).term ≡ Leader vote.ballot best None → vote.slot ≡ prefix_of (w.replicas by) → (b : ℕ) (old : Vote) → HasCast w.cast b old → vote.slot ≡ old.slot → vote.ballot ≡ old.ballot → ⊥
proposal_is_first n w by vote best kept member leader at b old has slots ballots =
    let mine = own_ballot (record { me = by; members = n }) (w.replicas by) vote.ballot best None (kept.sound by member) leader in
    let owner : member_of old.ballot ≡ by = rw (← ballots) mine.member in
    let own : HasCast w.cast by old = subst (λ q. HasCast w.cast q old) owner (kept.proposed b old has) in
    let owns : Owns w.cast by (prefix_of (w.replicas by)) (Leader vote.ballot best None) =
    subst (λ term. Owns w.cast by (prefix_of (w.replicas by)) term) leader (kept.owns by member) in
    omega (arith, owns old own (sym ballots), slots, at)

-- a new vote and an old one of its slot and ballot are one
once_new : (n : ℕ) (table : Table) (w : World) (doing : Doing) → Kept n w → MayDo n table w doing → (b : ℕ) (u v : Vote) → Casts doing.act u → HasCast w.cast b v → u.slot ≡ v.slot → u.ballot ≡ v.ballot → u ≡ v
once_new n table w doing kept may b u v casts has slots ballots =
    elim (casts_origin (setting_of n table w doing.by doing.event) (w.replicas doing.by) doing.act u casts may.may) [
      | asked_by from said ↦ kept.once from b u v (kept.accepts from u said).0 has slots ballots
      | proposed_by me proposal ↦
          absurd (proposal_is_first n w doing.by u proposal.best kept may.member proposal.leader proposal.slot b v has slots ballots)
    ]

once_after : (n : ℕ) (table : Table) (w : World) (doing : Doing) → Kept n w → MayDo n table w doing → (a b : ℕ) (u v : Vote) → HasCast (after_doing doing.by doing.act w).cast a u → HasCast (after_doing doing.by doing.act w).cast b v → u.slot ≡ v.slot → u.ballot ≡ v.ballot → u ≡ v
unfolding after_doing
once_after n table w doing kept may a b u v has_u has_v slots ballots =
    elim (cast_cases doing.by doing.act w.cast a u has_u) [
      | inl old_u ↦ elim (cast_cases doing.by doing.act w.cast b v has_v) [
        | inl old_v ↦ kept.once a b u v old_u old_v slots ballots
        | inr new_v ↦ sym (once_new n table w doing kept may a v u new_v.1 old_u (sym slots) (sym ballots))
      ]
      | inr new_u ↦ elim (cast_cases doing.by doing.act w.cast b v has_v) [
        | inl old_v ↦ once_new n table w doing kept may b u v new_u.1 old_v slots ballots
        | inr new_v ↦ casts_one doing.act u v new_u.1 new_v.1
      ]
    ]

-- the votes in the term's own ballot after an act of the replica itself
owns_here : (n : ℕ) (table : Table) (w : World) (by : ℕ) (event : Option Event) (act : Act) → Kept n w → by < n → May (setting_of n table w by event) (w.replicas by) act → Owns (cast_after by act w.cast) by (prefix_of (after_act act (w.replicas by))) (after_act act (w.replicas by)).term
unfolding after_act after_delta May
owns_here n table w by event (Observe ballot) kept member may =
    owns_after_ballot w.cast by (prefix_of (w.replicas by)) ballot (w.replicas by).term (kept.owns by member)
owns_here n table w by event (Stand me ballot) kept member may =
    λ vote has is. let low = kept.rounds by vote has (rw is may.own) in omega (arith, low, may.higher, ap round_of is)
owns_here n table w by event (Gather from votes) kept member may =
    owns_after_gathering w.cast by (prefix_of (w.replicas by)) from votes (w.replicas by).term (kept.owns by member)
owns_here n table w by event TakeLead kept member may =
    owns_as_leader w.cast by (prefix_of (w.replicas by)) (w.replicas by).term (kept.owns by member)
owns_here n table w by event (Pledge ballot) kept member may = kept.owns by member
owns_here n table w by event (Cast vote) kept member may =
    go (w.replicas by).term (kept.sound by member).term (kept.owns by member)
  where
    asked : HasCast w.cast may.from vote × (member_of vote.ballot ≡ may.from)
    asked = kept.accepts may.from vote may.asked

    -- a vote in a ballot of one's own was one's own proposal
    old : (ballot : ℕ) → member_of ballot ≡ by → (other : Vote) → HasCast (cast_after by (Cast vote) w.cast) by other → other.ballot ≡ ballot → HasCast w.cast by other
    old ballot mine other has is = elim (cast_cases by (Cast vote) w.cast by other has) [
      | inl before ↦ before
      | inr now ↦
          let owner : may.from ≡ by = sym asked.1 ∙ ap (λ v. member_of v.ballot) now.1 ∙ ap member_of is ∙ mine in
          rw (← now.1) (subst (λ q. HasCast w.cast q vote) owner asked.0)
    ]

    go : (term : Term) → FitsTerm (record { me = by; members = n }) (w.replicas by).kept (prefix_of (w.replicas by)) term → Owns w.cast by (prefix_of (w.replicas by)) term → Owns (cast_after by (Cast vote) w.cast) by (prefix_of (w.replicas by)) term
    go (Follower ended) fits owns = tt
    go (Candidate ballot first heard best) fits owns = λ other has is. owns other (old ballot fits.member other has is) is
    go (Leader ballot best None) fits owns = λ other has is. owns other (old ballot fits.0.member other has is) is
    go (Leader ballot best (Some flight)) fits owns = λ other has is. owns other (old ballot fits.0.member other has is) is
owns_here n table w by event (Propose me vote) kept member may =
    rw may.leader (λ (other : Vote) (has : HasCast (cast_after by (Propose me vote) w.cast) by other) (is : other.ballot ≡ vote.ballot). elim (cast_cases by (Propose me vote) w.cast by other has) [
      | inl before ↦ inl (owns other before is)
      | inr now ↦ inr (sym now.1)
    ])
  where
    owns : Owns w.cast by (prefix_of (w.replicas by)) (Leader vote.ballot may.best None)
    owns = subst (λ term. Owns w.cast by (prefix_of (w.replicas by)) term) may.leader (kept.owns by member)
owns_here n table w by event (Count from) kept member may =
    owns_after_counting w.cast by (prefix_of (w.replicas by)) from (w.replicas by).term (kept.owns by member)
owns_here n table w by event Wait kept member may =
    owns_after_tick w.cast by (prefix_of (w.replicas by)) (w.replicas by).term (kept.owns by member)
owns_here n table w by event (Learn slot entry) kept member may =
    let longer : (w.replicas by).kept.base + length ((w.replicas by).learned ++ entry ∷ []) ≡ prefix_of (w.replicas by) + 1 =
    omega (arith, length-append (w.replicas by).learned (entry ∷ [])) in
    rw longer (owns_after_advance (record { me = by; members = n }) (w.replicas by) w.cast by (prefix_of (w.replicas by) + 1) (w.replicas by).term (omega arith) (kept.sound by member).term (kept.owns by member))
owns_here n table w by event (Rebase slot rows) kept member may =
    let short : length (drop (slot - (w.replicas by).kept.base) (w.replicas by).learned) ≡ 0 =
    omega (arith, may.up, length-drop (slot - (w.replicas by).kept.base) (w.replicas by).learned) in
    let at : slot + length (drop (slot - (w.replicas by).kept.base) (w.replicas by).learned) ≡ slot = omega (arith, short) in
    rw at (owns_after_advance (record { me = by; members = n }) (w.replicas by) w.cast by slot (w.replicas by).term may.up (kept.sound by member).term (kept.owns by member))
owns_here n table w by event (Call row) kept member may = kept.owns by member
owns_here n table w by event (Send whom message) kept member may = kept.owns by member
owns_here n table w by event (Restart me) kept member may = tt

owns_after : (n : ℕ) (table : Table) (w : World) (doing : Doing) → Kept n w → MayDo n table w doing → (q : ℕ) → q < n → Owns (after_doing doing.by doing.act w).cast q (prefix_of ((after_doing doing.by doing.act w).replicas q)) ((after_doing doing.by doing.act w).replicas q).term
unfolding after_doing
owns_after n table w doing kept may q =
    each_replica (λ q s. q < n → Owns (cast_after doing.by doing.act w.cast) q (prefix_of s) s.term)
    doing.by (after_act doing.act (w.replicas doing.by)) w.replicas q
    (λ member. owns_here n table w doing.by doing.event doing.act kept member may.may)
    (λ other member. owns_fewer w.cast (cast_after doing.by doing.act w.cast) q (prefix_of (w.replicas q)) (w.replicas q).term
    (λ vote has. elim (cast_cases doing.by doing.act w.cast q vote has) [ inl old ↦ old | inr now ↦ absurd (other now.0) ])
    (kept.owns q member))

sound_after : (n : ℕ) (table : Table) (w : World) (doing : Doing) → Kept n w → MayDo n table w doing → (q : ℕ) → q < n → IsCoherent (record { me = q; members = n }) ((after_doing doing.by doing.act w).replicas q)
unfolding after_doing
sound_after n table w doing kept may q =
    each_replica (λ q s. q < n → IsCoherent (record { me = q; members = n }) s)
    doing.by (after_act doing.act (w.replicas doing.by)) w.replicas q
    (λ member. act_sound (setting_of n table w doing.by doing.event) (w.replicas doing.by) doing.act (kept.sound doing.by member) may.may)
    (λ other member. kept.sound q member)

members_after : (n : ℕ) (table : Table) (w : World) (doing : Doing) → Kept n w → MayDo n table w doing → (q : ℕ) (vote : Vote) → HasCast (after_doing doing.by doing.act w).cast q vote → q < n
unfolding after_doing
members_after n table w doing kept may q vote has =
    elim (cast_cases doing.by doing.act w.cast q vote has) [ inl old ↦ kept.members q vote old | inr now ↦ rw now.0 may.member ]

speakers_after : (n : ℕ) (table : Table) (w : World) (doing : Doing) → Kept n w → MayDo n table w doing → (q : ℕ) (message : Message) → HasSaid (after_doing doing.by doing.act w).said q message → q < n
unfolding after_doing
speakers_after n table w doing kept may q message has =
    elim (said_cases doing.by doing.act w.said q message has) [ inl old ↦ kept.speakers q message old | inr now ↦ rw now.0 may.member ]

pub kept_after : (n : ℕ) (table : Table) (w : World) (doing : Doing) → Kept n w → MayDo n table w doing → Kept n (after_doing doing.by doing.act w)
kept_after n table w doing kept may = record {
  sound = sound_after n table w doing kept may;
  members = members_after n table w doing kept may;
  speakers = speakers_after n table w doing kept may;
  below = below_after n table w doing kept may;
  latest = latest_after n table w doing kept may;
  stored = stored_after n table w doing kept may;
  accepts = accepts_after n table w doing kept may;
  proposed = proposed_after n table w doing kept may;
  rounds = rounds_after n table w doing kept may;
  owns = owns_after n table w doing kept may;
  once = once_after n table w doing kept may;
}

-- Each act that may be done keeps what was told and heard.
use Rattle.std.proofs.Common.{◌≡◌, ℕ, ◌+◌, ◌-◌, ◌<◌, ◌≤◌, Option, Some, None, List, [], ◌∷◌, ◌++◌, length, drop, refl, sym, ◌∙◌, inl, inr, arith, subst, ◌⊎◌, length-append}
use Rattle.std.specs.List.{Contains}
use Rattle.std.specs.Option.{IsSomeAnd}
use Rattle.std.proofs.lemmas.List.Elements.{All-contains, All-contains_itself, Contains-push, Contains-append_left, Contains-append_right}
use Rattle.std.proofs.lemmas.Nat.Bits.{bit_at-zero}
use Rattle.std.proofs.lemmas.Bool.{cases_Bool, le-leb}
use Rattle.paxos_base.specs.Durable.{after_delta}
use Rattle.paxos_base.specs.Members.{AllBelow, HasMember, no_members, only_member, with_member}
use Rattle.paxos_base.specs.Vote.{vote_at, votes_from}
use Rattle.paxos_base.specs.declared.entry.Kind.{Kind}
use Rattle.paxos_base.specs.declared.entry.Vote.{Vote}
use Rattle.paxos_base.proofs.MemberLemmas.{has_member-set}
use Rattle.paxos_base.proofs.PutLemmas.{at_from}
use Rattle.due_set.specs.Table.{Table}
use Rattle.term_core.specs.Best.{best_of, is_higher, with_vote}
use Rattle.term_core.specs.Term.{after_advance, after_ballot, after_tick, is_ended_by}
use Rattle.term_core.specs.declared.term.Term.{Term}
use Rattle.term_core.specs.declared.term.Term.TheVariants.{Follower, Candidate, Leader}
use Rattle.term_core.proofs.LawLemmas.{held_or_higher, heard_or_higher}
use Rattle.step_spec.specs.Act.{Act, Observe, Stand, Gather, TakeLead, Pledge, Cast, Propose, Count, Wait, Learn, Rebase, Call, Send, Restart, after_act, after_counting}
use Rattle.step_spec.specs.May.{May, MayPromise, HasSaid}
use Rattle.step_spec.specs.Message.{Promise}
use Rattle.step_spec.specs.State.{prefix_of, promised_in}
use Rattle.step_spec.proofs.VoteLemmas.{found_vote}
use Rattle.step_spec.specs.Step.{Event}
use Rattle.agreement.specs.World.{CastVote, Doing, MayDo, World, after_doing, cast_after, with_replica}
use Rattle.agreement.proofs.Growing.{IsLater, cast_cases, cast_stays, casts_stored, each_replica, from_there, goes_on, put_cases, said_cases}
use Rattle.agreement.proofs.Kept.{Kept, says_may}
use Rattle.agreement.proofs.KeptLemmas.{setting_of}
use Rattle.agreement.proofs.Told.{Heeds, AreBacked, IsRallied, IsLed, HasHeard, IsPromised, Told}

-- who heeds a ballot goes on to heed it
heeds_on : (n : ℕ) (table : Table) (w : World) (doing : Doing) → Kept n w → MayDo n table w doing → (q ballot first : ℕ) (votes : List Vote) → Heeds w.cast (promised_in (w.replicas q).kept) q ballot first votes → Heeds (after_doing doing.by doing.act w).cast (promised_in ((after_doing doing.by doing.act w).replicas q).kept) q ballot first votes
unfolding after_doing
heeds_on n table w doing kept may q ballot first votes =
    let go = goes_on (setting_of n table w doing.by doing.event) (w.replicas doing.by) doing.act (kept.sound doing.by may.member) may.may in
    each_replica (λ q s. Heeds w.cast (promised_in (w.replicas q).kept) q ballot first votes → Heeds (cast_after doing.by doing.act w.cast) (promised_in s.kept) q ballot first votes)
    doing.by (after_act doing.act (w.replicas doing.by)) w.replicas q
    (λ heeds. record {
      promised_it = omega (arith, heeds.promised_it, go.promised);
      tells = λ vote has within low. elim (cast_cases doing.by doing.act w.cast doing.by vote has) [
        | inl old ↦ heeds.tells vote old within low
        | inr now ↦ absurd (omega (arith, low, heeds.promised_it, go.promised, (casts_stored (w.replicas doing.by) doing.act vote now.1).1))
      ];
    })
    (λ other heeds. record {
      promised_it = heeds.promised_it;
      tells = λ vote has within low. elim (cast_cases doing.by doing.act w.cast q vote has) [
        | inl old ↦ heeds.tells vote old within low
        | inr now ↦ absurd (other now.0)
      ];
    })

-- votes that were cast stay cast
backed_on : (by : ℕ) (act : Act) (cast : List CastVote) (ballot : ℕ) (votes : List Vote) → AreBacked cast ballot votes → AreBacked (cast_after by act cast) ballot votes
backed_on by act cast ballot votes backed = λ vote has. let was = backed vote has in (was.0, cast_stays by act cast was.0 vote was.1, was.2)

rallied_on : (n : ℕ) (table : Table) (w : World) (doing : Doing) → Kept n w → MayDo n table w doing → (prefix later ballot first heard : ℕ) (best : List Vote) → prefix ≤ later → IsRallied n w prefix ballot first heard best → IsRallied n (after_doing doing.by doing.act w) later ballot first heard best
unfolding after_doing
rallied_on n table w doing kept may prefix later ballot first heard best up rallied = record {
  up = omega (arith, up, rallied.up);
  below = rallied.below;
  each = λ m has. heeds_on n table w doing kept may m ballot first best (rallied.each m has);
  backed = backed_on doing.by doing.act w.cast ballot best rallied.backed;
}

led_on : (n : ℕ) (table : Table) (w : World) (doing : Doing) → Kept n w → MayDo n table w doing → (prefix later ballot : ℕ) (best : List Vote) → prefix ≤ later → IsLed n w prefix ballot best → IsLed n (after_doing doing.by doing.act w) later ballot best
led_on n table w doing kept may prefix later ballot best up led = record {
  heard = led.heard;
  first = led.first;
  majority = led.majority;
  rallied = rallied_on n table w doing kept may prefix later ballot led.first led.heard best up led.rallied;
}

heard_on : (n : ℕ) (table : Table) (w : World) (doing : Doing) → Kept n w → MayDo n table w doing → (prefix later : ℕ) (term : Term) → prefix ≤ later → HasHeard n w prefix term → HasHeard n (after_doing doing.by doing.act w) later term
heard_on n table w doing kept may prefix later (Follower ended) up heard = tt
heard_on n table w doing kept may prefix later (Candidate ballot first set best) up heard = rallied_on n table w doing kept may prefix later ballot first set best up heard
heard_on n table w doing kept may prefix later (Leader ballot best flight) up heard = led_on n table w doing kept may prefix later ballot best up heard

promised_on : (n : ℕ) (table : Table) (w : World) (doing : Doing) → Kept n w → MayDo n table w doing → (q ballot first : ℕ) (votes : List Vote) → IsPromised w q ballot first votes → IsPromised (after_doing doing.by doing.act w) q ballot first votes
unfolding after_doing
promised_on n table w doing kept may q ballot first votes promise = record {
  heeds = heeds_on n table w doing kept may q ballot first votes promise.heeds;
  backed = backed_on doing.by doing.act w.cast ballot votes promise.backed;
}

-- a promise that may be sent holds
new_promise : (n : ℕ) (w : World) (by ballot first : ℕ) (votes : List Vote) → Kept n w → MayPromise (w.replicas by) ballot first votes → IsPromised w by ballot first votes
new_promise n w by ballot first votes kept may = record {
  heeds = record {
    promised_it = omega (arith, may.promised);
    tells = λ vote has within low.
        let later = kept.latest by vote has (omega (arith, may.kept_all, within)) in
        record { vote = later.vote; is = rw may.votes_are (at_from first vote.slot (w.replicas by).kept.votes ∙ rw (le-leb first vote.slot within) later.is); later = later.later };
  };
  backed = λ vote has. (by, kept.stored by vote (from_there first (w.replicas by).kept.votes vote (rw may.votes_are at has)), All-contains (λ (v : Vote). v.ballot < ballot) votes vote may.lower has);
}

promises_after : (n : ℕ) (table : Table) (w : World) (doing : Doing) → Kept n w → Told n w → MayDo n table w doing → (q ballot first : ℕ) (votes : List Vote) → HasSaid (after_doing doing.by doing.act w).said q (Promise ballot first votes) → IsPromised (after_doing doing.by doing.act w) q ballot first votes
unfolding after_doing
promises_after n table w doing kept told may q ballot first votes has =
    elim (said_cases doing.by doing.act w.said q (Promise ballot first votes) has) [
      | inl old ↦ promised_on n table w doing kept may q ballot first votes (told.promises q ballot first votes old)
      | inr now ↦
          let says = says_may (setting_of n table w doing.by doing.event) (w.replicas doing.by) doing.act (Promise ballot first votes) now.1 may.may in
          promised_on n table w doing kept may q ballot first votes (subst (λ p. IsPromised w p ballot first votes) (sym now.0) (new_promise n w doing.by ballot first votes kept says))
    ]

-- a vote among those with one more put in is that one, or was there
with_there : (best : List Vote) (first vote : Vote) → Contains (with_vote best first) vote → Contains best vote ⊎ (first ≡ vote)
unfolding with_vote
with_there best first vote has =
    elim (cases_Bool (is_higher first (vote_at first.slot best))) [
      | inl higher ↦ elim (put_cases first best (Cast first) refl vote (rw higher at has)) [ inl old ↦ inl old | inr same ↦ inr same ]
      | inr lower ↦ inl (rw lower at has)
    ]

-- one more replica in a set
pub with_cases : (from set m : ℕ) → from < 8 → HasMember (with_member from set) m → (m ≡ from) ⊎ HasMember set m
unfolding with_member
with_cases from set m small has = (has_member-set set from small m).0 has

none_there : (m : ℕ) → HasMember no_members m → ⊥
none_there m has = let none = bit_at-zero m in omega (arith, has, none)

-- a set of replicas with one more of them
pub below_with : (n from set : ℕ) → from < n → n ≤ 7 → AllBelow n set → AllBelow n (with_member from set)
below_with n from set member few below m has =
    elim (with_cases from set m (omega (arith, member, few)) has) [ inl same ↦ omega (arith, same, member) | inr old ↦ below m old ]

pub only_cases : (me m : ℕ) → me < 8 → HasMember (only_member me) m → m ≡ me
only_cases me m small has =
    elim (with_cases me no_members m small has) [ inl same ↦ same | inr none ↦ absurd (none_there m none) ]

-- a candidate heeds its own ballot
stands : (n : ℕ) (table : Table) (w : World) (by : ℕ) (event : Option Event) (answer : Option Kind) (me ballot : ℕ) → Kept n w → n ≤ 7 → MayDo n table w (record { by = by; event = event; answer = answer; act = Stand me ballot }) → IsRallied n (after_doing by (Stand me ballot) w) (prefix_of (w.replicas by)) ballot (prefix_of (w.replicas by)) (only_member me) (votes_from (prefix_of (w.replicas by)) (w.replicas by).kept.votes)
unfolding after_doing after_act after_delta May
stands n table w by event answer me ballot kept few may = record {
  up = omega arith;
  below = λ m has. omega (arith, only_cases me m (omega (arith, mine, may.member, few)) has, mine, may.member);
  each = λ m has. heeds m (only_cases me m (omega (arith, mine, may.member, few)) has ∙ mine);
  backed = λ vote has.
      let there = from_there (prefix_of (w.replicas by)) (w.replicas by).kept.votes vote has in
      let up = All-contains (λ (v : Vote). v.ballot ≤ promised_in (w.replicas by).kept) (w.replicas by).kept.votes vote (kept.sound by may.member).votes there in
      (by, kept.stored by vote there, omega (arith, up, may.may.above));
}
  where
    mine : me ≡ by
    mine = may.may.is_me

    heeds : (m : ℕ) → m ≡ by → Heeds w.cast (promised_in (with_replica by (after_act (Stand me ballot) (w.replicas by)) w.replicas m).kept) m ballot (prefix_of (w.replicas by)) (votes_from (prefix_of (w.replicas by)) (w.replicas by).kept.votes)
    heeds m same =
        each_replica (λ q s. q ≡ by → Heeds w.cast (promised_in s.kept) q ballot (prefix_of (w.replicas by)) (votes_from (prefix_of (w.replicas by)) (w.replicas by).kept.votes))
        by (after_act (Stand me ballot) (w.replicas by)) w.replicas m
        (λ it. record {
          promised_it = omega arith;
          tells = λ vote has within low.
              let later = kept.latest by vote has (omega (arith, within)) in
              record { vote = later.vote; is = at_from (prefix_of (w.replicas by)) vote.slot (w.replicas by).kept.votes ∙ rw (le-leb (prefix_of (w.replicas by)) vote.slot within) later.is; later = later.later };
        })
        (λ other it. absurd (other it))
        same

-- what is held stays, or gives way to a higher vote
later_held : (best votes : List Vote) (slot ballot : ℕ) → IsLater (vote_at slot best) ballot → IsLater (vote_at slot (best_of best votes)) ballot
later_held best votes slot ballot held = go (vote_at slot (best_of best votes)) refl (held_or_higher best votes slot held.vote held.is)
  where
    go : (found : Option Vote) → vote_at slot (best_of best votes) ≡ found → IsSomeAnd found (λ v. held.vote.ballot ≤ v.ballot) → IsLater (vote_at slot (best_of best votes)) ballot
    go None is more = absurd more
    go (Some v) is more = record { vote = v; is = is; later = omega (arith, held.later, more) }

later_heard : (best votes : List Vote) (slot ballot : ℕ) → IsLater (vote_at slot votes) ballot → IsLater (vote_at slot (best_of best votes)) ballot
later_heard best votes slot ballot heard =
    let there = found_vote (λ (v : Vote). Contains votes v) slot votes heard.vote (All-contains_itself votes) heard.is in
    go there.0 (vote_at heard.vote.slot (best_of best votes)) refl (heard_or_higher best votes heard.vote there.1)
  where
    go : heard.vote.slot ≡ slot → (found : Option Vote) → vote_at heard.vote.slot (best_of best votes) ≡ found → IsSomeAnd found (λ v. heard.vote.ballot ≤ v.ballot) → IsLater (vote_at slot (best_of best votes)) ballot
    go at None is more = absurd more
    go at (Some v) is more = record { vote = v; is = subst (λ s. vote_at s (best_of best votes) ≡ Some v) at is; later = omega (arith, heard.later, more) }

-- the best votes are of those that were held and those that were heard
best_there : (best votes : List Vote) (vote : Vote) → Contains (best_of best votes) vote → Contains best vote ⊎ Contains votes vote
best_there best [] vote has = inl has
best_there best (first ∷ votes) vote has =
    elim (best_there (with_vote best first) votes vote has) [
      | inl before ↦ elim (with_there best first vote before) [
        | inl old ↦ inl old
        | inr same ↦ inr (Contains-append_left (first ∷ []) votes vote (rw same (Contains-push [] vote)))
      ]
      | inr later ↦ inr (Contains-append_right (first ∷ []) votes vote later)
    ]

-- a promise with its votes is gathered
gathers : (n : ℕ) (w : World) (prefix ballot first heard from : ℕ) (best votes : List Vote) → from < n → n ≤ 7 → IsRallied n w prefix ballot first heard best → IsPromised w from ballot first votes → IsRallied n w prefix ballot first (with_member from heard) (best_of best votes)
gathers n w prefix ballot first heard from best votes member few rallied promise = record {
  up = rallied.up;
  below = below_with n from heard member few rallied.below;
  each = λ m has. elim (with_cases from heard m (omega (arith, member, few)) has) [
    | inl same ↦ rw same (record {
      promised_it = promise.heeds.promised_it;
      tells = λ vote cast within low. later_heard best votes vote.slot vote.ballot (promise.heeds.tells vote cast within low);
    })
    | inr old ↦ let heeds = rallied.each m old in record {
      promised_it = heeds.promised_it;
      tells = λ vote cast within low. later_held best votes vote.slot vote.ballot (heeds.tells vote cast within low);
    }
  ];
  backed = λ vote has. elim (best_there best votes vote has) [ inl held ↦ rallied.backed vote held | inr told ↦ promise.backed vote told ];
}

-- what a term has heard, once a ballot was heard of
heard_after_ballot : (n : ℕ) (w : World) (prefix ballot : ℕ) (term : Term) → HasHeard n w prefix term → HasHeard n w prefix (after_ballot ballot term)
heard_after_ballot n w prefix ballot term heard =
    elim (cases_Bool (is_ended_by ballot term)) [ inl ended ↦ rw ended tt | inr goes ↦ rw goes heard ]

heard_after_counting : (n : ℕ) (w : World) (prefix from : ℕ) (term : Term) → HasHeard n w prefix term → HasHeard n w prefix (after_counting from term)
heard_after_counting n w prefix from (Follower ended) heard = heard
heard_after_counting n w prefix from (Candidate ballot first set best) heard = heard
heard_after_counting n w prefix from (Leader ballot best None) heard = heard
heard_after_counting n w prefix from (Leader ballot best (Some flight)) heard = heard

heard_after_tick : (n : ℕ) (w : World) (prefix : ℕ) (term : Term) → HasHeard n w prefix term → HasHeard n w prefix (after_tick term)
heard_after_tick n w prefix (Follower ended) heard = heard
heard_after_tick n w prefix (Candidate ballot first set best) heard = heard
heard_after_tick n w prefix (Leader ballot best None) heard = heard
heard_after_tick n w prefix (Leader ballot best (Some flight)) heard = heard

heard_after_advance : (n : ℕ) (w : World) (prefix later : ℕ) (term : Term) → HasHeard n w prefix term → HasHeard n w prefix (after_advance later term)
heard_after_advance n w prefix later (Follower ended) heard = heard
heard_after_advance n w prefix later (Candidate ballot first set best) heard = heard
heard_after_advance n w prefix later (Leader ballot best None) heard = heard
heard_after_advance n w prefix later (Leader ballot best (Some flight)) heard = heard

-- what the term of the replica that acts has heard
heard_here : (n : ℕ) (table : Table) (w : World) (by : ℕ) (event : Option Event) (answer : Option Kind) (act : Act) → Kept n w → Told n w → n ≤ 7 → MayDo n table w (record { by = by; event = event; answer = answer; act = act }) → HasHeard n (after_doing by act w) (prefix_of (after_act act (w.replicas by))) (after_act act (w.replicas by)).term
unfolding after_act after_delta May
heard_here n table w by event answer (Observe ballot) kept told few may =
    heard_after_ballot n (after_doing by (Observe ballot) w) (prefix_of (w.replicas by)) ballot (w.replicas by).term
    (heard_on n table w (record { by = by; event = event; answer = answer; act = Observe ballot }) kept may (prefix_of (w.replicas by)) (prefix_of (w.replicas by)) (w.replicas by).term (omega arith) (told.terms by may.member))
heard_here n table w by event answer (Stand me ballot) kept told few may = stands n table w by event answer me ballot kept few may
heard_here n table w by event answer (Gather from votes) kept told few may =
    rw may.may.candidate
    (rallied_on n table w (record { by = by; event = event; answer = answer; act = Gather from votes }) kept may (prefix_of (w.replicas by)) (prefix_of (w.replicas by)) may.may.ballot may.may.first (with_member from may.may.heard) (best_of may.may.best votes) (omega arith)
    (gathers n w (prefix_of (w.replicas by)) may.may.ballot may.may.first may.may.heard from may.may.best votes
    (kept.speakers from (Promise may.may.ballot may.may.first votes) may.may.promise) few
    (subst (λ term. HasHeard n w (prefix_of (w.replicas by)) term) may.may.candidate (told.terms by may.member))
    (told.promises from may.may.ballot may.may.first votes may.may.promise)))
heard_here n table w by event answer TakeLead kept told few may =
    rw may.may.candidate (record {
      heard = may.may.heard;
      first = may.may.first;
      majority = may.may.majority;
      rallied = rallied_on n table w (record { by = by; event = event; answer = answer; act = TakeLead }) kept may (prefix_of (w.replicas by)) (prefix_of (w.replicas by)) may.may.ballot may.may.first may.may.heard may.may.best (omega arith)
          (subst (λ term. HasHeard n w (prefix_of (w.replicas by)) term) may.may.candidate (told.terms by may.member));
    })
heard_here n table w by event answer (Pledge ballot) kept told few may =
    heard_on n table w (record { by = by; event = event; answer = answer; act = Pledge ballot }) kept may (prefix_of (w.replicas by)) (prefix_of (w.replicas by)) (w.replicas by).term (omega arith) (told.terms by may.member)
heard_here n table w by event answer (Cast vote) kept told few may =
    heard_on n table w (record { by = by; event = event; answer = answer; act = Cast vote }) kept may (prefix_of (w.replicas by)) (prefix_of (w.replicas by)) (w.replicas by).term (omega arith) (told.terms by may.member)
heard_here n table w by event answer (Propose me vote) kept told few may =
    rw may.may.leader
    (led_on n table w (record { by = by; event = event; answer = answer; act = Propose me vote }) kept may (prefix_of (w.replicas by)) (prefix_of (w.replicas by)) vote.ballot may.may.best (omega arith)
    (subst (λ term. HasHeard n w (prefix_of (w.replicas by)) term) may.may.leader (told.terms by may.member)))
heard_here n table w by event answer (Count from) kept told few may =
    heard_after_counting n (after_doing by (Count from) w) (prefix_of (w.replicas by)) from (w.replicas by).term
    (heard_on n table w (record { by = by; event = event; answer = answer; act = Count from }) kept may (prefix_of (w.replicas by)) (prefix_of (w.replicas by)) (w.replicas by).term (omega arith) (told.terms by may.member))
heard_here n table w by event answer Wait kept told few may =
    heard_after_tick n (after_doing by Wait w) (prefix_of (w.replicas by)) (w.replicas by).term
    (heard_on n table w (record { by = by; event = event; answer = answer; act = Wait }) kept may (prefix_of (w.replicas by)) (prefix_of (w.replicas by)) (w.replicas by).term (omega arith) (told.terms by may.member))
heard_here n table w by event answer (Learn slot entry) kept told few may =
    let longer : prefix_of (w.replicas by) ≤ (w.replicas by).kept.base + length ((w.replicas by).learned ++ entry ∷ []) =
    omega (arith, length-append (w.replicas by).learned (entry ∷ [])) in
    heard_after_advance n (after_doing by (Learn slot entry) w) _ (prefix_of (w.replicas by) + 1) (w.replicas by).term
    (heard_on n table w (record { by = by; event = event; answer = answer; act = Learn slot entry }) kept may (prefix_of (w.replicas by)) ((w.replicas by).kept.base + length ((w.replicas by).learned ++ entry ∷ [])) (w.replicas by).term longer (told.terms by may.member))
heard_here n table w by event answer (Rebase slot rows) kept told few may =
    heard_after_advance n (after_doing by (Rebase slot rows) w) _ slot (w.replicas by).term
    (heard_on n table w (record { by = by; event = event; answer = answer; act = Rebase slot rows }) kept may (prefix_of (w.replicas by)) (slot + length (drop (slot - (w.replicas by).kept.base) (w.replicas by).learned)) (w.replicas by).term (omega (arith, may.may.up)) (told.terms by may.member))
heard_here n table w by event answer (Call row) kept told few may =
    heard_on n table w (record { by = by; event = event; answer = answer; act = Call row }) kept may (prefix_of (w.replicas by)) (prefix_of (w.replicas by)) (w.replicas by).term (omega arith) (told.terms by may.member)
heard_here n table w by event answer (Send whom message) kept told few may =
    heard_on n table w (record { by = by; event = event; answer = answer; act = Send whom message }) kept may (prefix_of (w.replicas by)) (prefix_of (w.replicas by)) (w.replicas by).term (omega arith) (told.terms by may.member)
heard_here n table w by event answer (Restart me) kept told few may = tt

terms_after : (n : ℕ) (table : Table) (w : World) (doing : Doing) → Kept n w → Told n w → n ≤ 7 → MayDo n table w doing → (q : ℕ) → q < n → HasHeard n (after_doing doing.by doing.act w) (prefix_of ((after_doing doing.by doing.act w).replicas q)) ((after_doing doing.by doing.act w).replicas q).term
unfolding after_doing
terms_after n table w doing kept told few may q =
    each_replica (λ q s. q < n → HasHeard n (after_doing doing.by doing.act w) (prefix_of s) s.term)
    doing.by (after_act doing.act (w.replicas doing.by)) w.replicas q
    (λ member. heard_here n table w doing.by doing.event doing.answer doing.act kept told few may)
    (λ other member. heard_on n table w doing kept may (prefix_of (w.replicas q)) (prefix_of (w.replicas q)) (w.replicas q).term (omega arith) (told.terms q member))

pub told_after : (n : ℕ) (table : Table) (w : World) (doing : Doing) → Kept n w → Told n w → n ≤ 7 → MayDo n table w doing → Told n (after_doing doing.by doing.act w)
told_after n table w doing kept told few may = record {
  promises = promises_after n table w doing kept told may;
  terms = terms_after n table w doing kept told few may;
}

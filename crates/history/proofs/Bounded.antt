-- What bounds the numbers of a world: each act that may be done, and that grows within the bounds, keeps them.
use Rattle.std.proofs.Common.{◌≡◌, ℕ, ◌+◌, ◌<◌, ◌≤◌, Some, None, List, [], ◌∷◌, length, refl, sym, inl, inr, arith, subst}
use Rattle.paxos_base.specs.Ballot.{member_of, round_of}
use Rattle.paxos_base.specs.Durable.{after_delta}
use Rattle.paxos_base.specs.Vote.{vote_at}
use Rattle.paxos_base.specs.declared.entry.Entry.{Entry}
use Rattle.paxos_base.specs.declared.entry.Vote.{Vote}
use Rattle.due_set.specs.Table.{Table}
use Rattle.term_core.specs.Term.{after_advance, after_ballot, after_proposal, after_tick, is_ended_by}
use Rattle.term_core.specs.declared.term.Term.{Term}
use Rattle.std.proofs.lemmas.Bool.{cases_Bool}
use Rattle.term_core.specs.declared.term.Term.TheVariants.{Follower, Candidate, Leader}
use Rattle.paxos_base.specs.declared.rows.JobRow.{JobRow}
use Rattle.step_spec.specs.Act.{Act, Observe, Stand, Gather, TakeLead, Pledge, Cast, Propose, Count, Wait, Learn, Rebase, Call, Send, Restart, after_act, after_counting, after_gathering, as_leader}
use Rattle.step_spec.specs.May.{HasSaid, IsNamed, LeadsIn, May, MaySend, StandsIn, Setting, none_named, by_saying}
use Rattle.step_spec.specs.Message.{Message, Prepare, Promise, Accept, Accepted, Nack, Known, AskFrom, Snap, Lead, Mention, ballot_in, slot_in}
use Rattle.step_spec.specs.State.{State, prefix_of, promised_in}
use Rattle.agreement.specs.Agree.{HasCast, IsChosen, vote_for}
use Rattle.agreement.specs.Log.{AreChosen}
use Rattle.agreement.specs.World.{Doing, MayDo, World, after_doing, after_done, said_after}
use Rattle.agreement.proofs.Growing.{Casts, Says, cast_cases, each_replica, found_there, said_cases}
use Rattle.agreement.proofs.Kept.{Kept, leads_own, own_ballot, says_may}
use Rattle.agreement.proofs.KeptLemmas.{setting_of}
use Rattle.agreement.proofs.LogLemmas.{some_log}
use Rattle.agreement.proofs.OneValue.{majorities_share}
use Rattle.agreement.proofs.Tables.{short_of}
use Rattle.agreement.proofs.Told.{HasHeard}
use Rattle.agreement.proofs.Transitions.{IsFollowed}
use Rattle.history.proofs.Grows.{AnswersWithin, Grows}

-- the ballot that a message refuses, or 0
abbrev pub refused_in : Message → ℕ
refused_in (Nack ballot promised) = ballot
refused_in message = 0

-- the numbers that a message names, but for those of its votes and rows
pub record IsNumbered (most members : ℕ) (message : Message) : Type 0 where
  pub round : round_of (ballot_in message) ≤ most
  pub slot : slot_in message ≤ most
  pub refused : round_of (refused_in message) ≤ most
  pub member : member_of (ballot_in message) < members
  pub refused_member : member_of (refused_in message) < members

-- the ballot that has ended a follower's term, or 0
abbrev pub ended_in : Term → ℕ
ended_in (Follower (Some ballot)) = ballot
ended_in term = 0

-- what a replica has tried, promised and seen, and what has ended its term
pub record IsLow (most members : ℕ) (state : State) : Type 0 where
  pub tried : state.kept.tried ≤ most
  pub promised : round_of (promised_in state.kept) ≤ most
  pub seen : round_of state.seen ≤ most
  pub ended : round_of (ended_in state.term) ≤ most
  pub member : member_of (promised_in state.kept) < members

pub record Bounded (most n : ℕ) (w : World) : Type 0 where
  pub low : (q : ℕ) → q < n → IsLow most n (w.replicas q)
  pub said : (q : ℕ) (message : Message) → HasSaid w.said q message → IsNumbered most n message
  pub votes : (q : ℕ) (vote : Vote) → HasCast w.cast q vote → vote.slot < most

-- what is within a number is within a higher one
pub bounded_more : (most more n : ℕ) (w : World) → most ≤ more → Bounded most n w → Bounded more n w
bounded_more most more n w up bounded = record {
  low = λ q member. let low = bounded.low q member in record {
    tried = omega (arith, low.tried, up);
    promised = omega (arith, low.promised, up);
    seen = omega (arith, low.seen, up);
    ended = omega (arith, low.ended, up);
    member = low.member;
  };
  said = λ q message has. let told = bounded.said q message has in record {
    round = omega (arith, told.round, up);
    slot = omega (arith, told.slot, up);
    refused = omega (arith, told.refused, up);
    member = told.member;
    refused_member = told.refused_member;
  };
  votes = λ q vote has. omega (arith, bounded.votes q vote has, up);
}

-- a slot for which an entry is chosen has a vote
pub chosen_low : (most n : ℕ) (w : World) (slot : ℕ) (entry : Entry) → Bounded most n w → IsChosen n w.cast slot entry → slot < most
chosen_low most n w slot entry bounded chosen =
    let meet = majorities_share n chosen.voters chosen.voters chosen.below chosen.below chosen.majority chosen.majority in
    bounded.votes meet.member (vote_for slot chosen.ballot entry) (chosen.each meet.member meet.in_one)

chosen_long : (most n : ℕ) (w : World) (slot : ℕ) (entries : List Entry) → Bounded most n w → AreChosen n w.cast slot entries → slot ≤ most → slot + length entries ≤ most
chosen_long most n w slot [] bounded chosen low = omega (arith, low)
chosen_long most n w slot (entry ∷ entries) bounded chosen low =
    let here = chosen_low most n w slot entry bounded chosen.0 in
    let rest = chosen_long most n w (slot + 1) entries bounded chosen.1 (omega (arith, here)) in
    omega (arith, rest)

-- each slot below a prefix is one of the log's, so a vote was cast for it
pub prefix_low : (most n : ℕ) (table : Table) (first : List JobRow) (w : World) (q : ℕ) → n ≤ 7 → IsFollowed n table first w → Bounded most n w → prefix_of (w.replicas q) ≤ most
prefix_low most n table first w q few followed bounded =
    let log = some_log n w followed.whole.kept few in
    let short = short_of n table first w log.0 q followed.whole followed.tables log.1 in
    let long = chosen_long most n w 0 log.0 bounded log.1.chosen (omega arith) in
    omega (arith, short, long)

-- ---- replicas

named_low : (most n : ℕ) (w : World) (ballot : ℕ) → Bounded most n w → IsNamed w.said ballot → round_of ballot ≤ most
named_low most n w ballot bounded (none_named none) = omega (arith, none)
named_low most n w ballot bounded (by_saying saying has is) = let told = bounded.said saying.by saying.message has in rw (← is) told.round

-- what becomes of the ballot that has ended a term: another ends one, and else it stays
ended_after_ballot : (most ballot : ℕ) (term : Term) → round_of ballot ≤ most → round_of (ended_in term) ≤ most → round_of (ended_in (after_ballot ballot term)) ≤ most
ended_after_ballot most ballot term new old = elim (cases_Bool (is_ended_by ballot term)) [ inl ended ↦ rw ended new | inr goes ↦ rw goes old ]

ended_after_proposal : (slot : ℕ) (entry : Entry) (me : ℕ) (term : Term) → ended_in (after_proposal slot entry me term) ≡ ended_in term
ended_after_proposal slot entry me (Follower ended) = refl
ended_after_proposal slot entry me (Candidate ballot first heard best) = refl
ended_after_proposal slot entry me (Leader ballot best None) = refl
ended_after_proposal slot entry me (Leader ballot best (Some flight)) = refl

ended_after_gathering : (from : ℕ) (votes : List Vote) (term : Term) → ended_in (after_gathering from votes term) ≡ ended_in term
ended_after_gathering from votes (Follower ended) = refl
ended_after_gathering from votes (Candidate ballot first heard best) = refl
ended_after_gathering from votes (Leader ballot best flight) = refl

ended_as_leader : (term : Term) → ended_in (as_leader term) ≡ ended_in term
ended_as_leader (Follower ended) = refl
ended_as_leader (Candidate ballot first heard best) = refl
ended_as_leader (Leader ballot best flight) = refl

ended_after_counting : (from : ℕ) (term : Term) → ended_in (after_counting from term) ≡ ended_in term
ended_after_counting from (Follower ended) = refl
ended_after_counting from (Candidate ballot first heard best) = refl
ended_after_counting from (Leader ballot best None) = refl
ended_after_counting from (Leader ballot best (Some flight)) = refl

ended_after_tick : (term : Term) → ended_in (after_tick term) ≡ ended_in term
ended_after_tick (Follower ended) = refl
ended_after_tick (Candidate ballot first heard best) = refl
ended_after_tick (Leader ballot best None) = refl
ended_after_tick (Leader ballot best (Some flight)) = refl

ended_after_advance : (slot : ℕ) (term : Term) → ended_in (after_advance slot term) ≡ ended_in term
ended_after_advance slot (Follower ended) = refl
ended_after_advance slot (Candidate ballot first heard best) = refl
ended_after_advance slot (Leader ballot best None) = refl
ended_after_advance slot (Leader ballot best (Some flight)) = refl

low_here : (most n : ℕ) (table : Table) (w : World) (doing : Doing) → n ≤ 7 → Kept n w → Bounded most n w → MayDo n table w doing → Grows most n doing.act → IsLow most n (after_act doing.act (w.replicas doing.by))
unfolding May after_act after_delta
low_here most n table w doing few kept bounded may = go doing.act may.may
  where
    s : State
    s = w.replicas doing.by

    old : IsLow most n s
    old = bounded.low doing.by may.member

    setting : Setting
    setting = setting_of n table w doing.by doing.event

    -- what changes the term alone
    with_term : (term : Term) → ended_in term ≡ ended_in s.term → round_of (ended_in term) ≤ most
    with_term term same = rw same old.ended

    go : (act : Act) → May setting s act → Grows most n act → IsLow most n (after_act act s)
    go (Observe ballot) can grows =
        let named = named_low most n w ballot bounded can in
        record { tried = old.tried; promised = old.promised; seen = omega (arith, named, old.seen); ended = ended_after_ballot most ballot s.term named old.ended; member = old.member }
    go (Stand me ballot) can grows = record { tried = grows; promised = grows; seen = old.seen; ended = omega arith; member = omega (arith, can.own, may.member) }
    go (Pledge ballot) can grows = record { tried = old.tried; promised = omega (arith, can.seen, old.seen); seen = old.seen; ended = old.ended; member = grows }
    go (Cast vote) can grows =
        let told = bounded.said can.from (Accept vote) can.asked in
        record { tried = old.tried; promised = told.round; seen = old.seen; ended = old.ended; member = told.member }
    go (Propose me vote) can grows =
        let own = own_ballot (record { me = doing.by; members = n }) s vote.ballot can.best None (kept.sound doing.by may.member) can.leader in
        record {
          tried = old.tried;
          promised = rw (← own.promised) old.promised;
          seen = old.seen;
          ended = with_term (after_proposal vote.slot vote.entry me s.term) (ended_after_proposal vote.slot vote.entry me s.term);
          member = rw (← own.promised) old.member;
        }
    go (Restart me) can grows = record {
      tried = old.tried;
      promised = old.promised;
      seen = omega (arith, old.promised, old.tried, can.is_me, may.member, few);
      ended = omega arith;
      member = old.member;
    }
    go (Gather from votes) can grows = record { tried = old.tried; promised = old.promised; seen = old.seen; ended = with_term (after_gathering from votes s.term) (ended_after_gathering from votes s.term); member = old.member }
    go TakeLead can grows = record { tried = old.tried; promised = old.promised; seen = old.seen; ended = with_term (as_leader s.term) (ended_as_leader s.term); member = old.member }
    go (Count from) can grows = record { tried = old.tried; promised = old.promised; seen = old.seen; ended = with_term (after_counting from s.term) (ended_after_counting from s.term); member = old.member }
    go Wait can grows = record { tried = old.tried; promised = old.promised; seen = old.seen; ended = with_term (after_tick s.term) (ended_after_tick s.term); member = old.member }
    go (Learn slot entry) can grows = record { tried = old.tried; promised = old.promised; seen = old.seen; ended = with_term (after_advance (prefix_of s + 1) s.term) (ended_after_advance (prefix_of s + 1) s.term); member = old.member }
    go (Rebase slot rows) can grows = record { tried = old.tried; promised = old.promised; seen = old.seen; ended = with_term (after_advance slot s.term) (ended_after_advance slot s.term); member = old.member }
    go (Call row) can grows = old
    go (Send whom message) can grows = old

-- ---- messages

-- where a candidate asks for votes from lies within what it has learned
stands_low : (n : ℕ) (w : World) (prefix ballot slot : ℕ) (term : Term) → StandsIn ballot slot term → HasHeard n w prefix term → slot ≤ prefix
stands_low n w prefix ballot slot (Follower ended) stands heard = absurd stands
stands_low n w prefix ballot slot (Candidate own first set best) stands heard = omega (arith, stands.1, heard.up)
stands_low n w prefix ballot slot (Leader own best flight) stands heard = absurd stands

sent_low : (most n : ℕ) (table : Table) (first : List JobRow) (w : World) (by : ℕ) (message : Message) → n ≤ 7 → by < n → IsFollowed n table first w → Bounded most n w → MaySend (w.replicas by) message → AnswersWithin most n message → IsNumbered most n message
sent_low most n table first w by message few member followed bounded = go message
  where
    s : State
    s = w.replicas by

    low : IsLow most n s
    low = bounded.low by member

    prefix : prefix_of s ≤ most
    prefix = prefix_low most n table first w by few followed bounded

    -- what names the ballot that is promised, and this slot
    named : (slot : ℕ) (told : Message) → ballot_in told ≡ promised_in s.kept → slot_in told ≡ slot → refused_in told ≡ 0 → slot ≤ most → IsNumbered most n told
    named slot told ballot at none within = record {
      round = rw ballot low.promised;
      slot = rw at within;
      refused = rw none (omega arith);
      member = rw ballot low.member;
      refused_member = rw none (omega (arith, member));
    }

    -- what names no ballot
    unnamed : (told : Message) → ballot_in told ≡ 0 → refused_in told ≡ 0 → slot_in told ≤ most → IsNumbered most n told
    unnamed told ballot none within = record {
      round = rw ballot (omega arith);
      slot = within;
      refused = rw none (omega arith);
      member = rw ballot (omega (arith, member));
      refused_member = rw none (omega (arith, member));
    }

    leads : (ballot : ℕ) → LeadsIn ballot s.term → promised_in s.kept ≡ ballot
    leads ballot is = (leads_own (record { me = by; members = n }) s ballot s.term (followed.whole.kept.sound by member).term is).promised

    voted : (slot : ℕ) (vote : Vote) → vote_at slot s.kept.votes ≡ Some vote → vote.slot < most
    voted slot vote is = bounded.votes by vote (followed.whole.kept.stored by vote (found_there slot s.kept.votes vote is))

    go : (told : Message) → MaySend s told → AnswersWithin most n told → IsNumbered most n told
    go (Prepare ballot slot) can answers =
        let at = stands_low n w (prefix_of s) ballot slot s.term can.1 (followed.whole.told.terms by member) in
        named slot (Prepare ballot slot) (sym can.0) refl refl (omega (arith, at, prefix))
    go (Promise ballot slot votes) can answers = named slot (Promise ballot slot votes) (sym can.promised) refl refl answers
    go (Accept vote) can answers =
        let at = voted vote.slot vote can.0 in
        named vote.slot (Accept vote) (sym (leads vote.ballot can.1)) refl refl (omega (arith, at))
    go (Accepted ballot slot) can answers =
        let at = voted slot (vote_for slot ballot can.entry) can.voted in
        named slot (Accepted ballot slot) (sym can.promised) refl refl (omega (arith, at))
    go (Nack ballot promised) can answers = record {
      round = rw can.0 low.promised;
      slot = omega arith;
      refused = answers.0;
      member = rw can.0 low.member;
      refused_member = answers.1;
    }
    go (Known slot entry) can answers =
        let at = chosen_low most n w slot entry bounded (followed.whole.known.learned by slot entry can) in
        unnamed (Known slot entry) refl refl (omega (arith, at))
    go (AskFrom slot) can answers = unnamed (AskFrom slot) refl refl (omega (arith, can, prefix))
    go (Snap slot rows) can answers = unnamed (Snap slot rows) refl refl (omega (arith, can.0, prefix))
    go (Lead ballot slot) can answers = named slot (Lead ballot slot) (sym (leads ballot can.1)) refl refl (omega (arith, can.0, prefix))
    go (Mention ballot) can answers = absurd can

-- what an act says answers within the bounds
says_within : (most n : ℕ) (act : Act) (message : Message) → Says act message → Grows most n act → AnswersWithin most n message
says_within most n (Send whom mine) message says grows = subst (λ m. AnswersWithin most n m) says grows
says_within most n act message says grows = absurd says

numbered_after : (most n : ℕ) (table : Table) (first : List JobRow) (w : World) (doing : Doing) → n ≤ 7 → IsFollowed n table first w → Bounded most n w → MayDo n table w doing → Grows most n doing.act
    → (q : ℕ) (message : Message) → HasSaid (said_after doing.by doing.act w.said) q message → IsNumbered most n message
numbered_after most n table first w doing few followed bounded may grows q message has = elim (said_cases doing.by doing.act w.said q message has) [
  | inl old ↦ bounded.said q message old
  | inr now ↦
      sent_low most n table first w doing.by message few may.member followed bounded
      (says_may (setting_of n table w doing.by doing.event) (w.replicas doing.by) doing.act message now.1 may.may)
      (says_within most n doing.act message now.1 grows)
]

-- ---- votes

-- a vote that is cast is for a slot that was proposed before, or that is proposed now
cast_low : (most n : ℕ) (w : World) (setting : Setting) (state : State) (act : Act) (vote : Vote) → ((from : ℕ) → HasSaid setting.said from (Accept vote) → vote.slot < most) → Casts act vote → May setting state act → Grows most n act → vote.slot < most
unfolding May
cast_low most n w setting state (Cast mine) vote asked casts may grows = asked may.from (rw (← casts) may.asked)
cast_low most n w setting state (Propose me mine) vote asked casts may grows = rw (← casts) grows
cast_low most n w setting state act vote asked casts may grows = absurd casts

-- ---- acts

done_after : (most n : ℕ) (table : Table) (first : List JobRow) (w : World) (doing : Doing) → n ≤ 7 → IsFollowed n table first w → Bounded most n w → MayDo n table w doing → Grows most n doing.act → Bounded most n (after_doing doing.by doing.act w)
unfolding after_doing
done_after most n table first w doing few followed bounded may grows = record {
  low = λ q. each_replica (λ q s. q < n → IsLow most n s) doing.by (after_act doing.act (w.replicas doing.by)) w.replicas q
      (λ member. low_here most n table w doing few followed.whole.kept bounded may grows)
      (λ other member. bounded.low q member);
  said = numbered_after most n table first w doing few followed bounded may grows;
  votes = λ q vote has. elim (cast_cases doing.by doing.act w.cast q vote has) [
    | inl old ↦ bounded.votes q vote old
    | inr now ↦ cast_low most n w (setting_of n table w doing.by doing.event) (w.replicas doing.by) doing.act vote
        (λ from said. bounded.votes from vote (followed.whole.kept.accepts from vote said).0) now.1 may.may grows
  ];
}

pub bounded_after : (most n : ℕ) (table : Table) (first : List JobRow) (w : World) (doing : Doing) → n ≤ 7 → IsFollowed n table first w → Bounded most n w → MayDo n table w doing → Grows most n doing.act → Bounded most n (after_done doing w)
bounded_after most n table first w doing few followed bounded may grows =
    let done = done_after most n table first w doing few followed bounded may grows in
    record { low = done.low; said = done.said; votes = done.votes }

-- In a legal book no replica has promised a ballot, and no letter names one, that its own replica has not tried.
use Rattle.std.proofs.Common.{◌≡◌, ℕ, ◌<◌, ◌≤◌, Option, Some, None, List, [], ◌∷◌, ◌++◌, refl, sym, inl, inr, arith, subst}
use Rattle.std.specs.List.{AllByRecursion, Contains, filter}
use Rattle.std.proofs.Math.Nat.{le-max_left}
use Rattle.paxos_base.specs.Ballot.{member_of, round_of}
use Rattle.paxos_base.specs.Durable.{after_delta}
use Rattle.paxos_base.specs.declared.entry.Kind.{Kind}
use Rattle.paxos_base.specs.declared.rows.JobRow.{JobRow}
use Rattle.due_set.specs.Table.{Table}
use Rattle.launch_machine.specs.Clerk.{first_rows, table_size}
use Rattle.step_spec.specs.Act.{Act, Observe, Stand, Gather, TakeLead, Pledge, Cast, Propose, Count, Wait, Learn, Rebase, Call, Send, Restart, after_act}
use Rattle.step_spec.specs.Coherent.{IsCoherent}
use Rattle.step_spec.specs.Letters.{IsHeardAs}
use Rattle.step_spec.specs.May.{AllMay, HasSaid, May, MaySend, Saying, Setting, TellsWhatWasSaid, WasSaid}
use Rattle.step_spec.specs.Message.{Message, Prepare, Promise, Accept, Accepted, Nack, Known, AskFrom, Snap, Lead, Mention, ballot_in}
use Rattle.step_spec.specs.Propose.{next_ballot}
use Rattle.step_spec.specs.State.{Identity, State, promised_in}
use Rattle.step_spec.specs.Step.{Event, Campaign, Tick, Hear, Answer}
use Rattle.step_spec.proofs.Lists.{nothing_in}
use Rattle.agreement.specs.Agree.{HasCast}
use Rattle.agreement.specs.Transition as taken
use Rattle.agreement.specs.Transition.{AreTransitions, MayCome, after_transition, after_transitions, identity_of, is_silent}
use Rattle.agreement.specs.World.{CastVote, Doing, MayDo, World, after_all, after_doing, after_done, doings_of, first_world, with_replica}
use Rattle.agreement.proofs.Growing.{each_replica, goes_on, said_cases}
use Rattle.agreement.proofs.Kept.{Kept, leads_own, own_ballot, says_may}
use Rattle.agreement.proofs.KeptLemmas.{setting_of}
use Rattle.agreement.proofs.Transitions.{IsFollowed, first_followed, followed_after_all, transitions_followed, front_may, silent_may}
use Rattle.history.specs.Book.{PostedLetter, Row, standing_after, votes_in}
use Rattle.history.specs.Legal.{IsLegal}
use Rattle.history.proofs.Acts.{with_here}
use Rattle.history.proofs.Reached.{Matches, reaches}
use Rattle.history.proofs.TurnBounds.{step_all, may_rest, setting_with, MayAll}
use Rattle.settling.specs.Tried.{IsTried}
use Rattle.settling.proofs.TakesLemmas.{AllName, AllTake, Takes, step_takes}

-- each ballot that was promised, and each that was said, is one that its replica has tried
record Tried (n : ℕ) (w : World) : Type 0 where
  promised : (q : ℕ) → q < n → IsTried n w.replicas (promised_in (w.replicas q).kept)
  said : (by : ℕ) (message : Message) → HasSaid w.said by message → IsTried n w.replicas (ballot_in message)

-- ---- acts

-- what was tried stays tried
tried_stays : (n : ℕ) (table : Table) (w : World) (doing : Doing) → Kept n w → MayDo n table w doing → (ballot : ℕ) → IsTried n w.replicas ballot → IsTried n (after_doing doing.by doing.act w).replicas ballot
unfolding after_doing
tried_stays n table w doing kept may ballot tried member =
    let go = goes_on (setting_of n table w doing.by doing.event) (w.replicas doing.by) doing.act (kept.sound doing.by may.member) may.may in
    each_replica (λ q s. round_of ballot ≤ (w.replicas q).kept.tried → round_of ballot ≤ s.kept.tried)
    doing.by (after_act doing.act (w.replicas doing.by)) w.replicas (member_of ballot)
    (λ low. omega (arith, low, go.tried)) (λ other low. low) (tried member)

-- of an act under which what was tried stays tried
abbrev Stays : ℕ → World → ℕ → Act → Type 0
Stays n w by act = (ballot : ℕ) → IsTried n w.replicas ballot → IsTried n (after_doing by act w).replicas ballot

-- what a replica has promised after its own act
promised_here : (n : ℕ) (table : Table) (w : World) (doing : Doing) → Kept n w → Tried n w → MayDo n table w doing → Takes (IsTried n w.replicas) doing.act
    → IsTried n (after_doing doing.by doing.act w).replicas (promised_in (after_act doing.act (w.replicas doing.by)).kept)
unfolding after_doing after_act after_delta May
promised_here n table w doing kept tried may takes = go doing.act may.may takes (λ ballot. tried_stays n table w doing kept may ballot)
  where
    s : State
    s = w.replicas doing.by

    setting : Setting
    setting = setting_of n table w doing.by doing.event

    old : IsTried n w.replicas (promised_in s.kept)
    old = tried.promised doing.by may.member

    go : (act : Act) → May setting s act → Takes (IsTried n w.replicas) act → Stays n w doing.by act → IsTried n (after_doing doing.by act w).replicas (promised_in (after_act act s).kept)
    go (Observe ballot) can takes stays = stays _ old
    go (Stand me ballot) can takes stays = λ member.
        subst (λ q. round_of ballot ≤ (with_replica doing.by (after_act (Stand me ballot) s) w.replicas q).kept.tried) (sym can.own)
        (subst (λ (t : State). round_of ballot ≤ t.kept.tried) (sym (with_here doing.by (after_act (Stand me ballot) s) w.replicas)) (omega arith))
    go (Gather from votes) can takes stays = stays _ old
    go TakeLead can takes stays = stays _ old
    go (Pledge ballot) can takes stays = stays ballot takes
    go (Cast vote) can takes stays = stays vote.ballot (tried.said can.from (Accept vote) can.asked)
    go (Propose me vote) can takes stays =
        let own = own_ballot (record { me = doing.by; members = n }) s vote.ballot can.best None (kept.sound doing.by may.member) can.leader in
        stays vote.ballot (subst (λ b. IsTried n w.replicas b) own.promised old)
    go (Count from) can takes stays = stays _ old
    go Wait can takes stays = stays _ old
    go (Learn slot entry) can takes stays = stays _ old
    go (Rebase slot rows) can takes stays = stays _ old
    go (Call row) can takes stays = stays _ old
    go (Send whom message) can takes stays = stays _ old
    go (Restart me) can takes stays = stays _ old

-- a message names the ballot that its sender has promised, or none
sends_promised : (self : Identity) (s : State) (P : ℕ → Type 0) (message : Message) → IsCoherent self s → MaySend s message → P (promised_in s.kept) → P 0 → P (ballot_in message)
sends_promised self s P (Prepare ballot slot) sound can own none = subst P can.0 own
sends_promised self s P (Promise ballot slot votes) sound can own none = subst P can.promised own
sends_promised self s P (Accept vote) sound can own none = subst P (leads_own self s vote.ballot s.term sound.term can.1).promised own
sends_promised self s P (Accepted ballot slot) sound can own none = subst P can.promised own
sends_promised self s P (Nack ballot promised) sound can own none = subst P (sym can.0) own
sends_promised self s P (Known slot entry) sound can own none = none
sends_promised self s P (AskFrom slot) sound can own none = none
sends_promised self s P (Snap slot rows) sound can own none = none
sends_promised self s P (Lead ballot slot) sound can own none = subst P (leads_own self s ballot s.term sound.term can.1).promised own
sends_promised self s P (Mention ballot) sound can own none = absurd can

none_is_tried : (n : ℕ) (replicas : ℕ → State) → IsTried n replicas 0
none_is_tried n replicas member = omega arith

tried_after : (n : ℕ) (table : Table) (w : World) (doing : Doing) → Kept n w → Tried n w → MayDo n table w doing → Takes (IsTried n w.replicas) doing.act → Tried n (after_done doing w)
unfolding after_doing
tried_after n table w doing kept tried may takes = record {
  promised = λ q. each_replica (λ q s. q < n → IsTried n (after_doing doing.by doing.act w).replicas (promised_in s.kept))
      doing.by (after_act doing.act (w.replicas doing.by)) w.replicas q
      (λ member. promised_here n table w doing kept tried may takes)
      (λ other member. tried_stays n table w doing kept may _ (tried.promised q member));
  said = λ by message has. elim (said_cases doing.by doing.act w.said by message has) [
    | inl old ↦ tried_stays n table w doing kept may _ (tried.said by message old)
    | inr now ↦ tried_stays n table w doing kept may _
        (sends_promised (record { me = doing.by; members = n }) (w.replicas doing.by) (IsTried n w.replicas) message (kept.sound doing.by may.member)
        (says_may (setting_of n table w doing.by doing.event) (w.replicas doing.by) doing.act message now.1 may.may)
        (tried.promised doing.by may.member) (none_is_tried n w.replicas))
  ];
}

-- ---- acts one after another

-- what holds of the ballots of some acts holds where more follows of it
take_more : (P Q : ℕ → Type 0) (acts : List Act) → ((ballot : ℕ) → P ballot → Q ballot) → AllTake P acts → AllTake Q acts
take_more P Q [] more take = tt
take_more P Q (act ∷ acts) more take = (one act take.0, take_more P Q acts more take.1)
  where
    one : (act : Act) → Takes P act → Takes Q act
    one (Pledge ballot) holds = more ballot holds
    one act holds = tt

tried_acts : (n : ℕ) (table : Table) (first : List JobRow) (by : ℕ) (event : Option Event) (answer : Option Kind) (acts : List Act) (w : World) → n ≤ 7 → by < n → IsFollowed n table first w → Tried n w → MayAll n table by event w acts
    → AllTake (IsTried n w.replicas) acts → Tried n (after_all (doings_of by event answer acts) w)
tried_acts n table first by event answer [] w few member followed tried may take = tried
tried_acts n table first by event answer (act ∷ acts) w few member followed tried may take =
    let doing : Doing = record { by = by; event = event; act = act; answer = answer } in
    let here : MayDo n table w doing = record { member = member; may = (may w.said w.answered (λ saying has. has) (λ ending has. has)).0 } in
    tried_acts n table first by event answer acts (after_done doing w) few member
    (followed_after_all n table first w (doing ∷ []) few followed (here, tt))
    (tried_after n table w doing followed.whole.kept tried here take.0)
    (may_rest n table by event answer act acts w may)
    (take_more (IsTried n w.replicas) (IsTried n (after_doing by act w).replicas) acts (λ ballot is. tried_stays n table w doing followed.whole.kept here ballot is) take.1)

-- ---- transitions

-- what was said names such ballots
names_tried : (P : ℕ → Type 0) (said : List Saying) (from : ℕ) (message : Message) → ((message : Message) → HasSaid said from message → P (ballot_in message)) → P 0 → WasSaid said from message → P (ballot_in message)
names_tried P said from (Mention ballot) each none (slot, votes, has) = each (Promise ballot slot votes) has
names_tried P said from (Prepare ballot slot) each none has = each (Prepare ballot slot) has
names_tried P said from (Promise ballot slot votes) each none has = each (Promise ballot slot votes) has
names_tried P said from (Accept vote) each none has = each (Accept vote) has
names_tried P said from (Accepted ballot slot) each none has = each (Accepted ballot slot) has
names_tried P said from (Nack ballot promised) each none has = each (Nack ballot promised) has
names_tried P said from (Known slot entry) each none has = none
names_tried P said from (AskFrom slot) each none has = none
names_tried P said from (Snap slot rows) each none has = none
names_tried P said from (Lead ballot slot) each none has = each (Lead ballot slot) has

all_tried : (n : ℕ) (w : World) (from : ℕ) (messages : List Message) → Tried n w → AllByRecursion (WasSaid w.said from) messages → AllByRecursion (λ message. IsTried n w.replicas (ballot_in message)) messages
all_tried n w from [] tried said = tt
all_tried n w from (message ∷ messages) tried said = (
  names_tried (IsTried n w.replicas) w.said from message (λ other has. tried.said from other has) (none_is_tried n w.replicas) said.0,
  all_tried n w from messages tried said.1,
)

event_tried : (n : ℕ) (table : Table) (by : ℕ) (w : World) (event : Event) → Tried n w → TellsWhatWasSaid (setting_with n table by (Some event) w.said w.answered) event → AllName (IsTried n w.replicas) event
event_tried n table by w Campaign tried tells = tt
event_tried n table by w (Tick now plan) tried tells = tt
event_tried n table by w (Hear from messages) tried tells = all_tried n w from messages tried tells
event_tried n table by w (Answer job at kind rows) tried tells = tt

front_takes : (P : ℕ → Type 0) (front back : List Act) → AllTake P (front ++ back) → AllTake P front
front_takes P [] back take = tt
front_takes P (act ∷ front) back take = (take.0, front_takes P front back take.1)

silent_takes : (P : ℕ → Type 0) (acts : List Act) → AllTake P acts → AllTake P (filter is_silent acts)
silent_takes P [] take = tt
silent_takes P (Send whom message ∷ acts) take = silent_takes P acts take.1
silent_takes P (act ∷ acts) take = (take.0, silent_takes P acts take.1)

tried_transition : (n : ℕ) (table : Table) (first : List JobRow) (w : World) (transition : taken.Transition) → n ≤ 7 → IsFollowed n table first w → Tried n w → MayCome n table w transition → Tried n (after_transition n transition w)
unfolding May
tried_transition n table first w (taken.Did by event answer) few followed tried may =
    tried_acts n table first by (Some event) answer _ w few may.member followed tried (step_all n table first w by event few followed may)
    (step_takes (IsTried n w.replicas) (identity_of n by) event (w.replicas by) (event_tried n table by w event tried may.heard))
tried_transition n table first w (taken.Stopped by event front back) few followed tried (may, parts) =
    let whole = step_all n table first w by event few followed may in
    let takes = step_takes (IsTried n w.replicas) (identity_of n by) event (w.replicas by) (event_tried n table by w event tried may.heard) in
    tried_acts n table first by (Some event) None _ w few may.member followed tried
    (λ said answered stays answers_stay. silent_may _ _ front (front_may _ _ front back (subst (λ acts. AllMay (setting_with n table by (Some event) said answered) (w.replicas by) acts) parts (whole said answered stays answers_stay))))
    (silent_takes (IsTried n w.replicas) front (front_takes (IsTried n w.replicas) front back (subst (λ acts. AllTake (IsTried n w.replicas) acts) parts takes)))
tried_transition n table first w (taken.Restarted by) few followed tried member =
    tried_acts n table first by None None (Restart by ∷ []) w few member followed tried
    (λ said answered stays answers_stay. (record { told = refl; is_me = refl }, tt)) (tt, tt)

tried_transitions : (n : ℕ) (table : Table) (first : List JobRow) (w : World) (transitions : List taken.Transition) → n ≤ 7 → IsFollowed n table first w → Tried n w → AreTransitions n table w transitions → Tried n (after_transitions n transitions w)
tried_transitions n table first w [] few followed tried may = tried
tried_transitions n table first w (transition ∷ transitions) few followed tried may =
    tried_transitions n table first (after_transition n transition w) transitions few
    (transitions_followed n table first w (transition ∷ []) few followed (may.0, tt))
    (tried_transition n table first w transition few followed tried may.0) may.1

-- ---- books

-- a world that comes to what a legal book comes to
record StandsTried (n : ℕ) (table : Table) (book : List Row) : Type 0 where
  w : World
  followed : IsFollowed n table (first_rows table) w
  tried : Tried n w
  learned_of : Matches n (table_size table) (standing_after n (first_rows table) book) (votes_in book) [] w

first_tried : (n : ℕ) (rows : List JobRow) → Tried n (first_world rows)
first_tried n rows = record { promised = λ q below member. omega arith; said = λ by message has. nothing_in has }

stands_tried : (n : ℕ) (table : Table) (book : List Row) → n ≤ 7 → IsLegal n table book → StandsTried n table book
stands_tried n table book few legal =
    let to = reaches n table book legal in
    let begins = first_followed n table (first_rows table) in
    record {
      w = after_transitions n to.turns (first_world (first_rows table));
      followed = transitions_followed n table (first_rows table) (first_world (first_rows table)) to.turns few begins to.are;
      tried = tried_transitions n table (first_rows table) (first_world (first_rows table)) to.turns few begins (first_tried n (first_rows table)) to.are;
      learned_of = record {
        replicas = to.matches.replicas;
        cast = to.matches.cast;
        learned_of = λ x has. nothing_in has;
        said = to.matches.said;
        spelled = to.matches.spelled;
        answers = to.matches.answers;
      };
    }

tried_in : (n : ℕ) (replicas others : ℕ → State) (ballot : ℕ) → ((q : ℕ) → replicas q ≡ others q) → IsTried n replicas ballot → IsTried n others ballot
tried_in n replicas others ballot same tried member = subst (λ (s : State). round_of ballot ≤ s.kept.tried) (same (member_of ballot)) (tried member)

abbrev replicas_after : ℕ → Table → List Row → ℕ → State
replicas_after n table book = (standing_after n (first_rows table) book).replicas

pub promised_tried : (n : ℕ) (table : Table) (book : List Row) (who : ℕ) → n ≤ 7 → IsLegal n table book → who < n → IsTried n (replicas_after n table book) (promised_in (replicas_after n table book who).kept)
promised_tried n table book who few legal below =
    let there = stands_tried n table book few legal in
    subst (λ (s : State). IsTried n (replicas_after n table book) (promised_in s.kept)) (there.learned_of.replicas who)
    (tried_in n there.w.replicas (replicas_after n table book) _ there.learned_of.replicas (there.tried.promised who below))

pub voted_tried : (n : ℕ) (table : Table) (book : List Row) (cast : CastVote) → n ≤ 7 → IsLegal n table book → Contains (votes_in book) cast → IsTried n (replicas_after n table book) cast.vote.ballot
voted_tried n table book cast few legal has =
    let there = stands_tried n table book few legal in
    let kept = there.followed.whole.kept in
    let own : HasCast there.w.cast (member_of cast.vote.ballot) cast.vote = kept.proposed cast.by cast.vote (subst (λ votes. Contains votes cast) (sym there.learned_of.cast) has) in
    tried_in n there.w.replicas (replicas_after n table book) cast.vote.ballot there.learned_of.replicas (λ member. kept.rounds (member_of cast.vote.ballot) cast.vote own refl)

all_in : (n : ℕ) (replicas others : ℕ → State) (messages : List Message) → ((q : ℕ) → replicas q ≡ others q) → AllByRecursion (λ message. IsTried n replicas (ballot_in message)) messages → AllByRecursion (λ message. IsTried n others (ballot_in message)) messages
all_in n replicas others [] same tried = tt
all_in n replicas others (message ∷ messages) same tried = (tried_in n replicas others (ballot_in message) same tried.0, all_in n replicas others messages same tried.1)

pub named_tried : (n : ℕ) (table : Table) (book : List Row) (letter : PostedLetter) (messages : List Message) → n ≤ 7 → IsLegal n table book → Contains (standing_after n (first_rows table) book).posted letter
    → IsHeardAs n (table_size table) letter.bytes letter.from messages → AllByRecursion (λ message. IsTried n (replicas_after n table book) (ballot_in message)) messages
named_tried n table book letter messages few legal has heard =
    let there = stands_tried n table book few legal in
    all_in n there.w.replicas (replicas_after n table book) messages there.learned_of.replicas
    (all_tried n there.w letter.from messages there.tried (there.learned_of.said letter messages has heard))

-- the next ballot of a replica is one that nobody has promised
pub next_is_new : (n : ℕ) (table : Table) (book : List Row) (who owner : ℕ) → n ≤ 7 → IsLegal n table book → who < n → owner < n
    → promised_in (replicas_after n table book who).kept ≡ next_ballot owner (replicas_after n table book owner) → ⊥
next_is_new n table book who owner few legal below member same =
    let replicas = replicas_after n table book in
    let s = replicas owner in
    let ballot = next_ballot owner s in
    let up = le-max_left s.kept.tried (round_of s.seen) in
    let is_owner : member_of ballot ≡ owner = omega (arith, few, member) in
    let tried : IsTried n replicas ballot = subst (λ b. IsTried n replicas b) same (promised_tried n table book who few legal below) in
    let low : round_of ballot ≤ s.kept.tried = subst (λ q. round_of ballot ≤ (replicas q).kept.tried) is_owner (tried (omega (arith, is_owner, member))) in
    let high : s.kept.tried < round_of ballot = omega (arith, up, few, member) in
    omega (arith, low, high)

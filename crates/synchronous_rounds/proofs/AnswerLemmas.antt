-- In the round after a campaign all others answer it.
use Rattle.std.proofs.Common.{◌≡◌, ℕ, ◌<◌, ◌≤◌, List, [], ◌∷◌, ◌++◌, Option, None, Some, ℤ, refl, sym, ◌∙◌, inl, inr, ◌⊎◌, arith, subst}
use Rattle.std.specs.List.{Contains}
use Rattle.std.proofs.lemmas.Bool.{cases_Bool}
use Rattle.paxos_base.specs.Members.{only_member}
use Rattle.paxos_base.specs.declared.entry.Vote.{Vote}
use Rattle.paxos_base.specs.declared.rows.JobRow.{JobRow}
use Rattle.cluster_sched.specs.declared.row.SchedRow.{SchedRow}
use Rattle.due_set.specs.Table.{Table}
use Rattle.term_core.specs.declared.term.Term.TheVariants.{Candidate}
use Rattle.step_spec.specs.Act.{Act, Send}
use Rattle.step_spec.specs.Coherent.{IsCoherent}
use Rattle.step_spec.specs.Folds.{after_acts, sent_to}
use Rattle.step_spec.specs.Heard.{heard_as}
use Rattle.step_spec.specs.Message.{Message, Nack, Only, Prepare, Promise}
use Rattle.step_spec.specs.Propose.{is_long, tick, tick_of}
use Rattle.step_spec.specs.State.{Identity, State, prefix_of, promised_in}
use Rattle.step_spec.specs.Step.{Answer, Event, Hear, IsLaunchTable, Plan, Tick, step}
use Rattle.agreement.specs.Transition.{identity_of}
use Rattle.step_spec.proofs.Said.{stays_coherent}
use Rattle.synchronous_rounds.specs.Cluster.{Advice, ArePlanned, Cluster, HeardLetter, IsAdvised, after_events, answer_events, before_tick, cluster_round, events_at, hear_events, letter_from, letters_to}
use Rattle.synchronous_rounds.specs.Flights.{with_base}
use Rattle.synchronous_rounds.specs.LedAlone.{IsHolding, Occurs, Progress}
use Rattle.synchronous_rounds.proofs.FollowerLemmas.{behind_tick}
use Rattle.synchronous_rounds.proofs.Lists.{sent_in}
use Rattle.synchronous_rounds.proofs.MailLemmas.{occurs_left, occurs_letter, occurs_next, occurs_right}
use Rattle.synchronous_rounds.proofs.RoundLemmas.{round_after, round_planned}
use Rattle.synchronous_rounds.proofs.TickLemmas.{holds_rebased}
use Rattle.synchronous_rounds.specs.Campaign.{HasCampaigned, HasPromised, HasRefused, HaveAllAnswered, IsCandidate}
use Rattle.synchronous_rounds.proofs.ReplyLemmas.{answers_steady, hears_campaign, tick_steady}
use Rattle.due_set.proofs.Rising.{Contains-head as in_first}

-- a replica has answered a campaign
abbrev pub Replies : (me ballot prefix : ℕ) → List HeardLetter → State → Type 0
Replies me ballot prefix mail state = HasPromised me ballot prefix mail state ⊎ HasRefused me ballot prefix mail state

-- what is sent to one replica alone occurs in its letter
pub told_to : (me to : ℕ) (message : Message) (acts : List Act) (rest : List HeardLetter) → Contains (heard_as message) message → Contains acts (Send (Only to) message) → Occurs (letter_from me (sent_to me to acts) ++ rest) me message
told_to me to message acts rest itself has =
    occurs_left (letter_from me (sent_to me to acts)) rest me message (occurs_letter me message (sent_to me to acts) itself (sent_in me to message acts has))

-- a replica that hears nothing but the campaign answers it
replies : (self : Identity) (table : Table) (c b p : ℕ) (now : ℤ) (plan : Plan) (state : State) → 2 ≤ self.members → self.me < 8 → IsCoherent self state → prefix_of state ≤ p → (promised_in state.kept ≡ b → ⊥) → ArePlanned self table (Hear c (Prepare b p ∷ []) ∷ Tick now plan ∷ []) state → Replies self.me b p (letters_to self c (Hear c (Prepare b p ∷ []) ∷ Tick now plan ∷ []) state) (after_events self (Hear c (Prepare b p ∷ []) ∷ Tick now plan ∷ []) state)
replies self table c b p now plan state more small sound short fresh planned =
    let event : Event = Hear c (Prepare b p ∷ []) in
    let acts : List Act = step self event state in
    let middle : State = after_acts acts state in
    let fine = stays_coherent self table event state small sound planned.0 in
    let steady = tick_steady self now plan middle more small fine in
    elim (hears_campaign self table c b p state small sound (omega (arith, short)) fresh) [
      | inl pledges ↦ inl (record {
        promised = steady.promised ∙ pledges.promised;
        behind = behind_tick self b p now plan middle (record { promised = omega (arith, pledges.promised); follows = pledges.follows; short = omega (arith, pledges.same, short) });
        votes = pledges.votes;
        told = told_to self.me c (Promise b p pledges.votes) acts _ (in_first _ _) pledges.sent;
      })
      | inr refuses ↦ inr (record {
        higher = omega (arith, refuses.above, refuses.steady.promised, steady.promised);
        short = omega (arith, refuses.steady.prefix, steady.prefix, short);
        told = subst (λ k. Occurs (letters_to self c (Hear c (Prepare b p ∷ []) ∷ Tick now plan ∷ []) state) self.me (Nack b k)) (sym (steady.promised ∙ refuses.steady.promised)) (told_to self.me c (Nack b (promised_in state.kept)) acts _ (in_first (Nack b (promised_in state.kept)) []) refuses.sent);
      })
    ]

-- an answer is one in each mail that has more
replies_in : (me b p : ℕ) (state : State) (xs ys : List HeardLetter) → ((message : Message) → Occurs xs me message → Occurs ys me message) → Replies me b p xs state → Replies me b p ys state
replies_in me b p state xs ys more (inl promised) =
    inl (record { promised = promised.promised; behind = promised.behind; votes = promised.votes; told = more (Promise b p promised.votes) promised.told })
replies_in me b p state xs ys more (inr refused) =
    inr (record { higher = refused.higher; short = refused.short; told = more (Nack b (promised_in state.kept)) refused.told })

-- also where an answer of the scheduler waits for it
replies_round : (self : Identity) (table : Table) (c b p : ℕ) (now : ℤ) (plan : Plan) (waits : Option SchedRow) (rows : List JobRow) (state : State) → 2 ≤ self.members → self.me < 8 → IsCoherent self state → prefix_of state ≤ p → (promised_in state.kept ≡ b → ⊥) → ArePlanned self table (answer_events waits rows ++ (Hear c (Prepare b p ∷ []) ∷ Tick now plan ∷ [])) state → Replies self.me b p (letters_to self c (answer_events waits rows ++ (Hear c (Prepare b p ∷ []) ∷ Tick now plan ∷ [])) state) (after_events self (answer_events waits rows ++ (Hear c (Prepare b p ∷ []) ∷ Tick now plan ∷ [])) state)
replies_round self table c b p now plan None rows state more small sound short fresh planned = replies self table c b p now plan state more small sound short fresh planned
replies_round self table c b p now plan (Some row) rows state more small sound short fresh planned =
    let event : Event = Answer row.name.job row.name.at row.kind rows in
    let acts : List Act = step self event state in
    let later : State = after_acts acts state in
    let steady = answers_steady self row rows state more small sound in
    let fine = stays_coherent self table event state small sound planned.0 in
    replies_in self.me b p _ _ _ (λ message occurs. occurs_right (letter_from self.me (sent_to self.me c acts)) _ self.me message occurs)
    (replies self table c b p now plan later more small fine (omega (arith, steady.prefix, short)) (λ same. fresh (sym steady.promised ∙ same)) planned.1)

-- ---- the candidate

-- its tick comes to nothing, but that its base may rise
pub candidate_tick : (self : Identity) (first heard : ℕ) (best : List Vote) (at : Progress) (now : ℤ) (plan : Plan) (state : State) → IsHolding (Candidate at.ballot first heard best) at state → IsLaunchTable at.table state plan.rows → (base : ℕ) × IsHolding (Candidate at.ballot first heard best) (with_base base at) (after_acts (step self (Tick now plan) state) state)
unfolding step tick
candidate_tick self first heard best at now plan state holding planned =
    elim (cases_Bool (is_long state)) [
      | inl long ↦ rw long (at.prefix, holds_rebased (Candidate at.ballot first heard best) at plan.rows state holding planned refl)
      | inr short ↦ rw short (at.base, subst (λ t. IsHolding (Candidate at.ballot first heard best) (with_base at.base at) (after_acts (tick_of self now plan.intent state t) state)) (sym holding.is) holding)
    ]

-- ---- the round

-- all others answer a campaign
pub first_answered : (members candidate : ℕ) (best : List Vote) (at : Progress) (now : ℤ) (advice : ℕ → Advice) (answers : ℕ → Option SchedRow) (cluster : Cluster) → HasCampaigned members candidate best at cluster → IsAdvised members at.table now advice cluster → (base : ℕ) × HaveAllAnswered members candidate best (with_base base at) (cluster_round members now advice answers cluster)
first_answered members candidate best at now advice answers cluster campaigned advised =
    (mine.0, record { one = campaigned.one; stands = subst (λ s. IsCandidate best (with_base mine.0 at) candidate s) (sym (round_after members now advice answers cluster candidate)) mine.1; answered = answered })
  where
    next : Cluster
    next = cluster_round members now advice answers cluster

    self : ℕ → Identity
    self who = identity_of members who

    quiet : before_tick members advice cluster candidate ≡ cluster.replicas candidate
    quiet = rw (campaigned.alone, campaigned.unread) refl

    mine : (base : ℕ) × IsCandidate best (with_base base at) candidate (after_acts (step (self candidate) (Tick now (advice candidate).plan) (before_tick members advice cluster candidate)) (before_tick members advice cluster candidate))
    mine =
        let planned = round_planned members at.table now advice cluster candidate campaigned.one.member advised in
        candidate_tick (self candidate) at.prefix (only_member candidate) best at now (advice candidate).plan (before_tick members advice cluster candidate)
        (subst (λ s. IsCandidate best at candidate s) (sym quiet) campaigned.stands) planned.0

    answered : (who : ℕ) → who < members → (who ≡ candidate → ⊥) → Replies who at.ballot at.prefix (next.mails candidate) (next.replicas who)
    answered who below apart =
        let last : List Event = Hear candidate (Prepare at.ballot at.prefix ∷ []) ∷ Tick now (advice who).plan ∷ [] in
        let front : List Event = answer_events (cluster.waits who) (advice who).rows in
        let mail = campaigned.asked who below apart in
        let planned = subst (λ m. ArePlanned (self who) at.table (front ++ (hear_events m ++ Tick now (advice who).plan ∷ [])) (cluster.replicas who)) mail (advised.planned who below) in
        let there = replies_round (self who) at.table candidate at.ballot at.prefix now (advice who).plan (cluster.waits who) (advice who).rows (cluster.replicas who) campaigned.one.more (omega (arith, below, campaigned.one.few)) (advised.coherent who below) (campaigned.short who below) (campaigned.fresh who below apart) planned in
        replies_in who at.ballot at.prefix (next.replicas who) (letters_to (self who) candidate (events_at now advice cluster who) (cluster.replicas who)) (next.mails candidate)
        (λ message occurs. occurs_next members now advice answers cluster who candidate message below occurs)
        (subst (λ m. Replies who at.ballot at.prefix (letters_to (self who) candidate (front ++ (hear_events m ++ Tick now (advice who).plan ∷ [])) (cluster.replicas who)) (after_events (self who) (front ++ (hear_events m ++ Tick now (advice who).plan ∷ [])) (cluster.replicas who))) (sym mail) there)

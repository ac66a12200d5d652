-- All others promise the second campaign's ballot, and the candidate stays one meanwhile.
use Rattle.std.proofs.Common.{◌≡◌, ℕ, ◌+◌, ◌<◌, ◌≤◌, List, [], ◌∷◌, ◌++◌, Option, None, Some, ℤ, refl, sym, ap, ◌∙◌, inl, inr, arith, subst, append_assoc}
use Rattle.std.specs.List.{AllByRecursion}
use Rattle.std.proofs.lemmas.Bool.{le-ltb, ne_eqb}
use Rattle.paxos_base.specs.Members.{only_member}
use Rattle.paxos_base.specs.declared.entry.Vote.{Vote}
use Rattle.paxos_base.specs.declared.rows.JobRow.{JobRow}
use Rattle.cluster_sched.specs.declared.row.SchedRow.{SchedRow}
use Rattle.due_set.specs.Table.{Table}
use Rattle.term_core.specs.Term.{after_ballot}
use Rattle.term_core.specs.declared.term.Term.TheVariants.{Candidate}
use Rattle.step_spec.specs.Act.{Act, after_act}
use Rattle.step_spec.specs.Coherent.{IsCoherent}
use Rattle.step_spec.specs.Folds.{after_acts, sent_to}
use Rattle.step_spec.specs.Hear.{Once, hear, hear_all, not_yet, on_accepted, on_promise, once_after}
use Rattle.step_spec.specs.Message.{Message, Known, Prepare, Promise, ballot_in}
use Rattle.step_spec.specs.State.{Identity, State, prefix_of, promised_in}
use Rattle.step_spec.specs.Step.{Answer, Event, Hear, Plan, Tick, step}
use Rattle.agreement.specs.Transition.{identity_of}
use Rattle.step_spec.proofs.Said.{stays_coherent}
use Rattle.synchronous_rounds.specs.Cluster.{Advice, ArePlanned, Cluster, HeardLetter, IsAdvised, after_events, answer_events, before_tick, cluster_round, events_at, hear_events, letter_from, letters_to}
use Rattle.synchronous_rounds.specs.Flights.{with_base}
use Rattle.synchronous_rounds.specs.LedAlone.{AreWithin, IsHolding, Occurs, Progress, StaysWithin}
use Rattle.synchronous_rounds.proofs.ActLemmas.{observed}
use Rattle.synchronous_rounds.proofs.FollowerLemmas.{behind_tick}
use Rattle.synchronous_rounds.proofs.LeaderLemmas.{hold_line}
use Rattle.synchronous_rounds.proofs.Lists.{events_append}
use Rattle.synchronous_rounds.proofs.MailLemmas.{letters_append, occurs_left, occurs_next, occurs_right}
use Rattle.synchronous_rounds.proofs.RoundLemmas.{round_after, round_planned}
use Rattle.synchronous_rounds.specs.Again.{EndsWithCampaign, HasCampaignedAgain, HasPromisedAgain, HaveAllPromised}
use Rattle.synchronous_rounds.specs.Campaign.{IsCandidate}
use Rattle.synchronous_rounds.proofs.AnswerLemmas.{candidate_tick, told_to}
use Rattle.synchronous_rounds.proofs.DecidedLemmas.{mail_alone, planned_front}
use Rattle.synchronous_rounds.proofs.EarlyLemmas.{early_mail}
use Rattle.synchronous_rounds.proofs.ReplyLemmas.{answers_steady, hears_campaign, tick_steady}
use Rattle.synchronous_rounds.proofs.TermLemmas.{sound_events}
use Rattle.due_set.proofs.Rising.{Contains-head as in_first}
use Rattle.step_spec.proofs.Lists.{after_acts-append}

-- ---- one of the others: other letters, and then the campaign

promises_mail : (self : Identity) (table : Table) (c b p top : ℕ) (now : ℤ) (plan : Plan) (front : List HeardLetter) (state : State) → (c ≡ self.me → ⊥) → top < b → 2 ≤ self.members → self.me < 8 → IsCoherent self state → AreWithin top p front → promised_in state.kept ≤ top → prefix_of state ≤ p → ArePlanned self table (hear_events front ++ (Hear c (Prepare b p ∷ []) ∷ Tick now plan ∷ [])) state → HasPromisedAgain self.me b p (letters_to self c (hear_events front ++ (Hear c (Prepare b p ∷ []) ∷ Tick now plan ∷ [])) state) (after_events self (hear_events front ++ (Hear c (Prepare b p ∷ []) ∷ Tick now plan ∷ [])) state)
promises_mail self table c b p top now plan front state apart above more small sound within low short planned =
    let event : Event = Hear c (Prepare b p ∷ []) in
    let last : List Event = event ∷ Tick now plan ∷ [] in
    let middle : State = after_events self (hear_events front) state in
    let fine = sound_events self table (hear_events front) state small sound (planned_front self table (hear_events front) last state planned) in
    let acts : List Act = step self event middle in
    let heard : State = after_acts acts middle in
    let steady = tick_steady self now plan heard more small (stays_coherent self table event middle small fine tt) in
    let early = early_mail top p c self table front state apart small sound within (record { low = low; based = omega (arith, short); reach = inl short }) in
    rw (events_append self (hear_events front) last state, letters_append self c (hear_events front) last state) (elim (hears_campaign self table c b p middle small fine early.early.based (λ same. absurd (omega (arith, same, early.early.low, above)))) [
      | inr refuses ↦ absurd (omega (arith, refuses.above, early.early.low, above))
      | inl pledges ↦
          let near : prefix_of middle ≤ p + 1 = elim early.early.reach [ inl less ↦ omega (arith, less) | inr one ↦ omega (arith, one.0) ] in
          record {
            promised = steady.promised ∙ pledges.promised;
            behind = behind_tick self b (p + 1) now plan heard (record { promised = omega (arith, pledges.promised); follows = pledges.follows; short = omega (arith, pledges.same, near) });
            votes = pledges.votes;
            told = occurs_right (letters_to self c (hear_events front) state) (letters_to self c last middle) self.me (Promise b p pledges.votes)
                (told_to self.me c (Promise b p pledges.votes) acts _ (in_first _ _) pledges.sent);
            learned = elim early.tells [
              | inl less ↦ inl (omega (arith, steady.prefix, pledges.same, less))
              | inr late ↦ elim late [
                | inl before ↦ absurd (omega (arith, before, short))
                | inr told ↦ inr (told.0, occurs_left (letters_to self c (hear_events front) state) (letters_to self c last middle) self.me (Known p told.0) told.1)
              ]
            ];
          }
    ])

promised_in_more : (me b p : ℕ) (state : State) (xs ys : List HeardLetter) → ((message : Message) → Occurs xs me message → Occurs ys me message) → HasPromisedAgain me b p xs state → HasPromisedAgain me b p ys state
promised_in_more me b p state xs ys more promised = record {
  promised = promised.promised;
  behind = promised.behind;
  votes = promised.votes;
  told = more (Promise b p promised.votes) promised.told;
  learned = elim promised.learned [ inl less ↦ inl less | inr told ↦ inr (told.0, more (Known p told.0) told.1) ];
}

-- also where an answer of the scheduler waits for it
promises_round : (self : Identity) (table : Table) (c b p top : ℕ) (now : ℤ) (plan : Plan) (waits : Option SchedRow) (rows : List JobRow) (front : List HeardLetter) (state : State) → (c ≡ self.me → ⊥) → top < b → 2 ≤ self.members → self.me < 8 → IsCoherent self state → AreWithin top p front → promised_in state.kept ≤ top → prefix_of state ≤ p → ArePlanned self table (answer_events waits rows ++ (hear_events front ++ (Hear c (Prepare b p ∷ []) ∷ Tick now plan ∷ []))) state → HasPromisedAgain self.me b p (letters_to self c (answer_events waits rows ++ (hear_events front ++ (Hear c (Prepare b p ∷ []) ∷ Tick now plan ∷ []))) state) (after_events self (answer_events waits rows ++ (hear_events front ++ (Hear c (Prepare b p ∷ []) ∷ Tick now plan ∷ []))) state)
promises_round self table c b p top now plan None rows front state apart above more small sound within low short planned =
    promises_mail self table c b p top now plan front state apart above more small sound within low short planned
promises_round self table c b p top now plan (Some row) rows front state apart above more small sound within low short planned =
    let event : Event = Answer row.name.job row.name.at row.kind rows in
    let acts : List Act = step self event state in
    let later : State = after_acts acts state in
    let steady = answers_steady self row rows state more small sound in
    let fine = stays_coherent self table event state small sound planned.0 in
    promised_in_more self.me b p _ _ _ (λ message occurs. occurs_right (letter_from self.me (sent_to self.me c acts)) _ self.me message occurs)
    (promises_mail self table c b p top now plan front later apart above more small fine within (omega (arith, steady.promised, low)) (omega (arith, steady.prefix, short)) planned.1)

hears_more : (front : List HeardLetter) (letter : HeardLetter) → hear_events (front ++ letter ∷ []) ≡ hear_events front ++ Hear letter.from letter.messages ∷ []
hears_more [] letter = refl
hears_more (first ∷ front) letter = ap (λ rest. Hear first.from first.messages ∷ rest) (hears_more front letter)

-- the round of one of the others
third_promises : (members candidate top : ℕ) (best : List Vote) (at : Progress) (now : ℤ) (advice : ℕ → Advice) (answers : ℕ → Option SchedRow) (cluster : Cluster) → HasCampaignedAgain members candidate top best at cluster → IsAdvised members at.table now advice cluster → (who : ℕ) → who < members → (who ≡ candidate → ⊥) → HasPromisedAgain who at.ballot at.prefix ((cluster_round members now advice answers cluster).mails candidate) ((cluster_round members now advice answers cluster).replicas who)
third_promises members candidate top best at now advice answers cluster campaigned advised who below apart =
    promised_in_more who at.ballot at.prefix ((cluster_round members now advice answers cluster).replicas who) (letters_to self candidate (events_at now advice cluster who) (cluster.replicas who)) ((cluster_round members now advice answers cluster).mails candidate)
    (λ message occurs. occurs_next members now advice answers cluster who candidate message below occurs)
    (subst (λ events. HasPromisedAgain who at.ballot at.prefix (letters_to self candidate events (cluster.replicas who)) (after_events self events (cluster.replicas who))) (sym is)
    (promises_round self at.table candidate at.ballot at.prefix top now (advice who).plan (cluster.waits who) (advice who).rows mail.front (cluster.replicas who) (λ same. apart (sym same)) campaigned.above campaigned.one.more (omega (arith, below, campaigned.one.few)) (advised.coherent who below) mail.within (campaigned.low who below apart) (campaigned.short who below apart)
    (subst (λ events. ArePlanned self at.table events (cluster.replicas who)) is (advised.planned who below))))
  where
    self : Identity
    self = identity_of members who

    mail : EndsWithCampaign candidate top at (cluster.mails who)
    mail = campaigned.asked who below apart

    last : List Event
    last = Hear candidate (Prepare at.ballot at.prefix ∷ []) ∷ Tick now (advice who).plan ∷ []

    is : events_at now advice cluster who ≡ answer_events (cluster.waits who) (advice who).rows ++ (hear_events mail.front ++ last)
    is =
        ap (λ some. answer_events (cluster.waits who) (advice who).rows ++ (hear_events some ++ Tick now (advice who).plan ∷ [])) mail.is
        ∙ ap (λ events. answer_events (cluster.waits who) (advice who).rows ++ (events ++ Tick now (advice who).plan ∷ [])) (hears_more mail.front (record { from = candidate; messages = Prepare at.ballot at.prefix ∷ [] }))
        ∙ ap (λ events. answer_events (cluster.waits who) (advice who).rows ++ events) (append_assoc (hear_events mail.front) (Hear candidate (Prepare at.ballot at.prefix ∷ []) ∷ []) (Tick now (advice who).plan ∷ []))

-- ---- the candidate: no letter names its ballot

no_acceptance : (members from ballot slot own first heard : ℕ) (best : List Vote) → on_accepted members from ballot slot (Candidate own first heard best) ≡ []
unfolding on_accepted
no_acceptance members from ballot slot own first heard best = refl

no_promise_of : (members from ballot slot own first heard : ℕ) (votes best : List Vote) → ballot < own → on_promise members from ballot slot votes (Candidate own first heard best) ≡ []
unfolding on_promise
no_promise_of members from ballot slot own first heard votes best low =
    rw (ne_eqb own ballot (λ same. absurd (omega (arith, same, low)))) refl

stays_hear : (self : Identity) (first heard top : ℕ) (best : List Vote) (at : Progress) (from : ℕ) (message : Message) (once : Once) (state : State) → top < at.ballot → StaysWithin top at.prefix message → IsHolding (Candidate at.ballot first heard best) at state → IsHolding (Candidate at.ballot first heard best) at (after_acts (hear self from message once state) state)
unfolding hear after_act
stays_hear self first heard top best at from message once state above within holding =
    hold_line self (Candidate at.ballot first heard best) at at.prefix from message once (observed (ballot_in message) state) (omega arith) (record { low = omega (arith, within.low, above); below = within.below })
    (λ ballot slot votes same. no_promise_of self.members from ballot slot at.ballot first heard votes best (low_of ballot slot votes same))
    (λ ballot slot same. no_acceptance self.members from ballot slot at.ballot first heard best) (record {
      is = ap (after_ballot (ballot_in message)) holding.is ∙ rw (le-ltb at.ballot (ballot_in message) (omega (arith, within.low, above))) refl;
      promised = holding.promised;
      launch = holding.launch;
      learned = holding.learned;
      from_base = holding.from_base;
    })
  where
    low_of : (ballot slot : ℕ) (votes : List Vote) → message ≡ Promise ballot slot votes → ballot < at.ballot
    low_of ballot slot votes same = let named : ballot_in message ≡ ballot = ap ballot_in same in omega (arith, named, within.low, above)

stays_all : (self : Identity) (first heard top : ℕ) (best : List Vote) (at : Progress) (from : ℕ) (messages : List Message) (once : Once) (state : State) → top < at.ballot → AllByRecursion (StaysWithin top at.prefix) messages → IsHolding (Candidate at.ballot first heard best) at state → IsHolding (Candidate at.ballot first heard best) at (after_acts (hear_all self from messages once state) state)
unfolding hear_all
stays_all self first heard top best at from [] once state above within holding = holding
stays_all self first heard top best at from (message ∷ messages) once state above within holding =
    let acts = hear self from message once state in
    let now = after_acts acts state in
    let later = once_after message state acts once in
    rw (after_acts-append acts (hear_all self from messages later now) state)
    (stays_all self first heard top best at from messages later now above within.1 (stays_hear self first heard top best at from message once state above within.0 holding))

stays_mail : (self : Identity) (first heard top : ℕ) (best : List Vote) (at : Progress) (mail : List HeardLetter) (state : State) → top < at.ballot → AreWithin top at.prefix mail → IsHolding (Candidate at.ballot first heard best) at state → IsHolding (Candidate at.ballot first heard best) at (after_events self (hear_events mail) state)
unfolding step
stays_mail self first heard top best at [] state above within holding = holding
stays_mail self first heard top best at (letter ∷ mail) state above within holding =
    stays_mail self first heard top best at mail _ above within.1 (stays_all self first heard top best at letter.from letter.messages not_yet state above within.0 holding)

-- ---- the round

-- all others promise the second campaign's ballot, and the candidate is one still
pub third_round : (members candidate top : ℕ) (best : List Vote) (at : Progress) (now : ℤ) (advice : ℕ → Advice) (answers : ℕ → Option SchedRow) (cluster : Cluster) → HasCampaignedAgain members candidate top best at cluster → IsAdvised members at.table now advice cluster → (base : ℕ) × HaveAllPromised members candidate best (with_base base at) (cluster_round members now advice answers cluster)
third_round members candidate top best at now advice answers cluster campaigned advised =
    let self = identity_of members candidate in
    let before = before_tick members advice cluster candidate in
    let heard = stays_mail self at.prefix (only_member candidate) top best at (cluster.mails candidate) (cluster.replicas candidate) campaigned.above campaigned.unheard campaigned.stands in
    let planned = round_planned members at.table now advice cluster candidate campaigned.one.member advised in
    let mine = candidate_tick self at.prefix (only_member candidate) best at now (advice candidate).plan before (subst (λ s. IsCandidate best at candidate s) (sym (mail_alone members advice cluster candidate campaigned.alone)) heard) planned.0 in (
      mine.0,
      record {
        one = campaigned.one;
        stands = subst (λ s. IsCandidate best (with_base mine.0 at) candidate s) (sym (round_after members now advice answers cluster candidate)) mine.1;
        promised = third_promises members candidate top best at now advice answers cluster campaigned advised;
      },
    )

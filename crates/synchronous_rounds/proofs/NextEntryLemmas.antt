-- A candidate that learns one entry while it counts its promises.
use Rattle.std.proofs.Common.{◌≡◌, ℕ, ◌+◌, ◌<◌, ◌≤◌, List, [], ◌∷◌, None, refl, sym, ap, ◌∙◌, inl, inr, ◌⊎◌, arith, subst, length-append}
use Rattle.std.specs.List.{AllByRecursion, Contains}
use Rattle.std.proofs.lemmas.Bool.{cases_eq, eq-eqb, lt-ltb}
use Rattle.paxos_base.specs.Durable.{after_delta}
use Rattle.paxos_base.specs.declared.entry.Entry.{Entry}
use Rattle.paxos_base.specs.declared.entry.Vote.{Vote}
use Rattle.paxos_base.specs.declared.rows.JobRow.{JobRow}
use Rattle.due_set.specs.Table.{IsSound}
use Rattle.launch_machine.specs.Clerk.{Applies}
use Rattle.launch_machine.proofs.ClerkLemmas.{AppliesAll-push}
use Rattle.term_core.specs.Term.{after_advance}
use Rattle.term_core.specs.declared.term.Term.{Term}
use Rattle.term_core.specs.declared.term.Term.TheVariants.{Candidate, Leader}
use Rattle.step_spec.specs.Act.{after_act}
use Rattle.step_spec.specs.Folds.{after_acts}
use Rattle.step_spec.specs.Hear.{Once, hear, hear_all, line, not_yet, on_known, on_snap, once_after}
use Rattle.step_spec.specs.Message.{Message, Prepare, Promise, Accept, Accepted, Nack, Known, AskFrom, Snap, Lead, Mention}
use Rattle.step_spec.specs.State.{Identity, State, prefix_of}
use Rattle.step_spec.specs.Step.{step}
use Rattle.step_spec.proofs.Lists.{nothing_in, after_acts-append}
use Rattle.synchronous_rounds.specs.Cluster.{HeardLetter, after_events, hear_events}
use Rattle.synchronous_rounds.specs.LedAlone.{AreFrom, AreWithin, IsHolding, Occurs, StaysWithin}
use Rattle.synchronous_rounds.proofs.ActLemmas.{observed, rebased_learned, rebased_prefix}
use Rattle.synchronous_rounds.proofs.LeaderLemmas.{leading_observed}
use Rattle.synchronous_rounds.proofs.CandidateLemmas.{Among, AndNow, Bid, Competes, Promised, competes_fewer, competes_hear, gathers_observed}
use Rattle.due_set.proofs.Rising.{Contains-cases as cons_cases}
use Rattle.launch_machine.proofs.ExistLemmas.{one_applied}

-- the same campaign, of one that has learned the next entry, and has these rows and this base
abbrev pub ahead : Bid → List JobRow → ℕ → Bid
ahead bid rows base = record bid { at = record bid.at { rows = rows; prefix = bid.at.prefix + 1; base = base } }

abbrev pub CompetesAhead : Bid → (ℕ → Type 0) → State → Type 0
CompetesAhead bid counted state = (rows : List JobRow) × (base : ℕ) × Competes (ahead bid rows base) counted state

-- it has learned nothing while it counted, and nothing of the next slot was told; or it has learned the next entry
abbrev pub MayLearn : Bid → (ℕ → Type 0) → Type 0 → State → Type 0
MayLearn bid counted told state = (Competes bid counted state × (told → ⊥)) ⊎ CompetesAhead bid counted state

-- the next entry is told
abbrev pub TellsNext : Bid → Message → Type 0
TellsNext bid message = (entry : Entry) × (message ≡ Known bid.at.prefix entry)

-- ---- the next entry, and the launch table behind it

-- a term that stays whatever is learned
abbrev Outlasts : Term → Type 0
Outlasts held = (slot : ℕ) → after_advance slot held ≡ held

learns_held : (self : Identity) (held : Term) (bid : Bid) (later : List JobRow) (from : ℕ) (entry : Entry) (once : Once) (state : State) → Outlasts held → Applies bid.at.table bid.at.rows entry later → IsHolding held bid.at state → IsHolding held (ahead bid later bid.at.base).at (after_acts (line self from (Known bid.at.prefix entry) once state) state)
unfolding line on_known after_act
learns_held self held bid later from entry once state lasts applies holding =
    let longer = length-append state.learned (entry ∷ []) in
    rw (eq-eqb bid.at.prefix (prefix_of state) (sym holding.learned)) (record {
      is = ap (after_advance (prefix_of state + 1)) holding.is ∙ lasts (prefix_of state + 1);
      promised = holding.promised;
      launch = AppliesAll-push bid.at.table state.kept.rows state.learned entry bid.at.rows later holding.launch applies;
      learned = omega (arith, holding.learned, longer);
      from_base = holding.from_base;
    })

takes_held : (self : Identity) (held : Term) (bid : Bid) (slot : ℕ) (rows : List JobRow) (from : ℕ) (once : Once) (state : State) → Outlasts held → slot ≡ bid.at.prefix + 1 → IsHolding held bid.at state → IsHolding held (ahead bid rows slot).at (after_acts (line self from (Snap slot rows) once state) state)
unfolding line on_snap after_act after_delta
takes_held self held bid slot rows from once state lasts next holding =
    let up : prefix_of state ≤ slot = omega (arith, next, holding.learned) in
    rw (lt-ltb (prefix_of state) slot (omega (arith, next, holding.learned))) (record {
      is = ap (after_advance slot) holding.is ∙ lasts slot;
      promised = holding.promised;
      launch = rw (rebased_learned slot rows state up) refl;
      learned = rebased_prefix slot rows state up ∙ next;
      from_base = refl;
    })

learns_it : (bid : Bid) (counted : ℕ → Type 0) (later : List JobRow) (from : ℕ) (entry : Entry) (once : Once) (state : State) → Applies bid.at.table bid.at.rows entry later → Competes bid counted state → Competes (ahead bid later bid.at.base) counted (after_acts (line bid.self from (Known bid.at.prefix entry) once state) state)
learns_it bid counted later from entry once state applies (inl gathers) = inl (record {
  heard = gathers.heard;
  best = gathers.best;
  holding = learns_held bid.self (Candidate bid.at.ballot bid.first gathers.heard gathers.best) bid later from entry once state (λ slot. refl) applies gathers.holding;
  few = gathers.few;
  has = gathers.has;
})
learns_it bid counted later from entry once state applies (inr leads) =
    inr (leads.0, learns_held bid.self (Leader bid.at.ballot leads.0 None) bid later from entry once state (λ slot. refl) applies leads.1)

takes_it : (bid : Bid) (counted : ℕ → Type 0) (slot : ℕ) (rows : List JobRow) (from : ℕ) (once : Once) (state : State) → slot ≡ bid.at.prefix + 1 → Competes bid counted state → Competes (ahead bid rows slot) counted (after_acts (line bid.self from (Snap slot rows) once state) state)
takes_it bid counted slot rows from once state next (inl gathers) = inl (record {
  heard = gathers.heard;
  best = gathers.best;
  holding = takes_held bid.self (Candidate bid.at.ballot bid.first gathers.heard gathers.best) bid slot rows from once state (λ at. refl) next gathers.holding;
  few = gathers.few;
  has = gathers.has;
})
takes_it bid counted slot rows from once state next (inr leads) =
    inr (leads.0, takes_held bid.self (Leader bid.at.ballot leads.0 None) bid slot rows from once state (λ at. refl) next leads.1)

competes_observed : (bid : Bid) (counted : ℕ → Type 0) (ballot : ℕ) (state : State) → ballot ≤ bid.at.ballot → Competes bid counted state → Competes bid counted (observed ballot state)
competes_observed bid counted ballot state low (inl gathers) = inl (gathers_observed bid counted ballot state low gathers)
competes_observed bid counted ballot state low (inr leads) = inr (leads.0, leading_observed leads.0 None bid.at ballot state low leads.1)

-- ---- which message it is

-- what a message tells of the next slot: its entry, the launch table behind it, or nothing
data TellsOfNext (ballot prefix : ℕ) (message : Message) : Type 0 where
  entry_told : (entry : Entry) → message ≡ Known prefix entry → TellsOfNext ballot prefix message
  table_told : (slot : ℕ) (rows : List JobRow) → slot ≡ prefix + 1 → message ≡ Snap slot rows → TellsOfNext ballot prefix message
  none_told : StaysWithin ballot prefix message → ((entry : Entry) → message ≡ Known prefix entry → ⊥) → TellsOfNext ballot prefix message

tells_of_next : (ballot prefix : ℕ) (message : Message) → StaysWithin ballot (prefix + 1) message → TellsOfNext ballot prefix message
tells_of_next ballot prefix (Known slot entry) within = elim (cases_eq slot prefix) [
  | inl same ↦ entry_told entry (ap (λ s. Known s entry) same)
  | inr apart ↦ none_told (record { low = within.low; below = omega (arith, within.below, apart) }) (λ other is. apart (let at : slot ≡ prefix = cc in at))
]
tells_of_next ballot prefix (Snap slot rows) within = elim (cases_eq slot (prefix + 1)) [
  | inl same ↦ table_told slot rows same refl
  | inr apart ↦ none_told (record { low = within.low; below = omega (arith, within.below, apart) }) (λ entry is. cc)
]
tells_of_next ballot prefix (Prepare b s) within = none_told (record { low = within.low; below = tt }) (λ entry is. cc)
tells_of_next ballot prefix (Promise b s votes) within = none_told (record { low = within.low; below = tt }) (λ entry is. cc)
tells_of_next ballot prefix (Accept vote) within = none_told (record { low = within.low; below = tt }) (λ entry is. cc)
tells_of_next ballot prefix (Accepted b s) within = none_told (record { low = within.low; below = tt }) (λ entry is. cc)
tells_of_next ballot prefix (Nack b other) within = none_told (record { low = within.low; below = tt }) (λ entry is. cc)
tells_of_next ballot prefix (AskFrom s) within = none_told (record { low = within.low; below = tt }) (λ entry is. cc)
tells_of_next ballot prefix (Lead b s) within = none_told (record { low = within.low; below = tt }) (λ entry is. cc)
tells_of_next ballot prefix (Mention b) within = none_told (record { low = within.low; below = tt }) (λ entry is. cc)

-- ---- one message

-- nobody promises by what tells of the next slot
not_more : (bid : Bid) (at : Bid) (counted : ℕ → Type 0) (from : ℕ) (message : Message) (state : State) → ((votes : List Vote) → message ≡ Promise bid.at.ballot bid.first votes → ⊥) → Competes at counted state → Competes at (AndNow bid counted from message) state
not_more bid at counted from message state other competes =
    competes_fewer at counted (AndNow bid counted from message) state (λ q is. elim is [ inl old ↦ old | inr said ↦ absurd (other said.1.0 said.1.1) ]) competes

hears_entry : (bid : Bid) (counted : ℕ → Type 0) (sound : IsSound bid.at.table) (from : ℕ) (entry : Entry) (once : Once) (state : State) → Competes bid counted state → CompetesAhead bid (AndNow bid counted from (Known bid.at.prefix entry)) (after_acts (hear bid.self from (Known bid.at.prefix entry) once state) state)
unfolding hear
hears_entry bid counted sound from entry once state competes =
    let next = one_applied bid.at.table sound bid.at.rows entry in
    let learned = learns_it bid counted next.0 from entry once (observed 0 state) next.1 (competes_observed bid counted 0 state (omega arith) competes) in
    (next.0, bid.at.base, not_more bid (ahead bid next.0 bid.at.base) counted from (Known bid.at.prefix entry) _ (λ votes same. cc) learned)

hears_table : (bid : Bid) (counted : ℕ → Type 0) (from slot : ℕ) (rows : List JobRow) (once : Once) (state : State) → slot ≡ bid.at.prefix + 1 → Competes bid counted state → CompetesAhead bid (AndNow bid counted from (Snap slot rows)) (after_acts (hear bid.self from (Snap slot rows) once state) state)
unfolding hear
hears_table bid counted from slot rows once state next competes =
    let taken = takes_it bid counted slot rows from once (observed 0 state) next (competes_observed bid counted 0 state (omega arith) competes) in
    (rows, slot, not_more bid (ahead bid rows slot) counted from (Snap slot rows) _ (λ votes same. cc) taken)

may_learn_hear : (bid : Bid) (counted : ℕ → Type 0) (told : Type 0) (sound : IsSound bid.at.table) (from : ℕ) (message : Message) (once : Once) (state : State) → from < 8 → StaysWithin bid.at.ballot (bid.at.prefix + 1) message → MayLearn bid counted told state → MayLearn bid (AndNow bid counted from message) (told ⊎ TellsNext bid message) (after_acts (hear bid.self from message once state) state)
may_learn_hear bid counted told sound from message once state small within (inr late) =
    inr (late.0, late.1, competes_hear (ahead bid late.0 late.1) counted from message once state small within late.2)
may_learn_hear bid counted told sound from message once state small within (inl early) = go (tells_of_next bid.at.ballot bid.at.prefix message within)
  where
    go : TellsOfNext bid.at.ballot bid.at.prefix message → MayLearn bid (AndNow bid counted from message) (told ⊎ TellsNext bid message) (after_acts (hear bid.self from message once state) state)
    go (entry_told entry is) = inr (subst (λ m. CompetesAhead bid (AndNow bid counted from m) (after_acts (hear bid.self from m once state) state)) (sym is) (hears_entry bid counted sound from entry once state early.0))
    go (table_told slot rows next is) = inr (subst (λ m. CompetesAhead bid (AndNow bid counted from m) (after_acts (hear bid.self from m once state) state)) (sym is) (hears_table bid counted from slot rows once state next early.0))
    go (none_told less not) = inl (
      competes_hear bid counted from message once state small less early.0,
      λ is. elim is [ inl old ↦ early.1 old | inr now ↦ not now.0 now.1 ],
    )

-- ---- letters

-- the next entry is among messages, or told in a mail
abbrev pub ToldIn : Bid → List Message → Type 0
ToldIn bid messages = (entry : Entry) × Contains messages (Known bid.at.prefix entry)

abbrev pub ToldBy : Bid → List HeardLetter → Type 0
ToldBy bid mail = (from : ℕ) × ((entry : Entry) × Occurs mail from (Known bid.at.prefix entry))

may_learn_fewer : (bid : Bid) (counted fewer : ℕ → Type 0) (told less : Type 0) (state : State) → ((q : ℕ) → fewer q → counted q) → (less → told) → MayLearn bid counted told state → MayLearn bid fewer less state
may_learn_fewer bid counted fewer told less state some so (inl early) = inl (competes_fewer bid counted fewer state some early.0, λ is. early.1 (so is))
may_learn_fewer bid counted fewer told less state some so (inr late) = inr (late.0, late.1, competes_fewer (ahead bid late.0 late.1) counted fewer state some late.2)

may_learn_all : (bid : Bid) (counted : ℕ → Type 0) (told : Type 0) (sound : IsSound bid.at.table) (from : ℕ) (messages : List Message) (once : Once) (state : State) → from < 8 → AllByRecursion (StaysWithin bid.at.ballot (bid.at.prefix + 1)) messages → MayLearn bid counted told state → MayLearn bid (λ q. counted q ⊎ Among bid from messages q) (told ⊎ ToldIn bid messages) (after_acts (hear_all bid.self from messages once state) state)
unfolding hear_all
may_learn_all bid counted told sound from [] once state small within learns =
    may_learn_fewer bid counted (λ q. counted q ⊎ Among bid from [] q) told (told ⊎ ToldIn bid []) state
    (λ q is. elim is [ inl old ↦ old | inr now ↦ nothing_in now.1.1 ]) (λ is. elim is [ inl old ↦ old | inr now ↦ nothing_in now.1 ]) learns
may_learn_all bid counted told sound from (message ∷ messages) once state small within learns =
    let acts = hear bid.self from message once state in
    let now = after_acts acts state in
    let later = once_after message state acts once in
    let more : ℕ → Type 0 = AndNow bid counted from message in
    let tells : Type 0 = told ⊎ TellsNext bid message in
    rw (after_acts-append acts (hear_all bid.self from messages later now) state)
    (may_learn_fewer bid (λ q. more q ⊎ Among bid from messages q) (λ q. counted q ⊎ Among bid from (message ∷ messages) q) (tells ⊎ ToldIn bid messages) (told ⊎ ToldIn bid (message ∷ messages)) _
    (λ q is. elim is [
      | inl old ↦ inl (inl old)
      | inr said ↦ elim (cons_cases message messages (Promise bid.at.ballot bid.first said.1.0) said.1.1) [
        | inl same ↦ inl (inr (said.0, (said.1.0, same)))
        | inr behind ↦ inr (said.0, (said.1.0, behind))
      ]
    ])
    (λ is. elim is [
      | inl old ↦ inl (inl old)
      | inr said ↦ elim (cons_cases message messages (Known bid.at.prefix said.0) said.1) [
        | inl same ↦ inl (inr (said.0, same))
        | inr behind ↦ inr (said.0, behind)
      ]
    ])
    (may_learn_all bid more tells sound from messages later now small within.1 (may_learn_hear bid counted told sound from message once state small within.0 learns)))

pub may_learn_mail : (bid : Bid) (counted : ℕ → Type 0) (told : Type 0) (sound : IsSound bid.at.table) (mail : List HeardLetter) (state : State) → bid.self.members ≤ 7 → AreFrom bid.self.members mail → AreWithin bid.at.ballot (bid.at.prefix + 1) mail → MayLearn bid counted told state → MayLearn bid (λ q. counted q ⊎ Promised bid mail q) (told ⊎ ToldBy bid mail) (after_events bid.self (hear_events mail) state)
unfolding step
may_learn_mail bid counted told sound [] state few from within learns =
    may_learn_fewer bid counted (λ q. counted q ⊎ Promised bid [] q) told (told ⊎ ToldBy bid []) state
    (λ q is. elim is [ inl old ↦ old | inr occurs ↦ nothing_in occurs.1.there ]) (λ is. elim is [ inl old ↦ old | inr occurs ↦ nothing_in occurs.1.1.there ]) learns
may_learn_mail bid counted told sound (letter ∷ mail) state few from within learns =
    let small : letter.from < 8 = omega (arith, few, from.0) in
    let now = after_acts (hear_all bid.self letter.from letter.messages not_yet state) state in
    let more : ℕ → Type 0 = λ q. counted q ⊎ Among bid letter.from letter.messages q in
    let tells : Type 0 = told ⊎ ToldIn bid letter.messages in
    may_learn_fewer bid (λ q. more q ⊎ Promised bid mail q) (λ q. counted q ⊎ Promised bid (letter ∷ mail) q) (tells ⊎ ToldBy bid mail) (told ⊎ ToldBy bid (letter ∷ mail)) _
    (λ q is. elim is [
      | inl old ↦ inl (inl old)
      | inr occurs ↦ elim (cons_cases letter mail occurs.1.letter occurs.1.there) [
        | inl same ↦ inl (inr (ap (λ l. l.from) same ∙ occurs.1.is_from, (occurs.0, subst (λ l. Contains l.messages (Promise bid.at.ballot bid.first occurs.0)) (sym same) occurs.1.has)))
        | inr later ↦ inr (occurs.0, record { letter = occurs.1.letter; there = later; is_from = occurs.1.is_from; has = occurs.1.has })
      ]
    ])
    (λ is. elim is [
      | inl old ↦ inl (inl old)
      | inr occurs ↦ elim (cons_cases letter mail occurs.1.1.letter occurs.1.1.there) [
        | inl same ↦ inl (inr (occurs.1.0, subst (λ l. Contains l.messages (Known bid.at.prefix occurs.1.0)) (sym same) occurs.1.1.has))
        | inr later ↦ inr (occurs.0, (occurs.1.0, record { letter = occurs.1.1.letter; there = later; is_from = occurs.1.1.is_from; has = occurs.1.1.has }))
      ]
    ])
    (may_learn_mail bid more tells sound mail now few from.1 within.1 (may_learn_all bid counted told sound letter.from letter.messages not_yet state small within.0 learns))

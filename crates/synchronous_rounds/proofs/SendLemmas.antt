-- What leaves a replica without a campaign names no ballot above the one that it has promised, and tells nothing that it hasn't
-- learned.
use Rattle.std.proofs.Common.{◌≡◌, ℕ, suc, zero, ◌+◌, ◌<◌, ◌≤◌, List, [], ◌∷◌, length, replicate, None, Some, refl, sym, ◌∙◌, inl, inr, arith, subst, length-append}
use Rattle.std.specs.Prelude.{⊤}
use Rattle.std.specs.List.{AllByRecursion, Contains, flat_map}
use Rattle.std.proofs.lemmas.Bool.{cases_Bool}
use Rattle.paxos_base.specs.Durable.{after_delta}
use Rattle.paxos_base.specs.declared.entry.Entry.{Entry}
use Rattle.due_set.specs.Table.{Table}
use Rattle.step_spec.specs.Act.{Act, Observe, Stand, Gather, TakeLead, Pledge, Cast, Propose, Count, Wait, Learn, Rebase, Call, Send, Restart, after_act}
use Rattle.step_spec.specs.Coherent.{IsCoherent}
use Rattle.step_spec.specs.Folds.{after_acts, sent_by, sent_to}
use Rattle.step_spec.specs.Hear.{known_from}
use Rattle.step_spec.specs.Heard.{heard_as}
use Rattle.step_spec.specs.May.{AllMay, May, MaySend, MayStand, Setting}
use Rattle.step_spec.specs.Message.{Message, Prepare, Promise, Accept, Accepted, Nack, Known, AskFrom, Snap, Lead, Mention, goes_to}
use Rattle.step_spec.specs.State.{Identity, State, prefix_of, promised_in}
use Rattle.step_spec.specs.Step.{Event, Campaign, step}
use Rattle.step_spec.proofs.SoundLemmas.{act_sound}
use Rattle.step_spec.proofs.VoteLemmas.{found_vote}
use Rattle.step_spec.proofs.Lists.{nothing_in}
use Rattle.agreement.proofs.Kept.{leads_own, own_ballot}
use Rattle.step_spec.proofs.Said.{setting_of, stays_coherent, step_may_be_done}
use Rattle.synchronous_rounds.specs.Cluster.{ArePlanned, after_events, letter_from, letters_to}
use Rattle.synchronous_rounds.specs.LedAlone.{AreWithin, StaysWithin, TellsBelow}
use Rattle.synchronous_rounds.proofs.Lists.{all_join}
use Rattle.due_set.proofs.Rising.{Contains-cases as cons_cases}

-- the event is no campaign
abbrev pub IsPlain : Event → Type 0
IsPlain Campaign = ⊥
IsPlain event = ⊤

-- ---- messages

known_below : (slot other : ℕ) (entries : List Entry) (entry : Entry) → Contains (known_from slot entries) (Known other entry) → other < slot + length entries
known_below slot other [] entry has = nothing_in has
known_below slot other (first ∷ entries) entry has = elim (cons_cases (Known slot first) (known_from (slot + 1) entries) (Known other entry) has) [
  | inl same ↦ let at : slot ≡ other = cc in omega (arith, at)
  | inr later ↦ let rest = known_below (slot + 1) other entries entry later in omega (arith, rest)
]

-- what is heard of a message is within
abbrev IsHeardWithin : (ballot prefix : ℕ) → Message → Type 0
IsHeardWithin ballot prefix message = AllByRecursion (StaysWithin ballot prefix) (heard_as message)

mentions_within : (b p ballot n : ℕ) → ballot ≤ b → AllByRecursion (StaysWithin b p) (replicate n (Mention ballot))
mentions_within b p ballot zero low = tt
mentions_within b p ballot (suc n) low = (record { low = low; below = tt }, mentions_within b p ballot n low)

pub may_within : (self : Identity) (state : State) (message : Message) → IsCoherent self state → MaySend state message → IsHeardWithin (promised_in state.kept) (prefix_of state) message
may_within self state (Prepare ballot slot) sound may = (record { low = omega (arith, may.0); below = tt }, tt)
may_within self state (Promise ballot slot votes) sound may =
    (record { low = omega (arith, may.promised); below = tt }, mentions_within (promised_in state.kept) (prefix_of state) ballot (length votes) (omega (arith, may.promised)))
may_within self state (Accept vote) sound may = (record { low = (found_vote (λ v. v.ballot ≤ promised_in state.kept) vote.slot state.kept.votes vote sound.votes may.0).1; below = tt }, tt)
may_within self state (Accepted ballot slot) sound may = (record { low = omega (arith, may.promised); below = tt }, tt)
may_within self state (Nack ballot promised) sound may = (record { low = omega (arith, may.0); below = tt }, tt)
may_within self state (Known slot entry) sound may = (record { low = omega arith; below = known_below state.kept.base slot state.learned entry may }, tt)
may_within self state (AskFrom slot) sound may = (record { low = omega arith; below = tt }, tt)
may_within self state (Snap slot rows) sound may = (record { low = omega arith; below = omega (arith, may.0) }, tt)
may_within self state (Lead ballot slot) sound may =
    let own = leads_own self state ballot state.term sound.term may.1 in
    (record { low = omega (arith, own.promised); below = tt }, tt)
may_within self state (Mention ballot) sound may = tt

pub tells_more : (low high : ℕ) (message : Message) → low ≤ high → TellsBelow low message → TellsBelow high message
tells_more low high (Known slot entry) more below = omega (arith, more, below)
tells_more low high (Snap slot rows) more below = omega (arith, more, below)
tells_more low high message more below = tt

pub within_more : (b c p q : ℕ) (messages : List Message) → b ≤ c → p ≤ q → AllByRecursion (StaysWithin b p) messages → AllByRecursion (StaysWithin c q) messages
within_more b c p q [] more later within = tt
within_more b c p q (message ∷ messages) more later within =
    (record { low = omega (arith, within.0.low, more); below = tells_more p q message later within.0.below }, within_more b c p q messages more later within.1)

-- ---- acts

-- neither the promise nor the prefix falls
pub record Rises (old new : State) : Type 0 where
  pub promised : promised_in old.kept ≤ promised_in new.kept
  pub prefix : prefix_of old ≤ prefix_of new

rises_on : (one two three : State) → Rises one two → Rises two three → Rises one three
rises_on one two three a b = record { promised = omega (arith, a.promised, b.promised); prefix = omega (arith, a.prefix, b.prefix) }

pub no_campaign : (setting : Setting) (event : Event) (state : State) (me ballot : ℕ) → setting.event ≡ Some event → IsPlain event → MayStand setting state me ballot → ⊥
no_campaign setting event state me ballot told plain may =
    let same : event ≡ Campaign = some (sym told ∙ may.told) in
    subst IsPlain same plain
  where
    some : Some event ≡ Some Campaign → event ≡ Campaign
    some is = cc

pub act_rises : (setting : Setting) (event : Event) (state : State) (act : Act) → setting.event ≡ Some event → IsPlain event → IsCoherent setting.self state → May setting state act → Rises state (after_act act state)
unfolding after_act after_delta May
act_rises setting event state (Observe ballot) told plain sound may = record { promised = omega arith; prefix = omega arith }
act_rises setting event state (Stand me ballot) told plain sound may = absurd (no_campaign setting event state me ballot told plain may)
act_rises setting event state (Gather from votes) told plain sound may = record { promised = omega arith; prefix = omega arith }
act_rises setting event state TakeLead told plain sound may = record { promised = omega arith; prefix = omega arith }
act_rises setting event state (Pledge ballot) told plain sound may = record { promised = omega (arith, may.above); prefix = omega arith }
act_rises setting event state (Cast vote) told plain sound may = record { promised = may.promised; prefix = omega arith }
act_rises setting event state (Propose me vote) told plain sound may =
    let own = own_ballot setting.self state vote.ballot may.best None sound may.leader in
    record { promised = omega (arith, own.promised); prefix = omega arith }
act_rises setting event state (Count from) told plain sound may = record { promised = omega arith; prefix = omega arith }
act_rises setting event state Wait told plain sound may = record { promised = omega arith; prefix = omega arith }
act_rises setting event state (Learn slot entry) told plain sound may =
    let longer = length-append state.learned (entry ∷ []) in
    record { promised = omega arith; prefix = omega (arith, longer) }
act_rises setting event state (Rebase slot rows) told plain sound may = record { promised = omega arith; prefix = omega (arith, may.up) }
act_rises setting event state (Call row) told plain sound may = record { promised = omega arith; prefix = omega arith }
act_rises setting event state (Send whom message) told plain sound may = record { promised = omega arith; prefix = omega arith }
act_rises setting event state (Restart me) told plain sound may = absurd (none (sym told ∙ may.told))
  where
    none : Some event ≡ None → ⊥
    none is = cc

-- what an act sends is within
abbrev SendsWithin : (ballot prefix : ℕ) → Act → Type 0
SendsWithin ballot prefix (Send whom message) = IsHeardWithin ballot prefix message
SendsWithin ballot prefix act = ⊤

sends_more : (b c p q : ℕ) (act : Act) → b ≤ c → p ≤ q → SendsWithin b p act → SendsWithin c q act
sends_more b c p q (Send whom message) more later within = within_more b c p q (heard_as message) more later within
sends_more b c p q act more later within = tt

act_within : (setting : Setting) (state : State) (act : Act) → IsCoherent setting.self state → May setting state act → SendsWithin (promised_in state.kept) (prefix_of state) act
unfolding May
act_within setting state (Send whom message) sound may = may_within setting.self state message sound may
act_within setting state act sound may = tt

record AreActsWithin (b p : ℕ) (state : State) (acts : List Act) : Type 0 where
  rises : Rises state (after_acts acts state)
  within : promised_in (after_acts acts state).kept ≤ b → prefix_of (after_acts acts state) ≤ p → AllByRecursion (SendsWithin b p) acts

acts_within : (setting : Setting) (event : Event) (b p : ℕ) (state : State) (acts : List Act) → setting.event ≡ Some event → IsPlain event → IsCoherent setting.self state → AllMay setting state acts → AreActsWithin b p state acts
acts_within setting event b p state [] told plain sound may = record { rises = record { promised = omega arith; prefix = omega arith }; within = λ low short. tt }
acts_within setting event b p state (act ∷ acts) told plain sound may =
    let now = after_act act state in
    let rest = acts_within setting event b p now acts told plain (act_sound setting state act sound may.0) may.1 in
    let up = act_rises setting event state act told plain sound may.0 in
    record {
      rises = rises_on state now (after_acts acts now) up rest.rises;
      within = λ low short. (
        sends_more (promised_in state.kept) b (prefix_of state) p act (omega (arith, up.promised, rest.rises.promised, low)) (omega (arith, up.prefix, rest.rises.prefix, short)) (act_within setting state act sound may.0),
        rest.within low short,
      );
    }

-- ---- letters

sent_within : (b p me q : ℕ) (acts : List Act) → AllByRecursion (SendsWithin b p) acts → AllByRecursion (IsHeardWithin b p) (sent_to me q acts)
unfolding sent_by
sent_within b p me q [] within = tt
sent_within b p me q (act ∷ acts) within = all_join (IsHeardWithin b p) (sent_by me q act) (sent_to me q acts) (one act within.0) (sent_within b p me q acts within.1)
  where
    one : (act : Act) → SendsWithin b p act → AllByRecursion (IsHeardWithin b p) (sent_by me q act)
    one (Send whom message) within = elim (cases_Bool (goes_to me whom q)) [ inl goes ↦ rw goes (within, tt) | inr other ↦ rw other tt ]
    one act within = tt

all_heard : (b p : ℕ) (messages : List Message) → AllByRecursion (IsHeardWithin b p) messages → AllByRecursion (StaysWithin b p) (flat_map heard_as messages)
all_heard b p [] within = tt
all_heard b p (message ∷ messages) within = all_join (StaysWithin b p) (heard_as message) (flat_map heard_as messages) within.0 (all_heard b p messages within.1)

letter_within : (b p me : ℕ) (messages : List Message) → AllByRecursion (IsHeardWithin b p) messages → AreWithin b p (letter_from me messages)
letter_within b p me [] within = tt
letter_within b p me (message ∷ messages) within = (all_heard b p (message ∷ messages) within, tt)

-- the letters of a replica's part of a round, by what the replica comes to
pub record AreLettersWithin (b p : ℕ) (self : Identity) (q : ℕ) (events : List Event) (state : State) : Type 0 where
  pub rises : Rises state (after_events self events state)
  pub within : promised_in (after_events self events state).kept ≤ b → prefix_of (after_events self events state) ≤ p → AreWithin b p (letters_to self q events state)

pub letters_within : (b p : ℕ) (self : Identity) (table : Table) (q : ℕ) (events : List Event) (state : State) → self.me < 8 → AllByRecursion IsPlain events → IsCoherent self state → ArePlanned self table events state → AreLettersWithin b p self q events state
letters_within b p self table q [] state small plain sound planned = record { rises = record { promised = omega arith; prefix = omega arith }; within = λ low short. tt }
letters_within b p self table q (event ∷ events) state small plain sound planned =
    let acts = step self event state in
    let now = after_acts acts state in
    let first = acts_within (setting_of self table event) event b p state acts refl plain.0 sound (step_may_be_done self table event state small sound planned.0) in
    let rest = letters_within b p self table q events now small plain.1 (stays_coherent self table event state small sound planned.0) planned.1 in
    record {
      rises = rises_on state now (after_events self events now) first.rises rest.rises;
      within = λ low short.
          all_join (λ letter. AllByRecursion (StaysWithin b p) letter.messages) (letter_from self.me (sent_to self.me q acts)) (letters_to self q events now)
          (letter_within b p self.me (sent_to self.me q acts) (sent_within b p self.me q acts (first.within (omega (arith, rest.rises.promised, low)) (omega (arith, rest.rises.prefix, short)))))
          (rest.within low short);
    }

-- they are from the replica
pub letters_from : (members : ℕ) (self : Identity) (q : ℕ) (events : List Event) (state : State) → self.me < members → AllByRecursion (λ letter. letter.from < members) (letters_to self q events state)
letters_from members self q [] state below = tt
letters_from members self q (event ∷ events) state below =
    all_join (λ letter. letter.from < members) (letter_from self.me (sent_to self.me q (step self event state))) (letters_to self q events (after_acts (step self event state) state))
    (one (sent_to self.me q (step self event state))) (letters_from members self q events (after_acts (step self event state) state) below)
  where
    one : (messages : List Message) → AllByRecursion (λ letter. letter.from < members) (letter_from self.me messages)
    one [] = tt
    one (message ∷ messages) = (below, tt)

-- How a candidate counts promises while no letter names a higher ballot, and leads once all have promised.
use Rattle.std.proofs.Common.{◌≡◌, ℕ, ◌<◌, ◌≤◌, true, false, List, [], ◌∷◌, eqb, ◌&&◌, None, refl, sym, ap, ◌∙◌, inl, inr, ◌⊎◌, arith, subst}
use Rattle.std.specs.List.{AllByRecursion, Contains}
use Rattle.std.proofs.lemmas.Bool.{cases_Bool, eq-eqb, le-ltb}
use Rattle.paxos_base.specs.Members.{HasMember, has_majority, only_member, with_member}
use Rattle.paxos_base.specs.declared.entry.Vote.{Vote}
use Rattle.term_core.specs.Best.{best_of}
use Rattle.term_core.specs.Term.{after_ballot}
use Rattle.term_core.specs.declared.term.Term.TheVariants.{Candidate}
use Rattle.step_spec.specs.Act.{after_act, after_gathering, as_leader}
use Rattle.step_spec.specs.Folds.{after_acts}
use Rattle.step_spec.specs.Hear.{Once, hear, hear_all, line, not_yet, on_accepted, on_promise, once_after}
use Rattle.step_spec.specs.Message.{Message, Promise, ballot_in}
use Rattle.step_spec.specs.State.{Identity, State}
use Rattle.step_spec.specs.Step.{step}
use Rattle.step_spec.proofs.Lists.{nothing_in, after_acts-append}
use Rattle.synchronous_rounds.specs.Cluster.{HeardLetter, after_events, hear_events}
use Rattle.synchronous_rounds.specs.LedAlone.{AreFrom, AreWithin, IsHolding, IsLeading, Occurs, Progress, StaysWithin}
use Rattle.synchronous_rounds.proofs.ActLemmas.{observed}
use Rattle.synchronous_rounds.proofs.CountLemmas.{all_are_enough, few_alone, in_with}
use Rattle.synchronous_rounds.proofs.LeaderLemmas.{free_hear, hold_line}
use Rattle.due_set.proofs.Rising.{Contains-cases as cons_cases}

-- whose campaign it is, how far it is, and the slot from which on it asked for votes
pub record Bid : Type 0 where
  pub self : Identity
  pub at : Progress
  pub first : ℕ

-- a candidate that has counted all of these, who are no majority
pub record Gathers (bid : Bid) (counted : ℕ → Type 0) (state : State) : Type 0 where
  pub heard : ℕ
  pub best : List Vote
  pub holding : IsHolding (Candidate bid.at.ballot bid.first heard best) bid.at state
  pub few : has_majority bid.self.members heard ≡ false
  pub has : (q : ℕ) → counted q → HasMember heard q

-- a leader that has proposed nothing
abbrev pub Leads : Bid → State → Type 0
Leads bid state = (best : List Vote) × IsLeading best None bid.at state

abbrev pub Competes : Bid → (ℕ → Type 0) → State → Type 0
Competes bid counted state = Gathers bid counted state ⊎ Leads bid state

-- these, and who promises the ballot now
abbrev pub AndNow : Bid → (ℕ → Type 0) → ℕ → Message → ℕ → Type 0
AndNow bid counted from message q = counted q ⊎ ((from ≡ q) × ((votes : List Vote) × (message ≡ Promise bid.at.ballot bid.first votes)))

pub competes_fewer : (bid : Bid) (counted fewer : ℕ → Type 0) (state : State) → ((q : ℕ) → fewer q → counted q) → Competes bid counted state → Competes bid fewer state
competes_fewer bid counted fewer state less (inl gathers) =
    inl (record { heard = gathers.heard; best = gathers.best; holding = gathers.holding; few = gathers.few; has = λ q is. gathers.has q (less q is) })
competes_fewer bid counted fewer state less (inr leads) = inr leads

-- ---- one message

-- a promise of the ballot is counted
counts_promise : (bid : Bid) (counted : ℕ → Type 0) (from ballot slot : ℕ) (votes : List Vote) (state : State) → from < 8 → Gathers bid counted state → Competes bid (AndNow bid counted from (Promise ballot slot votes)) (after_acts (on_promise bid.self.members from ballot slot votes state.term) state)
unfolding on_promise after_act
counts_promise bid counted from ballot slot votes state small gathers =
    subst (λ acts. Competes bid (AndNow bid counted from (Promise ballot slot votes)) (after_acts acts state)) (ap (λ t. on_promise bid.self.members from ballot slot votes t) (sym holding.is)) (elim (cases_Bool (eqb bid.at.ballot ballot && eqb bid.first slot)) [
      | inl asked ↦ rw asked (elim (cases_Bool (has_majority bid.self.members (with_member from gathers.heard))) [
        | inl enough ↦ rw enough (inr (
          best_of gathers.best votes,
          record {
            is = ap (λ t. as_leader (after_gathering from votes t)) holding.is;
            promised = holding.promised;
            launch = holding.launch;
            learned = holding.learned;
            from_base = holding.from_base;
          },
        ))
        | inr few ↦ rw few (inl (record {
          heard = with_member from gathers.heard;
          best = best_of gathers.best votes;
          holding = record { is = ap (after_gathering from votes) holding.is; promised = holding.promised; launch = holding.launch; learned = holding.learned; from_base = holding.from_base };
          few = few;
          has = λ q is. elim is [
            | inl old ↦ in_with from gathers.heard q small (inr (gathers.has q old))
            | inr now ↦ in_with from gathers.heard q small (inl (sym now.0))
          ];
        }))
      ])
      | inr other ↦ rw other (inl (record {
        heard = gathers.heard;
        best = gathers.best;
        holding = holding;
        few = gathers.few;
        has = λ q is. elim is [
          | inl old ↦ gathers.has q old
          | inr now ↦
              let same = now.1.1 in
              let yes : (eqb bid.at.ballot ballot && eqb bid.first slot) ≡ true = rw (eq-eqb bid.at.ballot ballot (sym (ballot_of now.1.0 same)), eq-eqb bid.first slot (sym (slot_of now.1.0 same))) refl in
              absurd (let no : true ≡ false = sym yes ∙ other in cc)
        ];
      }))
    ])
  where
    holding : IsHolding (Candidate bid.at.ballot bid.first gathers.heard gathers.best) bid.at state
    holding = gathers.holding

    ballot_of : (others : List Vote) → Promise ballot slot votes ≡ Promise bid.at.ballot bid.first others → ballot ≡ bid.at.ballot
    ballot_of others same = cc

    slot_of : (others : List Vote) → Promise ballot slot votes ≡ Promise bid.at.ballot bid.first others → slot ≡ bid.first
    slot_of others same = cc

no_acceptance : (members from ballot slot own first heard : ℕ) (best : List Vote) → on_accepted members from ballot slot (Candidate own first heard best) ≡ []
unfolding on_accepted
no_acceptance members from ballot slot own first heard best = refl

gathers_line : (bid : Bid) (counted : ℕ → Type 0) (from : ℕ) (message : Message) (once : Once) (state : State) → from < 8 → StaysWithin bid.at.ballot bid.at.prefix message → Gathers bid counted state → Competes bid (AndNow bid counted from message) (after_acts (line bid.self from message once state) state)
unfolding line
gathers_line bid counted from (Promise ballot slot votes) once state small within gathers = counts_promise bid counted from ballot slot votes state small gathers
gathers_line bid counted from message once state small within gathers = inl (record {
  heard = gathers.heard;
  best = gathers.best;
  holding = hold_line bid.self (Candidate bid.at.ballot bid.first gathers.heard gathers.best) bid.at bid.at.prefix from message once state (omega arith) within
      (λ ballot slot votes same. absurd cc) (λ ballot slot same. no_acceptance bid.self.members from ballot slot bid.at.ballot bid.first gathers.heard gathers.best) gathers.holding;
  few = gathers.few;
  has = λ q is. elim is [ inl old ↦ gathers.has q old | inr now ↦ let same = now.1.1 in absurd cc ];
})

pub gathers_observed : (bid : Bid) (counted : ℕ → Type 0) (ballot : ℕ) (state : State) → ballot ≤ bid.at.ballot → Gathers bid counted state → Gathers bid counted (observed ballot state)
unfolding after_act
gathers_observed bid counted ballot state low gathers = record {
  heard = gathers.heard;
  best = gathers.best;
  holding = record {
    is = ap (after_ballot ballot) gathers.holding.is ∙ rw (le-ltb bid.at.ballot ballot low) refl;
    promised = gathers.holding.promised;
    launch = gathers.holding.launch;
    learned = gathers.holding.learned;
    from_base = gathers.holding.from_base;
  };
  few = gathers.few;
  has = gathers.has;
}

pub competes_hear : (bid : Bid) (counted : ℕ → Type 0) (from : ℕ) (message : Message) (once : Once) (state : State) → from < 8 → StaysWithin bid.at.ballot bid.at.prefix message → Competes bid counted state → Competes bid (AndNow bid counted from message) (after_acts (hear bid.self from message once state) state)
unfolding hear
competes_hear bid counted from message once state small within (inl gathers) =
    gathers_line bid counted from message once (observed (ballot_in message) state) small within (gathers_observed bid counted (ballot_in message) state within.low gathers)
competes_hear bid counted from message once state small within (inr leads) =
    inr (leads.0, free_hear bid.self leads.0 bid.at bid.at.prefix from message once state (omega arith) within leads.1)

-- ---- letters

-- the promise is among messages, or in a mail
abbrev pub Among : Bid → ℕ → List Message → ℕ → Type 0
Among bid from messages q = (from ≡ q) × ((votes : List Vote) × Contains messages (Promise bid.at.ballot bid.first votes))

abbrev pub Promised : Bid → List HeardLetter → ℕ → Type 0
Promised bid mail q = (votes : List Vote) × Occurs mail q (Promise bid.at.ballot bid.first votes)

competes_all : (bid : Bid) (counted : ℕ → Type 0) (from : ℕ) (messages : List Message) (once : Once) (state : State) → from < 8 → AllByRecursion (StaysWithin bid.at.ballot bid.at.prefix) messages → Competes bid counted state → Competes bid (λ q. counted q ⊎ Among bid from messages q) (after_acts (hear_all bid.self from messages once state) state)
unfolding hear_all
competes_all bid counted from [] once state small within competes =
    competes_fewer bid counted (λ q. counted q ⊎ Among bid from [] q) state (λ q is. elim is [ inl old ↦ old | inr now ↦ nothing_in now.1.1 ]) competes
competes_all bid counted from (message ∷ messages) once state small within competes =
    let acts = hear bid.self from message once state in
    let now = after_acts acts state in
    let later = once_after message state acts once in
    let more : ℕ → Type 0 = AndNow bid counted from message in
    rw (after_acts-append acts (hear_all bid.self from messages later now) state)
    (competes_fewer bid (λ q. more q ⊎ Among bid from messages q) (λ q. counted q ⊎ Among bid from (message ∷ messages) q) _
    (λ q is. elim is [
      | inl old ↦ inl (inl old)
      | inr said ↦ elim (cons_cases message messages (Promise bid.at.ballot bid.first said.1.0) said.1.1) [
        | inl same ↦ inl (inr (said.0, (said.1.0, same)))
        | inr behind ↦ inr (said.0, (said.1.0, behind))
      ]
    ])
    (competes_all bid more from messages later now small within.1 (competes_hear bid counted from message once state small within.0 competes)))

pub competes_mail : (bid : Bid) (counted : ℕ → Type 0) (mail : List HeardLetter) (state : State) → bid.self.members ≤ 7 → AreFrom bid.self.members mail → AreWithin bid.at.ballot bid.at.prefix mail → Competes bid counted state → Competes bid (λ q. counted q ⊎ Promised bid mail q) (after_events bid.self (hear_events mail) state)
unfolding step
competes_mail bid counted [] state few from within competes =
    competes_fewer bid counted (λ q. counted q ⊎ Promised bid [] q) state (λ q is. elim is [ inl old ↦ old | inr occurs ↦ nothing_in occurs.1.there ]) competes
competes_mail bid counted (letter ∷ mail) state few from within competes =
    let small : letter.from < 8 = omega (arith, few, from.0) in
    let now = after_acts (hear_all bid.self letter.from letter.messages not_yet state) state in
    let more : ℕ → Type 0 = λ q. counted q ⊎ Among bid letter.from letter.messages q in
    let first = competes_all bid counted letter.from letter.messages not_yet state small within.0 competes in
    competes_fewer bid (λ q. more q ⊎ Promised bid mail q) (λ q. counted q ⊎ Promised bid (letter ∷ mail) q) _
    (λ q is. elim is [
      | inl old ↦ inl (inl old)
      | inr occurs ↦ elim (cons_cases letter mail occurs.1.letter occurs.1.there) [
        | inl same ↦ inl (inr (ap (λ l. l.from) same ∙ occurs.1.is_from, (occurs.0, subst (λ l. Contains l.messages (Promise bid.at.ballot bid.first occurs.0)) (sym same) occurs.1.has)))
        | inr later ↦ inr (occurs.0, record { letter = occurs.1.letter; there = later; is_from = occurs.1.is_from; has = occurs.1.has })
      ]
    ])
    (competes_mail bid more mail now few from.1 within.1 first)

-- ---- all promise

-- where all have promised, it leads
pub all_lead : (bid : Bid) (counted : ℕ → Type 0) (state : State) → 1 ≤ bid.self.members → bid.self.members ≤ 7 → ((q : ℕ) → q < bid.self.members → counted q) → Competes bid counted state → Leads bid state
all_lead bid counted state some few all (inr leads) = leads
all_lead bid counted state some few all (inl gathers) =
    let enough = all_are_enough bid.self.members gathers.heard some few (λ q below. gathers.has q (all q below)) in
    absurd (let no : true ≡ false = sym enough ∙ gathers.few in cc)

-- it begins with its own promise
pub begins_alone : (bid : Bid) (best : List Vote) (state : State) → 2 ≤ bid.self.members → bid.self.me < 8 → IsHolding (Candidate bid.at.ballot bid.first (only_member bid.self.me) best) bid.at state → Competes bid (λ q. q ≡ bid.self.me) state
begins_alone bid best state more small holding = inl (record {
  heard = only_member bid.self.me;
  best = best;
  holding = holding;
  few = few_alone bid.self.members bid.self.me more small;
  has = λ q is. rw is (in_with bid.self.me 0 bid.self.me small (inl refl));
})

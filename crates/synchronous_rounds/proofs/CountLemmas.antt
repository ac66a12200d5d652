-- How a leader counts the acceptances of its proposal, and learns it once all have accepted.
use Rattle.std.proofs.Common.{◌≡◌, ℕ, ◌+◌, ◌-◌, ◌<◌, ◌≤◌, Bool, true, false, List, [], ◌∷◌, ◌++◌, length, eqb, ltb, leb, ◌&&◌, None, Some, refl, sym, ap, ◌∙◌, inl, inr, ◌⊎◌, arith, subst, if◌then◌else◌, length-append}
use Rattle.std.specs.List.{AllByRecursion, Contains, count_by}
use Rattle.std.proofs.lemmas.Bool.{cases_Bool, eqb-true, eq-eqb, ltb-true, lt-ltb, leb-true, le-leb, agree_below, agree_below_at}
use Rattle.std.proofs.lemmas.List.Sums.{sum_by-le-sum_by}
use Rattle.paxos_base.specs.Members.{HasMember, all_members, has_majority, has_member, majority_of, member_count, only_member, with_member}
use Rattle.paxos_base.proofs.MemberLemmas.{has_member-set}
use Rattle.launch_machine.specs.Clerk.{Applies}
use Rattle.launch_machine.proofs.ClerkLemmas.{AppliesAll-push}
use Rattle.term_core.specs.Term.{accepted_by, after_advance}
use Rattle.term_core.specs.declared.flight.Flight.{Flight}
use Rattle.step_spec.specs.Act.{after_act, after_counting}
use Rattle.step_spec.specs.Folds.{after_acts}
use Rattle.step_spec.specs.Hear.{Once, hear, hear_all, line, not_yet, on_accepted, once_after}
use Rattle.step_spec.specs.Message.{Message, Accepted, ballot_in}
use Rattle.step_spec.specs.State.{State, prefix_of}
use Rattle.step_spec.specs.Step.{step}
use Rattle.step_spec.proofs.Lists.{nothing_in, after_acts-append}
use Rattle.synchronous_rounds.specs.Cluster.{HeardLetter, after_events, hear_events}
use Rattle.synchronous_rounds.specs.Flights.{IsFlight, Proposal, Proposes, learned_by}
use Rattle.synchronous_rounds.specs.LedAlone.{AreFrom, AreWithin, IsLeading, StaysWithin, Occurs}
use Rattle.synchronous_rounds.proofs.ActLemmas.{observed}
use Rattle.synchronous_rounds.proofs.LeaderLemmas.{free_hear, lead_line, leading_observed}
use Rattle.due_set.proofs.Rising.{Contains-cases as cons_cases}

-- the proposal is under way, and all of these are counted; or it has been learned
pub record Counts (proposal : Proposal) (counted : ℕ → Type 0) (state : State) : Type 0 where
  pub flight : Flight
  pub proposes : Proposes proposal flight state
  pub has : (q : ℕ) → counted q → HasMember flight.accepted q

-- it has learned the proposal, and has no other yet
abbrev pub IsLearned : Proposal → State → Type 0
IsLearned proposal state = IsLeading proposal.best None (learned_by proposal) state

abbrev pub GoesOnBy : Proposal → (ℕ → Type 0) → State → Type 0
GoesOnBy proposal counted state = Counts proposal counted state ⊎ IsLearned proposal state

goes_fewer : (proposal : Proposal) (counted fewer : ℕ → Type 0) (state : State) → ((q : ℕ) → fewer q → counted q) → GoesOnBy proposal counted state → GoesOnBy proposal fewer state
goes_fewer proposal counted fewer state less (inl counts) =
    inl (record { flight = counts.flight; proposes = counts.proposes; has = λ q is. counts.has q (less q is) })
goes_fewer proposal counted fewer state less (inr learned) = inr learned

-- these, and who says now that it has accepted
abbrev AndNow : Proposal → (ℕ → Type 0) → ℕ → Message → ℕ → Type 0
AndNow proposal counted from message q = counted q ⊎ ((from ≡ q) × (message ≡ Accepted proposal.at.ballot proposal.at.prefix))

pub in_with : (from set q : ℕ) → from < 8 → (q ≡ from) ⊎ HasMember set q → HasMember (with_member from set) q
unfolding with_member
in_with from set q small is = (has_member-set set from small q).1 is

-- ---- one message

-- an acceptance of the proposal is counted
counts_it : (proposal : Proposal) (counted : ℕ → Type 0) (from ballot slot : ℕ) (state : State) → from < 8 → Counts proposal counted state → GoesOnBy proposal (AndNow proposal counted from (Accepted ballot slot)) (after_acts (on_accepted proposal.self.members from ballot slot state.term) state)
unfolding on_accepted after_act
counts_it proposal counted from ballot slot state small counts =
    subst (λ acts. GoesOnBy proposal (AndNow proposal counted from (Accepted ballot slot)) (after_acts acts state)) (ap (λ t. on_accepted proposal.self.members from ballot slot t) (sym leading.is)) (elim (cases_Bool (eqb proposal.at.ballot ballot && eqb flight.slot slot)) [
      | inl is_its ↦ rw is_its (elim (cases_Bool (has_majority proposal.self.members (with_member from flight.accepted))) [
        | inl enough ↦ rw enough (inr (record {
          is = ap (λ t. after_advance (prefix_of state + 1) (after_counting from t)) leading.is ∙ rw (lt-ltb flight.slot (prefix_of state + 1) (omega (arith, flies.slot, leading.learned))) refl;
          promised = leading.promised;
          launch = AppliesAll-push proposal.at.table state.kept.rows state.learned flight.entry proposal.at.rows proposal.later leading.launch (subst (λ e. Applies proposal.at.table proposal.at.rows e proposal.later) (sym flies.entry) proposal.applies);
          learned = omega (arith, longer, leading.learned);
          from_base = leading.from_base;
        }))
        | inr few ↦ rw few (inl (record {
          flight = accepted_by from flight;
          proposes = record {
            leading = record { is = ap (after_counting from) leading.is; promised = leading.promised; launch = leading.launch; learned = leading.learned; from_base = leading.from_base };
            flies = record {
              slot = flies.slot;
              entry = flies.entry;
              few = few;
              own = in_with from flight.accepted proposal.self.me small (inr flies.own);
              waited = flies.waited;
            };
          };
          has = λ q is. elim is [
            | inl old ↦ in_with from flight.accepted q small (inr (counts.has q old))
            | inr now ↦ in_with from flight.accepted q small (inl (sym now.0))
          ];
        }))
      ])
      | inr other ↦ rw other (inl (record {
        flight = flight;
        proposes = counts.proposes;
        has = λ q is. elim is [
          | inl old ↦ counts.has q old
          | inr now ↦
              let ballots : ballot ≡ proposal.at.ballot = ballot_of now.1 in
              let slots : slot ≡ proposal.at.prefix = slot_of now.1 in
              let yes : (eqb proposal.at.ballot ballot && eqb flight.slot slot) ≡ true = rw (eq-eqb proposal.at.ballot ballot (sym ballots), eq-eqb flight.slot slot (flies.slot ∙ sym slots)) refl in
              absurd (let no : true ≡ false = sym yes ∙ other in cc)
        ];
      }))
    ])
  where
    flight : Flight
    flight = counts.flight

    flies : IsFlight proposal counts.flight
    flies = counts.proposes.flies

    leading : IsLeading proposal.best (Some counts.flight) proposal.at state
    leading = counts.proposes.leading

    longer : length (state.learned ++ counts.flight.entry ∷ []) ≡ length state.learned + 1
    longer = length-append state.learned (counts.flight.entry ∷ [])

    ballot_of : Accepted ballot slot ≡ Accepted proposal.at.ballot proposal.at.prefix → ballot ≡ proposal.at.ballot
    ballot_of same = cc

    slot_of : Accepted ballot slot ≡ Accepted proposal.at.ballot proposal.at.prefix → slot ≡ proposal.at.prefix
    slot_of same = cc

-- a message that is no acceptance counts for nobody
counts_no_more : (proposal : Proposal) (counted : ℕ → Type 0) (from : ℕ) (message : Message) (state now : State) → (message ≡ Accepted proposal.at.ballot proposal.at.prefix → ⊥) → (counts : Counts proposal counted state) → IsLeading proposal.best (Some counts.flight) proposal.at now → GoesOnBy proposal (AndNow proposal counted from message) now
counts_no_more proposal counted from message state now other counts leading = inl (record {
  flight = counts.flight;
  proposes = record { leading = leading; flies = counts.proposes.flies };
  has = λ q is. elim is [ inl old ↦ counts.has q old | inr now ↦ absurd (other now.1) ];
})

counts_line : (proposal : Proposal) (counted : ℕ → Type 0) (from : ℕ) (message : Message) (once : Once) (state : State) → from < 8 → StaysWithin proposal.at.ballot proposal.at.prefix message → Counts proposal counted state → GoesOnBy proposal (AndNow proposal counted from message) (after_acts (line proposal.self from message once state) state)
unfolding line
counts_line proposal counted from (Accepted ballot slot) once state small within counts = counts_it proposal counted from ballot slot state small counts
counts_line proposal counted from message once state small within counts =
    counts_no_more proposal counted from message state _ (λ same. cc) counts
    (lead_line proposal.self proposal.best (Some counts.flight) proposal.at proposal.at.prefix from message once state (omega arith) within (λ ballot slot same. absurd cc) counts.proposes.leading)

counts_observed : (proposal : Proposal) (counted : ℕ → Type 0) (ballot : ℕ) (state : State) → ballot ≤ proposal.at.ballot → Counts proposal counted state → Counts proposal counted (observed ballot state)
counts_observed proposal counted ballot state low counts = record {
  flight = counts.flight;
  proposes = record {
    leading = leading_observed proposal.best (Some counts.flight) proposal.at ballot state low counts.proposes.leading;
    flies = counts.proposes.flies;
  };
  has = counts.has;
}

goes_hear : (proposal : Proposal) (counted : ℕ → Type 0) (from : ℕ) (message : Message) (once : Once) (state : State) → from < 8 → StaysWithin proposal.at.ballot proposal.at.prefix message → GoesOnBy proposal counted state → GoesOnBy proposal (AndNow proposal counted from message) (after_acts (hear proposal.self from message once state) state)
unfolding hear
goes_hear proposal counted from message once state small within (inl counts) =
    counts_line proposal counted from message once (observed (ballot_in message) state) small within (counts_observed proposal counted (ballot_in message) state within.low counts)
goes_hear proposal counted from message once state small within (inr learned) =
    inr (free_hear proposal.self proposal.best (learned_by proposal) proposal.at.prefix from message once state (omega arith) within learned)

-- ---- letters

goes_all : (proposal : Proposal) (counted : ℕ → Type 0) (from : ℕ) (messages : List Message) (once : Once) (state : State) → from < 8 → AllByRecursion (StaysWithin proposal.at.ballot proposal.at.prefix) messages → GoesOnBy proposal counted state → GoesOnBy proposal (λ q. counted q ⊎ ((from ≡ q) × Contains messages (Accepted proposal.at.ballot proposal.at.prefix))) (after_acts (hear_all proposal.self from messages once state) state)
unfolding hear_all
goes_all proposal counted from [] once state small within goes =
    goes_fewer proposal counted _ state (λ q is. elim is [ inl old ↦ old | inr now ↦ nothing_in now.1 ]) goes
goes_all proposal counted from (message ∷ messages) once state small within goes =
    let acts = hear proposal.self from message once state in
    let now = after_acts acts state in
    let later = once_after message state acts once in
    rw (after_acts-append acts (hear_all proposal.self from messages later now) state)
    (goes_fewer proposal (λ q. AndNow proposal counted from message q ⊎ ((from ≡ q) × Contains messages (Accepted proposal.at.ballot proposal.at.prefix))) (λ q. counted q ⊎ ((from ≡ q) × Contains (message ∷ messages) (Accepted proposal.at.ballot proposal.at.prefix))) _
    (λ q is. elim is [
      | inl old ↦ inl (inl old)
      | inr said ↦ elim (cons_cases message messages (Accepted proposal.at.ballot proposal.at.prefix) said.1) [
        | inl same ↦ inl (inr (said.0, same))
        | inr behind ↦ inr (said.0, behind)
      ]
    ])
    (goes_all proposal (AndNow proposal counted from message) from messages later now small within.1
    (goes_hear proposal counted from message once state small within.0 goes)))

pub goes_mail : (proposal : Proposal) (counted : ℕ → Type 0) (mail : List HeardLetter) (state : State) → proposal.self.members ≤ 7 → AreFrom proposal.self.members mail → AreWithin proposal.at.ballot proposal.at.prefix mail → GoesOnBy proposal counted state → GoesOnBy proposal (λ q. counted q ⊎ Occurs mail q (Accepted proposal.at.ballot proposal.at.prefix)) (after_events proposal.self (hear_events mail) state)
unfolding step
goes_mail proposal counted [] state few from within goes =
    goes_fewer proposal counted _ state (λ q is. elim is [ inl old ↦ old | inr occurs ↦ nothing_in occurs.there ]) goes
goes_mail proposal counted (letter ∷ mail) state few from within goes =
    let small : letter.from < 8 = omega (arith, few, from.0) in
    let first = goes_all proposal counted letter.from letter.messages not_yet state small within.0 goes in
    let now = after_acts (hear_all proposal.self letter.from letter.messages not_yet state) state in
    let more : ℕ → Type 0 = λ q. counted q ⊎ ((letter.from ≡ q) × Contains letter.messages (Accepted proposal.at.ballot proposal.at.prefix)) in
    goes_fewer proposal (λ q. (counted q ⊎ ((letter.from ≡ q) × Contains letter.messages (Accepted proposal.at.ballot proposal.at.prefix))) ⊎ Occurs mail q (Accepted proposal.at.ballot proposal.at.prefix)) _ _
    (λ q is. elim is [
      | inl old ↦ inl (inl old)
      | inr occurs ↦ elim (cons_cases letter mail occurs.letter occurs.there) [
        | inl same ↦ inl (inr (ap (λ l. l.from) same ∙ occurs.is_from, subst (λ l. Contains l.messages (Accepted proposal.at.ballot proposal.at.prefix)) (sym same) occurs.has))
        | inr behind ↦ inr (record { letter = occurs.letter; there = behind; is_from = occurs.is_from; has = occurs.has })
      ]
    ])
    (goes_mail proposal more mail now few from.1 within.1 first)

-- ---- all are a majority

at_least : ℕ → Bool
at_least n = leb (majority_of (n + 1)) (count_by (λ m. ltb m (n + 1)) all_members)

all_at_least : agree_below at_least (λ _. true) 7 ≡ true
unfolding at_least
all_at_least = refl

enough_below : (members : ℕ) → 1 ≤ members → members ≤ 7 → majority_of members ≤ count_by (λ m. ltb m members) all_members
unfolding at_least
enough_below members some few =
    let is : members - 1 + 1 ≡ members = omega (arith, some) in
    subst (λ n. majority_of n ≤ count_by (λ m. ltb m n) all_members) is
    (leb-true (majority_of (members - 1 + 1)) (count_by (λ m. ltb m (members - 1 + 1)) all_members)
    (agree_below_at at_least (λ _. true) 7 (members - 1) all_at_least (omega (arith, few, some))))

pub all_are_enough : (members set : ℕ) → 1 ≤ members → members ≤ 7 → ((q : ℕ) → q < members → HasMember set q) → has_majority members set ≡ true
all_are_enough members set some few all =
    let more : count_by (λ m. ltb m members) all_members ≤ member_count set = sum_by-le-sum_by _ _ all_members pointwise in
    let least = enough_below members some few in
    le-leb (majority_of members) (member_count set) (omega (arith, more, least))
  where
    pointwise : (q : ℕ) → (if ltb q members then 1 else 0) ≤ (if has_member set q then 1 else 0)
    pointwise q = elim (cases_Bool (ltb q members)) [
      | inl below ↦ rw (below, eq-eqb _ 1 (all q (ltb-true q members below))) (omega arith)
      | inr above ↦ rw above (omega arith)
    ]

-- a proposal that all have accepted is learned
pub all_accept : (proposal : Proposal) (counted : ℕ → Type 0) (state : State) → 1 ≤ proposal.self.members → proposal.self.members ≤ 7 → ((q : ℕ) → q < proposal.self.members → counted q) → GoesOnBy proposal counted state → IsLearned proposal state
all_accept proposal counted state some few all (inl counts) =
    let enough = all_are_enough proposal.self.members counts.flight.accepted some few (λ q below. counts.has q (all q below)) in
    absurd (let no : true ≡ false = sym enough ∙ counts.proposes.flies.few in cc)
all_accept proposal counted state some few all (inr learned) = learned

-- ---- one alone is none

one_alone : ℕ → Bool
one_alone m = eqb (member_count (only_member m)) 1

all_one_alone : agree_below one_alone (λ _. true) 8 ≡ true
unfolding one_alone with_member
all_one_alone = refl

pub few_alone : (members me : ℕ) → 2 ≤ members → me < 8 → has_majority members (only_member me) ≡ false
unfolding one_alone
few_alone members me more small =
    elim (cases_Bool (has_majority members (only_member me))) [
      | inl enough ↦
          let least = leb-true (majority_of members) (member_count (only_member me)) enough in
          let one = eqb-true (member_count (only_member me)) 1 (agree_below_at one_alone (λ _. true) 8 me all_one_alone small) in
          absurd (omega (arith, least, one, more))
      | inr few ↦ few
    ]

-- What acts bring: whom their messages reach, in which letters, what they learn and whom they call for.
use Rattle.std.proofs.Common.{◌≡◌, ◌≢◌, ℕ, zero, suc, ◌+◌, ◌<◌, ◌≤◌, Bool, true, false, eqb, not, List, [], ◌∷◌, refl, ◌∙◌, inl, inr, arith, subst, ◌↔◌}
use Rattle.std.specs.List.{Contains, flat_map, range_with_len}
use Rattle.std.specs.Int.{bit_at}
use Rattle.std.proofs.lemmas.Bool.{and_parts, cases_Bool, eqb-true, eq-eqb, ne_eqb, le-leb}
use Rattle.std.proofs.lemmas.List.Elements.{Contains-append_left, Contains-append_right}
use Rattle.paxos_base.proofs.PutLemmas.{at_from}
use Rattle.paxos_base.specs.Members.{HasMember, has_member, only_member}
use Rattle.paxos_base.specs.Vote.{vote_at, votes_from}
use Rattle.paxos_base.specs.declared.entry.Entry.{Entry}
use Rattle.paxos_base.specs.declared.entry.Vote.{Vote}
use Rattle.term_core.specs.declared.term.Term.TheVariants.{Candidate}
use Rattle.cluster_sched.specs.declared.row.SchedRow.{SchedRow}
use Rattle.step_spec.specs.Act.{Act, Stand, Learn, Call, Send, after_act}
use Rattle.step_spec.specs.Folds.{Addressed, calls_by, calls_of, learnt_by, learnt_of, letter_of, letters_of, sent_by, sent_to}
use Rattle.step_spec.specs.Message.{Message, Whom, Only, Others, Outside, goes_to}
use Rattle.step_spec.specs.State.{State, Identity, prefix_of}
use Rattle.step_spec.specs.declared.out.LearntRow.{LearntRow}
use Rattle.step_spec.proofs.Lists.{flat_came, nothing_in}
use Rattle.due_set.proofs.Rising.{Contains-head as in_first, Contains-cases as cons_cases, Contains-range_with_len}

-- what an element's list has is in the lists of all
pub flat_has : {A B : Type 0} (f : A → List B) (xs : List A) (x : A) (y : B) → Contains xs x → Contains (f x) y → Contains (flat_map f xs) y
flat_has f [] x y here there = nothing_in here
flat_has f (z ∷ xs) x y here there = elim (cons_cases z xs x here) [
  | inl same ↦ Contains-append_left (f z) (flat_map f xs) y (rw same there)
  | inr later ↦ Contains-append_right (f z) (flat_map f xs) y (flat_has f xs x y later there)
]

-- ---- whom a message reaches

pub reaches_only : (me other member : ℕ) → (goes_to me (Only other) member ≡ true) ↔ (member ≡ other)
reaches_only me other member = (λ is. eqb-true member other is, λ is. eq-eqb member other is)

-- a test that is denied doesn't hold
denied : (test : Bool) → not test ≡ true → test ≡ true → ⊥
denied test not_so is_so = let wrong : false ≡ true = rw is_so at not_so in cc

pub reaches_others : (me member : ℕ) → (goes_to me Others member ≡ true) ↔ (member ≢ me)
reaches_others me member = (
  λ is same. denied (eqb member me) is (eq-eqb member me same),
  λ other. rw (ne_eqb member me other) refl,
)

pub reaches_outside : (me set member : ℕ) → (goes_to me (Outside set) member ≡ true) ↔ ((member ≢ me) × (HasMember set member → ⊥))
reaches_outside me set member = (
  λ is. let parts = and_parts (not (eqb member me)) (not (has_member set member)) is in
      (λ same. denied (eqb member me) parts.0 (eq-eqb member me same), λ has. denied (has_member set member) parts.1 (eq-eqb (bit_at set member) 1 has)),
  λ (other, out). rw (ne_eqb member me other, ne_eqb (bit_at set member) 1 out) refl,
)

-- ---- letters

pub range_below : (from count n : ℕ) → Contains (range_with_len from count) n → n < from + count
range_below from zero n has = nothing_in has
range_below from (suc count) n has = elim (cons_cases from (range_with_len (from + 1) count) n has) [
  | inl same ↦ omega (arith, same)
  | inr later ↦ let below = range_below (from + 1) count n later in omega (arith, below)
]

letter_is : (to : ℕ) (messages : List Message) (message : Message) → Contains messages message → Contains (letter_of to messages) (record { to = to; messages = messages })
letter_is to [] message has = nothing_in has
letter_is to (first ∷ others) message has = in_first _ []

-- a message that is sent is in the letter of each replica that it reaches
pub letters_reach : (self : Identity) (acts : List Act) (whom : Whom) (message : Message) (member : ℕ) → Contains acts (Send whom message) → member < self.members → goes_to self.me whom member ≡ true
    → (letter : Addressed) × Contains (letters_of self acts) letter × (letter.to ≡ member) × Contains letter.messages message
unfolding sent_by
letters_reach self acts whom message member here below goes =
    let has : Contains (sent_to self.me member acts) message = flat_has (sent_by self.me member) acts (Send whom message) message here (rw goes (in_first message [])) in (
      record { to = member; messages = sent_to self.me member acts },
      flat_has (λ one. letter_of one (sent_to self.me one acts)) (range_with_len 0 self.members) member _ (let at : 0 + member ≡ member = omega arith in rw at at (Contains-range_with_len 0 self.members member below)) (letter_is member _ message has),
      refl,
      has,
    )

sent_by_act : (me member : ℕ) (acts : List Act) (message : Message) (act : Act) → Contains acts act → Contains (sent_by me member act) message → (whom : Whom) × Contains acts (Send whom message) × (goes_to me whom member ≡ true)
unfolding sent_by
sent_by_act me member acts message (Send whom mine) here there =
    elim (cases_Bool (goes_to me whom member)) [
      | inl goes ↦ elim (cons_cases mine [] message (rw goes at there)) [ inl same ↦ (whom, rw (← same) here, goes) | inr none ↦ nothing_in none ]
      | inr other ↦ nothing_in (rw other at there)
    ]
sent_by_act me member acts message act here there = nothing_in there

letter_came : (member : ℕ) (messages : List Message) (letter : Addressed) → Contains (letter_of member messages) letter → record { to = member; messages = messages } ≡ letter
letter_came member [] letter there = nothing_in there
letter_came member (first ∷ others) letter there = elim (cons_cases _ [] letter there) [
  | inl same ↦ same
  | inr none ↦ nothing_in none
]

-- a letter goes to one of the replicas, and has what is sent to it, in order
pub letters_are : (self : Identity) (acts : List Act) (letter : Addressed) → Contains (letters_of self acts) letter → (letter.to < self.members) × (letter.messages ≡ sent_to self.me letter.to acts)
letters_are self acts letter has =
    let came = flat_came (λ one. letter_of one (sent_to self.me one acts)) (range_with_len 0 self.members) letter has in
    let is = letter_came came.of (sent_to self.me came.of acts) letter came.inside in
    let below : came.of < self.members = let sum = range_below 0 self.members came.of came.has in omega (arith, sum) in
    (subst (λ (l : Addressed). l.to < self.members) is below, subst (λ (l : Addressed). l.messages ≡ sent_to self.me l.to acts) is refl)

-- what a letter has was sent to its replica
pub letters_sent : (self : Identity) (acts : List Act) (letter : Addressed) (message : Message) → Contains (letters_of self acts) letter → Contains letter.messages message → (whom : Whom) × Contains acts (Send whom message) × (goes_to self.me whom letter.to ≡ true)
letters_sent self acts letter message has inside =
    let there : Contains (sent_to self.me letter.to acts) message = subst (λ messages. Contains messages message) (letters_are self acts letter has).1 inside in
    let came = flat_came (sent_by self.me letter.to) acts message there in
    sent_by_act self.me letter.to acts message came.of came.has came.inside

-- ---- what is learned, and what is called for

learnt_came : (acts : List Act) (row : LearntRow) (act : Act) → Contains acts act → Contains (learnt_by act) row → Contains acts (Learn row.slot row.entry)
unfolding learnt_by
learnt_came acts row (Learn slot entry) here there = elim (cons_cases _ [] row there) [
  | inl same ↦ subst (λ (r : LearntRow). Contains acts (Learn r.slot r.entry)) same here
  | inr none ↦ nothing_in none
]
learnt_came acts row act here there = nothing_in there

pub learnt_in : (acts : List Act) (slot : ℕ) (entry : Entry) → Contains (learnt_of acts) (record { slot = slot; entry = entry }) ↔ Contains acts (Learn slot entry)
unfolding learnt_by
learnt_in acts slot entry = (
  λ has. let came = flat_came learnt_by acts (record { slot = slot; entry = entry }) has in learnt_came acts (record { slot = slot; entry = entry }) came.of came.has came.inside,
  λ has. flat_has learnt_by acts (Learn slot entry) (record { slot = slot; entry = entry }) has (in_first _ []),
)

call_came : (acts : List Act) (row : SchedRow) (act : Act) → Contains acts act → Contains (calls_by act) row → Contains acts (Call row)
unfolding calls_by
call_came acts row (Call mine) here there = elim (cons_cases mine [] row there) [
  | inl same ↦ rw (← same) here
  | inr none ↦ nothing_in none
]
call_came acts row act here there = nothing_in there

pub calls_in : (acts : List Act) (row : SchedRow) → Contains (calls_of acts) row ↔ Contains acts (Call row)
unfolding calls_by
calls_in acts row = (
  λ has. let came = flat_came calls_by acts row has in call_came acts row came.of came.has came.inside,
  λ has. flat_has calls_by acts (Call row) row has (in_first row []),
)

-- ---- a candidate's own votes

pub own_votes : (me ballot : ℕ) (state : State) → (heard : ℕ) × (best : List Vote) × ((after_act (Stand me ballot) state).term ≡ Candidate ballot (prefix_of state) heard best)
    × ((slot : ℕ) → prefix_of state ≤ slot → vote_at slot best ≡ vote_at slot state.kept.votes)
unfolding after_act
own_votes me ballot state = (
  only_member me,
  votes_from (prefix_of state) state.kept.votes,
  refl,
  λ slot from. at_from (prefix_of state) slot state.kept.votes ∙ rw (le-leb (prefix_of state) slot from) refl,
)

-- Each world has one log.
use Rattle.std.proofs.Common.{◌≡◌, ℕ, ◌+◌, ◌<◌, ◌≤◌, List, [], ◌∷◌, length, eqb, refl, sym, ap, ◌∙◌, inl, inr, arith, subst, ◌⊎◌, ◌&&◌, if◌then◌else◌, suc, zero}
use Rattle.std.specs.List.{Contains}
use Rattle.std.proofs.lemmas.List.{take_all}
use Rattle.std.proofs.lemmas.List.Elements.{Contains-push, Contains-append_left, Contains-append_right}
use Rattle.std.proofs.lemmas.Nat.Bits.{bit_at-zero}
use Rattle.std.proofs.lemmas.Bool.{cases_Bool, cases_lt}
use Rattle.paxos_base.specs.Members.{AllBelow, HasMember, has_majority, no_members, with_member}
use Rattle.paxos_base.specs.declared.entry.Entry.{Entry}
use Rattle.paxos_base.specs.declared.entry.Vote.{Vote}
use Rattle.paxos_base.proofs.MemberLemmas.{has_member-set}
use Rattle.agreement.specs.Agree.{HasCast}
use Rattle.agreement.specs.World.{CastVote, World}
use Rattle.agreement.proofs.Kept.{Kept}
use Rattle.std.specs.List.{sum_by}
use Rattle.std.proofs.Common.{get_or, take}
use Rattle.std.proofs.lemmas.List.Sums.{get_or-le-sum_by, sum_by-le-sum_by}
use Rattle.std.proofs.lemmas.List.Elements.{Contains-append_cases, Contains-push_cases}
use Rattle.std.proofs.lemmas.Bool.{and_parts, eqb-true, eq-eqb, leb-true, leb-false}
use Rattle.paxos_base.specs.Members.{all_members, has_member, majority_of, member_count}
use Rattle.agreement.specs.Agree.{IsChosen, vote_for}
use Rattle.agreement.specs.Log.{AreChosen, IsLog}
use Rattle.agreement.proofs.OneValue.{majorities_share, one_value, voter_of}
use Rattle.agreement.proofs.Safe.{AreSafe}
use Rattle.agreement.proofs.ToldLemmas.{with_cases}

-- those that have voted at a slot in a ballot
abbrev voters_of : ℕ → ℕ → List CastVote → ℕ
voters_of slot ballot [] = no_members
voters_of slot ballot (row ∷ rows) =
    if eqb row.vote.slot slot && eqb row.vote.ballot ballot then with_member row.by (voters_of slot ballot rows) else voters_of slot ballot rows

-- a vote at the slot in the ballot
record VoteThere (rows : List CastVote) (q slot ballot : ℕ) : Type 0 where
  vote : Vote
  has : HasCast rows q vote
  slot_is : vote.slot ≡ slot
  ballot_is : vote.ballot ≡ ballot

there_more : (row : CastVote) (rows : List CastVote) (q slot ballot : ℕ) → VoteThere rows q slot ballot → VoteThere (row ∷ rows) q slot ballot
there_more row rows q slot ballot there = record {
  vote = there.vote;
  has = Contains-append_right (row ∷ []) rows (record { by = q; vote = there.vote }) there.has;
  slot_is = there.slot_is;
  ballot_is = there.ballot_is;
}

voters_have : (slot ballot : ℕ) (rows : List CastVote) → ((row : CastVote) → Contains rows row → row.by < 8) → (q : ℕ) → HasMember (voters_of slot ballot rows) q → VoteThere rows q slot ballot
voters_have slot ballot [] few q has = let none = bit_at-zero q in absurd (omega (arith, has, none))
voters_have slot ballot (row ∷ rows) few q has =
    let first : Contains (row ∷ rows) row = Contains-append_left (row ∷ []) rows row (Contains-push [] row) in
    let less = λ (other : CastVote) (in_rows : Contains rows other). few other (Contains-append_right (row ∷ []) rows other in_rows) in
    elim (cases_Bool (eqb row.vote.slot slot && eqb row.vote.ballot ballot)) [
      | inl here ↦
          let parts = and_parts (eqb row.vote.slot slot) (eqb row.vote.ballot ballot) here in
          elim (with_cases row.by (voters_of slot ballot rows) q (few row first) (rw here at has)) [
            | inl same ↦ record {
              vote = row.vote;
              has = rw same first;
              slot_is = eqb-true row.vote.slot slot parts.0;
              ballot_is = eqb-true row.vote.ballot ballot parts.1;
            }
            | inr old ↦ there_more row rows q slot ballot (voters_have slot ballot rows less q old)
          ]
      | inr other ↦ there_more row rows q slot ballot (voters_have slot ballot rows less q (rw other at has))
    ]

with_old : (from set m : ℕ) → from < 8 → HasMember set m → HasMember (with_member from set) m
unfolding with_member
with_old from set m small has = (has_member-set set from small m).1 (inr has)

with_new : (from set : ℕ) → from < 8 → HasMember (with_member from set) from
unfolding with_member
with_new from set small = (has_member-set set from small from).1 (inl refl)

are_voters : (slot ballot : ℕ) (rows : List CastVote) → ((row : CastVote) → Contains rows row → row.by < 8) → (q : ℕ) (vote : Vote) → HasCast rows q vote → vote.slot ≡ slot → vote.ballot ≡ ballot → HasMember (voters_of slot ballot rows) q
are_voters slot ballot [] few q vote (k, within, is) at in_ballot = absurd (omega (arith, within))
are_voters slot ballot (row ∷ rows) few q vote has at in_ballot =
    let first : row.by < 8 = few row (Contains-append_left (row ∷ []) rows row (Contains-push [] row)) in
    let less = λ (other : CastVote) (in_rows : Contains rows other). few other (Contains-append_right (row ∷ []) rows other in_rows) in
    elim (Contains-append_cases (row ∷ []) rows (record { by = q; vote = vote }) has) [
      | inl here ↦ elim (Contains-push_cases [] row (record { by = q; vote = vote }) here) [
        | inl (k, within, is) ↦ absurd (omega (arith, within))
        | inr same ↦
            let slots : row.vote.slot ≡ slot = ap (λ r. r.vote.slot) same ∙ at in
            let ballots : row.vote.ballot ≡ ballot = ap (λ r. r.vote.ballot) same ∙ in_ballot in
            let who : row.by ≡ q = ap (λ r. r.by) same in
            rw (eq-eqb row.vote.slot slot slots, eq-eqb row.vote.ballot ballot ballots) (subst (λ m. HasMember (with_member row.by (voters_of slot ballot rows)) m) who (with_new row.by (voters_of slot ballot rows) first))
      ]
      | inr later ↦
          let old = are_voters slot ballot rows less q vote later at in_ballot in
          elim (cases_Bool (eqb row.vote.slot slot && eqb row.vote.ballot ballot)) [
            | inl more ↦ rw more (with_old row.by (voters_of slot ballot rows) q first old)
            | inr same ↦ rw same old
          ]
    ]

-- a set of more replicas has no fewer
more_members : (one other : ℕ) → ((q : ℕ) → HasMember one q → HasMember other q) → member_count one ≤ member_count other
more_members one other more = sum_by-le-sum_by _ _ all_members pointwise
  where
    pointwise : (q : ℕ) → (if has_member one q then 1 else 0) ≤ (if has_member other q then 1 else 0)
    pointwise q = elim (cases_Bool (has_member one q)) [
      | inl has ↦ rw (has, eq-eqb _ 1 (more q (eqb-true _ 1 has))) (omega arith)
      | inr none ↦ rw none (omega arith)
    ]

-- an entry was chosen at the slot, or none was
abbrev Choice : ℕ → List CastVote → ℕ → Type 0
Choice n cast slot = ((entry : Entry) × IsChosen n cast slot entry) ⊎ ((entry : Entry) → IsChosen n cast slot entry → ⊥)

abbrev ChoiceIn : ℕ → List CastVote → (slot ballot : ℕ) → Type 0
ChoiceIn n cast slot ballot =
    ((entry : Entry) × IsChosen n cast slot entry) ⊎ ((entry : Entry) → (chosen : IsChosen n cast slot entry) → chosen.ballot ≡ ballot → ⊥)

few_rows : (n : ℕ) (w : World) → Kept n w → n ≤ 7 → (row : CastVote) → Contains w.cast row → row.by < 8
few_rows n w kept few row has = omega (arith, kept.members row.by row.vote has, few)

vote_is : (vote : Vote) (slot ballot : ℕ) → vote.slot ≡ slot → vote.ballot ≡ ballot → vote ≡ vote_for slot ballot vote.entry
vote_is vote slot ballot at in_ballot = rw (← at, ← in_ballot) refl

choice_in : (n : ℕ) (w : World) (slot ballot : ℕ) → Kept n w → n ≤ 7 → ChoiceIn n w.cast slot ballot
choice_in n w slot ballot kept few =
    let voters = voters_of slot ballot w.cast in
    let rows = few_rows n w kept few in
    let below : AllBelow n voters = λ q has. let there = voters_have slot ballot w.cast rows q has in kept.members q there.vote there.has in
    elim (cases_Bool (has_majority n voters)) [
      | inl enough ↦
          let meet = majorities_share n voters voters below below enough enough in
          let there = voters_have slot ballot w.cast rows meet.member meet.in_one in
          inl (
            there.vote.entry,
            record {
              ballot = ballot;
              voters = voters;
              below = below;
              majority = enough;
              each = λ q has.
                  let mine = voters_have slot ballot w.cast rows q has in
                  let same = kept.once q meet.member mine.vote there.vote mine.has there.has (mine.slot_is ∙ sym there.slot_is) (mine.ballot_is ∙ sym there.ballot_is) in
                  let is : mine.vote ≡ vote_for slot ballot there.vote.entry = same ∙ vote_is there.vote slot ballot there.slot_is there.ballot_is in
                  subst (λ v. HasCast w.cast q v) is mine.has;
            },
          )
      | inr short ↦ inr (λ entry chosen same.
          let more = more_members chosen.voters voters (λ q has. are_voters slot ballot w.cast rows q (vote_for slot chosen.ballot entry) (chosen.each q has) refl same) in
          let many = leb-true (majority_of n) (member_count chosen.voters) chosen.majority in
          let few_of = leb-false (majority_of n) (member_count voters) short in
          omega (arith, more, many, few_of))
    ]

-- the ballot of a vote among these rows
BallotIn : List CastVote → ℕ → Type 0
BallotIn rows ballot = (row : CastVote) × Contains rows row × (row.vote.ballot ≡ ballot)

choice_among : (n : ℕ) (w : World) (slot : ℕ) (rows : List CastVote) → Kept n w → n ≤ 7 → ((entry : Entry) × IsChosen n w.cast slot entry) ⊎ ((entry : Entry) → (chosen : IsChosen n w.cast slot entry) → BallotIn rows chosen.ballot → ⊥)
unfolding BallotIn
choice_among n w slot [] kept few = inr (λ entry chosen (row, (k, within, is), same). omega (arith, within))
choice_among n w slot (first ∷ rows) kept few = elim (choice_in n w slot first.vote.ballot kept few) [
  | inl found ↦ inl found
  | inr not_here ↦ elim (choice_among n w slot rows kept few) [
    | inl found ↦ inl found
    | inr not_later ↦ inr (λ entry chosen (row, has, same). elim (Contains-append_cases (first ∷ []) rows row has) [
      | inl here ↦ elim (Contains-push_cases [] first row here) [
        | inl (k, within, is) ↦ omega (arith, within)
        | inr it ↦ not_here entry chosen (sym same ∙ ap (λ r. r.vote.ballot) (sym it))
      ]
      | inr later ↦ not_later entry chosen (row, later, same)
    ])
  ]
]

choice_of : (n : ℕ) (w : World) (slot : ℕ) → Kept n w → n ≤ 7 → Choice n w.cast slot
unfolding BallotIn
choice_of n w slot kept few = elim (choice_among n w slot w.cast kept few) [
  | inl found ↦ inl found
  | inr none ↦ inr (λ entry chosen.
      let voter = voter_of n w.cast slot entry chosen in
      none entry chosen (record { by = voter.0; vote = vote_for slot chosen.ballot entry }, voter.1, refl))
]

-- a slot of which something was chosen is not above the sum of all slots
slot_of : CastVote → ℕ
slot_of row = row.vote.slot

chosen_low : (n : ℕ) (cast : List CastVote) (slot : ℕ) (entry : Entry) → IsChosen n cast slot entry → slot ≤ sum_by slot_of cast
unfolding slot_of
chosen_low n cast slot entry chosen =
    let voter = voter_of n cast slot entry chosen in
    low (record { by = voter.0; vote = vote_for slot chosen.ballot entry }) voter.1
  where
    low : (row : CastVote) → Contains cast row → row.vote.slot ≤ sum_by (λ r. r.vote.slot) cast
    low row (k, within, is) =
        let least = get_or-le-sum_by (λ r. r.vote.slot) cast k row within in
        let same : (get_or cast k row).vote.slot ≡ row.vote.slot = ap (λ r. r.vote.slot) is in
        omega (arith, least, same)

record LogFrom (n : ℕ) (cast : List CastVote) (slot : ℕ) : Type 0 where
  log : List Entry
  chosen : AreChosen n cast slot log
  ends : (entry : Entry) → IsChosen n cast (slot + length log) entry → ⊥

log_from : (n : ℕ) (w : World) (fuel slot : ℕ) → Kept n w → n ≤ 7 → sum_by slot_of w.cast < slot + fuel → LogFrom n w.cast slot
log_from n w zero slot kept few low = record {
  log = [];
  chosen = tt;
  ends = λ entry chosen. omega (arith, low, chosen_low n w.cast (slot + 0) entry chosen);
}
log_from n w (suc fuel) slot kept few low = elim (choice_of n w slot kept few) [
  | inl found ↦
      let rest = log_from n w fuel (slot + 1) kept few (omega (arith, low)) in
      let at : slot + 1 + length rest.log ≡ slot + suc (length rest.log) = omega arith in
      record { log = found.0 ∷ rest.log; chosen = (found.1, rest.chosen); ends = λ entry chosen. rest.ends entry (rw at chosen) }
  | inr none ↦
      let at : slot + 0 ≡ slot = omega arith in
      record { log = []; chosen = tt; ends = λ entry chosen. none entry (rw at at chosen) }
]

pub some_log : (n : ℕ) (w : World) → Kept n w → n ≤ 7 → (log : List Entry) × IsLog n w.cast log
some_log n w kept few =
    let from = log_from n w (sum_by slot_of w.cast + 1) 0 kept few (omega arith) in
    let at : 0 + length from.log ≡ length from.log = omega arith in
    (from.log, record { chosen = from.chosen; ends = λ entry chosen. from.ends entry (rw at chosen) })

-- an entry of chosen ones
pub chosen_at : (n : ℕ) (cast : List CastVote) (slot i : ℕ) (entries : List Entry) → AreChosen n cast slot entries → i < length entries → (entry : Entry) × IsChosen n cast (slot + i) entry
chosen_at n cast slot i [] chosen within = absurd (omega (arith, within))
chosen_at n cast slot zero (entry ∷ entries) chosen within = let at : slot + 0 ≡ slot = omega arith in (entry, rw at chosen.0)
chosen_at n cast slot (suc i) (entry ∷ entries) chosen within =
    let rest = chosen_at n cast (slot + 1) i entries chosen.1 (omega (arith, within)) in
    let at : slot + 1 + i ≡ slot + suc i = omega arith in
    (rest.0, rw at at rest.1)

-- chosen entries are a front of as many others
pub chosen_front : (n : ℕ) (w : World) (slot : ℕ) (entries others : List Entry) → Kept n w → AreSafe n w → AreChosen n w.cast slot entries → AreChosen n w.cast slot others → length entries ≤ length others → take (length entries) others ≡ entries
chosen_front n w slot [] others kept safe chosen rivals short = refl
chosen_front n w slot (entry ∷ entries) [] kept safe chosen rivals short = absurd (omega (arith, short))
chosen_front n w slot (entry ∷ entries) (other ∷ others) kept safe chosen rivals short =
    let heads : other ≡ entry = one_value n w slot other entry kept safe rivals.0 chosen.0 in
    let tails = chosen_front n w (slot + 1) entries others kept safe chosen.1 rivals.1 (omega (arith, short)) in
    rw (heads, tails) refl

-- no chosen entries are longer than the log
pub chosen_short : (n : ℕ) (w : World) (entries log : List Entry) → AreChosen n w.cast 0 entries → IsLog n w.cast log → length entries ≤ length log
chosen_short n w entries log chosen is_log =
    elim (cases_lt (length log) (length entries)) [
      | inl longer ↦
          let more = chosen_at n w.cast 0 (length log) entries chosen longer in
          let at : 0 + length log ≡ length log = omega arith in
          absurd (is_log.ends more.0 (rw at at more.1))
      | inr fits ↦ fits
    ]

pub one_log : (n : ℕ) (w : World) (log other : List Entry) → Kept n w → AreSafe n w → IsLog n w.cast log → IsLog n w.cast other → log ≡ other
one_log n w log other kept safe is_log is_other =
    let short = chosen_short n w log other is_log.chosen is_other in
    let long = chosen_short n w other log is_other.chosen is_log in
    let same : length log ≡ length other = omega (arith, short, long) in
    sym (chosen_front n w 0 log other kept safe is_log.chosen is_other.chosen short) ∙ rw same (take_all (length other) other (omega arith))

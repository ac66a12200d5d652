-- No two entries are chosen for one slot ("Paxos Made Simple", section 2.2: P2).
use Rattle.std.proofs.Common.{◌≡◌, ℕ, ◌+◌, ◌<◌, ◌≤◌, List, refl, sym, ap, ◌∙◌, inl, inr, arith, IsTrue, suc, zero}
use Rattle.std.proofs.lemmas.Bool.{cases_lt}
use Rattle.paxos_base.specs.Members.{AllBelow, has_majority}
use Rattle.paxos_base.specs.declared.entry.Entry.{Entry}
use Rattle.paxos_base.specs.declared.entry.Vote.{Vote}
use Rattle.agreement.specs.Agree.{HasCast}
use Rattle.agreement.specs.World.{CastVote, World}
use Rattle.agreement.proofs.Kept.{Kept}
use Rattle.std.proofs.lemmas.Bool.{leb-true}
use Rattle.paxos_base.specs.Members.{Meet, majority_of, member_count}
use Rattle.paxos_base.proofs.MemberLemmas.{majorities-Meet}
use Rattle.agreement.specs.Agree.{IsChosen, vote_for}
use Rattle.agreement.proofs.Safe.{AreSafe}

-- two majorities of the replicas share one
pub majorities_share : (n one other : ℕ) → AllBelow n one → AllBelow n other → IsTrue (has_majority n one) → IsTrue (has_majority n other) → Meet one other
majorities_share n one other below_one below_other many_one many_other =
    majorities-Meet n one other below_one below_other
    (leb-true (majority_of n) (member_count one) many_one) (leb-true (majority_of n) (member_count other) many_other)

-- each vote of the slot in the ballot of a chosen entry or above it is for that entry, by the ballots up to a bound
later_votes : (n : ℕ) (w : World) (slot : ℕ) (entry : Entry) → Kept n w → AreSafe n w → (chosen : IsChosen n w.cast slot entry) → (bound q : ℕ) (vote : Vote) → vote.ballot < bound → HasCast w.cast q vote → vote.slot ≡ slot → chosen.ballot ≤ vote.ballot → vote.entry ≡ entry
later_votes n w slot entry kept safe chosen zero q vote under has at least = absurd (omega (arith, under))
later_votes n w slot entry kept safe chosen (suc bound) q vote under has at least =
    let is_safe = safe q vote has in
    let meet = majorities_share n chosen.voters is_safe.voters chosen.below is_safe.below chosen.majority is_safe.majority in
    let mine = chosen.each meet.member meet.in_one in
    elim (cases_lt chosen.ballot vote.ballot) [
      | inl above ↦
          let between = (is_safe.each meet.member meet.in_other).older (vote_for slot chosen.ballot entry) mine (sym at) above in
          sym between.entry
          ∙ later_votes n w slot entry kept safe chosen bound between.by between.vote (omega (arith, between.high, under)) between.has (between.slot ∙ at) between.low
      | inr not_above ↦
          let same : vote.ballot ≡ chosen.ballot = omega (arith, not_above, least) in
          ap (λ v. v.entry) (kept.once q meet.member vote (vote_for slot chosen.ballot entry) has mine at same)
    ]

-- some replica is in a majority, so a chosen entry has a vote
pub voter_of : (n : ℕ) (cast : List CastVote) (slot : ℕ) (entry : Entry) → (chosen : IsChosen n cast slot entry) → (q : ℕ) × HasCast cast q (vote_for slot chosen.ballot entry)
voter_of n cast slot entry chosen =
    let meet = majorities_share n chosen.voters chosen.voters chosen.below chosen.below chosen.majority chosen.majority in
    (meet.member, chosen.each meet.member meet.in_one)

pub one_value : (n : ℕ) (w : World) (slot : ℕ) (one other : Entry) → Kept n w → AreSafe n w → IsChosen n w.cast slot one → IsChosen n w.cast slot other → one ≡ other
one_value n w slot one other kept safe chosen rival =
    elim (cases_lt chosen.ballot rival.ballot) [
      | inl below ↦
          let voter = voter_of n w.cast slot other rival in
          sym (later_votes n w slot one kept safe chosen (rival.ballot + 1) voter.0 (vote_for slot rival.ballot other) (omega arith) voter.1 refl (omega (arith, below)))
      | inr above ↦
          let voter = voter_of n w.cast slot one chosen in
          later_votes n w slot other kept safe rival (chosen.ballot + 1) voter.0 (vote_for slot chosen.ballot one) (omega arith) voter.1 refl above
    ]

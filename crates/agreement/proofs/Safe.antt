-- Each vote is safe: a majority has cast no vote below its ballot but those that had it ask for this very entry ("Paxos Made
-- Simple", section 2.2: P2c).
use Rattle.std.proofs.Common.{◌≡◌, ℕ, ◌<◌, ◌≤◌, Some, List, sym, ap, ◌∙◌, inl, inr, arith, subst, IsTrue}
use Rattle.std.specs.List.{Contains}
use Rattle.std.proofs.lemmas.List.Elements.{All-contains_itself}
use Rattle.paxos_base.specs.Members.{AllBelow, HasMember, has_majority}
use Rattle.paxos_base.specs.Vote.{vote_at}
use Rattle.paxos_base.specs.declared.entry.Entry.{Entry}
use Rattle.paxos_base.specs.declared.entry.Vote.{Vote}
use Rattle.due_set.specs.Table.{Table}
use Rattle.step_spec.specs.Act.{Act, after_act}
use Rattle.step_spec.specs.State.{prefix_of, promised_in}
use Rattle.step_spec.proofs.VoteLemmas.{found_vote}
use Rattle.agreement.specs.Agree.{HasCast}
use Rattle.agreement.specs.World.{CastVote, Doing, MayDo, World, after_doing, cast_after}
use Rattle.agreement.proofs.Growing.{cast_cases, cast_stays, casts_stored, each_replica, goes_on}
use Rattle.agreement.proofs.Kept.{Kept}
use Rattle.agreement.proofs.KeptLemmas.{setting_of}
use Rattle.agreement.proofs.Told.{IsLed, HasHeard, Told}
use Rattle.step_spec.specs.Propose.{bound_by}
use Rattle.agreement.proofs.Kept.{asked_by, proposed_by, casts_origin}

-- between an older vote and a later one of the slot there is a vote for the later one's entry
pub record HasBetween (cast : List CastVote) (older later : Vote) : Type 0 where
  pub by : ℕ
  pub vote : Vote
  pub has : HasCast cast by vote
  pub slot : vote.slot ≡ later.slot
  pub entry : vote.entry ≡ later.entry
  pub low : older.ballot ≤ vote.ballot
  pub high : vote.ballot < later.ballot

-- the replica votes below the ballot no more, and what it voted there gave way to votes for the entry
pub record GivesWay (cast : List CastVote) (promised q : ℕ) (vote : Vote) : Type 0 where
  pub promised_it : vote.ballot ≤ promised
  pub older : (u : Vote) → HasCast cast q u → u.slot ≡ vote.slot → u.ballot < vote.ballot → HasBetween cast u vote

pub record IsSafe (n : ℕ) (w : World) (vote : Vote) : Type 0 where
  pub voters : ℕ
  pub below : AllBelow n voters
  pub majority : IsTrue (has_majority n voters)
  pub each : (q : ℕ) → HasMember voters q → GivesWay w.cast (promised_in (w.replicas q).kept) q vote

-- each vote that was cast is safe
abbrev pub AreSafe : ℕ → World → Type 0
AreSafe n w = (q : ℕ) (vote : Vote) → HasCast w.cast q vote → IsSafe n w vote

between_on : (by : ℕ) (act : Act) (cast : List CastVote) (older later : Vote) → HasBetween cast older later → HasBetween (cast_after by act cast) older later
between_on by act cast older later between = record {
  by = between.by;
  vote = between.vote;
  has = cast_stays by act cast between.by between.vote between.has;
  slot = between.slot;
  entry = between.entry;
  low = between.low;
  high = between.high;
}

gives_way_on : (n : ℕ) (table : Table) (w : World) (doing : Doing) → Kept n w → MayDo n table w doing → (q : ℕ) (vote : Vote) → GivesWay w.cast (promised_in (w.replicas q).kept) q vote → GivesWay (after_doing doing.by doing.act w).cast (promised_in ((after_doing doing.by doing.act w).replicas q).kept) q vote
unfolding after_doing
gives_way_on n table w doing kept may q vote =
    let go = goes_on (setting_of n table w doing.by doing.event) (w.replicas doing.by) doing.act (kept.sound doing.by may.member) may.may in
    each_replica (λ q s. GivesWay w.cast (promised_in (w.replicas q).kept) q vote → GivesWay (cast_after doing.by doing.act w.cast) (promised_in s.kept) q vote)
    doing.by (after_act doing.act (w.replicas doing.by)) w.replicas q
    (λ gives. record {
      promised_it = omega (arith, gives.promised_it, go.promised);
      older = λ u has slot low. elim (cast_cases doing.by doing.act w.cast doing.by u has) [
        | inl old ↦ between_on doing.by doing.act w.cast u vote (gives.older u old slot low)
        | inr now ↦ absurd (omega (arith, low, gives.promised_it, go.promised, (casts_stored (w.replicas doing.by) doing.act u now.1).1))
      ];
    })
    (λ other gives. record {
      promised_it = gives.promised_it;
      older = λ u has slot low. elim (cast_cases doing.by doing.act w.cast q u has) [
        | inl old ↦ between_on doing.by doing.act w.cast u vote (gives.older u old slot low)
        | inr now ↦ absurd (other now.0)
      ];
    })

safe_on : (n : ℕ) (table : Table) (w : World) (doing : Doing) → Kept n w → MayDo n table w doing → (vote : Vote) → IsSafe n w vote → IsSafe n (after_doing doing.by doing.act w) vote
safe_on n table w doing kept may vote safe = record {
  voters = safe.voters;
  below = safe.below;
  majority = safe.majority;
  each = λ q has. gives_way_on n table w doing kept may q vote (safe.each q has);
}

-- what a leader proposes is safe
proposal_is_safe : (n : ℕ) (w : World) (prefix : ℕ) (best : List Vote) (entry : Entry) (vote : Vote) → IsLed n w prefix vote.ballot best → vote.slot ≡ prefix → vote.entry ≡ bound_by (vote_at prefix best) entry → IsSafe n w vote
proposal_is_safe n w prefix best entry vote led at bound = record {
  voters = led.heard;
  below = led.rallied.below;
  majority = led.majority;
  each = λ q has. let heeds = led.rallied.each q has in record {
    promised_it = heeds.promised_it;
    older = λ u cast slot low.
        let later = heeds.tells u cast (omega (arith, led.rallied.up, at, slot)) low in
        let here : vote_at prefix best ≡ Some later.vote = subst (λ s. vote_at s best ≡ Some later.vote) (slot ∙ at) later.is in
        let there = found_vote (Contains best) prefix best later.vote (All-contains_itself best) here in
        let backed = led.rallied.backed later.vote there.1 in
        record {
          by = backed.0;
          vote = later.vote;
          has = backed.1;
          slot = there.0 ∙ sym at;
          entry = sym (bound ∙ ap (λ found. bound_by found entry) here);
          low = later.later;
          high = backed.2;
        };
  };
}

pub safe_after : (n : ℕ) (table : Table) (w : World) (doing : Doing) → Kept n w → Told n w → AreSafe n w → MayDo n table w doing → AreSafe n (after_doing doing.by doing.act w)
unfolding after_doing
safe_after n table w doing kept told safe may q vote has =
    elim (cast_cases doing.by doing.act w.cast q vote has) [
      | inl old ↦ safe_on n table w doing kept may vote (safe q vote old)
      | inr now ↦ elim (casts_origin (setting_of n table w doing.by doing.event) (w.replicas doing.by) doing.act vote now.1 may.may) [
        | asked_by from said ↦ safe_on n table w doing kept may vote (safe from vote (kept.accepts from vote said).0)
        | proposed_by me proposal ↦
            let led : IsLed n w (prefix_of (w.replicas doing.by)) vote.ballot proposal.best =
            subst (λ term. HasHeard n w (prefix_of (w.replicas doing.by)) term) proposal.leader (told.terms doing.by may.member) in
            safe_on n table w doing kept may vote
            (proposal_is_safe n w (prefix_of (w.replicas doing.by)) proposal.best proposal.entry vote led proposal.slot proposal.bound)
      ]
    ]

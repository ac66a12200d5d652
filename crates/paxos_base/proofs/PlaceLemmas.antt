-- The place of a slot in a list of votes.
use Rattle.std.proofs.Common.{◌≡◌, ◌≢◌, ℕ, suc, ◌+◌, ◌-◌, ◌<◌, ◌≤◌, Some, None, List, [], ◌∷◌, ◌++◌, Bool, true, false, eqb, ltb, leb, length, get_or, set, take, drop, refl, sym, ap, subst, ◌∙◌, inl, inr, arith}
use Rattle.std.specs.List.{All, filter, find, insert}
use Rattle.std.specs.List.Sorted.{IsNonDecreasingBy, IsPartitionPoint}
use Rattle.std.proofs.lemmas.Bool.{ltb-true, ltb-false, le-ltb, lt-leb, le-leb, lt-ltb, cases_lt, ne_eqb, eq-eqb}
use Rattle.std.proofs.lemmas.List.{append-nil, take-append-drop, drop_more, get_or_default, set_split, get_or-take, get_or-drop, length-take, length-drop}
use Rattle.std.proofs.lemmas.List.Elements.{All-head, All-tail, All-weaker, filter-append}
use Rattle.paxos_base.specs.declared.entry.Vote.{Vote}
use Rattle.paxos_base.specs.Vote.{SlotsRise, vote_at, votes_below, votes_from, put_vote}
use Rattle.paxos_base.proofs.PutLemmas.{all_below, all_from, at_from}

pub filter_all : {X : Type 0} (p : X → Bool) (xs : List X) → All (λ x. p x ≡ true) xs → filter p xs ≡ xs
filter_all p [] all = refl
filter_all p (x ∷ xs) all =
    let here : p x ≡ true = All-head (λ y. p y ≡ true) x xs all in
    rw here (ap (λ rest. x ∷ rest) (filter_all p xs (All-tail (λ y. p y ≡ true) x xs all)))

pub filter_none : {X : Type 0} (p : X → Bool) (xs : List X) → All (λ x. p x ≡ false) xs → filter p xs ≡ []
filter_none p [] all = refl
filter_none p (x ∷ xs) all =
    let here : p x ≡ false = All-head (λ y. p y ≡ false) x xs all in
    rw here (filter_none p xs (All-tail (λ y. p y ≡ false) x xs all))

pub find_none : {X : Type 0} (p : X → Bool) (xs : List X) → All (λ x. p x ≡ false) xs → find p xs ≡ None
find_none p [] all = refl
find_none p (x ∷ xs) all =
    let here : p x ≡ false = All-head (λ y. p y ≡ false) x xs all in
    rw here (find_none p xs (All-tail (λ y. p y ≡ false) x xs all))

-- where each vote is below a slot
pub below-votes_below : (slot : ℕ) (votes : List Vote) → All (λ vote. vote.slot < slot) votes → votes_below slot votes ≡ votes
unfolding votes_below
below-votes_below slot votes below = filter_all _ votes (All-weaker _ _ (λ (vote : Vote) h. lt-ltb vote.slot slot h) votes below)

pub below-votes_from : (slot : ℕ) (votes : List Vote) → All (λ vote. vote.slot < slot) votes → votes_from (slot + 1) votes ≡ []
unfolding votes_from
below-votes_from slot votes below =
    filter_none _ votes (All-weaker _ _ (λ (vote : Vote) (h : vote.slot < slot). lt-leb (slot + 1) vote.slot (omega (arith, h))) votes below)

-- the votes before a place are below a slot, and the others are not
pub record Parts (slot place : ℕ) (votes : List Vote) : Type 0 where
  pub within : place ≤ length votes
  pub low : (k : ℕ) (d : Vote) → k < place → (get_or votes k d).slot < slot
  pub high : (k : ℕ) (d : Vote) → place ≤ k → k < length votes → slot ≤ (get_or votes k d).slot

all_low : (slot place : ℕ) (votes : List Vote) → Parts slot place votes → All (λ vote. vote.slot < slot) (take place votes)
all_low slot place votes parts = λ k d within.
    let short : k < place = omega (arith, within, length-take place votes) in
    rw (get_or-take place votes k d short) (parts.low k d short)

all_high : (slot place : ℕ) (votes : List Vote) → Parts slot place votes → All (λ vote. slot ≤ vote.slot) (drop place votes)
all_high slot place votes parts = λ k d within.
    rw (get_or-drop place votes k d) (parts.high (place + k) d (omega arith) (omega (arith, within, length-drop place votes)))

pub parts-below : (slot place : ℕ) (votes : List Vote) → Parts slot place votes → take place votes ≡ votes_below slot votes
unfolding votes_below
parts-below slot place votes parts =
    let test : Vote → Bool = λ vote. ltb vote.slot slot in
    sym (
    ap (filter test) (sym (take-append-drop place votes))
    ∙ filter-append test (take place votes) (drop place votes)
    ∙ ap (λ kept. kept ++ filter test (drop place votes)) (filter_all test _ (All-weaker _ _ (λ vote h. lt-ltb vote.slot slot h) _ (all_low slot place votes parts)))
    ∙ ap (λ rest. take place votes ++ rest) (filter_none test _ (All-weaker _ _ (λ vote h. le-ltb vote.slot slot h) _ (all_high slot place votes parts)))
    ∙ append-nil (take place votes)
    )

pub parts-from : (slot place : ℕ) (votes : List Vote) → Parts slot place votes → drop place votes ≡ votes_from slot votes
unfolding votes_from
parts-from slot place votes parts =
    let test : Vote → Bool = λ vote. leb slot vote.slot in
    sym (
    ap (filter test) (sym (take-append-drop place votes))
    ∙ filter-append test (take place votes) (drop place votes)
    ∙ ap (λ kept. kept ++ filter test (drop place votes)) (filter_none test _ (All-weaker _ _ (λ vote h. lt-leb slot vote.slot h) _ (all_low slot place votes parts)))
    ∙ filter_all test _ (All-weaker _ _ (λ vote h. le-leb slot vote.slot h) _ (all_high slot place votes parts))
    )

-- the other way
pub parted : (slot place : ℕ) (votes : List Vote) → place ≤ length votes → take place votes ≡ votes_below slot votes → drop place votes ≡ votes_from slot votes → Parts slot place votes
parted slot place votes within below from =
    record {
      within = within;
      low = λ k d short.
          let there : k < length (take place votes) = omega (arith, short, within, length-take place votes) in
          let below_all : All (λ vote. vote.slot < slot) (take place votes) = rw below (all_below slot votes) in
          let found : (get_or (take place votes) k d).slot < slot = below_all k d there in
          rw (← get_or-take place votes k d short) found;
      high = λ k d past short.
          let offset : ℕ = k - place in
          let there : offset < length (drop place votes) = omega (arith, past, short, length-drop place votes) in
          let from_all : All (λ vote. slot ≤ vote.slot) (drop place votes) = rw from (all_from slot votes) in
          let found : slot ≤ (get_or (drop place votes) offset d).slot = from_all offset d there in
          let at : place + offset ≡ k = omega (arith, past) in
          rw (← at, ← get_or-drop place votes offset d) found;
    }

-- the last vote is at this slot
pub record EndsAt (votes : List Vote) (last : ℕ) : Type 0 where
  pub some : 0 < length votes
  pub last_is : (d : Vote) → (get_or votes (length votes - 1) d).slot ≡ last

up_to_last : (votes : List Vote) (last : ℕ) → SlotsRise votes → EndsAt votes last → (k : ℕ) (d : Vote) → k < length votes - 1 → (get_or votes k d).slot < last
up_to_last votes last rise ends k d short =
    let less : (get_or votes k d).slot < (get_or votes (length votes - 1) d).slot = rise k (length votes - 1) d short (omega (arith, ends.some)) in
    omega (arith, less, ends.last_is d)

pub empty_parts : (slot : ℕ) (votes : List Vote) → length votes ≤ 0 → Parts slot 0 votes
empty_parts slot votes none = record { within = omega arith; low = λ k d short. omega (arith, short); high = λ k d past short. omega (arith, none, short) }

pub parts_past : (slot last : ℕ) (votes : List Vote) → SlotsRise votes → EndsAt votes last → last < slot → Parts slot (length votes) votes
parts_past slot last votes rise ends past =
    record {
      within = omega arith;
      low = λ k d short. elim (cases_lt k (length votes - 1)) [
        | inl before ↦ let less : (get_or votes k d).slot < last = up_to_last votes last rise ends k d before in omega (arith, less, past)
        | inr from ↦
            let at : k ≡ length votes - 1 = omega (arith, short, from) in
            let is : (get_or votes k d).slot ≡ last = rw at (ends.last_is d) in
            omega (arith, is, past)
      ];
      high = λ k d over short. omega (arith, over, short);
    }

pub parts_last : (slot last : ℕ) (votes : List Vote) → SlotsRise votes → EndsAt votes last → last ≡ slot → Parts slot (length votes - 1) votes
parts_last slot last votes rise ends same =
    record {
      within = omega arith;
      low = λ k d short. let less : (get_or votes k d).slot < last = up_to_last votes last rise ends k d short in omega (arith, less, same);
      high = λ k d past short.
          let at : k ≡ length votes - 1 = omega (arith, short, past) in
          let is : (get_or votes k d).slot ≡ last = rw at (ends.last_is d) in
          omega (arith, is, same);
    }

pub SlotsRise-non_decreasing : (votes : List Vote) → SlotsRise votes → IsNonDecreasingBy (λ vote. vote.slot) votes
SlotsRise-non_decreasing votes rise = λ i j d before within.
    elim (cases_lt i j) [
      | inl less ↦ let lower : (get_or votes i d).slot < (get_or votes j d).slot = rise i j d less within in omega (arith, lower)
      | inr not_less ↦ let same : i ≡ j = omega (arith, before, not_less) in rw same (omega arith)
    ]

from_there : (slot place : ℕ) (votes : List Vote) → drop place votes ≡ votes_from slot votes → vote_at slot votes ≡ vote_at slot (drop place votes)
from_there slot place votes from = sym (ap (vote_at slot) from ∙ at_from slot slot votes ∙ rw (le-leb slot slot (omega arith)) refl)

-- the vote at the slot's place, where it is at the slot
pub at_place : (slot place : ℕ) (votes : List Vote) (vote : Vote) → drop place votes ≡ votes_from slot votes → place < length votes → vote ≡ get_or votes place vote → vote.slot ≡ slot → Some vote ≡ vote_at slot votes
unfolding vote_at
at_place slot place votes vote from within is same =
    let first : drop place votes ≡ vote ∷ drop (place + 1) votes = drop_more votes place vote within ∙ ap (λ head. head ∷ drop (place + 1) votes) (sym is) in
    sym (from_there slot place votes from ∙ ap (vote_at slot) first ∙ rw (eq-eqb vote.slot slot same) refl)

none_there : (slot place : ℕ) (votes : List Vote) → SlotsRise votes → Parts slot place votes → ((d : Vote) → place < length votes → (get_or votes place d).slot ≢ slot) → All (λ vote. eqb vote.slot slot ≡ false) (drop place votes)
none_there slot place votes rise parts other = λ k d within.
    let short : place + k < length votes = omega (arith, within, length-drop place votes) in
    let first : place < length votes = omega (arith, short) in
    let from : slot ≤ (get_or votes place d).slot = parts.high place d (omega arith) first in
    let apart : (get_or votes place d).slot ≢ slot = other d first in
    let above : slot < (get_or votes (place + k) d).slot = elim (cases_lt 0 k) [
      | inl later ↦ let less : (get_or votes place d).slot < (get_or votes (place + k) d).slot = rise place (place + k) d (omega (arith, later)) short in omega (arith, less, from)
      | inr here ↦ let at : place + k ≡ place = omega (arith, here) in rw at (omega (arith, apart, from))
    ] in
    rw (get_or-drop place votes k d) (ne_eqb _ _ (λ same. omega (arith, same, above)))

-- no vote is at the slot, where there is none at its place
pub none_at_place : (slot place : ℕ) (votes : List Vote) → SlotsRise votes → Parts slot place votes → ((d : Vote) → place < length votes → (get_or votes place d).slot ≢ slot) → None ≡ vote_at slot votes
unfolding vote_at
none_at_place slot place votes rise parts other =
    sym (from_there slot place votes (parts-from slot place votes parts) ∙ find_none (λ (vote : Vote). eqb vote.slot slot) (drop place votes) (none_there slot place votes rise parts other))

-- the place of the next slot: the one behind a vote at the slot, and else the same
pub parts_next : (slot place : ℕ) (votes : List Vote) (vote : Vote) → SlotsRise votes → Parts slot place votes → place < length votes → (get_or votes place vote).slot ≡ slot → Parts (slot + 1) (suc place) votes
parts_next slot place votes vote rise parts short same =
    record {
      within = omega (arith, short);
      low = λ k d before. elim (cases_lt k place) [
        | inl less ↦ let lower : (get_or votes k d).slot < slot = parts.low k d less in omega (arith, lower)
        | inr from ↦ let at : k ≡ place = omega (arith, before, from) in rw (at, get_or_default votes place d vote short) (omega (arith, same))
      ];
      high = λ k d past within.
          let less : (get_or votes place vote).slot < (get_or votes k vote).slot = rise place k vote (omega (arith, past)) within in
          rw (get_or_default votes k d vote within) (omega (arith, less, same));
    }

pub parts_same : (slot place : ℕ) (votes : List Vote) → SlotsRise votes → Parts slot place votes → ((d : Vote) → place < length votes → (get_or votes place d).slot ≢ slot) → Parts (slot + 1) place votes
parts_same slot place votes rise parts other =
    record {
      within = parts.within;
      low = λ k d before. let lower : (get_or votes k d).slot < slot = parts.low k d before in omega (arith, lower);
      high = λ k d past within.
          let first : place < length votes = omega (arith, past, within) in
          let from : slot ≤ (get_or votes place d).slot = parts.high place d (omega arith) first in
          let apart : (get_or votes place d).slot ≢ slot = other d first in
          let above : slot < (get_or votes place d).slot = omega (arith, from, apart) in
          elim (cases_lt place k) [
            | inl later ↦ let less : (get_or votes place d).slot < (get_or votes k d).slot = rise place k d later within in omega (arith, less, above)
            | inr here ↦ let at : k ≡ place = omega (arith, past, here) in rw at (omega (arith, above))
          ];
    }

-- a vote put in place of the one at its slot
pub put_in_place : (place : ℕ) (votes : List Vote) (vote there : Vote) → SlotsRise votes → Parts vote.slot place votes → place < length votes → (get_or votes place there).slot ≡ vote.slot → set votes place vote ≡ put_vote vote votes
unfolding put_vote
put_in_place place votes vote there rise parts short same =
    set_split votes place vote short
    ∙ ap (λ below. below ++ vote ∷ drop (suc place) votes) (parts-below vote.slot place votes parts)
    ∙ ap (λ above. votes_below vote.slot votes ++ vote ∷ above) (parts-from (vote.slot + 1) (suc place) votes (parts_next vote.slot place votes there rise parts short same))

-- a vote put where none is at its slot
pub put_between : (place : ℕ) (votes : List Vote) (vote : Vote) → SlotsRise votes → Parts vote.slot place votes → ((d : Vote) → place < length votes → (get_or votes place d).slot ≢ vote.slot) → insert votes place vote ≡ put_vote vote votes
unfolding put_vote
put_between place votes vote rise parts other =
    ap (λ below. below ++ vote ∷ drop place votes) (parts-below vote.slot place votes parts)
    ∙ ap (λ above. votes_below vote.slot votes ++ vote ∷ above) (parts-from (vote.slot + 1) place votes (parts_same vote.slot place votes rise parts other))

-- what `partition_point` gives at the test of whether a vote is below the slot
pub parts_point : (slot place : ℕ) (votes : List Vote) → place ≤ length votes → IsPartitionPoint (λ vote. ltb vote.slot slot ≡ true) (λ vote. ltb vote.slot slot ≡ false) votes place → Parts slot place votes
parts_point slot place votes within point =
    record {
      within = within;
      low = λ k d short. ltb-true _ slot (point.0 k d (omega arith) short);
      high = λ k d past short. ltb-false _ slot (point.1 k d past short);
    }

-- the same of a list that was lent as a slice
pub parted_in : (slot place : ℕ) (slice votes : List Vote) → slice ≡ votes → place ≤ length slice → take place slice ≡ votes_below slot slice → drop place slice ≡ votes_from slot slice → Parts slot place votes
parted_in slot place slice votes same within below from = subst (Parts slot place) same (parted slot place slice within below from)

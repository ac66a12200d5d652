-- Votes looked up and put in by slot.
use Rattle.std.proofs.Common.{◌≡◌, ℕ, ◌+◌, ◌<◌, ◌≤◌, Option, Some, None, List, [], ◌∷◌, ◌++◌, Bool, true, false, cond, eqb, ltb, leb, refl, ap, ◌∙◌, inl, inr, arith, suc, if◌then◌else◌}
use Rattle.std.specs.Option.{option_or}
use Rattle.std.specs.List.{All, AllPairs, filter, find}
use Rattle.std.proofs.lemmas.Bool.{cases_Bool, both_ways, false_from_ne_true, eqb-true, ltb-true, leb-true, le-ltb, lt-leb, le-leb, lt-ltb, cases_order, cases_lt, ne_eqb, eq-eqb}
use Rattle.std.proofs.lemmas.List.Elements.{All-cons, All-head, All-tail, All-append, All-from_get_or, All-weaker, filter_passes}
use Rattle.std.proofs.lemmas.List.Kept.{AllPairs-cons, AllPairs-filter}
use Rattle.std.proofs.lemmas.List.Folds.{find-append}
use Rattle.paxos_base.specs.declared.entry.Vote.{Vote}
use Rattle.paxos_base.specs.Vote.{SlotsRise, vote_at, votes_below, votes_from, put_vote}

-- a filter that keeps all that is sought finds the same
find-filter_kept : {X : Type 0} (p q : X → Bool) → ((x : X) → p x ≡ true → q x ≡ true) → (xs : List X) → find p (filter q xs) ≡ find p xs
find-filter_kept p q keeps [] = refl
find-filter_kept p q keeps (x ∷ xs) =
    elim (cases_Bool (q x)) [
      | inl kept ↦ rw kept (ap (cond (p x) (Some x)) (find-filter_kept p q keeps xs))
      | inr gone ↦
          let other : p x ≡ false = false_from_ne_true (p x) (λ it. both_ways (q x) gone (keeps x it)) in
          rw (gone, other) (find-filter_kept p q keeps xs)
    ]

-- a filter that keeps nothing that is sought finds nothing
find-filter_gone : {X : Type 0} (p q : X → Bool) → ((x : X) → p x ≡ true → q x ≡ false) → (xs : List X) → find p (filter q xs) ≡ None
find-filter_gone p q drops [] = refl
find-filter_gone p q drops (x ∷ xs) =
    elim (cases_Bool (q x)) [
      | inl kept ↦
          let other : p x ≡ false = false_from_ne_true (p x) (λ it. both_ways (q x) (drops x it) kept) in
          rw (kept, other) (find-filter_gone p q drops xs)
      | inr gone ↦ rw gone (find-filter_gone p q drops xs)
    ]

at_from_within : (first slot : ℕ) (votes : List Vote) → first ≤ slot → vote_at slot (votes_from first votes) ≡ vote_at slot votes
unfolding vote_at votes_from
at_from_within first slot votes within =
    find-filter_kept _ _ (λ (vote : Vote) here. let same : vote.slot ≡ slot = eqb-true _ _ here in le-leb first vote.slot (omega (arith, same, within))) votes

at_from_outside : (first slot : ℕ) (votes : List Vote) → slot < first → vote_at slot (votes_from first votes) ≡ None
unfolding vote_at votes_from
at_from_outside first slot votes outside =
    find-filter_gone _ _ (λ (vote : Vote) here. let same : vote.slot ≡ slot = eqb-true _ _ here in lt-leb first vote.slot (omega (arith, same, outside))) votes

at_below_within : (limit slot : ℕ) (votes : List Vote) → slot < limit → vote_at slot (votes_below limit votes) ≡ vote_at slot votes
unfolding vote_at votes_below
at_below_within limit slot votes within =
    find-filter_kept _ _ (λ (vote : Vote) here. let same : vote.slot ≡ slot = eqb-true _ _ here in lt-ltb vote.slot limit (omega (arith, same, within))) votes

at_below_outside : (limit slot : ℕ) (votes : List Vote) → limit ≤ slot → vote_at slot (votes_below limit votes) ≡ None
unfolding vote_at votes_below
at_below_outside limit slot votes outside =
    find-filter_gone _ _ (λ (vote : Vote) here. let same : vote.slot ≡ slot = eqb-true _ _ here in le-ltb vote.slot limit (omega (arith, same, outside))) votes

-- the vote at a slot among those from another one on
pub at_from : (first slot : ℕ) (votes : List Vote) → vote_at slot (votes_from first votes) ≡ (if leb first slot then vote_at slot votes else None)
at_from first slot votes =
    elim (cases_lt slot first) [
      | inl outside ↦ rw (lt-leb first slot outside) (at_from_outside first slot votes outside)
      | inr within ↦ rw (le-leb first slot within) (at_from_within first slot votes within)
    ]

at_middle : (slot : ℕ) (below above : List Vote) (vote : Vote) → vote_at slot (below ++ vote ∷ above) ≡ option_or (vote_at slot below) (if eqb vote.slot slot then Some vote else vote_at slot above)
unfolding vote_at
at_middle slot below above vote = find-append (λ (other : Vote). eqb other.slot slot) below (vote ∷ above)

option_or-None : {X : Type 0} (o : Option X) → option_or o None ≡ o
option_or-None None = refl
option_or-None (Some x) = refl

-- The vote that was put in is at its slot, and the other slots are as they were.
pub at_put : (slot : ℕ) (vote : Vote) (votes : List Vote) → vote_at slot (put_vote vote votes) ≡ (if eqb vote.slot slot then Some vote else vote_at slot votes)
unfolding put_vote
at_put slot vote votes =
    at_middle slot _ _ vote
    ∙ elim (cases_order vote.slot slot) [
      | inl same ↦ rw (eq-eqb _ _ same, at_below_outside vote.slot slot votes (omega (arith, same))) refl
      | inr apart ↦ elim apart [
        | inl after ↦
            rw (ne_eqb vote.slot slot (λ same. omega (arith, same, after)), at_below_outside vote.slot slot votes (omega (arith, after)))
            (at_from_within (vote.slot + 1) slot votes (omega (arith, after)))
        | inr before ↦
            rw (ne_eqb vote.slot slot (λ same. omega (arith, same, before)), at_below_within vote.slot slot votes before, at_from_outside (vote.slot + 1) slot votes (omega (arith, before)))
            (option_or-None _)
      ]
    ]

AllPairs-head : {X : Type 0} (R : X → X → Type 0) (x : X) (xs : List X) → AllPairs R (x ∷ xs) → All (R x) xs
AllPairs-head R x xs pairs = All-from_get_or (R x) xs x (λ i within. pairs 0 (suc i) x (omega arith) (omega (arith, within)))

AllPairs-tail : {X : Type 0} (R : X → X → Type 0) (x : X) (xs : List X) → AllPairs R (x ∷ xs) → AllPairs R xs
AllPairs-tail R x xs pairs = λ i j d before within. pairs (suc i) (suc j) d (omega (arith, before)) (omega (arith, within))

AllPairs-append : {X : Type 0} (R : X → X → Type 0) (xs ys : List X) → AllPairs R xs → AllPairs R ys → All (λ x. All (R x) ys) xs → AllPairs R (xs ++ ys)
AllPairs-append R [] ys one other across = other
AllPairs-append R (x ∷ xs) ys one other across =
    AllPairs-cons R x (xs ++ ys) (All-append (R x) xs ys (AllPairs-head R x xs one) (All-head (λ y. All (R y) ys) x xs across))
    (AllPairs-append R xs ys (AllPairs-tail R x xs one) other (All-tail (λ y. All (R y) ys) x xs across))

abbrev Rises : Vote → Vote → Type 0
Rises earlier later = earlier.slot < later.slot

pub all_below : (limit : ℕ) (votes : List Vote) → All (λ vote. vote.slot < limit) (votes_below limit votes)
unfolding votes_below
all_below limit votes = All-weaker _ _ (λ (vote : Vote) h. ltb-true vote.slot limit h) _ (filter_passes (λ (vote : Vote). ltb vote.slot limit) votes)

pub all_from : (first : ℕ) (votes : List Vote) → All (λ vote. first ≤ vote.slot) (votes_from first votes)
unfolding votes_from
all_from first votes = All-weaker _ _ (λ (vote : Vote) h. leb-true first vote.slot h) _ (filter_passes (λ (vote : Vote). leb first vote.slot) votes)

pub SlotsRise-votes_from : (first : ℕ) (votes : List Vote) → SlotsRise votes → SlotsRise (votes_from first votes)
unfolding votes_from
SlotsRise-votes_from first votes rise = AllPairs-filter Rises _ votes rise

pub SlotsRise-votes_below : (limit : ℕ) (votes : List Vote) → SlotsRise votes → SlotsRise (votes_below limit votes)
unfolding votes_below
SlotsRise-votes_below limit votes rise = AllPairs-filter Rises _ votes rise

rises_on : (one other third : Vote) → Rises one other → Rises other third → Rises one third
rises_on one other third first second = omega (arith, first, second)

follows : (vote other : Vote) → vote.slot + 1 ≤ other.slot → Rises vote other
follows vote other above = omega (arith, above)

pub SlotsRise-put_vote : (vote : Vote) (votes : List Vote) → SlotsRise votes → SlotsRise (put_vote vote votes)
unfolding put_vote
SlotsRise-put_vote vote votes rise =
    let above : All (Rises vote) (votes_from (vote.slot + 1) votes) = All-weaker (λ other. vote.slot + 1 ≤ other.slot) (Rises vote) (follows vote) _ (all_from (vote.slot + 1) votes) in
    AllPairs-append Rises _ _ (SlotsRise-votes_below vote.slot votes rise)
    (AllPairs-cons Rises vote _ above (SlotsRise-votes_from (vote.slot + 1) votes rise))
    (All-weaker (λ other. other.slot < vote.slot) (λ other. All (Rises other) (vote ∷ votes_from (vote.slot + 1) votes))
    (λ other below. All-cons (Rises other) vote _ below (All-weaker (Rises vote) (Rises other) (λ third over. rises_on other vote third below over) _ above)) _
    (all_below vote.slot votes))

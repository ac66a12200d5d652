-- Votes merged by slot: what one more vote makes of the best ones.
use Rattle.std.proofs.Common.{◌≡◌, ◌≢◌, ℕ, suc, ◌+◌, ◌-◌, ◌<◌, ◌≤◌, Some, None, List, [], ◌∷◌, ◌++◌, Bool, true, false, eqb, ltb, leb, length, get_or, take, drop, refl, sym, ap, ◌∙◌, append_assoc, inl, inr, arith, length-append, if◌then◌else◌}
use Rattle.std.specs.Option.{option_or}
use Rattle.std.specs.List.{All, prefix_len, take_while}
use Rattle.std.proofs.lemmas.Bool.{cases_Bool, ltb-true, ltb-false, le-ltb, lt-leb, le-leb, ne_eqb, eq-eqb, cases_lt}
use Rattle.std.proofs.lemmas.List.{get_or_append_left, get_or-take, get_or-drop, length-take, length-drop}
use Rattle.std.proofs.lemmas.List.Elements.{All-nil, All-cons, All-append, All-from_get_or, All-weaker, filter-append}
use Rattle.std.proofs.lemmas.List.Folds.{find-append, length-prefix_len}
use Rattle.std.proofs.lemmas.List.Sums.{prefix_len_passes, prefix_len_stops}
use Rattle.paxos_base.specs.declared.entry.Vote.{Vote}
use Rattle.paxos_base.specs.Vote.{SlotsRise, vote_at, votes_below, votes_from, put_vote}
use Rattle.paxos_base.proofs.PutLemmas.{SlotsRise-put_vote}
use Rattle.term_core.specs.Best.{best_of, is_higher, with_vote}
use Rattle.paxos_base.proofs.PlaceLemmas.{filter_all, filter_none, find_none, below-votes_below, below-votes_from}

-- each vote is at a slot before this one
abbrev pub AllBelow : ℕ → List Vote → Type 0
AllBelow slot votes = All (λ vote. vote.slot < slot) votes

-- each vote is at a later slot
abbrev pub AllAbove : ℕ → List Vote → Type 0
AllAbove slot votes = All (λ vote. slot < vote.slot) votes

below-vote_at : (slot : ℕ) (votes : List Vote) → AllBelow slot votes → vote_at slot votes ≡ None
unfolding vote_at
below-vote_at slot votes below =
    find_none _ votes (All-weaker _ _ (λ (vote : Vote) (h : vote.slot < slot). ne_eqb vote.slot slot (λ same. omega (arith, same, h))) votes below)

above-votes_below : (slot : ℕ) (votes : List Vote) → AllAbove slot votes → votes_below slot votes ≡ []
unfolding votes_below
above-votes_below slot votes above =
    filter_none _ votes (All-weaker _ _ (λ (vote : Vote) (h : slot < vote.slot). le-ltb vote.slot slot (omega (arith, h))) votes above)

above-votes_from : (slot : ℕ) (votes : List Vote) → AllAbove slot votes → votes_from (slot + 1) votes ≡ votes
unfolding votes_from
above-votes_from slot votes above =
    filter_all _ votes (All-weaker _ _ (λ (vote : Vote) (h : slot < vote.slot). le-leb (slot + 1) vote.slot (omega (arith, h))) votes above)

above-vote_at : (slot : ℕ) (votes : List Vote) → AllAbove slot votes → vote_at slot votes ≡ None
unfolding vote_at
above-vote_at slot votes above =
    find_none _ votes (All-weaker _ _ (λ (vote : Vote) (h : slot < vote.slot). ne_eqb vote.slot slot (λ same. omega (arith, same, h))) votes above)

vote_at-both : (slot : ℕ) (done rest : List Vote) → vote_at slot (done ++ rest) ≡ option_or (vote_at slot done) (vote_at slot rest)
unfolding vote_at
vote_at-both slot done rest = find-append (λ (vote : Vote). eqb vote.slot slot) done rest

vote_at-append : (slot : ℕ) (done rest : List Vote) → AllBelow slot done → vote_at slot (done ++ rest) ≡ vote_at slot rest
vote_at-append slot done rest below = vote_at-both slot done rest ∙ rw (below-vote_at slot done below) refl

votes_below-append : (slot : ℕ) (done rest : List Vote) → AllBelow slot done → votes_below slot (done ++ rest) ≡ done ++ votes_below slot rest
votes_below-append slot done rest below = both ∙ ap (λ (front : List Vote). front ++ votes_below slot rest) (below-votes_below slot done below)
  where
    both : votes_below slot (done ++ rest) ≡ votes_below slot done ++ votes_below slot rest
    both = unfold votes_below in filter-append (λ (other : Vote). ltb other.slot slot) done rest

votes_from-append : (slot : ℕ) (done rest : List Vote) → AllBelow slot done → votes_from (slot + 1) (done ++ rest) ≡ votes_from (slot + 1) rest
votes_from-append slot done rest below = both ∙ ap (λ (front : List Vote). front ++ votes_from (slot + 1) rest) (below-votes_from slot done below)
  where
    both : votes_from (slot + 1) (done ++ rest) ≡ votes_from (slot + 1) done ++ votes_from (slot + 1) rest
    both = unfold votes_from in filter-append (λ (other : Vote). leb (slot + 1) other.slot) done rest

put_vote-append : (vote : Vote) (done rest : List Vote) → AllBelow vote.slot done → put_vote vote (done ++ rest) ≡ done ++ put_vote vote rest
unfolding put_vote
put_vote-append vote done rest below =
    rw (votes_below-append vote.slot done rest below, votes_from-append vote.slot done rest below)
    (append_assoc done (votes_below vote.slot rest) (vote ∷ votes_from (vote.slot + 1) rest))

choose_append : {X : Type 0} (b : Bool) (done xs ys : List X) → (if b then done ++ xs else done ++ ys) ≡ done ++ (if b then xs else ys)
choose_append true done xs ys = refl
choose_append false done xs ys = refl

-- votes at slots before the vote's stay as they are
pub with_vote-append : (vote : Vote) (done rest : List Vote) → AllBelow vote.slot done → with_vote (done ++ rest) vote ≡ done ++ with_vote rest vote
unfolding with_vote
with_vote-append vote done rest below =
    rw (vote_at-append vote.slot done rest below, put_vote-append vote done rest below)
    (choose_append (is_higher vote (vote_at vote.slot rest)) done (put_vote vote rest) rest)

put_vote-first : (vote : Vote) (votes : List Vote) → AllAbove vote.slot votes → put_vote vote votes ≡ vote ∷ votes
unfolding put_vote
put_vote-first vote votes above = rw (above-votes_below vote.slot votes above, above-votes_from vote.slot votes above) refl

-- a vote at a slot before all the others is the first
pub with_vote-first : (vote : Vote) (votes : List Vote) → AllAbove vote.slot votes → with_vote votes vote ≡ vote ∷ votes
unfolding with_vote
with_vote-first vote votes above = rw (above-vote_at vote.slot votes above) (put_vote-first vote votes above)

vote_at-same : (slot : ℕ) (held : Vote) (votes : List Vote) → held.slot ≡ slot → vote_at slot (held ∷ votes) ≡ Some held
unfolding vote_at
vote_at-same slot held votes same = rw (eq-eqb held.slot slot same) refl

votes_below-same : (slot : ℕ) (held : Vote) (votes : List Vote) → held.slot ≡ slot → votes_below slot (held ∷ votes) ≡ votes_below slot votes
unfolding votes_below
votes_below-same slot held votes same = rw (le-ltb held.slot slot (omega (arith, same))) refl

votes_from-same : (slot : ℕ) (held : Vote) (votes : List Vote) → held.slot ≡ slot → votes_from (slot + 1) (held ∷ votes) ≡ votes_from (slot + 1) votes
unfolding votes_from
votes_from-same slot held votes same = rw (lt-leb (slot + 1) held.slot (omega (arith, same))) refl

put_vote-same : (vote held : Vote) (votes : List Vote) → held.slot ≡ vote.slot → AllAbove vote.slot votes → put_vote vote (held ∷ votes) ≡ vote ∷ votes
unfolding put_vote
put_vote-same vote held votes same above =
    rw (votes_below-same vote.slot held votes same, above-votes_below vote.slot votes above, votes_from-same vote.slot held votes same, above-votes_from vote.slot votes above)
    refl

choose_first : {X : Type 0} (b : Bool) (x y : X) (xs : List X) → (if b then x ∷ xs else y ∷ xs) ≡ (if b then x else y) ∷ xs
choose_first true x y xs = refl
choose_first false x y xs = refl

-- a vote at the first one's slot takes its place where it is higher
pub with_vote-same : (vote held : Vote) (votes : List Vote) → held.slot ≡ vote.slot → AllAbove vote.slot votes → with_vote (held ∷ votes) vote ≡ (if ltb held.ballot vote.ballot then vote else held) ∷ votes
unfolding with_vote
with_vote-same vote held votes same above =
    rw (vote_at-same vote.slot held votes same, put_vote-same vote held votes same above) (choose_first (ltb held.ballot vote.ballot) vote held votes)

pub rise_tail : (vote : Vote) (votes : List Vote) → SlotsRise (vote ∷ votes) → SlotsRise votes
rise_tail vote votes rise = λ i j d before within. rise (suc i) (suc j) d (omega (arith, before)) (omega (arith, within))

rise_above : (vote : Vote) (votes : List Vote) → SlotsRise (vote ∷ votes) → AllAbove vote.slot votes
rise_above vote votes rise = All-from_get_or (λ other. vote.slot < other.slot) votes vote (λ i within. rise 0 (suc i) vote (omega arith) (omega (arith, within)))

-- what stands behind votes whose slots rise has rising slots too
pub rise_behind : (front back : List Vote) → SlotsRise (front ++ back) → SlotsRise back
rise_behind [] back rise = rise
rise_behind (vote ∷ front) back rise = rise_behind front back (rise_tail vote (front ++ back) rise)

pub rise_before : (front back : List Vote) → SlotsRise (front ++ back) → SlotsRise front
rise_before front back rise = λ i j d before within.
    let first : i < length front = omega (arith, before, within) in
    rw (← get_or_append_left front back d i first, ← get_or_append_left front back d j within)
    (rise i j d before (omega (arith, within, length-append front back)))

-- all slots are before one that the last is before
pub below_last : (slot : ℕ) (votes : List Vote) → SlotsRise votes → ((d : Vote) → (get_or votes (length votes - 1) d).slot < slot) → AllBelow slot votes
below_last slot votes rise last = λ k d within.
    elim (cases_lt k (length votes - 1)) [
      | inl before ↦
          let less : (get_or votes k d).slot < (get_or votes (length votes - 1) d).slot = rise k (length votes - 1) d before (omega (arith, within)) in
          omega (arith, less, last d)
      | inr from ↦ let at : k ≡ length votes - 1 = omega (arith, within, from) in rw at (last d)
    ]

-- the first slot of all is another one
abbrev pub BeginsElsewhere : ℕ → List Vote → Type 0
BeginsElsewhere slot votes = (d : Vote) → 0 < length votes → (get_or votes 0 d).slot ≢ slot

above_first : (slot : ℕ) (votes : List Vote) → SlotsRise votes → All (λ vote. slot ≤ vote.slot) votes → BeginsElsewhere slot votes → AllAbove slot votes
above_first slot [] rise from other = All-nil (λ (vote : Vote). slot < vote.slot)
above_first slot (vote ∷ votes) rise from other =
    let here : slot < vote.slot = omega (arith, from 0 vote (omega arith), other vote (omega arith)) in
    All-cons (λ (later : Vote). slot < later.slot) vote votes here
    (All-weaker (λ (later : Vote). vote.slot < later.slot) (λ (later : Vote). slot < later.slot) (λ later h. omega (arith, here, h)) votes (rise_above vote votes rise))

-- the votes before the slot are taken over, and then the vote itself
pub took_new : (done left before from : List Vote) (vote : Vote) → SlotsRise (done ++ left) → AllBelow vote.slot done → left ≡ before ++ from → AllBelow vote.slot before
    → All (λ other. vote.slot ≤ other.slot) from → BeginsElsewhere vote.slot from → ((done ++ before) ++ vote ∷ []) ++ from ≡ with_vote (done ++ left) vote
took_new done left before from vote rise beyond parts below at_least other =
    let behind : SlotsRise from = rise_behind before from (rise_behind done (before ++ from) (rw (← parts) rise)) in
    append_assoc (done ++ before) (vote ∷ []) from
    ∙ ap (λ (rest : List Vote). (done ++ before) ++ rest) (sym (with_vote-first vote from (above_first vote.slot from behind at_least other)))
    ∙ sym (with_vote-append vote (done ++ before) from (All-append (λ (other : Vote). other.slot < vote.slot) done before beyond below))
    ∙ ap (λ (all : List Vote). with_vote all vote) (append_assoc done before from ∙ ap (λ (rest : List Vote). done ++ rest) (sym parts))

-- the votes before the slot are taken over, and then the higher of the two at the slot
pub took_same : (done left before after : List Vote) (vote held : Vote) → SlotsRise (done ++ left) → AllBelow vote.slot done → left ≡ before ++ held ∷ after → AllBelow vote.slot before
    → held.slot ≡ vote.slot → ((done ++ before) ++ (if ltb held.ballot vote.ballot then vote else held) ∷ []) ++ after ≡ with_vote (done ++ left) vote
took_same done left before after vote held rise beyond parts below same =
    let behind : SlotsRise (held ∷ after) = rise_behind before (held ∷ after) (rise_behind done (before ++ held ∷ after) (rw (← parts) rise)) in
    let above : AllAbove vote.slot after = rw (← same) (rise_above held after behind) in
    append_assoc (done ++ before) ((if ltb held.ballot vote.ballot then vote else held) ∷ []) after
    ∙ ap (λ (rest : List Vote). (done ++ before) ++ rest) (sym (with_vote-same vote held after same above))
    ∙ sym (with_vote-append vote (done ++ before) (held ∷ after) (All-append (λ (other : Vote). other.slot < vote.slot) done before beyond below))
    ∙ ap (λ (all : List Vote). with_vote all vote) (append_assoc done before (held ∷ after) ∙ ap (λ (rest : List Vote). done ++ rest) (sym parts))

-- the first votes that are before a slot
pub before_slot : (slot : ℕ) (votes : List Vote) (n : ℕ) → n ≡ length (take_while (λ vote. ltb vote.slot slot) votes) → AllBelow slot (take n votes)
before_slot slot votes n counted = λ k d within.
    let is : n ≡ prefix_len (λ (vote : Vote). ltb vote.slot slot) votes = counted ∙ length-prefix_len (λ (vote : Vote). ltb vote.slot slot) votes in
    let short : k < n = omega (arith, within, length-take n votes) in
    rw (get_or-take n votes k d short) (ltb-true _ slot (prefix_len_passes (λ (vote : Vote). ltb vote.slot slot) votes k d (omega (arith, is, short))))

-- the votes behind those are at it or beyond it
pub from_slot : (slot : ℕ) (votes : List Vote) (n : ℕ) → SlotsRise votes → n ≡ length (take_while (λ vote. ltb vote.slot slot) votes) → All (λ vote. slot ≤ vote.slot) (drop n votes)
from_slot slot votes n rise counted = λ k d within.
    let is : n ≡ prefix_len (λ (vote : Vote). ltb vote.slot slot) votes = counted ∙ length-prefix_len (λ (vote : Vote). ltb vote.slot slot) votes in
    let short : n + k < length votes = omega (arith, within, length-drop n votes) in
    let stop : ltb (get_or votes n d).slot slot ≡ false = rw is (prefix_len_stops (λ (vote : Vote). ltb vote.slot slot) votes d (omega (arith, is, short))) in
    let first : slot ≤ (get_or votes n d).slot = ltb-false _ slot stop in
    rw (get_or-drop n votes k d) (
    elim (cases_lt 0 k) [
      | inl later ↦ let less : (get_or votes n d).slot < (get_or votes (n + k) d).slot = rise n (n + k) d (omega (arith, later)) short in omega (arith, less, first)
      | inr here ↦ let at : n + k ≡ n = omega (arith, here) in rw at first
    ]
    )

-- a vote that is not higher than the one at its slot changes nothing
pub not_higher : (best : List Vote) (vote : Vote) → is_higher vote (vote_at vote.slot best) ≡ false → best ≡ with_vote best vote
unfolding with_vote
not_higher best vote lower = sym (rw lower refl)

pub higher_put : (best : List Vote) (vote : Vote) → is_higher vote (vote_at vote.slot best) ≡ true → put_vote vote best ≡ with_vote best vote
unfolding with_vote
higher_put best vote higher = sym (rw higher refl)

pub SlotsRise-with_vote : (best : List Vote) (vote : Vote) → SlotsRise best → SlotsRise (with_vote best vote)
unfolding with_vote
SlotsRise-with_vote best vote rise =
    elim (cases_Bool (is_higher vote (vote_at vote.slot best))) [
      | inl higher ↦ rw higher (SlotsRise-put_vote vote best rise)
      | inr lower ↦ rw lower rise
    ]

pub SlotsRise-best_of : (best votes : List Vote) → SlotsRise best → SlotsRise (best_of best votes)
SlotsRise-best_of best [] rise = rise
SlotsRise-best_of best (vote ∷ votes) rise = SlotsRise-best_of (with_vote best vote) votes (SlotsRise-with_vote best vote rise)

-- A vote that stands at its slot changes nothing where it is put there once more.
use Rattle.std.proofs.Common.{◌≡◌, ℕ, suc, ◌+◌, ◌<◌, ◌≤◌, Some, None, List, [], ◌∷◌, ◌++◌, true, false, eqb, ltb, leb, refl, sym, ap, ◌∙◌, inl, inr, arith, if◌then◌else◌}
use Rattle.std.specs.List.{All}
use Rattle.std.proofs.lemmas.Bool.{le-ltb, lt-leb, le-leb, lt-ltb, cases_order, ne_eqb, eq-eqb}
use Rattle.std.proofs.lemmas.List.Elements.{All-weaker, All-from_get_or}
use Rattle.std.proofs.lemmas.Option.{none-some}
use Rattle.paxos_base.specs.declared.entry.Vote.{Vote}
use Rattle.paxos_base.specs.Vote.{SlotsRise, vote_at, votes_below, votes_from, put_vote}
use Rattle.paxos_base.proofs.PlaceLemmas.{filter_all, filter_none, find_none}
use Rattle.term_core.proofs.BestLemmas.{rise_tail as later_rise}

later_slots : (vote : Vote) (votes : List Vote) → SlotsRise (vote ∷ votes) → All (λ other. vote.slot < other.slot) votes
later_slots vote votes rise = All-from_get_or (λ (other : Vote). vote.slot < other.slot) votes vote (λ i within. rise 0 (suc i) vote (omega arith) (omega (arith, within)))

same_vote : (one other : Vote) → Some one ≡ Some other → one ≡ other
same_vote one other is = cc is

none_below : (slot : ℕ) (votes : List Vote) → All (λ other. slot ≤ other.slot) votes → votes_below slot votes ≡ []
unfolding votes_below
none_below slot votes later =
    filter_none (λ (other : Vote). ltb other.slot slot) votes (All-weaker (λ (other : Vote). slot ≤ other.slot) (λ (other : Vote). ltb other.slot slot ≡ false) (λ other above. le-ltb other.slot slot above) votes later)

all_from : (slot : ℕ) (votes : List Vote) → All (λ other. slot ≤ other.slot) votes → votes_from slot votes ≡ votes
unfolding votes_from
all_from slot votes later =
    filter_all (λ (other : Vote). leb slot other.slot) votes (All-weaker (λ (other : Vote). slot ≤ other.slot) (λ (other : Vote). leb slot other.slot ≡ true) (λ other above. le-leb slot other.slot above) votes later)

none_at : (slot : ℕ) (votes : List Vote) → All (λ other. slot < other.slot) votes → vote_at slot votes ≡ None
unfolding vote_at
none_at slot votes later =
    find_none (λ (other : Vote). eqb other.slot slot) votes (All-weaker (λ (other : Vote). slot < other.slot) (λ (other : Vote). eqb other.slot slot ≡ false) (λ other above. ne_eqb other.slot slot (λ e. omega (arith, e, above))) votes later)

slots_from : (least slot : ℕ) (votes : List Vote) → slot ≤ least + 1 → All (λ other. least < other.slot) votes → All (λ other. slot ≤ other.slot) votes
slots_from least slot votes near later = All-weaker (λ (other : Vote). least < other.slot) (λ (other : Vote). slot ≤ other.slot) (λ other above. omega (arith, above, near)) votes later

slots_past : (least slot : ℕ) (votes : List Vote) → slot ≤ least → All (λ other. least < other.slot) votes → All (λ other. slot < other.slot) votes
slots_past least slot votes near later = All-weaker (λ (other : Vote). least < other.slot) (λ (other : Vote). slot < other.slot) (λ other above. omega (arith, above, near)) votes later

-- the vote at a slot, by the first of some votes
at_first : (slot : ℕ) (first : Vote) (votes : List Vote) → vote_at slot (first ∷ votes) ≡ (if eqb first.slot slot then Some first else vote_at slot votes)
unfolding vote_at
at_first slot first votes = refl

below_first : (slot : ℕ) (first : Vote) (votes : List Vote) → votes_below slot (first ∷ votes) ≡ (if ltb first.slot slot then first ∷ votes_below slot votes else votes_below slot votes)
unfolding votes_below
below_first slot first votes = refl

from_first : (slot : ℕ) (first : Vote) (votes : List Vote) → votes_from slot (first ∷ votes) ≡ (if leb slot first.slot then first ∷ votes_from slot votes else votes_from slot votes)
unfolding votes_from
from_first slot first votes = refl

none_there : (slot : ℕ) → vote_at slot [] ≡ None
unfolding vote_at
none_there slot = refl

put_parts : (vote : Vote) (votes below above : List Vote) → votes_below vote.slot votes ≡ below → votes_from (vote.slot + 1) votes ≡ above → put_vote vote votes ≡ below ++ vote ∷ above
unfolding put_vote
put_parts vote votes below above low high = rw (low, high) refl

-- where it is the first of them
put_first : (vote first : Vote) (votes : List Vote) → SlotsRise (first ∷ votes) → first.slot ≡ vote.slot → first ≡ vote → put_vote vote (first ∷ votes) ≡ first ∷ votes
put_first vote first votes rise slot same =
    let later = later_slots first votes rise in
    let low : votes_below vote.slot (first ∷ votes) ≡ [] =
    below_first vote.slot first votes ∙ rw (le-ltb first.slot vote.slot (omega (arith, slot))) (none_below vote.slot votes (slots_from first.slot vote.slot votes (omega (arith, slot)) later)) in
    let high : votes_from (vote.slot + 1) (first ∷ votes) ≡ votes =
    from_first (vote.slot + 1) first votes ∙ rw (lt-leb (vote.slot + 1) first.slot (omega (arith, slot))) (all_from (vote.slot + 1) votes (slots_from first.slot (vote.slot + 1) votes (omega (arith, slot)) later)) in
    put_parts vote (first ∷ votes) [] votes low high ∙ ap (λ (v : Vote). v ∷ votes) (sym same)

-- where it is a later one
put_later : (vote first : Vote) (votes : List Vote) → first.slot < vote.slot → put_vote vote votes ≡ votes → put_vote vote (first ∷ votes) ≡ first ∷ votes
put_later vote first votes slot same =
    let low : votes_below vote.slot (first ∷ votes) ≡ first ∷ votes_below vote.slot votes = below_first vote.slot first votes ∙ rw (lt-ltb first.slot vote.slot slot) refl in
    let high : votes_from (vote.slot + 1) (first ∷ votes) ≡ votes_from (vote.slot + 1) votes = from_first (vote.slot + 1) first votes ∙ rw (lt-leb (vote.slot + 1) first.slot (omega (arith, slot))) refl in
    put_parts vote (first ∷ votes) (first ∷ votes_below vote.slot votes) (votes_from (vote.slot + 1) votes) low high
    ∙ ap (λ (v : List Vote). first ∷ v) (sym (put_parts vote votes (votes_below vote.slot votes) (votes_from (vote.slot + 1) votes) refl refl) ∙ same)

-- a vote that stands at its slot changes nothing where it is put in again
pub put_same : (vote : Vote) (votes : List Vote) → SlotsRise votes → vote_at vote.slot votes ≡ Some vote → put_vote vote votes ≡ votes
put_same vote [] rise is = absurd (none-some vote (sym (none_there vote.slot) ∙ is))
put_same vote (first ∷ votes) rise is =
    let at : (if eqb first.slot vote.slot then Some first else vote_at vote.slot votes) ≡ Some vote = sym (at_first vote.slot first votes) ∙ is in
    elim (cases_order first.slot vote.slot) [
      | inl same ↦ put_first vote first votes rise same (same_vote first vote (rw (eq-eqb first.slot vote.slot same) at at))
      | inr apart ↦ elim apart [
        | inl below ↦
            let rest : vote_at vote.slot votes ≡ Some vote = rw (ne_eqb first.slot vote.slot (λ e. omega (arith, e, below))) at at in
            put_later vote first votes below (put_same vote votes (later_rise first votes rise) rest)
        | inr above ↦
            let rest : vote_at vote.slot votes ≡ Some vote = rw (ne_eqb first.slot vote.slot (λ e. omega (arith, e, above))) at at in
            absurd (none-some vote (sym (none_at vote.slot votes (slots_past first.slot vote.slot votes (omega (arith, above)) (later_slots first votes rise))) ∙ rest))
      ]
    ]

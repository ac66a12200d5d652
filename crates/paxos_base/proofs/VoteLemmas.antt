-- Why a list of votes has at most one vote at a slot.
use Rattle.std.proofs.Common.{◌≡◌, ℕ, ◌<◌, Option, Some, List, get_or, sym, ap, ◌∙◌, inl, inr, arith}
use Rattle.std.specs.Prelude.{slice_get, unwrap_or}
use Rattle.std.proofs.lemmas.Option.{slice_get_within, unwrap_or-slice_get}
use Rattle.std.proofs.lemmas.Bool.{cases_lt}
use Rattle.paxos_base.specs.declared.entry.Vote.{Vote}
use Rattle.paxos_base.specs.Vote.{SlotsRise, HasOneVoteASlot}

found : (votes : List Vote) (k : ℕ) (vote default : Vote) → slice_get votes k ≡ Some vote → get_or votes k default ≡ vote
found votes k vote default at =
    sym (unwrap_or-slice_get votes k default) ∙ ap (λ (o : Option Vote). unwrap_or o default) at

-- an earlier place has a lower slot
rises : (votes : List Vote) → SlotsRise votes → (j k : ℕ) (one other : Vote) → slice_get votes j ≡ Some one → slice_get votes k ≡ Some other → j < k → one.slot < other.slot
rises votes rise j k one other at-j at-k before =
    let less : (get_or votes j one).slot < (get_or votes k one).slot = rise j k one before (slice_get_within votes k other at-k) in
    let a : (get_or votes j one).slot ≡ one.slot = ap (λ (v : Vote). v.slot) (found votes j one one at-j) in
    let b : (get_or votes k one).slot ≡ other.slot = ap (λ (v : Vote). v.slot) (found votes k other one at-k) in
    omega (arith, less, a, b)

pub SlotsRise-one_vote : (votes : List Vote) → SlotsRise votes → HasOneVoteASlot votes
SlotsRise-one_vote votes rise j k one other at-j at-k same =
    elim (cases_lt j k) [
      | inl before ↦ let lower : one.slot < other.slot = rises votes rise j k one other at-j at-k before in omega arith
      | inr from ↦ elim (cases_lt k j) [
        | inl after ↦ let lower : other.slot < one.slot = rises votes rise k j other one at-k at-j after in omega arith
        | inr to ↦ omega arith
      ]
    ]

-- What some acts leave of a replica: what it tells and asks changes nothing, and a base rises alone.
use Rattle.std.proofs.Common.{◌≡◌, ℕ, ◌-◌, ◌≤◌, Bool, true, false, List, [], ◌∷◌, length, drop, ltb, refl, inl, inr, arith}
use Rattle.std.proofs.lemmas.Bool.{cases_Bool}
use Rattle.std.proofs.lemmas.List.{length-drop}
use Rattle.paxos_base.specs.Durable.{after_delta}
use Rattle.paxos_base.specs.declared.rows.JobRow.{JobRow}
use Rattle.term_core.specs.Term.{after_advance, after_ballot}
use Rattle.term_core.specs.declared.term.Term.{Term}
use Rattle.term_core.specs.declared.term.Term.TheVariants.{Follower, Candidate, Leader}
use Rattle.step_spec.specs.Act.{Observe, after_act, after_rebase}
use Rattle.step_spec.specs.Folds.{after_acts}
use Rattle.step_spec.specs.Hear.{ask_below, known_from, send_all, snapshot}
use Rattle.step_spec.specs.May.{IsFollower}
use Rattle.step_spec.specs.Message.{Message}
use Rattle.step_spec.specs.State.{State, prefix_of}

-- ---- what is told

pub silent_ask : (from slot : ℕ) (state now : State) → after_acts (ask_below from slot state) now ≡ now
unfolding after_act
silent_ask from slot state now =
    elim (cases_Bool (ltb (prefix_of state) slot)) [ inl missing ↦ rw missing refl | inr all ↦ rw all refl ]

pub silent_sends : (from : ℕ) (messages : List Message) (now : State) → after_acts (send_all from messages) now ≡ now
unfolding after_act
silent_sends from [] now = refl
silent_sends from (message ∷ messages) now = silent_sends from messages now

pub silent_snapshot : (from : ℕ) (copied : Bool) (state now : State) → after_acts (snapshot from copied state) now ≡ now
unfolding after_act
silent_snapshot from true state now = refl
silent_snapshot from false state now = silent_sends from (known_from state.kept.base state.learned) now

-- the replica once a ballot was observed
abbrev pub observed : ℕ → State → State
observed ballot state = after_act (Observe ballot) state

-- ---- a base that rises to the prefix or above it

pub rebased_prefix : (slot : ℕ) (rows : List JobRow) (state : State) → prefix_of state ≤ slot → prefix_of (after_rebase slot rows state) ≡ slot
unfolding after_delta
rebased_prefix slot rows state up = let short = length-drop (slot - state.kept.base) state.learned in omega (arith, short, up)

pub rebased_learned : (slot : ℕ) (rows : List JobRow) (state : State) → prefix_of state ≤ slot → (after_rebase slot rows state).learned ≡ []
unfolding after_delta
rebased_learned slot rows state up =
    let short = length-drop (slot - state.kept.base) state.learned in
    none (drop (slot - state.kept.base) state.learned) (omega (arith, short, up))
  where
    none : {X : Type 0} (xs : List X) → length xs ≡ 0 → xs ≡ []
    none [] is = refl
    none (x ∷ xs) is = absurd (omega (arith, is))

-- ---- a follower follows on

pub follows_on : (ballot : ℕ) (term : Term) → IsFollower term → IsFollower (after_ballot ballot term)
follows_on ballot (Follower ended) follows = tt
follows_on ballot (Candidate own first heard best) follows = absurd follows
follows_on ballot (Leader own best flight) follows = absurd follows

pub follows_later : (prefix : ℕ) (term : Term) → IsFollower term → IsFollower (after_advance prefix term)
follows_later prefix (Follower ended) follows = tt
follows_later prefix (Candidate own first heard best) follows = absurd follows
follows_later prefix (Leader own best flight) follows = absurd follows

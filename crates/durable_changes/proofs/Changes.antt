-- The change of acts that may be done may follow what was kept before them.
use Rattle.std.proofs.Common.{◌≡◌, ℕ, ◌<◌, ◌≤◌, List, [], ◌∷◌, Option, None, Some, arith, refl, subst, sym}
use Rattle.paxos_base.specs.declared.rows.TableSize.{TableSize}
use Rattle.paxos_base.specs.Ballot.{IsAbove, IsAtLeast}
use Rattle.paxos_base.specs.declared.durable.Delta.{Delta}
use Rattle.paxos_base.specs.declared.durable.Delta.TheVariants as delta
use Rattle.paxos_base.specs.declared.durable.Durable.{Durable}
use Rattle.paxos_base.specs.declared.entry.Vote.{Vote}
use Rattle.store_format.specs.Order.{ChangeMayFollow}
use Rattle.step_spec.specs.Act.{Act, Observe, Stand, Gather, TakeLead, Pledge, Cast, Propose, Count, Wait, Learn, Rebase, Call, Send, Restart, after_act}
use Rattle.step_spec.specs.Coherent.{IsCoherent}
use Rattle.step_spec.specs.Folds.{deltas_by, deltas_of}
use Rattle.step_spec.specs.May.{AllMay, May, MayCast, MayPropose, MayStand, Setting}
use Rattle.step_spec.specs.State.{State, promised_in}
use Rattle.step_spec.proofs.SoundLemmas.{act_sound}
use Rattle.durable_changes.specs.Changes.{BaseMayFollow}

above_it : (ballot : ℕ) (promised : Option ℕ) (kept : Durable) → kept.promised ≡ promised → promised_in kept < ballot → IsAbove ballot promised
above_it ballot None kept is above = tt
above_it ballot (Some other) kept is above = rw is at above

at_least : (ballot : ℕ) (promised : Option ℕ) (kept : Durable) → kept.promised ≡ promised → promised_in kept ≤ ballot → IsAtLeast ballot promised
at_least ballot None kept is least = tt
at_least ballot (Some other) kept is least = rw is at least

is_first : (one other : Delta) (rest : List Delta) → one ∷ rest ≡ other ∷ [] → one ≡ other
is_first one other rest is = cc

follows_as : (size : TableSize) (kept : Durable) (one other : Delta) (rest : List Delta) → one ∷ rest ≡ other ∷ [] → ChangeMayFollow size kept one → ChangeMayFollow size kept other
follows_as size kept one other rest is follows = subst (ChangeMayFollow size kept) (is_first one other rest is) follows

-- each change that an act makes, of a coherent replica
stand_follows : (setting : Setting) (size : TableSize) (me ballot : ℕ) (state : State) → MayStand setting state me ballot → ChangeMayFollow size state.kept (delta.Tried ballot)
stand_follows setting size me ballot state may = (may.higher, above_it ballot state.kept.promised state.kept refl may.above)

cast_follows : (setting : Setting) (size : TableSize) (vote : Vote) (state : State) → MayCast setting.said state vote → ChangeMayFollow size state.kept (delta.Voted vote)
cast_follows setting size vote state may = (at_least vote.ballot state.kept.promised state.kept refl may.promised, may.from_base)

-- a leader has promised the ballot that it leads in, and no other since
propose_follows : (setting : Setting) (size : TableSize) (me : ℕ) (vote : Vote) (state : State) → IsCoherent setting.self state → MayPropose setting state me vote → ChangeMayFollow size state.kept (delta.Voted vote)
propose_follows setting size me vote state coherent may =
    let fits = rw may.leader at coherent.term in
    let promised : promised_in state.kept ≡ vote.ballot = fits.0.promised in
    let slot = may.slot in
    (at_least vote.ballot state.kept.promised state.kept refl (omega (arith, promised)), omega (arith, slot))

-- the change of some acts may follow what was kept before them
pub changes_follow : (setting : Setting) (size : TableSize) (acts : List Act) (state : State) (change : Delta) → IsCoherent setting.self state → AllMay setting state acts
    → deltas_of acts ≡ change ∷ [] → BaseMayFollow size state.kept change → ChangeMayFollow size state.kept change
unfolding deltas_by May after_act
changes_follow setting size [] state change coherent may is base = absurd cc
changes_follow setting size (Observe ballot ∷ acts) state change coherent may is base =
    changes_follow setting size acts (after_act (Observe ballot) state) change (act_sound setting state (Observe ballot) coherent may.0) may.1 is base
changes_follow setting size (Stand me ballot ∷ acts) state change coherent may is base =
    follows_as size state.kept (delta.Tried ballot) change (deltas_of acts) is (stand_follows setting size me ballot state may.0)
changes_follow setting size (Gather from votes ∷ acts) state change coherent may is base =
    changes_follow setting size acts (after_act (Gather from votes) state) change (act_sound setting state (Gather from votes) coherent may.0) may.1 is base
changes_follow setting size (TakeLead ∷ acts) state change coherent may is base =
    changes_follow setting size acts (after_act TakeLead state) change (act_sound setting state TakeLead coherent may.0) may.1 is base
changes_follow setting size (Pledge ballot ∷ acts) state change coherent may is base =
    follows_as size state.kept (delta.Promised ballot) change (deltas_of acts) is (above_it ballot state.kept.promised state.kept refl may.0.above)
changes_follow setting size (Cast vote ∷ acts) state change coherent may is base =
    follows_as size state.kept (delta.Voted vote) change (deltas_of acts) is (cast_follows setting size vote state may.0)
changes_follow setting size (Propose me vote ∷ acts) state change coherent may is base =
    follows_as size state.kept (delta.Voted vote) change (deltas_of acts) is (propose_follows setting size me vote state coherent may.0)
changes_follow setting size (Count from ∷ acts) state change coherent may is base =
    changes_follow setting size acts (after_act (Count from) state) change (act_sound setting state (Count from) coherent may.0) may.1 is base
changes_follow setting size (Wait ∷ acts) state change coherent may is base =
    changes_follow setting size acts (after_act Wait state) change (act_sound setting state Wait coherent may.0) may.1 is base
changes_follow setting size (Learn slot entry ∷ acts) state change coherent may is base =
    changes_follow setting size acts (after_act (Learn slot entry) state) change (act_sound setting state (Learn slot entry) coherent may.0) may.1 is base
changes_follow setting size (Rebase slot rows ∷ acts) state change coherent may is base =
    let same : delta.Base slot rows ≡ change = is_first (delta.Base slot rows) change (deltas_of acts) is in
    subst (ChangeMayFollow size state.kept) same (subst (BaseMayFollow size state.kept) (sym same) base)
changes_follow setting size (Call row ∷ acts) state change coherent may is base =
    changes_follow setting size acts (after_act (Call row) state) change (act_sound setting state (Call row) coherent may.0) may.1 is base
changes_follow setting size (Send whom message ∷ acts) state change coherent may is base =
    changes_follow setting size acts (after_act (Send whom message) state) change (act_sound setting state (Send whom message) coherent may.0) may.1 is base
changes_follow setting size (Restart me ∷ acts) state change coherent may is base =
    changes_follow setting size acts (after_act (Restart me) state) change (act_sound setting state (Restart me) coherent may.0) may.1 is base

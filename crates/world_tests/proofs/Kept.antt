-- What a replica keeps after some acts.
use Rattle.std.proofs.Common.{◌≡◌, List, [], ◌∷◌, ◌++◌, refl, ap, ◌∙◌, sym}
use Rattle.paxos_base.specs.Durable.{after_delta}
use Rattle.paxos_base.specs.declared.durable.Delta.{Delta}
use Rattle.paxos_base.specs.declared.durable.Durable.{Durable}
use Rattle.step_spec.specs.Act.{Act, Observe, Stand, Gather, TakeLead, Pledge, Cast, Propose, Count, Wait, Learn, Rebase, Call, Send, Restart, after_act}
use Rattle.step_spec.specs.Folds.{after_acts, deltas_by, deltas_of}
use Rattle.step_spec.specs.State.{State}
use Rattle.history.specs.Book.{durable_after}

twice : (first second : List Delta) (kept : Durable) → durable_after (first ++ second) kept ≡ durable_after second (durable_after first kept)
twice [] second kept = refl
twice (delta ∷ first) second kept = twice first second (after_delta delta kept)

by_act : (act : Act) (state : State) → (after_act act state).kept ≡ durable_after (deltas_by act) state.kept
unfolding after_act deltas_by
by_act (Observe ballot) state = refl
by_act (Stand me ballot) state = refl
by_act (Gather from votes) state = refl
by_act TakeLead state = refl
by_act (Pledge ballot) state = refl
by_act (Cast vote) state = refl
by_act (Propose me vote) state = refl
by_act (Count from) state = refl
by_act Wait state = refl
by_act (Learn slot entry) state = refl
by_act (Rebase slot rows) state = refl
by_act (Call row) state = refl
by_act (Send whom message) state = refl
by_act (Restart me) state = refl

-- it is what their changes leave
pub kept_after : (acts : List Act) (state : State) → (after_acts acts state).kept ≡ durable_after (deltas_of acts) state.kept
kept_after [] state = refl
kept_after (act ∷ acts) state =
    kept_after acts (after_act act state) ∙ ap (durable_after (deltas_of acts)) (by_act act state) ∙ sym (twice (deltas_by act) (deltas_of acts) state.kept)

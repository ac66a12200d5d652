-- What bounds a world bounds it after each transition that may come, one higher.
use Rattle.std.proofs.Common.{◌≡◌, ℕ, ◌+◌, ◌<◌, ◌≤◌, Option, Some, None, List, [], ◌∷◌, ◌++◌, refl, sym, ◌∙◌, arith, subst}
use Rattle.std.specs.List.{AllByRecursion, Contains, filter}
use Rattle.paxos_base.specs.declared.entry.Kind.{Kind}
use Rattle.paxos_base.specs.declared.rows.JobRow.{JobRow}
use Rattle.due_set.specs.Table.{Table}
use Rattle.step_spec.specs.Act.{Act, Restart, Send, after_act}
use Rattle.step_spec.specs.May.{AllMay, Ending, HasSaid, May, Saying, Setting, TellsWhatWasSaid, WasSaid}
use Rattle.step_spec.specs.Message.{Message, Prepare, Promise, Accept, Accepted, Nack, Known, AskFrom, Snap, Lead, Mention}
use Rattle.step_spec.specs.Step.{Event, Campaign, Tick, Hear, Answer, step}
use Rattle.step_spec.proofs.LineLemmas.{step_may}
use Rattle.agreement.specs.Transition as taken
use Rattle.agreement.specs.Transition.{AreTransitions, MayCome, MayTake, after_transition, after_transitions, identity_of, is_silent}
use Rattle.agreement.specs.World.{Doing, MayDo, World, after_all, after_done, doings_of}
use Rattle.agreement.proofs.Transitions.{IsFollowed, followed_after_all, transitions_followed, front_may, silent_may}
use Rattle.history.proofs.Acts.{all_answered_more, all_replicas, all_said_more, with_here}
use Rattle.history.proofs.Reached.{all_said_still, steps_by, steps_in}
use Rattle.history.proofs.Bounded.{Bounded, bounded_after, bounded_more, prefix_low}
use Rattle.history.proofs.Grows.{AllGrow, HearsWithin, IsHeardWithin, step_grows}

-- ---- acts

abbrev pub setting_with : ℕ → Table → ℕ → Option Event → List Saying → List Ending → Setting
setting_with n table by event said answered =
    record { self = record { me = by; members = n }; table = table; event = event; said = said; answered = answered }

-- acts may be done one after another, whatever more is said and answered meanwhile
abbrev pub MayAll : ℕ → Table → ℕ → Option Event → World → List Act → Type 0
MayAll n table by event w acts =
    (said : List Saying) (answered : List Ending) → ((saying : Saying) → Contains w.said saying → Contains said saying)
    → ((ending : Ending) → Contains w.answered ending → Contains answered ending) → AllMay (setting_with n table by event said answered) (w.replicas by) acts

pub may_rest : (n : ℕ) (table : Table) (by : ℕ) (event : Option Event) (answer : Option Kind) (act : Act) (acts : List Act) (w : World) → MayAll n table by event w (act ∷ acts)
    → MayAll n table by event (after_done (record { by = by; event = event; act = act; answer = answer }) w) acts
may_rest n table by event answer act acts w may said answered stays answers_stay =
    let next = (may said answered (λ saying has. stays saying (all_said_more by event answer (act ∷ []) w saying has)) (λ ending has. answers_stay ending (all_answered_more by event answer (act ∷ []) w ending has))).1 in
    subst (λ s. AllMay (setting_with n table by event said answered) s acts) (sym (all_replicas by event answer (act ∷ []) w by ∙ with_here by (after_act act (w.replicas by)) w.replicas)) next

bounded_acts : (most n : ℕ) (table : Table) (first : List JobRow) (by : ℕ) (event : Option Event) (answer : Option Kind) (acts : List Act) (w : World) → n ≤ 7 → by < n → IsFollowed n table first w → Bounded most n w → MayAll n table by event w acts → AllGrow most n acts
    → Bounded most n (after_all (doings_of by event answer acts) w)
bounded_acts most n table first by event answer [] w few member followed bounded may grow = bounded
bounded_acts most n table first by event answer (act ∷ acts) w few member followed bounded may grow =
    let doing : Doing = record { by = by; event = event; act = act; answer = answer } in
    let here : MayDo n table w doing = record { member = member; may = (may w.said w.answered (λ saying has. has) (λ ending has. has)).0 } in
    bounded_acts most n table first by event answer acts (after_done doing w) few member
    (followed_after_all n table first w (doing ∷ []) few followed (here, tt))
    (bounded_after most n table first w doing few followed bounded here grow.0)
    (may_rest n table by event answer act acts w may) grow.1

-- ---- steps

tells_still : (n : ℕ) (table : Table) (by : ℕ) (w : World) (said : List Saying) (answered : List Ending) (event : Event) → ((saying : Saying) → Contains w.said saying → Contains said saying) → ((ending : Ending) → Contains w.answered ending → Contains answered ending)
    → TellsWhatWasSaid (setting_with n table by (Some event) w.said w.answered) event → TellsWhatWasSaid (setting_with n table by (Some event) said answered) event
tells_still n table by w said answered Campaign stays answers_stay tells = tt
tells_still n table by w said answered (Tick now plan) stays answers_stay tells = tt
tells_still n table by w said answered (Hear from messages) stays answers_stay tells = all_said_still w.said said from messages stays tells
tells_still n table by w said answered (Answer job at kind rows) stays answers_stay tells = answers_stay _ tells

-- the acts of a step may be done, whatever more is said and answered meanwhile
pub step_all : (n : ℕ) (table : Table) (first : List JobRow) (w : World) (by : ℕ) (event : Event) → n ≤ 7 → IsFollowed n table first w → MayTake n table w by event → MayAll n table by (Some event) w (step (identity_of n by) event (w.replicas by))
step_all n table first w by event few followed may said answered stays answers_stay =
    step_may (setting_with n table by (Some event) said answered) (w.replicas by) event refl (omega (arith, may.member, few)) (followed.whole.kept.sound by may.member) may.planned
    (tells_still n table by w said answered event stays answers_stay may.heard)

heard_numbered : (most n : ℕ) (w : World) (from : ℕ) (message : Message) → Bounded most n w → WasSaid w.said from message → IsHeardWithin most n message
heard_numbered most n w from message bounded said = go message said
  where
    told : (message : Message) → HasSaid w.said from message → IsHeardWithin most n message
    told message has = let numbered = bounded.said from message has in record { round = numbered.round; slot = numbered.slot; member = numbered.member }

    go : (message : Message) → WasSaid w.said from message → IsHeardWithin most n message
    go (Mention ballot) (slot, votes, has) =
        let numbered = bounded.said from (Promise ballot slot votes) has in record { round = numbered.round; slot = omega arith; member = numbered.member }
    go (Prepare ballot slot) has = told (Prepare ballot slot) has
    go (Promise ballot slot votes) has = told (Promise ballot slot votes) has
    go (Accept vote) has = told (Accept vote) has
    go (Accepted ballot slot) has = told (Accepted ballot slot) has
    go (Nack ballot promised) has = told (Nack ballot promised) has
    go (Known slot entry) has = told (Known slot entry) has
    go (AskFrom slot) has = told (AskFrom slot) has
    go (Snap slot rows) has = told (Snap slot rows) has
    go (Lead ballot slot) has = told (Lead ballot slot) has

all_numbered : (most n : ℕ) (w : World) (from : ℕ) (messages : List Message) → Bounded most n w → AllByRecursion (WasSaid w.said from) messages → AllByRecursion (IsHeardWithin most n) messages
all_numbered most n w from [] bounded said = tt
all_numbered most n w from (message ∷ messages) bounded said =
    (heard_numbered most n w from message bounded said.0, all_numbered most n w from messages bounded said.1)

hears_within : (most n : ℕ) (table : Table) (by : ℕ) (w : World) (event : Event) → Bounded most n w → TellsWhatWasSaid (setting_with n table by (Some event) w.said w.answered) event → HearsWithin most n event
hears_within most n table by w Campaign bounded tells = tt
hears_within most n table by w (Tick now plan) bounded tells = tt
hears_within most n table by w (Hear from messages) bounded tells = all_numbered most n w from messages bounded tells
hears_within most n table by w (Answer job at kind rows) bounded tells = tt

-- a step grows to one above the bound at most
grows_by_one : (most n : ℕ) (table : Table) (first : List JobRow) (w : World) (by : ℕ) (event : Event) → n ≤ 7 → IsFollowed n table first w → Bounded most n w → MayTake n table w by event → AllGrow (most + 1) n (step (identity_of n by) event (w.replicas by))
grows_by_one most n table first w by event few followed bounded may =
    let low = bounded.low by may.member in
    let prefix = prefix_low most n table first w by few followed bounded in
    step_grows (most + 1) n (identity_of n by) event (w.replicas by) (omega (arith, may.member, few)) (omega (arith, low.tried)) (omega (arith, low.seen)) (omega (arith, prefix))
    (hears_within (most + 1) n table by w event (bounded_more most (most + 1) n w (omega arith) bounded) may.heard)

-- ---- transitions

front_grows : (most n : ℕ) (front back : List Act) → AllGrow most n (front ++ back) → AllGrow most n front
front_grows most n [] back grow = tt
front_grows most n (act ∷ front) back grow = (grow.0, front_grows most n front back grow.1)

silent_grows : (most n : ℕ) (acts : List Act) → AllGrow most n acts → AllGrow most n (filter is_silent acts)
silent_grows most n [] grow = tt
silent_grows most n (Send whom message ∷ acts) grow = silent_grows most n acts grow.1
silent_grows most n (act ∷ acts) grow = (grow.0, silent_grows most n acts grow.1)

pub bounded_transition : (most n : ℕ) (table : Table) (first : List JobRow) (w : World) (transition : taken.Transition) → n ≤ 7 → IsFollowed n table first w → Bounded most n w → MayCome n table w transition → Bounded (most + steps_by transition) n (after_transition n transition w)
unfolding May
bounded_transition most n table first w (taken.Did by event answer) few followed bounded may =
    bounded_acts (most + 1) n table first by (Some event) answer _ w few may.member followed (bounded_more most (most + 1) n w (omega arith) bounded)
    (step_all n table first w by event few followed may) (grows_by_one most n table first w by event few followed bounded may)
bounded_transition most n table first w (taken.Stopped by event front back) few followed bounded (may, parts) =
    let whole = step_all n table first w by event few followed may in
    let grow = subst (λ acts. AllGrow (most + 1) n acts) parts (grows_by_one most n table first w by event few followed bounded may) in
    bounded_acts (most + 1) n table first by (Some event) None _ w few may.member followed (bounded_more most (most + 1) n w (omega arith) bounded)
    (λ said answered stays answers_stay. silent_may _ _ front (front_may _ _ front back (subst (λ acts. AllMay (setting_with n table by (Some event) said answered) (w.replicas by) acts) parts (whole said answered stays answers_stay))))
    (silent_grows (most + 1) n front (front_grows (most + 1) n front back grow))
bounded_transition most n table first w (taken.Restarted by) few followed bounded member =
    let at : most + 0 ≡ most = omega arith in
    rw at (bounded_acts most n table first by None None (Restart by ∷ []) w few member followed bounded
    (λ said answered stays answers_stay. (record { told = refl; is_me = refl }, tt)) (tt, tt))

pub bounded_transitions : (most n : ℕ) (table : Table) (first : List JobRow) (w : World) (transitions : List taken.Transition) → n ≤ 7 → IsFollowed n table first w → Bounded most n w → AreTransitions n table w transitions → Bounded (most + steps_in transitions) n (after_transitions n transitions w)
bounded_transitions most n table first w [] few followed bounded may = bounded_more most (most + 0) n w (omega arith) bounded
bounded_transitions most n table first w (transition ∷ transitions) few followed bounded may =
    let at : most + steps_by transition + steps_in transitions ≡ most + (steps_by transition + steps_in transitions) = omega arith in
    rw at at (bounded_transitions (most + steps_by transition) n table first (after_transition n transition w) transitions few
    (transitions_followed n table first w (transition ∷ []) few followed (may.0, tt))
    (bounded_transition most n table first w transition few followed bounded may.0) may.1)

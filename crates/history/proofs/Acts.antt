-- What the acts of one replica come to in a world.
use Rattle.std.proofs.Common.{◌≡◌, ℕ, Bool, true, false, eqb, Option, Some, List, [], ◌∷◌, ◌++◌, map, refl, sym, ap, ◌∙◌, inl, inr, arith, append-nil, if◌then◌else◌}
use Rattle.std.specs.List.{Contains, filter}
use Rattle.std.proofs.lemmas.Bool.{cases_Bool, eqb-true, eq-eqb}
use Rattle.std.proofs.lemmas.List.{append_assoc}
use Rattle.std.proofs.lemmas.List.Elements.{Contains-push, Contains-push_cases, Contains-append_cases}
use Rattle.paxos_base.specs.Durable.{after_delta}
use Rattle.paxos_base.specs.declared.durable.Delta.{Delta}
use Rattle.paxos_base.specs.declared.durable.Delta.TheVariants.{Tried, Promised, Voted, Base}
use Rattle.paxos_base.specs.declared.entry.Kind.{Kind}
use Rattle.cluster_sched.specs.declared.row.SchedRow.{SchedRow}
use Rattle.step_spec.specs.Act.{Act, Observe, Stand, Gather, TakeLead, Pledge, Cast, Propose, Count, Wait, Learn, Rebase, Call, Send, Restart, after_act}
use Rattle.step_spec.specs.Folds.{after_acts, deltas_by, deltas_of, learnt_by, learnt_of}
use Rattle.step_spec.specs.May.{Ending, HasSaid, Saying}
use Rattle.step_spec.proofs.Lists.{nothing_in}
use Rattle.step_spec.specs.Message.{Message, Whom}
use Rattle.step_spec.specs.State.{State}
use Rattle.agreement.specs.Transition.{is_silent}
use Rattle.step_spec.specs.Step.{Event}
use Rattle.agreement.specs.World.{CastVote, Learning, World, after_all, after_doing, after_done, cast_after, doings_of, learned_after, with_replica}
use Rattle.history.specs.Book.{cast_votes, learned_entries, vote_of_delta, votes_by, votes_of}
use Rattle.agreement.proofs.Transitions.{said_stays as said_more, answered_stays as answered_more}
use Rattle.due_set.proofs.Rising.{Contains-cases as cons_cases}

-- changing a replica twice leaves the later change, and changing it to what it is leaves all
pub with_twice : (by : ℕ) (one two : State) (replicas : ℕ → State) (q : ℕ) → with_replica by two (with_replica by one replicas) q ≡ with_replica by two replicas q
with_twice by one two replicas q = elim (cases_Bool (eqb q by)) [ inl here ↦ rw here refl | inr other ↦ rw other refl ]

with_same : (by : ℕ) (replicas : ℕ → State) (q : ℕ) → replicas q ≡ with_replica by (replicas by) replicas q
with_same by replicas q =
    elim (cases_Bool (eqb q by)) [ inl here ↦ rw here (ap replicas (eqb-true q by here)) | inr other ↦ rw other refl ]

pub with_here : (by : ℕ) (state : State) (replicas : ℕ → State) → with_replica by state replicas by ≡ state
with_here by state replicas = rw (eq-eqb by by refl) refl

-- a replica has the state after its acts, and the others are as they were
pub all_replicas : (by : ℕ) (event : Option Event) (answer : Option Kind) (acts : List Act) (w : World) (q : ℕ) → (after_all (doings_of by event answer acts) w).replicas q ≡ with_replica by (after_acts acts (w.replicas by)) w.replicas q
unfolding after_doing
all_replicas by event answer [] w q = with_same by w.replicas q
all_replicas by event answer (act ∷ acts) w q =
    all_replicas by event answer acts (after_done (record { by = by; event = event; act = act; answer = answer }) w) q
    ∙ rw (with_here by (after_act act (w.replicas by)) w.replicas) (with_twice by (after_act act (w.replicas by)) (after_acts acts (after_act act (w.replicas by))) w.replicas q)

cast_is : (by : ℕ) (act : Act) (cast : List CastVote) → cast_after by act cast ≡ cast ++ cast_votes (Some by) (votes_by act)
cast_is by (Cast vote) cast = refl
cast_is by (Propose me vote) cast = refl
cast_is by act cast = sym (append-nil cast)

learned_is : (by : ℕ) (act : Act) (learned : List Learning) → learned_after by act learned ≡ learned ++ learned_entries (Some by) (learnt_by act)
unfolding learnt_by
learned_is by (Learn slot entry) learned = refl
learned_is by act learned = sym (append-nil learned)

map-append : {A B : Type 0} (f : A → B) (xs ys : List A) → map f (xs ++ ys) ≡ map f xs ++ map f ys
map-append f [] ys = refl
map-append f (x ∷ xs) ys = ap (λ rest. f x ∷ rest) (map-append f xs ys)

-- their votes join those that were cast
pub all_cast : (by : ℕ) (event : Option Event) (answer : Option Kind) (acts : List Act) (w : World) → (after_all (doings_of by event answer acts) w).cast ≡ w.cast ++ cast_votes (Some by) (votes_of acts)
unfolding after_doing
all_cast by event answer [] w = sym (append-nil w.cast)
all_cast by event answer (act ∷ acts) w =
    all_cast by event answer acts (after_done (record { by = by; event = event; act = act; answer = answer }) w)
    ∙ ap (λ cast. cast ++ cast_votes (Some by) (votes_of acts)) (cast_is by act w.cast)
    ∙ append_assoc w.cast (cast_votes (Some by) (votes_by act)) (cast_votes (Some by) (votes_of acts))
    ∙ ap (λ rows. w.cast ++ rows) (sym (map-append _ (votes_by act) (votes_of acts)))

-- their learned entries join those that were learned
pub all_learned : (by : ℕ) (event : Option Event) (answer : Option Kind) (acts : List Act) (w : World) → (after_all (doings_of by event answer acts) w).learned ≡ w.learned ++ learned_entries (Some by) (learnt_of acts)
unfolding after_doing
all_learned by event answer [] w = sym (append-nil w.learned)
all_learned by event answer (act ∷ acts) w =
    all_learned by event answer acts (after_done (record { by = by; event = event; act = act; answer = answer }) w)
    ∙ ap (λ learned. learned ++ learned_entries (Some by) (learnt_of acts)) (learned_is by act w.learned)
    ∙ append_assoc w.learned (learned_entries (Some by) (learnt_by act)) (learned_entries (Some by) (learnt_of acts))
    ∙ ap (λ rows. w.learned ++ rows) (sym (map-append _ (learnt_by act) (learnt_of acts)))

pub all_answered_more : (by : ℕ) (event : Option Event) (answer : Option Kind) (acts : List Act) (w : World) (ending : Ending) → Contains w.answered ending → Contains (after_all (doings_of by event answer acts) w).answered ending
unfolding after_doing
all_answered_more by event answer [] w ending has = has
all_answered_more by event answer (act ∷ acts) w ending has =
    all_answered_more by event answer acts (after_done (record { by = by; event = event; act = act; answer = answer }) w) ending (answered_more by act answer w.answered ending has)

-- the answer to a call that the acts make is answered
pub all_answered : (by : ℕ) (event : Option Event) (kind : Kind) (acts : List Act) (w : World) (row : SchedRow) → Contains acts (Call row)
    → Contains (after_all (doings_of by event (Some kind) acts) w).answered (record { to = by; job = row.name.job; at = row.name.at; kind = kind })
unfolding after_doing
all_answered by event kind [] w row has = nothing_in has
all_answered by event kind (act ∷ acts) w row has = elim (cons_cases act acts (Call row) has) [
  | inl same ↦ all_answered_more by event (Some kind) acts (after_done (record { by = by; event = event; act = act; answer = Some kind }) w) _
      (rw same (Contains-push w.answered (record { to = by; job = row.name.job; at = row.name.at; kind = kind })))
  | inr later ↦ all_answered by event kind acts (after_done (record { by = by; event = event; act = act; answer = Some kind }) w) row later
]

pub all_said_more : (by : ℕ) (event : Option Event) (answer : Option Kind) (acts : List Act) (w : World) (saying : Saying) → Contains w.said saying → Contains (after_all (doings_of by event answer acts) w).said saying
unfolding after_doing
all_said_more by event answer [] w saying has = has
all_said_more by event answer (act ∷ acts) w saying has = all_said_more by event answer acts (after_done (record { by = by; event = event; act = act; answer = answer }) w) saying (said_more by act w.said saying has)

-- a message that the acts send
abbrev pub Sends : List Act → Message → Type 0
Sends acts message = (whom : Whom) × Contains acts (Send whom message)

-- what the acts send is said
pub all_said : (by : ℕ) (event : Option Event) (answer : Option Kind) (acts : List Act) (w : World) (message : Message) → Sends acts message → HasSaid (after_all (doings_of by event answer acts) w).said by message
unfolding after_doing
all_said by event answer [] w message (whom, (k, within, is)) = absurd (omega (arith, within))
all_said by event answer (act ∷ acts) w message (whom, has) =
    elim (Contains-append_cases (act ∷ []) acts (Send whom message) has) [
      | inl here ↦ elim (Contains-push_cases [] act (Send whom message) here) [
        | inl (k, within, is) ↦ absurd (omega (arith, within))
        | inr same ↦ all_said_more by event answer acts (after_done (record { by = by; event = event; act = act; answer = answer }) w) (record { by = by; message = message })
            (rw same (Contains-push w.said (record { by = by; message = message })))
      ]
      | inr later ↦ all_said by event answer acts (after_done (record { by = by; event = event; act = act; answer = answer }) w) message (whom, later)
    ]

-- ---- a stop within a step

-- the act changes what is kept
abbrev has_delta : Act → Bool
has_delta (Stand me ballot) = true
has_delta (Pledge ballot) = true
has_delta (Cast vote) = true
has_delta (Propose me vote) = true
has_delta (Rebase slot rows) = true
has_delta act = false

-- the acts up to the first that changes what is kept, and those behind it
abbrev pub front_of : List Act → List Act
front_of [] = []
front_of (act ∷ acts) = if has_delta act then act ∷ [] else act ∷ front_of acts

abbrev pub back_of : List Act → List Act
back_of [] = []
back_of (act ∷ acts) = if has_delta act then acts else back_of acts

pub parts_of : (acts : List Act) → acts ≡ front_of acts ++ back_of acts
parts_of [] = refl
parts_of (act ∷ acts) =
    elim (cases_Bool (has_delta act)) [ inl here ↦ rw here refl | inr other ↦ rw other (ap (λ rest. act ∷ rest) (parts_of acts)) ]

-- an act that changes nothing of what is kept leaves it, and casts no vote
quiet : (act : Act) (state : State) → has_delta act ≡ false → ((after_act act state).kept ≡ state.kept) × (votes_by act ≡ []) × (deltas_by act ≡ [])
unfolding after_act deltas_by
quiet (Observe ballot) state none = (refl, refl, refl)
quiet (Stand me ballot) state none = absurd cc
quiet (Gather from votes) state none = (refl, refl, refl)
quiet TakeLead state none = (refl, refl, refl)
quiet (Pledge ballot) state none = absurd cc
quiet (Cast vote) state none = absurd cc
quiet (Propose me vote) state none = absurd cc
quiet (Count from) state none = (refl, refl, refl)
quiet Wait state none = (refl, refl, refl)
quiet (Learn slot entry) state none = (refl, refl, refl)
quiet (Rebase slot rows) state none = absurd cc
quiet (Call row) state none = (refl, refl, refl)
quiet (Send whom message) state none = (refl, refl, refl)
quiet (Restart me) state none = (refl, refl, refl)

-- one that changes it makes this change, and is no message
loud : (act : Act) (state : State) → has_delta act ≡ true → (delta : Delta) × (deltas_by act ≡ delta ∷ []) × ((after_act act state).kept ≡ after_delta delta state.kept) × (votes_by act ≡ vote_of_delta delta) × (is_silent act ≡ true)
unfolding after_act deltas_by
loud (Observe ballot) state some = absurd cc
loud (Stand me ballot) state some = (Tried ballot, refl, refl, refl, refl)
loud (Gather from votes) state some = absurd cc
loud TakeLead state some = absurd cc
loud (Pledge ballot) state some = (Promised ballot, refl, refl, refl, refl)
loud (Cast vote) state some = (Voted vote, refl, refl, refl, refl)
loud (Propose me vote) state some = (Voted vote, refl, refl, refl, refl)
loud (Count from) state some = absurd cc
loud Wait state some = absurd cc
loud (Learn slot entry) state some = absurd cc
loud (Rebase slot rows) state some = (Base slot rows, refl, refl, refl, refl)
loud (Call row) state some = absurd cc
loud (Send whom message) state some = absurd cc
loud (Restart me) state some = absurd cc

-- what a replica keeps that has done these acts and then stops: it has made the change, and cast its vote
pub record Stops (acts : List Act) (state : State) (delta : Delta) : Type 0 where
  pub kept : (after_acts acts state).kept ≡ after_delta delta state.kept
  pub votes : votes_of acts ≡ vote_of_delta delta

head_of : (a b : Delta) (xs ys : List Delta) → a ∷ xs ≡ b ∷ ys → a ≡ b
head_of a b xs ys same = cc

pub stops_at : (acts : List Act) (state : State) (delta : Delta) (others : List Delta) → deltas_of acts ≡ delta ∷ others → Stops (filter is_silent (front_of acts)) state delta
stops_at [] state delta others is = absurd cc
stops_at (act ∷ acts) state delta others is =
    elim (cases_Bool (has_delta act)) [
      | inl here ↦
          let does = loud act state here in
          let deltas : does.0 ∷ deltas_of acts ≡ delta ∷ others = ap (λ first. first ++ deltas_of acts) (sym does.1) ∙ is in
          let same : does.0 ≡ delta = head_of does.0 delta (deltas_of acts) others deltas in
          rw (here, does.4) (record { kept = does.2 ∙ ap (λ d. after_delta d state.kept) same; votes = append-nil (votes_by act) ∙ does.3 ∙ ap vote_of_delta same })
      | inr other ↦
          let leaves = quiet act state other in
          let later : deltas_of acts ≡ delta ∷ others = ap (λ first. first ++ deltas_of acts) (sym leaves.2) ∙ is in
          rw other (elim (cases_Bool (is_silent act)) [
            | inl silent ↦
                let rest = stops_at acts (after_act act state) delta others later in
                rw silent (record {
                  kept = rest.kept ∙ ap (after_delta delta) leaves.0;
                  votes = ap (λ v. v ++ votes_of (filter is_silent (front_of acts))) leaves.1 ∙ rest.votes;
                })
            | inr speaks ↦ rw speaks (stops_at acts state delta others later)
          ])
    ]

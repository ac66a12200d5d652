-- How a replica comes to lead, and what a leader does.
use Rattle.std.proofs.Common.{◌≡◌, ◌≢◌, ℕ, ◌+◌, ◌-◌, ◌<◌, ◌≤◌, ◌↔◌, true, false, Option, None, Some, List, [], ◌∷◌, ◌++◌, refl, sym, ap, ◌∙◌, inl, inr, arith, length, IfOk, Result, Ok, Err, ℤ, leb, zero, suc, get_or, IsTrue, if◌then◌else◌}
use Rattle.std.specs.Prelude.{slice_get}
use Rattle.std.proofs.lemmas.Bool.{le-leb, lt-leb, cases_Bool}
use Rattle.std.proofs.lemmas.Bool.Decides.{leb_tells}
use Rattle.std.proofs.lemmas.List.{append-nil}
use Rattle.std.proofs.lemmas.List.Elements.{All-head, All-tail}
use Rattle.std.proofs.lemmas.Option.{get_or_from_slice_get, slice_get-get_or, slice_get_within}
use Rattle.paxos_base.specs.Durable.{after_delta}
use Rattle.paxos_base.specs.Members.{has_majority, only_member}
use Rattle.paxos_base.specs.Vote.{SlotsRise, votes_from}
use Rattle.paxos_base.specs.declared.entry.Entry.{Entry}
use Rattle.paxos_base.specs.declared.entry.Entry.TheVariants.{End}
use Rattle.paxos_base.specs.declared.entry.Kind.{Kind}
use Rattle.paxos_base.specs.declared.entry.Vote.{Vote}
use Rattle.paxos_base.specs.declared.rows.JobRow.{JobRow}
use Rattle.launch_machine.specs.declared.machine.Intent.{Intent}
use Rattle.learner_core.specs.Learner.{LearnerState}
use Rattle.learner_core.specs.Learner as learned
use Rattle.term_core.specs.Term.{answer_to_tick, best_votes, candidacy, is_fourth}
use Rattle.term_core.specs.declared.flight.Flight.{Flight}
use Rattle.term_core.specs.declared.term.Term.{Term}
use Rattle.term_core.specs.declared.term.Term.TheVariants.{Follower, Candidate, Leader}
use Rattle.term_core.proofs.BestLemmas.{AllBelow, below_last}
use Rattle.step_spec.specs.Act.{Act, Propose, Learn, Rebase, Send, Stand, Wait, after_act}
use Rattle.step_spec.specs.Folds.{calls_by, deltas_by, learnt_by}
use Rattle.step_spec.specs.Message.{Accept, Known, Others, Outside, Prepare}
use Rattle.step_spec.specs.Propose.{answer, campaign, end_if, is_long, is_open, lead_if, lead_on, next_ballot, propose, tick, vote_of, wait}
use Rattle.step_spec.specs.State.{Identity, State, prefix_of}
use Rattle.replica_draft.specs.Draft.{Chooses, Goes, FixedParts, TakesRows, done, drafted, said_by, with_best}
use Rattle.replica_core.specs.Lines.{GoesOnByActs, IsFixed}
use Rattle.replica_core.specs.Replica.{FliesAt, IsReadyAnyhow, IsWhole, Makes, own_identity, idle_desk, fixed_of, next_slot, state_of}
use Rattle.replica_core.specs.declared.parts.Core.{Core}
use Rattle.replica_draft.specs.declared.change.Change.TheVariants.{Tried}
use Rattle.replica_draft.specs.declared.draft.Draft.{Draft}
use Rattle.replica_draft.proofs.DraftLemmas.{done-append, done-nil, drafted-learn, drafted-rebase, goes-on}
use Rattle.replica_core.proofs.LineLemmas.{done_as, drafted-prefix}
use Rattle.replica_core.proofs.SteadyLemmas.{ready-quiet}

-- ---- The votes that bind

from-none : (slot : ℕ) (votes : List Vote) → AllBelow slot votes → votes_from slot votes ≡ []
unfolding votes_from
from-none slot [] below = refl
from-none slot (vote ∷ votes) below =
    rw (lt-leb slot vote.slot (All-head (λ (vote : Vote). vote.slot < slot) vote votes below)) (from-none slot votes (All-tail (λ (vote : Vote). vote.slot < slot) vote votes below))

some-none : (vote : Vote) (votes : List Vote) → vote ∷ votes ≡ [] → ⊥
some-none vote votes none = absurd cc

from-some : (slot : ℕ) (votes : List Vote) (place : ℕ) (d : Vote) → place < length votes → slot ≤ (get_or votes place d).slot → votes_from slot votes ≢ []
unfolding votes_from
from-some slot [] place d within reached none = omega (arith, within)
from-some slot (vote ∷ votes) zero d within reached none = some-none vote (votes_from slot votes) (rw (le-leb slot vote.slot reached) at none)
from-some slot (vote ∷ votes) (suc place) d within reached none =
    elim (cases_Bool (leb slot vote.slot)) [
      | inl here ↦ some-none vote (votes_from slot votes) (rw here at none)
      | inr later ↦ from-some slot votes place d (omega (arith, within)) reached (rw later at none)
    ]

not_there : (option : Option Vote) (vote : Vote) → option ≡ None → option ≡ Some vote → ⊥
not_there option vote none some = absurd cc

pub bound-none : (slot : ℕ) (votes : List Vote) → None ≡ slice_get votes (length votes - 1) → IsTrue false ↔ (votes_from slot votes ≢ [])
unfolding votes_from
bound-none slot [] none = (λ no. absurd cc, λ some. absurd (some refl))
bound-none slot (vote ∷ votes) none =
    let there : slice_get (vote ∷ votes) (length (vote ∷ votes) - 1) ≡ Some (get_or (vote ∷ votes) (length (vote ∷ votes) - 1) vote) =
    slice_get-get_or (vote ∷ votes) (length (vote ∷ votes) - 1) vote (omega arith) in
    absurd (not_there (slice_get (vote ∷ votes) (length (vote ∷ votes) - 1)) (get_or (vote ∷ votes) (length (vote ∷ votes) - 1) vote) (sym none) there)

pub bound-last : (slot : ℕ) (votes : List Vote) (last : Vote) → SlotsRise votes → Some last ≡ slice_get votes (length votes - 1) → IsTrue (leb slot last.slot) ↔ (votes_from slot votes ≢ [])
bound-last slot votes last rise is = elim (leb_tells slot last.slot) [
  | inl reached ↦
      let some : votes_from slot votes ≢ [] = from-some slot votes (length votes - 1) last (slice_get_within votes (length votes - 1) last (sym is))
      (rw (get_or_from_slice_get votes (length votes - 1) last last (sym is)) reached.1) in
      rw reached.0 (λ yes. some, λ bound. refl)
  | inr past ↦
      let none : votes_from slot votes ≡ [] = from-none slot votes (below_last slot votes rise (λ d. rw (get_or_from_slice_get votes (length votes - 1) last d (sym is)) past.1)) in
      rw past.0 (λ no. absurd cc, λ bound. absurd (bound none))
]

-- ---- From a step in which nothing was done

-- a draft that goes on from nothing makes what it goes on by
pub makes : (core : Core) (old new : Draft) (acts : List Act) → drafted (fixed_of core) old ≡ idle_desk core → Goes old new acts → Makes core acts new
makes core old new acts idle goes = goes (fixed_of core) ∙ ap (done acts) idle

pub makes_nothing : (core : Core) (old : Draft) → drafted (fixed_of core) old ≡ idle_desk core → Makes core [] old
makes_nothing core old idle = idle ∙ sym (done-nil (idle_desk core))

pub nothing-learned : (learner : LearnerState) (draft : Draft) (slot : ℕ) → draft.change ≡ None → draft.learnt.items ≡ [] → slot ≡ learned.learned_prefix learner → slot ≡ next_slot learner draft
nothing-learned learner draft slot plain none at = rw (plain, none, at) (omega arith)

-- a flight stands at a slot, whatever the votes
flies-outline : (prefix : ℕ) (best : List Vote) (term : Term) → FliesAt prefix (with_best best term) → FliesAt prefix term
flies-outline prefix best (Follower ended) flies = flies
flies-outline prefix best (Candidate ballot first heard votes) flies = flies
flies-outline prefix best (Leader ballot votes None) flies = flies
flies-outline prefix best (Leader ballot votes (Some flight)) flies = flies

pub begun-flies : (core : Core) (draft : Draft) → IsWhole core → with_best (best_votes core.term) draft.term ≡ core.term → FliesAt (learned.learned_prefix core.learner) draft.term
begun-flies core draft whole outline =
    let flies : FliesAt (learned.learned_prefix core.learner) (with_best (best_votes core.term) draft.term) = rw outline whole.flies in
    flies-outline (learned.learned_prefix core.learner) (best_votes core.term) draft.term flies

pub begun-ready : (core : Core) (draft : Draft) → IsWhole core → with_best (best_votes core.term) draft.term ≡ core.term → draft.change ≡ None → draft.learnt.items ≡ [] → IsReadyAnyhow core draft
begun-ready core draft whole outline plain none = ready-quiet core draft (rw plain tt) none (begun-flies core draft whole outline)

-- a leader's term, by its parts
pub leads_with : (term : Term) (ballot : ℕ) (best votes : List Vote) (flight other : Option Flight) → term ≡ Leader ballot best flight → flight ≡ other → votes ≡ best
    → term ≡ Leader ballot votes other
leads_with term ballot best votes flight other is same_flight same_votes = is ∙ rw (same_flight, same_votes) refl

-- what the replica keeps is what its parts say
own_kept : (core : Core) → IsWhole core → IsFixed core (fixed_of core)
own_kept core whole = record {
  acceptor = record { promised = refl; votes = refl; base = refl };
  learned = refl;
  base = whole.base;
  rows = refl;
}

pub own-prefix : (core : Core) → IsWhole core → learned.learned_prefix core.learner ≡ prefix_of (state_of core)
own-prefix core whole = ap (λ base. base + length core.learner.entries) whole.base

-- ---- Propose

chosen-acts : (kept : FixedParts) (old new : Draft) (slot : ℕ) (entry : Entry) → slot ≡ prefix_of (drafted kept old).state → Chooses old new slot entry
    → drafted kept new ≡ done (Learn slot entry ∷ Send Others (Known slot entry) ∷ []) (drafted kept old)
chosen-acts kept old new slot entry at chooses =
    chooses.told kept
    ∙ ap (done (Send Others (Known slot entry) ∷ [])) (drafted-learn kept old chooses.middle slot entry chooses.learns at)
    ∙ sym (done-append (Learn slot entry ∷ []) (Send Others (Known slot entry) ∷ []) (drafted kept old))

-- the first two acts of a proposal, which leave the first slot that isn't learned where it is
abbrev pub proposed : ℕ → Vote → List Act
proposed me vote = Propose me vote ∷ Send Others (Accept vote) ∷ []

proposed-prefix : (kept : FixedParts) (old middle : Draft) (me : ℕ) (vote : Vote) → Goes old middle (proposed me vote) → prefix_of (drafted kept middle).state ≡ prefix_of (drafted kept old).state
unfolding after_act after_delta
proposed-prefix kept old middle me vote goes = ap (λ desk. prefix_of desk.state) (goes kept)

pub proposes : (core : Core) (old middle new : Draft) (self : Identity) (vote : Vote) → has_majority self.members (only_member self.me) ≡ false
    → Goes old middle (Propose self.me vote ∷ []) → Goes middle new (Send Others (Accept vote) ∷ [])
    → GoesOnByActs core old new (λ state. propose self vote)
unfolding propose
proposes core old middle new self vote waits first second kept is =
    rw waits (goes-on old middle new (Propose self.me vote ∷ []) (Send Others (Accept vote) ∷ []) first second kept)

pub proposes-alone : (core : Core) (old middle sent new : Draft) (self : Identity) (vote : Vote) → has_majority self.members (only_member self.me) ≡ true
    → vote.slot ≡ next_slot core.learner old → Goes old middle (Propose self.me vote ∷ []) → Goes middle sent (Send Others (Accept vote) ∷ [])
    → Chooses sent new vote.slot vote.entry → GoesOnByActs core old new (λ state. propose self vote)
unfolding propose
proposes-alone core old middle sent new self vote alone at first second chooses kept is =
    let goes : Goes old sent (proposed self.me vote) = goes-on old middle sent (Propose self.me vote ∷ []) (Send Others (Accept vote) ∷ []) first second in
    let here : vote.slot ≡ prefix_of (drafted kept sent).state =
    at ∙ sym (drafted-prefix core old kept is) ∙ sym (proposed-prefix kept old sent self.me vote goes) in
    rw alone
    (chosen-acts kept sent new vote.slot vote.entry here chooses
    ∙ ap (done (Learn vote.slot vote.entry ∷ Send Others (Known vote.slot vote.entry) ∷ [])) (goes kept)
    ∙ sym (done-append (proposed self.me vote) (Learn vote.slot vote.entry ∷ Send Others (Known vote.slot vote.entry) ∷ []) (drafted kept old)))

pub makes_proposal : (core : Core) (old new : Draft) (vote : Vote) → IsWhole core → drafted (fixed_of core) old ≡ idle_desk core
    → GoesOnByActs core old new (λ state. propose (own_identity core) vote) → Makes core (propose (own_identity core) vote) new
makes_proposal core old new vote whole idle does = does (fixed_of core) (own_kept core whole) ∙ ap (done (propose (own_identity core) vote)) idle

-- of what holds of a value that a call gave, what follows holds of it too
pub if_ok : {X E : Type 0} (result : Result X E) (P Q : X → Type 0) → ((x : X) → P x → Q x) → IfOk result P → IfOk result Q
if_ok (Ok x) P Q follows holds = follows x holds
if_ok (Err fault) P Q follows holds = tt

-- a draft that makes acts makes what they are called otherwise
pub makes_as : (core : Core) (draft : Draft) (acts these : List Act) → acts ≡ these → Makes core these draft → Makes core acts draft
makes_as core draft acts these same is = is ∙ done_as (idle_desk core) acts these same

-- ---- Campaign

stands : (core : Core) (old : Draft) (ballot first : ℕ) (own : List Vote) (term : Term) → drafted (fixed_of core) old ≡ idle_desk core → old.learnt.items ≡ [] → old.call ≡ None
    → first ≡ prefix_of (state_of core) → own ≡ votes_from first core.acceptor.votes → term ≡ candidacy core.members ballot first (only_member core.me) []
    → drafted (fixed_of core) (record old { best = Some own; change = Some (Tried ballot); term = term }) ≡ done (Stand core.me ballot ∷ lead_if core.members (only_member core.me)) (idle_desk core)
unfolding after_act deltas_by learnt_by said_by calls_by
stands core old ballot first own term idle none no_call at votes begins =
    let seen : old.seen ≡ core.seen = ap (λ desk. desk.state.seen) idle in
    let said : (drafted (fixed_of core) old).said ≡ [] = ap (λ desk. desk.said) idle in
    elim (cases_Bool (has_majority core.members (only_member core.me))) [
      | inl alone ↦ rw (begins, alone, none, no_call, seen, said, votes, at, append-nil core.learner.entries) refl
      | inr not_alone ↦ rw (begins, not_alone, none, no_call, seen, said, votes, at, append-nil core.learner.entries) refl
    ]

-- whether it leads before or after it asks for promises is the same
turned : (core : Core) (ballot first : ℕ)
    → done ((Stand core.me ballot ∷ lead_if core.members (only_member core.me)) ++ Send Others (Prepare ballot first) ∷ []) (idle_desk core)
    ≡ done (Stand core.me ballot ∷ Send Others (Prepare ballot first) ∷ lead_if core.members (only_member core.me)) (idle_desk core)
unfolding after_act deltas_by learnt_by said_by calls_by
turned core ballot first =
    elim (cases_Bool (has_majority core.members (only_member core.me))) [
      | inl alone ↦ rw alone refl
      | inr not_alone ↦ rw not_alone refl
    ]

pub campaigns : (core : Core) (old new : Draft) (ballot first : ℕ) (own : List Vote) (term : Term) → drafted (fixed_of core) old ≡ idle_desk core → old.learnt.items ≡ [] → old.call ≡ None
    → first ≡ prefix_of (state_of core) → own ≡ votes_from first core.acceptor.votes → term ≡ candidacy core.members ballot first (only_member core.me) [] → ballot ≡ next_ballot core.me (state_of core)
    → Goes (record old { best = Some own; change = Some (Tried ballot); term = term }) new (Send Others (Prepare ballot first) ∷ []) → Makes core (campaign (own_identity core) (state_of core)) new
unfolding campaign
campaigns core old new ballot first own term idle none no_call at votes begins next goes =
    rw (← next, ← at)
    (goes (fixed_of core)
    ∙ ap (done (Send Others (Prepare ballot first) ∷ [])) (stands core old ballot first own term idle none no_call at votes begins)
    ∙ sym (done-append (Stand core.me ballot ∷ lead_if core.members (only_member core.me)) (Send Others (Prepare ballot first) ∷ []) (idle_desk core))
    ∙ turned core ballot first)

-- ---- Wait

answer-with_best : (best : List Vote) (term : Term) → answer_to_tick (with_best best term) ≡ answer_to_tick term
answer-with_best best (Follower ended) = refl
answer-with_best best (Candidate own first heard votes) = refl
answer-with_best best (Leader own votes None) = refl
answer-with_best best (Leader own votes (Some flight)) = refl

-- what a draft of a leader with a flight is answered at a tick
pub answered : (core : Core) (old : Draft) (ballot : ℕ) (flight : Flight) → with_best (best_votes core.term) old.term ≡ core.term
    → core.term ≡ Leader ballot (best_votes core.term) (Some flight) → answer_to_tick old.term ≡ (if is_fourth flight then Some flight.accepted else None)
answered core old ballot flight outline leads =
    sym (answer-with_best (best_votes core.term) old.term) ∙ ap answer_to_tick outline ∙ ap answer_to_tick leads

pub wait-again : (ballot : ℕ) (flight : Flight) (accepted : ℕ) → (if is_fourth flight then Some flight.accepted else None) ≡ Some accepted
    → wait ballot flight ≡ Wait ∷ Send (Outside accepted) (Accept (vote_of ballot flight)) ∷ []
wait-again ballot flight accepted some =
    elim (cases_Bool (is_fourth flight)) [
      | inl again ↦ let known : Some flight.accepted ≡ Some accepted = rw again at some in let same : flight.accepted ≡ accepted = cc in rw (again, same) refl
      | inr not_yet ↦ let none : None ≡ Some accepted = rw not_yet at some in absurd cc
    ]

pub wait-not_yet : (ballot : ℕ) (flight : Flight) → ((accepted : ℕ) → (if is_fourth flight then Some flight.accepted else None) ≡ Some accepted → ⊥) → wait ballot flight ≡ Wait ∷ []
wait-not_yet ballot flight none =
    elim (cases_Bool (is_fourth flight)) [
      | inl again ↦ absurd (none flight.accepted (rw again refl))
      | inr not_yet ↦ rw not_yet refl
    ]

-- ---- Tick

-- a replica whose log is long takes its launch table in its place
pub compacts : (core : Core) (old new : Draft) (slot : ℕ) (rows : List JobRow) → drafted (fixed_of core) old ≡ idle_desk core → old.change ≡ None → slot ≡ prefix_of (state_of core)
    → TakesRows old new slot rows None → Makes core (Rebase (prefix_of (state_of core)) rows ∷ []) new
compacts core old new slot rows idle none at takes =
    let prefix : prefix_of (drafted (fixed_of core) old).state ≡ prefix_of (state_of core) = ap (λ desk. prefix_of desk.state) idle in
    rw (← at)
    (drafted-rebase (fixed_of core) old new slot rows None takes none (omega (arith, prefix, at)) ∙ ap (done (Rebase slot rows ∷ [])) idle)

pub tick-waits : (self : Identity) (now : ℤ) (rows : List JobRow) (intent : Intent) (state : State) (ballot : ℕ) (best : List Vote) (flight : Flight) → is_long state ≡ false → state.term ≡ Leader ballot best (Some flight)
    → tick self now rows intent state ≡ wait ballot flight
unfolding tick
tick-waits self now rows intent state ballot best flight short is = rw (short, is) refl

pub tick-leads : (self : Identity) (now : ℤ) (rows : List JobRow) (intent : Intent) (state : State) (ballot : ℕ) (best : List Vote) → is_long state ≡ false → state.term ≡ Leader ballot best None
    → tick self now rows intent state ≡ lead_on self now intent ballot best state (votes_from (prefix_of state) best)
unfolding tick
tick-leads self now rows intent state ballot best short is = rw (short, is) refl

pub tick-rests : (self : Identity) (now : ℤ) (rows : List JobRow) (intent : Intent) (state : State) (term : Term) → is_long state ≡ false
    → ((ballot : ℕ) (best : List Vote) (flight : Option Flight) → term ≡ Leader ballot best flight → ⊥)
    → state.term ≡ term → tick self now rows intent state ≡ []
unfolding tick
tick-rests self now rows intent state (Follower ended) short other is = rw (short, is) refl
tick-rests self now rows intent state (Candidate ballot first heard best) short other is = rw (short, is) refl
tick-rests self now rows intent state (Leader ballot best flight) short other is = absurd (other ballot best flight refl)

-- ---- Answer

pub answer-busy : (self : Identity) (job : ℕ) (at : ℤ) (kind : Kind) (rows : List JobRow) (state : State) (ballot : ℕ) (best : List Vote) (flight : Flight)
    → state.term ≡ Leader ballot best (Some flight) → answer self job at kind rows state ≡ []
unfolding answer
answer-busy self job at kind rows state ballot best flight is = rw is refl

pub answer-leads : (self : Identity) (job : ℕ) (at : ℤ) (kind : Kind) (rows : List JobRow) (state : State) (ballot : ℕ) (best : List Vote)
    → state.term ≡ Leader ballot best None
    → answer self job at kind rows state ≡ end_if self ballot best state (End job at kind) (is_open job at rows) (votes_from (prefix_of state) best)
unfolding answer
answer-leads self job at kind rows state ballot best is = rw is refl

pub answer-rests : (self : Identity) (job : ℕ) (at : ℤ) (kind : Kind) (rows : List JobRow) (state : State) (term : Term)
    → ((ballot : ℕ) (best : List Vote) (flight : Option Flight) → term ≡ Leader ballot best flight → ⊥) → state.term ≡ term → answer self job at kind rows state ≡ []
unfolding answer
answer-rests self job at kind rows state (Follower ended) other is = rw is refl
answer-rests self job at kind rows state (Candidate ballot first heard best) other is = rw is refl
answer-rests self job at kind rows state (Leader ballot best flight) other is = absurd (other ballot best flight refl)

-- What holds of a draft between two packets holds after each verb.
use Rattle.std.proofs.Common.{◌≡◌, ℕ, ◌+◌, ◌<◌, ◌≤◌, ◌^◌, Option, None, Some, List, [], ◌∷◌, ◌++◌, Result, Ok, Err, OnOk, refl, sym, ap, ◌∙◌, arith, length, length-append, lit<, inl, inr, eqb, ◌&&◌}
use Rattle.std.specs.Prelude.{⊤, unwrap_or}
use Rattle.std.proofs.lemmas.Bool.{cases_Bool, cases_lt, lt-ltb, le-ltb}
use Rattle.paxos_base.specs.declared.entry.Entry.{Entry}
use Rattle.paxos_base.specs.declared.rows.JobRow.{JobRow}
use Rattle.due_set.specs.Table.{Table}
use Rattle.launch_machine.specs.Machine.{Launches, StandsFor, CountsBelow}
use Rattle.learner_core.specs.Learner as learned
use Rattle.paxos_base.specs.Members.{has_majority, with_member}
use Rattle.paxos_base.specs.Rows.{OpenHaveCursors}
use Rattle.paxos_base.specs.declared.entry.Vote.{Vote}
use Rattle.term_core.specs.Best.{best_of}
use Rattle.term_core.specs.Term.{after_accepted, after_advance, after_ballot, after_promise, after_proposal, after_tick, candidacy, is_ended_by}
use Rattle.term_core.specs.declared.term.Term.{Term}
use Rattle.term_core.specs.declared.term.Term.TheVariants.{Follower, Candidate, Leader}
use Rattle.replica_draft.specs.Draft.{Chooses, LearnsNext, SendsOnly, TakesRows, with_learned}
use Rattle.replica_draft.specs.declared.change.Change.{Change}
use Rattle.replica_draft.specs.declared.change.Change.TheVariants as change
use Rattle.replica_draft.specs.declared.draft.Draft.{Draft}
use Rattle.replica_core.specs.Replica.{FliesAt, IsReadyAnyhow, IsDraftSteady, IsSupplied, KeepsItsChange, StaysSteady, base_of, changes_of_draft, next_of, next_slot, since_of}
use Rattle.replica_core.specs.declared.parts.Core.{Core}

-- ---- one more entry

next-learned : (entry : Entry) (made : Option Change) (next : ℕ) → next_of (with_learned entry made) (next + 1) ≡ next_of made next + 1
next-learned entry None next = refl
next-learned entry (Some (change.Tried ballot)) next = refl
next-learned entry (Some (change.Promised ballot)) next = refl
next-learned entry (Some (change.Voted vote)) next = refl
next-learned entry (Some (change.Rebased rebased)) next =
    let count : length (rebased.since ++ entry ∷ []) ≡ length rebased.since + 1 = length-append rebased.since (entry ∷ []) in
    omega (arith, count)

low-learned : (entry : Entry) (made : Option Change) → base_of (with_learned entry made) 0 ≡ base_of made 0
low-learned entry None = refl
low-learned entry (Some (change.Tried ballot)) = refl
low-learned entry (Some (change.Promised ballot)) = refl
low-learned entry (Some (change.Voted vote)) = refl
low-learned entry (Some (change.Rebased rebased)) = refl

since-learned : (entry : Entry) (made : Option Change) → since_of (with_learned entry made) ≤ since_of made + 1
since-learned entry None = omega arith
since-learned entry (Some (change.Tried ballot)) = omega arith
since-learned entry (Some (change.Promised ballot)) = omega arith
since-learned entry (Some (change.Voted vote)) = omega arith
since-learned entry (Some (change.Rebased rebased)) = omega (arith, length-append rebased.since (entry ∷ []))

supplied-learned : (table : Table) (machine : Launches) (base prefix : ℕ) (entry : Entry) (made : Option Change) → IsSupplied table machine base prefix made → IsSupplied table machine base prefix (with_learned entry made)
supplied-learned table machine base prefix entry None supplied = tt
supplied-learned table machine base prefix entry (Some (change.Tried ballot)) supplied = tt
supplied-learned table machine base prefix entry (Some (change.Promised ballot)) supplied = tt
supplied-learned table machine base prefix entry (Some (change.Voted vote)) supplied = tt
supplied-learned table machine base prefix entry (Some (change.Rebased rebased)) supplied =
    record { stands = supplied.stands; rows = supplied.rows; counts = supplied.counts; cursors = supplied.cursors; past = supplied.past; up = supplied.up }

once-learned : (entry : Entry) (made : Option Change) → changes_of_draft (with_learned entry made) ≡ changes_of_draft made
once-learned entry None = refl
once-learned entry (Some (change.Tried ballot)) = refl
once-learned entry (Some (change.Promised ballot)) = refl
once-learned entry (Some (change.Voted vote)) = refl
once-learned entry (Some (change.Rebased rebased)) = refl

-- a flight is over once its slot is learned
pub flies-advanced : (slot : ℕ) (term : Term) → FliesAt slot term → FliesAt (slot + 1) (after_advance (slot + 1) term)
flies-advanced slot (Follower ended) flies = tt
flies-advanced slot (Candidate ballot first heard best) flies = tt
flies-advanced slot (Leader ballot best None) flies = tt
flies-advanced slot (Leader ballot best (Some flight)) flies =
    rw (lt-ltb flight.slot (slot + 1) (omega (arith, flies))) tt

pub steady-learned : (core : Core) (old new : Draft) (slot : ℕ) (entry : Entry) → LearnsNext old new slot entry → slot ≡ next_slot core.learner old → StaysSteady core old new
steady-learned core old new slot entry learns at table steady =
    let count : length new.learnt.items ≡ length old.learnt.items + 1 = ap length learns.learnt ∙ length-append old.learnt.items _ in
    let more : learned.learned_prefix core.learner + length new.learnt.items ≡ learned.learned_prefix core.learner + length old.learnt.items + 1 = omega (arith, count) in
    let next : next_slot core.learner new ≡ slot + 1 =
    rw (learns.change, more) (next-learned entry old.change (learned.learned_prefix core.learner + length old.learnt.items) ∙ ap (λ n. n + 1) (sym at)) in
    let flies : FliesAt slot old.term = rw at steady.flies in
    record {
      flies = rw (next, learns.term) (flies-advanced slot old.term flies);
      low = rw (learns.change, low-learned entry old.change) steady.low;
      since = rw learns.change (omega (arith, since-learned entry old.change, steady.since, count));
      supplied = rw learns.change (supplied-learned table core.machine core.learner.base (learned.learned_prefix core.learner) entry old.change steady.supplied);
    }

pub keeps-learned : (core : Core) (old new : Draft) (slot : ℕ) (entry : Entry) → LearnsNext old new slot entry → slot ≡ next_slot core.learner old → KeepsItsChange core old new
keeps-learned core old new slot entry learns at =
    record { steady = steady-learned core old new slot entry learns at; once = rw learns.change (once-learned entry old.change) }

-- ---- nothing but sends

pub steady-sends : (core : Core) (old new : Draft) → SendsOnly old new → StaysSteady core old new
steady-sends core old new only table steady =
    record {
      flies = rw (only.change, only.learnt, only.term) steady.flies;
      low = rw only.change steady.low;
      since = rw (only.change, only.learnt) steady.since;
      supplied = rw only.change steady.supplied;
    }

pub keeps-sends : (core : Core) (old new : Draft) → SendsOnly old new → KeepsItsChange core old new
keeps-sends core old new only = record { steady = steady-sends core old new only; once = rw only.change refl }

pub keeps-itself : (core : Core) (old : Draft) → KeepsItsChange core old old
keeps-itself core old = record { steady = λ table steady. steady; once = refl }

pub stays-on : (core : Core) (old middle new : Draft) → StaysSteady core old middle → StaysSteady core middle new → StaysSteady core old new
stays-on core old middle new first second table steady = second table (first table steady)

-- an entry that was chosen is learned and told
pub keeps-chosen : (core : Core) (old new : Draft) (slot : ℕ) (entry : Entry) → Chooses old new slot entry → slot ≡ next_slot core.learner old → KeepsItsChange core old new
keeps-chosen core old new slot entry chooses at =
    let first = keeps-learned core old chooses.middle slot entry chooses.learns at in
    record {
      steady = stays-on core old chooses.middle new first.steady (steady-sends core chooses.middle new chooses.sends);
      once = rw chooses.sends.change first.once;
    }

-- ---- another change

-- a change that isn't a new base
abbrev pub IsPlain : Option Change → Type 0
IsPlain (Some (change.Rebased rebased)) = ⊥
IsPlain made = ⊤

next-plain : (made : Option Change) (next : ℕ) → IsPlain made → next_of made next ≡ next
next-plain None next plain = refl
next-plain (Some (change.Tried ballot)) next plain = refl
next-plain (Some (change.Promised ballot)) next plain = refl
next-plain (Some (change.Voted vote)) next plain = refl
next-plain (Some (change.Rebased rebased)) next plain = absurd plain

low-plain : (made : Option Change) → IsPlain made → base_of made 0 < 2 ^ 62
low-plain None plain = lit< tt
low-plain (Some (change.Tried ballot)) plain = lit< tt
low-plain (Some (change.Promised ballot)) plain = lit< tt
low-plain (Some (change.Voted vote)) plain = lit< tt
low-plain (Some (change.Rebased rebased)) plain = absurd plain

since-plain : (made : Option Change) (count : ℕ) → IsPlain made → since_of made ≤ count
since-plain None count plain = omega arith
since-plain (Some (change.Tried ballot)) count plain = omega arith
since-plain (Some (change.Promised ballot)) count plain = omega arith
since-plain (Some (change.Voted vote)) count plain = omega arith
since-plain (Some (change.Rebased rebased)) count plain = absurd plain

supplied-plain : (table : Table) (machine : Launches) (base prefix : ℕ) (made : Option Change) → IsPlain made → IsSupplied table machine base prefix made
supplied-plain table machine base prefix None plain = tt
supplied-plain table machine base prefix (Some (change.Tried ballot)) plain = tt
supplied-plain table machine base prefix (Some (change.Promised ballot)) plain = tt
supplied-plain table machine base prefix (Some (change.Voted vote)) plain = tt
supplied-plain table machine base prefix (Some (change.Rebased rebased)) plain = absurd plain

-- where no new base is, all but the flight is so
pub steady-plain : (table : Table) (core : Core) (draft : Draft) → IsPlain draft.change → FliesAt (learned.learned_prefix core.learner + length draft.learnt.items) draft.term → IsDraftSteady table core draft
steady-plain table core draft plain flies =
    record {
      flies = rw (next-plain draft.change (learned.learned_prefix core.learner + length draft.learnt.items) plain) flies;
      low = low-plain draft.change plain;
      since = since-plain draft.change (length draft.learnt.items) plain;
      supplied = supplied-plain table core.machine core.learner.base (learned.learned_prefix core.learner) draft.change plain;
    }

-- a draft without a change gains one that is no new base
pub steady-changed : (core : Core) (old new : Draft) → old.change ≡ None → IsPlain new.change → new.term ≡ old.term → new.learnt.items ≡ old.learnt.items → StaysSteady core old new
steady-changed core old new none plain term learnt table steady =
    let flies : FliesAt (learned.learned_prefix core.learner + length old.learnt.items) old.term = rw none at steady.flies in
    steady-plain table core new plain (rw (learnt, term) flies)

-- ---- a new base

-- a flight at a slot or below it is over, or stands there
flies-taken : (slot next : ℕ) (term : Term) → next ≤ slot → FliesAt next term → FliesAt slot (after_advance slot term)
flies-taken slot next (Follower ended) up flies = tt
flies-taken slot next (Candidate ballot first heard best) up flies = tt
flies-taken slot next (Leader ballot best None) up flies = tt
flies-taken slot next (Leader ballot best (Some flight)) up flies = elim (cases_lt flight.slot slot) [
  | inl below ↦ rw (lt-ltb flight.slot slot below) tt
  | inr here ↦ rw (le-ltb flight.slot slot here) (omega (arith, here, up, flies))
]

pub steady-taken : (table : Table) (core : Core) (old new : Draft) (slot : ℕ) (rows : List JobRow) (machine : Option Launches) → TakesRows old new slot rows machine → old.change ≡ None → slot < 2 ^ 62
    → StandsFor table (unwrap_or machine core.machine) → (unwrap_or machine core.machine).rows ≡ rows → CountsBelow (2 ^ 31) rows → OpenHaveCursors rows → core.learner.base < slot → next_slot core.learner old ≤ slot
    → FliesAt (next_slot core.learner old) old.term → IsDraftSteady table core new
steady-taken table core old new slot rows machine takes none low stands rows_are counts cursors past up flies =
    let first : next_slot core.learner old ≡ learned.learned_prefix core.learner + length old.learnt.items = rw none refl in
    let at : slot + 0 ≡ slot = omega arith in
    record {
      flies = rw (takes.change, takes.term, at) (flies-taken slot (next_slot core.learner old) old.term up flies);
      low = rw takes.change low;
      since = rw takes.change (omega arith);
      supplied = rw takes.change (record { stands = stands; rows = rows_are; counts = counts; cursors = cursors; past = past; up = omega (arith, up, first) });
    }

-- ---- the terms of a leader

pub flies-ticked : (slot : ℕ) (term : Term) → FliesAt slot term → FliesAt slot (after_tick term)
flies-ticked slot (Follower ended) flies = tt
flies-ticked slot (Candidate ballot first heard best) flies = tt
flies-ticked slot (Leader ballot best None) flies = tt
flies-ticked slot (Leader ballot best (Some flight)) flies = flies

pub flies-proposed : (slot : ℕ) (entry : Entry) (me : ℕ) (term : Term) → FliesAt slot term → FliesAt slot (after_proposal slot entry me term)
flies-proposed slot entry me (Follower ended) flies = tt
flies-proposed slot entry me (Candidate ballot first heard best) flies = tt
flies-proposed slot entry me (Leader ballot best None) flies = refl
flies-proposed slot entry me (Leader ballot best (Some flight)) flies = flies

pub flies-candidacy : (slot members ballot first heard : ℕ) (best : List Vote) → FliesAt slot (candidacy members ballot first heard best)
flies-candidacy slot members ballot first heard best =
    elim (cases_Bool (has_majority members heard)) [ inl enough ↦ rw enough tt | inr few ↦ rw few tt ]

pub flies-gathered : (slot members from ballot first : ℕ) (votes : List Vote) (term : Term) → FliesAt slot term → FliesAt slot (after_promise members from ballot first votes term)
flies-gathered slot members from ballot first votes (Follower ended) flies = tt
flies-gathered slot members from ballot first votes (Leader own best flight) flies = flies
flies-gathered slot members from ballot first votes (Candidate own asked heard best) flies =
    elim (cases_Bool (eqb own ballot && eqb asked first)) [
      | inl counts ↦ rw counts (flies-candidacy slot members own asked (with_member from heard) (best_of best votes))
      | inr other ↦ rw other tt
    ]

pub flies-accepted : (slot members from ballot at : ℕ) (term : Term) → FliesAt slot term → FliesAt slot (after_accepted members from ballot at term)
flies-accepted slot members from ballot at (Follower ended) flies = tt
flies-accepted slot members from ballot at (Candidate own first heard best) flies = tt
flies-accepted slot members from ballot at (Leader own best None) flies = tt
flies-accepted slot members from ballot at (Leader own best (Some flight)) flies =
    elim (cases_Bool (eqb own ballot && eqb flight.slot at)) [
      | inl counts ↦ rw counts (elim (cases_Bool (has_majority members (with_member from flight.accepted))) [ inl enough ↦ rw enough tt | inr few ↦ rw few flies ])
      | inr other ↦ rw other flies
    ]

pub flies-observed : (slot ballot : ℕ) (term : Term) → FliesAt slot term → FliesAt slot (after_ballot ballot term)
flies-observed slot ballot term flies = elim (cases_Bool (is_ended_by ballot term)) [ inl ended ↦ rw ended tt | inr goes_on ↦ rw goes_on flies ]

-- another term, where all else is as it was
pub steady-term : (core : Core) (old new : Draft) → new.change ≡ old.change → new.learnt.items ≡ old.learnt.items → (FliesAt (next_slot core.learner old) old.term → FliesAt (next_slot core.learner old) new.term) → StaysSteady core old new
steady-term core old new same learnt flies table steady =
    record {
      flies = rw (same, learnt) (flies steady.flies);
      low = rw same steady.low;
      since = rw (same, learnt) steady.since;
      supplied = rw same steady.supplied;
    }

-- ---- a draft that can be taken

pub ready-by : (core : Core) (draft : Draft) → IsPlain draft.change → FliesAt (learned.learned_prefix core.learner + length draft.learnt.items) draft.term → length draft.learnt.items < 2 ^ 31 → IsReadyAnyhow core draft
ready-by core draft plain flies few table = record { steady = steady-plain table core draft plain flies; few = few }

-- where nothing was learned
pub ready-quiet : (core : Core) (draft : Draft) → IsPlain draft.change → draft.learnt.items ≡ [] → FliesAt (learned.learned_prefix core.learner) draft.term → IsReadyAnyhow core draft
ready-quiet core draft plain nothing flies =
    let at : learned.learned_prefix core.learner + 0 ≡ learned.learned_prefix core.learner = omega arith in
    ready-by core draft plain (rw (nothing, at) flies) (rw nothing (omega arith))

-- ---- of a call that succeeded

pub on_ok_so : {X E : Type 0} (result : Result X E) (P Q : Type 0) → (P → Q) → OnOk result P → OnOk result Q
on_ok_so (Ok value) P Q so holds = so holds
on_ok_so (Err fault) P Q so holds = tt

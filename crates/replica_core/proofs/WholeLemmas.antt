-- What holds of each replica holds of it after a step.
use Rattle.std.proofs.Common.{◌≡◌, ℕ, ◌+◌, Option, None, Some, List, refl, ap, subst, ◌∙◌, length, unwrap_or}
use Rattle.paxos_base.specs.Rows.{OpenHaveCursors}
use Rattle.paxos_base.specs.declared.entry.Entry.{Entry}
use Rattle.paxos_base.specs.declared.entry.Vote.{Vote}
use Rattle.paxos_base.specs.declared.rows.JobRow.{JobRow}
use Rattle.due_set.specs.Table.{Table}
use Rattle.launch_machine.specs.Clerk.{AppliesAll}
use Rattle.launch_machine.specs.Machine.{Launches}
use Rattle.term_core.specs.Term.{best_votes}
use Rattle.term_core.specs.declared.term.Term.{Term}
use Rattle.term_core.specs.declared.term.Term.TheVariants.{Follower, Candidate, Leader}
use Rattle.learner_core.specs.Learner as learner
use Rattle.step_spec.specs.State.{prefix_of}
use Rattle.step_spec.specs.Step.{IsLaunchTable}
use Rattle.step_spec.specs.declared.out.LearntRow.{LearntRow}
use Rattle.replica_draft.specs.Draft.{drafted, entries_in, learned_with, with_best}
use Rattle.replica_draft.specs.declared.change.Change.{Change}
use Rattle.replica_draft.specs.declared.change.Change.TheVariants as change
use Rattle.replica_core.specs.Counts.{highest_count}
use Rattle.replica_core.specs.Commit.{entries_with, launches_of}
use Rattle.replica_core.specs.Replica.{FliesAt, IsAlikeCore, IsDraftSteady, IsSteadyAt, IsSupplied, IsWhole, base_of, own_identity, fixed_of, next_of, rows_of, state_of}
use Rattle.replica_draft.specs.declared.draft.Draft.{Draft}
use Rattle.replica_core.specs.declared.parts.Core.{Core}
use Rattle.replica_core.proofs.LineLemmas.{base-drafted, next-learned, rows-drafted}
use Rattle.replica_core.proofs.TableLemmas.{cursors-applied}
use Rattle.step_spec.proofs.ListLemmas.{applied_append}

-- where a flight stands says nothing of the votes
flies_bound : (slot : ℕ) (best : List Vote) (term : Term) → FliesAt slot term → FliesAt slot (with_best best term)
flies_bound slot best (Follower ended) flies = flies
flies_bound slot best (Candidate ballot first heard votes) flies = flies
flies_bound slot best (Leader ballot votes None) flies = flies
flies_bound slot best (Leader ballot votes (Some flight)) flies = flies

-- each open row of the launch table that a change brings has a cursor
cursors_by : (table : Table) (made : Option Change) (machine : Launches) (base prefix : ℕ) → IsSupplied table machine base prefix made → OpenHaveCursors machine.rows → OpenHaveCursors (launches_of made machine).rows
cursors_by table None machine base prefix supplied cursors = cursors
cursors_by table (Some (change.Tried ballot)) machine base prefix supplied cursors = cursors
cursors_by table (Some (change.Promised ballot)) machine base prefix supplied cursors = cursors
cursors_by table (Some (change.Voted vote)) machine base prefix supplied cursors = cursors
cursors_by table (Some (change.Rebased rebased)) machine base prefix supplied cursors = rw supplied.rows supplied.cursors

cursors_of : (table : Table) (made : Option Change) (machine : Launches) (base prefix : ℕ) (rows : List JobRow) → IsSupplied table machine base prefix made → OpenHaveCursors rows → OpenHaveCursors (rows_of made rows)
cursors_of table None machine base prefix rows supplied cursors = cursors
cursors_of table (Some (change.Tried ballot)) machine base prefix rows supplied cursors = cursors
cursors_of table (Some (change.Promised ballot)) machine base prefix rows supplied cursors = cursors
cursors_of table (Some (change.Voted vote)) machine base prefix rows supplied cursors = cursors
cursors_of table (Some (change.Rebased rebased)) machine base prefix rows supplied cursors = supplied.cursors

pub whole_after : (table : Table) (old new : Core) (draft : Draft) → IsWhole old → state_of new ≡ (drafted (fixed_of old) draft).state → own_identity new ≡ own_identity old
    → new.learner.base ≡ new.acceptor.base → FliesAt (next_of draft.change (prefix_of (state_of old) + length draft.learnt.items)) draft.term
    → new.high_count ≡ highest_count new.machine.rows → IsDraftSteady table old draft
    → AppliesAll table (launches_of draft.change old.machine).rows (entries_with draft.change (entries_in draft.learnt.items)) new.machine.rows → IsWhole new
whole_after table old new draft whole state identity base flies counts steady applied =
    let me : new.me ≡ old.me = ap (λ identity. identity.me) identity in
    let members : new.members ≡ old.members = ap (λ identity. identity.members) identity in
    let entries : new.learner.entries ≡ learned_with draft.change old.learner.entries draft.learnt.items = ap (λ state. state.learned) state in
    let base_is : new.acceptor.base ≡ base_of draft.change old.acceptor.base = ap (λ state. state.kept.base) state ∙ base-drafted draft.change (fixed_of old).durable in
    let term : new.term ≡ with_best (unwrap_or draft.best (best_votes old.term)) draft.term = ap (λ state. state.term) state in
    let next : learner.learned_prefix new.learner ≡ next_of draft.change (prefix_of (state_of old) + length draft.learnt.items) =
    rw (base, base_is, entries) (next-learned draft.change old.acceptor.base old.learner.entries draft.learnt.items) in
    record {
      me = rw (me, members) whole.me;
      few = rw members whole.few;
      base = base;
      flies = rw (next, term) (flies_bound (next_of draft.change (prefix_of (state_of old) + length draft.learnt.items)) (unwrap_or draft.best (best_votes old.term)) draft.term flies);
      counts = counts;
      cursors = cursors-applied table (launches_of draft.change old.machine).rows (entries_with draft.change (entries_in draft.learnt.items)) new.machine.rows applied
          (cursors_by table draft.change old.machine _ _ steady.supplied whole.cursors);
      base_cursors = rw (ap (λ state. state.kept.rows) state ∙ rows-drafted draft.change (fixed_of old).durable) (cursors_of table draft.change old.machine _ _ old.rows steady.supplied whole.base_cursors);
    }

-- what holds between two packets, by the parts of a replica
pub steady_of : (table : Table) (core : Core) (draft : Draft) → IsWhole core → IsSteadyAt table core.machine core.acceptor.base (prefix_of (state_of core)) draft → IsDraftSteady table core draft
steady_of table core draft whole steady = rw whole.base steady

pub steady_in : (table : Table) (core : Core) (draft : Draft) → IsWhole core → IsDraftSteady table core draft → IsSteadyAt table core.machine core.acceptor.base (prefix_of (state_of core)) draft
steady_in table core draft whole steady = rw (← whole.base) steady

-- ---- The launch table

-- the launch table of what was learned with a draft
launches_by : (table : Table) (made : Option Change) (machine : Launches) (base prefix : ℕ) (rows last : List JobRow) (learned : List Entry) (learnt : List LearntRow) → IsSupplied table machine base prefix made
    → AppliesAll table rows learned machine.rows → AppliesAll table (launches_of made machine).rows (entries_with made (entries_in learnt)) last
    → AppliesAll table (rows_of made rows) (learned_with made learned learnt) last
launches_by table None machine base prefix rows last learned learnt supplied before applied = applied_append table rows machine.rows last learned (entries_in learnt) before applied
launches_by table (Some (change.Tried ballot)) machine base prefix rows last learned learnt supplied before applied = applied_append table rows machine.rows last learned (entries_in learnt) before applied
launches_by table (Some (change.Promised ballot)) machine base prefix rows last learned learnt supplied before applied = applied_append table rows machine.rows last learned (entries_in learnt) before applied
launches_by table (Some (change.Voted vote)) machine base prefix rows last learned learnt supplied before applied = applied_append table rows machine.rows last learned (entries_in learnt) before applied
launches_by table (Some (change.Rebased rebased)) machine base prefix rows last learned learnt supplied before applied =
    subst (λ (first : List JobRow). AppliesAll table first rebased.since last) supplied.rows applied

-- the launch table is still that of the state, as what is learned is applied
pub launches_after : (table : Table) (old new : Core) (draft : Draft) → IsDraftSteady table old draft → state_of new ≡ (drafted (fixed_of old) draft).state → IsLaunchTable table (state_of old) old.machine.rows
    → AppliesAll table (launches_of draft.change old.machine).rows (entries_with draft.change (entries_in draft.learnt.items)) new.machine.rows → IsLaunchTable table (state_of new) new.machine.rows
launches_after table old new draft steady state before applied =
    let rows : new.rows ≡ rows_of draft.change old.rows = ap (λ state. state.kept.rows) state ∙ rows-drafted draft.change (fixed_of old).durable in
    let entries : new.learner.entries ≡ learned_with draft.change old.learner.entries draft.learnt.items = ap (λ state. state.learned) state in
    rw (rows, entries) (launches_by table draft.change old.machine _ _ old.rows new.machine.rows old.learner.entries draft.learnt.items steady.supplied before applied)

-- ---- A replica with more room

-- one that is alike knows the same
pub state-alike : (new old : Core) → IsAlikeCore new old → state_of new ≡ state_of old
state-alike new old alike =
    rw (alike.tried, alike.acceptor.promised, alike.acceptor.votes, alike.acceptor.base, alike.rows, alike.learner.entries, alike.term, alike.seen) refl

pub identity-alike : (new old : Core) → IsAlikeCore new old → own_identity new ≡ own_identity old
identity-alike new old alike = rw (alike.me, alike.members) refl

-- and what holds of each replica holds of it
pub whole-alike : (new old : Core) → IsAlikeCore new old → IsWhole old → IsWhole new
whole-alike new old alike whole =
    record {
      me = rw (alike.me, alike.members) whole.me;
      few = rw alike.members whole.few;
      base = rw (alike.learner.base, alike.acceptor.base) whole.base;
      flies = rw (alike.learner.base, alike.learner.entries, alike.term) whole.flies;
      counts = rw (alike.high_count, alike.machine) whole.counts;
      cursors = rw alike.machine whole.cursors;
      base_cursors = rw alike.rows whole.base_cursors;
    }

-- What a step has learned is taken over, with a launch table or without.
use Rattle.std.proofs.Common.{◌≡◌, ℕ, ◌-◌, List, [], Option, None, Some, max, refl, sym, ap, ◌∙◌, arith, unwrap_or}
use Rattle.std.proofs.lemmas.List.{drop_all}
use Rattle.due_set.specs.Table.{Table}
use Rattle.launch_machine.specs.Machine.{Launches}
use Rattle.learner_core.specs.Learner.{LearnerState, IsRebased}
use Rattle.learner_core.specs.Learner as learned
use Rattle.paxos_base.specs.declared.entry.Entry.{Entry}
use Rattle.step_spec.specs.declared.out.LearntRow.{LearntRow}
use Rattle.replica_draft.specs.Draft.{entries_in}
use Rattle.replica_draft.specs.declared.change.Change.{Change}
use Rattle.replica_draft.specs.declared.change.Change.TheVariants as change
use Rattle.replica_draft.specs.declared.change.Rebased.{Rebased}
use Rattle.replica_core.specs.Commit.{HasLearnedAll, LearnsAll, entries_with, launches_of}
use Rattle.replica_core.specs.Counts.{highest_count}
use Rattle.replica_core.specs.Replica.{BringsTable}
use Rattle.replica_core.specs.declared.parts.Core.{Core}
use Rattle.replica_core.proofs.SnapLemmas.{base-plain, learned-plain, rows-plain}

launches-plain : (made : Option Change) (machine : Launches) → ((rebased : Rebased) → made ≡ Some (change.Rebased rebased) → ⊥) → launches_of made machine ≡ machine
launches-plain None machine plain = refl
launches-plain (Some (change.Tried ballot)) machine plain = refl
launches-plain (Some (change.Promised ballot)) machine plain = refl
launches-plain (Some (change.Voted vote)) machine plain = refl
launches-plain (Some (change.Rebased rebased)) machine plain = absurd (plain rebased refl)

entries-plain : (made : Option Change) (entries : List Entry) → ((rebased : Rebased) → made ≡ Some (change.Rebased rebased) → ⊥) → entries_with made entries ≡ entries
entries-plain None entries plain = refl
entries-plain (Some (change.Tried ballot)) entries plain = refl
entries-plain (Some (change.Promised ballot)) entries plain = refl
entries-plain (Some (change.Voted vote)) entries plain = refl
entries-plain (Some (change.Rebased rebased)) entries plain = absurd (plain rebased refl)

-- without a new base, what was learned is behind what there was
pub learned-rows : (table : Table) (made : Option Change) (rows : List LearntRow) (old new : Core) (ended : ℕ) → ((rebased : Rebased) → made ≡ Some (change.Rebased rebased) → ⊥)
    → LearnsAll table old.learner new.learner old.machine new.machine (entries_in rows) ended
    → new ≡ record old { learner = new.learner; machine = new.machine; high_count = max old.high_count ended } → HasLearnedAll table made rows old new
learned-rows table made rows old new ended plain all is =
    let high : new.high_count ≡ max old.high_count ended = ap (λ (core : Core). core.high_count) is in
    record {
      same = is
          ∙ ap (λ count. record old { learner = new.learner; machine = new.machine; high_count = count }) (sym high)
          ∙ ap (λ table. record old { learner = new.learner; rows = table; machine = new.machine; high_count = new.high_count }) (sym (rows-plain made old.rows plain));
      base = all.base ∙ sym (base-plain made old.learner.base plain);
      learned = all.learned ∙ sym (learned-plain made old.learner.entries rows plain);
      applied = rw (launches-plain made old.machine plain, entries-plain made (entries_in rows) plain) all.applied;
      stands = all.stands;
      counts = λ counted. rw (high, counted) (sym all.highest);
    }

-- behind a new base is what was learned since, and nothing else
pub learned-since : (table : Table) (rebased : Rebased) (rows : List LearntRow) (old new : Core) (middle : LearnerState) (high ended : ℕ)
    → BringsTable table old.machine old.learner.base (learned.learned_prefix old.learner) rebased → IsRebased old.learner middle rebased.slot
    → LearnsAll table middle new.learner (unwrap_or rebased.machine old.machine) new.machine rebased.since ended
    → (old.high_count ≡ highest_count old.machine.rows → high ≡ highest_count (unwrap_or rebased.machine old.machine).rows)
    → new ≡ record old { learner = new.learner; rows = rebased.rows; machine = new.machine; high_count = max high ended }
    → HasLearnedAll table (Some (change.Rebased rebased)) rows old new
learned-since table rebased rows old new middle high ended has begins all counts is =
    let count : new.high_count ≡ max high ended = ap (λ (core : Core). core.high_count) is in
    let gone : middle.entries ≡ [] = begins.entries ∙ drop_all (rebased.slot - old.learner.base) old.learner.entries (omega (arith, has.up)) in
    record {
      same = is ∙ ap (λ most. record old { learner = new.learner; rows = rebased.rows; machine = new.machine; high_count = most }) (sym count);
      base = all.base ∙ begins.base_is;
      learned = all.learned ∙ rw gone refl;
      applied = all.applied;
      stands = all.stands;
      counts = λ counted. rw (count, counts counted) (sym all.highest);
    }

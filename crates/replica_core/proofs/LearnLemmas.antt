-- Entries that are learned and applied, one after another.
use Rattle.std.proofs.Common.{◌≡◌, ℕ, ◌+◌, ◌≤◌, ◌<◌, ◌^◌, List, [], ◌∷◌, ◌++◌, append_assoc, append-nil, length, take, get_or, max, refl, sym, ap, subst, ◌∙◌, arith}
use Rattle.std.proofs.lemmas.List.{get_or-map, length-map, take_all, take_more}
use Rattle.due_set.specs.Table.{Table}
use Rattle.launch_machine.specs.Clerk.{Applies, AppliesAll}
use Rattle.launch_machine.specs.Machine.{Launches, StandsFor, CountsBelow}
use Rattle.launch_machine.proofs.ClerkLemmas.{AppliesAll-push}
use Rattle.learner_core.specs.Learner.{LearnerState, HasLearnedOne}
use Rattle.paxos_base.specs.declared.entry.Entry.{Entry}
use Rattle.step_spec.specs.declared.out.LearntRow.{LearntRow}
use Rattle.replica_draft.specs.Draft.{entries_in}
use Rattle.replica_core.specs.Commit.{LearnsAll}
use Rattle.replica_core.specs.Counts.{count_raised, highest_count}
use Rattle.replica_core.proofs.CountLemmas.{counts_applied, highest-applied}

-- The first of some entries are learned and applied, and there is room for the others. The count is the highest of those that one of
-- them may have raised.
pub record Learning (table : Table) (first learner : LearnerState) (start machine : Launches) (entries : List Entry) (n raised : ℕ) : Type 0 where
  pub base : learner.base ≡ first.base
  pub learned : learner.entries ≡ first.entries ++ take n entries
  pub room : length entries ≤ learner.spare + n
  pub applied : AppliesAll table start.rows (take n entries) machine.rows
  pub stands : StandsFor table machine
  pub counts : CountsBelow (2 ^ 31 + n) machine.rows
  pub highest : highest_count machine.rows ≡ max (highest_count start.rows) raised

-- at first nothing is learned
pub Learning-none : (table : Table) (first : LearnerState) (start : Launches) (entries : List Entry) → length entries ≤ first.spare → StandsFor table start → CountsBelow (2 ^ 31) start.rows
    → Learning table first first start start entries 0 0
Learning-none table first start entries room stands counts =
    record { base = refl; learned = sym (append-nil first.entries); room = omega (arith, room); applied = refl; stands = stands; counts = counts; highest = omega arith }

-- one entry more
pub Learning-next : (table : Table) (first learner later : LearnerState) (start machine next : Launches) (entries : List Entry) (n raised higher : ℕ) (none entry : Entry) → n < length entries
    → get_or entries n none ≡ entry → Learning table first learner start machine entries n raised → HasLearnedOne learner later entry → learner.spare ≤ later.spare + 1
    → Applies table machine.rows entry next.rows → StandsFor table next
    → higher ≡ max raised (count_raised table next.rows entry) → Learning table first later start next entries (n + 1) higher
Learning-next table first learner later start machine next entries n raised higher none entry within is known learned spare applies stands higher_is =
    let more : take (n + 1) entries ≡ take n entries ++ entry ∷ [] = take_more entries n none within ∙ ap (λ e. take n entries ++ e ∷ []) is in
    let same : 2 ^ 31 + n + 1 ≡ 2 ^ 31 + (n + 1) = omega arith in
    let here = highest-applied table machine.rows entry next.rows applies in
    let before = known.highest in
    record {
      base = learned.base ∙ known.base;
      learned = learned.entries ∙ ap (λ (some : List Entry). some ++ entry ∷ []) known.learned
          ∙ append_assoc first.entries (take n entries) (entry ∷ []) ∙ ap (λ (some : List Entry). first.entries ++ some) (sym more);
      room = omega (arith, known.room, spare);
      applied = rw more (AppliesAll-push table start.rows (take n entries) entry machine.rows next.rows known.applied applies);
      stands = stands;
      counts = subst (λ (limit : ℕ). CountsBelow limit next.rows) same (counts_applied table machine.rows entry next.rows (2 ^ 31 + n) applies known.counts);
      highest = omega (arith, here, before, higher_is);
    }

-- at the end all are learned
pub Learning-all : (table : Table) (first learner : LearnerState) (start machine : Launches) (entries : List Entry) (n raised : ℕ) → length entries ≤ n → Learning table first learner start machine entries n raised
    → LearnsAll table first learner start machine entries raised
Learning-all table first learner start machine entries n raised past known =
    let all : take n entries ≡ entries = take_all n entries past in
    record { base = known.base; learned = known.learned ∙ ap (λ some. first.entries ++ some) all; applied = rw all at known.applied; stands = known.stands; highest = known.highest }

-- the entries of rows
pub entry-of : (rows : List LearntRow) (n : ℕ) (row : LearntRow) (none : Entry) → n < length rows → get_or (entries_in rows) n none ≡ (get_or rows n row).entry
entry-of rows n row none within = get_or-map (λ (row : LearntRow). row.entry) rows n row none within

pub entries-many : (rows : List LearntRow) → length (entries_in rows) ≡ length rows
entries-many rows = length-map rows (λ (row : LearntRow). row.entry)

-- What follows where the log and what is held fit together.
use Rattle.std.proofs.Common.{◌≡◌, ◌≢◌, ℕ, ◌<◌, inl, inr, ◌↔◌, List, ◌∷◌, ◌++◌, length, get_or, Some, ℤ, ◌<ℤ◌, sym, ap, ◌∙◌, subst}
use Rattle.std.specs.Prelude.{Contains}
use Rattle.std.proofs.lemmas.Bool.{cases_order}
use Rattle.std.proofs.lemmas.List.{get_or_default}
use Rattle.std.proofs.lemmas.List.Elements.{All-contains}
use Rattle.jiff.specs.Types.{TimeZone}
use Rattle.paxos_base.specs.declared.entry.Entry.{Entry}
use Rattle.paxos_base.specs.declared.entry.Entry.TheVariants.{End}
use Rattle.paxos_base.specs.declared.entry.Kind.{Kind}
use Rattle.paxos_base.specs.declared.entry.Kind.TheVariants.{Launch}
use Rattle.due_set.specs.Anacron.{IsPeriodOver}
use Rattle.due_set.specs.Calls.{HasCome, IsOnTime}
use Rattle.due_set.specs.Due.{IsRising}
use Rattle.due_set.specs.Table.{Job, Table, IsJobDue, IsJobIn, IsRunByPeriod, job_of_version}
use Rattle.due_set.specs.declared.job.JobKind.TheVariants.{Anacron}
use Rattle.due_set.specs.declared.job.Period.{Period}
use Rattle.cluster_sched.specs.Held.{AreNamedOnce}
use Rattle.cluster_sched.specs.declared.row.Name.{Name}
use Rattle.cluster_sched.specs.declared.row.SchedRow.{SchedRow}
use Rattle.launch_machine.specs.Starts.{AdoptionsOf, StartsOf}
use Rattle.launch_machine.specs.Versions.{IsFrontUnder, RunsByInstants}
use Rattle.launch_machine.proofs.MachineLemmas.{opens_by_period}
use Rattle.launch_safety.specs.Fits.{Fits, HasStart, HasEnd, IsBacked, IsStartedUnder}
use Rattle.launch_safety.specs.Launched.{IsWanted, LaunchesEachDue, OpensBy}
use Rattle.launch_safety.proofs.CoverLemmas.{HasStart-more}
use Rattle.launch_safety.proofs.EffectLemmas.{was_started}
use Rattle.launch_safety.proofs.OpenLemmas.{start_before}

pub name_is : (a b : Name) → a.job ≡ b.job → a.at ≡ b.at → a ≡ b
name_is a b size instants =
    let make : ℕ → ℤ → Name = λ j t. record { job = j; at = t } in
    let both : make a.job a.at ≡ make b.job b.at = ap (λ (j : ℕ). make j a.at) size ∙ ap (make b.job) instants in
    both

-- rows at two places have two names
apart : (held : List SchedRow) (a b : SchedRow) (i j : ℕ) → AreNamedOnce held → i < j → i < length held → j < length held
    → get_or held i a ≡ a → get_or held j b ≡ b → a.name ≢ b.name
apart held a b i j once lt in_i in_j at_i at_j same =
    let at_j' : get_or held j a ≡ b = get_or_default held j a b in_j ∙ at_j in
    once i j a lt in_j (ap (λ (r : SchedRow). r.name) at_i ∙ same ∙ sym (ap (λ (r : SchedRow). r.name) at_j'))

-- two rows of one launch are one row
pub row_once : (held : List SchedRow) (a b : SchedRow) → AreNamedOnce held → Contains held a → Contains held b → a.name.job ≡ b.name.job → a.name.at ≡ b.name.at
    → a ≡ b
row_once held a b once (i, in_i, at_i) (j, in_j, at_j) size instants =
    let same : a.name ≡ b.name = name_is a.name b.name size instants in
    elim (cases_order i j) [
      | inl e ↦ sym at_i ∙ get_or_default held i a b in_i ∙ ap (λ (k : ℕ). get_or held k b) e ∙ at_j
      | inr (inl lt) ↦ absurd (apart held a b i j once lt in_i in_j at_i at_j same)
      | inr (inr gt) ↦ absurd (apart held b a j i once gt in_j in_i at_j at_i (sym same))
    ]

pub held_once : (table : Table) (log : List Entry) (held : List SchedRow) (a b : SchedRow) → Fits table log held → Contains held a → Contains held b
    → a.name.job ≡ b.name.job → a.name.at ≡ b.name.at → a ≡ b
held_once table log held a b fits in_a in_b size instants = row_once held a b fits.once in_a in_b size instants

-- an end says what is held
pub end_held : (table : Table) (log : List Entry) (held : List SchedRow) (job : ℕ) (at : ℤ) (kind : Kind) → Fits table log held → HasEnd table log job at kind
    → (row : SchedRow) × Contains held row × (row.name.job ≡ job) × (row.name.at ≡ at) × (row.kind ≡ kind)
end_held table log held job at kind fits ended =
    let found = fits.ended job at kind ended in (found.row, found.among, found.of_job, found.due_at, found.of_kind)

-- and says it of each row of the launch
pub end_kind : (table : Table) (log : List Entry) (held : List SchedRow) (row : SchedRow) (kind : Kind) → Fits table log held → Contains held row
    → HasEnd table log row.name.job row.name.at kind → row.kind ≡ kind
end_kind table log held row kind fits among ended =
    let found = fits.ended row.name.job row.name.at kind ended in
    let same : found.row ≡ row = row_once held found.row row fits.once found.among among found.of_job found.due_at in
    sym (ap (λ (r : SchedRow). r.kind) same) ∙ found.of_kind

backed_row : (table : Table) (log : List Entry) (held : List SchedRow) (row : SchedRow) → Fits table log held → Contains held row → IsBacked table log row
backed_row table log held row fits among = All-contains (IsBacked table log) held row fits.backed among

pub held_started : (table : Table) (log : List Entry) (held : List SchedRow) (row : SchedRow) → Fits table log held → Contains held row
    → HasStart table log row.name.job row.name.at
held_started table log held row fits among =
    let known = backed_row table log held row fits among in was_started table log known.version row.name.job row.name.at known.start

pub held_called : (table : Table) (log : List Entry) (held : List SchedRow) (row : SchedRow) → Fits table log held → Contains held row
    → (version : ℕ) × (job : Job) × (zone : TimeZone) × IsStartedUnder table log version row.name.job row.name.at × IsJobIn table version row.name.job job zone
    × HasCome job.kind zone row.name.at row.now.0 × ((row.kind ≡ Launch) ↔ IsOnTime job.kind zone table.grace row.name.at row.now.0)
held_called table log held row fits among =
    let known = backed_row table log held row fits among in
    (known.version, known.spec, known.zone, known.start, known.is_in, known.come, known.kind known.spec known.zone known.is_in)

pub start_before_end : (table : Table) (log : List Entry) (job : ℕ) (at : ℤ) (kind : Kind) → HasEnd table log job at kind
    → (before : List Entry) × (after : List Entry) × (log ≡ before ++ End job at kind ∷ after) × HasStart table before job at
start_before_end table log job at kind ended =
    (ended.before, ended.after, ended.parts, start_before table ended.before ended.takes.0 job at ended.takes.1 ended.takes.2)

-- what has ended was started
pub end_started : (table : Table) (log : List Entry) (job : ℕ) (at : ℤ) (kind : Kind) → HasEnd table log job at kind → HasStart table log job at
end_started table log job at kind ended =
    let found = start_before_end table log job at kind ended in
    subst (λ (l : List Entry). HasStart table l job at) (sym found.2) (HasStart-more table found.0 (End job at kind ∷ found.1) job at found.3)

pub starts_of_fits : (table : Table) (log : List Entry) (held : List SchedRow) (job : ℕ) → Fits table log held
    → (instants : List ℤ) × StartsOf table log job instants × IsRising instants
starts_of_fits table log held job fits =
    let known = fits.in_order job in (known.instants, known.starts, known.rising)

pub front_of_fits : (table : Table) (log : List Entry) (held : List SchedRow) (job : ℕ) → Fits table log held → RunsByInstants table job
    → (instants : List ℤ) × (adoptions : List ℤ) × StartsOf table log job instants × AdoptionsOf table log adoptions × IsFrontUnder table adoptions job instants
front_of_fits table log held job fits plain =
    let known = fits.in_order job in (known.instants, known.adoptions, known.starts, known.adopted, known.first plain)

pub apart_of_fits : (table : Table) (log : List Entry) (held : List SchedRow) (a b : SchedRow) (version : ℕ) (job : Job) (period : Period) (first last : ℕ)
    → Fits table log held → Contains held a → Contains held b → a.name.job ≡ b.name.job → a.kind ≡ Launch → b.kind ≡ Launch → a.name.at <ℤ b.name.at
    → IsStartedUnder table log version b.name.job b.name.at → job_of_version table version b.name.job ≡ Some job → job.kind ≡ Anacron period first last
    → IsPeriodOver period a.name.at b.name.at
apart_of_fits table log held a b version job period first last fits in_a in_b size a_launch b_launch lt start is_job kind =
    fits.apart a b in_a in_b size a_launch b_launch lt version start job period first last is_job kind

-- where each due instant is launched, one row is held for each, a launch
pub launched_each : (table : Table) (held : List SchedRow) (job : ℕ) (at : ℤ) → LaunchesEachDue table held → IsJobDue table 0 job at
    → (row : SchedRow) × Contains held row × (row.name.job ≡ job) × (row.name.at ≡ at) × (row.kind ≡ Launch)
launched_each table held job at launched due =
    let found = launched.each job at due in (found.row, found.among, found.of_job, found.due_at, found.of_kind)

pub launched_date : (table : Table) (held : List SchedRow) (job : ℕ) (now date : ℤ) → LaunchesEachDue table held → OpensBy table held job now date
    → (row : SchedRow) × Contains held row × (row.name.job ≡ job) × (row.name.at ≡ date) × (row.kind ≡ Launch) × (row.now.0 ≡ now)
launched_date table held job now date launched opens =
    let found = launched.each_date job now date opens in (found.row, found.among, found.of_job, found.due_at, found.of_kind, found.called)

pub launched_wanted : (table : Table) (held : List SchedRow) (row : SchedRow) → LaunchesEachDue table held → Contains held row
    → IsWanted table held row × (row.kind ≡ Launch)
launched_wanted table held row launched among =
    All-contains (λ (r : SchedRow). IsWanted table held r × (r.kind ≡ Launch)) held row launched.no_other among

-- and a job that doesn't run by its period is due then
pub launched_due : (table : Table) (held : List SchedRow) (row : SchedRow) → LaunchesEachDue table held → Contains held row → (IsRunByPeriod table row.name.job → ⊥)
    → IsJobDue table 0 row.name.job row.name.at
launched_due table held row launched among other = elim (launched_wanted table held row launched among).0 [
  | inl due ↦ due
  | inr by ↦ absurd (other (opens_by_period table row.name.job by.last by.last row.now.0 row.name.at by.opens))
]

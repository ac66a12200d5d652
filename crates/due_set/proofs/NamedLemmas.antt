-- What a job's name says of how it runs.
use Rattle.std.proofs.Common.{◌≡◌, ℕ, true, false, ◌<◌, List, length, map, get_or, Option, Some, ℤ, sym, ap, ◌∙◌, subst, arith}
use Rattle.std.specs.Prelude.{slice_get}
use Rattle.std.proofs.lemmas.List.{get_or-map}
use Rattle.std.proofs.lemmas.Option.{slice_get_within, get_or_from_slice_get}
use Rattle.due_set.specs.Anacron.{IsJobOpen}
use Rattle.due_set.specs.Table.{IsAnacron, IsJobDue, IsKindOfName, IsSound, Job, Table, is_by_period, is_period_name, job_of_version, jobs_in, name_of, own_name}
use Rattle.due_set.specs.declared.job.JobKind.{JobKind}
use Rattle.due_set.specs.declared.job.JobKind.TheVariants.{Anacron, Crontab, Never}
use Rattle.due_set.proofs.SoundLemmas.{at_place, has_version, jobs_of_version, length_of_version}
use Rattle.due_set.proofs.TableLemmas.{All-slice_get}

-- a job that a version has stands in the table under the same name
pub named_in_table : (table : Table) (version number : ℕ) (job : Job) → IsSound table → job_of_version table version number ≡ Some job
    → (first : Job) × (slice_get table.jobs number ≡ Some first) × (first.name ≡ job.name)
named_in_table table version number job sound is_job =
    let known = has_version table version number job sound is_job in
    let jobs = jobs_in table version in
    let names : map own_name jobs ≡ map own_name table.jobs = (jobs_of_version table version sound known).names in
    let count = length_of_version table version sound known in
    let lt : number < length jobs = slice_get_within jobs number job is_job in
    let below : number < length table.jobs = omega (arith, count, lt) in
    let first = at_place table.jobs number below in
    let at_jobs : get_or (map own_name jobs) number job.name ≡ job.name =
    get_or-map own_name jobs number job job.name lt ∙ ap own_name (get_or_from_slice_get jobs number job job is_job) in
    let at_table : get_or (map own_name table.jobs) number job.name ≡ first.0.name =
    get_or-map own_name table.jobs number first.0 job.name below ∙ ap own_name (get_or_from_slice_get table.jobs number first.0 first.0 first.1) in
    (first.0, first.1, sym at_table ∙ sym (ap (λ (l : List (List ℕ)). get_or l number job.name) names) ∙ at_jobs)

pub kind_of_name : (table : Table) (version number : ℕ) (job : Job) → IsSound table → job_of_version table version number ≡ Some job → IsKindOfName job.name job.kind
kind_of_name table version number job sound is_job =
    let known = has_version table version number job sound is_job in
    All-slice_get (λ j. IsKindOfName j.name j.kind) (jobs_in table version) number job (jobs_of_version table version sound known).kinds is_job

-- whether a job that a version has runs by its period says its name
says_of : (table : Table) (version number : ℕ) (job : Job) → IsSound table → job_of_version table version number ≡ Some job
    → is_by_period table number ≡ is_period_name job.name
says_of table version number job sound is_job =
    let first = named_in_table table version number job sound is_job in
    ap (λ found. is_period_name (name_of found)) first.1 ∙ ap is_period_name first.2

-- a job that may open runs by its period
pub opening_says : (table : Table) (version number : ℕ) (last cursor : Option ℤ) (now date : ℤ) → IsSound table
    → IsJobOpen table version number last cursor now date → is_by_period table number ≡ true
opening_says table version number last cursor now date sound opens =
    says_of table version number opens.job sound opens.is_in.is_job
    ∙ subst (IsKindOfName opens.job.name) opens.kind (kind_of_name table version number opens.job sound opens.is_in.is_job)

-- a job that is due doesn't
pub due_says : (table : Table) (version number : ℕ) (at : ℤ) → IsSound table → IsJobDue table version number at → is_by_period table number ≡ false
due_says table version number at sound due =
    says_of table version number due.job sound due.is_in.is_job
    ∙ subst (IsKindOfName due.job.name) due.kind (kind_of_name table version number due.job sound due.is_in.is_job)

-- a job that doesn't run once in a period may have each name without a `/`
pub plain_kind : (name : List ℕ) (kind : JobKind) → (IsAnacron kind → ⊥) → is_period_name name ≡ false → IsKindOfName name kind
plain_kind name (Crontab fields) plain says = says
plain_kind name (Anacron period first last) plain says = absurd (plain tt)
plain_kind name Never plain says = tt

-- A table of two versions of two jobs stands.
use Rattle.std.proofs.Common.{◌≡◌, ◌<◌, List, [], ◌∷◌, ℤ, pos, map, refl, ap, ◌∙◌, arith}
use Rattle.std.specs.Prelude.{codes}
use Rattle.std.proofs.lemmas.List.Elements.{All-nil, All-cons}
use Rattle.cron_fields.specs.declared.field.Fields.{Fields}
use Rattle.zone_minutes.specs.Zone.{Zone}
use Rattle.due_set.specs.Table.{AreKindsOfNames, AreNamesDistinct, AreZonesBelow, IsBuiltFor, IsKindOfName, IsSound, IsVersionOf, Job, Table, Version, job_of, table_of_versions, version_of}
use Rattle.due_set.specs.declared.job.JobKind.{JobKind}
use Rattle.due_set.specs.declared.job.VersionSpec.{VersionSpec}
use Rattle.launch_tests.specs.Versions.{HasTwoJobs, alices_entry, bobs_job, first_hour}

-- from half past on
abbrev pub half : ℤ
half = pos 28_530_750

abbrev pub jobs : Fields → JobKind → List Job
jobs fields kind = alices_entry fields ∷ bobs_job kind ∷ []

abbrev pub versions_of : Fields → JobKind → Fields → JobKind → List Version
versions_of one first other second =
    record { from = first_hour.from.0; jobs = jobs one first } ∷ record { from = half; jobs = jobs other second } ∷ []

abbrev pub table : Zone → Fields → JobKind → Fields → JobKind → Table
table zone one first other second = table_of_versions first_hour 5 (zone ∷ []) (versions_of one first other second)

-- what two versions of two jobs each come to
pub record AreTwo (items : List VersionSpec) : Type 0 where
  pub one : Fields
  pub first : JobKind
  pub first_is : IsKindOfName (codes "bob/2") first
  pub other : Fields
  pub second : JobKind
  pub second_is : IsKindOfName (codes "bob/2") second
  pub are : map version_of items ≡ versions_of one first other second

-- two versions of two jobs each
pub two_are : (items : List VersionSpec) (a b : VersionSpec) → items ≡ a ∷ b ∷ [] → a.from ≡ first_hour.from → b.from ≡ record { 0 = half }
    → HasTwoJobs (map job_of a.jobs.items) → HasTwoJobs (map job_of b.jobs.items) → AreTwo items
two_are items a b is from_a from_b (one, first, first_is, jobs_a) (other, second, second_is, jobs_b) =
    let both : version_of a ∷ version_of b ∷ [] ≡ versions_of one first other second = rw (from_a, jobs_a, from_b, jobs_b) refl in
    record { one = one; first = first; first_is = first_is; other = other; second = second; second_is = second_is; are = ap (map version_of) is ∙ both }

zones : (fields : Fields) (kind : JobKind) → AreZonesBelow 1 (jobs fields kind)
zones fields kind =
    All-cons (λ job. job.zone < 1) (alices_entry fields) (bobs_job kind ∷ []) (omega arith)
    (All-cons (λ job. job.zone < 1) (bobs_job kind) [] (omega arith) (All-nil (λ job. job.zone < 1)))

kinds : (fields : Fields) (kind : JobKind) → IsKindOfName (codes "bob/2") kind → AreKindsOfNames (jobs fields kind)
kinds fields kind is =
    All-cons (λ job. IsKindOfName job.name job.kind) (alices_entry fields) (bobs_job kind ∷ []) refl
    (All-cons (λ job. IsKindOfName job.name job.kind) (bobs_job kind) [] is (All-nil (λ job. IsKindOfName job.name job.kind)))

distinct : (fields : Fields) (kind : JobKind) → AreNamesDistinct (jobs fields kind)
distinct fields kind = grind arith

pub sound : (zone : Zone) (one : Fields) (first : JobKind) (other : Fields) (second : JobKind) → IsBuiltFor first_hour zone
    → IsKindOfName (codes "bob/2") first → IsKindOfName (codes "bob/2") second → IsSound (table zone one first other second)
sound zone one first other second built first_is second_is = record {
  limits = record { since = grind arith; until = grind arith; ordered = grind arith; short = grind arith };
  grace = omega arith;
  built = All-cons (IsBuiltFor first_hour) zone [] built (All-nil (IsBuiltFor first_hour));
  zone_numbers = zones one first;
  few = omega arith;
  distinct = distinct one first;
  kinds = kinds one first first_is;
  versions = record {
    few = omega arith;
    each = All-cons (IsVersionOf (table zone one first other second)) (record { from = half; jobs = jobs other second }) [] (record {
      inside = record { since = grind arith; before = grind arith };
      names = refl;
      zone_numbers = zones other second;
      kinds = kinds other second second_is;
    }) (All-nil (IsVersionOf (table zone one first other second)));
    in_order = λ i j d before within. absurd (omega (arith, before, within));
  };
}

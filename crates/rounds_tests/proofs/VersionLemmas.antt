-- A table of two versions of one entry stands.
use Rattle.std.proofs.Common.{◌≡◌, ◌<◌, List, [], ◌∷◌, ℤ, pos, map, refl, ap, ◌∙◌, arith}
use Rattle.std.proofs.lemmas.List.Elements.{All-nil, All-cons}
use Rattle.cron_fields.specs.declared.field.Fields.{Fields}
use Rattle.zone_minutes.specs.Zone.{Zone}
use Rattle.due_set.specs.Table.{IsBuiltFor, IsKindOfName, IsSound, IsVersionOf, Table, Version, job_of, table_of_versions, version_of}
use Rattle.due_set.specs.declared.job.VersionSpec.{VersionSpec}
use Rattle.zone_minutes.specs.declared.minute.Window.{Window}
use Rattle.rounds_tests.specs.Versions.{IsAlicesEntry, alices_entry}

-- the hour from 2024-03-31T00:00Z on
abbrev pub hour : Window
hour = record { from = record { 0 = pos 28_530_720 }; until = record { 0 = pos 28_530_780 } }

-- from half past on
abbrev pub half : ℤ
half = pos 28_530_750

abbrev pub versions_of : Fields → Fields → List Version
versions_of one other =
    record { from = hour.from.0; jobs = alices_entry one ∷ [] } ∷ record { from = half; jobs = alices_entry other ∷ [] } ∷ []

abbrev pub table : Zone → Fields → Fields → Table
table zone one other = table_of_versions hour 5 (zone ∷ []) (versions_of one other)

-- two versions of one entry each
pub two_are : (items : List VersionSpec) (a b : VersionSpec) → items ≡ a ∷ b ∷ [] → a.from ≡ hour.from → b.from ≡ record { 0 = half } → IsAlicesEntry (map job_of a.jobs.items)
    → IsAlicesEntry (map job_of b.jobs.items) → (one : Fields) × (other : Fields) × (map version_of items ≡ versions_of one other)
two_are items a b is from_a from_b (one, jobs_a) (other, jobs_b) =
    let both : version_of a ∷ version_of b ∷ [] ≡ versions_of one other = rw (from_a, jobs_a, from_b, jobs_b) refl in
    (one, other, ap (map version_of) is ∙ both)

pub sound : (zone : Zone) (one other : Fields) → IsBuiltFor hour zone → IsSound (table zone one other)
sound zone one other built = record {
  limits = record { since = grind arith; until = grind arith; ordered = grind arith; short = grind arith };
  grace = omega arith;
  built = All-cons (IsBuiltFor hour) zone [] built (All-nil (IsBuiltFor hour));
  zone_numbers = All-cons (λ job. job.zone < 1) (alices_entry one) [] (omega arith) (All-nil (λ job. job.zone < 1));
  few = omega arith;
  distinct = λ i j d before within. absurd (omega (arith, before, within));
  kinds = All-cons (λ job. IsKindOfName job.name job.kind) (alices_entry one) [] refl (All-nil (λ job. IsKindOfName job.name job.kind));
  versions = record {
    few = omega arith;
    each = All-cons (IsVersionOf (table zone one other)) (record { from = half; jobs = alices_entry other ∷ [] }) [] (record {
      inside = record { since = grind arith; before = grind arith };
      names = refl;
      zone_numbers = All-cons (λ job. job.zone < 1) (alices_entry other) [] (omega arith) (All-nil (λ job. job.zone < 1));
      kinds = All-cons (λ job. IsKindOfName job.name job.kind) (alices_entry other) [] refl (All-nil (λ job. IsKindOfName job.name job.kind));
    }) (All-nil (IsVersionOf (table zone one other)));
    in_order = λ i j d before within. absurd (omega (arith, before, within));
  };
}

-- A run whose table is taken, or isn't.
use Rattle.std.proofs.Common.{◌≡◌, ℕ, ◌<◌, ◌≤◌, List, length, map, refl, ap, ◌∙◌, sym, subst, inl, inr, arith}
use Rattle.std.specs.Prelude.{All, zip}
use Rattle.std.proofs.lemmas.List.{length-map}
use Rattle.due_set.specs.Table.{Job, Table, Version, IsBuiltFor, IsSound, own_name, table_of_versions}
use Rattle.run_text.specs.Reading.{IsRunText}
use Rattle.run_text.specs.Run.{Run}
use Rattle.run_text.specs.declared.refusal.Refusal.{Refusal}
use Rattle.job_table.specs.Table.{jobs_of, names_in, table_of, IsDueCount, IsTableOf, IsRefusedRun}
use Rattle.job_table.specs.Zones.{AreReadable, zones_over}
use Rattle.job_table.specs.Versions.{version_froms, version_under}
use Rattle.zone_minutes.specs.Zone.{Zone}
use Rattle.job_table.proofs.DueCountLemmas.{due_count}
use Rattle.job_table.proofs.GatheredLemmas.{AreGathered, table_is}
use Rattle.job_table.proofs.SoundTableLemmas.{sound_table}

-- how many jobs the first version has under the names of all
size_of : (run : Run) (first : List Job) (later : List (List Job)) (all : AreGathered run first later) → length first ≡ length (names_in all.marks)
size_of run first later all = sym (length-map first own_name) ∙ ap length all.names

-- the table that is assembled is sound
pub sound_assembled : (text : List ℕ) (run : Run) (first : List Job) (later : List (List Job)) (all : AreGathered run first later) (zones : List Zone) (specs : List Version)
    → IsRunText text run → zones ≡ zones_over run.window run.zones → All (IsBuiltFor run.window) zones → length first ≤ 1000
    → specs ≡ map (version_under (names_in all.marks)) (zip (version_froms run) (map jobs_of all.marks)) → IsSound (table_of_versions run.window run.grace zones specs)
sound_assembled text run first later all zones specs says zones_are built few is =
    let table = table_of_versions run.window run.grace zones specs in
    subst IsSound (sym (table_is run first later all zones specs table zones_are is refl))
    (sound_table text run all.marks says all.are all.sound (omega (arith, size_of run first later all)) (subst (All (IsBuiltFor run.window)) zones_are built))

-- too many jobs
pub too_many_jobs : (run : Run) (first : List Job) (later : List (List Job)) (refusal : Refusal) → AreReadable run.zones → AreGathered run first later → 1000 < length first
    → refusal.line ≡ 0 → refusal.cause ≡ 23 → refusal.place ≡ 0 → IsRefusedRun run refusal
too_many_jobs run first later refusal readable all many line cause place =
    inr (record {
      readable = readable;
      marks = all.marks;
      are = all.are;
      why = inr (inl (record { sound = all.sound; many = omega (arith, size_of run first later all); is = rw (line, cause, place) refl }));
    })

-- too many due instants
pub too_many_due : (run : Run) (first : List Job) (later : List (List Job)) (table : Table) (refusal : Refusal) → AreReadable run.zones → (all : AreGathered run first later)
    → length first ≤ 1000 → IsSound table → table ≡ table_of run all.marks → ((count : ℕ) → IsDueCount table count → 20_000 < count)
    → refusal.line ≡ 0 → refusal.cause ≡ 24 → refusal.place ≡ 0 → IsRefusedRun run refusal
too_many_due run first later table refusal readable all few sound is many line cause place =
    let (count, counted) = due_count table sound in
    inr (record {
      readable = readable;
      marks = all.marks;
      are = all.are;
      why = inr (inr (record {
        sound = all.sound;
        few = omega (arith, size_of run first later all);
        count = count;
        counted = subst (λ t. IsDueCount t count) is counted;
        many = many count counted;
        is = rw (line, cause, place) refl;
      }));
    })

-- a table that is taken
pub taken : (run : Run) (first : List Job) (later : List (List Job)) (table : Table) (count : ℕ) → AreReadable run.zones → (all : AreGathered run first later) → length first ≤ 1000
    → table ≡ table_of run all.marks → IsDueCount table count → count ≤ 20_000 → IsTableOf run table
taken run first later table count readable all few is counted few_due = record {
  readable = readable;
  marks = all.marks;
  are = all.are;
  sound = all.sound;
  few_jobs = omega (arith, size_of run first later all);
  is = is;
  count = count;
  counted = counted;
  few_due = few_due;
}

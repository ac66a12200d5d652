use Rattle.std.proofs.Common.{◌≡◌, ◌++◌, ◌∷◌, [], String, refl, ◌∙◌, sym, ap, subst, map, bytes_eq, true, false}
use Rattle.std.specs.Prelude.{is_some, string_bytes}
use Rattle.std.specs.Map.{lookup}
use Rattle.std.specs.declared.alloc.Global.{Global}
use Rattle.std.proofs.lemmas.List.{map-append}
use Rattle.due_set.specs.Table.{AreNamesDistinct}
use Rattle.job_table.specs.Jobs.{named_job, entry_job, HasJob}
use Rattle.job_table.proofs.JobLemmas.{found_job, no_job, insert_new, distinct_push}
use Rattle.job_table.proofs.jobs.Jobs.add.Goals as goal

pub returns-then-contains_key : goal.returns-then-contains_key
returns-then-contains_key c =
    let found = subst (λ text. is_some (lookup (λ (k : String Global). bytes_eq text (string_bytes k)) c.self.inside.timings.entries) ≡ true) c.as_str.ensures.value
    (sym c.contains_key.ensures ∙ c.if-contains_key.true) in
    (refl, subst (HasJob (string_bytes c.args.name)) c.self.view_is (found_job c.self.inside.timings.entries (string_bytes c.args.name) found))

pub invariant_of-self-2 : goal.invariant_of-self-2
invariant_of-self-2 c =
    let absent = subst (λ text. is_some (lookup (λ (k : String Global). bytes_eq text (string_bytes k)) c.self.inside.timings.entries) ≡ false) c.as_str.ensures.value
    (sym c.contains_key.ensures ∙ c.if-contains_key.false) in
    let none = no_job c.self.inside.timings.entries (string_bytes c.args.name) absent in
    let entries = c.in_ok-insert.ensures.entries ∙ insert_new c.self.inside.timings.entries c.args.name c.args.timing none in
    let jobs = ap (map entry_job) entries ∙ map-append entry_job c.self.inside.timings.entries ((c.args.name, c.args.timing) ∷ []) in
    subst AreNamesDistinct (sym jobs) (distinct_push (map entry_job c.self.inside.timings.entries) (named_job (string_bytes c.args.name) c.args.timing.zone c.args.timing.kind) c.self.invariant none)

pub returns : goal.returns
returns c =
    let absent = subst (λ text. is_some (lookup (λ (k : String Global). bytes_eq text (string_bytes k)) c.self.inside.timings.entries) ≡ false) c.as_str.ensures.value
    (sym c.contains_key.ensures ∙ c.if-contains_key.false) in
    let none = no_job c.self.inside.timings.entries (string_bytes c.args.name) absent in
    let entries = c.in_ok-insert.ensures.entries ∙ insert_new c.self.inside.timings.entries c.args.name c.args.timing none in
    let jobs = ap (map entry_job) entries ∙ map-append entry_job c.self.inside.timings.entries ((c.args.name, c.args.timing) ∷ []) in
    (jobs ∙ ap (λ l. l ++ named_job (string_bytes c.args.name) c.args.timing.zone c.args.timing.kind ∷ []) c.self.view_is, subst (λ l. HasJob (string_bytes c.args.name) l → ⊥) c.self.view_is none)

use Rattle.std.proofs.Common.{◌≡◌, false, ◌+◌, ◌∷◌, [], ◌++◌, length, map, sym, ap, ◌∙◌, subst, length-append}
use Rattle.std.specs.Prelude.{string_bytes}
use Rattle.std.proofs.lemmas.List.{map-append}
use Rattle.due_set.specs.Table.{IsKindOfName, is_period_name, job_of}
use Rattle.launch_tests.proofs.LimitLemmas.{AreGrowing-push, plain_push}
use Rattle.launch_tests.proofs.limits.thousand_jobs.Goals as goal

pub loop-place-preserved : goal.loop-place-preserved
unfolding lib.Utf8.encode
loop-place-preserved c =
    let place = c.loop-place.place in
    let jobs = map job_of c.loop-place.jobs.items in
    let job = job_of c.in_ok-new.field-0 in
    let long : length (string_bytes c.push.new.self) ≡ place + 1 =
    ap length c.in_ok-push.ensures.bytes ∙ length-append (string_bytes c.loop-place.name) (120 ∷ []) ∙ ap (λ n. n + 1) c.loop-place.invariant.1 in
    let name : job.name ≡ string_bytes c.push.new.self = c.in_ok-new.ensures.name ∙ c.as_str.ensures.value in
    let items : map job_of c.push-in-loop-place.new.self.items ≡ jobs ++ job ∷ [] =
    ap (map job_of) c.in_ok-push-2.ensures.items ∙ map-append job_of c.loop-place.jobs.items (c.in_ok-new.field-0 ∷ []) in
    let plain : is_period_name (string_bytes c.push.new.self) ≡ false =
    ap is_period_name c.in_ok-push.ensures.bytes ∙ plain_push (string_bytes c.loop-place.name) c.loop-place.invariant.2 in
    let kind : IsKindOfName job.name job.kind = subst (IsKindOfName job.name) (sym c.in_ok-new.ensures.kind) (ap is_period_name name ∙ plain) in
    rw items (AreGrowing-push jobs job place c.loop-place.invariant.0 (ap length name ∙ long) c.in_ok-new.ensures.zone kind, long, plain)

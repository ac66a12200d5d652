use Rattle.std.proofs.Common.{◌∙◌, ap, ◌++◌, List, ℕ, ℤ, FitsSigned, string_bytes, w64, arith}
use Rattle.std.proofs.lemmas.Int.{ints, to_z-of_z}
use Rattle.zone_minutes.specs.Window.{IsInWindow, IsWithinLimits}
use Rattle.zone_minutes.specs.Zone.{local_of}
use Rattle.cluster_sched.specs.Names.{name_text}
use Rattle.cluster_sched.specs.declared.row.Name.{Name}
use Rattle.due_list.specs.DueText.{local_text}
use Rattle.due_list.proofs.LineLemmas.{due_parts, name_in}
use Rattle.due_list.proofs.due.put_due.Goals as goal

pub write_name-requires : goal.write_name-requires
write_name-requires c =
    let limits : IsWithinLimits c.args.table.now.window = c.local_of-shown.ensures.sound.limits in
    let inside : IsInWindow c.args.table.now.window c.args.at.0 = c.requires.due.inside in
    let fits : FitsSigned w64 c.args.at.0 = omega (arith, ints, limits.since, limits.until, inside.since, inside.before) in
    simp to_z-of_z (name_in c.args.table.now c.args.version c.args.job c.args.at.0 c.local_of-shown.ensures.sound c.requires.job c.requires.due)

pub returns : goal.returns
returns c = λ j zone is_in.
    let limits : IsWithinLimits c.args.table.now.window = c.local_of-shown.ensures.sound.limits in
    let inside : IsInWindow c.args.table.now.window c.args.at.0 = c.requires.due.inside in
    let fits : FitsSigned w64 c.args.at.0 = omega (arith, ints, limits.since, limits.until, inside.since, inside.before) in
    let fits_shown : FitsSigned w64 c.local_of-shown.result = omega (arith, ints, c.local_of-shown.ensures.calendar) in
    let name : Name = record { job = c.args.job; at = c.args.at.0 } in
    let named = simp to_z-of_z at c.in_ok-write_name.ensures.ok in
    let shown = simp to_z-of_z at c.in_ok-put_local.ensures in
    due_parts (string_bytes c.args.into.now) (string_bytes c.push_str.new.self) (string_bytes c.write_name.new.into) (string_bytes c.push.new.self) (string_bytes c.put_local.new.into) (string_bytes c.push-2.new.self)
    (name_text c.args.table.now name) (local_text (local_of zone c.args.at.0))
    c.in_ok-push_str.ensures.bytes named (c.in_ok-push.ensures.bytes ∙ ap (λ (l : List ℕ). string_bytes c.write_name.new.into ++ l) (c.in_ok-push.ensures.ascii (omega arith)))
    (shown ∙ ap (λ (t : ℤ). string_bytes c.push.new.self ++ local_text t) (c.local_of-shown.ensures.local j zone is_in)) (c.in_ok-push-2.ensures.bytes ∙ ap (λ (l : List ℕ). string_bytes c.put_local.new.into ++ l) (c.in_ok-push-2.ensures.ascii (omega arith)))

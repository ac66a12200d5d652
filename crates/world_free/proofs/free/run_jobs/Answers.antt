use Rattle.std.proofs.Common.{◌≡◌, ◌<◌, ℕ, suc, false, List, length, Some, arith, refl, sym, ap, ◌∙◌, subst}
use Rattle.std.specs.List.{slice_get}
use Rattle.std.specs.Prelude.{slice_index_or}
use Rattle.world_free.specs.Board.{HasShown, OnBoard}
use Rattle.world_free.specs.Jobs.{AreJobsAt}
use Rattle.world_free.specs.Plan.{plan_of}
use Rattle.world_free.specs.declared.job.FreeJob.{FreeJob}
use Rattle.world_free.proofs.JobLemmas.{all_run, on_ok, others_begun}
use Rattle.world_free.proofs.free.run_jobs.Goals as goal

pub run_all-requires-clause-begun : goal.run_all-requires-clause-begun
run_all-requires-clause-begun g c =
    let begun = c.requires.begun in
    let plan = plan_of c.args.table.now c.args.book.now begun.0 c.args.setting.now in
    λ lives borrowed.
    (begun.0, subst (λ (l : List (FreeJob g.row.D.Denot)). AreJobsAt g.D.Disk.view plan c.args.book.now 0 l) c.in-Some.ensures.cases.0 begun.1 0 c.in-Some.first.now refl)

pub run_all-requires-clause-others_begun : goal.run_all-requires-clause-others_begun
run_all-requires-clause-others_begun g c =
    let begun = c.requires.begun in
    let plan = plan_of c.args.table.now c.args.book.now begun.0 c.args.setting.now in
    λ lives borrowed who none within. (
      begun.0,
      others_begun g.D.Disk.view c.args.table.now c.args.book.now c.args.setting.now begun.0 c.in-Some.first.now c.in-Some.others.now
          (subst (λ (l : List (FreeJob g.row.D.Denot)). AreJobsAt g.D.Disk.view plan c.args.book.now 0 l) c.in-Some.ensures.cases.0 begun.1) who none within,
    )

pub run_all-requires-clause-others_memory : goal.run_all-requires-clause-others_memory
run_all-requires-clause-others_memory g c =
    let all = subst (λ (l : List (FreeJob g.row.D.Denot)). (who : ℕ) (none : FreeJob g.row.D.Denot) → who < length l → (slice_index_or l who none).short ≡ false)
    c.in-Some.ensures.cases.0 c.requires.memory in
    λ lives borrowed who none within. all (suc who) none (omega (arith, within))

pub returns-clause-taken : goal.returns-clause-taken
returns-clause-taken g c =
    on_ok c.had_memory.result _ _
    (λ had situation begun.
    let plan = plan_of c.args.table.now c.args.book.now situation c.args.setting.now in
    all_run g.D.Disk.view c.args.table.now c.args.book.now c.args.setting.now c.in-Some.first.now c.run_all.new.first c.in-Some.others.now c.run_all.new.others
    c.run_all.ensures.count c.run_all.ensures.runs c.run_all.ensures.others_run had situation
    (subst (λ (l : List (FreeJob g.row.D.Denot)). AreJobsAt g.D.Disk.view plan c.args.book.now 0 l) c.in-Some.ensures.cases.0 begun))
    c.had_memory.ensures

pub returns-clause-may_show : goal.returns-clause-may_show
returns-clause-may_show g c =
    on_ok c.had_memory.result _ _ (λ had. c.run_all.ensures.may_show (had 0 c.run_all.new.first refl)) c.had_memory.ensures

pub returns-clause-shows : goal.returns-clause-shows
returns-clause-shows g c =
    on_ok c.had_memory.result _ _
    (λ had situation old new begun was is before shown.
    let plan = plan_of c.args.table.now c.args.book.now situation c.args.setting.now in
    let first : Some c.in-Some.first.now ≡ Some old =
    ap (λ (l : List (FreeJob g.row.D.Denot)). slice_get l 0) (sym c.in-Some.ensures.cases.0) ∙ was in
    let old_is : c.in-Some.first.now ≡ old = cc in
    let new_is : c.run_all.new.first ≡ new = cc in
    subst (λ (j : FreeJob g.row.D.Denot). OnBoard (HasShown plan c.args.book.now 0 j.seat) before c.run_all.new.board) new_is
    (c.run_all.ensures.shows (had 0 c.run_all.new.first refl) situation before
    (subst (λ (l : List (FreeJob g.row.D.Denot)). AreJobsAt g.D.Disk.view plan c.args.book.now 0 l) c.in-Some.ensures.cases.0 begun 0 c.in-Some.first.now refl)
    (subst (λ (j : FreeJob g.row.D.Denot). OnBoard (HasShown plan c.args.book.now 0 j.seat) before c.args.board.now) (sym old_is) shown)))
    c.had_memory.ensures

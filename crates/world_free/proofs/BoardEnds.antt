-- What has been shown when all threads have ended.
use Rattle.std.proofs.Common.{◌≡◌, ℕ, ◌<◌, ◌≤◌, List, [], ◌∷◌, ◌++◌, length, drop, take, Some, None, Option, refl, sym, ap, ◌∙◌, subst, inl, inr, ⊎_elim, arith}
use Rattle.std.specs.List.{AllZip, slice_get}
use Rattle.std.proofs.lemmas.Bool.{cases_Bool}
use Rattle.std.proofs.lemmas.List.{length-map}
use Rattle.disk_model.specs.View.{DiskView}
use Rattle.due_set.specs.Table.{Table}
use Rattle.history.specs.Book.{Row}
use Rattle.history.specs.Legal.{IsLegal}
use Rattle.replica_node.specs.declared.node.Node.{Node}
use Rattle.script_semantics.specs.Free.{IsFreePart}
use Rattle.script_semantics.specs.Situation.{Situation}
use Rattle.status_board.specs.Writing.{Writing}
use Rattle.turn_book.specs.Turns.{IsNewSeat}
use Rattle.world_law.specs.Book.{BookState}
use Rattle.world_law.specs.Rows.{HasTurnOf}
use Rattle.world_law.specs.declared.row.BookRow.{BookRow}
use Rattle.world_steps.specs.Parts.{ArePartsAt}
use Rattle.world_steps.specs.declared.bundle.Bundle.{Bundle}
use Rattle.world_free.specs.Board.{HasSeenFront, HasShown, OnBoard, ShowsPart}
use Rattle.world_free.specs.Jobs.{AreJobsAt, IsJobAt}
use Rattle.world_free.specs.Parts.{node_in, seat_in}
use Rattle.world_free.specs.Plan.{FreePlan, Seat, SharedBook, plan_of}
use Rattle.world_free.specs.Seats.{IsSeatAt}
use Rattle.world_free.specs.declared.job.FreeJob.{FreeJob}
use Rattle.world_free.specs.declared.job.Setting.{Setting}
use Rattle.world_free.proofs.Handed.{AreHanded, GoesTo, begun, lent}
use Rattle.world_free.proofs.Showing.{same_after, shows_none, shows_with_others}
use Rattle.step_spec.proofs.ListLemmas.{mapped_at}
use Rattle.due_set.proofs.SoundLemmas.{at_place}

-- a seat that has had no turn has shown nothing more
pub begins_shown : (plan : FreePlan) (book : SharedBook) (seat : Seat) (board : Option Writing) → plan.book.members ≤ 7 → IsNewSeat book 0 seat
    → OnBoard (HasShown plan book 0 seat) board board
begins_shown plan book seat None few new = tt
begins_shown plan book seat (Some writer) few new = λ after front more at are.
    let seat_at : IsSeatAt book 0 [] seat = record { of_book = new.seat_of; number = new.number_is; seen = inl (new.first, new.saw, refl); own = new.own } in
    let none : after ≡ [] = same_after book 0 after [] seat at seat_at in
    go front more (subst (λ (l : List BookRow). AllZip HasTurnOf l more) none are.each)
  where
    go : (front rows : List Row) → AllZip HasTurnOf [] rows → ShowsPart plan.book.members 0 plan.table plan.situation front rows writer writer
    go front [] each = shows_none plan.book.members 0 plan.table plan.situation front [] few writer
    go front (row ∷ rows) each = absurd each

-- what a seat has shown by its last turn is what has been shown of the part
pub ends_shown : (plan : FreePlan) (book : SharedBook) (seat : Seat) (old new : Option Writing) (after : List BookRow) (rows more : List Row) → plan.book.members ≤ 7
    → IsLegal plan.book.members plan.table (rows ++ more) → IsSeatAt book 0 after seat → HasSeenFront plan 0 after rows more → OnBoard (HasShown plan book 0 seat) old new
    → OnBoard (ShowsPart plan.book.members 0 plan.table plan.situation rows more) old new
ends_shown plan book seat None None after rows more few legal at seen shown = tt
ends_shown plan book seat None (Some new) after rows more few legal at seen shown = absurd shown
ends_shown plan book seat (Some old) None after rows more few legal at seen shown = absurd shown
ends_shown plan book seat (Some old) (Some new) after rows more few legal at seen shown =
    subst (λ (l : List Row). ShowsPart plan.book.members 0 plan.table plan.situation rows l old new) (sym seen.parts)
    (shows_with_others plan.book.members 0 plan.table plan.situation rows seen.one few old new seen.other
    (subst (λ (l : List Row). IsLegal plan.book.members plan.table (rows ++ l)) seen.parts legal) seen.others (shown after rows seen.one at seen.first))

-- the seat of a job, whether its replica runs or not
seat_of_job : {D : Type 0} (view : DiskView D) (plan : FreePlan) (book : SharedBook) (who taken : ℕ) (job : FreeJob D) → IsJobAt view plan book who taken job
    → (after : List BookRow) × IsSeatAt book who after job.seat
seat_of_job view plan book who taken job at = elim (cases_Bool job.mail.mail.runs) [
  | inl runs ↦ (let runner = at.running runs in (runner.after, runner.seat))
  | inr stopped ↦ ⊎_elim (λ idle. ([], idle.seat)) (λ broken. (broken.after, broken.seat)) (at.stopped stopped)
]

module _ {D M : Type 0} (view : DiskView D) (table : Table) (parts : Bundle (Node D) M) (book : SharedBook) (setting : Setting) (jobs : List (FreeJob D))
    (handed : AreHanded table parts book setting jobs) (rows : List Row) (situation : Situation) (at : ArePartsAt view table rows parts situation) (some : 0 < parts.book.members) where
  abbrev plan : FreePlan
  plan = plan_of table book situation setting

  members_are : plan.book.members ≡ parts.book.members
  members_are = ap (λ (state : BookState). state.members) handed.began.state_is

  few : plan.book.members ≤ 7
  few = subst (λ n. n ≤ 7) (sym members_are) at.at.few

  count : length jobs ≡ parts.book.members
  count = sym (ap length handed.are.nodes_are ∙ length-map jobs node_in) ∙ at.nodes.count

  -- so many turns of the part, what has been shown of it, and the parts of the world behind it
  abbrev pub GoesShown : Bundle (Node D) M → Option Writing → Option Writing → Type 0
  GoesShown new before after_board =
      (more : List Row) × (after : Situation) × IsFreePart parts.book.members table.window setting.at.0 setting.turns situation more after
      × ArePartsAt view table (rows ++ more) new after × OnBoard (ShowsPart parts.book.members 0 table situation rows more) before after_board

  -- what the thread of the first replica shows, by the jobs that were lent to the threads
  abbrev pub ShowsOn : List (FreeJob D) → List (FreeJob D) → Option Writing → Option Writing → Type 0
  ShowsOn now new before after_board =
      (old_job new_job : FreeJob D) → AreJobsAt view plan book 0 now → slice_get now 0 ≡ Some old_job → slice_get new 0 ≡ Some new_job → (first : Option Writing)
      → OnBoard (HasShown plan book 0 old_job.seat) first before → OnBoard (HasShown plan book 0 new_job.seat) first after_board

  pub part_shown : (now after_jobs : List (FreeJob D)) (len : ℕ) → now ≡ jobs → length after_jobs ≡ length now → len ≡ length jobs
      → (AreJobsAt view plan book 0 now → AreJobsAt view plan book setting.turns after_jobs) → (before after_board : Option Writing) → ShowsOn now after_jobs before after_board
      → (new : Bundle (Node D) M) → new.book.members ≡ parts.book.members
      → GoesTo view table parts book setting jobs handed table parts.book.members rows situation new (take len (after_jobs ++ drop (length after_jobs) jobs))
      → GoesShown new before after_board
  part_shown now after_jobs len is long same_len takes before after_board shows new members goes =
      (goes.0, goes.1, goes.2, goes.3, shown)
    where
      more : List Row
      more = goes.0

      begun_jobs : AreJobsAt view plan book 0 now
      begun_jobs = begun view table parts book setting jobs handed rows situation at now is

      old : (job : FreeJob D) × (slice_get now 0 ≡ Some job)
      old = at_place now 0 (omega (arith, some, count, ap length is))

      ended : (job : FreeJob D) × (slice_get after_jobs 0 ≡ Some job)
      ended = at_place after_jobs 0 (omega (arith, some, count, ap length is, long))

      old_there : slice_get jobs 0 ≡ Some old.0
      old_there = ap (λ (l : List (FreeJob D)). slice_get l 0) (sym is) ∙ old.1

      new_seat : IsNewSeat book 0 old.0.seat
      new_seat = handed.new 0 old.0.seat (ap (λ (l : List Seat). slice_get l 0) handed.are.seats_are ∙ mapped_at seat_in jobs 0 old.0 old_there)

      last : (after : List BookRow) × IsSeatAt book 0 after ended.0.seat
      last = seat_of_job view plan book 0 setting.turns ended.0 (takes begun_jobs 0 ended.0 ended.1)

      legal : IsLegal plan.book.members plan.table (rows ++ more)
      legal = subst (λ n. IsLegal n table (rows ++ more)) (members ∙ sym members_are) goes.3.at.behind.legal

      seen : HasSeenFront plan 0 last.0 rows more
      seen = goes.4 0 ended.0 last.0 (ap (λ (l : List (FreeJob D)). slice_get l 0) (lent len jobs now after_jobs is long same_len) ∙ ended.1) last.1

      shown : OnBoard (ShowsPart parts.book.members 0 table situation rows more) before after_board
      shown =
          subst (λ n. OnBoard (ShowsPart n 0 table situation rows more) before after_board) members_are
          (ends_shown plan book ended.0.seat before after_board last.0 rows more few legal last.1 seen
          (shows old.0 ended.0 begun_jobs old.1 ended.1 before (begins_shown plan book old.0.seat before few new_seat)))

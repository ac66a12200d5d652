-- All jobs of a part that has ended make the part, and the parts of the world behind it.
use Rattle.std.proofs.Common.{◌≡◌, ℕ, ◌≤◌, ◌≤ℤ◌, List, [], ◌++◌, length, drop, map, Some, ℤ, refl, sym, ap, ◌∙◌, subst, inl, inr, ⊎_elim, arith}
use Rattle.std.specs.List.{slice_get}
use Rattle.std.proofs.lemmas.Bool.{cases_Bool}
use Rattle.std.proofs.lemmas.Int.{ints}
use Rattle.std.proofs.lemmas.List.{length-map, map-append}
use Rattle.std.proofs.lemmas.Option.{slice_get_within}
use Rattle.disk_model.specs.View.{DiskView}
use Rattle.history.specs.Book.{Row}
use Rattle.replica_node.specs.declared.node.Node.{Node}
use Rattle.script_semantics.specs.Free.{IsFreePart}
use Rattle.script_semantics.specs.Situation.{Situation, is_cut}
use Rattle.turn_book.specs.Turns.{AreAllSeats, IsSeatOf, number_of, opening_of, seats_of}
use Rattle.world_law.specs.Book.{BookState, StandsBehind}
use Rattle.world_steps.specs.Nodes.{IsNodeOf}
use Rattle.world_steps.specs.Parts.{ArePartsAt, IsMailOf}
use Rattle.world_steps.specs.declared.bundle.Bundle.{Bundle}
use Rattle.world_steps.specs.declared.mail.MemberMail.{MemberMail}
use Rattle.world_free.specs.Board.{HaveSeen}
use Rattle.world_free.specs.Ends.{BeginsAt, HaveEnded, HaveLooked, latest_by}
use Rattle.world_free.specs.Jobs.{HaveRun, IsJobAt}
use Rattle.world_free.specs.Parts.{AreJobsOf, mail_in, node_in, seat_in}
use Rattle.world_free.specs.Plan.{FreePlan, Seat, SharedBook, plan_of}
use Rattle.world_free.specs.declared.job.FreeJob.{FreeJob}
use Rattle.world_free.specs.declared.job.FreeMail.{FreeMail}
use Rattle.world_free.specs.declared.job.Setting.{Setting}
use Rattle.world_free.proofs.Closed.{IsClosed, after_of, bases_there, job_mail, job_node, job_takes, more_of, named_there, runner_looked, since_last, stands_behind, stands_there}
use Rattle.world_free.proofs.EndLemmas.{drop_front, latest_of, none_earlier}
use Rattle.world_free.proofs.Gone.{cuts_stay}
use Rattle.world_free.proofs.JobLemmas.{mapped_from}
use Rattle.step_spec.proofs.ListLemmas.{mapped_at}
use Rattle.due_set.proofs.SoundLemmas.{at_place}

module _ {D : Type 0} (view : DiskView D) where
  -- the seat of a job, whether its replica runs or not
  seat_of_job : (plan : FreePlan) (book : SharedBook) (who : ℕ) (job : FreeJob D) → IsJobAt view plan book who plan.turns job
      → IsSeatOf book job.seat × (number_of job.seat ≡ who)
  seat_of_job plan book who job ended = elim (cases_Bool job.mail.mail.runs) [
    | inl runs ↦ (let runner = ended.running runs in (runner.seat.of_book, runner.seat.number))
    | inr stopped ↦ ⊎_elim (λ idle. (idle.seat.of_book, idle.seat.number)) (λ broken. (broken.seat.of_book, broken.seat.number)) (ended.stopped stopped)
  ]

  module _ (book : SharedBook) (setting : Setting) (situation : Situation) (jobs : List (FreeJob D))
      (run : HaveRun view book setting situation jobs) (count : length jobs ≡ seats_of book)
      (nodes : List (Node D)) (mails : List FreeMail) (seats : List Seat) (are : AreJobsOf nodes mails seats jobs) where
    abbrev plan : FreePlan
    plan = plan_of (opening_of book).key.value book situation setting

    pub all_seats : AreAllSeats book seats
    all_seats = record {
      count = ap length are.seats_are ∙ length-map jobs seat_in ∙ count;
      each = λ place seat is. (at place seat is).0;
      number = λ place seat is. (at place seat is).1;
    }
      where
        at : (place : ℕ) (seat : Seat) → slice_get seats place ≡ Some seat → IsSeatOf book seat × (number_of seat ≡ place)
        at place seat is =
            let from = mapped_from seat_in jobs place seat (ap (λ l. slice_get l place) (sym are.seats_are) ∙ is) in
            subst (λ (s : Seat). IsSeatOf book s × (number_of s ≡ place)) from.2 (seat_of_job plan book place from.0 (run place from.0 from.1))

    seat_there : (who : ℕ) (job : FreeJob D) → slice_get jobs who ≡ Some job → slice_get seats who ≡ Some job.seat
    seat_there who job there = ap (λ l. slice_get l who) are.seats_are ∙ mapped_at seat_in jobs who job there

    pub all_looked : (new : BookState) → IsClosed plan (seats_of book) seats new → HaveLooked new.letters mails
    all_looked new closed who mail there runs =
        let from = mapped_from mail_in jobs who mail (ap (λ l. slice_get l who) (sym are.mails_are) ∙ there) in
        let ended = run who from.0 from.1 in
        let runner = ended.running (ap (λ (m : FreeMail). m.mail.runs) from.2 ∙ runs) in
        subst (λ (m : FreeMail). m.looked ≤ length new.letters) from.2
        (runner_looked plan (seats_of book) seats new closed runner.of_plan.rows runner.of_plan.at view book who from.0
        (seat_there who from.0 from.1) runner)

    module _ {M : Type 0} (new : Bundle (Node D) M) (closed : IsClosed plan (seats_of book) seats new.book) (rows : List Row) (latest : ℤ)
        (begins : BeginsAt book setting latest rows situation)
        (members : seats_of book ≡ plan.book.members) where
      abbrev more : List Row
      more = more_of plan (seats_of book) seats new.book closed rows begins.at

      abbrev after : Situation
      after = after_of plan (seats_of book) seats new.book closed rows begins.at

      pub free_part : IsFreePart plan.book.members plan.table.window plan.at plan.turns situation more after
      free_part = record {
        named = named_there plan (seats_of book) seats new.book closed rows begins.at plan.book.members members;
        each = λ who member.
            let one = at_place jobs who (omega (arith, member, members, count)) in
            job_takes plan (seats_of book) seats new.book closed rows begins.at view book who one.0 (seat_there who one.0 one.1)
            (run who one.0 one.1);
        is = refl;
      }

      -- what each seat has seen of the part, and what others have added since
      pub seen_there : HaveSeen plan book rows more jobs
      seen_there who job has there at =
          let last = since_last plan (seats_of book) seats new.book closed rows begins.at book who has job.seat at (seat_there who job there) in
          record { one = last.one; other = last.other; parts = last.parts; first = last.first; others = last.others }

      pub parts_there : (first : ℕ) → nodes ≡ new.nodes.items → HaveEnded plan.cuts new.book.letters mails new.mail.members.items
          → new.mail.cuts.items ≡ plan.cuts → first ≡ length plan.book.turns
          → new.mail.latest.0 ≡ latest_by latest (drop first new.book.turns) → ArePartsAt view plan.table (rows ++ more) new after
      parts_there first nodes_are ended cuts_are first_is latest_is = record {
        at = record {
          sound = begins.at.sound;
          behind = behind;
          rest = closed.rest;
          few = subst (λ n. n ≤ 7) (sym closed.members) begins.at.few;
          standing = stands_there plan (seats_of book) seats new.book closed rows begins.at;
          since = since;
          bases = bases_there plan (seats_of book) seats new.book closed rows begins.at;
        };
        nodes = record { count = ap length (sym nodes_are ∙ are.nodes_are) ∙ length-map jobs node_in ∙ count ∙ members ∙ sym closed.members; each = node_of };
        count = as_many;
        mails = mail_of_it;
        cuts = λ from to. ap (is_cut from to) cuts_are ∙ begins.cuts from to ∙ ap (is_cut from to) (sym (cuts_stay plan.book.members situation more));
        latest = latest_there;
      }
        where
          behind : StandsBehind plan.table (rows ++ more) new.book
          behind = stands_behind plan (seats_of book) seats new.book closed rows begins.at

          as_many : length new.mail.members.items ≡ new.book.members
          as_many = ended.count ∙ ap length are.mails_are ∙ length-map jobs mail_in ∙ count ∙ members ∙ sym closed.members

          turns_are : drop first new.book.turns ≡ map (λ (row : Row). row.turn) more
          turns_are =
              ap (drop first) (behind.turns ∙ map-append (λ (row : Row). row.turn) rows more)
              ∙ drop_front (map (λ (row : Row). row.turn) rows) (map (λ (row : Row). row.turn) more) first (first_is ∙ ap length begins.at.behind.turns)

          latest_there : new.mail.latest.0 ≡ after.latest
          latest_there =
              latest_is ∙ ap (latest_by latest) turns_are ∙ ap (λ (l : ℤ). latest_by l (map (λ (row : Row). row.turn) more)) begins.latest_is
              ∙ sym (latest_of plan.book.members situation more)

          since : plan.table.window.from.0 ≤ℤ after.latest
          since =
              let later = none_earlier (map (λ (row : Row). row.turn) more) situation.latest in
              let same = latest_of plan.book.members situation more in
              omega (arith, ints, begins.at.since, later, same)

          node_of : (who : ℕ) (node : Node D) → slice_get new.nodes.items who ≡ Some node
              → IsNodeOf view plan.table (rows ++ more) new.book who node
          node_of who node there =
              let from = mapped_from node_in jobs who node (ap (λ l. slice_get l who) (sym are.nodes_are ∙ nodes_are) ∙ there) in
              subst (λ (n : Node D). IsNodeOf view plan.table (rows ++ more) new.book who n) from.2
              (job_node plan (seats_of book) seats new.book closed rows begins.at view book who from.0 (seat_there who from.0 from.1)
              (run who from.0 from.1))

          mail_of_it : (who : ℕ) (mail : MemberMail) → slice_get new.mail.members.items who ≡ Some mail → IsMailOf new.book.letters after who [] mail
          mail_of_it who mail there =
              let within = slice_get_within new.mail.members.items who mail there in
              let one = at_place jobs who (omega (arith, within, as_many, count, members, closed.members)) in
              let kept : slice_get mails who ≡ Some one.0.mail = ap (λ l. slice_get l who) are.mails_are ∙ mapped_at mail_in jobs who one.0 one.1 in
              job_mail plan (seats_of book) seats new.book closed rows begins.at view book who one.0 (seat_there who one.0 one.1)
              (run who one.0 one.1) mail
              (ended.each who one.0.mail mail kept there)

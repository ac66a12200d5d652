-- The jobs with which a part begins, by the parts of the world.
use Rattle.std.proofs.Common.{◌≡◌, ℕ, ◌+◌, ◌<◌, ◌^◌, true, List, [], ◌∷◌, length, map, Some, refl, sym, ap, ◌∙◌, subst, inl, arith}
use Rattle.std.specs.List.{AllZip, slice_get}
use Rattle.std.proofs.lemmas.List.{append-nil, length-map}
use Rattle.std.proofs.lemmas.Option.{slice_get_within}
use Rattle.launch_machine.specs.Clerk.{table_size}
use Rattle.disk_model.specs.View.{DiskView}
use Rattle.due_set.specs.Table.{Table}
use Rattle.history.specs.Book.{PostedLetter, Row, Standing}
use Rattle.history.specs.Legal.{IsLegal}
use Rattle.replica_node.specs.Node.{disk_of, replica_of}
use Rattle.replica_node.specs.declared.node.Node.{Node}
use Rattle.replica_store.specs.Files.{FilesStand}
use Rattle.script_semantics.specs.Situation.{Situation, is_cut}
use Rattle.script_semantics.proofs.PartLemmas.{goes_none}
use Rattle.turn_book.specs.Turns.{AreNewSeats, BeganWith, IsNewSeat, opening_of}
use Rattle.world_law.specs.Book.{BookState, StandsBehind, posted_as, standing_behind}
use Rattle.world_law.specs.Rows.{HasTurnOf}
use Rattle.world_law.specs.declared.letter.LetterRow.{LetterRow}
use Rattle.world_law.proofs.Settled.{come_here}
use Rattle.world_steps.specs.Nodes.{AreNodesOf, IsDiskAt, IsNodeOf, bases_behind}
use Rattle.world_steps.specs.Parts.{ArePartsAt, IsBookAt, IsMailOf, IsSentTo}
use Rattle.world_steps.specs.declared.bundle.Bundle.{Bundle}
use Rattle.world_steps.specs.declared.mail.MemberMail.{MemberMail}
use Rattle.world_free.specs.Jobs.{AreJobsAt, HasGone, ArePlayedRows, HasNotBegun, IsJobAt, IsOfPlan, IsRunner, situation_in}
use Rattle.world_free.specs.Mails.{HasFirstBytes, IsMailIn, IsPostedTo}
use Rattle.world_free.specs.Parts.{AreJobsOf, AreKept, mail_in, mail_of, node_in, seat_in}
use Rattle.world_free.specs.Plan.{FreePlan, Seat, SharedBook, plan_of}
use Rattle.world_free.specs.Seats.{IsSeatAt}
use Rattle.world_free.specs.declared.job.FreeJob.{FreeJob}
use Rattle.world_free.specs.declared.job.FreeMail.{FreeMail}
use Rattle.world_free.specs.declared.job.Setting.{Setting}
use Rattle.step_spec.proofs.ListLemmas.{mapped_at}

-- rows beside none are none
none_beside : {A B : Type 0} (R : A → B → Type 0) (ys : List B) → AllZip R [] ys → ys ≡ []
none_beside R [] each = refl
none_beside R (y ∷ ys) each = absurd each

-- a letter of a book that goes to a replica was posted to it
pub posted_to : (letters : List LetterRow) (posted : List PostedLetter) (who number : ℕ) → map posted_as letters ≡ posted → IsSentTo letters who number
    → IsPostedTo posted who number
posted_to letters posted who number are sent =
    record {
      letter = posted_as sent.letter;
      there = ap (λ l. slice_get l number) (sym are) ∙ mapped_at posted_as letters number sent.letter sent.there;
      to = sent.to;
    }

module _ {D : Type 0} (view : DiskView D) where
  -- What the threads of a part begin with: the book of the plan, behind which these rows stand, the nodes of its replicas and what is set for
  -- them.
  pub record Begins (plan : FreePlan) (book : SharedBook) (rows : List Row) (nodes : List (Node D)) (mails : List MemberMail) : Type 0 where
    pub of_plan : IsOfPlan plan book
    pub at : IsBookAt plan.table rows plan.book plan.situation
    pub nodes_are : AreNodesOf view plan.table rows plan.book nodes
    pub mails_are : (who : ℕ) (mail : MemberMail) → slice_get mails who ≡ Some mail → IsMailOf plan.book.letters plan.situation who [] mail
    pub few : length plan.book.turns < 2 ^ 31

  module _ (plan : FreePlan) (book : SharedBook) (rows : List Row) (nodes : List (Node D)) (mails : List MemberMail) (begins : Begins plan book rows nodes mails)
      (who : ℕ) (job : FreeJob D)
      (node : IsNodeOf view plan.table rows plan.book who job.node) (member : who < plan.book.members)
      (mail : IsMailOf plan.book.letters plan.situation who [] job.mail.mail)
      (kept : (job.mail.looked ≡ length plan.book.letters) × HasFirstBytes (map posted_as plan.book.letters) job.mail)
      (seat : IsNewSeat book who job.seat) where
    seat_begins : IsSeatAt book who [] job.seat
    seat_begins = record { of_book = seat.seat_of; number = seat.number_is; seen = inl (seat.first, seat.saw, refl); own = seat.own }

    posted : map posted_as plan.book.letters ≡ plan.situation.standing.posted
    posted = begins.at.behind.letters ∙ ap (λ (s : Standing). s.posted) (sym begins.at.standing)

    played : ArePlayedRows plan []
    played = record {
      begun = rows;
      more = [];
      are =
          record {
            legal = subst (λ l. IsLegal plan.book.members plan.table l)
                (sym (append-nil rows)) begins.at.behind.legal;
            turns = begins.at.behind.turns;
            each = tt;
          };
      book = plan.book;
      behind = subst (λ l. StandsBehind plan.table l plan.book) (sym (append-nil rows)) begins.at.behind;
      rest = begins.at.rest;
      members = refl;
      few = begins.few;
    }

    mail_begins : plan.situation.standing.runs who ≡ true → IsMailIn plan.situation who job.mail
    mail_begins runs = record {
      runs = mail.runs ∙ runs;
      letters_are = sym mail.letters_are;
      skew = mail.skew;
      small = mail.small;
      fate = mail.fate;
      waits = mail.waits;
      arm = mail.arm;
      looked = kept.0 ∙ sym (length-map plan.book.letters posted_as) ∙ ap length posted;
      sent = λ number has. posted_to plan.book.letters plan.situation.standing.posted who number posted (mail.sent number has);
      bytes = subst (λ letters. HasFirstBytes letters job.mail) posted kept.1;
    }

    gone_begins : plan.situation.standing.runs who ≡ true → HasGone plan who 0 []
    gone_begins runs =
        record { goes = goes_none plan.book.members who plan.table.window plan.at plan.turns plan.situation; taken_is = refl; last = refl; runs = runs }

    runner_begins : plan.situation.standing.runs who ≡ true → IsRunner view plan book who 0 job
    runner_begins runs = record {
      of_plan = begins.of_plan;
      node = record { at_rest = node.at_rest; trusted = node.trusted; identity = node.identity; member = member };
      after = [];
      seat = seat_begins;
      some = played;
      gone = λ begun more are. subst (λ l. HasGone plan who 0 l) (sym (none_beside HasTurnOf more are.each)) (gone_begins runs);
      state = λ begun more are.
          subst (λ l. (replica_of job.node).state ≡ (situation_in plan l).standing.replicas who) (sym (none_beside HasTurnOf more are.each))
          (node.state (ap (λ (s : Standing). s.runs who) (sym begins.at.standing) ∙ runs) ∙ ap (λ (s : Standing). s.replicas who) (sym begins.at.standing));
      disk = λ begun more are.
          subst (λ l. IsDiskAt view ((situation_in plan l).bases who) job.node) (sym (none_beside HasTurnOf more are.each))
          (subst (λ (bases : ℕ → ℕ). IsDiskAt view (bases who) job.node) (sym begins.at.bases) node.disk);
      mail = λ begun more are. subst (λ l. IsMailIn (situation_in plan l) who job.mail) (sym (none_beside HasTurnOf more are.each)) (mail_begins runs);
    }

    idle_begins : HasNotBegun view plan book who job
    idle_begins = record {
      seat = seat_begins;
      node = λ other at. node_still other (come_here plan.table rows other plan.book begins.at.behind at.behind).stands (sym begins.at.bases ∙ at.bases);
      mail = mail;
    }
      where
        node_still : (other : List Row) → standing_behind plan.table rows plan.book ≡ standing_behind plan.table other plan.book
            → bases_behind plan.table rows plan.book ≡ bases_behind plan.table other plan.book → IsNodeOf view plan.table other plan.book who job.node
        node_still other same bases = record {
          at_rest = node.at_rest;
          trusted = node.trusted;
          disk = subst (λ (kept : ℕ → ℕ). IsDiskAt view (kept who) job.node) bases node.disk;
          identity = node.identity;
          state = λ runs. node.state (ap (λ (s : Standing). s.runs who) same ∙ runs) ∙ ap (λ (s : Standing). s.replicas who) same;
          kept = node.kept ∙ ap (λ (s : Standing). (s.replicas who).kept) same;
          stand = subst (λ (s : Standing). FilesStand (table_size plan.table) (s.replicas who).kept (view.seen (disk_of job.node))) same node.stand;
        }

    job_begins : IsJobAt view plan book who 0 job
    job_begins = record { running = λ runs. runner_begins (sym mail.runs ∙ runs); stopped = λ stopped. inl idle_begins }

  -- **The jobs as a part begins.**
  pub jobs_begin : (plan : FreePlan) (book : SharedBook) (rows : List Row) (nodes : List (Node D)) (mails : List MemberMail) (kept : List FreeMail)
      (seats : List Seat) (jobs : List (FreeJob D))
      → Begins plan book rows nodes mails → map mail_of kept ≡ mails → AreKept plan.book.letters kept → AreNewSeats book 0 seats
      → AreJobsOf nodes kept seats jobs
      → AreJobsAt view plan book 0 jobs
  jobs_begin plan book rows nodes mails kept seats jobs begins mails_are are_kept new are who job there =
      let node_there : slice_get nodes who ≡ Some job.node = ap (λ l. slice_get l who) are.nodes_are ∙ mapped_at node_in jobs who job there in
      let kept_there : slice_get kept who ≡ Some job.mail = ap (λ l. slice_get l who) are.mails_are ∙ mapped_at mail_in jobs who job there in
      let seat_there : slice_get seats who ≡ Some job.seat = ap (λ l. slice_get l who) are.seats_are ∙ mapped_at seat_in jobs who job there in
      let mail_there : slice_get mails who ≡ Some job.mail.mail = ap (λ l. slice_get l who) (sym mails_are) ∙ mapped_at mail_of kept who job.mail kept_there in
      let within = slice_get_within nodes who job.node node_there in
      let number : 0 + who ≡ who = omega arith in
      job_begins plan book rows nodes mails begins who job (begins.nodes_are.each who job.node node_there) (omega (arith, within, begins.nodes_are.count))
      (begins.mails_are who job.mail.mail mail_there) (are_kept who job.mail kept_there)
      (subst (λ n. IsNewSeat book n job.seat) number (new who job.seat seat_there))

  -- what the parts of a world are to the threads that share its book
  pub parts_begin : {M : Type 0} (table : Table) (rows : List Row) (parts : Bundle (Node D) M) (situation : Situation) (book : SharedBook) (setting : Setting)
      (seats : ℕ)
      → ArePartsAt view table rows parts situation → BeganWith table parts.book seats book → setting.cuts.items ≡ parts.mail.cuts.items
      → setting.members ≡ parts.book.members → length parts.book.turns < 2 ^ 31
      → Begins (plan_of table book situation setting) book rows parts.nodes.items parts.mail.members.items
  parts_begin table rows parts situation book setting seats are began cuts members few = record {
    of_plan = record {
      key = began.key_is;
      state = refl;
      rows = rows;
      at = here;
      cuts = λ from to. ap (is_cut from to) cuts ∙ are.cuts from to;
      members = members ∙ ap (λ (state : BookState). state.members) (sym began.state_is);
    };
    at = here;
    nodes_are = subst (λ (state : BookState). AreNodesOf view table rows state parts.nodes.items) (sym began.state_is) are.nodes;
    mails_are = λ who mail there. subst (λ (state : BookState). IsMailOf state.letters situation who [] mail) (sym began.state_is) (are.mails who mail there);
    few = subst (λ (state : BookState). length state.turns < 2 ^ 31) (sym began.state_is) few;
  }
    where
      here : IsBookAt table rows (opening_of book).state.value situation
      here = subst (λ (state : BookState). IsBookAt table rows state situation) (sym began.state_is) are.at

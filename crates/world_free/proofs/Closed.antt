-- The end of a part: what the jobs of all threads know, and the book that is closed, make the parts of the world behind it.
use Rattle.std.proofs.Common.{◌≡◌, ◌⊎◌, ℕ, zero, suc, ◌-◌, ◌<◌, ◌≤◌, true, false, List, [], ◌∷◌, ◌++◌, length, fold, map, Some, None, ℤ, eq-eqb, refl, sym, ap, ◌∙◌, subst, inl, inr, ⊎_elim, arith}
use Rattle.std.specs.List.{AllZip, Contains, slice_get}
use Rattle.std.proofs.lemmas.Bool.{cases_Bool}
use Rattle.std.proofs.lemmas.List.{append-nil, length-append, length-map}
use Rattle.std.proofs.lemmas.List.Elements.{Contains-append_cases}
use Rattle.std.proofs.lemmas.List.Sums.{fold-append}
use Rattle.disk_model.specs.View.{DiskView}
use Rattle.launch_machine.specs.Clerk.{first_rows, table_size}
use Rattle.step_spec.specs.State.{State}
use Rattle.step_spec.proofs.Lists.{nothing_in}
use Rattle.agreement.specs.Transition.{identity_of}
use Rattle.history.specs.Book.{PostedLetter, Row, Standing, after_row, first_standing, standing_after, turn_of}
use Rattle.history.specs.Legal.{IsLegal}
use Rattle.history.specs.declared.turn.Turn.{Turn}
use Rattle.history.specs.declared.turn.Turn.TheVariants.{Did, Stopped, Restarted, Arrived}
use Rattle.replica_node.specs.Node.{disk_of, replica_of}
use Rattle.replica_store.specs.Files.{FilesStand}
use Rattle.script_semantics.specs.Free.{GoesFreely, TakesFreeTurns, is_turn_of}
use Rattle.script_semantics.specs.Situation.{Situation, after_turn, after_turns, first_situation, is_cut, letters_for}
use Rattle.script_text.specs.Command.{IsSkew}
use Rattle.script_semantics.specs.Others.{AreOthers}
use Rattle.script_semantics.proofs.FreeMailLemmas.{Passes, others_pass}
use Rattle.script_semantics.proofs.PartLemmas.{course_with_others, goes_none, goes_others}
use Rattle.turn_book.specs.Rows.{BeginsWith}
use Rattle.turn_book.specs.Turns.{HasHistory, first_rows_by, opening_of, own_rows, seats_of, seen_by}
use Rattle.world_law.specs.Book.{BookState, StandsBehind, posted_as, standing_behind}
use Rattle.world_law.specs.Rows.{HasRows, HasTurnOf}
use Rattle.world_law.specs.contracts.turns.BookLaw.TheImpl as law
use Rattle.world_law.specs.declared.letter.LetterRow.{LetterRow}
use Rattle.world_law.specs.declared.row.BookRow.{BookRow}
use Rattle.world_steps.specs.Nodes.{IsDiskAt, IsNodeOf, bases_behind}
use Rattle.world_steps.specs.Parts.{IsBookAt, IsMailOf, IsSentTo, armed_in}
use Rattle.world_steps.specs.declared.mail.MemberMail.{MemberMail}
use Rattle.world_steps.proofs.Ended.{running_node, stopped_node}
use Rattle.world_free.specs.Ends.{HasEnded, letters_at_end}
use Rattle.world_free.specs.Jobs.{HasStoppedFreely, HasGone, IsBroken, HasNotBegun, IsJobAt, IsRunner, situation_in}
use Rattle.world_free.specs.Mails.{IsMailIn, IsPostedTo, IsStoppedMailIn, coming}
use Rattle.world_free.specs.Plan.{ArePlayed, FreePlan, Seat, SharedBook, course_in, plan_of}
use Rattle.world_free.specs.Seats.{IsSeatAt, rows_by}
use Rattle.world_free.specs.declared.job.FreeJob.{FreeJob}
use Rattle.world_free.specs.declared.job.Setting.{Setting}
use Rattle.world_free.proofs.Begun.{posted_to}
use Rattle.world_free.proofs.Gone.{cuts_stay, others_behind, others_leave_it}
use Rattle.world_free.proofs.BaseLemmas.{posted_bases, standing_of}
use Rattle.world_free.proofs.Since.{since}
use Rattle.world_free.proofs.Joins.{Joins, joins}
use Rattle.world_free.proofs.Letters.{coming_is_sent, letters_come, no_letters}
use Rattle.world_free.proofs.Played.{posted_stands, split_played}
use Rattle.world_free.proofs.Stepping.{posted_row}
use Rattle.step_spec.proofs.ListLemmas.{found_still as found_more}

-- ---- letters

-- a letter that was posted to a replica is a letter of the book
sent_by : (letters : List LetterRow) (posted : List PostedLetter) (who number : ℕ) → map posted_as letters ≡ posted → IsPostedTo posted who number
    → IsSentTo letters who number
sent_by letters posted who number are sent =
    let row = posted_row letters number sent.letter (ap (λ l. slice_get l number) are ∙ sent.there) in
    record { letter = row.0; there = row.1; to = ap (λ (l : PostedLetter). l.to) row.2 ∙ sent.to }

posted_more : (posted more all : List PostedLetter) (who number : ℕ) → all ≡ posted ++ more → IsPostedTo posted who number → IsPostedTo all who number
posted_more posted more all who number are sent =
    record { letter = sent.letter; there = ap (λ l. slice_get l number) are ∙ found_more posted more number sent.letter sent.there; to = sent.to }

-- ---- the seat of a row

pub named_by : (turn : Turn) (number : ℕ) → turn_of turn ≡ Some number → is_turn_of number turn ≡ true
named_by (Did who cause made) number is = let same : who ≡ number = cc in eq-eqb who number same
named_by (Stopped who cause kept) number is = let same : who ≡ number = cc in eq-eqb who number same
named_by (Restarted who) number is = let same : who ≡ number = cc in eq-eqb who number same
named_by (Arrived late) number is = absurd cc

pub zip_from : {A B : Type 0} (R : A → B → Type 0) (xs : List A) (ys : List B) (place : ℕ) (y : B) → AllZip R xs ys → slice_get ys place ≡ Some y
    → (x : A) × (slice_get xs place ≡ Some x) × R x y
zip_from R [] [] place y each there = absurd cc
zip_from R [] (b ∷ ys) place y each there = absurd each
zip_from R (a ∷ xs) [] place y each there = absurd each
zip_from R (a ∷ xs) (b ∷ ys) zero y each there = (a, refl, subst (λ z. R a z) (let same : b ≡ y = cc in same) each.0)
zip_from R (a ∷ xs) (b ∷ ys) (suc place) y each there = zip_from R xs ys place y each.1 there

-- ---- the book

-- The rows of a book that is closed, by what its seats know: those with which the part began, and those of the part.
pub record IsClosed (plan : FreePlan) (count : ℕ) (seats : List Seat) (new : BookState) : Type 0 where
  pub first : List BookRow
  pub after : List BookRow
  pub begins : HasRows plan.table first plan.book
  pub named : (place : ℕ) (row : BookRow) → slice_get after place ≡ Some row → (number : ℕ) × (turn_of row.turn ≡ Some number) × (number < count)
  pub own : (place : ℕ) (seat : Seat) → slice_get seats place ≡ Some seat → own_rows seat ≡ rows_by place after
  pub saw : (place : ℕ) (seat : Seat) → slice_get seats place ≡ Some seat → BeginsWith (first ++ after) (seen_by seat)
  pub same : (place : ℕ) (seat : Seat) (rows : List BookRow) → slice_get seats place ≡ Some seat → first_rows_by seat ≡ Some rows → rows ≡ first
  pub has : HasRows plan.table (first ++ after) new
  pub members : new.members ≡ plan.book.members
  pub rest : new.pending ≡ None

pub is_closed : (book : SharedBook) (situation : Situation) (setting : Setting) (seats : List Seat) (new : BookState) → HasHistory law.ghosts book seats new
    → IsClosed (plan_of (opening_of book).key.value book situation setting) (seats_of book) seats new
is_closed book situation setting seats new history = record {
  first = history.first;
  after = history.after;
  begins = history.begins;
  named = history.named;
  own = history.own;
  saw = history.saw;
  same = history.same;
  has = history.rests.rows;
  members = history.rests.number;
  rest = history.rests.rest;
}

module _ (plan : FreePlan) (count : ℕ) (seats : List Seat) (new : BookState) (closed : IsClosed plan count seats new) (rows : List Row)
    (at : IsBookAt plan.table rows plan.book plan.situation) where
  abbrev joined : Joins plan.table rows closed.after new
  joined = joins plan.table rows closed.first closed.after plan.book new closed.members at.behind closed.begins closed.has

  -- the rows of the part, behind those with which it began
  abbrev pub more_of : List Row
  more_of = joined.more

  abbrev pub after_of : Situation
  after_of = situation_in plan more_of

  are : ArePlayed plan closed.after rows more_of
  are = record { legal = subst (λ n. IsLegal n plan.table (rows ++ more_of)) closed.members joined.stands.legal; turns = at.behind.turns; each = joined.each }

  pub stands_there : after_of.standing ≡ standing_behind plan.table (rows ++ more_of) new
  stands_there =
      let next = λ (standing : Standing) (row : Row). after_row plan.book.members standing row.turn row.event row.letters in
      posted_stands plan.book.members plan.situation more_of ∙ ap (λ (s : Standing). fold next s more_of) at.standing
      ∙ sym (fold-append next (first_standing plan.book.members (first_rows plan.table)) rows more_of)
      ∙ ap (λ n. standing_after n (first_rows plan.table) (rows ++ more_of)) (sym closed.members)

  pub stands_behind : StandsBehind plan.table (rows ++ more_of) new
  stands_behind = joined.stands

  pub bases_there : after_of.bases ≡ bases_behind plan.table (rows ++ more_of) new
  bases_there =
      posted_bases plan.book.members plan.situation (after_turns plan.book.members begun rows) more_of
      (at.standing ∙ sym (standing_of plan.book.members begun rows)) at.bases
      ∙ ap (λ (s : Situation). s.bases) (sym (fold-append (after_turn plan.book.members) begun rows more_of))
      ∙ ap (λ (n : ℕ). (after_turns n (first_situation n plan.table) (rows ++ more_of)).bases) (sym closed.members)
    where
      begun : Situation
      begun = first_situation plan.book.members plan.table

  -- the letters of the book are those that were posted
  posted_there : map posted_as new.letters ≡ after_of.standing.posted
  posted_there = joined.stands.letters ∙ ap (λ (s : Standing). s.posted) (sym stands_there)

  pub named_there : (members : ℕ) → count ≡ members → (place : ℕ) (row : Row) → slice_get more_of place ≡ Some row
      → (who : ℕ) × (who < members) × (is_turn_of who row.turn ≡ true)
  named_there members counts place row there =
      let from = zip_from HasTurnOf closed.after more_of place row joined.each there in
      let named = closed.named place from.0 from.1 in
      (named.0, subst (λ n. named.0 < n) counts named.2, ap (is_turn_of named.0) from.2.turn_is ∙ named_by from.0.turn named.0 named.1)

  -- what a seat has seen, and what others have done since
  pub record SinceLast (who : ℕ) (after : List BookRow) : Type 0 where
    pub one : List Row
    pub other : List Row
    pub parts : more_of ≡ one ++ other
    pub first : ArePlayed plan after rows one
    pub others : AreOthers who other

  pub since_last : (book : SharedBook) (who : ℕ) (after : List BookRow) (seat : Seat) → IsSeatAt book who after seat → slice_get seats who ≡ Some seat
      → SinceLast who after
  since_last book who after seat seat_at there =
      let gone =
      since book who closed.first after closed.after seat seat_at (λ first is. closed.same who seat first there is) (closed.own who seat there)
      (closed.saw who seat there) in
      let split = split_played plan after gone.gone rows more_of (subst (λ l. ArePlayed plan l rows more_of) gone.goes_on are) in
      record {
        one = split.one;
        other = split.other;
        parts = split.parts;
        first = split.first;
        others = others_behind who gone.gone split.other split.second gone.others;
      }

  passes_since : (who : ℕ) (after : List BookRow) (last : SinceLast who after) → Passes who (situation_in plan last.one) after_of
  passes_since who after last =
      subst (λ (l : List Row). Passes who (situation_in plan last.one) (situation_in plan l)) (sym last.parts)
      (others_leave_it plan who last.one last.other last.others)

  course_since : (who : ℕ) (after : List BookRow) (last : SinceLast who after)
      → ((course_in plan who more_of).seen ≡ (course_in plan who last.one).seen) × ((course_in plan who more_of).taken ≡ (course_in plan who last.one).taken)
  course_since who after last =
      let course = course_with_others plan.book.members who plan.situation last.one last.other last.others in
      (ap (λ l. (course_in plan who l).seen) last.parts ∙ course.0, ap (λ l. (course_in plan who l).taken) last.parts ∙ course.1)

  goes_since : (who : ℕ) (after : List BookRow) (last : SinceLast who after)
      → GoesFreely plan.book.members plan.table.window plan.at plan.turns who plan.situation last.one
      → GoesFreely plan.book.members plan.table.window plan.at plan.turns who plan.situation more_of
  goes_since who after last goes =
      subst (λ l. GoesFreely plan.book.members plan.table.window plan.at plan.turns who plan.situation l) (sym last.parts)
      (goes_others plan.book.members who plan.table.window plan.at plan.turns plan.situation last.one last.other goes last.others)

  module _ {D : Type 0} (view : DiskView D) (book : SharedBook) (who : ℕ)
      (job : FreeJob D)
      (there : slice_get seats who ≡ Some job.seat) where
    -- ---- a replica that runs

    module _ (runner : IsRunner view plan book who plan.turns job) where
      last : SinceLast who runner.after
      last = since_last book who runner.after job.seat runner.seat there

      gone : HasGone plan who plan.turns last.one
      gone = runner.gone rows last.one last.first

      passes : Passes who (situation_in plan last.one) after_of
      passes = passes_since who runner.after last

      mail_was : IsMailIn (situation_in plan last.one) who job.mail
      mail_was = runner.mail rows last.one last.first

      runs_there : after_of.standing.runs who ≡ true
      runs_there = passes.runs ∙ gone.runs

      pub runner_takes : TakesFreeTurns plan.book.members plan.table.window plan.at plan.turns who plan.situation more_of
      runner_takes = record { goes = goes_since who runner.after last gone.goes; all = λ runs. (course_since who runner.after last).1 ∙ gone.taken_is }

      pub runner_node : IsNodeOf view plan.table (rows ++ more_of) new who job.node
      runner_node = running_node view plan.table (rows ++ more_of) new who job.node (record {
        at_rest = runner.node.at_rest;
        trusted = runner.node.trusted;
        disk = subst (λ (count : ℕ). IsDiskAt view count job.node) (sym passes.bases ∙ ap (λ (bases : ℕ → ℕ). bases who) bases_there)
            (runner.disk rows last.one last.first);
        first = replica_of job.node;
        stands = record {
          identity = rw (closed.members, runner.node.identity) refl;
          member = rw (closed.members, runner.node.identity) runner.node.member;
          runs = rw runner.node.identity (ap (λ (s : Standing). s.runs who) (sym stands_there) ∙ runs_there);
          state = rw runner.node.identity (runner.state rows last.one last.first ∙ sym passes.replica ∙ ap (λ (s : Standing). s.replicas who) stands_there);
          of_table = runner.node.at_rest.of_table;
        };
        me = rw runner.node.identity refl;
        took = refl;
      })

      pub runner_looked : job.mail.looked ≤ length new.letters
      runner_looked =
          let long = ap length passes.posted_is ∙ length-append (situation_in plan last.one).standing.posted passes.posted in
          let same = ap length posted_there in
          omega (arith, mail_was.looked, long, same, length-map new.letters posted_as)

      -- the letters that have come since the thread looked last
      come_since : letters_for after_of (length (situation_in plan last.one).standing.posted) who
          ≡ coming plan.cuts who (map posted_as new.letters) job.mail.looked (length new.letters - job.mail.looked)
      come_since =
          letters_come plan.cuts who after_of looked runs_there cuts_there ∙ ap (λ posted. coming plan.cuts who posted looked (length posted - looked)) (sym posted_there)
          ∙ ap (λ from. coming plan.cuts who (map posted_as new.letters) from (length (map posted_as new.letters) - from)) (sym mail_was.looked)
          ∙ ap (λ long. coming plan.cuts who (map posted_as new.letters) job.mail.looked (long - job.mail.looked)) (length-map new.letters posted_as)
        where
          looked : ℕ
          looked = length (situation_in plan last.one).standing.posted

          cuts_there : (from to : ℕ) → is_cut from to plan.cuts ≡ is_cut from to after_of.cuts
          cuts_there from to = runner.of_plan.cuts from to ∙ ap (is_cut from to) (sym (cuts_stay plan.book.members plan.situation more_of))

      pub runner_mail : (ended : MemberMail) → HasEnded plan.cuts new.letters who job.mail ended → IsMailOf new.letters after_of who [] ended
      runner_mail ended ends = record {
        runs = ends.runs ∙ mail_was.runs ∙ sym runs_there;
        letters_are = passes.mail ∙ ap (λ l. l ++ letters_for after_of (length (situation_in plan last.one).standing.posted) who) (sym mail_was.letters_are)
            ∙ ap (λ l. job.mail.mail.letters.items ++ l) come_since ∙ sym letters_then;
        skew = ends.skew ∙ mail_was.skew ∙ ap (λ (skews : ℕ → ℤ). skews who) (sym passes.skews);
        small = subst IsSkew (sym ends.skew) mail_was.small;
        fate = ends.fate ∙ mail_was.fate ∙ sym passes.fate;
        waits = ends.waits ∙ mail_was.waits ∙ sym passes.waits;
        arm = ap armed_in ends.arm ∙ mail_was.arm ∙ sym passes.arm;
        sent = λ number has.
            sent_then number (Contains-append_cases job.mail.mail.letters.items come number (subst (λ letters. Contains letters number) letters_then has));
      }
        where
          come : List ℕ
          come = coming plan.cuts who (map posted_as new.letters) job.mail.looked (length new.letters - job.mail.looked)

          letters_then : ended.letters.items ≡ job.mail.mail.letters.items ++ come
          letters_then = ends.letters_are ∙ ap (λ runs. letters_at_end runs plan.cuts new.letters who job.mail) mail_was.runs

          sent_then : (number : ℕ) → Contains job.mail.mail.letters.items number ⊎ Contains come number → IsSentTo new.letters who number
          sent_then number (inl old) =
              sent_by new.letters after_of.standing.posted who number posted_there
              (posted_more (situation_in plan last.one).standing.posted passes.posted after_of.standing.posted who number passes.posted_is
              (mail_was.sent number old))
          sent_then number (inr new_one) =
              sent_by new.letters (map posted_as new.letters) who number refl
              (coming_is_sent plan.cuts who (map posted_as new.letters) job.mail.looked (length new.letters - job.mail.looked) number new_one)

    -- ---- a replica that was stopped as the part began

    module _ (idle : HasNotBegun view plan book who job) (halted : job.mail.mail.runs ≡ false) where
      stopped : plan.situation.standing.runs who ≡ false
      stopped = sym idle.mail.runs ∙ halted

      since_first : SinceLast who []
      since_first = since_last book who [] job.seat idle.seat there

      -- the whole part is others'
      others_all : AreOthers who more_of
      others_all =
          let gone =
          since book who closed.first [] closed.after job.seat idle.seat (λ first is. closed.same who job.seat first there is) (closed.own who job.seat there)
          (closed.saw who job.seat there) in
          others_behind who closed.after more_of joined.each (ap (rows_by who) gone.goes_on ∙ gone.others)

      left : Passes who plan.situation after_of
      left = others_pass plan.book.members who plan.situation more_of others_all

      stopped_there : after_of.standing.runs who ≡ false
      stopped_there = left.runs ∙ stopped

      pub idle_takes : TakesFreeTurns plan.book.members plan.table.window plan.at plan.turns who plan.situation more_of
      idle_takes = record {
        goes =
            goes_others plan.book.members who plan.table.window plan.at plan.turns plan.situation [] more_of
            (goes_none plan.book.members who plan.table.window plan.at plan.turns plan.situation) others_all;
        all = λ runs.
            let saw = (course_with_others plan.book.members who plan.situation [] more_of others_all).0 in
            absurd (let no : false ≡ true = sym stopped ∙ ap (λ (s : Situation). s.standing.runs who) (sym saw) ∙ runs in cc);
      }

      kept_there : (plan.situation.standing.replicas who) ≡ (standing_behind plan.table (rows ++ more_of) new).replicas who
      kept_there = sym left.replica ∙ ap (λ (s : Standing). s.replicas who) stands_there

      pub idle_node : IsNodeOf view plan.table (rows ++ more_of) new who job.node
      idle_node = record {
        at_rest = node.at_rest;
        trusted = node.trusted;
        disk = subst (λ (count : ℕ). IsDiskAt view count job.node)
            (ap (λ (bases : ℕ → ℕ). bases who) (sym at.bases) ∙ sym left.bases ∙ ap (λ (bases : ℕ → ℕ). bases who) bases_there) node.disk;
        identity = node.identity ∙ ap (λ n. identity_of n who) (sym closed.members);
        state = λ runs. absurd (let no : false ≡ true = sym stopped_there ∙ ap (λ (s : Standing). s.runs who) stands_there ∙ runs in cc);
        kept = node.kept ∙ ap (λ (s : State). s.kept) same;
        stand = subst (λ (s : State). FilesStand (table_size plan.table) s.kept (view.seen (disk_of job.node))) same node.stand;
      }
        where
          node : IsNodeOf view plan.table rows plan.book who job.node
          node = idle.node rows at

          same : (standing_behind plan.table rows plan.book).replicas who ≡ (standing_behind plan.table (rows ++ more_of) new).replicas who
          same = ap (λ (s : Standing). s.replicas who) (sym at.standing) ∙ kept_there

      pub idle_mail : (ended : MemberMail) → HasEnded plan.cuts new.letters who job.mail ended → IsMailOf new.letters after_of who [] ended
      idle_mail ended ends = record {
        runs = ends.runs ∙ idle.mail.runs ∙ sym left.runs;
        letters_are = left.mail ∙ ap (λ l. plan.situation.mails who ++ l) (no_letters after_of (length plan.situation.standing.posted) who stopped_there)
            ∙ append-nil (plan.situation.mails who) ∙ idle.mail.letters_are ∙ sym letters_then;
        skew = ends.skew ∙ idle.mail.skew ∙ ap (λ (skews : ℕ → ℤ). skews who) (sym left.skews);
        small = subst IsSkew (sym ends.skew) idle.mail.small;
        fate = ends.fate ∙ idle.mail.fate ∙ sym left.fate;
        waits = ends.waits ∙ idle.mail.waits ∙ sym left.waits;
        arm = ap armed_in ends.arm ∙ idle.mail.arm ∙ sym left.arm;
        sent = λ number has.
            sent_by new.letters after_of.standing.posted who number posted_there
            (posted_more plan.situation.standing.posted left.posted after_of.standing.posted who number left.posted_is
            (posted_to plan.book.letters plan.situation.standing.posted who number posted_then
            (idle.mail.sent number (subst (λ letters. Contains letters number) letters_then has))));
      }
        where
          letters_then : ended.letters.items ≡ job.mail.mail.letters.items
          letters_then = ends.letters_are ∙ ap (λ runs. letters_at_end runs plan.cuts new.letters who job.mail) (idle.mail.runs ∙ stopped)

          posted_then : map posted_as plan.book.letters ≡ plan.situation.standing.posted
          posted_then = at.behind.letters ∙ ap (λ (s : Standing). s.posted) (sym at.standing)

    -- ---- a replica that has stopped within the part

    module _ (ended_in : IsBroken view plan book who job) where
      last_of : SinceLast who ended_in.after
      last_of = since_last book who ended_in.after job.seat ended_in.seat there

      broken : HasStoppedFreely plan who last_of.one
      broken = ended_in.broken rows last_of.one last_of.first

      passed : Passes who (situation_in plan last_of.one) after_of
      passed = passes_since who ended_in.after last_of

      mail_is : IsStoppedMailIn (situation_in plan last_of.one) who job.mail.mail
      mail_is = ended_in.mail rows last_of.one last_of.first

      halted_there : after_of.standing.runs who ≡ false
      halted_there = passed.runs ∙ broken.stopped

      pub broken_takes : TakesFreeTurns plan.book.members plan.table.window plan.at plan.turns who plan.situation more_of
      broken_takes = record {
        goes = goes_since who ended_in.after last_of broken.goes;
        all = λ runs.
            let saw = (course_since who ended_in.after last_of).0 ∙ broken.last in
            absurd (let no : false ≡ true = sym broken.stopped ∙ ap (λ (s : Situation). s.standing.runs who) (sym saw) ∙ runs in cc);
      }

      pub broken_node : IsNodeOf view plan.table (rows ++ more_of) new who job.node
      broken_node =
          stopped_node view plan.table (rows ++ more_of) new who job.node
          (ap (λ (s : Standing). s.runs who) (sym stands_there) ∙ halted_there) (record {
            at_rest = ended_in.node.at_rest;
            trusted = ended_in.node.trusted;
            disk = subst (λ (count : ℕ). IsDiskAt view count job.node) (sym passed.bases ∙ ap (λ (bases : ℕ → ℕ). bases who) bases_there)
                (ended_in.disk rows last_of.one last_of.first);
            identity = ended_in.node.identity ∙ ap (λ n. identity_of n who) (sym closed.members);
            none = refl;
            kept = ap (λ (s : Standing). s.replicas who) (sym stands_there) ∙ passed.replica ∙ ended_in.kept rows last_of.one last_of.first;
          })

      pub broken_mail : (ended : MemberMail) → HasEnded plan.cuts new.letters who job.mail ended → IsMailOf new.letters after_of who [] ended
      broken_mail ended ends = record {
        runs = ends.runs ∙ ended_in.halted ∙ sym halted_there;
        letters_are = passed.mail ∙ ap (λ l. l ++ letters_for after_of (length (situation_in plan last_of.one).standing.posted) who) mail_is.letters_are
            ∙ no_letters after_of (length (situation_in plan last_of.one).standing.posted) who halted_there ∙ sym none_then;
        skew = ends.skew ∙ mail_is.skew ∙ ap (λ (skews : ℕ → ℤ). skews who) (sym passed.skews);
        small = subst IsSkew (sym ends.skew) mail_is.small;
        fate = ends.fate ∙ mail_is.fate ∙ sym passed.fate;
        waits = ends.waits ∙ mail_is.waits ∙ sym passed.waits;
        arm = ap armed_in ends.arm ∙ mail_is.arm ∙ sym passed.arm;
        sent = λ number has. nothing_in (subst (λ letters. Contains letters number) none_then has);
      }
        where
          none_then : ended.letters.items ≡ []
          none_then = ends.letters_are ∙ ap (λ runs. letters_at_end runs plan.cuts new.letters who job.mail) ended_in.halted ∙ mail_is.none

    -- ---- either way

    module _ (ended_job : IsJobAt view plan book who plan.turns job) where
      pub job_takes : TakesFreeTurns plan.book.members plan.table.window plan.at plan.turns who plan.situation more_of
      job_takes =
          elim (cases_Bool job.mail.mail.runs) [
            | inl runs ↦ runner_takes (ended_job.running runs)
            | inr stopped ↦ ⊎_elim (λ idle. idle_takes idle stopped) broken_takes (ended_job.stopped stopped)
          ]

      pub job_node : IsNodeOf view plan.table (rows ++ more_of) new who job.node
      job_node =
          elim (cases_Bool job.mail.mail.runs) [
            | inl runs ↦ runner_node (ended_job.running runs)
            | inr stopped ↦ ⊎_elim (λ idle. idle_node idle stopped) broken_node (ended_job.stopped stopped)
          ]

      pub job_mail : (ended : MemberMail) → HasEnded plan.cuts new.letters who job.mail ended → IsMailOf new.letters after_of who [] ended
      job_mail ended ends =
          elim (cases_Bool job.mail.mail.runs) [
            | inl runs ↦ runner_mail (ended_job.running runs) ended ends
            | inr stopped ↦ ⊎_elim (λ idle. idle_mail idle stopped ended ends) (λ broken. broken_mail broken ended ends) (ended_job.stopped stopped)
          ]

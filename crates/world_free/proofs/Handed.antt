-- What the threads of a part are handed, by the parts of the world; and what comes back when they have run.
use Rattle.std.proofs.Common.{◌≡◌, ℕ, ◌<◌, ◌^◌, List, ◌++◌, length, drop, take, map, Result, Ok, Err, IfOk, sym, ap, ◌∙◌, subst}
use Rattle.std.proofs.Math.Seq.{take-append_seam}
use Rattle.disk_model.specs.View.{DiskView}
use Rattle.due_set.specs.Table.{Table}
use Rattle.history.specs.Book.{Row}
use Rattle.history.specs.declared.turn.Turn.{Turn}
use Rattle.replica_node.specs.declared.node.Node.{Node}
use Rattle.script_semantics.specs.Free.{IsFreePart}
use Rattle.script_semantics.specs.Situation.{Situation, is_cut}
use Rattle.turn_book.specs.Turns.{AreNewSeats, BeganWith, opening_of}
use Rattle.world_law.specs.Book.{BookState}
use Rattle.world_law.specs.declared.letter.LetterRow.{LetterRow}
use Rattle.world_steps.specs.Parts.{ArePartsAt, IsBookAt}
use Rattle.world_steps.specs.declared.bundle.Bundle.{Bundle}
use Rattle.world_free.specs.Board.{HaveSeen}
use Rattle.world_free.specs.Ends.{BeginsAt}
use Rattle.world_free.specs.Jobs.{AreJobsAt, HaveRun}
use Rattle.world_free.specs.Parts.{AreJobsOf, AreKept, mail_of}
use Rattle.world_free.specs.Plan.{FreePlan, Seat, SharedBook, plan_of}
use Rattle.world_free.specs.declared.job.FreeJob.{FreeJob}
use Rattle.world_free.specs.declared.job.FreeMail.{FreeMail}
use Rattle.world_free.specs.declared.job.Setting.{Setting}
use Rattle.world_free.proofs.Begun.{jobs_begin, parts_begin}

pub if_ok : {T E : Type 0} (result : Result T E) (P Q : T → Type 0) → ((value : T) → P value → Q value) → IfOk result P → IfOk result Q
if_ok (Ok value) P Q goes is = goes value is
if_ok (Err fault) P Q goes is = tt

pub of_ok : {T E : Type 0} (result : Result T E) (value : T) (P : T → Type 0) → result ≡ Ok value → IfOk result P → P value
of_ok (Ok found) value P is holds = let same : found ≡ value = cc in subst P same holds
of_ok (Err fault) value P is holds = absurd cc

pub both_ok : {T E : Type 0} (result : Result T E) (P Q : T → Type 0) → IfOk result P → IfOk result Q → IfOk result (λ value. P value × Q value)
both_ok (Ok value) P Q one other = (one, other)
both_ok (Err fault) P Q one other = tt

-- what was lent as a slice comes back
pub lent : {X : Type 0} (len : ℕ) (old now new : List X) → now ≡ old → length new ≡ length now → len ≡ length old
    → take len (new ++ drop (length new) old) ≡ new
lent len old now new is count long =
    let same : length new ≡ length old = count ∙ ap length is in
    ap (λ (n : ℕ). take n (new ++ drop (length new) old)) (long ∙ sym same) ∙ take-append_seam new (drop (length new) old)

module _ {D M : Type 0} (table : Table) (parts : Bundle (Node D) M) (book : SharedBook) (setting : Setting) where
  -- The threads share the parts' book, and their jobs have the parts' nodes and mails, each with a seat that has had no turn.
  pub record AreHanded (jobs : List (FreeJob D)) : Type 0 where
    pub count : ℕ
    pub kept : List FreeMail
    pub seats : List Seat
    pub began : BeganWith table parts.book count book
    pub cuts : setting.cuts.items ≡ parts.mail.cuts.items
    pub members : setting.members ≡ parts.book.members
    pub few : length parts.book.turns < 2 ^ 31
    pub mails : map mail_of kept ≡ parts.mail.members.items
    pub are_kept : AreKept parts.book.letters kept
    pub new : AreNewSeats book 0 seats
    pub are : AreJobsOf parts.nodes.items kept seats jobs

  pub hand : (count : ℕ) (turns : List Turn) (letters : List LetterRow) (kept : List FreeMail) (seats : List Seat) (jobs : List (FreeJob D))
      → BeganWith table parts.book count book
      → setting.cuts.items ≡ parts.mail.cuts.items → setting.members ≡ parts.book.members → turns ≡ parts.book.turns → length turns < 2 ^ 31 → map mail_of kept ≡ parts.mail.members.items
      → letters ≡ parts.book.letters
      → AreKept letters kept → AreNewSeats book 0 seats → AreJobsOf parts.nodes.items kept seats jobs → AreHanded jobs
  hand count turns letters kept seats jobs began cuts members turns_are few mails letters_are are_kept new are = record {
    count = count;
    kept = kept;
    seats = seats;
    began = began;
    cuts = cuts;
    members = members;
    few = subst (λ (turns : List Turn). length turns < 2 ^ 31) turns_are few;
    mails = mails;
    are_kept = subst (λ letters. AreKept letters kept) letters_are are_kept;
    new = new;
    are = are;
  }

module _ {D M : Type 0} (view : DiskView D) (table : Table)
    (parts : Bundle (Node D) M) (book : SharedBook) (setting : Setting) where
  module _ (jobs : List (FreeJob D)) (handed : AreHanded table parts book setting jobs) where
    have_run : (situation : Situation) (after : List (FreeJob D))
        → AreJobsAt view (plan_of table book situation setting) book setting.turns after
        → HaveRun view book setting situation after
    have_run situation after are =
        subst (λ key. AreJobsAt view (plan_of key book situation setting) book setting.turns after) (sym handed.began.key_is) are

    module _ (rows : List Row) (situation : Situation) (at : ArePartsAt view table rows parts situation) where
      abbrev plan : FreePlan
      plan = plan_of table book situation setting

      -- the jobs before any turn
      pub begun : (now : List (FreeJob D)) → now ≡ jobs → AreJobsAt view plan book 0 now
      begun now is =
          subst (λ l. AreJobsAt view plan book 0 l) (sym is)
          (jobs_begin view plan book rows parts.nodes.items parts.mail.members.items handed.kept handed.seats jobs
          (parts_begin view table rows parts situation book setting handed.count at handed.began handed.cuts handed.members handed.few) handed.mails
          (subst (λ (state : BookState). AreKept state.letters handed.kept) (sym handed.began.state_is) handed.are_kept) handed.new handed.are)

      -- and those that were lent to the threads, after all their turns
      pub ran : (now new : List (FreeJob D)) (len : ℕ) → now ≡ jobs → length new ≡ length now → len ≡ length jobs
          → (AreJobsAt view plan book 0 now → AreJobsAt view plan book setting.turns new)
          → HaveRun view book setting situation (take len (new ++ drop (length new) jobs))
      ran now new len is count long takes =
          subst (λ l. HaveRun view book setting situation l) (sym (lent len jobs now new is count long))
          (have_run situation new (takes (begun now is)))

      pub begins_at : BeginsAt book setting parts.mail.latest.0 rows situation
      begins_at = record {
        at =
            subst (λ key. IsBookAt key rows (opening_of book).state.value situation) (sym handed.began.key_is)
            (subst (λ (state : BookState). IsBookAt table rows state situation) (sym handed.began.state_is) at.at);
        cuts = λ from to. ap (is_cut from to) handed.cuts ∙ at.cuts from to;
        latest_is = at.latest;
      }

    -- so many turns of a part, and the parts of the world behind it
    abbrev pub GoesTo : Table → (members : ℕ) → List Row → Situation → Bundle (Node D) M → List (FreeJob D) → Type 0
    GoesTo key members rows situation new ended =
        (more : List Row) × (after : Situation) × IsFreePart members key.window setting.at.0 setting.turns situation more after
        × ArePartsAt view key (rows ++ more) new after × HaveSeen (plan_of key book situation setting) book rows more ended

    pub goes_to : (rows : List Row) (situation : Situation) (new : Bundle (Node D) M) (ended : List (FreeJob D))
        → GoesTo (opening_of book).key.value (opening_of book).state.value.members rows situation new ended
        → GoesTo table parts.book.members rows situation new ended
    goes_to rows situation new ended goes =
        subst (λ key. GoesTo key parts.book.members rows situation new ended) handed.began.key_is
        (subst (λ (opened : BookState). GoesTo (opening_of book).key.value opened.members rows situation new ended) handed.began.state_is goes)

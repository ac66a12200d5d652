-- The jobs of threads, and the parts of a world that they have.
use Rattle.std.specs.Prelude.{◌≡◌, ℕ, List, length, map, Some, slice_get}
use Rattle.replica_node.specs.declared.node.Node.{Node}
use Rattle.world_law.specs.Book.{posted_as}
use Rattle.world_law.specs.declared.letter.LetterRow.{LetterRow}
use Rattle.world_steps.specs.declared.mail.MemberMail.{MemberMail}
use Rattle.world_free.specs.Mails.{HasFirstBytes}
use Rattle.world_free.specs.Plan.{Seat}
use Rattle.world_free.specs.declared.job.FreeJob.{FreeJob}
use Rattle.world_free.specs.declared.job.FreeMail.{FreeMail}

-- the mail of a replica, without how far its thread has looked
abbrev pub mail_of : FreeMail → MemberMail
mail_of kept = kept.mail

-- the node of a thread's job
abbrev pub node_in : {D : Type 0} → FreeJob D → Node D
node_in job = job.node

-- the mail of a thread's job
abbrev pub mail_in : {D : Type 0} → FreeJob D → FreeMail
mail_in job = job.mail

-- the seat of a thread's job at the shared book
abbrev pub seat_in : {D : Type 0} → FreeJob D → Seat
seat_in job = job.seat

-- each thread has looked at all these letters
abbrev pub AreKept : List LetterRow → List FreeMail → Type 0
AreKept letters kept =
    (who : ℕ) (mail : FreeMail) → slice_get kept who ≡ Some mail → (mail.looked ≡ length letters) × HasFirstBytes (map posted_as letters) mail

-- the nodes, mails and seats are those of the jobs, in their order
pub record AreJobsOf {D : Type 0} (nodes : List (Node D)) (mails : List FreeMail) (seats : List Seat) (jobs : List (FreeJob D)) : Type 0 where
  pub nodes_are : nodes ≡ map node_in jobs
  pub mails_are : mails ≡ map mail_in jobs
  pub seats_are : seats ≡ map seat_in jobs

-- Jobs are made of nodes, mails and seats, one after another, and taken apart again.
use Rattle.std.proofs.Common.{◌≡◌, ◌⊎◌, ℕ, zero, suc, ◌+◌, ◌<◌, false, List, [], ◌∷◌, ◌++◌, length, map, Some, Result, Ok, Err, OnOk, refl, sym, ap, ◌∙◌, subst, inl, inr, ⊎_elim, arith, append_assoc, length-append}
use Rattle.std.specs.List.{remove, slice_get}
use Rattle.std.specs.Prelude.{slice_index_or}
use Rattle.std.proofs.lemmas.List.{append-nil, length-map, map-append}
use Rattle.std.proofs.lemmas.Option.{slice_get-get_or, slice_get_within}
use Rattle.disk_model.specs.View.{DiskView}
use Rattle.due_set.specs.Table.{Table}
use Rattle.replica_node.specs.declared.node.Node.{Node}
use Rattle.script_semantics.specs.Situation.{Situation}
use Rattle.world_law.specs.Book.{posted_as}
use Rattle.world_law.specs.declared.letter.LetterRow.{LetterRow}
use Rattle.world_steps.specs.declared.mail.MemberMail.{MemberMail}
use Rattle.world_free.specs.Jobs.{AreJobsAt, IsJobAt}
use Rattle.world_free.specs.Mails.{HasFirstBytes}
use Rattle.world_free.specs.Parts.{AreJobsOf, AreKept, mail_in, mail_of, node_in, seat_in}
use Rattle.world_free.specs.Plan.{Seat, SharedBook, plan_of}
use Rattle.world_free.specs.declared.job.FreeJob.{FreeJob}
use Rattle.world_free.specs.declared.job.FreeMail.{FreeMail}
use Rattle.world_free.specs.declared.job.Setting.{Setting}
use Rattle.step_spec.proofs.ListLemmas.{first_left}

-- ---- lists

-- what is found in a list with one more is found in the list, or is the last
pub found_last : {X : Type 0} (xs : List X) (last : X) (place : ℕ) (x : X) → slice_get (xs ++ last ∷ []) place ≡ Some x
    → (slice_get xs place ≡ Some x) ⊎ ((place ≡ length xs) × (x ≡ last))
found_last [] last zero x is = let same : last ≡ x = cc in inr (refl, sym same)
found_last [] last (suc place) x is = absurd cc
found_last (y ∷ ys) last zero x is = inl is
found_last (y ∷ ys) last (suc place) x is = ⊎_elim (λ old. inl old) (λ new. inr (omega (arith, new.0), new.1)) (found_last ys last place x is)

pub mapped_from : {X Y : Type 0} (f : X → Y) (xs : List X) (place : ℕ) (y : Y) → slice_get (map f xs) place ≡ Some y
    → (x : X) × (slice_get xs place ≡ Some x) × (f x ≡ y)
mapped_from f [] place y is = absurd cc
mapped_from f (x ∷ xs) zero y is = (x, refl, (let same : f x ≡ y = cc in same))
mapped_from f (x ∷ xs) (suc place) y is = mapped_from f xs place y is

pub got_at : {X : Type 0} (xs : List X) (place : ℕ) (none x : X) → slice_get xs place ≡ Some x → slice_index_or xs place none ≡ x
got_at [] place none x is = absurd cc
got_at (y ∷ ys) zero none x is = let same : y ≡ x = cc in same
got_at (y ∷ ys) (suc place) none x is = got_at ys place none x is

none_left : {X : Type 0} (all had left : List X) → all ≡ had ++ left → length all ≡ length had → all ≡ had
none_left all had [] parts count = parts ∙ append-nil had
none_left all had (x ∷ left) parts count = absurd (let sum = ap length parts ∙ length-append had (x ∷ left) in omega (arith, sum, count))

-- ---- mails as threads keep them

-- these mails are kept, each with the bytes of its first letter
pub record Keeping (letters : List LetterRow) (mails : List MemberMail) (kept : List FreeMail) : Type 0 where
  pub mails_are : map mail_of kept ≡ mails
  pub are : AreKept letters kept

pub keeping_none : (letters : List LetterRow) (kept : List FreeMail) → kept ≡ [] → Keeping letters [] kept
keeping_none letters kept none = subst (λ l. Keeping letters [] l) (sym none) (record { mails_are = refl; are = λ who mail is. absurd cc })

pub keeping_next : (letters : List LetterRow) (mails : List MemberMail) (kept after : List FreeMail) (mail : MemberMail) (last : FreeMail)
    → Keeping letters mails kept → after ≡ kept ++ last ∷ []
    → last.mail ≡ mail → last.looked ≡ length letters → HasFirstBytes (map posted_as letters) last → Keeping letters (mails ++ mail ∷ []) after
keeping_next letters mails kept after mail last so_far is same looked bytes = subst (λ l. Keeping letters (mails ++ mail ∷ []) l) (sym is) (record {
  mails_are = map-append mail_of kept (last ∷ []) ∙ ap (λ l. l ++ last.mail ∷ []) so_far.mails_are ∙ ap (λ m. mails ++ m ∷ []) same;
  are = λ who free there.
      ⊎_elim (λ old. so_far.are who free old)
      (λ new. subst (λ (m : FreeMail). (m.looked ≡ length letters) × HasFirstBytes (map posted_as letters) m) (sym new.1) (looked, bytes))
      (found_last kept last who free there);
})

module _ {D : Type 0} where
  -- ---- jobs of nodes, mails and seats

  -- Of some nodes and mails the first have gone into jobs, with these seats, and the others are left.
  pub record Handing (nodes : List (Node D)) (mails : List FreeMail) (seats : List Seat) (jobs : List (FreeJob D)) (nodes_left : List (Node D))
      (mails_left : List FreeMail) : Type 0 where
    pub nodes_are : nodes ≡ map node_in jobs ++ nodes_left
    pub mails_are : mails ≡ map mail_in jobs ++ mails_left
    pub seats_are : seats ≡ map seat_in jobs
    pub memory : (who : ℕ) (job : FreeJob D) → slice_get jobs who ≡ Some job → job.short ≡ false

  pub handing_none : (nodes : List (Node D)) (mails : List FreeMail) (jobs : List (FreeJob D)) → jobs ≡ [] → Handing nodes mails [] jobs nodes mails
  handing_none nodes mails jobs none =
      subst (λ l. Handing nodes mails [] l nodes mails) (sym none)
      (record { nodes_are = refl; mails_are = refl; seats_are = refl; memory = λ who job is. absurd cc })

  -- as many are left as there are seats to come
  pub nodes_to_come : (nodes nodes_left : List (Node D)) (mails mails_left : List FreeMail) (all seats : List Seat) (jobs : List (FreeJob D))
      → Handing nodes mails seats jobs nodes_left mails_left
      → length nodes ≡ length all → length seats < length all → 0 < length nodes_left
  nodes_to_come nodes nodes_left mails mails_left all seats jobs so_far count within =
      let parts = ap length so_far.nodes_are ∙ length-append (map node_in jobs) nodes_left in
      let had = length-map jobs node_in in
      let given = ap length so_far.seats_are ∙ length-map jobs seat_in in
      omega (arith, count, within, parts, had, given)

  pub mails_to_come : (nodes nodes_left : List (Node D)) (mails mails_left : List FreeMail) (all seats : List Seat) (jobs : List (FreeJob D))
      → Handing nodes mails seats jobs nodes_left mails_left
      → length mails ≡ length all → length seats < length all → 0 < length mails_left
  mails_to_come nodes nodes_left mails mails_left all seats jobs so_far count within =
      let parts = ap length so_far.mails_are ∙ length-append (map mail_in jobs) mails_left in
      let had = length-map jobs mail_in in
      let given = ap length so_far.seats_are ∙ length-map jobs seat_in in
      omega (arith, count, within, parts, had, given)

  pub handing_next : (nodes nodes_left nodes_after : List (Node D)) (mails mails_left mails_after : List FreeMail) (seats : List Seat)
      (jobs after : List (FreeJob D)) (job : FreeJob D)
      → Handing nodes mails seats jobs nodes_left mails_left → 0 < length nodes_left → 0 < length mails_left → job.node ≡ slice_index_or nodes_left 0 job.node
      → job.mail ≡ slice_index_or mails_left 0 job.mail
      → nodes_after ≡ remove nodes_left 0 → mails_after ≡ remove mails_left 0 → after ≡ jobs ++ job ∷ [] → job.short ≡ false
      → Handing nodes mails (seats ++ job.seat ∷ []) after nodes_after mails_after
  handing_next nodes nodes_left nodes_after mails mails_left mails_after seats jobs after job so_far nodes_some mails_some node mail nodes_rest mails_rest is had =
      let node_first = first_left nodes_left job.node nodes_some node ∙ ap (λ rest. job.node ∷ rest) (sym nodes_rest) in
      let mail_first = first_left mails_left job.mail mails_some mail ∙ ap (λ rest. job.mail ∷ rest) (sym mails_rest) in
      subst (λ l. Handing nodes mails (seats ++ job.seat ∷ []) l nodes_after mails_after) (sym is) (record {
        nodes_are =
            so_far.nodes_are ∙ ap (λ left. map node_in jobs ++ left) node_first ∙ sym (append_assoc (map node_in jobs) (job.node ∷ []) nodes_after)
            ∙ ap (λ l. l ++ nodes_after) (sym (map-append node_in jobs (job ∷ [])));
        mails_are =
            so_far.mails_are ∙ ap (λ left. map mail_in jobs ++ left) mail_first ∙ sym (append_assoc (map mail_in jobs) (job.mail ∷ []) mails_after)
            ∙ ap (λ l. l ++ mails_after) (sym (map-append mail_in jobs (job ∷ [])));
        seats_are = ap (λ l. l ++ job.seat ∷ []) so_far.seats_are ∙ sym (map-append seat_in jobs (job ∷ []));
        memory = λ who one there.
            ⊎_elim (λ old. so_far.memory who one old) (λ new. ap (λ (j : FreeJob D). j.short) new.1 ∙ had) (found_last jobs job who one there);
      })

  pub handed_all : (nodes nodes_left : List (Node D)) (mails mails_left : List FreeMail) (seats : List Seat) (jobs : List (FreeJob D))
      → Handing nodes mails seats jobs nodes_left mails_left
      → length nodes ≡ length seats → length mails ≡ length seats → AreJobsOf nodes mails seats jobs
  handed_all nodes nodes_left mails mails_left seats jobs handed nodes_count mails_count =
      let given = ap length handed.seats_are ∙ length-map jobs seat_in in
      record {
        nodes_are = none_left nodes (map node_in jobs) nodes_left handed.nodes_are (nodes_count ∙ given ∙ sym (length-map jobs node_in));
        mails_are = none_left mails (map mail_in jobs) mails_left handed.mails_are (mails_count ∙ given ∙ sym (length-map jobs mail_in));
        seats_are = handed.seats_are;
      }

  -- ---- and taken apart again

  pub parting_none : (nodes : List (Node D)) (mails : List FreeMail) (seats : List Seat) → nodes ≡ [] → mails ≡ [] → seats ≡ []
      → AreJobsOf {D = D} nodes mails seats []
  parting_none nodes mails seats no_nodes no_mails no_seats = record { nodes_are = no_nodes; mails_are = no_mails; seats_are = no_seats }

  pub parting_next : (nodes nodes_after : List (Node D)) (mails mails_after : List FreeMail) (seats seats_after : List Seat) (jobs : List (FreeJob D))
      (job : FreeJob D) → AreJobsOf nodes mails seats jobs
      → nodes_after ≡ nodes ++ job.node ∷ [] → mails_after ≡ mails ++ job.mail ∷ [] → seats_after ≡ seats ++ job.seat ∷ []
      → AreJobsOf nodes_after mails_after seats_after (jobs ++ job ∷ [])
  parting_next nodes nodes_after mails mails_after seats seats_after jobs job so_far nodes_is mails_is seats_is = record {
    nodes_are = nodes_is ∙ ap (λ l. l ++ job.node ∷ []) so_far.nodes_are ∙ sym (map-append node_in jobs (job ∷ []));
    mails_are = mails_is ∙ ap (λ l. l ++ job.mail ∷ []) so_far.mails_are ∙ sym (map-append mail_in jobs (job ∷ []));
    seats_are = seats_is ∙ ap (λ l. l ++ job.seat ∷ []) so_far.seats_are ∙ sym (map-append seat_in jobs (job ∷ []));
  }

-- ---- jobs that have run

pub on_ok : {T E : Type 0} (result : Result T E) (P Q : Type 0) → (P → Q) → OnOk result P → OnOk result Q
on_ok (Ok value) P Q goes is = goes is
on_ok (Err fault) P Q goes is = tt

module _ {D : Type 0} (view : DiskView D) (table : Table) (book : SharedBook) (setting : Setting) where
  abbrev HasTurns : (who taken : ℕ) → Situation → FreeJob D → Type 0
  HasTurns who taken situation job = IsJobAt view (plan_of table book situation setting) book who taken job

  -- all jobs but the first, whose numbers begin at 1
  pub others_begun : (situation : Situation) (first : FreeJob D) (others : List (FreeJob D))
      → AreJobsAt view (plan_of table book situation setting) book 0 (first ∷ others) → (who : ℕ) (none : FreeJob D) → who < length others
      → IsJobAt view (plan_of table book situation setting) book (who + 1) 0 (slice_index_or others who none)
  others_begun situation first others begun who none within =
      let next : who + 1 ≡ suc who = omega arith in
      let job : FreeJob D = slice_index_or others who none in
      subst (λ n. HasTurns n 0 situation job) (sym next) (begun (suc who) job (slice_get-get_or others who none within))

  -- each has taken its turns, where none was short of memory
  pub all_run : (first first_after : FreeJob D) (others others_after : List (FreeJob D)) → length others_after ≡ length others
      → (first_after.short ≡ false → (situation : Situation) → HasTurns 0 0 situation first → HasTurns 0 setting.turns situation first_after)
      → ((who : ℕ) (none : FreeJob D) → who < length others → (slice_index_or others_after who none).short ≡ false → (situation : Situation)
      → HasTurns (who + 1) 0 situation (slice_index_or others who none) → HasTurns (who + 1) setting.turns situation (slice_index_or others_after who none))
      → ((who : ℕ) (job : FreeJob D) → slice_get (first_after ∷ others_after) who ≡ Some job → job.short ≡ false) → (situation : Situation)
      → AreJobsAt view (plan_of table book situation setting) book 0 (first ∷ others)
      → AreJobsAt view (plan_of table book situation setting) book setting.turns (first_after ∷ others_after)
  all_run first first_after others others_after count runs others_run had situation begun zero job there =
      let same : first_after ≡ job = cc in
      subst (λ (j : FreeJob D). HasTurns 0 setting.turns situation j) same (runs (had zero first_after refl) situation (begun zero first refl))
  all_run first first_after others others_after count runs others_run had situation begun (suc who) job there =
      let inside = slice_get_within others_after who job there in
      let within : who < length others = omega (arith, inside, count) in
      let same = got_at others_after who job job there in
      let next : who + 1 ≡ suc who = omega arith in
      subst (λ (j : FreeJob D). HasTurns (suc who) setting.turns situation j) same
      (subst (λ n. HasTurns n setting.turns situation (slice_index_or others_after who job)) next
      (others_run who job within (ap (λ (j : FreeJob D). j.short) same ∙ had (suc who) job there) situation
      (others_begun situation first others begun who job within)))

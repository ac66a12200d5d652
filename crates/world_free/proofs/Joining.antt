-- A step that a replica has taken beside what its seat has seen becomes a turn of the shared book, whatever others have done since.
use Rattle.std.proofs.Common.{◌≡◌, ℕ, ◌+◌, ◌-◌, ◌<◌, ◌≤◌, ◌^◌, true, List, [], ◌∷◌, ◌++◌, length, map, ℤ, None, Option, IfSome, refl, sym, ap, ◌∙◌, subst, inl, inr, arith, append_assoc}
use Rattle.std.specs.List.{Contains, slice_get}
use Rattle.std.specs.Option.{option_to_list}
use Rattle.std.proofs.lemmas.List.{length-append, length-map}
use Rattle.std.proofs.lemmas.List.Elements.{Contains-append_cases}
use Rattle.disk_model.specs.declared.armed.Arm.{Arm}
use Rattle.disk_model.specs.View.{DiskView}
use Rattle.launch_machine.specs.Clerk.{first_rows}
use Rattle.paxos_base.specs.declared.durable.Delta.{Delta}
use Rattle.step_spec.specs.Folds.{deltas_of}
use Rattle.history.specs.Book.{Row, Standing, acts_at, after_row, post, standing_after}
use Rattle.history.specs.Legal.{IsLegal, IsMade, MayFollow, TakesTurn}
use Rattle.history.specs.declared.turn.CallRow.{CallRow}
use Rattle.history.specs.declared.turn.Turn.{Turn}
use Rattle.history.specs.declared.turn.Turn.TheVariants.{Did}
use Rattle.replica_node.specs.Node.{replica_of}
use Rattle.script_text.specs.Command.{IsSkew}
use Rattle.script_semantics.specs.Free.{after_all_posted, after_posted, next_cause}
use Rattle.script_semantics.specs.Situation.{Situation, after_turn, armed_after, arms_after, bases_kept, bases_with, calls_for, changes_in, fates_after, is_cut, letters_for}
use Rattle.script_semantics.specs.Others.{mail_behind}
use Rattle.script_semantics.proofs.FreeMailLemmas.{Passes}
use Rattle.script_semantics.proofs.NextLemmas.{mail_next}
use Rattle.world_law.specs.Book.{BookState, StandsBehind, posted_as, standing_behind}
use Rattle.world_law.specs.Replicas.{IsTurnOf, StandsAt}
use Rattle.world_law.specs.Rows.{HasTurnOf}
use Rattle.world_law.specs.declared.row.BookRow.{BookRow}
use Rattle.world_law.proofs.Behind.{turn_is_added}
use Rattle.world_steps.specs.Nodes.{IsDiskAt}
use Rattle.world_steps.specs.Parts.{armed_in}
use Rattle.world_steps.specs.declared.mail.MemberMail.{MemberMail}
use Rattle.world_steps.specs.Turns.{IsNextStep, MayJoin, arm_then, fate_then, noted}
use Rattle.world_steps.specs.declared.steps.Taken.{Taken}
use Rattle.world_steps.proofs.AfterTurn.{did_arm, did_fate, did_waits}
use Rattle.world_steps.proofs.Bases.{arm_spent}
use Rattle.world_steps.proofs.Foreseen.{added, adds}
use Rattle.world_steps.proofs.Joined.{turn_of_step}
use Rattle.world_free.specs.Jobs.{HasGone, ArePlayedRows, IsStepper, situation_in}
use Rattle.world_free.specs.Mails.{HasLooked, IsMailIn, IsPostedTo, coming, posted_with}
use Rattle.world_free.specs.Plan.{ArePlayed, FreePlan, SharedBook}
use Rattle.world_free.specs.Ready.{row_of_step}
use Rattle.world_free.specs.Seats.{rows_by}
use Rattle.world_free.specs.declared.job.FreeJob.{FreeJob}
use Rattle.world_free.specs.declared.job.FreeMail.{FreeMail}
use Rattle.world_free.proofs.Gone.{cuts_stay, did_posts, gone_next, in_mail, turn_runs}
use Rattle.world_free.proofs.Letters.{coming_in_two, coming_is_sent, letters_come}
use Rattle.world_free.proofs.Played.{played_stand, situation_stands}
use Rattle.world_free.proofs.Since.{IsHere, Lately, changes_before, changes_seen, few_here, is_then, lately, left_by, looked_here, still_at, takes_here, told_here, two}
use Rattle.history.proofs.Standings.{fact_here}
use Rattle.step_spec.proofs.ListLemmas.{found_still as found_more}
use Rattle.step_spec.proofs.Lists.{AllZip-append}

module _ {D : Type 0} (view : DiskView D) (plan : FreePlan) (book : SharedBook) (who taken : ℕ) (step : Taken) (job : FreeJob D)
    (stepper : IsStepper view plan book who taken step job) (gone : List BookRow) (others : rows_by who gone ≡ []) (state : BookState)
    (here : IsHere plan (stepper.after ++ gone) state) (rest : state.pending ≡ None) (members : state.members ≡ plan.book.members) where
  abbrev rows_now : List Row
  rows_now = here.begun ++ here.more

  -- ---- the step may become a turn here

  pub next_here : IsNextStep plan.table rows_now state who step stepper.old (replica_of job.node)
  next_here = record {
    behind = here.behind;
    rest = rest;
    few = few_here plan book who stepper.after stepper.of_plan stepper.some gone others state here rest members;
    stands = still_at plan book who stepper.after stepper.of_plan stepper.some gone others state here rest members stepper.old stepper.next.stands stepper.next.me;
    me = stepper.next.me;
    step = record {
      input = stepper.next.step.input;
      is_told = told_here plan book who stepper.after stepper.of_plan stepper.some gone others state here rest members step.cause stepper.next.step.input stepper.next.step.is_told;
      inside = stepper.next.step.inside;
      steps = stepper.next.step.steps;
    };
  }

  takes_now : TakesTurn state.members plan.table (standing_behind plan.table rows_now state) stepper.old.identity.me step.cause stepper.next.step.steps.event
  takes_now =
      takes_here plan book who stepper.after stepper.of_plan stepper.some gone others state here rest members step.cause stepper.next.step.input stepper.old stepper.next.step.steps.event
      next_here.stands next_here.me (told_here plan book who stepper.after stepper.of_plan stepper.some gone others state here rest members step.cause stepper.next.step.input stepper.next.step.is_told)
      stepper.next.step.inside stepper.next.step.steps.event_is

  pub may_join : MayJoin plan.table state who step
  may_join = record { rows = rows_now; old = stepper.old; new = replica_of job.node; next = next_here }

  -- its thread has looked at no letter that isn't there
  pub looked_within : job.mail.looked ≤ length state.letters
  looked_within =
      let split = two plan book who stepper.after stepper.of_plan stepper.some gone others state here rest members in
      looked_here plan book who stepper.after stepper.of_plan stepper.some gone others state here rest members job.mail.looked (stepper.mail here.begun split.one split.first).looked

  -- ---- the turn

  module _ (made : Option CallRow) (call : IsMade (standing_behind plan.table rows_now state).held (option_to_list step.out.call) made) (during : BookState) (stands : StandsBehind plan.table rows_now during)
      (pending : during.pending ≡ made) (same : during.members ≡ state.members) (few_turns : length state.turns + 1 < 2 ^ 31) where
    abbrev row_now : BookRow
    row_now = row_of_step who step made

    abbrev rows_then : List BookRow
    rows_then = (stepper.after ++ gone) ++ row_now ∷ []

    turn : IsTurnOf plan.table rows_now state who step.cause made step.out (replica_of job.node)
    turn = turn_of_step plan.table rows_now state who step stepper.old (replica_of job.node) made next_here call

    abbrev book_then : BookState
    book_then = added (Did who step.cause made) step.out.letters during

    behind_then : StandsBehind plan.table (rows_now ++ turn.row ∷ []) book_then
    behind_then =
        turn_is_added plan.table (Did who step.cause made) step.out during book_then pending (adds (Did who step.cause made) step.out.letters during) rows_now turn.row stands turn.is
        (subst (λ n. MayFollow n plan.table (standing_after n (first_rows plan.table) rows_now) turn.row.turn turn.row) (sym same) turn.may)

    members_then : book_then.members ≡ plan.book.members
    members_then = same ∙ members

    are_then : ArePlayed plan rows_then here.begun (here.more ++ turn.row ∷ [])
    are_then = record {
      legal = subst (λ n. IsLegal n plan.table (here.begun ++ (here.more ++ turn.row ∷ []))) members_then
          (subst (λ all. IsLegal book_then.members plan.table all) (append_assoc here.begun here.more (turn.row ∷ [])) behind_then.legal);
      turns = here.are.turns;
      each = AllZip-append HasTurnOf (stepper.after ++ gone) (row_now ∷ []) here.more (turn.row ∷ []) here.are.each (turn.is, tt);
    }

    pub played_then : ArePlayedRows plan rows_then
    played_then = record {
      begun = here.begun;
      more = here.more ++ turn.row ∷ [];
      are = are_then;
      book = book_then;
      behind = subst (λ all. StandsBehind plan.table all book_then) (append_assoc here.begun here.more (turn.row ∷ [])) behind_then;
      rest = refl;
      members = members_then;
      few =
          let long : length state.turns ≡ length rows_now = ap length here.behind.turns ∙ length-map rows_now (λ (row : Row). row.turn) in
          let also : length during.turns ≡ length rows_now = ap length stands.turns ∙ length-map rows_now (λ (row : Row). row.turn) in
          let one = length-append during.turns (Did who step.cause made ∷ []) in
          omega (arith, long, also, one, few_turns);
    }

    -- the replica stands where the turn leaves it
    pub state_then : (begun more : List Row) → ArePlayed plan rows_then begun more → (replica_of job.node).state ≡ (situation_in plan more).standing.replicas who
    state_then begun more are =
        let at : StandsAt plan.table (rows_now ++ turn.row ∷ []) book_then (replica_of job.node) = turn.stands book_then same in
        let me : (replica_of job.node).identity.me ≡ who = rw stepper.node.identity refl in
        let standing : standing_behind plan.table (rows_now ++ turn.row ∷ []) book_then ≡ (situation_in plan more).standing =
        ap (λ rows. standing_behind plan.table rows book_then) (append_assoc here.begun here.more (turn.row ∷ []))
        ∙ ap (λ n. standing_after n (first_rows plan.table) (here.begun ++ (here.more ++ turn.row ∷ []))) members_then
        ∙ played_stand plan rows_then here.begun (here.more ++ turn.row ∷ []) begun more are_then are ∙ sym (situation_stands plan book rows_then begun more stepper.of_plan are) in
        at.state ∙ ap (standing_behind plan.table (rows_now ++ turn.row ∷ []) book_then).replicas me ∙ ap (λ (s : Standing). s.replicas who) standing

    -- ---- whatever rows have what the seat has seen then

    module _ (begun more : List Row) (are : ArePlayed plan rows_then begun more) where
      late : Lately plan who stepper.after state rows_now row_now begun more
      late = lately plan book who stepper.after stepper.of_plan stepper.some gone others state here rest members row_now begun more are

      abbrev seen_last : Situation
      seen_last = situation_in plan late.one

      abbrev here_before : Situation
      here_before = after_all_posted plan.book.members seen_last late.other

      mail_was : IsMailIn seen_last who job.mail
      mail_was = stepper.mail begun late.one late.first

      cause_was : step.cause ≡ next_cause plan.table.window plan.at who taken seen_last
      cause_was = stepper.cause begun late.one late.first

      left : Passes who seen_last here_before
      left = left_by plan who stepper.after state rows_now row_now begun more late members

      then : situation_in plan more ≡ after_posted plan.book.members here_before late.row
      then = is_then plan who stepper.after state rows_now row_now begun more late members

      -- ---- the change of the step

      changes_now : deltas_of (acts_at plan.book.members here_before.standing who late.row.event) ≡ option_to_list step.out.delta
      changes_now =
          changes_before plan who stepper.after state rows_now row_now begun more late members step.cause stepper.old stepper.next.step.steps.event (option_to_list step.out.delta)
          next_here.stands next_here.me takes_now stepper.next.step.steps.took.delta
          (subst (λ (turn : Turn). MayFollow state.members plan.table (standing_behind plan.table rows_now state) turn late.row) late.is.turn_is late.may).0

      changes_of : (s : Standing) → deltas_of (acts_at plan.book.members s who late.row.event) ≡ option_to_list step.out.delta
          → changes_in plan.book.members s late.row.turn late.row.event ≡ option_to_list step.out.delta
      changes_of s are = ap (λ (turn : Turn). changes_in plan.book.members s turn late.row.event) late.is.turn_is ∙ are

      pub gone_then : IfSome made (λ call. call.fate ≡ job.mail.mail.fate) → HasGone plan who (taken + 1) more
      gone_then fated =
          subst (λ rows. HasGone plan who (taken + 1) rows) (sym late.parts)
          (gone_next plan who taken late.one late.other late.row step.cause made (option_to_list step.out.delta) (stepper.gone begun late.one late.first) stepper.left late.others late.is.turn_is cause_was
          (subst (λ fate. IfSome made (λ call. call.fate ≡ fate)) mail_was.fate fated)
          (changes_of seen_last.standing (changes_seen plan who stepper.after state rows_now row_now begun more late members (option_to_list step.out.delta) changes_now))
          (stepper.saved begun late.one late.first))

      -- the disk is where the turn leaves it
      pub disk_then : IsDiskAt view ((situation_in plan more).bases who) job.node
      disk_then = subst (λ (count : ℕ). IsDiskAt view count job.node) (sym bases_then) (stepper.disk begun late.one late.first)
        where
          bases_then : (situation_in plan more).bases who ≡ bases_with (option_to_list step.out.delta) (seen_last.bases who)
          bases_then =
              ap (λ (s : Situation). s.bases who) then
              ∙ ap (λ (changes : List Delta). bases_kept late.row.turn changes here_before.bases who) (changes_of here_before.standing changes_now)
              ∙ ap (λ (turn : Turn). bases_kept turn (option_to_list step.out.delta) here_before.bases who) late.is.turn_is
              ∙ fact_here who (bases_with (option_to_list step.out.delta) (here_before.bases who)) here_before.bases
              ∙ ap (bases_with (option_to_list step.out.delta)) left.bases

      -- ---- letters

      -- the letters that were posted before the turn are those of the book, and then those of the step
      posted_before : here_before.standing.posted ≡ map posted_as state.letters
      posted_before = ap (λ (s : Standing). s.posted) late.stands ∙ sym here.behind.letters

      posted_then : (situation_in plan more).standing.posted ≡ posted_with state.letters who step
      posted_then =
          ap (λ (s : Situation). s.standing.posted) then
          ∙ did_posts plan.book.members here_before.standing late.row.turn who step.cause made late.row.event late.row.letters late.is.turn_is
          ∙ ap (λ letters. letters ++ post who late.row.letters) posted_before ∙ ap (λ letters. map posted_as state.letters ++ post who letters) late.is.letters

      runs_before : here_before.standing.runs who ≡ true
      runs_before = left.runs ∙ (stepper.gone begun late.one late.first).runs

      cuts_before : (from to : ℕ) → is_cut from to plan.cuts ≡ is_cut from to here_before.cuts
      cuts_before from to = stepper.of_plan.cuts from to ∙ ap (is_cut from to) (sym (left.cuts ∙ cuts_stay plan.book.members plan.situation late.one))

      -- the mail after the turn, as the thread has it
      letters_then : (situation_in plan more).mails who
          ≡ mail_behind step.cause job.mail.mail.letters.items
          ++ coming plan.cuts who (posted_with state.letters who step) job.mail.looked (length (posted_with state.letters who step) - job.mail.looked)
      letters_then =
          ap (λ (s : Situation). s.mails who) then
          ∙ mail_next plan.book.members who taken plan.table.window plan.at seen_last late.other late.row step.cause made late.others late.is.turn_is cause_was
          ∙ append_assoc (mail_behind step.cause (seen_last.mails who)) meanwhile own
          ∙ ap (λ letters. mail_behind step.cause letters ++ (meanwhile ++ own)) (sym mail_was.letters_are)
          ∙ ap (λ letters. mail_behind step.cause job.mail.mail.letters.items ++ letters) (both ∙ sym split)
        where
          meanwhile : List ℕ
          meanwhile = letters_for here_before (length seen_last.standing.posted) who

          own : List ℕ
          own = letters_for (after_turn plan.book.members here_before late.row) (length here_before.standing.posted) who

          posted_all : (after_turn plan.book.members here_before late.row).standing.posted ≡ posted_with state.letters who step
          posted_all = ap (λ (s : Situation). s.standing.posted) (sym then) ∙ posted_then

          looked_to : length seen_last.standing.posted ≡ job.mail.looked
          looked_to = sym mail_was.looked

          within : job.mail.looked ≤ length (map posted_as state.letters)
          within =
              let long = ap length left.posted_is in
              let sum = length-append seen_last.standing.posted left.posted in
              let same = ap length posted_before in
              omega (arith, long, sum, same, looked_to)

          first : meanwhile ≡ coming plan.cuts who (map posted_as state.letters) job.mail.looked (length (map posted_as state.letters) - job.mail.looked)
          first =
              letters_come plan.cuts who here_before (length seen_last.standing.posted) runs_before cuts_before
              ∙ ap (λ posted. coming plan.cuts who posted (length seen_last.standing.posted) (length posted - length seen_last.standing.posted)) posted_before
              ∙ ap (λ from. coming plan.cuts who (map posted_as state.letters) from (length (map posted_as state.letters) - from)) looked_to

          new : ℕ
          new = length (post who step.out.letters)

          second : own ≡ coming plan.cuts who (posted_with state.letters who step) (length (map posted_as state.letters)) new
          second =
              letters_come plan.cuts who (after_turn plan.book.members here_before late.row) (length here_before.standing.posted)
              (turn_runs plan.book.members who here_before late.row step.cause made late.is.turn_is runs_before) cuts_before
              ∙ ap (λ posted. coming plan.cuts who posted (length here_before.standing.posted) (length posted - length here_before.standing.posted)) posted_all
              ∙ ap (λ from. coming plan.cuts who (posted_with state.letters who step) from (length (posted_with state.letters who step) - from)) (ap length posted_before)
              ∙ ap (λ count. coming plan.cuts who (posted_with state.letters who step) (length (map posted_as state.letters)) count)
              (let sum = length-append (map posted_as state.letters) (post who step.out.letters) in omega (arith, sum))

          both : meanwhile ++ own
              ≡ coming plan.cuts who (map posted_as state.letters) job.mail.looked (length (map posted_as state.letters) - job.mail.looked)
              ++ coming plan.cuts who (posted_with state.letters who step) (length (map posted_as state.letters)) new
          both = ap (λ l. l ++ own) first ∙ ap (λ l. coming plan.cuts who (map posted_as state.letters) job.mail.looked (length (map posted_as state.letters) - job.mail.looked) ++ l) second

          split : coming plan.cuts who (posted_with state.letters who step) job.mail.looked (length (posted_with state.letters who step) - job.mail.looked)
              ≡ coming plan.cuts who (map posted_as state.letters) job.mail.looked (length (map posted_as state.letters) - job.mail.looked)
              ++ coming plan.cuts who (posted_with state.letters who step) (length (map posted_as state.letters)) new
          split = coming_in_two plan.cuts who (map posted_as state.letters) (post who step.out.letters) job.mail.looked within

      -- each letter of it goes to the replica
      sent_then : (number : ℕ) → Contains (mail_behind step.cause job.mail.mail.letters.items
          ++ coming plan.cuts who (posted_with state.letters who step) job.mail.looked (length (posted_with state.letters who step) - job.mail.looked)) number
          → IsPostedTo (posted_with state.letters who step) who number
      sent_then number has = elim (Contains-append_cases (mail_behind step.cause job.mail.mail.letters.items) _ number has) [
        | inl old ↦
            let was = mail_was.sent number (in_mail step.cause job.mail.mail.letters.items number old) in
            record {
              letter = was.letter;
              there =
                  ap (λ l. slice_get l number) (ap (λ l. l ++ post who step.out.letters) (sym posted_before ∙ left.posted_is))
                  ∙ found_more (seen_last.standing.posted ++ left.posted) (post who step.out.letters) number was.letter (found_more seen_last.standing.posted left.posted number was.letter was.there);
              to = was.to;
            }
        | inr new ↦ coming_is_sent plan.cuts who (posted_with state.letters who step) job.mail.looked (length (posted_with state.letters who step) - job.mail.looked) number new
      ]

      pub mail_then : (looked after : FreeMail) → HasLooked plan.cuts state.letters who step job.mail looked → after.mail ≡ noted made (calls_for (option_to_list step.out.delta)) looked.mail → after.looked ≡ looked.looked → after.bytes.items ≡ looked.bytes.items
          → IsMailIn (situation_in plan more) who after
      mail_then looked after looks noted_is looked_is bytes_are = record {
        runs = ap (λ (m : MemberMail). m.runs) noted_is ∙ looks.set.runs ∙ mail_was.runs;
        letters_are = letters_are_then;
        skew = skew_is;
        small = subst IsSkew (sym (ap (λ (m : MemberMail). m.skew) noted_is ∙ looks.set.skew)) mail_was.small;
        fate =
            ap (λ (m : MemberMail). m.fate) noted_is ∙ ap (fate_then made) (looks.set.fate ∙ mail_was.fate ∙ sym left.fate)
            ∙ sym (did_fate who step.cause made here_before.fates) ∙ ap (λ turn. fates_after turn here_before.fates who) (sym late.is.turn_is) ∙ ap (λ (s : Situation). s.fates who) (sym then);
        arm =
            ap (λ (m : MemberMail). armed_in m.arm) noted_is ∙ ap (λ (arm : Option Arm). armed_in (arm_then (calls_for (option_to_list step.out.delta)) arm)) looks.set.arm
            ∙ arm_spent (option_to_list step.out.delta) job.mail.mail.arm
            ∙ ap (armed_after (option_to_list step.out.delta)) (mail_was.arm ∙ sym left.arm)
            ∙ sym (did_arm who step.cause made (option_to_list step.out.delta) here_before.arms)
            ∙ ap (λ (turn : Turn). arms_after turn (option_to_list step.out.delta) here_before.arms who) (sym late.is.turn_is)
            ∙ ap (λ (changes : List Delta). arms_after late.row.turn changes here_before.arms who) (sym (changes_of here_before.standing changes_now))
            ∙ ap (λ (s : Situation). s.arms who) (sym then);
        waits =
            ap (λ (m : MemberMail). m.waits) noted_is ∙ sym (did_waits plan.book.members here_before.standing who step.cause made late.row.event late.row.letters)
            ∙ ap (λ turn. (after_row plan.book.members here_before.standing turn late.row.event late.row.letters).waits who) (sym late.is.turn_is) ∙ ap (λ (s : Situation). s.standing.waits who) (sym then);
        looked = looked_is ∙ looks.looked ∙ ap length (sym posted_then);
        sent = λ number has.
            subst (λ posted. IsPostedTo posted who number) (sym posted_then)
            (sent_then number (subst (λ letters. Contains letters number) (ap (λ (m : MemberMail). m.letters.items) noted_is ∙ looks.letters_are) has));
        bytes = λ number rest letter first there.
            bytes_are
            ∙ looks.bytes number rest letter (ap (λ (m : MemberMail). m.letters.items) (sym noted_is) ∙ first) (ap (λ posted. slice_get posted number) (sym posted_then) ∙ there);
      }
        where
          letters_are_then : after.mail.letters.items ≡ (situation_in plan more).mails who
          letters_are_then = ap (λ (m : MemberMail). m.letters.items) noted_is ∙ looks.letters_are ∙ sym letters_then

          skew_is : after.mail.skew ≡ (situation_in plan more).skews who
          skew_is =
              ap (λ (m : MemberMail). m.skew) noted_is ∙ looks.set.skew ∙ mail_was.skew ∙ ap (λ (skews : ℕ → ℤ). skews who) (sym left.skews) ∙ ap (λ (s : Situation). s.skews who) (sym then)

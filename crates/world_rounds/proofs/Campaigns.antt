-- A replica of a world stands for leader.
use Rattle.std.proofs.Common.{List, None, Option, Some, [], ap, append-nil as append_nil, false, if◌then◌else◌, inl, inr, length, refl, subst, sym, true, ℕ, ◌++◌, ◌<◌, ◌∙◌, ◌∷◌, ◌≡◌, ◌≢◌}
use Rattle.std.specs.List.{slice_get}
use Rattle.std.proofs.Math.ListN.{set}
use Rattle.std.proofs.lemmas.List.{length-set}
use Rattle.disk_model.specs.View.{DiskView}
use Rattle.due_set.specs.Table.{Table}
use Rattle.history.specs.Book.{Row, Standing}
use Rattle.history.specs.declared.turn.Cause.TheVariants.{Campaign}
use Rattle.replica_core.specs.declared.input.Input.TheVariants as told
use Rattle.script_semantics.specs.Commands.{Plain}
use Rattle.script_semantics.specs.Situation.{Do, Situation, after_turns, delivered, is_cut}
use Rattle.world_law.specs.Book.{BookState}
use Rattle.world_steps.specs.Steps.{IsBeside, WasToldOf, causes_of, letters_heard_in}
use Rattle.world_rounds.proofs.RoundLemmas.{idle_beside}
use Rattle.world_rounds.proofs.RoundsOfAll.{performed, put_down}
use Rattle.world_rounds.proofs.StepsAt.{get_set_here, get_set_there}
use Rattle.world_rounds.proofs.Worlds.{set_cases}
use Rattle.world_rounds.specs.Campaigns.{HasStood, TakesCampaign}
use Rattle.world_rounds.specs.Mails.{Changes}
use Rattle.world_rounds.specs.Rounds.{IsMemberIdle}
use Rattle.world_rounds.specs.Taking.{CommitsOwn, HasTakenTurns, IsAhead, MayCommitOwn, PutsDown, steps_at, steps_left_to, tasks_by}
use Rattle.world_steps.specs.Parts.{IsBookAt}
use Rattle.world_rounds.specs.World.{GoesOnBy, IsMemberAhead, IsWorld, IsWorldAt}
use Rattle.world_rounds.specs.declared.member.Member.{Member}
use Rattle.world_rounds.specs.declared.world.World.{World}
use Rattle.std.proofs.lemmas.Bool.{cases_eq}

module _ {D : Type 0} (view : DiskView D) (table : Table) where
  pub told_campaign : (rows : List Row) (book : BookState) (situation : Situation) (who : ℕ) (member : Member D) → IsMemberIdle view table rows book situation who member
      → member.mail.runs ≡ true → IsBeside view table rows book who member.steps.items member.node × WasToldOf table rows book who member.steps.items Campaign told.Campaign
  told_campaign rows book situation who member idle runs = (
    subst (λ steps. IsBeside view table rows book who steps member.node) (sym idle.none) (idle_beside view table book rows situation who member idle runs),
    record { is_told = refl; inside = tt },
  )

  pub campaign_taken : (rows : List Row) (book : BookState) (situation : Situation) (who : ℕ) (old new : Member D) → IsMemberIdle view table rows book situation who old
      → old.mail.runs ≡ true → IsBeside view table rows book who new.steps.items new.node → new.mail ≡ old.mail → causes_of new.steps.items ≡ causes_of old.steps.items ++ Campaign ∷ []
      → HasStood view table rows book situation who new
  campaign_taken rows book situation who old new idle runs beside mail causes = record {
    ahead = record {
      mail = rw mail (record {
        runs = idle.ahead.mail.runs;
        letters_are = idle.ahead.mail.letters_are ∙ sym (ap (λ causes. letters_heard_in causes ++ old.mail.letters.items) own);
        skew = idle.ahead.mail.skew;
        small = idle.ahead.mail.small;
        fate = idle.ahead.mail.fate;
        waits = idle.ahead.mail.waits;
        arm = idle.ahead.mail.arm;
        sent = idle.ahead.mail.sent;
      });
      running = λ here. beside.ahead;
      stopped = λ stopped. absurd (let e : true ≡ false = sym (sym (ap (λ (s : Standing). s.runs who) idle.at.standing) ∙ sym idle.ahead.mail.runs ∙ runs) ∙ stopped in cc);
    };
    causes = own;
  }
    where
      own : causes_of new.steps.items ≡ Campaign ∷ []
      own = causes ∙ ap (λ steps. causes_of steps ++ Campaign ∷ []) idle.none

  -- ---- the world

  pub idle_steps : (rows : List Row) (world : World D) (situation : Situation) (who : ℕ) → IsWorldAt view table rows world situation → steps_at world who ≡ []
  idle_steps rows world situation who is = go (slice_get world.members.items who) refl
    where
      go : (found : Option (Member D)) → slice_get world.members.items who ≡ found → steps_left_to found ≡ []
      go None none = refl
      go (Some member) there = is.idle who member there

  own_steps : (world middle : World D) (who : ℕ) (next : Member D) → middle.members.items ≡ set world.members.items who next → who < length world.members.items
      → steps_at middle who ≡ next.steps.items
  own_steps world middle who next members below = ap (λ members. steps_left_to (slice_get members who)) members ∙ ap steps_left_to (get_set_here world.members.items who next below)

  other_steps : (world middle : World D) (who : ℕ) (next : Member D) (other : ℕ) → middle.members.items ≡ set world.members.items who next → other ≢ who
      → steps_at middle other ≡ steps_at world other
  other_steps world middle who next other members differs =
      ap (λ members. steps_left_to (slice_get members other)) members ∙ ap steps_left_to (get_set_there world.members.items who next other differs)

  stood : (rows : List Row) (world : World D) (situation : Situation) (who : ℕ) (member next : Member D) → IsWorldAt view table rows world situation
      → slice_get world.members.items who ≡ Some member → TakesCampaign view table world.book member next
      → HasStood view table rows world.book situation who next
  stood rows world situation who member next is there takes =
      takes rows situation who (record { at = is.ahead.at; ahead = is.ahead.each who member there; none = is.idle who member there })

  campaign_ahead : (rows : List Row) (world middle : World D) (situation : Situation) (who : ℕ) (member next : Member D) → IsWorldAt view table rows world situation
      → slice_get world.members.items who ≡ Some member → who < length world.members.items → middle.members.items ≡ set world.members.items who next
      → TakesCampaign view table world.book member next → middle.book ≡ world.book → middle.cuts ≡ world.cuts → middle.latest ≡ world.latest
      → IsAhead view table rows middle situation
  campaign_ahead rows world middle situation who member next is there below members takes book cuts latest = record {
    at = subst (λ book. IsBookAt table rows book situation) (sym book) is.ahead.at;
    count = ap length members ∙ length-set world.members.items who next ∙ is.ahead.count ∙ sym (ap (λ (book : BookState). book.members) book);
    each = λ k x found.
        subst (λ book. IsMemberAhead view table rows book situation k (steps_at middle k) x) (sym book)
        (elim (set_cases world.members.items who next k x (subst (λ members. slice_get members k ≡ Some x) members found)) [
          | inl here ↦
              subst (λ k. IsMemberAhead view table rows world.book situation k (steps_at middle k) x) (sym here.0)
              (subst (λ steps. IsMemberAhead view table rows world.book situation who steps x) (sym (own_steps world middle who next members below))
              (subst (λ x. IsMemberAhead view table rows world.book situation who next.steps.items x) (sym here.1) (stood rows world situation who member next is there takes).ahead))
          | inr other ↦
              subst (λ steps. IsMemberAhead view table rows world.book situation k steps x)
              (sym (other_steps world middle who next k members other.0 ∙ idle_steps rows world situation k is)) (is.ahead.each k x other.1)
        ]);
    cuts = λ from to. ap (λ cuts. is_cut from to cuts.items) cuts ∙ is.ahead.cuts from to;
    latest = ap (λ minute. minute.0) latest ∙ is.ahead.latest;
  }

  pub may_commit_campaign : (world middle : World D) (who : ℕ) (member next : Member D) → IsWorld view table world
      → slice_get world.members.items who ≡ Some member → who < length world.members.items → middle.members.items ≡ set world.members.items who next
      → TakesCampaign view table world.book member next → middle.book ≡ world.book → middle.cuts ≡ world.cuts → middle.latest ≡ world.latest
      → MayCommitOwn view table middle
  may_commit_campaign world middle who member next is there below members takes book cuts latest =
      record { rows = is.rows; situation = is.situation; ahead = campaign_ahead is.rows world middle is.situation who member next is.is there below members takes book cuts latest }

  pub committed_members : (middle now : World D) (who : ℕ) → CommitsOwn view table who middle now → MayCommitOwn view table middle
      → now.book.members ≡ middle.book.members
  committed_members middle now who commits may = (commits may.rows may.situation may.ahead).members_are

  -- what the campaign comes to, before its letters join the mails
  campaign_taken_on : (rows : List Row) (world middle now : World D) (situation : Situation) (who : ℕ) (member next : Member D) → IsWorldAt view table rows world situation
      → slice_get world.members.items who ≡ Some member → who < length world.members.items → middle.members.items ≡ set world.members.items who next
      → TakesCampaign view table world.book member next → middle.book ≡ world.book → middle.cuts ≡ world.cuts → middle.latest ≡ world.latest
      → CommitsOwn view table who middle now → HasTakenTurns view table world.book.members rows situation (Do who Campaign ∷ []) (steps_at now) now
  campaign_taken_on rows world middle now situation who member next is there below members takes book cuts latest commits =
      subst (λ causes. HasTakenTurns view table world.book.members rows situation (tasks_by who causes) (steps_at now) now)
      (ap causes_of (own_steps world middle who next members below) ∙ (stood rows world situation who member next is there takes).causes)
      (subst (λ n. HasTakenTurns view table n rows situation (tasks_by who (causes_of (steps_at middle who))) (steps_at now) now) (ap (λ (book : BookState). book.members) book)
      (commits rows situation (campaign_ahead rows world middle situation who member next is there below members takes book cuts latest)))

  campaign_down : (rows : List Row) (world middle now : World D) (situation : Situation) (who : ℕ) (next : Member D) → IsWorldAt view table rows world situation
      → middle.members.items ≡ set world.members.items who next → PutsDown who middle now → (k : ℕ) → steps_at now k ≡ []
  campaign_down rows world middle now situation who next is members puts k = elim (cases_eq k who) [
    | inl here ↦ ap (steps_at now) here ∙ puts.mine
    | inr other ↦ puts.others k other ∙ other_steps world middle who next k members other ∙ idle_steps rows world situation k is
  ]

  pub world_stood : (world middle now : World D) (who : ℕ) (member next : Member D) → IsWorld view table world
      → slice_get world.members.items who ≡ Some member → who < length world.members.items → middle.members.items ≡ set world.members.items who next
      → TakesCampaign view table world.book member next → middle.book ≡ world.book → middle.cuts ≡ world.cuts → middle.latest ≡ world.latest
      → CommitsOwn view table who middle now → PutsDown who middle now → IsWorld view table now
  world_stood world middle now who member next is there below members takes book cuts latest commits puts =
      let taken = campaign_taken_on is.rows world middle now is.situation who member next is.is there below members takes book cuts latest commits in
      record {
        rows = is.rows ++ taken.more;
        situation = after_turns world.book.members is.situation taken.more;
        is = put_down view table (is.rows ++ taken.more) now (after_turns world.book.members is.situation taken.more) taken.ahead
            (campaign_down is.rows world middle now is.situation who next is.is members puts);
      }

  pub campaign_goes : (world middle now new : World D) (who : ℕ) (member next : Member D) → slice_get world.members.items who ≡ Some member → who < length world.members.items
      → middle.members.items ≡ set world.members.items who next → TakesCampaign view table world.book member next → member.mail.runs ≡ true
      → middle.book ≡ world.book → middle.cuts ≡ world.cuts → middle.latest ≡ world.latest → CommitsOwn view table who middle now → PutsDown who middle now
      → Changes view (delivered (length world.book.letters)) now new
      → GoesOnBy view table (Plain world.book.members (λ situation. if situation.standing.runs who then Do who Campaign ∷ [] else []) (λ situation. situation)) world new
  campaign_goes world middle now new who member next there below members takes runs book cuts latest commits puts changes = λ rows situation is.
      let ends =
      performed view table rows world middle now new situation (Do who Campaign ∷ []) is
      (campaign_taken_on rows world middle now situation who member next is there below members takes book cuts latest commits)
      (campaign_down rows world middle now situation who next is members puts) changes in
      let stands : situation.standing.runs who ≡ true = sym (is.ahead.each who member there).mail.runs ∙ runs in (
        ends.0,
        ends.1,
        record {
          front = ends.0;
          middle = ends.1;
          back = [];
          parts = sym (append_nil ends.0);
          one = rw stands ends.2;
          two = record { none = refl; is = refl };
        },
        ends.3,
      )

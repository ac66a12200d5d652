-- Worlds that drain until one leads, until it rests, and until all have caught up.
use Rattle.std.proofs.Common.{◌≡◌, ℕ, suc, ◌+◌, ◌<◌, ◌≤◌, true, false, List, [], ◌∷◌, ◌++◌, length, ℤ, Some, refl, sym, ap, ◌∙◌, subst, inl, inr, arith, append_assoc, add-one}
use Rattle.std.specs.List.{slice_get}
use Rattle.std.proofs.lemmas.Bool.{cases_lt}
use Rattle.disk_model.specs.View.{DiskView}
use Rattle.zone_minutes.specs.Window.{IsInWindow}
use Rattle.due_set.specs.Table.{Table}
use Rattle.step_spec.specs.Step.{IsLaunchTable}
use Rattle.replica_node.specs.Node.{replica_of}
use Rattle.history.specs.Book.{Row}
use Rattle.history.specs.Legal.{IsLegal}
use Rattle.history.specs.declared.turn.Cause.TheVariants.{Campaign}
use Rattle.script_semantics.specs.Commands.{Plain}
use Rattle.script_semantics.specs.Parts.{Plays}
use Rattle.script_semantics.specs.Settling.{Drains, IsDrainRound, IsQuiet, cleared, coordinator, restart_tasks}
use Rattle.script_semantics.specs.Situation.{Do, Situation}
use Rattle.settling.specs.Leads.{GoesDrainRound}
use Rattle.settling.specs.Rounds.{GoesOnWithin as BookGoesOnBy, IsFaultless}
use Rattle.settling.specs.Campaigns.{GoesCampaign}
use Rattle.settling.specs.Idle.{IsIdleAt, left_of}
use Rattle.settling.specs.Settles.{HasBeenIdleFor, LeadsNow, LeadsSoon}
use Rattle.settling.proofs.SettleLeadLemmas.{campaign_faultless, first_leads, leads_nearer, leads_on, soon_faultless, soon_last, soon_nearer, soon_quiet}
use Rattle.settling.proofs.SettleIdleLemmas.{rested_leads, rested_quiet}
use Rattle.world_rounds.proofs.DrainLemmas.{HasDrained, runs_in, same_count}
use Rattle.world_rounds.proofs.QuietLemmas.{node_state, node_table, node_waits, tells_no_quiet}
use Rattle.world_rounds.proofs.Limits.{within_bounds}
use Rattle.world_rounds.specs.Bounds.{IsBookBounded, IsFaultlessIn, left_in, left_to}
use Rattle.world_rounds.specs.Drains.{DrainsOn}
use Rattle.world_rounds.specs.Quiet.{AllRun, IsIn, AnswersFor}
use Rattle.world_rounds.specs.World.{GoesOnBy, IsWorld, IsWorldAt}
use Rattle.world_rounds.specs.declared.member.Member.{Member}
use Rattle.world_rounds.specs.declared.world.World.{World}
use Rattle.due_set.proofs.SoundLemmas.{at_place as found_at}

module _ {D : Type 0} (view : DiskView D) (table : Table) where
  -- what a world does is what its book does
  goes_book : (part : Situation → List Row → Situation → Type 0) (at : ℤ) (old new : World D) (rows more : List Row) (situation after : Situation) → IsInWindow table.window at
      → IsWorldAt view table rows old situation → IsFaultless old.book.members situation → part situation more after
      → IsWorldAt view table (rows ++ more) new after → new.book.members ≡ old.book.members → IsBookBounded new.book
      → BookGoesOnBy part old.book.members table at rows more situation after
  goes_book part at old new rows more situation after inside is faultless goes now members bounded = record {
    few = is.ahead.at.few;
    sound = is.ahead.at.sound;
    within = inside;
    legal = subst (λ n. IsLegal n table (rows ++ more)) members now.ahead.at.behind.legal;
    standing = is.ahead.at.standing;
    faultless = faultless;
    round = goes;
    limits = within_bounds view table (rows ++ more) new after now bounded;
  }

  -- ---- what holds of a world after a round of a drain

  pub given_next : (who : ℕ) (at : ℤ) (holds then_holds : ℕ → Situation → Type 0) (old new : World D)
      → ((book rows : List Row) (situation after : Situation) → holds old.book.members situation → GoesDrainRound old.book.members table who at book rows situation after
      → then_holds old.book.members after × IsFaultless old.book.members after)
      → IsInWindow table.window at → IsFaultlessIn view table holds old → GoesOnBy view table (IsDrainRound old.book.members table who at) old new
      → new.book.members ≡ old.book.members → IsBookBounded new.book → IsFaultlessIn view table then_holds new
  given_next who at holds then_holds old new law inside have goes members bounded =
      let gone = goes have.rows have.situation have.is in
      let both = law have.rows gone.0 have.situation gone.1 have.given
      (goes_book (IsDrainRound old.book.members table who at) at old new have.rows gone.0 have.situation gone.1 inside have.is have.faultless gone.2 gone.3 members bounded) in
      record {
        rows = have.rows ++ gone.0;
        situation = gone.1;
        is = gone.3;
        faultless = subst (λ n. IsFaultless n gone.1) (sym members) both.1;
        given = subst (λ n. then_holds n gone.1) (sym members) both.0;
        bounded = bounded;
      }

  pub given_world : (holds : ℕ → Situation → Type 0) (world : World D) → IsFaultlessIn view table holds world → IsWorld view table world
  given_world holds world have = record { rows = have.rows; situation = have.situation; is = have.is }

  -- ---- until one leads

  pub leads_soon_next : (who : ℕ) (at : ℤ) (rounds : ℕ) (old new : World D) → IsInWindow table.window at → IsFaultlessIn view table (λ n s. LeadsSoon (suc rounds) n table who s) old
      → GoesOnBy view table (IsDrainRound old.book.members table who at) old new → new.book.members ≡ old.book.members → IsBookBounded new.book
      → IsFaultlessIn view table (λ n s. LeadsSoon rounds n table who s) new
  leads_soon_next who at rounds old new inside have goes members bounded =
      given_next who at (λ n s. LeadsSoon (suc rounds) n table who s) (λ n s. LeadsSoon rounds n table who s) old new
      (λ book rows situation after leads goes. (
        soon_nearer rounds old.book.members table who at book rows situation after leads goes,
        soon_faultless (suc rounds) old.book.members table who at book rows situation after leads goes,
      ))
      inside have goes members bounded

  pub leads_by_quiet : (who : ℕ) (at : ℤ) (rounds : ℕ) (world : World D) → IsFaultlessIn view table (λ n s. LeadsSoon rounds n table who s) world
      → AnswersFor view table (IsQuiet world.book.members table who at) world true → IsFaultlessIn view table (λ n s. LeadsNow n table who s) world
  leads_by_quiet who at rounds world have tells = record {
    rows = have.rows;
    situation = have.situation;
    is = have.is;
    faultless = have.faultless;
    given = soon_quiet rounds world.book.members table who at have.situation have.given ((tells have.rows have.situation have.is).0 refl);
    bounded = have.bounded;
  }

  pub leads_at_last : (who : ℕ) (world : World D) → IsFaultlessIn view table (λ n s. LeadsSoon 0 n table who s) world
      → IsFaultlessIn view table (λ n s. LeadsNow n table who s) world
  leads_at_last who world have = record {
    rows = have.rows;
    situation = have.situation;
    is = have.is;
    faultless = have.faultless;
    given = soon_last world.book.members table who have.situation have.given;
    bounded = have.bounded;
  }

  -- ---- until it rests

  pub leads_next : (who : ℕ) (at : ℤ) (old new : World D) → IsInWindow table.window at → IsFaultlessIn view table (λ n s. LeadsNow n table who s) old
      → GoesOnBy view table (IsDrainRound old.book.members table who at) old new → new.book.members ≡ old.book.members → IsBookBounded new.book
      → IsFaultlessIn view table (λ n s. LeadsNow n table who s) new
  leads_next who at old new inside have goes members bounded =
      given_next who at (λ n s. LeadsNow n table who s) (λ n s. LeadsNow n table who s) old new
      (λ book rows situation after leads goes. (
        leads_on old.book.members table who at book rows situation after leads goes,
        soon_faultless 0 old.book.members table who at book rows situation after (inl leads) goes,
      ))
      inside have goes members bounded

  left_is : (rows : List Row) (world : World D) (situation : Situation) (who : ℕ) (member : Member D) → IsWorldAt view table rows world situation → AllRun world
      → slice_get world.members.items who ≡ Some member
      → left_of table (replica_of member.node).machine.rows (situation.standing.waits who) (situation.standing.replicas who) ≡ left_in table who world
  left_is rows world situation who member is run there =
      ap (λ waits. left_of table (replica_of member.node).machine.rows waits (situation.standing.replicas who)) (sym (node_waits view table rows world situation who member is there))
      ∙ ap (λ state. left_of table (replica_of member.node).machine.rows member.mail.waits state)
      (sym (node_state view table rows world situation who member is there (run who member there)))
      ∙ ap (left_to table) (sym there)

  table_is : (rows : List Row) (world : World D) (situation : Situation) (who : ℕ) (member : Member D) → IsWorldAt view table rows world situation → AllRun world
      → slice_get world.members.items who ≡ Some member → IsLaunchTable table (situation.standing.replicas who) (replica_of member.node).machine.rows
  table_is rows world situation who member is run there =
      subst (λ state. IsLaunchTable table state (replica_of member.node).machine.rows) (node_state view table rows world situation who member is there (run who member there))
      (node_table view table rows world situation who member is there (run who member there)).rows

  -- fewer rounds are left after a round before which it was not at rest
  pub left_falls : (who : ℕ) (at : ℤ) (old new : World D) → IsInWindow table.window at → IsFaultlessIn view table (λ n s. LeadsNow n table who s) old
      → AnswersFor view table (IsIdleAt table who at) old false → AllRun old → AllRun new → who < length old.members.items → who < length new.members.items
      → GoesOnBy view table (IsDrainRound old.book.members table who at) old new → new.book.members ≡ old.book.members → IsBookBounded new.book
      → left_in table who new < left_in table who old
  left_falls who at old new inside have tells run run_new below below_new goes members bounded =
      let gone = goes have.rows have.situation have.is in
      let one = found_at old.members.items who below in
      let two = found_at new.members.items who below_new in
      let goes_round = goes_book (IsDrainRound old.book.members table who at) at old new have.rows gone.0 have.situation gone.1 inside have.is have.faultless gone.2 gone.3 members bounded in
      elim (leads_nearer old.book.members table who at have.rows gone.0 have.situation gone.1 have.given goes_round) [
        | inl rests ↦ absurd (let no : false ≡ true = (tells have.rows have.situation have.is).1 rests in cc)
        | inr fewer ↦
            let falls = fewer (replica_of one.0.node).machine.rows (replica_of two.0.node).machine.rows
            (table_is have.rows old have.situation who one.0 have.is run one.1) (table_is (have.rows ++ gone.0) new gone.1 who two.0 gone.3 run_new two.1) in
            subst (λ n. left_in table who new < n) (left_is have.rows old have.situation who one.0 have.is run one.1)
            (subst (λ n. n < left_of table (replica_of one.0.node).machine.rows (have.situation.standing.waits who) (have.situation.standing.replicas who))
            (left_is (have.rows ++ gone.0) new gone.1 who two.0 gone.3 run_new two.1) falls)
      ]

  -- ---- until all have caught up

  pub rests_now : (who : ℕ) (at : ℤ) (world : World D) → IsFaultlessIn view table (λ n s. LeadsNow n table who s) world
      → AnswersFor view table (IsIdleAt table who at) world true → IsFaultlessIn view table (λ n s. HasBeenIdleFor 0 n table who at s) world
  rests_now who at world have tells = record {
    rows = have.rows;
    situation = have.situation;
    is = have.is;
    faultless = have.faultless;
    given = (have.given, (tells have.rows have.situation have.is).0 refl);
    bounded = have.bounded;
  }

  pub rests_next : (who : ℕ) (at : ℤ) (rounds : ℕ) (old new : World D) → IsInWindow table.window at → IsFaultlessIn view table (λ n s. HasBeenIdleFor rounds n table who at s) old
      → GoesOnBy view table (IsDrainRound old.book.members table who at) old new → new.book.members ≡ old.book.members → IsBookBounded new.book
      → IsFaultlessIn view table (λ n s. HasBeenIdleFor (suc rounds) n table who at s) new
  rests_next who at rounds old new inside have goes members bounded =
      given_next who at (λ n s. HasBeenIdleFor rounds n table who at s) (λ n s. HasBeenIdleFor (suc rounds) n table who at s) old new
      (λ book rows situation after rests goes. (
        (book, rows, situation, rests, goes),
        soon_faultless 0 old.book.members table who at book rows situation after (inl (rested_leads rounds old.book.members table who at situation rests)) goes,
      ))
      inside have goes members bounded

  pub rested_gives : (who : ℕ) (at : ℤ) (rounds : ℕ) (world : World D) → IsFaultlessIn view table (λ n s. HasBeenIdleFor rounds n table who at s) world
      → IsFaultlessIn view table (λ n s. LeadsNow n table who s) world
  rested_gives who at rounds world have = record {
    rows = have.rows;
    situation = have.situation;
    is = have.is;
    faultless = have.faultless;
    given = rested_leads rounds world.book.members table who at have.situation have.given;
    bounded = have.bounded;
  }

  pub quiet_at_last : (who : ℕ) (at : ℤ) (world : World D) → IsFaultlessIn view table (λ n s. HasBeenIdleFor 5 n table who at s) world
      → AnswersFor view table (IsQuiet world.book.members table who at) world false → ⊥
  quiet_at_last who at world have tells =
      let no : false ≡ true = (tells have.rows have.situation have.is).1 (rested_quiet world.book.members table who at have.situation have.given) in absurd cc

  -- ---- the first campaign

  pub lead_given : (who : ℕ) (at : ℤ) (old over led : World D) → IsInWindow table.window at → 1 ≤ old.book.members → IsWorld view table old
      → GoesOnBy view table (Plain old.book.members (restart_tasks old.book.members) cleared) old over → AllRun over → over.book.members ≡ old.book.members
      → ((situation : Situation) → IsIn view table over situation → who ≡ coordinator over.book.members situation)
      → GoesOnBy view table (Plays over.book.members (λ here. Do who Campaign ∷ [])) over led → led.book.members ≡ over.book.members → IsBookBounded led.book
      → IsFaultlessIn view table (λ n s. LeadsSoon 4 n table who s) led
  lead_given who at old over led inside some world start run same leads campaign led_same bounded =
      let one = start world.rows world.situation world.is in
      let two = campaign (world.rows ++ one.0) one.1 one.3 in
      let n = over.book.members in
      let is : one.1 ≡ cleared one.2.middle = one.2.two.is in
      let count : length over.members.items ≡ n = one.3.ahead.count in
      let faultless : IsFaultless n one.1 = record {
        runs = λ k below. runs_in view table (world.rows ++ one.0) over one.1 k one.3 run (omega (arith, below, count));
        uncut = ap (λ (s : Situation). s.cuts) is;
        right = λ k below. ap (λ (s : Situation). s.skews k) is;
        done = λ k below. ap (λ (s : Situation). s.fates k) is;
      } in
      let is_lead : who ≡ coordinator n one.1 = leads one.1 (world.rows ++ one.0, one.3) in
      let goes : GoesCampaign n table (coordinator n one.1) at (world.rows ++ one.0) two.0 one.1 two.1 =
      subst (λ lead. GoesCampaign n table lead at (world.rows ++ one.0) two.0 one.1 two.1) is_lead
      (goes_book (Plays n (λ here. Do who Campaign ∷ [])) at over led (world.rows ++ one.0) two.0 one.1 two.1 inside one.3 faultless two.2 two.3 led_same bounded) in
      let enough : 1 ≤ n = subst (λ m. 1 ≤ m) (sym same) some in
      record {
        rows = (world.rows ++ one.0) ++ two.0;
        situation = two.1;
        is = two.3;
        faultless = subst (λ m. IsFaultless m two.1) (sym led_same) (campaign_faultless n table at (world.rows ++ one.0) two.0 one.1 two.1 enough goes);
        given =
            subst (λ m. LeadsSoon 4 m table who two.1) (sym led_same) (subst (λ lead. LeadsSoon 4 n table lead two.1) (sym is_lead)
            (first_leads n table at (world.rows ++ one.0) two.0 one.1 two.1 enough goes (λ k below. ap (λ (s : Situation). s.mails k) is)));
        bounded = bounded;
      }

  -- some rounds of a drain, and the rest of it
  pub drains_then : (who : ℕ) (at : ℤ) (old middle new : World D) → GoesOnBy view table (DrainsOn old.book.members table who at) old middle → middle.book.members ≡ old.book.members
      → GoesOnBy view table (Drains middle.book.members table who at) middle new → GoesOnBy view table (Drains old.book.members table who at) old new
  drains_then who at old middle new on members drains = λ rows situation is.
      let one = on rows situation is in
      let two = drains (rows ++ one.0) one.1 one.3 in (
        one.0 ++ two.0,
        two.1,
        one.2 two.0 two.1 (subst (λ n. Drains n table who at one.1 two.0 two.1) members two.2),
        subst (λ rows. IsWorldAt view table rows new two.1) (append_assoc rows one.0 two.0) two.3,
      )

  pub not_quiet : (who : ℕ) (at : ℤ) (world : World D) → AnswersFor view table (IsIdleAt table who at) world false
      → AnswersFor view table (IsQuiet world.book.members table who at) world false
  not_quiet who at world tells = tells_no_quiet view table world who at tells

  pub below_in : (who : ℕ) (at : ℤ) (old now : World D) → IsWorld view table old → HasDrained view table who at old now → who < length old.members.items
      → who < length now.members.items
  below_in who at old now was drained below =
      let same = same_count view table old now was drained.world drained.members in
      omega (arith, same, below)

  pub caught_up_next : (who : ℕ) (at : ℤ) (rounds : ℕ) (now new : World D) → IsInWindow table.window at → rounds ≤ 5 → IsFaultlessIn view table (λ n s. HasBeenIdleFor rounds n table who at s) now
      → AnswersFor view table (IsQuiet now.book.members table who at) now false
      → GoesOnBy view table (IsDrainRound now.book.members table who at) now new → new.book.members ≡ now.book.members → IsBookBounded new.book
      → (rounds + 1 ≤ 5) × IsFaultlessIn view table (λ n s. HasBeenIdleFor (rounds + 1) n table who at s) new
  caught_up_next who at rounds now new inside few have tells goes members bounded = elim (cases_lt rounds 5) [
    | inl less ↦ (
      omega arith,
      subst (λ k. IsFaultlessIn view table (λ n s. HasBeenIdleFor k n table who at s) new) (sym (add-one rounds)) (rests_next who at rounds now new inside have goes members bounded),
    )
    | inr last ↦
        let five : rounds ≡ 5 = omega arith in
        absurd (quiet_at_last who at now (subst (λ k. IsFaultlessIn view table (λ n s. HasBeenIdleFor k n table who at s) now) five have) tells)
  ]

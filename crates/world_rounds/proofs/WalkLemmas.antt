-- Walks, in a world.
use Rattle.std.proofs.Common.{◌≡◌, ℕ, zero, suc, ◌+◌, ◌<◌, ◌≤◌, true, false, List, [], ◌++◌, ℤ, pos, negsuc, ◌+ℤ◌, ◌≤ℤ◌, ◌<ℤ◌, None, Some, ◌⊎◌, length, refl, sym, ap, ◌∙◌, subst, inl, inr, arith, append_assoc, append-nil as append_nil}
use Rattle.std.specs.Prelude.{unsigned_abs, ◌-ℤ◌}
use Rattle.std.specs.Int.{int_min}
use Rattle.std.specs.Option.{option_map}
use Rattle.std.proofs.lemmas.Int.{clamps, ints}
use Rattle.disk_model.specs.View.{DiskView}
use Rattle.zone_minutes.specs.Window.{IsInWindow}
use Rattle.zone_minutes.specs.declared.minute.Minute.{Minute}
use Rattle.zone_minutes.specs.declared.minute.Window.{Window}
use Rattle.due_set.specs.Table.{Table, version_from}
use Rattle.history.specs.Book.{Row}
use Rattle.script_semantics.specs.Parts.{Then}
use Rattle.script_semantics.specs.Settling.{AsksNothing, AsksNothingUntil, Drains, IsNextMinute, Settles, Walks, WalksOn, coordinator}
use Rattle.script_semantics.specs.Situation.{Situation}
use Rattle.step_spec.specs.State.{State}
use Rattle.world_rounds.specs.Quiet.{AllRun, IsIn, AnswersFor}
use Rattle.world_rounds.specs.Walking.{AsksNothingIn, IsNoneOpen, NoStartIn, NoTableIn, WalkedOn}
use Rattle.world_rounds.specs.World.{GoesOnBy, IsWorld, IsWorldAt}
use Rattle.world_rounds.specs.declared.world.World.{World}
use Rattle.paxos_base.specs.declared.rows.JobRow.{JobRow}
use Rattle.std.proofs.lemmas.Bool.{cases_eq, cases_lt}
use Rattle.std.specs.List.{slice_get}
use Rattle.launch_machine.specs.Clerk.{TakesStart, TakesTable}
use Rattle.launch_machine.specs.Next.{next_version_from}
use Rattle.launch_machine.proofs.EndedLemmas.{next_is}
use Rattle.replica_core.specs.Replica.{ReplicaState}
use Rattle.replica_core.specs.Step.{IsOfTable}
use Rattle.replica_node.specs.Node.{replica_of}
use Rattle.world_rounds.specs.declared.member.Member.{Member}
use Rattle.world_rounds.proofs.QuietLemmas.{asks_none, node_state}

-- at one more minute, and from there to another, it asks for nothing
pub asks_none_on : (table : Table) (first minute end : ℕ) (state : State) → AsksNothingIn table first minute state → AsksNothing table (pos minute) state
    → AsksNothingIn table (minute + 1) end state → AsksNothingIn table first end state
asks_none_on table first minute end state so_far here behind = λ other from below. elim (cases_eq other minute) [
  | inl same ↦ subst (λ m. AsksNothing table (pos m) state) (sym same) here
  | inr differs ↦ elim (cases_lt other minute) [
    | inl before ↦ so_far other from before
    | inr after ↦ behind other (omega (arith, after, differs)) below
  ]
]

-- ---- until the next start and the next version

-- where no start takes effect before an instant, none does at a minute before it
pub no_start_before : (table : Table) (rows : List JobRow) (soonest : ℤ) (first end : ℕ) → ((job : ℕ) (at now : ℤ) → TakesStart table rows job at now → soonest ≤ℤ now)
    → (end ≤ first) ⊎ (pos end ≤ℤ soonest) → NoStartIn table first end rows
no_start_before table rows soonest first end least (inl empty) = λ minute from below job at takes. omega (arith, from, below, empty)
no_start_before table rows soonest first end least (inr before) = λ minute from below job at takes.
    let late = least job at (pos minute) takes in
    omega (arith, ints, late, before, below)

-- the version that would be adopted is the next one, from its instant on
adopts_next : (table : Table) (rows : List JobRow) (version : ℕ) (now : ℤ) → TakesTable table rows version now → next_version_from table rows ≡ Some (record { 0 = version_from table version })
adopts_next table rows version now takes =
    ap (option_map (λ version. record { 0 = version_from table version })) (next_is table rows version takes.next takes.known)

-- before that instant none is adopted
pub no_table_before : (table : Table) (rows : List JobRow) (soonest : Minute) (first end : ℕ) → next_version_from table rows ≡ Some soonest
    → (end ≤ first) ⊎ (pos end ≤ℤ soonest.0) → NoTableIn table first end rows
no_table_before table rows soonest first end next (inl empty) = λ minute from below version takes. omega (arith, from, below, empty)
no_table_before table rows soonest first end next (inr before) = λ minute from below version takes.
    let same : Some soonest ≡ Some (record { 0 = version_from table version }) = sym next ∙ adopts_next table rows version (pos minute) takes in
    let from_then : soonest.0 ≡ version_from table version = cc in
    omega (arith, ints, from_then, takes.come, before, below)

-- where there is no such version none is adopted at all
pub no_table_more : (table : Table) (rows : List JobRow) (first end : ℕ) → next_version_from table rows ≡ None → NoTableIn table first end rows
no_table_more table rows first end none = λ minute from below version takes.
    no_soonest (record { 0 = version_from table version }) (sym none ∙ adopts_next table rows version (pos minute) takes)
  where
    no_soonest : (soonest : Minute) → None ≡ Some soonest → ⊥
    no_soonest soonest is = cc

-- where no launch is open, no start takes effect and no version is adopted, nothing is asked for
pub none_asked : (table : Table) (replica : ReplicaState) (first start version end : ℕ) → IsOfTable table replica → IsNoneOpen table replica.machine.rows
    → NoStartIn table first start replica.machine.rows → NoTableIn table first version replica.machine.rows → end ≤ start → end ≤ version → AsksNothingIn table first end replica.state
none_asked table replica first start version end of_table none_open no_start no_table by_start by_version = λ minute from below. asks_none table (pos minute) replica of_table (
  λ job at may.
      let none : may.row.open_now ≡ None = none_open job may.row may.known may.is_row in
      let both : Some may.since ≡ None = sym may.is_open ∙ none in cc,
  no_start minute from (omega (arith, below, by_start)),
  no_table minute from (omega (arith, below, by_version)),
)

-- what holds of the minutes from a number on holds of those above a minute
number_at : (above : ℤ) (first : ℕ) (other : ℤ) → pos first ≡ above +ℤ pos 1 → pos 0 ≤ℤ above → above <ℤ other → (minute : ℕ) × (other ≡ pos minute) × (first ≤ minute)
number_at above first (pos minute) is low later = (minute, refl, omega (arith, ints))
number_at above first (negsuc minute) is low later = absurd (omega (arith, ints))

pub none_between : (table : Table) (above : ℤ) (first end : ℕ) (state : State) → pos first ≡ above +ℤ pos 1 → pos 0 ≤ℤ above → AsksNothingIn table first end state
    → (other : ℤ) → above <ℤ other → other <ℤ pos end → AsksNothing table other state
none_between table above first end state is low none = λ other later before.
    let number = number_at above first other is low later in
    let below : number.0 < end = (let same = number.1 in omega (arith, ints)) in
    subst (λ m. AsksNothing table m state) (sym number.1) (none number.0 number.2 below)

pub next_found : (table : Table) (above to : ℤ) (first minute : ℕ) (state : State) → pos first ≡ above +ℤ pos 1 → pos 0 ≤ℤ above → AsksNothingIn table first minute state
    → first ≤ minute → pos minute ≤ℤ to → (AsksNothing table (pos minute) state → ⊥) → IsNextMinute table state above to (pos minute)
next_found table above to first minute state is low none from within asks = record {
  later = omega (arith, ints);
  within = within;
  asks = asks;
  least = none_between table above first minute state is low none;
}

pub none_found : (table : Table) (above to : ℤ) (first end minute : ℕ) (state : State) → pos first ≡ above +ℤ pos 1 → pos 0 ≤ℤ above → pos end ≡ to +ℤ pos 1
    → end ≤ minute → AsksNothingIn table first minute state → AsksNothingUntil table above to state
none_found table above to first end minute state is low last past none = λ other later within.
    none_between table above first minute state is low none other later (omega (arith, ints))

-- the earlier of two minutes, of which one is of the window and the other is not before it, is of the window
pub earlier_inside : (window : Window) (at one other : ℤ) → at ≡ int_min one other → window.from.0 ≤ℤ one → IsInWindow window other → IsInWindow window at
earlier_inside window at one other is since inside =
    let from = inside.since in
    let before = inside.before in
    record { since = omega (arith, ints, clamps); before = omega (arith, ints, clamps) }

-- the next minute is of the window, and nearer to its end
pub next_inside : (window : Window) (table : Table) (state : State) (above to minute : ℤ) → IsInWindow window above → IsInWindow window to → IsNextMinute table state above to minute
    → IsInWindow window minute
next_inside window table state above to minute from inside next =
    let since = from.since in
    let before = inside.before in
    let later = next.later in
    let within = next.within in
    record { since = omega (arith, ints); before = omega (arith, ints) }

pub next_nearer : (window : Window) (table : Table) (state : State) (above to minute : ℤ) → IsInWindow window to → IsNextMinute table state above to minute
    → unsigned_abs (window.until.0 -ℤ minute) < unsigned_abs (window.until.0 -ℤ above)
next_nearer window table state above to minute inside next =
    let before = inside.before in
    let later = next.later in
    let within = next.within in
    omega (arith, ints)

-- ---- how walks are put together

walked_none : (n : ℕ) (table : Table) (who : ℕ) (at to : ℤ) (situation : Situation) → WalkedOn n table who at at to situation [] situation
walked_none n table who at to situation = λ more after walks. walks

walked_next : (n : ℕ) (table : Table) (who : ℕ) (at above minute to : ℤ) (start middle here : Situation) (rows more : List Row) → WalkedOn n table who at above to start rows middle
    → IsNextMinute table (middle.standing.replicas who) above to minute → Drains n table who minute middle more here → WalkedOn n table who at minute to start (rows ++ more) here
walked_next n table who at above minute to start middle here rows more so_far next drains = λ last after walks.
    subst (λ rows. WalksOn n table who at to start rows after) (sym (append_assoc rows more last))
    (so_far (more ++ last) after (suc walks.0, (minute, next, record { front = more; middle = here; back = last; parts = refl; one = drains; two = walks.1 })))

walked_whole : (n : ℕ) (table : Table) (who : ℕ) (at above to : ℤ) (start here : Situation) (rows : List Row) → WalkedOn n table who at above to start rows here
    → AsksNothingUntil table above to (here.standing.replicas who) → WalksOn n table who at to start rows here
walked_whole n table who at above to start here rows so_far none =
    subst (λ rows. WalksOn n table who at to start rows here) (append_nil rows)
    (so_far [] here (zero, record { is_quiet = none; stays = record { none = refl; is = refl } }))

module _ {D : Type 0} (view : DiskView D) (table : Table) where
  -- ---- the next minute

  -- at each of the minutes from one on, and before another, the launch table of a replica of the world asks for nothing
  abbrev pub RestsIn : World D → (who first end : ℕ) → Type 0
  RestsIn world who first end = (situation : Situation) → IsIn view table world situation → AsksNothingIn table first end (situation.standing.replicas who)

  pub rests_first : (world : World D) (who first : ℕ) → RestsIn world who first first
  rests_first world who first = λ situation here minute from below. absurd (omega arith)

  pub rests_on : (world : World D) (who first minute end : ℕ) → RestsIn world who first minute
      → AnswersFor view table (λ situation. AsksNothing table (pos minute) (situation.standing.replicas who)) world true → RestsIn world who (minute + 1) end
      → RestsIn world who first end
  rests_on world who first minute end so_far tells behind = λ situation here.
      asks_none_on table first minute end (situation.standing.replicas who) (so_far situation here) ((tells here.0 situation here.1).0 refl) (behind situation here)

  -- what is told of the minutes of its replica
  pub rests_of : (world : World D) (who first end : ℕ) (member : Member D) → AllRun world → slice_get world.members.items who ≡ Some member
      → AsksNothingIn table first end (replica_of member.node).state → RestsIn world who first end
  rests_of world who first end member run there none = λ situation here.
      subst (AsksNothingIn table first end) (node_state view table here.0 world situation who member here.1 there (run who member there)) none

  pub minute_found : (world : World D) (who : ℕ) (above to : ℤ) (first minute : ℕ) → pos first ≡ above +ℤ pos 1 → pos 0 ≤ℤ above → RestsIn world who first minute → first ≤ minute → pos minute ≤ℤ to
      → AnswersFor view table (λ situation. AsksNothing table (pos minute) (situation.standing.replicas who)) world false
      → (situation : Situation) → IsIn view table world situation → IsNextMinute table (situation.standing.replicas who) above to (pos minute)
  minute_found world who above to first minute is low so_far from within tells = λ situation here.
      next_found table above to first minute (situation.standing.replicas who) is low (so_far situation here) from within
      (λ asks. let no : false ≡ true = (tells here.0 situation here.1).1 asks in cc)

  pub no_minute : (world : World D) (who : ℕ) (above to : ℤ) (first end minute : ℕ) → pos first ≡ above +ℤ pos 1 → pos 0 ≤ℤ above → pos end ≡ to +ℤ pos 1 → end ≤ minute → RestsIn world who first minute
      → (situation : Situation) → IsIn view table world situation → AsksNothingUntil table above to (situation.standing.replicas who)
  no_minute world who above to first end minute is low last past so_far = λ situation here.
      none_found table above to first end minute (situation.standing.replicas who) is low last past (so_far situation here)

  -- ---- the walk

  pub record HasWalked (who : ℕ) (at above to : ℤ) (old now : World D) : Type 0 where
    pub goes : GoesOnBy view table (WalkedOn old.book.members table who at above to) old now
    pub world : IsWorld view table now
    pub run : AllRun now
    pub members : now.book.members ≡ old.book.members

  pub has_walked_none : (who : ℕ) (at to : ℤ) (world : World D) → IsWorld view table world → AllRun world → HasWalked who at at to world world
  has_walked_none who at to world is run = record {
    goes = λ rows situation here. ([], situation, walked_none world.book.members table who at to situation, subst (λ rows. IsWorldAt view table rows world situation) (sym (append_nil rows)) here);
    world = is;
    run = run;
    members = refl;
  }

  pub has_walked_next : (who : ℕ) (at above minute to : ℤ) (old now new : World D) → HasWalked who at above to old now
      → ((situation : Situation) → IsIn view table now situation → IsNextMinute table (situation.standing.replicas who) above to minute)
      → GoesOnBy view table (Drains now.book.members table who minute) now new → AllRun new → new.book.members ≡ now.book.members → HasWalked who at minute to old new
  has_walked_next who at above minute to old now new so_far next goes run members = record {
    goes = λ rows situation is.
        let front = so_far.goes rows situation is in
        let back = goes (rows ++ front.0) front.1 front.3 in (
          front.0 ++ back.0,
          back.1,
          walked_next old.book.members table who at above minute to situation front.1 back.1 front.0 back.0 front.2 (next front.1 (rows ++ front.0, front.3))
              (subst (λ n. Drains n table who minute front.1 back.0 back.1) so_far.members back.2),
          subst (λ rows. IsWorldAt view table rows new back.1) (append_assoc rows front.0 back.0) back.3,
        );
    world = let here = so_far.world in let back = goes here.rows here.situation here.is in record { rows = here.rows ++ back.0; situation = back.1; is = back.3 };
    run = run;
    members = members ∙ so_far.members;
  }

  pub has_walked_whole : (who : ℕ) (at above to : ℤ) (old now : World D) → HasWalked who at above to old now
      → ((situation : Situation) → IsIn view table now situation → AsksNothingUntil table above to (situation.standing.replicas who))
      → GoesOnBy view table (WalksOn old.book.members table who at to) old now
  has_walked_whole who at above to old now so_far none = λ rows situation is.
      let gone = so_far.goes rows situation is in
      (gone.0, gone.1, walked_whole old.book.members table who at above to situation gone.1 gone.0 gone.2 (none gone.1 (rows ++ gone.0, gone.3)), gone.3)

  -- its latest clock reading is not before the window
  pub since_in : (world : World D) → IsWorld view table world → table.window.from.0 ≤ℤ world.latest.0
  since_in world is = subst (λ latest. table.window.from.0 ≤ℤ latest) (sym is.is.ahead.latest) is.is.ahead.at.since

  -- it settles, and walks on
  pub walks : (at to : ℤ) (who : ℕ) (old middle new : World D) → at ≡ int_min old.latest.0 to
      → GoesOnBy view table (Settles old.book.members table at) old middle → middle.book.members ≡ old.book.members
      → ((situation : Situation) → IsIn view table old situation → who ≡ coordinator old.book.members situation)
      → GoesOnBy view table (WalksOn middle.book.members table who at to) middle new → GoesOnBy view table (Walks old.book.members table to) old new
  walks at to who old middle new is settles members leads on = λ rows situation here.
      let n = old.book.members in
      let one = settles rows situation here in
      let two = on (rows ++ one.0) one.1 one.3 in
      let latest : at ≡ int_min situation.latest to = is ∙ ap (λ latest. int_min latest to) here.ahead.latest in (
        one.0 ++ two.0,
        two.1,
        subst (λ at. Then (Settles n table at) (WalksOn n table (coordinator n situation) at to) situation (one.0 ++ two.0) two.1) latest
            (record {
              front = one.0;
              middle = one.1;
              back = two.0;
              parts = refl;
              one = one.2;
              two = subst (λ who. WalksOn n table who at to one.1 two.0 two.1) (leads situation (rows, here)) (subst (λ n. WalksOn n table who at to one.1 two.0 two.1) members two.2);
            }),
        subst (λ rows. IsWorldAt view table rows new two.1) (append_assoc rows one.0 two.0) two.3,
      )

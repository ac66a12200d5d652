-- What a turn that joins the book leaves of what is set for the replicas.
use Rattle.std.proofs.Common.{◌≡◌, ◌≢◌, ◌<◌, ◌≤◌, ◌+◌, ◌%◌, ◌==◌, ◌⊎◌, ℕ, Bool, not, true, false, IfSome, List, [], ◌∷◌, ◌++◌, length, drop, ℤ, ◌≤ℤ◌, Option, None, Some, refl, sym, ap, ◌∙◌, subst, inl, inr, arith}
use Rattle.std.specs.List.{slice_get}
use Rattle.std.specs.Option.{option_to_list}
use Rattle.std.proofs.lemmas.Bool.{cases_order}
use Rattle.std.proofs.lemmas.Int.{clamps, ints}
use Rattle.std.proofs.lemmas.List.{length-set}
use Rattle.std.proofs.lemmas.Nat.{mod_below}
use Rattle.cluster_sched.specs.declared.fate.Fate.{Fate}
use Rattle.cluster_sched.specs.declared.row.SchedRow.{SchedRow}
use Rattle.due_set.specs.Table.{Table}
use Rattle.launch_machine.specs.Clerk.{first_rows}
use Rattle.paxos_base.specs.declared.durable.Delta.{Delta}
use Rattle.paxos_base.specs.declared.durable.Delta.TheVariants.{Tried, Promised, Voted, Base}
use Rattle.step_spec.specs.Step.{Event}
use Rattle.step_spec.specs.declared.out.OutLetter.{OutLetter}
use Rattle.history.specs.Book.{Row, Standing, after_row, answer_to, standing_after, turn_of}
use Rattle.history.specs.Legal.{MayFollow}
use Rattle.history.specs.declared.turn.CallRow.{CallRow}
use Rattle.history.specs.declared.turn.Cause.{Cause}
use Rattle.history.specs.declared.turn.Cause.TheVariants.{Campaign, Tick, Hear, Answer}
use Rattle.history.specs.declared.turn.Turn.{Turn}
use Rattle.history.specs.declared.turn.Turn.TheVariants.{Did, Stopped, Restarted, Arrived}
use Rattle.history.proofs.Keeping.{stands_next}
use Rattle.history.proofs.Standings.{fact_here, fact_there, is_another, waits_arrived, waits_others, waits_started, waits_stopped}
use Rattle.script_semantics.specs.Situation.{Armed, Situation, after_turn, armed_after, arms_after, bases_kept, bases_with, changes_in, fates_after, is_cut, latest_after, latest_with, mails_after}
use Rattle.journal_line.specs.Told.{ToldLine}
use Rattle.world_law.specs.Book.{BookState, Commits, IsNext, IsRowOf, StandsBehind, standing_behind}
use Rattle.run_replay.proofs.SettingLemmas.{set_cases, some_same}
use Rattle.run_replay.specs.Judged.{IsChangeKept, IsJudged}
use Rattle.run_replay.specs.Replay.{IsReplayAt, IsSettingOf, armed_of}
use Rattle.run_replay.specs.Taken.{AreSetAfter, HasNoted, HasNotedStop, IsSetFor, Notes, WasJudged, area_with, fate_with, mail_with}
use Rattle.run_replay.specs.declared.judge.Judged.{Judged}
use Rattle.run_replay.specs.declared.replay.Replay.{Replay}
use Rattle.run_replay.specs.declared.replay.Setting.{Setting}

-- ---- another replica's

others_mail : (turn : Turn) (mails : ℕ → List ℕ) (other : ℕ) → turn_of turn ≢ Some other → mails_after turn mails other ≡ mails other
others_mail (Did who Campaign made) mails other differs = refl
others_mail (Did who (Tick now) made) mails other differs = refl
others_mail (Did who (Hear number) made) mails other differs = fact_there who _ mails other (is_another who other differs)
others_mail (Did who Answer made) mails other differs = refl
others_mail (Stopped who cause kept) mails other differs = fact_there who _ mails other (is_another who other differs)
others_mail (Restarted who) mails other differs = refl
others_mail (Arrived number) mails other differs = refl

others_fate : (turn : Turn) (fates : ℕ → Fate) (other : ℕ) → turn_of turn ≢ Some other → fates_after turn fates other ≡ fates other
others_fate (Did who cause None) fates other differs = refl
others_fate (Did who cause (Some made)) fates other differs = fact_there who _ fates other (is_another who other differs)
others_fate (Stopped who cause kept) fates other differs = refl
others_fate (Restarted who) fates other differs = refl
others_fate (Arrived number) fates other differs = refl

others_arm : (turn : Turn) (changes : List Delta) (arms : ℕ → Option Armed) (other : ℕ) → turn_of turn ≢ Some other → arms_after turn changes arms other ≡ arms other
others_arm (Did who cause made) changes arms other differs = fact_there who _ arms other (is_another who other differs)
others_arm (Stopped who cause kept) changes arms other differs = fact_there who _ arms other (is_another who other differs)
others_arm (Restarted who) changes arms other differs = refl
others_arm (Arrived number) changes arms other differs = refl

others_bases : (turn : Turn) (changes : List Delta) (bases : ℕ → ℕ) (other : ℕ) → turn_of turn ≢ Some other → bases_kept turn changes bases other ≡ bases other
others_bases (Did who cause made) changes bases other differs = fact_there who _ bases other (is_another who other differs)
others_bases (Stopped who cause true) changes bases other differs = fact_there who _ bases other (is_another who other differs)
others_bases (Stopped who cause false) changes bases other differs = refl
others_bases (Restarted who) changes bases other differs = refl
others_bases (Arrived number) changes bases other differs = refl

setting_other : (n : ℕ) (situation : Situation) (row : Row) (k : ℕ) (setting : Setting) → turn_of row.turn ≢ Some k → IsSettingOf situation k setting → IsSettingOf (after_turn n situation row) k setting
setting_other n situation row k setting differs is = record {
  mail = is.mail ∙ sym (others_mail row.turn situation.mails k differs);
  skew = is.skew;
  fate = is.fate ∙ sym (others_fate row.turn situation.fates k differs);
  waits = is.waits ∙ sym (waits_others n situation.standing row.turn row.event row.letters k differs);
  arm = is.arm ∙ sym (others_arm row.turn (changes_in n situation.standing row.turn row.event) situation.arms k differs);
  area = is.area ∙ ap (λ (count : ℕ). count % 2 == 1) (sym (others_bases row.turn (changes_in n situation.standing row.turn row.event) situation.bases k differs));
}

-- ---- which area is in use

pub odd_or_even : (count : ℕ) → (count % 2 ≡ 0) ⊎ (count % 2 ≡ 1)
odd_or_even count =
    let low : count % 2 < 2 = mod_below count 2 (omega arith) in
    elim (cases_order (count % 2) 1) [
      | inl odd ↦ inr odd
      | inr apart ↦ elim apart [ inl below ↦ inl (omega (arith, below)) | inr above ↦ absurd (omega (arith, above, low)) ]
    ]

other_area : (count : ℕ) → not (count % 2 == 1) ≡ ((count + 1) % 2 == 1)
other_area count = elim (odd_or_even count) [
  | inl even ↦ let next : (count + 1) % 2 ≡ 1 = omega (arith, even) in rw (even, next) refl
  | inr odd ↦ let next : (count + 1) % 2 ≡ 0 = omega (arith, odd) in rw (odd, next) refl
]

area_is : (change : Option Delta) (count : ℕ) → area_with change (count % 2 == 1) ≡ (bases_with (option_to_list change) count % 2 == 1)
area_is None count = refl
area_is (Some (Tried ballot)) count = refl
area_is (Some (Promised ballot)) count = refl
area_is (Some (Voted vote)) count = refl
area_is (Some (Base slot rows)) count = other_area count

-- ---- the replica that took a step

did_mail : (who : ℕ) (cause : Cause) (made : Option CallRow) (mails : ℕ → List ℕ) → mails_after (Did who cause made) mails who ≡ mail_with cause (mails who)
did_mail who Campaign made mails = refl
did_mail who (Tick now) made mails = refl
did_mail who (Hear number) made mails = fact_here who (drop 1 (mails who)) mails
did_mail who Answer made mails = refl

did_fate : (who : ℕ) (cause : Cause) (made : Option CallRow) (fates : ℕ → Fate) → fates_after (Did who cause made) fates who ≡ fate_with made (fates who)
did_fate who cause None fates = refl
did_fate who cause (Some made) fates = fact_here who _ fates

did_waits : (n : ℕ) (s : Standing) (who : ℕ) (cause : Cause) (made : Option CallRow) (event : Event) (letters : List OutLetter) → (after_row n s (Did who cause made) event letters).waits who ≡ answer_to made
unfolding after_row
did_waits n s who cause made event letters = fact_here who (answer_to made) s.waits

setting_did : (n : ℕ) (situation : Situation) (row : Row) (who : ℕ) (cause : Cause) (made : Option CallRow) (change : Option Delta) (was now : Setting) → row.turn ≡ Did who cause made
    → changes_in n situation.standing row.turn row.event ≡ option_to_list change → HasNoted cause made change was now → IsSettingOf situation who was → IsSettingOf (after_turn n situation row) who now
setting_did n situation row who cause made change was now turn changes noted is = record {
  mail = noted.mail ∙ ap (mail_with cause) is.mail ∙ sym (did_mail who cause made situation.mails) ∙ sym (ap (λ (t : Turn). mails_after t situation.mails who) turn);
  skew = noted.skew ∙ is.skew;
  fate = noted.fate ∙ ap (fate_with made) is.fate ∙ sym (did_fate who cause made situation.fates) ∙ sym (ap (λ (t : Turn). fates_after t situation.fates who) turn);
  waits =
      noted.waits
      ∙ sym (ap (λ (t : Turn). (after_row n situation.standing t row.event row.letters).waits who) turn ∙ did_waits n situation.standing who cause made row.event row.letters);
  arm =
      noted.arm ∙ ap (armed_after (option_to_list change)) is.arm
      ∙ sym (fact_here who (armed_after (option_to_list change) (situation.arms who)) situation.arms)
      ∙ ap (λ (deltas : List Delta). arms_after (Did who cause made) deltas situation.arms who) (sym changes)
      ∙ ap (λ (t : Turn). arms_after t (changes_in n situation.standing row.turn row.event) situation.arms who) (sym turn);
  area =
      noted.area ∙ ap (area_with change) is.area ∙ area_is change (situation.bases who)
      ∙ ap (λ (count : ℕ). count % 2 == 1)
      (sym (fact_here who (bases_with (option_to_list change) (situation.bases who)) situation.bases)
      ∙ ap (λ (deltas : List Delta). bases_kept (Did who cause made) deltas situation.bases who) (sym changes)
      ∙ ap (λ (t : Turn). bases_kept t (changes_in n situation.standing row.turn row.event) situation.bases who) (sym turn));
}

-- ---- the replica that stopped

-- how many bases a stop leaves
stopped_bases : (who : ℕ) (cause : Option Cause) (kept : Bool) (change : Option Delta) (changes : List Delta) (bases : ℕ → ℕ) → (kept ≡ true → changes ≡ option_to_list change) → (kept ≡ false → change ≡ None)
    → bases_kept (Stopped who cause kept) changes bases who ≡ bases_with (option_to_list change) (bases who)
stopped_bases who cause true change changes bases keeps loses =
    fact_here who (bases_with changes (bases who)) bases ∙ ap (λ (deltas : List Delta). bases_with deltas (bases who)) (keeps refl)
stopped_bases who cause false change changes bases keeps loses = ap (λ (c : Option Delta). bases_with (option_to_list c) (bases who)) (sym (loses refl))

setting_stopped : (n : ℕ) (situation : Situation) (row : Row) (who : ℕ) (cause : Option Cause) (kept : Bool) (change : Option Delta) (was now : Setting) → row.turn ≡ Stopped who cause kept
    → (kept ≡ true → changes_in n situation.standing row.turn row.event ≡ option_to_list change) → (kept ≡ false → change ≡ None) → HasNotedStop change was now → IsSettingOf situation who was
    → IsSettingOf (after_turn n situation row) who now
setting_stopped n situation row who cause kept change was now turn keeps loses stopped is = record {
  mail = stopped.mail ∙ sym (fact_here who [] situation.mails) ∙ sym (ap (λ (t : Turn). mails_after t situation.mails who) turn);
  skew = stopped.skew ∙ is.skew;
  fate = stopped.fate ∙ is.fate ∙ sym (ap (λ (t : Turn). fates_after t situation.fates who) turn);
  waits =
      stopped.waits
      ∙ sym (ap (λ (t : Turn). (after_row n situation.standing t row.event row.letters).waits who) turn ∙ waits_stopped n situation.standing who cause kept row.event row.letters);
  arm =
      ap armed_of stopped.arm ∙ sym (fact_here who None situation.arms)
      ∙ sym (ap (λ (t : Turn). arms_after t (changes_in n situation.standing row.turn row.event) situation.arms who) turn);
  area =
      stopped.area ∙ ap (area_with change) is.area ∙ area_is change (situation.bases who)
      ∙ ap (λ (count : ℕ). count % 2 == 1)
      (sym (ap (λ (t : Turn). bases_kept t (changes_in n situation.standing row.turn row.event) situation.bases who) turn
      ∙ stopped_bases who cause kept change (changes_in n situation.standing row.turn row.event) situation.bases keeps loses));
}

-- ---- all replicas

still : (n : ℕ) (situation : Situation) (row : Row) (turn : Turn) (k : ℕ) (setting : Setting) → row.turn ≡ turn → ((mails : ℕ → List ℕ) → mails_after turn mails ≡ mails) → ((fates : ℕ → Fate) → fates_after turn fates ≡ fates)
    → (after_row n situation.standing turn row.event row.letters).waits ≡ situation.standing.waits → ((changes : List Delta) (arms : ℕ → Option Armed) → arms_after turn changes arms ≡ arms)
    → ((changes : List Delta) (bases : ℕ → ℕ) → bases_kept turn changes bases ≡ bases) → IsSettingOf situation k setting → IsSettingOf (after_turn n situation row) k setting
still n situation row turn k setting is mails fates waits arms bases was =
    let changes = changes_in n situation.standing row.turn row.event in
    record {
      mail = was.mail ∙ ap (λ (m : ℕ → List ℕ). m k) (sym (ap (λ (t : Turn). mails_after t situation.mails) is ∙ mails situation.mails));
      skew = was.skew;
      fate = was.fate ∙ ap (λ (f : ℕ → Fate). f k) (sym (ap (λ (t : Turn). fates_after t situation.fates) is ∙ fates situation.fates));
      waits = was.waits ∙ ap (λ (w : ℕ → Option SchedRow). w k) (sym (ap (λ (t : Turn). (after_row n situation.standing t row.event row.letters).waits) is ∙ waits));
      arm = was.arm ∙ ap (λ (a : ℕ → Option Armed). a k) (sym (ap (λ (t : Turn). arms_after t changes situation.arms) is ∙ arms changes situation.arms));
      area = was.area ∙ ap (λ (b : ℕ → ℕ). b k % 2 == 1) (sym (ap (λ (t : Turn). bases_kept t changes situation.bases) is ∙ bases changes situation.bases));
    }

-- one of them has another setting
set_one : (n : ℕ) (situation : Situation) (row : Row) (who : ℕ) (old new : List Setting) (holds : Setting → Setting → Type 0) → turn_of row.turn ≡ Some who → (is : IsSetFor who holds old new)
    → ((k : ℕ) (setting : Setting) → slice_get old k ≡ Some setting → IsSettingOf situation k setting)
    → (holds is.was is.now → IsSettingOf situation who is.was → IsSettingOf (after_turn n situation row) who is.now)
    → (k : ℕ) (setting : Setting) → slice_get new k ≡ Some setting → IsSettingOf (after_turn n situation row) k setting
set_one n situation row who old new holds mine is each next k setting found = elim (set_cases old who is.now k setting (subst (λ (l : List Setting). slice_get l k ≡ Some setting) is.is found)) [
  | inl here ↦ subst (λ (k : ℕ). IsSettingOf (after_turn n situation row) k setting) (sym here.0)
      (subst (λ (s : Setting). IsSettingOf (after_turn n situation row) who s) (sym here.1) (next is.noted (each who is.was is.there)))
  | inr other ↦ setting_other n situation row k setting (λ theirs. other.0 (some_same (turn_of row.turn) k who theirs mine)) (each k setting other.1)
]

set_after : (n : ℕ) (table : Table) (situation : Situation) (row : Row) (turn : Turn) (change : Option Delta) (old new : List Setting) → row.turn ≡ turn → IsChangeKept n situation.standing turn row.event change
    → MayFollow n table situation.standing turn row → AreSetAfter turn change old new
    → ((k : ℕ) (setting : Setting) → slice_get old k ≡ Some setting → IsSettingOf situation k setting)
    → (k : ℕ) (setting : Setting) → slice_get new k ≡ Some setting → IsSettingOf (after_turn n situation row) k setting
set_after n table situation row (Did who cause made) change old new is changes may now each =
    set_one n situation row who old new (HasNoted cause made change) (ap turn_of is) now each
    (λ noted was. setting_did n situation row who cause made change now.was now.now is (ap (λ (t : Turn). changes_in n situation.standing t row.event) is ∙ changes) noted was)
set_after n table situation row (Stopped who None true) change old new is changes may now each = absurd (let none : true ≡ false = may.2 in cc)
set_after n table situation row (Stopped who None false) change old new is changes may now each =
    set_one n situation row who old new (HasNotedStop change) (ap turn_of is) now each
    (λ noted was. setting_stopped n situation row who None false change now.was now.now is (λ (keeps : false ≡ true). absurd cc) (λ loses. changes) noted was)
set_after n table situation row (Stopped who (Some cause) true) change old new is changes may now each =
    set_one n situation row who old new (HasNotedStop change) (ap turn_of is) now each
    (λ noted was. setting_stopped n situation row who (Some cause) true change now.was now.now is
    (λ keeps. ap (λ (t : Turn). changes_in n situation.standing t row.event) is ∙ changes) (λ (loses : true ≡ false). absurd cc) noted was)
set_after n table situation row (Stopped who (Some cause) false) change old new is changes may now each =
    set_one n situation row who old new (HasNotedStop change) (ap turn_of is) now each
    (λ noted was. setting_stopped n situation row who (Some cause) false change now.was now.now is (λ (keeps : false ≡ true). absurd cc) (λ loses. changes) noted was)
set_after n table situation row (Restarted who) change old new is changes may now each = λ k setting found.
    still n situation row (Restarted who) k setting is (λ mails. refl) (λ fates. refl) (waits_started n situation.standing who row.event row.letters) (λ deltas arms. refl) (λ deltas bases. refl)
    (each k setting (subst (λ (l : List Setting). slice_get l k ≡ Some setting) now found))
set_after n table situation row (Arrived number) change old new is changes may now each = λ k setting found.
    still n situation row (Arrived number) k setting is (λ mails. refl) (λ fates. refl) (waits_arrived n situation.standing number row.event row.letters) (λ deltas arms. refl) (λ deltas bases. refl)
    (each k setting (subst (λ (l : List Setting). slice_get l k ≡ Some setting) now found))

set_count : (turn : Turn) (change : Option Delta) (old new : List Setting) → AreSetAfter turn change old new → length new ≡ length old
set_count (Did who cause made) change old new now = ap length now.is ∙ length-set old who now.now
set_count (Stopped who cause kept) change old new now = ap length now.is ∙ length-set old who now.now
set_count (Restarted who) change old new now = ap length now
set_count (Arrived number) change old new now = ap length now

-- ---- clocks

since_with : (cause : Cause) (from latest : ℤ) → from ≤ℤ latest → from ≤ℤ latest_with cause latest
since_with Campaign from latest since = since
since_with (Tick now) from latest since = omega (arith, ints, clamps, since)
since_with (Hear number) from latest since = since
since_with Answer from latest since = since

since_after : (turn : Turn) (from latest : ℤ) → from ≤ℤ latest → from ≤ℤ latest_after turn latest
since_after (Did who cause made) from latest since = since_with cause from latest since
since_after (Stopped who None kept) from latest since = since
since_after (Stopped who (Some cause) kept) from latest since = since_with cause from latest since
since_after (Restarted who) from latest since = since
since_after (Arrived number) from latest since = since

-- ---- the turn joins the book

-- who has a turn that may come next is one of the replicas
pub turn_member : (n : ℕ) (table : Table) (standing : Standing) (turn : Turn) (row : Row) → MayFollow n table standing turn row → IfSome (turn_of turn) (λ who. who < n)
turn_member n table standing (Did who cause made) row may = may.0.member
turn_member n table standing (Stopped who None kept) row may = may.0
turn_member n table standing (Stopped who (Some cause) kept) row may = may.0.member
turn_member n table standing (Restarted who) row may = may.0
turn_member n table standing (Arrived number) row may = tt

judged_may : (table : Table) (rows : List Row) (told : ToldLine) (old new : Replay) (judged : Judged) (is : IsJudged table rows told old new judged) → MayFollow old.book.members table (standing_behind table rows old.book) judged.turn is.row
judged_may table rows told old new judged is =
    subst (λ (t : Turn). MayFollow old.book.members table (standing_behind table rows old.book) t is.row) is.is.turn_is is.told_by.may

pub judged_member : (table : Table) (replay : Replay) (judged : Judged) → WasJudged table replay judged → IfSome (turn_of judged.turn) (λ who. who < length replay.settings.items)
judged_member table replay judged was =
    let is = was.is in
    subst (λ (n : ℕ). IfSome (turn_of judged.turn) (λ who. who < n)) (sym (ap (λ settings. length settings.items) is.settings ∙ was.here.seated.set))
    (turn_member was.old.book.members table (standing_behind table was.rows was.old.book) judged.turn is.row (judged_may table was.rows was.told was.old replay judged is))

may_then : (table : Table) (rows : List Row) (book after : BookState) (row : Row) → after.members ≡ book.members → MayFollow book.members table (standing_behind table rows book) row.turn row
    → MayFollow after.members table (standing_behind table rows after) row.turn row
may_then table rows book after row same may = subst (λ (n : ℕ). MayFollow n table (standing_after n (first_rows table) rows) row.turn row) (sym same) may

-- the book that has noted it may take it
pub next_of : (table : Table) (replay noted : Replay) (judged : Judged) → WasJudged table replay judged → noted.book ≡ replay.book → IsNext table noted.book judged.turn judged.out
next_of table replay noted judged was book = record {
  rows = was.rows;
  behind = rw book was.is.behind;
  row = was.is.row;
  is = was.is.is;
  may = may_then table was.rows was.old.book noted.book was.is.row (ap (λ (b : BookState). b.members) book ∙ was.is.members) was.is.told_by.may;
}

-- **The turn has joined the book**, and the replay is in the situation after it.
pub taken : (table : Table) (rows : List Row) (told : ToldLine) (old judging noted new : Replay) (situation : Situation) (judged : Judged) → IsReplayAt table rows old situation
    → (is : IsJudged table rows told old judging judged) → Notes judged.turn judged.out.delta judging noted
    → ((rows : List Row) (row : Row) → StandsBehind table rows noted.book → IsRowOf judged.turn judged.out row → MayFollow noted.book.members table (standing_behind table rows noted.book) row.turn row
    → StandsBehind table (rows ++ row ∷ []) new.book)
    → Commits judged.turn judged.out.letters noted.book new.book → new.seats ≡ noted.seats → new.settings ≡ noted.settings → new.cuts ≡ noted.cuts → new.latest ≡ noted.latest
    → IsReplayAt table (rows ++ is.row ∷ []) new (after_turn old.book.members situation is.row)
taken table rows told old judging noted new situation judged here is notes stands commits seats settings cuts latest = record {
  sound = here.sound;
  behind = stands rows is.row (rw notes.book is.behind) is.is (may_then table rows old.book noted.book is.row one is.told_by.may);
  rest = commits.pending;
  some = subst (λ (n : ℕ). 0 < n) (sym all) here.some;
  few = subst (λ (n : ℕ). n ≤ 7) (sym all) here.few;
  standing =
      ap (λ (s : Standing). after_row old.book.members s is.row.turn is.row.event is.row.letters) here.standing
      ∙ sym (stands_next old.book.members (first_rows table) rows is.row)
      ∙ ap (λ (n : ℕ). standing_after n (first_rows table) (rows ++ is.row ∷ [])) (sym all);
  seated = record {
    count = ap (λ seats. length seats.items) (seats ∙ notes.seats) ∙ is.seated.count ∙ here.seated.count ∙ sym all;
    seats = λ k seat found. is.seated.each k seat (ap (λ seats. slice_get seats.items k) (sym (seats ∙ notes.seats)) ∙ found) new.book all;
    set =
        ap (λ settings. length settings.items) settings ∙ set_count judged.turn judged.out.delta judging.settings.items noted.settings.items notes.settings
        ∙ ap (λ settings. length settings.items) is.settings ∙ here.seated.set ∙ sym all;
    settings = λ k setting found.
        set_after old.book.members table situation is.row judged.turn judged.out.delta judging.settings.items noted.settings.items is.is.turn_is
        (subst (λ (s : Standing). IsChangeKept old.book.members s judged.turn is.row.event judged.out.delta) (sym here.standing) is.change)
        (subst (λ (s : Standing). MayFollow old.book.members table s judged.turn is.row) (sym here.standing) (judged_may table rows told old judging judged is)) notes.settings
        (λ k setting there. here.seated.settings k setting (ap (λ settings. slice_get settings.items k) (sym is.settings) ∙ there)) k setting
        (ap (λ settings. slice_get settings.items k) (sym settings) ∙ found);
  };
  cuts = λ from to. ap (λ cuts. is_cut from to cuts.items) (cuts ∙ notes.cuts ∙ is.cuts) ∙ here.cuts from to;
  latest =
      ap (λ minute. minute.0) latest ∙ notes.latest ∙ ap (λ minute. latest_after judged.turn minute.0) is.latest ∙ ap (latest_after judged.turn) here.latest
      ∙ ap (λ (t : Turn). latest_after t situation.latest) (sym is.is.turn_is);
  since = since_after is.row.turn table.window.from.0 situation.latest here.since;
}
  where
    one : noted.book.members ≡ old.book.members
    one = ap (λ (b : BookState). b.members) notes.book ∙ is.members

    all : new.book.members ≡ old.book.members
    all = commits.members ∙ one

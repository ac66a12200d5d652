-- How far the replicas have come in a part in no order, and what each does next.
use Rattle.std.proofs.Common.{◌≡◌, ◌≢◌, ◌+◌, ◌<◌, ◌≤◌, ◌==◌, ◌&&◌, not, is_some, if◌then◌else◌, ◌↔◌, IsTrue, eq-eqb, ℕ, ℤ, Bool, true, false, List, [], ◌∷◌, ◌++◌, length, Option, None, Some, IfSome, refl, sym, ap, ◌∙◌, subst, inl, inr, arith}
use Rattle.std.specs.List.{slice_get}
use Rattle.std.proofs.Math.ListN.{set}
use Rattle.std.proofs.lemmas.Bool.{cases_Bool, cases_lt, eqb-true}
use Rattle.std.proofs.lemmas.List.{length-append, length-set}
use Rattle.std.proofs.lemmas.List.Sums.{fold_push}
use Rattle.std.proofs.lemmas.Option.{slice_get_within}
use Rattle.zone_minutes.specs.declared.minute.Window.{Window}
use Rattle.due_set.specs.Table.{Table}
use Rattle.paxos_base.specs.declared.durable.Delta.{Delta}
use Rattle.save_calls.specs.Save.{is_kept}
use Rattle.step_spec.specs.Folds.{deltas_of}
use Rattle.step_spec.specs.State.{State}
use Rattle.step_spec.specs.Step.{Event, step}
use Rattle.replica_core.specs.Replica.{ReplicaState}
use Rattle.agreement.specs.Transition.{identity_of}
use Rattle.history.specs.Book.{Row, Standing, turn_of}
use Rattle.history.specs.Legal.{MayFollow}
use Rattle.cluster_sched.specs.declared.row.SchedRow.{SchedRow}
use Rattle.term_core.specs.Term.{is_leader}
use Rattle.zone_minutes.specs.declared.minute.Minute.{Minute}
use Rattle.history.specs.declared.turn.Cause.{Cause}
use Rattle.history.specs.declared.turn.Cause.TheVariants.{Answer, Campaign, Hear, Tick}
use Rattle.history.specs.declared.turn.Turn.{Turn}
use Rattle.history.specs.declared.turn.Turn.TheVariants.{Did, Stopped, Restarted, Arrived}
use Rattle.script_semantics.proofs.FreeMailLemmas.{Passes}
use Rattle.script_semantics.proofs.PartLemmas.{here_is, other_course, own_course}
use Rattle.script_semantics.proofs.SeenLemmas.{seen_passes}
use Rattle.script_semantics.specs.Arms.{IsEnough, IsTurnByArm}
use Rattle.script_semantics.specs.Free.{Course, after_all_posted, after_posted, after_row_of, begun as begun_at, course_of, idle_cause, is_time_to_stand, is_turn_of, next_cause, next_cause_by}
use Rattle.script_semantics.specs.Round.{clock_reading}
use Rattle.script_semantics.specs.Situation.{Armed, Situation, Do, changes_in, letters_for}
use Rattle.run_replay.proofs.QuietLemmas.{running_state, stopped_state}
use Rattle.run_replay.proofs.SettingLemmas.{set_cases, some_same}
use Rattle.run_replay.proofs.StartLemmas.{found_last}
use Rattle.run_replay.specs.Quiet.{runs_by_seat}
use Rattle.run_replay.specs.Replay.{IsReplayAt}
use Rattle.run_replay.specs.declared.replay.Replay.{Replay}
use Rattle.run_replay.specs.declared.replay.Seat.{Seat}
use Rattle.run_replay.specs.declared.replay.Setting.{Setting}
use Rattle.run_audit.specs.Freely.{AreProgress, IsProgressIn, IsWaiting, SawLast, course_now, has_any, leads_by, leads_in}
use Rattle.run_audit.specs.declared.free.Progress.{Progress}

-- ---- whose turn it is

pub is_own : (who : ℕ) (turn : Turn) → turn_of turn ≡ Some who → is_turn_of who turn ≡ true
is_own who (Did other cause made) mine = let same : other ≡ who = cc in eq-eqb other who same
is_own who (Stopped other cause kept) mine = let same : other ≡ who = cc in eq-eqb other who same
is_own who (Restarted other) mine = let same : other ≡ who = cc in eq-eqb other who same
is_own who (Arrived late) mine = absurd cc

pub whose : (who : ℕ) (turn : Turn) → is_turn_of who turn ≡ true → turn_of turn ≡ Some who
whose who (Did other cause made) own = ap Some (eqb-true other who own)
whose who (Stopped other cause kept) own = ap Some (eqb-true other who own)
whose who (Restarted other) own = ap Some (eqb-true other who own)
whose who (Arrived late) own = absurd cc

pub none_else : (who : ℕ) (turn : Turn) → turn_of turn ≡ Some who → (other : ℕ) → is_turn_of other turn ≡ true → other ≡ who
none_else who turn mine other own = some_same (turn_of turn) other who (whose other turn own) mine

not_own : (who : ℕ) (turn : Turn) → turn_of turn ≡ Some who → (other : ℕ) → other ≢ who → is_turn_of other turn ≡ false
not_own who turn mine other differs = elim (cases_Bool (is_turn_of other turn)) [
  | inl own ↦ absurd (differs (none_else who turn mine other own))
  | inr isnt ↦ isnt
]

-- ---- by what it saw last, and by what stands now

changes_stay : (members : ℕ) (old new : Standing) (turn mine : Turn) (event : Event) → turn ≡ mine → changes_in members new mine event ≡ changes_in members old mine event
    → changes_in members new turn event ≡ changes_in members old turn event
changes_stay members old new turn mine event is same = subst (λ (t : Turn). changes_in members new t event ≡ changes_in members old t event) (sym is) same

-- a turn by what stands now is one by what it saw last, where others alone had turns between
pub turn_back : (members who : ℕ) (old new : Situation) (cause : Cause) (row : Row) → Passes who old new → IsTurnByArm members new (Do who cause) row → IsTurnByArm members old (Do who cause) row
turn_back members who old new cause row passes (inl takes) =
    let same : changes_in members new.standing row.turn row.event ≡ changes_in members old.standing row.turn row.event =
    changes_stay members old.standing new.standing row.turn (Did who cause takes.does.made) row.event takes.does.is
    (ap (λ (state : State). deltas_of (step (identity_of members who) row.event state)) passes.replica) in
    inl (record {
      does = record {
        made = takes.does.made;
        is = takes.does.is;
        fate = subst (λ fate. IfSome takes.does.made (λ call. call.fate ≡ fate)) passes.fate takes.does.fate;
      };
      saved =
          subst (λ (armed : Option Armed). IsEnough armed (changes_in members old.standing row.turn row.event)) passes.arm
          (subst (λ (changes : List Delta). IsEnough (new.arms who) changes) same takes.saved);
    })
turn_back members who old new cause row passes (inr stops) =
    let kept : ℕ → Bool = λ bases. is_kept bases stops.change stops.armed.left stops.armed.image in
    inr (record {
      armed = stops.armed;
      is_armed = sym passes.arm ∙ stops.is_armed;
      change = stops.change;
      is = stops.is ∙ ap (λ (bases : ℕ). Stopped who (Some cause) (kept bases)) passes.bases;
      changes =
          sym (changes_stay members old.standing new.standing row.turn (Stopped who (Some cause) (kept (new.bases who))) row.event stops.is
          (ap (λ (state : State). deltas_of (step (identity_of members who) row.event state)) passes.replica))
          ∙ stops.changes;
      few = stops.few;
    })

-- the replica of such a turn runs
pub runs_then : (members : ℕ) (table : Table) (here : Situation) (who : ℕ) (cause : Cause) (row : Row) → IsTurnByArm members here (Do who cause) row → MayFollow members table here.standing row.turn row
    → here.standing.runs who ≡ true
runs_then members table here who cause row (inl takes) may =
    (subst (λ turn. MayFollow members table here.standing turn row) takes.does.is may).0.runs
runs_then members table here who cause row (inr stops) may =
    (subst (λ turn. MayFollow members table here.standing turn row) stops.is may).0.runs

-- ---- what a replica does next

module _ (window : Window) (at : ℤ) (who taken : ℕ) (seen : Situation) where
  abbrev time : Bool
  time = is_time_to_stand who taken

  abbrev leader : Bool
  leader = is_leader (seen.standing.replicas who).term

  abbrev reading : Minute
  reading = clock_reading window at (seen.skews who)

  abbrev idle_by : Bool → Cause
  idle_by stands = if stands then Campaign else Tick reading

  pub idle_no_time : (now : Minute) → now ≡ reading → time ≡ false → Tick now ≡ idle_cause window at who taken seen
  idle_no_time now is isnt = ap Tick is ∙ sym (ap (λ (b : Bool). idle_by (b && not leader)) isnt)

  pub idle_leading : (now : Minute) → now ≡ reading → leader ≡ true → Tick now ≡ idle_cause window at who taken seen
  idle_leading now is leads = elim (cases_Bool time) [
    | inl holds ↦ ap Tick is ∙ sym (ap (λ (b : Bool). idle_by (b && not leader)) holds ∙ ap (λ (b : Bool). idle_by (not b)) leads)
    | inr isnt ↦ idle_no_time now is isnt
  ]

  pub idle_standing : time ≡ true → leader ≡ false → Campaign ≡ idle_cause window at who taken seen
  idle_standing holds follows = sym (ap (λ (b : Bool). idle_by (b && not leader)) holds ∙ ap (λ (b : Bool). idle_by (not b)) follows)

  waiting_row : (found : Option SchedRow) → is_some found ≡ true → (idle : Cause) (mail : List ℕ) → Answer ≡ next_cause_by found mail idle
  waiting_row (Some row) some idle mail = refl
  waiting_row None some idle mail = absurd cc

  pub next_answer : (setting : Setting) (progress : Progress) → SawLast who seen setting progress → is_some setting.waits ≡ true → Answer ≡ next_cause window at who taken seen
  next_answer setting progress saw some =
      waiting_row (seen.standing.waits who) (ap (λ found. is_some found) (sym saw.waits) ∙ some) (idle_cause window at who taken seen) (seen.mails who)

  empty_mail : (mail : List ℕ) → has_any mail ≡ false → (found : Option SchedRow) → is_some found ≡ false → (idle : Cause) → idle ≡ next_cause_by found mail idle
  empty_mail [] none None waits idle = refl
  empty_mail [] none (Some row) waits idle = absurd cc
  empty_mail (number ∷ mail) none found waits idle = absurd cc

  pub next_idle : (setting : Setting) (progress : Progress) (idle : Cause) → SawLast who seen setting progress → is_some setting.waits ≡ false → progress.has_letter ≡ false → idle ≡ idle_cause window at who taken seen
      → idle ≡ next_cause window at who taken seen
  next_idle setting progress idle saw none letter is =
      is
      ∙ empty_mail (seen.mails who) (sym saw.letter ∙ letter) (seen.standing.waits who) (ap (λ found. is_some found) (sym saw.waits) ∙ none) (idle_cause window at who taken seen)

  first_letter : (mail since items : List ℕ) (letter : ℕ) → has_any mail ≡ true → items ≡ mail ++ since → slice_get items 0 ≡ Some letter → (found : Option SchedRow) → is_some found ≡ false → (idle : Cause)
      → Hear letter ≡ next_cause_by found mail idle
  first_letter [] since items letter some is first found waits idle = absurd cc
  first_letter (number ∷ mail) since items letter some is first (Some row) waits idle = absurd cc
  first_letter (number ∷ mail) since items letter some is first None waits idle =
      let both : Some number ≡ Some letter = sym (ap (λ (l : List ℕ). slice_get l 0) is) ∙ first in
      let same : letter ≡ number = cc in
      ap Hear same

  pub next_letter : (setting : Setting) (progress : Progress) (letter : ℕ) → SawLast who seen setting progress → is_some setting.waits ≡ false → progress.has_letter ≡ true → slice_get setting.mail.items 0 ≡ Some letter
      → Hear letter ≡ next_cause window at who taken seen
  next_letter setting progress letter saw none has first =
      first_letter (seen.mails who) saw.since setting.mail.items letter (sym saw.letter ∙ has) saw.mail first (seen.standing.waits who) (ap (λ found. is_some found) (sym saw.waits) ∙ none)
      (idle_cause window at who taken seen)

  no_letter : (mail since items : List ℕ) → has_any mail ≡ true → items ≡ mail ++ since → slice_get items 0 ≡ None → ⊥
  no_letter [] since items some is none = cc
  no_letter (number ∷ mail) since items some is none = let both : Some number ≡ None = sym (ap (λ (l : List ℕ). slice_get l 0) is) ∙ none in cc

  pub letter_there : (setting : Setting) (progress : Progress) → SawLast who seen setting progress → progress.has_letter ≡ true → slice_get setting.mail.items 0 ≡ None → ⊥
  letter_there setting progress saw has none = no_letter (seen.mails who) saw.since setting.mail.items (sym saw.letter ∙ has) saw.mail none

-- ---- how far each has come

-- after these turns of a part
module _ (members : ℕ) (situation : Situation) (part : List Row) where
  abbrev course : ℕ → Course
  course who = course_of members who situation part

  abbrev here : Situation
  here = after_all_posted members situation part

  -- what is set for a replica is as it saw it last, but for letters that have come since
  pub saw_last : (table : Table) (rows : List Row) (replay : Replay) (who : ℕ) (setting : Setting) (progress : Progress) → IsReplayAt table rows replay here → slice_get replay.settings.items who ≡ Some setting
      → IsProgressIn (course who) who progress → SawLast who (course who).seen setting progress
  saw_last table rows replay who setting progress is there come =
      let passes = seen_passes members who situation part in
      let set = is.seated.settings who setting there in
      record {
        waits = set.waits ∙ passes.waits;
        skew = set.skew ∙ ap (λ (skews : ℕ → ℤ). skews who) passes.skews;
        since = letters_for here (length (course who).seen.standing.posted) who;
        mail = set.mail ∙ passes.mail;
        letter = come.letter;
        leads = come.leads;
      }

  -- one more turn
  module _ (row : Row) where
    abbrev behind : List Row
    behind = part ++ row ∷ []

    pub here_then : after_all_posted members situation behind ≡ after_posted members here row
    here_then = fold_push (after_posted members) situation part row

    own_then : (who : ℕ) → is_turn_of who row.turn ≡ true → course_of members who situation behind ≡ course_now ((course who).taken + 1) (after_all_posted members situation behind)
    own_then who own =
        fold_push (after_row_of members who) (begun_at situation) part row
        ∙ own_course members who (course who) row own
        ∙ ap (λ (now : Situation). course_now ((course who).taken + 1) (after_posted members now row)) (here_is members who situation part)
        ∙ ap (λ (now : Situation). course_now ((course who).taken + 1) now) (sym here_then)

    others_then : (who : ℕ) (progress : Progress) → is_turn_of who row.turn ≡ false → IsProgressIn (course who) who progress → IsProgressIn (course_of members who situation behind) who progress
    others_then who progress isnt come =
        subst (λ (c : Course). IsProgressIn c who progress)
        (sym (fold_push (after_row_of members who) (begun_at situation) part row ∙ other_course members who (course who) row isnt))
        (record { taken = come.taken; letter = come.letter; leads = come.leads })

    -- each has come as far as before, and the one that had the turn has come further
    pub progress_then : (turns who : ℕ) (list after : List Progress) (progress next : Progress) → AreProgress members turns situation part list → turn_of row.turn ≡ Some who → slice_get list who ≡ Some progress
        → progress.taken < turns → after ≡ set list who next → IsProgressIn (course_now (progress.taken + 1) (after_all_posted members situation behind)) who next
        → AreProgress members turns situation behind after
    progress_then turns who list after progress next are mine there left is sees = record { count = ap length is ∙ length-set list who next ∙ are.count; each = each; most = most }
      where
        found : (k : ℕ) (p : Progress) → slice_get after k ≡ Some p → slice_get (set list who next) k ≡ Some p
        found k p at = subst (λ (l : List Progress). slice_get l k ≡ Some p) is at

        mine_then : IsProgressIn (course_of members who situation behind) who next
        mine_then =
            subst (λ (c : Course). IsProgressIn c who next) (sym (own_then who (is_own who row.turn mine)))
            (subst (λ (taken : ℕ). IsProgressIn (course_now (taken + 1) (after_all_posted members situation behind)) who next) (are.each who progress there).taken sees)

        each : (k : ℕ) (p : Progress) → slice_get after k ≡ Some p → IsProgressIn (course_of members k situation behind) k p
        each k p at = elim (set_cases list who next k p (found k p at)) [
          | inl same ↦
              subst (λ (w : ℕ). IsProgressIn (course_of members w situation behind) w p) (sym same.0) (subst (λ (q : Progress). IsProgressIn (course_of members who situation behind) who q) (sym same.1) mine_then)
          | inr other ↦ others_then k p (not_own who row.turn mine k other.0) (are.each k p other.1)
        ]

        most : (k : ℕ) (p : Progress) → slice_get after k ≡ Some p → p.taken ≤ turns
        most k p at = elim (set_cases list who next k p (found k p at)) [
          | inl same ↦ let count : p.taken ≡ progress.taken + 1 = ap (λ (q : Progress). q.taken) same.1 ∙ sees.taken in omega (arith, count, left)
          | inr other ↦ are.most k p other.1
        ]

-- before any turn of a part
pub progress_none : (members turns : ℕ) (situation : Situation) (list : List Progress) → length list ≡ members
    → ((who : ℕ) (progress : Progress) → slice_get list who ≡ Some progress → IsProgressIn (course_now 0 situation) who progress) → AreProgress members turns situation [] list
progress_none members turns situation list count each = record {
  count = count;
  each = λ who progress there. each who progress there;
  most = λ who progress there. let none : progress.taken ≡ 0 = (each who progress there).taken in omega (arith, none);
}

-- what a replica of a replay sees now
pub sees_now : (table : Table) (rows : List Row) (replay : Replay) (situation : Situation) (who taken : ℕ) (seat : Seat) (setting : Setting) (empty leads : Bool) → IsReplayAt table rows replay situation
    → slice_get replay.seats.items who ≡ Some seat → slice_get replay.settings.items who ≡ Some setting → has_any setting.mail.items ≡ not empty → leads ≡ leads_in seat
    → IsProgressIn (course_now taken situation) who (record { taken = taken; has_letter = not empty; leads = leads })
sees_now table rows replay situation who taken seat setting empty leads is there set letter leading = record {
  taken = refl;
  letter = sym letter ∙ ap has_any (is.seated.settings who setting set).mail;
  leads = leading ∙ leads_there seat.replica refl;
}
  where
    leads_there : (found : Option ReplicaState) → seat.replica ≡ found → leads_by found ≡ is_leader (situation.standing.replicas who).term
    leads_there None none = ap (λ (state : State). is_leader state.term) (sym (stopped_state table rows replay situation is who seat there none))
    leads_there (Some replica) some = ap (λ (state : State). is_leader state.term) (running_state table rows replay situation is who seat replica there some)

pub any_letter : (mail : List ℕ) (count : ℕ) (empty : Bool) → count ≡ length mail → empty ≡ (count == 0) → has_any mail ≡ not empty
any_letter [] count empty size is = sym (ap not (is ∙ ap (λ (n : ℕ). n == 0) size))
any_letter (number ∷ mail) count empty size is = elim (cases_Bool (count == 0)) [
  | inl none ↦ let zero : count ≡ 0 = eqb-true count 0 none in absurd (omega (arith, zero, size))
  | inr some ↦ sym (ap not (is ∙ some))
]

pub not_holds : (b : Bool) → not b ≡ true → b ≡ false
not_holds true is = sym is
not_holds false is = refl

pub not_fails : (b : Bool) → not b ≡ false → b ≡ true
not_fails true is = refl
not_fails false is = sym is

-- the first replicas have been listed
pub record HasListed (replay : Replay) (who : ℕ) (list : List Progress) : Type 0 where
  pub count : length list ≡ who
  pub each : (table : Table) (rows : List Row) (situation : Situation) → IsReplayAt table rows replay situation → (k : ℕ) (progress : Progress) → slice_get list k ≡ Some progress
      → IsProgressIn (course_now 0 situation) k progress

pub listed_none : (replay : Replay) → HasListed replay 0 []
listed_none replay = record { count = refl; each = λ table rows situation is k progress there. absurd (let none : None ≡ Some progress = there in cc) }

pub listed_next : (replay : Replay) (who : ℕ) (list after : List Progress) (progress : Progress) → HasListed replay who list → after ≡ list ++ progress ∷ []
    → ((table : Table) (rows : List Row) (situation : Situation) → IsReplayAt table rows replay situation → IsProgressIn (course_now 0 situation) who progress) → HasListed replay (who + 1) after
listed_next replay who list after progress so_far is sees = record { count = ap length is ∙ length-append list (progress ∷ []) ∙ ap (λ (n : ℕ). n + 1) so_far.count; each = each }
  where
    each : (table : Table) (rows : List Row) (situation : Situation) → IsReplayAt table rows replay situation → (k : ℕ) (p : Progress) → slice_get after k ≡ Some p → IsProgressIn (course_now 0 situation) k p
    each table rows situation here k p there =
        elim (found_last list progress k p (ap (λ (l : List Progress). slice_get l k) (sym is) ∙ there)) [
          | inl before ↦ so_far.each table rows situation here k p before
          | inr last ↦
              subst (λ (n : ℕ). IsProgressIn (course_now 0 situation) n p) (sym (last.0 ∙ so_far.count))
              (subst (IsProgressIn (course_now 0 situation) who) (sym last.1) (sees table rows situation here))
        ]

pub listed_all : (replay : Replay) (who : ℕ) (list : List Progress) → HasListed replay who list → who ≡ length replay.seats.items
    → (table : Table) (turns : ℕ) (rows : List Row) (situation : Situation) → IsReplayAt table rows replay situation → AreProgress replay.book.members turns situation [] list
listed_all replay who list so_far ends table turns rows situation is =
    let count = so_far.count in
    let seats = is.seated.count in
    progress_none replay.book.members turns situation list (omega (arith, count, seats, ends)) (so_far.each table rows situation is)

-- ---- who has a turn left

module _ (turns : ℕ) (replay : Replay) (list : List Progress) (who : ℕ) (seat : Seat) (there : slice_get replay.seats.items who ≡ Some seat) where
  pub waits_not : runs_by_seat seat ≡ false → IsTrue false ↔ IsWaiting turns replay list who
  waits_not isnt = (
    λ wrong. absurd (let both : false ≡ true = wrong in cc),
    λ waiting.
        let same : waiting.seat ≡ seat = some_same (slice_get replay.seats.items who) waiting.seat seat waiting.there there in
        absurd (let both : true ≡ false = sym waiting.runs ∙ ap runs_by_seat same ∙ isnt in cc),
  )

  pub waits_no_more : (progress : Progress) → slice_get list who ≡ Some progress → turns ≤ progress.taken → IsTrue false ↔ IsWaiting turns replay list who
  waits_no_more progress is past = (
    λ wrong. absurd (let both : false ≡ true = wrong in cc),
    λ waiting.
        let same : waiting.progress.taken ≡ progress.taken = ap (λ (p : Progress). p.taken) (some_same (slice_get list who) waiting.progress progress waiting.is is) in
        let left = waiting.left in
        absurd (omega (arith, same, left, past)),
  )

  pub waits_so : (progress : Progress) → slice_get list who ≡ Some progress → runs_by_seat seat ≡ true → progress.taken < turns → IsTrue true ↔ IsWaiting turns replay list who
  waits_so progress is runs left = (λ holds. record { seat = seat; there = there; runs = runs; progress = progress; is = is; left = left }, λ waiting. refl)

-- the first replicas have no turn left
pub none_waits_next : (turns : ℕ) (replay : Replay) (list : List Progress) (who : ℕ) (answer : Bool) → ((k : ℕ) → k < who → IsWaiting turns replay list k → ⊥) → IsTrue answer ↔ IsWaiting turns replay list who → answer ≡ false
    → (k : ℕ) → k < who + 1 → IsWaiting turns replay list k → ⊥
none_waits_next turns replay list who answer none tells isnt k below waiting = elim (cases_lt k who) [
  | inl before ↦ none k before waiting
  | inr past ↦
      let same : k ≡ who = omega (arith, below, past) in
      let holds : answer ≡ true = tells.1 (subst (IsWaiting turns replay list) same waiting) in
      let both : true ≡ false = sym holds ∙ isnt in
      cc
]

pub none_waits : (turns : ℕ) (replay : Replay) (list : List Progress) (count : ℕ) → count ≡ length replay.seats.items → ((k : ℕ) → k < count → IsWaiting turns replay list k → ⊥)
    → (who : ℕ) → IsWaiting turns replay list who → ⊥
none_waits turns replay list count all none who waiting =
    let within = slice_get_within replay.seats.items who waiting.seat waiting.there in
    none who (omega (arith, all, within)) waiting

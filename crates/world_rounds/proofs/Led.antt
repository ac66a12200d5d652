-- Turns that are taken one by one, by the arms of disks.
use Rattle.std.proofs.Common.{◌≡◌, ◌≢◌, ℕ, zero, suc, ◌+◌, ◌<◌, ◌≤◌, ◌==◌, not, Bool, true, false, List, [], ◌∷◌, ◌++◌, Option, None, Some, if◌then◌else◌, refl, sym, ap, ◌∙◌, subst, inl, inr, append_assoc, arith, eq-eqb, ℤ}
use Rattle.std.proofs.Common.{append-nil as append_nil}
use Rattle.std.specs.Prelude.{⊤}
use Rattle.std.specs.List.{filter, flat_map, range_with_len}
use Rattle.std.proofs.lemmas.Bool.{cases_Bool, eqb-true, ne_eqb}
use Rattle.std.proofs.lemmas.List.Sums.{fold-append}
use Rattle.zone_minutes.specs.declared.minute.Window.{Window}
use Rattle.cluster_sched.specs.declared.row.SchedRow.{SchedRow}
use Rattle.history.specs.Book.{Row, turn_of}
use Rattle.history.specs.declared.turn.Cause.{Cause}
use Rattle.history.specs.declared.turn.Cause.TheVariants.{Tick}
use Rattle.history.specs.declared.turn.Turn.{Turn}
use Rattle.history.specs.declared.turn.Turn.TheVariants.{Did, Stopped}
use Rattle.history.proofs.Standings.{is_no_turn_of}
use Rattle.script_semantics.specs.Arms.{AreTurnsByArms, IsEnough, IsTurnByArm, TakesStep, is_task_of, tasks_left}
use Rattle.script_semantics.specs.Round.{answer_tasks, clock_reading, hear_tasks, tasks_of}
use Rattle.script_semantics.specs.Situation.{AreTurnsFor, Situation, Task, Arrive, Do, Restart, Stop, after_turn, after_turns, armed_after, arms_after, changes_in}
use Rattle.world_steps.proofs.AfterTurn.{leaves_other}
use Rattle.world_rounds.specs.OneByOne.{AreTasksOf, LeadsOn, goes_on}

-- ---- tasks of one replica

of_both : (who : ℕ) (one two : List Task) → AreTasksOf who one → AreTasksOf who two → AreTasksOf who (one ++ two)
of_both who [] two a b = b
of_both who (task ∷ one) two a b = (a.0, of_both who one two a.1 b)

none_left : (who : ℕ) (tasks : List Task) → AreTasksOf who tasks → filter (λ task. not (is_task_of who task)) tasks ≡ []
none_left who [] of = refl
none_left who (task ∷ tasks) of = rw of.0 (none_left who tasks of.1)

pub after_both : (n : ℕ) (situation : Situation) (one two : List Row) → after_turns n situation (one ++ two) ≡ after_turns n (after_turns n situation one) two
after_both n situation one two = fold-append (after_turn n) situation one two

-- what is left behind the turn of a replica's task
left_of : (who : ℕ) (cause : Cause) (n : ℕ) (situation : Situation) (row : Row) (more : List Task) → IsTurnByArm n situation (Do who cause) row → AreTasksOf who more
    → tasks_left row.turn more ≡ (if goes_on row.turn then more else [])
left_of who cause n situation row more (inl takes) of =
    ap (λ (turn : Turn). tasks_left turn more) takes.does.is ∙ sym (ap (λ (turn : Turn). if goes_on turn then more else []) takes.does.is)
left_of who cause n situation row more (inr stops) of =
    ap (λ (turn : Turn). tasks_left turn more) stops.is ∙ none_left who more of ∙ sym (ap (λ (turn : Turn). if goes_on turn then more else []) stops.is)

-- ---- how turns lead on

pub leads_none : (n who : ℕ) (situation : Situation) → LeadsOn n who situation [] [] true
leads_none n who situation = λ more rest of turns. turns

pub leads_step : (n who : ℕ) (cause : Cause) (situation : Situation) (row : Row) → IsTurnByArm n situation (Do who cause) row → LeadsOn n who situation (Do who cause ∷ []) (row ∷ []) (goes_on row.turn)
leads_step n who cause situation row turn = λ more rest of turns.
    (turn, subst (λ tasks. AreTurnsByArms n (after_turn n situation row) tasks rest) (sym (left_of who cause n situation row more turn of)) turns)

pub leads_then : (n who : ℕ) (situation : Situation) (one two : List Task) (rows more : List Row) (goes : Bool) → LeadsOn n who situation one rows true
    → LeadsOn n who (after_turns n situation rows) two more goes → AreTasksOf who two → LeadsOn n who situation (one ++ two) (rows ++ more) goes
leads_then n who situation one two rows more goes first second of_two = λ tasks rest of turns.
    subst (λ all. AreTurnsByArms n situation all ((rows ++ more) ++ rest)) (sym (append_assoc one two tasks))
    (subst (λ all. AreTurnsByArms n situation (one ++ (two ++ tasks)) all) (sym (append_assoc rows more rest))
    (first (two ++ tasks) (more ++ rest) (of_both who two tasks of_two of)
    (second tasks rest of (subst (λ here. AreTurnsByArms n here (if goes then tasks else []) rest) (after_both n situation rows more) turns))))

pub leads_stop : (n who : ℕ) (situation : Situation) (one two : List Task) (rows : List Row) → LeadsOn n who situation one rows false → AreTasksOf who two
    → LeadsOn n who situation (one ++ two) rows false
leads_stop n who situation one two rows first of_two = λ tasks rest of turns.
    subst (λ all. AreTurnsByArms n situation all (rows ++ rest)) (sym (append_assoc one two tasks)) (first (two ++ tasks) rest (of_both who two tasks of_two of) turns)

pub leads_end : (n who : ℕ) (situation : Situation) (tasks : List Task) (rows : List Row) (goes : Bool) → LeadsOn n who situation tasks rows goes → AreTurnsByArms n situation tasks rows
leads_end n who situation tasks rows goes leads =
    subst (λ all. AreTurnsByArms n situation tasks all) (append_nil rows)
    (subst (λ all. AreTurnsByArms n situation all (rows ++ [])) (append_nil tasks) (leads [] [] tt (none goes)))
  where
    none : (goes : Bool) → AreTurnsByArms n (after_turns n situation rows) (if goes then [] else []) []
    none true = refl
    none false = refl

-- ---- tasks of several replicas

-- the tasks are steps of replicas below a number
abbrev pub AreBelow : ℕ → List Task → Type 0
AreBelow count [] = ⊤
AreBelow count (Do who cause ∷ tasks) = (who < count) × AreBelow count tasks
AreBelow count (task ∷ tasks) = ⊥

below_left : (count : ℕ) (turn : Turn) (tasks : List Task) → AreBelow count tasks → AreBelow count (tasks_left turn tasks)
below_left count (Stopped who (Some cause) kept) tasks below = go tasks below
  where
    go : (tasks : List Task) → AreBelow count tasks → AreBelow count (filter (λ task. not (is_task_of who task)) tasks)
    go [] below = tt
    go (Do other cause ∷ tasks) below = elim (cases_Bool (other == who)) [ inl same ↦ rw same (go tasks below.1) | inr differs ↦ rw differs (below.0, go tasks below.1) ]
    go (Stop other ∷ tasks) below = absurd below
    go (Restart other ∷ tasks) below = absurd below
    go (Arrive late ∷ tasks) below = absurd below
below_left count (Stopped who None kept) tasks below = below
below_left count (Did who cause made) tasks below = below
below_left count turn tasks below = below

-- tasks of one replica are left by a stop of another
others_left : (who count : ℕ) (tasks : List Task) → who ≢ count → AreTasksOf count tasks → filter (λ task. not (is_task_of who task)) tasks ≡ tasks
others_left who count [] differs of = refl
others_left who count (task ∷ tasks) differs of = rw (not_of task of.0) (ap (λ rest. task ∷ rest) (others_left who count tasks differs of.1))
  where
    not_of : (task : Task) → is_task_of count task ≡ true → is_task_of who task ≡ false
    not_of (Do other cause) is = ne_eqb other who (λ same. differs (sym same ∙ eqb-true other count is))
    not_of (Stop other) is = ne_eqb other who (λ same. differs (sym same ∙ eqb-true other count is))
    not_of (Restart other) is = ne_eqb other who (λ same. differs (sym same ∙ eqb-true other count is))
    not_of (Arrive late) is = absurd cc

filter_both : (test : Task → Bool) (one two : List Task) → filter test (one ++ two) ≡ filter test one ++ filter test two
filter_both test [] two = refl
filter_both test (task ∷ one) two = elim (cases_Bool (test task)) [
  | inl is ↦ rw is (ap (λ rest. task ∷ rest) (filter_both test one two))
  | inr isnt ↦ rw isnt (filter_both test one two)
]

left_both : (n : ℕ) (situation : Situation) (who count : ℕ) (cause : Cause) (row : Row) (one two : List Task) → IsTurnByArm n situation (Do who cause) row → who < count → AreTasksOf count two
    → tasks_left row.turn (one ++ two) ≡ tasks_left row.turn one ++ two
left_both n situation who count cause row one two (inl takes) below of =
    ap (λ (turn : Turn). tasks_left turn (one ++ two)) takes.does.is ∙ sym (ap (λ (turn : Turn). tasks_left turn one ++ two) takes.does.is)
left_both n situation who count cause row one two (inr stops) below of =
    ap (λ (turn : Turn). tasks_left turn (one ++ two)) stops.is ∙ filter_both (λ task. not (is_task_of who task)) one two
    ∙ ap (λ rest. filter (λ task. not (is_task_of who task)) one ++ rest) (others_left who count two (λ same. omega (arith, same, below)) of)
    ∙ sym (ap (λ (turn : Turn). tasks_left turn one ++ two) stops.is)

pub turns_then : (n count : ℕ) (situation : Situation) (one two : List Task) (rows more : List Row) → AreBelow count one → AreTasksOf count two → AreTurnsByArms n situation one rows
    → AreTurnsByArms n (after_turns n situation rows) two more → AreTurnsByArms n situation (one ++ two) (rows ++ more)
turns_then n count situation one two [] more below of turns rest = rw turns rest
turns_then n count situation [] two (row ∷ rows) more below of turns rest = absurd cc
turns_then n count situation (Do who cause ∷ one) two (row ∷ rows) more below of turns rest = (
  turns.0,
  subst (λ tasks. AreTurnsByArms n (after_turn n situation row) tasks (rows ++ more)) (sym (left_both n situation who count cause row one two turns.0 below.0 of))
      (turns_then n count (after_turn n situation row) (tasks_left row.turn one) two rows more (below_left count row.turn one below.1) of turns.1 rest),
)
turns_then n count situation (Stop who ∷ one) two (row ∷ rows) more below of turns rest = absurd below
turns_then n count situation (Restart who ∷ one) two (row ∷ rows) more below of turns rest = absurd below
turns_then n count situation (Arrive late ∷ one) two (row ∷ rows) more below of turns rest = absurd below

pub its_turn : (n : ℕ) (situation : Situation) (who : ℕ) (cause : Cause) (row : Row) → IsTurnByArm n situation (Do who cause) row → turn_of row.turn ≡ Some who
its_turn n situation who cause row (inl takes) = ap turn_of takes.does.is
its_turn n situation who cause row (inr stops) = ap turn_of stops.is

-- turns of replicas below a number leave one that isn't
pub record AreLeft (here there : Situation) (who : ℕ) : Type 0 where
  pub runs : there.standing.runs who ≡ here.standing.runs who
  pub waits : there.standing.waits who ≡ here.standing.waits who
  pub mail : there.mails who ≡ here.mails who
  pub skew : there.skews who ≡ here.skews who

pub others_leave : (n count who : ℕ) (situation : Situation) (tasks : List Task) (rows : List Row) → count ≤ who → AreBelow count tasks → AreTurnsByArms n situation tasks rows
    → AreLeft situation (after_turns n situation rows) who
others_leave n count who situation tasks [] above below turns = record { runs = refl; waits = refl; mail = refl; skew = refl }
others_leave n count who situation [] (row ∷ rows) above below turns = absurd cc
others_leave n count who situation (Do other cause ∷ tasks) (row ∷ rows) above below turns =
    let leaves = leaves_other n situation row who
    (is_no_turn_of row.turn other who (its_turn n situation other cause row turns.0) (λ same. let less = below.0 in omega (arith, same, less, above))) in
    let more = others_leave n count who (after_turn n situation row) (tasks_left row.turn tasks) rows above (below_left count row.turn tasks below.1) turns.1 in
    record { runs = more.runs ∙ leaves.runs; waits = more.waits ∙ leaves.waits; mail = more.mail ∙ leaves.mail; skew = more.skew }
others_leave n count who situation (Stop other ∷ tasks) (row ∷ rows) above below turns = absurd below
others_leave n count who situation (Restart other ∷ tasks) (row ∷ rows) above below turns = absurd below
others_leave n count who situation (Arrive late ∷ tasks) (row ∷ rows) above below turns = absurd below

-- ---- the tasks of a round

answers_of : (who : ℕ) (waits : Option SchedRow) → AreTasksOf who (answer_tasks who waits)
answers_of who None = tt
answers_of who (Some row) = (eq-eqb who who refl, tt)

pub hears_of : (who : ℕ) (letters : List ℕ) → AreTasksOf who (hear_tasks who letters)
hears_of who [] = tt
hears_of who (letter ∷ letters) = (eq-eqb who who refl, hears_of who letters)

pub tick_of : (who : ℕ) (cause : Cause) → AreTasksOf who (Do who cause ∷ [])
tick_of who cause = (eq-eqb who who refl, tt)

pub back_of : (who : ℕ) (letters : List ℕ) (cause : Cause) → AreTasksOf who (hear_tasks who letters ++ Do who cause ∷ [])
back_of who letters cause = of_both who (hear_tasks who letters) (Do who cause ∷ []) (hears_of who letters) (tick_of who cause)

pub round_tasks_of : (window : Window) (at : ℤ) (situation : Situation) (who : ℕ) → AreTasksOf who (tasks_of window at situation who)
round_tasks_of window at situation who = elim (cases_Bool (situation.standing.runs who)) [
  | inl runs ↦ rw runs (of_both who (answer_tasks who (situation.standing.waits who)) (hear_tasks who (situation.mails who) ++ Do who (Tick (clock_reading window at (situation.skews who))) ∷ [])
      (answers_of who (situation.standing.waits who)) (back_of who (situation.mails who) (Tick (clock_reading window at (situation.skews who)))))
  | inr stopped ↦ rw stopped tt
]

-- steps of one replica are steps of replicas below a number
abbrev AllDo : ℕ → List Task → Type 0
AllDo who [] = ⊤
AllDo who (Do other cause ∷ tasks) = (other ≡ who) × AllDo who tasks
AllDo who (task ∷ tasks) = ⊥

do_both : (who : ℕ) (one two : List Task) → AllDo who one → AllDo who two → AllDo who (one ++ two)
do_both who [] two a b = b
do_both who (Do other cause ∷ one) two a b = (a.0, do_both who one two a.1 b)
do_both who (Stop other ∷ one) two a b = absurd a
do_both who (Restart other ∷ one) two a b = absurd a
do_both who (Arrive late ∷ one) two a b = absurd a

do_answers : (who : ℕ) (waits : Option SchedRow) → AllDo who (answer_tasks who waits)
do_answers who None = tt
do_answers who (Some row) = (refl, tt)

do_hears : (who : ℕ) (letters : List ℕ) → AllDo who (hear_tasks who letters)
do_hears who [] = tt
do_hears who (letter ∷ letters) = (refl, do_hears who letters)

do_round : (window : Window) (at : ℤ) (situation : Situation) (who : ℕ) → AllDo who (tasks_of window at situation who)
do_round window at situation who = elim (cases_Bool (situation.standing.runs who)) [
  | inl runs ↦ rw runs (do_both who (answer_tasks who (situation.standing.waits who)) (hear_tasks who (situation.mails who) ++ Do who (Tick (clock_reading window at (situation.skews who))) ∷ [])
      (do_answers who (situation.standing.waits who))
      (do_both who (hear_tasks who (situation.mails who)) (Do who (Tick (clock_reading window at (situation.skews who))) ∷ []) (do_hears who (situation.mails who)) (refl, tt)))
  | inr stopped ↦ rw stopped tt
]

below_both : (count : ℕ) (one two : List Task) → AreBelow count one → AreBelow count two → AreBelow count (one ++ two)
below_both count [] two a b = b
below_both count (Do who cause ∷ one) two a b = (a.0, below_both count one two a.1 b)
below_both count (Stop who ∷ one) two a b = absurd a
below_both count (Restart who ∷ one) two a b = absurd a
below_both count (Arrive late ∷ one) two a b = absurd a

below_of : (who count : ℕ) (tasks : List Task) → who < count → AllDo who tasks → AreBelow count tasks
below_of who count [] less all = tt
below_of who count (Do other cause ∷ tasks) less all = (let same = all.0 in omega (arith, same, less), below_of who count tasks less all.1)
below_of who count (Stop other ∷ tasks) less all = absurd all
below_of who count (Restart other ∷ tasks) less all = absurd all
below_of who count (Arrive late ∷ tasks) less all = absurd all

-- the tasks of so many replicas from a number on
below_range : (window : Window) (at : ℤ) (situation : Situation) (first count limit : ℕ) → first + count ≤ limit → AreBelow limit (flat_map (tasks_of window at situation) (range_with_len first count))
below_range window at situation first zero limit less = tt
below_range window at situation first (suc count) limit less =
    below_both limit (tasks_of window at situation first) (flat_map (tasks_of window at situation) (range_with_len (first + 1) count))
    (below_of first limit (tasks_of window at situation first) (omega (arith, less)) (do_round window at situation first))
    (below_range window at situation (first + 1) count limit (omega (arith, less)))

pub round_below : (window : Window) (at : ℤ) (situation : Situation) (count : ℕ) → AreBelow count (flat_map (tasks_of window at situation) (range_with_len 0 count))
round_below window at situation count = below_range window at situation 0 count count (omega arith)

-- ---- turns of lanes, in which no disk is armed

pub plain_turns : (n members : ℕ) (situation : Situation) (tasks : List Task) (rows : List Row) → ((who : ℕ) → who < members → situation.arms who ≡ None) → AreBelow members tasks
    → AreTurnsFor n situation tasks rows → AreTurnsByArms n situation tasks rows
plain_turns n members situation [] [] none below turns = refl
plain_turns n members situation [] (row ∷ rows) none below turns = absurd cc
plain_turns n members situation (task ∷ tasks) [] none below turns = absurd cc
plain_turns n members situation (Do who cause ∷ tasks) (row ∷ rows) none below turns =
    let taken : TakesStep n situation who cause row = record {
      does = turns.0;
      saved = subst (λ armed. IsEnough armed (changes_in n situation.standing row.turn row.event)) (sym (none who below.0)) tt;
    } in
    let unarmed : (other : ℕ) → other < members → (after_turn n situation row).arms other ≡ None =
    λ other less.
    ap (λ (turn : Turn). arms_after turn (changes_in n situation.standing row.turn row.event) situation.arms other) turns.0.is
    ∙ elim (cases_Bool (other == who)) [
      | inl same ↦ rw same (ap (armed_after (changes_in n situation.standing row.turn row.event)) (none who below.0))
      | inr differs ↦ rw differs (none other less)
    ] in (
      inl taken,
      subst (λ left. AreTurnsByArms n (after_turn n situation row) left rows) (ap (λ (turn : Turn). tasks_left turn tasks) (sym turns.0.is))
          (plain_turns n members (after_turn n situation row) tasks rows unarmed below.1 turns.1),
    )
plain_turns n members situation (Stop who ∷ tasks) (row ∷ rows) none below turns = absurd below
plain_turns n members situation (Restart who ∷ tasks) (row ∷ rows) none below turns = absurd below
plain_turns n members situation (Arrive late ∷ tasks) (row ∷ rows) none below turns = absurd below

-- A book of one replica that obeys a script with a round: it settles, launches, and walks to the next minute, where it launches again.
use Rattle.std.proofs.Common.{◌≡◌, ℕ, ◌<◌, ◌≤◌, ℤ, pos, ◌-ℤ◌, ◌<ℤ◌, None, List, [], ◌∷◌, ◌++◌, length, refl, sym, ap, ◌∙◌, arith, subst, append-nil, append_assoc, lit<}
use Rattle.std.specs.Int.{int_min}
use Rattle.std.proofs.lemmas.Int.{ints, clamps}
use Rattle.std.proofs.lemmas.List.{length-append}
use Rattle.due_set.specs.Table.{IsJobDue, IsSound, Table}
use Rattle.script_text.specs.declared.command.Command.{Command}
use Rattle.script_text.specs.declared.command.Command.TheVariants as command
use Rattle.cluster_sched.specs.declared.row.SchedRow.{SchedRow}
use Rattle.step_spec.specs.State.{State}
use Rattle.history.specs.Book.{Row}
use Rattle.history.specs.Legal.{IsLegal}
use Rattle.history.specs.declared.turn.Cause.TheVariants.{Campaign}
use Rattle.launch_safety.proofs.Alone.{leading}
use Rattle.script_semantics.specs.Parts.{Then}
use Rattle.script_semantics.specs.Round.{round_tasks}
use Rattle.script_semantics.specs.Script.{ArePartsOf, Obeys}
use Rattle.script_semantics.specs.Settling.{IsNextMinute, Settles, Walks, WalksIn, WalksOn, cleared, restart_tasks}
use Rattle.script_semantics.specs.Situation.{Situation, Task, Do, first_situation}
use Rattle.script_semantics.proofs.ArmsLemmas.{performs_unarmed}
use Rattle.script_semantics.proofs.TurnLemmas.{as_many}
use Rattle.run_outcome.specs.Readings.{IsGraceLong, script_turns}
use Rattle.launch_safety.specs.Readings.{AreTurnsBy}
use Rattle.run_outcome.proofs.DrainLemmas.{KeepsTime, played, round_by}
use Rattle.run_outcome.proofs.PartLemmas.{Comes, latest_by, performs, rises}
use Rattle.run_outcome.proofs.SomeMoves.{Has, call_row, leads, new, waits_still}
use Rattle.run_outcome.proofs.SomeRounds.{Launched, Performed, Rounded, launches, performs_none, performs_one, tick_tasks, ticks, wants_start}
use Rattle.run_outcome.proofs.SomeTable.{brief, due, minute, sound}

abbrev begun : Situation
begun = first_situation 1 brief

begun_has : Has [] begun new [] None
begun_has = record {
  legal = λ number row is. absurd cc;
  of_book = refl;
  state_is = refl;
  runs = refl;
  held_are = refl;
  waits_is = refl;
  posted_are = refl;
  mails_are = λ who. refl;
  right = λ who. refl;
  done = λ who. refl;
}

-- ---- the script

abbrev some_script : List Command
some_script = command.Round (record { 0 = minute 0 }) 1 ∷ []

ticked : Rounded [] begun 0 new [] None
ticked = ticks [] begun 0 new new [] [] None (lit< tt) waits_still begun_has

scripted : ArePartsOf 1 brief some_script begun ticked.rows ticked.after
scripted = record {
  front = ticked.rows;
  middle = ticked.after;
  back = [];
  parts = sym (append-nil ticked.rows);
  one = record {
    front = ticked.rows;
    middle = ticked.after;
    back = [];
    parts = sym (append-nil ticked.rows);
    one = performs_unarmed 1 (round_tasks 1 brief.window (minute 0) begun) begun ticked.after ticked.rows (λ who. refl) ticked.performs;
    two = record { none = refl; is = refl };
  };
  two = record { none = refl; is = refl };
}

has_turns : 0 < length ticked.rows
has_turns =
    let count = as_many 1 begun (round_tasks 1 brief.window (minute 0) begun) ticked.rows ticked.performs.turns in
    let one : length (round_tasks 1 brief.window (minute 0) begun) ≡ 1 = ap (λ (tasks : List Task). length tasks) (tick_tasks [] begun new [] 0 (lit< tt) begun_has) in
    omega (arith, count, one)

timely : KeepsTime (minute 0) ticked.rows ticked.after
timely =
    played 1 (minute 0) (round_tasks 1 brief.window (minute 0) begun) begun ticked.rows ticked.after
    (round_by 1 brief.window (minute 0) (minute 0) begun (λ who. refl) (omega (arith, ints)) (omega (arith, ints))) (λ who. refl) ticked.performs

latest : ticked.after.latest ≡ minute 0
latest =
    let comes : Comes 1 begun ticked.rows ticked.after = performs 1 (round_tasks 1 brief.window (minute 0) begun) begun ticked.rows ticked.after ticked.performs in
    let low = latest_by (minute 0) (minute 0) ticked.rows timely.by (omega (arith, ints)) in
    let high = rises (minute 0) ticked.rows in
    comes.latest ∙ omega (arith, ints, low, high)

-- ---- settling

cleared_has : (book : List Row) (situation : Situation) (state : State) (held : List SchedRow) → Has book situation state held None → Has book (cleared situation) state held None
cleared_has book situation state held has = record {
  legal = has.legal;
  of_book = has.of_book;
  state_is = has.state_is;
  runs = has.runs;
  held_are = has.held_are;
  waits_is = has.waits_is;
  posted_are = has.posted_are;
  mails_are = λ who. refl;
  right = λ who. refl;
  done = λ who. refl;
}

none_stopped : restart_tasks 1 ticked.after ≡ []
none_stopped = rw (ticked.has.runs) refl

restarted : Performed ticked.rows ticked.after (restart_tasks 1 ticked.after) new [] None
restarted = subst (λ tasks. Performed ticked.rows ticked.after tasks new [] None) (sym none_stopped) (performs_none ticked.rows ticked.after new [] None ticked.has)

led : Performed (ticked.rows ++ restarted.rows) (cleared restarted.after) (Do 0 Campaign ∷ []) (leading brief [] []) [] None
led =
    performs_one (ticked.rows ++ restarted.rows) (cleared restarted.after) Campaign new (leading brief [] []) [] [] None None leads
    (cleared_has (ticked.rows ++ restarted.rows) restarted.after new [] restarted.has)

first : Launched ((ticked.rows ++ restarted.rows) ++ led.rows) led.after 0 []
first = launches ((ticked.rows ++ restarted.rows) ++ led.rows) led.after 0 [] [] [] (lit< tt) refl refl refl led.has

abbrev settling_rows : List Row
settling_rows = restarted.rows ++ (led.rows ++ first.drained.rows)

settles : Settles 1 brief (minute 0) ticked.after settling_rows first.drained.after
settles = record {
  front = restarted.rows;
  middle = cleared restarted.after;
  back = led.rows ++ first.drained.rows;
  parts = refl;
  one = record {
    front = restarted.rows;
    middle = restarted.after;
    back = [];
    parts = sym (append-nil restarted.rows);
    one = restarted.performs;
    two = record { none = refl; is = refl };
  };
  two = record {
    front = led.rows;
    middle = led.after;
    back = first.drained.rows;
    parts = refl;
    one = led.performs;
    two = (3, first.drained.drains);
  };
}

-- ---- walking

abbrev settled_book : List Row
settled_book = ((ticked.rows ++ restarted.rows) ++ led.rows) ++ first.drained.rows

second : Launched settled_book first.drained.after 1 (call_row 0 ∷ [])
second = launches settled_book first.drained.after 1 first.votes first.entries (call_row 0 ∷ []) (lit< tt) first.short first.applied refl first.drained.has

abbrev last : ℤ
last = brief.window.until.0 -ℤ pos 1

next_minute : IsNextMinute brief (first.drained.after.standing.replicas 0) (minute 0) last (minute 1)
next_minute = record {
  later = omega (arith, ints);
  within = omega (arith, ints);
  asks = wants_start settled_book first.drained.after 1 first.votes first.entries (call_row 0 ∷ []) None (lit< tt) first.drained.has first.applied;
  least = λ other later sooner. absurd (omega (arith, ints, later, sooner));
}

walks_on : WalksIn 1 1 brief 0 (minute 0) last first.drained.after second.drained.rows second.drained.after
walks_on = (
  minute 1,
  next_minute,
  record {
    front = second.drained.rows;
    middle = second.drained.after;
    back = [];
    parts = sym (append-nil second.drained.rows);
    one = (3, second.drained.drains);
    two = record { is_quiet = λ other later within. absurd (omega (arith, ints, later, within)); stays = record { none = refl; is = refl } };
  },
)

walks_from : Then (Settles 1 brief (minute 0)) (WalksOn 1 brief 0 (minute 0) last) ticked.after (settling_rows ++ second.drained.rows) second.drained.after
walks_from = record {
  front = settling_rows;
  middle = first.drained.after;
  back = second.drained.rows;
  parts = refl;
  one = settles;
  two = (1, walks_on);
}

walks : Walks 1 brief last ticked.after (settling_rows ++ second.drained.rows) second.drained.after
walks =
    let at : int_min ticked.after.latest last ≡ minute 0 = (let reading = latest in omega (arith, ints, clamps, reading)) in
    subst (λ some. Then (Settles 1 brief some) (WalksOn 1 brief 0 some last) ticked.after (settling_rows ++ second.drained.rows) second.drained.after) (sym at) walks_from

abbrev some_rows : List Row
some_rows = ticked.rows ++ (settling_rows ++ second.drained.rows)

obeyed : Obeys 1 brief some_script some_rows
obeyed = record {
  after = second.drained.after;
  obeys = record {
    front = ticked.rows;
    middle = ticked.after;
    back = settling_rows ++ second.drained.rows;
    parts = refl;
    one = scripted;
    two = walks;
  };
}

-- the rows, in one order of brackets and the other
one_book : settled_book ++ second.drained.rows ≡ some_rows
one_book =
    ap (λ rows. rows ++ second.drained.rows)
    (append_assoc (ticked.rows ++ restarted.rows) led.rows first.drained.rows ∙ append_assoc ticked.rows restarted.rows (led.rows ++ first.drained.rows))
    ∙ append_assoc ticked.rows settling_rows second.drained.rows

is_legal : IsLegal 1 brief some_rows
is_legal = subst (λ rows. IsLegal 1 brief rows) one_book second.drained.has.legal

-- ---- how long it is

few_rows : length some_rows ≤ 100
few_rows =
    let whole = length-append ticked.rows (settling_rows ++ second.drained.rows) in
    let walk = length-append settling_rows second.drained.rows in
    let settling = length-append restarted.rows (led.rows ++ first.drained.rows) in
    let campaign = length-append led.rows first.drained.rows in
    let a = ticked.few in
    let b = restarted.few in
    let c = led.few in
    let d = first.drained.few in
    let e = second.drained.few in
    omega (arith, whole, walk, settling, campaign, a, b, c, d, e)

-- it has few turns, and posts no letter; its table has one version
pub some_walk : (table : Table) × (script : List Command) × (rows : List Row) × (obeyed : Obeys 1 table script rows) × (job : ℕ) × (at : ℤ) × (later : ℤ)
    × IsSound table × IsLegal 1 table rows × IsGraceLong table × IsJobDue table 0 job at × IsJobDue table 0 job later × (at <ℤ later)
    × AreTurnsBy at (script_turns obeyed) × (0 < length (script_turns obeyed)) × (length rows ≤ 100) × (obeyed.after.standing.posted ≡ [])
    × (table.later ≡ [])
unfolding obeyed
some_walk = (
  brief,
  some_script,
  some_rows,
  obeyed,
  0,
  minute 0,
  minute 1,
  sound,
  is_legal,
  omega (arith, ints),
  due 0 (lit< tt),
  due 1 (lit< tt),
  omega (arith, ints),
  timely.by,
  has_turns,
  few_rows,
  second.drained.has.posted_are,
  refl,
)

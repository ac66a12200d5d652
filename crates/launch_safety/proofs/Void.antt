-- A legal book in which a launch is called in time and the call goes late, is called again too late and held as a void, and the late
-- call arrives behind the void.
use Rattle.std.proofs.Common.{◌≡◌, Option, Some, None, List, [], ◌∷◌, ◌++◌, refl, sym, ap, arith, subst, lit<, ◌↔◌}
use Rattle.std.specs.List.{Contains, slice_get}
use Rattle.std.proofs.lemmas.Int.{ints}
use Rattle.paxos_base.specs.declared.entry.Entry.{Entry}
use Rattle.paxos_base.specs.declared.entry.Kind.TheVariants.{Launch, Void}
use Rattle.paxos_base.specs.declared.entry.Vote.{Vote}
use Rattle.jiff.specs.Types.{TimeZone}
use Rattle.cron_fields.specs.declared.field.Fields.{Fields}
use Rattle.due_set.specs.Calls.{HasCome, IsOnTime}
use Rattle.due_set.specs.Table.{IsJobIn, IsSound, Job, Table}
use Rattle.due_set.specs.declared.job.JobKind.TheVariants.{Crontab}
use Rattle.paxos_base.specs.Vote.{put_vote}
use Rattle.paxos_base.specs.declared.entry.Entry.TheVariants as entry
use Rattle.cluster_sched.specs.declared.fate.Fate.TheVariants.{Done, Late}
use Rattle.cluster_sched.specs.declared.row.SchedRow.{SchedRow}
use Rattle.launch_machine.specs.Answers.{IsCallKind, IsIntent}
use Rattle.launch_machine.specs.Clerk.{AppliesAll, first_rows}
use Rattle.launch_machine.specs.declared.machine.Intent.TheVariants as intent
use Rattle.step_spec.proofs.Lists.{nothing_in}
use Rattle.history.specs.Book.{Row}
use Rattle.history.specs.Legal.{IsLegal}
use Rattle.history.proofs.Asks.{busy, call_asked, idle, in_window, is_open_then, minute, opened, sound, start_applies, start_asked, start_entry, with_table}
use Rattle.history.proofs.Turns.{Book}
use Rattle.launch_safety.specs.Parts.{ArrivesTooLate}
use Rattle.launch_safety.proofs.Alone.{Stands, arrive, calls, end, leading, led, start, vote}
use Rattle.launch_safety.proofs.Ended.{ends_alone}
use Rattle.due_set.proofs.Rising.{Contains-head as in_first}

-- the job, where there is one, is an entry of a crontab
abbrev IsCrontab : Option Job → Type 0
IsCrontab None = Unit {0}
IsCrontab (Some job) = (fields : Fields) × (job.kind ≡ Crontab fields)

by_fields : (spec : Job) (zone : TimeZone) → IsJobIn busy 0 0 spec zone → (fields : Fields) × (spec.kind ≡ Crontab fields)
by_fields spec zone is_in = subst IsCrontab is_in.is_job (_, refl)

-- a minute later the launch is no longer on time
void_kind : IsCallKind busy 0 0 (minute 0) (minute 1) Void
void_kind spec zone is_in =
    subst (λ kind. (Void ≡ Launch) ↔ IsOnTime kind zone 0 (minute 0) (minute 1)) (sym (by_fields spec zone is_in).1)
    ((λ wrong. absurd cc), (λ on_time. absurd (omega (arith, ints, on_time))))

void_asked : IsIntent busy (with_table (opened 0)) (minute 1) (intent.Call 0 (minute 0) Void)
void_asked =
    let asked = (call_asked 0).0.may in (
      record {
        may = record {
          known = lit< tt;
          row = opened 0;
          is_row = refl;
          since = minute 0;
          is_open = refl;
          cursor = refl;
          spec = asked.spec;
          zone = asked.zone;
          is_in = asked.is_in;
          come = subst (λ kind. HasCome kind asked.zone (minute 0) (minute 1)) (sym (by_fields asked.spec asked.zone asked.is_in).1) (omega (arith, ints));
        };
        first = λ before other less may. absurd (omega (arith, less));
      },
      void_kind,
    )

abbrev launch : SchedRow
launch = record { name = record { job = 0; at = minute 0 }; kind = Launch; now = record { 0 = minute 0 }; by = 0 }

abbrev void : SchedRow
void = record { name = record { job = 0; at = minute 0 }; kind = Void; now = record { 0 = minute 1 }; by = 0 }

abbrev started : List Entry
started = start_entry 0 ∷ []

applied : AppliesAll busy (first_rows busy) started (with_table (opened 0))
applied = (with_table (opened 0), start_applies 0 (lit< tt), refl)

abbrev start_vote : List Vote
start_vote = put_vote (vote 0 (start_entry 0)) []

called : Book 1 busy (Stands (leading busy start_vote started) [] (launch ∷ []) [] None)
called =
    calls busy start_vote started [] [] [] None (with_table (opened 0)) 0 (minute 0) (minute 0) Launch Late None (lit< tt) (in_window 0 (lit< tt)) applied (call_asked 0) refl
    (start busy [] [] [] [] [] None (with_table (idle 0)) 0 (minute 0) (minute 0) (lit< tt) (in_window 0 (lit< tt)) refl (start_asked 0 (lit< tt)) (led busy))

voided : Book 1 busy (Stands (leading busy start_vote started) (void ∷ []) (launch ∷ []) [] (Some void))
voided =
    calls busy start_vote started [] (launch ∷ []) [] None (with_table (opened 0)) 0 (minute 0) (minute 1) Void Done (Some void) (lit< tt) (in_window 1 (lit< tt)) applied void_asked refl called

came : Book 1 busy (Stands (leading busy start_vote started) (void ∷ []) (launch ∷ []) (0 ∷ []) (Some void))
came = arrive busy (leading busy start_vote started) (void ∷ []) (launch ∷ []) [] (Some void) 0 launch refl (λ has. nothing_in has) voided

abbrev void_entry : Entry
void_entry = entry.End 0 (minute 0) Void

ended : Book 1 busy (Stands (leading busy (put_vote (vote 1 void_entry) start_vote) (started ++ void_entry ∷ [])) (void ∷ []) (launch ∷ []) (0 ∷ []) None)
ended = end busy start_vote started (void ∷ []) (launch ∷ []) (0 ∷ []) void (with_table (opened 0)) applied (is_open_then 0) came

pub too_late : (table : Table) × (book : List Row) × IsSound table × IsLegal 1 table book × ArrivesTooLate 1 table book
too_late = (
  busy,
  ended.rows,
  sound,
  ended.legal,
  record {
    call = launch;
    number = 0;
    late = ap (λ some. slice_get some 0) ended.holds.late_are;
    arrived = subst (λ some. Contains some 0) (sym ended.holds.arrived_are) (in_first 0 []);
    in_time = refl;
    void = ends_alone busy _ (started ++ void_entry ∷ []) (void ∷ []) (launch ∷ []) (0 ∷ []) None started [] 0 (minute 0) Void refl ended;
  },
)

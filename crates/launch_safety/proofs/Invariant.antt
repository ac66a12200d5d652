-- What holds after each turn of a legal book, of its log, its votes, and what stands.
use Rattle.std.proofs.Common.{◌≡◌, ℕ, ◌≤◌, Some, None, List, [], ◌++◌, length, take, ℤ, sym, arith, subst, length-append}
use Rattle.std.specs.List.{Contains}
use Rattle.std.proofs.lemmas.List.{take-append-le}
use Rattle.std.proofs.lemmas.List.Elements.{Contains-append_left}
use Rattle.paxos_base.specs.declared.entry.Entry.{Entry}
use Rattle.paxos_base.specs.declared.entry.Entry.TheVariants.{Noop, Start, End, Table as TableEntry}
use Rattle.paxos_base.specs.declared.entry.Kind.{Kind}
use Rattle.due_set.specs.Table.{Table}
use Rattle.cluster_sched.specs.Held.{AreNamedOnce}
use Rattle.cluster_sched.specs.declared.row.SchedRow.{SchedRow}
use Rattle.launch_machine.specs.Clerk.{first_rows}
use Rattle.launch_safety.specs.Fits.{IsBacked, IsHeld, TakesEffectAfter}
use Rattle.step_spec.proofs.Lists.{nothing_in}
use Rattle.agreement.specs.World.{CastVote}
use Rattle.history.specs.Book.{Standing, first_standing}
use Rattle.launch_safety.specs.Fitting.{TakesEffectAt}

-- an end says the kind of a row that is held under its launch's name
abbrev pub SaysHeld : List SchedRow → Entry → Type 0
SaysHeld held Noop = Unit {0}
SaysHeld held (TableEntry version now) = Unit {0}
SaysHeld held (Start job at now) = Unit {0}
SaysHeld held (End job at kind) = IsHeld held job at kind

-- No launch is held twice. Each row that is held, or that is late, is backed by the log. An answer that waits is held. And each
-- vote that was cast is for an entry that says what is held, and that takes effect at its slot.
pub record Fitting (table : Table) (log : List Entry) (votes : List CastVote) (standing : Standing) : Type 0 where
  pub once : AreNamedOnce standing.held
  pub held : (row : SchedRow) → Contains standing.held row → IsBacked table log row
  pub late : (row : SchedRow) → Contains standing.late row → IsBacked table log row
  pub waits : (who : ℕ) (row : SchedRow) → standing.waits who ≡ Some row → Contains standing.held row
  pub says : (cast : CastVote) → Contains votes cast → SaysHeld standing.held cast.vote.entry
  pub works : (cast : CastVote) → Contains votes cast → TakesEffectAt table log cast.vote.slot cast.vote.entry

pub first_fitting : (n : ℕ) (table : Table) (log : List Entry) → Fitting table log [] (first_standing n (first_rows table))
first_fitting n table log = record {
  once = λ i j d lt within. absurd (omega (arith, within));
  held = λ row has. nothing_in has;
  late = λ row has. nothing_in has;
  waits = λ who row is. absurd (let none : None ≡ Some row = is in cc);
  says = λ cast has. nothing_in has;
  works = λ cast has. nothing_in has;
}

-- ---- what stays

pub held_more : (held more : List SchedRow) (job : ℕ) (at : ℤ) (kind : Kind) → IsHeld held job at kind → IsHeld (held ++ more) job at kind
held_more held more job at kind known = record {
  row = known.row;
  among = Contains-append_left held more known.row known.among;
  of_job = known.of_job;
  due_at = known.due_at;
  of_kind = known.of_kind;
}

pub says_more : (held more : List SchedRow) (entry : Entry) → SaysHeld held entry → SaysHeld (held ++ more) entry
says_more held more Noop says = tt
says_more held more (TableEntry version now) says = tt
says_more held more (Start job at now) says = tt
says_more held more (End job at kind) says = held_more held more job at kind says

front_longer : (log more : List Entry) (slot : ℕ) → slot ≤ length log → slot ≤ length (log ++ more)
front_longer log more slot short = let long = length-append log more in omega (arith, short, long)

after_more : (table : Table) (log more : List Entry) (slot : ℕ) (entry : Entry) → slot ≤ length log → TakesEffectAfter table (take slot log) entry
    → TakesEffectAfter table (take slot (log ++ more)) entry
after_more table log more slot entry short takes =
    subst (λ front. TakesEffectAfter table front entry) (sym (take-append-le slot log more short)) takes

pub works_more : (table : Table) (log more : List Entry) (slot : ℕ) (entry : Entry) → TakesEffectAt table log slot entry → TakesEffectAt table (log ++ more) slot entry
works_more table log more slot Noop works = tt
works_more table log more slot (Start job at now) (short, takes) =
    (front_longer log more slot short, after_more table log more slot (Start job at now) short takes)
works_more table log more slot (End job at kind) (short, takes) =
    (front_longer log more slot short, after_more table log more slot (End job at kind) short takes)
works_more table log more slot (TableEntry version now) (short, takes) =
    (front_longer log more slot short, after_more table log more slot (TableEntry version now) short takes)

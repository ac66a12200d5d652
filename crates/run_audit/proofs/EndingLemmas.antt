-- What a text comes to that a script is played by: a journal, or a line at fault.
use Rattle.std.proofs.Common.{◌≡◌, ◌⊎◌, ◌==◌, ℕ, suc, ◌+◌, ◌<◌, ◌≤◌, Bool, List, [], ◌++◌, eq-eqb, inl, inr, length, refl, Result, Ok, Err, Some, ap, sym, subst, ◌∙◌, arith, codes, decimal}
use Rattle.std.specs.Prelude.{⊤, IfErr, IsErrAnd, OnOk, slice_get, if◌then◌else◌, ℤ, ◌-ℤ◌, pos}
use Rattle.std.proofs.lemmas.Bool.{cases_Bool, eqb-true}
use Rattle.zone_minutes.specs.Window.{IsWithinLimits}
use Rattle.due_set.specs.Table.{Table}
use Rattle.job_table.specs.Names.{HaveWordNames}
use Rattle.script_semantics.specs.Script.{IsPartOf}
use Rattle.script_semantics.specs.Situation.{first_situation}
use Rattle.run_replay.specs.Replay.{IsReplayAt}
use Rattle.run_replay.specs.declared.replay.Replay.{Replay}
use Rattle.run_audit.proofs.PlayedLemmas.{command_played, command_stops, first_stops, head_stops}
use Rattle.run_audit.proofs.ScriptLemmas.{HasComeTo}
use Rattle.script_semantics.specs.Settling.{Walks}
use Rattle.run_audit.proofs.WalkedLemmas.{HasWalked, end_stops, is_journal, last_stops, walk_played, walk_stops}
use Rattle.run_audit.specs.Begins.{BeginsPart, BeginsWalk}
use Rattle.run_audit.specs.Headings.{HasPlayedBehind, PassesLine, StopsAtEnding, StopsAtHeading, StopsBefore, StopsBehindHeading, StopsLate}
use Rattle.run_audit.specs.declared.lines.Rest.{Rest}
use Rattle.script_text.specs.declared.command.Command.{Command}
use Rattle.journal_text.specs.Journal.{part_head}
use Rattle.run_audit.specs.Played.{PlaysScript}
use Rattle.run_audit.specs.Verdict.{IsAtFault}
use Rattle.run_audit.specs.declared.verdict.Stop.{Stop}
use Rattle.run_audit.specs.declared.verdict.Stop.TheVariants.{At, OutOfMemory}

-- the line before the part of a command, and before the walk
pub head_command : (parts place : ℕ) → suc place < parts → codes "command " ++ decimal (place + 1) ≡ part_head parts place
head_command parts place below = elim (cases_Bool (suc place == parts)) [
  | inl same ↦ absurd (let is : suc place ≡ parts = eqb-true (suc place) parts same in omega (arith, is, below))
  | inr differs ↦ ap (λ n. codes "command " ++ decimal n) (let one : place + 1 ≡ suc place = omega arith in one) ∙ sym (ap (λ (b : Bool). codes "command " ++ (if b then codes "end" else decimal (suc place))) differs)
]

pub head_walk : (place : ℕ) → codes "command end" ≡ part_head (suc place) place
head_walk place = sym (ap (λ (b : Bool). codes "command " ++ (if b then codes "end" else decimal (suc place))) (eq-eqb (suc place) (suc place) refl))

-- a line at fault, or want of memory
abbrev pub IsFaultBy : ℕ → Table → List Command → List ℕ → Stop → Type 0
IsFaultBy members table script text (At number why) = IsAtFault members table script text number why
IsFaultBy members table script text OutOfMemory = ⊤

pub plays_fault : (table : Table) (script : List Command) (text : List ℕ) (old new : Replay) (result : Result ⊤ Stop) (stop : Stop) → IsErrAnd result (λ found. found ≡ stop)
    → IsFaultBy old.book.members table script text stop → PlaysScript table script text old new result
plays_fault table script text old new (Ok done) stop is fault = absurd is
plays_fault table script text old new (Err found) stop is fault = by found (subst (IsFaultBy old.book.members table script text) (sym is) fault)
  where
    by : (given : Stop) → IsFaultBy old.book.members table script text given → PlaysScript table script text old new (Err given)
    by (At number why) fault = fault
    by OutOfMemory fault = tt

-- the part of a command stops, or the line before it isn't there
pub command_fault : (members : ℕ) (table : Table) (script : List Command) (few : members ≤ 7) (limits : IsWithinLimits table.window) (names : HaveWordNames table.jobs) (text : List ℕ) (place : ℕ) (replay : Replay)
    (rest : Rest) (come : HasComeTo members table script text place replay rest) (inside : place < length script) (command : Command) → slice_get script place ≡ Some command → (stop : Stop)
    → StopsAtHeading table (codes "command " ++ decimal (place + 1)) replay rest stop
    ⊎ StopsBehindHeading table (codes "command " ++ decimal (place + 1)) (BeginsPart replay.book.members table command) (IsPartOf replay.book.members table command) replay rest stop
    → IsFaultBy members table script text stop
command_fault members table script few limits names text place replay rest come inside command there OutOfMemory either = tt
command_fault members table script few limits names text place replay rest come inside command there (At number why) (inl stops) =
    head_stops members table script few limits names text place replay rest come (omega (arith, inside)) number why
    (subst (λ line. StopsBefore table line replay rest number why) (head_command (suc (length script)) place (omega (arith, inside))) stops)
command_fault members table script few limits names text place replay rest come inside command there (At number why) (inr stops) =
    command_stops members table script few limits names text place replay rest come (omega (arith, inside)) command number why there
    (subst (λ line. StopsBehindHeading table line (BeginsPart replay.book.members table command) (IsPartOf replay.book.members table command) replay rest (At number why))
    (head_command (suc (length script)) place (omega (arith, inside))) stops)

-- it is whole
pub command_on : (members : ℕ) (table : Table) (script : List Command) (few : members ≤ 7) (limits : IsWithinLimits table.window) (names : HaveWordNames table.jobs) (text : List ℕ) (place : ℕ) (replay : Replay)
    (rest : Rest) (come : HasComeTo members table script text place replay rest) (inside : place < length script) (command : Command) (new : Replay) (behind : Rest) → slice_get script place ≡ Some command
    → HasPlayedBehind table (codes "command " ++ decimal (place + 1)) (IsPartOf replay.book.members table command) replay rest new behind → HasComeTo members table script text (place + 1) new behind
command_on members table script few limits names text place replay rest come inside command new behind there played =
    subst (λ (n : ℕ). HasComeTo members table script text n new behind) (omega arith)
    (command_played members table script few limits names text place replay rest come (omega (arith, inside)) command new behind there inside
    (subst (λ line. HasPlayedBehind table line (IsPartOf replay.book.members table command) replay rest new behind) (head_command (suc (length script)) place (omega (arith, inside))) played))

-- another line comes first, or none
pub first_fault : (table : Table) (script : List Command) (text : List ℕ) (replay : Replay) (start : Rest) (limits : IsWithinLimits table.window)
    (first : IsReplayAt table [] replay (first_situation replay.book.members table)) (all : start.text.now ≡ text) (one : start.number ≡ 1) (stop : Stop)
    → StopsAtHeading table (codes "cron journal 1") replay start stop → IsFaultBy replay.book.members table script text stop
first_fault table script text replay start limits first all one OutOfMemory stops = tt
first_fault table script text replay start limits first all one (At number why) stops = first_stops table script text replay replay start start limits first all one number why stops

-- the walk behind all parts stops, or the line before it isn't there; it is whole; and the last line isn't there
module _ (members : ℕ) (table : Table) (script : List Command) (few : members ≤ 7) (limits : IsWithinLimits table.window) (names : HaveWordNames table.jobs) (text : List ℕ) where
  abbrev to : ℤ
  to = table.window.until.0 -ℤ pos 1

  pub walk_fault : (replay : Replay) (rest : Rest) → HasComeTo members table script text (length script) replay rest → (stop : Stop)
      → StopsAtHeading table (codes "command end") replay rest stop
      ⊎ StopsBehindHeading table (codes "command end") (BeginsWalk replay.book.members table to) (Walks replay.book.members table to) replay rest stop → IsFaultBy members table script text stop
  walk_fault replay rest come OutOfMemory either = tt
  walk_fault replay rest come (At number why) (inl stops) =
      head_stops members table script few limits names text (length script) replay rest come (omega arith) number why
      (subst (λ line. StopsBefore table line replay rest number why) (head_walk (length script)) stops)
  walk_fault replay rest come (At number why) (inr stops) =
      walk_stops members table script few limits names text replay rest come number why
      (subst (λ line. StopsBehindHeading table line (BeginsWalk replay.book.members table to) (Walks replay.book.members table to) replay rest (At number why)) (head_walk (length script)) stops)

  pub walked : (replay : Replay) (rest : Rest) → HasComeTo members table script text (length script) replay rest → (new : Replay) (behind : Rest)
      → HasPlayedBehind table (codes "command end") (Walks replay.book.members table to) replay rest new behind → HasWalked members table script few limits names text new behind
  walked replay rest come new behind played =
      walk_played members table script few limits names text replay rest come new behind
      (subst (λ line. HasPlayedBehind table line (Walks replay.book.members table to) replay rest new behind) (head_walk (length script)) played)

  pub last_fault : (replay : Replay) (rest : Rest) → HasWalked members table script few limits names text replay rest → (stop : Stop) → StopsAtHeading table (codes "end") replay rest stop
      → IsFaultBy members table script text stop
  last_fault replay rest walk OutOfMemory stops = tt
  last_fault replay rest walk (At number why) stops = last_stops members table script few limits names text replay rest walk number why stops

-- what comes of the end of a text, behind its last line
pub end_comes : (old : Replay) (table : Table) (script : List Command) (few : old.book.members ≤ 7) (limits : IsWithinLimits table.window) (names : HaveWordNames table.jobs) (text : List ℕ)
    (replay now new : Replay) (rest behind : Rest) → HasWalked old.book.members table script few limits names text replay rest → PassesLine (codes "end") rest behind → now ≡ replay
    → (result : Result ⊤ Stop) → OnOk result (behind.text.now ≡ []) → OnOk result (new ≡ now) → IfErr result (StopsAtEnding table now behind) → PlaysScript table script text old new result
end_comes old table script few limits names text replay now new rest behind walk passes same (Ok done) ends stays stops = (
  walk.rows,
  walk.situation,
  subst (λ r. IsReplayAt table walk.rows r walk.situation) (sym (stays ∙ same)) walk.ready,
  is_journal old.book.members table script few limits names text replay rest walk behind passes ends,
)
end_comes old table script few limits names text replay now new rest behind walk passes same (Err (At number why)) ends stays stops =
    end_stops old.book.members table script few limits names text replay rest walk behind passes number why (subst (λ r. StopsLate table r behind number why) same stops)
end_comes old table script few limits names text replay now new rest behind walk passes same (Err OutOfMemory) ends stays stops = tt

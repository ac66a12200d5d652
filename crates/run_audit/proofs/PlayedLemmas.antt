-- What comes of the parts of a script that is played by the lines of a text: the next part, or a line at fault.
use Rattle.std.proofs.Common.{◌≡◌, ℕ, suc, ◌+◌, ◌<◌, ◌≤◌, List, [], ◌∷◌, inl, inr, length, take, Option, Some, ap, refl, sym, subst, ◌∙◌, arith, codes}
use Rattle.std.specs.Prelude.{slice_get}
use Rattle.zone_minutes.specs.Window.{IsWithinLimits}
use Rattle.due_set.specs.Table.{Table}
use Rattle.job_table.specs.Names.{HaveWordNames}
use Rattle.script_text.specs.declared.command.Command.{Command}
use Rattle.history.specs.Legal.{IsLegal}
use Rattle.script_semantics.specs.Script.{ArePartsOf, IsPartOf}
use Rattle.script_semantics.specs.Situation.{first_situation}
use Rattle.journal_text.specs.Journal.{part_head}
use Rattle.run_replay.specs.Replay.{IsReplayAt}
use Rattle.run_replay.specs.declared.replay.Replay.{Replay}
use Rattle.run_audit.proofs.ComeLemmas.{come_on, line_joined, part_stops}
use Rattle.run_audit.proofs.FaultLemmas.{fault_there}
use Rattle.run_audit.proofs.JournalLemmas.{lines_with}
use Rattle.run_audit.proofs.NextLemmas.{EndsPartOf, none_before, none_first, not_ended}
use Rattle.run_audit.proofs.ScriptLemmas.{HasComeTo}
use Rattle.run_audit.specs.Begins.{BeginsPart}
use Rattle.run_audit.specs.Headings.{HasPlayedBehind, PassesLine, StopsBefore, StopsBehindHeading}
use Rattle.run_audit.specs.Played.{IsNextReason, StopsMidway}
use Rattle.run_audit.specs.Sound.{BeginsPartOf}
use Rattle.run_audit.specs.Verdict.{IsAtFault}
use Rattle.run_audit.specs.declared.lines.Rest.{Rest}
use Rattle.run_audit.specs.declared.verdict.Stop.TheVariants.{At}
use Rattle.run_audit.specs.declared.verdict.Why.{Why}

module _ (members : ℕ) (table : Table) (script : List Command) (few : members ≤ 7) (limits : IsWithinLimits table.window) (names : HaveWordNames table.jobs) (text : List ℕ) (place : ℕ) (replay : Replay)
    (rest : Rest) (come : HasComeTo members table script text place replay rest) (low : place ≤ length script) where
  abbrev head : List ℕ
  head = part_head (suc (length script)) place

  legal_here : IsLegal members table come.rows
  legal_here = subst (λ (n : ℕ). IsLegal n table come.rows) come.members_are come.ready.behind.legal

  -- where the line before the next part isn't the next line, that is at fault
  pub head_stops : (number : ℕ) (why : Why) → StopsBefore table head replay rest number why → IsAtFault members table script text number why
  head_stops number why stops =
      fault_there members table script text (lines_with members table script come.rows come.starts) come.rows rest.text.now number
      (record {
        is = come.text_is;
        lack = come.lack;
        tell = inr (inl (record { legal = legal_here; starts = come.starts; obeys = come.obeys; are = refl }));
        ends = λ line behind first. come.other line (stops.other line behind first);
        none = λ ended others whole.
            not_ended members table script few limits come.rows come.starts legal_here come.obeys
            (let short = come.short in let count = come.number in let bound = come.few in omega (arith, short, count, bound)) others whole;
      })
      (stops.number_is ∙ come.number) why (subst (λ (n : ℕ). IsNextReason n table come.rows rest.text.now why) come.members_are (stops.reason come.rows come.situation come.ready))

  -- where the text stops within the next part, that line is at fault
  pub within_stops : (middle : Rest) (number : ℕ) (why : Why) → PassesLine head rest middle
      → StopsMidway members table (BeginsPartOf members table (slice_get script place)) (EndsPartOf members table (slice_get script place)) come.rows come.situation middle (number, why)
      → IsAtFault members table script text number why
  within_stops middle number why passes had =
      subst (λ (n : ℕ). IsAtFault members table script text n why) (sym had.line_is)
      (part_stops members table script few limits names text place replay rest middle come low passes had.part had.rest had.text_is why had.legal had.stops had.reason)

  -- **Where the part of a command stops, a line is at fault.**
  pub command_stops : (command : Command) (number : ℕ) (why : Why) → slice_get script place ≡ Some command
      → StopsBehindHeading table head (BeginsPart replay.book.members table command) (IsPartOf replay.book.members table command) replay rest (At number why)
      → IsAtFault members table script text number why
  command_stops command number why there stops =
      within_stops stops.middle number why stops.passes
      (subst (λ (c : Option Command). StopsMidway members table (BeginsPartOf members table c) (EndsPartOf members table c) come.rows come.situation stops.middle (number, why)) (sym there)
      (subst (λ (n : ℕ). StopsMidway n table (BeginsPart n table command) (IsPartOf n table command) come.rows come.situation stops.middle (number, why)) come.members_are
      (stops.stops come.rows come.situation come.ready)))

  -- **Where it is whole, the script has come to the next part.**
  pub command_played : (command : Command) (new : Replay) (behind : Rest) → slice_get script place ≡ Some command → place < length script
      → HasPlayedBehind table head (IsPartOf replay.book.members table command) replay rest new behind → HasComeTo members table script text (suc place) new behind
  command_played command new behind there inside played =
      let had = played.played.plays come.rows come.situation come.ready in
      come_on members table script few limits names text place replay rest played.middle come low played.passes had.part behind.text.now had.text_is command had.after new behind there inside
      (subst (λ (n : ℕ). IsPartOf n table command come.situation had.part had.after) come.members_are had.is) had.ready (played.played.members ∙ come.members_are) refl had.number played.played.few

-- ---- before the first part

module _ (table : Table) (script : List Command) (text : List ℕ) (replay now : Replay) (start rest : Rest) (limits : IsWithinLimits table.window)
    (first : IsReplayAt table [] replay (first_situation replay.book.members table)) (all : start.text.now ≡ text) (one : start.number ≡ 1) where
  -- **Behind the first line the script has come to the first part.**
  pub come_first : PassesLine (codes "cron journal 1") start rest → now ≡ replay → HasComeTo replay.book.members table script text 0 now rest
  come_first passes same = record {
    rows = [];
    starts = [];
    situation = first_situation replay.book.members table;
    ready = subst (λ (r : Replay). IsReplayAt table [] r (first_situation replay.book.members table)) (sym same) first;
    members_are = ap (λ (r : Replay). r.book.members) same;
    count = refl;
    obeys = record { few = omega arith; within = λ place d lt. absurd (omega (arith, lt)); rise = λ i j d lt below. absurd (omega (arith, below)); before = λ place lt. absurd (omega (arith, lt)); last = refl };
    before = none_taken script;
    text_is = sym all ∙ passes.first.parts ∙ line_joined [] (codes "cron journal 1") rest.text.now;
    lack = (passes.first.lacks, tt);
    short = omega arith;
    number = passes.number ∙ ap (λ n. n + 1) one;
    few = passes.few;
    other = λ line differs. none_before replay.book.members table script first.few limits line differs;
  }
    where
      none_taken : (commands : List Command) → ArePartsOf replay.book.members table (take 0 commands) (first_situation replay.book.members table) [] (first_situation replay.book.members table)
      none_taken [] = record { none = refl; is = refl }
      none_taken (given ∷ commands) = record { none = refl; is = refl }

  -- where the first line is another, it is at fault
  pub first_stops : (number : ℕ) (why : Why) → StopsBefore table (codes "cron journal 1") replay start number why → IsAtFault replay.book.members table script text number why
  first_stops number why stops =
      fault_there replay.book.members table script text [] [] start.text.now number
      (record {
        is = sym all;
        lack = tt;
        tell = inl (refl, refl);
        ends = λ line behind there. none_first replay.book.members table script first.few limits line (stops.other line behind there);
        none = λ ended others whole. (let same = whole.are in cc);
      })
      (stops.number_is ∙ one) why (stops.reason [] (first_situation replay.book.members table) first)

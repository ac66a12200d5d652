-- What comes of the walk behind a script that is played by the lines of a text, and of the last line.
use Rattle.std.proofs.Common.{◌≡◌, ℕ, suc, ◌+◌, ◌<◌, ◌≤◌, ◌^◌, List, [], ◌∷◌, ◌++◌, inl, inr, length, Option, None, ap, refl, sym, subst, ◌∙◌, arith, codes}
use Rattle.std.specs.Prelude.{ℤ, ◌-ℤ◌, pos, slice_get}
use Rattle.std.proofs.lemmas.List.{length-append, take_all}
use Rattle.std.proofs.lemmas.Option.{slice_get_past}
use Rattle.zone_minutes.specs.Window.{IsWithinLimits}
use Rattle.cron_io.specs.Lines.{text_of_lines}
use Rattle.due_set.specs.Table.{Table}
use Rattle.job_table.specs.Names.{HaveWordNames}
use Rattle.script_text.specs.declared.command.Command.{Command}
use Rattle.history.specs.Book.{Row}
use Rattle.history.specs.Legal.{IsLegal}
use Rattle.script_semantics.specs.Script.{ArePartsOf}
use Rattle.script_semantics.specs.Settling.{Walks}
use Rattle.script_semantics.specs.Situation.{Situation, first_situation}
use Rattle.script_semantics.specs.Starts.{BeginAt}
use Rattle.journal_text.specs.Journal.{part_head}
use Rattle.run_replay.specs.Replay.{IsReplayAt}
use Rattle.run_replay.specs.declared.replay.Replay.{Replay}
use Rattle.run_audit.proofs.ComeLemmas.{lack_then, line_joined, none_but_head, number_then, obeys_then, parts_begin, shorter_then, text_then}
use Rattle.run_audit.proofs.BeginLemmas.{walk_begins}
use Rattle.run_audit.proofs.FaultLemmas.{Lack, fault_there}
use Rattle.run_audit.proofs.JournalLemmas.{lines_with}
use Rattle.run_audit.proofs.NewlineLemmas.{lists_lack}
use Rattle.run_audit.proofs.NextLemmas.{EndsPartOf, none_behind, not_ended}
use Rattle.run_audit.proofs.PlayedLemmas.{within_stops}
use Rattle.run_audit.proofs.ScriptLemmas.{HasComeTo}
use Rattle.run_audit.specs.Begins.{BeginsWalk}
use Rattle.run_audit.specs.Headings.{HasPlayedBehind, PassesLine, StopsBefore, StopsBehindHeading, StopsLate}
use Rattle.run_audit.specs.Played.{IsNextReason, StopsMidway}
use Rattle.run_audit.specs.Sound.{BeginsPartOf, CanBegin, IsWholeJournal, ObeysSoFar}
use Rattle.run_audit.specs.Verdict.{IsAtFault, IsJournal}
use Rattle.run_audit.specs.declared.lines.Rest.{Rest}
use Rattle.run_audit.specs.declared.verdict.Stop.TheVariants.{At}
use Rattle.run_audit.specs.declared.verdict.Why.{Why}

module _ (members : ℕ) (table : Table) (script : List Command) (few : members ≤ 7) (limits : IsWithinLimits table.window) (names : HaveWordNames table.jobs) (text : List ℕ) where
  -- all parts have been played by the lines of the text
  pub record HasWalked (replay : Replay) (rest : Rest) : Type 0 where
    pub rows : List Row
    pub starts : List ℕ
    pub situation : Situation
    pub ready : IsReplayAt table rows replay situation
    pub members_are : replay.book.members ≡ members
    pub begin : BeginAt members table script rows starts
    pub whole_obeys : ObeysSoFar members table script rows starts
    pub text_is : text ≡ text_of_lines (lines_with members table script rows starts) ++ rest.text.now
    pub lack : Lack (lines_with members table script rows starts)
    pub short : length rows < length (lines_with members table script rows starts)
    pub number : rest.number ≡ suc (length (lines_with members table script rows starts))
    pub fits : rest.number + length rest.text.now < 2 ^ 32
    pub other : (line : List ℕ) → (line ≡ codes "end" → ⊥) → CanBegin members table script (lines_with members table script rows starts ++ line ∷ []) → ⊥

  module _ (replay : Replay) (rest : Rest) (come : HasComeTo members table script text (length script) replay rest) where
    abbrev to : ℤ
    to = table.window.until.0 -ℤ pos 1

    abbrev head : List ℕ
    head = part_head (suc (length script)) (length script)

    none_there : slice_get script (length script) ≡ None
    none_there = slice_get_past script (length script) (omega arith)

    pub walk_stops : (number : ℕ) (why : Why) → StopsBehindHeading table head (BeginsWalk replay.book.members table to) (Walks replay.book.members table to) replay rest (At number why)
        → IsAtFault members table script text number why
    walk_stops number why stops =
        within_stops members table script few limits names text (length script) replay rest come (omega arith) stops.middle number why stops.passes
        (subst (λ (c : Option Command). StopsMidway members table (BeginsPartOf members table c) (EndsPartOf members table c) come.rows come.situation stops.middle (number, why)) (sym none_there)
        (subst (λ (n : ℕ). StopsMidway n table (BeginsWalk n table to) (Walks n table to) come.rows come.situation stops.middle (number, why)) come.members_are
        (stops.stops come.rows come.situation come.ready)))

    pub walk_played : (new : Replay) (behind : Rest) → HasPlayedBehind table head (Walks replay.book.members table to) replay rest new behind → HasWalked new behind
    walk_played new behind played =
        let had = played.played.plays come.rows come.situation come.ready in
        let same = played.played.members ∙ come.members_are in
        let all = come.rows ++ had.part in
        let walk : Walks members table to come.situation had.part had.after = subst (λ (n : ℕ). Walks n table to come.situation had.part had.after) come.members_are had.is in
        let ends : EndsPartOf members table (slice_get script (length script)) come.situation had.part had.after =
        subst (λ (c : Option Command). EndsPartOf members table c come.situation had.part had.after) (sym none_there) walk in
        let begins : BeginsPartOf members table (slice_get script (length script)) come.situation had.part =
        subst (λ (c : Option Command). BeginsPartOf members table c come.situation had.part) (sym none_there) (walk_begins members table to come.situation had.part had.after walk) in
        let legal : IsLegal members table all = subst (λ (n : ℕ). IsLegal n table all) same had.ready.behind.legal in
        let obeys = obeys_then members table script few limits names text (length script) replay rest played.middle come (omega arith) played.passes had.part behind.text.now had.text_is begins in
        let starts = parts_begin members table script few limits names text (length script) replay rest played.middle come (omega arith) played.passes had.part behind.text.now had.text_is in
        let size = length-append come.starts (length come.rows ∷ []) in
        let count = come.count in
        record {
          rows = all;
          starts = starts;
          situation = had.after;
          ready = had.ready;
          members_are = same;
          begin = record {
            obeys = record {
              after = had.after;
              obeys = record {
                front = come.rows;
                middle = come.situation;
                back = had.part;
                parts = refl;
                one = subst (λ (l : List Command). ArePartsOf members table l (first_situation members table) come.rows come.situation) (take_all (length script) script (omega arith)) come.before;
                two = walk;
              };
            };
            count = omega (arith, size, count);
            within = obeys.within;
            before = obeys.before;
          };
          whole_obeys = obeys;
          text_is = text_then members table script few limits names text (length script) replay rest played.middle come (omega arith) played.passes had.part behind.text.now had.text_is;
          lack = lack_then members table script few limits names text (length script) replay rest played.middle come (omega arith) played.passes had.part behind.text.now had.text_is;
          short = shorter_then members table script few limits names text (length script) replay rest played.middle come (omega arith) played.passes had.part behind.text.now had.text_is;
          number = had.number ∙ number_then members table script few limits names text (length script) replay rest played.middle come (omega arith) played.passes had.part behind.text.now had.text_is;
          fits = played.played.few;
          other = λ line differs.
              none_but_head members table script few limits names text (length script) replay rest played.middle come (omega arith) played.passes had.part behind.text.now had.text_is had.after legal ends line
              (λ head. elim head [ inl next ↦ (let wrong = next.1 in omega (arith, wrong)) | inr last ↦ differs last.0 ]);
        }

  -- ---- the last line

  module _ (replay : Replay) (rest : Rest) (walked : HasWalked replay rest) where
    abbrev lines : List (List ℕ)
    lines = lines_with members table script walked.rows walked.starts

    legal_walked : IsLegal members table walked.rows
    legal_walked = subst (λ (n : ℕ). IsLegal n table walked.rows) walked.members_are walked.ready.behind.legal

    short_walked : length walked.rows < 2 ^ 32
    short_walked = let short = walked.short in let count = walked.number in let bound = walked.fits in omega (arith, short, count, bound)

    pub last_stops : (number : ℕ) (why : Why) → StopsBefore table (codes "end") replay rest number why → IsAtFault members table script text number why
    last_stops number why stops =
        fault_there members table script text lines walked.rows rest.text.now number
        (record {
          is = walked.text_is;
          lack = walked.lack;
          tell = inr (inl (record { legal = legal_walked; starts = walked.starts; obeys = walked.whole_obeys; are = refl }));
          ends = λ line behind first. walked.other line (stops.other line behind first);
          none = λ ended others whole. not_ended members table script few limits walked.rows walked.starts legal_walked walked.whole_obeys short_walked others whole;
        })
        (stops.number_is ∙ walked.number) why (subst (λ (n : ℕ). IsNextReason n table walked.rows rest.text.now why) walked.members_are (stops.reason walked.rows walked.situation walked.ready))

    abbrev ended : List (List ℕ)
    ended = lines ++ codes "end" ∷ []

    whole_here : IsWholeJournal members table script ended walked.rows
    whole_here = record { legal = legal_walked; starts = walked.starts; begin = walked.begin; are = refl }

    module _ (behind : Rest) (passes : PassesLine (codes "end") rest behind) where
      text_ended : text ≡ text_of_lines ended ++ behind.text.now
      text_ended = walked.text_is ∙ ap (λ l. text_of_lines lines ++ l) passes.first.parts ∙ line_joined lines (codes "end") behind.text.now

      lack_ended : Lack ended
      lack_ended = lists_lack lines (codes "end" ∷ []) walked.lack (passes.first.lacks, tt)

      -- **All is a journal where the text ends there.**
      pub is_journal : behind.text.now ≡ [] → IsJournal members table script text walked.rows
      is_journal none = record { lines = ended; cut = record { parts = text_ended ∙ ap (λ l. text_of_lines ended ++ l) none; each = lack_ended; last = tt }; whole = whole_here }

      pub end_stops : (number : ℕ) (why : Why) → StopsLate table replay behind number why → IsAtFault members table script text number why
      end_stops number why stops =
          fault_there members table script text ended walked.rows behind.text.now number
          (record {
            is = text_ended;
            lack = lack_ended;
            tell = inr (inr whole_here);
            ends = λ line more first. none_behind members table script few limits walked.rows walked.starts line legal_walked walked.whole_obeys short_walked;
            none = λ none others whole. stops.more none;
          })
          (let one = stops.number_is in let two = passes.number in let three = walked.number in let size = length-append lines (codes "end" ∷ []) in omega (arith, one, two, three, size)) why
          (subst (λ (n : ℕ). IsNextReason n table walked.rows behind.text.now why) walked.members_are (stops.reason walked.rows walked.situation walked.ready))

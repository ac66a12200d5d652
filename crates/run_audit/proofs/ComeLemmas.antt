-- A script that is played by the lines of a text comes to the next part, or stops within it.
use Rattle.std.proofs.Common.{◌≡◌, ℕ, zero, suc, ◌+◌, ◌<◌, ◌≤◌, ◌^◌, List, [], ◌∷◌, ◌++◌, append-nil, append_assoc, get_or, inl, inr, length, take, Option, None, Some, refl, ap, sym, subst, ◌∙◌, arith}
use Rattle.std.specs.List.{enumerate_from}
use Rattle.std.specs.Prelude.{◌-ℤ◌, pos, slice_get}
use Rattle.std.proofs.lemmas.Bool.{cases_lt}
use Rattle.std.proofs.lemmas.List.{get_or_append_left, get_or_at, length-append, length-map}
use Rattle.std.proofs.lemmas.List.FromFn.{length-enumerate_from}
use Rattle.zone_minutes.specs.Window.{IsWithinLimits}
use Rattle.cron_io.specs.Lines.{text_of_lines}
use Rattle.cron_io.proofs.LineLemmas.{text_of_lines-append}
use Rattle.due_set.specs.Table.{Table}
use Rattle.job_table.specs.Names.{HaveWordNames}
use Rattle.script_text.specs.declared.command.Command.{Command}
use Rattle.history.specs.Book.{Row}
use Rattle.history.specs.Legal.{IsLegal}
use Rattle.script_semantics.specs.Script.{ArePartsOf, IsPartOf}
use Rattle.script_semantics.specs.Situation.{Situation}
use Rattle.journal_text.proofs.Twins.{AreTwins}
use Rattle.journal_text.specs.Journal.{part_head, turn_line}
use Rattle.run_replay.specs.Replay.{IsReplayAt}
use Rattle.run_replay.specs.declared.replay.Replay.{Replay}
use Rattle.run_audit.proofs.BeginLemmas.{part_begins as part_begins_whole, walk_begins}
use Rattle.run_audit.proofs.EndLemmas.{EndsThere, part_ends, walk_ends}
use Rattle.run_audit.proofs.StopLemmas.{twins_with}
use Rattle.run_audit.proofs.FaultLemmas.{Lack, fault_there}
use Rattle.run_audit.proofs.JournalLemmas.{lines_with}
use Rattle.run_audit.proofs.NewlineLemmas.{lists_lack, turns_lack}
use Rattle.run_audit.proofs.NextLemmas.{EndsPartOf, IsHeadBehind, StandsIn, none_next, not_ended}
use Rattle.run_audit.proofs.ScriptLemmas.{HasComeTo, begun, head_more, part_begins, turns_more}
use Rattle.run_audit.specs.Headings.{PassesLine}
use Rattle.run_audit.specs.Played.{GoesOnWith, IsNextReason, StopsIn, lines_from}
use Rattle.run_audit.specs.Reading.{IsLineFirst}
use Rattle.run_audit.specs.Sound.{BeginsPartOf, CanBegin, ObeysSoFar, turns_of}
use Rattle.run_audit.specs.Verdict.{IsAtFault}
use Rattle.run_audit.specs.declared.lines.Rest.{Rest}
use Rattle.run_audit.specs.declared.verdict.Why.{Why}

-- ---- texts

-- a line behind lines is one more
pub line_joined : (lines : List (List ℕ)) (line rest : List ℕ) → text_of_lines lines ++ (line ++ 10 ∷ rest) ≡ text_of_lines (lines ++ line ∷ []) ++ rest
line_joined lines line rest =
    let front = text_of_lines lines in
    ap (λ more. front ++ more) (sym (append_assoc line (10 ∷ []) rest)) ∙ sym (append_assoc front (line ++ 10 ∷ []) rest)
    ∙ ap (λ more. (front ++ more) ++ rest) (sym (append-nil (line ++ 10 ∷ []))) ∙ ap (λ whole. whole ++ rest) (sym (text_of_lines-append lines (line ∷ [])))

pub lines_joined : (lines more : List (List ℕ)) (rest : List ℕ) → text_of_lines lines ++ (text_of_lines more ++ rest) ≡ text_of_lines (lines ++ more) ++ rest
lines_joined lines more rest = sym (append_assoc (text_of_lines lines) (text_of_lines more) rest) ∙ ap (λ whole. whole ++ rest) (sym (text_of_lines-append lines more))

-- no text has more lines than bytes
pub lines_short : (lines : List (List ℕ)) (rest : List ℕ) → length lines ≤ length (text_of_lines lines ++ rest)
lines_short [] rest = omega arith
lines_short (line ∷ lines) rest =
    let shift : text_of_lines (line ∷ lines) ++ rest ≡ (line ++ 10 ∷ []) ++ (text_of_lines lines ++ rest) = append_assoc (line ++ 10 ∷ []) (text_of_lines lines) rest in
    let size : length (text_of_lines (line ∷ lines) ++ rest) ≡ length (line ++ 10 ∷ []) + length (text_of_lines lines ++ rest) =
    ap length shift ∙ length-append (line ++ 10 ∷ []) (text_of_lines lines ++ rest) in
    let one = length-append line (10 ∷ []) in
    let more = lines_short lines rest in
    omega (arith, size, one, more)

pub as_many_lines : (table : Table) (first : ℕ) (part : List Row) → length (lines_from table first part) ≡ length part
as_many_lines table first part =
    length-map (enumerate_from first (turns_of part)) (turn_line table) ∙ length-enumerate_from first (turns_of part) ∙ length-map part (λ (row : Row). row.turn)

-- ---- parts

-- the part of the next command behind those of the first ones
pub parts_then : (members : ℕ) (table : Table) (commands : List Command) (place : ℕ) (given : Command) (situation : Situation) (rows : List Row) (middle : Situation) (part : List Row) (after : Situation)
    → slice_get commands place ≡ Some given → ArePartsOf members table (take place commands) situation rows middle → IsPartOf members table given middle part after
    → ArePartsOf members table (take (suc place) commands) situation (rows ++ part) after
parts_then members table [] place given situation rows middle part after there before is = absurd cc
parts_then members table (other ∷ commands) zero given situation rows middle part after there before is =
    let same : given ≡ other = cc in
    record {
      front = part;
      middle = after;
      back = [];
      parts = ap (λ (l : List Row). l ++ part) before.none ∙ sym (append-nil part);
      one = subst (λ (c : Command). IsPartOf members table c situation part after) same (subst (λ (s : Situation). IsPartOf members table given s part after) before.is is);
      two = record { none = refl; is = refl };
    }
parts_then members table (other ∷ commands) (suc place) given situation rows middle part after there before is = record {
  front = before.front;
  middle = before.middle;
  back = before.back ++ part;
  parts = ap (λ (l : List Row). l ++ part) before.parts ∙ append_assoc before.front before.back part;
  one = before.one;
  two = parts_then members table commands place given before.middle before.back middle part after there before.two is;
}

-- nothing comes behind a whole part
ends_there : (members : ℕ) (table : Table) (given : Option Command) → EndsThere members (BeginsPartOf members table given) (EndsPartOf members table given)
ends_there members table None = walk_ends members table (table.window.until.0 -ℤ pos 1)
ends_there members table (Some given) = part_ends members table given

-- a whole part has begun
ends_begins : (members : ℕ) (table : Table) (given : Option Command) (situation : Situation) (part : List Row) (after : Situation) → EndsPartOf members table given situation part after
    → BeginsPartOf members table given situation part
ends_begins members table None situation part after ends = walk_begins members table (table.window.until.0 -ℤ pos 1) situation part after ends
ends_begins members table (Some given) situation part after ends = part_begins_whole members table given situation part after ends

-- ---- turns of the next part

module _ (members : ℕ) (table : Table) (script : List Command) (few : members ≤ 7) (limits : IsWithinLimits table.window) (names : HaveWordNames table.jobs) (text : List ℕ) (place : ℕ) (replay : Replay)
    (rest middle : Rest) (come : HasComeTo members table script text place replay rest) (low : place ≤ length script) (passes : PassesLine (part_head (suc (length script)) place) rest middle)
    (part : List Row) (left : List ℕ) (is : middle.text.now ≡ text_of_lines (lines_from table (length come.rows) part) ++ left) where
  abbrev pub parts_begin : List ℕ
  parts_begin = begun members table script come.rows come.starts

  abbrev all : List Row
  all = come.rows ++ part

  abbrev before : List (List ℕ)
  before = lines_with members table script come.rows come.starts

  abbrev head : List ℕ
  head = part_head (suc (length script)) place

  abbrev turns : List (List ℕ)
  turns = lines_from table (length come.rows) part

  size : length parts_begin ≡ length come.starts + 1
  size = length-append come.starts (length come.rows ∷ [])

  within : (k : ℕ) → k < length parts_begin → get_or parts_begin k 0 ≤ length come.rows
  within k below = elim (cases_lt k (length come.starts)) [
    | inl lt ↦ (let same = get_or_append_left come.starts (length come.rows ∷ []) 0 k lt in let bound = come.obeys.within k 0 lt in omega (arith, same, bound))
    | inr past ↦ (let same = get_or_at come.starts (length come.rows) [] 0 k (omega (arith, past, below, size)) in omega (arith, same))
  ]

  lines_then : lines_with members table script all parts_begin ≡ (before ++ head ∷ []) ++ turns
  lines_then =
      turns_more members table script part come.rows parts_begin (length come.starts) (omega (arith, size)) within
      ∙ ap (λ (l : List (List ℕ)). l ++ turns) (head_more members table script come.rows come.starts ∙ ap (λ n. before ++ part_head (suc (length script)) n ∷ []) come.count)

  pub text_then : text ≡ text_of_lines (lines_with members table script all parts_begin) ++ left
  text_then =
      come.text_is ∙ ap (λ l. text_of_lines before ++ l) (passes.first.parts ∙ ap (λ l. head ++ 10 ∷ l) is) ∙ line_joined before head (text_of_lines turns ++ left)
      ∙ lines_joined (before ++ head ∷ []) turns left ∙ ap (λ (l : List (List ℕ)). text_of_lines l ++ left) (sym lines_then)

  pub lack_then : Lack (lines_with members table script all parts_begin)
  lack_then =
      subst Lack (sym lines_then)
      (lists_lack (before ++ head ∷ []) turns (lists_lack before (head ∷ []) come.lack (passes.first.lacks, tt)) (turns_lack table (enumerate_from (length come.rows) (turns_of part)) names))

  size_then : length (lines_with members table script all parts_begin) ≡ length before + 1 + length part
  size_then =
      let one = length-append before (head ∷ []) in
      let two = length-append (before ++ head ∷ []) turns in
      let three = as_many_lines table (length come.rows) part in
      let same = ap length lines_then in
      omega (arith, one, two, three, same)

  -- the number of the line behind them has 32 bits
  pub few_then : middle.number + length part < 2 ^ 32
  few_then =
      let short = lines_short turns left in
      let same = ap length is in
      let many = as_many_lines table (length come.rows) part in
      let bound = passes.few in
      omega (arith, short, same, many, bound)

  pub number_then : middle.number + length part ≡ suc (length (lines_with members table script all parts_begin))
  number_then =
      let one = come.number in
      let two = passes.number in
      omega (arith, one, two, size_then)

  pub shorter_then : length all < length (lines_with members table script all parts_begin)
  shorter_then = let had = come.short in let both = length-append come.rows part in omega (arith, had, both, size_then)

  short_then : length all < 2 ^ 32
  short_then = omega (arith, shorter_then, number_then, few_then)

  abbrev given : Option Command
  given = slice_get script place

  pub obeys_then : BeginsPartOf members table given come.situation part → ObeysSoFar members table script all parts_begin
  obeys_then begun = part_begins members table script come.rows part come.starts place come.situation low come.count come.obeys come.before begun

  stands_then : IsLegal members table all → BeginsPartOf members table given come.situation part → StandsIn members table script few limits all parts_begin place come.rows part come.situation
  stands_then legal begun = record {
    parts = refl;
    count = (let count = come.count in omega (arith, size, count));
    start = get_or_at come.starts (length come.rows) [] 0 place come.count;
    legal = legal;
    obeys = obeys_then begun;
    short = short_then;
    before = come.before;
  }

  -- **Where the text stops within the part, that line is at fault.**
  pub part_stops : (why : Why) → IsLegal members table all
      → StopsIn members (BeginsPartOf members table given) (EndsPartOf members table given) (GoesOnWith members table all left) come.situation part → IsNextReason members table all left why
      → IsAtFault members table script text (middle.number + length part) why
  part_stops why legal stops reason =
      fault_there members table script text (lines_with members table script all parts_begin) all left (middle.number + length part)
      (record {
        is = text_then;
        lack = lack_then;
        tell = inr (inl (record { legal = legal; starts = parts_begin; obeys = obeys_then stops.begun; are = refl }));
        ends = λ line behind first.
            none_next members table script few limits all parts_begin place come.rows part come.situation line (stands_then legal stops.begun)
            (record {
              no_turn = λ others row twins may same begins.
                  stops.stuck others row twins (record { may = may; behind = behind; first = subst (λ l. IsLineFirst left l behind) same first }) begins;
              no_head = λ others after ends twins head.
                  stops.not_whole others [] after ends (subst (λ (l : List Row). AreTwins members come.situation.standing part l) (sym (append-nil others)) twins);
            });
        none = λ ended others whole. not_ended members table script few limits all parts_begin legal (obeys_then stops.begun) short_then others whole;
      })
      number_then why reason

  -- behind the whole part comes no line but the one behind it
  pub none_but_head : (after : Situation) → IsLegal members table all → EndsPartOf members table given come.situation part after → (line : List ℕ)
      → (IsHeadBehind members table script few limits place line → ⊥) → CanBegin members table script (lines_with members table script all parts_begin ++ line ∷ []) → ⊥
  none_but_head after legal ends line differs =
      none_next members table script few limits all parts_begin place come.rows part come.situation line (stands_then legal (ends_begins members table given come.situation part after ends))
      (record {
        no_turn = λ others row twins may same begins.
            ends_there members table given come.situation part row [] (others ++ row ∷ []) after ends begins (twins_with members come.situation.standing part others row twins);
        no_head = λ others behind whole twins head. differs head;
      })

  -- **Where the part of a command is whole, the script has come to the next part.**
  pub come_on : (command : Command) (after : Situation) (new : Replay) (behind : Rest) → given ≡ Some command → place < length script → IsPartOf members table command come.situation part after
      → IsReplayAt table all new after → new.book.members ≡ members → behind.text.now ≡ left → behind.number ≡ middle.number + length part → behind.number + length behind.text.now < 2 ^ 32
      → HasComeTo members table script text (suc place) new behind
  come_on command after new behind there inside whole ready same text_is number fits =
      let ends : EndsPartOf members table given come.situation part after = subst (λ (c : Option Command). EndsPartOf members table c come.situation part after) (sym there) whole in
      let legal : IsLegal members table all = subst (λ (n : ℕ). IsLegal n table all) same ready.behind.legal in
      record {
        rows = all;
        starts = parts_begin;
        situation = after;
        ready = ready;
        members_are = same;
        count = (let count = come.count in omega (arith, size, count));
        obeys = obeys_then (ends_begins members table given come.situation part after ends);
        before = parts_then members table script place command _ come.rows come.situation part after there come.before whole;
        text_is = text_then ∙ ap (λ l. text_of_lines (lines_with members table script all parts_begin) ++ l) (sym text_is);
        lack = lack_then;
        short = shorter_then;
        number = number ∙ number_then;
        few = fits;
        other = λ line differs. none_but_head after legal ends line (λ head. elim head [ inl next ↦ differs next.0 | inr last ↦ (let past = last.1 in omega (arith, past, inside)) ]);
      }

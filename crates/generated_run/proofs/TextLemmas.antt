-- The text that a seed makes is that of its run.
use Rattle.std.proofs.Common.{◌≡◌, ℕ, zero, suc, ◌+◌, ◌*◌, ◌/◌, ◌<◌, ◌≤◌, ◌^◌, List, [], ◌∷◌, ◌++◌, length, map, refl, sym, ap, subst, ◌∙◌, inl, inr, arith, codes, decimal, length-append, append_assoc}
use Rattle.std.specs.Prelude.{flat_map}
use Rattle.std.specs.List.{AllByRecursion, range_with_len, sum_by}
use Rattle.crontab_text.specs.Answers.{IsLineOf}
use Rattle.crontab_text.specs.LineBody.{EntryBody}
use Rattle.crontab_text.specs.Lines.{Lacks, lines_of}
use Rattle.crontab_text.specs.declared.answer.Style.TheVariants.{User as UserStyle}
use Rattle.crontab_text.proofs.LineLemmas.{lines_of-newline, lines_of-none}
use Rattle.std.proofs.lemmas.Int.{ints}
use Rattle.std.proofs.lemmas.List.{length-map}
use Rattle.std.proofs.lemmas.List.Sums.{sum_by-append}
use Rattle.script_text.specs.Command.{command_line}
use Rattle.script_text.specs.Script.{IsScriptWithinLimits, rounds_of, free_turns_of}
use Rattle.script_text.specs.declared.command.Command.{Command}
use Rattle.script_text.specs.declared.command.Command.TheVariants.{Campaign, Restart, Round, Stop}
use Rattle.zone_minutes.specs.Stamp.{stamp_text}
use Rattle.zone_minutes.specs.Window.{IsWithinLimits, window_line}
use Rattle.zone_minutes.proofs.StampLemmas.{length-stamp_text}
use Rattle.run_text.specs.Grammar.{IsLabel, IsZoneName}
use Rattle.run_text.specs.Follow.{Nothing, Version, Replicas, Times, Sections, Script, inside}
use Rattle.run_text.specs.Reading.{ReadsFrom, IsRunText}
use Rattle.run_text.specs.Run.{Run, run_with, with_section}
use Rattle.run_text.specs.Table.{Says}
use Rattle.run_text.specs.declared.run.SectionKind.TheVariants.{User}
use Rattle.run_text.specs.declared.table.Tables.TheVariants.{Judged}
use Rattle.std.proofs.Math.Nat.{mod-lt}
use Rattle.std.proofs.lemmas.Fmt.{length-decimal-le}
use Rattle.std.proofs.lemmas.List.FromFn.{length-map-range_with_len}
use Rattle.crontab_text.specs.Blanks.{IsMark}
use Rattle.generated_run.specs.Draws.{draw, state_at}
use Rattle.generated_run.specs.Made.{made_window, made_instant, hour_text, day_text, hourly_line, daily_line, table_lines, part_commands, made_script, hourly_lines, daily_lines, first_parts, made_run, head_lines, made_lines, made_text}
use Rattle.cron_io.specs.Lines.{text_of_lines}
use Rattle.generated_run.proofs.ByteLemmas.{lacks_append, lacks_above, lacks_decimal, lacks_stamp}
use Rattle.generated_run.proofs.EntryLemmas.{short_decimal, hourly_fields, daily_fields, hourly_says, daily_says}
use Rattle.generated_run.proofs.ReadLemmas.{MayBeSaid, table_at, table_reads, script_reads}

-- a line without a newline, of at most 60 bytes
record IsShortLine (line : List ℕ) : Type 0 where
  lacks : Lacks 10 line
  short : length line ≤ 60

-- the lines of a text of such lines are these
lines_of_text : (lines : List (List ℕ)) → AllByRecursion IsShortLine lines → lines_of (text_of_lines lines) ≡ lines
lines_of_text [] each = lines_of-none
lines_of_text (line ∷ lines) each =
    ap lines_of (append_assoc line (10 ∷ []) (text_of_lines lines)) ∙ lines_of-newline line (text_of_lines lines) each.0.lacks ∙ ap (λ ls. line ∷ ls) (lines_of_text lines each.1)

-- and it is as short as they are
text_length : (lines : List (List ℕ)) → AllByRecursion IsShortLine lines → length (text_of_lines lines) ≤ 61 * length lines
text_length [] each = omega arith
text_length (line ∷ lines) each =
    let here : length line ≤ 60 = each.0.short in
    let others : length (text_of_lines lines) ≤ 61 * length lines = text_length lines each.1 in
    omega (arith, length-append (line ++ 10 ∷ []) (text_of_lines lines), length-append line (10 ∷ []))

-- what holds of the value of each number holds of each value
pub all_values : {X : Type 0} (P : X → Type 0) (f : ℕ → X) (from count : ℕ) → ((k : ℕ) → k < from + count → P (f k)) → AllByRecursion P (map f (range_with_len from count))
all_values P f from zero each = tt
all_values P f from (suc count) each = (each from (omega arith), all_values P f (from + 1) count (λ k below. each k (omega arith)))

pub all_both : {X : Type 0} (P : X → Type 0) (xs ys : List X) → AllByRecursion P xs → AllByRecursion P ys → AllByRecursion P (xs ++ ys)
all_both P [] ys front back = back
all_both P (x ∷ xs) ys front back = (front.0, all_both P xs ys front.1 back)

all_parts : {X : Type 0} (P : X → Type 0) (f : ℕ → List X) (from count : ℕ) → ((k : ℕ) → k < from + count → AllByRecursion P (f k)) → AllByRecursion P (flat_map f (range_with_len from count))
all_parts P f from zero each = tt
all_parts P f from (suc count) each = all_both P (f from) _ (each from (omega arith)) (all_parts P f (from + 1) count (λ k below. each k (omega arith)))

all_mapped : {X Y : Type 0} (P : Y → Type 0) (f : X → Y) (xs : List X) → AllByRecursion (λ x. P (f x)) xs → AllByRecursion P (map f xs)
all_mapped P f [] all = tt
all_mapped P f (x ∷ xs) all = (all.0, all_mapped P f xs all.1)

-- a draw is below its limit
draw_below : (seed draws limit : ℕ) → 0 < limit → draw seed draws limit < limit
draw_below seed draws limit some = mod-lt (state_at seed (suc draws) / 2 ^ 33) some

-- a constant text without a newline, then another
constant_first : (front back : List ℕ) → AllByRecursion (λ c. 10 < c) front → Lacks 10 back → Lacks 10 (front ++ back)
constant_first front back above lacks = lacks_append front back (lacks_above front above) lacks

-- the lines of the table
hour_is_short : (m k : ℕ) → m < 60 → k < 1000 → IsShortLine (hour_text m k)
hour_is_short m k below small =
    let minute : length (decimal m) ≤ 2 = length-decimal-le 2 m (omega arith) (omega arith) (omega arith) in
    let name : length (decimal k) ≤ 3 = length-decimal-le 3 k (omega arith) (omega arith) (omega arith) in
    let short : length (decimal m ++ (codes " * * * * hourly " ++ decimal k)) ≤ 60 =
    omega (arith, length-append (decimal m) (codes " * * * * hourly " ++ decimal k), length-append (codes " * * * * hourly ") (decimal k)) in
    record {
      lacks = lacks_append (decimal m) (codes " * * * * hourly " ++ decimal k) (lacks_decimal m (omega arith)) (constant_first (codes " * * * * hourly ") (decimal k) (omega arith, (omega arith, (omega arith, (omega arith, (omega arith, (omega arith, (omega arith, (omega arith, (omega arith, (omega arith, (omega arith, (omega arith, (omega arith, (omega arith, (omega arith, (omega arith, tt)))))))))))))))) (lacks_decimal k (omega arith)));
      short = short;
    }

day_is_short : (m h k : ℕ) → m < 60 → h < 24 → k < 1000 → IsShortLine (day_text m h k)
day_is_short m h k below late small =
    let minute : length (decimal m) ≤ 2 = length-decimal-le 2 m (omega arith) (omega arith) (omega arith) in
    let hour : length (decimal h) ≤ 2 = length-decimal-le 2 h (omega arith) (omega arith) (omega arith) in
    let name : length (decimal k) ≤ 3 = length-decimal-le 3 k (omega arith) (omega arith) (omega arith) in
    let short : length (decimal m ++ 32 ∷ (decimal h ++ (codes " * * * daily " ++ decimal k))) ≤ 60 =
    omega (arith, length-append (decimal m) (32 ∷ (decimal h ++ (codes " * * * daily " ++ decimal k))), length-append (decimal h) (codes " * * * daily " ++ decimal k), length-append (codes " * * * daily ") (decimal k)) in
    record {
      lacks = lacks_append (decimal m) (32 ∷ (decimal h ++ (codes " * * * daily " ++ decimal k))) (lacks_decimal m (omega arith)) (
        (λ e. omega arith),
        lacks_append (decimal h) (codes " * * * daily " ++ decimal k) (lacks_decimal h (omega arith))
            (constant_first (codes " * * * daily ") (decimal k) (omega arith, (omega arith, (omega arith, (omega arith, (omega arith, (omega arith, (omega arith, (omega arith, (omega arith, (omega arith, (omega arith, (omega arith, (omega arith, tt))))))))))))) (lacks_decimal k (omega arith))),
      );
      short = short;
    }

hourly_line_is_short : (seed k : ℕ) → k < 40 → IsShortLine (hourly_line seed k)
unfolding hourly_line
hourly_line_is_short seed k small = hour_is_short (draw seed k 60) (k + 1) (draw_below seed k 60 (omega arith)) (omega arith)

daily_line_is_short : (seed k : ℕ) → k < 160 → IsShortLine (daily_line seed k)
unfolding daily_line
daily_line_is_short seed k small =
    day_is_short (draw seed (40 + 2 * k) 60) (draw seed (41 + 2 * k) 24) (k + 41) (draw_below seed (40 + 2 * k) 60 (omega arith)) (draw_below seed (41 + 2 * k) 24 (omega arith)) (omega arith)

pub hourly_line_says : (seed k : ℕ) → k < 40 → IsLineOf UserStyle (codes "make") (hourly_line seed k) (EntryBody (hourly_fields (draw seed k 60)) [] (codes "hourly " ++ decimal (k + 1)))
unfolding hourly_line
hourly_line_says seed k small =
    let below : draw seed k 60 < 60 = draw_below seed k 60 (omega arith) in
    let short : length (decimal (k + 1)) ≤ 3 = length-decimal-le 3 (k + 1) (omega arith) (omega arith) (omega arith) in
    hourly_says (codes "make") (decimal (draw seed k 60)) (codes "hourly " ++ decimal (k + 1)) (draw seed k 60) (short_decimal _ (omega arith)) (omega arith) no_blank (omega arith) (omega arith)
  where
    no_blank : IsMark 104
    no_blank (inl e) = omega arith
    no_blank (inr e) = omega arith

pub daily_line_says : (seed k : ℕ) → k < 160
    → IsLineOf UserStyle (codes "make") (daily_line seed k) (EntryBody (daily_fields (draw seed (40 + 2 * k) 60) (draw seed (41 + 2 * k) 24)) [] (codes "daily " ++ decimal (k + 41)))
unfolding daily_line
daily_line_says seed k small =
    let below : draw seed (40 + 2 * k) 60 < 60 = draw_below seed (40 + 2 * k) 60 (omega arith) in
    let hours : draw seed (41 + 2 * k) 24 < 24 = draw_below seed (41 + 2 * k) 24 (omega arith) in
    let short : length (decimal (k + 41)) ≤ 3 = length-decimal-le 3 (k + 41) (omega arith) (omega arith) (omega arith) in
    daily_says (codes "make") (decimal (draw seed (40 + 2 * k) 60)) (decimal (draw seed (41 + 2 * k) 24)) (codes "daily " ++ decimal (k + 41)) (draw seed (40 + 2 * k) 60) (draw seed (41 + 2 * k) 24)
    (short_decimal _ (omega arith)) (omega arith) (short_decimal _ (omega arith)) (omega arith) no_blank (omega arith) (omega arith)
  where
    no_blank : IsMark 100
    no_blank (inl e) = omega arith
    no_blank (inr e) = omega arith

table_is_short : (seed : ℕ) → AllByRecursion IsShortLine (table_lines seed)
unfolding hourly_lines daily_lines
table_is_short seed = all_both IsShortLine (hourly_lines seed 40) (daily_lines seed 160)
    (all_values IsShortLine (hourly_line seed) 0 40 (λ k below. hourly_line_is_short seed k below))
    (all_values IsShortLine (daily_line seed) 0 160 (λ k below. daily_line_is_short seed k below))

table_is_said : (seed : ℕ) → AllByRecursion (Says UserStyle (codes "make")) (table_lines seed)
unfolding hourly_lines daily_lines
table_is_said seed = all_both (Says UserStyle (codes "make")) (hourly_lines seed 40) (daily_lines seed 160)
    (all_values (Says UserStyle (codes "make")) (hourly_line seed) 0 40 (λ k below. (_, hourly_line_says seed k below)))
    (all_values (Says UserStyle (codes "make")) (daily_line seed) 0 160 (λ k below. (_, daily_line_says seed k below)))

table_length : (seed : ℕ) → length (table_lines seed) ≡ 200
unfolding hourly_lines daily_lines
table_length seed =
    let hours : length (hourly_lines seed 40) ≡ 40 = length-map-range_with_len (hourly_line seed) 0 40 in
    let days : length (daily_lines seed 160) ≡ 160 = length-map-range_with_len (daily_line seed) 0 160 in
    omega (arith, length-append (hourly_lines seed 40) (daily_lines seed 160))

-- the run where its script begins
abbrev begun_run : ℕ → Run
begun_run seed = with_section (run_with 3 made_window 14_400) (table_at 5 (codes "make") (codes "UTC") (table_lines seed))

-- a command of the script, and its line
record IsFit (run : Run) (command : Command) : Type 0 where
  said : MayBeSaid run command
  line : IsShortLine (command_line command)

round_line_is_short : (stamp : List ℕ) → Lacks 10 stamp → length stamp ≡ 17 → IsShortLine (codes "round " ++ stamp ++ 32 ∷ decimal 40)
round_line_is_short stamp lacks long =
    let number : length (decimal 40) ≤ 2 = length-decimal-le 2 40 (omega arith) (omega arith) (omega arith) in
    let short : length (codes "round " ++ stamp ++ 32 ∷ decimal 40) ≤ 60 = omega (arith, length-append (codes "round ") (stamp ++ 32 ∷ decimal 40), length-append stamp (32 ∷ decimal 40)) in
    record {
      lacks = constant_first (codes "round ") (stamp ++ 32 ∷ decimal 40) (omega arith, (omega arith, (omega arith, (omega arith, (omega arith, (omega arith, tt)))))) (lacks_append stamp (32 ∷ decimal 40) lacks ((λ e. omega arith), lacks_decimal 40 (omega arith)));
      short = short;
    }

rounds_fit : (seed number : ℕ) → number < 20 → IsFit (begun_run seed) (Round (made_instant (720 * number)) 40)
rounds_fit seed number small = record {
  said = record {
    in_range = (
      record {
        calendar = (omega (arith, ints), omega (arith, ints));
        inside = record { since = omega (arith, ints); before = omega (arith, ints) };
      },
      record { some = omega arith; most = omega arith },
    );
  };
  line = round_line_is_short (stamp_text (made_instant (720 * number)).0) (lacks_stamp (made_instant (720 * number)).0) (length-stamp_text (made_instant (720 * number)).0);
}

-- the line of a word and a small number
word_line_is_short : (word : List ℕ) (number : ℕ) → number < 100_000 → length word ≤ 20 → AllByRecursion (λ c. 10 < c) word → IsShortLine (word ++ decimal number)
word_line_is_short word number small few above =
    let digits : length (decimal number) ≤ 5 = length-decimal-le 5 number (omega arith) (omega arith) (omega arith) in
    record {
      lacks = constant_first word (decimal number) above (lacks_decimal number (omega arith));
      short = omega (arith, length-append word (decimal number));
    }

stop_fits : (seed member : ℕ) → member < 3 → IsFit (begun_run seed) (Stop member)
stop_fits seed member small = record {
  said = record { in_range = small };
  line = word_line_is_short (codes "stop ") member (omega arith) (omega arith) (omega arith, (omega arith, (omega arith, (omega arith, (omega arith, tt)))));
}

campaign_fits : (seed member : ℕ) → member < 3 → IsFit (begun_run seed) (Campaign member)
campaign_fits seed member small = record {
  said = record { in_range = small };
  line = word_line_is_short (codes "campaign ") member (omega arith) (omega arith) (omega arith, (omega arith, (omega arith, (omega arith, (omega arith, (omega arith, (omega arith, (omega arith, (omega arith, tt)))))))));
}

restart_fits : (seed member : ℕ) → member < 3 → IsFit (begun_run seed) (Restart member)
restart_fits seed member small = record {
  said = record { in_range = small };
  line = word_line_is_short (codes "restart ") member (omega arith) (omega arith) (omega arith, (omega arith, (omega arith, (omega arith, (omega arith, (omega arith, (omega arith, (omega arith, tt))))))));
}

part_fits : (seed number : ℕ) → number < 20 → AllByRecursion (IsFit (begun_run seed)) (part_commands seed number)
unfolding part_commands
part_fits seed number small = (
  rounds_fit seed number small,
  (
    stop_fits seed _ (draw_below seed (360 + 2 * number) 3 (omega arith)),
    (
      campaign_fits seed _ (draw_below seed (361 + 2 * number) 3 (omega arith)),
      (rounds_fit seed number small, (restart_fits seed 0 (omega arith), (restart_fits seed 1 (omega arith), (restart_fits seed 2 (omega arith), tt)))),
    ),
  ),
)

script_fits : (seed : ℕ) → AllByRecursion (IsFit (begun_run seed)) (made_script seed)
unfolding first_parts
script_fits seed = (campaign_fits seed 0 (omega arith), all_parts (IsFit (begun_run seed)) (part_commands seed) 0 20 (λ k below. part_fits seed k below))

-- how much some parts ask for
record Asks (commands : List Command) (parts : ℕ) : Type 0 where
  commands_are : length commands ≡ 7 * parts
  rounds : sum_by rounds_of commands ≡ 80 * parts
  free_turns : sum_by free_turns_of commands ≡ 0

part_asks : (seed number : ℕ) → Asks (part_commands seed number) 1
unfolding part_commands
part_asks seed number = record { commands_are = refl; rounds = refl; free_turns = refl }

parts_ask : (seed from count : ℕ) → Asks (flat_map (part_commands seed) (range_with_len from count)) count
parts_ask seed from zero = record { commands_are = refl; rounds = refl; free_turns = refl }
parts_ask seed from (suc count) =
    let first = part_asks seed from in
    let others = parts_ask seed (from + 1) count in
    let part = part_commands seed from in
    let rest = flat_map (part_commands seed) (range_with_len (from + 1) count) in
    record {
      commands_are = omega (arith, length-append part rest, first.commands_are, others.commands_are);
      rounds = omega (arith, sum_by-append rounds_of part rest, first.rounds, others.rounds);
      free_turns = omega (arith, sum_by-append free_turns_of part rest, first.free_turns, others.free_turns);
    }

script_within : (seed : ℕ) → IsScriptWithinLimits (made_script seed)
unfolding first_parts
script_within seed =
    let parts = parts_ask seed 0 20 in
    record { commands = omega (arith, parts.commands_are); rounds = omega (arith, parts.rounds); free_turns = omega (arith, parts.free_turns) }

-- the lines before the table
pub window_limits : IsWithinLimits made_window
window_limits = record { since = omega (arith, ints); until = omega (arith, ints); ordered = omega (arith, ints); short = omega (arith, ints) }

pub make_label : IsLabel (codes "make")
make_label = (inl (omega arith, omega arith), (inl (inl (omega arith, omega arith)), (inl (inl (omega arith, omega arith)), (inl (inl (omega arith, omega arith)), tt))), omega arith)

utc_name : IsZoneName (codes "UTC")
utc_name = (omega arith, omega arith, (inl (omega arith, omega arith), (inl (omega arith, omega arith), (inl (omega arith, omega arith), tt))))

two_stamps_are_short : (from until : List ℕ) → Lacks 10 from → Lacks 10 until → length from ≡ 17 → length until ≡ 17 → IsShortLine (codes "window " ++ from ++ 32 ∷ until)
two_stamps_are_short from until lacks also first second =
    let short : length (codes "window " ++ from ++ 32 ∷ until) ≤ 60 = omega (arith, length-append (codes "window ") (from ++ 32 ∷ until), length-append from (32 ∷ until)) in
    record { lacks = constant_first (codes "window ") (from ++ 32 ∷ until) (omega arith, (omega arith, (omega arith, (omega arith, (omega arith, (omega arith, (omega arith, tt))))))) (lacks_append from (32 ∷ until) lacks ((λ e. omega arith), also)); short = short }

window_line_is_short : IsShortLine (window_line made_window)
window_line_is_short =
    two_stamps_are_short (stamp_text made_window.from.0) (stamp_text made_window.until.0) (lacks_stamp made_window.from.0) (lacks_stamp made_window.until.0)
    (length-stamp_text made_window.from.0) (length-stamp_text made_window.until.0)

head_is_short : AllByRecursion IsShortLine head_lines
head_is_short = (
  record { lacks = lacks_above (codes "cronrun 1") (omega arith, (omega arith, (omega arith, (omega arith, (omega arith, (omega arith, (omega arith, (omega arith, (omega arith, tt))))))))); short = omega arith },
  (
    word_line_is_short (codes "replicas ") 3 (omega arith) (omega arith) (omega arith, (omega arith, (omega arith, (omega arith, (omega arith, (omega arith, (omega arith, (omega arith, (omega arith, tt))))))))),
    (
      window_line_is_short,
      (
        word_line_is_short (codes "grace ") 14_400 (omega arith) (omega arith) (omega arith, (omega arith, (omega arith, (omega arith, (omega arith, (omega arith, tt)))))),
        (
          word_line_is_short (codes "crontab make UTC ") 200 (omega arith) (omega arith) (omega arith, (omega arith, (omega arith, (omega arith, (omega arith, (omega arith, (omega arith, (omega arith, (omega arith, (omega arith, (omega arith, (omega arith, (omega arith, (omega arith, (omega arith, (omega arith, (omega arith, tt))))))))))))))))),
          tt,
        ),
      ),
    ),
  ),
)

made_lines_are_short : (seed : ℕ) → AllByRecursion IsShortLine (made_lines seed)
made_lines_are_short seed =
    all_both IsShortLine head_lines _ head_is_short
    (all_both IsShortLine (table_lines seed) _ (table_is_short seed) (
      record { lacks = lacks_above (codes "script") (omega arith, (omega arith, (omega arith, (omega arith, (omega arith, (omega arith, tt)))))); short = omega arith },
      all_both IsShortLine (map command_line (made_script seed)) (codes "end" ∷ []) (all_mapped IsShortLine command_line (made_script seed) (lines_fit (made_script seed) (script_fits seed)))
          (record { lacks = lacks_above (codes "end") (omega arith, (omega arith, (omega arith, tt))); short = omega arith }, tt),
    ))
  where
    lines_fit : (commands : List Command) → AllByRecursion (IsFit (begun_run seed)) commands → AllByRecursion (λ command. IsShortLine (command_line command)) commands
    lines_fit [] fit = tt
    lines_fit (command ∷ commands) fit = (fit.0.line, lines_fit commands fit.1)

-- the lines say the run
made_reads : (seed : ℕ) → ReadsFrom Judged 1 Nothing (made_lines seed) (made_run seed)
made_reads seed = (
  Version,
  (refl, refl),
  (
    Replicas 3,
    (3, record { is = refl; some = omega arith; few = omega arith }, refl),
    (
      Times 3 made_window,
      (made_window, record { is = refl; limits = window_limits }, refl),
      (
        Sections (run_with 3 made_window 14_400),
        (14_400, record { is = refl; short = omega arith }, refl),
        (
          inside (run_with 3 made_window 14_400) (table_at 5 (codes "make") (codes "UTC") []) 200,
          inr (inr (inl (record {
            kind = User;
            label = codes "make";
            zone = codes "UTC";
            count = 200;
            opens = record { is = record { is = refl; is_label = make_label; is_zone = utc_name; short = omega arith }; whole = omega (arith, table_length seed, length-append (table_lines seed) behind) };
            next_is = refl;
          }))),
          subst (λ n. ReadsFrom Judged 6 (inside (run_with 3 made_window 14_400) (table_at 5 (codes "make") (codes "UTC") []) n) (table_lines seed ++ behind) (made_run seed)) (table_length seed)
              (table_reads 6 5 (run_with 3 made_window 14_400) (codes "make") (codes "UTC") [] (table_lines seed) behind (made_run seed) (table_is_said seed)
              (Script (begun_run seed), inl (refl, refl), script_reads (6 + length (table_lines seed) + 1) (begun_run seed) (made_script seed) (said (made_script seed) (script_fits seed)) (script_within seed))),
        ),
      ),
    ),
  ),
)
  where
    behind : List (List ℕ)
    behind = codes "script" ∷ (map command_line (made_script seed) ++ codes "end" ∷ [])

    said : (commands : List Command) → AllByRecursion (IsFit (begun_run seed)) commands → AllByRecursion (MayBeSaid (begun_run seed)) commands
    said [] fit = tt
    said (command ∷ commands) fit = (fit.0.said, said commands fit.1)

-- the text that a seed makes says its run
pub text_says : (seed : ℕ) → IsRunText (made_text seed) (made_run seed)
unfolding made_text
text_says seed = subst (λ (ls : List (List ℕ)). ReadsFrom Judged 1 Nothing ls (made_run seed)) (sym (lines_of_text (made_lines seed) (made_lines_are_short seed))) (made_reads seed)

-- and is short
pub text_is_short : (seed : ℕ) → length (made_text seed) ≤ 1_048_576
unfolding made_text first_parts
text_is_short seed =
    let lines = map command_line (made_script seed) in
    let parts = parts_ask seed 0 20 in
    omega (
      arith,
      text_length (made_lines seed) (made_lines_are_short seed),
      length-append (table_lines seed) (codes "script" ∷ (lines ++ codes "end" ∷ [])),
      length-append lines (codes "end" ∷ []),
      length-map (made_script seed) command_line,
      parts.commands_are,
      table_length seed,
    )

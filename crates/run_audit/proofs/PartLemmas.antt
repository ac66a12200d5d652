-- Parts that are played one after another by the lines of a text.
use Rattle.std.proofs.Common.{◌≡◌, ◌+◌, ◌<◌, ◌^◌, ℕ, List, [], ◌∷◌, ◌++◌, length, map, true, Result, Ok, Err, refl, sym, ap, ◌∙◌, subst, arith, append_assoc, append-nil as append_nil}
use Rattle.std.specs.List.{enumerate_from}
use Rattle.std.specs.Prelude.{⊤}
use Rattle.std.proofs.lemmas.List.{length-append, length-map, map-append}
use Rattle.cron_io.proofs.LineLemmas.{text_of_lines-append}
use Rattle.cron_io.specs.Lines.{text_of_lines}
use Rattle.zone_minutes.specs.declared.minute.Window.{Window}
use Rattle.due_set.specs.Table.{Table}
use Rattle.script_text.specs.Command.{IsInRange}
use Rattle.script_text.specs.declared.command.Command.{Command}
use Rattle.script_text.specs.declared.command.Command.TheVariants as command
use Rattle.history.specs.Book.{Row}
use Rattle.history.specs.Legal.{IsLegal}
use Rattle.history.specs.declared.turn.Turn.{Turn}
use Rattle.journal_text.proofs.Determined.{EndAlike}
use Rattle.journal_text.specs.Journal.{turn_line}
use Rattle.script_semantics.specs.Arms.{PerformsByArms, PlaysByArms}
use Rattle.script_semantics.specs.Commands.{Plain, set_by, tasks_for}
use Rattle.script_semantics.specs.Parts.{Plays, Sets, Stays, Then}
use Rattle.script_semantics.specs.Script.{IsPartOf}
use Rattle.script_semantics.specs.Situation.{Performs, Situation, Task}
use Rattle.run_replay.specs.Replay.{IsInSituation, IsReplayAt}
use Rattle.run_replay.specs.Settings.{ChangesReplay, NamesMember}
use Rattle.run_replay.specs.Tasks.{AreAsked, tasks_in}
use Rattle.run_replay.specs.declared.replay.Replay.{Replay}
use Rattle.run_replay.specs.declared.tasks.Task.{Task as Listed}
use Rattle.run_audit.proofs.BeginLemmas.{BeginsAsWhole}
use Rattle.run_audit.proofs.EndLemmas.{EndsThere}
use Rattle.run_audit.proofs.LeadLemmas.{Leads, leads_then}
use Rattle.run_audit.proofs.SoFarLemmas.{enumerate-append}
use Rattle.run_audit.proofs.StopLemmas.{stops_first}
use Rattle.run_audit.specs.Begins.{BeginsPart, BeginsThen, BeginsToPlay, BeginsToPlayByArms, BeginsTurnsByArms, BeginsTurnsFor, is_plain}
use Rattle.run_audit.specs.Played.{ComesOf, GoesOnWith, HasPlayedOn, IsNextReason, PlaysPart, StopsIn, StopsMidway, StopsPart, lines_from}
use Rattle.run_audit.specs.Sound.{turns_of}
use Rattle.run_audit.specs.declared.lines.Rest.{Rest}
use Rattle.run_audit.specs.declared.verdict.Stop.{Stop}
use Rattle.run_audit.specs.declared.verdict.Stop.TheVariants.{At, OutOfMemory}

-- ---- lines

-- the lines of some rows, and of more behind them
lines_joined : (table : Table) (first : ℕ) (one two : List Row) → lines_from table first (one ++ two) ≡ lines_from table first one ++ lines_from table (first + length one) two
lines_joined table first one two =
    ap (λ (turns : List Turn). map (turn_line table) (enumerate_from first turns)) (map-append (λ (row : Row). row.turn) one two)
    ∙ ap (map (turn_line table)) (enumerate-append first (turns_of one) (turns_of two))
    ∙ map-append (turn_line table) (enumerate_from first (turns_of one)) (enumerate_from (first + length (turns_of one)) (turns_of two))
    ∙ ap (λ (n : ℕ). lines_from table first one ++ lines_from table (first + n) two) (length-map one (λ (row : Row). row.turn))

text_joined : (table : Table) (first : ℕ) (one two : List Row) (rest : List ℕ)
    → text_of_lines (lines_from table first one) ++ (text_of_lines (lines_from table (first + length one) two) ++ rest) ≡ text_of_lines (lines_from table first (one ++ two)) ++ rest
text_joined table first one two rest =
    sym (append_assoc (text_of_lines (lines_from table first one)) (text_of_lines (lines_from table (first + length one) two)) rest)
    ∙ ap (λ front. front ++ rest) (sym (text_of_lines-append (lines_from table first one) (lines_from table (first + length one) two)))
    ∙ ap (λ lines. text_of_lines lines ++ rest) (sym (lines_joined table first one two))

-- a text that goes on with the lines of some rows, and then with those of more
pub joined : (table : Table) (rows one two : List Row) (text rest behind : List ℕ) → text ≡ text_of_lines (lines_from table (length rows) one) ++ rest
    → rest ≡ text_of_lines (lines_from table (length (rows ++ one)) two) ++ behind → text ≡ text_of_lines (lines_from table (length rows) (one ++ two)) ++ behind
joined table rows one two text rest behind first second =
    first
    ∙ ap (λ more. text_of_lines (lines_from table (length rows) one) ++ more) second
    ∙ ap (λ (n : ℕ). text_of_lines (lines_from table (length rows) one) ++ (text_of_lines (lines_from table n two) ++ behind)) (length-append rows one)
    ∙ text_joined table (length rows) one two behind

-- ---- parts that are others

-- where the replay is, a part that stops is another that stops
pub stops_as : (table : Table) (begins next : Situation → List Row → Type 0) (whole second : Situation → List Row → Situation → Type 0) (old : Replay) (text : Rest) (stop : Stop)
    → ((rows : List Row) (situation : Situation) → IsReplayAt table rows old situation → (Next : Row → Type 0) (part : List Row)
    → StopsIn old.book.members begins whole Next situation part → StopsIn old.book.members next second Next situation part)
    → StopsPart table begins whole old text stop → StopsPart table next second old text stop
stops_as table begins next whole second old text OutOfMemory alike stops = tt
stops_as table begins next whole second old text (At line why) alike stops = λ rows situation is.
    let had = stops rows situation is in
    record {
      part = had.part;
      legal = had.legal;
      rest = had.rest;
      stops = alike rows situation is (GoesOnWith old.book.members table (rows ++ had.part) had.rest) had.part had.stops;
      text_is = had.text_is;
      line_is = had.line_is;
      reason = had.reason;
    }

-- a part that is whole is another that is whole
pub plays_as : (table : Table) (whole second : Situation → List Row → Situation → Type 0) (old : Replay) (text : Rest) (new : Replay) (rest : Rest)
    → ((rows : List Row) (situation : Situation) → IsReplayAt table rows old situation → (part : List Row) (after : Situation) → whole situation part after → second situation part after)
    → HasPlayedOn table whole old text new rest → HasPlayedOn table second old text new rest
plays_as table whole second old text new rest alike played = record {
  plays = λ rows situation is.
      let had = played.plays rows situation is in
      record { part = had.part; after = had.after; is = alike rows situation is had.part had.after had.is; text_is = had.text_is; number = had.number; ready = had.ready };
  members = played.members;
  few = played.few;
}

-- what begins the one begins the other, and what is whole of the one is whole of the other
pub record AreAsOne (begins next : Situation → List Row → Type 0) (whole second : Situation → List Row → Situation → Type 0) (situation : Situation) : Type 0 where
  pub begins_so : (rows : List Row) → begins situation rows → next situation rows
  pub begins_back : (rows : List Row) → next situation rows → begins situation rows
  pub ends_so : (rows : List Row) (after : Situation) → whole situation rows after → second situation rows after
  pub ends_back : (rows : List Row) (after : Situation) → second situation rows after → whole situation rows after

pub comes_as : {X : Type 0} (table : Table) (begins next : Situation → List Row → Type 0) (whole second : Situation → List Row → Situation → Type 0) (old : Replay) (text : Rest) (new : Replay) (rest : Rest)
    (result : Result X Stop) → ((rows : List Row) (situation : Situation) → IsReplayAt table rows old situation → AreAsOne begins next whole second situation)
    → ComesOf table begins whole old text new rest result → ComesOf table next second old text new rest result
comes_as table begins next whole second old text new rest (Ok done) alike comes =
    plays_as table whole second old text new rest (λ rows situation is part after had. (alike rows situation is).ends_so part after had) comes
comes_as table begins next whole second old text new rest (Err stop) alike comes =
    stops_as table begins next whole second old text stop
    (λ rows situation is Next part stops. record {
      begun = (alike rows situation is).begins_so part stops.begun;
      not_whole = λ front more after had twins. stops.not_whole front more after ((alike rows situation is).ends_back front after had) twins;
      stuck = λ others row twins next had. stops.stuck others row twins next ((alike rows situation is).begins_back (others ++ row ∷ []) had);
    })
    comes

-- the tasks of a list are those that the situation asks for
pub asked_comes : {X : Type 0} (table : Table) (asked : Situation → List Task) (members : ℕ) (tasks : List Listed) (old : Replay) (text : Rest) (new : Replay) (rest : Rest) (result : Result X Stop)
    → AreAsked asked old tasks → ComesOf table (BeginsToPlay members (λ situation. tasks_in tasks)) (Plays members (λ situation. tasks_in tasks)) old text new rest result
    → ComesOf table (BeginsToPlay members asked) (Plays members asked) old text new rest result
asked_comes table asked members tasks old text new rest result all comes =
    comes_as table (BeginsToPlay members (λ situation. tasks_in tasks)) (BeginsToPlay members asked) (Plays members (λ situation. tasks_in tasks)) (Plays members asked) old text new rest result
    (λ rows situation is.
    let same = all table rows situation is in
    record {
      begins_so = λ part had. subst (λ (l : List Task). BeginsTurnsFor members situation l part) same had;
      begins_back = λ part had. subst (λ (l : List Task). BeginsTurnsFor members situation l part) (sym same) had;
      ends_so = λ part after had. subst (λ (l : List Task). Performs members l situation part after) same had;
      ends_back = λ part after had. subst (λ (l : List Task). Performs members l situation part after) (sym same) had;
    })
    comes

pub asked_played : (table : Table) (asked : Situation → List Task) (members : ℕ) (tasks : List Listed) (old : Replay) (text : Rest) (new : Replay) (rest : Rest) → AreAsked asked old tasks
    → HasPlayedOn table (Plays members (λ situation. tasks_in tasks)) old text new rest → HasPlayedOn table (Plays members asked) old text new rest
asked_played table asked members tasks old text new rest all played = asked_comes {X = ⊤} table asked members tasks old text new rest (Ok tt) all played

pub asked_stops : (table : Table) (asked : Situation → List Task) (members : ℕ) (tasks : List Listed) (old : Replay) (text : Rest) (stop : Stop) → AreAsked asked old tasks
    → StopsPart table (BeginsToPlay members (λ situation. tasks_in tasks)) (Plays members (λ situation. tasks_in tasks)) old text stop
    → StopsPart table (BeginsToPlay members asked) (Plays members asked) old text stop
asked_stops table asked members tasks old text stop all stops = asked_comes {X = ⊤} table asked members tasks old text old text (Err stop) all stops

-- the same on disks that may be armed
pub asked_comes_by_arms : {X : Type 0} (table : Table) (asked : Situation → List Task) (members : ℕ) (tasks : List Listed) (old : Replay) (text : Rest) (new : Replay) (rest : Rest) (result : Result X Stop)
    → AreAsked asked old tasks → ComesOf table (BeginsToPlayByArms members (λ situation. tasks_in tasks)) (PlaysByArms members (λ situation. tasks_in tasks)) old text new rest result
    → ComesOf table (BeginsToPlayByArms members asked) (PlaysByArms members asked) old text new rest result
asked_comes_by_arms table asked members tasks old text new rest result all comes =
    comes_as table (BeginsToPlayByArms members (λ situation. tasks_in tasks)) (BeginsToPlayByArms members asked) (PlaysByArms members (λ situation. tasks_in tasks)) (PlaysByArms members asked) old text new rest result
    (λ rows situation is.
    let same = all table rows situation is in
    record {
      begins_so = λ part had. subst (λ (l : List Task). BeginsTurnsByArms members situation l part) same had;
      begins_back = λ part had. subst (λ (l : List Task). BeginsTurnsByArms members situation l part) (sym same) had;
      ends_so = λ part after had. subst (λ (l : List Task). PerformsByArms members l situation part after) same had;
      ends_back = λ part after had. subst (λ (l : List Task). PerformsByArms members l situation part after) (sym same) had;
    })
    comes

-- ---- a change behind turns

-- a change of the replay behind turns of tasks
pub played_plain : (table : Table) (asked : Situation → List Task) (change : Situation → Situation) (members : ℕ) (old now new : Replay) (text rest : Rest)
    → HasPlayedOn table (Plays members asked) old text now rest → ChangesReplay change now new → new.book.members ≡ now.book.members
    → HasPlayedOn table (Plain members asked change) old text new rest
played_plain table asked change members old now new text rest played changes same = record {
  plays = λ rows situation is.
      let had = played.plays rows situation is in
      record {
        part = had.part;
        after = change had.after;
        is = record { front = had.part; middle = had.after; back = []; parts = sym (append_nil had.part); one = had.is; two = record { none = refl; is = refl } };
        text_is = had.text_is;
        number = had.number;
        ready = changes table (rows ++ had.part) had.after had.ready;
      };
  members = same ∙ played.members;
  few = played.few;
}

-- no change comes where the turns stop
pub plain_stops : (table : Table) (asked : Situation → List Task) (change : Situation → Situation) (members : ℕ) (old : Replay) (text : Rest) (stop : Stop)
    → StopsPart table (BeginsToPlay members asked) (Plays members asked) old text stop → StopsPart table (BeginsToPlay members asked) (Plain members asked change) old text stop
plain_stops table asked change members old text stop =
    stops_as table (BeginsToPlay members asked) (BeginsToPlay members asked) (Plays members asked) (Plain members asked change) old text stop
    (λ rows situation is Next part stops. record {
      begun = stops.begun;
      not_whole = λ front more after had twins.
          let all : had.front ≡ front = sym (had.parts ∙ ap (λ (l : List Row). had.front ++ l) had.two.none ∙ append_nil had.front) in
          stops.not_whole front more had.middle (subst (λ (l : List Row). Plays members asked situation l had.middle) all had.one) twins;
      stuck = stops.stuck;
    })

-- nothing is left to play
pub played_none : (table : Table) (old : Replay) (text : Rest) → text.number + length text.text.now < 2 ^ 32 → HasPlayedOn table Stays old text old text
played_none table old text few = record {
  plays = λ rows situation is. record {
    part = [];
    after = situation;
    is = record { none = refl; is = refl };
    text_is = refl;
    number = let same : text.number ≡ text.number + 0 = omega arith in same;
    ready = subst (λ (l : List Row). IsReplayAt table l old situation) (sym (append_nil rows)) is;
  };
  members = refl;
  few = few;
}

-- a change of the replay alone
pub played_set : (table : Table) (change : Situation → Situation) (old new : Replay) (text : Rest) → text.number + length text.text.now < 2 ^ 32 → ChangesReplay change old new
    → new.book.members ≡ old.book.members → HasPlayedOn table (Sets change) old text new text
played_set table change old new text few changes same = record {
  plays = λ rows situation is. record {
    part = [];
    after = change situation;
    is = record { none = refl; is = refl };
    text_is = refl;
    number = let same : text.number ≡ text.number + 0 = omega arith in same;
    ready = subst (λ (l : List Row). IsReplayAt table l new (change situation)) (sym (append_nil rows)) (changes table rows situation is);
  };
  members = same;
  few = few;
}

pub played_ready : (table : Table) (whole : Situation → List Row → Situation → Type 0) (old new : Replay) (text rest : Rest) → HasPlayedOn table whole old text new rest → IsInSituation table old
    → IsInSituation table new
played_ready table whole old new text rest played ready =
    let had = played.plays ready.rows ready.situation ready.is in
    record { rows = ready.rows ++ had.part; situation = had.after; is = had.ready }

-- a command of the run names one of its replicas
named : (members : ℕ) (window : Window) (given : Command) → IsInRange members window given → NamesMember members given
named members window (command.Round at rounds) range = tt
named members window (command.Campaign who) range = tt
named members window (command.Stop who) range = tt
named members window (command.Break who pass image) range = tt
named members window (command.Restart who) range = tt
named members window (command.Cut from to) range = tt
named members window command.Heal range = tt
named members window (command.Drop from to) range = range.1
named members window (command.Repeat from to) range = range.1
named members window (command.Reverse who) range = range
named members window (command.Again letter) range = tt
named members window (command.Skew who minutes) range = range.0
named members window (command.Fate who word) range = range
named members window (command.Arrive late) range = tt
named members window (command.Settle at) range = tt
named members window (command.Walk to) range = tt
named members window (command.Free at turns) range = tt

pub names_member : (members : ℕ) (window : Window) (given : Command) (count : ℕ) → count ≡ members → IsInRange members window given → NamesMember count given
names_member members window given count same range = subst (λ (n : ℕ). NamesMember n given) (sym same) (named members window given range)

-- ---- from one part into another

-- What has been played leads from one part into another: what comes of that behind it comes of the one. It is what a loop keeps.
pub record LeadsOn (table : Table) (begins : Situation → List Row → Type 0) (whole : Situation → List Row → Situation → Type 0) (next : Situation → List Row → Type 0)
    (second : Situation → List Row → Situation → Type 0) (old now : Replay) (text rest : Rest) : Type 0 where
  pub members : now.book.members ≡ old.book.members
  pub few : rest.number + length rest.text.now < 2 ^ 32
  pub ready : IsInSituation table old → IsInSituation table now
  pub ends : (new : Replay) (behind : Rest) → PlaysPart table second now rest new behind → PlaysPart table whole old text new behind
  pub stops : (stop : Stop) → StopsPart table next second now rest stop → StopsPart table begins whole old text stop

pub leads_here : (table : Table) (begins : Situation → List Row → Type 0) (whole : Situation → List Row → Situation → Type 0) (old : Replay) (text : Rest)
    → text.number + length text.text.now < 2 ^ 32 → LeadsOn table begins whole begins whole old old text text
leads_here table begins whole old text few = record {
  members = refl;
  few = few;
  ready = λ ready. ready;
  ends = λ new behind plays. plays;
  stops = λ stop stops. stops;
}

-- a part that was played leads on, where its turns lead from the one part into the other
pub leads_by : (table : Table) (members : ℕ) (begins : Situation → List Row → Type 0) (whole : Situation → List Row → Situation → Type 0) (next : Situation → List Row → Type 0)
    (second one : Situation → List Row → Situation → Type 0) (old now : Replay) (text rest : Rest) → old.book.members ≡ members → HasPlayedOn table one old text now rest
    → ((rows : List Row) (situation : Situation) → IsReplayAt table rows old situation → (done : List Row) (middle : Situation) → one situation done middle
    → Leads members begins whole situation done next second middle)
    → LeadsOn table begins whole next second old now text rest
leads_by table members begins whole next second one old now text rest same played leads = record {
  members = played.members;
  few = played.few;
  ready = played_ready table one old now text rest played;
  ends = λ new behind plays rows situation is.
      let had = played.plays rows situation is in
      let more = plays (rows ++ had.part) had.after had.ready in
      let size = length-append had.part more.part in
      let first = had.number in
      let last = more.number in
      record {
        part = had.part ++ more.part;
        after = more.after;
        is = (leads rows situation is had.part had.after had.is).ends more.part more.after more.is;
        text_is = joined table rows had.part more.part text.text.now rest.text.now behind.text.now had.text_is more.text_is;
        number = omega (arith, size, first, last);
        ready = subst (λ (l : List Row). IsReplayAt table l new more.after) (append_assoc rows had.part more.part) more.ready;
      };
  stops = stopped;
}
  where
    stopped : (stop : Stop) → StopsPart table next second now rest stop → StopsPart table begins whole old text stop
    stopped OutOfMemory stops = tt
    stopped (At line why) stops = λ rows situation is.
        let had = played.plays rows situation is in
        let more : StopsMidway members table next second (rows ++ had.part) had.after rest (line, why) =
        subst (λ (n : ℕ). StopsMidway n table next second (rows ++ had.part) had.after rest (line, why)) (played.members ∙ same) (stops (rows ++ had.part) had.after had.ready) in
        let over : (rows ++ had.part) ++ more.part ≡ rows ++ (had.part ++ more.part) = append_assoc rows had.part more.part in
        let size = length-append had.part more.part in
        let first = had.number in
        let last = more.line_is in
        let both : StopsMidway members table begins whole rows situation text (line, why) = record {
          part = had.part ++ more.part;
          legal = subst (IsLegal members table) over more.legal;
          rest = more.rest;
          stops =
              subst (λ (l : List Row). StopsIn members begins whole (GoesOnWith members table l more.rest) situation (had.part ++ more.part)) over
              ((leads rows situation is had.part had.after had.is).stops (GoesOnWith members table ((rows ++ had.part) ++ more.part) more.rest) more.part more.stops);
          text_is = joined table rows had.part more.part text.text.now rest.text.now more.rest had.text_is more.text_is;
          line_is = omega (arith, size, first, last);
          reason = subst (λ (l : List Row). IsNextReason members table l more.rest why) over more.reason;
        } in
        subst (λ (n : ℕ). StopsMidway n table begins whole rows situation text (line, why)) (sym same) both

pub leads_after : (table : Table) (begins next third : Situation → List Row → Type 0) (whole second last : Situation → List Row → Situation → Type 0) (old now new : Replay) (text rest behind : Rest)
    → LeadsOn table begins whole next second old now text rest → LeadsOn table next second third last now new rest behind → LeadsOn table begins whole third last old new text behind
leads_after table begins next third whole second last old now new text rest behind one two = record {
  members = two.members ∙ one.members;
  few = two.few;
  ready = λ ready. two.ready (one.ready ready);
  ends = λ after beyond plays. one.ends after beyond (two.ends after beyond plays);
  stops = λ stop stops. one.stops stop (two.stops stop stops);
}

-- what comes of the rest comes of the whole
pub leads_end : (table : Table) (begins next : Situation → List Row → Type 0) (whole second : Situation → List Row → Situation → Type 0) (old now new : Replay) (text rest behind : Rest)
    → LeadsOn table begins whole next second old now text rest → HasPlayedOn table second now rest new behind → HasPlayedOn table whole old text new behind
leads_end table begins next whole second old now new text rest behind leads played = record {
  plays = leads.ends new behind played.plays;
  members = played.members ∙ leads.members;
  few = played.few;
}

pub leads_come : {X : Type 0} (table : Table) (begins next : Situation → List Row → Type 0) (whole second : Situation → List Row → Situation → Type 0) (old now new : Replay) (text rest behind : Rest)
    (result : Result X Stop) → LeadsOn table begins whole next second old now text rest → ComesOf table next second now rest new behind result → ComesOf table begins whole old text new behind result
leads_come table begins next whole second old now new text rest behind (Ok done) leads comes = leads_end table begins next whole second old now new text rest behind leads comes
leads_come table begins next whole second old now new text rest behind (Err stop) leads comes = leads.stops stop comes

-- a whole part leads into the part behind it
module _ (table : Table) (begins next : Situation → List Row → Type 0) (whole second : Situation → List Row → Situation → Type 0) (old : Replay) (text : Rest)
    (as_whole : BeginsAsWhole begins whole) (ends : EndsThere old.book.members begins whole) (alike : EndAlike old.book.members whole whole) where
  pub then_leads : (now : Replay) (rest : Rest) → HasPlayedOn table whole old text now rest → LeadsOn table (BeginsThen begins whole next) (Then whole second) next second old now text rest
  then_leads now rest played =
      leads_by table old.book.members (BeginsThen begins whole next) (Then whole second) next second whole old now text rest refl played
      (λ rows situation is done middle one. leads_then old.book.members begins whole next second as_whole ends alike situation done middle one)

  -- what stops within the first part stops within both
  pub then_stops : (stop : Stop) → StopsPart table begins whole old text stop → StopsPart table (BeginsThen begins whole next) (Then whole second) old text stop
  then_stops stop =
      stops_as table begins (BeginsThen begins whole next) whole (Then whole second) old text stop
      (λ rows situation is Next part stops. stops_first old.book.members begins whole next second Next as_whole ends alike situation part stops)

-- ---- commands

-- the part of a command that asks for a turn at most
pub plain_comes : {X : Type 0} (table : Table) (members : ℕ) (given : Command) (old : Replay) (text : Rest) (new : Replay) (rest : Rest) (result : Result X Stop) → is_plain given ≡ true
    → ComesOf table (BeginsToPlay members (tasks_for given)) (Plain members (tasks_for given) (set_by given)) old text new rest result
    → ComesOf table (BeginsPart members table given) (IsPartOf members table given) old text new rest result
plain_comes table members (command.Campaign who) old text new rest result plain comes = absurd cc
plain_comes table members (command.Round at rounds) old text new rest result plain comes = absurd cc
plain_comes table members (command.Settle at) old text new rest result plain comes = absurd cc
plain_comes table members (command.Walk to) old text new rest result plain comes = absurd cc
plain_comes table members (command.Break who pass image) old text new rest result plain comes = absurd cc
plain_comes table members (command.Free at turns) old text new rest result plain comes = absurd cc
plain_comes table members (command.Stop who) old text new rest result plain comes = comes
plain_comes table members (command.Restart who) old text new rest result plain comes = comes
plain_comes table members (command.Cut from to) old text new rest result plain comes = comes
plain_comes table members command.Heal old text new rest result plain comes = comes
plain_comes table members (command.Drop from to) old text new rest result plain comes = comes
plain_comes table members (command.Repeat from to) old text new rest result plain comes = comes
plain_comes table members (command.Reverse who) old text new rest result plain comes = comes
plain_comes table members (command.Again letter) old text new rest result plain comes = comes
plain_comes table members (command.Skew who minutes) old text new rest result plain comes = comes
plain_comes table members (command.Fate who word) old text new rest result plain comes = comes
plain_comes table members (command.Arrive late) old text new rest result plain comes = comes

-- The rows of a place are its command's part.
use Rattle.std.proofs.Common.{◌≡◌, ◌<◌, ◌≤◌, ◌+◌, ◌-◌, ℕ, zero, suc, List, [], ◌∷◌, ◌++◌, Some, length, map, take, drop, get_or, append-nil, append_assoc, arith, refl, sym, subst, ap, ◌∙◌}
use Rattle.std.specs.Prelude.{pos, slice_get, ◌-ℤ◌}
use Rattle.std.specs.List.{enumerate_from}
use Rattle.std.proofs.Math.Seq.{drop-append_seam, take-length}
use Rattle.std.proofs.lemmas.List.{drop-map, drop-take, get_or_default, get_or_past, length-map, length-take-le, take-append-drop, take-map}
use Rattle.std.proofs.lemmas.Option.{slice_get_within}
use Rattle.due_set.specs.Table.{Table}
use Rattle.script_text.specs.declared.command.Command.{Command}
use Rattle.history.specs.Book.{Row}
use Rattle.history.specs.declared.turn.Turn.{Turn}
use Rattle.script_semantics.specs.Parts.{Then}
use Rattle.script_semantics.specs.Script.{ArePartsOf, IsPartOf}
use Rattle.script_semantics.specs.Settling.{Walks}
use Rattle.script_semantics.specs.Situation.{Situation, first_situation}
use Rattle.world_law.specs.Book.{BookState, StandsBehind}
use Rattle.journal_text.specs.Journal.{end_of, numbered_turns, part_turns}
use Rattle.journal_text.specs.Starts.{part_rows}
use Rattle.script_semantics.specs.Starts.{BeginAt}
use Rattle.journal_text.proofs.Determined.{parts_alike}
use Rattle.journal_text.proofs.PartLemmas.{ends_behind}
use Rattle.journal_text.proofs.StartLemmas.{are_starts, none_before}
use Rattle.journal_text.proofs.Twins.{AreTwins, twins_refl}

-- ---- the last of some commands

last_part : (members : ℕ) (table : Table) (script : List Command) (place : ℕ) (command : Command) (situation : Situation) (rows : List Row) (after : Situation)
    → slice_get script place ≡ Some command → ArePartsOf members table (take (suc place) script) situation rows after
    → Then (ArePartsOf members table (take place script)) (IsPartOf members table command) situation rows after
last_part members table [] place command situation rows after is parts = absurd cc
last_part members table (given ∷ script) zero command situation rows after is parts =
    let same : given ≡ command = cc in
    let stays = none_before members table script parts.middle parts.back after parts.two in
    let whole : parts.front ≡ rows = sym (parts.parts ∙ ap (λ (l : List Row). parts.front ++ l) stays.none ∙ append-nil parts.front) in
    record {
      front = [];
      middle = situation;
      back = rows;
      parts = refl;
      one = record { none = refl; is = refl };
      two = subst (λ (l : List Row). IsPartOf members table command situation l after) whole
          (subst (λ (s : Situation). IsPartOf members table command situation parts.front s) (sym stays.is)
          (subst (λ (c : Command). IsPartOf members table c situation parts.front parts.middle) same parts.one));
    }
last_part members table (given ∷ script) (suc place) command situation rows after is parts =
    let rest = last_part members table script place command parts.middle parts.back after is parts.two in
    record {
      front = parts.front ++ rest.front;
      middle = rest.middle;
      back = rest.back;
      parts = parts.parts ∙ ap (λ (l : List Row). parts.front ++ l) rest.parts ∙ sym (append_assoc parts.front rest.front rest.back);
      one = record { front = parts.front; middle = parts.middle; back = rest.front; parts = refl; one = parts.one; two = rest.one };
      two = rest.two;
    }

-- ---- the rows of a place

-- the rows of a place are such a part, and those in front of them the parts of some commands, at whose end it begins
abbrev pub HasPart : (members : ℕ) → Table → (ahead : List Command) → List Row → (starts : List ℕ) → (place : ℕ)
    → (part : Situation → List Row → Situation → Type 0) → Type 0
HasPart members table ahead rows starts place part =
    (before after : Situation) × ArePartsOf members table ahead (first_situation members table) (take (get_or starts place 0) rows) before
    × part before (part_rows rows starts place) after

-- what is behind the parts of the commands before a place, up to where the place ends, is in the rows of the place
part_at : (members : ℕ) (table : Table) (script : List Command) (rows : List Row) (starts : List ℕ) (place : ℕ) (part : Situation → List Row → Situation → Type 0)
    (after : Situation) → BeginAt members table script rows starts → place < length starts
    → Then (ArePartsOf members table (take place script)) part (first_situation members table) (take (end_of starts (length rows) place) rows) after
    → HasPart members table (take place script) rows starts place part
part_at members table script rows starts place part after begin within split =
    let (before, ahead) = begin.before place within in
    let start = first_situation members table in
    let n = get_or starts place 0 in
    let m = end_of starts (length rows) place in
    let behind : n ≤ m = ends_behind (length rows) starts place (are_starts members table script rows starts begin) within in
    let whole : split.front ++ (split.back ++ drop m rows) ≡ rows =
    sym (append_assoc split.front split.back (drop m rows)) ∙ ap (λ (l : List Row). l ++ drop m rows) (sym split.parts) ∙ take-append-drop m rows in
    let twins : AreTwins members start.standing (take n rows ++ drop n rows) (split.front ++ (split.back ++ drop m rows)) =
    subst (λ (l : List Row). AreTwins members start.standing l (split.front ++ (split.back ++ drop m rows))) (sym (take-append-drop n rows))
    (subst (λ (l : List Row). AreTwins members start.standing rows l) (sym whole) (twins_refl members start.standing rows)) in
    let ends = parts_alike members table (take place script) start (take n rows) split.front (drop n rows) (split.back ++ drop m rows) before split.middle
    ahead split.one twins in
    let size : length split.front ≡ n = sym ends.size ∙ length-take-le n rows (begin.within place 0 within) in
    let sum : m ≡ n + (m - n) = omega arith in
    let back : split.back ≡ part_rows rows starts place =
    sym (drop-append_seam split.front split.back) ∙ ap (λ k. drop k (split.front ++ split.back)) size ∙ ap (drop n) (sym split.parts)
    ∙ ap (λ k. drop n (take k rows)) sum ∙ drop-take n (m - n) rows in
    (before, after, ahead, subst (λ (l : List Row). part before l after) back (subst (λ (s : Situation). part s split.back after) (sym ends.same) split.two))

-- **The rows of a command's place are its part.**
pub command_part : (members : ℕ) (table : Table) (script : List Command) (rows : List Row) (starts : List ℕ) (place : ℕ) (command : Command)
    → BeginAt members table script rows starts → slice_get script place ≡ Some command → HasPart members table (take place script) rows starts place (IsPartOf members table command)
command_part members table script rows starts place command begin is =
    let less = slice_get_within script place command is in
    let count = begin.count in
    let next : suc place < length starts = omega arith in
    let (after, parts) = begin.before (suc place) next in
    let end : get_or starts (suc place) 0 ≡ end_of starts (length rows) place = get_or_default starts (suc place) 0 (length rows) next in
    part_at members table script rows starts place (IsPartOf members table command) after begin (omega arith)
    (last_part members table script place command (first_situation members table) (take (end_of starts (length rows) place) rows) after is
    (subst (λ k. ArePartsOf members table (take (suc place) script) (first_situation members table) (take k rows) after) end parts))

-- **The rows behind all commands' are the walk's.**
pub walk_part : (members : ℕ) (table : Table) (script : List Command) (rows : List Row) (starts : List ℕ) → BeginAt members table script rows starts
    → HasPart members table script rows starts (length script) (Walks members table (table.window.until.0 -ℤ pos 1))
walk_part members table script rows starts begin =
    let all = begin.obeys.obeys in
    let count = begin.count in
    let walks = Walks members table (table.window.until.0 -ℤ pos 1) in
    let end : end_of starts (length rows) (length script) ≡ length rows = get_or_past starts (suc (length script)) (length rows) (omega arith) in
    subst (λ (l : List Command). HasPart members table l rows starts (length script) walks) (take-length script)
    (part_at members table script rows starts (length script) walks begin.obeys.after begin (omega arith)
    (subst (λ (l : List Row). Then (ArePartsOf members table (take (length script) script)) walks (first_situation members table) l begin.obeys.after)
    (sym (ap (λ k. take k rows) end ∙ take-length rows))
    (subst (λ (l : List Command). Then (ArePartsOf members table l) walks (first_situation members table) rows begin.obeys.after) (sym (take-length script)) all)))

-- **They are what a journal tells there.**
pub told_part : (table : Table) (book : BookState) (rows : List Row) (starts : List ℕ) (place : ℕ) → StandsBehind table rows book
    → part_turns book.turns starts place ≡ enumerate_from (get_or starts place 0) (map (λ (row : Row). row.turn) (part_rows rows starts place))
told_part table book rows starts place behind =
    let turn_of = λ (row : Row). row.turn in
    let n = get_or starts place 0 in
    let size : length (map turn_of rows) ≡ length rows = length-map _ _ in
    let m = end_of starts (length rows) place in
    ap (λ (l : List Turn). part_turns l starts place) behind.turns
    ∙ ap (λ k. numbered_turns (map turn_of rows) n (end_of starts k place)) size
    ∙ ap (λ (l : List Turn). enumerate_from n (take (m - n) l)) (drop-map turn_of n rows)
    ∙ ap (enumerate_from n) (take-map turn_of (m - n) (drop n rows))

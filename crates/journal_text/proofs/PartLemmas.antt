-- The lines of parts, and the turns that they tell.
use Rattle.std.proofs.Common.{◌≡◌, inl, inr, ◌<◌, ◌≤◌, ◌+◌, ◌-◌, ℕ, zero, suc, List, [], ◌∷◌, ◌++◌, length, map, take, drop, get_or, append-nil, append_assoc, length-append, add-one, arith, refl, sym, subst, ap, ◌∙◌, Result, Ok, Err}
use Rattle.std.specs.Prelude.{codes, flat_map, All, IsErrAnd}
use Rattle.std.specs.List.{enumerate_from, range_with_len}
use Rattle.std.proofs.Math.ListN.{get_or-map}
use Rattle.std.proofs.lemmas.Bool.{cases_lt}
use Rattle.std.proofs.Math.Seq.{drop-append_seam, take-length}
use Rattle.std.proofs.lemmas.Grind.{flat_map-append}
use Rattle.std.proofs.lemmas.List.{drop-take, get_or_default, get_or_past, length-map, length-take-le, map-append, take-append-drop, take-take, take_all, take_more}
use Rattle.std.proofs.lemmas.List.Elements.{All-drop}
use Rattle.std.proofs.lemmas.List.FromFn.{get_or-enumerate_from, length-enumerate_from}
use Rattle.due_set.specs.Table.{Table}
use Rattle.history.specs.declared.turn.Turn.{Turn}
use Rattle.cron_io.specs.Views.{SinkView}
use Rattle.cron_io.specs.Lines.{text_of_lines}
use Rattle.cron_io.proofs.ListLemmas.{range_more}
use Rattle.report_text.specs.Writes.{HasWritten, Writes}
use Rattle.report_text.specs.declared.fault.ReportFault.{ReportFault}
use Rattle.report_text.proofs.WritingLemmas.{writes_exit, writes_on}
use Rattle.journal_text.specs.Journal.{end_of, journal_text, numbered_turns, part_lines, part_turns, turn_line}
use Rattle.script_semantics.specs.Starts.{AreStarts}

-- ---- turns

pub line_within : (table : Table) (first : ℕ) (turns : List Turn) (i : ℕ) → i < length turns → i < length (map (turn_line table) (enumerate_from first turns))
line_within table first turns i lt =
    let lines : length (map (turn_line table) (enumerate_from first turns)) ≡ length (enumerate_from first turns) = length-map _ _ in
    let count = length-enumerate_from first turns in
    omega arith

pub line_at : (table : Table) (first : ℕ) (turns : List Turn) (i : ℕ) (turn : Turn) → i < length turns → turn ≡ get_or turns i turn
    → turn_line table (first + i, turn) ≡ get_or (map (turn_line table) (enumerate_from first turns)) i (turn_line table (first + i, turn))
line_at table first turns i turn lt is =
    let here : ℕ × Turn = (first + i, turn) in
    sym (
    get_or-map (turn_line table) (enumerate_from first turns) i here
    ∙ ap (turn_line table) (get_or-enumerate_from first turns i here lt ∙ ap (λ (t : Turn). (first + i, t)) (sym is))
    )

pub lines_all : (table : Table) (first : ℕ) (turns : List Turn) (i : ℕ) → length turns ≤ i
    → take i (map (turn_line table) (enumerate_from first turns)) ≡ map (turn_line table) (enumerate_from first turns)
lines_all table first turns i past =
    let lines : length (map (turn_line table) (enumerate_from first turns)) ≡ length (enumerate_from first turns) = length-map _ _ in
    let count = length-enumerate_from first turns in
    take_all i (map (turn_line table) (enumerate_from first turns)) (omega arith)

-- what lines spell: those before a place, and the one there
pub text_more : (lines : List (List ℕ)) (i : ℕ) (line : List ℕ) → i < length lines → line ≡ get_or lines i line
    → text_of_lines (take (i + 1) lines) ≡ text_of_lines (take i lines) ++ (line ++ 10 ∷ [])
text_more lines i line lt is =
    ap text_of_lines (take_more lines i line lt ∙ ap (λ (l : List ℕ). take i lines ++ l ∷ []) (sym is))
    ∙ flat_map-append (λ (l : List ℕ). l ++ 10 ∷ []) (take i lines) (line ∷ [])
    ∙ ap (λ (l : List ℕ). text_of_lines (take i lines) ++ l) (append-nil (line ++ 10 ∷ []))

-- ---- lines

-- the lines of lists of lines, one after another
pub text_of_parts : {X : Type 0} (f : X → List (List ℕ)) (xs : List X) → text_of_lines (flat_map f xs) ≡ flat_map (λ (x : X). text_of_lines (f x)) xs
text_of_parts f [] = refl
text_of_parts {X} f (x ∷ xs) =
    flat_map-append (λ (line : List ℕ). line ++ 10 ∷ []) (f x) (flat_map f xs) ∙ ap (λ (l : List ℕ). text_of_lines (f x) ++ l) (text_of_parts f xs)

-- a text between two lines
pub text_between : (first last : List ℕ) (lines : List (List ℕ))
    → text_of_lines (first ∷ (lines ++ last ∷ [])) ≡ (first ++ 10 ∷ []) ++ (text_of_lines lines ++ (last ++ 10 ∷ []))
text_between first last lines =
    ap (λ (l : List ℕ). (first ++ 10 ∷ []) ++ l)
    (flat_map-append (λ (line : List ℕ). line ++ 10 ∷ []) lines (last ∷ []) ∙ ap (λ (l : List ℕ). text_of_lines lines ++ l) (append-nil (last ++ 10 ∷ [])))

-- a journal is its first line, the lines of its parts, and its last line
pub journal_is : (table : Table) (turns : List Turn) (starts : List ℕ)
    → (codes "cron journal 1" ++ 10 ∷ [])
    ++ (flat_map (λ place. text_of_lines (part_lines table turns starts place)) (range_with_len 0 (length starts)) ++ (codes "end" ++ 10 ∷ []))
    ≡ journal_text table turns starts
journal_is table turns starts =
    let lines = flat_map (part_lines table turns starts) (range_with_len 0 (length starts)) in
    sym (
    text_between (codes "cron journal 1") (codes "end") lines
    ∙ ap (λ (l : List ℕ). (codes "cron journal 1" ++ 10 ∷ []) ++ (l ++ (codes "end" ++ 10 ∷ []))) (text_of_parts (part_lines table turns starts) (range_with_len 0 (length starts)))
    )

-- ---- parts

enumerate-append : {X : Type 0} (n : ℕ) (xs ys : List X) → enumerate_from n (xs ++ ys) ≡ enumerate_from n xs ++ enumerate_from (n + length xs) ys
enumerate-append n [] ys = ap (λ k. enumerate_from k ys) (omega arith)
enumerate-append {X} n (x ∷ xs) ys =
    ap (λ (l : List (ℕ × X)). (n, x) ∷ l) (enumerate-append (n + 1) xs ys ∙ ap (λ k. enumerate_from (n + 1) xs ++ enumerate_from k ys) (omega arith))

-- the turns up to a number, and those from it up to another
numbered_join : (turns : List Turn) (a b : ℕ) → a ≤ b → b ≤ length turns → enumerate_from 0 (take a turns) ++ numbered_turns turns a b ≡ enumerate_from 0 (take b turns)
numbered_join turns a b le within =
    let long : length (take a turns) ≡ a = length-take-le a turns (omega arith) in
    let size : 0 + length (take a turns) ≡ a = omega arith in
    let shorter : take a (take b turns) ≡ take a turns = take-take a b turns le in
    let back : drop a (take b turns) ≡ take (b - a) (drop a turns) =
    let sum : b ≡ a + (b - a) = omega arith in
    ap (λ n. drop a (take n turns)) sum ∙ drop-take a (b - a) turns in
    let parts : take b turns ≡ take a turns ++ take (b - a) (drop a turns) =
    sym (take-append-drop a (take b turns)) ∙ ap (λ (l : List Turn). l ++ drop a (take b turns)) shorter ∙ ap (λ (l : List Turn). take a turns ++ l) back in
    sym (
    ap (enumerate_from 0) parts
    ∙ enumerate-append 0 (take a turns) (take (b - a) (drop a turns))
    ∙ ap (λ k. enumerate_from 0 (take a turns) ++ enumerate_from k (take (b - a) (drop a turns))) size
    )

-- where the part of a place begins; the place behind the last one is where the turns end
abbrev begin_of : (turns : ℕ) (starts : List ℕ) → ℕ → ℕ
begin_of turns starts place = get_or starts place turns

begin_within : (turns : ℕ) (starts : List ℕ) (place : ℕ) → AreStarts turns starts → begin_of turns starts place ≤ turns
begin_within turns starts place are = elim (cases_lt place (length starts)) [
  | inl lt ↦ are.within place turns lt
  | inr past ↦ (let is = get_or_past starts place turns past in omega arith)
]

-- a part ends behind its begin
pub ends_behind : (turns : ℕ) (starts : List ℕ) (place : ℕ) → AreStarts turns starts → place < length starts
    → get_or starts place 0 ≤ end_of starts turns place
ends_behind turns starts place are within =
    let here : get_or starts place turns ≡ get_or starts place 0 = get_or_default starts place turns 0 within in
    elim (cases_lt (suc place) (length starts)) [
      | inl lt ↦ (let rise = are.rise place (suc place) turns (omega arith) lt in omega arith)
      | inr past ↦ (
          let last = get_or_past starts (suc place) turns past in
          let low = are.within place 0 within in
          omega arith
          )
    ]

pub end_within : (turns : ℕ) (starts : List ℕ) (place : ℕ) → AreStarts turns starts → end_of starts turns place ≤ turns
end_within turns starts place are = begin_within turns starts (suc place) are

-- the turns of the first parts are those up to where the next one begins
first_parts : (turns : List Turn) (starts : List ℕ) (n : ℕ) → AreStarts (length turns) starts → n ≤ length starts
    → flat_map (part_turns turns starts) (range_with_len 0 n) ≡ enumerate_from 0 (take (begin_of (length turns) starts n) turns)
first_parts turns starts zero are le =
    let first : begin_of (length turns) starts 0 ≡ 0 = get_or_default starts 0 (length turns) 0 are.some ∙ are.first in
    sym (ap (λ n. enumerate_from 0 (take n turns)) first)
first_parts turns starts (suc n) are le =
    let within : n < length starts = omega arith in
    let front = first_parts turns starts n are (omega arith) in
    let here : get_or starts n (length turns) ≡ get_or starts n 0 = get_or_default starts n (length turns) 0 within in
    let one : flat_map (part_turns turns starts) (n ∷ []) ≡ part_turns turns starts n = append-nil (part_turns turns starts n) in
    ap (flat_map (part_turns turns starts)) (ap (range_with_len 0) (sym (add-one n)) ∙ range_more 0 n n (omega arith))
    ∙ flat_map-append (part_turns turns starts) (range_with_len 0 n) (n ∷ [])
    ∙ ap (λ (l : List (ℕ × Turn)). l ++ flat_map (part_turns turns starts) (n ∷ [])) front
    ∙ ap (λ (l : List (ℕ × Turn)). enumerate_from 0 (take (begin_of (length turns) starts n) turns) ++ l) one
    ∙ ap (λ k. enumerate_from 0 (take k turns) ++ part_turns turns starts n) here
    ∙ numbered_join turns (get_or starts n 0) (end_of starts (length turns) n) (ends_behind (length turns) starts n are within)
    (end_within (length turns) starts n are)

-- **The turns of the parts, one after another, are all turns, in order.**
pub all_parts : (turns : List Turn) (starts : List ℕ) → AreStarts (length turns) starts
    → flat_map (part_turns turns starts) (range_with_len 0 (length starts)) ≡ enumerate_from 0 turns
all_parts turns starts are =
    let last : begin_of (length turns) starts (length starts) ≡ length turns = get_or_past starts (length starts) (length turns) (omega arith) in
    first_parts turns starts (length starts) are (omega arith)
    ∙ ap (λ n. enumerate_from 0 (take n turns)) last ∙ ap (enumerate_from 0) (take-length turns)

-- ---- groups of turns

-- the lines of turns, the first of which has this number
abbrev pub lines_from : Table → (first : ℕ) → List Turn → List ℕ
lines_from table first turns = text_of_lines (map (turn_line table) (enumerate_from first turns))

-- the lines of turns, and then of others
lines-append : (table : Table) (first : ℕ) (xs ys : List Turn) → lines_from table first (xs ++ ys) ≡ lines_from table first xs ++ lines_from table (first + length xs) ys
lines-append table first xs ys =
    ap (λ (l : List (ℕ × Turn)). text_of_lines (map (turn_line table) l)) (enumerate-append first xs ys)
    ∙ ap text_of_lines (map-append (turn_line table) (enumerate_from first xs) (enumerate_from (first + length xs) ys))
    ∙ flat_map-append (λ (line : List ℕ). line ++ 10 ∷ []) (map (turn_line table) (enumerate_from first xs)) (map (turn_line table) (enumerate_from (first + length xs) ys))

-- some turns were told, the first of them by that number; these are left, whose first has this one
pub record IsTelling (table : Table) (old new : SinkView) (first : ℕ) (turns : List Turn) (next : ℕ) (rest : List Turn) : Type 0 where
  pub done : List Turn
  pub split : turns ≡ done ++ rest
  pub number : next ≡ first + length done
  pub written : HasWritten old new (lines_from table first done)

-- a group of those that are left was told
pub telling_more : (table : Table) (old new newer : SinkView) (first : ℕ) (turns : List Turn) (next : ℕ) (group others : List Turn)
    → IsTelling table old new first turns next (group ++ others) → HasWritten new newer (lines_from table next group)
    → IsTelling table old newer first turns (next + length group) others
telling_more table old new newer first turns next group others before w =
    let size = length-append before.done group in
    record {
      done = before.done ++ group;
      split = before.split ∙ sym (append_assoc before.done group others);
      number = let number = before.number in omega arith;
      written = subst (HasWritten old newer) (sym (lines-append table first before.done group))
          (writes_on old new newer tt (Ok tt) (lines_from table first before.done) (lines_from table (first + length before.done) group) before.written
          (subst (λ n. HasWritten new newer (lines_from table n group)) before.number w));
    }

-- a group of those that are left wasn't told whole
pub telling_exit : {S T : Type 0} (table : Table) (old new newer : SinkView) (first : ℕ) (turns : List Turn) (next : ℕ) (group others : List Turn)
    (fault : ReportFault) (result : Result T ReportFault) → IsTelling table old new first turns next (group ++ others) → IsErrAnd result (λ e. e ≡ fault)
    → (let failed : Result S ReportFault = Err fault in Writes new newer failed (lines_from table next group)) → Writes old newer result (lines_from table first turns)
telling_exit {S} {T} table old new newer first turns next group others fault result before is w =
    let told = lines_from table first before.done in
    let here = lines_from table next group in
    let left = lines_from table (next + length group) others in
    let rest : lines_from table (first + length before.done) (group ++ others) ≡ here ++ left =
    ap (λ n. lines_from table n (group ++ others)) (sym before.number) ∙ lines-append table next group others in
    let whole : told ++ (here ++ left) ≡ lines_from table first turns =
    ap (λ (l : List ℕ). told ++ l) (sym rest) ∙ sym (lines-append table first before.done (group ++ others)) ∙ ap (lines_from table first) (sym before.split) in
    subst (Writes old newer result) whole
    (writes_on old new newer tt result told (here ++ left) before.written (writes_exit {S = S} {T = T} new newer fault result here left is w))

-- of those that are left what holds of all holds
pub telling_left : (table : Table) (old new : SinkView) (first : ℕ) (turns : List Turn) (next : ℕ) (rest : List Turn) (P : Turn → Type 0)
    → IsTelling table old new first turns next rest → All P turns → All P rest
telling_left table old new first turns next rest P telling all =
    subst (All P) (ap (drop (length telling.done)) telling.split ∙ drop-append_seam telling.done rest) (All-drop P (length telling.done) turns all)

-- all are told
pub telling_all : (table : Table) (old new : SinkView) (first : ℕ) (turns : List Turn) (next : ℕ) (rest : List Turn)
    → IsTelling table old new first turns next rest → rest ≡ [] → HasWritten old new (lines_from table first turns)
telling_all table old new first turns next rest telling none =
    let all : telling.done ≡ turns = sym (telling.split ∙ ap (λ (l : List Turn). telling.done ++ l) none ∙ append-nil telling.done) in
    subst (λ (l : List Turn). HasWritten old new (lines_from table first l)) all telling.written

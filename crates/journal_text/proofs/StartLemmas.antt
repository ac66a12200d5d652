-- Where the parts of a script begin.
use Rattle.std.proofs.Common.{◌≡◌, ◌<◌, ◌≤◌, ◌+◌, ℕ, zero, suc, List, [], ◌∷◌, ◌++◌, length, map, take, drop, get_or, append_assoc, arith, refl, sym, subst, ap, ◌∙◌}
use Rattle.std.specs.Prelude.{pos, ◌-ℤ◌}
use Rattle.std.specs.List.{range_with_len}
use Rattle.std.proofs.Math.Seq.{take-append_seam}
use Rattle.std.proofs.lemmas.List.{ext_get_or, get_or_default, length-append, length-map, length-take-le, take-append-drop, take-take}
use Rattle.std.proofs.lemmas.List.Elements.{All-map}
use Rattle.std.proofs.lemmas.List.FromFn.{get_or-map-range_with_len, length-map-range_with_len}
use Rattle.due_set.specs.Table.{Table}
use Rattle.script_text.specs.declared.command.Command.{Command}
use Rattle.history.specs.Book.{Row, Standing}
use Rattle.script_semantics.specs.Parts.{Stays, Then}
use Rattle.script_semantics.specs.Script.{ArePartsOf, Obeys}
use Rattle.script_semantics.specs.Settling.{Walks}
use Rattle.script_semantics.specs.Situation.{Situation, first_situation}
use Rattle.world_law.specs.Book.{BookState, StandsBehind}
use Rattle.journal_text.specs.Journal.{journal_text}
use Rattle.journal_text.specs.Starts.{IsBookJournal}
use Rattle.script_semantics.specs.Starts.{AreStarts, BeginAt}
use Rattle.journal_text.proofs.Determined.{parts_alike}
use Rattle.journal_text.proofs.Twins.{AreTwins, twins_of_turns, twins_refl}

-- ---- the parts up to a command, and those from it on

split_none : (members : ℕ) (table : Table) (script : List Command) (situation : Situation) (rows : List Row) (after : Situation)
    → ArePartsOf members table script situation rows after → Then (ArePartsOf members table []) (ArePartsOf members table script) situation rows after
split_none members table script situation rows after parts = record {
  front = [];
  middle = situation;
  back = rows;
  parts = refl;
  one = record { none = refl; is = refl };
  two = parts;
}

parts_split : (members : ℕ) (table : Table) (script : List Command) (place : ℕ) (situation : Situation) (rows : List Row) (after : Situation)
    → ArePartsOf members table script situation rows after
    → Then (ArePartsOf members table (take place script)) (ArePartsOf members table (drop place script)) situation rows after
parts_split members table [] zero situation rows after parts = split_none members table [] situation rows after parts
parts_split members table [] (suc place) situation rows after parts = split_none members table [] situation rows after parts
parts_split members table (given ∷ script) zero situation rows after parts = split_none members table (given ∷ script) situation rows after parts
parts_split members table (given ∷ script) (suc place) situation rows after parts =
    let rest = parts_split members table script place parts.middle parts.back after parts.two in
    record {
      front = parts.front ++ rest.front;
      middle = rest.middle;
      back = rest.back;
      parts = parts.parts ∙ ap (λ (l : List Row). parts.front ++ l) rest.parts ∙ sym (append_assoc parts.front rest.front rest.back);
      one = record { front = parts.front; middle = parts.middle; back = rest.front; parts = refl; one = parts.one; two = rest.one };
      two = rest.two;
    }

-- ---- there are such numbers

module _ (members : ℕ) (table : Table) (script : List Command) (rows : List Row) (obeys : Obeys members table script rows) where
  abbrev all : Then (ArePartsOf members table script) (Walks members table (table.window.until.0 -ℤ pos 1)) (first_situation members table) rows obeys.after
  all = obeys.obeys

  abbrev split_at : (place : ℕ) → Then (ArePartsOf members table (take place script)) (ArePartsOf members table (drop place script)) (first_situation members table) all.front all.middle
  split_at place = parts_split members table script place (first_situation members table) all.front all.middle all.one

  abbrev start_at : ℕ → ℕ
  start_at place = length (split_at place).front

  front_at : (place : ℕ) → take (start_at place) rows ≡ (split_at place).front
  front_at place =
      let split = split_at place in
      let whole : rows ≡ split.front ++ (split.back ++ all.back) =
      all.parts ∙ ap (λ (l : List Row). l ++ all.back) split.parts ∙ append_assoc split.front split.back all.back in
      ap (take (start_at place)) whole ∙ take-append_seam split.front (split.back ++ all.back)

  start_within : (place : ℕ) → start_at place ≤ length rows
  start_within place =
      let split = split_at place in
      let outer : length rows ≡ length all.front + length all.back = ap length all.parts ∙ length-append all.front all.back in
      let here : start_at place ≡ length split.front = refl in
      let inner : length all.front ≡ length split.front + length split.back = ap length split.parts ∙ length-append split.front split.back in
      omega arith

  abbrev starts : List ℕ
  starts = map start_at (range_with_len 0 (suc (length script)))

  pub there : (numbers : List ℕ) × BeginAt members table script rows numbers
  there = (
    starts,
    record {
      obeys = obeys;
      count = length-map-range_with_len start_at 0 (suc (length script));
      within = All-map (λ start. start ≤ length rows) start_at (range_with_len 0 (suc (length script))) (λ k d lt. start_within _);
      before = λ place lt.
          let size : length starts ≡ suc (length script) = length-map-range_with_len start_at 0 (suc (length script)) in
          let within : place < suc (length script) = omega arith in
          let is : get_or starts place 0 ≡ start_at place = get_or-map-range_with_len start_at 0 (suc (length script)) place place 0 within (omega arith) in (
            (split_at place).middle,
            subst (λ (l : List Row). ArePartsOf members table (take place script) (first_situation members table) l (split_at place).middle)
                (sym (ap (λ n. take n rows) is ∙ front_at place)) (split_at place).one,
          );
    },
  )

-- ---- they are the only ones

twins_split : (members : ℕ) (standing : Standing) (rows others : List Row) (n m : ℕ) → AreTwins members standing rows others
    → AreTwins members standing (take n rows ++ drop n rows) (take m others ++ drop m others)
twins_split members standing rows others n m twins =
    subst (λ (l : List Row). AreTwins members standing l (take m others ++ drop m others)) (sym (take-append-drop n rows))
    (subst (λ (l : List Row). AreTwins members standing rows l) (sym (take-append-drop m others)) twins)

abbrev first_stands : ℕ → Table → Standing
first_stands members table = (first_situation members table).standing

-- the numbers are the same in rows that are twins
same_starts : (members : ℕ) (table : Table) (script : List Command) (rows others : List Row) (a b : List ℕ) → AreTwins members (first_stands members table) rows others
    → BeginAt members table script rows a → BeginAt members table script others b → a ≡ b
same_starts members table script rows others a b twins x y =
    ext_get_or 0 a b (x.count ∙ sym y.count) (λ place lt.
    let size = x.count ∙ sym y.count in
    let within : place < length b = omega arith in
    let (one, here) = x.before place lt in
    let (two, there) = y.before place within in
    let n = get_or a place 0 in
    let m = get_or b place 0 in
    let ends = parts_alike members table (take place script) (first_situation members table) (take n rows) (take m others) (drop n rows) (drop m others)
    one two here there (twins_split members (first_stands members table) rows others n m twins) in
    sym (length-take-le n rows (x.within place 0 lt)) ∙ ends.size ∙ length-take-le m others (y.within place 0 within))

pub none_before : (members : ℕ) (table : Table) (script : List Command) (situation : Situation) (rows : List Row) (after : Situation)
    → ArePartsOf members table (take 0 script) situation rows after → Stays situation rows after
none_before members table [] situation rows after parts = parts
none_before members table (given ∷ script) situation rows after parts = parts

-- none of them lies before an earlier one
rises : (members : ℕ) (table : Table) (script : List Command) (rows : List Row) (a : List ℕ) (i j : ℕ) → BeginAt members table script rows a → i < j → j < length a
    → get_or a i 0 ≤ get_or a j 0
rises members table script rows a i j begin before within =
    let first : i < length a = omega arith in
    let (one, here) = begin.before i first in
    let (two, there) = begin.before j within in
    let n = get_or a i 0 in
    let m = get_or a j 0 in
    let start = first_situation members table in
    let split = parts_split members table (take j script) i start (take m rows) two there in
    let shorter : take i (take j script) ≡ take i script = take-take i j script (omega arith) in
    let front = subst (λ (l : List Command). ArePartsOf members table l start split.front split.middle) shorter split.one in
    let whole : split.front ++ (split.back ++ drop m rows) ≡ rows =
    sym (append_assoc split.front split.back (drop m rows)) ∙ ap (λ (l : List Row). l ++ drop m rows) (sym split.parts) ∙ take-append-drop m rows in
    let twins : AreTwins members start.standing (take n rows ++ drop n rows) (split.front ++ (split.back ++ drop m rows)) =
    subst (λ (l : List Row). AreTwins members start.standing l (split.front ++ (split.back ++ drop m rows))) (sym (take-append-drop n rows))
    (subst (λ (l : List Row). AreTwins members start.standing rows l) (sym whole) (twins_refl members start.standing rows)) in
    let ends = parts_alike members table (take i script) start (take n rows) split.front (drop n rows) (split.back ++ drop m rows) one split.middle here front twins in
    let long_n : length (take n rows) ≡ n = length-take-le n rows (begin.within i 0 first) in
    let long_m : length (take m rows) ≡ m = length-take-le m rows (begin.within j 0 within) in
    let parts : length (take m rows) ≡ length split.front + length split.back = ap length split.parts ∙ length-append split.front split.back in
    let size = ends.size in
    omega arith

pub are_starts : (members : ℕ) (table : Table) (script : List Command) (rows : List Row) (a : List ℕ) → BeginAt members table script rows a → AreStarts (length rows) a
are_starts members table script rows a begin =
    let count = begin.count in
    let some : 0 < length a = omega arith in
    let (after, parts) = begin.before 0 some in
    let none : take (get_or a 0 0) rows ≡ [] = (none_before members table script (first_situation members table) (take (get_or a 0 0) rows) after parts).none in
    record {
      some = some;
      first = sym (length-take-le (get_or a 0 0) rows (begin.within 0 0 some)) ∙ ap length none;
      rise = λ i j d before within.
          let first : i < length a = omega arith in
          let low = rises members table script rows a i j begin before within in
          let left = get_or_default a i d 0 first in
          let right = get_or_default a j d 0 within in
          omega arith;
      within = begin.within;
    }

pub one_start : (members : ℕ) (table : Table) (script : List Command) (rows : List Row) (a b : List ℕ) → BeginAt members table script rows a
    → BeginAt members table script rows b → a ≡ b
one_start members table script rows a b x y =
    same_starts members table script rows rows a b (twins_refl members (first_stands members table) rows) x y

-- ---- of a book

-- whichever rows stand behind a book, the parts of a script begin at the same numbers
pub same_begin : (table : Table) (script : List Command) (book : BookState) (rows others : List Row) (a b : List ℕ) → StandsBehind table rows book → StandsBehind table others book
    → BeginAt book.members table script rows a → BeginAt book.members table script others b → a ≡ b
same_begin table script book rows others a b behind beside x y =
    let turns : map (λ (row : Row). row.turn) rows ≡ map (λ (row : Row). row.turn) others = sym behind.turns ∙ beside.turns in
    same_starts book.members table script rows others a b (twins_of_turns book.members table rows others behind.legal beside.legal turns) x y

pub one_journal : (table : Table) (script : List Command) (book : BookState) (a b : List ℕ) → IsBookJournal table script book a → IsBookJournal table script book b → a ≡ b
one_journal table script book a b x y =
    let starts = same_begin table script book x.rows y.rows x.starts y.starts x.behind y.behind x.begin y.begin in
    x.text_is ∙ ap (journal_text table book.turns) starts ∙ sym y.text_is

pub book_there : (table : Table) (script : List Command) (book : BookState) (rows : List Row) → StandsBehind table rows book → Obeys book.members table script rows
    → (text : List ℕ) × IsBookJournal table script book text
book_there table script book rows behind obeys =
    let (starts, begin) = there book.members table script rows obeys in
    (journal_text table book.turns starts, record { rows = rows; behind = behind; starts = starts; begin = begin; text_is = refl })

pub book_starts : (table : Table) (script : List Command) (book : BookState) (rows : List Row) (starts : List ℕ) → StandsBehind table rows book
    → BeginAt book.members table script rows starts
    → AreStarts (length book.turns) starts × IsBookJournal table script book (journal_text table book.turns starts)
book_starts table script book rows starts behind begin =
    let size : length rows ≡ length book.turns = sym (ap length behind.turns ∙ length-map _ _) in (
      subst (λ n. AreStarts n starts) size (are_starts book.members table script rows starts begin),
      record { rows = rows; behind = behind; starts = starts; begin = begin; text_is = refl },
    )

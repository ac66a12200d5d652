-- The numbers of turns at which the parts of a script begin.
use Rattle.std.proofs.Common.{◌≡◌, ◌⊎◌, inl, inr, ◌<◌, ◌≤◌, ◌+◌, ℕ, zero, suc, List, [], ◌∷◌, ◌++◌, length, take, get_or, append_assoc, arith, refl, sym, subst, ap, ◌∙◌}
use Rattle.std.proofs.Math.Seq.{take-append_seam}
use Rattle.std.proofs.lemmas.List.{append-nil, get_or_append_left, get_or_push, length-append, length-map, length_push, take-append-le}
use Rattle.std.proofs.lemmas.List.Elements.{All-from_get_or}
use Rattle.disk_model.specs.declared.mem_disk.MemDisk.{MemDisk}
use Rattle.due_set.specs.Table.{Table}
use Rattle.script_text.specs.declared.command.Command.{Command}
use Rattle.history.specs.Book.{Row}
use Rattle.script_semantics.specs.Script.{ArePartsOf, Obeys}
use Rattle.script_semantics.specs.Situation.{Situation, first_situation}
use Rattle.world_law.specs.Book.{BookState, StandsBehind}
use Rattle.script_semantics.specs.Starts.{BeginAt}
use Rattle.world_rounds.specs.World.{book_of}
use Rattle.world_rounds.specs.declared.world.World.{World}
use Rattle.script_play.specs.Play.{ArePartsFrom, PartBegins, HasPlayed, HasRun, HasStarts}

-- there are as many turns in a book as rows behind it
pub as_many_turns : (table : Table) (rows : List Row) (book : BookState) → StandsBehind table rows book → length book.turns ≡ length rows
as_many_turns table rows book behind = ap length behind.turns ∙ length-map rows (λ (row : Row). row.turn)

-- before a place among some, or the place behind them
pub before_or_last : (place count : ℕ) → place < suc count → (place < count) ⊎ (place ≡ count)
before_or_last zero zero within = inr refl
before_or_last zero (suc count) within = inl (omega arith)
before_or_last (suc place) zero within = absurd (omega (arith, within))
before_or_last (suc place) (suc count) within = elim (before_or_last place count (omega (arith, within))) [
  | inl before ↦ inl (omega (arith, before))
  | inr last ↦ inr (ap suc last)
]

-- no part begins where nothing was played
pub parts_at_none : (members : ℕ) (table : Table) (first : ℕ) (situation : Situation) → ArePartsFrom members table [] first [] situation [] situation
parts_at_none members table first situation = record {
  parts = record { none = refl; is = refl };
  count = refl;
  each = λ place within. absurd (omega (arith, within));
}

module _ (members : ℕ) (table : Table) (first : ℕ) (situation : Situation) where
  -- where a part begins doesn't change by what is played behind it
  begins_before : (script : List Command) (command : Command) (rows more : List Row) (place start : ℕ) → place ≤ length script
      → PartBegins members table script first situation rows place start → PartBegins members table (script ++ command ∷ []) first situation (rows ++ more) place start
  begins_before script command rows more place start within begins = record {
    front = begins.front;
    back = begins.back ++ more;
    middle = begins.middle;
    split = ap (λ (l : List Row). l ++ more) begins.split ∙ append_assoc begins.front begins.back more;
    number = begins.number;
    parts = subst (λ (l : List Command). ArePartsOf members table l situation begins.front begins.middle) (sym (take-append-le place script (command ∷ []) within)) begins.parts;
  }

  -- the part that is played next begins behind all turns
  begins_last : (script more_script : List Command) (rows more : List Row) (middle : Situation) (place start : ℕ) → place ≡ length script
      → start ≡ first + length rows → ArePartsOf members table script situation rows middle
      → PartBegins members table (script ++ more_script) first situation (rows ++ more) place start
  begins_last script more_script rows more middle place start place_is start_is parts =
      let whole : take place (script ++ more_script) ≡ script = ap (λ n. take n (script ++ more_script)) place_is ∙ take-append_seam script more_script in
      record {
        front = rows;
        back = more;
        middle = middle;
        split = refl;
        number = start_is;
        parts = subst (λ (l : List Command). ArePartsOf members table l situation rows middle) (sym whole) parts;
      }

  -- one part more
  pub parts_at_push : (script : List Command) (command : Command) (starts : List ℕ) (start : ℕ) (rows more : List Row) (middle after : Situation)
      → ArePartsFrom members table script first starts situation rows middle → start ≡ first + length rows
      → ArePartsOf members table (script ++ command ∷ []) situation (rows ++ more) after
      → ArePartsFrom members table (script ++ command ∷ []) first (starts ++ start ∷ []) situation (rows ++ more) after
  parts_at_push script command starts start rows more middle after so_far start_is parts =
      let count = so_far.count in
      record {
        parts = parts;
        count = length_push starts start ∙ ap (λ n. n + 1) count ∙ sym (length_push script command);
        each = λ place within.
            elim (before_or_last place (length starts) (let size = length_push starts start in omega (arith, within, size))) [
              | inl before ↦ subst (PartBegins members table (script ++ command ∷ []) first situation (rows ++ more) place) (sym (get_or_append_left starts (start ∷ []) 0 place before))
                  (begins_before script command rows more place (get_or starts place 0) (omega (arith, before, count)) (so_far.each place before))
              | inr last ↦ subst (PartBegins members table (script ++ command ∷ []) first situation (rows ++ more) place) (sym (get_or_push starts start 0 place (sym last)))
                  (begins_last script (command ∷ []) rows more middle place start (last ∙ count) start_is so_far.parts)
            ];
      }

-- ---- a run

-- what is in front of a part that begins there
front_of : (rows front back : List Row) (start : ℕ) → rows ≡ front ++ back → start ≡ 0 + length front → take start rows ≡ front
front_of rows front back start split number =
    let size : start ≡ length front = omega (arith, number) in
    ap (λ n. take n rows) size ∙ ap (take (length front)) split ∙ take-append_seam front back

front_within : (rows front back : List Row) (start : ℕ) → rows ≡ front ++ back → start ≡ 0 + length front → start ≤ length rows
front_within rows front back start split number =
    let size : length rows ≡ length front + length back = ap length split ∙ length-append front back in
    omega (arith, number, size)

module _ (members : ℕ) (table : Table) (script : List Command) where
  abbrev begin : Situation
  begin = first_situation members table

  -- the part of each place begins where the numbers say so, and that of the walk behind all commands
  starts_at : (starts : List ℕ) (start : ℕ) (rows more : List Row) (middle : Situation) → ArePartsFrom members table script 0 starts begin rows middle → start ≡ length rows
      → (place : ℕ) → place < length (starts ++ start ∷ []) → PartBegins members table (script ++ []) 0 begin (rows ++ more) place (get_or (starts ++ start ∷ []) place 0)
  starts_at starts start rows more middle parts start_is place within =
      let count = parts.count in
      elim (before_or_last place (length starts) (let size = length_push starts start in omega (arith, within, size))) [
        | inl before ↦
            let here = parts.each place before in
            let script_is : script ++ [] ≡ script = append-nil script in
            subst (PartBegins members table (script ++ []) 0 begin (rows ++ more) place) (sym (get_or_append_left starts (start ∷ []) 0 place before))
            (subst (λ (l : List Command). PartBegins members table l 0 begin (rows ++ more) place (get_or starts place 0)) (sym script_is)
            (record {
              front = here.front;
              back = here.back ++ more;
              middle = here.middle;
              split = ap (λ (l : List Row). l ++ more) here.split ∙ append_assoc here.front here.back more;
              number = here.number;
              parts = here.parts;
            }))
        | inr last ↦ subst (PartBegins members table (script ++ []) 0 begin (rows ++ more) place) (sym (get_or_push starts start 0 place (sym last)))
            (begins_last members table 0 begin script [] rows more middle place start (last ∙ count) (omega (arith, start_is)) parts.parts)
      ]

  -- the numbers are those of the script's parts, and last the walk's
  pub begin_at : (starts : List ℕ) (start : ℕ) (rows more : List Row) (middle : Situation) → ArePartsFrom members table script 0 starts begin rows middle → start ≡ length rows
      → Obeys members table script (rows ++ more) → BeginAt members table script (rows ++ more) (starts ++ start ∷ [])
  begin_at starts start rows more middle parts start_is obeys =
      let count = parts.count in
      let all = starts ++ start ∷ [] in
      record {
        obeys = obeys;
        count = let size = length_push starts start in omega (arith, size, count);
        within = All-from_get_or (λ (n : ℕ). n ≤ length (rows ++ more)) all 0
            (λ place within. let here = starts_at starts start rows more middle parts start_is place within in front_within (rows ++ more) here.front here.back (get_or all place 0) here.split here.number);
        before = λ place within.
            let here = starts_at starts start rows more middle parts start_is place within in (
              here.middle,
              subst (λ (l : List Command). ArePartsOf members table (take place l) begin (take (get_or all place 0) (rows ++ more)) here.middle) (append-nil script)
                  (subst (λ (l : List Row). ArePartsOf members table (take place (script ++ [])) begin l here.middle) (sym (front_of (rows ++ more) here.front here.back (get_or all place 0) here.split here.number)) here.parts),
            );
      }

-- where the world stands that has played the script, and the walk begins there
pub has_starts : (table : Table) (members : ℕ) (script : List Command) (starts : List ℕ) (start : ℕ) (old new : World MemDisk) (played : HasPlayed table members script starts old)
    → (run : HasRun table members script new) (more : List Row) → run.rows ≡ played.rows ++ more → start ≡ length (book_of old).turns
    → HasStarts table script (book_of new) (starts ++ start ∷ [])
has_starts table members script starts start old new played run more rows_are start_is =
    let size : start ≡ length played.rows = start_is ∙ as_many_turns table played.rows (book_of old) played.is.ahead.at.behind in
    let obeys : Obeys members table script (played.rows ++ more) = subst (Obeys members table script) rows_are run.obeys in
    let begin = begin_at members table script starts start played.rows more played.situation played.parts size obeys in
    record {
      rows = played.rows ++ more;
      behind = subst (λ (l : List Row). StandsBehind table l (book_of new)) rows_are run.is.ahead.at.behind;
      begin = subst (λ n. BeginAt n table script (played.rows ++ more) (starts ++ start ∷ [])) (sym run.count) begin;
    }

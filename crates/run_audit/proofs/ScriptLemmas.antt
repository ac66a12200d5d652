-- A script that is played by the lines of a text, part by part: how far it has come, and what comes of a line more.
use Rattle.std.proofs.Common.{◌≡◌, ℕ, suc, ◌+◌, ◌<◌, ◌≤◌, ◌^◌, List, [], ◌∷◌, ◌++◌, append-nil, append_assoc, drop, get_or, inl, inr, length, take, refl, ap, sym, subst, ◌∙◌, arith}
use Rattle.std.specs.Prelude.{slice_get}
use Rattle.std.proofs.lemmas.Bool.{cases_lt}
use Rattle.std.proofs.lemmas.List.{drop_at, get_or_append_left, get_or_at, length-append, length-map, map-append, take-append-le, take_at}
use Rattle.cron_io.specs.Lines.{text_of_lines}
use Rattle.due_set.specs.Table.{Table}
use Rattle.script_text.specs.declared.command.Command.{Command}
use Rattle.history.specs.Book.{Row}
use Rattle.history.specs.declared.turn.Turn.{Turn}
use Rattle.script_semantics.specs.Script.{ArePartsOf}
use Rattle.script_semantics.specs.Situation.{Situation, first_situation}
use Rattle.journal_text.specs.Journal.{part_head, turn_line}
use Rattle.run_replay.specs.Replay.{IsReplayAt}
use Rattle.run_replay.specs.declared.replay.Replay.{Replay}
use Rattle.run_audit.proofs.FaultLemmas.{Lack}
use Rattle.run_audit.proofs.JournalLemmas.{in_last, lines_with}
use Rattle.run_audit.proofs.SoFarLemmas.{part_more, turn_more}
use Rattle.run_audit.specs.Played.{lines_from}
use Rattle.run_audit.specs.Sound.{BeginsPartOf, CanBegin, ObeysSoFar, lines_so_far, turns_of}
use Rattle.run_audit.specs.declared.lines.Rest.{Rest}

module _ (members : ℕ) (table : Table) (script : List Command) where
  abbrev with : List Row → List ℕ → List (List ℕ)
  with = lines_with members table script

  -- the parts of the first commands, so many of them, have been played by the lines of the text
  pub record HasComeTo (text : List ℕ) (place : ℕ) (replay : Replay) (rest : Rest) : Type 0 where
    pub rows : List Row
    pub starts : List ℕ
    pub situation : Situation
    pub ready : IsReplayAt table rows replay situation
    pub members_are : replay.book.members ≡ members
    pub count : length starts ≡ place
    pub obeys : ObeysSoFar members table script rows starts
    pub before : ArePartsOf members table (take place script) (first_situation members table) rows situation
    pub text_is : text ≡ text_of_lines (with rows starts) ++ rest.text.now
    pub lack : Lack (with rows starts)
    pub short : length rows < length (with rows starts)
    pub number : rest.number ≡ suc (length (with rows starts))
    pub few : rest.number + length rest.text.now < 2 ^ 32
    pub other : (line : List ℕ) → (line ≡ part_head (suc (length script)) place → ⊥) → CanBegin members table script (with rows starts ++ line ∷ []) → ⊥

  -- ---- lines more

  -- the starts of a part more, which begins behind all turns
  abbrev pub begun : List Row → List ℕ → List ℕ
  begun rows starts = starts ++ length rows ∷ []

  -- the lines with the line before the next part
  pub head_more : (rows : List Row) (starts : List ℕ) → with rows (begun rows starts) ≡ with rows starts ++ part_head (suc (length script)) (length starts) ∷ []
  head_more rows starts =
      ap (λ n. with rows (starts ++ n ∷ [])) (sym (length-map rows (λ (row : Row). row.turn))) ∙ part_more table (suc (length script)) (turns_of rows) starts

  -- ---- the turns of a part

  -- the lines with the turns of a part more, which has begun
  pub turns_more : (part rows : List Row) (starts : List ℕ) (place : ℕ) → length starts ≡ suc place → ((k : ℕ) → k < length starts → get_or starts k 0 ≤ length rows)
      → with (rows ++ part) starts ≡ with rows starts ++ lines_from table (length rows) part
  turns_more [] rows starts place count within = ap (λ (l : List Row). with l starts) (append-nil rows) ∙ sym (append-nil (with rows starts))
  turns_more (row ∷ part) rows starts place count within =
      let longer : (rows ++ row ∷ []) ++ part ≡ rows ++ row ∷ part = append_assoc rows (row ∷ []) part in
      let size = length-append rows (row ∷ []) in
      let turns : turns_of (rows ++ row ∷ []) ≡ turns_of rows ++ row.turn ∷ [] = map-append (λ (row : Row). row.turn) rows (row ∷ []) in
      let long : length (turns_of rows) ≡ length rows = length-map rows (λ (row : Row). row.turn) in
      let one : with (rows ++ row ∷ []) starts ≡ with rows starts ++ turn_line table (length rows, row.turn) ∷ [] =
      ap (λ (l : List Turn). lines_so_far table (suc (length script)) l starts) turns
      ∙ turn_more table (suc (length script)) (turns_of rows) row.turn starts place count (λ k below. (let low = within k below in omega (arith, low, long)))
      ∙ ap (λ n. with rows starts ++ turn_line table (n, row.turn) ∷ []) long in
      let rest = turns_more part (rows ++ row ∷ []) starts place count (λ k below. (let low = within k below in omega (arith, low, size))) in
      ap (λ (l : List Row). with l starts) (sym longer) ∙ rest
      ∙ ap (λ (l : List (List ℕ)). l ++ lines_from table (length (rows ++ row ∷ [])) part) one
      ∙ append_assoc (with rows starts) (turn_line table (length rows, row.turn) ∷ []) (lines_from table (length (rows ++ row ∷ [])) part)
      ∙ ap (λ n. with rows starts ++ turn_line table (length rows, row.turn) ∷ lines_from table n part) size

  -- ---- a part begins

  -- the turns obey the script where the next part begins, with the first of its turns
  pub part_begins : (rows part : List Row) (starts : List ℕ) (place : ℕ) (middle : Situation) → place ≤ length script → length starts ≡ place → ObeysSoFar members table script rows starts
      → ArePartsOf members table (take place script) (first_situation members table) rows middle → BeginsPartOf members table (slice_get script place) middle part
      → ObeysSoFar members table script (rows ++ part) (begun rows starts)
  part_begins rows part starts place middle low count obeys before begins = record {
    few = omega (arith, low, size, count);
    within = λ k d below. elim (cases_lt k (length starts)) [
      | inl lt ↦ (let same = keeps k d lt in let bound = obeys.within k d lt in omega (arith, same, bound, whole))
      | inr past ↦ (let same = ends k d (omega (arith, past, below, size)) in omega (arith, same, whole))
    ];
    rise = λ i j d lt below. elim (cases_lt j (length starts)) [
      | inl inside ↦ (let one = keeps i d (omega (arith, lt, inside)) in let two = keeps j d inside in let rises = obeys.rise i j d lt inside in omega (arith, one, two, rises))
      | inr past ↦ (let one = keeps i d (omega (arith, lt, below, size)) in let two = ends j d (omega (arith, past, below, size)) in let bound = obeys.within i d (omega (arith, lt, below, size)) in omega (arith, one, two, bound))
    ];
    before = λ k below. elim (cases_lt k (length starts)) [
      | inl lt ↦ (
          let is = obeys.before k lt in
          let bound = obeys.within k 0 lt in (
            is.0,
            subst (λ n. ArePartsOf members table (take k script) first (take n (rows ++ part)) is.0) (sym (keeps k 0 lt))
                (subst (λ (l : List Row). ArePartsOf members table (take k script) first l is.0) (sym (take-append-le (get_or starts k 0) rows part bound)) is.1),
          )
          )
      | inr past ↦ (
          let same : k ≡ place = omega (arith, past, below, size, count) in (
            middle,
            subst (λ (l : List Row). ArePartsOf members table (take k script) first l middle) (sym (front k (omega (arith, past, below, size))))
                (subst (λ n. ArePartsOf members table (take n script) first rows middle) (sym same) before),
          )
          )
    ];
    last = in_last members table script (begun rows starts) place (rows ++ part) (omega (arith, size, count))
        (record {
          situation = middle;
          before = subst (λ (l : List Row). ArePartsOf members table (take place script) first l middle) (sym (front place (sym count))) before;
          begins = subst (BeginsPartOf members table (slice_get script place) middle) (sym (back place (sym count))) begins;
        });
  }
    where
      first : Situation
      first = first_situation members table

      size : length (begun rows starts) ≡ length starts + 1
      size = length-append starts (length rows ∷ [])

      whole : length (rows ++ part) ≡ length rows + length part
      whole = length-append rows part

      keeps : (k d : ℕ) → k < length starts → get_or (begun rows starts) k d ≡ get_or starts k d
      keeps k d lt = get_or_append_left starts (length rows ∷ []) d k lt

      ends : (k d : ℕ) → k ≡ length starts → get_or (begun rows starts) k d ≡ length rows
      ends k d same = get_or_at starts (length rows) [] d k (sym same)

      front : (k : ℕ) → k ≡ length starts → take (get_or (begun rows starts) k 0) (rows ++ part) ≡ rows
      front k same = ap (λ n. take n (rows ++ part)) (ends k 0 same) ∙ take_at rows part (length rows) refl

      back : (k : ℕ) → k ≡ length starts → drop (get_or (begun rows starts) k 0) (rows ++ part) ≡ part
      back k same = ap (λ n. drop n (rows ++ part)) (ends k 0 same) ∙ drop_at rows part (length rows) refl

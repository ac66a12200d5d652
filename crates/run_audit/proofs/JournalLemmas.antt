-- Lines that can begin a journal: without the last of them they can begin one too.
use Rattle.std.proofs.Common.{◌≡◌, ℕ, zero, suc, ◌+◌, ◌<◌, ◌≤◌, List, [], ◌∷◌, ◌++◌, ◌⊎◌, append-nil, append_assoc, drop, get_or, inl, inr, length, take, Option, None, Some, refl, ap, sym, subst, ◌∙◌, arith, codes}
use Rattle.std.specs.Prelude.{◌-ℤ◌, pos, slice_get}
use Rattle.std.proofs.lemmas.Bool.{cases_lt}
use Rattle.std.proofs.lemmas.List.{drop-append-le, get_or_append_left, get_or_at, get_or_default, length-append, length-map, map-append, take-append-drop, take-append-le, take_all, take_at, take_more, drop_at}
use Rattle.std.proofs.lemmas.Option.{slice_get-get_or, slice_get_past}
use Rattle.due_set.specs.Table.{Table}
use Rattle.script_text.specs.declared.command.Command.{Command}
use Rattle.script_text.specs.declared.command.Command.TheVariants.{Heal}
use Rattle.history.specs.Book.{Row}
use Rattle.history.specs.Legal.{IsLegal}
use Rattle.history.specs.declared.turn.Turn.{Turn}
use Rattle.history.proofs.Agreement.{cut_is_legal}
use Rattle.script_semantics.specs.Parts.{Then}
use Rattle.script_semantics.specs.Script.{ArePartsOf, IsPartOf}
use Rattle.script_semantics.specs.Situation.{Situation, first_situation}
use Rattle.script_semantics.specs.Starts.{BeginAt}
use Rattle.journal_text.specs.Journal.{part_head, turn_line}
use Rattle.journal_text.proofs.Determined.{parts_alike}
use Rattle.journal_text.proofs.StartLemmas.{are_starts}
use Rattle.journal_text.proofs.Twins.{AreTwins, twins_refl}
use Rattle.run_audit.specs.Begins.{BeginsPart, BeginsWalk}
use Rattle.run_audit.specs.Sound.{BeginsPartOf, CanBegin, IsInLastPart, IsInPart, ObeysSoFar, TellTurns, lines_so_far, turns_of}
use Rattle.run_audit.proofs.BeginLemmas.{part_begins, walk_begins}
use Rattle.run_audit.proofs.FrontLemmas.{part_fronts, walk_fronts}
use Rattle.run_audit.proofs.SoFarLemmas.{by_last, part_more, turn_more}

-- ---- lists

pub same_front : {A : Type 0} (xs ys : List A) (x y : A) → xs ++ x ∷ [] ≡ ys ++ y ∷ [] → xs ≡ ys
same_front [] [] x y same = refl
same_front [] (z ∷ ys) x y same =
    let rest : [] ≡ ys ++ y ∷ [] = cc in absurd (empty ys y rest)
  where
    empty : {A : Type 0} (ys : List A) (y : A) → [] ≡ ys ++ y ∷ [] → ⊥
    empty [] y same = cc
    empty (z ∷ ys) y same = cc
same_front (z ∷ xs) [] x y same =
    let rest : xs ++ x ∷ [] ≡ [] = cc in absurd (full xs x rest)
  where
    full : {A : Type 0} (xs : List A) (x : A) → xs ++ x ∷ [] ≡ [] → ⊥
    full [] x same = cc
    full (z ∷ xs) x same = cc
same_front (z ∷ xs) (w ∷ ys) x y same =
    let head : z ≡ w = cc in
    let rest : xs ++ x ∷ [] ≡ ys ++ y ∷ [] = cc in
    let rests = same_front xs ys x y rest in
    cc

-- two ways to cut a list at one place are one
pub same_cut : {A : Type 0} (one back other behind : List A) → one ++ back ≡ other ++ behind → length one ≡ length other → (one ≡ other) × (back ≡ behind)
same_cut one back other behind same size = (
  sym (take_at one back (length one) refl) ∙ ap (take (length one)) same ∙ take_at other behind (length one) (sym size),
  sym (drop_at one back (length one) refl) ∙ ap (drop (length one)) same ∙ drop_at other behind (length one) (sym size),
)

-- ---- parts

module _ (members : ℕ) (table : Table) where
  abbrev first : Situation
  first = first_situation members table

  -- the parts of some commands that begin a list of turns are one front of it, and end in one situation
  record IsSamePart (front back other behind : List Row) (middle between : Situation) : Type 0 where
    pub fronts : front ≡ other
    pub backs : back ≡ behind
    pub ends : middle ≡ between

  same_parts : (script : List Command) (front back other behind : List Row) (middle between : Situation) → front ++ back ≡ other ++ behind
      → ArePartsOf members table script first front middle → ArePartsOf members table script first other between
      → IsSamePart front back other behind middle between
  same_parts script front back other behind middle between same one two =
      let ends = parts_alike members table script first front other back behind middle between one two
      (subst (λ (l : List Row). AreTwins members first.standing (front ++ back) l) same (twins_refl members first.standing (front ++ back))) in
      let cut = same_cut front back other behind same ends.size in
      record { fronts = cut.0; backs = cut.1; ends = ends.same }

  -- the last of some commands has its part behind those of the others
  pub last_command : (script : List Command) (place : ℕ) (given : Command) (situation : Situation) (rows : List Row) (after : Situation)
      → slice_get script place ≡ Some given → ArePartsOf members table (take (suc place) script) situation rows after
      → Then (ArePartsOf members table (take place script)) (IsPartOf members table given) situation rows after
  last_command [] place given situation rows after there are = absurd cc
  last_command (other ∷ script) zero given situation rows after there are =
      let same : other ≡ given = cc in
      let all : are.front ≡ rows = sym (are.parts ∙ ap (λ (l : List Row). are.front ++ l) are.two.none ∙ append-nil are.front) in
      record {
        front = [];
        middle = situation;
        back = rows;
        parts = refl;
        one = record { none = refl; is = refl };
        two = subst (λ (c : Command). IsPartOf members table c situation rows after) same
            (subst (λ (l : List Row). IsPartOf members table other situation l after) all
            (subst (λ (s : Situation). IsPartOf members table other situation are.front s) (sym are.two.is) are.one));
      }
  last_command (other ∷ script) (suc place) given situation rows after there are =
      let rest = last_command script place given are.middle are.back after there are.two in
      record {
        front = are.front ++ rest.front;
        middle = rest.middle;
        back = rest.back;
        parts = are.parts ∙ ap (λ (l : List Row). are.front ++ l) rest.parts ∙ sym (append_assoc are.front rest.front rest.back);
        one = record { front = are.front; middle = are.middle; back = rest.front; parts = refl; one = are.one; two = rest.one };
        two = rest.two;
      }

  module _ (script : List Command) where
    -- the turns behind the last start, where there is one
    pub in_last : (starts : List ℕ) (place : ℕ) (rows : List Row) → length starts ≡ suc place
        → IsInPart members table script place (take (get_or starts place 0) rows) (drop (get_or starts place 0) rows) → IsInLastPart members table script starts rows
    in_last [] place rows size is = absurd (omega (arith, size))
    in_last (start ∷ starts) place rows size is =
        let same : place ≡ length starts = omega (arith, size) in
        subst (λ (p : ℕ). IsInPart members table script p (take (get_or (start ∷ starts) p 0) rows) (drop (get_or (start ∷ starts) p 0) rows)) same is

    -- where the next part begins behind all turns, the one before it is whole, and so it has begun
    begun_before : (place start : ℕ) (rows : List Row) (situation after : Situation) → place < length script
        → ArePartsOf members table (take place script) first (take start rows) situation
        → ArePartsOf members table (take (suc place) script) first rows after
        → IsInPart members table script place (take start rows) (drop start rows)
    begun_before place start rows situation after lt before whole =
        let given = get_or script place Heal in
        let there : slice_get script place ≡ Some given = slice_get-get_or script place Heal lt in
        let split = last_command script place given first rows after there whole in
        let same = same_parts (take place script) (take start rows) (drop start rows) split.front split.back situation split.middle
        (take-append-drop start rows ∙ split.parts) before split.one in
        record {
          situation = situation;
          before = before;
          begins = subst (λ (c : Option Command). BeginsPartOf members table c situation (drop start rows)) (sym there)
              (subst (λ (s : Situation). BeginsPart members table given s (drop start rows)) (sym same.ends)
              (subst (λ (l : List Row). BeginsPart members table given split.middle l) (sym same.backs)
              (part_begins members table given split.middle split.back after split.two)));
        }

    front_of_part : (given : Option Command) (situation : Situation) (rows more : List Row) → BeginsPartOf members table given situation (rows ++ more)
        → BeginsPartOf members table given situation rows
    front_of_part None situation rows more begins = walk_fronts members table (table.window.until.0 -ℤ pos 1) situation rows more begins
    front_of_part (Some given) situation rows more begins = part_fronts members table given situation rows more begins

    -- ---- without the last turn

    turn_less : (rows : List Row) (row : Row) (start : ℕ) (starts : List ℕ) → ObeysSoFar members table script (rows ++ row ∷ []) (start ∷ starts)
        → get_or (start ∷ starts) (length starts) 0 ≤ length rows → ObeysSoFar members table script rows (start ∷ starts)
    turn_less rows row start starts obeys low = record {
      few = obeys.few;
      within = λ place d lt. bound place d lt;
      rise = obeys.rise;
      before = λ place lt.
          let is = obeys.before place lt in (
            is.0,
            subst (λ (l : List Row). ArePartsOf members table (take place script) first l is.0)
                (take-append-le (get_or (start ∷ starts) place 0) rows (row ∷ []) (bound place 0 lt)) is.1,
          );
      last =
          let last = get_or (start ∷ starts) (length starts) 0 in
          let done : take last (rows ++ row ∷ []) ≡ take last rows = take-append-le last rows (row ∷ []) low in
          let rest : drop last (rows ++ row ∷ []) ≡ drop last rows ++ row ∷ [] = drop-append-le last rows (row ∷ []) low in
          record {
            situation = obeys.last.situation;
            before = subst (λ (l : List Row). ArePartsOf members table (take (length starts) script) first l obeys.last.situation) done obeys.last.before;
            begins = front_of_part (slice_get script (length starts)) obeys.last.situation (drop last rows) (row ∷ [])
                (subst (λ (l : List Row). BeginsPartOf members table (slice_get script (length starts)) obeys.last.situation l) rest obeys.last.begins);
          };
    }
      where
        bound : (place d : ℕ) → place < length (start ∷ starts) → get_or (start ∷ starts) place d ≤ length rows
        bound place d lt =
            let at_zero : get_or (start ∷ starts) place d ≡ get_or (start ∷ starts) place 0 = get_or_default (start ∷ starts) place d 0 lt in
            elim (cases_lt place (length starts)) [
              | inl before ↦ (let rise = obeys.rise place (length starts) 0 before (omega arith) in omega (arith, at_zero, rise, low))
              | inr last ↦
                  let same : place ≡ length starts = omega (arith, lt, last) in
                  let here : get_or (start ∷ starts) place 0 ≡ get_or (start ∷ starts) (length starts) 0 = ap (λ p. get_or (start ∷ starts) p 0) same in
                  omega (arith, at_zero, here, low)
            ]

    -- ---- without the last part, which has no turn

    part_less : (rows : List Row) (starts : List ℕ) → ObeysSoFar members table script rows (starts ++ length rows ∷ [])
        → ObeysSoFar members table script rows starts
    part_less rows starts obeys = record {
      few = omega (arith, obeys.few, size);
      within = λ place d lt. subst (λ n. n ≤ length rows) (keeps place d lt) (obeys.within place d (omega (arith, lt, size)));
      rise = λ i j d lt below.
          subst (λ n. n ≤ get_or starts j d) (keeps i d (omega (arith, lt, below)))
          (subst (λ n. get_or (starts ++ length rows ∷ []) i d ≤ n) (keeps j d below) (obeys.rise i j d lt (omega (arith, below, size))));
      before = λ place lt. before place lt;
      last = last starts refl;
    }
      where
        size : length (starts ++ length rows ∷ []) ≡ length starts + 1
        size = length-append starts (length rows ∷ [])

        keeps : (place d : ℕ) → place < length starts → get_or (starts ++ length rows ∷ []) place d ≡ get_or starts place d
        keeps place d lt = get_or_append_left starts (length rows ∷ []) d place lt

        before : (place : ℕ) → place < length starts
            → (situation : Situation) × ArePartsOf members table (take place script) first (take (get_or starts place 0) rows) situation
        before place lt =
            let is = obeys.before place (omega (arith, lt, size)) in
            (is.0, subst (λ n. ArePartsOf members table (take place script) first (take n rows) is.0) (keeps place 0 lt) is.1)

        at_end : get_or (starts ++ length rows ∷ []) (length starts) 0 ≡ length rows
        at_end = get_or_at starts (length rows) [] 0 (length starts) refl

        -- all turns are those of the parts before the last one
        whole : (situation : Situation) × ArePartsOf members table (take (length starts) script) first rows situation
        whole =
            let is = obeys.before (length starts) (omega (arith, size)) in
            let taken : take (get_or (starts ++ length rows ∷ []) (length starts) 0) rows ≡ rows = ap (λ n. take n rows) at_end ∙ take_all (length rows) rows (omega arith) in
            (is.0, subst (λ (l : List Row). ArePartsOf members table (take (length starts) script) first l is.0) taken is.1)

        last : (s : List ℕ) → s ≡ starts → IsInLastPart members table script s rows
        last [] same =
            let none : take (length starts) script ≡ [] = ap (λ (l : List ℕ). take (length l) script) (sym same) in
            (subst (λ (l : List Command). ArePartsOf members table l first rows whole.0) none whole.1).none
        last (start ∷ others) same =
            let long : length starts ≡ suc (length others) = ap length (sym same) in
            let here = before (length others) (omega (arith, long)) in
            let start_same : get_or starts (length others) 0 ≡ get_or (start ∷ others) (length others) 0 = ap (λ (l : List ℕ). get_or l (length others) 0) (sym same) in
            begun_before (length others) (get_or (start ∷ others) (length others) 0) rows here.0 whole.0 (omega (arith, obeys.few, size, long))
            (subst (λ n. ArePartsOf members table (take (length others) script) first (take n rows) here.0) start_same here.1)
            (subst (λ n. ArePartsOf members table (take n script) first rows whole.0) long whole.1)

    -- ---- lines

    abbrev pub parts : ℕ
    parts = suc (length script)

    abbrev pub lines_with : List Row → List ℕ → List (List ℕ)
    lines_with rows starts = lines_so_far table parts (turns_of rows) starts

    -- the first line is the last one
    pub record LastIsFirst (rows : List Row) (starts : List ℕ) : Type 0 where
      pub no_rows : rows ≡ []
      pub no_starts : starts ≡ []
      pub are : lines_with rows starts ≡ codes "cron journal 1" ∷ []

    -- the last line is that before a part
    pub record LastIsPart (rows : List Row) (starts : List ℕ) : Type 0 where
      pub before : List ℕ
      pub is : starts ≡ before ++ length rows ∷ []
      pub obeys : ObeysSoFar members table script rows before
      pub are : lines_with rows starts ≡ lines_with rows before ++ part_head parts (length before) ∷ []

    -- the last line is that of a turn
    pub record LastIsTurn (rows : List Row) (starts : List ℕ) : Type 0 where
      pub front : List Row
      pub row : Row
      pub is : rows ≡ front ++ row ∷ []
      pub some : 0 < length starts
      pub legal : IsLegal members table front
      pub obeys : ObeysSoFar members table script front starts
      pub are : lines_with rows starts ≡ lines_with front starts ++ turn_line table (length front, row.turn) ∷ []

    abbrev pub HasLast : List Row → List ℕ → Type 0
    HasLast rows starts = LastIsFirst rows starts ⊎ (LastIsPart rows starts ⊎ LastIsTurn rows starts)

    last_turn : (rows front : List Row) (row : Row) (start : ℕ) (starts : List ℕ) → rows ≡ front ++ row ∷ [] → IsLegal members table rows → ObeysSoFar members table script rows (start ∷ starts)
        → get_or (start ∷ starts) (length starts) 0 ≤ length front → LastIsTurn rows (start ∷ starts)
    last_turn rows front row start starts is legal obeys low =
        let all = start ∷ starts in
        let less = turn_less front row start starts (subst (λ (l : List Row). ObeysSoFar members table script l all) is obeys) low in
        let turns : turns_of (front ++ row ∷ []) ≡ turns_of front ++ row.turn ∷ [] = map-append (λ (r : Row). r.turn) front (row ∷ []) in
        let count : length (turns_of front) ≡ length front = length-map front (λ (r : Row). r.turn) in
        let longer : lines_so_far table parts (turns_of front ++ row.turn ∷ []) all ≡ lines_with front all ++ turn_line table (length (turns_of front), row.turn) ∷ [] =
        turn_more table parts (turns_of front) row.turn all (length starts) refl (λ place lt. (let bound = less.within place 0 lt in omega (arith, count, bound))) in
        let cut : take (length front) (front ++ row ∷ []) ≡ front = take_at front (row ∷ []) (length front) refl in
        record {
          front = front;
          row = row;
          is = is;
          some = omega arith;
          legal = subst (IsLegal members table) cut (cut_is_legal members table (front ++ row ∷ []) (length front) (subst (IsLegal members table) is legal));
          obeys = less;
          are = ap (λ (l : List Row). lines_with l all) is ∙ ap (λ (l : List Turn). lines_so_far table parts l all) turns ∙ longer
              ∙ ap (λ n. lines_with front all ++ turn_line table (n, row.turn) ∷ []) count;
        }

    last_part : (rows : List Row) (starts before : List ℕ) → starts ≡ before ++ length rows ∷ [] → ObeysSoFar members table script rows starts → LastIsPart rows starts
    last_part rows starts before is obeys =
        let count : length rows ≡ length (turns_of rows) = sym (length-map rows (λ (r : Row). r.turn)) in
        record {
          before = before;
          is = is;
          obeys = part_less rows before (subst (ObeysSoFar members table script rows) is obeys);
          are = ap (lines_with rows) is ∙ ap (λ n. lines_with rows (before ++ n ∷ [])) count ∙ part_more table parts (turns_of rows) before;
        }

    -- **Lines as far as a journal has come have a last one**: the first line, that before a part, or that of a turn.
    pub has_last : (rows : List Row) (starts : List ℕ) → IsLegal members table rows → ObeysSoFar members table script rows starts → HasLast rows starts
    has_last rows [] legal obeys = inl (record { no_rows = obeys.last; no_starts = refl; are = ap (λ (l : List Row). lines_with l []) obeys.last })
    has_last rows (start ∷ starts) legal obeys =
        let all = start ∷ starts in
        let last = get_or all (length starts) 0 in
        elim (cases_lt last (length rows)) [
          | inl lt ↦ elim (by_last rows) [
            | inl none ↦ absurd (let empty : length rows ≡ 0 = ap length none in omega (arith, lt, empty))
            | inr some ↦
                let size : length rows ≡ length some.0 + 1 = ap length some.2 ∙ length-append some.0 (some.1 ∷ []) in
                inr (inr (last_turn rows some.0 some.1 start starts some.2 legal obeys (omega (arith, lt, size))))
          ]
          | inr past ↦
              let bound = obeys.within (length starts) 0 (omega arith) in
              let is_last : last ≡ length rows = omega (arith, past, bound) in
              let whole : take (length starts + 1) all ≡ all = take_all (length starts + 1) all (omega arith) in
              let ends : all ≡ take (length starts) all ++ length rows ∷ [] =
              sym whole ∙ take_more all (length starts) 0 (omega arith) ∙ ap (λ n. take (length starts) all ++ n ∷ []) is_last in
              inr (inl (last_part rows all (take (length starts) all) ends obeys))
        ]

    so_far_less : (lines : List (List ℕ)) (line : List ℕ) (rows : List Row) (starts : List ℕ) → IsLegal members table rows → ObeysSoFar members table script rows starts
        → lines ++ line ∷ [] ≡ lines_with rows starts → CanBegin members table script lines
    so_far_less lines line rows starts legal obeys are = elim (has_last rows starts legal obeys) [
      | inl first ↦ ([], inl (same_front lines [] line (codes "cron journal 1") (are ∙ first.are), refl))
      | inr (inl part) ↦ (
        rows,
        inr (inl (record {
          legal = legal;
          starts = part.before;
          obeys = part.obeys;
          are = same_front lines (lines_with rows part.before) line (part_head parts (length part.before)) (are ∙ part.are);
        })),
      )
      | inr (inr turn) ↦ (
        turn.front,
        inr (inl (record {
          legal = turn.legal;
          starts = starts;
          obeys = turn.obeys;
          are = same_front lines (lines_with turn.front starts) line (turn_line table (length turn.front, turn.row.turn)) (are ∙ turn.are);
        })),
      )
    ]

    -- a whole journal begins with its lines but the last one
    pub begins_whole : (rows : List Row) (starts : List ℕ) → BeginAt members table script rows starts → ObeysSoFar members table script rows starts
    begins_whole rows starts begin = record {
      few = omega (arith, begin.count);
      within = begin.within;
      rise = (are_starts members table script rows starts begin).rise;
      before = begin.before;
      last = in_last starts (length script) rows begin.count walk;
    }
      where
        walk : IsInPart members table script (length script) (take (get_or starts (length script) 0) rows) (drop (get_or starts (length script) 0) rows)
        walk =
            let start = get_or starts (length script) 0 in
            let before = begin.before (length script) (omega (arith, begin.count)) in
            let all = begin.obeys.obeys in
            let taken : take (length script) script ≡ script = take_all (length script) script (omega arith) in
            let same = same_parts script (take start rows) (drop start rows) all.front all.back before.0 all.middle (take-append-drop start rows ∙ all.parts)
            (subst (λ (l : List Command). ArePartsOf members table l first (take start rows) before.0) taken before.1) all.one in
            let to = table.window.until.0 -ℤ pos 1 in
            record {
              situation = before.0;
              before = before.1;
              begins = subst (λ (c : Option Command). BeginsPartOf members table c before.0 (drop start rows)) (sym (slice_get_past script (length script) (omega arith)))
                  (subst (λ (s : Situation). BeginsWalk members table to s (drop start rows)) (sym same.ends)
                  (subst (BeginsWalk members table to all.middle) (sym same.backs) (walk_begins members table to all.middle all.back begin.obeys.after all.two)));
            }

    -- **A front of lines that can begin a journal can begin one.**
    pub line_less : (lines : List (List ℕ)) (line : List ℕ) → CanBegin members table script (lines ++ line ∷ []) → CanBegin members table script lines
    line_less lines line (rows, tell) = by tell
      where
        some : (l : List (List ℕ)) → l ++ line ∷ [] ≡ [] → ⊥
        some [] same = cc
        some (x ∷ l) same = cc

        by : TellTurns members table script (lines ++ line ∷ []) rows → CanBegin members table script lines
        by (inl none) = absurd (some lines none.0)
        by (inr (inl so_far)) = so_far_less lines line rows so_far.starts so_far.legal so_far.obeys so_far.are
        by (inr (inr whole)) = (
          rows,
          inr (inl (record {
            legal = whole.legal;
            starts = whole.starts;
            obeys = begins_whole rows whole.starts whole.begin;
            are = same_front lines (lines_with rows whole.starts) line (codes "end") whole.are;
          })),
        )

    pub lines_less : (lines more : List (List ℕ)) → CanBegin members table script (lines ++ more) → CanBegin members table script lines
    lines_less lines [] begins = subst (CanBegin members table script) (append-nil lines) begins
    lines_less lines (line ∷ more) begins =
        line_less lines line
        (lines_less (lines ++ line ∷ []) more (subst (CanBegin members table script) (sym (append_assoc lines (line ∷ []) more)) begins))

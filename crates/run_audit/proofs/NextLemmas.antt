-- Behind the lines of a journal, as far as it has come, no line can come next but that of a turn of the part that has begun, or the head of the next part.
use Rattle.std.proofs.Common.{◌≡◌, ◌⊎◌, ℕ, suc, ◌+◌, ◌<◌, ◌≤◌, ◌^◌, List, [], ◌∷◌, ◌++◌, drop, get_or, inl, inr, length, take, Option, None, Some, refl, ap, sym, subst, ◌∙◌, arith, codes}
use Rattle.std.specs.Prelude.{◌-ℤ◌, pos, slice_get}
use Rattle.std.proofs.lemmas.List.{drop-append-le, get_or_at, length-append, take-append-drop, take-append-le, take_all}
use Rattle.std.proofs.lemmas.Option.{slice_get-get_or, slice_get_past}
use Rattle.zone_minutes.specs.Window.{IsWithinLimits}
use Rattle.due_set.specs.Table.{Table}
use Rattle.script_text.specs.declared.command.Command.{Command}
use Rattle.script_text.specs.declared.command.Command.TheVariants.{Heal}
use Rattle.history.specs.Book.{Row, Standing}
use Rattle.history.specs.Legal.{IsLegal, MayFollow}
use Rattle.script_semantics.specs.Parts.{Then}
use Rattle.script_semantics.specs.Script.{ArePartsOf, IsPartOf}
use Rattle.script_semantics.specs.Settling.{Walks}
use Rattle.script_semantics.specs.Situation.{Situation, first_situation}
use Rattle.world_law.proofs.Settled.{turns_settle}
use Rattle.journal_text.specs.Journal.{part_head, turn_line}
use Rattle.journal_text.proofs.Determined.{parts_alike}
use Rattle.journal_text.proofs.Twins.{AreTwins, twins_of_turns}
use Rattle.run_audit.specs.Sound.{BeginsPartOf, CanBegin, IsInLastPart, IsInPart, IsWholeJournal, ObeysSoFar, TellTurns, turns_of}
use Rattle.run_audit.proofs.JournalLemmas.{LastIsPart, LastIsTurn, begins_whole, has_last, last_command, lines_with, same_front}
use Rattle.run_audit.proofs.LastLemmas.{as_long, end_no_head, end_no_turn, first_alone, last_may, lines_settle, same_back, stands}

-- the part of a command is whole, or that of the walk behind the last one
abbrev pub EndsPartOf : ℕ → Table → Option Command → Situation → List Row → Situation → Type 0
EndsPartOf members table None = Walks members table (table.window.until.0 -ℤ pos 1)
EndsPartOf members table (Some command) = IsPartOf members table command

module _ (members : ℕ) (table : Table) (script : List Command) (few : members ≤ 7) (limits : IsWithinLimits table.window) where
  abbrev first : Situation
  first = first_situation members table

  abbrev with : List Row → List ℕ → List (List ℕ)
  with = lines_with members table script

  -- the line is that before the next part, or the last one behind the last part
  abbrev pub IsHeadBehind : (place : ℕ) → List ℕ → Type 0
  IsHeadBehind place line = ((line ≡ part_head (suc (length script)) (suc place)) × (suc place < suc (length script))) ⊎ ((line ≡ codes "end") × (suc place ≡ suc (length script)))

  -- The turns are those of the parts before a place, and then some of its part, which begins where the last part begins.
  pub record StandsIn (rows : List Row) (starts : List ℕ) (place : ℕ) (done part : List Row) (middle : Situation) : Type 0 where
    pub parts : rows ≡ done ++ part
    pub count : length starts ≡ suc place
    pub start : get_or starts place 0 ≡ length done
    pub legal : IsLegal members table rows
    pub obeys : ObeysSoFar members table script rows starts
    pub short : length rows < 2 ^ 32
    pub before : ArePartsOf members table (take place script) first done middle

  -- the line is of no turn of the part, and where the part is whole it isn't the line behind it
  pub record IsNoneNext (rows : List Row) (place : ℕ) (part : List Row) (middle : Situation) (line : List ℕ) : Type 0 where
    pub no_turn : (others : List Row) (row : Row) → AreTwins members middle.standing part others → MayFollow members table (stands members table script few limits rows) row.turn row
        → line ≡ turn_line table (length rows, row.turn) → BeginsPartOf members table (slice_get script place) middle (others ++ row ∷ []) → ⊥
    pub no_head : (others : List Row) (after : Situation) → EndsPartOf members table (slice_get script place) middle others after → AreTwins members middle.standing part others
        → IsHeadBehind place line → ⊥

  in_part : (starts : List ℕ) (place : ℕ) (rows : List Row) → length starts ≡ suc place → IsInLastPart members table script starts rows
      → IsInPart members table script place (take (get_or starts place 0) rows) (drop (get_or starts place 0) rows)
  in_part [] place rows size is = absurd (omega (arith, size))
  in_part (start ∷ starts) place rows size is =
      let same : length starts ≡ place = omega (arith, size) in
      subst (λ (p : ℕ). IsInPart members table script p (take (get_or (start ∷ starts) p 0) rows) (drop (get_or (start ∷ starts) p 0) rows)) same is

  module _ (rows : List Row) (starts : List ℕ) (place : ℕ) (done part : List Row) (middle : Situation) (line : List ℕ)
      (here : StandsIn rows starts place done part middle) (none : IsNoneNext rows place part middle line) where
    twins_there : (others front back : List Row) → IsLegal members table others → turns_of rows ≡ turns_of others → others ≡ front ++ back
        → AreTwins members first.standing (done ++ part) (front ++ back)
    twins_there others front back lawful turns parts =
        subst (λ (l : List Row). AreTwins members first.standing l (front ++ back)) here.parts
        (subst (λ (l : List Row). AreTwins members first.standing rows l) parts (twins_of_turns members table rows others here.legal lawful turns))

    -- where other turns with the same lines make the part whole
    no_other : (others : List Row) (after : Situation) → IsLegal members table others → turns_of rows ≡ turns_of others
        → Then (ArePartsOf members table (take place script)) (EndsPartOf members table (slice_get script place)) first others after → IsHeadBehind place line → ⊥
    no_other others after lawful turns split head =
        let ends = parts_alike members table (take place script) first done split.front part split.back middle split.middle here.before split.one
        (twins_there others split.front split.back lawful turns split.parts) in
        none.no_head split.back after (subst (λ (s : Situation). EndsPartOf members table (slice_get script place) s split.back after) (sym ends.same) split.two) ends.twins head

    -- the next part
    no_part : (others : List Row) (a : List ℕ) → IsLegal members table others → ObeysSoFar members table script others a → with rows starts ++ line ∷ [] ≡ with others a
        → LastIsPart members table script others a → ⊥
    no_part others a lawful obeys are last =
        let same = lines_settle members table script few limits rows others starts last.before here.legal lawful here.obeys last.obeys here.short
        (same_front (with rows starts) (with others last.before) _ _ (are ∙ last.are)) in
        let head = same_back (with rows starts) (with others last.before) _ _ (are ∙ last.are) in
        let count : length last.before ≡ suc place = ap length (sym same.starts) ∙ here.count in
        let size : length a ≡ length last.before + 1 = ap length last.is ∙ length-append last.before (length others ∷ []) in
        let below : place < length script = (let most = obeys.few in omega (arith, most, size, count)) in
        let is = obeys.before (length last.before) (omega (arith, size)) in
        let at : get_or a (length last.before) 0 ≡ length others = ap (λ (l : List ℕ). get_or l (length last.before) 0) last.is ∙ get_or_at last.before (length others) [] 0 (length last.before) refl in
        let taken : take (get_or a (length last.before) 0) others ≡ others = ap (λ n. take n others) at ∙ take_all (length others) others (omega arith) in
        let whole : ArePartsOf members table (take (suc place) script) first others is.0 =
        subst (λ n. ArePartsOf members table (take n script) first others is.0) count (subst (λ (l : List Row). ArePartsOf members table (take (length last.before) script) first l is.0) taken is.1) in
        let given = get_or script place Heal in
        let there : slice_get script place ≡ Some given = slice_get-get_or script place Heal below in
        let split = last_command members table script place given first others is.0 there whole in
        no_other others is.0 lawful same.turns
        (subst (λ (c : Option Command). Then (ArePartsOf members table (take place script)) (EndsPartOf members table c) first others is.0) (sym there) split)
        (inl (head ∙ ap (part_head (suc (length script))) count, omega (arith, below)))

    -- a turn more
    no_turn : (others : List Row) (a : List ℕ) → IsLegal members table others → ObeysSoFar members table script others a → with rows starts ++ line ∷ [] ≡ with others a
        → LastIsTurn members table script others a → ⊥
    no_turn others a lawful obeys are last =
        let same = lines_settle members table script few limits rows last.front starts a here.legal last.legal here.obeys last.obeys here.short
        (same_front (with rows starts) (with last.front a) _ _ (are ∙ last.are)) in
        let text = same_back (with rows starts) (with last.front a) _ _ (are ∙ last.are) in
        let long = as_long members table script few limits rows last.front same.turns in
        let count : length a ≡ suc place = ap length (sym same.starts) ∙ here.count in
        let n = get_or a place 0 in
        let at : n ≡ length done = ap (λ (l : List ℕ). get_or l place 0) (sym same.starts) ∙ here.start in
        let size : length rows ≡ length done + length part = ap length here.parts ∙ length-append done part in
        let low : n ≤ length last.front = omega (arith, at, size, long) in
        let is = in_part a place others count obeys.last in
        let front : take n others ≡ take n last.front = ap (take n) last.is ∙ take-append-le n last.front (last.row ∷ []) low in
        let back : drop n others ≡ drop n last.front ++ last.row ∷ [] = ap (drop n) last.is ∙ drop-append-le n last.front (last.row ∷ []) low in
        let before : ArePartsOf members table (take place script) first (take n last.front) is.situation =
        subst (λ (l : List Row). ArePartsOf members table (take place script) first l is.situation) front is.before in
        let ends = parts_alike members table (take place script) first done (take n last.front) part (drop n last.front) middle is.situation here.before before
        (twins_there last.front (take n last.front) (drop n last.front) last.legal same.turns (sym (take-append-drop n last.front))) in
        let may : MayFollow members table (stands members table script few limits rows) last.row.turn last.row =
        subst (λ (s : Standing). MayFollow members table s last.row.turn last.row) (sym (turns_settle members table rows last.front here.legal last.legal same.turns).stands)
        (last_may members table script few limits others last.front last.row last.is lawful) in
        none.no_turn (drop n last.front) last.row ends.twins may (text ∙ ap (λ k. turn_line table (k, last.row.turn)) (sym long))
        (subst (λ (s : Situation). BeginsPartOf members table (slice_get script place) s (drop n last.front ++ last.row ∷ [])) (sym ends.same)
        (subst (BeginsPartOf members table (slice_get script place) is.situation) back is.begins))

    -- the last line
    no_end : (others : List Row) → IsWholeJournal members table script (with rows starts ++ line ∷ []) others → ⊥
    no_end others whole =
        let same = lines_settle members table script few limits rows others starts whole.starts here.legal whole.legal here.obeys (begins_whole members table script others whole.starts whole.begin) here.short
        (same_front (with rows starts) (with others whole.starts) _ _ whole.are) in
        let head = same_back (with rows starts) (with others whole.starts) _ _ whole.are in
        let counted = whole.begin.count in
        let long : length starts ≡ length whole.starts = ap length same.starts in
        let count = here.count in
        let at : place ≡ length script = omega (arith, counted, long, count) in
        let all = whole.begin.obeys.obeys in
        let taken : take place script ≡ script = take_all place script (omega (arith, at)) in
        let there : slice_get script place ≡ None = slice_get_past script place (omega (arith, at)) in
        no_other others whole.begin.obeys.after whole.legal same.turns
        (subst (λ (c : Option Command). Then (ArePartsOf members table (take place script)) (EndsPartOf members table c) first others whole.begin.obeys.after) (sym there)
        (subst (λ (l : List Command). Then (ArePartsOf members table l) (EndsPartOf members table None) first others whole.begin.obeys.after) (sym taken) all))
        (inr (head, ap suc at))

    -- **With such a line more the lines can't begin a journal.**
    pub none_next : CanBegin members table script (with rows starts ++ line ∷ []) → ⊥
    none_next (others, tell) = by tell
      where
        by : TellTurns members table script (with rows starts ++ line ∷ []) others → ⊥
        by (inl empty) = let same = empty.0 in cc
        by (inr (inl so_far)) = elim (has_last members table script others so_far.starts so_far.legal so_far.obeys) [
          | inl alone ↦ first_alone _ _ _ (sym (so_far.are ∙ alone.are))
          | inr (inl last) ↦ no_part others so_far.starts so_far.legal so_far.obeys so_far.are last
          | inr (inr last) ↦ no_turn others so_far.starts so_far.legal so_far.obeys so_far.are last
        ]
        by (inr (inr whole)) = no_end others whole

  -- ---- before the first part, and behind the last line

  obeys_none : ObeysSoFar members table script [] []
  obeys_none = record { few = omega arith; within = λ place d lt. absurd (omega (arith, lt)); rise = λ i j d lt below. absurd (omega (arith, below)); before = λ place lt. absurd (omega (arith, lt)); last = refl }

  legal_none : IsLegal members table []
  legal_none number row there = absurd cc

  -- the lines with the last one are no lines of a journal that goes on
  ended : (rows others : List Row) (starts a : List ℕ) → IsLegal members table others → ObeysSoFar members table script others a
      → ((front : List Row) (row : Row) → others ≡ front ++ row ∷ [] → IsLegal members table front → ObeysSoFar members table script front a → with rows starts ≡ with front a → length front < 2 ^ 32)
      → with rows starts ++ codes "end" ∷ [] ≡ with others a → ⊥
  ended rows others starts a lawful obeys small are = elim (has_last members table script others a lawful obeys) [
    | inl alone ↦ first_alone _ _ _ (sym (are ∙ alone.are))
    | inr (inl last) ↦ end_no_head (suc (length script)) (length last.before) (same_back (with rows starts) (with others last.before) _ _ (are ∙ last.are))
    | inr (inr last) ↦
        let short = small last.front last.row last.is last.legal last.obeys (same_front (with rows starts) (with last.front a) _ _ (are ∙ last.are)) in
        end_no_turn table (length last.front) last.row.turn (omega (arith, short)) (same_back (with rows starts) (with last.front a) _ _ (are ∙ last.are))
  ]

  -- **The lines of a journal that goes on are no whole journal.**
  pub not_ended : (rows : List Row) (starts : List ℕ) → IsLegal members table rows → ObeysSoFar members table script rows starts → length rows < 2 ^ 32
      → (others : List Row) → IsWholeJournal members table script (with rows starts) others → ⊥
  not_ended rows starts legal obeys short others whole =
      ended others rows whole.starts starts legal obeys
      (λ front row is lawful obeying same. (let size : length rows ≡ length front + 1 = ap length is ∙ length-append front (row ∷ []) in omega (arith, size, short)))
      (sym whole.are)

  -- no line can come behind the last one
  pub none_behind : (rows : List Row) (starts : List ℕ) (line : List ℕ) → IsLegal members table rows → ObeysSoFar members table script rows starts → length rows < 2 ^ 32
      → CanBegin members table script ((with rows starts ++ codes "end" ∷ []) ++ line ∷ []) → ⊥
  none_behind rows starts line legal obeys short (others, tell) = by tell
    where
      none : (there : List Row) (a : List ℕ) → IsLegal members table there → ObeysSoFar members table script there a → with rows starts ++ codes "end" ∷ [] ≡ with there a → ⊥
      none there a lawful obeying are =
          ended rows there starts a lawful obeying
          (λ front row is less fewer same.
          let long = as_long members table script few limits rows front (lines_settle members table script few limits rows front starts a legal less obeys fewer short same).turns in
          omega (arith, long, short))
          are

      by : TellTurns members table script ((with rows starts ++ codes "end" ∷ []) ++ line ∷ []) others → ⊥
      by (inl empty) = let same = empty.0 in cc
      by (inr (inl so_far)) = elim (has_last members table script others so_far.starts so_far.legal so_far.obeys) [
        | inl alone ↦ first_alone _ _ _ (sym (so_far.are ∙ alone.are))
        | inr (inl last) ↦ none others last.before so_far.legal last.obeys (same_front (with rows starts ++ codes "end" ∷ []) (with others last.before) _ _ (so_far.are ∙ last.are))
        | inr (inr last) ↦ none last.front so_far.starts last.legal last.obeys (same_front (with rows starts ++ codes "end" ∷ []) (with last.front so_far.starts) _ _ (so_far.are ∙ last.are))
      ]
      by (inr (inr whole)) =
          none others whole.starts whole.legal (begins_whole members table script others whole.starts whole.begin)
          (same_front (with rows starts ++ codes "end" ∷ []) (with others whole.starts) _ _ whole.are)

  -- behind the first line comes that of the first part
  pub none_before : (line : List ℕ) → (line ≡ part_head (suc (length script)) 0 → ⊥) → CanBegin members table script (with [] [] ++ line ∷ []) → ⊥
  none_before line differs (others, tell) = by tell
    where
      by : TellTurns members table script (with [] [] ++ line ∷ []) others → ⊥
      by (inl empty) = let same = empty.0 in cc
      by (inr (inl so_far)) = elim (has_last members table script others so_far.starts so_far.legal so_far.obeys) [
        | inl alone ↦ first_alone (codes "cron journal 1") line [] (sym (so_far.are ∙ alone.are))
        | inr (inl last) ↦
            let same = lines_settle members table script few limits [] others [] last.before legal_none so_far.legal obeys_none last.obeys (omega arith)
            (same_front (with [] []) (with others last.before) _ _ (so_far.are ∙ last.are)) in
            differs (same_back (with [] []) (with others last.before) _ _ (so_far.are ∙ last.are) ∙ ap (λ (l : List ℕ). part_head (suc (length script)) (length l)) (sym same.starts))
        | inr (inr last) ↦
            let same = lines_settle members table script few limits [] last.front [] so_far.starts legal_none last.legal obeys_none last.obeys (omega arith)
            (same_front (with [] []) (with last.front so_far.starts) _ _ (so_far.are ∙ last.are)) in
            let size : length so_far.starts ≡ 0 = ap length (sym same.starts) in
            let some = last.some in
            omega (arith, size, some)
      ]
      by (inr (inr whole)) =
          let same = lines_settle members table script few limits [] others [] whole.starts legal_none whole.legal obeys_none (begins_whole members table script others whole.starts whole.begin) (omega arith)
          (same_front (with [] []) (with others whole.starts) _ _ whole.are) in
          let size : length whole.starts ≡ 0 = ap length (sym same.starts) in
          let count = whole.begin.count in
          omega (arith, size, count)

  -- the first line is the first
  pub none_first : (line : List ℕ) → (line ≡ codes "cron journal 1" → ⊥) → CanBegin members table script (line ∷ []) → ⊥
  none_first line differs (others, tell) = by tell
    where
      by : TellTurns members table script (line ∷ []) others → ⊥
      by (inl empty) = let same = empty.0 in cc
      by (inr (inl so_far)) = let same = so_far.are in differs cc
      by (inr (inr whole)) = let same = whole.are in differs cc

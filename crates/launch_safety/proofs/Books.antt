-- The invariant of a legal book, row by row.
use Rattle.std.proofs.Common.{◌≡◌, ℕ, zero, suc, ◌≤◌, Bool, true, false, eqb, Option, Some, None, List, [], ◌∷◌, ◌++◌, length, take, refl, sym, ap, ◌∙◌, inl, inr, arith, subst, append-nil}
use Rattle.std.specs.List.{Contains, flat_map}
use Rattle.std.proofs.lemmas.Bool.{cases_Bool}
use Rattle.std.proofs.lemmas.List.{take_all}
use Rattle.std.proofs.lemmas.List.Concat.{flat_map-append}
use Rattle.std.proofs.lemmas.List.Elements.{Contains-append_cases, Contains-append_left, Contains-append_right}
use Rattle.std.proofs.lemmas.List.Sums.{fold_push}
use Rattle.paxos_base.specs.declared.durable.Delta.{Delta}
use Rattle.paxos_base.specs.declared.entry.Entry.{Entry}
use Rattle.paxos_base.specs.declared.entry.Vote.{Vote}
use Rattle.due_set.specs.Table.{Table}
use Rattle.cluster_sched.specs.Fates.{added, call}
use Rattle.cluster_sched.specs.Held.{AreNamedOnce}
use Rattle.cluster_sched.specs.declared.fate.Fate.{Fate}
use Rattle.cluster_sched.specs.declared.fate.Fate.TheVariants.{Done, LostBefore, LostAfter, Late}
use Rattle.cluster_sched.specs.declared.row.Name.{Name}
use Rattle.cluster_sched.specs.declared.row.SchedRow.{SchedRow}
use Rattle.launch_machine.specs.Clerk.{first_rows}
use Rattle.launch_safety.specs.Fits.{IsBacked}
use Rattle.launch_safety.proofs.EffectLemmas.{IsBacked-more}
use Rattle.step_spec.specs.Act.{Act}
use Rattle.step_spec.specs.Folds.{calls_of, deltas_of}
use Rattle.step_spec.proofs.Lists.{found_in, map_came, nothing_in, take_next}
use Rattle.agreement.specs.Log.{IsLog}
use Rattle.agreement.specs.World.{CastVote}
use Rattle.history.specs.Book.{Row, Standing, acts_at, after_row, answer_to, arriving, cast_votes, first_standing, held_after, is_name, late_call, standing_after, turn_of, under, vote_of_delta, votes_in, votes_of, with_fact}
use Rattle.history.specs.Legal.{IsLegal, IsMade, MayFollow, answered, kept_votes}
use Rattle.history.specs.declared.turn.CallRow.{CallRow}
use Rattle.history.specs.declared.turn.Cause.{Cause}
use Rattle.history.specs.declared.turn.Turn.{Turn}
use Rattle.history.specs.declared.turn.Turn.TheVariants.{Did, Stopped, Restarted, Arrived}
use Rattle.history.proofs.Agreement.{book_log, cut_is_legal}
use Rattle.history.proofs.Standings.{call_asked, names_once}
use Rattle.launch_safety.specs.Fitting.{TakesEffectAt}
use Rattle.launch_safety.proofs.Invariant.{SaysHeld, Fitting, first_fitting, says_more, works_more}
use Rattle.launch_safety.proofs.LogLemmas.{log_goes_on}
use Rattle.history.proofs.PlainLemmas.{votes_of_deltas}
use Rattle.launch_safety.proofs.Turns.{turn_calls, turn_votes}
use Rattle.due_set.proofs.Rising.{Contains-head as in_first, Contains-tail as in_rest, Contains-cases as cons_cases}
use Rattle.history.proofs.Reached.{none_waits}
use Rattle.due_set.proofs.SoundLemmas.{at_place as row_at}

-- ---- what is held

under_in : (name : Name) (held : List SchedRow) (row : SchedRow) → under name held ≡ Some row → Contains held row
under_in name [] row is = absurd cc
under_in name (first ∷ held) row is = elim (cases_Bool (is_name first.name name)) [
  | inl here ↦
      let so : Some first ≡ Some row = rw here at is in
      let same : first ≡ row = cc in
      subst (λ r. Contains (first ∷ held) r) same (in_first first held)
  | inr other ↦ in_rest first held row (under_in name held row (rw other at is))
]

-- the one row that a call may add
only_row : (row other : SchedRow) → Contains (row ∷ []) other → row ≡ other
only_row row other has = elim (cons_cases row [] other has) [ inl same ↦ same | inr none ↦ nothing_in none ]

call_holds : (fate : Fate) (row : SchedRow) (found : Option SchedRow) (other : SchedRow) → Contains (call fate row found).held other → row ≡ other
call_holds Done row None other has = only_row row other has
call_holds LostBefore row None other has = nothing_in has
call_holds LostAfter row None other has = only_row row other has
call_holds Late row None other has = nothing_in has
call_holds Done row (Some first) other has = nothing_in has
call_holds LostBefore row (Some first) other has = nothing_in has
call_holds LostAfter row (Some first) other has = nothing_in has
call_holds Late row (Some first) other has = nothing_in has

call_is_late : (fate : Fate) (row : SchedRow) (found : Option SchedRow) (other : SchedRow) → Contains (call fate row found).late other → row ≡ other
call_is_late Done row None other has = nothing_in has
call_is_late LostBefore row None other has = nothing_in has
call_is_late LostAfter row None other has = nothing_in has
call_is_late Late row None other has = only_row row other has
call_is_late Done row (Some first) other has = nothing_in has
call_is_late LostBefore row (Some first) other has = nothing_in has
call_is_late LostAfter row (Some first) other has = nothing_in has
call_is_late Late row (Some first) other has = nothing_in has

-- the one row that an arrival may add
added_is : (row : SchedRow) (found : Option SchedRow) (other : SchedRow) → Contains (added row found) other → row ≡ other
added_is row None other has = only_row row other has
added_is row (Some first) other has = nothing_in has

-- the answer to a call is held
answer_in : (held : List SchedRow) (fate : Fate) (row : SchedRow) (found : Option SchedRow) (answer : SchedRow) → under row.name held ≡ found
    → answered (call fate row found).answer ≡ Some answer → Contains (held ++ (call fate row found).held) answer
answer_in held Done row None answer is so =
    let same : row ≡ answer = cc in Contains-append_right held (row ∷ []) answer (subst (λ r. Contains (row ∷ []) r) same (in_first row []))
answer_in held LostBefore row None answer is so = absurd cc
answer_in held LostAfter row None answer is so = absurd cc
answer_in held Late row None answer is so = absurd cc
answer_in held Done row (Some first) answer is so =
    let same : first ≡ answer = cc in Contains-append_left held [] answer (subst (λ r. Contains held r) same (under_in row.name held first is))
answer_in held LostBefore row (Some first) answer is so = absurd cc
answer_in held LostAfter row (Some first) answer is so = absurd cc
answer_in held Late row (Some first) answer is so =
    let same : first ≡ answer = cc in Contains-append_left held [] answer (subst (λ r. Contains held r) same (under_in row.name held first is))

made_answer : (held calls : List SchedRow) (made : CallRow) → IsMade held calls (Some made) → made.answer ≡ answered (call made.fate made.row (under made.row.name held)).answer
made_answer held [] made is = absurd cc
made_answer held (asked ∷ calls) made (none, same, answers) =
    subst (λ (r : SchedRow). made.answer ≡ answered (call made.fate r (under r.name held)).answer) (sym same) answers

made_held : (held calls : List SchedRow) (made : Option CallRow) (answer : SchedRow) → IsMade held calls made → answer_to made ≡ Some answer → Contains (held_after made held) answer
made_held held calls None answer is so = absurd (let none : None ≡ Some answer = so in cc)
made_held held calls (Some made) answer is so =
    answer_in held made.fate made.row (under made.row.name held) answer refl (sym (made_answer held calls made is) ∙ so)

held_still : (made : Option CallRow) (held : List SchedRow) (row : SchedRow) → Contains held row → Contains (held_after made held) row
held_still None held row has = has
held_still (Some made) held row has = Contains-append_left held (call made.fate made.row (under made.row.name held)).held row has

-- ---- rows of a book

-- rows and votes that join those that fit
fitting_on : (table : Table) (log : List Entry) (votes new : List CastVote) (st st' : Standing) (held late : List SchedRow) → Fitting table log votes st
    → st'.held ≡ st.held ++ held → st'.late ≡ st.late ++ late → AreNamedOnce st'.held
    → ((row : SchedRow) → Contains held row → IsBacked table log row) → ((row : SchedRow) → Contains late row → IsBacked table log row)
    → ((who : ℕ) (row : SchedRow) → st'.waits who ≡ Some row → Contains st'.held row)
    → ((cast : CastVote) → Contains new cast → SaysHeld st.held cast.vote.entry × TakesEffectAt table log cast.vote.slot cast.vote.entry)
    → Fitting table log (votes ++ new) st'
fitting_on table log votes new st st' held late fits is_held is_late once backed backed_late waits says = record {
  once = once;
  held = λ row has. elim (Contains-append_cases st.held held row (subst (λ rows. Contains rows row) is_held has)) [
    | inl old ↦ fits.held row old
    | inr now ↦ backed row now
  ];
  late = λ row has. elim (Contains-append_cases st.late late row (subst (λ rows. Contains rows row) is_late has)) [
    | inl old ↦ fits.late row old
    | inr now ↦ backed_late row now
  ];
  waits = waits;
  says = λ cast has. subst (λ rows. SaysHeld rows cast.vote.entry) (sym is_held) (says_more st.held held cast.vote.entry (elim (Contains-append_cases votes new cast has) [
    | inl old ↦ fits.says cast old
    | inr now ↦ (says cast now).0
  ]));
  works = λ cast has. elim (Contains-append_cases votes new cast has) [
    | inl old ↦ fits.works cast old
    | inr now ↦ (says cast now).1
  ];
}

-- the same in a longer log
fitting_more : (table : Table) (log more : List Entry) (votes : List CastVote) (st : Standing) → Fitting table log votes st → Fitting table (log ++ more) votes st
fitting_more table log more votes st fits = record {
  once = fits.once;
  held = λ row has. IsBacked-more table log more row (fits.held row has);
  late = λ row has. IsBacked-more table log more row (fits.late row has);
  waits = fits.waits;
  says = fits.says;
  works = λ cast has. works_more table log more cast.vote.slot cast.vote.entry (fits.works cast has);
}

-- votes of one replica, each of which fits
cast_fits : (held : List SchedRow) (table : Table) (log : List Entry) (who : ℕ) (votes : List Vote)
    → ((vote : Vote) → Contains votes vote → SaysHeld held vote.entry × TakesEffectAt table log vote.slot vote.entry)
    → (cast : CastVote) → Contains (cast_votes (Some who) votes) cast → SaysHeld held cast.vote.entry × TakesEffectAt table log cast.vote.slot cast.vote.entry
cast_fits held table log who votes each cast has =
    let came = map_came _ votes cast has in
    subst (λ (c : CastVote). SaysHeld held c.vote.entry × TakesEffectAt table log c.vote.slot c.vote.entry) came.is (each came.of came.has)

no_votes : (held : List SchedRow) (table : Table) (log : List Entry) (votes : List Vote) → votes ≡ [] → (vote : Vote) → Contains votes vote
    → SaysHeld held vote.entry × TakesEffectAt table log vote.slot vote.entry
no_votes held table log votes none vote has = nothing_in (subst (λ some. Contains some vote) none has)

-- the vote that is kept of a step is a vote of the step
kept_vote : (acts : List Act) (delta : Delta) (kept : Bool) (vote : Vote) → deltas_of acts ≡ delta ∷ [] → Contains (kept_votes kept delta) vote → Contains (votes_of acts) vote
kept_vote acts delta true vote is has =
    let votes : votes_of acts ≡ vote_of_delta delta = sym (votes_of_deltas acts) ∙ ap (λ deltas. flat_map vote_of_delta deltas) is ∙ append-nil (vote_of_delta delta) in
    subst (λ some. Contains some vote) (sym votes) has
kept_vote acts delta false vote is has = nothing_in has

module _ (n : ℕ) (table : Table) (book : List Row) (few : n ≤ 7) (legal : IsLegal n table book) (log : List Entry) (is_log : IsLog n (votes_in book) log)
    (fits : Fitting table log (votes_in book) (standing_after n (first_rows table) book)) where
  abbrev st : Standing
  st = standing_after n (first_rows table) book

  -- rows that a call adds are those of a call of the step
  call_backs : (who : ℕ) (cause : Cause) (row : Row) (made : CallRow) → MayFollow n table st (Did who cause (Some made)) row → IsBacked table log made.row
  call_backs who cause row made may =
      turn_calls n table book few legal log is_log fits who cause row.event may.0 made.row
      (subst (λ calls. Contains calls made.row) (sym (call_asked n table st who cause made row may)) (in_first made.row []))

  waits_then : (who : ℕ) (made : Option CallRow) (calls : List SchedRow) → IsMade st.held calls made → (q : ℕ) (row : SchedRow)
      → with_fact who (answer_to made) st.waits q ≡ Some row → Contains (held_after made st.held) row
  waits_then who made calls is_made q row is = elim (cases_Bool (eqb q who)) [
    | inl here ↦ made_held st.held calls made row is_made (rw here at is)
    | inr other ↦ held_still made st.held row (fits.waits q row (rw other at is))
  ]

  -- what a row of the book brings fits the log that was there
  row_fits : (turn : Turn) (row : Row) → MayFollow n table st turn row
      → Fitting table log (votes_in book ++ cast_votes (turn_of turn) row.votes) (after_row n st turn row.event row.letters)
  unfolding after_row
  row_fits (Did who cause None) row may =
      fitting_on table log (votes_in book) (cast_votes (Some who) row.votes) st _ [] [] fits (sym (append-nil st.held)) (sym (append-nil st.late)) fits.once
      (λ other has. nothing_in has) (λ other has. nothing_in has) (waits_then who None (calls_of (acts_at n st who row.event)) may.1.call)
      (cast_fits st.held table log who row.votes (λ vote has. turn_votes n table book few legal log is_log fits who cause row.event may.0 vote (subst (λ votes. Contains votes vote) may.1.votes has)))
  row_fits (Did who cause (Some made)) row may =
      fitting_on table log (votes_in book) (cast_votes (Some who) row.votes) st _ _ _ fits refl refl
      (names_once n st (Did who cause (Some made)) row.event row.letters fits.once)
      (λ other has. subst (IsBacked table log) (call_holds made.fate made.row (under made.row.name st.held) other has) (call_backs who cause row made may))
      (λ other has. subst (IsBacked table log) (call_is_late made.fate made.row (under made.row.name st.held) other has) (call_backs who cause row made may))
      (waits_then who (Some made) (calls_of (acts_at n st who row.event)) may.1.call)
      (cast_fits st.held table log who row.votes (λ vote has. turn_votes n table book few legal log is_log fits who cause row.event may.0 vote (subst (λ votes. Contains votes vote) may.1.votes has)))
  row_fits (Stopped who None kept) row (member, runs, not_kept, nothing) =
      fitting_on table log (votes_in book) (cast_votes (Some who) row.votes) st _ [] [] fits (sym (append-nil st.held)) (sym (append-nil st.late)) fits.once
      (λ other has. nothing_in has) (λ other has. nothing_in has) (λ q other is. fits.waits q other (none_waits who st.waits q other is))
      (cast_fits st.held table log who row.votes (no_votes st.held table log row.votes nothing.votes))
  row_fits (Stopped who (Some cause) kept) row (takes, within) =
      fitting_on table log (votes_in book) (cast_votes (Some who) row.votes) st _ [] [] fits (sym (append-nil st.held)) (sym (append-nil st.late)) fits.once
      (λ other has. nothing_in has) (λ other has. nothing_in has) (λ q other is. fits.waits q other (none_waits who st.waits q other is))
      (cast_fits st.held table log who row.votes (λ vote has. turn_votes n table book few legal log is_log fits who cause row.event takes vote
      (kept_vote (acts_at n st who row.event) within.delta kept vote within.changes (subst (λ votes. Contains votes vote) within.votes has))))
  row_fits (Restarted who) row (member, stopped, nothing) =
      fitting_on table log (votes_in book) (cast_votes (Some who) row.votes) st _ [] [] fits (sym (append-nil st.held)) (sym (append-nil st.late)) fits.once
      (λ other has. nothing_in has) (λ other has. nothing_in has) fits.waits
      (cast_fits st.held table log who row.votes (no_votes st.held table log row.votes nothing.votes))
  row_fits (Arrived number) row (late, nothing) =
      let came : arriving (late_call number st.late) st.held ≡ st.held ++ added late.row (under late.row.name st.held) = ap (λ call. arriving call st.held) late.there in
      fitting_on table log (votes_in book) [] st _ (added late.row (under late.row.name st.held)) [] fits came (sym (append-nil st.late))
      (names_once n st (Arrived number) row.event row.letters fits.once)
      (λ other has. subst (IsBacked table log) (added_is late.row (under late.row.name st.held) other has) (fits.late late.row (found_in st.late number late.row late.there)))
      (λ other has. nothing_in has)
      (λ q other is. subst (λ rows. Contains rows other) (sym came) (Contains-append_left st.held (added late.row (under late.row.name st.held)) other (fits.waits q other is)))
      (λ cast has. nothing_in has)

-- ---- books

-- what holds of a book, whatever its log
abbrev pub Fitted : ℕ → Table → List Row → Type 0
Fitted n table book = (log : List Entry) → IsLog n (votes_in book) log → Fitting table log (votes_in book) (standing_after n (first_rows table) book)

votes_push : (book : List Row) (row : Row) → votes_in (book ++ row ∷ []) ≡ votes_in book ++ cast_votes (turn_of row.turn) row.votes
votes_push book row = flat_map-append _ book (row ∷ []) ∙ ap (λ rows. votes_in book ++ rows) (append-nil _)

next_fitted : (n : ℕ) (table : Table) (book : List Row) (row : Row) → n ≤ 7 → IsLegal n table book → IsLegal n table (book ++ row ∷ [])
    → MayFollow n table (standing_after n (first_rows table) book) row.turn row → Fitted n table book → Fitted n table (book ++ row ∷ [])
next_fitted n table book row few legal longer may fitted later is_later =
    let log = book_log n table book few legal in
    let fits = row_fits n table book few legal log.0 log.1 (fitted log.0 log.1) row.turn row may in
    let among : (vote : CastVote) → Contains (votes_in book) vote → Contains (votes_in (book ++ row ∷ [])) vote =
    λ vote has. subst (λ votes. Contains votes vote) (sym (votes_push book row)) (Contains-append_left (votes_in book) (cast_votes (turn_of row.turn) row.votes) vote has) in
    let on = log_goes_on n table (book ++ row ∷ []) (votes_in book) log.0 later few longer among log.1 is_later in
    subst (λ some. Fitting table some (votes_in (book ++ row ∷ [])) (standing_after n (first_rows table) (book ++ row ∷ []))) (sym on.1)
    (fitting_more table log.0 on.0 (votes_in (book ++ row ∷ [])) (standing_after n (first_rows table) (book ++ row ∷ []))
    (subst (λ votes. Fitting table log.0 votes (standing_after n (first_rows table) (book ++ row ∷ []))) (sym (votes_push book row))
    (subst (λ st. Fitting table log.0 (votes_in book ++ cast_votes (turn_of row.turn) row.votes) st) (sym (fold_push _ (first_standing n (first_rows table)) book row)) fits)))

front_fitted : (n : ℕ) (table : Table) (book : List Row) (k : ℕ) → n ≤ 7 → IsLegal n table book → k ≤ length book → Fitted n table (take k book)
front_fitted n table book zero few legal within = λ log is_log. first_fitting n table log
front_fitted n table book (suc k) few legal within =
    let row = row_at book k (omega (arith, within)) in
    let next : take (suc k) book ≡ take k book ++ row.0 ∷ [] = take_next book k row.0 row.1 in
    subst (Fitted n table) (sym next)
    (next_fitted n table (take k book) row.0 few (cut_is_legal n table book k legal) (subst (IsLegal n table) next (cut_is_legal n table book (suc k) legal)) (legal k row.0 row.1)
    (front_fitted n table book k few legal (omega (arith, within))))

pub book_fitted : (n : ℕ) (table : Table) (book : List Row) → n ≤ 7 → IsLegal n table book → Fitted n table book
book_fitted n table book few legal =
    subst (Fitted n table) (take_all (length book) book (omega arith)) (front_fitted n table book (length book) few legal (omega arith))

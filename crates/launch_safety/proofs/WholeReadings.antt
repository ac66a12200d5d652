-- Each start and each adoption that was voted for, and each call, was asked for in a turn of the book whose clock read its instant.
use Rattle.std.proofs.Common.{◌≡◌, ℕ, zero, suc, ◌+◌, ◌≤◌, Option, Some, None, List, [], ◌∷◌, ◌++◌, length, take, ℤ, ◌≤ℤ◌, refl, sym, ap, ◌∙◌, inl, inr, arith, subst, append-nil, append_assoc}
use Rattle.std.specs.List.{Contains}
use Rattle.std.proofs.lemmas.Int.{ints}
use Rattle.std.proofs.lemmas.List.{take_all}
use Rattle.std.proofs.lemmas.List.Concat.{flat_map-append}
use Rattle.std.proofs.lemmas.List.Elements.{All-contains, Contains-append_cases, Contains-append_right}
use Rattle.std.proofs.lemmas.List.Sums.{fold_push}
use Rattle.paxos_base.specs.declared.entry.Entry.{Entry}
use Rattle.paxos_base.specs.declared.entry.Entry.TheVariants.{Noop, Start, End, Table as TableEntry}
use Rattle.due_set.specs.Table.{Table}
use Rattle.cluster_sched.specs.Fates.{added, call}
use Rattle.cluster_sched.specs.declared.fate.Fate.{Fate}
use Rattle.cluster_sched.specs.declared.fate.Fate.TheVariants.{Done, LostBefore, LostAfter, Late}
use Rattle.cluster_sched.specs.declared.row.SchedRow.{SchedRow}
use Rattle.launch_machine.specs.Clerk.{first_rows}
use Rattle.launch_machine.specs.declared.machine.Intent.{Intent}
use Rattle.launch_machine.specs.declared.machine.Intent.TheVariants as intent
use Rattle.launch_safety.specs.Fits.{IsEffective}
use Rattle.step_spec.specs.State.{prefix_of}
use Rattle.step_spec.proofs.Lists.{found_in, nothing_in, take_next}
use Rattle.agreement.specs.Agree.{vote_for}
use Rattle.agreement.specs.Log.{AreChosen, IsLog}
use Rattle.agreement.specs.World.{CastVote}
use Rattle.agreement.proofs.OneValue.{voter_of}
use Rattle.history.specs.Book.{Row, Standing, after_row, arriving, cast_votes, first_standing, late_call, standing_after, turn_of, under, votes_in}
use Rattle.history.specs.Legal.{IsLegal, MayFollow}
use Rattle.history.specs.declared.turn.Cause.{Cause}
use Rattle.history.specs.declared.turn.Cause.TheVariants as causes
use Rattle.history.specs.declared.turn.Turn.{Turn}
use Rattle.history.specs.declared.turn.Turn.TheVariants.{Did, Stopped, Restarted, Arrived}
use Rattle.history.proofs.Agreement.{cut_is_legal}
use Rattle.launch_safety.proofs.LogLemmas.{chosen_there}
use Rattle.launch_safety.specs.Readings.{AreTurnsBy, IsTurnBy, ReadsBy}
use Rattle.launch_safety.specs.Asked.{IsAskedAt, ReadsAt, TicksAt}
use Rattle.launch_safety.proofs.Asking.{AsksEntry, AsksIn, row_call, row_votes}
use Rattle.due_set.proofs.Rising.{Contains-head as in_first, Contains-cases as cons_cases}
use Rattle.due_set.proofs.SoundLemmas.{at_place as row_at}

-- ---- what was asked for stays so

asked_more : (n : ℕ) (table : Table) (book more : List Row) (slot : ℕ) (now : ℤ) (wanted : Intent) → IsAskedAt n table book slot now wanted → IsAskedAt n table (book ++ more) slot now wanted
asked_more n table book more slot now wanted known = record {
  front = known.front;
  row = known.row;
  back = known.back ++ more;
  parts = ap (λ rows. rows ++ more) known.parts ∙ append_assoc known.front (known.row ∷ known.back) more;
  who = known.who;
  turn_is = known.turn_is;
  reads = known.reads;
  learned = known.learned;
  launch = known.launch;
  launch_is = known.launch_is;
  asks = known.asks;
}

asked_here : (n : ℕ) (table : Table) (book : List Row) (row : Row) (slot : ℕ) (now : ℤ) (wanted : Intent) → AsksIn n table book row.turn slot now wanted → IsAskedAt n table (book ++ row ∷ []) slot now wanted
asked_here n table book row slot now wanted asks = record {
  front = book;
  row = row;
  back = [];
  parts = refl;
  who = asks.who;
  turn_is = asks.turn_is;
  reads = asks.reads;
  learned = asks.learned;
  launch = asks.launch;
  launch_is = asks.launch_is;
  asks = asks.asks;
}

-- the start or the adoption was asked for; of another entry nothing is said
abbrev IsEntryAsked : ℕ → Table → List Row → ℕ → Entry → Type 0
IsEntryAsked n table book slot (Start job at now) = IsAskedAt n table book slot now (intent.Start job at)
IsEntryAsked n table book slot (TableEntry version now) = IsAskedAt n table book slot now (intent.Adopt version)
IsEntryAsked n table book slot entry = Unit {0}

entry_more : (n : ℕ) (table : Table) (book more : List Row) (slot : ℕ) (entry : Entry) → IsEntryAsked n table book slot entry → IsEntryAsked n table (book ++ more) slot entry
entry_more n table book more slot Noop known = tt
entry_more n table book more slot (TableEntry version now) known = asked_more n table book more slot now (intent.Adopt version) known
entry_more n table book more slot (End job at kind) known = tt
entry_more n table book more slot (Start job at now) known = asked_more n table book more slot now (intent.Start job at) known

entry_here : (n : ℕ) (table : Table) (book : List Row) (row : Row) (slot : ℕ) (entry : Entry) → AsksEntry n table book row.turn slot entry → IsEntryAsked n table (book ++ row ∷ []) slot entry
entry_here n table book row slot Noop known = tt
entry_here n table book row slot (TableEntry version now) known = asked_here n table book row slot now (intent.Adopt version) known
entry_here n table book row slot (End job at kind) known = tt
entry_here n table book row slot (Start job at now) known = asked_here n table book row slot now (intent.Start job at) known

-- the call of the row was asked for
abbrev IsCallAsked : ℕ → Table → List Row → SchedRow → Type 0
IsCallAsked n table book row = (slot : ℕ) × IsAskedAt n table book slot row.now.0 (intent.Call row.name.job row.name.at row.kind)

call_more : (n : ℕ) (table : Table) (book more : List Row) (row : SchedRow) → IsCallAsked n table book row → IsCallAsked n table (book ++ more) row
call_more n table book more row (slot, known) = (slot, asked_more n table book more slot row.now.0 (intent.Call row.name.job row.name.at row.kind) known)

-- ---- rows that join

only_row : (row other : SchedRow) → Contains (row ∷ []) other → row ≡ other
only_row row other has = elim (cons_cases row [] other has) [ inl same ↦ same | inr none ↦ nothing_in none ]

call_holds : (fate : Fate) (row : SchedRow) (found : Option SchedRow) (other : SchedRow) → Contains (call fate row found).held other → row ≡ other
call_holds Done row None other has = only_row row other has
call_holds LostBefore row None other has = nothing_in has
call_holds LostAfter row None other has = only_row row other has
call_holds Late row None other has = nothing_in has
call_holds Done row (Some first) other has = nothing_in has
call_holds LostBefore row (Some first) other has = nothing_in has
call_holds LostAfter row (Some first) other has = nothing_in has
call_holds Late row (Some first) other has = nothing_in has

call_is_late : (fate : Fate) (row : SchedRow) (found : Option SchedRow) (other : SchedRow) → Contains (call fate row found).late other → row ≡ other
call_is_late Done row None other has = nothing_in has
call_is_late LostBefore row None other has = nothing_in has
call_is_late LostAfter row None other has = nothing_in has
call_is_late Late row None other has = only_row row other has
call_is_late Done row (Some first) other has = nothing_in has
call_is_late LostBefore row (Some first) other has = nothing_in has
call_is_late LostAfter row (Some first) other has = nothing_in has
call_is_late Late row (Some first) other has = nothing_in has

added_is : (row : SchedRow) (found : Option SchedRow) (other : SchedRow) → Contains (added row found) other → row ≡ other
added_is row None other has = only_row row other has
added_is row (Some first) other has = nothing_in has

-- ---- the invariant

-- the calls that are held or late were asked for
record AreAsked (n : ℕ) (table : Table) (book : List Row) (standing : Standing) : Type 0 where
  held : (row : SchedRow) → Contains standing.held row → IsCallAsked n table book row
  late : (row : SchedRow) → Contains standing.late row → IsCallAsked n table book row

-- so was each start and each adoption that was voted for
record AllAsked (n : ℕ) (table : Table) (book : List Row) (votes : List CastVote) (standing : Standing) : Type 0 where
  entries : (cast : CastVote) → Contains votes cast → IsEntryAsked n table book cast.vote.slot cast.vote.entry
  calls : AreAsked n table book standing

module _ (n : ℕ) (table : Table) (book : List Row) (few : n ≤ 7) (legal : IsLegal n table book) (row : Row)
    (known : AllAsked n table book (votes_in book) (standing_after n (first_rows table) book)) where
  abbrev st : Standing
  st = standing_after n (first_rows table) book

  abbrev longer : List Row
  longer = book ++ row ∷ []

  old_held : (other : SchedRow) → Contains st.held other → IsCallAsked n table longer other
  old_held other has = call_more n table book (row ∷ []) other (known.calls.held other has)

  old_late : (other : SchedRow) → Contains st.late other → IsCallAsked n table longer other
  old_late other has = call_more n table book (row ∷ []) other (known.calls.late other has)

  next_votes : MayFollow n table st row.turn row → (cast : CastVote) → Contains (votes_in book ++ cast_votes (turn_of row.turn) row.votes) cast → IsEntryAsked n table longer cast.vote.slot cast.vote.entry
  next_votes may cast has = elim (Contains-append_cases (votes_in book) (cast_votes (turn_of row.turn) row.votes) cast has) [
    | inl old ↦ entry_more n table book (row ∷ []) cast.vote.slot cast.vote.entry (known.entries cast old)
    | inr now ↦ elim (row_votes n table book few legal row.turn row may cast now) [
      | inl before ↦
          let at_slot : IsEntryAsked n table longer cast.vote.slot before.cast.vote.entry = subst (λ slot. IsEntryAsked n table longer slot before.cast.vote.entry) before.at_slot
          (entry_more n table book (row ∷ []) before.cast.vote.slot before.cast.vote.entry (known.entries before.cast before.has)) in
          subst (IsEntryAsked n table longer cast.vote.slot) before.of_entry at_slot
      | inr asks ↦ entry_here n table book row cast.vote.slot cast.vote.entry asks
    ]
  ]

  next_calls : (turn : Turn) → row.turn ≡ turn → MayFollow n table st turn row → AreAsked n table longer (after_row n st turn row.event row.letters)
  unfolding after_row
  next_calls (Did who cause None) is may = record { held = old_held; late = old_late }
  next_calls (Did who cause (Some made)) is may =
      let slot = prefix_of (st.replicas who) in
      let wanted = intent.Call made.row.name.job made.row.name.at made.row.kind in
      let asks : AsksIn n table book row.turn slot made.row.now.0 wanted =
      subst (λ turn. AsksIn n table book turn slot made.row.now.0 wanted) (sym is) (row_call n table book few legal who cause row made may) in
      let here : IsCallAsked n table longer made.row = (slot, asked_here n table book row slot made.row.now.0 wanted asks) in
      record {
        held = λ other has. elim (Contains-append_cases st.held _ other has) [
          | inl old ↦ old_held other old
          | inr new ↦ subst (IsCallAsked n table longer) (call_holds made.fate made.row (under made.row.name st.held) other new) here
        ];
        late = λ other has. elim (Contains-append_cases st.late _ other has) [
          | inl old ↦ old_late other old
          | inr new ↦ subst (IsCallAsked n table longer) (call_is_late made.fate made.row (under made.row.name st.held) other new) here
        ];
      }
  next_calls (Stopped who cause kept) is may = record { held = old_held; late = old_late }
  next_calls (Restarted who) is may = record { held = old_held; late = old_late }
  next_calls (Arrived number) is (late, nothing) = record {
    held = λ other has.
        let came : arriving (late_call number st.late) st.held ≡ st.held ++ added late.row (under late.row.name st.held) = ap (λ call. arriving call st.held) late.there in
        elim (Contains-append_cases st.held (added late.row (under late.row.name st.held)) other (subst (λ rows. Contains rows other) came has)) [
          | inl old ↦ old_held other old
          | inr new ↦ subst (IsCallAsked n table longer) (added_is late.row (under late.row.name st.held) other new) (old_late late.row (found_in st.late number late.row late.there))
        ];
    late = old_late;
  }

-- ---- books

abbrev IsAsked : ℕ → Table → List Row → Type 0
IsAsked n table book = AllAsked n table book (votes_in book) (standing_after n (first_rows table) book)

votes_push : (book : List Row) (row : Row) → votes_in (book ++ row ∷ []) ≡ votes_in book ++ cast_votes (turn_of row.turn) row.votes
votes_push book row = flat_map-append _ book (row ∷ []) ∙ ap (λ rows. votes_in book ++ rows) (append-nil _)

next_asked : (n : ℕ) (table : Table) (book : List Row) (row : Row) → n ≤ 7 → IsLegal n table book
    → MayFollow n table (standing_after n (first_rows table) book) row.turn row → IsAsked n table book → IsAsked n table (book ++ row ∷ [])
next_asked n table book row few legal may known =
    let calls = next_calls n table book few legal row known row.turn refl may in
    let goes : (standing_after n (first_rows table) (book ++ row ∷ [])) ≡ after_row n (standing_after n (first_rows table) book) row.turn row.event row.letters =
    fold_push _ (first_standing n (first_rows table)) book row in
    record {
      entries = λ cast has. next_votes n table book few legal row known may cast (subst (λ votes. Contains votes cast) (votes_push book row) has);
      calls = subst (AreAsked n table (book ++ row ∷ [])) (sym goes) calls;
    }

front_asked : (n : ℕ) (table : Table) (book : List Row) (k : ℕ) → n ≤ 7 → IsLegal n table book → k ≤ length book → IsAsked n table (take k book)
front_asked n table book zero few legal within = record { entries = λ cast has. nothing_in has; calls = record { held = λ row has. nothing_in has; late = λ row has. nothing_in has } }
front_asked n table book (suc k) few legal within =
    let row = row_at book k (omega (arith, within)) in
    let next : take (suc k) book ≡ take k book ++ row.0 ∷ [] = take_next book k row.0 row.1 in
    subst (IsAsked n table) (sym next)
    (next_asked n table (take k book) row.0 few (cut_is_legal n table book k legal) (legal k row.0 row.1) (front_asked n table book k few legal (omega (arith, within))))

book_asked : (n : ℕ) (table : Table) (book : List Row) → n ≤ 7 → IsLegal n table book → IsAsked n table book
book_asked n table book few legal = subst (IsAsked n table) (take_all (length book) book (omega arith)) (front_asked n table book (length book) few legal (omega arith))

-- ---- the laws

pub start_asked : (n : ℕ) (table : Table) (book : List Row) (cast : CastVote) (job : ℕ) (at now : ℤ) → n ≤ 7 → IsLegal n table book → Contains (votes_in book) cast
    → cast.vote.entry ≡ Start job at now → IsAskedAt n table book cast.vote.slot now (intent.Start job at)
start_asked n table book cast job at now few legal has is =
    let known : IsEntryAsked n table book cast.vote.slot (Start job at now) = subst (IsEntryAsked n table book cast.vote.slot) is ((book_asked n table book few legal).entries cast has) in
    known

pub adoption_asked : (n : ℕ) (table : Table) (book : List Row) (cast : CastVote) (version : ℕ) (now : ℤ) → n ≤ 7 → IsLegal n table book → Contains (votes_in book) cast
    → cast.vote.entry ≡ TableEntry version now → IsAskedAt n table book cast.vote.slot now (intent.Adopt version)
adoption_asked n table book cast version now few legal has is =
    let known : IsEntryAsked n table book cast.vote.slot (TableEntry version now) =
    subst (IsEntryAsked n table book cast.vote.slot) is ((book_asked n table book few legal).entries cast has) in
    known

pub held_asked : (n : ℕ) (table : Table) (book : List Row) (row : SchedRow) → n ≤ 7 → IsLegal n table book → Contains (standing_after n (first_rows table) book).held row
    → (slot : ℕ) × IsAskedAt n table book slot row.now.0 (intent.Call row.name.job row.name.at row.kind)
held_asked n table book row few legal has = (book_asked n table book few legal).calls.held row has

pub late_asked : (n : ℕ) (table : Table) (book : List Row) (row : SchedRow) → n ≤ 7 → IsLegal n table book → Contains (standing_after n (first_rows table) book).late row
    → (slot : ℕ) × IsAskedAt n table book slot row.now.0 (intent.Call row.name.job row.name.at row.kind)
late_asked n table book row few legal has = (book_asked n table book few legal).calls.late row has

-- a start of the log was asked for at its place
pub logged_asked : (n : ℕ) (table : Table) (book : List Row) (log before after : List Entry) (job : ℕ) (at now : ℤ) → n ≤ 7 → IsLegal n table book → IsLog n (votes_in book) log
    → log ≡ before ++ Start job at now ∷ after → IsAskedAt n table book (length before) now (intent.Start job at)
logged_asked n table book log before after job at now few legal is_log parts =
    let chosen = chosen_there n (votes_in book) 0 before after (Start job at now) (subst (λ some. AreChosen n (votes_in book) 0 some) parts is_log.chosen) in
    let voter = voter_of n (votes_in book) (0 + length before) (Start job at now) chosen in
    let slot : 0 + length before ≡ length before = omega arith in
    subst (λ at_slot. IsAskedAt n table book at_slot now (intent.Start job at)) slot
    (start_asked n table book (record { by = voter.0; vote = vote_for (0 + length before) chosen.ballot (Start job at now) }) job at now few legal voter.1 refl)

cause_by : (now until : ℤ) (cause : Cause) → TicksAt now cause → ReadsBy until cause → now ≤ℤ until
cause_by now until (causes.Tick minute) ticks by = omega (arith, ints, ticks, by)
cause_by now until causes.Campaign ticks by = absurd ticks
cause_by now until (causes.Hear number) ticks by = absurd ticks
cause_by now until causes.Answer ticks by = absurd ticks

-- a turn that reads an instant is no turn by an earlier one
pub reads_by : (now until : ℤ) (turn : Turn) → ReadsAt now turn → IsTurnBy until turn → now ≤ℤ until
reads_by now until (Did who cause made) reads by = cause_by now until cause reads by
reads_by now until (Stopped who None kept) reads by = absurd reads
reads_by now until (Stopped who (Some cause) kept) reads by = cause_by now until cause reads by
reads_by now until (Restarted who) reads by = absurd reads
reads_by now until (Arrived number) reads by = absurd reads

-- what was asked for in turns by an instant was asked for no later
pub asked_by : (n : ℕ) (table : Table) (book : List Row) (slot : ℕ) (now until : ℤ) (wanted : Intent) → IsAskedAt n table book slot now wanted → AreTurnsBy until book → now ≤ℤ until
asked_by n table book slot now until wanted asked by =
    let there : Contains (asked.front ++ asked.row ∷ asked.back) asked.row = Contains-append_right asked.front (asked.row ∷ asked.back) asked.row (in_first asked.row asked.back) in
    reads_by now until asked.row.turn asked.reads
    (All-contains (λ (r : Row). IsTurnBy until r.turn) book asked.row by (subst (λ rows. Contains rows asked.row) (sym asked.parts) there))

pub not_ahead : (n : ℕ) (table : Table) (book : List Row) (log : List Entry) (job : ℕ) (at now until : ℤ) → n ≤ 7 → IsLegal n table book → IsLog n (votes_in book) log
    → IsEffective table log (Start job at now) → AreTurnsBy until book → now ≤ℤ until
not_ahead n table book log job at now until few legal is_log start by =
    asked_by n table book (length start.before) now until (intent.Start job at) (logged_asked n table book log start.before start.after job at now few legal is_log start.parts) by

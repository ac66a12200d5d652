-- Each legal book fits.
use Rattle.std.proofs.Common.{◌≡◌, ◌≢◌, ℕ, ◌+◌, ◌≤◌, List, [], ◌∷◌, ◌++◌, Some, length, take, drop, ℤ, refl, sym, ap, ◌∙◌, inl, inr, arith, subst, append-nil, append_assoc}
use Rattle.std.specs.List.{All, Contains}
use Rattle.std.proofs.lemmas.List.{take-append-drop}
use Rattle.std.proofs.lemmas.List.Concat.{flat_map-append}
use Rattle.std.proofs.lemmas.List.Elements.{All-contains_itself, All-weaker, Contains-append_left}
use Rattle.std.proofs.Math.Seq.{take-append_seam}
use Rattle.paxos_base.specs.declared.entry.Entry.{Entry}
use Rattle.paxos_base.specs.declared.entry.Entry.TheVariants.{Noop, Start, End, Table as TableEntry}
use Rattle.paxos_base.specs.declared.entry.Kind.{Kind}
use Rattle.paxos_base.specs.declared.rows.JobRow.{JobRow}
use Rattle.jiff.specs.Types.{TimeZone}
use Rattle.due_set.specs.Calls.{HasCome}
use Rattle.due_set.specs.Table.{IsJobIn, Job, Table, Version}
use Rattle.cluster_sched.specs.declared.row.SchedRow.{SchedRow}
use Rattle.launch_machine.specs.Answers.{IsCallKind}
use Rattle.launch_machine.specs.Clerk.{AppliesAll, IsClerkOf, MayStart, TakesTable, first_force, first_rows, in_force, rows_after}
use Rattle.launch_machine.specs.Starts.{AdoptionsFrom, AdoptionsOf}
use Rattle.launch_machine.specs.declared.force.InForce.{InForce}
use Rattle.launch_machine.proofs.ClerkLemmas.{Applies-same, IsClerkOf-push}
use Rattle.launch_machine.proofs.VersionRows.{ArePlain, HasFirstVersion, IsPlain, clerk_first_version, first_may, first_version_force}
use Rattle.launch_safety.specs.Fits.{Fits, HasEnd, HasStart, IsBacked, IsEffective, IsHeld, IsStartedUnder, TakesEffectAfter}
use Rattle.launch_safety.proofs.EffectLemmas.{was_started}
use Rattle.launch_safety.proofs.OrderLemmas.{in_order}
use Rattle.launch_safety.proofs.PeriodLemmas.{started_apart}
use Rattle.agreement.specs.Agree.{vote_for}
use Rattle.agreement.specs.Log.{AreChosen, IsLog}
use Rattle.agreement.specs.World.{CastVote}
use Rattle.agreement.proofs.OneValue.{voter_of}
use Rattle.history.specs.Book.{Row, standing_after, votes_in}
use Rattle.history.specs.Legal.{IsLegal}
use Rattle.history.proofs.Agreement.{book_log, cut_is_legal}
use Rattle.launch_safety.specs.Fitting.{FitsItsLog, TakesEffectAt, held_in}
use Rattle.launch_safety.proofs.Books.{book_fitted}
use Rattle.launch_safety.proofs.Invariant.{SaysHeld, Fitting}
use Rattle.launch_safety.proofs.LogLemmas.{chosen_there, log_goes_on}

-- ---- entries without a version

-- plain entries adopt none
none_from : (table : Table) (rows last : List JobRow) (entries : List Entry) → ArePlain entries → AppliesAll table rows entries last → AdoptionsFrom table rows entries []
none_from table rows last [] plain e = refl
none_from table rows last (entry ∷ entries) plain (middle, step, rest) =
    (middle, [], step, inr (λ now adopts. subst IsPlain adopts.is plain.0, refl), none_from table middle last entries plain.1 rest)

-- a front of plain entries is one
before_plain : (before rest : List Entry) → ArePlain (before ++ rest) → ArePlain before
before_plain [] rest plain = tt
before_plain (entry ∷ before) rest plain = (plain.0, before_plain before rest plain.1)

-- entries by which none is adopted have none that would be
some_adopted : (table : Table) (rows left : List JobRow) (before after : List Entry) (version : ℕ) (now : ℤ)
    → AdoptionsFrom table rows (before ++ TableEntry version now ∷ after) [] → AppliesAll table rows before left → TakesTable table left version now → ⊥
some_adopted table rows left [] after version now (middle, later, step, inl (at, adopts, e), rest) same takes = absurd cc
some_adopted table rows left [] after version now (middle, later, step, inr (not, e), rest) same takes =
    not now (record { version = version; is = refl; takes = subst (λ (r : List JobRow). TakesTable table r version now) same takes })
some_adopted table rows left (entry ∷ before) after version now (middle, later, step, inl (at, adopts, e), rest) (other, again, more) takes = absurd cc
some_adopted table rows left (entry ∷ before) after version now (middle, later, step, inr (not, e), rest) (other, again, more) takes =
    let same : other ≡ middle = Applies-same table rows entry other middle again step in
    some_adopted table middle left before after version now
    (subst (AdoptionsFrom table middle (before ++ TableEntry version now ∷ after)) (sym e) rest)
    (subst (λ (r : List JobRow). AppliesAll table r before left) same more) takes

-- ---- a legal book

-- the row is backed by the first version
pub record IsFirstBacked (table : Table) (log : List Entry) (row : SchedRow) : Type 0 where
  pub start : HasStart table log row.name.job row.name.at
  pub spec : Job
  pub zone : TimeZone
  pub is_in : IsJobIn table 0 row.name.job spec zone
  pub come : HasCome spec.kind zone row.name.at row.now.0
  pub kind : IsCallKind table 0 row.name.job row.name.at row.now.0 row.kind

module _ (n : ℕ) (table : Table) (book : List Row) (few : n ≤ 7) (legal : IsLegal n table book) (log : List Entry) (is_log : IsLog n (votes_in book) log) where
  pub fits : Fitting table log (votes_in book) (standing_after n (first_rows table) book)
  fits = book_fitted n table book few legal log is_log

  -- an entry of the log was voted for, at its slot
  voted : (before after : List Entry) (entry : Entry) → log ≡ before ++ entry ∷ after
      → (cast : CastVote) × Contains (votes_in book) cast × (cast.vote.slot ≡ length before) × (cast.vote.entry ≡ entry)
  voted before after entry parts =
      let chosen = chosen_there n (votes_in book) 0 before after entry (subst (λ some. AreChosen n (votes_in book) 0 some) parts is_log.chosen) in
      let voter = voter_of n (votes_in book) (0 + length before) entry chosen in
      (record { by = voter.0; vote = vote_for (0 + length before) chosen.ballot entry }, voter.1, omega arith, refl)

  entry_works : (before after : List Entry) (entry : Entry) → log ≡ before ++ entry ∷ after → TakesEffectAt table log (length before) entry
  entry_works before after entry parts =
      let (cast, has, slot, is) = voted before after entry parts in
      let works = subst (λ at. TakesEffectAt table log at cast.vote.entry) slot (fits.works cast has) in
      subst (TakesEffectAt table log (length before)) is works

  front_is : (before after : List Entry) (entry : Entry) → log ≡ before ++ entry ∷ after → take (length before) log ≡ before
  front_is before after entry parts = ap (λ some. take (length before) some) parts ∙ take-append_seam before (entry ∷ after)

  -- each entry of the log takes effect but the no-ops
  pub entry_takes : (before after : List Entry) (entry : Entry) → log ≡ before ++ entry ∷ after → entry ≢ Noop → TakesEffectAfter table before entry
  entry_takes before after Noop parts other = absurd (other refl)
  entry_takes before after (Start job at now) parts other =
      subst (λ front. TakesEffectAfter table front (Start job at now)) (front_is before after (Start job at now) parts) (entry_works before after (Start job at now) parts).1
  entry_takes before after (End job at kind) parts other =
      subst (λ front. TakesEffectAfter table front (End job at kind)) (front_is before after (End job at kind) parts) (entry_works before after (End job at kind) parts).1
  entry_takes before after (TableEntry version now) parts other =
      subst (λ front. TakesEffectAfter table front (TableEntry version now)) (front_is before after (TableEntry version now) parts) (entry_works before after (TableEntry version now) parts).1

  -- so the entries leave a launch table, whatever the table of jobs
  entry_applies : (before after : List Entry) (entry : Entry) (rows : List JobRow) → log ≡ before ++ entry ∷ after → IsClerkOf table before rows
      → (next : List JobRow) × IsClerkOf table (before ++ entry ∷ []) next
  entry_applies before after Noop rows parts clerk = (rows, (IsClerkOf-push table before Noop rows).1 (rows, clerk, inr (λ takes. takes, refl)))
  entry_applies before after (Start job at now) rows parts clerk =
      let (left, left_by, takes) = entry_takes before after (Start job at now) parts (λ is. cc) in
      let next = rows_after table left (Start job at now) in
      (next, (IsClerkOf-push table before (Start job at now) next).1 (left, left_by, inl (takes, refl)))
  entry_applies before after (End job at kind) rows parts clerk =
      let (left, left_by, takes) = entry_takes before after (End job at kind) parts (λ is. cc) in
      let next = rows_after table left (End job at kind) in
      (next, (IsClerkOf-push table before (End job at kind) next).1 (left, left_by, inl (takes, refl)))
  entry_applies before after (TableEntry version now) rows parts clerk =
      let (left, left_by, takes) = entry_takes before after (TableEntry version now) parts (λ is. cc) in
      let next = rows_after table left (TableEntry version now) in
      (next, (IsClerkOf-push table before (TableEntry version now) next).1 (left, left_by, inl (takes, refl)))

  clerk_along : (before rest : List Entry) (rows : List JobRow) → log ≡ before ++ rest → IsClerkOf table before rows → (last : List JobRow) × IsClerkOf table log last
  clerk_along before [] rows parts clerk = (rows, subst (λ some. IsClerkOf table some rows) (sym (append-nil before) ∙ sym parts) clerk)
  clerk_along before (entry ∷ rest) rows parts clerk =
      let next = entry_applies before rest entry rows parts clerk in
      clerk_along (before ++ entry ∷ []) rest next.0 (parts ∙ sym (append_assoc before (entry ∷ []) rest)) next.1

  pub log_clerk : (rows : List JobRow) × IsClerkOf table log rows
  log_clerk = clerk_along [] log (first_rows table) refl refl

  -- where the log has no entry for a version, it has plain ones alone
  is_plain : ((before after : List Entry) (version : ℕ) (now : ℤ) → log ≡ before ++ TableEntry version now ∷ after → ⊥)
      → (before after : List Entry) (entry : Entry) → log ≡ before ++ entry ∷ after → IsPlain entry
  is_plain never before after Noop parts = tt
  is_plain never before after (Start job at now) parts = tt
  is_plain never before after (End job at kind) parts = tt
  is_plain never before after (TableEntry version now) parts = absurd (never before after version now parts)

  plain_along : ((before after : List Entry) (version : ℕ) (now : ℤ) → log ≡ before ++ TableEntry version now ∷ after → ⊥)
      → (before rest : List Entry) → log ≡ before ++ rest → ArePlain rest
  plain_along never before [] parts = tt
  plain_along never before (entry ∷ rest) parts =
      (is_plain never before rest entry parts, plain_along never (before ++ entry ∷ []) rest (parts ∙ sym (append_assoc before (entry ∷ []) rest)))

  -- a table of one version has no entry for another
  one_version : table.later ≡ [] → (before after : List Entry) (version : ℕ) (now : ℤ) → log ≡ before ++ TableEntry version now ∷ after → ⊥
  one_version one before after version now parts =
      let (left, left_by, takes) = entry_takes before after (TableEntry version now) parts (λ is. cc) in
      let count : length table.later ≡ 0 = ap (λ (later : List Version). length later) one in
      omega (arith, count, takes.next, takes.known)

  -- so it adopts none
  pub none_adopted : table.later ≡ [] → AdoptionsOf table log []
  none_adopted one = none_from table (first_rows table) log_clerk.0 log (plain_along (one_version one) [] log refl) log_clerk.1

  -- an end says what is held
  end_held : (job : ℕ) (at : ℤ) (kind : Kind) → HasEnd table log job at kind → IsHeld (held_in n table book) job at kind
  end_held job at kind ended =
      let (cast, has, slot, is) = voted ended.before ended.after (End job at kind) ended.parts in
      let says : SaysHeld (held_in n table book) (End job at kind) = subst (SaysHeld (held_in n table book)) is (fits.says cast has) in
      says

  backed : All (IsBacked table log) (held_in n table book)
  backed = All-weaker (Contains (held_in n table book)) (IsBacked table log) (λ row has. fits.held row has) (held_in n table book) (All-contains_itself (held_in n table book))

  pub whole : Fits table log (held_in n table book)
  whole = record {
    once = fits.once;
    backed = backed;
    ended = end_held;
    in_order = λ job. in_order table log log_clerk.0 job log_clerk.1;
    apart = started_apart table log (held_in n table book) fits.once backed end_held;
  }

module _ (n : ℕ) (table : Table) (book : List Row) (few : n ≤ 7) (legal : IsLegal n table book) (log : List Entry) (is_log : IsLog n (votes_in book) log)
    (none : AdoptionsOf table log []) where
  -- an entry for a version takes effect, so there is none
  no_version : (before after : List Entry) (version : ℕ) (now : ℤ) → log ≡ before ++ TableEntry version now ∷ after → ⊥
  no_version before after version now parts =
      let (left, left_by, takes) = entry_takes n table book few legal log is_log before after (TableEntry version now) parts (λ is. cc) in
      some_adopted table (first_rows table) left before after version now (subst (λ some. AdoptionsOf table some []) parts none) left_by takes

  pub log_plain : ArePlain log
  log_plain = plain_along n table book few legal log is_log no_version [] log refl

  -- so each start is under the first version
  pub front_version : (before rest : List Entry) (rows : List JobRow) → log ≡ before ++ rest → IsClerkOf table before rows → HasFirstVersion table rows
  front_version before rest rows parts clerk = clerk_first_version table before rows (before_plain before rest (subst ArePlain parts log_plain)) clerk

  pub front_force : (before rest : List Entry) (rows : List JobRow) → log ≡ before ++ rest → IsClerkOf table before rows → in_force table rows ≡ first_force
  front_force before rest rows parts clerk = first_version_force table rows (front_version before rest rows parts clerk)

  pub front_adopts : (before rest : List Entry) (rows : List JobRow) → log ≡ before ++ rest → IsClerkOf table before rows → AdoptionsOf table before []
  front_adopts before rest rows parts clerk = none_from table (first_rows table) rows before (before_plain before rest (subst ArePlain parts log_plain)) clerk

  -- what starts may be started by it
  pub effective_may : (job : ℕ) (at now : ℤ) (start : IsEffective table log (Start job at now)) → MayStart table first_force job start.takes.2.row at now
  effective_may job at now start =
      first_may table start.takes.0 job at now (front_version start.before (Start job at now ∷ start.after) start.takes.0 start.parts start.takes.1) start.takes.2

  pub version_first : (version job : ℕ) (at : ℤ) → IsStartedUnder table log version job at → version ≡ 0
  version_first version job at start =
      sym start.in_force
      ∙ ap (λ (force : InForce). force.version) (front_force start.before (Start job at start.now ∷ start.after) start.rows start.parts start.clerk)

  pub first_start : (version job : ℕ) (at : ℤ) → IsStartedUnder table log version job at → IsStartedUnder table log 0 job at
  first_start version job at start = subst (λ some. IsStartedUnder table log some job at) (version_first version job at start) start

  pub first_backed : (row : SchedRow) → IsBacked table log row → IsFirstBacked table log row
  first_backed row backed =
      let first : backed.version ≡ 0 = version_first backed.version row.name.job row.name.at backed.start in
      record {
        start = was_started table log backed.version row.name.job row.name.at backed.start;
        spec = backed.spec;
        zone = backed.zone;
        is_in = subst (λ version. IsJobIn table version row.name.job backed.spec backed.zone) first backed.is_in;
        come = backed.come;
        kind = subst (λ version. IsCallKind table version row.name.job row.name.at row.now.0 row.kind) first backed.kind;
      }

pub cut_fits : (n : ℕ) (table : Table) (book : List Row) (turns : ℕ) → n ≤ 7 → IsLegal n table book → FitsItsLog n table (take turns book)
cut_fits n table book turns few legal log is_log = whole n table (take turns book) few (cut_is_legal n table book turns legal) log is_log

-- what an end votes for is held
pub vote_held : (n : ℕ) (table : Table) (book : List Row) (cast : CastVote) (job : ℕ) (at : ℤ) (kind : Kind) → n ≤ 7 → IsLegal n table book
    → Contains (votes_in book) cast → cast.vote.entry ≡ End job at kind → IsHeld (held_in n table book) job at kind
vote_held n table book cast job at kind few legal has is =
    let log = book_log n table book few legal in
    let says : SaysHeld (held_in n table book) (End job at kind) = subst (SaysHeld (held_in n table book)) is ((fits n table book few legal log.0 log.1).says cast has) in
    says

-- the log of a cut is a front of the log
pub cut_goes_on : (n : ℕ) (table : Table) (book : List Row) (turns : ℕ) (log later : List Entry) → n ≤ 7 → IsLegal n table book
    → IsLog n (votes_in (take turns book)) log → IsLog n (votes_in book) later → (more : List Entry) × (later ≡ log ++ more)
cut_goes_on n table book turns log later few legal is_log is_later =
    log_goes_on n table book (votes_in (take turns book)) log later few legal
    (λ cast has. subst (λ rows. Contains (votes_in rows) cast) (take-append-drop turns book)
    (subst (λ votes. Contains votes cast) (sym (flat_map-append _ (take turns book) (drop turns book))) (Contains-append_left (votes_in (take turns book)) (votes_in (drop turns book)) cast has)))
    is_log is_later

pub held_backed : (n : ℕ) (table : Table) (book : List Row) (log : List Entry) (row : SchedRow) → n ≤ 7 → IsLegal n table book → IsLog n (votes_in book) log
    → Contains (held_in n table book) row → IsBacked table log row
held_backed n table book log row few legal is_log has = (fits n table book few legal log is_log).held row has

-- by the first version, where no other is adopted
pub held_first : (n : ℕ) (table : Table) (book : List Row) (log : List Entry) (row : SchedRow) → n ≤ 7 → IsLegal n table book → IsLog n (votes_in book) log
    → AdoptionsOf table log [] → Contains (held_in n table book) row → IsFirstBacked table log row
held_first n table book log row few legal is_log none has =
    first_backed n table book few legal log is_log none row (held_backed n table book log row few legal is_log has)

pub late_backed : (n : ℕ) (table : Table) (book : List Row) (log : List Entry) (row : SchedRow) → n ≤ 7 → IsLegal n table book → IsLog n (votes_in book) log
    → Contains (standing_after n (first_rows table) book).late row → IsBacked table log row
late_backed n table book log row few legal is_log has = (fits n table book few legal log is_log).late row has

pub waiting_held : (n : ℕ) (table : Table) (book : List Row) (who : ℕ) (row : SchedRow) → n ≤ 7 → IsLegal n table book
    → (standing_after n (first_rows table) book).waits who ≡ Some row → Contains (held_in n table book) row
waiting_held n table book who row few legal is =
    let log = book_log n table book few legal in (fits n table book few legal log.0 log.1).waits who row is

pub log_takes : (n : ℕ) (table : Table) (book : List Row) (log before after : List Entry) (entry : Entry) → n ≤ 7 → IsLegal n table book → IsLog n (votes_in book) log
    → log ≡ before ++ entry ∷ after → entry ≢ Noop → TakesEffectAfter table before entry
log_takes n table book log before after entry few legal is_log = entry_takes n table book few legal log is_log before after entry

pub vote_works : (n : ℕ) (table : Table) (book : List Row) (log : List Entry) (cast : CastVote) → n ≤ 7 → IsLegal n table book → IsLog n (votes_in book) log
    → Contains (votes_in book) cast → TakesEffectAt table log cast.vote.slot cast.vote.entry
vote_works n table book log cast few legal is_log has = (fits n table book few legal log is_log).works cast has

pub table_left : (n : ℕ) (table : Table) (book : List Row) (log : List Entry) → n ≤ 7 → IsLegal n table book → IsLog n (votes_in book) log
    → (rows : List JobRow) × IsClerkOf table log rows
table_left n table book log few legal is_log = log_clerk n table book few legal log is_log

-- a table of one version adopts no other
pub no_adoptions : (n : ℕ) (table : Table) (book : List Row) (log : List Entry) → n ≤ 7 → IsLegal n table book → IsLog n (votes_in book) log → table.later ≡ []
    → AdoptionsOf table log []
no_adoptions n table book log few legal is_log one = none_adopted n table book few legal log is_log one

-- where none is adopted the first is in force
pub first_in_log : (n : ℕ) (table : Table) (book : List Row) (log : List Entry) (rows : List JobRow) → n ≤ 7 → IsLegal n table book → IsLog n (votes_in book) log
    → AdoptionsOf table log [] → IsClerkOf table log rows → in_force table rows ≡ first_force
first_in_log n table book log rows few legal is_log none clerk = front_force n table book few legal log is_log none log [] rows (sym (append-nil log)) clerk

pub first_started : (n : ℕ) (table : Table) (book : List Row) (log : List Entry) (version job : ℕ) (at : ℤ) → n ≤ 7 → IsLegal n table book → IsLog n (votes_in book) log
    → AdoptionsOf table log [] → IsStartedUnder table log version job at → version ≡ 0
first_started n table book log version job at few legal is_log none start = version_first n table book few legal log is_log none version job at start

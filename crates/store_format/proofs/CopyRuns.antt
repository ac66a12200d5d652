-- How a reader goes over a copy and the log behind it.
use Rattle.std.proofs.Common.{◌≡◌, ℕ, ◌+◌, ◌<◌, ◌≤◌, Bool, true, ◌&&◌, leb, Option, Some, None, List, [], ◌∷◌, ◌++◌, length, map, get_or, refl, sym, ap, ◌∙◌, subst, inl, inr, arith, append_assoc}
use Rattle.std.specs.Prelude.{All, if◌then◌else◌}
use Rattle.std.specs.List.{filter_map}
use Rattle.std.proofs.lemmas.Bool.{false≢true, and_from, le-leb, cases_lt, lt-ltb}
use Rattle.std.proofs.lemmas.List.{append-nil, length-append, get_or_append_left, get_or_at}
use Rattle.std.proofs.lemmas.List.Elements.{All-nil, All-cons, All-head, All-tail, Contains-push}
use Rattle.std.proofs.lemmas.Option.{same_Some}
use Rattle.paxos_base.specs.declared.rows.TableSize.{TableSize}
use Rattle.paxos_base.specs.declared.durable.Durable.{Durable}
use Rattle.paxos_base.specs.declared.entry.Vote.{Vote}
use Rattle.paxos_base.specs.declared.rows.JobRow.{JobRow}
use Rattle.paxos_base.specs.Vote.{SlotsRise}
use Rattle.store_format.specs.declared.body.Record.{Record}
use Rattle.store_format.specs.declared.body.Record.TheVariants.{Tried, Promised, Voted}
use Rattle.store_format.specs.declared.place.Place.{Place}
use Rattle.store_format.specs.declared.place.Place.TheVariants.{Start, Rows, CopyStart, CopyTried, CopyPromised, CopyVotes, Log}
use Rattle.store_format.specs.Area.{Copy, copy_records, IsCopy, IsLongest, IsGreatest, after_copy}
use Rattle.store_format.specs.Order.{IsChangeLog}
use Rattle.store_format.specs.Places.{copy_place, is_in_group, takes_votes, is_behind, is_above}
use Rattle.store_format.specs.Records.{record_ballot}
use Rattle.store_format.proofs.Machine.{Reading, reading, run, runs_on, run_parts, runs_from, runs_as_log, copy_ends, copy_goes_on, option_cases}
use Rattle.store_format.proofs.LogLemmas.{runs_log, log_runs, IsChangeLog-nil, IsChangeLog-empty}
use Rattle.store_format.proofs.CopyLemmas.{Form, Nothing, OwnBallot, Promise, Votes, copy_with, copy_of, place_of_form, form_copies, form_with, Copied, GoesOn, goes_on, AllBelow, below-is_behind, IsGreatest-same}

abbrev pub state : ℕ → List JobRow → Form → Option ℕ → Reading
state slot rows form promised = reading (place_of_form form) (after_copy slot rows (copy_of form) promised)

-- one record more
pub go_step : (size : TableSize) (slot : ℕ) (rows : List JobRow) (form : Form) (promised : Option ℕ) (item : Record) (items : List Record) (next : Place)
    → copy_place (place_of_form form) (after_copy slot rows (copy_of form) promised) item ≡ Some next → (goes : GoesOn slot rows form promised item next)
    → run size (state slot rows form promised) (item ∷ items) ≡ run size (state slot rows (form_with form item) goes.greater) items
go_step size slot rows form promised item items next at goes =
    runs_from size (place_of_form form) next (after_copy slot rows (copy_of form) promised) item items (copy_goes_on size (place_of_form form) next (after_copy slot rows (copy_of form) promised) item (form_copies form) at)
    ∙ ap (λ (k : Durable). run size (reading next k) items) (goes.kept size)
    ∙ ap (λ (p : Place). run size (reading p (after_copy slot rows (copy_of (form_with form item)) goes.greater)) items) goes.place

-- ---- a copy is read

rise_below : (before : List Vote) (vote : Vote) (behind : List Vote) → SlotsRise (before ++ vote ∷ behind) → AllBelow vote.slot before
rise_below before vote behind rise = λ k d within.
    let whole : length (before ++ vote ∷ behind) ≡ length before + length (vote ∷ behind) = length-append before (vote ∷ behind) in
    let less : (get_or (before ++ vote ∷ behind) k d).slot < (get_or (before ++ vote ∷ behind) (length before) d).slot = rise k (length before) d within (omega (arith, whole)) in
    let low : (get_or (before ++ vote ∷ behind) k d).slot ≡ (get_or before k d).slot = ap (λ (v : Vote). v.slot) (get_or_append_left before (vote ∷ behind) d k within) in
    let high : (get_or (before ++ vote ∷ behind) (length before) d).slot ≡ vote.slot = ap (λ (v : Vote). v.slot) (get_or_at before vote behind d (length before) refl) in
    omega (arith, less, low, high)

form_with_vote : (form : Form) (vote : Vote) → copy_of (form_with form (Voted vote)) ≡ copy_with (copy_of form).tried (copy_of form).promised ((copy_of form).votes ++ vote ∷ [])
form_with_vote Nothing vote = refl
form_with_vote (OwnBallot own) vote = refl
form_with_vote (Promise tried ballot) vote = refl
form_with_vote (Votes tried promised votes) vote = refl

vote_place_at : (place : Place) (kept : Durable) (vote : Vote) → (takes_votes place && (leb kept.base vote.slot && is_behind vote.slot kept.votes)) ≡ true → copy_place place kept (Voted vote) ≡ Some CopyVotes
vote_place_at Start kept vote test = absurd (cc test)
vote_place_at (Rows total) kept vote test = absurd (cc test)
vote_place_at CopyStart kept vote test = ap (λ (b : Bool). if b then Some CopyVotes else None) test
vote_place_at CopyTried kept vote test = ap (λ (b : Bool). if b then Some CopyVotes else None) test
vote_place_at CopyPromised kept vote test = ap (λ (b : Bool). if b then Some CopyVotes else None) test
vote_place_at CopyVotes kept vote test = ap (λ (b : Bool). if b then Some CopyVotes else None) test
vote_place_at Log kept vote test = absurd (cc test)

vote_place : (slot : ℕ) (rows : List JobRow) (form : Form) (promised : Option ℕ) (vote : Vote) → slot ≤ vote.slot → AllBelow vote.slot (copy_of form).votes
    → copy_place (place_of_form form) (after_copy slot rows (copy_of form) promised) (Voted vote) ≡ Some CopyVotes
vote_place slot rows form promised vote from below =
    let test : (takes_votes (place_of_form form) && (leb slot vote.slot && is_behind vote.slot (copy_of form).votes)) ≡ true =
    and_from _ _ (form_copies form) (and_from _ _ (le-leb slot vote.slot from) (below-is_behind vote.slot (copy_of form).votes below)) in
    vote_place_at (place_of_form form) (after_copy slot rows (copy_of form) promised) vote test

-- from one form of a copy to another
pub record Runs (size : TableSize) (slot : ℕ) (rows : List JobRow) (form : Form) (promised : Option ℕ) (items : List Record) (copy : Copy) : Type 0 where
  pub last : Form
  pub greater : Option ℕ
  pub is : copy_of last ≡ copy
  pub runs : run size (state slot rows form promised) items ≡ Some (state slot rows last greater)
  pub copied : Copied slot last greater

votes_run : (size : TableSize) (slot : ℕ) (rows : List JobRow) (votes : List Vote) (form : Form) (promised : Option ℕ) → Copied slot form promised → SlotsRise ((copy_of form).votes ++ votes) → All (λ (vote : Vote). slot ≤ vote.slot) votes
    → Runs size slot rows form promised (map (λ (vote : Vote). Voted vote) votes) (copy_with (copy_of form).tried (copy_of form).promised ((copy_of form).votes ++ votes))
votes_run size slot rows [] form promised copied rise from =
    record {
      last = form;
      greater = promised;
      is = ap (λ (votes : List Vote). copy_with (copy_of form).tried (copy_of form).promised votes) (sym (append-nil (copy_of form).votes));
      runs = refl;
      copied = copied;
    }
votes_run size slot rows (vote ∷ votes) form promised copied rise from =
    let here : slot ≤ vote.slot = All-head (λ (v : Vote). slot ≤ v.slot) vote votes from in
    let below : AllBelow vote.slot (copy_of form).votes = rise_below (copy_of form).votes vote votes rise in
    let at = vote_place slot rows form promised vote here below in
    let goes = goes_on slot rows form promised (Voted vote) CopyVotes copied at in
    let next : Form = form_with form (Voted vote) in
    let is_next = form_with_vote form vote in
    let parts : (copy_of next).votes ++ votes ≡ (copy_of form).votes ++ vote ∷ votes =
    ap (λ (copy : Copy). copy.votes ++ votes) is_next ∙ append_assoc (copy_of form).votes (vote ∷ []) votes in
    let rest = votes_run size slot rows votes next goes.greater goes.copied (subst SlotsRise (sym parts) rise) (All-tail (λ (v : Vote). slot ≤ v.slot) vote votes from) in
    record {
      last = rest.last;
      greater = rest.greater;
      is = rest.is
          ∙ ap (λ (vs : List Vote). copy_with (copy_of next).tried (copy_of next).promised vs) parts
          ∙ ap (λ (copy : Copy). copy_with copy.tried copy.promised ((copy_of form).votes ++ vote ∷ votes)) is_next;
      runs = go_step size slot rows form promised (Voted vote) (map (λ (v : Vote). Voted v) votes) CopyVotes at goes ∙ rest.runs;
      copied = rest.copied;
    }

-- before the copy
pub nothing_copied : (slot : ℕ) → Copied slot Nothing None
nothing_copied slot =
    record { is_copy = record { above = tt; rise = λ i j d before within. omega (arith, within); from_base = All-nil _ }; greatest = refl }

-- one record before others
runs_before : (size : TableSize) (slot : ℕ) (rows : List JobRow) (form : Form) (promised : Option ℕ) (item : Record) (items : List Record) (next : Place) (copy : Copy)
    → copy_place (place_of_form form) (after_copy slot rows (copy_of form) promised) item ≡ Some next → (goes : GoesOn slot rows form promised item next)
    → Runs size slot rows (form_with form item) goes.greater items copy → Runs size slot rows form promised (item ∷ items) copy
runs_before size slot rows form promised item items next copy at goes rest =
    record { last = rest.last; greater = rest.greater; is = rest.is; runs = go_step size slot rows form promised item items next at goes ∙ rest.runs; copied = rest.copied }

own_greatest : (slot own : ℕ) (promised : Option ℕ) → Copied slot (OwnBallot own) promised → promised ≡ Some own
own_greatest slot own promised copied =
    IsGreatest-same promised (Some own) (own ∷ []) copied.greatest (Contains-push [] own, All-cons (λ (other : ℕ). other ≤ own) own [] (omega arith) (All-nil _))

copy_runs_with : (size : TableSize) (slot : ℕ) (rows : List JobRow) (tried promised : Option ℕ) (votes : List Vote) → IsCopy slot (copy_with tried promised votes) → Runs size slot rows Nothing None (copy_records (copy_with tried promised votes)) (copy_with tried promised votes)
copy_runs_with size slot rows None None votes is = votes_run size slot rows votes Nothing None (nothing_copied slot) is.rise is.from_base
copy_runs_with size slot rows (Some own) None votes is =
    let goes = goes_on slot rows Nothing None (Tried own) CopyTried (nothing_copied slot) refl in
    runs_before size slot rows Nothing None (Tried own) (map (λ (v : Vote). Voted v) votes) CopyTried (copy_with (Some own) None votes) refl goes
    (votes_run size slot rows votes (OwnBallot own) goes.greater goes.copied is.rise is.from_base)
copy_runs_with size slot rows None (Some ballot) votes is =
    let goes = goes_on slot rows Nothing None (Promised ballot) CopyPromised (nothing_copied slot) refl in
    runs_before size slot rows Nothing None (Promised ballot) (map (λ (v : Vote). Voted v) votes) CopyPromised (copy_with None (Some ballot) votes) refl goes
    (votes_run size slot rows votes (Promise None ballot) goes.greater goes.copied is.rise is.from_base)
copy_runs_with size slot rows (Some own) (Some ballot) votes is =
    let first = goes_on slot rows Nothing None (Tried own) CopyTried (nothing_copied slot) refl in
    let greater : first.greater ≡ Some own = own_greatest slot own first.greater first.copied in
    let at : copy_place CopyTried (after_copy slot rows (copy_of (OwnBallot own)) first.greater) (Promised ballot) ≡ Some CopyPromised =
    ap (λ (p : Option ℕ). if is_above ballot p then Some CopyPromised else None) greater
    ∙ ap (λ (b : Bool). if b then Some CopyPromised else None) (lt-ltb own ballot is.above) in
    let second = goes_on slot rows (OwnBallot own) first.greater (Promised ballot) CopyPromised first.copied at in
    runs_before size slot rows Nothing None (Tried own) (Promised ballot ∷ map (λ (v : Vote). Voted v) votes) CopyTried (copy_with (Some own) (Some ballot) votes) refl first
    (runs_before size slot rows (OwnBallot own) first.greater (Promised ballot) (map (λ (v : Vote). Voted v) votes) CopyPromised (copy_with (Some own) (Some ballot) votes) at second
    (votes_run size slot rows votes (Promise (Some own) ballot) second.greater second.copied is.rise is.from_base))

pub copy_runs : (size : TableSize) (slot : ℕ) (rows : List JobRow) (copy : Copy) → IsCopy slot copy → Runs size slot rows Nothing None (copy_records copy) copy
copy_runs size slot rows copy is = copy_runs_with size slot rows copy.tried copy.promised copy.votes is

-- ---- a copy ends

log_copies : (form : Form) → place_of_form form ≡ Log → ⊥
log_copies form same = absurd (cc (form_copies form, same))

-- no copy goes on with a record that leads into the log
pub copy_ended : (size : TableSize) (slot : ℕ) (rows : List JobRow) (form : Form) (promised : Option ℕ) (item : Record) (more : List Record) (other : Copy)
    → run size (state slot rows Nothing None) (copy_records (copy_of form)) ≡ Some (state slot rows form promised)
    → copy_place (place_of_form form) (after_copy slot rows (copy_of form) promised) item ≡ None
    → IsCopy slot other → copy_records other ≡ copy_records (copy_of form) ++ item ∷ more → ⊥
copy_ended size slot rows form promised item more other reached none is_copy same =
    let runs = copy_runs size slot rows other is_copy in
    let kept : Durable = after_copy slot rows (copy_of form) promised in
    let whole : run size (state slot rows Nothing None) (copy_records (copy_of form) ++ item ∷ more) ≡ Some (state slot rows runs.last runs.greater) =
    ap (run size (state slot rows Nothing None)) (sym same) ∙ runs.runs in
    let parts = run_parts size (state slot rows Nothing None) (state slot rows runs.last runs.greater) (copy_records (copy_of form)) (item ∷ more) whole in
    let middle : state slot rows form promised ≡ parts.middle = same_Some (state slot rows form promised) parts.middle (sym reached ∙ parts.first) in
    let on : run size (state slot rows form promised) (item ∷ more) ≡ Some (state slot rows runs.last runs.greater) =
    ap (λ (s : Reading). run size s (item ∷ more)) middle ∙ parts.second in
    let log : run size (reading Log kept) (item ∷ more) ≡ Some (state slot rows runs.last runs.greater) =
    sym (runs_as_log size (place_of_form form) kept item more (copy_ends size (place_of_form form) kept item (form_copies form) none)) ∙ on in
    log_copies runs.last (runs_log size kept (item ∷ more) (state slot rows runs.last runs.greater) log).0

-- lists with the same elements, one of which begins with more
longer_front : (xs : List Record) (y : Record) (ys zs ws : List Record) → xs ++ y ∷ ys ≡ zs ++ ws → length xs < length zs → (more : List Record) × (zs ≡ xs ++ y ∷ more)
longer_front [] y ys [] ws same longer = absurd (omega (arith, longer))
longer_front [] y ys (z ∷ zs) ws same longer = (zs, ap (λ (first : Record). first ∷ zs) (let e : y ≡ z = cc same in sym e))
longer_front (x ∷ xs) y ys [] ws same longer = absurd (omega (arith, longer))
longer_front (x ∷ xs) y ys (z ∷ zs) ws same longer =
    let head : x ≡ z = cc same in
    let tail : xs ++ y ∷ ys ≡ zs ++ ws = cc same in
    let rest = longer_front xs y ys zs ws tail (omega (arith, longer)) in
    (rest.0, ap (λ (first : Record). first ∷ zs) (sym head) ∙ ap (λ (others : List Record). x ∷ others) rest.1)

-- a copy and the log behind it
pub record CopyThenLog (size : TableSize) (slot : ℕ) (rows : List JobRow) (items : List Record) (last : Reading) : Type 0 where
  pub copy : Copy
  pub promised : Option ℕ
  pub log : List Record
  pub parts : items ≡ copy_records copy ++ log
  pub is_copy : IsCopy slot copy
  pub longest : IsLongest slot copy (copy_records copy ++ log)
  pub greatest : IsGreatest promised (filter_map record_ballot (copy_records copy))
  pub is_log : IsChangeLog size (after_copy slot rows copy promised) log last.kept

pub longest_alone : (slot : ℕ) (copy : Copy) → IsLongest slot copy (copy_records copy ++ [])
longest_alone slot copy other rest is_copy same =
    let whole : length (copy_records copy ++ []) ≡ length (copy_records other ++ rest) = ap length same in
    omega (arith, whole, length-append (copy_records copy) [], length-append (copy_records other) rest)

pub runs_copy : (size : TableSize) (slot : ℕ) (rows : List JobRow) (items : List Record) (form : Form) (promised : Option ℕ) (last : Reading) → Copied slot form promised
    → run size (state slot rows Nothing None) (copy_records (copy_of form)) ≡ Some (state slot rows form promised)
    → run size (state slot rows form promised) items ≡ Some last
    → CopyThenLog size slot rows (copy_records (copy_of form) ++ items) last
runs_copy size slot rows [] form promised last copied reached e =
    let same : state slot rows form promised ≡ last = same_Some (state slot rows form promised) last e in
    record {
      copy = copy_of form;
      promised = promised;
      log = [];
      parts = refl;
      is_copy = copied.is_copy;
      longest = longest_alone slot (copy_of form);
      greatest = copied.greatest;
      is_log = subst (λ (s : Reading). IsChangeLog size (after_copy slot rows (copy_of form) promised) [] s.kept) same (IsChangeLog-nil size (after_copy slot rows (copy_of form) promised));
    }
runs_copy size slot rows (item ∷ items) form promised last copied reached e =
    let kept : Durable = after_copy slot rows (copy_of form) promised in
    elim (option_cases (copy_place (place_of_form form) kept item)) [
      | inl none ↦
          let log = runs_log size kept (item ∷ items) last (sym (runs_as_log size (place_of_form form) kept item items (copy_ends size (place_of_form form) kept item (form_copies form) none)) ∙ e) in
          record {
            copy = copy_of form;
            promised = promised;
            log = item ∷ items;
            parts = refl;
            is_copy = copied.is_copy;
            longest = λ other rest is_copy same. elim (cases_lt (length (copy_records (copy_of form))) (length (copy_records other))) [
              | inl longer ↦
                  let more = longer_front (copy_records (copy_of form)) item items (copy_records other) rest same longer in
                  absurd (copy_ended size slot rows form promised item more.0 other reached none is_copy more.1)
              | inr short ↦ short
            ];
            greatest = copied.greatest;
            is_log = log.1;
          }
      | inr (next, at) ↦
          let goes = goes_on slot rows form promised item next copied at in
          let onward : run size (state slot rows (form_with form item) goes.greater) items ≡ Some last = sym (go_step size slot rows form promised item items next at goes) ∙ e in
          let there : run size (state slot rows Nothing None) (copy_records (copy_of (form_with form item))) ≡ Some (state slot rows (form_with form item) goes.greater) =
          ap (run size (state slot rows Nothing None)) goes.records
          ∙ runs_on size (state slot rows Nothing None) (state slot rows form promised) (state slot rows (form_with form item) goes.greater) (copy_records (copy_of form)) (item ∷ []) reached
          (go_step size slot rows form promised item [] next at goes) in
          let rest = runs_copy size slot rows items (form_with form item) goes.greater last goes.copied there onward in
          let parts : copy_records (copy_of (form_with form item)) ++ items ≡ copy_records (copy_of form) ++ item ∷ items =
          ap (λ (front : List Record). front ++ items) goes.records ∙ append_assoc (copy_records (copy_of form)) (item ∷ []) items in
          subst (λ (all : List Record). CopyThenLog size slot rows all last) parts rest
    ]

-- ---- a copy and a log are read

-- behind the longest copy the next record can't be of it
longest_ends : (size : TableSize) (slot : ℕ) (rows : List JobRow) (form : Form) (promised : Option ℕ) (item : Record) (items : List Record) → Copied slot form promised → IsLongest slot (copy_of form) (copy_records (copy_of form) ++ item ∷ items)
    → copy_place (place_of_form form) (after_copy slot rows (copy_of form) promised) item ≡ None
longest_ends size slot rows form promised item items copied longest = elim (option_cases (copy_place (place_of_form form) (after_copy slot rows (copy_of form) promised) item)) [
  | inl none ↦ none
  | inr (next, at) ↦
      let goes = goes_on slot rows form promised item next copied at in
      let parts : copy_records (copy_of form) ++ item ∷ items ≡ copy_records (copy_of (form_with form item)) ++ items =
      sym (ap (λ (front : List Record). front ++ items) goes.records ∙ append_assoc (copy_records (copy_of form)) (item ∷ []) items) in
      let short : length (copy_records (copy_of (form_with form item))) ≤ length (copy_records (copy_of form)) = longest (copy_of (form_with form item)) items goes.copied.is_copy parts in
      let one_more : length (copy_records (copy_of (form_with form item))) ≡ length (copy_records (copy_of form)) + 1 =
      ap length goes.records ∙ length-append (copy_records (copy_of form)) (item ∷ []) in
      absurd (omega (arith, short, one_more))
]

-- the place behind a copy and a log
pub record Reads (size : TableSize) (first : Reading) (items : List Record) (kept : Durable) : Type 0 where
  pub place : Place
  pub runs : run size first items ≡ Some (reading place kept)
  pub not_rows : is_in_group place ≡ true → ⊥

pub form_not_rows : (form : Form) → is_in_group (place_of_form form) ≡ true → ⊥
form_not_rows Nothing same = false≢true same
form_not_rows (OwnBallot ballot) same = false≢true same
form_not_rows (Promise tried ballot) same = false≢true same
form_not_rows (Votes tried promised votes) same = false≢true same

log_reads : (size : TableSize) (slot : ℕ) (rows : List JobRow) (form : Form) (promised : Option ℕ) (log : List Record) (kept : Durable) → Copied slot form promised → IsLongest slot (copy_of form) (copy_records (copy_of form) ++ log)
    → IsChangeLog size (after_copy slot rows (copy_of form) promised) log kept → Reads size (state slot rows form promised) log kept
log_reads size slot rows form promised [] kept copied longest is_log =
    record {
      place = place_of_form form;
      runs = ap (λ (k : Durable). Some (reading (place_of_form form) k)) (sym (IsChangeLog-empty size (after_copy slot rows (copy_of form) promised) kept is_log));
      not_rows = form_not_rows form;
    }
log_reads size slot rows form promised (item ∷ items) kept copied longest is_log =
    let first : Durable = after_copy slot rows (copy_of form) promised in
    let none = longest_ends size slot rows form promised item items copied longest in
    record {
      place = Log;
      runs = runs_as_log size (place_of_form form) first item items (copy_ends size (place_of_form form) first item (form_copies form) none) ∙ log_runs size first kept (item ∷ items) is_log;
      not_rows = false≢true;
    }

pub copy_reads : (size : TableSize) (slot : ℕ) (rows : List JobRow) (copy : Copy) (promised : Option ℕ) (log : List Record) (kept : Durable) → IsCopy slot copy → IsLongest slot copy (copy_records copy ++ log)
    → IsGreatest promised (filter_map record_ballot (copy_records copy)) → IsChangeLog size (after_copy slot rows copy promised) log kept
    → Reads size (state slot rows Nothing None) (copy_records copy ++ log) kept
copy_reads size slot rows copy promised log kept is_copy longest greatest is_log =
    let runs = copy_runs size slot rows copy is_copy in
    let same : promised ≡ runs.greater = IsGreatest-same promised runs.greater (filter_map record_ballot (copy_records copy)) greatest (subst (λ (c : Copy). IsGreatest runs.greater (filter_map record_ballot (copy_records c))) runs.is runs.copied.greatest) in
    let there = log_reads size slot rows runs.last runs.greater log kept runs.copied
    (subst (λ (c : Copy). IsLongest slot c (copy_records c ++ log)) (sym runs.is) longest)
    (subst (λ (c : Copy). IsChangeLog size (after_copy slot rows c runs.greater) log kept) (sym runs.is) (subst (λ (p : Option ℕ). IsChangeLog size (after_copy slot rows copy p) log kept) same is_log)) in
    record {
      place = there.place;
      runs = runs_on size (state slot rows Nothing None) (state slot rows runs.last runs.greater) (reading there.place kept) (copy_records copy) log runs.runs there.runs;
      not_rows = there.not_rows;
    }

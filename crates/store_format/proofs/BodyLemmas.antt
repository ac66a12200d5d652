-- Bodies, and the first of them that is at fault.
use Rattle.std.proofs.Common.{◌≡◌, ℕ, true, ◌+◌, ◌-◌, ◌<◌, ◌≤◌, ◌^◌, Option, Some, None, List, [], ◌∷◌, ◌++◌, length, map, take, drop, get_or, refl, sym, ap, ◌∙◌, subst, inl, inr, arith, append_assoc}
use Rattle.std.specs.Option.{option_or}
use Rattle.std.specs.List.{filter_map, last_or}
use Rattle.std.proofs.lemmas.Bool.{cases_order, false≢true}
use Rattle.std.proofs.lemmas.List.{append-nil, get_or_read, take-append-drop, take-take, take_all, take_more}
use Rattle.std.proofs.lemmas.List.Elements.{filter_map-append}
use Rattle.std.proofs.lemmas.Option.{none-some, same_Some}
use Rattle.paxos_base.specs.declared.rows.TableSize.{TableSize}
use Rattle.paxos_base.specs.declared.durable.Durable.{Durable}
use Rattle.paxos_base.specs.declared.rows.JobRow.{JobRow}
use Rattle.store_format.specs.declared.body.Record.{Record}
use Rattle.store_format.specs.declared.body.Record.TheVariants.{Tried, Promised, Voted, Base, Row}
use Rattle.store_format.specs.declared.place.Place.{Place}
use Rattle.store_format.specs.declared.place.Place.TheVariants.{Start, Rows, CopyStart, CopyTried, CopyPromised, CopyVotes, Log}
use Rattle.store_format.specs.Area.{StandFor, BodiesMayStand, IsFirstRecordAtFault, fresh_kept, rows_of_group}
use Rattle.store_format.specs.Places.{is_in_group, next_place, taken}
use Rattle.store_format.specs.Records.{record_bytes, IsRecord, AreRecords, tried_in, own_ballot}
use Rattle.store_format.proofs.Machine.{Reading, reading, run, runs_on, run_parts, run_steps, runs_from}
use Rattle.store_format.proofs.StandLemmas.{first, Stands-reads, runs-Stands, with_rows}
use Rattle.store_format.proofs.GroupLemmas.{begun, missing, rows_of, group_filled, missing_records}
use Rattle.store_format.proofs.RecordLemmas.{IsRecord-same}

-- ---- bodies and records

pub AreRecords-append : (bodies others : List (List ℕ)) (items more : List Record) → AreRecords bodies items → AreRecords others more → AreRecords (bodies ++ others) (items ++ more)
AreRecords-append [] others [] more are rest = rest
AreRecords-append [] others (item ∷ items) more are rest = absurd are
AreRecords-append (body ∷ bodies) others [] more are rest = absurd are
AreRecords-append (body ∷ bodies) others (item ∷ items) more are rest = (are.0, AreRecords-append bodies others items more are.1 rest)

pub record Split (bodies others : List (List ℕ)) (items : List Record) : Type 0 where
  pub front : List Record
  pub back : List Record
  pub parts : items ≡ front ++ back
  pub are_front : AreRecords bodies front
  pub are_back : AreRecords others back

pub AreRecords-split : (bodies others : List (List ℕ)) (items : List Record) → AreRecords (bodies ++ others) items → Split bodies others items
AreRecords-split [] others items are = record { front = []; back = items; parts = refl; are_front = tt; are_back = are }
AreRecords-split (body ∷ bodies) others [] are = absurd are
AreRecords-split (body ∷ bodies) others (item ∷ items) are =
    let rest = AreRecords-split bodies others items are.1 in
    record {
      front = item ∷ rest.front;
      back = rest.back;
      parts = ap (λ (is : List Record). item ∷ is) rest.parts;
      are_front = (are.0, rest.are_front);
      are_back = rest.are_back;
    }

pub AreRecords-same : (bodies : List (List ℕ)) (items others : List Record) → AreRecords bodies items → AreRecords bodies others → items ≡ others
AreRecords-same [] [] [] a b = refl
AreRecords-same [] [] (other ∷ others) a b = absurd b
AreRecords-same [] (item ∷ items) others a b = absurd a
AreRecords-same (body ∷ bodies) [] others a b = absurd a
AreRecords-same (body ∷ bodies) (item ∷ items) [] a b = absurd b
AreRecords-same (body ∷ bodies) (item ∷ items) (other ∷ others) a b =
    ap (λ (i : Record). i ∷ items) (IsRecord-same body item other a.0 b.0) ∙ ap (λ (is : List Record). other ∷ is) (AreRecords-same bodies items others a.1 b.1)

-- the bodies up to one, and that one, by the bytes that it has
pub up_to : (bodies : List (List ℕ)) (k : ℕ) (item body : List ℕ) → k < length bodies → item ≡ get_or bodies k item → body ≡ item → take (k + 1) bodies ≡ take k bodies ++ body ∷ []
up_to bodies k item body within is same =
    take_more bodies k [] within ∙ ap (λ (last : List ℕ). take k bodies ++ last ∷ []) (sym (same ∙ get_or_read bodies k item within is []))

-- ---- the replica's own ballot

pub last_or-append : (own : Option ℕ) (xs ys : List ℕ) → last_or own (xs ++ ys) ≡ last_or (last_or own xs) ys
last_or-append own [] ys = refl
last_or-append own (x ∷ xs) ys = last_or-append (Some x) xs ys

pub own_ballot-append : (items more : List Record) → own_ballot (items ++ more) ≡ last_or (own_ballot items) (filter_map tried_in more)
own_ballot-append items more =
    ap (last_or None) (filter_map-append tried_in items more) ∙ last_or-append None (filter_map tried_in items) (filter_map tried_in more)

last_of_one : (own : Option ℕ) (item : Record) → last_or own (filter_map tried_in (item ∷ [])) ≡ option_or (tried_in item) own
last_of_one own (Tried ballot) = refl
last_of_one own (Promised ballot) = refl
last_of_one own (Voted vote) = refl
last_of_one own (Base slot count) = refl
last_of_one own (Row slot row) = refl

pub own_ballot-push : (items : List Record) (item : Record) → own_ballot (items ++ item ∷ []) ≡ option_or (tried_in item) (own_ballot items)
own_ballot-push items item = own_ballot-append items (item ∷ []) ∙ last_of_one (own_ballot items) item

-- ---- a reader behind bodies

pub record Behind (size : TableSize) (bodies : List (List ℕ)) (place : Place) (kept : Durable) (own : Option ℕ) : Type 0 where
  pub items : List Record
  pub are : AreRecords bodies items
  pub runs : run size (first size) items ≡ Some (reading place kept)
  pub own_is : own ≡ own_ballot items

pub Behind-none : (size : TableSize) → Behind size [] Start (fresh_kept size) None
Behind-none size = record { items = []; are = tt; runs = refl; own_is = refl }

pub Behind-next : (size : TableSize) (bodies : List (List ℕ)) (place next : Place) (kept : Durable) (own : Option ℕ) (body : List ℕ) (item : Record) → Behind size bodies place kept own → IsRecord body item → next_place size place kept item ≡ Some next
    → Behind size (bodies ++ body ∷ []) next (taken size next item kept) (option_or (tried_in item) own)
Behind-next size bodies place next kept own body item behind is at =
    record {
      items = behind.items ++ item ∷ [];
      are = AreRecords-append bodies (body ∷ []) behind.items (item ∷ []) behind.are (is, tt);
      runs = runs_on size (first size) (reading place kept) (reading next (taken size next item kept)) behind.items (item ∷ []) behind.runs (runs_from size place next kept item [] at);
      own_is = ap (option_or (tried_in item)) behind.own_is ∙ sym (own_ballot-push behind.items item);
    }

pub Behind-stand : (size : TableSize) (bodies : List (List ℕ)) (place : Place) (kept : Durable) (own : Option ℕ) → Behind size bodies place kept own → (is_in_group place ≡ true → ⊥) → StandFor size bodies kept own
Behind-stand size bodies place kept own behind not_rows =
    record { items = behind.items; are_records = behind.are; stands = runs-Stands size behind.items (reading place kept) not_rows behind.runs; own_is = behind.own_is }

-- the reader of bodies that stand for a state has come to it
pub Behind-is : (size : TableSize) (bodies : List (List ℕ)) (place : Place) (kept other : Durable) (own others : Option ℕ) → Behind size bodies place kept own → StandFor size bodies other others → (kept ≡ other) × (own ≡ others) × (is_in_group place ≡ true → ⊥)
Behind-is size bodies place kept other own others behind stand =
    let same_items : stand.items ≡ behind.items = AreRecords-same bodies stand.items behind.items stand.are_records behind.are in
    let reads = Stands-reads size stand.items other stand.stands in
    let same : reading place kept ≡ reading reads.place other =
    same_Some (reading place kept) (reading reads.place other) (sym behind.runs ∙ ap (run size (first size)) (sym same_items) ∙ reads.runs) in (
      ap (λ (s : Reading). s.kept) same,
      behind.own_is ∙ ap own_ballot (sym same_items) ∙ sym stand.own_is,
      λ is_rows. reads.not_rows (ap (λ (s : Reading). is_in_group s.place) (sym same) ∙ is_rows),
    )

-- bodies stand for one state at most
pub StandFor-same : (size : TableSize) (bodies : List (List ℕ)) (kept other : Durable) (own others : Option ℕ) → StandFor size bodies kept own → StandFor size bodies other others → (kept ≡ other) × (own ≡ others)
StandFor-same size bodies kept other own others a b =
    let reads = Stands-reads size a.items kept a.stands in
    let is = Behind-is size bodies reads.place kept other own others (record { items = a.items; are = a.are_records; runs = reads.runs; own_is = a.own_is }) b in
    (is.0, is.1)

-- ---- bodies that may yet stand

pub BodiesMayStand-front : (size : TableSize) (bodies others : List (List ℕ)) → BodiesMayStand size (bodies ++ others) → BodiesMayStand size bodies
BodiesMayStand-front size bodies others may =
    record {
      rest = others ++ may.rest;
      kept = may.kept;
      own = may.own;
      stand = subst (λ (all : List (List ℕ)). StandFor size all may.kept may.own) (append_assoc bodies others may.rest) may.stand;
    }

stand_may : (size : TableSize) (bodies : List (List ℕ)) (kept : Durable) (own : Option ℕ) → StandFor size bodies kept own → BodiesMayStand size bodies
stand_may size bodies kept own stand =
    record { rest = []; kept = kept; own = own; stand = subst (λ (all : List (List ℕ)). StandFor size all kept own) (sym (append-nil bodies)) stand }

base_fits : (bodies : List (List ℕ)) (slot count : ℕ) (rest : List Record) → AreRecords bodies (Base slot count ∷ rest) → slot < 2 ^ 64
base_fits [] slot count rest are = absurd are
base_fits (body ∷ bodies) slot count rest are = are.0.packet.fits.slot

open_may : (size : TableSize) (bodies : List (List ℕ)) (place : Place) (kept : Durable) (own : Option ℕ) → size.jobs < 2 ^ 32 → is_in_group place ≡ true → Behind size bodies place kept own → BodiesMayStand size bodies
open_may size bodies place kept own few is_open behind =
    let open_at = begun size behind.items (reading place kept) behind.runs is_open in
    let slot : ℕ = open_at.slot in
    let total : ℕ = open_at.group.total in
    let rows : List JobRow = open_at.group.rows in
    let more : List Record = rows_of slot (missing (length rows) (total - length rows)) in
    let filled : Durable = with_rows slot (rows_of_group size (rows ++ missing (length rows) (total - length rows))) in
    let fits : slot < 2 ^ 64 = base_fits bodies slot open_at.count open_at.rest (subst (AreRecords bodies) open_at.is behind.are) in
    let runs : run size (first size) (behind.items ++ more) ≡ Some (reading CopyStart filled) =
    runs_on size (first size) (reading place kept) (reading CopyStart filled) behind.items more behind.runs (group_filled size slot (reading place kept) open_at.group) in
    record {
      rest = map record_bytes more;
      kept = filled;
      own = own_ballot (behind.items ++ more);
      stand = record {
        items = behind.items ++ more;
        are_records = AreRecords-append bodies (map record_bytes more) behind.items more behind.are (missing_records slot (length rows) (total - length rows) size fits (omega (arith, open_at.group.few, open_at.group.within)) few);
        stands = runs-Stands size (behind.items ++ more) (reading CopyStart filled) false≢true runs;
        own_is = refl;
      };
    }

-- what a reader went over may yet stand for a state
pub Behind-may : (size : TableSize) (bodies : List (List ℕ)) (place : Place) (kept : Durable) (own : Option ℕ) → size.jobs < 2 ^ 32 → Behind size bodies place kept own → BodiesMayStand size bodies
Behind-may size bodies Start kept own few behind = stand_may size bodies kept own (Behind-stand size bodies Start kept own behind false≢true)
Behind-may size bodies (Rows total) kept own few behind = open_may size bodies (Rows total) kept own few refl behind
Behind-may size bodies CopyStart kept own few behind = stand_may size bodies kept own (Behind-stand size bodies CopyStart kept own behind false≢true)
Behind-may size bodies CopyTried kept own few behind = stand_may size bodies kept own (Behind-stand size bodies CopyTried kept own behind false≢true)
Behind-may size bodies CopyPromised kept own few behind = stand_may size bodies kept own (Behind-stand size bodies CopyPromised kept own behind false≢true)
Behind-may size bodies CopyVotes kept own few behind = stand_may size bodies kept own (Behind-stand size bodies CopyVotes kept own behind false≢true)
Behind-may size bodies Log kept own few behind = stand_may size bodies kept own (Behind-stand size bodies Log kept own behind false≢true)

-- the reader goes on with no record that the body is of
abbrev pub IsRefused : TableSize → Place → Durable → List ℕ → Type 0
IsRefused size place kept body = (item : Record) → IsRecord body item → next_place size place kept item ≡ None

one_record : (body : List ℕ) (items : List Record) → AreRecords (body ∷ []) items → (item : Record) × (items ≡ item ∷ []) × IsRecord body item
one_record body [] are = absurd are
one_record body (item ∷ []) are = (item, refl, are.0)
one_record body (item ∷ other ∷ items) are = absurd are.1

pub refused : (size : TableSize) (bodies : List (List ℕ)) (place : Place) (kept : Durable) (own : Option ℕ) (body : List ℕ) → Behind size bodies place kept own → IsRefused size place kept body → BodiesMayStand size (bodies ++ body ∷ []) → ⊥
refused size bodies place kept own body behind is_refused may =
    let whole = may.stand in
    let split = AreRecords-split (bodies ++ body ∷ []) may.rest whole.items whole.are_records in
    let inner = AreRecords-split bodies (body ∷ []) split.front split.are_front in
    let one = one_record body inner.back inner.are_back in
    let same : inner.front ≡ behind.items = AreRecords-same bodies inner.front behind.items inner.are_front behind.are in
    let parts : whole.items ≡ behind.items ++ (one.0 ∷ split.back) =
    split.parts ∙ ap (λ (f : List Record). f ++ split.back) (inner.parts ∙ ap (λ (b : List Record). inner.front ++ b) one.1 ∙ ap (λ (f : List Record). f ++ one.0 ∷ []) same) ∙ append_assoc behind.items (one.0 ∷ []) split.back in
    let reads = Stands-reads size whole.items may.kept whole.stands in
    let last : Reading = reading reads.place may.kept in
    let run_all : run size (first size) (behind.items ++ (one.0 ∷ split.back)) ≡ Some last = ap (run size (first size)) (sym parts) ∙ reads.runs in
    let two = run_parts size (first size) last behind.items (one.0 ∷ split.back) run_all in
    let middle : reading place kept ≡ two.middle = same_Some (reading place kept) two.middle (sym behind.runs ∙ two.first) in
    let on : run size (reading place kept) (one.0 ∷ split.back) ≡ Some last = ap (λ (s : Reading). run size s (one.0 ∷ split.back)) middle ∙ two.second in
    let step = run_steps size place kept one.0 split.back last on in
    none-some step.next (sym (is_refused one.0 one.2) ∙ step.at)

-- ---- the first fault

earlier_may : (size : TableSize) (bodies : List (List ℕ)) (k j : ℕ) → j < k → k ≤ length bodies → BodiesMayStand size (take k bodies) → BodiesMayStand size (take (j + 1) bodies)
earlier_may size bodies k j before within may =
    let shorter : take (j + 1) (take k bodies) ≡ take (j + 1) bodies = take-take (j + 1) k bodies (omega (arith, before)) in
    let parts : take (j + 1) bodies ++ drop (j + 1) (take k bodies) ≡ take k bodies =
    ap (λ (f : List (List ℕ)). f ++ drop (j + 1) (take k bodies)) (sym shorter) ∙ take-append-drop (j + 1) (take k bodies) in
    BodiesMayStand-front size (take (j + 1) bodies) (drop (j + 1) (take k bodies)) (subst (BodiesMayStand size) (sym parts) may)

stand_front : (size : TableSize) (bodies : List (List ℕ)) (k : ℕ) (kept : Durable) (own : Option ℕ) → StandFor size bodies kept own → BodiesMayStand size (take k bodies)
stand_front size bodies k kept own stand =
    BodiesMayStand-front size (take k bodies) (drop k bodies) (stand_may size (take k bodies ++ drop k bodies) kept own (subst (λ (all : List (List ℕ)). StandFor size all kept own) (sym (take-append-drop k bodies)) stand))

-- at a body that the reader goes no further with
pub fault_here : (size : TableSize) (bodies : List (List ℕ)) (k : ℕ) (place : Place) (kept : Durable) (own : Option ℕ) (body : List ℕ) → size.jobs < 2 ^ 32 → k < length bodies → take (k + 1) bodies ≡ take k bodies ++ body ∷ []
    → Behind size (take k bodies) place kept own → IsRefused size place kept body → IsFirstRecordAtFault size bodies k
fault_here size bodies k place kept own body few within more behind is_refused =
    let none : BodiesMayStand size (take (k + 1) bodies) → ⊥ = λ may. refused size (take k bodies) place kept own body behind is_refused (subst (BodiesMayStand size) more may) in
    record {
      within = omega (arith, within);
      earlier = λ j before. earlier_may size bodies k j before (omega (arith, within)) (Behind-may size (take k bodies) place kept own few behind);
      here = λ short may. none may;
      for_none = λ other others stand. none (stand_front size bodies (k + 1) other others stand);
    }

-- at the end, in the middle of a group
pub fault_at_end : (size : TableSize) (bodies : List (List ℕ)) (k : ℕ) (place : Place) (kept : Durable) (own : Option ℕ) → size.jobs < 2 ^ 32 → k ≡ length bodies → Behind size bodies place kept own → is_in_group place ≡ true → IsFirstRecordAtFault size bodies k
fault_at_end size bodies k place kept own few at behind is_open =
    let all : take k bodies ≡ bodies = take_all k bodies (omega (arith, at)) in
    record {
      within = omega (arith, at);
      earlier = λ j before. earlier_may size bodies k j before (omega (arith, at)) (subst (BodiesMayStand size) (sym all) (Behind-may size bodies place kept own few behind));
      here = λ short may. omega (arith, at, short);
      for_none = λ other others stand. (Behind-is size bodies place kept other own others behind stand).2 is_open;
    }

-- behind all bodies
pub broken_off : (size : TableSize) (bodies : List (List ℕ)) (k : ℕ) (place : Place) (kept : Durable) (own : Option ℕ) → size.jobs < 2 ^ 32 → length bodies ≤ k → Behind size (take k bodies) place kept own → is_in_group place ≡ true → IsFirstRecordAtFault size bodies (length bodies)
broken_off size bodies k place kept own few past behind is_open =
    fault_at_end size bodies (length bodies) place kept own few refl (subst (λ (all : List (List ℕ)). Behind size all place kept own) (take_all k bodies past) behind) is_open

pub all_read : (size : TableSize) (bodies : List (List ℕ)) (k : ℕ) (place : Place) (kept : Durable) (own : Option ℕ) → length bodies ≤ k → Behind size (take k bodies) place kept own → (is_in_group place ≡ true → ⊥) → StandFor size bodies kept own
all_read size bodies k place kept own past behind not_rows =
    Behind-stand size bodies place kept own (subst (λ (all : List (List ℕ)). Behind size all place kept own) (take_all k bodies past) behind) not_rows

-- there is one first fault at most
pub IsFirstRecordAtFault-same : (size : TableSize) (bodies : List (List ℕ)) (j k : ℕ) → IsFirstRecordAtFault size bodies j → IsFirstRecordAtFault size bodies k → j ≡ k
IsFirstRecordAtFault-same size bodies j k one other = elim (cases_order j k) [
  | inl same ↦ same
  | inr apart ↦ elim apart [
    | inl before ↦ absurd (one.here (omega (arith, before, other.within)) (other.earlier j before))
    | inr behind ↦ absurd (other.here (omega (arith, behind, one.within)) (one.earlier k behind))
  ]
]

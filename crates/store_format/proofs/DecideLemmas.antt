-- Whether a body is a record's, and which, so that bodies have a first fault or stand for a state.
use Rattle.std.proofs.Common.{◌≡◌, ℕ, ◌+◌, ◌<◌, ◌^◌, Bool, true, eqb, ℤ, Option, Some, None, List, [], ◌∷◌, ◌++◌, length, take, get_or, set, refl, sym, ap, ◌∙◌, subst, inl, inr, arith, append_assoc}
use Rattle.std.specs.Prelude.{◌⊎◌, FitsSigned, if◌then◌else◌}
use Rattle.std.specs.Int.{w64, int_wrap, bit_at}
use Rattle.std.specs.Ordering.{int_eq}
use Rattle.std.proofs.lemmas.Bool.{cases_lt, cases_eq, cases_Bool, false≢true}
use Rattle.std.proofs.lemmas.Bool.Decides.{Decides-int_eq}
use Rattle.std.proofs.lemmas.Int.{SFits-int_wrap, int_wrap_fits}
use Rattle.std.proofs.lemmas.List.{append-nil, take_at, length-append}
use Rattle.paxos_base.specs.declared.rows.TableSize.{TableSize}
use Rattle.paxos_base.specs.declared.durable.Durable.{Durable}
use Rattle.paxos_base.specs.declared.entry.Entry.{Entry}
use Rattle.paxos_base.specs.declared.entry.Entry.TheVariants.{Noop, Start as StartEntry, End, Table as TableEntry}
use Rattle.paxos_base.specs.declared.entry.Kind.TheVariants.{Launch, Void}
use Rattle.paxos_base.specs.declared.rows.JobRow.{JobRow}
use Rattle.paxos_letter.specs.declared.packet.Packet.{Packet}
use Rattle.paxos_letter.specs.Fields.{fields_in, FitPacketFields}
use Rattle.paxos_letter.specs.Rules.{keeps_kind, keeps_members}
use Rattle.paxos_letter.specs.Spelling.{fields_of, packet_bytes}
use Rattle.paxos_letter.proofs.SingleLemmas.{fields_again}
use Rattle.store_format.specs.declared.body.Record.{Record}
use Rattle.store_format.specs.declared.body.Record.TheVariants.{Tried, Promised, Voted, Base, Row}
use Rattle.store_format.specs.declared.place.Place.{Place}
use Rattle.store_format.specs.declared.place.Place.TheVariants.{Start}
use Rattle.store_format.specs.Area.{StandFor, IsFirstRecordAtFault, fresh_kept}
use Rattle.store_format.specs.Places.{is_in_group, next_place, taken}
use Rattle.store_format.specs.Records.{record_kind, record_packet, record_bytes, IsRecord}
use Rattle.store_format.proofs.Machine.{option_cases}
use Rattle.store_format.proofs.RecordLemmas.{packet_kind_of, IsRecord-kind, IsRecord-packet, IsRecord-same}
use Rattle.store_format.proofs.BodyLemmas.{Behind, Behind-none, Behind-next, Behind-stand, IsRefused, fault_here, fault_at_end}

-- ---- facts that hold or don't

abbrev Decided : Type 0 → Type 0
Decided P = P ⊎ (P → ⊥)

lt_decided : (a b : ℕ) → Decided (a < b)
lt_decided a b = elim (cases_lt a b) [ inl less ↦ inl less | inr not_less ↦ inr (λ less. omega (arith, less, not_less)) ]

true_decided : (b : Bool) → Decided (b ≡ true)
true_decided b = elim (cases_Bool b) [ inl is ↦ inl is | inr is_not ↦ inr (λ is. false≢true (sym is_not ∙ is)) ]

both_decided : {P Q : Type 0} → Decided P → Decided Q → Decided (P × Q)
both_decided (inl p) (inl q) = inl (p, q)
both_decided (inl p) (inr not_q) = inr (λ pq. not_q pq.1)
both_decided (inr not_p) q = inr (λ pq. not_p pq.0)

same_decided : {P Q : Type 0} → (P → Q) → (Q → P) → Decided P → Decided Q
same_decided to from (inl p) = inl (to p)
same_decided to from (inr not_p) = inr (λ q. not_p (from q))

int_decided : (a b : ℤ) → Decided (a ≡ b)
int_decided a b = elim (cases_Bool (int_eq a b)) [
  | inl is ↦ inl ((Decides-int_eq a b).0 is)
  | inr is_not ↦ inr (λ same. false≢true (sym is_not ∙ (Decides-int_eq a b).1 same))
]

fits_decided : (z : ℤ) → Decided (FitsSigned w64 z)
fits_decided z =
    same_decided (λ (same : int_wrap w64 z ≡ z). subst (FitsSigned w64) same (SFits-int_wrap w64 z)) (λ fits. int_wrap_fits w64 z fits) (int_decided (int_wrap w64 z) z)

list_decided : (xs ys : List ℕ) → Decided (xs ≡ ys)
list_decided [] [] = inl refl
list_decided [] (y ∷ ys) = inr (λ same. cc same)
list_decided (x ∷ xs) [] = inr (λ same. cc same)
list_decided (x ∷ xs) (y ∷ ys) =
    same_decided (λ (same : (x ≡ y) × (xs ≡ ys)). ap (λ (a : ℕ). a ∷ xs) same.0 ∙ ap (λ (others : List ℕ). y ∷ others) same.1) (λ same. (cc same, cc same))
    (both_decided (elim (cases_eq x y) [ inl same ↦ inl same | inr other ↦ inr other ]) (list_decided xs ys))

packet_fits_decided : (packet : Packet) → Decided (FitPacketFields (fields_of 0 packet))
packet_fits_decided packet =
    let f = fields_of 0 packet in
    same_decided
    (λ (fits : (((f.kind < 256) × (f.from < 256)) × ((f.tag < 256) × (f.zero < 256))) × (((f.job < 2 ^ 32) × (f.ballot < 2 ^ 64)) × (((f.slot < 2 ^ 64) × (f.old < 2 ^ 64)) × (FitsSigned w64 f.at × (FitsSigned w64 f.moment × FitsSigned w64 f.last))))).
    record { kind = fits.0.0.0; from = fits.0.0.1; tag = fits.0.1.0; zero = fits.0.1.1; job = fits.1.0.0; ballot = fits.1.0.1; slot = fits.1.1.0.0; old = fits.1.1.0.1; at = fits.1.1.1.0; moment = fits.1.1.1.1.0; last = fits.1.1.1.1.1 })
    (λ fits. (((fits.kind, fits.from), (fits.tag, fits.zero)), ((fits.job, fits.ballot), ((fits.slot, fits.old), (fits.at, (fits.moment, fits.last))))))
    (both_decided
    (both_decided (both_decided (lt_decided f.kind 256) (lt_decided f.from 256)) (both_decided (lt_decided f.tag 256) (lt_decided f.zero 256)))
    (both_decided (both_decided (lt_decided f.job (2 ^ 32)) (lt_decided f.ballot (2 ^ 64)))
    (both_decided (both_decided (lt_decided f.slot (2 ^ 64)) (lt_decided f.old (2 ^ 64)))
    (both_decided (fits_decided f.at) (both_decided (fits_decided f.moment) (fits_decided f.last))))))

record_decided : (body : List ℕ) (item : Record) → Decided (IsRecord body item)
record_decided body item =
    let packet : Packet = record_packet item in
    same_decided
    (λ (is : ((keeps_kind (fields_of 0 packet) ≡ true) × (keeps_members 7 0 (fields_of 0 packet) ≡ true)) × (FitPacketFields (fields_of 0 packet) × (body ≡ record_bytes item))).
    record { packet = record { kind = is.0.0; members_keep = is.0.1; fits = is.1.0; spelled = refl }; spelled = is.1.1 })
    (λ is. ((is.packet.kind, is.packet.members_keep), (is.packet.fits, is.spelled)))
    (both_decided (both_decided (true_decided (keeps_kind (fields_of 0 packet))) (true_decided (keeps_members 7 0 (fields_of 0 packet)))) (both_decided (packet_fits_decided packet) (list_decided body (record_bytes item))))

-- ---- the one record that a body may be of

abbrev entry_from : ℕ → ℕ → ℤ → ℤ → Entry
entry_from tag job at now =
    if eqb tag 0 then Noop else if eqb tag 1 then StartEntry job at now else if eqb tag 2 then End job at Launch else if eqb tag 3 then End job at Void else TableEntry job now

abbrev minute_if : ℕ → ℤ → Option ℤ
minute_if bit minute = if eqb bit 1 then Some minute else None

abbrev row_from : ℕ → ℕ → ℕ → ℕ → ℤ → ℤ → ℤ → JobRow
row_from tag job launched voided at now last =
    record { job = job; cursor = minute_if (bit_at tag 0) at; open_now = minute_if (bit_at tag 1) now; last = minute_if (bit_at tag 2) last; launched = launched; voided = voided }

abbrev record_from : ℕ → ℕ → ℕ → ℕ → ℕ → ℕ → ℤ → ℤ → ℤ → Record
record_from kind tag job ballot slot old at now last =
    if eqb kind 1 then Tried ballot
    else if eqb kind 2 then Promised ballot
    else if eqb kind 3 then Voted (record { slot = slot; ballot = ballot; entry = entry_from tag job at now })
    else if eqb kind 4 then Base slot old
    else Row slot (row_from tag job ballot old at now last)

-- the record with a kind and a packet's fields
abbrev record_as : ℕ → Packet → Record
record_as kind packet =
    let f = fields_of 0 packet in record_from kind f.tag f.job f.ballot f.slot f.old f.at f.moment f.last

row_as : (slot job launched voided : ℕ) (cursor started last : Option ℤ) → record_as 5 (record_packet (Row slot (record { job = job; cursor = cursor; open_now = started; last = last; launched = launched; voided = voided }))) ≡ Row slot (record { job = job; cursor = cursor; open_now = started; last = last; launched = launched; voided = voided })
row_as slot job launched voided None None None = refl
row_as slot job launched voided None None (Some l) = refl
row_as slot job launched voided None (Some o) None = refl
row_as slot job launched voided None (Some o) (Some l) = refl
row_as slot job launched voided (Some a) None None = refl
row_as slot job launched voided (Some a) None (Some l) = refl
row_as slot job launched voided (Some a) (Some o) None = refl
row_as slot job launched voided (Some a) (Some o) (Some l) = refl

vote_as : (slot ballot : ℕ) (entry : Entry) → record_as 3 (record_packet (Voted (record { slot = slot; ballot = ballot; entry = entry }))) ≡ Voted (record { slot = slot; ballot = ballot; entry = entry })
vote_as slot ballot Noop = refl
vote_as slot ballot (StartEntry job at now) = refl
vote_as slot ballot (End job at Launch) = refl
vote_as slot ballot (End job at Void) = refl
vote_as slot ballot (TableEntry version now) = refl

record_again : (item : Record) → record_as (record_kind item) (record_packet item) ≡ item
record_again (Tried ballot) = refl
record_again (Promised ballot) = refl
record_again (Voted vote) = vote_as vote.slot vote.ballot vote.entry
record_again (Base slot count) = refl
record_again (Row slot row) = row_as slot row.job row.launched row.voided row.cursor row.open_now row.last

abbrev candidate : List ℕ → Record
candidate body =
    let kind : ℕ = get_or body 0 0 in
    let f = fields_in (set body 0 (packet_kind_of kind)) in record_from kind f.tag f.job f.ballot f.slot f.old f.at f.moment f.last

candidate_is : (body : List ℕ) (item : Record) → IsRecord body item → candidate body ≡ item
candidate_is body item is =
    let bytes = IsRecord-packet body item is in
    let fields = ap fields_in (sym bytes) ∙ fields_again 7 0 (record_packet item) (packet_bytes 0 (record_packet item)) is.packet in
    ap (λ f. record_from (get_or body 0 0) f.tag f.job f.ballot f.slot f.old f.at f.moment f.last) fields
    ∙ ap (λ (kind : ℕ). record_as kind (record_packet item)) (IsRecord-kind body item is) ∙ record_again item

body_decided : (body : List ℕ) → ((item : Record) × IsRecord body item) ⊎ ((item : Record) → IsRecord body item → ⊥)
body_decided body = elim (record_decided body (candidate body)) [
  | inl is ↦ inl (candidate body, is)
  | inr is_not ↦ inr (λ item is. is_not (subst (IsRecord body) (sym (candidate_is body item is)) is))
]

-- ---- the first fault

abbrev Faulty : TableSize → List (List ℕ) → Type 0
Faulty size bodies = (k : ℕ) × IsFirstRecordAtFault size bodies k

abbrev StandForNone : TableSize → List (List ℕ) → Type 0
StandForNone size bodies = (kept : Durable) (own : Option ℕ) → StandFor size bodies kept own → ⊥

at_end : (size : TableSize) (bodies : List (List ℕ)) (place : Place) (kept : Durable) (own : Option ℕ) → size.jobs < 2 ^ 32 → Behind size bodies place kept own → StandForNone size bodies → Faulty size bodies
at_end size bodies place kept own few behind none = elim (true_decided (is_in_group place)) [
  | inl is ↦ (length bodies, fault_at_end size bodies (length bodies) place kept own few refl behind is)
  | inr is_not ↦ absurd (none kept own (Behind-stand size bodies place kept own behind is_not))
]

at_body : (size : TableSize) (front : List (List ℕ)) (body : List ℕ) (bodies : List (List ℕ)) (place : Place) (kept : Durable) (own : Option ℕ) → size.jobs < 2 ^ 32 → Behind size front place kept own → IsRefused size place kept body → Faulty size (front ++ body ∷ bodies)
at_body size front body bodies place kept own few behind is_refused =
    let all : List (List ℕ) = front ++ body ∷ bodies in
    let whole : length all ≡ length front + length (body ∷ bodies) = length-append front (body ∷ bodies) in
    let first : take (length front) all ≡ front = take_at front (body ∷ bodies) (length front) refl in
    let one : length (front ++ body ∷ []) ≡ length front + 1 = length-append front (body ∷ []) in
    let parts : (front ++ body ∷ []) ++ bodies ≡ all = append_assoc front (body ∷ []) bodies in
    let more : take (length front + 1) all ≡ take (length front) all ++ body ∷ [] =
    ap (take (length front + 1)) (sym parts) ∙ take_at (front ++ body ∷ []) bodies (length front + 1) one ∙ ap (λ (f : List (List ℕ)). f ++ body ∷ []) (sym first) in
    (length front, fault_here size all (length front) place kept own body few (omega (arith, whole)) more (subst (λ (f : List (List ℕ)). Behind size f place kept own) (sym first) behind) is_refused)

fault_from : (size : TableSize) (front bodies : List (List ℕ)) (place : Place) (kept : Durable) (own : Option ℕ) → size.jobs < 2 ^ 32 → Behind size front place kept own → StandForNone size (front ++ bodies) → Faulty size (front ++ bodies)
fault_from size front [] place kept own few behind none =
    let same : front ++ [] ≡ front = append-nil front in
    subst (Faulty size) (sym same) (at_end size front place kept own few behind (subst (StandForNone size) same none))
fault_from size front (body ∷ bodies) place kept own few behind none = elim (body_decided body) [
  | inl (item, is) ↦ elim (option_cases (next_place size place kept item)) [
    | inl refused ↦ at_body size front body bodies place kept own few behind (λ other is_other. ap (next_place size place kept) (IsRecord-same body other item is_other is) ∙ refused)
    | inr (next, at) ↦
        let parts : (front ++ body ∷ []) ++ bodies ≡ front ++ body ∷ bodies = append_assoc front (body ∷ []) bodies in
        subst (Faulty size) parts
        (fault_from size (front ++ body ∷ []) bodies next (taken size next item kept) _ few (Behind-next size front place next kept own body item behind is at) (subst (StandForNone size) (sym parts) none))
  ]
  | inr unread ↦ at_body size front body bodies place kept own few behind (λ item is. absurd (unread item is))
]

pub first_fault : (size : TableSize) (bodies : List (List ℕ)) → size.jobs < 2 ^ 32 → StandForNone size bodies → Faulty size bodies
first_fault size bodies few none = fault_from size [] bodies Start (fresh_kept size) None few (Behind-none size) none

-- The rows that are heard of a letter are those of a table of jobs.
use Rattle.std.proofs.Common.{◌≡◌, ℕ, zero, suc, ◌+◌, ◌-◌, ◌^◌, ◌<◌, Bool, true, false, eqb, ltb, ◌&&◌, ◌||◌, List, [], ◌∷◌, length, map, take, Option, Some, None, ℤ, refl, sym, ap, ◌∙◌, inl, inr, arith, subst}
use Rattle.std.specs.Prelude.{⊤, IsSome, IsTrue, slice_get, if◌then◌else◌}
use Rattle.std.specs.List.{All, AllByRecursion, Contains, flat_map}
use Rattle.std.proofs.lemmas.Bool.{and_parts, cases_Bool, eq-eqb, eqb-true, ltb-true, false≢true}
use Rattle.std.proofs.lemmas.List.Elements.{All-cons}
use Rattle.std.proofs.lemmas.Option.{get_or_from_slice_get, slice_get_within}
use Rattle.paxos_base.specs.declared.rows.TableSize.{TableSize}
use Rattle.paxos_base.specs.Rows.{OpenHasCursor, OpenHaveCursors, RowsStand, fits_table, is_table_row, row_count}
use Rattle.paxos_base.specs.declared.rows.JobRow.{JobRow}
use Rattle.paxos_letter.specs.Groups.{keep_groups, no_group}
use Rattle.paxos_letter.specs.Rules.{keeps_kind}
use Rattle.paxos_letter.specs.Spelling.{fields_of}
use Rattle.paxos_letter.specs.declared.packet.Packet.{Packet}
use Rattle.paxos_letter.specs.declared.packet.Packet.TheVariants as packet
use Rattle.step_spec.specs.Heard.{messages_of, row_in}
use Rattle.step_spec.specs.Letters.{IsHeardAs, are_small, heard_in, is_small, is_small_letter, is_small_row, is_small_slot}
use Rattle.step_spec.specs.Message.{Message, Snap}
use Rattle.step_spec.proofs.Lists.{nothing_in}
use Rattle.step_spec.proofs.SmallLemmas.{heard_whole}
use Rattle.due_set.proofs.Rising.{Contains-cases as cons_cases}

-- ---- rows of a copy

-- a row's counts are within the bounds
abbrev pub HasSmallCounts : JobRow → Type 0
HasSmallCounts row = (row.launched < 2 ^ 31) × (row.voided < 2 ^ 31)

-- the row fits a table of this size
abbrev pub Fits : TableSize → JobRow → Type 0
Fits size row = fits_table size row ≡ true

-- so many rows from a number on that fit the table, in which each open one has a cursor, with counts within the bounds
pub record AreCopied (size : TableSize) (rows : List JobRow) (count job : ℕ) : Type 0 where
  pub count_is : length rows ≡ count
  pub in_order : (k : ℕ) (row : JobRow) → slice_get rows k ≡ Some row → row.job ≡ job + k
  pub cursors : OpenHaveCursors rows
  pub counts : All HasSmallCounts rows
  pub fit : All (Fits size) rows

-- the row of a packet of a known kind has a cursor where its job is open
row_cursor : (from slot job launched voided : ℕ) (cursor started last : Option ℤ)
    → keeps_kind (fields_of from (packet.SnapRow slot (record { job = job; cursor = cursor; open_now = started; last = last; launched = launched; voided = voided }))) ≡ true
    → IsSome started → IsSome cursor
row_cursor from slot job launched voided (Some at) started last keeps some = refl
row_cursor from slot job launched voided None None last keeps some = some
row_cursor from slot job launched voided None (Some since) None keeps some = absurd (false≢true keeps)
row_cursor from slot job launched voided None (Some since) (Some last) keeps some = absurd (false≢true keeps)

-- where rows are owed, no packet but a row may follow
none_owed : {P : Type 0} (count : ℕ) (more : Bool) → (eqb 0 0 && eqb (suc count) 0) && more ≡ true → P
none_owed count more keeps =
    let filled = (and_parts (eqb 0 0 && eqb (suc count) 0) more keeps).0 in
    let none : suc count ≡ 0 = eqb-true (suc count) 0 (and_parts (eqb 0 0) (eqb (suc count) 0) filled).1 in
    absurd (omega (arith, none))

small_behind : (size : TableSize) (first : Packet) (rest : List Packet) → are_small size (first ∷ rest) ≡ true → are_small size rest ≡ true
small_behind size first rest small = (and_parts (is_small size first) (are_small size rest) small).1

-- of rows that are owed, each is there
copied : (size : TableSize) (from count job : ℕ) (asked : Bool) (packets : List Packet) → are_small size packets ≡ true
    → AllByRecursion (λ packet. IsTrue (keeps_kind (fields_of from packet))) packets → keep_groups (record no_group { rows = count; job = job; asked = asked }) (map (fields_of from) packets) ≡ true
    → AreCopied size (flat_map row_in (take count packets)) count job
copied size from zero job asked packets small kinds keeps =
    record { count_is = refl; in_order = λ k row is. absurd cc; cursors = λ k none within. absurd (omega (arith, within)); counts = λ k none within. absurd (omega (arith, within)); fit = λ k none within. absurd (omega (arith, within)) }
copied size from (suc count) job asked [] small kinds keeps =
    let none : suc count ≡ 0 = eqb-true (suc count) 0 (and_parts (eqb 0 0) (eqb (suc count) 0) keeps).1 in
    absurd (omega (arith, none))
copied size from (suc count) job asked (packet.SnapRow slot row ∷ rest) small kinds keeps =
    let parts = and_parts _ _ keeps in
    let less : suc count - 1 ≡ count = omega arith in
    let here = and_parts (ltb 0 (suc count)) (eqb row.job job) parts.0 in
    let first : row.job ≡ job = eqb-true row.job job here.1 in
    let bounds = (and_parts (is_small size (packet.SnapRow slot row)) (are_small size rest) small).0 in
    let of_row = and_parts (is_small_row row) (fits_table size row) (and_parts (is_small_slot slot) (is_small_row row && fits_table size row) bounds).1 in
    let counts = and_parts (ltb row.launched (2 ^ 31)) (ltb row.voided (2 ^ 31)) of_row.0 in
    let later = copied size from count (job + 1) asked rest (small_behind size (packet.SnapRow slot row) rest small) kinds.1 (rw less at parts.1) in
    record {
      count_is = ap suc later.count_is;
      in_order = order row (flat_map row_in (take count rest)) job first later.in_order;
      cursors = All-cons OpenHasCursor row (flat_map row_in (take count rest)) (row_cursor from slot row.job row.launched row.voided row.cursor row.open_now row.last kinds.0) later.cursors;
      counts = All-cons HasSmallCounts row (flat_map row_in (take count rest)) (ltb-true row.launched (2 ^ 31) counts.0, ltb-true row.voided (2 ^ 31) counts.1) later.counts;
      fit = All-cons (Fits size) row (flat_map row_in (take count rest)) of_row.1 later.fit;
    }
  where
    order : (one : JobRow) (others : List JobRow) (number : ℕ) → one.job ≡ number → ((k : ℕ) (other : JobRow) → slice_get others k ≡ Some other → other.job ≡ number + 1 + k)
        → (k : ℕ) (other : JobRow) → slice_get (one ∷ others) k ≡ Some other → other.job ≡ number + k
    order one others number first later zero other is = let same : one ≡ other = cc in rw (← same) (omega (arith, first))
    order one others number first later (suc k) other is = let at = later k other is in omega (arith, at)
copied size from (suc count) job asked (packet.OldVote ballot slot cast entry ∷ rest) small kinds keeps = absurd (false≢true keeps)
copied size from (suc count) job asked (packet.Prepare ballot slot ∷ rest) small kinds keeps = none_owed count _ (and_parts _ _ keeps).0
copied size from (suc count) job asked (packet.Promise ballot slot old ∷ rest) small kinds keeps = none_owed count _ (and_parts _ _ keeps).0
copied size from (suc count) job asked (packet.Accept ballot slot entry ∷ rest) small kinds keeps = none_owed count _ (and_parts _ _ keeps).0
copied size from (suc count) job asked (packet.Accepted ballot slot ∷ rest) small kinds keeps = none_owed count _ (and_parts _ _ keeps).0
copied size from (suc count) job asked (packet.Nack ballot promised ∷ rest) small kinds keeps = none_owed count _ (and_parts _ _ keeps).0
copied size from (suc count) job asked (packet.Known slot entry ∷ rest) small kinds keeps = none_owed count _ (and_parts _ _ keeps).0
copied size from (suc count) job asked (packet.AskFrom slot ∷ rest) small kinds keeps = none_owed count _ (and_parts _ _ keeps).0
copied size from (suc count) job asked (packet.Snap slot old ∷ rest) small kinds keeps = none_owed count _ (and_parts _ _ keeps).0
copied size from (suc count) job asked (packet.Lead ballot slot ∷ rest) small kinds keeps = none_owed count _ (and_parts _ _ keeps).0

-- ---- a copy that is heard

-- the message is no copy
abbrev IsNoCopy : Message → Type 0
IsNoCopy (Snap slot rows) = ⊥
IsNoCopy message = ⊤

later_copy : (message : Message) (others : List Message) (slot : ℕ) (rows : List JobRow) → IsNoCopy message → Contains (message ∷ others) (Snap slot rows) → Contains others (Snap slot rows)
later_copy message others slot rows other has = elim (cons_cases message others (Snap slot rows) has) [
  | inl same ↦ absurd (subst IsNoCopy same other)
  | inr later ↦ later
]

heard_copy : (size : TableSize) (from : ℕ) (packets : List Packet) (votes owed job : ℕ) (asked : Bool) (slot : ℕ) (rows : List JobRow)
    → AllByRecursion (λ packet. IsTrue (keeps_kind (fields_of from packet))) packets
    → keep_groups (record no_group { votes = votes; rows = owed; job = job; asked = asked }) (map (fields_of from) packets) ≡ true → are_small size packets ≡ true
    → Contains (messages_of packets) (Snap slot rows) → AreCopied size rows (row_count size) 0
unfolding messages_of
heard_copy size from [] votes owed job asked slot rows kinds keeps small has = nothing_in has
heard_copy size from (packet.Snap at count ∷ rest) votes owed job asked slot rows kinds keeps small has =
    let owes : keep_groups (record no_group { rows = count; asked = asked || true }) (map (fields_of from) rest) ≡ true = (and_parts _ _ keeps).1 in
    let bounds = (and_parts (is_small size (packet.Snap at count)) (are_small size rest) small).0 in
    let all : count ≡ row_count size = eqb-true count (row_count size) (and_parts (is_small_slot at) (eqb count (row_count size)) bounds).1 in
    let behind = small_behind size (packet.Snap at count) rest small in
    elim (cons_cases (Snap at (flat_map row_in (take count rest))) (messages_of rest) (Snap slot rows) has) [
      | inl same ↦
          let is : flat_map row_in (take count rest) ≡ rows = cc in
          subst (λ (n : ℕ). AreCopied size rows n 0) all (rw (← is) (copied size from count 0 (asked || true) rest behind kinds.1 owes))
      | inr later ↦ heard_copy size from rest 0 count 0 (asked || true) slot rows kinds.1 owes behind later
    ]
heard_copy size from (packet.SnapRow at row ∷ rest) votes owed job asked slot rows kinds keeps small has =
    heard_copy size from rest _ _ _ _ slot rows kinds.1 (and_parts _ _ keeps).1 (small_behind size (packet.SnapRow at row) rest small) has
heard_copy size from (packet.Prepare ballot at ∷ rest) votes owed job asked slot rows kinds keeps small has =
    heard_copy size from rest _ _ _ _ slot rows kinds.1 (and_parts _ _ keeps).1 (small_behind size (packet.Prepare ballot at) rest small) (later_copy _ _ slot rows tt has)
heard_copy size from (packet.Promise ballot at count ∷ rest) votes owed job asked slot rows kinds keeps small has =
    heard_copy size from rest _ _ _ _ slot rows kinds.1 (and_parts _ _ keeps).1 (small_behind size (packet.Promise ballot at count) rest small) (later_copy _ _ slot rows tt has)
heard_copy size from (packet.OldVote ballot at cast entry ∷ rest) votes owed job asked slot rows kinds keeps small has =
    heard_copy size from rest _ _ _ _ slot rows kinds.1 (and_parts _ _ keeps).1 (small_behind size (packet.OldVote ballot at cast entry) rest small) (later_copy _ _ slot rows tt has)
heard_copy size from (packet.Accept ballot at entry ∷ rest) votes owed job asked slot rows kinds keeps small has =
    heard_copy size from rest _ _ _ _ slot rows kinds.1 (and_parts _ _ keeps).1 (small_behind size (packet.Accept ballot at entry) rest small) (later_copy _ _ slot rows tt has)
heard_copy size from (packet.Accepted ballot at ∷ rest) votes owed job asked slot rows kinds keeps small has =
    heard_copy size from rest _ _ _ _ slot rows kinds.1 (and_parts _ _ keeps).1 (small_behind size (packet.Accepted ballot at) rest small) (later_copy _ _ slot rows tt has)
heard_copy size from (packet.Nack ballot promised ∷ rest) votes owed job asked slot rows kinds keeps small has =
    heard_copy size from rest _ _ _ _ slot rows kinds.1 (and_parts _ _ keeps).1 (small_behind size (packet.Nack ballot promised) rest small) (later_copy _ _ slot rows tt has)
heard_copy size from (packet.Known at entry ∷ rest) votes owed job asked slot rows kinds keeps small has =
    heard_copy size from rest _ _ _ _ slot rows kinds.1 (and_parts _ _ keeps).1 (small_behind size (packet.Known at entry) rest small) (later_copy _ _ slot rows tt has)
heard_copy size from (packet.AskFrom at ∷ rest) votes owed job asked slot rows kinds keeps small has =
    heard_copy size from rest _ _ _ _ slot rows kinds.1 (and_parts _ _ keeps).1 (small_behind size (packet.AskFrom at) rest small) (later_copy _ _ slot rows tt has)
heard_copy size from (packet.Lead ballot at ∷ rest) votes owed job asked slot rows kinds keeps small has =
    heard_copy size from rest _ _ _ _ slot rows kinds.1 (and_parts _ _ keeps).1 (small_behind size (packet.Lead ballot at) rest small) (later_copy _ _ slot rows tt has)

nothing_heard : (size : TableSize) (packets : List Packet) → is_small_letter size packets ≡ false → heard_in size packets ≡ []
nothing_heard size packets large = rw large refl

-- rows that are heard are those of the table of jobs, and each open one has a cursor
pub heard_stand : (members : ℕ) (size : TableSize) (bytes : List ℕ) (from slot : ℕ) (messages : List Message) (rows : List JobRow) → IsHeardAs members size bytes from messages
    → Contains messages (Snap slot rows) → AreCopied size rows (row_count size) 0
heard_stand members size bytes from slot messages rows heard has = elim (cases_Bool (is_small_letter size heard.packets)) [
  | inl small ↦
      let there = subst (λ list. Contains list (Snap slot rows)) (heard.heard ∙ heard_whole size heard.packets small) has in
      heard_copy size from heard.packets 0 0 0 false slot rows heard.spells.letter.kinds heard.spells.letter.groups (and_parts (ltb (length heard.packets) (2 ^ 31)) (are_small size heard.packets) small).1 there
  | inr large ↦
      let none : messages ≡ [] = heard.heard ∙ nothing_heard size heard.packets large in
      nothing_in (subst (λ list. Contains list (Snap slot rows)) none has)
]

pub copied_stand : (rows : List JobRow) (size : TableSize) → AreCopied size rows (row_count size) 0 → RowsStand rows size
copied_stand rows size copy = record {
  numbered = record { count = copy.count_is; in_order = λ k row is. let at = copy.in_order k row is in omega (arith, at) };
  ends = λ row is.
      let at : row.job ≡ size.jobs = let there = copy.in_order size.jobs row is in omega (arith, there) in
      let fits : Fits size row = subst (Fits size) (get_or_from_slice_get rows size.jobs row row is) (copy.fit size.jobs row (slice_get_within rows size.jobs row is)) in
      ap (λ (b : Bool). if b then is_table_row size.last_version row else true) (sym (eq-eqb row.job size.jobs at)) ∙ fits;
}

-- The rules of one packet, and what its fields spell.
use Rattle.std.proofs.Common.{◌≡◌, ◌⊎◌, ℕ, ◌+◌, ◌<◌, ◌≤◌, ℤ, pos, Bool, true, false, not, ◌&&◌, ◌||◌, eqb, leb, ltb, if◌then◌else◌, is_some, refl, sym, subst, arith, inl, inr}
use Rattle.std.specs.Bool.{then_some}
use Rattle.std.specs.Int.{bit_at}
use Rattle.std.specs.Ordering.{int_eq}
use Rattle.std.proofs.lemmas.Bool.{and_parts, or_cases, eqb-true, eq-eqb, leb-true, ltb-true, false≢true, agree_below_at}
use Rattle.std.proofs.lemmas.Bool.Decides.{Decides-int_eq}
use Rattle.paxos_base.specs.Packet.{TagField, ZeroField, JobField, BallotField, SlotField, OldField, AtField, NowField, LastField}
use Rattle.paxos_base.specs.EntryFields.{entry_numbers, HasStrayNumbers}
use Rattle.paxos_base.specs.declared.wire.EntryFault.{EntryFault}
use Rattle.paxos_base.specs.declared.wire.EntryFault.TheVariants.{Tag, NotZero}
use Rattle.paxos_letter.specs.declared.fields.Fields.{Fields}
use Rattle.paxos_letter.specs.declared.packet.Packet.TheVariants.{SnapRow}
use Rattle.paxos_letter.specs.Decoding.{row_of}
use Rattle.paxos_letter.specs.Rules.{has_entry, has_row, has_cursor, is_open, has_last, keeps_row, keeps_kind, uses, keeps_zero, keeps_zeros}
use Rattle.paxos_letter.specs.Spelling.{fields_of, row_tag, minute_or_zero}

abbrev pub fields_from : ℕ → ℕ → ℕ → ℕ → ℕ → ℕ → ℕ → ℕ → ℤ → ℤ → ℤ → Fields
fields_from kind from tag third job ballot slot old at moment last =
    record {
      kind = kind;
      from = from;
      tag = tag;
      zero = third;
      job = job;
      ballot = ballot;
      slot = slot;
      old = old;
      at = at;
      moment = moment;
      last = last;
    }

-- a field that isn't used is 0
unused : (uses is : Bool) → (uses || is) ≡ true → uses ≡ false → is ≡ true
unused true is h e = absurd (false≢true (sym e))
unused false is h e = h

int_zero : (z : ℤ) → int_eq z (pos 0) ≡ true → z ≡ pos 0
int_zero z e = (Decides-int_eq z (pos 0)).0 e

pub record Clean (fields : Fields) : Type 0 where
  pub tag : uses fields TagField ≡ false → fields.tag ≡ 0
  pub zero : fields.zero ≡ 0
  pub job : uses fields JobField ≡ false → fields.job ≡ 0
  pub ballot : uses fields BallotField ≡ false → fields.ballot ≡ 0
  pub slot : uses fields SlotField ≡ false → fields.slot ≡ 0
  pub old : uses fields OldField ≡ false → fields.old ≡ 0
  pub at : uses fields AtField ≡ false → fields.at ≡ pos 0
  pub moment : uses fields NowField ≡ false → fields.moment ≡ pos 0
  pub last : uses fields LastField ≡ false → fields.last ≡ pos 0

pub keeps_zeros-Clean : (fields : Fields) → keeps_zeros fields ≡ true → Clean fields
keeps_zeros-Clean fields h =
    let tag = and_parts (keeps_zero fields TagField) _ h in
    let zero = and_parts (keeps_zero fields ZeroField) _ tag.1 in
    let job = and_parts (keeps_zero fields JobField) _ zero.1 in
    let ballot = and_parts (keeps_zero fields BallotField) _ job.1 in
    let slot = and_parts (keeps_zero fields SlotField) _ ballot.1 in
    let old = and_parts (keeps_zero fields OldField) _ slot.1 in
    let at = and_parts (keeps_zero fields AtField) _ old.1 in
    let moment = and_parts (keeps_zero fields NowField) _ at.1 in
    let last = and_parts (keeps_zero fields LastField) _ moment.1 in
    record {
      tag = λ e. eqb-true _ _ (unused (uses fields TagField) _ tag.0 e);
      zero = eqb-true _ _ zero.0;
      job = λ e. eqb-true _ _ (unused (uses fields JobField) _ job.0 e);
      ballot = λ e. eqb-true _ _ (unused (uses fields BallotField) _ ballot.0 e);
      slot = λ e. eqb-true _ _ (unused (uses fields SlotField) _ slot.0 e);
      old = λ e. eqb-true _ _ (unused (uses fields OldField) _ old.0 e);
      at = λ e. int_zero _ (unused (uses fields AtField) _ at.0 e);
      moment = λ e. int_zero _ (unused (uses fields NowField) _ moment.0 e);
      last = λ e. int_zero _ (unused (uses fields LastField) _ last.0 e);
    }

-- ---- tests

implied : (p q : Bool) → (not p || q) ≡ true → p ≡ true → q ≡ true
implied true q h e = h
implied false q h e = absurd (false≢true e)

-- a packet of a kind with an entry has no row
pub has_entry-row : (fields : Fields) → has_entry fields ≡ true → has_row fields ≡ false
has_entry-row fields h =
    elim (or_cases (eqb fields.kind 3) _ h) [
      | inl is ↦ rw (eqb-true _ _ is) refl
      | inr other ↦ elim (or_cases (eqb fields.kind 4) _ other) [
        | inl is ↦ rw (eqb-true _ _ is) refl
        | inr is ↦ rw (eqb-true _ _ is) refl
      ]
    ]

pub keeps_kind-entry : (fields : Fields) → keeps_kind fields ≡ true → has_entry fields ≡ true → fields.tag ≤ 4
keeps_kind-entry fields h e =
    let parts = and_parts (leb 1 fields.kind && leb fields.kind 11) _ h in
    let entry = and_parts (not (has_entry fields) || leb fields.tag 4) _ parts.1 in
    leb-true _ _ (implied (has_entry fields) _ entry.0 e)

pub keeps_kind-row : (fields : Fields) → keeps_kind fields ≡ true → has_row fields ≡ true → fields.tag < 8
keeps_kind-row fields h e =
    let parts = and_parts (leb 1 fields.kind && leb fields.kind 11) _ h in
    let entry = and_parts (not (has_entry fields) || leb fields.tag 4) _ parts.1 in
    let row = implied (has_row fields) (keeps_row fields) entry.1 e in
    ltb-true _ _ (and_parts (ltb fields.tag 8) _ row).0

-- ---- entries

-- a Noop uses no job and no minute
pub noop_uses : (e r z : Bool) → z ≡ true → r ≡ false → ((e && not z) || r) ≡ false
noop_uses true r z p q = rw (p, q) refl
noop_uses false r z p q = q

pub noop_row : (e r z bit : Bool) → z ≡ true → r ≡ false → ((e && not z) || (r && bit)) ≡ false
noop_row true r z bit p q = rw (p, q) refl
noop_row false r z bit p q = rw q refl

-- only a Start and a Table use now
pub start_uses : (e r one bit : Bool) → one ≡ false → r ≡ false → ((e && one) || (r && bit)) ≡ false
start_uses true r one bit p q = rw (p, q) refl
start_uses false r one bit p q = rw q refl

has_no_now : (tag : ℕ) → (tag ≡ 0) ⊎ ((tag ≡ 2) ⊎ (tag ≡ 3)) → (eqb tag 1 || eqb tag 4) ≡ false
has_no_now tag (inl e) = rw e refl
has_no_now tag (inr (inl e)) = rw e refl
has_no_now tag (inr (inr e)) = rw e refl

no_stray : (fields : Fields) → has_entry fields ≡ true → Clean fields → HasStrayNumbers (entry_numbers fields.tag fields.job fields.at fields.moment) → ⊥
no_stray fields h clean (inl (noop, stray)) =
    let row = has_entry-row fields h in
    let zero : eqb fields.tag 0 ≡ true = eq-eqb _ _ noop in
    let job = clean.job (noop_uses (has_entry fields) (has_row fields) (eqb fields.tag 0) zero row) in
    let at = clean.at (noop_row (has_entry fields) (has_row fields) (eqb fields.tag 0 || eqb fields.tag 4) (has_cursor fields) (rw zero refl) row) in
    let moment = clean.moment (start_uses (has_entry fields) (has_row fields) (eqb fields.tag 1 || eqb fields.tag 4) (is_open fields) (has_no_now _ (inl noop)) row) in
    elim stray [
      | inl j ↦ j job
      | inr minutes ↦ elim minutes [ inl a ↦ a at | inr n ↦ n moment ]
    ]
no_stray fields h clean (inr (inl (end, stray))) =
    stray (clean.moment (start_uses (has_entry fields) (has_row fields) (eqb fields.tag 1 || eqb fields.tag 4) (is_open fields) (has_no_now _ (inr end)) (has_entry-row fields h)))
no_stray fields h clean (inr (inr (table, stray))) =
    stray (clean.at (noop_row (has_entry fields) (has_row fields) (eqb fields.tag 0 || eqb fields.tag 4) (has_cursor fields) (rw table refl) (has_entry-row fields h)))

-- the fields of an entry that keep the rules have one
pub has_no_fault : (fields : Fields) (fault : EntryFault) (at moment : ℤ) → has_entry fields ≡ true → keeps_kind fields ≡ true → keeps_zeros fields ≡ true
    → at ≡ fields.at → moment ≡ fields.moment → (fault ≡ Tag → 4 < fields.tag) → (fault ≡ NotZero → HasStrayNumbers (entry_numbers fields.tag fields.job at moment)) → ⊥
has_no_fault fields Tag at moment h kind zeros p q tag stray = let above = tag refl in let within = keeps_kind-entry fields kind h in omega arith
has_no_fault fields NotZero at moment h kind zeros p q tag stray =
    no_stray fields h (keeps_zeros-Clean fields zeros)
    (subst (λ (z : ℤ). HasStrayNumbers (entry_numbers fields.tag fields.job fields.at z)) q (subst (λ (z : ℤ). HasStrayNumbers (entry_numbers fields.tag fields.job z moment)) p (stray refl)))

-- ---- rows

abbrev some_bit : Bool → ℕ → ℕ
some_bit is value = if is then value else 0

abbrev bits_of : ℕ → ℕ
bits_of tag = some_bit (eqb (bit_at tag 0) 1) 1 + some_bit (eqb (bit_at tag 1) 1) 2 + some_bit (eqb (bit_at tag 2) 1) 4

bits_of-tag : (tag : ℕ) → tag < 8 → bits_of tag ≡ tag
bits_of-tag tag lt = eqb-true _ _ (agree_below_at (λ t. eqb (bits_of t) t) (λ _. true) 8 tag refl lt)

is_some-then_some : (b : Bool) (z : ℤ) → is_some (then_some b z) ≡ b
is_some-then_some true z = refl
is_some-then_some false z = refl

minute-then_some : (b : Bool) (z : ℤ) → (b ≡ false → z ≡ pos 0) → minute_or_zero (then_some b z) ≡ z
minute-then_some true z h = refl
minute-then_some false z h = sym (h refl)

pub same_fields : {kind kind' from from' tag tag' zero zero' job job' ballot ballot' slot slot' old old' : ℕ} {at at' moment moment' last last' : ℤ} → kind ≡ kind' → from ≡ from' → tag ≡ tag' → zero ≡ zero' → job ≡ job' → ballot ≡ ballot' → slot ≡ slot' → old ≡ old' → at ≡ at' → moment ≡ moment' → last ≡ last'
    → fields_from kind from tag zero job ballot slot old at moment last ≡ fields_from kind' from' tag' zero' job' ballot' slot' old' at' moment' last'
same_fields a b c d e f g h i j k = cc

pub row_again : (fields : Fields) → fields.kind ≡ 10 → keeps_kind fields ≡ true → keeps_zeros fields ≡ true → fields_of fields.from (SnapRow fields.slot (row_of fields)) ≡ fields
row_again fields is kind zeros =
    let clean = keeps_zeros-Clean fields zeros in
    let row : has_row fields ≡ true = eq-eqb _ _ is in
    let below = keeps_kind-row fields kind row in
    let entry : has_entry fields ≡ false = rw is refl in
    let tag : row_tag (row_of fields) ≡ fields.tag = rw (is_some-then_some (has_cursor fields) fields.at, is_some-then_some (is_open fields) fields.moment, is_some-then_some (has_last fields) fields.last) (bits_of-tag fields.tag below) in
    same_fields (sym is) refl tag (sym clean.zero) refl refl refl refl
    (minute-then_some (has_cursor fields) fields.at (λ off. clean.at (rw (is, off) refl)))
    (minute-then_some (is_open fields) fields.moment (λ off. clean.moment (rw (is, off) refl)))
    (minute-then_some (has_last fields) fields.last (λ off. clean.last (rw (is, off) refl)))

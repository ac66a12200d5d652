-- Fields that keep the rules are those of the packet that they spell.
use Rattle.std.proofs.Common.{◌≡◌, ℕ, zero, suc, ◌≤◌, ℤ, pos, true, false, ◌&&◌, leb, refl, sym, ap, arith}
use Rattle.std.proofs.lemmas.Bool.{and_parts, leb-true}
use Rattle.paxos_base.specs.EntryFields.{EntryNumbers, entry_numbers, numbers_of}
use Rattle.paxos_letter.specs.declared.fields.Fields.{Fields}
use Rattle.paxos_letter.specs.Decoding.{entry_of, packet_of}
use Rattle.paxos_letter.specs.Rules.{has_entry, has_row, has_cursor, is_open, keeps_kind, keeps_zeros}
use Rattle.paxos_letter.specs.Spelling.{fields_of}
use Rattle.paxos_letter.proofs.RuleLemmas.{fields_from, Clean, keeps_zeros-Clean, has_entry-row, keeps_kind-entry, noop_uses, noop_row, start_uses, same_fields, row_again}

-- ---- entries

same_numbers : {tag tag' job job' : ℕ} {at at' now now' : ℤ} → tag ≡ tag' → job ≡ job' → at ≡ at' → now ≡ now' → entry_numbers tag job at now ≡ entry_numbers tag' job' at' now'
same_numbers a b c d = cc

abbrev NumbersBack : Fields → Type 0
NumbersBack fields = has_row fields ≡ false → Clean fields → numbers_of (entry_of fields) ≡ entry_numbers fields.tag fields.job fields.at fields.moment

numbers_from : (kind from tag third job ballot slot old : ℕ) (at moment last : ℤ) → tag ≤ 4 → NumbersBack (fields_from kind from tag third job ballot slot old at moment last)
numbers_from kind from zero third job ballot slot old at moment last below row clean =
    let fields : Fields = fields_from kind from 0 third job ballot slot old at moment last in
    same_numbers refl
    (sym (clean.job (noop_uses (has_entry fields) (has_row fields) true refl row)))
    (sym (clean.at (noop_row (has_entry fields) (has_row fields) true (has_cursor fields) refl row)))
    (sym (clean.moment (start_uses (has_entry fields) (has_row fields) false (is_open fields) refl row)))
numbers_from kind from (suc zero) third job ballot slot old at moment last below row clean = refl
numbers_from kind from (suc (suc zero)) third job ballot slot old at moment last below row clean =
    let fields : Fields = fields_from kind from 2 third job ballot slot old at moment last in
    same_numbers refl refl refl (sym (clean.moment (start_uses (has_entry fields) (has_row fields) false (is_open fields) refl row)))
numbers_from kind from (suc (suc (suc zero))) third job ballot slot old at moment last below row clean =
    let fields : Fields = fields_from kind from 3 third job ballot slot old at moment last in
    same_numbers refl refl refl (sym (clean.moment (start_uses (has_entry fields) (has_row fields) false (is_open fields) refl row)))
numbers_from kind from (suc (suc (suc (suc zero)))) third job ballot slot old at moment last below row clean =
    let fields : Fields = fields_from kind from 4 third job ballot slot old at moment last in
    same_numbers refl refl (sym (clean.at (noop_row (has_entry fields) (has_row fields) true (has_cursor fields) refl row))) refl
numbers_from kind from (suc (suc (suc (suc (suc tag))))) third job ballot slot old at moment last below row clean = absurd (omega arith)

-- ---- packets

module _ (from tag third job ballot slot old : ℕ) (at moment last : ℤ) where
  abbrev of_kind : ℕ → Fields
  of_kind kind = fields_from kind from tag third job ballot slot old at moment last

  -- a packet with no entry and no row
  plain_back : (kind : ℕ) {b s o : ℕ} → has_entry (of_kind kind) ≡ false → has_row (of_kind kind) ≡ false → Clean (of_kind kind) → b ≡ ballot → s ≡ slot → o ≡ old
      → fields_from kind from 0 0 0 b s o (pos 0) (pos 0) (pos 0) ≡ of_kind kind
  plain_back kind entry row clean b-is s-is o-is =
      same_fields refl refl (sym (clean.tag (rw (entry, row) refl))) (sym clean.zero) (sym (clean.job (rw (entry, row) refl))) b-is s-is o-is
      (sym (clean.at (rw (entry, row) refl))) (sym (clean.moment (rw (entry, row) refl))) (sym (clean.last (rw row refl)))

  -- a packet with an entry
  entry_back : (kind : ℕ) {b s o : ℕ} → has_entry (of_kind kind) ≡ true → keeps_kind (of_kind kind) ≡ true → Clean (of_kind kind) → b ≡ ballot → s ≡ slot → o ≡ old
      → (let n : EntryNumbers = numbers_of (entry_of (of_kind kind)) in fields_from kind from n.tag 0 n.job b s o n.at n.now (pos 0)) ≡ of_kind kind
  entry_back kind entry keeps clean b-is s-is o-is =
      let row : has_row (of_kind kind) ≡ false = has_entry-row (of_kind kind) entry in
      let numbers = numbers_from kind from tag third job ballot slot old at moment last (keeps_kind-entry (of_kind kind) keeps entry) row clean in
      same_fields refl refl (ap (λ (n : EntryNumbers). n.tag) numbers) (sym clean.zero) (ap (λ (n : EntryNumbers). n.job) numbers) b-is s-is o-is
      (ap (λ (n : EntryNumbers). n.at) numbers) (ap (λ (n : EntryNumbers). n.now) numbers) (sym (clean.last (rw row refl)))

  each_back : (kind : ℕ) → 1 ≤ kind → kind ≤ 11 → keeps_kind (of_kind kind) ≡ true → keeps_zeros (of_kind kind) ≡ true → Clean (of_kind kind)
      → fields_of from (packet_of (of_kind kind)) ≡ of_kind kind
  unfolding packet_of
  each_back zero low high keeps zeros clean = absurd (omega arith)
  each_back (suc zero) low high keeps zeros clean = plain_back 1 refl refl clean refl refl (sym (clean.old refl))
  each_back (suc (suc zero)) low high keeps zeros clean = plain_back 2 refl refl clean refl refl refl
  each_back (suc (suc (suc zero))) low high keeps zeros clean = entry_back 3 refl keeps clean refl refl refl
  each_back (suc (suc (suc (suc zero)))) low high keeps zeros clean = entry_back 4 refl keeps clean refl refl (sym (clean.old refl))
  each_back (suc (suc (suc (suc (suc zero))))) low high keeps zeros clean = plain_back 5 refl refl clean refl refl (sym (clean.old refl))
  each_back (suc (suc (suc (suc (suc (suc zero)))))) low high keeps zeros clean = plain_back 6 refl refl clean refl (sym (clean.slot refl)) refl
  each_back (suc (suc (suc (suc (suc (suc (suc zero))))))) low high keeps zeros clean = entry_back 7 refl keeps clean (sym (clean.ballot refl)) refl (sym (clean.old refl))
  each_back (suc (suc (suc (suc (suc (suc (suc (suc zero)))))))) low high keeps zeros clean = plain_back 8 refl refl clean (sym (clean.ballot refl)) refl (sym (clean.old refl))
  each_back (suc (suc (suc (suc (suc (suc (suc (suc (suc zero))))))))) low high keeps zeros clean = plain_back 9 refl refl clean (sym (clean.ballot refl)) refl refl
  each_back (suc (suc (suc (suc (suc (suc (suc (suc (suc (suc zero)))))))))) low high keeps zeros clean = row_again (of_kind 10) refl keeps zeros
  each_back (suc (suc (suc (suc (suc (suc (suc (suc (suc (suc (suc zero))))))))))) low high keeps zeros clean = plain_back 11 refl refl clean refl refl (sym (clean.old refl))
  each_back (suc (suc (suc (suc (suc (suc (suc (suc (suc (suc (suc (suc kind)))))))))))) low high keeps zeros clean = absurd (omega arith)

pub fields_of-packet_of : (fields : Fields) → keeps_kind fields ≡ true → keeps_zeros fields ≡ true → fields_of fields.from (packet_of fields) ≡ fields
fields_of-packet_of fields keeps zeros =
    let parts = and_parts (leb 1 fields.kind && leb fields.kind 11) _ keeps in
    let bounds = and_parts (leb 1 fields.kind) (leb fields.kind 11) parts.0 in
    each_back fields.from fields.tag fields.zero fields.job fields.ballot fields.slot fields.old fields.at fields.moment fields.last fields.kind
    (leb-true 1 fields.kind bounds.0) (leb-true fields.kind 11 bounds.1) keeps zeros (keeps_zeros-Clean fields zeros)

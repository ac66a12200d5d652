use Rattle.std.proofs.Common.{◌≡◌, get_or, refl, sym, ap, subst, ◌∙◌, rules, FitsSigned, to_z, of_z}
use Rattle.std.specs.Int.{w64}
use Rattle.std.proofs.lemmas.Int.{to_z-of_z}
use Rattle.std.proofs.lemmas.Result.{IfOk-weaker}
use Rattle.paxos_base.specs.declared.entry.Entry.{Entry}
use Rattle.paxos_base.specs.EntryFields.{entry_numbers, EntryNumbers, numbers_of, FitEntryFields, entry_bytes, bytes_of_numbers, entry_fields, HasStrayNumbers}
use Rattle.paxos_base.proofs.EntryLemmas.{IsPacket, numbers_in, same_numbers, entry_fields-numbers_in, numbers_in-fit, numbers_from_bytes, stray_bytes, stray_numbers}
use Rattle.paxos_base.proofs.wire.get_entry.Goals as goal

packet : (c : goal.After-entry_of) → IsPacket c.args.from.now
packet c = record { long = c.told-from; bytes = c.fits-from }

abbrev given : goal.After-entry_of → EntryNumbers
given c = entry_numbers (get_or c.args.from.now 2 0) c.u32_at.result (to_z w64 (of_z w64 c.minute_at.result)) (to_z w64 (of_z w64 c.minute_at-2.result))

given-is : (c : goal.After-entry_of) → given c ≡ numbers_in c.args.from.now
given-is c =
    let at_fits : FitsSigned w64 c.minute_at.result = search rules in
    let now_fits : FitsSigned w64 c.minute_at-2.result = search rules in
    same_numbers refl c.u32_at.ensures (to_z-of_z w64 _ at_fits ∙ c.minute_at.ensures) (to_z-of_z w64 _ now_fits ∙ c.minute_at-2.ensures)

pub returns-clause-found : goal.returns-clause-found
returns-clause-found c =
    IfOk-weaker c.entry_of.result (λ (entry : Entry). numbers_of entry ≡ given c) (λ (entry : Entry). entry_fields c.args.from.now ≡ entry_bytes entry)
    (λ entry is. entry_fields-numbers_in c.args.from.now (packet c) ∙ ap bytes_of_numbers (sym (is ∙ given-is c))) c.entry_of.ensures.found

pub returns-clause-fits : goal.returns-clause-fits
returns-clause-fits c =
    IfOk-weaker c.entry_of.result (λ (entry : Entry). numbers_of entry ≡ given c) (λ (entry : Entry). FitEntryFields (numbers_of entry))
    (λ entry is. rw (is ∙ given-is c) (numbers_in-fit c.args.from.now (packet c))) c.entry_of.ensures.found

pub returns-clause-only : goal.returns-clause-only
returns-clause-only c entry fits spelled =
    c.entry_of.ensures.only entry
    (numbers_from_bytes (numbers_of entry) (numbers_in c.args.from.now) fits (numbers_in-fit c.args.from.now (packet c))
    (sym spelled ∙ entry_fields-numbers_in c.args.from.now (packet c)) ∙ sym (given-is c))

pub returns-clause-not_zero : goal.returns-clause-not_zero
returns-clause-not_zero c = (
  λ fault. stray_bytes c.args.from.now (packet c) (subst HasStrayNumbers (given-is c) (c.entry_of.ensures.not_zero.0 fault)),
  λ stray. c.entry_of.ensures.not_zero.1 (subst HasStrayNumbers (sym (given-is c)) (stray_numbers c.args.from.now (packet c) stray)),
)

use Rattle.std.proofs.Common.{◌∷◌, [], refl, sym, ap, ◌∙◌, length, rules, FitsSigned, to_z, of_z}
use Rattle.std.specs.Int.{w64}
use Rattle.std.proofs.lemmas.Int.{to_z-of_z}
use Rattle.paxos_base.specs.Packet.{minute_bytes}
use Rattle.paxos_base.specs.EntryFields.{bytes_of_numbers}
use Rattle.paxos_base.proofs.EntryLemmas.{Writes, other_fields, entry_fields-writes, same_fields}
use Rattle.paxos_base.proofs.wire.put_entry.Goals as goal

written : (c : goal.After-put_minute-2) → Writes c.args.into.now c.put_bytes.new.into c.put_bytes-2.new.into c.put_minute.new.into c.put_minute-2.new.into (c.numbers_of-tag.result.0 ∷ []) c.to_be_bytes.result (minute_bytes (to_z w64 (of_z w64 c.numbers_of-tag.result.2))) (minute_bytes (to_z w64 (of_z w64 c.numbers_of-tag.result.3)))
written c =
    record {
      packet_long = c.told-into;
      tag_long = refl;
      job_long = ap length c.to_be_bytes.ensures;
      at_long = refl;
      now_long = refl;
      first = c.put_bytes.ensures;
      second = c.put_bytes-2.ensures;
      third = c.put_minute.ensures;
      fourth = c.put_minute-2.ensures;
    }

pub returns-clause-fields : goal.returns-clause-fields
returns-clause-fields c =
    let at_fits : FitsSigned w64 c.numbers_of-tag.result.2 = search rules in
    let now_fits : FitsSigned w64 c.numbers_of-tag.result.3 = search rules in
    entry_fields-writes _ _ _ _ _ _ _ _ _ (written c)
    ∙ same_fields refl c.to_be_bytes.ensures (ap minute_bytes (to_z-of_z w64 _ at_fits)) (ap minute_bytes (to_z-of_z w64 _ now_fits))
    ∙ ap bytes_of_numbers (sym c.numbers_of-tag.ensures)

pub returns-clause-others : goal.returns-clause-others
returns-clause-others c = other_fields _ _ _ _ _ _ _ _ _ (written c)

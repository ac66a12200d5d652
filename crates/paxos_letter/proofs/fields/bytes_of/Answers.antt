use Rattle.std.proofs.Common.{ap, ◌∙◌, rules, FitsSigned}
use Rattle.std.specs.Int.{w64}
use Rattle.std.proofs.lemmas.Int.{to_z-of_z}
use Rattle.paxos_base.specs.Packet.{with_bytes, minute_bytes}
use Rattle.paxos_letter.proofs.FieldLemmas.{laid_out}
use Rattle.paxos_letter.proofs.fields.bytes_of.Goals as goal

pub returns : goal.returns
returns c =
    let fields = c.args.fields.now in
    let at : FitsSigned w64 fields.at = search rules in
    let moment : FitsSigned w64 fields.moment = search rules in
    let last : FitsSigned w64 fields.last = search rules in
    laid_out fields c.put_bytes.new.into c.put_bytes-2.new.into c.put_bytes-3.new.into c.put_bytes-4.new.into c.put_bytes-5.new.into c.put_minute.new.into c.put_minute-2.new.into c.put_minute-3.new.into
    c.put_bytes.ensures
    (c.put_bytes-2.ensures ∙ ap (with_bytes c.put_bytes.new.into 4) c.to_be_bytes.ensures)
    (c.put_bytes-3.ensures ∙ ap (with_bytes c.put_bytes-2.new.into 8) c.to_be_bytes-2.ensures)
    (c.put_bytes-4.ensures ∙ ap (with_bytes c.put_bytes-3.new.into 16) c.to_be_bytes-3.ensures)
    (c.put_bytes-5.ensures ∙ ap (with_bytes c.put_bytes-4.new.into 24) c.to_be_bytes-4.ensures)
    (c.put_minute.ensures ∙ ap (λ z. with_bytes c.put_bytes-5.new.into 32 (minute_bytes z)) (to_z-of_z w64 fields.at at))
    (c.put_minute-2.ensures ∙ ap (λ z. with_bytes c.put_minute.new.into 40 (minute_bytes z)) (to_z-of_z w64 fields.moment moment))
    (c.put_minute-3.ensures ∙ ap (λ z. with_bytes c.put_minute-2.new.into 48 (minute_bytes z)) (to_z-of_z w64 fields.last last))

use Rattle.std.proofs.Common.{ap, sym, ◌∙◌, ◌≡◌, Bool, false, true, Some}
use Rattle.paxos_base.proofs.EntryLemmas.{IsPacket}
use Rattle.paxos_letter.specs.Rules.{keeps_kind, keeps_zeros, keeps_members}
use Rattle.paxos_letter.specs.Spelling.{fields_of}
use Rattle.paxos_letter.proofs.SingleLemmas.{spells, same_packet, keeps_rules}
use Rattle.paxos_letter.proofs.single.packet_in.Goals as goal
use Rattle.paxos_letter.proofs.single.packet_in.Goals.{else-keeps_kind-via-then-keeps_kind+then-keeps_zeros+else-keeps_members, else-keeps_kind-via-then-keeps_kind+else-keeps_zeros, else-keeps_kind-via-else-keeps_kind}

pub returns-then-keeps_members-clause-found : goal.returns-then-keeps_members-clause-found
returns-then-keeps_members-clause-found c =
    let whole : IsPacket c.args.bytes.now = record { long = c.told-bytes; bytes = c.fits-bytes } in
    spells c.args.members c.args.sender c.packet_of.result c.args.bytes.now whole
    (ap keeps_kind (sym c.fields_at-fields.ensures) ∙ sym c.keeps_kind.ensures ∙ c.if-keeps_kind.true)
    (ap (keeps_members c.args.members c.args.sender) (sym c.fields_at-fields.ensures) ∙ sym c.keeps_members.ensures ∙ c.if-keeps_members.true)
    (ap (λ fields. fields_of fields.from c.packet_of.result) (sym c.fields_at-fields.ensures) ∙ c.packet_of.ensures ∙ c.fields_at-fields.ensures)

pub returns-then-keeps_members-clause-only : goal.returns-then-keeps_members-clause-only
returns-then-keeps_members-clause-only c packet s =
    ap Some (same_packet c.args.members c.args.sender packet c.packet_of.result c.args.bytes.now s
    (ap (λ fields. fields_of fields.from c.packet_of.result) (sym c.fields_at-fields.ensures) ∙ c.packet_of.ensures ∙ c.fields_at-fields.ensures))

not_both : (b : Bool) → b ≡ true → b ≡ false → ⊥
not_both b holds fails = absurd cc

pub returns-else-keeps_kind-clause-only : goal.returns-else-keeps_kind-clause-only
returns-else-keeps_kind-clause-only c packet s =
    let rules = keeps_rules c.args.members c.args.sender packet c.args.bytes.now s in
    elim c.else-keeps_kind.branch [
      | else-keeps_kind-via-then-keeps_kind+then-keeps_zeros+else-keeps_members w ↦ absurd (not_both _ (w.keeps_members.ensures ∙ ap (keeps_members c.args.members c.args.sender) c.fields_at-fields.ensures ∙ rules.members_keep) w.if-keeps_members.false)
      | else-keeps_kind-via-then-keeps_kind+else-keeps_zeros w ↦ absurd (not_both _ (w.keeps_zeros.ensures ∙ ap keeps_zeros c.fields_at-fields.ensures ∙ rules.zeros) w.if-keeps_zeros.false)
      | else-keeps_kind-via-else-keeps_kind w ↦ absurd (not_both _ (c.keeps_kind.ensures ∙ ap keeps_kind c.fields_at-fields.ensures ∙ rules.kind) w.if-keeps_kind.false)
    ]

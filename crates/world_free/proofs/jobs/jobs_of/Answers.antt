use Rattle.std.proofs.Common.{◌<◌, false, length, refl, sym, ◌∙◌, subst, arith}
use Rattle.std.proofs.lemmas.Iterator.Adapters.{YieldsList-from_vec}
use Rattle.std.proofs.lemmas.Iterator.Consumers.{YieldsList-end}
use Rattle.std.proofs.lemmas.List.{map-id}
use Rattle.world_free.proofs.JobLemmas.{Handing, handed_all, handing_next}
use Rattle.world_free.proofs.jobs.jobs_of.Goals as goal

pub seats-preserved : goal.seats-preserved
seats-preserved g c =
    let some_nodes : 0 < length c.seats.nodes.items = omega (arith, c.remove-node.ensures.len, c.seats.nodes.ok.0) in
    let some_mails : 0 < length c.seats.mails.items = omega (arith, c.remove-mail.ensures.len, c.seats.mails.ok.0) in
    handing_next c.args.nodes.items c.seats.nodes.items c.remove-node.new.self.items c.args.mails.items c.seats.mails.items c.remove-mail.new.self.items
    c.seats.yielded c.seats.jobs.items
    c.push.new.self.items (record { node = c.remove-node.result; seat = c.in-Some.seat; mail = c.remove-mail.result; short = false }) c.seats.invariant
    some_nodes some_mails
    c.remove-node.ensures.value c.remove-mail.ensures.value c.remove-node.ensures.items c.remove-mail.ensures.items c.in_ok-push.ensures.items refl

pub returns-clause-jobs : goal.returns-clause-jobs
returns-clause-jobs g c =
    let gives = c.into_iter-seat-iterator.ensures.into_iter_gives in
    let road = YieldsList-from_vec {s = c.into_iter-seat-iterator.result} c.args.seats.items gives.0 (gives.1 ∙ c.args.seats.ok.0) in
    let t = YieldsList-end road c.seats.yielded c.seats.seat-iterator c.seats.yielded_by c.next.result c.next.new.self c.in-None.is c.next.ensures.steps in
    let all = sym (map-id c.seats.yielded) ∙ t.0 in
    handed_all c.args.nodes.items c.seats.nodes.items c.args.mails.items c.seats.mails.items c.args.seats.items c.seats.jobs.items
    (subst (λ seats. Handing c.args.nodes.items c.args.mails.items seats c.seats.jobs.items c.seats.nodes.items c.seats.mails.items) all c.seats.invariant)
    c.requires.nodes c.requires.mails

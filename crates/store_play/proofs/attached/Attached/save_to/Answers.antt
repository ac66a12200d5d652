use Rattle.std.proofs.Common.{◌≡◌, ◌∙◌, sym, subst, ap}
use Rattle.paxos_base.specs.declared.rows.TableSize.{TableSize}
use Rattle.launch_machine.specs.Clerk.{table_size}
use Rattle.paxos_base.specs.Durable.{after_delta}
use Rattle.paxos_base.specs.declared.durable.Durable.{Durable}
use Rattle.store_format.specs.Order.{ChangeMayFollow}
use Rattle.replica_store.specs.Store.{size_of_store, records_of, StoreKeeps}
use Rattle.replica_store.proofs.FileLemmas.{bodies_stand_for_one}
use Rattle.store_play.specs.Attached.{AttachedState}
use Rattle.store_play.proofs.attached.Attached.save_to.Goals as goal

pub save-requires-clause-follows : goal.save-requires-clause-follows
save-requires-clause-follows c kept keeps =
    let here = c.self.inside in
    let delta = c.args.delta.now in
    let same : kept ≡ here.kept = bodies_stand_for_one (size_of_store here.store) (records_of here.store) kept here.kept keeps c.self.invariant.keeps in
    let may : ChangeMayFollow (table_size here.owner.table.now) here.kept delta =
    subst (λ (now : AttachedState). ChangeMayFollow (table_size now.table) now.kept delta) (sym c.self.view_is) c.requires.follows in
    let of_store = subst (λ (size : TableSize). ChangeMayFollow size here.kept delta) (sym c.self.invariant.size) may in
    subst (λ (other : Durable). ChangeMayFollow (size_of_store here.store) other delta) (sym same) of_store

pub invariant_of-result : goal.invariant_of-result
invariant_of-result c =
    let here = c.self.inside in
    let after : c.args.after ≡ after_delta c.args.delta.now here.kept =
    c.requires.after ∙ ap (λ (now : AttachedState). after_delta c.args.delta.now now.kept) (sym c.self.view_is) in
    record {
      rests = c.in-Ok.ensures.rests;
      size = c.save.ensures.size ∙ c.self.invariant.size;
      keeps = subst (λ (kept : Durable). StoreKeeps c.save.new.self kept) (sym after) (c.in-Ok.ensures.keeps here.kept c.self.invariant.keeps);
    }

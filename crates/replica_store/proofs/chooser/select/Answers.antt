use Rattle.std.proofs.Common.{◌∷◌, [], Ok, sym, subst}
use Rattle.disk_model.specs.declared.fault.FileNo.TheVariants.{Chooser}
use Rattle.disk_model.specs.Made.{SyncOf, GaveAnswer}
use Rattle.disk_model.proofs.MadeLemmas.{made_some, tells_then}
use Rattle.replica_store.proofs.MadeLemmas.{look_after}
use Rattle.replica_store.proofs.chooser.select.Goals as goal

pub returns-in_err-length-clause-told : goal.returns-in_err-length-clause-told
returns-in_err-length-clause-told g c =
    let fault = c.in_err-length.field-0.0 in
    let result = c.from_residual-in_err-length.result in
    tells_then (λ one two three synced looked. made_some (λ f. f) (SyncOf Chooser ∷ []) fault result (λ a b is. is) c.from_residual-in_err-length.ensures.1 one three (look_after Chooser fault one two three synced looked))
    (g.D.Disk.view.told c.args.disk.now) (g.D.Disk.view.told c.sync.new.self) (g.D.Disk.view.told c.length.new.self) c.in_ok-sync.ensures.told c.in_err-length.ensures.told

pub returns-in_err-read-clause-told : goal.returns-in_err-read-clause-told
returns-in_err-read-clause-told g c =
    let fault = c.in_err-read.field-0.0 in
    let result = c.from_residual-in_err-read.result in
    let old = g.D.Disk.view.told c.args.disk.now in
    let mid = g.D.Disk.view.told c.length.new.self in
    let synced = tells_then (λ one two three synced looked. subst (λ told. GaveAnswer (SyncOf Chooser) (Ok tt) one told) (sym looked.1) synced) old (g.D.Disk.view.told c.sync.new.self) mid c.in_ok-sync.ensures.told c.in_ok-length.ensures.told in
    tells_then (λ one two three first looked. made_some (λ f. f) (SyncOf Chooser ∷ []) fault result (λ a b is. is) c.from_residual-in_err-read.ensures.1 one three (look_after Chooser fault one two three first looked))
    old mid (g.D.Disk.view.told c.read.new.self) synced c.in_err-read.ensures.told

use Rattle.std.proofs.Common.{refl}
use Rattle.world_rounds.proofs.Campaigns.{campaign_taken, told_campaign}
use Rattle.world_rounds.proofs.member.Member.take_campaign.Goals as goal

pub keep_step-requires : goal.keep_step-requires
keep_step-requires g c =
    let may = c.requires.may in
    let told = told_campaign g.D.Disk.view c.args.table.now may.rows c.args.book.now may.situation may.who c.args.self.now may.idle c.requires.runs in
    record { told = (may.rows, may.who, told.0, told.1) }

pub returns : goal.returns
returns g c = record {
  takes = λ rows situation who idle.
      let told = told_campaign g.D.Disk.view c.args.table.now rows c.args.book.now situation who c.args.self.now idle c.requires.runs in
      campaign_taken g.D.Disk.view c.args.table.now rows c.args.book.now situation who c.args.self.now _ idle c.requires.runs
      (c.in_ok-keep_step.ensures.beside rows who told.0 told.1)
      refl c.in_ok-keep_step.ensures.causes;
}

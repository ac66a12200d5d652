use Rattle.cron_serve.proofs.StatusLemmas.{made_decided, refusal_decided, text_decided}
use Rattle.cron_serve.proofs.laws.the_bytes_decide_the_status.Goals as goal

pub returns : goal.returns
returns c = record {
  text = λ output source source' sink sink' notes notes' status bytes ends. text_decided output source source' sink sink' notes notes' status ends bytes;
  refused = λ output source source' sink sink' notes notes' status bytes ends. refusal_decided output source source' sink sink' notes notes' status ends bytes;
  made = made_decided;
}

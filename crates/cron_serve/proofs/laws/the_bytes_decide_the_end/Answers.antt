use Rattle.cron_serve.proofs.laws.the_bytes_decide_the_end.Goals as goal

pub returns : goal.returns
returns c = record {
  text = λ output source source' sink sink' end bytes is suits. is.completes.taken bytes is.told suits is.read is.written;
  refusal = λ output source source' sink sink' end bytes refusal is refused. is.completes.refused bytes refusal is.told refused is.read;
  others = λ output source source' sink sink' end bytes is none. is.completes.others bytes is.told none is.read;
}

use Rattle.std.proofs.Common.{◌*◌, ◌^◌, ◌<◌, length, subst, arith}
use Rattle.world_law.specs.Book.{longest_of}
use Rattle.world_law.proofs.Longest.{none_longer}
use Rattle.world_rounds.proofs.bounds.check_bounds.Goals as goal

pub returns : goal.returns
returns c =
    let short : longest_of c.args.book.now.letters < 56 * 2 ^ 31 = subst (λ n. n < 56 * 2 ^ 31) c.longest.ensures c.if-longest-ge-MOST_BYTES.false in
    record {
      turns = subst (λ turns. length turns < 2 ^ 59) c.turns.ensures c.if-turns-ge-MOST_TURNS.false;
      letters = λ letter has. let most = none_longer c.args.book.now.letters letter has in omega (arith, short, most);
    }

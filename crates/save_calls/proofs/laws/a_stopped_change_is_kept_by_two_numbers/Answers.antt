use Rattle.std.proofs.Common.{◌≡◌, ◌+◌, ◌%◌, ◌==◌}
use Rattle.save_calls.proofs.SaveLemmas.{decides_even, decides_gate, decides_kept, decides_odd}
use Rattle.save_calls.proofs.laws.a_stopped_change_is_kept_by_two_numbers.Goals as goal

pub returns-clause-tried : goal.returns-clause-tried
returns-clause-tried c bases ballot left image = decides_kept 2 left (λ byte. byte == 1) (λ byte. byte ≡ 1) image decides_gate

pub returns-clause-promised : goal.returns-clause-promised
returns-clause-promised c bases ballot left image = decides_kept 2 left (λ byte. byte == 1) (λ byte. byte ≡ 1) image decides_gate

pub returns-clause-voted : goal.returns-clause-voted
returns-clause-voted c bases vote left image = decides_kept 2 left (λ byte. byte == 1) (λ byte. byte ≡ 1) image decides_gate

pub returns-clause-even : goal.returns-clause-even
returns-clause-even c bases slot rows left image even = decides_kept 3 left (λ byte. byte % 2 == (bases + 1) % 2) (λ byte. byte % 2 ≡ 1) image (decides_even bases even)

pub returns-clause-odd : goal.returns-clause-odd
returns-clause-odd c bases slot rows left image odd = decides_kept 3 left (λ byte. byte % 2 == (bases + 1) % 2) (λ byte. byte % 2 ≡ 0) image (decides_odd bases odd)

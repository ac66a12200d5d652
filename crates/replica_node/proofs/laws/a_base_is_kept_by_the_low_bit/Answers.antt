use Rattle.std.proofs.Common.{◌≡◌, ◌%◌}
use Rattle.disk_model.specs.declared.fault.FileNo.TheVariants.{AreaA, AreaB}
use Rattle.replica_store.specs.Files.{selected_by}
use Rattle.replica_node.proofs.KeptLemmas.{bit_of_first, bit_of_second, selects_first, selects_second, shows_weaker}
use Rattle.replica_node.proofs.laws.a_base_is_kept_by_the_low_bit.Goals as goal

pub returns-clause-first : goal.returns-clause-first
returns-clause-first c slot rows arm = (
  λ keeps. (keeps.0, shows_weaker (λ byte. selected_by byte ≡ AreaB) (λ byte. byte % 2 ≡ 1) arm.image bit_of_second keeps.1),
  λ has. (has.0, shows_weaker (λ byte. byte % 2 ≡ 1) (λ byte. selected_by byte ≡ AreaB) arm.image selects_second has.1),
)

pub returns-clause-second : goal.returns-clause-second
returns-clause-second c slot rows arm = (
  λ keeps. (keeps.0, shows_weaker (λ byte. selected_by byte ≡ AreaA) (λ byte. byte % 2 ≡ 0) arm.image bit_of_first keeps.1),
  λ has. (has.0, shows_weaker (λ byte. byte % 2 ≡ 0) (λ byte. selected_by byte ≡ AreaA) arm.image selects_first has.1),
)

-- The laws that contracts name.
use Rattle.base.specs.Key.{key_cmp_total, key_cmp-IsAntisymmetric}
use Rattle.base.specs.Map.{block_cmp_total, block_cmp-IsAntisymmetric}
use Rattle.base.specs.Laws.{RewriteIsItsRule, KeysAreTold, BlocksAreTold}
use Rattle.base.proofs.RewriteLaw.{get-rewrite}

pub rewrite_is_its_rule : RewriteIsItsRule
rewrite_is_its_rule m c g number q h = get-rewrite m c g number q h

pub keys_are_told : KeysAreTold
keys_are_told = (key_cmp_total, key_cmp-IsAntisymmetric)

pub blocks_are_told : BlocksAreTold
blocks_are_told = (block_cmp_total, block_cmp-IsAntisymmetric)

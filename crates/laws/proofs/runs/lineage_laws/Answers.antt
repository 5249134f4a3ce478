use Rattle.laws.proofs.Lasting.{lineages_last, births_last, numbers_last}
use Rattle.laws.proofs.Pools.{lineages_begin, blocks_give_lineages, pools_have_lineages, births_begin, numbers_begin}
use Rattle.laws.proofs.runs.lineage_laws.Goals as goal

pub returns-clause-lineages_begin : goal.returns-clause-lineages_begin
returns-clause-lineages_begin c = lineages_begin

pub returns-clause-lineages_last : goal.returns-clause-lineages_last
returns-clause-lineages_last c = lineages_last

pub returns-clause-blocks_give_lineages : goal.returns-clause-blocks_give_lineages
returns-clause-blocks_give_lineages c = blocks_give_lineages

pub returns-clause-pools_have_lineages : goal.returns-clause-pools_have_lineages
returns-clause-pools_have_lineages c = pools_have_lineages

pub returns-clause-births_begin : goal.returns-clause-births_begin
returns-clause-births_begin c = births_begin

pub returns-clause-births_last : goal.returns-clause-births_last
returns-clause-births_last c = births_last

pub returns-clause-numbers_begin : goal.returns-clause-numbers_begin
returns-clause-numbers_begin c = numbers_begin

pub returns-clause-numbers_last : goal.returns-clause-numbers_last
returns-clause-numbers_last c = numbers_last

use Rattle.snapshots.proofs.Moving.{index_turned, once_first, once_past, once_turned}
use Rattle.snapshots.proofs.parts.parted.Goals as goal

pub alone-requires : goal.alone-requires
alone-requires c = once_first c.args.first.now c.args.rest.now c.requires.once

pub alone-requires-2 : goal.alone-requires-2
alone-requires-2 c = once_past c.args.first.now c.args.rest.now c.requires.once

pub without-requires-2-clause-once : goal.without-requires-2-clause-once
without-requires-2-clause-once c = once_turned c.args.first.now c.args.rest.now c.requires.once

pub without-requires-2-clause-index : goal.without-requires-2-clause-index
without-requires-2-clause-index c = index_turned c.args.by_name c.args.first.now c.args.rest.now c.requires.once c.requires.index

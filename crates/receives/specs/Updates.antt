-- Records of a stream and updates of a live tree.
use Rattle.batch.specs.declared.update.Update.{Update}
use Rattle.batch.specs.declared.update.Update.TheVariants.{Write, Punch}
use Rattle.stream.specs.declared.record.Record.{Record}
use Rattle.stream.specs.declared.record.Record.TheVariants.{Write as Writes, Free as Frees}

-- the record that does what an update does (zfs-receive(8))
abbrev pub record_of : Update → Record
record_of (Write leaf bytes) = Writes leaf bytes.now
record_of (Punch key) = Frees key

use Rattle.snapshots.specs.Heads.{name_head}
use Rattle.snapshots.proofs.head.head_of.Goals as goal

pub returns : goal.returns
unfolding name_head
returns c = cc (c.from_be_bytes.ensures, c.byte_at.ensures, c.byte_at-2.ensures, c.byte_at-3.ensures, c.byte_at-4.ensures, c.byte_at-5.ensures, c.byte_at-6.ensures, c.byte_at-7.ensures, c.byte_at-8.ensures)

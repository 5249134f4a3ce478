use Rattle.std.proofs.Common.{◌≡◌, Some, ap, ◌∙◌}
use Rattle.base.specs.Reading.{target_of, mark_of, mark_in}
use Rattle.base.proofs.name.member.MarkName.read.Goals as goal

pub returns-in-Ok-Bookmark : goal.returns-in-Ok-Bookmark
unfolding mark_of
returns-in-Ok-Bookmark c =
    let read : target_of c.args.bytes.now ≡ Some c.in-Ok-Bookmark.field-0 = c.in-Ok-Bookmark.ensures in
    ap mark_in (read ∙ ap Some c.in-Ok-Bookmark.field-0-is)

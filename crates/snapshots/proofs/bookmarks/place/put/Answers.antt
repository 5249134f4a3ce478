use Rattle.std.proofs.Common.{◌≡◌, map, ap, sym, subst, ◌∙◌}
use Rattle.std.specs.FinMap.{from_sorted}
use Rattle.base.specs.Names.{name_cmp}
use Rattle.snapshots.specs.Marks.{entry_of, entry_in, bookmark_of}
use Rattle.snapshots.specs.Places.{IsGapFor}
use Rattle.snapshots.specs.SoundMarks.{AreSound}
use Rattle.snapshots.proofs.Rows.{more_sound, more_is}
use Rattle.snapshots.proofs.bookmarks.place.put.Goals as goal

-- it stands in its gap
pub returns-clause-sound : goal.returns-clause-sound
returns-clause-sound c =
    let old = c.args.marks.now.items in
    let gap : IsGapFor name_cmp (map entry_in old) c.args.name.now c.gap-place.result = rw (← c.deref.ensures.value, ← c.as_bytes.ensures.value) c.gap-place.ensures in
    let made : entry_in c.in_ok-mark.mark ≡ (c.args.name.now, bookmark_of c.args.snapshot) = ap entry_of c.in_ok-mark.ensures.ok ∙ c.in_ok-new.ensures.ok in
    subst (λ l. AreSound (map entry_in l)) (sym c.in_ok-insert.ensures.items) (more_sound old c.requires.sound c.args.name.now c.gap-place.result gap c.in_ok-mark.mark (bookmark_of c.args.snapshot) made c.requires.room)

pub returns-clause-ok : goal.returns-clause-ok
returns-clause-ok c =
    let old = c.args.marks.now.items in
    let gap : IsGapFor name_cmp (map entry_in old) c.args.name.now c.gap-place.result = rw (← c.deref.ensures.value, ← c.as_bytes.ensures.value) c.gap-place.ensures in
    let made : entry_in c.in_ok-mark.mark ≡ (c.args.name.now, bookmark_of c.args.snapshot) = ap entry_of c.in_ok-mark.ensures.ok ∙ c.in_ok-new.ensures.ok in
    ap (λ l. from_sorted {R = name_cmp} (map entry_in l)) c.in_ok-insert.ensures.items ∙ more_is old c.requires.sound c.args.name.now c.gap-place.result gap c.in_ok-mark.mark (bookmark_of c.args.snapshot) made

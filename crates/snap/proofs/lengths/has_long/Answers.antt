use Rattle.std.proofs.Common.{◌≡◌, ◌||◌, ap, sym, ◌∙◌, true≢false}
use Rattle.std.proofs.lemmas.Bool.{lt-ltb, le-ltb}
use Rattle.std.specs.List.{list_any}
use Rattle.std.specs.FinMap.{entries, keys}
use Rattle.snapshots.specs.Marks.{Entry, entry_in}
use Rattle.model.specs.Lengths.{is_long}
use Rattle.snap.proofs.Shared.{any_value}
use Rattle.snap.proofs.lengths.has_long.Goals as goal
use Rattle.snap.proofs.lengths.has_long.Goals.{then-length-gt-NAME_LIMIT, else-length-gt-NAME_LIMIT}

pub returns-else-any_long_snapshot : goal.returns-else-any_long_snapshot
returns-else-any_long_snapshot c =
    let n = c.args.length in
    let marks : c.any_long_mark.result ≡ list_any (is_long n) (keys c.args.file_system.now.system.bookmarks) =
    c.any_long_mark.ensures ∙ any_value entry_in (λ (e : Entry). is_long n e.0) c.as_slice.result.now ∙ ap (list_any (λ (e : Entry). is_long n e.0)) c.as_slice.ensures
    ∙ any_value (λ (e : Entry). e.0) (is_long n) (entries c.bookmarks.result.now) ∙ ap (λ m. list_any (is_long n) (keys m)) c.bookmarks.ensures in
    elim c.if-length-gt-NAME_LIMIT.branch [
      | then-length-gt-NAME_LIMIT w ↦ absurd (true≢false (sym (lt-ltb 255 n w.if-length-gt-NAME_LIMIT.true) ∙ sym w.value-is ∙ c.if-any_long_snapshot.false))
      | else-length-gt-NAME_LIMIT w ↦
          let low = le-ltb 255 n w.if-length-gt-NAME_LIMIT.false in
          let none = sym w.any_long_snapshot.ensures ∙ sym w.value-is ∙ c.if-any_long_snapshot.false in
          marks ∙ sym (λ i. low i || (none i || list_any (is_long n) (keys c.args.file_system.now.system.bookmarks)))
    ]

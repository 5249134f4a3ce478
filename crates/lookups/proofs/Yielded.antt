-- What an iterator has yielded, once it is at its end.
use Rattle.std.proofs.Common.{◌≡◌, ◌≤◌, ℕ, List, [], ◌∷◌, ◌++◌, Bor, map, take, length, refl, ap, ◌∙◌}
use Rattle.std.proofs.lemmas.List.{append_assoc, take_all}
use Rattle.std.specs.declared.alloc.Global.{Global}
use Rattle.std.specs.declared.sync.Arc.{Arc}
use Rattle.snapshots.specs.declared.bookmarks.mark.Mark.{Mark}
use Rattle.snapshots.specs.Marks.{name_in}
use Rattle.base.specs.Names.{snap_text, mark_text}
use Rattle.model.specs.Properties.{bookmarks_in_order, names_of as own_names}
use Rattle.model.specs.World.{FileSystem}
use Rattle.snapshots.specs.declared.kept.Kept.{Kept}
use Rattle.datasets.specs.Dead.{snaps_in}
use Rattle.lookups.specs.Named.{snapshot_names, bookmark_names}

texts : (name : List ℕ) (xs : List (Bor Kept))
    → map (λ t. snap_text (record { file_system = name; component = t.now.snapshot.name })) xs ≡ map (λ t. snap_text (record { file_system = name; component = t.name })) (snaps_in (map (λ x. x.now) xs))
texts name [] = refl
texts name (x ∷ xs) = ap (λ ts. snap_text (record { file_system = name; component = x.now.snapshot.name }) ∷ ts) (texts name xs)

-- the names of the snapshots that were yielded, which are all that a file system has
pub snapshots_are : (before after : List (List ℕ)) (name : List ℕ) (f : List ℕ × FileSystem) (xs : List (Bor Kept)) → name ≡ f.0 → f.1.snaps ≡ snaps_in (map (λ x. x.now) xs)
    → after ≡ before ++ map (λ t. snap_text (record { file_system = name; component = t.now.snapshot.name })) xs → after ≡ before ++ snapshot_names f
snapshots_are before after name f xs named all is = rw (is, named, all, texts f.0 xs) refl

-- the names of bookmarks, by their names within a file system
mark_texts : (name : List ℕ) (marks : List (Arc Mark Global))
    → map (λ a. mark_text (record { file_system = name; component = name_in a })) marks ≡ map (λ b. mark_text (record { file_system = name; component = b })) (map name_in marks)
mark_texts name [] = refl
mark_texts name (a ∷ marks) = ap (λ ts. mark_text (record { file_system = name; component = name_in a }) ∷ ts) (mark_texts name marks)

-- the names of the bookmarks so far, which are all that a file system has
pub bookmarks_are : (before after : List (List ℕ)) (name : List ℕ) (f : List ℕ × FileSystem) (n : ℕ) (so_far marks : List (Arc Mark Global)) → length so_far ≤ n → so_far ≡ marks
    → name ≡ f.0 → map name_in marks ≡ bookmarks_in_order f.1
    → after ≡ before ++ map (λ a. mark_text (record { file_system = name; component = name_in a })) (take n so_far) → after ≡ before ++ bookmark_names f
bookmarks_are before after name f n so_far marks end same named all is =
    is ∙ ap (λ xs. before ++ map (λ a. mark_text (record { file_system = name; component = name_in a })) xs) (take_all n so_far end ∙ same)
    ∙ ap (λ xs. before ++ xs) (mark_texts name marks
    ∙ ap (λ ns. map (λ b. mark_text (record { file_system = name; component = b })) ns) all
    ∙ ap (λ x. map (λ b. mark_text (record { file_system = x; component = b })) (bookmarks_in_order f.1)) named)

-- a file system's name, and then those of its snapshots and of its bookmarks
pub own_are : (before one two all : List (List ℕ)) (name text : List ℕ) (f : List ℕ × FileSystem) → one ≡ before ++ text ∷ [] → text ≡ name → name ≡ f.0
    → two ≡ one ++ snapshot_names f → all ≡ two ++ bookmark_names f → all ≡ before ++ own_names f
own_are before one two all name text f pushed told named more last =
    rw (last, more, pushed, told, named) (append_assoc (before ++ f.0 ∷ []) (snapshot_names f) (bookmark_names f) ∙ append_assoc before (f.0 ∷ []) (snapshot_names f ++ bookmark_names f))

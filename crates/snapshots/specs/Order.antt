-- Kept snapshots in the byte order of their names (profile).
use Rattle.std.specs.Prelude.{◌≡◌, ◌≤◌, ℕ, Bool, true, not, ◌&&◌, List, [], ◌∷◌, Option, None, Some, if◌then◌else◌, length, take, drop}
use Rattle.std.specs.List.{list_all}
use Rattle.std.specs.Ordering.{is_lt}
use Rattle.base.specs.Names.{name_cmp, same_name}
use Rattle.snapshots.specs.declared.kept.Kept.{Kept}

-- its name is below that one
abbrev pub is_below : List ℕ → Kept → Bool
is_below name k = is_lt (name_cmp k.snapshot.name name)

-- it has that name
abbrev pub is_named : List ℕ → Kept → Bool
is_named name k = same_name k.snapshot.name name

-- each name is below those after it
abbrev pub names_rise : List Kept → Bool
names_rise [] = true
names_rise (k ∷ ks) = list_all (λ j. is_below j.snapshot.name k) ks && names_rise ks

-- the names before place i are below that one, and none from there on
pub record IsPlaceFor (name : List ℕ) (ks : List Kept) (i : ℕ) : Type 0 where
  pub within : i ≤ length ks
  pub before : list_all (is_below name) (take i ks) ≡ true
  pub after : list_all (λ k. not (is_below name k)) (drop i ks) ≡ true

-- it, where it has that name
abbrev pub if_named : List ℕ → Option Kept → Option Kept
if_named name None = None
if_named name (Some k) = if is_named name k then Some k else None

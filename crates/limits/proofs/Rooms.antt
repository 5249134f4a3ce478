-- What a file system of a table uses, and what is available to it, by the line of its ledger.
use Rattle.std.proofs.Common.{◌≡◌, ℕ, ◌+◌, ◌-◌, ◌<◌, List, length, get_or, Some, None, is_some, sym, ap, subst, ◌∙◌, ⊎_elim, arith}
use Rattle.std.specs.Prelude.{IsSome, IfSome}
use Rattle.std.specs.Cmp.Lexicographic.{nat_list_cmp_total}
use Rattle.std.specs.FinMap.{get, entries, entries_sorted, get-entries, find}
use Rattle.std.proofs.lemmas.List.{length-map, get_or-map}
use Rattle.base.specs.Names.{name_cmp, root_name, parent_of}
use Rattle.model.specs.World.{World, FileSystem}
use Rattle.model.specs.Hierarchy.{IsHierarchy}
use Rattle.model.specs.State.{State}
use Rattle.model.specs.Sums.{used_of, unspent_of, within_quota, pool_room, room_of}
use Rattle.world.specs.Tables.{Datasets, world_of}
use Rattle.world.proofs.lists.Maps.{no_value, some_of}
use Rattle.world.proofs.lineage.Put.{parent_there}
use Rattle.limits.specs.Levels.{slashes}
use Rattle.limits.proofs.Names.{in_keys, from_keys, level_low, parent_in}
use Rattle.limits.proofs.Levels.{reserved_is}
use Rattle.limits.proofs.Available.{room_root, room_below}
use Rattle.datasets.specs.Places.{IsAt}
use Rattle.snapshots.proofs.Sorted.{find_at}
use Rattle.limits.specs.declared.line.Line.{Line}
use Rattle.limits.specs.declared.pool_space.Space.{Space}
use Rattle.limits.specs.Lines.{used_in, reserved_in, unspent_in}
use Rattle.limits.specs.Ledgers.{line_in, ledger_of, IsSpaceOf}
use Rattle.limits.proofs.Order.{no_entry}
use Rattle.limits.proofs.Alike.{used_alike}

pub used_is : (t : Datasets) (name : List ℕ) (f : FileSystem) (l : Line) → l ≡ line_in (world_of t) (name, f) → used_in l ≡ used_of (world_of t) name
unfolding used_of
used_is t name f l is = ap used_in is

module _ (t : Datasets) (good : IsHierarchy t.file_systems) where
  -- the parent of a file system that is there is there
  pub parent_stands : (name parent : List ℕ) → IsSome (get t.file_systems name) → parent_of name ≡ Some parent → IsSome (get t.file_systems parent)
  parent_stands name parent there e =
      ap is_some (from_keys t.file_systems parent (parent_in t.file_systems good name parent (in_keys t.file_systems name there) e)).1

  -- and it stands on few levels
  pub few_slashes : (name : List ℕ) → IsSome (get t.file_systems name) → slashes name < 1024
  few_slashes name there = let l = level_low t.file_systems good name (in_keys t.file_systems name there) in let f = good.few in omega (arith, l, f)

  module _ (name : List ℕ) (f : FileSystem) (at : get t.file_systems name ≡ Some f) (l : Line) (is : l ≡ line_in (world_of t) (name, f)) where
    module _ (s : State) (same : s.now.file_systems ≡ t.file_systems) where
      at_now : get s.now.file_systems name ≡ Some f
      at_now = ap (λ m. get m name) same ∙ at

      good_now : IsHierarchy s.now.file_systems
      good_now = subst IsHierarchy (sym same) good

      used_now : used_of s.now name ≡ used_in l
      used_now = used_alike s.now (world_of t) same name ∙ sym (used_is t name f l is)

      unspent_now : unspent_of s.now name ≡ unspent_in l
      unspent_now = λ i. (reserved_is s.now name f at_now ∙ sym (ap reserved_in is)) i - used_now i

      quota_now : f.limits.quota ≡ l.account.limits.quota
      quota_now = sym (ap (λ (x : Line). x.account.limits.quota) is)

      -- the root's room
      pub root_room : (space : Space) → IsSpaceOf s space → parent_of name ≡ None
          → room_of s name ≡ within_quota l.account.limits.quota (used_in l) (space.size - used_in l - space.freeing - space.waiting)
      unfolding pool_room
      root_room space of e =
          room_root s good_now name f at_now e
          ∙ (λ i. within_quota (quota_now i) (used_now i) (sym of.size i - (ap (used_of s.now) (sym root) ∙ used_now) i - sym of.freeing i - sym of.waiting i))
        where
          root : name ≡ root_name
          root = ⊎_elim (λ r. r) (λ h. let p = parent_there t.file_systems name h in absurd (no_value p.parent (sym e ∙ p.named))) (good.parents name (ap is_some at))

      -- that of a file system below another
      pub child_room : (parent : List ℕ) → parent_of name ≡ Some parent → (above : ℕ) → above ≡ room_of s parent
          → room_of s name ≡ within_quota l.account.limits.quota (used_in l) (above + unspent_in l)
      child_room parent e above is_above =
          room_below s good_now name f at_now parent e
          ∙ (λ i. within_quota (quota_now i) (used_now i) (sym is_above i + unspent_now i))

-- the line at the place of a name
module _ (w : World) (lines : List Line) (all : lines ≡ ledger_of w) (name : List ℕ) (i : ℕ) (at : IsAt (entries w.file_systems) name i) where
  pub line_within : i < length lines
  unfolding ledger_of
  line_within = let a = ap length all in let b = length-map (entries w.file_systems) (line_in w) in let l = at.within in omega (arith, a, b, l)

  pub line_at : (l : Line) → l ≡ get_or lines i l → IfSome (get w.file_systems name) (λ f. l ≡ line_in w (name, f))
  unfolding ledger_of
  line_at l is = subst (λ o. IfSome o (λ f. l ≡ line_in w (name, f))) (sym found) line
    where
      found : get w.file_systems name ≡ Some (get_or (entries w.file_systems) i no_entry).1
      found =
          get-entries w.file_systems name ∙ ap (λ k. find name_cmp k (entries w.file_systems)) (sym (at.named no_entry))
          ∙ find_at nat_list_cmp_total (entries w.file_systems) (entries_sorted w.file_systems) i no_entry at.within

      line : l ≡ line_in w (name, (get_or (entries w.file_systems) i no_entry).1)
      line =
          is ∙ ap (λ ls. get_or ls i l) all ∙ get_or-map (line_in w) (entries w.file_systems) i no_entry l at.within
          ∙ ap (λ n. line_in w (n, (get_or (entries w.file_systems) i no_entry).1)) (at.named no_entry)

-- the line that was found is that of a file system that is there
pub line_found : (t : Datasets) (name : List ℕ) (l : Line) → IsSome (get t.file_systems name) → IfSome (get t.file_systems name) (λ f. l ≡ line_in (world_of t) (name, f))
    → (f : FileSystem) × (get t.file_systems name ≡ Some f) × (l ≡ line_in (world_of t) (name, f))
line_found t name l there line =
    let s = some_of (get t.file_systems name) there in
    (s.0, s.1, subst (λ o. IfSome o (λ f. l ≡ line_in (world_of t) (name, f))) s.1 line)

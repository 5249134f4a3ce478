-- The steps that ask what a dataset has written, by the snapshots of its file system.
use Rattle.std.proofs.Common.{◌≡◌, ℕ, ◌*◌, Bool, true, false, cond, List, [], ◌∷◌, ◌++◌, Some, None, refl, sym, ap, ◌∙◌}
use Rattle.std.specs.List.{find}
use Rattle.std.specs.FinMap.{get}
use Rattle.base.specs.Map.{BlockSet, blocks}
use Rattle.base.specs.Names.{same_name}
use Rattle.base.specs.declared.name.member.Member.{Member}
use Rattle.base.specs.declared.name.target.Target.TheVariants.{FileSystem as OfFileSystem, Snapshot as OfSnapshot}
use Rattle.model.specs.declared.request.Request.TheVariants.{Get}
use Rattle.model.specs.declared.request.Property.TheVariants.{Written}
use Rattle.model.specs.declared.reply.Reply.TheVariants.{Value as ValueIs}
use Rattle.model.specs.declared.reply.Value.TheVariants.{Size}
use Rattle.model.specs.World.{FileSystem, Snap}
use Rattle.model.specs.Sums.{size_without}
use Rattle.model.specs.State.{State}
use Rattle.model.specs.Step.{Step}
use Rattle.world.proofs.lists.Maps.{same_value, no_value}
use Rattle.datasets.specs.Clones.{below_in}
use Rattle.datasets.specs.Dead.{newest_blocks, written_from}
use Rattle.steps.specs.Steady.{IsSteady}
use Rattle.steps.proofs.questions.Named.{snap_there}
use Rattle.steps.proofs.questions.Identities.{get_written_of_live, get_written_of_snap}
use Rattle.steps.proofs.questions.Below.{written_of_live, written_of_kept}

-- these snapshots part at the first one of the name, which has so many blocks that the one before it hasn't
pub record IsParted (bs : BlockSet) (ts : List Snap) (name : List ℕ) (n : ℕ) : Type 0 where
  pub older : List Snap
  pub found : Snap
  pub newer : List Snap
  pub parts : ts ≡ older ++ found ∷ newer
  pub first : find (λ t. same_name t.name name) ts ≡ Some found
  pub count : n ≡ size_without (blocks found.map) (newest_blocks bs older)

module _ (name : List ℕ) where
  abbrev has_name : Snap → Bool
  has_name t = same_name t.name name

  -- what is counted is counted of the first one of the name
  pub parted : (bs : BlockSet) (ts : List Snap) (n : ℕ) → written_from bs ts name ≡ Some n → IsParted bs ts name n
  parted bs [] n e = absurd (no_value n e)
  parted bs (t ∷ ts) n e = at (has_name t) refl (parted (blocks t.map) ts n) e
    where
      at : (b : Bool) → has_name t ≡ b → (written_from (blocks t.map) ts name ≡ Some n → IsParted (blocks t.map) ts name n)
          → cond b (Some (size_without (blocks t.map) bs)) (written_from (blocks t.map) ts name) ≡ Some n → IsParted bs (t ∷ ts) name n
      at true is rest k = record {
        older = [];
        found = t;
        newer = ts;
        parts = refl;
        first = ap (λ b. cond b (Some t) (find has_name ts)) is;
        count = sym (same_value (size_without (blocks t.map) bs) n k);
      }
      at false is rest k =
          let r = rest k in
          record {
            older = t ∷ r.older;
            found = r.found;
            newer = r.newer;
            parts = ap (λ us. t ∷ us) r.parts;
            first = ap (λ b. cond b (Some t) (find has_name ts)) is ∙ r.first;
            count = r.count;
          }

  -- where nothing is counted, none has the name
  pub none_counted : (bs : BlockSet) (ts : List Snap) → written_from bs ts name ≡ None → find (λ t. same_name t.name name) ts ≡ None
  none_counted bs [] e = refl
  none_counted bs (t ∷ ts) e = at (has_name t) refl (none_counted (blocks t.map) ts) e
    where
      at : (b : Bool) → has_name t ≡ b → (written_from (blocks t.map) ts name ≡ None → find has_name ts ≡ None)
          → cond b (Some (size_without (blocks t.map) bs)) (written_from (blocks t.map) ts name) ≡ None → find has_name (t ∷ ts) ≡ None
      at true is rest k = absurd (no_value (size_without (blocks t.map) bs) (sym k))
      at false is rest k = ap (λ b. cond b (Some t) (find has_name ts)) is ∙ rest k

module _ (s : State) (good : IsSteady s) where
  -- zfsprops(7), written, of a live map: the newest snapshot, or else the origin, comes before it
  pub get_written_live : (name : List ℕ) (f : FileSystem) → get s.now.file_systems name ≡ Some f → (n : ℕ) → n ≡ size_without (blocks f.live) (newest_blocks (blocks (below_in s.now.file_systems f.origin)) f.snaps)
      → Step s (Get (OfFileSystem name) Written) (ValueIs (Size (512 * n))) s
  get_written_live name f was n e = get_written_of_live s good name f was n (e ∙ sym (written_of_live s.now good.good.now.systems name f was))

  -- zfsprops(7), written, of a snapshot: the one that stands before it in its file system, or else the origin, comes before it
  pub get_written_snap : (m : Member) (f : FileSystem) → get s.now.file_systems m.file_system ≡ Some f → (n : ℕ) → written_from (blocks (below_in s.now.file_systems f.origin)) f.snaps m.component ≡ Some n
      → Step s (Get (OfSnapshot m) Written) (ValueIs (Size (512 * n))) s
  get_written_snap m f was n e =
      let at = parted m.component (blocks (below_in s.now.file_systems f.origin)) f.snaps n e in
      get_written_of_snap s good m at.found (snap_there s.now.file_systems m f at.found was at.first) n
      (at.count ∙ sym (written_of_kept s.now good.good.now.systems m.file_system f was at.older at.found at.newer at.parts))

-- What is read from the image at each root.
use Rattle.std.proofs.Common.{◌≡◌, ℕ, length, ap, subst, sym}
use Rattle.std.specs.Option.{option_map}
use Rattle.std.specs.FinMap.{entries}
use Rattle.base.specs.Surveys.{IsIn}
use Rattle.model.specs.State.{State}
use Rattle.model.specs.World.{World}
use Rattle.world.specs.Worlds.{IsPoolState, IsWorld}
use Rattle.image.specs.Image.{ShownImage}
use Rattle.image.specs.ImageBlocks.{block_at}
use Rattle.image.specs.Roots.{RootAt, roots_in}
use Rattle.image.specs.Stored.{AllWalk}
use Rattle.image.proofs.Rooted.{root_walked}
use Rattle.pool.specs.Images.{IsImageOf, IsWalked, IsReadAs}

read_as : (size : ℕ) (w : World) (i : ShownImage) (r : RootAt) → IsWorld size w → AllWalk (block_at i.bytes) size w → length i.kept ≡ size → IsIn (roots_in w.file_systems) r → IsReadAs w i r
read_as size w i r good all count h =
    let k = root_walked (block_at i.bytes) (length i.kept) size w good (subst (λ n. AllWalk (block_at i.bytes) n w) (sym count) all) r h in
    record { map = k.0; of = k.1; read = ap (option_map entries) k.2 }

-- in both worlds
pub roots_read : (s : State) (i : ShownImage) (r : RootAt) → IsPoolState s → IsImageOf s i → IsWalked s i
    → (IsIn (roots_in s.now.file_systems) r → IsReadAs s.now i r) × (IsIn (roots_in s.last.file_systems) r → IsReadAs s.last i r)
roots_read s i r good image walked = (
  λ h. read_as s.size s.now i r good.now walked.now image.count h,
  λ h. read_as s.size s.last i r good.last walked.last image.count h,
)

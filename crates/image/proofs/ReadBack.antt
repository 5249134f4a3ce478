-- An image that is read from the bytes of another.
use Rattle.std.proofs.Common.{◌≡◌, ◌*◌, ◌/◌, ◌<◌, ◌≤◌, length, refl, arith}
use Rattle.std.proofs.lemmas.List.{length-replicate}
use Rattle.zalloc.specs.declared.TheConstants.{MOST_BLOCKS}
use Rattle.zalloc.specs.declared.BlockState.TheVariants.{Free}
use Rattle.image.specs.Image.{ShownImage, image_of, IsImageSize, AreSameBlocks}

-- it has the same blocks
pub reads_back : (i : ShownImage) → length i.bytes ≡ 512 * length i.kept → 0 < length i.kept → length i.kept ≤ MOST_BLOCKS → IsImageSize (length i.bytes) × AreSameBlocks i (image_of i.bytes)
reads_back i size some few = (
  record { blocks = length i.kept; some = some; few = few; is = size },
  record { bytes = refl; count = omega (arith, size, length-replicate (length i.bytes / 512) Free) },
)

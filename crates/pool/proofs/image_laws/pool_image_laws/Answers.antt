use Rattle.pool.proofs.ReadRoots.{roots_read}
use Rattle.pool.proofs.image_laws.pool_image_laws.Goals as goal

pub returns : goal.returns
returns c = record { roots = λ s i r good image walked. roots_read s i r good image walked }

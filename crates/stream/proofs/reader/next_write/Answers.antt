use Rattle.std.specs.List.{All}
use Rattle.std.proofs.Common.{◌≡◌, ℕ, ◌<◌, List, length, Option, sym, ap, subst, ◌∙◌, arith}
use Rattle.sha2.specs.declared.Sha256.{Sha256}
use Rattle.stream.specs.Reading.{Passes}
use Rattle.stream.proofs.Passing.{Passes-trans}
use Rattle.stream.proofs.Parts.{leaf_passes, number_4}
use Rattle.stream.proofs.reader.next_write.Goals as goal

-- the copy of the bytes passes as they do
copied : (told later : Option (List ℕ)) (old new : Sha256) (copy bytes : List ℕ) → copy ≡ bytes → Passes told later old new bytes → Passes told later old new copy
copied told later old new copy bytes e h = subst (λ x. Passes told later old new x) (sym e) h

pub returns-in-Ok-clause-ok : goal.returns-in-Ok-clause-ok
returns-in-Ok-clause-ok g c = (
  (omega arith, ap length c.in-Ok.ensures.ok ∙ c.in_ok-bytes.ensures.length, subst (λ bytes. All (λ b. b < 256) bytes) (sym c.in-Ok.ensures.ok) c.in_ok-bytes.ensures.bytes),
  omega arith,
  leaf_passes _ _ _ _ _ _ _ (Passes-trans _ _ _ _ _ _ _ _ c.in_ok-leaf.ensures.ok (copied _ _ _ _ _ _ c.in-Ok.ensures.ok c.in_ok-bytes.ensures.ok)) c.in_ok-leaf.ensures.length c.in_ok-leaf.ensures.bytes (c.read_u32-leaf.ensures ∙ number_4 c.in_ok-leaf.leaf),
)

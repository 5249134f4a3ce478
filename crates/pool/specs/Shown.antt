-- What contracts see of a pool and of a prepared step.
use Rattle.std.specs.Prelude.{List, ℕ}
use Rattle.std.proofs.Common.{refl}
use Rattle.std.specs.Coded.{Coded, code_by, coded×, coded_ℕ, coded_list}
use Rattle.zalloc.specs.declared.BlockState.{BlockState}
use Rattle.zalloc.specs.contracts.BlockState as block_state
use Rattle.image.specs.Image.{ShownImage}
use Rattle.model.specs.State.{State}
use Rattle.model.specs.Codes.{state_code}

-- what contracts see of a pool: its state, the state of each of its numbers, its image, and how many nodes of trees and segments of dead
-- lists it has reached since it was made (profile)
pub record Shown : Type 0 where
  pub state : State
  pub numbers : List BlockState
  pub image : ShownImage
  pub nodes : ℕ
  pub segments : ℕ

-- all of these (profile)
abbrev pub shown : State → List BlockState → ShownImage → ℕ → ℕ → Shown
shown s numbers image nodes segments = record { state = s; numbers = numbers; image = image; nodes = nodes; segments = segments }

-- what contracts see of a prepared step: the pool that it was prepared on, the state that it leads to, the blocks that it writes into the
-- image, each with its number, and how often states were put into that then (profile)
pub record Leap : Type 0 where
  pub from : Shown
  pub to : State
  pub writes : List (ℕ × List ℕ)
  pub keeps : ℕ

-- the code of what they see of an image (profile)
abbrev pub image_code : Coded ShownImage
image_code =
    code_by (List ℕ × (List BlockState × ℕ)) (coded× (coded_list coded_ℕ) (coded× (coded_list block_state.the_row.coded) coded_ℕ))
    (λ x. (x.bytes, (x.kept, x.keeps))) (λ p. record { bytes = p.0; kept = p.1.0; keeps = p.1.1 }) (λ _. refl)

-- the code of what contracts see of a pool (profile)
abbrev pub shown_code : Coded Shown
shown_code =
    code_by (State × (List BlockState × (ShownImage × (ℕ × ℕ)))) (coded× state_code (coded× (coded_list block_state.the_row.coded) (coded× image_code (coded× coded_ℕ coded_ℕ))))
    (λ x. (x.state, (x.numbers, (x.image, (x.nodes, x.segments))))) (λ p. shown p.0 p.1.0 p.1.1.0 p.1.1.1.0 p.1.1.1.1) (λ _. refl)

-- the code of what they see of a prepared step (profile)
abbrev pub leap_code : Coded Leap
leap_code =
    code_by (Shown × (State × (List (ℕ × List ℕ) × ℕ))) (coded× shown_code (coded× state_code (coded× (coded_list (coded× coded_ℕ (coded_list coded_ℕ))) coded_ℕ)))
    (λ x. (x.from, (x.to, (x.writes, x.keeps)))) (λ p. record { from = p.0; to = p.1.0; writes = p.1.1.0; keeps = p.1.1.1 }) (λ _. refl)

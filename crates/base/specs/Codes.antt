-- The codes of keys, blocks and maps, by which a proof tells their values apart: with them each can be the value of a model.
use Rattle.std.specs.Prelude.{ℕ, List, refl}
use Rattle.std.specs.Coded.{Coded, code_by, coded×, coded_ℕ, coded_list}
use Rattle.std.specs.FinMap as finmap
use Rattle.std.specs.FinSet as finset
use Rattle.base.specs.declared.number.Key.{Key}
use Rattle.base.specs.Map.{Block, BlockSet, Cell, Map}

-- a key as the pair of its fields
abbrev pub key_code : Coded Key
key_code = code_by (ℕ × ℕ) (coded× coded_ℕ coded_ℕ) (λ k. (k.level, k.index)) (λ p. record { level = p.0; index = p.1 }) (λ _. refl)

-- a block as the pair of its fields
abbrev pub block_code : Coded Block
block_code = code_by (ℕ × ℕ) (coded× coded_ℕ coded_ℕ) (λ b. (b.number, b.birth)) (λ p. record { number = p.0; birth = p.1 }) (λ _. refl)

-- a set of blocks as its members
abbrev pub blocks_code : Coded BlockSet
blocks_code = finset.code block_code

-- a cell as the tuple of its fields
abbrev pub cell_code : Coded Cell
cell_code =
    code_by (ℕ × (ℕ × List ℕ)) (coded× coded_ℕ (coded× coded_ℕ (coded_list coded_ℕ))) (λ c. (c.number, (c.birth, c.bytes)))
    (λ p. record { number = p.0; birth = p.1.0; bytes = p.1.1 }) (λ _. refl)

-- a map as its entries
abbrev pub map_code : Coded Map
map_code = finmap.code key_code cell_code

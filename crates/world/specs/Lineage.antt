-- Datasets in lineages, and what holds of them at every state.
use Rattle.std.specs.Prelude.{◌≡◌, ℕ, ◌<◌, ◌≤◌, ◌⊎◌, Option, Some, None}
use Rattle.std.specs.FinSet.{empty, difference, union}
use Rattle.world.specs.Sets.{Has}
use Rattle.world.specs.Blocks.{Block, BlockSet, upto}

module _ (D : Type 0) where
  -- A dataset with what its lineage says of the one before it: `base` is that one's group, and `below` its blocks; 0 and none where there is none before.
  pub record Row : Type 0 where
    pub blocks : BlockSet
    pub dead : BlockSet
    pub group : ℕ
    pub prev : Option D
    pub base : ℕ
    pub below : BlockSet

  -- which dataset stands under which name
  abbrev pub Rows : Type 1
  Rows = D → Row → Type 0

  -- what the field `prev` says of `base` and `below`
  abbrev pub IsPrior : Rows → Option D → ℕ → BlockSet → Type 0
  IsPrior w None g s = (g ≡ 0) × (s ≡ empty)
  IsPrior w (Some p) g s = (m : Row) × w p m × (m.group ≡ g) × (m.blocks ≡ s)

  -- no dataset comes after this one
  abbrev pub IsLeaf : Rows → D → Type 0
  IsLeaf w d = (e : D) (n : Row) → w e n → n.prev ≡ Some d → ⊥

  -- what holds of one dataset
  pub record IsSound (n : Row) : Type 0 where
    -- births are at most the group
    pub born : (b : Block) → Has n.blocks b → b.birth ≤ n.group
    -- groups fall along the lineage
    pub falls : n.base < n.group
    -- a block that was born by the group of the one before is in the one before
    pub kept : (b : Block) → Has n.blocks b → b.birth ≤ n.base → Has n.below b
    -- the deadlist
    pub gone : n.dead ≡ difference n.below n.blocks

  pub record Facts (w : Rows) : Type 0 where
    pub one : (d : D) (n m : Row) → w d n → w d m → n ≡ m
    pub sound : (d : D) (n : Row) → w d n → IsSound n
    pub prior : (d : D) (n : Row) → w d n → IsPrior w n.prev n.base n.below
    -- one dataset alone brought the block in
    pub once : (d e : D) (n m : Row) (b : Block) → w d n → w e m → Has n.blocks b → Has m.blocks b → n.base < b.birth → m.base < b.birth → d ≡ e

  -- the blocks that some dataset has
  pub record IsUnion (w : Rows) (u : BlockSet) : Type 0 where
    pub within : (d : D) (n : Row) (b : Block) → w d n → Has n.blocks b → Has u b
    pub reached : (b : Block) → Has u b → (d : D) × (n : Row) × w d n × Has n.blocks b

  -- The steps, as changes of a world. `rest` is what stays.
  pub record Puts (w w' : Rows) (d : D) (n : Row) : Type 0 where
    pub new : (e : D) (m : Row) → w' e m → ((e ≡ d) × (m ≡ n)) ⊎ ((¬ (e ≡ d)) × w e m)
    pub here : w' d n
    pub rest : (e : D) (m : Row) → ¬ (e ≡ d) → w e m → w' e m

  pub record Removes (w w' : Rows) (d : D) : Type 0 where
    pub new : (e : D) (m : Row) → w' e m → (¬ (e ≡ d)) × w e m
    pub rest : (e : D) (m : Row) → ¬ (e ≡ d) → w e m → w' e m

  -- n once s, the one before it, is gone
  abbrev pub spliced : Row → Row → Row
  spliced s n = record n { dead = union s.dead (upto s.base n.dead); prev = s.prev; base = s.base; below = s.below }

  pub record Splices (w w' : Rows) (S : D) (s : Row) (E : D) (n : Row) : Type 0 where
    pub before : w S s
    pub next : w E n
    pub linked : n.prev ≡ Some S
    pub only : (e : D) (m : Row) → w e m → m.prev ≡ Some S → e ≡ E
    pub new : (e : D) (m : Row) → w' e m → ((e ≡ E) × (m ≡ spliced s n)) ⊎ ((¬ (e ≡ E)) × (¬ (e ≡ S)) × w e m)
    pub here : w' E (spliced s n)
    pub rest : (e : D) (m : Row) → ¬ (e ≡ E) → ¬ (e ≡ S) → w e m → w' e m

  -- a live dataset after a snapshot was taken of it
  abbrev pub went_on : Row → D → ℕ → ℕ → Row
  went_on n S g h = record { blocks = n.blocks; dead = empty; group = h; prev = Some S; base = g; below = n.blocks }

  pub record Takes (w w' : Rows) (L : D) (n : Row) (S : D) (g h : ℕ) : Type 0 where
    pub live : w L n
    pub leaf : IsLeaf w L
    pub fresh : (m : Row) → ¬ (w S m)
    pub closed : (b : Block) → Has n.blocks b → b.birth ≤ g
    pub above : n.base < g
    pub opens : g < h
    pub new : (e : D) (m : Row) → w' e m → ((e ≡ L) × (m ≡ went_on n S g h)) ⊎ ((e ≡ S) × (m ≡ record n { group = g })) ⊎ ((¬ (e ≡ L)) × (¬ (e ≡ S)) × w e m)
    pub here : w' L (went_on n S g h)
    pub taken : w' S (record n { group = g })
    pub rest : (e : D) (m : Row) → ¬ (e ≡ L) → w e m → w' e m

  -- the groups of datasets that nothing comes after go up, as those of live datasets do with the open group
  pub record Raises (w w' : Rows) : Type 0 where
    pub new : (e : D) (m : Row) → w' e m → (n : Row) × w e n × (m ≡ record n { group = m.group }) × (n.group ≤ m.group)
    pub one : (e : D) (m k : Row) → w' e m → w' e k → m ≡ k
    pub all : (e : D) (n : Row) → w e n → (m : Row) × w' e m × (m.blocks ≡ n.blocks)
    pub rest : (e d : D) (m n : Row) → w e m → w d n → n.prev ≡ Some e → w' e m

  -- the datasets that are not of a set of them
  abbrev pub Outside : Rows → (D → Type 0) → Rows
  Outside w In d n = (¬ (In d)) × w d n

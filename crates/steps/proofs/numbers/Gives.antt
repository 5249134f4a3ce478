-- A live map gives way to another: what that is to the blocks that are reached.
use Rattle.std.proofs.Common.{◌≡◌, ℕ, Some, sym, ap, subst, ◌∙◌, ◌⊎◌, inl, inr, ⊎_elim}
use Rattle.std.specs.FinMap.{get, insert}
use Rattle.std.specs.FinSet.{difference}
use Rattle.base.specs.Map.{Map, Block, BlockSet, blocks}
use Rattle.base.specs.Surveys.{IsIn}
use Rattle.model.specs.World.{World, FileSystem, Live, maps_of, union_of, reach_of}
use Rattle.world.specs.Sets.{Has}
use Rattle.world.specs.Blocks.{block_order as o, after}
use Rattle.world.specs.Shapes.{Name, name_order}
use Rattle.world.specs.Worlds.{IsWorld}
use Rattle.world.specs.Dead.{base_of}
use Rattle.world.proofs.lists.SetCounts.{in_union_left, in_union_right, from_union, in_difference, from_difference, Has-cases}
use Rattle.world.proofs.lineage.Lineage.{from_after}
use Rattle.world.proofs.lists.Maps.{same_value, key_cases, get-insert_same, get-insert_other}
use Rattle.world.proofs.lineage.Bridge.{map_of_live, in_world, in_union_of, from_union_of}
use Rattle.world.proofs.changes.Kept.{reach_is}
use Rattle.world.proofs.changes.TableWrites.{live_systems, live_loses}
use Rattle.steps.specs.Room.{GivesWay}

module _ (size : ℕ) (w : World) (good : IsWorld size w) (name : Name) (f : FileSystem) (at : get w.file_systems name ≡ Some f) (m : Map)
    (new : (b : Block) → Has (blocks m) b → Has (blocks f.live) b ⊎ ((b.birth ≡ w.group) × ¬ (Has (union_of w) b))) where
  abbrev with_map : World
  with_map = record w { file_systems = insert w.file_systems name (record f { live = m }) }

  abbrev own : BlockSet
  own = after (base_of w (Live name)) (blocks f.live)

  lost : difference (union_of w) (union_of with_map) ≡ difference own (blocks m)
  lost = live_loses w good.systems name f at m new

  -- the blocks of a live map are the world's
  pub live_there : (b : Block) → Has (blocks f.live) b → Has (union_of w) b
  live_there b h = in_world w w.group good.systems.lines (Live name) b (subst (λ x. Has (blocks x) b) (sym (map_of_live w name f at)) h)

  map_there : (b : Block) → Has (blocks m) b → Has (union_of with_map) b
  map_there b h = in_world with_map w.group (live_systems w good.systems name f at m new).lines (Live name) b
      (subst (λ x. Has (blocks x) b) (sym (map_of_live with_map name (record f { live = m }) (get-insert_same name_order w.file_systems name (record f { live = m })))) h)

  -- a block afterwards is the map's, or was the world's
  pub union_comes : (b : Block) → Has (union_of with_map) b → Has (blocks m) b ⊎ Has (union_of w) b
  union_comes b h = let u = from_union_of with_map b h in by_name u.0 u.1 u.2 u.3 u.4 u.5
    where
      by_name : (q : Name) (x : FileSystem) (n : Map) → get (insert w.file_systems name (record f { live = m })) q ≡ Some x → IsIn (maps_of x) n → Has (blocks n) b
          → Has (blocks m) b ⊎ Has (union_of w) b
      by_name q x n e i k = ⊎_elim
          (λ (same : q ≡ name).
          let is : record f { live = m } ≡ x = same_value (record f { live = m }) x
          (sym (get-insert_same name_order w.file_systems name (record f { live = m })) ∙ ap (get (insert w.file_systems name (record f { live = m }))) (sym same) ∙ e) in
          ⊎_elim
          (λ (l : n ≡ m). inl (subst (λ y. Has (blocks y) b) l k))
          (λ l. inr (in_union_of w name f n b at (inr l) k))
          (subst (λ (y : FileSystem). IsIn (maps_of y) n) (sym is) i))
          (λ other. inr (in_union_of w q x n b (sym (get-insert_other name_order w.file_systems name (record f { live = m }) q other) ∙ e) i k))
          (key_cases name_order q name)

  not_own : (b : Block) → Has (union_of with_map) b → ¬ (Has (blocks m) b) → ¬ (Has own b)
  not_own b h out k = (from_difference o (union_of w) (union_of with_map) b (subst (λ y. Has y b) (sym lost) (in_difference o own (blocks m) b k out))).1 h

  own_in_union : (b : Block) → Has own b → Has (union_of w) b
  own_in_union b h = live_there b (from_after (base_of w (Live name)) (blocks f.live) b h).0

  -- its own blocks give way to the new ones, and no other block comes or goes
  pub gives_way : GivesWay (after (base_of w (Live name)) (blocks f.live)) (blocks m) (reach_of w) (reach_of with_map)
  gives_way = record {
    inside = λ b h. subst (λ y. Has y b) (sym (reach_is w)) (in_union_left o (union_of w) w.freeing b (own_in_union b h));
    there = λ b h. subst (λ y. Has y b) (sym (reach_is with_map)) (in_union_left o (union_of with_map) w.freeing b (map_there b h));
    stays = λ b h out. subst (λ y. Has y b) (sym (reach_is with_map)) (⊎_elim
        (λ k. in_union_left o (union_of with_map) w.freeing b (⊎_elim
        (λ i. i)
        (λ n. absurd (out (from_difference o own (blocks m) b (subst (λ y. Has y b) lost (in_difference o (union_of w) (union_of with_map) b k n))).0))
        (Has-cases o (union_of with_map) b)))
        (λ k. in_union_right o (union_of with_map) w.freeing b k)
        (from_union o (union_of w) w.freeing b (subst (λ y. Has y b) (reach_is w) h)));
    comes = λ b h. ⊎_elim
        (λ k. ⊎_elim
        inl
        (λ n. inr (
          subst (λ y. Has y b) (sym (reach_is w)) (in_union_left o (union_of w) w.freeing b (⊎_elim (λ i. absurd (n i)) (λ i. i) (union_comes b k))),
          not_own b k n,
        ))
        (Has-cases o (blocks m) b))
        (λ k. inr (
          subst (λ y. Has y b) (sym (reach_is w)) (in_union_right o (union_of w) w.freeing b k),
          λ i. good.freeing_apart b (own_in_union b i) k,
        ))
        (from_union o (union_of with_map) w.freeing b (subst (λ y. Has y b) (reach_is with_map) h));
  }

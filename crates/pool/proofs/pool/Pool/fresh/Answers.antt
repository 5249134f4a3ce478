use Rattle.std.proofs.Common.{◌≡◌, ◌*◌, ℕ, List, Some, None, length, replicate, sym, ap, subst, ◌∙◌, ⊎_elim, arith}
use Rattle.std.specs.Prelude.{Vec}
use Rattle.std.proofs.lemmas.List.{length-replicate}
use Rattle.std.specs.declared.alloc.Global.{Global}
use Rattle.std.specs.FinMap as finmap
use Rattle.std.specs.FinMap.{get, insert, get-empty}
use Rattle.std.specs.FinSet as set
use Rattle.base.specs.Map.{Map}
use Rattle.base.specs.Names.{name_cmp, root_name}
use Rattle.base.specs.Surveys.{IsIn}
use Rattle.zalloc.specs.declared.BlockState.{BlockState}
use Rattle.zalloc.specs.declared.BlockState.TheVariants.{Free}
use Rattle.zalloc.specs.Numbers.{NumberStates}
use Rattle.model.specs.State.{fresh_state, fresh_world}
use Rattle.model.specs.World.{FileSystem, empty_file_system, maps_of, reach_of}
use Rattle.model.specs.declared.snapshot_id.SnapshotId.{SnapshotId}
use Rattle.snap.specs.Viewing.{Viewing}
use Rattle.world.specs.Worlds.{Place, InNow, InLast, maps_of_both}
use Rattle.world.proofs.lineage.Put.{put_cases}
use Rattle.world.proofs.lists.Maps.{no_value}
use Rattle.image.specs.Image.{ShownImage}
use Rattle.image.specs.ImageBlocks.{block_at}
use Rattle.image.proofs.Drawing.{none_there, none_stored}
use Rattle.steps.proofs.numbers.Known.{states_of, known_are}
use Rattle.steps.proofs.requests.Fresh.{none_first, first_steady, first_unlimited, first_numbers}
use Rattle.pool.specs.declared.keep.Keep.{Keep}
use Rattle.pool.specs.declared.worlds.World.{World}
use Rattle.laws.proofs.Both.{begin_one}
use Rattle.pool.specs.Images.{IsImageOf}
use Rattle.pool.specs.Numbers.{synced_numbers}
use Rattle.pool.specs.Pools.{state_in, IsSound, IsHeld}
use Rattle.pool.proofs.Numbered.{none_below}
use Rattle.pool.proofs.pool.Pool.fresh.Goals as goal

abbrev first : World
first = record { table = record { file_systems = insert finmap.empty root_name empty_file_system; group = 1 }; freeing = set.empty; ledger = None }

abbrev keep_of : ℕ → ℕ → World → Vec SnapshotId Global → Viewing → NumberStates → ShownImage → Keep
keep_of id size last viewed views numbers image = record { last = last; viewed = viewed; views = views; next_guid = 1; size = size; id = id; numbers = numbers; image = image }

-- no file system of the first world has anything
nothing_first : (name : List ℕ) (f : FileSystem) (x : Map) → get fresh_world.file_systems name ≡ Some f → IsIn (maps_of f) x → x ≡ finmap.empty
unfolding fresh_world
nothing_first name f x at i = ⊎_elim
    (λ k. ⊎_elim (λ (e : x ≡ finmap.empty). e) (λ none. absurd none) (subst (λ (y : FileSystem). IsIn (maps_of y) x) k.1 i))
    (λ k. absurd (no_value f (sym (get-empty name_cmp name) ∙ k.1)))
    (put_cases finmap.empty root_name empty_file_system name f at)

nothing_there : (p : Place) → maps_of_both fresh_world fresh_world p ≡ finmap.empty
nothing_there (InNow d) = none_there fresh_world nothing_first d
nothing_there (InLast d) = none_there fresh_world nothing_first d

-- all numbers are free
all_free : (id blocks : ℕ) → replicate blocks Free ≡ synced_numbers blocks fresh_world
unfolding fresh_state
all_free id blocks = known_are (reach_of fresh_world) (reach_of fresh_world) blocks (replicate blocks Free) (states_of (fresh_state id blocks) (replicate blocks Free) (first_numbers id blocks))

first_image : (id blocks : ℕ) (i : ShownImage) → length i.bytes ≡ 512 * length i.kept → i.kept ≡ replicate blocks Free → IsImageOf (fresh_state id blocks) i
unfolding fresh_state
first_image id blocks i size kept =
    let count : length i.kept ≡ blocks = ap length kept ∙ length-replicate blocks Free in record {
      count = count;
      size = size ∙ ap (λ n. 512 * n) count;
      kept = kept ∙ all_free id blocks;
      stored = none_stored (maps_of_both fresh_world fresh_world) (block_at i.bytes) nothing_there;
    }

pub invariant_of-result : goal.invariant_of-result
unfolding fresh_state fresh_world
invariant_of-result c =
    let last = c.in_ok-last.ensures.ok ∙ c.in_ok-present.ensures.ok in
    let viewed = c.new-5.result in
    let numbers = c.in_ok-numbers.numbers in
    let image = c.in_ok-image.image in
    let s = fresh_state c.args.id c.args.blocks in
    subst (λ (w : World). IsHeld (keep_of c.args.id c.args.blocks c.in_ok-last.last viewed c.in_ok-views.views numbers image) w) (sym c.in_ok-present.ensures.ok)
    (subst (λ (w : World). IsHeld (keep_of c.args.id c.args.blocks w viewed c.in_ok-views.views numbers image) first) (sym last)
    (subst (λ (v : Viewing). IsHeld (keep_of c.args.id c.args.blocks first viewed v numbers image) first) (sym c.in_ok-views.ensures.ok)
    (record {
      sound = subst (λ (st : List BlockState). IsSound s st) (sym c.in_ok-numbers.ensures.present)
          (record { steady = first_steady c.args.id c.args.blocks; states = first_numbers c.args.id c.args.blocks; guids = omega (arith); small = omega (arith) });
      now = first_unlimited;
      last = first_unlimited;
      views = none_below 1;
      synced = c.in_ok-numbers.ensures.synced ∙ all_free c.args.id c.args.blocks;
      swept = λ name f u at i d. absurd (none_first name f u at i);
      one = begin_one c.args.id c.args.blocks;
      image = first_image c.args.id c.args.blocks image c.bytes-nothing.ensures.size (ap (λ (i : ShownImage). i.kept) c.in_ok-image.ensures);
    })))

pub returns-clause-ok : goal.returns-clause-ok
unfolding fresh_state fresh_world
returns-clause-ok c =
    let last = c.in_ok-last.ensures.ok ∙ c.in_ok-present.ensures.ok in
    λ i. state_in (keep_of c.args.id c.args.blocks (last i) c.new-5.result (c.in_ok-views.ensures.ok i) c.in_ok-numbers.numbers c.in_ok-image.image) (c.in_ok-present.ensures.ok i)

pub returns-clause-keeps : goal.returns-clause-keeps
returns-clause-keeps c = ap (λ (i : ShownImage). i.keeps) c.in_ok-image.ensures

pub returns-clause-zeros : goal.returns-clause-zeros
returns-clause-zeros c = ap (λ (i : ShownImage). i.bytes) c.in_ok-image.ensures

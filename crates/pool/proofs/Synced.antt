-- A sync, the way back to its world, and the end of a view.
use Rattle.std.proofs.Common.{◌≡◌, ◌<◌, ◌≤◌, ◌^◌, ◌+◌, ◌||◌, ℕ, Bool, List, Option, None, Ok, false, true, length, map, refl, sym, ap, subst, ◌∙◌, arith}
use Rattle.std.specs.Prelude.{nat_lt, Box, Vec}
use Rattle.std.specs.declared.alloc.Global.{Global}
use Rattle.std.specs.List.{list_any}
use Rattle.std.specs.Option.{option_map, is_some}
use Rattle.std.specs.FinMap.{get, remove, len}
use Rattle.std.specs.FinSet as set
use Rattle.std.specs.FinSet.{union}
use Rattle.std.proofs.lemmas.Bool.{le-ltb, lt-ltb}
use Rattle.base.specs.Map.{BlockSet}
use Rattle.model.specs.Edits.{with_now}
use Rattle.model.specs.State.{State, Views, is_viewed}
use Rattle.model.specs.Step.{Step}
use Rattle.model.specs.Targets.{number_limit}
use Rattle.model.specs.World.{SnapId, id_of, same_id, union_of, reach_of}
use Rattle.model.specs.Ids.{snap_id}
use Rattle.model.specs.declared.request.Request.TheVariants.{Sync, Abandon, CloseView}
use Rattle.model.specs.declared.reply.Reply.TheVariants.{Done, Group}
use Rattle.model.specs.declared.snapshot_id.SnapshotId.{SnapshotId}
use Rattle.zalloc.specs.States.{after_group}
use Rattle.world.specs.Sets.{Has, AreDisjoint}
use Rattle.world.specs.Tables.{Datasets, world_of, lost_between}
use Rattle.world.proofs.changes.Kept.{union-fields}
use Rattle.limits.specs.Limits.{IsUnlimited}
use Rattle.removals.specs.Edits.{HasLost}
use Rattle.removals.specs.Needs.{has_clone}
use Rattle.removals.specs.Requests.{swept, IsSweptBy, IsSweptBut}
use Rattle.steps.specs.Edits.{datasets_of, lose, synced, closed, CanLose, CanSync}
use Rattle.steps.specs.Handed.{IsAccounted, Line}
use Rattle.steps.proofs.numbers.Freeing.{joined_losses}
use Rattle.steps.proofs.asked.Asked.{nothing_kept}
use Rattle.steps.proofs.numbers.Known.{states_of, known_are}
use Rattle.steps.proofs.requests.Syncing.{sync_done}
use Rattle.steps.proofs.requests.Abandoning.{gone_back, back_can, back_unlimited, abandon_done}
use Rattle.pool.specs.declared.effect.Effect.TheVariants.{Synced, Abandoned, Closed}
use Rattle.pool.specs.declared.keep.Keep.{Keep}
use Rattle.pool.specs.declared.worlds.World.{World}
use Rattle.pool.specs.Effects.{IsPerformed, effected, numbers_after}
use Rattle.pool.specs.Pools.{state_in, world_in, synced_numbers, IsSound, IsHeld}
use Rattle.pool.proofs.Commits.{few, sound_synced, sound_back, sound_swept}
use Rattle.pool.proofs.Performed.{clean}
use Rattle.pool.proofs.Limited.{accounted_next}
use Rattle.pool.proofs.Sights.{close_can, close_done}

-- each deferred snapshot is needed where no view is open, or one of those that views show
swept_but : (t : Datasets) (views : Views) (ids : List SnapId) → ((id : SnapId) → list_any (same_id id) ids ≡ is_viewed views id) → IsSweptBy t views → IsSweptBut t ids
swept_but t views ids shows clean n f u at i d =
    ap (λ b. nat_lt 0 (length u.tags) || (has_clone t (id_of u) || b)) (shows (id_of u))
    ∙ ap (λ b. nat_lt 0 (length u.tags) || b) (or_swap (has_clone t (id_of u)) (is_viewed views (id_of u))) ∙ clean n f u at i d
  where
    or_swap : (a b : Bool) → (a || b) ≡ (b || a)
    or_swap true true = refl
    or_swap true false = refl
    or_swap false true = refl
    or_swap false false = refl

-- what was lost, where the datasets and what is to be freed then are these
pub lost_put : (t u v : Datasets) (f g h : BlockSet) → v ≡ u → h ≡ g → HasLost t f u g → HasLost t f v h
lost_put t u v f g h to free lost = subst (λ (x : Datasets). HasLost t f x h) (sym to) (subst (λ (x : BlockSet). HasLost t f u x) (sym free) lost)

-- a view is open, or none is
pub any_open : (views : Views) (n : ℕ) → n ≡ len views → 0 < n → nat_lt 0 (len views) ≡ true
any_open views n is l = lt-ltb 0 (len views) (subst (λ m. 0 < m) is l)

pub none_open : (views : Views) (n : ℕ) → n ≡ len views → n ≤ 0 → nat_lt 0 (len views) ≡ false
none_open views n is l = le-ltb 0 (len views) (subst (λ m. m ≤ 0) is l)

-- a group below the last one has a next one
not_last : (g : ℕ) → g < number_limit → nat_lt number_limit (g + 1) ≡ false
not_last g l = le-ltb number_limit (g + 1) (omega (arith))

module _ (k : Keep) (w : World) (held : IsHeld k w) where
  abbrev s : State
  s = state_in k w

  -- ---- a sync, of a copy of the world

  module _ (below : w.table.group < number_limit) (copy : World) (same : copy ≡ w) (last now : Datasets) (last_is : last ≡ record copy.table { group = copy.table.group + 1 })
      (now_is : now ≡ record w.table { group = w.table.group + 1 }) (kept : Box World Global) (kept_is : kept.value ≡ record copy { table = last }) (viewed : Vec SnapshotId Global)
      (shows : (id : SnapId) → list_any (same_id id) (map snap_id viewed.items) ≡ is_viewed k.views.opened id) where
    next : last ≡ record (datasets_of s) { group = s.now.group + 1 }
    next = last_is ∙ ap (λ (x : World). record x.table { group = x.table.group + 1 }) same

    kept_next : kept.value.table ≡ record (datasets_of s) { group = s.now.group + 1 }
    kept_next = ap (λ (x : World). x.table) kept_is ∙ next

    can : CanSync s last
    can = record { is = next; next = not_last s.now.group below }

    to_copy : synced s last ≡ record (with_now s (world_in (record w { table = now }))) { last = world_in (record copy { table = last }) }
    to_copy = λ i. record s {
      now = record (world_of ((next ∙ sym now_is) i)) { freeing = w.freeing };
      last = record (world_of last) { freeing = (ap (λ (x : World). x.freeing) (sym same)) i };
    }

    is : synced s last ≡ effected (with_now s (world_in (record w { table = now }))) (Synced kept viewed)
    is = to_copy ∙ ap (λ (x : World). record (with_now s (world_in (record w { table = now }))) { last = world_in x }) (sym kept_is)

    left_numbers : map after_group k.numbers.present ≡ synced_numbers s.size (world_in kept.value)
    left_numbers =
        let after = synced s last in
        known_are (reach_of after.now) (reach_of after.last) s.size (map after_group k.numbers.present)
        (states_of after (map after_group k.numbers.present) (sound_synced s k.numbers.present held.sound last can).states)
        ∙ ap (λ (x : World). synced_numbers s.size (world_in (record x { table = last }))) (sym same) ∙ ap (λ (x : World). synced_numbers s.size (world_in x)) (sym kept_is)

    pub synced_performed : IsPerformed s k.numbers.present (record w { table = now }) Sync (Ok (Synced kept viewed))
    synced_performed = (
      record {
        sound = subst (λ x. IsSound x (numbers_after s.last s.size k.numbers.present (Synced kept viewed))) is (sound_synced s k.numbers.present held.sound last can);
        kept = accounted_next w.table now w.ledger now_is held.now;
        may = record {
          kept = subst (λ (x : World). IsAccounted x.table x.ledger) (sym kept_is) (accounted_next copy.table last copy.ledger last_is (subst (λ (x : World). IsAccounted x.table x.ledger) (sym same) held.now));
          swept = subst (λ (t : Datasets). IsSweptBut t (map snap_id viewed.items)) (sym kept_next) (swept_but w.table k.views.opened (map snap_id viewed.items) shows (clean k w held));
          states = left_numbers;
        };
        leads = tt;
      },
      subst (λ g. Step s Sync (Group g) (effected (with_now s (world_in (record w { table = now }))) (Synced kept viewed))) (sym (ap (λ (t : Datasets). t.group) kept_next))
          (subst (Step s Sync (Group (s.now.group + 1))) is (sync_done s held.sound.steady last can)),
    )

  -- ---- back to the world of the last sync, of a copy of its datasets

  back_apart : AreDisjoint (union_of (world_of k.last.table)) k.last.freeing
  back_apart b h l = held.sound.steady.good.last.freeing_apart b (subst (λ x. Has x b) (union-fields (world_of k.last.table) s.last refl) h) l

  module _ (table : Datasets) (waits : BlockSet) (table_is : table ≡ k.last.table) (waits_is : waits ≡ k.last.freeing) where
    pub may_go : AreDisjoint (union_of (world_of table)) waits
    may_go = λ b h l. back_apart b (subst (λ (t : Datasets). Has (union_of (world_of t)) b) table_is h) (subst (λ (x : BlockSet). Has x b) waits_is l)

    pub may_sweep : IsSweptBut table (map snap_id k.viewed.items)
    may_sweep = subst (λ (t : Datasets). IsSweptBut t (map snap_id k.viewed.items)) (sym table_is) held.swept

    module _ (none : nat_lt 0 (len k.views.opened) ≡ false) (to : Datasets) (freeing : BlockSet) (to_is : to ≡ swept table k.views.opened) (lost : HasLost table waits to freeing) where
      -- the datasets as they are swept
      gone_is : swept (datasets_of (gone_back s)) s.views ≡ to
      gone_is = sym (to_is ∙ ap (λ t. swept t k.views.opened) table_is)

      can_go : CanLose (gone_back s) to
      can_go = subst (CanLose (gone_back s)) gone_is (back_can s held.sound.steady none)

      freed_back : freeing ≡ (lose (gone_back s) to).now.freeing
      freed_back = joined_losses (gone_back s) to freeing
          (lost.joined ∙ (λ i. union (waits_is i) (lost_between (table_is i) to)))

      back_sound : IsSound (lose (gone_back s) to) (synced_numbers s.size s.last)
      back_sound = sound_back s k.numbers.present held.sound to can_go

      pub back_few : set.len (union_of (world_of to)) < 2 ^ 32
      back_few = few (lose (gone_back s) to) (synced_numbers s.size s.last) back_sound

      pub back_bare : (ledger : Option (List Line)) → ledger ≡ k.last.ledger → ledger ≡ None → IsUnlimited to.file_systems
      back_bare ledger is bare = subst (λ (t : Datasets). IsUnlimited t.file_systems) gone_is
          (back_unlimited s held.sound.steady none (nothing_kept k.last.table k.last.ledger held.last (sym is ∙ bare)))

      pub back_performed : (ledger : Option (List Line)) → IsAccounted to ledger
          → IsPerformed s k.numbers.present (record { table = to; freeing = freeing; ledger = ledger }) Abandon (Ok Abandoned)
      back_performed ledger kept = (
        record {
          sound = subst (λ (y : BlockSet). IsSound (with_now s (record (world_of to) { freeing = y })) (synced_numbers s.size s.last)) (sym freed_back) back_sound;
          kept = kept;
          may = tt;
          leads = tt;
        },
        subst (λ (y : BlockSet). Step s Abandon Done (with_now s (record (world_of to) { freeing = y }))) (sym freed_back)
            (subst (λ t. Step s Abandon Done (lose (gone_back s) t)) gone_is (abandon_done s held.sound.steady none)),
      )

  -- ---- the end of a view

  module _ (number : ℕ) (to : Datasets) (to_is : to ≡ swept w.table (remove k.views.opened number)) (freeing : BlockSet) (lost : HasLost w.table w.freeing to freeing) where
    gone : CanLose (closed s number) to
    gone = close_can s k.numbers.present held.sound number to to_is

    freed : freeing ≡ (lose (closed s number) to).now.freeing
    freed = joined_losses (closed s number) to freeing lost.joined

    pub closed_few : set.len (union_of (world_of to)) < 2 ^ 32
    closed_few = few (lose (closed s number) to) k.numbers.present (sound_swept s k.numbers.present held.sound number to gone)

    pub closed_performed : (x : Option SnapshotId) → option_map snap_id x ≡ get s.views number → is_some x ≡ true → (ledger : Option (List Line)) → IsAccounted to ledger
        → IsPerformed s k.numbers.present (record { table = to; freeing = freeing; ledger = ledger }) (CloseView number) (Ok (Closed number))
    closed_performed x found there ledger kept = (
      record {
        sound = subst (λ (y : BlockSet). IsSound (closed (with_now s (record (world_of to) { freeing = y })) number) k.numbers.present) (sym freed) (sound_swept s k.numbers.present held.sound number to gone);
        kept = kept;
        may = tt;
        leads = tt;
      },
      subst (λ (y : BlockSet). Step s (CloseView number) Done (closed (with_now s (record (world_of to) { freeing = y })) number)) (sym freed)
          (close_done s k.numbers.present held.sound number to to_is x found there),
    )

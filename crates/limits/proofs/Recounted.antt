-- Datasets that differ from earlier ones in the account of one file system, or in none.
use Rattle.std.proofs.Common.{◌≡◌, ℕ, ◌+◌, ◌-◌, true, List, [], ◌∷◌, Option, Some, None, map, is_some, refl, sym, ap, subst, ◌∙◌, ⊎_elim}
use Rattle.std.specs.Prelude.{unwrap_or}
use Rattle.std.specs.Option.{option_map_or}
use Rattle.std.specs.FinMap.{get}
use Rattle.std.specs.FinMap as finmap
use Rattle.std.specs.FinSet.{len}
use Rattle.base.specs.Map.{Map, BlockSet, blocks}
use Rattle.base.specs.Surveys.{IsIn}
use Rattle.model.specs.World.{FileSystem, Snap, Limits, Live, map_of, map_of_snap, blocks_of_all}
use Rattle.model.specs.Sums.{size_without, referenced_of}
use Rattle.world.specs.Tables.{Datasets, world_of}
use Rattle.world.specs.Worlds.{AreFileSystems}
use Rattle.world.proofs.lists.Maps.{no_value, same_value}
use Rattle.limits.specs.Levels.{IsSameHere, AreSameBut}
use Rattle.limits.specs.Limits.{AreShrunk}
use Rattle.limits.proofs.Levels.{reserved_is, no_reservation, nothing_here}
use Rattle.limits.proofs.Shrinks.{origin_kept}
use Rattle.datasets.specs.Dead.{newest_blocks}
use Rattle.datasets.specs.Clones.{below_in, row_in}
use Rattle.datasets.proofs.Above.{below_is_map}
use Rattle.limits.specs.declared.account.Account.{Account}
use Rattle.limits.specs.Changes.{IsRecounted}
use Rattle.limits.specs.Ledgers.{account_in, ledger_of}
use Rattle.limits.specs.Rows.{account_at}
use Rattle.limits.proofs.Rows.{account_is}
use Rattle.limits.proofs.SameKeys.{same_keys}
use Rattle.limits.proofs.SameLines.{same_ledger}
use Rattle.datasets.proofs.Rows.{none_from}

-- two file systems have the same blocks and limits; tags, marks and bookmarks may differ
pub record IsAlike (f g : FileSystem) : Type 0 where
  pub live : g.live ≡ f.live
  pub maps : map (λ t. t.map) g.snaps ≡ map (λ t. t.map) f.snaps
  pub origin : g.origin ≡ f.origin
  pub limits : g.limits ≡ f.limits

-- The same file systems with the same blocks but at these names; the origins of the others have the maps that they had
pub record AreAlikeBut (old new : Datasets) (ms : List (List ℕ)) : Type 0 where
  pub there : (q : List ℕ) → ¬ (IsIn ms q) → is_some (get new.file_systems q) ≡ is_some (get old.file_systems q)
  pub others : (q : List ℕ) (f g : FileSystem) → ¬ (IsIn ms q) → get old.file_systems q ≡ Some f → get new.file_systems q ≡ Some g → IsAlike f g
  pub origins : AreFileSystems old.file_systems old.group → AreFileSystems new.file_systems new.group → (q : List ℕ) (g : FileSystem) → ¬ (IsIn ms q) → get new.file_systems q ≡ Some g
      → map_of_snap (world_of new) g.origin ≡ map_of_snap (world_of old) g.origin

-- where file systems may have lost snapshots, origins have the maps that they had
pub kept_origins : (old new : Datasets) (ms : List (List ℕ)) → AreShrunk (world_of old) (world_of new)
    → AreFileSystems old.file_systems old.group → AreFileSystems new.file_systems new.group → (q : List ℕ) (g : FileSystem) → ¬ (IsIn ms q) → get new.file_systems q ≡ Some g
    → map_of_snap (world_of new) g.origin ≡ map_of_snap (world_of old) g.origin
kept_origins old new ms shrunk good good' q g out = origin_kept (world_of old) (world_of new) good good' shrunk q g

pub alike_itself : (f : FileSystem) → IsAlike f f
alike_itself f = record { live = refl; maps = refl; origin = refl; limits = refl }

-- it is so at fewer names
pub alike_less : (old new : Datasets) (ms : List (List ℕ)) → AreAlikeBut old new [] → AreAlikeBut old new ms
alike_less old new ms but = record {
  there = λ q out. but.there q (λ k. k);
  others = λ q f g out at at'. but.others q f g (λ k. k) at at';
  origins = λ good good' q g out. but.origins good good' q g (λ k. k);
}

-- it is so where each is an earlier one, and each earlier one is there
module _ (old new : Datasets) (ms : List (List ℕ)) (shrunk : AreShrunk (world_of old) (world_of new))
    (there : (q : List ℕ) (f : FileSystem) → get old.file_systems q ≡ Some f → is_some (get new.file_systems q) ≡ true)
    (each : (q : List ℕ) (g : FileSystem) → get new.file_systems q ≡ Some g → (f : FileSystem) × (get old.file_systems q ≡ Some f) × (g.limits ≡ f.limits) × (¬ (IsIn ms q) → IsAlike f g)) where
  pub same_there : (q : List ℕ) → is_some (get new.file_systems q) ≡ is_some (get old.file_systems q)
  same_there q = by_both (get old.file_systems q) refl (get new.file_systems q) refl
    where
      by_both : (x : Option FileSystem) → get old.file_systems q ≡ x → (y : Option FileSystem) → get new.file_systems q ≡ y → is_some (get new.file_systems q) ≡ is_some (get old.file_systems q)
      by_both (Some f) e y e' = there q f e ∙ sym (ap is_some e)
      by_both None e None e' = ap is_some e' ∙ sym (ap is_some e)
      by_both None e (Some g) e' = let k = each q g e' in absurd (no_value k.0 (sym e ∙ k.1))

  pub alike_from : AreAlikeBut old new ms
  alike_from = record {
    there = λ q out. same_there q;
    others = λ q f g out at at'. let k = each q g at' in subst (λ (x : FileSystem). IsAlike x g) (same_value k.0 f (sym k.1 ∙ at)) (k.3 out);
    origins = kept_origins old new ms shrunk;
  }

abbrev newest_of : BlockSet → List Map → BlockSet
newest_of s [] = s
newest_of s (m ∷ ms) = newest_of (blocks m) ms

newest_by : (s : BlockSet) (ts : List Snap) → newest_blocks s ts ≡ newest_of s (map (λ (t : Snap). t.map) ts)
newest_by s [] = refl
newest_by s (t ∷ ts) = newest_by (blocks t.map) ts

module _ (old new : Datasets) (good : AreFileSystems old.file_systems old.group) (good' : AreFileSystems new.file_systems new.group) (ms : List (List ℕ))
    (but : AreAlikeBut old new ms) where
  module _ (q : List ℕ) (f g : FileSystem) (out : ¬ (IsIn ms q)) (at : get old.file_systems q ≡ Some f) (at' : get new.file_systems q ≡ Some g) where
    abbrev a : IsAlike f g
    a = but.others q f g out at at'

    below_alike : below_in new.file_systems g.origin ≡ below_in old.file_systems f.origin
    below_alike =
        sym (below_is_map (world_of new) g.origin)
        ∙ but.origins good good' q g out at'
        ∙ ap (map_of_snap (world_of old)) a.origin
        ∙ below_is_map (world_of old) f.origin

    newest_alike : newest_blocks (blocks (below_in new.file_systems g.origin)) g.snaps ≡ newest_blocks (blocks (below_in old.file_systems f.origin)) f.snaps
    newest_alike =
        newest_by (blocks (below_in new.file_systems g.origin)) g.snaps
        ∙ (λ i. newest_of (blocks (below_alike i)) (a.maps i))
        ∙ sym (newest_by (blocks (below_in old.file_systems f.origin)) f.snaps)

    row_alike : account_at (row_in new.file_systems (q, g)) ≡ account_at (row_in old.file_systems (q, f))
    row_alike = λ i. record {
      here = (size_without (blocks (a.live i)) (blocks (below_alike i))
          + size_without (blocks_of_all (a.maps i)) (blocks_of_all (a.live i ∷ below_alike i ∷ [])))
          + (unwrap_or (a.limits i).refreservation 0 - size_without (blocks (a.live i)) (newest_alike i));
      referenced = len (blocks (a.live i));
      limits = a.limits i;
    }

    -- its account is as it was
    account_alike : account_in (world_of new) q g ≡ account_in (world_of old) q f
    account_alike = sym (account_is new good' q g at') ∙ row_alike ∙ account_is old good q f at

  -- what each has of its own is as it was
  pub here_alike : AreSameBut (world_of old) (world_of new) ms
  here_alike q out = by_both (get old.file_systems q) refl (get new.file_systems q) refl
    where
      by_both : (x : Option FileSystem) → get old.file_systems q ≡ x → (y : Option FileSystem) → get new.file_systems q ≡ y → IsSameHere (world_of old) (world_of new) q
      by_both None e y e' =
          let gone = none_from (get new.file_systems q) (but.there q out ∙ ap is_some e) in
          record {
            here = nothing_here (world_of new) good'.hierarchy q gone ∙ sym (nothing_here (world_of old) good.hierarchy q e);
            reserved = no_reservation (world_of new) good'.hierarchy q gone ∙ sym (no_reservation (world_of old) good.hierarchy q e);
          }
      by_both (Some f) e None e' = let gone = none_from (get old.file_systems q) (sym (but.there q out) ∙ ap is_some e') in absurd (no_value f (sym gone ∙ e))
      by_both (Some f) e (Some g) e' = record {
        here = ap (λ (a : Account). a.here) (account_alike q f g out e e');
        reserved = reserved_is (world_of new) q g e' ∙ ap (λ (l : Limits). unwrap_or l.reservation 0) (but.others q f g out e e').limits ∙ sym (reserved_is (world_of old) q f e);
      }

  -- what its live map has too
  pub referenced_alike : (q : List ℕ) → ¬ (IsIn ms q) → referenced_of (world_of new) (Live q) ≡ referenced_of (world_of old) (Live q)
  unfolding referenced_of map_of
  referenced_alike q out = by_both (get old.file_systems q) refl (get new.file_systems q) refl
    where
      by_both : (x : Option FileSystem) → get old.file_systems q ≡ x → (y : Option FileSystem) → get new.file_systems q ≡ y → referenced_of (world_of new) (Live q) ≡ referenced_of (world_of old) (Live q)
      by_both None e y e' =
          let gone = none_from (get new.file_systems q) (but.there q out ∙ ap is_some e) in
          ap (λ (x : Option FileSystem). len (blocks (option_map_or (λ (s : FileSystem). s.live) x finmap.empty))) (gone ∙ sym e)
      by_both (Some f) e None e' = let gone = none_from (get old.file_systems q) (sym (but.there q out) ∙ ap is_some e') in absurd (no_value f (sym gone ∙ e))
      by_both (Some f) e (Some g) e' = ap (λ (a : Account). a.referenced) (account_alike q f g out e e')

-- but at one name
pub recounted : (old new : Datasets) → AreFileSystems old.file_systems old.group → AreFileSystems new.file_systems new.group → (name : List ℕ) → AreAlikeBut old new (name ∷ [])
    → IsRecounted (world_of old) (world_of new) name
recounted old new good good' name but = record {
  hierarchy = good'.hierarchy;
  names = λ q ne. but.there q (λ i. ⊎_elim ne (λ k. k) i);
  limits = λ q f g ne at at'. (but.others q f g (λ i. ⊎_elim ne (λ k. k) i) at at').limits;
  others = here_alike old new good good' (name ∷ []) but;
  referenced = λ q ne. referenced_alike old new good good' (name ∷ []) but q (λ i. ⊎_elim ne (λ k. k) i);
}

-- or for none: then the ledger is as it was
pub ledger_stays : (old new : Datasets) → AreFileSystems old.file_systems old.group → AreFileSystems new.file_systems new.group → AreAlikeBut old new []
    → ledger_of (world_of new) ≡ ledger_of (world_of old)
ledger_stays old new good good' but = same_ledger (world_of old) (world_of new) good.hierarchy good'.hierarchy (same_keys old.file_systems new.file_systems (λ q. but.there q (λ k. k)))
    (λ q f g at at'. (but.others q f g (λ k. k) at at').limits) (here_alike old new good good' [] but) (λ q f at. referenced_alike old new good good' [] but q (λ k. k))

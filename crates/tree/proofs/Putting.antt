-- A draft of a map, and one that is put, over the root that the tree has.
use Rattle.std.proofs.Common.{◌≡◌, ◌≤◌, ℕ, List, [], ◌∷◌, Option, Result, Ok, Err, sym, ap, subst, ◌∙◌, map, reverse, length}
use Rattle.std.specs.Prelude.{OnOk}
use Rattle.std.specs.declared.sync.Arc.{Arc}
use Rattle.std.specs.declared.alloc.Global.{Global}
use Rattle.std.proofs.lemmas.List.{length-map}
use Rattle.base.specs.Counting.{counted}
use Rattle.base.specs.Map.{Map}
use Rattle.base.specs.declared.refusal.Refusal.{Refusal}
use Rattle.base.specs.Surveys.{AreDifferent, dead_block}
use Rattle.zalloc.specs.declared.BlockState.{BlockState}
use Rattle.node.specs.Entries.{map_of, cell_count, IsWell}
use Rattle.node.specs.Kid.{birth_of}
use Rattle.node.specs.Node.{Root, whole, root_forest, root_part, shared_part}
use Rattle.node.specs.Shape.{forest_of}
use Rattle.node.specs.Unique.{IsUnique}
use Rattle.node.specs.Sound.{IsSoundTree}
use Rattle.node.proofs.Places.{forest_of-map}
use Rattle.node.proofs.Sameness.{same_map}
use Rattle.batch.specs.Build.{made_keys, rebuilt, number_of, HasKeys}
use Rattle.batch.specs.Draft.{IsDraft}
use Rattle.batch.specs.Cost.{CountsDropped}
use Rattle.batch.specs.Numbers.{numbers}
use Rattle.batch.specs.Said.{said}
use Rattle.batch.specs.Touch.{claims, dropped}
use Rattle.batch.specs.Updates.{changes_of, IsBatch}
use Rattle.batch.specs.declared.draft.Draft.{Draft}
use Rattle.batch.specs.declared.update.Update.{Update}
use Rattle.batch.proofs.Filled.{new_key, filled_keys}
use Rattle.batch.proofs.Prepare.{IsReady, ready_counts}
use Rattle.tree.specs.Asking.{AllowsChange, AreAllocated}
use Rattle.tree.specs.Change.{Shown, IsChange, AreReleased}
use Rattle.tree.specs.ChangeParts.{made_pair}
use Rattle.tree.specs.Drafting.{IsDraftOf}
use Rattle.tree.proofs.Drafted.{born_of, allocated_of, ready_released, ready_keys, ready_places, ready_sound, ready_change, keys_of_claims}

-- a root whose part is a sound one's is sound
pub same_sound : (r s : Option (Arc Root Global)) (n : ℕ) → whole s ≡ whole r → IsSoundTree r n → IsSoundTree s n
same_sound r s n e h = record {
  well = subst (λ f. IsWell 5 (birth_of (whole s)) f) forest (subst (λ o. IsWell 5 (birth_of o) (root_forest r)) (sym e) h.well);
  counted = h.counted ∙ ap cell_count forest;
  unique = subst (λ f. IsUnique (map_of f)) forest h.unique;
}
  where
    places_are : (x : Option (Arc Root Global)) → forest_of (λ p. p) (whole x ∷ []) ≡ root_forest x
    places_are x = forest_of-map (shared_part root_part) (x ∷ [])

    forest : root_forest r ≡ root_forest s
    forest = sym (places_are r) ∙ ap (λ o. forest_of (λ p. p) (o ∷ [])) (sym e) ∙ places_are s

module _ (root : Option (Arc Root Global)) (count : ℕ) (sound : IsSoundTree root count) (m : Map) (is : map_of (root_forest root) ≡ m) (us : List Update) (y : ℕ) (states : List BlockState)
    (batch : IsBatch us) (allocated : AreAllocated m states) where
  -- what a draft lets go
  pub drafted_released : (d : Draft) (r : Result (Unit {0}) Refusal) → OnOk r (IsDraft (whole root) us y states d) → OnOk r (AreReleased m (changes_of us) y (map dead_block d.released.items))
  drafted_released d (Ok u) h = ready_released root count us y states (record { sound = sound; batch = batch; sized = h.sized; allocated = allocated_of root m states is allocated }) d h m is
  drafted_released d (Err e) h = tt

module _ (root : Option (Arc Root Global)) (count : ℕ) (sound : IsSoundTree root count) (m : Map) (is : map_of (root_forest root) ≡ m) (us : List Update) (g y : ℕ) (states : List BlockState) (d : Draft)
    (asks : AllowsChange m us g y states) (of : IsDraftOf m us y states d) where
  -- a map has one root's part
  pub here : IsDraft (whole root) us y states d
  here = subst (λ o. IsDraft o us y states d) (same_map of.root root of.count count of.sound sound (of.is ∙ sym is)) of.draft

  pub ready : IsReady root count us y states
  ready = record { sound = sound; batch = asks.batch; sized = here.sized; allocated = allocated_of root m states is asks.allocated }

  pub put_keys : HasKeys d.made.items 0 (made_keys (said us) 5 0 (whole root))
  put_keys = ready_keys root count us y states ready d here

  pub put_places : AreDifferent (map new_key d.made.items)
  put_places = ready_places root count us y states ready d here

  -- what is counted at least
  pub put_counts : (before after : ℕ) → counted before (length (dropped (said us) 0 5 0 (whole root))) ≤ after → CountsDropped m (changes_of us) before after
  put_counts before after h =
      let at_zero : IsReady root count us 0 states = record { sound = sound; batch = asks.batch; sized = here.sized; allocated = allocated_of root m states is asks.allocated } in
      subst (λ (n : Map). CountsDropped n (changes_of us) before after) is (ready_counts root count us 0 states at_zero before after h)

  pub put_made : length (made_keys (said us) 5 0 (whole root)) ≡ length d.made.items
  put_made =
      let all = claims (said us) y 5 0 (whole root) in
      ap length (sym (keys_of_claims (said us) y (whole root)) ∙ sym (filled_keys all d.taken.items) ∙ ap (map new_key) (sym here.made)) ∙ length-map d.made.items new_key

  module _ (root' : Option (Arc Root Global)) (made : whole root' ≡ rebuilt (said us) (number_of d.made.items) g 5 0 (whole root)) where
    pub put_sound : IsSoundTree root' d.count
    put_sound = ready_sound root count us y states ready d here g (born_of root m g is asks.born) root' made

    pub put_change : (v : Shown) → v.old ≡ m → v.new ≡ map_of (root_forest root') → v.taken ≡ numbers d.taken.items → v.released ≡ map dead_block d.released.items → v.made ≡ map made_pair (reverse d.made.items) → IsChange m (changes_of us) g y states v
    put_change = ready_change root count us y states ready d here g (born_of root m g is asks.born) root' made m is

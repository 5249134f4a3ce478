-- Lines of file systems under the same names, one by one.
use Rattle.std.proofs.Common.{◌≡◌, ℕ, ◌<◌, List, [], length, get_or, map, Some, None, is_some, sym, ap, subst, ◌∙◌, ⊎_elim, arith}
use Rattle.std.specs.FinMap.{get, entries, keys}
use Rattle.std.proofs.lemmas.List.{length-map, get_or-map, same_lists}
use Rattle.model.specs.World.{World, FileSystem, Live}
use Rattle.model.specs.Hierarchy.{FileSystems, IsHierarchy}
use Rattle.model.specs.Sums.{used_by_children, referenced_of}
use Rattle.world.specs.Shapes.{name_order}
use Rattle.world.proofs.lists.Maps.{no_value, key_cases}
use Rattle.limits.specs.Levels.{IsSameHere, AreSameBut}
use Rattle.limits.proofs.Levels.{no_reservation, nothing_here}
use Rattle.limits.proofs.Depth.{children_change}
use Rattle.limits.specs.declared.line.Line.{Line}
use Rattle.limits.specs.Changes.{IsRecounted}
use Rattle.limits.specs.Ledgers.{line_in, ledger_of}
use Rattle.limits.proofs.Order.{no_entry, keys_long, key_is, entry_at}
use Rattle.limits.proofs.SameKeys.{same_keys}

-- the line at a place
line_of : (w : World) (m : FileSystems) (i : ℕ) → i < length (keys m) → (d : Line) → get_or (map (line_in w) (entries m)) i d ≡ line_in w (get_or (keys m) i [], (get_or (entries m) i no_entry).1)
line_of w m i lt d =
    let l = keys_long m in
    get_or-map (line_in w) (entries m) i no_entry d (omega (arith, l, lt))
    ∙ (λ j. line_in w (sym (key_is m i lt) j, (get_or (entries m) i no_entry).1))

pub same_lines : (v w : World) (m n : FileSystems) → keys m ≡ keys n
    → ((q : List ℕ) (f g : FileSystem) → get m q ≡ Some f → get n q ≡ Some g → line_in v (q, f) ≡ line_in w (q, g))
    → map (line_in v) (entries m) ≡ map (line_in w) (entries n)
same_lines v w m n names each = same_lists (map (line_in v) (entries m)) (map (line_in w) (entries n))
    (length-map (entries m) (line_in v) ∙ sym (keys_long m) ∙ ap length names ∙ keys_long n ∙ sym (length-map (entries n) (line_in w)))
    (λ i d lt.
    let a = length-map (entries m) (line_in v) in
    let b = keys_long m in
    let c = ap length names in
    let here : i < length (keys m) = omega (arith, a, b, lt) in
    let there : i < length (keys n) = omega (arith, here, c) in
    let key : get_or (keys m) i [] ≡ get_or (keys n) i [] = ap (λ (ks : List (List ℕ)). get_or ks i []) names in
    line_of v m i here d
    ∙ ap (λ q. line_in v (q, (get_or (entries m) i no_entry).1)) key
    ∙ each (get_or (keys n) i []) (get_or (entries m) i no_entry).1 (get_or (entries n) i no_entry).1 (ap (get m) (sym key) ∙ entry_at m i here) (entry_at n i there)
    ∙ sym (line_of w n i there d))

-- two worlds of the same names, whose file systems have, keep and refer to the same
module _ (old new : World) (good : IsHierarchy old.file_systems) (good' : IsHierarchy new.file_systems) (names : keys new.file_systems ≡ keys old.file_systems)
    (limits : (q : List ℕ) (f g : FileSystem) → get old.file_systems q ≡ Some f → get new.file_systems q ≡ Some g → g.limits ≡ f.limits) (same : AreSameBut old new [])
    (refer : (q : List ℕ) (f : FileSystem) → get new.file_systems q ≡ Some f → referenced_of new (Live q) ≡ referenced_of old (Live q)) where
  children_alike : (name : List ℕ) → used_by_children new name ≡ used_by_children old name
  children_alike name =
      let a = children_change old new good good' [] same name [] tt (λ c i. absurd i) (λ child e n m i. absurd i) in
      omega (arith, a)

  line_alike : (q : List ℕ) (f g : FileSystem) → get new.file_systems q ≡ Some f → get old.file_systems q ≡ Some g → line_in new (q, f) ≡ line_in old (q, g)
  line_alike q f g at at' = λ i. record {
    account = record { here = (same q (λ k. k)).here i; referenced = refer q f at i; limits = limits q g f at' at i };
    children = children_alike q i;
  }

  -- have one ledger
  pub same_ledger : ledger_of new ≡ ledger_of old
  unfolding ledger_of
  same_ledger = same_lines new old new.file_systems old.file_systems names line_alike

-- where they differ at one name at most, at which neither has a file system
pub none_changed : (old new : World) → IsHierarchy old.file_systems → (name : List ℕ) → IsRecounted old new name → get old.file_systems name ≡ None → get new.file_systems name ≡ None
    → ledger_of new ≡ ledger_of old
none_changed old new good name ch was gone = same_ledger old new good ch.hierarchy
    (same_keys old.file_systems new.file_systems (λ q. ⊎_elim
    (λ (is : q ≡ name). ap is_some (ap (get new.file_systems) is ∙ gone) ∙ sym (ap is_some (ap (get old.file_systems) is ∙ was)))
    (λ (ne : ¬ (q ≡ name)). ch.names q ne)
    (key_cases name_order q name)))
    (λ q f g at at'. ⊎_elim
    (λ (is : q ≡ name). absurd (no_value g (sym gone ∙ ap (get new.file_systems) (sym is) ∙ at')))
    (λ (ne : ¬ (q ≡ name)). ch.limits q f g ne at at')
    (key_cases name_order q name))
    (λ q out. ⊎_elim
    (λ (is : q ≡ name). subst (IsSameHere old new) (sym is) (record {
      here = nothing_here new ch.hierarchy name gone ∙ sym (nothing_here old good name was);
      reserved = no_reservation new ch.hierarchy name gone ∙ sym (no_reservation old good name was);
    }))
    (λ (ne : ¬ (q ≡ name)). ch.others q (λ i. ⊎_elim ne (λ k. k) i))
    (key_cases name_order q name))
    (λ q f at. ⊎_elim
    (λ (is : q ≡ name). absurd (no_value f (sym gone ∙ ap (get new.file_systems) (sym is) ∙ at)))
    (λ (ne : ¬ (q ≡ name)). ch.referenced q ne)
    (key_cases name_order q name))

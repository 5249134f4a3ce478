-- What is told of a pool's file systems alone is the same in each world that has them, and what limits are asked of a change of one live
-- map is a change of one account.
use Rattle.std.proofs.Common.{◌≡◌, ℕ, zero, suc, ◌+◌, ◌&&◌, T, Bool, true, false, cond, List, [], ◌∷◌, Some, map, length, refl, sym, ap, subst, ◌∙◌, ⊎_elim, is_eq, arith}
use Rattle.std.specs.Prelude.{max, is_some}
use Rattle.std.specs.List.{sum}
use Rattle.std.specs.declared.cmp.Ordering.{Ordering}
use Rattle.std.specs.declared.cmp.Ordering.TheVariants.{Less, Equal, Greater}
use Rattle.std.specs.FinMap.{get, insert, entries, keys, len, find, put, is_sorted, entries_sorted, entries-insert, get-entries}
use Rattle.std.specs.FinMap.Entries.{by_order, length-put}
use Rattle.base.specs.declared.number.Key.{Key}
use Rattle.base.specs.Map.{Block, BlockSet}
use Rattle.base.specs.Rewrite.{Changes, rewrite}
use Rattle.base.specs.Surveys.{IsSurvey}
use Rattle.base.specs.Names.{name_cmp}
use Rattle.model.specs.World.{World, FileSystem, Live, previous_of, map_of, children_of}
use Rattle.model.specs.Hierarchy.{FileSystems}
use Rattle.model.specs.State.{State}
use Rattle.model.specs.Sums.{written_of, referenced_of, used_here, reservation_of, children_within, used_by_children}
use Rattle.model.specs.Refusals.{fresh_number}
use Rattle.world.specs.Shapes.{name_order}
use Rattle.world.specs.Tables.{world_of}
use Rattle.world.specs.Worlds.{IsPoolState}
use Rattle.world.proofs.lists.Maps.{same_value, no_value, key_cases}
use Rattle.limits.specs.Limits.{IsWithin, AreQuotasMet}
use Rattle.limits.proofs.AskedChanges.{after_is}
use Rattle.limits.proofs.Forecasts.{asked_systems, asked_there, asked_others, asked_others_here, asked_others_referenced}
use Rattle.steps.specs.Asked.{asked_by_change}
use Rattle.steps.specs.Edits.{datasets_of}
use Rattle.limits.specs.Changes.{IsChanged}
use Rattle.limits.specs.Ledgers.{line_in, ledger_of}
use Rattle.limits.proofs.Alike.{used_alike}

-- ---- these file systems, whatever is still to be freed and whatever group is open

module _ (m : FileSystems) (freeing freeing' : BlockSet) (group group' : ℕ) where
  abbrev one : World
  one = record { file_systems = m; freeing = freeing; group = group }

  abbrev other : World
  other = record { file_systems = m; freeing = freeing'; group = group' }

  here_same : (name : List ℕ) → used_here one name ≡ used_here other name
  unfolding written_of map_of previous_of
  here_same name = refl

  referenced_same : (name : List ℕ) → referenced_of one (Live name) ≡ referenced_of other (Live name)
  unfolding referenced_of map_of
  referenced_same name = refl

  within_same : (depth : ℕ) (name : List ℕ) → children_within one depth name ≡ children_within other depth name
  within_same zero name = refl
  within_same (suc depth) name =
      λ i. sum (map (λ (child : List ℕ). max (here_same child i + within_same depth child i) (reservation_of one child)) (children_of one name))

  children_same : (name : List ℕ) → used_by_children one name ≡ used_by_children other name
  unfolding used_by_children
  children_same name = within_same (len m) name

  line_same : (e : List ℕ × FileSystem) → line_in one e ≡ line_in other e
  line_same e = λ i. record {
    account = record { here = here_same e.0 i; referenced = referenced_same e.0 i; limits = e.1.limits };
    children = children_same e.0 i;
  }

  ledger_same : ledger_of one ≡ ledger_of other
  unfolding ledger_of
  ledger_same = λ i. map (λ (e : List ℕ × FileSystem). line_same e i) (entries m)

-- ---- two worlds with the same file systems

module _ (v w : World) (is : v.file_systems ≡ w.file_systems) where
  abbrev with_other : FileSystems → World
  with_other m = record { file_systems = m; freeing = w.freeing; group = w.group }

  pub here_alike : (name : List ℕ) → used_here v name ≡ used_here w name
  here_alike name = here_same v.file_systems v.freeing w.freeing v.group w.group name ∙ ap (λ (m : FileSystems). used_here (with_other m) name) is

  pub referenced_alike : (name : List ℕ) → referenced_of v (Live name) ≡ referenced_of w (Live name)
  referenced_alike name = referenced_same v.file_systems v.freeing w.freeing v.group w.group name ∙ ap (λ (m : FileSystems). referenced_of (with_other m) (Live name)) is

  -- have one ledger
  pub ledger_alike : ledger_of v ≡ ledger_of w
  ledger_alike = ledger_same v.file_systems v.freeing w.freeing v.group w.group ∙ ap (λ (m : FileSystems). ledger_of (with_other m)) is

  -- and keep the same limits
  pub met_alike : AreQuotasMet v → AreQuotasMet w
  met_alike met = record {
    quotas = λ name s at. subst (λ n. IsWithin n s.limits.quota) (used_alike v w is name) (met.quotas name s (ap (λ (m : FileSystems). get m name) is ∙ at));
    refquotas = λ name s at. subst (λ n. IsWithin n s.limits.refquota) (referenced_alike name) (met.refquotas name s (ap (λ (m : FileSystems). get m name) is ∙ at));
  }

-- ---- a file system in the place of another of its name

abbrev Entries : Type 0
Entries = List (List ℕ × FileSystem)

abbrev names : Entries → List (List ℕ)
names es = map (λ e. e.0) es

rest_sorted : (a b : Bool) → T (a && b) → T b
rest_sorted true b h = h
rest_sorted false b h = absurd h

put_names : (es : Entries) → T (is_sorted name_cmp es) → (name : List ℕ) (f x : FileSystem) → find name_cmp name es ≡ Some f → names (put name_cmp name x es) ≡ names es
put_names [] h name f x at = absurd (no_value f at)
put_names (e ∷ es) h name f x at = by (name_cmp name e.0) refl at (put_names es (rest_sorted _ _ h) name f x)
  where
    by : (r : Ordering) → name_cmp name e.0 ≡ r → cond (is_eq r) (Some e.1) (find name_cmp name es) ≡ Some f
        → (find name_cmp name es ≡ Some f → names (put name_cmp name x es) ≡ names es)
        → names (by_order r ((name, x) ∷ e ∷ es) ((e.0, x) ∷ es) (e ∷ put name_cmp name x es)) ≡ e.0 ∷ names es
    by Less is found rest =
        let long : suc (suc (length es)) ≡ suc (length es) =
        sym (ap (λ r. length (by_order r ((name, x) ∷ e ∷ es) ((e.0, x) ∷ es) (e ∷ put name_cmp name x es))) is)
        ∙ length-put name_cmp name_order.total name x (e ∷ es) h
        ∙ ap (λ o. cond (is_some o) (length (e ∷ es)) (length (e ∷ es) + 1)) at in
        absurd (omega (arith, long))
    by Equal is found rest = refl
    by Greater is found rest = ap (λ l. e.0 ∷ l) (rest found)

-- leaves the names as they are
pub changed_keys : (m : FileSystems) (name : List ℕ) (f x : FileSystem) → get m name ≡ Some f → keys (insert m name x) ≡ keys m
changed_keys m name f x at = ap names (entries-insert name_order.total m name x) ∙ put_names (entries m) (entries_sorted m) name f x (sym (get-entries m name) ∙ at)

-- ---- the world that limits are asked of has one account changed

module _ (s : State) (good : IsPoolState s) (name : List ℕ) (f : FileSystem) (at : get s.now.file_systems name ≡ Some f) (c : Changes) (dropped : List Block)
    (made : List Key) (survey : IsSurvey f.live c dropped made) where
  abbrev before : World
  before = world_of (datasets_of s)

  abbrev after : World
  after = (asked_by_change s name c).now

  abbrev after_f : FileSystem
  after_f = record f { live = rewrite f.live c s.now.group (fresh_number s) }

  names_stay : keys after.file_systems ≡ keys before.file_systems
  names_stay = ap (λ (v : World). keys v.file_systems) (after_is s.now name f at c (fresh_number s)) ∙ changed_keys s.now.file_systems name f after_f at

  limits_stay : (other : List ℕ) (g h : FileSystem) → get before.file_systems other ≡ Some g → get after.file_systems other ≡ Some h → h.limits ≡ g.limits
  limits_stay other g h here there = ⊎_elim
      (λ is.
      let old : f ≡ g = same_value f g (sym at ∙ ap (get s.now.file_systems) (sym is) ∙ here) in
      let new : after_f ≡ h = same_value after_f h (sym (asked_there s good name f at c dropped made survey) ∙ ap (get after.file_systems) (sym is) ∙ there) in
      ap (λ (y : FileSystem). y.limits) (sym new) ∙ ap (λ (y : FileSystem). y.limits) old)
      (λ apart.
      let same = asked_others s good name f at c dropped made survey other (⊎_elim apart (λ none. none)) in
      ap (λ (y : FileSystem). y.limits) (same_value h g (sym there ∙ same ∙ here)))
      (key_cases name_order other name)

  pub foretold : (here referenced : ℕ) → here ≡ used_here (asked_by_change s name c).now name → referenced ≡ referenced_of (asked_by_change s name c).now (Live name)
      → IsChanged (world_of (datasets_of s)) (asked_by_change s name c).now name here referenced
  foretold here referenced is_here is_referenced = record {
    hierarchy = (asked_systems s good name f at c dropped made survey).hierarchy;
    names = names_stay;
    limits = limits_stay;
    others = λ other out.
        let same = asked_others_here s good name f at c dropped made survey other out in
        record { here = same.here ∙ here_alike s.now before refl other; reserved = same.reserved };
    others_referenced = λ other apart. asked_others_referenced s good name f at c dropped made survey other apart ∙ referenced_alike s.now before refl other;
    is_here = sym is_here;
    is_referenced = sym is_referenced;
  }

-- Why a promote is refused, and what it leaves.
use Rattle.std.proofs.Common.{◌≡◌, ◌||◌, List, Bool, true, false, cond, Option, Some, None, Result, Ok, Err, Bor, [], ◌∷◌, refl, sym, ap, subst, ◌∙◌, true≢false}
use Rattle.std.specs.Prelude.{IsSome, IfSome, OnOk, is_some, not}
use Rattle.std.specs.Option.{option_map_or, option_copied}
use Rattle.std.specs.FinMap.{get}
use Rattle.std.specs.List.{find, list_any}
use Rattle.base.specs.declared.refusal.Refusal.{Refusal}
use Rattle.base.specs.declared.refusal.Refusal.TheVariants.{NoDataset, NotClone, BadName, NameClash}
use Rattle.base.specs.Names.{same_name}
use Rattle.base.specs.Surveys.{IsIn}
use Rattle.model.specs.World.{Snap}
use Rattle.model.specs.Rule.{first_of}
use Rattle.model.specs.requests.Promote.{Promotion, promotion_of, promoted_snaps, has_long_name, has_clash}
use Rattle.world.specs.Shapes.{Name}
use Rattle.world.specs.Worlds.{AreFileSystems}
use Rattle.world.specs.Tables.{Datasets, world_of, CanPromote}
use Rattle.world.proofs.lists.Finding.{any_none, name_itself}
use Rattle.world.proofs.lists.Maps.{no_value}
use Rattle.world.proofs.changes.Promotions.{promotion_is, promote_previous}
use Rattle.datasets.specs.Clones.{with_promoted}
use Rattle.snap.specs.Requests.{promoted, promote_refusal, KeepsPrevious}

-- ---- why it is refused

module _ (t : Datasets) (name : Name) where
  abbrev by_row : Bool → Bool → Bool → Bool → Option Refusal
  by_row here clone long clash = first_of ((not here, NoDataset) ∷ (not clone, NotClone) ∷ (long, BadName) ∷ (clash, NameClash) ∷ [])

  abbrev by_promotion : Bool → Option Promotion → Option Refusal
  by_promotion here x = by_row here (is_some x) (option_map_or (has_long_name name) x false) (option_map_or has_clash x false)

  refused_absent : is_some (get t.file_systems name) ≡ false → promote_refusal t name ≡ Some NoDataset
  refused_absent none = ap (λ b. by_promotion b (promotion_of (world_of t) name)) none

  refused_no_clone : is_some (get t.file_systems name) ≡ true → promotion_of (world_of t) name ≡ None → promote_refusal t name ≡ Some NotClone
  refused_no_clone here none = (λ i. by_promotion (here i) (none i))

  module _ (p : Promotion) (is : promotion_of (world_of t) name ≡ Some p) where
    refusal_is : promote_refusal t name ≡ by_row true true (has_long_name name p) (has_clash p)
    refusal_is = (λ i. by_promotion (is_some ((promotion_is (world_of t) name p is).clone_at i)) (is i))

    refused_long : has_long_name name p ≡ true → promote_refusal t name ≡ Some BadName
    refused_long e = refusal_is ∙ ap (λ b. by_row true true b (has_clash p)) e

    refused_clash : has_long_name name p ≡ false → has_clash p ≡ true → promote_refusal t name ≡ Some NameClash
    refused_clash e k = refusal_is ∙ (λ i. by_row true true (e i) (k i))

  -- where nothing refuses it
  module _ (none : promote_refusal t name ≡ None) where
    told : (p : Promotion) × (promotion_of (world_of t) name ≡ Some p) × (has_clash p ≡ false)
    told = by_here (is_some (get t.file_systems name)) refl
      where
        by_clash : (p : Promotion) → promotion_of (world_of t) name ≡ Some p → has_long_name name p ≡ false → (b : Bool) → has_clash p ≡ b
            → (p : Promotion) × (promotion_of (world_of t) name ≡ Some p) × (has_clash p ≡ false)
        by_clash p is l true k = absurd (no_value NameClash (sym none ∙ refused_clash p is l k))
        by_clash p is l false k = (p, is, k)

        by_long : (p : Promotion) → promotion_of (world_of t) name ≡ Some p → (b : Bool) → has_long_name name p ≡ b
            → (p : Promotion) × (promotion_of (world_of t) name ≡ Some p) × (has_clash p ≡ false)
        by_long p is true l = absurd (no_value BadName (sym none ∙ refused_long p is l))
        by_long p is false l = by_clash p is l (has_clash p) refl

        by_between : is_some (get t.file_systems name) ≡ true → (x : Option Promotion) → promotion_of (world_of t) name ≡ x
            → (p : Promotion) × (promotion_of (world_of t) name ≡ Some p) × (has_clash p ≡ false)
        by_between here None e = absurd (no_value NotClone (sym none ∙ refused_no_clone here e))
        by_between here (Some p) e = by_long p e (has_long_name name p) refl

        by_here : (b : Bool) → is_some (get t.file_systems name) ≡ b → (p : Promotion) × (promotion_of (world_of t) name ≡ Some p) × (has_clash p ≡ false)
        by_here true e = by_between e (promotion_of (world_of t) name) refl
        by_here false e = absurd (no_value NoDataset (sym none ∙ refused_absent e))

    pub promotion_there : IsSome (promotion_of (world_of t) name)
    promotion_there = subst (λ (x : Option Promotion). IsSome x) (sym told.1) refl

    -- no snapshot that comes has the name of one that is there
    apart : (a b : Snap) → IsIn (promoted_snaps told.0) a → IsIn told.0.clone.snaps b → a.name ≡ b.name → ⊥
    apart a b i j same =
        let named = any_none (λ (t : Snap). list_any (λ (u : Snap). same_name u.name t.name) told.0.clone.snaps) (promoted_snaps told.0) told.2 a i in
        let other = any_none (λ (u : Snap). same_name u.name a.name) told.0.clone.snaps named b j in
        absurd (true≢false (sym (ap (λ n. same_name n a.name) (sym same) ∙ name_itself a.name) ∙ other))

    pub can_promote : IfSome (promotion_of (world_of t) name) (CanPromote t name)
    can_promote = subst (λ (x : Option Promotion). IfSome x (CanPromote t name)) (sym told.1) (record { is = told.1; apart = apart })

    -- what stands before each dataset stays there
    keeps_previous : AreFileSystems t.file_systems t.group → KeepsPrevious t (promoted t name)
    keeps_previous good = subst (λ (x : Option Promotion). KeepsPrevious t (option_map_or (with_promoted t name) x t)) (sym told.1)
        (λ d there. promote_previous (world_of t) good name told.0 told.1 apart d there)

    -- and that is what the table's promote leaves
    promoted_is : (u : Datasets) → IfSome (promotion_of (world_of t) name) (λ p. u ≡ with_promoted t name p) → u ≡ promoted t name
    promoted_is u h = by_some (promotion_of (world_of t) name) promotion_there h
      where
        by_some : (x : Option Promotion) → IsSome x → IfSome x (λ p. u ≡ with_promoted t name p) → u ≡ option_map_or (with_promoted t name) x t
        by_some None there e = absurd (true≢false (sym there))
        by_some (Some p) there e = e

    -- so it is where the table answers
    pub is_promoted : (r : Result (Unit {0}) Refusal) (u : Datasets) → IfSome (promotion_of (world_of t) name) (λ p. OnOk r (u ≡ with_promoted t name p)) → OnOk r (u ≡ promoted t name)
    is_promoted (Ok done) u h = promoted_is u h
    is_promoted (Err e) u h = tt

    pub has_kept_previous : (r : Result (Unit {0}) Refusal) (u : Datasets) → AreFileSystems t.file_systems t.group → OnOk r (u ≡ promoted t name) → OnOk r (KeepsPrevious t u)
    has_kept_previous (Ok done) u good is = subst (KeepsPrevious t) (sym is) (keeps_previous good)
    has_kept_previous (Err e) u good is = tt

-- ---- a snapshot of a name

pub copied_some : {A : Type 0} (x : Option (Bor A)) → is_some x ≡ is_some (option_copied x)
copied_some None = refl
copied_some (Some a) = refl

pub is_found : (q : Snap → Bool) (us : List Snap) → is_some (find q us) ≡ list_any q us
is_found q [] = refl
is_found q (u ∷ us) = by_test (q u) (is_found q us)
  where
    by_test : (b : Bool) → is_some (find q us) ≡ list_any q us → is_some (cond b (Some u) (find q us)) ≡ (b || list_any q us)
    by_test true ih = refl
    by_test false ih = ih

-- What a request takes that nothing refuses.
use Rattle.std.proofs.Common.{◌≡◌, ◌<◌, ◌≤◌, ℕ, Bool, true, false, not, cond, ◌||◌, List, [], ◌∷◌, map, length, get_or, Some, None, refl, sym, ap, subst, ◌∙◌, inl, inr, ⊎_elim, arith}
use Rattle.std.specs.Prelude.{IsSome}
use Rattle.std.specs.FinMap.{get, keys, entries, contains_key}
use Rattle.std.specs.List.{list_any}
use Rattle.base.specs.declared.refusal.Refusal.TheVariants.{NoDataset}
use Rattle.model.specs.Rule.{first_of}
use Rattle.base.specs.Surveys.{IsIn}
use Rattle.base.specs.declared.name.member.Member.{Member}
use Rattle.base.specs.Names.{same_name, is_descendant}
use Rattle.model.specs.World.{FileSystem, family_of}
use Rattle.model.specs.requests.Snapshot.{has_twice, named_with}
use Rattle.world.specs.Shapes.{Name, name_order}
use Rattle.world.specs.Tables.{Datasets, world_of}
use Rattle.world.specs.Usage.{IsEntry}
use Rattle.world.proofs.lists.Finding.{in_filter, in_flat, name_itself}
use Rattle.world.proofs.lists.Listed.{map_in}
use Rattle.world.proofs.lists.Maps.{some_of, entry_of}
use Rattle.world.proofs.steps.Takings.{may_take}
use Rattle.snap.specs.Taking.{naming_row, all_of, refusal_of}

-- fewer than two file systems are different
pub few_apart : (ms : List Member) → length ms < 2 → has_twice ms ≡ false
few_apart [] few = refl
few_apart (m ∷ []) few = refl
few_apart (m ∷ n ∷ ms) few = absurd (omega arith)

single : {A : Type 0} (xs : List A) (x : A) → IsIn xs x → length xs ≡ 1 → xs ≡ x ∷ []
single [] x i one = absurd i
single (y ∷ []) x i one = ⊎_elim (λ e. ap (λ z. z ∷ []) (sym e)) (λ k. absurd k) i
single (y ∷ z ∷ xs) x i one = absurd (omega arith)

among : (es : List (Name × FileSystem)) (n : Name) (f : FileSystem) → IsEntry es n f → IsIn (map (λ (e : Name × FileSystem). e.0) es) n
among [] n f i = absurd i
among (e ∷ es) n f i = ⊎_elim (λ k. inl k.0) (λ k. inr (among es n f k)) i

-- a list of one
pub lone : (ms : List Member) (m : Member) → 1 ≤ length ms → length ms < 2 → m ≡ get_or ms 0 m → ms ≡ m ∷ []
lone [] m some few is = absurd (omega arith)
lone (x ∷ []) m some few is = ap (λ z. z ∷ []) (sym is)
lone (x ∷ y ∷ ms) m some few is = absurd (omega arith)

-- a name stands for itself where its file system is there
stands : (t : Datasets) (m : Member) (recursive : Bool) → IsSome (get t.file_systems m.file_system) → IsIn (named_with (world_of t) recursive m) m
stands t m false there = inl refl
stands t m true there =
    let f = some_of (get t.file_systems m.file_system) there in
    let k : IsIn (keys t.file_systems) m.file_system = among (entries t.file_systems) m.file_system f.0 (entry_of name_order t.file_systems m.file_system f.0 f.1) in
    map_in {B = Member} (λ name. record { file_system = name; component = m.component }) (family_of (world_of t) m.file_system) m.file_system
    (in_filter (λ n. same_name n m.file_system || is_descendant m.file_system n) (keys t.file_systems) m.file_system k (ap (λ b. b || is_descendant m.file_system m.file_system) (name_itself m.file_system)))

-- nothing refuses it where each file system is there and nothing refuses what the names stand for
pub none_refuses : (t : Datasets) (next : ℕ) (names : List Member) (recursive : Bool) (all : List Member) → all ≡ all_of t names recursive
    → list_any (λ m. not (contains_key t.file_systems m.file_system)) names ≡ false → first_of (naming_row (world_of t) next all) ≡ None → refusal_of t next names recursive ≡ None
none_refuses t next names recursive all is there none =
    ap (λ b. cond b (Some NoDataset) (first_of (naming_row (world_of t) next (all_of t names recursive)))) there
    ∙ subst (λ ms. first_of (naming_row (world_of t) next ms) ≡ None) is none

module _ (t : Datasets) (next : ℕ) (names : List Member) (recursive : Bool) (none : refusal_of t next names recursive ≡ None) where
  -- a name that stands for one alone stands for itself
  pub alone : (m : Member) → names ≡ m ∷ [] → length (all_of t names recursive) ≡ 1 → all_of t names recursive ≡ m ∷ []
  alone m is one =
      let here : IsIn names m = subst (λ l. IsIn l m) (sym is) (inl refl) in
      single (all_of t names recursive) m
      (in_flat (named_with (world_of t) recursive) names m m here (stands t m recursive ((may_take (world_of t) next names (all_of t names recursive) none).there m here)))
      one

-- A clone promoted.
use Rattle.std.proofs.Common.{◌≡◌, false, not, List, ℕ, Option, Some, None, refl, sym, ap, subst, ◌∙◌, ◌⊎◌, inl, inr, ⊎_elim, true≢false}
use Rattle.std.specs.Prelude.{is_some, nat_le, nat_lt}
use Rattle.std.specs.List.{list_any}
use Rattle.std.specs.Option.{option_map_or}
use Rattle.std.specs.FinMap.{get, insert}
use Rattle.std.specs.FinSet.{union}
use Rattle.base.specs.declared.refusal.Refusal.{Refusal}
use Rattle.base.specs.declared.refusal.Refusal.TheVariants.{NoMemory, NotClone, NameClash}
use Rattle.base.specs.Surveys.{IsIn}
use Rattle.base.specs.Names.{same_name}
use Rattle.zalloc.specs.declared.BlockState.{BlockState}
use Rattle.model.specs.declared.request.Request.TheVariants.{Promote}
use Rattle.model.specs.declared.reply.Reply.TheVariants.{Done, Refused}
use Rattle.model.specs.World.{World, FileSystem, Snap}
use Rattle.model.specs.State.{State}
use Rattle.model.specs.Edits.{with_now}
use Rattle.model.specs.Numbers.{HasStates}
use Rattle.model.specs.Rule.{first_of}
use Rattle.model.specs.requests.Change.{limit_row}
use Rattle.model.specs.requests.Promote.{Promotion, promotion_of, promoted_snaps, demoted, promoted, after_promotion, has_clash, promotion_row, promote_rule}
use Rattle.model.specs.Refusals.{refusal_of, state_asked}
use Rattle.model.specs.Step.{Step}
use Rattle.model.specs.Hierarchy.{FileSystems}
use Rattle.world.specs.Shapes.{name_order}
use Rattle.world.proofs.lists.Finding.{any_none, from_filter, in_either, name_itself}
use Rattle.world.proofs.changes.Kept.{reach_is}
use Rattle.world.proofs.lists.Maps.{same_value, key_cases}
use Rattle.world.proofs.changes.Promotions.{IsPromotion, promotion_is, promote_union}
use Rattle.world.proofs.lineage.Put.{put_here, put_other}
use Rattle.world.proofs.steps.StateSteps.{promote_before}
use Rattle.world.proofs.views.ViewedRequests.{row_false}
use Rattle.limits.specs.Limits.{IsUnlimited}
use Rattle.datasets.specs.Clones.{with_promoted}
use Rattle.snap.specs.Requests.{promoted as promoted_datasets, promote_refusal}
use Rattle.steps.specs.Steady.{IsSteady}
use Rattle.steps.specs.Asked.{asked_by_promote}
use Rattle.steps.specs.Edits.{datasets_of, with_datasets, put, StaysUnlimited, CanPut}
use Rattle.steps.proofs.quotas.Bounded.{first_left, first_after, IsUnasked, asked_steady, unasked_fits}
use Rattle.steps.proofs.quotas.Unlimited.{unlimited_put, still_swept, AreKnown, AreOriginsIn, same_known, put_known}
use Rattle.steps.proofs.numbers.Putting.{put_none}
use Rattle.steps.proofs.numbers.Ruled.{no_choice, refused_by, no_memory_by, done_by}

-- ---- what nothing refuses

-- a clone, with an origin that is there, and no name that both would have
record CanTurn (w : World) (name : List ℕ) : Type 0 where
  turn : Promotion
  is : promotion_of w name ≡ Some turn
  apart : has_clash turn ≡ false

can_turn : (w : World) (name : List ℕ) → first_of (promotion_row w name) ≡ None → CanTurn w name
can_turn w name none = by_promotion (promotion_of w name) refl
    (row_false (promotion_row w name) none (not (is_some (promotion_of w name)), NotClone) (inr (inl refl)))
    (row_false (promotion_row w name) none (option_map_or has_clash (promotion_of w name) false, NameClash) (inr (inr (inr (inl refl)))))
  where
    by_promotion : (x : Option Promotion) → promotion_of w name ≡ x → not (is_some x) ≡ false → option_map_or has_clash x false ≡ false → CanTurn w name
    by_promotion None e there apart = absurd (true≢false there)
    by_promotion (Some p) e there apart = record { turn = p; is = e; apart = apart }

-- ---- the file systems after it

module _ (s : State) (name : List ℕ) (p : Promotion) (is : promotion_of s.now name ≡ Some p) where
  P : IsPromotion s.now name p
  P = promotion_is s.now name p is

  abbrev ss : FileSystems
  ss = s.now.file_systems

  abbrev mid : FileSystems
  mid = insert s.now.file_systems p.owner (demoted p)

  came : (t : Snap) → IsIn (promoted_snaps p) t → IsIn p.system.snaps t
  came t i = (from_filter (λ (u : Snap). nat_le u.group p.origin.group) p.system.snaps t i).0

  stayed : (t : Snap) → IsIn (demoted p).snaps t → IsIn p.system.snaps t
  stayed t i = (from_filter (λ (u : Snap). nat_lt p.origin.group u.group) p.system.snaps t i).0

  turned_unlimited : IsUnlimited s.now.file_systems → IsUnlimited (insert (insert s.now.file_systems p.owner (demoted p)) name (promoted p))
  turned_unlimited bare = unlimited_put mid (unlimited_put ss bare p.owner (demoted p) (bare p.owner p.system P.owner_at))
      name (promoted p) (bare name p.clone P.clone_at)

  turned_known : AreKnown s.now.file_systems (insert (insert s.now.file_systems p.owner (demoted p)) name (promoted p))
  turned_known = put_known ss mid
      (put_known ss ss (same_known ss) p.owner (demoted p) (λ t i. inr (p.owner, p.system, P.owner_at, stayed t i)))
      name (promoted p)
      (λ t i. ⊎_elim
      (λ k. inr (p.owner, p.system, P.owner_at, came t k))
      (λ k. inr (name, p.clone, P.clone_at, k))
      (in_either (promoted_snaps p) p.clone.snaps t i))

  -- the owner is the origin's clone now
  origin_stays : (q : List ℕ) × (y : FileSystem) × (get (insert (insert s.now.file_systems p.owner (demoted p)) name (promoted p)) q ≡ Some y) × (y.origin ≡ Some p.origin)
  origin_stays = ⊎_elim
      (λ (same : p.owner ≡ name). (
        name,
        promoted p,
        put_here mid name (promoted p),
        ap (λ (x : FileSystem). x.origin) (same_value p.system p.clone (sym P.owner_at ∙ ap (get ss) same ∙ P.clone_at)) ∙ P.origin_is,
      ))
      (λ other. (p.owner, demoted p, put_other mid name (promoted p) p.owner other ∙ put_here ss p.owner (demoted p), refl))
      (key_cases name_order p.owner name)

  -- and the clone has the owner's origin
  turned_origins : AreOriginsIn s.now.file_systems (insert (insert s.now.file_systems p.owner (demoted p)) name (promoted p))
  turned_origins q x id at o = ⊎_elim
      (λ (same : q ≡ name).
      let one : x ≡ p.clone = same_value x p.clone (sym at ∙ ap (get ss) same ∙ P.clone_at) in
      let k = origin_stays in
      (k.0, k.1, k.2, k.3 ∙ sym P.origin_is ∙ ap (λ (y : FileSystem). y.origin) (sym one) ∙ o))
      (λ other. ⊎_elim
      (λ (same : q ≡ p.owner).
      let one : p.system ≡ x = same_value p.system x (sym P.owner_at ∙ ap (get ss) (sym same) ∙ at) in
      (name, promoted p, put_here mid name (promoted p), ap (λ (y : FileSystem). y.origin) one ∙ o))
      (λ apart. (q, x, put_other mid name (promoted p) q other ∙ put_other ss p.owner (demoted p) q apart ∙ at, o))
      (key_cases name_order q p.owner))
      (key_cases name_order q name)

  module _ (steady : IsSteady s) (apart : has_clash p ≡ false) where
    clash : (t u : Snap) → IsIn (promoted_snaps p) t → IsIn p.clone.snaps u → t.name ≡ u.name → ⊥
    clash t u h k same = true≢false (
        sym (ap (same_name u.name) same ∙ name_itself u.name)
        ∙ any_none (λ (v : Snap). same_name v.name t.name) p.clone.snaps
        (any_none (λ (t : Snap). list_any (λ (v : Snap). same_name v.name t.name) p.clone.snaps) (promoted_snaps p) apart t h) u k)

    turned_unasked : IsUnasked s (with_now s (after_promotion s.now name p))
    turned_unasked = record {
      good = promote_before s steady.good name p is clash;
      swept = still_swept s (with_now s (after_promotion s.now name p)) steady refl turned_known turned_origins;
      reach =
          reach_is (after_promotion s.now name p)
          ∙ ap (λ u. union u s.now.freeing) (promote_union s.now steady.good.now.systems name p is clash)
          ∙ sym (reach_is s.now);
      last = refl;
      size = refl;
    }

-- ---- the state after it

turned_state : (s : State) (name : List ℕ)
    → option_map_or (λ (p : Promotion). with_now s (after_promotion s.now name p)) (promotion_of s.now name) s ≡ asked_by_promote s name
turned_state s name = by_promotion (promotion_of s.now name) ∙ sym (put_none s (promoted_datasets (datasets_of s) name))
  where
    by_promotion : (x : Option Promotion)
        → option_map_or (λ (p : Promotion). with_now s (after_promotion s.now name p)) x s ≡ with_datasets s (option_map_or (with_promoted (datasets_of s) name) x (datasets_of s))
    by_promotion None = refl
    by_promotion (Some p) = refl

-- its limits are asked of it
pub promote_asked : (s : State) (name : List ℕ) → state_asked s (promote_rule name) ≡ asked_by_promote s name
unfolding state_asked
promote_asked s name = turned_state s name

-- where no file system had a limit, none has one
pub promote_unlimited : (s : State) (name : List ℕ) → StaysUnlimited s (promoted_datasets (datasets_of s) name)
promote_unlimited s name bare = by_promotion (promotion_of s.now name) refl
  where
    by_promotion : (x : Option Promotion) → promotion_of s.now name ≡ x → IsUnlimited (option_map_or (with_promoted (datasets_of s) name) x (datasets_of s)).file_systems
    by_promotion None e = bare
    by_promotion (Some p) e = turned_unlimited s name p e bare

module _ (s : State) (steady : IsSteady s) (name : List ℕ) (none : promote_refusal (datasets_of s) name ≡ None) where
  -- what holds of it whatever the limits
  pub promote_unasked : IsUnasked s (asked_by_promote s name)
  promote_unasked =
      let can = can_turn s.now name none in
      subst (IsUnasked s) (sym (ap (λ x. option_map_or (λ (p : Promotion). with_now s (after_promotion s.now name p)) x s) can.is) ∙ turned_state s name)
      (turned_unasked s name can.turn can.is steady can.apart)

  -- where the limits hold then, the datasets after it can be put in place
  pub promote_can_within : first_of (limit_row (asked_by_promote s name)) ≡ None → CanPut s (promoted_datasets (datasets_of s) name) 0
  promote_can_within fits = record { steady = asked_steady s (asked_by_promote s name) promote_unasked steady fits; reach = promote_unasked.reach }

  -- no limit is passed where there is none
  pub promote_fits : IsUnlimited s.now.file_systems → (numbers : List BlockState) → HasStates s numbers → first_of (limit_row (asked_by_promote s name)) ≡ None
  promote_fits bare = unasked_fits s (asked_by_promote s name) promote_unasked (promote_unlimited s name bare)

-- ---- steps

module _ (s : State) (name : List ℕ) where
  refused_row : (why : Refusal) → promote_refusal (datasets_of s) name ≡ Some why → refusal_of s (promote_rule name) ≡ Some why
  unfolding refusal_of
  refused_row why e = first_left (promotion_row s.now name) (limit_row (state_asked s (promote_rule name))) why e

  -- a promote that is refused, or has no memory
  pub promote_refused : (why : Refusal) → (promote_refusal (datasets_of s) name ≡ Some why) ⊎ (why ≡ NoMemory) → Step s (Promote name) (Refused why) s
  promote_refused why which = ⊎_elim
      (λ e. refused_by (Promote name) (promote_rule name) (None, refl, refl) s why (refused_row why e))
      (λ e. subst (λ z. Step s (Promote name) (Refused z) s) (sym e) (no_memory_by (Promote name) (promote_rule name) (None, refl, refl) s refl))
      which

  module _ (none : promote_refusal (datasets_of s) name ≡ None) where
    -- what earlier rows don't refuse, the limits say
    row_is : refusal_of s (promote_rule name) ≡ first_of (limit_row (asked_by_promote s name))
    unfolding refusal_of
    row_is =
        first_after (promotion_row s.now name) (limit_row (state_asked s (promote_rule name))) none
        ∙ ap (λ x. first_of (limit_row x)) (promote_asked s name)

    -- a limit would be passed
    pub promote_refused_by_limit : (why : Refusal) → first_of (limit_row (asked_by_promote s name)) ≡ Some why → Step s (Promote name) (Refused why) s
    promote_refused_by_limit why over = refused_by (Promote name) (promote_rule name) (None, refl, refl) s why (row_is ∙ over)

    -- and a promote that nothing refuses
    pub promote_done_within : IsSteady s → first_of (limit_row (asked_by_promote s name)) ≡ None → Step s (Promote name) Done (put s (promoted_datasets (datasets_of s) name) 0)
    promote_done_within steady fits = done_by (Promote name) (promote_rule name) (None, refl, refl) s no_choice (put s (promoted_datasets (datasets_of s) name) 0) Done
        refl refl (row_is ∙ fits) refl (sym (turned_state s name)) (promote_can_within s steady name none fits).steady
    -- where no file system has a limit

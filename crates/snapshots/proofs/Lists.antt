-- Lists of tags of which each stands once.
use Rattle.std.proofs.Common.{◌≡◌, ℕ, zero, suc, ◌+◌, ◌<◌, ◌≤◌, Bool, true, false, cond, not, List, [], ◌∷◌, ◌++◌, length, get_or, take, refl, sym, ap, subst, ◌∙◌, inl, inr, ⊎_elim, ◌⊎◌, arith, length-append, true≢false}
use Rattle.std.specs.Prelude.{◌||◌, Result, Ok, Err, OnOk, OnErr}
use Rattle.std.proofs.lemmas.Bool.{or_parts, ltb-false}
use Rattle.std.proofs.lemmas.List.{map-append}
use Rattle.std.specs.Cmp.Lexicographic.{nat_list_eq_equiv, same_text}
use Rattle.std.specs.List.{list_any}
use Rattle.std.specs.Set.{remove_key}
use Rattle.std.specs.declared.alloc.Global.{Global}
use Rattle.std.specs.declared.vec.Vec.{Vec}
use Rattle.base.specs.Surveys.{IsIn, AreDifferent}
use Rattle.base.specs.Names.{same_name}
use Rattle.indexmap.specs.IndexSet.{insert_key}
use Rattle.snapshots.specs.Tags.{tag_limit, has_tag, is_full, without_tag, texts}
use Rattle.snapshots.specs.SoundTags.{AreSound}

abbrev pub Text : Type 0
Text = Vec ℕ Global

-- ---- names

turned : (a b : List ℕ) → same_name a b ≡ same_name b a
turned a b = nat_list_eq_equiv.symm a b

neither : (a b : Bool) → a ≡ false → b ≡ false → (a || b) ≡ false
neither true b h k = h
neither false b h k = k

-- the same tag is looked for
alike : (p q : List ℕ) → same_name p q ≡ true → (ts : List (List ℕ)) → has_tag ts p ≡ has_tag ts q
alike p q h [] = refl
alike p q h (t ∷ ts) = (λ i. nat_list_eq_equiv.congr p q t h i || alike p q h ts i)

-- ---- one tag among others

named : (ts : List (List ℕ)) (t : List ℕ) → has_tag ts t ≡ true → IsIn ts t
named [] t h = absurd (true≢false (sym h))
named (x ∷ ts) t h = by (same_name t x) refl (named ts t)
  where
    by : (b : Bool) → same_name t x ≡ b → (has_tag ts t ≡ true → IsIn ts t) → (t ≡ x) ⊎ IsIn ts t
    by true e rest = inl (same_text t x (sym e))
    by false e rest = inr (rest (sym (ap (λ b. b || has_tag ts t) e) ∙ h))

is_named : (ts : List (List ℕ)) (t : List ℕ) → IsIn ts t → has_tag ts t ≡ true
is_named [] t h = absurd h
is_named (x ∷ ts) t h = ⊎_elim
    (λ e. subst (λ y. (same_name t y || has_tag ts t) ≡ true) e (ap (λ b. b || has_tag ts t) (nat_list_eq_equiv.refl t)))
    (λ i. or_true (same_name t x) (has_tag ts t) (is_named ts t i)) h
  where
    or_true : (a b : Bool) → b ≡ true → (a || b) ≡ true
    or_true true b e = refl
    or_true false b e = e

lacks : (ts : List (List ℕ)) (t : List ℕ) → ¬ (IsIn ts t) → has_tag ts t ≡ false
lacks ts t none = by (has_tag ts t) refl
  where
    by : (b : Bool) → has_tag ts t ≡ b → b ≡ false
    by true e = absurd (none (named ts t e))
    by false e = refl

not_among : (ts : List (List ℕ)) (t : List ℕ) → has_tag ts t ≡ false → ¬ (IsIn ts t)
not_among ts t h i = true≢false (sym (is_named ts t i) ∙ h)

-- ---- one tag among texts

pub any_text : (q : List ℕ) (vs : List Text) → list_any (λ (v : Text). same_name q v.items) vs ≡ has_tag (texts vs) q
any_text q [] = refl
any_text q (v ∷ vs) = ap (λ b. same_name q v.items || b) (any_text q vs)

-- ---- one tag more

more_lacks : (ts : List (List ℕ)) (q t : List ℕ) → has_tag ts q ≡ false → same_name q t ≡ false → has_tag (ts ++ t ∷ []) q ≡ false
more_lacks [] q t h k = neither (same_name q t) false k refl
more_lacks (x ∷ ts) q t h k = let parts = or_parts (same_name q x) (has_tag ts q) h in neither (same_name q x) (has_tag (ts ++ t ∷ []) q) parts.0 (more_lacks ts q t parts.1 k)

pub once_more : (ts : List (List ℕ)) (t : List ℕ) → AreDifferent ts → has_tag ts t ≡ false → AreDifferent (ts ++ t ∷ [])
once_more [] t h k = (λ i. i, tt)
once_more (x ∷ ts) t h k =
    let new = or_parts (same_name t x) (has_tag ts t) k in
    (not_among (ts ++ t ∷ []) x (more_lacks ts x t (lacks ts x h.0) (turned x t ∙ new.0)), once_more ts t h.1 new.1)

-- a new text stands behind the others
pub put_last : (vs : List Text) (v : Text) → has_tag (texts vs) v.items ≡ false → texts (insert_key (λ (a b : Text). same_name a.items b.items) vs v) ≡ texts vs ++ v.items ∷ []
put_last vs v h = ap (λ b. texts (cond b vs (vs ++ v ∷ []))) (any_text v.items vs ∙ h) ∙ map-append (λ (w : Text). w.items) vs (v ∷ [])

-- a tag was put behind the others, or all stayed
pub put_sound : {A E : Type 0} (r : Result A E) (old new : List (List ℕ)) (t : List ℕ) → OnOk r (new ≡ old ++ t ∷ []) → OnErr r (new ≡ old)
    → AreSound old → has_tag old t ≡ false → is_full old ≡ false → AreSound new
put_sound (Ok a) old new t ok err sound lacks room =
    let place = ltb-false tag_limit (length old + 1) room in
    subst AreSound (sym ok) (record { once = once_more old t sound.once lacks; few = omega (arith, length-append old (t ∷ []), place) })
put_sound (Err e) old new t ok err sound lacks room = subst AreSound (sym err) sound

-- ---- one tag less

-- where the tag isn't there, all stay
none_goes : (ts : List (List ℕ)) (q : List ℕ) → has_tag ts q ≡ false → without_tag ts q ≡ ts
none_goes [] q h = refl
none_goes (t ∷ ts) q h =
    let parts = or_parts (same_name q t) (has_tag ts q) h in
    ap (λ b. cond (not b) (t ∷ without_tag ts q) (without_tag ts q)) (turned t q ∙ parts.0) ∙ ap (λ xs. t ∷ xs) (none_goes ts q parts.1)

pub goes : (vs : List Text) (q : List ℕ) → AreDifferent (texts vs) → texts (remove_key (λ (v : Text). same_name q v.items) vs) ≡ without_tag (texts vs) q
goes [] q h = refl
goes (v ∷ vs) q h = by (same_name q v.items) refl (goes vs q)
  where
    by : (b : Bool) → same_name q v.items ≡ b → (AreDifferent (texts vs) → texts (remove_key (λ (w : Text). same_name q w.items) vs) ≡ without_tag (texts vs) q) → texts (cond b vs (v ∷ remove_key (λ (w : Text). same_name q w.items) vs)) ≡ without_tag (texts (v ∷ vs)) q
    by true e rest =
        sym (none_goes (texts vs) q (alike q v.items e (texts vs) ∙ lacks (texts vs) v.items h.0))
        ∙ sym (ap (λ b. cond (not b) (v.items ∷ without_tag (texts vs) q) (without_tag (texts vs) q)) (turned v.items q ∙ e))
    by false e rest =
        ap (λ ts. v.items ∷ ts) (rest h.1)
        ∙ sym (ap (λ b. cond (not b) (v.items ∷ without_tag (texts vs) q) (without_tag (texts vs) q)) (turned v.items q ∙ e))

fewer_lack : (ts : List (List ℕ)) (q t : List ℕ) → has_tag ts t ≡ false → has_tag (without_tag ts q) t ≡ false
fewer_lack [] q t h = refl
fewer_lack (x ∷ ts) q t h = by (not (same_name x q)) (fewer_lack ts q t)
  where
    parts : (same_name t x ≡ false) × (has_tag ts t ≡ false)
    parts = or_parts (same_name t x) (has_tag ts t) h

    by : (b : Bool) → (has_tag ts t ≡ false → has_tag (without_tag ts q) t ≡ false) → has_tag (cond b (x ∷ without_tag ts q) (without_tag ts q)) t ≡ false
    by true rest = neither (same_name t x) (has_tag (without_tag ts q) t) parts.0 (rest parts.1)
    by false rest = rest parts.1

pub once_less : (ts : List (List ℕ)) (q : List ℕ) → AreDifferent ts → AreDifferent (without_tag ts q)
once_less [] q h = tt
once_less (x ∷ ts) q h = by (not (same_name x q)) (once_less ts q)
  where
    by : (b : Bool) → (AreDifferent ts → AreDifferent (without_tag ts q)) → AreDifferent (cond b (x ∷ without_tag ts q) (without_tag ts q))
    by true rest = (not_among (without_tag ts q) x (fewer_lack ts q x (lacks ts x h.0)), rest h.1)
    by false rest = rest h.1

shorter : (ts : List (List ℕ)) (q : List ℕ) → length (without_tag ts q) ≤ length ts
shorter [] q = omega arith
shorter (x ∷ ts) q = by (not (same_name x q)) (shorter ts q)
  where
    by : (b : Bool) → length (without_tag ts q) ≤ length ts → length (cond b (x ∷ without_tag ts q) (without_tag ts q)) ≤ suc (length ts)
    by true rest = omega arith
    by false rest = omega arith

pub less_sound : (ts : List (List ℕ)) (q : List ℕ) → AreSound ts → AreSound (without_tag ts q)
less_sound ts q sound = record { once = once_less ts q sound.once; few = omega (arith, shorter ts q, sound.few) }

-- ---- the tags in front of one

lacks_at : (vs : List Text) (q : List ℕ) (i : ℕ) (d : Text) → i < length vs → has_tag (texts vs) q ≡ false → same_name q (get_or vs i d).items ≡ false
lacks_at [] q i d lt h = absurd (omega arith)
lacks_at (v ∷ vs) q zero d lt h = (or_parts (same_name q v.items) (has_tag (texts vs) q) h).0
lacks_at (v ∷ vs) q (suc i) d lt h = lacks_at vs q i d (omega arith) (or_parts (same_name q v.items) (has_tag (texts vs) q) h).1

pub front_lacks : (vs : List Text) (i : ℕ) (d : Text) → i < length vs → AreDifferent (texts vs) → has_tag (texts (take i vs)) (get_or vs i d).items ≡ false
front_lacks [] i d lt h = absurd (omega arith)
front_lacks (v ∷ vs) zero d lt h = refl
front_lacks (v ∷ vs) (suc i) d lt h =
    let x = (get_or vs i d).items in
    neither (same_name x v.items) (has_tag (texts (take i vs)) x) (turned x v.items ∙ lacks_at vs v.items i d (omega arith) (lacks (texts vs) v.items h.0)) (front_lacks vs i d (omega arith) h.1)

-- What some elements of a list give.
use Rattle.std.proofs.Common.{◌≡◌, Bool, true, false, cond, List, [], ◌∷◌, Option, Some, None, refl, sym, ap, subst, ◌∙◌, ◌⊎◌, inl, inr, ⊎_elim, true≢false}
use Rattle.std.specs.Prelude.{map}
use Rattle.std.specs.List.{cons_option, filter_map}
use Rattle.std.specs.Cmp.{tied_itself}
use Rattle.std.specs.declared.cmp.Ordering.{Ordering}
use Rattle.std.specs.Ordering.{is_eq, eq_by_cmp}
use Rattle.std.specs.FinMap.{find, keys, entries, from_entries, get-from_entries}
use Rattle.base.specs.Surveys.{IsIn}
use Rattle.world.specs.Sets.{IsExactOrder}
use Rattle.world.specs.Usage.{IsEntry}
use Rattle.world.proofs.lists.Maps.{entry_of}

module _ {A B : Type 0} (g : A → Option B) where
  pub in_given : (xs : List A) (a : A) (b : B) → IsIn xs a → g a ≡ Some b → IsIn (filter_map g xs) b
  in_given [] a b i e = absurd i
  in_given (x ∷ xs) a b i e = ⊎_elim
      (λ is. subst (λ y. IsIn (cons_option y (filter_map g xs)) b) (sym (ap g (sym is) ∙ e)) (inl refl))
      (λ k. onto (g x) (in_given xs a b k e))
      i
    where
      onto : (y : Option B) → IsIn (filter_map g xs) b → IsIn (cons_option y (filter_map g xs)) b
      onto None k = k
      onto (Some c) k = inr k

  pub from_given : (xs : List A) (b : B) → IsIn (filter_map g xs) b → (a : A) × IsIn xs a × (g a ≡ Some b)
  from_given [] b i = absurd i
  from_given (x ∷ xs) b i = at (g x) refl (λ k. let r = from_given xs b k in (r.0, inr r.1, r.2)) i
    where
      at : (y : Option B) → g x ≡ y → (IsIn (filter_map g xs) b → (a : A) × IsIn (x ∷ xs) a × (g a ≡ Some b)) → IsIn (cons_option y (filter_map g xs)) b
          → (a : A) × IsIn (x ∷ xs) a × (g a ≡ Some b)
      at None e rest k = rest k
      at (Some c) e rest k = ⊎_elim (λ is. (x, inl refl, e ∙ ap Some (sym is))) rest k

-- the keys of a map that is made of a list
module _ {K X : Type 0} {R : K → K → Ordering} (o : IsExactOrder R) where
  found : (es : List (K × X)) (q : K) (v : X) → IsIn es (q, v) → (x : X) × (find R q es ≡ Some x)
  found [] q v i = absurd i
  found (e ∷ es) q v i = at (eq_by_cmp R q e.0) refl (λ k. found es q v k) i
    where
      at : (b : Bool) → eq_by_cmp R q e.0 ≡ b → (IsIn es (q, v) → (x : X) × (find R q es ≡ Some x)) → ((q, v) ≡ e) ⊎ IsIn es (q, v)
          → (x : X) × (cond b (Some e.1) (find R q es) ≡ Some x)
      at true t rest k = (e.1, refl)
      at false t rest k = ⊎_elim
          (λ is. absurd (true≢false (sym (ap is_eq (tied_itself o.total q)) ∙ ap (eq_by_cmp R q) (ap (λ (p : K × X). p.0) is) ∙ t)))
          rest
          k

  in_keys : (es : List (K × X)) (q : K) (v : X) → IsEntry es q v → IsIn (map (λ e. e.0) es) q
  in_keys [] q v i = absurd i
  in_keys (e ∷ es) q v i = ⊎_elim (λ is. inl is.0) (λ k. inr (in_keys es q v k)) i

  pub key_of : (es : List (K × X)) (q : K) (v : X) → IsIn es (q, v) → IsIn (keys (from_entries {R = R} es)) q
  key_of es q v i =
      let f = found es q v i in
      in_keys (entries (from_entries {R = R} es)) q f.0 (entry_of o (from_entries {R = R} es) q f.0 (get-from_entries o.total es q ∙ f.1))

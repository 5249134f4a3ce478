-- The world that a change is asked in and the one that it leads to are alike.
use Rattle.std.proofs.Common.{◌≡◌, ℕ, Some, refl, sym, ap, subst, ◌∙◌, ⊎_elim}
use Rattle.std.specs.Option.{option_map_or}
use Rattle.std.specs.FinMap.{get, insert}
use Rattle.base.specs.declared.number.Key.{Key}
use Rattle.base.specs.Map.{Map}
use Rattle.base.specs.Rewrite.{Changes, rewrite}
use Rattle.model.specs.World.{World, FileSystem}
use Rattle.model.specs.Edits.{after_change}
use Rattle.world.specs.Shapes.{Name, name_order}
use Rattle.world.proofs.lists.Maps.{same_value, no_value, key_cases, get-insert_same, get-insert_other}
use Rattle.limits.specs.Asked.{AreAlike, IsNumberedOnce, AreLiveAlike, AreWorldsAlike}
use Rattle.limits.proofs.Counts.{alike_itself, rewrites_alike}

module _ (w : World) (name : Name) (s : FileSystem) (at : get w.file_systems name ≡ Some s) where
  abbrev pub with_live : Map → World
  with_live m = record w { file_systems = insert w.file_systems name (record s { live = m }) }

  pub live_there : (m : Map) (q : Name) → q ≡ name → get (with_live m).file_systems q ≡ Some (record s { live = m })
  live_there m q same = ap (get (with_live m).file_systems) same ∙ get-insert_same name_order w.file_systems name (record s { live = m })

  pub others : (m : Map) (q : Name) → ¬ (q ≡ name) → get (with_live m).file_systems q ≡ get w.file_systems q
  others m q apart = get-insert_other name_order w.file_systems name (record s { live = m }) q apart

  -- the world after a change
  pub after_is : (c : Changes) (number : Key → ℕ) → after_change w name c number ≡ with_live (rewrite s.live c w.group number)
  after_is c number = ap (λ x. option_map_or (λ (s : FileSystem). record w { file_systems = insert w.file_systems name (record s { live = rewrite s.live c w.group number }) }) x w) at

  -- it frees nothing
  pub change_frees_none : (c : Changes) (number : Key → ℕ) → (after_change w name c number).freeing ≡ w.freeing
  change_frees_none c number = ap (λ (v : World). v.freeing) (after_is c number)

  module _ (all : (q : Name) (x : FileSystem) → get w.file_systems q ≡ Some x → IsNumberedOnce x.live) where
    -- one live map in the place of another that is like it
    live_alike : (m n : Map) → AreAlike w.group m n → IsNumberedOnce m → IsNumberedOnce n → AreWorldsAlike (with_live m) (with_live n)
    live_alike m n alike once once' = record {
      group = refl;
      each = λ q t is. ⊎_elim
          (λ (same : q ≡ name). (
            record s { live = m },
            live_there m q same,
            subst (AreLiveAlike w.group (record s { live = m })) (same_value (record s { live = n }) t (sym (live_there n q same) ∙ is))
                (record { live = alike; once = once; once' = once'; snaps = refl; origin = refl; limits = refl }),
          ))
          (λ (apart : ¬ (q ≡ name)).
          let e = sym (others n q apart) ∙ is in (
            t,
            others m q apart ∙ e,
            record { live = alike_itself w.group t.live; once = all q t e; once' = all q t e; snaps = refl; origin = refl; limits = refl },
          ))
          (key_cases name_order q name);
      none = λ q is. ⊎_elim
          (λ (same : q ≡ name). absurd (no_value (record s { live = n }) (sym is ∙ live_there n q same)))
          (λ (apart : ¬ (q ≡ name)). others m q apart ∙ sym (others n q apart) ∙ is)
          (key_cases name_order q name);
    }

    -- a change with these numbers or with those
    pub changes_alike : (c : Changes) (number other : Key → ℕ) → IsNumberedOnce (rewrite s.live c w.group number) → IsNumberedOnce (rewrite s.live c w.group other)
        → AreWorldsAlike (after_change w name c number) (after_change w name c other)
    changes_alike c number other once once' =
        subst (λ v. AreWorldsAlike v (after_change w name c other)) (sym (after_is c number))
        (subst (AreWorldsAlike (with_live (rewrite s.live c w.group number))) (sym (after_is c other))
        (live_alike (rewrite s.live c w.group number) (rewrite s.live c w.group other) (rewrites_alike s.live c w.group number other) once once'))

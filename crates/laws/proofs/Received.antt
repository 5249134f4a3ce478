-- The contents of a rewritten map are the old ones with the changes made, so the records of a send, as one change, make the sent contents.
use Rattle.std.proofs.Common.{◌≡◌, ℕ, ◌/◌, Bool, true, false, cond, ◌&&◌, List, [], Option, Some, None, refl, sym, ap, ◌∙◌, arith, true≢false}
use Rattle.std.specs.Prelude.{is_some, not, unwrap_or}
use Rattle.std.specs.Option.{option_map}
use Rattle.std.specs.Ordering.{nat_cmp}
use Rattle.std.specs.Cmp.{nat_cmp_total}
use Rattle.std.specs.FinMap.{FinMap, get, keys, same_map, nat_cmp-IsAntisymmetric}
use Rattle.std.proofs.lemmas.Bool.{eq-eqb, and_from, false_from_ne_true}
use Rattle.base.specs.declared.number.Key.{Key}
use Rattle.base.specs.Key.{covers}
use Rattle.base.specs.Map.{Map, Cell, Contents, contents}
use Rattle.base.specs.Rewrite.{Changes, changed_contents, rewrite, cell_after, new_cell, is_touched}
use Rattle.base.proofs.RewriteLaw.{get-rewrite}
use Rattle.base.proofs.Contents.{get-contents}
use Rattle.stream.specs.Records.{records_since, changes_of}
use Rattle.laws.specs.Records.{leaf_key}
use Rattle.laws.specs.Laws.{RewriteChangesContents, ReceivesDifference, FullReceives}
use Rattle.laws.proofs.Changed.{get-changed}
use Rattle.laws.proofs.Sent.{entry_in}
use Rattle.laws.proofs.Applied.{none_from, nothing_shared, sends_difference}
use Rattle.batch.proofs.Words.{leaf_of_keys}
use Rattle.world.specs.Shapes.{view_order}
use Rattle.world.proofs.lists.Maps.{entry_of}
use Rattle.world.proofs.lists.Listed.{map_in}
use Rattle.world.proofs.changes.Drawn.{none_tree}
use Rattle.world.proofs.lists.Finding.{or_none, any_none}
use Rattle.std.specs.FinMap as finmap
use Rattle.std.specs.FinMap.{entries}
use Rattle.base.specs.Surveys.{IsIn}
use Rattle.std.proofs.Math.Nat.{div-one}

key_in : {X : Type 0} (m : FinMap nat_cmp X) (q : ℕ) (v : X) → get m q ≡ Some v → IsIn (keys m) q
key_in m q v e = map_in (λ e. e.0) (entries m) (q, v) (entry_in (entries m) q v (entry_of view_order m q v e))

covers_itself : (x : ℕ) → covers (leaf_key x) x ≡ true
covers_itself x = eq-eqb (x / 1) x (div-one x)

either : (b : Bool) (o : Option (List ℕ)) → cond b o o ≡ o
either true o = refl
either false o = refl

module _ (m : Map) (c : Changes) (g : ℕ) (number : Key → ℕ) (x : ℕ) where
  -- a leaf that isn't touched isn't written, nor punched where it is present
  unwritten : is_touched m c (leaf_key x) ≡ false → get c.writes x ≡ None
  unfolding is_touched
  unwritten e = none_from (get c.writes x) (λ v there.
      let no = any_none (covers (leaf_key x)) (keys c.writes) (or_none _ _ e).0 x (key_in c.writes x v there) in
      true≢false (sym (covers_itself x) ∙ no))

  unpunched : is_touched m c (leaf_key x) ≡ false → (v : List ℕ) → get (contents m) x ≡ Some v → c.punches x ≡ false
  unfolding is_touched
  unpunched e v there = false_from_ne_true (c.punches x) (λ t.
      let no = any_none (λ n. c.punches n && covers (leaf_key x) n) (keys (contents m)) (or_none _ _ e).1 x (key_in (contents m) x v there) in
      true≢false (sym (and_from (c.punches x) (covers (leaf_key x) x) t (covers_itself x)) ∙ no))

  leaf_new : (after : Contents) → option_map (λ (c : Cell). c.bytes) (new_cell after g number (leaf_key x)) ≡ get after x
  unfolding new_cell
  leaf_new after = ap (λ b. option_map (λ (c : Cell). c.bytes) (cond b (Some (record { number = number (leaf_key x); birth = g; bytes = unwrap_or (get after x) [] })) None)) (leaf_of_keys after x) ∙ by (get after x)
    where
      by : (o : Option (List ℕ)) → option_map (λ (c : Cell). c.bytes) (cond (is_some o) (Some (record { number = number (leaf_key x); birth = g; bytes = unwrap_or o [] })) None) ≡ o
      by None = refl
      by (Some b) = refl

  -- so it has what it had
  untouched : is_touched m c (leaf_key x) ≡ false → get (changed_contents (contents m) c) x ≡ get (contents m) x
  untouched e =
      get-changed (contents m) c x ∙ ap (λ w. cond (is_some w) w (cond (not (c.punches x)) (get (contents m) x) None)) (unwritten e) ∙ by (get (contents m) x) refl
    where
      by : (o : Option (List ℕ)) → get (contents m) x ≡ o → cond (not (c.punches x)) o None ≡ o
      by None there = either (not (c.punches x)) None
      by (Some v) there = ap (λ b. cond (not b) (Some v) None) (unpunched e v there)

  leaf_after : option_map (λ (c : Cell). c.bytes) (cell_after m c g number (leaf_key x)) ≡ get (changed_contents (contents m) c) x
  unfolding cell_after
  leaf_after = by (is_touched m c (leaf_key x)) refl
    where
      by : (b : Bool) → is_touched m c (leaf_key x) ≡ b
          → option_map (λ (c : Cell). c.bytes) (cond (is_touched m c (leaf_key x)) (new_cell (changed_contents (contents m) c) g number (leaf_key x)) (get m (leaf_key x))) ≡ get (changed_contents (contents m) c) x
      by true e = ap (λ b. option_map (λ (c : Cell). c.bytes) (cond b (new_cell (changed_contents (contents m) c) g number (leaf_key x)) (get m (leaf_key x)))) e ∙ leaf_new (changed_contents (contents m) c)
      by false e =
          ap (λ b. option_map (λ (c : Cell). c.bytes) (cond b (new_cell (changed_contents (contents m) c) g number (leaf_key x)) (get m (leaf_key x)))) e
          ∙ sym (get-contents m x)
          ∙ sym (untouched e)

  leaf_rewritten : get (contents (rewrite m c g number)) x ≡ get (changed_contents (contents m) c) x
  leaf_rewritten = get-contents (rewrite m c g number) x ∙ ap (option_map (λ (c : Cell). c.bytes)) (get-rewrite m c g number (leaf_key x) (omega arith)) ∙ leaf_after

pub rewrite_changes_contents : RewriteChangesContents
rewrite_changes_contents m c g number = same_map nat_cmp_total nat_cmp-IsAntisymmetric _ _ (leaf_rewritten m c g number)

pub receives_difference : ReceivesDifference
receives_difference n m t g s live sent new a b shares same done =
    ap contents done.1 ∙ rewrite_changes_contents live (changes_of (records_since sent t)) g done.0
    ∙ ap (λ c. changed_contents c (changes_of (records_since sent t))) same
    ∙ sends_difference n m t s sent a b shares

pub full_receives : FullReceives
full_receives n g sent new tree born done = receives_difference n n 0 g finmap.empty finmap.empty sent new (none_tree n) tree (nothing_shared sent born) refl done

-- Where the account of one file system changes, the lines from before are behind the world with the change.
use Rattle.std.proofs.Common.{◌≡◌, ℕ, ◌<◌, ◌^◌, List, [], length, get_or, map, Option, Some, None, is_some, refl, sym, ap, subst, ◌∙◌, arith}
use Rattle.std.specs.List.{All}
use Rattle.std.specs.FinMap.{get, keys}
use Rattle.std.proofs.lemmas.List.{get_or_default}
use Rattle.model.specs.World.{World, FileSystem}
use Rattle.model.specs.Hierarchy.{IsHierarchy}
use Rattle.world.proofs.lists.Maps.{no_value, same_value}
use Rattle.limits.specs.Levels.{IsUnder}
use Rattle.limits.proofs.Names.{under_itself}
use Rattle.limits.specs.declared.line.Line.{Line}
use Rattle.limits.specs.Lines.{used_in, charge_in}
use Rattle.limits.specs.Changes.{IsModest, IsChanged, IsRecounted, IsLedgerOf, CanWalkUp, IsBehind, line_under, amended}
use Rattle.limits.proofs.Changes.{start_at}
use Rattle.limits.proofs.Differing.{ledger_named, behind, can_begin}
use Rattle.limits.proofs.SameKeys.{absent}
use Rattle.limits.proofs.Ways.{ledger_long, modest_amended}

-- worlds with one account changed differ at one name
pub differ : (old new : World) (name : List ℕ) (here referenced : ℕ) → IsChanged old new name here referenced → IsRecounted old new name
differ old new name here referenced ch = record {
  hierarchy = ch.hierarchy;
  names = λ q ne. there q (get new.file_systems q) refl (get old.file_systems q) refl;
  limits = λ q f g ne. ch.limits q f g;
  others = ch.others;
  referenced = ch.others_referenced;
}
  where
    there : (q : List ℕ) (x : Option FileSystem) → get new.file_systems q ≡ x → (y : Option FileSystem) → get old.file_systems q ≡ y → is_some (get new.file_systems q) ≡ is_some (get old.file_systems q)
    there q None e y f = ap is_some (e ∙ sym (absent new.file_systems old.file_systems (sym ch.names) q e))
    there q (Some g) e None f = absurd (no_value g (sym (absent old.file_systems new.file_systems ch.names q f) ∙ e))
    there q (Some g) e (Some h) f = ap is_some e ∙ sym (ap is_some f)

-- and a world doesn't differ from itself
pub differ_nowhere : (w : World) (name : List ℕ) → IsHierarchy w.file_systems → IsRecounted w w name
differ_nowhere w name good = record {
  hierarchy = good;
  names = λ q ne. refl;
  limits = λ q f g ne at at'. ap (λ (x : FileSystem). x.limits) (same_value g f (sym at' ∙ at));
  others = λ q out. record { here = refl; reserved = refl };
  referenced = λ q ne. refl;
}

module _ (names : List (List ℕ)) (lines : List Line) (modest : All IsModest lines) (old : World) (of : IsLedgerOf old names lines) (name : List ℕ) (i : ℕ)
    (within : i < length names) (named : get_or names i [] ≡ name) (here referenced : ℕ) (small : here < 2 ^ 42) (l line : Line) (at : l ≡ get_or lines i l) (own : line ≡ amended l here referenced) where
  inside : i < length (keys old.file_systems)
  inside = let n = ap length of.named in omega (arith, n, within)

  key_is : get_or (keys old.file_systems) i [] ≡ name
  key_is = ap (λ ns. get_or ns i []) of.named ∙ named

  long : length lines ≡ length names
  long = ap length of.own ∙ ledger_long old of.hierarchy ∙ ap length of.named

  in_lines : i < length lines
  in_lines = let n = long in omega (arith, n, within)

  line_was : (d : Line) → l ≡ get_or lines i d
  line_was d = at ∙ get_or_default lines i l d in_lines

  -- its line can be written
  pub can_settle : CanWalkUp names lines i line
  can_settle = subst (λ ns. CanWalkUp ns lines i line) of.named
      (can_begin old old of.hierarchy name (differ_nowhere old name of.hierarchy) lines (of.own ∙ ledger_named old) i inside
      (subst (λ n. IsUnder n name) (sym key_is) (under_itself name)) (λ j lt u. subst (IsUnder (get_or (keys old.file_systems) j [])) (sym key_is) u)
      (subst (All IsModest) of.own modest) line
      (subst IsModest (sym own) (modest_amended l here referenced small (subst IsModest (sym at) (modest i l in_lines))))
      (let a = ap used_in own in let b = ap used_in (line_was line) in omega (arith, a, b, small))
      (let a = ap charge_in own in let b = ap charge_in (line_was line) in omega (arith, a, b, small)))

  -- and the lines are those of each world with the change, but for that
  pub settles : (new : World) → IsChanged old new name here referenced → IsBehind new names lines i line
  settles new ch = subst (λ ns. IsBehind new ns lines i line) (ch.names ∙ of.named)
      (behind old new of.hierarchy name (differ old new name here referenced ch) lines (of.own ∙ ledger_named old ∙ ap (map (line_under old)) (sym ch.names)) i
      (let n = ap length ch.names in let w = inside in omega (arith, n, w))
      (subst (λ n. IsUnder n name) (sym key_new) (under_itself name)) (λ j lt u. subst (IsUnder (get_or (keys new.file_systems) j [])) (sym key_new) u)
      line (own ∙ ap (λ x. amended x here referenced) (line_was line ∙ ap (λ ls. get_or ls i line) of.own) ∙ sym (start_at old new of.hierarchy name here referenced ch i inside line key_is)))
    where
      key_new : get_or (keys new.file_systems) i [] ≡ name
      key_new = ap (λ ns. get_or ns i []) ch.names ∙ key_is

-- Whether two maps are the same, as a test.
use Rattle.std.specs.Prelude.{◌≡◌, Bool, true, false, ◌==◌, ◌&&◌, refl}
use Rattle.std.specs.Bool.{Decides}
use Rattle.std.specs.Str.{bytes_eq}
use Rattle.std.specs.Cmp.{IsEquivalence}
use Rattle.std.specs.Cmp.Lexicographic.{pointwise}
use Rattle.std.specs.FinMap.{entries, same_entries_map}
use Rattle.std.proofs.Common.{sym, ap, true≢false}
use Rattle.std.proofs.lemmas.Bool.Decides.{Decides-eqb, same_from_decides}
use Rattle.std.proofs.lemmas.Slice.Eq.{bytes_eq-Decides, slice_eq-Decides}
use Rattle.base.specs.declared.number.Key.{Key}
use Rattle.base.specs.Map.{Cell, Map}

-- the same key, with the same block and the same bytes (profile)
abbrev pub same_entry : Key × Cell → Key × Cell → Bool
same_entry a b = ((a.0.level == b.0.level) && (a.0.index == b.0.index)) && ((a.1.number == b.1.number) && ((a.1.birth == b.1.birth) && bytes_eq a.1.bytes b.1.bytes))

-- the same entries (profile)
unfoldable pub same_maps : Map → Map → Bool
same_maps m n = pointwise same_entry (entries m) (entries n)

both : {P Q : Type 0} (a b : Bool) → Decides a P → Decides b Q → Decides (a && b) (P × Q)
both true b p q = (λ t. (p.0 refl, q.0 t), λ e. q.1 e.1)
both false b p q = (λ t. absurd (true≢false (sym t)), λ e. p.1 e.0)

entry_Decides : (a b : Key × Cell) → Decides (same_entry a b) (a ≡ b)
entry_Decides a b =
    let d = both _ _ (both _ _ (Decides-eqb a.0.level b.0.level) (Decides-eqb a.0.index b.0.index))
    (both _ _ (Decides-eqb a.1.number b.1.number) (both _ _ (Decides-eqb a.1.birth b.1.birth) (bytes_eq-Decides a.1.bytes b.1.bytes))) in (
      λ t. let e = d.0 t in λ i. (record { level = e.0.0 i; index = e.0.1 i }, record { number = e.1.0 i; birth = e.1.1.0 i; bytes = e.1.1.1 i }),
      λ e. d.1 ((ap (λ (x : Key × Cell). x.0.level) e, ap (λ (x : Key × Cell). x.0.index) e), (ap (λ (x : Key × Cell). x.1.number) e, (ap (λ (x : Key × Cell). x.1.birth) e, ap (λ (x : Key × Cell). x.1.bytes) e))),
    )

-- the test holds of one map alone
pub same_maps-Decides : (m n : Map) → Decides (same_maps m n) (m ≡ n)
unfolding same_maps
same_maps-Decides m n =
    let d = slice_eq-Decides entry_Decides (entries m) (entries n) _ refl in
    (λ t. same_entries_map m n (d.0 t), λ e. d.1 (ap entries e))

-- and so it is an equivalence
pub same_maps_laws : IsEquivalence same_maps
same_maps_laws = record {
  refl = λ m. (same_maps-Decides m m).1 refl;
  symm = λ m n. same_from_decides _ _ (same_maps-Decides m n) (let d = same_maps-Decides n m in (λ t. sym (d.0 t), λ e. d.1 (sym e)));
  congr = λ m n o t. ap (λ x. same_maps x o) ((same_maps-Decides m n).0 t);
}

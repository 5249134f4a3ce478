use Rattle.std.specs.Prelude.{◌==◌}
use Rattle.std.proofs.Common.{◌≡◌, ap, Bool, true, false, ◌&&◌, sym, true≢false}
use Rattle.std.specs.Bool.{Decides}
use Rattle.std.proofs.lemmas.Bool.Decides.{Decides-and, Decides-like, Decides-eqb}
use Rattle.std.proofs.lemmas.Slice.Eq.{slice_eq-Decides, bytes_eq-Decides}
use Rattle.base.specs.declared.number.Guid.{Guid}
use Rattle.base.specs.declared.number.Group.{Group}
use Rattle.base.specs.declared.name.member.Member.{Member}
use Rattle.model.specs.declared.source.Source.{Source}
use Rattle.model.specs.declared.source.SourceName.{SourceName}
use Rattle.model.specs.declared.source.SourceName.TheVariants.{Snapshot as ASnapshot, Bookmark as ABookmark}
use Rattle.model.specs.contracts.source.SourcePartialEq.TheImpl.{eq-value}
use Rattle.model.proofs.sight.are_same_sources.Goals as goal

abbrev of : SourceName → Guid → Group → Source
of n g h = record { name = n; guid = g; group = h }

abbrev parts : SourceName → Member
parts (ASnapshot m) = m
parts (ABookmark m) = m

abbrev is_snapshot : SourceName → Bool
is_snapshot (ASnapshot m) = true
is_snapshot (ABookmark m) = false

differ : (x y : Member) (g g' : Guid) (h h' : Group) → of (ASnapshot x) g h ≡ of (ABookmark y) g' h' → ⊥
differ x y g g' h h' e = true≢false (ap (λ (s : Source). is_snapshot s.name) e)

same_numbers : (g g' : Guid) (h h' : Group) → Decides (g.0 == g'.0 && h.0 == h'.0) ((g.0 ≡ g'.0) × (h.0 ≡ h'.0))
same_numbers g g' h h' = Decides-and _ _ (Decides-eqb g.0 g'.0) (Decides-eqb h.0 h'.0)

by_names : (m n : SourceName) (g g' : Guid) (h h' : Group) → Decides (eq-value.it (of m g h) (of n g' h')) (of m g h ≡ of n g' h')
by_names (ASnapshot x) (ASnapshot y) g g' h h' = Decides-like _
    (λ p. λ i. of (ASnapshot (record { file_system = p.0.0 i; component = p.0.1 i })) (record { 0 = p.1.0 i }) (record { 0 = p.1.1 i }))
    (λ e. ((ap (λ (s : Source). (parts s.name).file_system) e, ap (λ (s : Source). (parts s.name).component) e), (ap (λ (s : Source). s.guid.0) e, ap (λ (s : Source). s.group.0) e)))
    (Decides-and _ _ (Decides-and _ _ (bytes_eq-Decides x.file_system y.file_system) (bytes_eq-Decides x.component y.component)) (same_numbers g g' h h'))
by_names (ABookmark x) (ABookmark y) g g' h h' = Decides-like _
    (λ p. λ i. of (ABookmark (record { file_system = p.0.0 i; component = p.0.1 i })) (record { 0 = p.1.0 i }) (record { 0 = p.1.1 i }))
    (λ e. ((ap (λ (s : Source). (parts s.name).file_system) e, ap (λ (s : Source). (parts s.name).component) e), (ap (λ (s : Source). s.guid.0) e, ap (λ (s : Source). s.group.0) e)))
    (Decides-and _ _ (Decides-and _ _ (bytes_eq-Decides x.file_system y.file_system) (bytes_eq-Decides x.component y.component)) (same_numbers g g' h h'))
by_names (ASnapshot x) (ABookmark y) g g' h h' = (λ e. absurd (true≢false (sym e)), λ e. absurd (differ x y g g' h h' e))
by_names (ABookmark x) (ASnapshot y) g g' h h' = (λ e. absurd (true≢false (sym e)), λ e. absurd (differ y x g' g h' h (sym e)))

-- src/sight.rt:99:1
pub returns : goal.returns
returns c = slice_eq-Decides (λ a b. by_names a.name b.name a.guid b.guid a.group b.group) c.args.one.now c.args.other.now c.eq.result c.eq.ensures

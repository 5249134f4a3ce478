use Rattle.std.proofs.Common.{rules, ◌≡◌, ap, Bool, ◌&&◌, ◌∙◌}
use Rattle.std.specs.Bool.{Decides}
use Rattle.std.specs.Str.{bytes_eq}
use Rattle.std.proofs.lemmas.Bool.Decides.{Decides-and}
use Rattle.std.proofs.lemmas.Slice.Eq.{slice_eq-Decides, bytes_eq-Decides}
use Rattle.base.specs.declared.name.member.Member.{Member}
use Rattle.model.proofs.snap_names.SnapNames.same.Goals as goal

-- the bytes of both parts are equal
abbrev members_eq : Member → Member → Bool
members_eq a b = bytes_eq a.file_system b.file_system && bytes_eq a.component b.component

of_parts : (a b : Member) → (a.file_system ≡ b.file_system) × (a.component ≡ b.component) → a ≡ b
of_parts a b e =
    ap (λ f. let m : Member = record { file_system = f; component = a.component } in m) e.0
    ∙ ap (λ k. let m : Member = record { file_system = b.file_system; component = k } in m) e.1

members_decided : (a b : Member) → Decides (members_eq a b) (a ≡ b)
members_decided a b =
    let parts = Decides-and _ _ (bytes_eq-Decides a.file_system b.file_system) (bytes_eq-Decides a.component b.component) in
    (λ e. of_parts a b (parts.0 e), λ e. parts.1 (ap (λ (m : Member). m.file_system) e, ap (λ (m : Member). m.component) e))

-- src/snap_names.rt:41:5
pub returns : goal.returns
returns c = slice_eq-Decides {E = members_eq} members_decided c.args.self.now c.args.other.now c.eq.result (search rules)

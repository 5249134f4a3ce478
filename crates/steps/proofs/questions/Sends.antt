-- A send: why it is refused, and its steps.
use Rattle.std.proofs.Common.{◌≡◌, ℕ, List, [], ◌∷◌, ◌++◌, Option, Some, None, not, refl, sym, ap, ◌∙◌}
use Rattle.std.specs.Prelude.{is_some}
use Rattle.std.specs.List.{filter_map}
use Rattle.std.specs.Option.{option_map, option_map_or, option_and_then}
use Rattle.base.specs.Map.{Map}
use Rattle.base.specs.declared.refusal.Refusal.{Refusal}
use Rattle.base.specs.declared.refusal.Refusal.TheVariants.{NoDataset, NotSnapshot, NotAncestor}
use Rattle.base.specs.declared.name.member.Member.{Member}
use Rattle.base.specs.declared.name.target.Target.{Target}
use Rattle.base.specs.declared.name.target.Target.TheVariants.{Snapshot as OfSnapshot}
use Rattle.stream.specs.Spelling.{spell}
use Rattle.model.specs.declared.request.Request.TheVariants.{Send}
use Rattle.model.specs.declared.reply.Reply.TheVariants.{Done, Refused, Stream as StreamIs}
use Rattle.model.specs.Sights.{Seen}
use Rattle.model.specs.World.{FileSystem, Snap, SnapId, Snapped, id_of, snap_at, file_system_at, map_of}
use Rattle.model.specs.State.{State}
use Rattle.model.specs.Refusals.{refusal_of}
use Rattle.model.specs.Rule.{first_of}
use Rattle.model.specs.Step.{Step}
use Rattle.model.specs.Targets.{is_snapshot_name}
use Rattle.model.specs.requests.Rollback.{placed}
use Rattle.model.specs.requests.Send.{Start, snapshot_source, bookmark_sources, sources_of, sight_of, start_of, start_named, sending_from, stream_of, send_row, send_rule}
use Rattle.world.specs.Shapes.{Name}
use Rattle.world.specs.Tables.{world_of}
use Rattle.world.proofs.lineage.Bridge.{map_of_kept}
use Rattle.steps.specs.Steady.{IsSteady, snap_in}
use Rattle.steps.specs.Edits.{datasets_of}
use Rattle.steps.proofs.quotas.Alike.{older_alike}
use Rattle.steps.proofs.numbers.Ruled.{refused_by, answered_by}
use Rattle.steps.proofs.requests.Viewing.{one_placed}

-- ---- what a send of a snapshot sees, in a state's world and in that of its datasets

module _ (s : State) where
  pub sources_alike : (id : SnapId) → sources_of (world_of (datasets_of s)) id ≡ sources_of s.now id
  unfolding sources_of
  sources_alike id = ap (λ l. filter_map (snapshot_source s.now) l
      ++ option_map_or (λ (p : Name × Snap). option_map_or (λ (f : FileSystem). bookmark_sources p.0 f id.group) (file_system_at s.now p.0) []) (snap_at s.now id) [])
      (older_alike s (Snapped id))

  sight_alike : (id : SnapId) → sight_of (world_of (datasets_of s)) id ≡ sight_of s.now id
  unfolding sight_of map_of
  sight_alike id = ap (λ l. record { map = map_of s.now (Snapped id); guid = id.guid; group = id.group; sources = l }) (sources_alike id)

  start_alike : (target : Target) (from : Option Target) → start_named (world_of (datasets_of s)) target from ≡ start_named s.now target from
  start_alike target from = ap (λ f. option_and_then {T = Seen} {U = Start} (λ seen. start_of seen.sources from) (option_map {T = FileSystem × Snap} {U = Seen} f (placed s.now target)))
      (λ i p. sight_alike (id_of p.1) i)

  row_alike : (target : Target) (from : Option Target) → first_of (send_row (world_of (datasets_of s)) target from) ≡ first_of (send_row s.now target from)
  row_alike target from = ap
      (λ x. first_of ((not (is_snapshot_name target), NotSnapshot) ∷ (not (is_some (placed s.now target)), NoDataset) ∷ (not (is_some x), NotAncestor) ∷ []))
      (start_alike target from)

  -- the sight of a snapshot that is there
  module _ (m : Member) (t : Snap) (found : snap_in s.now.file_systems m ≡ Some t) (steady : IsSteady s) where
    pub sight_is : sight_of s.now (id_of t) ≡ record { map = t.map; guid = t.guid; group = t.group; sources = sources_of s.now (id_of t) }
    unfolding sight_of
    sight_is =
        let at = one_placed s.now m t found in
        ap (λ (x : Map). record { map = x; guid = t.guid; group = t.group; sources = sources_of s.now (id_of t) })
        (map_of_kept s.now s.now.group steady.good.now.systems.lines m.file_system at.0 t (id_of t) at.2 at.3 refl)

-- ---- the steps

module _ (s : State) (from : Option Target) where
  row_is : (target : Target) → refusal_of s (send_rule target from) ≡ first_of (send_row s.now target from)
  unfolding refusal_of
  row_is target = refl

  -- a send that is refused
  pub send_refused : (target : Target) (why : Refusal) → first_of (send_row (world_of (datasets_of s)) target from) ≡ Some why → Step s (Send target from) (Refused why) s
  send_refused target why e = refused_by (Send target from) (send_rule target from) (None, refl, refl) s why (row_is target ∙ sym (row_alike s target from) ∙ e)

  module _ (m : Member) (can : first_of (send_row (world_of (datasets_of s)) (OfSnapshot m) from) ≡ None) where
    -- one that isn't is answered with the bytes of its stream
    pub send_done : IsSteady s → (t : Snap) → snap_in s.now.file_systems m ≡ Some t → (start : Start) → start_named (world_of (datasets_of s)) (OfSnapshot m) from ≡ Some start
        → (bytes : List ℕ) → bytes ≡ spell (sending_from start t.guid t.map) → Step s (Send (OfSnapshot m) from) (StreamIs bytes) s
    unfolding stream_of
    send_done steady t found start started bytes is =
        let at = one_placed s.now m t found in
        let seen = sight_of s.now (id_of t) in
        let sees : start_of seen.sources from ≡ Some start =
        sym (ap (λ x. option_and_then {T = Seen} {U = Start} (λ seen. start_of seen.sources from) (option_map {T = FileSystem × Snap} {U = Seen} (λ p. sight_of s.now (id_of p.1)) x)) at.1)
        ∙ sym (start_alike s (OfSnapshot m) from) ∙ started in
        answered_by (Send (OfSnapshot m) from) (send_rule (OfSnapshot m) from) (None, refl, refl) s steady (StreamIs bytes) refl refl
        (row_is (OfSnapshot m) ∙ sym (row_alike s (OfSnapshot m) from) ∙ can)
        (sym (
        ap (λ x. option_map_or (λ (seen : Seen). option_map_or (λ (start : Start). StreamIs (stream_of seen start)) (start_of seen.sources from) Done) (option_map {T = FileSystem × Snap} {U = Seen} (λ p. sight_of s.now (id_of p.1)) x) Done) at.1
        ∙ ap (λ x. option_map_or (λ (start : Start). StreamIs (stream_of seen start)) x Done) sees
        ∙ ap (λ (x : Seen). StreamIs (stream_of x start)) (sight_is s m t found steady)
        ∙ ap StreamIs (sym is)))

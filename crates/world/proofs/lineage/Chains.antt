use Rattle.std.proofs.Common.{◌≡◌, ℕ, Some, None, refl, sym, ◌∙◌}
use Rattle.std.specs.FinSet.{empty}
use Rattle.world.specs.Shapes.{Name, Shape, Shapes, nothing_before, IsGood}
use Rattle.world.specs.Chains.{no_systems, FreshIsGood}
use Rattle.world.proofs.lists.Maps.{no_value}
use Rattle.world.proofs.lineage.Moves.{make_keeps}

pub empty_good : (m : Shapes) (g : ℕ) → ((name : Name) → m name ≡ None) → IsGood m g
empty_good m g none =
    let no = λ (name : Name) (f : Shape) (h : m name ≡ Some f). no_value f (sym (none name) ∙ h) in
    record {
      facts = record {
        one = λ d n k h. absurd (no h.0 h.1 h.3);
        sound = λ d n h. absurd (no h.0 h.1 h.3);
        prior = λ d n h. absurd (no h.0 h.1 h.3);
        once = λ d e n k b h. absurd (no h.0 h.1 h.3);
      };
      closed = λ name f h. absurd (no name f h);
      placed = λ a b x y s t h. absurd (no a x h);
    }

pub fresh_is_good : FreshIsGood
fresh_is_good m name g pos here others =
    make_keeps no_systems m g name empty None nothing_before (empty_good no_systems g (λ name. refl)) (record { absent = refl; here = here; others = others }) refl pos (λ b h. h)

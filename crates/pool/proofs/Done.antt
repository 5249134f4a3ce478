-- What a pool keeps once a request is done.
use Rattle.std.proofs.Common.{◌≡◌, ◌<◌, ◌^◌, List, Result, Ok, true, map, sym, ap, subst, ◌∙◌, ◌⊎◌, ⊎_elim, rules}
use Rattle.std.specs.Prelude.{◌≢◌, IfOk}
use Rattle.zalloc.specs.declared.BlockState.{BlockState}
use Rattle.base.specs.declared.refusal.Refusal.{Refusal}
use Rattle.base.specs.declared.refusal.Refusal.TheVariants.{NoMemory}
use Rattle.model.specs.Edits.{with_now}
use Rattle.model.specs.Ids.{snap_id}
use Rattle.model.specs.State.{State}
use Rattle.model.specs.Step.{Step}
use Rattle.model.specs.declared.reply.Reply.{Reply}
use Rattle.model.specs.declared.reply.Reply.TheVariants.{Refused}
use Rattle.model.specs.declared.request.Request.{Request}
use Rattle.laws.proofs.Pools.{pools_have_lineages}
use Rattle.laws.specs.Both.{AreSnapshotsOne}
use Rattle.laws.proofs.Both.{one_after}
use Rattle.removals.specs.Requests.{IsSweptBut}
use Rattle.image.specs.Image.{ShownImage}
use Rattle.image.specs.StepWrites.{AreStepWrites, StepWrites, writes_nothing}
use Rattle.image.specs.Stored.{changes_maps}
use Rattle.pool.specs.Effects.{effected, numbers_after, reply_of, Settles, WritesBlocks, image_after, blocks_written, Images, IsPerformed}
use Rattle.pool.specs.Images.{IsImageOf, keeps_after}
use Rattle.pool.specs.Kinds.{kind_of}
use Rattle.pool.specs.Numbers.{synced_numbers}
use Rattle.pool.specs.Pools.{state_in, world_in, AreBelow, IsHeld, IsKept, IsSound}
use Rattle.pool.specs.declared.effect.Effect.{Effect}
use Rattle.pool.specs.declared.keep.Keep.{Keep}
use Rattle.pool.specs.declared.kind.Kind.{Kind}
use Rattle.pool.specs.declared.kind.Kind.TheVariants.{Question, View, Change, Asking}
use Rattle.pool.specs.declared.worlds.World.{World}
use Rattle.pool.proofs.Imaged.{images, effect_writes, only_reading, keeps_are, keeps_so}

pub no_view : {P : Type 0} (k : Kind) → (k ≡ Change) ⊎ ((k ≡ Asking) × P) → k ≡ View → ⊥
no_view k kind is = ⊎_elim (λ (e : k ≡ Change). let x = sym e ∙ is in absurd cc) (λ e. let x = sym e.0 ∙ is in absurd cc) kind

-- what changes a world may lack memory for it
pub no_memory : (s : State) (q : Request) (why : Refusal) → why ≡ NoMemory → kind_of q ≢ Question → kind_of q ≢ View → Step s q (Refused why) s
no_memory s q why is no_question no_view = search rules

-- what was performed, where it wasn't refused
pub done_of : (s : State) (numbers : List BlockState) (w : World) (q : Request) (r : Result Effect Refusal) (e : Effect) → r ≡ Ok e → IsPerformed s numbers w q r → Settles s numbers w e × Step s q (reply_of e) (effected (with_now s (world_in w)) e)
done_of s numbers w q r e is performed = subst (IsPerformed s numbers w q) is performed

pub blocks_of : (q : Request) (r : Result Effect Refusal) (e : Effect) → r ≡ Ok e → IfOk r WritesBlocks → WritesBlocks e
blocks_of q r e is all = subst (λ x. IfOk x WritesBlocks) is all

-- a request that was performed, whose effect is settled
module _ (k k' : Keep) (w to : World) (held : IsHeld k w) (q : Request) (e : Effect) (done : Settles (state_in k w) k.numbers.present to e × Step (state_in k w) q (reply_of e) (effected (with_now (state_in k w) (world_in to)) e))
    (blocks : changes_maps q ≡ true → WritesBlocks e) where
  pub one_done : AreSnapshotsOne (effected (with_now (state_in k w) (world_in to)) e)
  one_done =
      one_after q (reply_of e) (state_in k w) (effected (with_now (state_in k w) (world_in to)) e) (pools_have_lineages (state_in k w) held.sound.steady.good) held.one done.1

  pub image_done : Images (state_in k w) to e
  image_done = images (state_in k w) k.numbers.present held.sound to e done.0 q done.1 blocks

  module _ (state : (x : World) → state_in k' x ≡ effected (state_in k x) e) (numbers : k'.numbers.present ≡ numbers_after (world_in k.last) k.size k.numbers.present e) (image : k'.image ≡ image_after k.size k.image e)
      (synced : k'.numbers.synced ≡ synced_numbers k'.size (world_in k'.last)) (kept : IsKept k.last → IsKept k'.last)
      (swept : IsSweptBut k.last.table (map snap_id k.viewed.items) → IsSweptBut k'.last.table (map snap_id k'.viewed.items))
      (below : AreBelow k.views.opened k.views.next → AreBelow k'.views.opened k'.views.next) where
    pub held_done : IsHeld k' to
    held_done = record {
      sound = subst (λ (x : State). IsSound x k'.numbers.present) (sym (state to))
          (subst (IsSound (effected (with_now (state_in k w) (world_in to)) e)) (sym numbers) done.0.sound);
      now = done.0.kept;
      last = kept held.last;
      views = below held.views;
      synced = synced;
      swept = swept held.swept;
      one = subst AreSnapshotsOne (sym (state to)) one_done;
      image = subst (λ (x : State). IsImageOf x k'.image) (sym (state to))
          (subst (IsImageOf (effected (with_now (state_in k w) (world_in to)) e)) (sym image) (image_done k.image held.image));
    }

    pub writes_done : w.table.group < 2 ^ 64 → (kind_of q ≡ Question → ⊥) → (r : Reply) → r ≡ reply_of e → StepWrites (state_in k w) q r (state_in k' to) k.image k'.image
    writes_done low a r is = record {
      writes = blocks_written k.image.bytes e;
      are = subst (λ (t : State). AreStepWrites (state_in k w) t (blocks_written k.image.bytes e) k.image k'.image) (sym (state to))
          (subst (AreStepWrites (state_in k w) (effected (with_now (state_in k w) (world_in to)) e) (blocks_written k.image.bytes e) k.image) (sym image)
          (effect_writes (state_in k w) k.numbers.present held.sound low k.image held.image to e done.0));
      none = λ quiet. absurd (a (only_reading q e (ap (writes_nothing q) (sym is) ∙ quiet)));
    }

    pub keeps_done : (kind_of q ≡ Question → ⊥) → (kind_of q ≡ View → ⊥) → (r : Reply) → r ≡ reply_of e → k'.image.keeps ≡ keeps_after q r k.image.keeps
    keeps_done a b r is =
        ap (λ (i : ShownImage). i.keeps) image ∙ keeps_are k.size k.image e
        ∙ keeps_so (state_in k w) (effected (with_now (state_in k w) (world_in to)) e) q e a b done.1 k.image.keeps
        ∙ ap (λ x. keeps_after q x k.image.keeps) (sym is)

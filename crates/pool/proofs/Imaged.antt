-- The image once what a request leaves to be done is done.
use Rattle.std.proofs.Common.{◌≡◌, ◌*◌, ◌<◌, ◌^◌, ℕ, suc, true, false, List, [], ◌∷◌, Option, length, map, refl, sym, ap, subst, ◌∙◌, ◌⊎◌, inl, inr, arith}
use Rattle.std.specs.Prelude.{if◌then◌else◌}
use Rattle.std.specs.List.{All}
use Rattle.std.proofs.lemmas.Bool.{false_from_ne_true}
use Rattle.base.specs.Counting.{counted}
use Rattle.base.specs.declared.number.BlockNo.{BlockNo}
use Rattle.base.specs.Map.{IsTree}
use Rattle.stream.specs.Spelling.{Sending}
use Rattle.zalloc.specs.declared.BlockState.{BlockState}
use Rattle.model.specs.Edits.{with_now}
use Rattle.model.specs.State.{State}
use Rattle.model.specs.World.{reach_of}
use Rattle.model.specs.Step.{Step, Follows, done, refused, out_of_memory}
use Rattle.model.specs.requests.{rule_of}
use Rattle.model.specs.declared.request.Request.{Request}
use Rattle.model.specs.declared.request.Request.TheVariants.{Sync as ToSync}
use Rattle.model.specs.declared.reply.Reply.{Reply}
use Rattle.model.specs.declared.reply.Reply.TheVariants.{Group}
use Rattle.world.specs.Worlds.{Place, InNow, InLast, maps_of_both}
use Rattle.image.specs.BlockWrites.{bytes_put, images_put, written_pair}
use Rattle.image.specs.Image.{ShownImage, AreOpen, AreAllOpen}
use Rattle.image.specs.ImageBlocks.{block_at}
use Rattle.image.specs.PathWrites.{block_on}
use Rattle.image.proofs.Patches.{length-bytes_put}
use Rattle.image.proofs.PathOpen.{path_open}
use Rattle.image.specs.Opened.{KeepsJust}
use Rattle.image.specs.StepWrites.{AreMade, AreStepWrites, StepWrites, writes_nothing}
use Rattle.image.specs.Stored.{IsStored, changes_maps}
use Rattle.image.proofs.Drawing.{stored_stay}
use Rattle.image.proofs.StepMade.{none_made, are_step_writes}
use Rattle.image.proofs.StepMaps.{step_maps}
use Rattle.image.proofs.Walking.{bytes_stored}
use Rattle.pool.specs.Effects.{effected, reply_of, MaySettle, Settles, Leads, WritesBlocks, image_after, blocks_written, keeps_of, Images}
use Rattle.pool.specs.Images.{IsImageOf, is_synced, keeps_after}
use Rattle.image.specs.Writes.{writes_in, MayWrite}
use Rattle.pool.specs.Kinds.{kind_of, other_kind}
use Rattle.pool.specs.Pools.{world_in, IsSound}
use Rattle.pool.specs.declared.effect.Effect.{Effect}
use Rattle.pool.specs.declared.effect.Effect.TheVariants.{Nothing, Guids, Blocks, Taken, Synced, Abandoned, Closed}
use Rattle.image.specs.declared.writes.Writes.{Writes}
use Rattle.image.specs.declared.writes.Writes.TheVariants.{Idle, OnPath, Each}
use Rattle.pool.specs.declared.kind.Kind.{Kind}
use Rattle.pool.specs.declared.kind.Kind.TheVariants.{Question, View, Change, Asking}
use Rattle.pool.specs.declared.worlds.World.{World}
use Rattle.pool.proofs.Kept.{kept_long, kept_just}

-- ---- what may be written

each_open : (kept : List BlockState) (bs : List (BlockNo × List ℕ)) → AreAllOpen kept bs → All (λ b. length b.1 ≡ 512) bs → AreOpen kept (map written_pair bs)
each_open kept [] a l = tt
each_open kept (b ∷ bs) a l = ((a 0 b (omega arith), l 0 b (omega arith)), each_open kept bs (λ i d h. a (suc i) d (omega (arith, h))) (λ i d h. l (suc i) d (omega (arith, h))))

pub may_open : (kept : List BlockState) (image : List ℕ) (writes : Writes) → length image ≡ 512 * length kept → MayWrite kept writes → AreOpen kept (writes_in (block_at image) writes)
may_open kept image Idle size may = tt
may_open kept image (OnPath p bytes) size may = path_open image bytes kept p.value.leaf (block_on p.value.before) (block_on p.value.after) size may.2 may.0 6 (omega arith)
may_open kept image (Each blocks) size may = each_open kept blocks.items may.0 may.1

length-images_put : (kept : List BlockState) (image : List ℕ) (ws : List (ℕ × List ℕ)) → length image ≡ 512 * length kept → AreOpen kept ws → length (images_put image ws) ≡ 512 * length kept
length-images_put kept image [] size allowed = size
length-images_put kept image (w ∷ ws) size allowed =
    let there = allowed.0.0.within in
    let whole = allowed.0.1 in
    length-images_put kept (bytes_put image (512 * w.0) w.1) ws (length-bytes_put image w.1 (512 * w.0) (omega (arith, there, whole, size)) ∙ size) allowed.1

-- each number has 512 bytes
size_kept : (s : State) (i : ShownImage) → IsImageOf s i → length i.bytes ≡ 512 * length i.kept
size_kept s i is = is.size ∙ ap (λ n. 512 * n) (sym is.count)

-- ---- the image after it

module _ (s : State) (numbers : List BlockState) (sound : IsSound s numbers) (w : World) where
  -- a step that writes no block
  idle : (t : State) → (q : Request) (r : Reply) → Step s q r t → (changes_maps q ≡ true → ⊥) → (bytes : List ℕ) → IsStored s (block_at bytes) → IsStored t (block_at bytes)
  idle t q r step none bytes stored = stored_stay s t sound.steady.good (block_at bytes) (step_maps q r s t (false_from_ne_true (changes_maps q) none) step) stored

  pub images : (e : Effect) → Settles s numbers w e → (q : Request) → Step s q (reply_of e) (effected (with_now s (world_in w)) e) → (changes_maps q ≡ true → WritesBlocks e) → Images s w e
  images (Blocks changed writes) settles q step blocks i is =
      let t = with_now s (world_in w) in
      let size = size_kept s i is in
      let may = may_open i.kept i.bytes writes size (subst (λ k. MayWrite k writes) (sym is.kept) settles.may.1) in
      record {
        count = is.count;
        size = length-images_put i.kept i.bytes (writes_in (block_at i.bytes) writes) size may ∙ ap (λ n. 512 * n) is.count;
        kept = is.kept;
        stored = bytes_stored (maps_of_both t.now s.last) i.kept i.bytes (writes_in (block_at i.bytes) writes) size may
            (λ p. subst (λ n. IsTree n (maps_of_both t.now s.last p)) (sym is.count) (trees p)) (settles.leads.stored (block_at i.bytes) is.stored);
      }
    where
      trees : (p : Place) → IsTree s.size (maps_of_both (world_in w) s.last p)
      trees (InNow d) = settles.sound.steady.good.now.trees d
      trees (InLast d) = settles.sound.steady.good.last.trees d
  images Nothing settles q step blocks i is = record { count = is.count; size = is.size; kept = is.kept; stored = idle (with_now s (world_in w)) q _ step blocks i.bytes is.stored }
  images (Guids next) settles q step blocks i is = record { count = is.count; size = is.size; kept = is.kept; stored = idle (effected (with_now s (world_in w)) (Guids next)) q _ step blocks i.bytes is.stored }
  images (Taken taken) settles q step blocks i is = record { count = is.count; size = is.size; kept = is.kept; stored = idle (with_now s (world_in w)) q _ step blocks i.bytes is.stored }
  images (Synced last viewed) settles q step blocks i is = record {
    count = kept_long (effected (with_now s (world_in w)) (Synced last viewed)) settles.sound.steady.good;
    size = is.size;
    kept = refl;
    stored = idle (effected (with_now s (world_in w)) (Synced last viewed)) q _ step blocks i.bytes is.stored;
  }
  images Abandoned settles q step blocks i is = record { count = is.count; size = is.size; kept = is.kept; stored = idle (with_now s (world_in w)) q _ step blocks i.bytes is.stored }
  images (Closed number) settles q step blocks i is = record { count = is.count; size = is.size; kept = is.kept; stored = idle (effected (with_now s (world_in w)) (Closed number)) q _ step blocks i.bytes is.stored }

-- ---- what is written

-- it is allowed
are_allowed : (s : State) (numbers : List BlockState) (i : ShownImage) → IsImageOf s i → (e : Effect) → MaySettle s.last s.size numbers e → AreOpen i.kept (blocks_written i.bytes e)
are_allowed s numbers i is (Blocks changed writes) may = may_open i.kept i.bytes writes (size_kept s i is) (subst (λ k. MayWrite k writes) (sym is.kept) may.1)
are_allowed s numbers i is Nothing may = tt
are_allowed s numbers i is (Guids next) may = tt
are_allowed s numbers i is (Taken taken) may = tt
are_allowed s numbers i is (Synced last viewed) may = tt
are_allowed s numbers i is Abandoned may = tt
are_allowed s numbers i is (Closed number) may = tt

-- it is what is made
are_made : (s t : State) (bytes : List ℕ) (e : Effect) → Leads s t e → AreMade s t (blocks_written bytes e)
are_made s t bytes (Blocks changed writes) leads = leads.made (block_at bytes)
are_made s t bytes Nothing leads = none_made s t
are_made s t bytes (Guids next) leads = none_made s t
are_made s t bytes (Taken taken) leads = none_made s t
are_made s t bytes (Synced last viewed) leads = none_made s t
are_made s t bytes Abandoned leads = none_made s t
are_made s t bytes (Closed number) leads = none_made s t

-- and nothing else is
are_put : (size : ℕ) (i : ShownImage) (e : Effect) → (image_after size i e).bytes ≡ images_put i.bytes (blocks_written i.bytes e)
are_put size i (Blocks changed writes) = refl
are_put size i Nothing = refl
are_put size i (Guids next) = refl
are_put size i (Taken taken) = refl
are_put size i (Synced last viewed) = refl
are_put size i Abandoned = refl
are_put size i (Closed number) = refl

module _ (s : State) (numbers : List BlockState) (sound : IsSound s numbers) (low : s.now.group < 2 ^ 64) (i : ShownImage) (is : IsImageOf s i) where
  all_writes : (t : State) (new : ShownImage) (ws : List (ℕ × List ℕ)) → AreOpen i.kept ws → AreMade s t ws → new.bytes ≡ images_put i.bytes ws → AreStepWrites s t ws i new
  all_writes t new ws allowed made put =
      let small = sound.small in
      are_step_writes s t sound.steady.good (omega (arith, small)) low i new ws is.stored
      (subst (KeepsJust (reach_of s.last)) (sym is.kept) (kept_just s sound.steady.good)) is.count (size_kept s i is) allowed made put

  -- what a step writes
  pub effect_writes : (w : World) (e : Effect) → Settles s numbers w e → AreStepWrites s (effected (with_now s (world_in w)) e) (blocks_written i.bytes e) i (image_after s.size i e)
  effect_writes w e settles =
      let t = effected (with_now s (world_in w)) e in
      all_writes t (image_after s.size i e) (blocks_written i.bytes e) (are_allowed s numbers i is e settles.may) (are_made s t i.bytes e settles.leads) (are_put s.size i e)

  -- nothing
  pub no_writes : (t : State) → AreStepWrites s t [] i i
  no_writes t = all_writes t i [] tt (none_made s t) refl

  pub unwritten : (q : Request) (r : Reply) (t : State) → StepWrites s q r t i i
  unwritten q r t = record { writes = []; are = no_writes t; none = λ _. refl }

-- a request that is done and whose reply writes nothing only reads
pub only_reading : (q : Request) (e : Effect) → writes_nothing q (reply_of e) ≡ true → kind_of q ≡ Question
only_reading q Nothing none = ap (λ b. if b then Question else other_kind q) none
only_reading q (Guids next) none = ap (λ b. if b then Question else other_kind q) none
only_reading q (Blocks changed writes) none = ap (λ b. if b then Question else other_kind q) none
only_reading q (Taken taken) none = ap (λ b. if b then Question else other_kind q) none
only_reading q (Synced last viewed) none = ap (λ b. if b then Question else other_kind q) none
only_reading q Abandoned none = ap (λ b. if b then Question else other_kind q) none
only_reading q (Closed number) none = ap (λ b. if b then Question else other_kind q) none

-- ---- how often states were put in

pub keeps_are : (size : ℕ) (i : ShownImage) (e : Effect) → (image_after size i e).keeps ≡ keeps_of i.keeps e
keeps_are size i (Blocks changed writes) = refl
keeps_are size i Nothing = refl
keeps_are size i (Guids next) = refl
keeps_are size i (Taken taken) = refl
keeps_are size i (Synced last viewed) = refl
keeps_are size i Abandoned = refl
keeps_are size i (Closed number) = refl

is_change : (k : Kind) → ¬ (k ≡ Question) → ¬ (k ≡ View) → (k ≡ Change) ⊎ (k ≡ Asking)
is_change Question a b = absurd (a refl)
is_change View a b = absurd (b refl)
is_change Change a b = inl refl
is_change Asking a b = inr refl

-- only a sync replies with a group
grouped : (q : Request) (reading : Option Sending) (s : State) → (kind_of q ≡ Change) ⊎ (kind_of q ≡ Asking) → (g : ℕ) → Group g ≡ (rule_of q reading).reply s → is_synced (Group g) q ≡ true
grouped ToSync reading s kind g e = refl
grouped request reading s (inl k) g e = absurd cc
grouped request reading s (inr k) g e = absurd cc

synced_by : (s t : State) (q : Request) (g : ℕ) → ¬ (kind_of q ≡ Question) → ¬ (kind_of q ≡ View) → Step s q (Group g) t → is_synced (Group g) q ≡ true
synced_by s t q g a b step = by_rule step.follows
  where
    by_rule : Follows s (rule_of q step.reading) (Group g) t → is_synced (Group g) q ≡ true
    by_rule (done h) = grouped q step.reading s (is_change (kind_of q) a b) g h.reply_is
    by_rule (refused h) = let e = h.reply_is in absurd cc
    by_rule (out_of_memory h) = let e = h.reply_is in absurd cc

pub keeps_so : (s t : State) (q : Request) (e : Effect) → ¬ (kind_of q ≡ Question) → ¬ (kind_of q ≡ View) → Step s q (reply_of e) t → (n : ℕ) → keeps_of n e ≡ keeps_after q (reply_of e) n
keeps_so s t q (Synced last viewed) a b step n = ap (λ x. if x then counted n 1 else n) (sym (synced_by s t q last.value.table.group a b step))
keeps_so s t q (Blocks changed writes) a b step n = refl
keeps_so s t q Nothing a b step n = refl
keeps_so s t q (Guids next) a b step n = refl
keeps_so s t q (Taken taken) a b step n = refl
keeps_so s t q Abandoned a b step n = refl
keeps_so s t q (Closed number) a b step n = refl

-- a request that only reads, or opens a view, puts in none
no_group : (q : Request) → (kind_of q ≡ Question) ⊎ (kind_of q ≡ View) → (g : ℕ) → is_synced (Group g) q ≡ false
no_group ToSync (inl k) g = absurd cc
no_group ToSync (inr k) g = absurd cc
no_group request k g = refl

unchanged : (q : Request) (r : Reply) (n : ℕ) → is_synced r q ≡ false → n ≡ keeps_after q r n
unchanged q r n e = ap (λ x. if x then counted n 1 else n) (sym e)

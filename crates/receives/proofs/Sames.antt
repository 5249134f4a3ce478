-- Updates that do what records do.
use Rattle.std.proofs.Common.{◌≡◌, ℕ, ◌≤◌, List, [], ◌∷◌, ◌||◌, map, refl, sym, ap, ◌∙◌, subst, arith}
use Rattle.std.specs.List.{All, list_any, filter_map}
use Rattle.std.specs.FinMap.{from_entries}
use Rattle.std.proofs.lemmas.List.Elements.{All-head, All-tail}
use Rattle.base.specs.Key.{covers}
use Rattle.batch.specs.declared.update.Update.{Update}
use Rattle.batch.specs.declared.update.Update.TheVariants.{Write, Punch}
use Rattle.batch.specs.Updates.{IsBatchFrom, IsBatch, IsOfTree, first_of, past_of, punches, written, changes_of}
use Rattle.stream.specs.declared.record.Record.{Record}
use Rattle.stream.specs.Records.{start_of, end_of, written_leaves, is_freed, changes_of as changes_of_records}
use Rattle.stream.specs.Spelling.{IsRecord, AreApartFrom}
use Rattle.receives.specs.Updates.{record_of}

-- a record ends where its update does
same_end : (u : Update) → end_of (record_of u) ≡ past_of u
same_end (Write leaf bytes) = refl
same_end (Punch key) = Prim.omega arith

same_start : (u : Update) → start_of (record_of u) ≡ first_of u
same_start (Write leaf bytes) = refl
same_start (Punch key) = refl

of_tree : (u : Update) → IsRecord (record_of u) → IsOfTree u
of_tree (Write leaf bytes) h = h.0
of_tree (Punch key) h = h

batch_from : (low : ℕ) (us : List Update) → All IsRecord (map record_of us) → AreApartFrom low (map record_of us) → IsBatchFrom low us
batch_from low [] each apart = tt
batch_from low (u ∷ us) each apart = (
  subst (λ n. low ≤ n) (same_start u) apart.0,
  of_tree u (All-head IsRecord (record_of u) (map record_of us) each),
  batch_from (past_of u) us (All-tail IsRecord (record_of u) (map record_of us) each) (subst (λ n. AreApartFrom n (map record_of us)) (same_end u) apart.1),
)

-- the updates that say these records are a batch
pub batch_of : (us : List Update) (rs : List Record) → map record_of us ≡ rs → All IsRecord rs → AreApartFrom 0 rs → IsBatch us
batch_of us rs e each apart = batch_from 0 us (subst (λ l. All IsRecord l) (sym e) each) (subst (λ l. AreApartFrom 0 l) (sym e) apart)

same_writes : (us : List Update) → filter_map written us ≡ written_leaves (map record_of us)
same_writes [] = refl
same_writes (Write leaf bytes ∷ us) = ap (λ l. (leaf, bytes.now) ∷ l) (same_writes us)
same_writes (Punch key ∷ us) = same_writes us

same_frees : (us : List Update) (leaf : ℕ) → list_any (λ u. punches u leaf) us ≡ is_freed (map record_of us) leaf
same_frees [] leaf = refl
same_frees (Write n bytes ∷ us) leaf = same_frees us leaf
same_frees (Punch key ∷ us) leaf = ap (λ b. covers key leaf || b) (same_frees us leaf)

-- they are the same change
pub changes_are : (us : List Update) (rs : List Record) → map record_of us ≡ rs → changes_of us ≡ changes_of_records rs
unfolding changes_of
changes_are us rs e =
    let same : changes_of us ≡ changes_of_records (map record_of us) = λ i. record { writes = from_entries (same_writes us i); punches = λ leaf. same_frees us leaf i } in
    same ∙ ap changes_of_records e

-- What open views keep as one is opened or closed.
use Rattle.std.proofs.Common.{◌≡◌, ℕ, ◌+◌, ◌<◌, ◌≤◌, false, leb, map, sym, ap, ◌∙◌, arith, vec_len}
use Rattle.std.specs.Prelude.{nat_lt, ◌||◌}
use Rattle.std.proofs.lemmas.Bool.{le-leb, lt-ltb, le-ltb, ltb-false, or_parts}
use Rattle.std.proofs.lemmas.List.{length-map}
use Rattle.std.specs.FinMap.{len}
use Rattle.model.specs.Targets.{number_limit}
use Rattle.model.specs.requests.OpenView.{view_limit}
use Rattle.snap.specs.declared.list.Views.TheInside.{Inside}
use Rattle.snap.specs.Entries.{entry_of}
use Rattle.snap.specs.Sound.{IsSound}
use Rattle.snap.specs.Viewing.{Viewing, is_full}
use Rattle.snap.proofs.Numbered.{views_of, len_is}

-- there are as many as the map has
pub count_is : (v : Inside) → IsSound v → vec_len v.open ≡ len (views_of (map entry_of v.open.items))
count_is v sound = v.open.ok.0 ∙ sym (length-map v.open.items entry_of) ∙ sym (len_is _ sound.sorted)

-- ---- whether no view can be opened

pub full_by_count : (v : Viewing) (n : ℕ) → n ≡ len v.opened → 1024 ≤ n → leb 1024 n ≡ is_full v
full_by_count v n is le = le-leb 1024 n le ∙ sym (ap (λ b. b || nat_lt number_limit v.next) (lt-ltb view_limit (len v.opened + 1) (omega arith)))

pub full_by_number : (v : Viewing) (n : ℕ) → n ≡ len v.opened → n < 1024 → nat_lt number_limit v.next ≡ is_full v
full_by_number v n is lt = sym (ap (λ b. b || nat_lt number_limit v.next) (le-ltb view_limit (len v.opened + 1) (omega arith)))

pub has_place : (v : Viewing) → is_full v ≡ false → len v.opened < view_limit
has_place v h = let a = ltb-false view_limit (len v.opened + 1) (or_parts _ _ h).0 in omega arith

pub has_number : (v : Viewing) → is_full v ≡ false → v.next ≤ number_limit
has_number v h = ltb-false number_limit v.next (or_parts _ _ h).1

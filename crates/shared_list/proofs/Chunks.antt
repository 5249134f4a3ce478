-- The elements of chunks around one of them.
use Rattle.std.proofs.Common.{◌≡◌, ℕ, zero, suc, ◌+◌, ◌-◌, ◌<◌, ◌≤◌, List, [], ◌∷◌, ◌++◌, length, take, drop, remove, get_or, set, slice_get, Some, refl, ap, sym, ◌∙◌, arith, append_assoc, add-one}
use Rattle.std.proofs.lemmas.List.{take-map, drop-map, map-append, take_rest, length-map, set_split, drop_more, take-append-drop, take-append-le, drop-append-le, drop_all, drop_at, append-nil, length-append, length-take-le, length-drop, get_or_default, map-set, take_at, set-append_left, set-append_right}
use Rattle.std.specs.Prelude.{insert}
use Rattle.std.proofs.lemmas.List.Concat.{flat_map-append}
use Rattle.std.proofs.lemmas.List.Edits.{remove-append_left, remove-append_right, insert_end, insert-append_left, insert-append_right}
use Rattle.std.proofs.Math.Seq.{take-append-add, drop-append-add}
use Rattle.std.specs.Global.{Global}
use Rattle.std.specs.declared.sync.Arc.{Arc}
use Rattle.std.specs.List.{flat_map}
use Rattle.shared_list.specs.Elements.{values}

-- parts of a mapped list
pub ruleset mapped = (take-map, drop-map, map-append, take_rest, length-map)

-- the elements of the front and the rest
pub joined : {A X : Type 0} (f : A → List X) (xs ys : List A) → flat_map f (xs ++ ys) ≡ flat_map f xs ++ flat_map f ys
joined f xs ys = flat_map-append (λ a. (f a)) xs ys

-- the elements are those before a chunk, its own, and those after it
pub whole : {A X : Type 0} (f : A → List X) (xs : List A) (k : ℕ) (a : A) → k < length xs → a ≡ get_or xs k a → flat_map f xs ≡ flat_map f (take k xs) ++ ((f a) ++ flat_map f (drop (suc k) xs))
whole f xs k a h e =
    let more : drop k xs ≡ get_or xs k a ∷ drop (suc k) xs = rw (← add-one) (drop_more xs k a h) in
    let d : drop k xs ≡ a ∷ drop (suc k) xs = more ∙ ap (λ b. b ∷ drop (suc k) xs) (sym e) in
    ap (flat_map f) (sym (take-append-drop k xs)) ∙ joined f (take k xs) (drop k xs) ∙ ap (λ ys. flat_map f (take k xs) ++ flat_map f ys) d

-- the same where another stands in its place
pub replaced : {A X : Type 0} (f : A → List X) (xs : List A) (k : ℕ) (b : A) → k < length xs → flat_map f (set xs k b) ≡ flat_map f (take k xs) ++ ((f b) ++ flat_map f (drop (suc k) xs))
replaced f xs k b h = ap (flat_map f) (set_split xs k b h) ∙ joined f (take k xs) (b ∷ drop (suc k) xs)

-- an element of the middle part of a list
get_right : {X : Type 0} (low ys : List X) (i j : ℕ) → i ≡ length low + j → slice_get (low ++ ys) i ≡ slice_get ys j
get_right [] ys i j e = let same : i ≡ j = omega arith in ap (slice_get ys) same
get_right (x ∷ low) ys zero j e = absurd (omega arith)
get_right (x ∷ low) ys (suc i) j e = get_right low ys i j (omega arith)

get_left : {X : Type 0} (mid high : List X) (j : ℕ) → j < length mid → slice_get (mid ++ high) j ≡ slice_get mid j
get_left [] high j h = absurd (omega arith)
get_left (x ∷ mid) high zero h = refl
get_left (x ∷ mid) high (suc j) h = get_left mid high j (omega arith)

-- what is before it, and from it on
pub taken : {X : Type 0} (all low mid high : List X) (i j : ℕ) → all ≡ low ++ (mid ++ high) → i ≡ length low + j → j < length mid → take i all ≡ low ++ take j mid
taken all low mid high i j e at h =
    let n : j ≤ length mid = omega arith in
    rw (e, at) (take-append-add low (mid ++ high) j ∙ ap (λ ys. low ++ ys) (take-append-le j mid high n))

pub dropped : {X : Type 0} (all low mid high : List X) (i j : ℕ) → all ≡ low ++ (mid ++ high) → i ≡ length low + j → j < length mid → drop i all ≡ drop j mid ++ high
dropped all low mid high i j e at h =
    let n : j ≤ length mid = omega arith in
    rw (e, at) (drop-append-add low (mid ++ high) j ∙ drop-append-le j mid high n)

-- the list without it
pub gone : {X : Type 0} (all low mid high : List X) (i j : ℕ) → all ≡ low ++ (mid ++ high) → i ≡ length low + j → j < length mid → remove all i ≡ low ++ (remove mid j ++ high)
gone all low mid high i j e at h =
    let same : i - length low ≡ j = omega arith in
    rw e (remove-append_right low (mid ++ high) (length low) i refl (omega arith) ∙ rw same (ap (λ ys. low ++ ys) (remove-append_left mid high j h)))

-- nothing is left of a list of one
pub gone_one : {X : Type 0} (mid : List X) (j : ℕ) → length mid ≡ 1 → j < length mid → remove mid j ≡ []
gone_one (x ∷ []) zero n h = refl
gone_one (x ∷ []) (suc j) n h = absurd (omega arith)
gone_one (x ∷ (y ∷ mid)) j n h = absurd (omega arith)
gone_one [] j n h = absurd (omega arith)

-- more elements in the last chunk
pub added : {A X : Type 0} (f : A → List X) (xs : List A) (k : ℕ) (a b : A) (ys : List X) → k + 1 ≡ length xs → a ≡ get_or xs k a → (f b) ≡ (f a) ++ ys → flat_map f (set xs k b) ≡ flat_map f xs ++ ys
added f xs k a b ys n e v =
    let none : drop (suc k) xs ≡ [] = drop_all (suc k) xs (omega arith) in
    let r = replaced f xs k b (omega arith) in
    let w = whole f xs k a (omega arith) e in
    let empty : flat_map f (drop (suc k) xs) ≡ [] = ap (flat_map f) none in
    let r' : flat_map f (set xs k b) ≡ flat_map f (take k xs) ++ ((f b) ++ []) = rw empty at r in
    let w' : flat_map f xs ≡ flat_map f (take k xs) ++ ((f a) ++ []) = rw empty at w in
    rw (r', w', v) (simp (append-nil, append_assoc))

-- one chunk in the place of two
met_next : {A X : Type 0} (f : A → List X) (xs : List A) (j : ℕ) (a b w : A) → suc j < length xs → a ≡ get_or xs j a → b ≡ get_or xs (suc j) b → (f w) ≡ (f a) ++ (f b) → flat_map f (remove (set xs j w) (suc j)) ≡ flat_map f xs
met_next f [] j a b w h ea eb v = absurd (omega arith)
met_next f (x ∷ []) j a b w h ea eb v = absurd (omega arith)
met_next f (x ∷ (y ∷ xs)) zero a b w h ea eb v =
    let s = append_assoc (f a) (f b) (flat_map f xs) in
    ap (λ ys. ys ++ flat_map f xs) v ∙ s ∙ ap (λ c. (f c) ++ ((f b) ++ flat_map f xs)) ea ∙ ap (λ c. (f x) ++ ((f c) ++ flat_map f xs)) eb
met_next f (x ∷ (y ∷ xs)) (suc j) a b w h ea eb v = ap (λ ys. (f x) ++ ys) (met_next f (y ∷ xs) j a b w (omega arith) ea eb v)

pub met : {A X : Type 0} (f : A → List X) (xs : List A) (j k : ℕ) (a b w : A) → k ≡ suc j → k < length xs → a ≡ get_or xs j a → b ≡ get_or xs k b → (f w) ≡ (f a) ++ (f b) → flat_map f (remove (set xs j w) k) ≡ flat_map f xs
met f xs j k a b w e h ea eb v =
    let eb' : b ≡ get_or xs (suc j) b = rw e at eb in
    rw e (met_next f xs j a b w (omega arith) ea eb' v)

-- the elements from a chunk on
pub cut_between : {A X : Type 0} (f : A → List X) (xs : List A) (k i : ℕ) → i ≡ length (flat_map f (take k xs)) → drop i (flat_map f xs) ≡ flat_map f (drop k xs)
cut_between f xs k i e =
    let parts : flat_map f xs ≡ flat_map f (take k xs) ++ flat_map f (drop k xs) = ap (flat_map f) (sym (take-append-drop k xs)) ∙ joined f (take k xs) (drop k xs) in
    rw parts (drop_at (flat_map f (take k xs)) (flat_map f (drop k xs)) i (sym e))

-- a chunk behind others
pub ended : {A X : Type 0} (f : A → List X) (xs : List A) (b : A) → flat_map f (xs ++ b ∷ []) ≡ flat_map f xs ++ (f b)
ended f xs b = joined f xs (b ∷ []) ∙ ap (λ ys. flat_map f xs ++ ys) (append-nil (f b))

-- another first chunk from a chunk on
pub begun : {A X : Type 0} (f : A → List X) (xs : List A) (k : ℕ) (b : A) → k < length xs → flat_map f (set (drop k xs) 0 b) ≡ (f b) ++ flat_map f (drop (suc k) xs)
begun f [] k b h = absurd (omega arith)
begun f (x ∷ xs) zero b h = refl
begun f (x ∷ xs) (suc k) b h = begun f xs k b (omega arith)

-- what items with one more own
pub inserted : {X : Type 0} (xs : List (Arc X Global)) (i : ℕ) (x : Arc X Global) → values (insert xs i x) ≡ insert (values xs) i x.value
inserted xs i x = simp (map-append, take-map, drop-map)

-- items that were put together from those before a place, one more, and the others
pub put_together : {X : Type 0} (xs a b d : List (Arc X Global)) (i : ℕ) (x : Arc X Global) → values a ≡ values (take i xs) → b ≡ a ++ x ∷ [] → values d ≡ values b ++ values (drop i xs) → values d ≡ insert (values xs) i x.value
put_together xs a b d i x front one rest =
    let more : values b ≡ values a ++ x.value ∷ [] = ap values one ∙ map-append (λ c. c.value) a (x ∷ []) in
    rw (rest, more, front) (simp (append_assoc, take-map, drop-map))

-- one more element at the end of the last chunk
pub added_one : {A X : Type 0} (f : A → List X) (xs : List A) (k n : ℕ) (a b : A) (y : X) → k + 1 ≡ length xs → a ≡ get_or xs k a → n ≡ length (f a) → (f b) ≡ insert (f a) n y → flat_map f (set xs k b) ≡ flat_map f xs ++ y ∷ []
added_one f xs k n a b y last read m put =
    added f xs k a b (y ∷ []) last read (put ∙ ap (λ i. insert (f a) i y) m ∙ insert_end (f a) y)

-- other elements of the same values
pub kept : {A X : Type 0} (f : A → List X) (xs : List A) (k : ℕ) (a b : A) → k < length xs → a ≡ get_or xs k a → (f b) ≡ (f a) → flat_map f (set xs k b) ≡ flat_map f xs
kept f xs k a b h read same = replaced f xs k b h ∙ ap (λ v. flat_map f (take k xs) ++ (v ++ flat_map f (drop (suc k) xs))) same ∙ sym (whole f xs k a h read)

-- two reads of one chunk
pub read_same : {X : Type 0} (xs : List X) (k : ℕ) (a b : X) → k < length xs → a ≡ get_or xs k a → b ≡ get_or xs k b → a ≡ b
read_same xs k a b h e f = e ∙ get_or_default xs k a b h ∙ sym f

-- one more element in the middle part of a list
pub inserted_between : {X : Type 0} (all low mid high : List X) (i : ℕ) (y : X) → all ≡ low ++ (mid ++ high) → i ≤ length mid → insert all (length low + i) y ≡ low ++ (insert mid i y ++ high)
inserted_between all low mid high i y e h =
    let beyond : length low ≤ length low + i = omega arith in
    let rest : length low + i - length low ≡ i = omega arith in
    rw e (insert-append_right low (mid ++ high) (length low) (length low + i) y refl beyond ∙ ap (λ j. low ++ insert (mid ++ high) j y) rest ∙ ap (λ ys. low ++ ys) (insert-append_left mid high i y h))

-- one more element in a chunk
pub put_within : {A X : Type 0} (f : A → List X) (xs : List A) (k i : ℕ) (a b : A) (y : X) → k < length xs → a ≡ get_or xs k a → i ≤ length (f a) → (f b) ≡ insert (f a) i y → flat_map f (set xs k b) ≡ insert (flat_map f xs) (length (flat_map f (take k xs)) + i) y
put_within f xs k i a b y h read within put =
    replaced f xs k b h
    ∙ ap (λ v. flat_map f (take k xs) ++ (v ++ flat_map f (drop (suc k) xs))) put
    ∙ sym (inserted_between (flat_map f xs) (flat_map f (take k xs)) (f a) (flat_map f (drop (suc k) xs)) i y (whole f xs k a h read) within)

-- two chunks in the place of one
two_for_one : {A X : Type 0} (f : A → List X) (xs : List A) (k : ℕ) (low high : A) → k < length xs → flat_map f (set (insert xs (suc k) high) k low) ≡ flat_map f (take k xs) ++ ((f low ++ f high) ++ flat_map f (drop (suc k) xs))
two_for_one f [] k low high h = absurd (omega arith)
two_for_one f (x ∷ xs) zero low high h = sym (append_assoc (f low) (f high) (flat_map f xs))
two_for_one f (x ∷ xs) (suc k) low high h =
    ap (λ ys. (f x) ++ ys) (two_for_one f xs k low high (omega arith))
    ∙ sym (append_assoc (f x) (flat_map f (take k xs)) ((f low ++ f high) ++ flat_map f (drop (suc k) xs)))

pub split_within : {A X : Type 0} (f : A → List X) (xs : List A) (k n i : ℕ) (a low high : A) (y : X) → n ≡ suc k → k < length xs → a ≡ get_or xs k a → i ≤ length (f a) → f low ++ f high ≡ insert (f a) i y → flat_map f (set (insert xs n high) k low) ≡ insert (flat_map f xs) (length (flat_map f (take k xs)) + i) y
split_within f xs k n i a low high y next h read within put =
    ap (λ m. flat_map f (set (insert xs m high) k low)) next
    ∙ two_for_one f xs k low high h
    ∙ ap (λ v. flat_map f (take k xs) ++ (v ++ flat_map f (drop (suc k) xs))) put
    ∙ sym (inserted_between (flat_map f xs) (flat_map f (take k xs)) (f a) (flat_map f (drop (suc k) xs)) i y (whole f xs k a h read) within)

-- one more element in either part of a list
module _ {X : Type 0} (s low high : List X) (n i : ℕ) (y : X) (front : low ≡ take n s) (back : high ≡ drop n s) (within : n ≤ length s) where
  pub low_long : length low ≡ n
  low_long = ap length front ∙ length-take-le n s within

  pub high_long : length high + n ≡ length s
  high_long = omega (arith, ap length back, length-drop n s)

  both : low ++ high ≡ s
  both = rw (front, back) (take-append-drop n s)

  pub put_low : (new : List X) → i ≤ n → new ≡ insert low i y → new ++ high ≡ insert s i y
  put_low new h put =
      let le : i ≤ length low = omega (arith, low_long) in
      ap (λ v. v ++ high) put ∙ sym (insert-append_left low high i y le) ∙ ap (λ v. insert v i y) both

  pub put_high : (new : List X) → n ≤ i → new ≡ insert high (i - n) y → low ++ new ≡ insert s i y
  put_high new h put = ap (λ v. low ++ v) put ∙ sym (insert-append_right low high n i y low_long h) ∙ ap (λ v. insert v i y) both

-- another element in the middle part of a list
pub set_between : {X : Type 0} (all low mid high : List X) (i : ℕ) (y : X) → all ≡ low ++ (mid ++ high) → i < length mid → set all (length low + i) y ≡ low ++ (set mid i y ++ high)
set_between all low mid high i y e h =
    let beyond : length low ≤ length low + i = omega arith in
    let rest : length low + i - length low ≡ i = omega arith in
    rw e (set-append_right low (mid ++ high) (length low) (length low + i) y refl beyond ∙ ap (λ j. low ++ set (mid ++ high) j y) rest ∙ ap (λ ys. low ++ ys) (set-append_left mid high i y h))

-- another element in a chunk
pub set_within : {A X : Type 0} (f : A → List X) (xs : List A) (k i : ℕ) (a b : A) (y : X) → k < length xs → a ≡ get_or xs k a → i < length (f a) → (f b) ≡ set (f a) i y → flat_map f (set xs k b) ≡ set (flat_map f xs) (length (flat_map f (take k xs)) + i) y
set_within f xs k i a b y h read within put =
    replaced f xs k b h
    ∙ ap (λ v. flat_map f (take k xs) ++ (v ++ flat_map f (drop (suc k) xs))) put
    ∙ sym (set_between (flat_map f xs) (flat_map f (take k xs)) (f a) (flat_map f (drop (suc k) xs)) i y (whole f xs k a h read) within)

-- a chunk without one of its elements
pub gone_within : {A X : Type 0} (f : A → List X) (xs : List A) (k i : ℕ) (a b : A) → k < length xs → a ≡ get_or xs k a → i < length (f a) → (f b) ≡ remove (f a) i → flat_map f (set xs k b) ≡ remove (flat_map f xs) (length (flat_map f (take k xs)) + i)
gone_within f xs k i a b h read within rest =
    replaced f xs k b h
    ∙ ap (λ v. flat_map f (take k xs) ++ (v ++ flat_map f (drop (suc k) xs))) rest
    ∙ sym (gone (flat_map f xs) (flat_map f (take k xs)) (f a) (flat_map f (drop (suc k) xs)) (length (flat_map f (take k xs)) + i) i (whole f xs k a h read) refl within)

-- without a chunk of one
pub gone_whole : {A X : Type 0} (f : A → List X) (xs : List A) (k i : ℕ) (a : A) → k < length xs → a ≡ get_or xs k a → i < length (f a) → length (f a) ≡ 1 → flat_map f (remove xs k) ≡ remove (flat_map f xs) (length (flat_map f (take k xs)) + i)
gone_whole f xs k i a h read within one =
    joined f (take k xs) (drop (suc k) xs)
    ∙ ap (λ v. flat_map f (take k xs) ++ (v ++ flat_map f (drop (suc k) xs))) (sym (gone_one (f a) i one within))
    ∙ sym (gone (flat_map f xs) (flat_map f (take k xs)) (f a) (flat_map f (drop (suc k) xs)) (length (flat_map f (take k xs)) + i) i (whole f xs k a h read) refl within)

-- the element at a place
pub at_within : {A X : Type 0} (f : A → List X) (xs : List A) (k i : ℕ) (a : A) → k < length xs → a ≡ get_or xs k a → i < length (f a) → slice_get (flat_map f xs) (length (flat_map f (take k xs)) + i) ≡ slice_get (f a) i
at_within f xs k i a h read within =
    let low = flat_map f (take k xs) in
    let high = flat_map f (drop (suc k) xs) in
    ap (λ ys. slice_get ys (length low + i)) (whole f xs k a h read) ∙ get_right low (f a ++ high) (length low + i) i refl ∙ get_left (f a) high i within

pub got_within : {A X : Type 0} (f : A → List X) (xs : List A) (k i : ℕ) (a : A) (y : X) → k < length xs → a ≡ get_or xs k a → i < length (f a) → slice_get (f a) i ≡ Some y → slice_get (flat_map f xs) (length (flat_map f (take k xs)) + i) ≡ Some y
got_within f xs k i a y h read within is = at_within f xs k i a h read within ∙ is

-- what items own, by index
pub set_values : {X : Type 0} (xs : List (Arc X Global)) (i : ℕ) (x : Arc X Global) → values (set xs i x) ≡ set (values xs) i x.value
set_values xs i x = map-set (λ a. a.value) xs i x

pub removed_values : {X : Type 0} (xs : List (Arc X Global)) (i : ℕ) → values (remove xs i) ≡ remove (values xs) i
removed_values xs i = simp (map-append, take-map, drop-map)

pub got_value : {X : Type 0} (xs : List (Arc X Global)) (i : ℕ) (a : Arc X Global) → i < length xs → a ≡ get_or xs i a → slice_get (values xs) i ≡ Some a.value
got_value [] i a h e = absurd (omega arith)
got_value (x ∷ xs) zero a h e = ap (λ (b : Arc _ Global). Some b.value) (sym e)
got_value (x ∷ xs) (suc i) a h e = got_value xs i a (omega arith) e

-- the elements before a chunk
pub taken_between : {A X : Type 0} (f : A → List X) (xs : List A) (k i : ℕ) → i ≡ length (flat_map f (take k xs)) → take i (flat_map f xs) ≡ flat_map f (take k xs)
taken_between f xs k i e =
    let parts : flat_map f xs ≡ flat_map f (take k xs) ++ flat_map f (drop k xs) = ap (flat_map f) (sym (take-append-drop k xs)) ∙ joined f (take k xs) (drop k xs) in
    rw parts (take_at (flat_map f (take k xs)) (flat_map f (drop k xs)) i (sym e))

-- a list is what the removal of its last element leaves, and that
pub popped : {X : Type 0} (all : List X) (i : ℕ) (y : X) → length all ≡ i + 1 → slice_get all i ≡ Some y → all ≡ remove all i ++ y ∷ []
popped [] i y n e = absurd (omega arith)
popped (x ∷ []) zero y n e = let same : x ≡ y = cc in ap (λ z. z ∷ []) same
popped (x ∷ (z ∷ zs)) zero y n e = absurd (omega arith)
popped (x ∷ xs) (suc i) y n e = ap (λ ys. x ∷ ys) (popped xs i y (omega arith) e)

-- another owner of the same value
pub kept_values : {X : Type 0} (xs : List (Arc X Global)) (i : ℕ) (a b : Arc X Global) → i < length xs → a ≡ get_or xs i a → b.value ≡ a.value → values (set xs i b) ≡ values xs
kept_values [] i a b h read same = absurd (omega arith)
kept_values (x ∷ xs) zero a b h read same = ap (λ v. v ∷ values xs) (same ∙ ap (λ c. c.value) read)
kept_values (x ∷ xs) (suc i) a b h read same = ap (λ vs. x.value ∷ vs) (kept_values xs i a b (omega arith) read same)

-- there is an element at each index below the length
pub is_there : {X : Type 0} (xs : List X) (i : ℕ) → i < length xs → (x : X) × (slice_get xs i ≡ Some x)
is_there [] i h = absurd (omega arith)
is_there (x ∷ xs) zero h = (x, refl)
is_there (x ∷ xs) (suc i) h = is_there xs i (omega arith)

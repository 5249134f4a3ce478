-- Lemmas on names with a file system's name in front.
use Rattle.std.proofs.Common.{◌≡◌, ◌≤◌, ℕ, ◌+◌, ◌-◌, ◌&&◌, ◌||◌, not, nat_lt, Bool, true, false, cond, eqb, List, [], ◌∷◌, ◌++◌, Option, None, Some, length, take, drop, take_all, get_or, refl, sym, ap, subst, ◌∙◌, ◌⊎◌, inl, inr, arith, length-append, append-nil}
use Rattle.std.proofs.Math.Seq.{take-append_seam, drop-append-add, get_or-append_seam}
use Rattle.std.proofs.lemmas.Bool.{lt-ltb, le-ltb, false≢true, eqb-true}
use Rattle.std.proofs.lemmas.Option.{none-some}
use Rattle.std.proofs.lemmas.Slice.Eq.{bytes_eq-Decides}
use Rattle.std.specs.Bool.{OnTrue}
use Rattle.std.specs.List.{list_all, slice_split, onto_first, position, prefix_len}
use Rattle.std.specs.Option.{option_map}
use Rattle.std.specs.Str.{bytes_eq}
use Rattle.std.specs.Prelude.{codes}
use Rattle.base.specs.declared.refusal.Refusal.{Refusal}
use Rattle.base.specs.declared.refusal.Refusal.TheVariants.{BadName, NoMemory}
use Rattle.base.specs.declared.name.member.Member.{Member}
use Rattle.base.specs.declared.name.target.Target.{Target}
use Rattle.base.specs.declared.name.target.Target.TheVariants.{FileSystem, Snapshot, Bookmark}
use Rattle.base.specs.Names.{is_name_byte, is_component, is_name, is_mark, is_member, member_at, name_limit, whole_length}
use Rattle.base.specs.Reading.{name_of, component_of, target_of, target_at, snap_in, snap_of}
use Rattle.base.proofs.Marks.{target_marked, marked_if}
use Rattle.model.specs.declared.request.Request.TheVariants.{WrittenSince, WouldFree}
use Rattle.script.specs.Spare.{marked_target}
use Rattle.script.specs.Words.{file_system_of, within, word_within, snap_within}
use Rattle.script.specs.Meaning.{Asks, Faulty, shaped, named, three_of, since_word_of, would_free_of}

-- ---- a file system's name has no mark

both : (a b : Bool) → (a && b) ≡ true → (a ≡ true) × (b ≡ true)
both true b e = (refl, e)
both false b e = absurd (false≢true e)

-- the bytes of a component
component_bytes : (bs : List ℕ) → is_component bs ≡ true → list_all is_name_byte bs ≡ true
component_bytes bs h = at (eqb (length bs) 0) (bytes_eq bs (codes ".")) (bytes_eq bs (codes "..")) h
  where
    at : (empty dot dots : Bool) → cond empty false (cond dot false (cond dots false (list_all is_name_byte bs))) ≡ true → list_all is_name_byte bs ≡ true
    at true dot dots e = absurd (false≢true e)
    at false true dots e = absurd (false≢true e)
    at false false true e = absurd (false≢true e)
    at false false false e = e

components_bytes : (parts : List (List ℕ)) → list_all is_component parts ≡ true → list_all (list_all is_name_byte) parts ≡ true
components_bytes [] h = refl
components_bytes (part ∷ parts) h =
    let s = both (is_component part) (list_all is_component parts) h in
    ap (λ b. b && list_all (list_all is_name_byte) parts) (component_bytes part s.0) ∙ components_bytes parts s.1

-- the first part has one byte more
first_byte : (b : ℕ) (parts : List (List ℕ)) → list_all (list_all is_name_byte) (onto_first b parts) ≡ true → (is_name_byte b ≡ true) × (list_all (list_all is_name_byte) parts ≡ true)
first_byte b [] h = ((both (is_name_byte b) true (both (is_name_byte b && true) true h).0).0, refl)
first_byte b (part ∷ parts) h =
    let s = both (is_name_byte b && list_all is_name_byte part) (list_all (list_all is_name_byte) parts) h in
    let t = both (is_name_byte b) (list_all is_name_byte part) s.0 in
    (t.0, ap (λ c. c && list_all (list_all is_name_byte) parts) t.1 ∙ s.1)

-- a byte of a name is no mark
unmarked : (b : ℕ) → is_name_byte b ≡ true → is_mark b ≡ false
unmarked b h = at (eqb b 64) (eqb b 35) refl refl
  where
    at : (a c : Bool) → eqb b 64 ≡ a → eqb b 35 ≡ c → (a || c) ≡ false
    at true c e f = absurd (false≢true (sym (ap is_name_byte (eqb-true b 64 e)) ∙ h))
    at false true e f = absurd (false≢true (sym (ap is_name_byte (eqb-true b 35 f)) ∙ h))
    at false false e f = refl

name_bytes : (fs : List ℕ) → is_name fs ≡ true → list_all (list_all is_name_byte) (slice_split (λ b. eqb b 47) fs) ≡ true
name_bytes fs h = at (nat_lt name_limit (length fs)) h
  where
    at : (long : Bool) → cond long false (list_all is_component (slice_split (λ b. eqb b 47) fs)) ≡ true → list_all (list_all is_name_byte) (slice_split (λ b. eqb b 47) fs) ≡ true
    at true e = absurd (false≢true e)
    at false e = components_bytes (slice_split (λ b. eqb b 47) fs) e

-- bytes of which the first is a mark, or none
module _ (tail : List ℕ) where
  -- how far the bytes before the first mark go, with one byte more
  one_more : (b : ℕ) (fs : List ℕ) (slash : Bool) → (list_all (list_all is_name_byte) (slice_split (λ x. eqb x 47) fs) ≡ true → prefix_len (λ x. not (is_mark x)) (fs ++ tail) ≡ length fs)
      → eqb b 47 ≡ slash → list_all (list_all is_name_byte) (cond slash ([] ∷ slice_split (λ x. eqb x 47) fs) (onto_first b (slice_split (λ x. eqb x 47) fs))) ≡ true
      → prefix_len (λ x. not (is_mark x)) (b ∷ fs ++ tail) ≡ length (b ∷ fs)
  one_more b fs true rest e h =
      ap (λ m. cond (not m) (1 + prefix_len (λ x. not (is_mark x)) (fs ++ tail)) 0) (ap is_mark (eqb-true b 47 e))
      ∙ omega (arith, rest h)
  one_more b fs false rest e h =
      let s = first_byte b (slice_split (λ x. eqb x 47) fs) h in
      ap (λ m. cond (not m) (1 + prefix_len (λ x. not (is_mark x)) (fs ++ tail)) 0) (unmarked b s.0)
      ∙ omega (arith, rest s.1)

  before_mark : prefix_len (λ b. not (is_mark b)) tail ≡ 0 → (fs : List ℕ) → list_all (list_all is_name_byte) (slice_split (λ b. eqb b 47) fs) ≡ true
      → prefix_len (λ b. not (is_mark b)) (fs ++ tail) ≡ length fs
  before_mark none [] h = none
  before_mark none (b ∷ fs) h = one_more b fs (eqb b 47) (before_mark none fs) refl h

mark_after : (mark : ℕ) (fs after : List ℕ) → is_mark mark ≡ true → is_name fs ≡ true → position is_mark (fs ++ mark ∷ after) ≡ Some (length fs)
mark_after mark fs after is h =
    let none = ap (λ m. cond (not m) (1 + prefix_len (λ b. not (is_mark b)) after) 0) is in
    let n = before_mark (mark ∷ after) none fs (name_bytes fs h) in
    ap (λ k. cond (nat_lt k (length (fs ++ mark ∷ after))) (Some k) None) n
    ∙ ap (λ b. cond b (Some (length fs)) None) (lt-ltb (length fs) (length (fs ++ mark ∷ after)) (omega (arith, length-append fs (mark ∷ after))))

no_mark : (fs : List ℕ) → is_name fs ≡ true → position is_mark fs ≡ None
no_mark fs h =
    let n = ap (prefix_len (λ b. not (is_mark b))) (sym (append-nil fs)) ∙ before_mark [] refl fs (name_bytes fs h) in
    ap (λ k. cond (nat_lt k (length fs)) (Some k) None) n ∙ ap (λ b. cond b (Some (length fs)) None) (le-ltb (length fs) (length fs) (omega arith))

-- ---- the whole name of a snapshot

member_of : (fs word : List ℕ) → member_at (fs ++ 64 ∷ word) (length fs) ≡ within fs word
member_of fs word = ap (λ front. within front (drop (length fs + 1) (fs ++ 64 ∷ word))) (take-append_seam fs (64 ∷ word)) ∙ ap (within fs) (drop-append-add fs (64 ∷ word) 1)

-- by its length, and whether its parts are allowed
whole_if : (fs word : List ℕ) (long good : Bool)
    → snap_in (cond (cond long false good) (Some (Snapshot (within fs word))) None) ≡ option_map (within fs) (cond long None (cond good (Some word) None))
whole_if fs word true good = refl
whole_if fs word false true = refl
whole_if fs word false false = refl

pub snap_of-whole : (fs word : List ℕ) → is_name fs ≡ true → snap_of (fs ++ 64 ∷ word) ≡ snap_within fs word
unfolding snap_of target_of word_within component_of
snap_of-whole fs word h =
    let bs = fs ++ 64 ∷ word in
    let n : length bs ≡ whole_length (within fs word) = omega (arith, length-append fs (64 ∷ word)) in
    let mark : eqb (get_or bs (length fs) 0) 64 ≡ true = ap (λ b. eqb b 64) (get_or-append_seam fs 64 word 0) in
    ap (λ o. snap_in (target_at bs o)) (mark_after 64 fs word refl h)
    ∙ ap (λ m. snap_in (cond (is_member bs m) (cond (eqb (get_or bs (length fs) 0) 64) (Some (Snapshot m)) (Some (Bookmark m))) None)) (member_of fs word)
    ∙ ap (λ b. snap_in (cond (is_member bs (within fs word)) (cond b (Some (Snapshot (within fs word))) (Some (Bookmark (within fs word)))) None)) mark
    ∙ ap (λ b. snap_in (cond (cond (nat_lt name_limit (length bs)) false (cond b (is_component word) false)) (Some (Snapshot (within fs word))) None)) h
    ∙ ap (λ k. snap_in (cond (cond (nat_lt name_limit k) false (is_component word)) (Some (Snapshot (within fs word))) None)) n
    ∙ whole_if fs word (nat_lt name_limit (whole_length (within fs word))) (is_component word)

-- ---- a target's file system

member_name : (bs : List ℕ) (m : Member) → is_member bs m ≡ true → is_name m.file_system ≡ true
member_name bs m h = at (nat_lt name_limit (length bs)) (is_name m.file_system) refl h
  where
    at : (long good : Bool) → is_name m.file_system ≡ good → cond long false (cond good (is_component m.component) false) ≡ true → is_name m.file_system ≡ true
    at true good e k = absurd (false≢true k)
    at false true e k = e
    at false false e k = absurd (false≢true k)

some_same : {A : Type 0} {x y : A} → (let o : Option A = Some x in o) ≡ Some y → x ≡ y
some_same e = cc

said : (b : Bool) (o : Option Target) (t : Target) → (b ≡ true → o ≡ Some t → is_name (file_system_of t) ≡ true) → cond b o None ≡ Some t → is_name (file_system_of t) ≡ true
said true o t h e = h refl e
said false o t h e = absurd (none-some t e)

marked : (at : Bool) (m : Member) (t : Target) → is_name m.file_system ≡ true → cond at (Some (Snapshot m)) (Some (Bookmark m)) ≡ Some t → is_name (file_system_of t) ≡ true
marked true m t h e = ap (λ u. is_name (file_system_of u)) (sym (some_same e)) ∙ h
marked false m t h e = ap (λ u. is_name (file_system_of u)) (sym (some_same e)) ∙ h

-- what was read has a file system's name
target_name : (bs : List ℕ) (t : Target) → target_of bs ≡ Some t → is_name (file_system_of t) ≡ true
unfolding target_of
target_name bs t e = at (position is_mark bs) e
  where
    at : (o : Option ℕ) → target_at bs o ≡ Some t → is_name (file_system_of t) ≡ true
    at None e = said (is_name bs) (Some (FileSystem bs)) t (λ h f. ap (λ u. is_name (file_system_of u)) (sym (some_same f)) ∙ h) e
    at (Some n) e =
        let m = member_at bs n in
        said (is_member bs m) (cond (eqb (get_or bs n 0) 64) (Some (Snapshot m)) (Some (Bookmark m))) t
        (λ h f. marked (eqb (get_or bs n 0) 64) m t (member_name bs m h) f) e

-- ---- a word that is a target's name

-- what was read was allowed
allowed : (bs : List ℕ) → name_of bs ≡ Some bs → is_name bs ≡ true
unfolding name_of
allowed bs e = at (is_name bs) e
  where
    at : (b : Bool) → cond b (Some bs) None ≡ Some bs → b ≡ true
    at true e = refl
    at false e = cc

-- the parts of a name with this mark between them
joined_read : (mark : ℕ) (m : Member) → is_mark mark ≡ true → whole_length m ≤ name_limit → name_of m.file_system ≡ Some m.file_system → component_of m.component ≡ Some m.component
    → target_of (m.file_system ++ mark ∷ m.component) ≡ Some (marked_target mark m)
joined_read mark m is short name component =
    let bs = m.file_system ++ mark ∷ m.component in
    let n = length m.file_system in
    let long : length bs ≡ whole_length m = omega (arith, length-append m.file_system (mark ∷ m.component)) in
    let front : take n bs ≡ m.file_system = take-append_seam m.file_system (mark ∷ m.component) in
    let back : drop (n + 1) bs ≡ m.component = drop-append-add m.file_system (mark ∷ m.component) 1 in
    let whole : take (length bs - (n + 1)) (drop (n + 1) bs) ≡ m.component = take_all (length bs - (n + 1)) (drop (n + 1) bs) (omega (arith, long, ap length back)) ∙ back in
    target_marked bs n m.file_system m.component (mark_after mark m.file_system m.component is (allowed m.file_system name)) (omega (arith, long, short))
    (ap name_of front ∙ name) (ap component_of whole ∙ component)
    ∙ ap (marked_if m.file_system m.component) (ap (λ b. eqb b 64) (get_or-append_seam m.file_system mark m.component 0))
    ∙ by (eqb mark 64)
  where
    by : (at : Bool) → marked_if m.file_system m.component at ≡ Some (cond at (Snapshot m) (Bookmark m))
    by true = refl
    by false = refl

and_assoc : (a b c : Bool) → (a && (b && c)) ≡ ((a && b) && c)
and_assoc true b c = refl
and_assoc false b c = refl

-- a word has two parts where it begins with the one and goes on with the other
pub eq_joined : (fs word rest : List ℕ) → bytes_eq word (fs ++ rest) ≡ (bytes_eq (take (length fs) word) fs && bytes_eq (drop (length fs) word) rest)
eq_joined [] word rest = refl
eq_joined (b ∷ fs) [] rest = refl
eq_joined (b ∷ fs) (w ∷ ws) rest =
    ap (λ c. eqb w b && c) (eq_joined fs ws rest) ∙ and_assoc (eqb w b) (bytes_eq (take (length fs) ws) fs) (bytes_eq (drop (length fs) ws) rest)

-- where it begins with the front, by the byte behind it and by what is left
pub eq_after : (word front rest back : List ℕ) (mark : ℕ) → bytes_eq (take (length front) word) front ≡ true → rest ≡ drop (length front) word → 1 ≤ length rest
    → bytes_eq word (front ++ mark ∷ back) ≡ (eqb (get_or rest 0 0) mark && bytes_eq (drop 1 rest) back)
eq_after word front rest back mark front_is rest_is long =
    eq_joined front word (mark ∷ back) ∙ ap (λ b. b && bytes_eq (drop (length front) word) (mark ∷ back)) front_is ∙ ap (λ l. bytes_eq l (mark ∷ back)) (sym rest_is)
    ∙ by rest long
  where
    by : (rest : List ℕ) → 1 ≤ length rest → bytes_eq rest (mark ∷ back) ≡ (eqb (get_or rest 0 0) mark && bytes_eq (drop 1 rest) back)
    by [] long = absurd (omega (arith, long))
    by (b ∷ rest) long = refl

-- a word that is these bytes is read as they are
reads_same : (b : Bool) (word text : List ℕ) (t : Target) → b ≡ bytes_eq word text → target_of text ≡ Some t → OnTrue b (target_of word ≡ Some t)
reads_same true word text t same read = ap target_of ((bytes_eq-Decides word text).0 (sym same)) ∙ read
reads_same false word text t same read = tt

pub reads_member : (b : Bool) (word : List ℕ) (mark : ℕ) (m : Member) (front back : List ℕ) → b ≡ bytes_eq word (front ++ mark ∷ back) → is_mark mark ≡ true → whole_length m ≤ name_limit
    → front ≡ m.file_system → back ≡ m.component → name_of front ≡ Some front → component_of back ≡ Some back → OnTrue b (target_of word ≡ Some (marked_target mark m))
reads_member b word mark m front back same is short front_is back_is name component =
    reads_same b word (m.file_system ++ mark ∷ m.component) (marked_target mark m) (same ∙ ap (λ f. bytes_eq word (f ++ mark ∷ back)) front_is ∙ ap (λ l. bytes_eq word (m.file_system ++ mark ∷ l)) back_is)
    (joined_read mark m is short (subst (λ f. name_of f ≡ Some f) front_is name) (subst (λ l. component_of l ≡ Some l) back_is component))

name_read : (name : List ℕ) → name_of name ≡ Some name → target_of name ≡ Some (FileSystem name)
unfolding target_of
name_read name read = ap (target_at name) (no_mark name (allowed name read)) ∙ ap (λ b. cond b (Some (FileSystem name)) None) (allowed name read)

pub reads_name : (b : Bool) (word text name : List ℕ) → b ≡ bytes_eq word text → text ≡ name → name_of text ≡ Some text → OnTrue b (target_of word ≡ Some (FileSystem name))
reads_name b word text name same is read = reads_same b word text (FileSystem name) same (name_read text read ∙ ap (λ n. Some (FileSystem n)) is)

-- ---- what was written since a snapshot of the target's file system

since_read : (word whose : List ℕ) (target : Target) → target_of whose ≡ Some target
    → since_word_of word whose ≡ named (snap_of (file_system_of target ++ 64 ∷ word)) (λ since. Asks (WrittenSince target since))
unfolding since_word_of
since_read word whose target e =
    ap (λ o. named o (λ t. named (snap_within (file_system_of t) word) (λ since. Asks (WrittenSince t since)))) e
    ∙ ap (λ o. named o (λ since. Asks (WrittenSince target since))) (sym (snap_of-whole (file_system_of target) word (target_name whose target e)))

-- the whole name was read
pub since_asked : (word whose fs : List ℕ) (target : Target) (since : Member) → target_of whose ≡ Some target → fs ≡ file_system_of target → snap_of (fs ++ 64 ∷ word) ≡ Some since
    → since_word_of word whose ≡ Asks (WrittenSince target since)
since_asked word whose fs target since read is e =
    since_read word whose target read ∙ ap (λ o. named o (λ m. Asks (WrittenSince target m))) (ap (λ l. snap_of (l ++ 64 ∷ word)) (sym is) ∙ e)

-- the whole name is none, or there was no memory for it
pub since_refused : (word whose fs : List ℕ) (target : Target) (e : Refusal) → target_of whose ≡ Some target → fs ≡ file_system_of target
    → (e ≡ NoMemory) ⊎ ((e ≡ BadName) × (snap_of (fs ++ 64 ∷ word) ≡ None)) → (e ≡ NoMemory) ⊎ (since_word_of word whose ≡ Faulty e)
since_refused word whose fs target e read is (inl lacks) = inl lacks
since_refused word whose fs target e read is (inr (bad, none)) =
    inr (since_read word whose target read ∙ ap (λ o. named o (λ m. Asks (WrittenSince target m))) (ap (λ l. snap_of (l ++ 64 ∷ word)) (sym is) ∙ none) ∙ ap Faulty (sym bad))

-- ---- what would be freed with snapshots of a file system

-- each name was read
pub would_free_asked : (words : List (List ℕ)) (w : List ℕ × List ℕ × List ℕ) (name first last : List ℕ) → three_of words ≡ Some w → name_of w.0 ≡ Some name
    → word_within name w.1 ≡ Some first → word_within name w.2 ≡ Some last → would_free_of words ≡ Asks (WouldFree name first last)
unfolding would_free_of
would_free_asked words w name first last three read one other =
    ap (λ o. shaped o (λ v. named (name_of v.0) (λ n. named (word_within n v.1) (λ f. named (word_within n v.2) (λ l. Asks (WouldFree n f l)))))) three
    ∙ ap (λ o. named o (λ n. named (word_within n w.1) (λ f. named (word_within n w.2) (λ l. Asks (WouldFree n f l))))) read
    ∙ ap (λ o. named o (λ f. named (word_within name w.2) (λ l. Asks (WouldFree name f l)))) one
    ∙ ap (λ o. named o (λ l. Asks (WouldFree name first l))) other

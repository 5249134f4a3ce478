-- A set of numbers, as bits of words under two levels that say which words have one.
use Rattle.std.specs.Prelude.{◌≡◌, ◌≢◌, ℕ, ◌+◌, ◌/◌, ◌%◌, ◌<◌, ◌≤◌, ◌==◌, not, Bool, true, false, List, slice_index_or, vec_capacity}
use Rattle.zalloc.specs.declared.TheConstants.{MOST_BLOCKS}
use Rattle.zalloc.specs.declared.set.TheConstants.{WINDOW}
use Rattle.zalloc.specs.declared.set.NumberSet.{NumberSet}
use Rattle.zalloc.specs.Bits.{is_one, IsEven}

-- a word of a level, of which those that aren't there yet are all the same
abbrev pub word_at : ℕ → List ℕ → ℕ → ℕ
word_at fill words i = slice_index_or words i fill

-- a bit of a level
abbrev pub bit_in : ℕ → List ℕ → ℕ → Bool
bit_in fill words k = is_one (word_at fill words (k / WINDOW)) (k % WINDOW)

-- a word has a bit that is one
abbrev pub has_one : ℕ → Bool
has_one word = not (word == 0)

-- the bits of the upper level say which words of the lower one have a one [profile]
abbrev pub Tells : ℕ → List ℕ → List ℕ → Type 0
Tells fill upper lower = (w : ℕ) → bit_in fill upper w ≡ has_one (word_at fill lower w)

-- each level tells of the one below, and has room for the bit of each of its words [profile]
pub record IsKept (s : NumberSet) : Type 0 where
  pub few : s.numbers ≤ MOST_BLOCKS
  pub fill : IsEven s.fill
  pub groups : Tells s.fill s.groups.items s.words.items
  pub tops : Tells s.fill s.tops.items s.groups.items
  pub words_room : vec_capacity s.words ≡ s.numbers / WINDOW + 1
  pub groups_room : vec_capacity s.groups ≡ s.numbers / WINDOW / WINDOW + 1
  pub tops_room : vec_capacity s.tops ≡ s.numbers / WINDOW / WINDOW / WINDOW + 1

-- whether a number is in the set
abbrev pub is_held : NumberSet → ℕ → Bool
is_held s k = bit_in s.fill s.words.items k

-- a window's numbers have the bits of a word, and the others are as before
pub record IsWritten (window word : ℕ) (old new : NumberSet) : Type 0 where
  pub numbers : new.numbers ≡ old.numbers
  pub here : (k : ℕ) → k / WINDOW ≡ window → is_held new k ≡ is_one word (k % WINDOW)
  pub there : (k : ℕ) → k / WINDOW ≢ window → is_held new k ≡ is_held old k

-- the same numbers
pub record AreSame (old new : NumberSet) : Type 0 where
  pub numbers : new.numbers ≡ old.numbers
  pub held : (k : ℕ) → k < old.numbers → is_held new k ≡ is_held old k

-- a number is in the set, or isn't, and the others are as before
pub record IsPut (number : ℕ) (held : Bool) (old new : NumberSet) : Type 0 where
  pub numbers : new.numbers ≡ old.numbers
  pub here : is_held new number ≡ held
  pub there : (k : ℕ) → k ≢ number → is_held new k ≡ is_held old k

-- the first bit of a level that is one, from one on
pub record IsFirst (fill : ℕ) (words : List ℕ) (start k : ℕ) : Type 0 where
  pub from : start ≤ k
  pub one : bit_in fill words k ≡ true
  pub below : (i : ℕ) → start ≤ i → i < k → bit_in fill words i ≡ false

-- a level has no bit that is one, from one on
abbrev pub HasNone : ℕ → List ℕ → ℕ → Type 0
HasNone fill words start = (i : ℕ) → start ≤ i → bit_in fill words i ≡ false

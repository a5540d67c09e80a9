-- Where the sections of a design file lie, and when its layout is refused.
use Rattle.std.specs.Prelude.{ℕ, zero, suc, ◌+◌, ◌*◌, ◌/◌, ◌%◌, min, Bool, cond, not, ◌&&◌, ◌||◌, List, [], ◌∷◌, length, map, drop, Some, None, Ok, Err, Option, Result, ◌==◌, nat_lt, slice_index_or}
use Rattle.refusal.specs.declared.Section.{Section}
use Rattle.refusal.specs.declared.Section.TheVariants.{Tables, Variables, Blocks, Commands, Expressions}
use Rattle.refusal.specs.declared.Refusal.{Refusal}
use Rattle.refusal.specs.declared.Refusal.TheVariants.{TooShort, UnknownEdition, BrokenLayout, OverLimit}
use Rattle.refusal.specs.Notice.{section_number}
use Rattle.records.specs.Bytes.{field_of}
use Rattle.records.specs.declared.layout.Extent.{Extent}
use Rattle.records.specs.declared.layout.Layout.{Layout}

-- ---- the sections

abbrev pub section_count : ℕ
section_count = 5

-- the edition, and a pair of fields for each section
abbrev pub head_length : ℕ
head_length = 4 + 8 * section_count

-- by section: the size of a record in bytes, and the most records
abbrev pub sections : List (ℕ × ℕ)
sections = (64, 16) ∷ (12, 128) ∷ (8, 32) ∷ (16, 512) ∷ (16, 1024) ∷ []

-- the section at a place in the file
abbrev pub section_at : ℕ → Section
section_at i = cond (i == 0) Tables (cond (i == 1) Variables (cond (i == 2) Blocks (cond (i == 3) Commands Expressions)))

-- the sections, in the file's order
abbrev pub all_sections : List Section
all_sections = Tables ∷ Variables ∷ Blocks ∷ Commands ∷ Expressions ∷ []

-- ---- the pairs of the head

abbrev pub size_at : ℕ → ℕ
size_at i = (slice_index_or sections i (0, 0)).0

abbrev pub limit_at : ℕ → ℕ
limit_at i = (slice_index_or sections i (0, 0)).1

abbrev pub offset_of : List ℕ → ℕ → ℕ
offset_of f i = field_of f (8 * i + 4)

abbrev pub length_of : List ℕ → ℕ → ℕ
length_of f i = field_of f (8 * i + 8)

-- section 0 begins behind the head, and each later one where the one before ends
abbrev pub start_of : List ℕ → ℕ → ℕ
start_of f zero = head_length
start_of f (suc i) = offset_of f i + length_of f i

-- pair i breaks the layout: a wrong beginning, no whole number of records, an end past the file's, or the last section's before it
abbrev pub breaks : List ℕ → ℕ → Bool
breaks f i =
    not (offset_of f i == start_of f i)
    || (not (length_of f i % size_at i == 0)
    || (nat_lt (length f) (offset_of f i + length_of f i)
    || (i + 1 == section_count && not (offset_of f i + length_of f i == length f))))

abbrev pub count_of : List ℕ → ℕ → ℕ
count_of f i = length_of f i / size_at i

-- section i has too many records
abbrev pub over : List ℕ → ℕ → Bool
over f i = nat_lt (limit_at i) (count_of f i)

-- ---- the first refusal

abbrev pub or_else : {A : Type 0} → Option A → Option A → Option A
or_else None o = o
or_else (Some x) o = Some x

-- the least number below n that passes the test
unfoldable pub earliest : (ℕ → Bool) → ℕ → Option ℕ
earliest p zero = None
earliest p (suc n) = or_else (earliest p n) (cond (p n) (Some n) None)

abbrev pub broken : Option ℕ → Result (Unit {0}) Refusal
broken None = Ok tt
broken (Some i) = Err (BrokenLayout (section_at i))

abbrev pub exceeded : Option ℕ → Result (Unit {0}) Refusal
exceeded None = Ok tt
exceeded (Some i) = Err (OverLimit (section_at i))

-- the second answer, unless the first is a refusal
abbrev pub after : {X : Type 0} → Result (Unit {0}) Refusal → Result X Refusal → Result X Refusal
after (Ok u) r = r
after (Err e) r = Err e

-- where section i begins, and how many records it has
abbrev pub extent_at : List ℕ → ℕ → Extent
extent_at f i = record { offset = offset_of f i; count = count_of f i }

abbrev pub extents_at : List ℕ → List Extent
extents_at f = map (λ s. extent_at f (section_number s)) all_sections

-- what finding a file's sections answers
abbrev pub layout_of : List ℕ → Result Layout Refusal
layout_of f =
    cond (nat_lt (length f) head_length) (Err TooShort)
    (cond (not (field_of f 0 == 1)) (Err UnknownEdition)
    (after (broken (earliest (breaks f) section_count))
    (after (exceeded (earliest (over f) section_count))
    (Ok (record { extents = extents_at f })))))

-- ---- sections by a layout

-- a design file: its bytes, and where its sections lie
pub record File : Type 0 where
  pub bytes : List ℕ
  pub layout : Layout

abbrev pub size_of : Section → ℕ
size_of s = size_at (section_number s)

abbrev pub limit_of : Section → ℕ
limit_of s = limit_at (section_number s)

abbrev pub extent_of : Layout → Section → Extent
extent_of l s = slice_index_or l.extents (section_number s) (record { offset = 0; count = 0 })

-- a section, with all that follows it
abbrev pub section_of : File → Section → List ℕ
section_of f s = drop (extent_of f.layout s).offset f.bytes

-- record n of a section, with all that follows it
abbrev pub record_of : File → Section → ℕ → List ℕ
record_of f s n = drop (size_of s * n) (section_of f s)

-- how many records a section has, its limit at most
abbrev pub count_in : File → Section → ℕ
count_in f s = min (extent_of f.layout s).count (limit_of s)
